use Rattle.std.proofs.Common.{◌≡◌, ◌∙◌, ap, sym, subst, true, false, cond, ℕ, List, take, [], ◌∷◌, ◌++◌, rules}
use Rattle.std.specs.Prelude.{not}
use Rattle.std.specs.Option.{is_some, IfSome}
use Rattle.ix_store.specs.Store.{Blocks, has_cid}
use Rattle.ix_store.specs.Index.{IsIndexed}
use Rattle.ix_store.proofs.Stores.{is_some-position, with-new, back}
use Rattle.ix_store.proofs.store.Store.add_copy.Goals as goal

pub returns-then-is_some : goal.returns-then-is_some
returns-then-is_some c =
    let held : has_cid c.args.self.now c.args.cid ≡ true = sym (is_some-position 0 c.args.self.now c.args.cid) ∙ ap is_some (sym c.find.ensures) ∙ sym c.is_some.ensures ∙ c.if-is_some.true in
    record {
      answer = sym (ap not held);
      added = sym (ap (λ v. cond v c.args.self.now (c.args.self.now ++ (c.args.cid, c.args.block.now) ∷ [])) held);
      err = search rules;
    }

pub returns-in-Ok : goal.returns-in-Ok
returns-in-Ok c =
    let pairs = c.self.inside.blocks.pairs in
    let bytes = c.as_bytes-bytes.result.now in
    let x : List ℕ × List ℕ = (bytes, c.args.block.now) in
    let new : has_cid c.args.self.now c.args.cid ≡ false = sym (is_some-position 0 c.args.self.now c.args.cid) ∙ ap is_some (sym c.find.ensures) ∙ sym c.is_some.ensures ∙ c.if-is_some.false in
    let front : c.first-before.result ≡ pairs = c.first-before.ensures ∙ ap (λ (l : Blocks). take c.len-count.result l) c.entries-2.ensures ∙ back pairs _ c.len-count.result x c.len-count.ensures c.in_ok-push_copy.ensures.pushed in
    let same : has_cid c.first-before.result bytes ≡ has_cid c.args.self.now c.args.cid = ap (λ (l : Blocks). has_cid l bytes) (front ∙ c.self.view_is) ∙ ap (has_cid c.args.self.now) c.as_bytes-bytes.ensures.bytes in
    record {
      answer = c.in-Ok.ensures.answer ∙ ap not same;
      added = with-new c.args.self.now c.push_copy.new.self.pairs (c.args.cid, c.args.block.now)
          (c.in_ok-push_copy.ensures.pushed ∙ ap (λ (l : Blocks). l ++ x ∷ []) c.self.view_is ∙ ap (λ (k : List ℕ). c.args.self.now ++ (k, c.args.block.now) ∷ []) c.as_bytes-bytes.ensures.bytes) new;
      err = tt;
    }

pub invariant_of-self-in-Ok : goal.invariant_of-self-in-Ok
invariant_of-self-in-Ok c =
    let pairs = c.self.inside.blocks.pairs in
    let bytes = c.as_bytes-bytes.result.now in
    let x : List ℕ × List ℕ = (bytes, c.args.block.now) in
    let pushed = c.in_ok-push_copy.ensures.pushed in
    let new : has_cid c.args.self.now c.args.cid ≡ false = sym (is_some-position 0 c.args.self.now c.args.cid) ∙ ap is_some (sym c.find.ensures) ∙ sym c.is_some.ensures ∙ c.if-is_some.false in
    let front : c.first-before.result ≡ pairs = c.first-before.ensures ∙ ap (λ (l : Blocks). take c.len-count.result l) c.entries-2.ensures ∙ back pairs _ c.len-count.result x c.len-count.ensures pushed in
    let same : has_cid c.first-before.result bytes ≡ has_cid c.args.self.now c.args.cid = ap (λ (l : Blocks). has_cid l bytes) (front ∙ c.self.view_is) ∙ ap (has_cid c.args.self.now) c.as_bytes-bytes.ensures.bytes in
    let added : c.in-Ok.added ≡ true = c.in-Ok.ensures.answer ∙ ap not (same ∙ new) in
    (subst (IsIndexed c.enter.new.self) (ap (λ (l : Blocks). l ++ x ∷ []) front ∙ sym pushed) (c.in-Ok.ensures.entered added c.args.block.now), tt)

pub invariant_of-self-in-Err : goal.invariant_of-self-in-Err
invariant_of-self-in-Err c =
    let pairs = c.self.inside.blocks.pairs in
    let x : List ℕ × List ℕ = (c.as_bytes-bytes.result.now, c.args.block.now) in
    let kept = back pairs _ c.len-count.result x c.len-count.ensures c.in_ok-push_copy.ensures.pushed in
    let front : c.first-before.result ≡ pairs = c.first-before.ensures ∙ ap (λ (l : Blocks). take c.len-count.result l) c.entries-2.ensures ∙ kept in
    let dropped : c.truncate.new.self.pairs ≡ pairs = ap (λ t. t.pairs) c.truncate.ensures ∙ kept in (
      subst (IsIndexed c.enter.new.self) (front ∙ sym dropped) c.in-Err.ensures.err,
      subst (λ (l : Blocks). IfSome c.self.inside.memo (λ m. m ≡ l)) (sym dropped) c.self.invariant.1,
    )
