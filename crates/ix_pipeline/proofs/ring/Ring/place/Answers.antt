use Rattle.std.proofs.Common.{rules, refl, ◌≡◌, ◌<◌, ◌≤◌, ◌+◌, ◌-◌, ℕ, List, length, ap, sym, ◌∙◌, arith, Option, Some, subst}
use Rattle.ix_pipeline.specs.Numbered.{Numbered, found, entries_of, IsFree, IsPlaced}
use Rattle.ix_pipeline.proofs.Slots.{entries_same, found_at, free_at, placed}
use Rattle.ix_pipeline.proofs.ring.Ring.place.Goals as goal

pub returns-then-is_taken-clause-refused : goal.returns-then-is_taken-clause-refused
returns-then-is_taken-clause-refused g c =
    let seq : c.from-seq.result ≡ c.args.seq = c.from-seq.ensures in
    let low : c.self.inside.next ≤ c.args.seq = (let a = c.if-seq-self.false in omega arith) in
    let high : c.args.seq < c.self.inside.next + 1048576 = (let a = c.if-seq-self-ge-REACH.false in omega arith) in
    let taken = c.if-is_taken.ensures in (
      refl,
      (
        refl,
        subst (λ (r : Numbered g.row.T.Denot). r.next ≤ c.args.seq) c.self.view_is low,
        subst (λ (r : Numbered g.row.T.Denot). c.args.seq < r.next + 1048576) c.self.view_is high,
        (taken.0, subst (λ (r : Numbered g.row.T.Denot). found r c.args.seq ≡ Some taken.0) c.self.view_is (found_at c.self.inside.next c.self.inside.window.items c.args.seq (c.from-seq.result - c.self.inside.next) low (ap (λ (n : ℕ). n - c.self.inside.next) seq) ∙ taken.1)),
      ),
    )

pub returns-then-is_err-clause-refused : goal.returns-then-is_err-clause-refused
returns-then-is_err-clause-refused g c =
    let seq : c.from-seq.result ≡ c.args.seq = c.from-seq.ensures in
    let low : c.self.inside.next ≤ c.args.seq = (let a = c.if-seq-self.false in omega arith) in
    let high : c.args.seq < c.self.inside.next + 1048576 = (let a = c.if-seq-self-ge-REACH.false in omega arith) in (
      ap (λ (es : List (ℕ × g.row.T.Denot)). let r : Numbered g.row.T.Denot = record { next = c.self.inside.next; entries = es } in r) (entries_same c.self.inside.next c.reach.new.window.items c.self.inside.window.items c.reach.ensures.slots) ∙ c.self.view_is,
      (refl, subst (λ (r : Numbered g.row.T.Denot). IsFree r c.args.seq) c.self.view_is (free_at c.self.inside.next c.self.inside.window.items c.args.seq (c.from-seq.result - c.self.inside.next) low high (ap (λ (n : ℕ). n - c.self.inside.next) seq) c.if-is_taken.ensures)),
    )

pub returns-clause-placed : goal.returns-clause-placed
returns-clause-placed g c =
    let seq : c.from-seq.result ≡ c.args.seq = c.from-seq.ensures in
    let low : c.self.inside.next ≤ c.args.seq = (let a = c.if-seq-self.false in omega arith) in
    let high : c.args.seq < c.self.inside.next + 1048576 = (let a = c.if-seq-self-ge-REACH.false in omega arith) in
    let at = c.from-seq.result - c.self.inside.next in
    let lt : at < length c.reach.new.window.items = search rules in
    let new = placed c.self.inside.next c.self.inside.window.items c.reach.new.window.items c.args.seq at c.args.item low high (ap (λ (n : ℕ). n - c.self.inside.next) seq) c.if-is_taken.ensures c.reach.ensures.slots lt in
    subst (λ (r : Numbered g.row.T.Denot). IsPlaced r c.args.seq c.args.item (record { next = c.self.inside.next; entries = entries_of c.self.inside.next c.fill.new.window.items })) c.self.view_is
    (subst (λ (l : List (Option g.row.T.Denot)). IsPlaced (record { next = c.self.inside.next; entries = entries_of c.self.inside.next c.self.inside.window.items }) c.args.seq c.args.item (record { next = c.self.inside.next; entries = entries_of c.self.inside.next l })) (sym c.fill.ensures) new)
