use Rattle.std.proofs.Common.{◌≡◌, ◌<◌, ◌≤◌, [], ◌∷◌, ◌++◌, length, length-append, true, false, refl, sym, ap, ◌∙◌, arith}
use Rattle.ix_jobs.specs.Jobs.{is_taken}
use mathlib.Core.Logic.{◌⊎◌, inl, inr}
use Rattle.ix_jobs.proofs.Named.{taken-by_name, names-push}
use Rattle.ix_jobs.proofs.PartLists.{joined-taken, joined-full, joined-free, window-grows, window-stays}
use Rattle.ix_jobs.proofs.part_list.PartList.add.Goals as goal
use Rattle.ix_jobs.proofs.part_list.PartList.add.Goals.{then-number-self-via-then-number-self, then-number-self-via-else-number-self+then-self-number}

pub returns-then-contains : goal.returns-then-contains
returns-then-contains c = λ start end before k.
    let name : c.name.result.now ≡ c.args.job.name = c.name.ensures in
    let taken : is_taken before c.args.job.name ≡ true =
    ap (is_taken before) (sym name) ∙ sym (taken-by_name c.args.self.now.names before before c.name.result.now c.contains.result k.named refl c.contains.ensures) ∙ c.if-contains.true in
    joined-taken 1000000 before c.args.job taken

pub returns-then-self-ge-MOST_JOBS_IN_PARTS : goal.returns-then-self-ge-MOST_JOBS_IN_PARTS
returns-then-self-ge-MOST_JOBS_IN_PARTS c = λ start end before k.
    let name : c.name.result.now ≡ c.args.job.name = c.name.ensures in
    let free : is_taken before c.args.job.name ≡ false =
    ap (is_taken before) (sym name) ∙ sym (taken-by_name c.args.self.now.names before before c.name.result.now c.contains.result k.named refl c.contains.ensures) ∙ c.if-contains.false in
    joined-full 1000000 before c.args.job free (omega (arith, c.if-self-ge-MOST_JOBS_IN_PARTS.true, k.counted))

pub returns-then-number-self : goal.returns-then-number-self
returns-then-number-self c = λ start end before k.
    let name : c.name.result.now ≡ c.args.job.name = c.name.ensures in
    let free : is_taken before c.args.job.name ≡ false =
    ap (is_taken before) (sym name) ∙ sym (taken-by_name c.args.self.now.names before before c.name.result.now c.contains.result k.named refl c.contains.ensures) ∙ c.if-contains.false in
    let counted : c.args.self.now.count ≡ length before = k.counted in
    let outside : (length before < start) ⊎ (end ≤ length before) =
    elim c.then-number-self.branch [
      | then-number-self-via-then-number-self w ↦ inl (omega (arith, w.if-number-self.true, counted, k.starts))
      | then-number-self-via-else-number-self+then-self-number w ↦ inr (omega (arith, w.if-self-number.true, counted, k.ends))
    ] in (
      before ++ c.args.job ∷ [],
      joined-free 1000000 before c.args.job free (omega (arith, c.if-self-ge-MOST_JOBS_IN_PARTS.false, counted)),
      record {
        named = names-push c.args.self.now.names c.insert.new.self before (before ++ c.args.job ∷ []) c.args.job c.in_ok-name.name k.named (c.in_ok-name.ensures.ok ∙ c.name-2.ensures) c.in_ok-insert.ensures.updates refl;
        counted = omega (arith, counted, length-append before (c.args.job ∷ []));
        starts = k.starts;
        ends = k.ends;
        kept = k.kept ∙ sym (window-stays before c.args.job start end outside);
      },
    )

pub returns : goal.returns
returns c = λ start end before k.
    let name : c.name.result.now ≡ c.args.job.name = c.name.ensures in
    let free : is_taken before c.args.job.name ≡ false =
    ap (is_taken before) (sym name) ∙ sym (taken-by_name c.args.self.now.names before before c.name.result.now c.contains.result k.named refl c.contains.ensures) ∙ c.if-contains.false in
    let counted : c.args.self.now.count ≡ length before = k.counted in (
      before ++ c.args.job ∷ [],
      joined-free 1000000 before c.args.job free (omega (arith, c.if-self-ge-MOST_JOBS_IN_PARTS.false, counted)),
      record {
        named = names-push c.args.self.now.names c.insert.new.self before (before ++ c.args.job ∷ []) c.args.job c.in_ok-name.name k.named (c.in_ok-name.ensures.ok ∙ c.name-2.ensures) c.in_ok-insert.ensures.updates refl;
        counted = omega (arith, counted, length-append before (c.args.job ∷ []));
        starts = k.starts;
        ends = k.ends;
        kept =
            c.in_ok-push.ensures.items ∙ ap (λ l. l ++ c.args.job ∷ []) k.kept
            ∙ sym (window-grows before c.args.job start end (omega (arith, c.if-number-self.false, counted, k.starts)) (omega (arith, c.if-self-number.false, counted, k.ends)));
      },
    )
