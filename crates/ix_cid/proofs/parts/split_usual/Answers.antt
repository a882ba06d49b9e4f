use Rattle.std.proofs.Common.{◌≡◌, ◌∙◌, ℕ, ◌-◌, refl, sym, ap, subst, arith, take, drop, length, length-take, length-drop, ◌≤◌, Ok, List}
use Rattle.std.proofs.lemmas.List.{take_all}
use Rattle.ix_cid.specs.Cid.{parts_at}
use Rattle.ix_cid.proofs.Usual.{usual, usual_cut}
use Rattle.ix_cid.proofs.parts.split_usual.Goals.{then-starts_with, else-starts_with+then-starts_with-2}
use Rattle.ix_cid.proofs.parts.split_usual.Goals as goal

pub returns : goal.returns
returns c =
    let bytes = c.args.bytes.now in
    let digest = c.split_at.result.0.now in
    let rest = c.split_at.result.1.now in
    let whole : take (length bytes - 4) (drop 4 bytes) ≡ drop 4 bytes = take_all (length bytes - 4) (drop 4 bytes) (omega (arith, length-drop 4 bytes)) in
    let long : 32 ≤ length (drop 4 bytes) = omega (arith, ap length whole, length-take (length bytes - 4) (drop 4 bytes), length-drop 4 bytes, c.if-behind-lt-SHA2_256_LENGTH.false) in
    let front : digest ≡ take 32 (drop 4 bytes) = c.split_at.ensures.front ∙ ap (λ (l : List ℕ). take 32 l) whole in
    let back : rest ≡ drop 32 (drop 4 bytes) = c.split_at.ensures.back ∙ ap (λ (l : List ℕ). drop 32 l) whole in
    record {
      exact = elim c.if-starts_with.branch [
        | then-starts_with w ↦ subst (λ (n : ℕ). parts_at bytes ≡ Ok (usual n digest, rest)) (sym w.codec-is) (usual_cut 0x71 bytes digest rest c.starts_with.result refl (omega arith) c.starts_with.ensures.value w.if-starts_with.true long front back)
        | else-starts_with+then-starts_with-2 w ↦ subst (λ (n : ℕ). parts_at bytes ≡ Ok (usual n digest, rest)) (sym w.codec-is) (usual_cut 0x55 bytes digest rest w.starts_with-else-starts_with.result refl (omega arith) w.starts_with-else-starts_with.ensures.value w.if-starts_with-2.true long front back)
      ];
    }
