-- Verdicts over sound blocks.
use Rattle.std.proofs.Common.{◌≡◌, ℕ, zero, suc, ◌<◌, Bool, true, false, List, [], ◌∷◌, length, get_or, refl, sym, ◌∙◌, ap, subst, arith}
use Rattle.std.specs.Prelude.{Option, Some, None, ◌||◌, if◌then◌else◌, bytes_eq}
use Rattle.std.proofs.lemmas.Slice.Eq.{bytes_eq-Decides}
use Rattle.ix_cid.specs.Cid.{parts_of, hash_function_of}
use Rattle.ix_cid.specs.declared.hash_function.HashFunction.{HashFunction}
use Rattle.ix_cid.specs.declared.hash_function.HashFunction.TheVariants.{Identity, Sha2_256, Sha2_512}
use Rattle.ix_verdict.specs.declared.verdict.Verdict.{Verdict}
use Rattle.ix_verdict.specs.declared.verdict.Verdict.TheVariants.{Codec, Hash, Missing, Damaged, Malformed, Sound, Inline}
use Rattle.ix_verdict.specs.Verdict.{has_codec, verdict_by, verdict_with, passes, is_sound}
use Rattle.ix_verdict.specs.declared.needed.Needed.TheVariants.{Nothing, Block}
use Rattle.ix_verdict.specs.Needed.{needed_by, needed_of}
use Rattle.ix_store.specs.Store.{Blocks, has_cid, block_of}
use Rattle.ix_check.specs.Verdict.{verdict_of}
use Rattle.ix_known.specs.Known.{AreSound}
use Rattle.ix_receive.specs.Roots.{RootsPass}
use Rattle.ix_known.proofs.Lists.{no-block}

-- the verdict on a CID whose block isn't there
pub verdict-missing : (sections : Blocks) (c : List ℕ) (h : HashFunction) → Block h ≡ needed_of (parts_of c) → has_cid sections c ≡ false → Missing ≡ verdict_of sections c
verdict-missing sections c h is out = by (has_codec c) (hash_function_of (parts_of c)) is ∙ ap (verdict_with c) (sym (no-block sections c out)) where
  by : (codec : Bool) (f : Option HashFunction) → Block h ≡ (if codec then needed_by f else Nothing Codec) → Missing ≡ (if codec then verdict_by f c None else Codec)
  by false f e = absurd (cc e)
  by true None e = absurd (cc e)
  by true (Some Identity) e = absurd (cc e)
  by true (Some Sha2_256) e = refl
  by true (Some Sha2_512) e = refl

sound-is : (v : Verdict) → is_sound v ≡ true → Sound ≡ v
sound-is Codec h = absurd (cc h)
sound-is Hash h = absurd (cc h)
sound-is Missing h = absurd (cc h)
sound-is Damaged h = absurd (cc h)
sound-is Malformed h = absurd (cc h)
sound-is Sound h = refl
sound-is Inline h = absurd (cc h)

-- that on one whose block is there
pub verdict-sound : (sections : Blocks) (c : List ℕ) → AreSound sections → has_cid sections c ≡ true → Sound ≡ verdict_of sections c
verdict-sound [] c sound there = absurd (cc there)
verdict-sound (e ∷ es) c sound there = by (bytes_eq e.0 c) refl there (verdict-sound es c sound.1) where
  by : (b : Bool) → bytes_eq e.0 c ≡ b → (b || has_cid es c) ≡ true → (has_cid es c ≡ true → Sound ≡ verdict_of es c) → Sound ≡ verdict_with c (if b then Some e.1 else block_of es c)
  by true is h later = sound-is (verdict_with c (Some e.1)) (subst (λ d. is_sound (verdict_with d (Some e.1)) ≡ true) ((bytes_eq-Decides e.0 c).0 is) sound.0)
  by false isnt h later = later h

-- ---- roots

-- each root passes, if the one at each place does
pub all-pass : (sections : Blocks) (roots : List (List ℕ)) → ((k : ℕ) → k < length roots → passes (verdict_of sections (get_or roots k [])) ≡ true) → RootsPass sections roots
all-pass sections [] h = tt
all-pass sections (c ∷ cs) h = (h 0 (omega arith), all-pass sections cs (λ k below. h (suc k) (omega (arith, below))))

-- the root at a place passes
pub root-at : (sections : Blocks) (cs : List (List ℕ)) (i : ℕ) (c : List ℕ) → i < length cs → c ≡ get_or cs i c → passes (verdict_of sections c) ≡ true → passes (verdict_of sections (get_or cs i [])) ≡ true
root-at sections [] i c h e is = absurd (omega (arith, h))
root-at sections (x ∷ cs) zero c h e is = subst (λ d. passes (verdict_of sections d) ≡ true) e is
root-at sections (x ∷ cs) (suc i) c h e is = root-at sections cs i c (omega (arith, h)) e is
