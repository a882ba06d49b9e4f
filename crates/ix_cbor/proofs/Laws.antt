-- The laws of reading: bytes are read as data exactly where they spell it.
use Rattle.std.proofs.Common.{◌≡◌, ℕ, ◌≤◌, List, [], ◌∷◌, ◌++◌, sym, ◌∙◌, ap, append-nil, length}
use Rattle.std.specs.Prelude.{◌↔◌, Some, Result, Ok, Err}
use Rattle.std.proofs.lemmas.Option.{same_Some}
use Rattle.std.specs.Result.{result_ok}
use Rattle.ix_cid.specs.Bytes.{AreBytes}
use Rattle.ix_cbor.specs.declared.fault.CborKind.TheVariants.{Rest}
use Rattle.ix_cbor.specs.Data.{Data}
use Rattle.ix_cbor.specs.Spelling.{spelling_of, IsSpellable, nesting_of, IsCanonical, Spells}
use Rattle.ix_cbor.specs.Reading.{Fault, ◌>>=◌, item_at, nothing_after, decoded, data_at}
use Rattle.ix_cbor.proofs.Bytes.{IsBytes-from_are_bytes}
use Rattle.ix_cbor.proofs.Steps.{bind_ok, no_ok, ok_same}
use Rattle.ix_cbor.proofs.Sound.{Takes, item_sound}
use Rattle.ix_cbor.proofs.Complete.{item_complete}

-- nothing is after what was read
nothing_stands : (n : ℕ) (b : List ℕ) (x d : Data) (rest : List ℕ) → Takes n b x rest → nothing_after (x, rest) ≡ Ok d → Takes n b d []
nothing_stands n b x d [] t e = let same = ok_same x d e in rw (← same) t
nothing_stands n b x d (y ∷ ys) t e = no_ok (record { kind = Rest; left = length (y ∷ ys) }) d e

-- a block that is read, at any level
block_sound : (n : ℕ) (b : List ℕ) (d : Data) → AreBytes b → (item_at n b >>= nothing_after) ≡ Ok d → Takes n b d []
block_sound n b d fits e =
    let a = bind_ok (item_at n b) nothing_after d e in
    nothing_stands n b a.0.0 d a.0.1 (item_sound n b a.0.0 a.0.1 (IsBytes-from_are_bytes b fits) a.1) a.2

-- a block that is spelled, at any level
block_complete : (n : ℕ) (b : List ℕ) (d : Data) → IsSpellable d → nesting_of d ≤ n → b ≡ spelling_of d → (item_at n b >>= nothing_after) ≡ Ok d
block_complete n b d spellable nesting is =
    ap (λ (l : List ℕ). item_at n l >>= nothing_after) (is ∙ sym (append-nil (spelling_of d))) ∙ ap (λ x. x >>= nothing_after) (item_complete n d [] spellable nesting)

-- of two spellings at one front, both data and what follows are the same
front_once : (n : ℕ) (d e : Data) (rest more : List ℕ) → IsSpellable d → IsSpellable e → nesting_of d ≤ n → nesting_of e ≤ n → spelling_of d ++ rest ≡ spelling_of e ++ more → (d ≡ e) × (rest ≡ more)
front_once n d e rest more d_spellable e_spellable d_nesting e_nesting is =
    let same = ok_same (d, rest) (e, more) (sym (item_complete n d rest d_spellable d_nesting) ∙ ap (item_at n) is ∙ item_complete n e more e_spellable e_nesting) in
    (ap (λ (x : Data × List ℕ). x.0) same, ap (λ (x : Data × List ℕ). x.1) same)

-- what is read is spelled
pub decoded-sound : (b : List ℕ) (d : Data) → AreBytes b → decoded b ≡ Ok d → Spells b d
decoded-sound b d fits e =
    let t = block_sound 512 b d fits e in
    record { canonical = record { parts = t.spellable; nesting = t.nesting }; spelled = t.whole ∙ append-nil (spelling_of d) }

-- what is spelled is read
pub decoded-complete : (b : List ℕ) (d : Data) → Spells b d → decoded b ≡ Ok d
decoded-complete b d s = block_complete 512 b d s.canonical.parts s.canonical.nesting s.spelled

-- data has at most one spelling
pub spelled-once : (b c : List ℕ) (d : Data) → Spells b d → Spells c d → b ≡ c
spelled-once b c d s t = s.spelled ∙ sym t.spelled

-- no spelling is the beginning of another
pub spelling-prefix : (d e : Data) (rest : List ℕ) → IsCanonical d → IsCanonical e → spelling_of e ≡ spelling_of d ++ rest → (d ≡ e) × (rest ≡ [])
spelling-prefix d e rest d_is e_is is =
    front_once 512 d e rest [] d_is.parts e_is.parts d_is.nesting e_is.nesting (sym is ∙ sym (append-nil (spelling_of e)))

-- bytes spell at most one data
pub data-once : (b : List ℕ) (d e : Data) → Spells b d → Spells b e → d ≡ e
data-once b d e s t = (spelling-prefix d e [] s.canonical t.canonical (sym t.spelled ∙ s.spelled ∙ sym (append-nil (spelling_of d)))).0

-- reading answers data exactly where the bytes spell it
pub decoded-iff : (b : List ℕ) (d : Data) → AreBytes b → (decoded b ≡ Ok d ↔ Spells b d)
decoded-iff b d fits = (decoded-sound b d fits, decoded-complete b d)

-- what is there was read
some_from_ok : (r : Result Data Fault) (d : Data) → result_ok r ≡ Some d → r ≡ Ok d
some_from_ok (Ok x) d e = ap (λ (y : Data). Ok y) (same_Some x d e)
some_from_ok (Err f) d e = absurd cc

-- there is data for a block exactly where the block spells it
pub data_at-iff : (b : List ℕ) (d : Data) → AreBytes b → (data_at b ≡ Some d ↔ Spells b d)
data_at-iff b d fits = (λ e. decoded-sound b d fits (some_from_ok (decoded b) d e), λ s. ap result_ok (decoded-complete b d s))
