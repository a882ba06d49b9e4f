-- Which text is read as what.
use Rattle.std.proofs.Common.{◌≡◌, Bool, true, false, ℕ, List, drop, ◌∙◌, ap, refl}
use Rattle.std.specs.Prelude.{if◌then◌else◌, nat_eq, codes, Option, Some, None}
use Rattle.std.specs.List.{starts_with}
use Rattle.ix_cid_text.specs.Location.{rest_after}
use Rattle.ix_cid_text.specs.Text.{is_usual, cid_of_digits, cid_of_multibase, cid_of_text}
use Rattle.ix_cid_text.specs.declared.base.Base.TheVariants.{Base16, Base58Btc}

none_if : (t : Bool) (rest : List ℕ) → ◌≡◌ {A = Option (List ℕ)} (if t then Some rest else None) None → t ≡ false
none_if true rest e = absurd cc
none_if false rest e = refl

-- the usual text of a CIDv0 is read as its digits
pub usual : (text : List ℕ) → rest_after (codes "v0-") text ≡ None → is_usual text ≡ true → cid_of_text text ≡ cid_of_digits Base58Btc 0 0 text
usual text none is =
    let other : starts_with nat_eq text (codes "v0-") ≡ false = none_if (starts_with nat_eq text (codes "v0-")) (drop 3 text) none in
    let rest = if is_usual text then cid_of_digits Base58Btc 0 0 text else cid_of_multibase text in
    ap (λ (t : Bool). if t then cid_of_digits Base16 3 0 (drop 3 text) else rest) other
    ∙ ap (λ (t : Bool). if t then cid_of_digits Base58Btc 0 0 text else cid_of_multibase text) is
