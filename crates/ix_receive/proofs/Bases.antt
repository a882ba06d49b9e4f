-- The known blocks of a store as a base.
use Rattle.std.proofs.Common.{◌≡◌, ℕ, Bool, true, false, List, [], ◌∷◌, ◌++◌, refl, sym, ap, ◌∙◌}
use Rattle.std.specs.Prelude.{Option, Some, None, MatchOption, is_some, ◌||◌}
use Rattle.std.specs.Borrow.{Bor}
use Rattle.ix_store.specs.Store.{Blocks, has_cid, value_of}
use Rattle.ix_car.specs.Archive.{is_known}
use Rattle.ix_known.specs.Known.{known_blocks}
use Rattle.ix_known.proofs.KnownCopies.{known-has, known-sound, value-by}
use Rattle.ix_known.proofs.Lists.{block-right, has-append}
use Rattle.ix_receive.specs.Own.{base_known}
use Rattle.ix_receive.specs.Base.{store_of, AreKnown}

-- the known blocks are what a receiver that has the store is known to have
pub are-known : (store : Blocks) → AreKnown store
are-known store = record { sound = known-sound store; same = λ c. known-is (known_blocks store) c ∙ known-has store c } where
  known-is : (base : Blocks) (c : List ℕ) → is_known (base_known base) c ≡ has_cid base c
  known-is [] c = refl
  known-is (p ∷ ps) c = refl

-- a CID that the base lacks has the data that it has in the sections
pub section-value : (base sections : Blocks) (c : List ℕ) → has_cid base c ≡ false → value_of sections c ≡ value_of (base ++ sections) c
section-value base sections c out = value-by sections (base ++ sections) c (sym (block-right base sections c out))

-- a store is found for a CID exactly if the base has it
pub found-if : (P : Bor Blocks → Type 0) (o : Option (Bor Blocks)) (h : Bool) → MatchOption o (h ≡ false) (λ s. (h ≡ true) × P s) → is_some o ≡ h
found-if P None h m = sym m
found-if P (Some s) h m = sym m.0

-- there is a block if the base has one
pub either-has : (s : Blocks × Blocks) (c : List ℕ) → has_cid s.0 c ≡ true → true ≡ has_cid (store_of s) c
either-has s c there = sym (has-append s.0 s.1 c ∙ ap (λ b. b || has_cid s.1 c) there)

-- or else if a section has come
pub or-has : (s : Blocks × Blocks) (c : List ℕ) → has_cid s.0 c ≡ false → has_cid s.1 c ≡ has_cid (store_of s) c
or-has s c out = sym (has-append s.0 s.1 c ∙ ap (λ b. b || has_cid s.1 c) out)
