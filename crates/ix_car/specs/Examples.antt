-- Examples, computed.
use Rattle.std.specs.Prelude.{◌≡◌, ℕ, true, false, List, [], ◌∷◌, ◌++◌, refl, None, Some, map, flat_map}
use Rattle.ix_store.specs.Store.{Blocks}
use Rattle.ix_sections.specs.Writing.{header_of}
use Rattle.ix_verdict.specs.declared.verdict.Verdict.{Verdict}
use Rattle.ix_verdict.specs.declared.verdict.Verdict.TheVariants.{Damaged, Sound, Inline}
use Rattle.ix_car.specs.declared.sink.Delivery.{Delivery}
use Rattle.ix_car.specs.Kept.{kept}
use Rattle.ix_car.specs.Archive.{first_sound, section_of, archive_with, archive_without}

abbrev pub at : ℕ → ℕ → ℕ → Verdict → Delivery
at seq depth cid verdict = record { visit = record { job = 0; seq = seq; depth = depth; cid = cid ∷ []; block = None; malformed = false }; verdict = verdict }

-- the damaged list: F, X (damaged), `abc` below it, B, `abc`; the CIDs are letters
abbrev pub deliveries : List Delivery
deliveries = at 0 0 70 Sound ∷ at 1 1 88 Damaged ∷ at 2 2 97 Sound ∷ at 3 1 66 Sound ∷ at 4 2 97 Sound ∷ []

pub first_is_cut_off : kept deliveries ≡ at 0 0 70 Sound ∷ at 1 1 88 Damaged ∷ at 3 1 66 Sound ∷ at 4 2 97 Sound ∷ []
first_is_cut_off = refl

pub three_sections : map (λ d. d.visit.seq) (first_sound (kept deliveries)) ≡ 0 ∷ 3 ∷ 4 ∷ []
three_sections = refl

-- what is below a damaged root is cut off, and the next root is kept
pub next_root : kept (at 0 0 88 Damaged ∷ at 1 1 97 Sound ∷ at 2 0 70 Sound ∷ at 3 1 97 Sound ∷ []) ≡ at 0 0 88 Damaged ∷ at 2 0 70 Sound ∷ at 3 1 97 Sound ∷ []
next_root = refl

-- a damaged cycle: everything after the first is cut off
pub cycle : kept (at 0 0 1 Damaged ∷ at 1 1 1 Damaged ∷ at 2 2 1 Damaged ∷ []) ≡ at 0 0 1 Damaged ∷ []
cycle = refl

-- identity CIDs: one is kept with what is below it, and has no section; below a damaged block it is cut off; beside one it ends
-- the cut
pub inline : kept (at 0 0 70 Inline ∷ at 1 1 97 Sound ∷ []) ≡ at 0 0 70 Inline ∷ at 1 1 97 Sound ∷ []
inline = refl

pub inline_has_no_section : map (λ d. d.visit.seq) (first_sound (at 0 0 70 Inline ∷ at 1 1 97 Sound ∷ [])) ≡ 1 ∷ []
inline_has_no_section = refl

pub inline_below_damaged : kept (at 0 0 88 Damaged ∷ at 1 1 70 Inline ∷ at 2 2 97 Sound ∷ []) ≡ at 0 0 88 Damaged ∷ []
inline_below_damaged = refl

pub inline_beside_damaged : kept (at 0 1 88 Damaged ∷ at 1 1 70 Inline ∷ at 2 2 97 Sound ∷ []) ≡ at 0 1 88 Damaged ∷ at 1 1 70 Inline ∷ at 2 2 97 Sound ∷ []
inline_beside_damaged = refl

-- an archive has the section of each, if no CID is known
pub each_has_a_section : (store : Blocks) (roots : List (List ℕ)) (ds : List Delivery) → archive_with store roots ds ≡ header_of roots ++ flat_map (section_of store) (first_sound ds)
each_has_a_section store roots ds = refl

-- a known CID has none
pub known_has_no_section : (store : Blocks) → archive_without (Some (λ c. true)) store [] (at 0 0 70 Sound ∷ []) ≡ header_of []
known_has_no_section store = refl
