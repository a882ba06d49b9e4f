-- What the command `root` prints, from standard input and the text of a root.
use Rattle.std.specs.Prelude.{◌≡◌, ℕ, List, [], ◌∷◌, ◌++◌, Ok}
use Rattle.hex.specs.Hex.{decode_of, encode_lower}
use Rattle.ix_cid.specs.CidText.{cid_of_text}
use Rattle.ix_cid.specs.Gives.{Fails}
use Rattle.ix_run.specs.declared.fault.RunFault.{RunFault}
use Rattle.ix_run.specs.declared.fault.RunFault.TheVariants.{Hex, Root, Car, Jobs, Write, Memory}
use Rattle.ix_run.specs.Input.{without_blanks, IsInputFault}
use Rattle.ix_run.specs.Root.{exported_from, IsRefusalOf}

-- the text is not that of a CIDv1, for this reason, or memory ran out
abbrev pub IsTextRefusal : List ℕ → RunFault → Type 0
IsTextRefusal text (Root fault) = Fails fault (cid_of_text text)
IsTextRefusal text Memory = ⊥
IsTextRefusal text Hex = ⊥
IsTextRefusal text (Car fault) = ⊥
IsTextRefusal text (Jobs fault) = ⊥
IsTextRefusal text (Write number) = ⊥

-- the input is a CARv1 file in hex, and the text is the archive of the root and a line end
pub record PrintsRoot (input root text : List ℕ) : Type 0 where
  pub car : List ℕ
  pub archive : List ℕ
  pub read : decode_of (without_blanks input) ≡ Ok car
  pub exported : exported_from car root ≡ Ok archive
  pub printed : text ≡ encode_lower archive ++ 10 ∷ []

-- the input is hex of bytes that are rejected with this fault
pub record HoldsFault (input : List ℕ) (fault : RunFault) : Type 0 where
  pub car : List ℕ
  pub read : decode_of (without_blanks input) ≡ Ok car
  pub refused : IsRefusalOf car fault

-- the input is not hex, or that of bytes that are not a CARv1 file, or memory ran out
abbrev pub IsPrintRefusal : List ℕ → RunFault → Type 0
IsPrintRefusal input Hex = IsInputFault input Hex
IsPrintRefusal input (Car fault) = HoldsFault input (Car fault)
IsPrintRefusal input Memory = Unit {0}
IsPrintRefusal input (Root fault) = ⊥
IsPrintRefusal input (Jobs fault) = ⊥
IsPrintRefusal input (Write number) = ⊥
