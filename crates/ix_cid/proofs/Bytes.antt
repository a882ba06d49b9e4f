-- Bytes of parts of a list.
use Rattle.std.proofs.Common.{ℕ, ◌<◌, ◌^◌, List, ◌++◌, length, drop, refl, sym}
use Rattle.std.proofs.lemmas.List.{drop_at}
use Rattle.std.proofs.lemmas.List.Elements.{All-drop, All-same}
use Rattle.ix_cid.specs.Bytes.{AreBytes}

-- what is after the first of bytes is bytes
pub bytes_drop : (n : ℕ) (b : List ℕ) → AreBytes b → AreBytes (drop n b)
bytes_drop n b h = All-drop (λ x. x < 2 ^ 8) n b h

-- a rest of bytes is bytes
pub bytes_rest : (a b : List ℕ) → AreBytes (a ++ b) → AreBytes b
bytes_rest a b h = All-same (λ x. x < 2 ^ 8) b (drop (length a) (a ++ b)) (sym (drop_at a b (length a) refl)) (bytes_drop (length a) (a ++ b) h)
