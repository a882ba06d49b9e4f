-- A list or map by its own head, and its members.
use Rattle.std.proofs.Common.{◌≡◌, ℕ, List, map, sym, ◌∙◌, ap}
use Rattle.std.specs.Prelude.{Some, None, Ok}
use Rattle.std.specs.Global.{Vec}
use Rattle.ix_cbor.specs.declared.read.Own.{Own as RustOwn}
use Rattle.ix_cbor.specs.declared.read.Own.TheVariants.{MapOf}
use Rattle.ix_cbor.specs.declared.node.Node.{Node}
use Rattle.ix_cbor.specs.declared.node.Node.TheVariants as variants
use Rattle.ix_cbor.specs.Data.{Data, data_of, entry_of, entries_of}
use Rattle.ix_cbor.specs.Data as data_model
use Rattle.ix_cbor.specs.Reading.{Parse, ◌>>=◌, own_at, entries_at, item_with, with_members}
use Rattle.ix_cbor.specs.Answered.{own_of}
use Rattle.ix_cbor.proofs.Fitting.{data_of-map}

-- a map whose keys and values are read is read
pub map_read : (read : Parse Data) (b : List ℕ) (own : RustOwn) (count : ℕ) (behind : List ℕ) (members : Vec (Vec ℕ × Node)) (rest : List ℕ) → own_at b ≡ Ok (own_of own, behind) → own ≡ MapOf count
    → entries_at read None count behind ≡ Ok (entries_of (map entry_of members.items), rest) → item_with (Some read) b ≡ Ok (data_of (variants.Map members), rest)
map_read read b own count behind members rest e is entries =
    ap (λ r. r >>= with_members (Some read) b) (e ∙ ap (λ o. Ok (own_of o, behind)) is)
    ∙ ap (λ r. r >>= (λ es. Ok (data_model.map es.0, es.1))) entries
    ∙ ap (λ d. Ok (d, rest)) (sym (data_of-map members))
