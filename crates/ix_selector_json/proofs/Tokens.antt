-- What loops over the tokens of items and members have said so far.
use Rattle.std.proofs.Common.{rules, ◌≡◌, ℕ, Bool, ◌+◌, ◌-◌, ◌<◌, ◌≤◌, List, [], ◌∷◌, ◌++◌, length, map, refl, sym, ap, ◌∙◌, subst, arith}
use Rattle.std.specs.Prelude.{Option, Some, None}
use Rattle.std.specs.Global.{Vec}
use Rattle.std.proofs.lemmas.List.{append-nil, map_push}
use Rattle.json.specs.Token.{Token}
use Rattle.json.specs.Json.{Json, Items, no_items, item, Members, no_members, member, parse_map, after_end_array, read_key, items, members, value, array, object}
use Rattle.json.proofs.Grammar.{value_is, items_end, items_more, members_end, members_more, read_key-shorter, value-begin_array, value-begin_object}
use Rattle.ix_cbor.specs.declared.node.Node.{Node}
use Rattle.ix_cbor.specs.declared.node.Node.{the_lemmas}
use Rattle.ix_cbor.specs.declared.node.Node.TheVariants as variants
use Rattle.ix_cbor.specs.Data.{Data, data_of, entry_of, items_of}
use Rattle.ix_cbor.specs.Data as data_model
use Rattle.ix_cbor.proofs.Fitting.{data_of-map}
use Rattle.ix_selector_json.specs.Saying.{Says, ItemsSay, MembersSay, AreInOrder}
use Rattle.ix_selector_json.specs.Direct.{SaysNext, ItemsSayNext, EntriesSayNext}
use Rattle.ix_selector_json.proofs.Sayings.{Entry, shifted, say_in_order}

-- what the items from here on say, after the nodes so far, all of them say
pub record ItemsSaid (depth : ℕ) (start now : List Token) (nodes : List Node) : Type 0 where
  pub fuel : ℕ
  pub enough : length now ≤ fuel
  pub shorter : length now ≤ length start
  pub said : (more : Items) (rest : List Token) (ds : List Data) → items (value depth) fuel now ≡ Some (more, rest) → ItemsSay more ds → ItemsSayNext depth start rest (map data_of nodes ++ ds)

pub no_item : (depth : ℕ) (start : List Token) (nodes : List Node) → nodes ≡ [] → ItemsSaid depth start start nodes
no_item depth start nodes none = record {
  fuel = length start;
  enough = omega arith;
  shorter = omega arith;
  said = λ more rest ds e say. subst (λ ns. ItemsSayNext depth start rest (map data_of ns ++ ds)) (sym none) (record { first = more; read = e; say = say });
}

pub next_item : (depth : ℕ) (start now rest : List Token) (nodes after : List Node) (n : Node) → after_end_array now ≡ None → SaysNext depth now rest (data_of n) → length rest < length now
    → after ≡ nodes ++ n ∷ [] → ItemsSaid depth start now nodes → ItemsSaid depth start rest after
next_item depth start now rest nodes after n opened next less pushed so_far =
    let same : (ds : List Data) → map data_of nodes ++ data_of n ∷ ds ≡ map data_of after ++ ds =
    λ ds. shifted (map data_of nodes) (data_of n) ds ∙ ap (λ l. l ++ ds) (sym (map_push data_of nodes n) ∙ ap (map data_of) (sym pushed)) in
    record {
      fuel = so_far.fuel - 1;
      enough = omega (arith, so_far.enough);
      shorter = omega (arith, so_far.shorter);
      said = λ more behind ds e say. subst (ItemsSayNext depth start behind) (same ds)
          (so_far.said (item next.first more) behind (data_of n ∷ ds)
          (items_more (value depth) so_far.fuel now rest next.first (omega (arith, so_far.enough)) opened next.read ∙ ap (parse_map (item next.first)) e)
          (data_of n, ds, next.says, say, refl));
    }

pub last_item : (depth : ℕ) (start now rest : List Token) (nodes after : List Node) → after_end_array now ≡ Some rest → after ≡ nodes → ItemsSaid depth start now nodes → ItemsSayNext depth start rest (map data_of after)
last_item depth start now rest nodes after end same so_far =
    subst (ItemsSayNext depth start rest) (append-nil (map data_of nodes) ∙ ap (map data_of) (sym same))
    (so_far.said no_items rest [] (items_end (value depth) so_far.fuel now rest so_far.enough end) refl)

-- the members of an object say these entries in their order
pub record MembersSayNext (depth : ℕ) (tokens rest : List Token) (es : List (List ℕ × Data)) : Type 0 where
  pub first : Members
  pub read : members (value depth) (length tokens) tokens ≡ Some (first, rest)
  pub say : MembersSay first es

pub record MembersSaid (depth : ℕ) (start now : List Token) (entries : List Entry) : Type 0 where
  pub fuel : ℕ
  pub enough : length now ≤ fuel
  pub shorter : length now ≤ length start
  pub said : (more : Members) (rest : List Token) (es : List (List ℕ × Data)) → members (value depth) fuel now ≡ Some (more, rest) → MembersSay more es
      → MembersSayNext depth start rest (map entry_of entries ++ es)

pub no_member : (depth : ℕ) (start : List Token) (entries : List Entry) → entries ≡ [] → MembersSaid depth start start entries
no_member depth start entries none = record {
  fuel = length start;
  enough = omega arith;
  shorter = omega arith;
  said = λ more rest es e say. subst (λ ns. MembersSayNext depth start rest (map entry_of ns ++ es)) (sym none) (record { first = more; read = e; say = say });
}

pub next_member : (depth : ℕ) (start now mid rest : List Token) (entries after : List Entry) (name : List ℕ) (k : Vec ℕ) (n : Node) → read_key now ≡ Some (Some name, mid) → k.items ≡ name
    → SaysNext depth mid rest (data_of n) → length rest < length mid → after ≡ entries ++ (k, n) ∷ [] → MembersSaid depth start now entries → MembersSaid depth start rest after
next_member depth start now mid rest entries after name k n key named next less pushed so_far =
    let lesser = read_key-shorter now (Some name) mid key in
    let grown : map entry_of entries ++ (name, data_of n) ∷ [] ≡ map entry_of after =
    ap (λ l. map entry_of entries ++ (l, data_of n) ∷ []) (sym named) ∙ sym (map_push entry_of entries (k, n)) ∙ ap (map entry_of) (sym pushed) in
    let same : (es : List (List ℕ × Data)) → map entry_of entries ++ (name, data_of n) ∷ es ≡ map entry_of after ++ es =
    λ es. shifted (map entry_of entries) (name, data_of n) es ∙ ap (λ l. l ++ es) grown in
    record {
      fuel = so_far.fuel - 1;
      enough = omega (arith, so_far.enough);
      shorter = omega (arith, so_far.shorter);
      said = λ more behind es e say. subst (MembersSayNext depth start behind) (same es)
          (so_far.said (member name next.first more) behind ((name, data_of n) ∷ es)
          (members_more (value depth) so_far.fuel name now mid rest next.first (omega (arith, so_far.enough)) key next.read ∙ ap (parse_map (member name next.first)) e)
          (data_of n, es, next.says, say, refl));
    }

pub last_member : (depth : ℕ) (start now rest : List Token) (entries after sorted : List Entry) → read_key now ≡ Some (None, rest) → after ≡ entries → MembersSaid depth start now entries
    → AreInOrder after sorted → EntriesSayNext depth start rest (map entry_of sorted)
last_member depth start now rest entries after sorted end same so_far order =
    let all = so_far.said no_members rest [] (members_end (value depth) so_far.fuel now rest so_far.enough end) refl in
    let say : MembersSay all.first (map entry_of after) = subst (MembersSay all.first) (append-nil (map entry_of entries) ∙ ap (map entry_of) (sym same)) all.say in
    record { first = all.first; read = all.read; say = say_in_order all.first after sorted say order.same; shorter = omega (arith, read_key-shorter now None rest end, so_far.shorter) }

data_of-list : (v : Vec Node) → data_of (variants.List v) ≡ data_model.list (items_of (map data_of v.items))
data_of-list v = search (rules, the_lemmas)

-- an array says the list of its items, and an object the map of its entries
pub array_says : (depth : ℕ) (tokens inner rest : List Token) (v : Vec Node) → 0 < depth → tokens ≡ Token.begin_array ∷ inner → ItemsSayNext (depth - 1) inner rest (map data_of v.items)
    → SaysNext depth tokens rest (data_of (variants.List v))
array_says depth tokens inner rest v above is next = record {
  first = array next.first;
  read = ap (value depth) is ∙ value-begin_array depth inner above ∙ ap (parse_map array) next.read;
  says = (map data_of v.items, next.say, data_of-list v);
}

pub object_says_next : (depth : ℕ) (tokens inner rest : List Token) (v : Vec (Vec ℕ × Node)) → 0 < depth → tokens ≡ Token.begin_object ∷ inner → EntriesSayNext (depth - 1) inner rest (map entry_of v.items)
    → SaysNext depth tokens rest (data_of (variants.Map v))
object_says_next depth tokens inner rest v above is next = record {
  first = object next.first;
  read = ap (value depth) is ∙ value-begin_object depth inner above ∙ ap (parse_map object) next.read;
  says = (map entry_of v.items, next.say.0, next.say.1, next.say.2, data_of-map v);
}

-- a value that is one token says what it stands for
pub null_says : (depth : ℕ) (tokens rest : List Token) (d : Data) → tokens ≡ Token.null ∷ rest → d ≡ data_model.null → SaysNext depth tokens rest d
null_says depth tokens rest d is same = record { first = Json.null; read = ap (value depth) is ∙ value_is depth (Token.null ∷ rest); says = same }

pub truth_says : (depth : ℕ) (tokens rest : List Token) (d : Data) (b : Bool) → tokens ≡ Token.boolean b ∷ rest → d ≡ data_model.boolean b → SaysNext depth tokens rest d
truth_says depth tokens rest d b is same = record { first = Json.boolean b; read = ap (value depth) is ∙ value_is depth (Token.boolean b ∷ rest); says = same }

pub number_says : (depth : ℕ) (tokens rest : List Token) (d : Data) (digits : List ℕ) → tokens ≡ Token.number digits ∷ rest → Says (Json.number digits) d → SaysNext depth tokens rest d
number_says depth tokens rest d digits is says = record { first = Json.number digits; read = ap (value depth) is ∙ value_is depth (Token.number digits ∷ rest); says = says }

pub text_says : (depth : ℕ) (tokens rest : List Token) (d : Data) (s : List ℕ) → tokens ≡ Token.string s ∷ rest → d ≡ data_model.text s → SaysNext depth tokens rest d
text_says depth tokens rest d s is same = record { first = Json.string s; read = ap (value depth) is ∙ value_is depth (Token.string s ∷ rest); says = same }
