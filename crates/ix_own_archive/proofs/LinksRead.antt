-- Each link in data that is read is of a CID.
use Rattle.std.proofs.Common.{◌≡◌, ℕ, zero, suc, ◌/◌, ◌%◌, ◌^◌, Bool, true, false, cond, ◌&&◌, List, [], ◌∷◌, length, take, refl, subst}
use Rattle.std.specs.Prelude.{Option, Some, None, Result, Ok, Err, nat_lt, ◌==◌}
use Rattle.std.specs.Int.{from_be_bytes, w64}
use Rattle.std.specs.Result.{result_ok}
use Rattle.std.proofs.lemmas.Bool.{and_parts}
use Rattle.ix_cid.specs.Cid.{IsCid}
use Rattle.ix_cbor.specs.Data.{Data, Items, Entries, null, boolean, integer, float, bytes, text, list, map, link, no_items, item, no_entries, entry}
use Rattle.ix_cbor.specs.declared.fault.CborKind.TheVariants as kinds
use Rattle.ix_cbor.specs.Reading.{Fault, Parse, ◌>>=◌, fails, take_at, argument_at, key_at, float_at, simple_at, is_cid, tag_content_at, link_of, link_at, Own, leaf, list_of, map_of, own_with, own_at, items_at, entries_at, with_members, item_at, nothing_after, data_at}
use Rattle.ix_cbor.proofs.Cids.{IsCid-from_test}

abbrev mutual
  -- each link in data is of a CID
  pub HasCids : Data → Type 0
  HasCids null = Unit {0}
  HasCids (boolean b) = Unit {0}
  HasCids (integer n) = Unit {0}
  HasCids (float bits) = Unit {0}
  HasCids (bytes b) = Unit {0}
  HasCids (text t) = Unit {0}
  HasCids (list ds) = HaveCids ds
  HasCids (map es) = ValuesHaveCids es
  HasCids (link c) = IsCid c

  pub HaveCids : Items → Type 0
  HaveCids no_items = Unit {0}
  HaveCids (item d ds) = HasCids d × HaveCids ds

  pub ValuesHaveCids : Entries → Type 0
  ValuesHaveCids no_entries = Unit {0}
  ValuesHaveCids (entry k d es) = HasCids d × ValuesHaveCids es

-- each link in an item's own part
abbrev OwnHasCids : Own → Type 0
OwnHasCids (leaf d) = HasCids d
OwnHasCids (list_of n) = Unit {0}
OwnHasCids (map_of n) = Unit {0}

-- what holds of what is read, if anything is
abbrev IfRead : {A : Type 0} → (A → Type 0) → Result (A × List ℕ) Fault → Type 0
IfRead P (Ok r) = P r.0
IfRead P (Err f) = Unit {0}

-- by a test
by_test : {A : Type 0} (P : A → Type 0) (t : Bool) (x y : Result (A × List ℕ) Fault) → IfRead P x → IfRead P y → IfRead P (cond t x y)
by_test P true x y h k = h
by_test P false x y h k = k

-- in turn
in_turn : {A B : Type 0} (Q : A → Type 0) (P : B → Type 0) (r : Result (A × List ℕ) Fault) (f : A × List ℕ → Result (B × List ℕ) Fault) → IfRead Q r → ((x : A × List ℕ) → Q x.0 → IfRead P (f x)) → IfRead P (r >>= f)
in_turn Q P (Ok x) f h k = k x h
in_turn Q P (Err e) f h k = tt

-- nothing needs to hold
abbrev Any : {A : Type 0} → A → Type 0
Any x = Unit {0}

any : {A : Type 0} (r : Result (A × List ℕ) Fault) → IfRead {A = A} Any r
any (Ok x) = tt
any (Err e) = tt

-- a float
float-read : (at b : List ℕ) → IfRead HasCids (float_at at b)
float-read at b = by_test HasCids (nat_lt (length b) 8) _ _ tt (by_test HasCids (from_be_bytes w64 (take 8 b) / 2 ^ 52 % 2 ^ 11 == 2047) _ _ tt tt)

-- a simple value
simple-read : (at : List ℕ) (info : ℕ) (b : List ℕ) → IfRead HasCids (simple_at at info b)
simple-read at info b =
    by_test HasCids (info == 20) _ _ tt (by_test HasCids (info == 21) _ _ tt (by_test HasCids (info == 22) _ _ tt (by_test HasCids (info == 25) _ _ tt
    (by_test HasCids (info == 26) _ _ tt (by_test HasCids (info == 27) _ _ (float-read at b) (by_test HasCids (info == 31) _ _ tt tt))))))

-- a link
link-content : (at : List ℕ) (x : List ℕ × List ℕ) → IfRead HasCids (link_of at x)
link-content at ([], b) = tt
link-content at ((first ∷ c), b) = on_test ((first == 0) && is_cid c) refl where
  on_test : (t : Bool) → ((first == 0) && is_cid c) ≡ t → IfRead HasCids (cond t (Ok (link c, b)) (fails kinds.Link at))
  on_test true is = IsCid-from_test c (and_parts (first == 0) (is_cid c) is).1
  on_test false is = tt

link-read : (at : List ℕ) (tag : ℕ) (b : List ℕ) → IfRead HasCids (link_at at tag b)
link-read at tag b =
    by_test HasCids (tag == 42) _ _ (in_turn {A = List ℕ} Any HasCids (tag_content_at at b) (link_of at) (any (tag_content_at at b)) (λ x _. link-content at x)) tt

-- an item's own part
own-with : (at : List ℕ) (major n : ℕ) (b : List ℕ) → IfRead OwnHasCids (own_with at major n b)
own-with at major n b =
    by_test OwnHasCids (major == 0) _ _ tt (by_test OwnHasCids (major == 1) _ _ tt
    (by_test OwnHasCids (major == 2) _ _ (in_turn {A = List ℕ} Any OwnHasCids (take_at n b) (λ s. Ok (leaf (bytes s.0), s.1)) (any (take_at n b)) (λ x _. tt))
    (by_test OwnHasCids (major == 3) _ _ (in_turn {A = List ℕ} Any OwnHasCids (take_at n b) (λ s. Ok (leaf (text s.0), s.1)) (any (take_at n b)) (λ x _. tt))
    (by_test OwnHasCids (major == 4) _ _ tt (by_test OwnHasCids (major == 5) _ _ tt
    (in_turn HasCids OwnHasCids (link_at at n b) (λ d. Ok (leaf d.0, d.1)) (link-read at n b) (λ x h. h)))))))

own-read : (b : List ℕ) → IfRead OwnHasCids (own_at b)
own-read [] = tt
own-read (h ∷ b) =
    by_test OwnHasCids (h / 32 == 7) _ _
    (in_turn HasCids OwnHasCids (simple_at (h ∷ b) (h % 32) b) (λ d. Ok (leaf d.0, d.1)) (simple-read (h ∷ b) (h % 32) b) (λ x k. k))
    (in_turn {A = ℕ} Any OwnHasCids (argument_at (h ∷ b) (h % 32) b) (λ n. own_with (h ∷ b) (h / 32) n.0 n.1) (any (argument_at (h ∷ b) (h % 32) b)) (λ x _. own-with (h ∷ b) (h / 32) x.0 x.1))

module _ (read : Parse Data) (reads : (b : List ℕ) → IfRead HasCids (read b)) where
  -- elements
  items-read : (n : ℕ) (b : List ℕ) → IfRead HaveCids (items_at read n b)
  items-read zero b = tt
  items-read (suc n) b =
      in_turn HasCids HaveCids (read b) (λ d. items_at read n d.1 >>= (λ ds. Ok (item d.0 ds.0, ds.1))) (reads b)
      (λ d h. in_turn HaveCids HaveCids (items_at read n d.1) (λ ds. Ok (item d.0 ds.0, ds.1)) (items-read n d.1) (λ ds k. (h, k)))

  -- entries
  entries-read : (before : Option (List ℕ)) (n : ℕ) (b : List ℕ) → IfRead ValuesHaveCids (entries_at read before n b)
  entries-read before zero b = tt
  entries-read before (suc n) b =
      in_turn {A = List ℕ} Any ValuesHaveCids (key_at before b) (λ k. read k.1 >>= (λ d. entries_at read (Some k.0) n d.1 >>= (λ es. Ok (entry k.0 d.0 es.0, es.1)))) (any (key_at before b))
      (λ k _. in_turn HasCids ValuesHaveCids (read k.1) (λ d. entries_at read (Some k.0) n d.1 >>= (λ es. Ok (entry k.0 d.0 es.0, es.1))) (reads k.1)
      (λ d h. in_turn ValuesHaveCids ValuesHaveCids (entries_at read (Some k.0) n d.1) (λ es. Ok (entry k.0 d.0 es.0, es.1)) (entries-read (Some k.0) n d.1) (λ es l. (h, l))))

  -- an item with its members
  members-read : (at : List ℕ) (x : Own × List ℕ) → OwnHasCids x.0 → IfRead HasCids (with_members (Some read) at x)
  members-read at (leaf d, b) h = h
  members-read at (list_of n, b) h = in_turn HaveCids HasCids (items_at read n b) (λ ds. Ok (list ds.0, ds.1)) (items-read n b) (λ ds k. k)
  members-read at (map_of n, b) h = in_turn ValuesHaveCids HasCids (entries_at read None n b) (λ es. Ok (map es.0, es.1)) (entries-read None n b) (λ es k. k)

-- an item that may have none
no-members : (at : List ℕ) (x : Own × List ℕ) → OwnHasCids x.0 → IfRead HasCids (with_members None at x)
no-members at (leaf d, b) h = h
no-members at (list_of n, b) h = tt
no-members at (map_of n, b) h = tt

item-read : (n : ℕ) (b : List ℕ) → IfRead HasCids (item_at n b)
unfolding item_at
item-read zero b = in_turn OwnHasCids HasCids (own_at b) (with_members None b) (own-read b) (no-members b)
item-read (suc n) b = in_turn OwnHasCids HasCids (own_at b) (with_members (Some (item_at n)) b) (own-read b) (members-read (item_at n) (item-read n) b)

-- the item that is all of the bytes
whole-read : (r : Result (Data × List ℕ) Fault) (d : Data) → IfRead HasCids r → result_ok (r >>= nothing_after) ≡ Some d → HasCids d
whole-read (Ok (e, [])) d h is = subst HasCids (cc is) h
whole-read (Ok (e, (x ∷ xs))) d h is = absurd (cc is)
whole-read (Err f) d h is = absurd (cc is)

-- the data of a block
pub data-cids : (b : List ℕ) (d : Data) → data_at b ≡ Some d → HasCids d
data-cids b d is = whole-read (item_at 512 b) d (item-read 512 b) is
