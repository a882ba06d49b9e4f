-- If reading fails, the offset is within the bytes, and what is left after a value is no more than they are.
use Rattle.std.proofs.Common.{◌≡◌, ◌≤◌, ◌/◌, ◌%◌, ◌^◌, ◌==◌, if◌then◌else◌, nat_lt, arith, ℕ, zero, suc, pos, negsuc, Bool, true, false, cond, List, [], ◌∷◌, length, take, drop, length-drop, subst}
use Rattle.std.specs.Prelude.{Option, Some, None, Result, Ok, Err}
use Rattle.std.specs.Int.{Width, byte_len, from_be_bytes, w8, w16, w32, w64}
use Rattle.ix_cbor.specs.declared.fault.CborKind.{CborKind}
use Rattle.ix_cbor.specs.declared.fault.CborKind.TheVariants as kinds
use Rattle.ix_cbor.specs.Data.{Data, null, boolean, integer, bytes, text}
use Rattle.ix_cbor.specs.Reading.{Fault, Parse, fails, Own, ◌>>=◌, leaf, list_of, map_of, take_at, wide_at, argument_at, string_at, string_of_major, rises, key_at, float_at, simple_at, link_of, link_at, own_with, own_at, items_at, entries_at, with_members, item_at, decoded, nothing_after}

-- how many bytes are left after a value, or after the place of a fault
abbrev pub left_of : {A : Type 0} → Result (A × List ℕ) Fault → ℕ
left_of (Ok x) = length x.1
left_of (Err f) = f.left

-- at most n bytes are left
pub record IsWithin {A : Type 0} (n : ℕ) (r : Result (A × List ℕ) Fault) : Type 0 where
  pub within : left_of r ≤ n

-- a value
ok : {A : Type 0} {n : ℕ} (x : A) (b : List ℕ) → length b ≤ n → IsWithin n (Ok (x, b))
ok x b h = record { within = h }

-- a fault
err : {A : Type 0} {n : ℕ} (f : Fault) → f.left ≤ n → IsWithin {A = A} n (Err f)
err f h = record { within = h }

-- a fault at a place
stopped : {A : Type 0} {n : ℕ} (kind : CborKind) (at : List ℕ) → length at ≤ n → IsWithin {A = A} n (fails kind at)
stopped kind at h = record { within = h }

-- a choice
if_within : {A : Type 0} {n : ℕ} (b : Bool) {x y : Result (A × List ℕ) Fault} → IsWithin n x → IsWithin n y → IsWithin n (cond b x y)
if_within true h k = h
if_within false h k = k

-- two readings in turn
then_within : {A B : Type 0} {n : ℕ} (r : Result (A × List ℕ) Fault) (f : A × List ℕ → Result (B × List ℕ) Fault) → IsWithin n r → ((x : A × List ℕ) → length x.1 ≤ n → IsWithin n (f x)) → IsWithin n (r >>= f)
then_within (Ok x) f h g = g x h.within
then_within (Err e) f h g = err e h.within

-- The parts of an item.
take_within : (n k : ℕ) (b : List ℕ) → length b ≤ n → IsWithin n (take_at k b)
take_within n k b h = if_within _ (err _ (omega arith)) (ok _ _ (omega (arith, length-drop k b)))

-- an argument in its bytes
wide_within : (n : ℕ) (at : List ℕ) (w : Width) (least : ℕ) (b : List ℕ) → length at ≤ n → length b ≤ n → IsWithin n (wide_at at w least b)
wide_within n at w least b a h =
    let rest : length (drop (byte_len w) b) ≤ n = omega (arith, length-drop (byte_len w) b) in
    if_within _ (err _ (omega arith)) (if_within (nat_lt (from_be_bytes w (take (byte_len w) b)) least) (err _ a) (ok _ _ rest))

-- an argument of any width
argument_within : (n : ℕ) (at : List ℕ) (info : ℕ) (b : List ℕ) → length at ≤ n → length b ≤ n → IsWithin n (argument_at at info b)
argument_within n at info b a h =
    if_within _ (ok _ _ h) (if_within (info == 24) (wide_within n at w8 24 b a h) (if_within (info == 25) (wide_within n at w16 (2 ^ 8) b a h)
    (if_within (info == 26) (wide_within n at w32 (2 ^ 16) b a h) (if_within (info == 27) (wide_within n at w64 (2 ^ 32) b a h) (if_within (info == 31) (stopped kinds.Indefinite at a) (stopped kinds.NotShortest at a))))))

-- a string
string_within : (n : ℕ) (at : List ℕ) (info : ℕ) (b : List ℕ) → length at ≤ n → length b ≤ n → IsWithin n (string_at at info b)
string_within n at info b a h = then_within (argument_at at info b) (λ m. take_at m.0 m.1) (argument_within n at info b a h) (λ m k. take_within n m.0 m.1 k)

-- a string of a major type
string_of_major_within : (n major : ℕ) (other : List ℕ → Result (List ℕ × List ℕ) Fault) (b : List ℕ) → ((at : List ℕ) → length at ≤ n → IsWithin n (other at)) → length b ≤ n → IsWithin n (string_of_major major other b)
string_of_major_within n major other [] o h = err _ (omega arith)
string_of_major_within n major other (x ∷ b) o h = if_within (x / 32 == major) (string_within n (x ∷ b) (x % 32) b h (omega arith)) (o (x ∷ b) h)

-- a key
pub key_within : (n : ℕ) (before : Option (List ℕ)) (b : List ℕ) → length b ≤ n → IsWithin n (key_at before b)
key_within n before b h =
    then_within (string_of_major 3 (λ at. fails kinds.KeyKind at) b) (λ k. if rises before k.0 then Ok k else fails kinds.KeyOrder b)
    (string_of_major_within n 3 (λ at. fails kinds.KeyKind at) b (λ at k. stopped kinds.KeyKind at k) h) (λ k rest. if_within (rises before k.0) (ok k.0 k.1 rest) (stopped kinds.KeyOrder b h))

-- a float
float_within : (n : ℕ) (at b : List ℕ) → length at ≤ n → length b ≤ n → IsWithin n (float_at at b)
float_within n at b a h =
    let rest : length (drop 8 b) ≤ n = omega (arith, length-drop 8 b) in
    if_within _ (err _ (omega arith)) (if_within (from_be_bytes w64 (take 8 b) / 2 ^ 52 % 2 ^ 11 == 2047) (err _ a) (ok _ _ rest))

-- a simple value
simple_within : (n : ℕ) (at : List ℕ) (info : ℕ) (b : List ℕ) → length at ≤ n → length b ≤ n → IsWithin n (simple_at at info b)
simple_within n at info b a h =
    if_within _ (ok (boolean false) b h) (if_within (info == 21) (ok (boolean true) b h) (if_within (info == 22) (ok null b h) (if_within (info == 25) (stopped kinds.Float at a)
    (if_within (info == 26) (stopped kinds.Float at a) (if_within (info == 27) (float_within n at b a h) (if_within (info == 31) (stopped kinds.Indefinite at a) (stopped kinds.Simple at a)))))))

-- a link's content
link_of_within : (n : ℕ) (at content b : List ℕ) → length at ≤ n → length b ≤ n → IsWithin n (link_of at (content, b))
link_of_within n at [] b a h = err _ a
link_of_within n at (x ∷ c) b a h = if_within _ (ok _ _ h) (err _ a)

-- a link
link_within : (n : ℕ) (at : List ℕ) (tag : ℕ) (b : List ℕ) → length at ≤ n → length b ≤ n → IsWithin n (link_at at tag b)
link_within n at tag b a h =
    if_within (tag == 42)
    (then_within (string_of_major 2 (λ content. fails kinds.Link at) b) (link_of at) (string_of_major_within n 2 (λ content. fails kinds.Link at) b (λ _ _. stopped kinds.Link at a) h) (λ c k. link_of_within n at c.0 c.1 a k))
    (stopped kinds.Tag at a)

-- the head of an item, by its major type
own_with_within : (n : ℕ) (at : List ℕ) (major argument : ℕ) (b : List ℕ) → length at ≤ n → length b ≤ n → IsWithin n (own_with at major argument b)
own_with_within n at major argument b a h =
    if_within _ (ok (leaf (integer (pos argument))) b h) (if_within (major == 1) (ok (leaf (integer (negsuc argument))) b h)
    (if_within (major == 2) (then_within (take_at argument b) (λ s. Ok (leaf (bytes s.0), s.1)) (take_within n argument b h) (λ s k. ok (leaf (bytes s.0)) s.1 k))
    (if_within (major == 3) (then_within (take_at argument b) (λ s. Ok (leaf (text s.0), s.1)) (take_within n argument b h) (λ s k. ok (leaf (text s.0)) s.1 k))
    (if_within (major == 4) (ok (list_of argument) b h) (if_within (major == 5) (ok (map_of argument) b h)
    (then_within (link_at at argument b) (λ d. Ok (leaf d.0, d.1)) (link_within n at argument b a h) (λ d k. ok (leaf d.0) d.1 k)))))))

-- and by its first byte
pub own_within : (n : ℕ) (b : List ℕ) → length b ≤ n → IsWithin n (own_at b)
own_within n [] h = err _ (omega arith)
own_within n (x ∷ b) h =
    let rest : length b ≤ n = omega arith in
    if_within (x / 32 == 7)
    (then_within (simple_at (x ∷ b) (x % 32) b) (λ d. Ok (leaf d.0, d.1)) (simple_within n (x ∷ b) (x % 32) b h rest) (λ d k. ok (leaf d.0) d.1 k))
    (then_within (argument_at (x ∷ b) (x % 32) b) (λ m. own_with (x ∷ b) (x / 32) m.0 m.1) (argument_within n (x ∷ b) (x % 32) b h rest) (λ m k. own_with_within n (x ∷ b) (x / 32) m.0 m.1 h k))

-- members, where each is read within the bytes that are left
module _ (n : ℕ) (read : Parse Data) (each : (b : List ℕ) → length b ≤ n → IsWithin n (read b)) where
  -- element by element
  items_within : (count : ℕ) (b : List ℕ) → length b ≤ n → IsWithin n (items_at read count b)
  items_within zero b h = ok _ _ h
  items_within (suc count) b h = then_within (read b) _ (each b h) (λ d k. then_within (items_at read count d.1) _ (items_within count d.1 k) (λ ds rest. ok _ _ rest))

  -- entry by entry
  entries_within : (before : Option (List ℕ)) (count : ℕ) (b : List ℕ) → length b ≤ n → IsWithin n (entries_at read before count b)
  entries_within before zero b h = ok _ _ h
  entries_within before (suc count) b h =
      then_within (key_at before b) _ (key_within n before b h) (λ name k. then_within (read name.1) _ (each name.1 k)
      (λ d more. then_within (entries_at read (Some name.0) count d.1) _ (entries_within (Some name.0) count d.1 more) (λ es rest. ok _ _ rest)))

  -- and so whatever an item has inside
  members_within : (at : List ℕ) (own : Own) (b : List ℕ) → length b ≤ n → IsWithin n (with_members (Some read) at (own, b))
  members_within at (leaf d) b h = ok _ _ h
  members_within at (list_of count) b h = then_within (items_at read count b) _ (items_within count b h) (λ ds rest. ok _ _ rest)
  members_within at (map_of count) b h = then_within (entries_at read None count b) _ (entries_within None count b h) (λ es rest. ok _ _ rest)

-- an item where no elements are allowed
no_members_within : (n : ℕ) (at : List ℕ) (own : Own) (b : List ℕ) → length at ≤ n → length b ≤ n → IsWithin n (with_members None at (own, b))
no_members_within n at (leaf d) b a h = ok _ _ h
no_members_within n at (list_of count) b a h = err _ a
no_members_within n at (map_of count) b a h = err _ a

-- an item with its members
pub item_within : (n levels : ℕ) (b : List ℕ) → length b ≤ n → IsWithin n (item_at levels b)
unfolding item_at
item_within n zero b h = then_within (own_at b) (with_members None b) (own_within n b h) (λ own k. no_members_within n b own.0 own.1 h k)
item_within n (suc levels) b h =
    then_within (own_at b) (with_members (Some (item_at levels)) b) (own_within n b h) (λ own k. members_within n (item_at levels) (item_within n levels) b own.0 own.1 k)

-- the same of what is left after a whole block
rest_within : (n : ℕ) (r : Result (Data × List ℕ) Fault) (f : Fault) → IsWithin n r → ◌>>=◌ {B = Data} r nothing_after ≡ Err f → f.left ≤ n
rest_within n (Ok (d, [])) f h e = absurd cc
rest_within n (Ok (d, (x ∷ b))) f h e = let here : record { kind = kinds.Rest; left = length (x ∷ b) } ≡ f = cc in subst (λ (g : Fault). g.left ≤ n) here h.within
rest_within n (Err g) f h e = let here : g ≡ f = cc in subst (λ (g : Fault). g.left ≤ n) here h.within

-- the place of a block's fault lies within the block
pub decoded_within : (b : List ℕ) (f : Fault) → decoded b ≡ Err f → f.left ≤ length b
decoded_within b f e = rest_within (length b) (item_at 512 b) f (item_within (length b) 512 b (omega arith)) e

-- the place of a reading's fault
pub err_within : {A : Type 0} (n : ℕ) (r : Result (A × List ℕ) Fault) (f : Fault) → IsWithin n r → r ≡ Err f → f.left ≤ n
err_within n (Ok x) f h e = absurd cc
err_within n (Err g) f h e = let here : g ≡ f = cc in subst (λ (g : Fault). g.left ≤ n) here h.within

-- what is left after a value
pub ok_within : {A : Type 0} (n : ℕ) (r : Result (A × List ℕ) Fault) (x : A × List ℕ) → IsWithin n r → r ≡ Ok x → length x.1 ≤ n
ok_within n (Ok y) x h e = let here : y ≡ x = cc in subst (λ y. length y.1 ≤ n) here h.within
ok_within n (Err f) x h e = absurd cc
