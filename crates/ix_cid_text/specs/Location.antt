-- Where a CID and a path are in a text: a URL of a gateway, an address of IPFS or IPLD, or a CID and a path.
use Rattle.std.specs.Prelude.{ℕ, ◌-◌, ◌≤◌, IfSome, List, [], ◌∷◌, length, drop, nat_eq, ◌==◌, if◌then◌else◌, codes, Option, Some, None, unwrap_or, option_map}
use Rattle.std.specs.Borrow.{Bor}
use Rattle.std.specs.List.{starts_with, before_first, after_first}
use Rattle.ix_cid_text.specs.declared.location.Location.{Location}

abbrev pub before_slash : List ℕ → List ℕ
before_slash text = before_first (λ b. b == 47) text

abbrev pub after_slash : List ℕ → List ℕ
after_slash text = after_first (λ b. b == 47) text

-- the text before the first slash, and the text after it
abbrev pub pieces : List ℕ → List ℕ × List ℕ
pieces text = (before_slash text, after_slash text)

-- the text after a prefix, if it begins with it
abbrev pub rest_after : List ℕ → List ℕ → Option (List ℕ)
rest_after prefix text = if starts_with nat_eq text prefix then Some (drop (length prefix) text) else None

-- the first of two that there is
abbrev pub or_else : {A : Type 0} → Option A → Option A → Option A
or_else (Some x) other = Some x
or_else None other = other

-- the text after the first of these prefixes that it begins with
abbrev pub after_one_of : List (List ℕ) → List ℕ → Option (List ℕ)
after_one_of [] text = None
after_one_of (p ∷ ps) text = or_else (rest_after p text) (after_one_of ps text)

-- the rest of a URL
abbrev pub rest_of_web : List ℕ → Option (List ℕ)
rest_of_web text = after_one_of (codes "https://" ∷ codes "http://" ∷ []) text

-- the rest of an address of IPFS or IPLD
abbrev pub rest_of_address : List ℕ → Option (List ℕ)
rest_of_address text = after_one_of (codes "/ipfs/" ∷ codes "/ipld/" ∷ codes "ipfs://" ∷ codes "ipld://" ∷ []) text

-- the text before its first `#`, and of that before its first `?`: without a fragment and a query
abbrev pub without_query : List ℕ → List ℕ
without_query text = before_first (λ b. b == 63) (before_first (λ b. b == 35) text)

-- the first label of a host, if the second one is `ipfs`
abbrev pub first_label : List ℕ → Option (List ℕ)
first_label host =
    if starts_with nat_eq (after_first (λ b. b == 46) host) (codes "ipfs.") then Some (before_first (λ b. b == 46) host) else None

-- The CID and the path of a URL: after `/ipfs/` or `/ipld/` behind the host, or in the first label of the host.
abbrev pub split_url : List ℕ → List ℕ × List ℕ
split_url url =
    unwrap_or (option_map pieces (after_one_of (codes "ipfs/" ∷ codes "ipld/" ∷ []) (after_slash url)))
    (unwrap_or (option_map (λ label. (label, after_slash url)) (first_label (before_slash url))) (url, []))

-- where the rest of a text ends without its query
abbrev pub end_in : List ℕ → List ℕ → ℕ
end_in text rest = length text - (length rest - length (without_query rest))

-- the CID, the path and the end of the path
abbrev pub located : List ℕ × List ℕ → ℕ → List ℕ × List ℕ × ℕ
located split end = (split.0, split.1, end)

-- where a CID and a path are in a text
abbrev pub location_of : List ℕ → List ℕ × List ℕ × ℕ
location_of text =
    unwrap_or (option_map (λ rest. located (split_url (without_query rest)) (end_in text rest)) (rest_of_web text))
    (unwrap_or (option_map (λ rest. located (pieces (without_query rest)) (end_in text rest)) (rest_of_address text))
    (located (pieces text) (length text)))

-- ---- in the program

abbrev pub location_view : Location → List ℕ × List ℕ × ℕ
location_view place = (place.cid.now, place.path.now, place.end)

-- what is left of a text, if anything, isn't longer
abbrev pub IsNoLonger : List ℕ → Option (Bor (List ℕ)) → Type 0
IsNoLonger text rest = IfSome rest (λ r. length r.now ≤ length text)
