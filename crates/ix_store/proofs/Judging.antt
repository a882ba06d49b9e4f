-- The verdicts on the pairs of a table, share by share, and the words that they give.
use Rattle.std.proofs.Common.{◌≡◌, ◌⊎◌, ℕ, ◌+◌, ◌*◌, ◌%◌, ◌/◌, ◌<◌, ◌≤◌, Bool, true, false, ◌&&◌, List, [], ◌∷◌, ◌++◌, length, take, drop, map, get_or, slice_get, slice_index, refl, sym, ap, subst, ◌∙◌, inl, inr, ⊎_elim, arith}
use Rattle.std.specs.Prelude.{Option, Some, None, Result, Ok, IfOk, bytes_eq, is_none, ◌==◌, if◌then◌else◌, option_map}
use Rattle.std.specs.Global.{Vec}
use Rattle.std.specs.declared.alloc.AllocError.{AllocError}
use Rattle.std.proofs.Math.ListN.{drop_of_length-le}
use Rattle.std.proofs.lemmas.List.{map-append, map_push, map_more, take_more, take_all, take-take, take-append-drop, drop-append-le, length-take, length-take-le}
use Rattle.std.proofs.lemmas.Option.{get_or_from_slice_get, slice_get-map, slice_get_within}
use Rattle.ix_cid.specs.Cid.{parts_of, codec_of, digest_of, hash_function_of}
use Rattle.ix_cid.specs.declared.hash_function.HashFunction.{HashFunction}
use Rattle.ix_cid.specs.declared.hash_function.HashFunction.TheVariants.{Identity, Sha2_256, Sha2_512}
use Rattle.sha2.specs.Sha256.{sha256}
use Rattle.sha2.specs.Sha512.{sha512}
use Rattle.ix_cbor.specs.Reading.{data_at}
use Rattle.ix_verdict.specs.declared.verdict.Verdict.{Verdict}
use Rattle.ix_verdict.specs.declared.verdict.Verdict.TheVariants.{Codec, Damaged, Malformed, Sound}
use Rattle.ix_verdict.specs.Verdict.{verdict_by, has_codec}
use Rattle.ix_store.specs.Store.{Blocks}
use Rattle.ix_store.specs.Memo.{Tells, IsTrueWord, AllTrue, hash_matches_by}
use Rattle.ix_store.specs.Sound.{verdict_of_copy, share_of, AllJudged, word_by, is_hashed, word_of, judged_word}

-- ---- many

-- the verdicts up to a pair, and on this pair
pub judged-more : (pairs : Blocks) (from place : ℕ) (e : List ℕ × List ℕ) (vs : List Verdict) (v : Verdict) → from ≤ place → place < length pairs → slice_get pairs place ≡ Some e
    → vs ≡ map verdict_of_copy (drop from (take place pairs)) → v ≡ verdict_of_copy e → vs ++ v ∷ [] ≡ map verdict_of_copy (drop from (take (place + 1) pairs))
judged-more pairs from place e vs v before within at is this =
    let read : get_or pairs place e ≡ e = get_or_from_slice_get pairs place e e at in
    let more : take (place + 1) pairs ≡ take place pairs ++ e ∷ [] = take_more pairs place e within ∙ ap (λ (x : List ℕ × List ℕ). take place pairs ++ x ∷ []) read in
    let long : length (take place pairs) ≡ place = length-take-le place pairs (omega (arith, within)) in
    ap (λ (l : List Verdict). l ++ v ∷ []) is
    ∙ ap (λ (x : Verdict). map verdict_of_copy (drop from (take place pairs)) ++ x ∷ []) this
    ∙ sym (map_push verdict_of_copy (drop from (take place pairs)) e)
    ∙ ap (map verdict_of_copy) (sym (ap (drop from) more ∙ drop-append-le from (take place pairs) (e ∷ []) (omega (arith, long, before))))

-- the same part of a list, whether its bounds are cut to the length
pub same-part : {X : Type 0} (xs : List X) (from to a b : ℕ) → (from ≡ a) ⊎ ((length xs ≤ from) × (length xs ≤ a)) → (to ≡ b) ⊎ ((length xs ≤ to) × (length xs ≤ b))
    → drop from (take to xs) ≡ drop a (take b xs)
same-part xs from to a b first last =
    let front : take to xs ≡ take b xs = ⊎_elim (λ same. ap (λ (n : ℕ). take n xs) same) (λ past. take_all to xs past.0 ∙ sym (take_all b xs past.1)) last in
    ap (drop from) front ∙ ⊎_elim (λ same. ap (λ (n : ℕ). drop n (take b xs)) same) (λ past.
    let less = length-take b xs in
    drop_of_length-le (take b xs) (omega (arith, less, past.0)) ∙ sym (drop_of_length-le (take b xs) (omega (arith, less, past.1)))) first

-- the verdicts on a share that could all be found
pub judged-here : (pairs : Blocks) (share : ℕ) (shares : List (Result (Vec Verdict) AllocError)) (n : ℕ) (r : Result (Vec Verdict) AllocError) (vs : Vec Verdict) → AllJudged pairs share shares → n < length shares → r ≡ get_or shares n r → r ≡ Ok vs
    → vs.items ≡ map verdict_of_copy (share_of share n pairs)
judged-here pairs share shares n r vs all less read is =
    subst (λ (o : Result (Vec Verdict) AllocError). IfOk o (λ v. v.items ≡ map verdict_of_copy (share_of share n pairs))) (sym read ∙ is) (all n r less)

-- the pairs of the shares so far, and of one more
pub share-more : (pairs : Blocks) (share n : ℕ) → take (n * share) pairs ++ share_of share n pairs ≡ take (n * share + share) pairs
share-more pairs share n =
    ap (λ (l : Blocks). l ++ share_of share n pairs) (sym (take-take (n * share) (n * share + share) pairs (omega arith)))
    ∙ take-append-drop (n * share) (take (n * share + share) pairs)

-- the verdicts on them
pub join-more : (pairs : Blocks) (share n : ℕ) (vs more : List Verdict) → vs ≡ map verdict_of_copy (take (n * share) pairs) → more ≡ map verdict_of_copy (share_of share n pairs)
    → vs ++ more ≡ map verdict_of_copy (take ((n + 1) * share) pairs)
join-more pairs share n vs more is this =
    let next : n * share + share ≡ (n + 1) * share = omega arith in
    ap (λ (l : List Verdict). l ++ more) is ∙ ap (λ (l : List Verdict). map verdict_of_copy (take (n * share) pairs) ++ l) this
    ∙ sym (map-append verdict_of_copy (take (n * share) pairs) (share_of share n pairs))
    ∙ ap (map verdict_of_copy) (share-more pairs share n ∙ ap (λ (k : ℕ). take k pairs) next)

-- ---- words

-- what a verdict says, in the digits of its word: by whether the codec is known and is DAG-CBOR, the digest matches, and the
-- bytes don't decode
true_digits : (known coded m f : Bool) (v : Verdict) → v ≡ (if known then (if m then (if coded && f then Malformed else Sound) else Damaged) else Codec) → Tells (word_by coded v % 4) m × Tells (word_by coded v / 4) f
true_digits false coded m f v is = subst (λ (w : Verdict). Tells (word_by coded w % 4) m × Tells (word_by coded w / 4) f) (sym is) (inl refl, inl refl)
true_digits true coded false f v is = subst (λ (w : Verdict). Tells (word_by coded w % 4) false × Tells (word_by coded w / 4) f) (sym is) (inr refl, inl refl)
true_digits true true true true v is = subst (λ (w : Verdict). Tells (word_by true w % 4) true × Tells (word_by true w / 4) true) (sym is) (inr refl, inr refl)
true_digits true true true false v is = subst (λ (w : Verdict). Tells (word_by true w % 4) true × Tells (word_by true w / 4) false) (sym is) (inr refl, inr refl)
true_digits true false true f v is = subst (λ (w : Verdict). Tells (word_by false w % 4) true × Tells (word_by false w / 4) f) (sym is) (inr refl, inl refl)

-- so the word of a pair is true
true_word : (p : List ℕ × List ℕ) → IsTrueWord (judged_word p) p
true_word p = on (hash_function_of (parts_of p.0)) refl where
  c : List ℕ
  c = p.0

  word : Option HashFunction → ℕ
  word f = if is_hashed f then word_by (codec_of c == 0x71) (if has_codec c then verdict_by f c (Some p.1) else Codec) else 0

  True : Option HashFunction → Type 0
  True f = Tells (word f % 4) (hash_matches_by f (digest_of c) p.1) × Tells (word f / 4) (is_none (data_at p.1))

  each : (f : Option HashFunction) → True f
  each None = (inl refl, inl refl)
  each (Some Identity) = (inl refl, inl refl)
  each (Some Sha2_256) = true_digits (has_codec c) (codec_of c == 0x71) (bytes_eq (sha256 p.1) (digest_of c)) (is_none (data_at p.1)) _ refl
  each (Some Sha2_512) = true_digits (has_codec c) (codec_of c == 0x71) (bytes_eq (sha512 p.1) (digest_of c)) (is_none (data_at p.1)) _ refl

  on : (f : Option HashFunction) → f ≡ hash_function_of (parts_of c) → IsTrueWord (judged_word p) p
  on f is = let t : True (hash_function_of (parts_of c)) = each (hash_function_of (parts_of c)) in record { hash_matches_told = t.0; is_malformed_told = t.1 }

-- and the words of all pairs are
pub all_true : (pairs : Blocks) → AllTrue pairs (map judged_word pairs)
all_true pairs place p at =
    let there : slice_index (map judged_word pairs) place ≡ judged_word p = get_or_from_slice_get (map judged_word pairs) place (judged_word p) 0 (slice_get-map judged_word pairs place ∙ ap (option_map judged_word) at) in
    subst (λ (w : ℕ). IsTrueWord w p) (sym there) (true_word p)

-- the words up to a pair, and the word of this pair
pub words-more : (pairs : Blocks) (vs : List Verdict) (place : ℕ) (e : List ℕ × List ℕ) (words : List ℕ) (word : ℕ) (d : Verdict) → vs ≡ map verdict_of_copy pairs → slice_get pairs place ≡ Some e
    → words ≡ map judged_word (take place pairs) → word ≡ word_of e.0 (get_or vs place d) → words ++ word ∷ [] ≡ map judged_word (take (place + 1) pairs)
words-more pairs vs place e words word d all at is this =
    let read : get_or pairs place e ≡ e = get_or_from_slice_get pairs place e e at in
    let verdict : get_or vs place d ≡ verdict_of_copy e =
    ap (λ (l : List Verdict). get_or l place d) all ∙ get_or_from_slice_get (map verdict_of_copy pairs) place (verdict_of_copy e) d (slice_get-map verdict_of_copy pairs place ∙ ap (option_map verdict_of_copy) at) in
    ap (λ (l : List ℕ). l ++ word ∷ []) is
    ∙ ap (λ (n : ℕ). map judged_word (take place pairs) ++ n ∷ []) (this ∙ ap (word_of e.0) verdict)
    ∙ ap (λ (x : List ℕ × List ℕ). map judged_word (take place pairs) ++ judged_word x ∷ []) (sym read)
    ∙ sym (map_more judged_word pairs place e (slice_get_within pairs place e at))
