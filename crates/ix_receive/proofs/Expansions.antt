-- What is expanded at a link, over sections that are sound.
use Rattle.std.proofs.Common.{◌≡◌, ℕ, Bool, true, false, cond, List, [], ◌∷◌, ◌++◌, ◌+◌, reverse, refl, sym, ◌∙◌, ap, subst}
use Rattle.std.specs.Prelude.{Option, Some, None, not, option_and_then, if◌then◌else◌, ◌&&◌, ◌||◌, bytes_eq}
use Rattle.std.specs.List.{list_any}
use Rattle.std.specs.Cmp.{tied_then}
use Rattle.std.specs.Ordering.{nat_cmp, is_eq}
use Rattle.std.specs.Cmp.Lexicographic.{slice_cmp}
use Rattle.std.specs.BTreeMap.{is_at}
use Rattle.std.specs.BTreeSet.{BTreeSet, contains, Updates, IsUnchanged}
use Rattle.std.proofs.Math.Path.{fun_ext}
use Rattle.std.proofs.lemmas.Map.Text.{is_eq-slice_cmp}
use Rattle.std.proofs.lemmas.Slice.Eq.{bytes_eq-Decides}
use Rattle.sha2.specs.Sha256.{sha256}
use Rattle.sha2.specs.Sha512.{sha512}
use Rattle.ix_cid.specs.Cid.{parts_of, digest_of, hash_function_of}
use Rattle.ix_cid.specs.declared.hash_function.HashFunction.{HashFunction}
use Rattle.ix_cid.specs.declared.hash_function.HashFunction.TheVariants.{Identity, Sha2_256, Sha2_512}
use Rattle.ix_cbor.specs.Data.{Data}
use Rattle.ix_cbor.specs.Reading.{data_at}
use Rattle.ix_selector.specs.Residual.{Place}
use Rattle.ix_selector.specs.Behind.{same_residual, residual_order}
use Rattle.ix_selector.specs.Compared.{residual_ties}
use Rattle.ix_verdict.specs.declared.verdict.Verdict.TheVariants.{Codec, Damaged, Malformed, Sound}
use Rattle.ix_verdict.specs.Verdict.{has_codec, verdict_by, verdict_with, is_no_data, is_sound}
use Rattle.ix_store.specs.Store.{Blocks, block_of, bytes_by, is_dag_cbor, value_of}
use Rattle.ix_walk.specs.declared.subtree.PendingLink.{PendingLink}
use Rattle.ix_walk.specs.VisitedSet.{cid_order}
use Rattle.ix_walk.specs.Arriving.{IsValue}
use Rattle.ix_walk.specs.Once.{bytes_match_by, sound_value}
use Rattle.ix_walk.specs.Walking.{waiting, Going, nothing_expanded, expanded_also, data_inside, expanded_after, links_inside}
use Rattle.ix_walk.specs.Expansion.{AreLinksIn}
use Rattle.ix_receive.specs.Waiting.{IsPutBefore}
use Rattle.ix_receive.specs.Traversal.{expanded_by, Expands}
use Rattle.ix_known.specs.Known.{AreSound}

-- ---- sound sections

-- the block that a CID has is sound
pub block-is_sound : (store : Blocks) → AreSound store → (c b : List ℕ) → block_of store c ≡ Some b → is_sound (verdict_with c (Some b)) ≡ true
block-is_sound [] all c b at = absurd (cc at)
block-is_sound (e ∷ es) all c b at = by (bytes_eq e.0 c) refl at (block-is_sound es all.1 c b) where
  by : (v : Bool) → bytes_eq e.0 c ≡ v → (if v then Some e.1 else block_of es c) ≡ Some b → (block_of es c ≡ Some b → is_sound (verdict_with c (Some b)) ≡ true) → is_sound (verdict_with c (Some b)) ≡ true
  by true is found later =
      let same : e.1 ≡ b = cc found in
      let named : e.0 ≡ c = (bytes_eq-Decides e.0 c).0 is in
      subst (λ (d : List ℕ). is_sound (verdict_with d (Some b)) ≡ true) named (subst (λ (x : List ℕ). is_sound (verdict_with e.0 (Some x)) ≡ true) same all.0)
  by false isnt found later = later found

-- the data of a CID by its hash function and its block
abbrev data_by : Option HashFunction → List ℕ → Option (List ℕ) → Option Data
data_by f c o = if is_dag_cbor c then option_and_then data_at (bytes_by f (digest_of c) o) else None

-- nothing either way
no-data : (dag : Bool) → None ≡ (if dag then option_and_then data_at None else None)
no-data true = refl
no-data false = refl

-- a sound verdict says that the hash matches
sound-hash : (raw agrees : Bool) (m : Bool) → is_sound (if raw then (if agrees then (if m then Malformed else Sound) else Damaged) else Codec) ≡ true → agrees ≡ true
sound-hash true true m h = refl
sound-hash true false m h = absurd (cc h)
sound-hash false agrees m h = absurd (cc h)

-- so what is there is sound
value-by : (f : Option HashFunction) (c : List ℕ) (o : Option (List ℕ)) → ((b : List ℕ) → o ≡ Some b → is_sound (if has_codec c then verdict_by f c (Some b) else Codec) ≡ true)
    → (if bytes_match_by f (digest_of c) o then data_by f c o else None) ≡ data_by f c o
value-by None c o h = no-data (is_dag_cbor c)
value-by (Some Identity) c o h = refl
value-by (Some Sha2_256) c None h = no-data (is_dag_cbor c)
value-by (Some Sha2_512) c None h = no-data (is_dag_cbor c)
value-by (Some Sha2_256) c (Some b) h = ap (λ v. if v then data_by (Some Sha2_256) c (Some b) else None) (sound-hash (has_codec c) (bytes_eq (sha256 b) (digest_of c)) (is_no_data c b) (h b refl))
value-by (Some Sha2_512) c (Some b) h = ap (λ v. if v then data_by (Some Sha2_512) c (Some b) else None) (sound-hash (has_codec c) (bytes_eq (sha512 b) (digest_of c)) (is_no_data c b) (h b refl))

pub value-sound : (store : Blocks) → AreSound store → (c : List ℕ) → sound_value store c ≡ value_of store c
value-sound store all c = value-by (hash_function_of (parts_of c)) c (block_of store c) (λ b at. block-is_sound store all c b at)

-- ---- what was expanded

-- CIDs with residuals are the same where their order is equal
pair-tied : (c d : List ℕ) (places others : List Place) → (bytes_eq c d && same_residual places others) ≡ is_eq (cid_order (c, places) (d, others))
pair-tied c d places others = (λ i. sym (is_eq-slice_cmp c d) i && residual_ties places others i) ∙ tied_then (slice_cmp nat_cmp c d) (residual_order places others)

-- one more, or what was there
pub cond-or : (b c : Bool) → cond b true c ≡ (b || c)
cond-or true c = refl
cond-or false c = refl

-- a pair more
expanded-more : (old new : BTreeSet (List ℕ × List Place)) (c : List ℕ) (places : List Place) → Updates cid_order old new (c, places) true → expanded_by new ≡ expanded_also c places (expanded_by old)
expanded-more old new c places updates = fun_ext (λ d. fun_ext (λ others.
    updates.0 (d, others) ∙ cond-or (is_eq (cid_order (c, places) (d, others))) (contains cid_order old (d, others)) ∙ ap (λ b. b || expanded_by old d others) (sym (pair-tied c d places others))))

-- what was expanded, by the pairs
abbrev expanded_in : List (List ℕ × List Place) → Going
expanded_in pairs c places = list_any (is_at (cid_order (c, places))) pairs

-- the same pairs
expanded-same : (old new : BTreeSet (List ℕ × List Place)) → IsUnchanged old new → expanded_by new ≡ expanded_by old
expanded-same old new same = ap expanded_in same

-- nothing at first
pub expanded-none : (set : BTreeSet (List ℕ × List Place)) → set.keys ≡ [] → expanded_by set ≡ nothing_expanded
expanded-none set none = ap expanded_in none

-- what a negation is the negation of
pub not-is : (b x : Bool) → b ≡ not x → x ≡ not b
not-is true true e = absurd (cc e)
not-is true false e = refl
not-is false true e = refl
not-is false false e = absurd (cc e)

-- ---- a link

-- none of it is expanded
nothing-in : (store : Blocks) (f : PendingLink) (had has : BTreeSet (List ℕ × List Place)) (old : List PendingLink) → data_inside store (Some (expanded_by had)) f ≡ None → expanded_by has ≡ expanded_by had
    → Expands store f had old has old
nothing-in store f had has old none same = record {
  expanded = ap (λ (g : Going). Some g) same ∙ sym (ap (λ o. expanded_after o f (Some (expanded_by had))) none);
  links = sym (ap (λ o. links_inside f.residual (f.depth + 1) o ++ reverse old) none);
}

-- a CID without data
pub expands-nothing : (store : Blocks) → AreSound store → (places : List Place) (depth : ℕ) (c : List ℕ) (had : BTreeSet (List ℕ × List Place)) (old : List PendingLink) → IsValue (value_of store c) None
    → Expands store (waiting places depth c) had old had old
expands-nothing store all places depth c had old none =
    nothing-in store (waiting places depth c) had had old (either (expanded_by had c places) (sound_value store c) (value-sound store all c ∙ none)) refl where
      either : (b : Bool) (o : Option Data) → o ≡ None → (if b then None else o) ≡ None
      either true o is = refl
      either false o is = is

-- one that was expanded before
pub expands-again : (store : Blocks) (places : List Place) (depth : ℕ) (c d : List ℕ) (others : List Place) (had has : BTreeSet (List ℕ × List Place)) (old : List PendingLink) → d ≡ c → others ≡ places
    → false ≡ not (contains cid_order had (d, others)) → IsUnchanged had has → Expands store (waiting places depth c) had old has old
expands-again store places depth c d others had has old named left again same =
    let there : expanded_by had c places ≡ true = (λ i. expanded_by had (sym named i) (sym left i)) ∙ not-is false (expanded_by had d others) again in
    nothing-in store (waiting places depth c) had has old (ap (λ b. if b then None else sound_value store c) there) (expanded-same had has same)

-- one that is expanded for the first time
pub expands-first : (store : Blocks) → AreSound store → (places : List Place) (depth : ℕ) (c d b : List ℕ) (others : List Place) (had has : BTreeSet (List ℕ × List Place)) (links old new : List PendingLink) → d ≡ c → others ≡ places
    → IsValue (value_of store c) (Some b) → true ≡ not (contains cid_order had (d, others)) → Updates cid_order had has (d, others) true → AreLinksIn b places (depth + 1) links → IsPutBefore links old new
    → Expands store (waiting places depth c) had old has new
expands-first store all places depth c d b others had has links old new named left value first updates are put =
    let there : expanded_by had c places ≡ false = (λ i. expanded_by had (sym named i) (sym left i)) ∙ not-is true (expanded_by had d others) first in
    let inside : data_inside store (Some (expanded_by had)) (waiting places depth c) ≡ Some value.0 = ap (λ b. if b then None else sound_value store c) there ∙ value-sound store all c ∙ value.1 in
    record {
      expanded =
          ap (λ (g : Going). Some g) (expanded-more had has d others updates ∙ (λ i. expanded_also (named i) (left i) (expanded_by had)))
          ∙ sym (ap (λ o. expanded_after o (waiting places depth c) (Some (expanded_by had))) inside);
      links = put ∙ ap (λ (l : List PendingLink). l ++ reverse old) (are value.0 value.2) ∙ sym (ap (λ o. links_inside places (depth + 1) o ++ reverse old) inside);
    }
