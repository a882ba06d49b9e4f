-- Where bytes are in shared ones, and what is after what is read.
use Rattle.std.proofs.Common.{◌≡◌, ℕ, Bool, true, false, ◌+◌, ◌-◌, List, [], ◌∷◌, ◌++◌, length, take, drop, refl, sym, ◌∙◌, ap, subst, arith, append_assoc, append-nil, length-append, take-append-drop, drop-drop}
use Rattle.std.specs.Prelude.{Option, Some, None, IfSome, Ok, ◌==◌, if◌then◌else◌}
use Rattle.std.proofs.Math.Seq.{drop-append_seam, take-append_seam}
use Rattle.ix_cid.specs.Bytes.{AreBytes}
use Rattle.ix_cid.specs.Cid.{Parts, digest_of, IsCid}
use Rattle.ix_cid.specs.Held.{StandsAt}
use Rattle.ix_cid.specs.Varint.{varint_of}
use Rattle.ix_cid.proofs.CidLaws.{is_cid, parts_are}
use Rattle.ix_cbor.specs.declared.front.Front.{Front}
use Rattle.ix_cbor.specs.declared.front.Front.TheVariants as fronts
use Rattle.ix_cbor.specs.Data.{Data, link}
use Rattle.ix_cbor.specs.Spelling.{head_of, key_spelling, spelling_of}
use Rattle.ix_cbor.specs.Reading.{item_at, key_at, own_at, leaf}
use Rattle.ix_cbor.specs.Fronts.{own_of_front, behind, after_item}
use Rattle.ix_cbor.proofs.Bytes.{IsBytes}
use Rattle.ix_cbor.proofs.Keys.{key_taken}
use Rattle.ix_cbor.proofs.Owns.{own_spelling, own_taken}
use Rattle.ix_cbor.proofs.Sound.{item_sound}
use Rattle.ix_cbor.proofs.Steps.{bind_ok, ok_same}
use Rattle.ix_store.specs.Cursor.{EndsAt, EndsWith, HasBefore, LinkBefore}

-- what is inside bytes that are in the whole
stands_inside : (whole : List ℕ) (start : ℕ) (bytes front part rest : List ℕ) → StandsAt whole start bytes → bytes ≡ front ++ (part ++ rest) → StandsAt whole (start + length front) part
stands_inside whole start bytes front part rest stands is =
    let more = drop (length bytes) (drop start whole) in
    let all : drop start whole ≡ front ++ (part ++ (rest ++ more)) =
    sym (take-append-drop (length bytes) (drop start whole)) ∙ ap (λ (l : List ℕ). l ++ more) (stands ∙ is) ∙ append_assoc front (part ++ rest) more ∙ ap (λ (l : List ℕ). front ++ l) (append_assoc part rest more) in
    ap (take (length part)) (sym (drop-drop (length front) start whole) ∙ ap (drop (length front)) all ∙ drop-append_seam front (part ++ (rest ++ more))) ∙ take-append_seam part (rest ++ more)

-- the end of bytes has their end
ends_after : (whole : List ℕ) (end : ℕ) (bytes rest : List ℕ) → EndsAt whole end bytes → EndsWith bytes rest → EndsAt whole end rest
ends_after whole end bytes rest ends w =
    let size : length bytes ≡ length w.0 + length rest = ap length w.1 ∙ length-append w.0 rest in
    let h = ends.0 in
    let at : end - length bytes + length w.0 ≡ end - length rest = omega (arith, size, h) in (
      omega (arith, size, h),
      subst (λ (k : ℕ). StandsAt whole k rest) at (stands_inside whole (end - length bytes) bytes w.0 rest [] ends.1 (w.1 ∙ ap (λ (l : List ℕ). w.0 ++ l) (sym (append-nil rest)))),
    )

-- what remains of bytes ends where they do
pub still_ends : {A : Type 0} (whole : A → List ℕ) (end : Option (A × ℕ)) (bytes rest : List ℕ) → EndsWith bytes rest → IfSome end (λ p. EndsAt (whole p.0) p.1 bytes) → IfSome end (λ p. EndsAt (whole p.0) p.1 rest)
still_ends whole None bytes rest w ends = tt
still_ends whole (Some p) bytes rest w ends = ends_after (whole p.0) p.1 bytes rest ends w

-- where the CID of a link is
pub link_stands : (whole : List ℕ) (end : ℕ) (bytes part rest : List ℕ) → EndsAt whole end bytes → HasBefore bytes part rest → StandsAt whole (end - length rest - length part) part
link_stands whole end bytes part rest ends w =
    let size : length bytes ≡ length w.0 + (length part + length rest) = ap length w.1 ∙ length-append w.0 (part ++ rest) ∙ ap (λ (n : ℕ). length w.0 + n) (length-append part rest) in
    let h = ends.0 in
    let at : end - length bytes + length w.0 ≡ end - length rest - length part = omega (arith, size, h) in
    subst (λ (k : ℕ). StandsAt whole k part) at (stands_inside whole (end - length bytes) bytes w.0 part rest ends.1 w.1)

-- bytes that are somewhere end there
stands_end : (whole : List ℕ) (start : ℕ) (bytes : List ℕ) → StandsAt whole start bytes → EndsAt whole (start + length bytes) bytes
stands_end whole start bytes stands =
    let at : start ≡ start + length bytes - length bytes = omega arith in (omega arith, subst (λ (k : ℕ). StandsAt whole k bytes) at stands)

-- the digest is the end of a CID
spelled_end : (v : Bool) (a b c e d : List ℕ) → EndsWith (if v then 0x12 ∷ 0x20 ∷ d else a ++ (b ++ (c ++ (e ++ d)))) d
spelled_end true a b c e d = (0x12 ∷ 0x20 ∷ [], refl)
spelled_end false a b c e d = (
  a ++ (b ++ (c ++ e)),
  sym (append_assoc a (b ++ (c ++ e)) d ∙ ap (λ (l : List ℕ). a ++ l) (append_assoc b (c ++ e) d ∙ ap (λ (l : List ℕ). b ++ l) (append_assoc c e d))),
)

-- a CID ends with its digest
digest_end : (c : List ℕ) → AreBytes c → IsCid c → EndsWith c (digest_of c)
digest_end c bytes cid =
    let p = is_cid c bytes cid in
    let w = spelled_end (p.0.version == 0) (varint_of p.0.version) (varint_of p.0.codec) (varint_of p.0.hash_code) (varint_of (length p.0.digest)) p.0.digest in
    subst (EndsWith c) (ap (λ (q : Parts). q.digest) (sym (parts_are c p.0 p.1))) (w.0, p.1.spelled ∙ w.1)

-- so the digest ends where the CID does
pub digest_ends : (whole : List ℕ) (start : ℕ) (c : List ℕ) → AreBytes c → IsCid c → StandsAt whole start c → EndsAt whole (start + length c) (digest_of c)
digest_ends whole start c bytes cid stands = ends_after whole (start + length c) c (digest_of c) (stands_end whole start c stands) (digest_end c bytes cid)

-- ---- after what is read

-- after an item's own part
pub front_end : (f : Front) (at behind : List ℕ) → IsBytes at → own_at at ≡ Ok (own_of_front f, behind) → EndsWith at behind
front_end f at behind bytes own = (own_spelling (own_of_front f), (own_taken at (own_of_front f) behind bytes own).parts)

-- after a link, before which its CID is
link_before : (c at behind : List ℕ) → IsBytes at → own_at at ≡ Ok (leaf (link c), behind) → HasBefore at c behind
link_before c at behind bytes own =
    let head = head_of 2 (length c + 1) in (
      0xd8 ∷ 0x2a ∷ (head ++ 0 ∷ []),
      (own_taken at (leaf (link c)) behind bytes own).parts ∙ ap (λ (l : List ℕ). 0xd8 ∷ 0x2a ∷ l) (append_assoc head (0 ∷ c) behind ∙ sym (append_assoc head (0 ∷ []) (c ++ behind))),
    )

-- a link's CID is right before what follows the link
pub link_end : (f : Front) (at behind : List ℕ) → IsBytes at → own_at at ≡ Ok (own_of_front f, behind) → LinkBefore at f behind
link_end (fronts.Link c) at behind bytes own = link_before c.now at behind bytes own
link_end fronts.Null at behind bytes own = tt
link_end (fronts.Bool b) at behind bytes own = tt
link_end (fronts.Int n) at behind bytes own = tt
link_end (fronts.Bits64 bits) at behind bytes own = tt
link_end (fronts.Bytes b) at behind bytes own = tt
link_end (fronts.Text t) at behind bytes own = tt
link_end (fronts.List n) at behind bytes own = tt
link_end (fronts.Map n) at behind bytes own = tt

-- after an item
item_end : (at rest : List ℕ) (d : Data) → IsBytes at → item_at 512 at ≡ Ok (d, rest) → EndsWith at rest
item_end at rest d bytes e = (spelling_of d, (item_sound 512 at d rest bytes e).whole)

-- after an item that is skipped
pub skip_end : (at rest : List ℕ) → IsBytes at → after_item 512 at ≡ Ok rest → EndsWith at rest
skip_end at rest bytes e =
    let x = bind_ok (item_at 512 at) behind rest e in subst (EndsWith at) (ok_same x.0.1 rest x.2) (item_end at x.0.1 x.0.0 bytes x.1)

-- after a key
pub key_end : (at k rest : List ℕ) → IsBytes at → key_at None at ≡ Ok (k, rest) → EndsWith at rest
key_end at k rest bytes e = (key_spelling k, (key_taken None at k rest bytes e).parts)
