use Rattle.std.proofs.Common.{◌≡◌, ◌++◌, [], ◌∷◌, List, ℕ, String, Global, string_bytes, sym, ap, ◌∙◌, arith}
use Rattle.std.specs.Prelude.{codes}
use Rattle.ix_cid.specs.Cid.{version_of}
use Rattle.ix_cid.specs.CidText.{base32_of, hex_of, text_of}
use Rattle.ix_cid.proofs.Texts.{text_of-version_0, text_of-other}
use Rattle.ix_cid.proofs.cid.Cid.text.Goals as goal
use Rattle.ix_cid.proofs.cid.Cid.text.Goals.{then-version-eq0+in_ok-push_str+in_ok-append, else-version-eq0+in_ok-push+in_ok-append-2}

pub returns : goal.returns
returns c =
    let bytes = c.args.self.now in
    let version : c.version.result ≡ version_of bytes = c.version.ensures in
    elim c.if-version-eq0.branch [
      | then-version-eq0+in_ok-push_str+in_ok-append w ↦
          let front : string_bytes w.push_str.new.self ≡ codes "v0-" =
          w.in_ok-push_str.ensures.bytes ∙ ap (λ (x : List ℕ). x ++ codes "v0-") c.new-text.ensures.bytes in
          let whole : string_bytes w.append.new.text ≡ codes "v0-" ++ hex_of bytes =
          w.in_ok-append.ensures
          ∙ ap (λ (x : List ℕ). x ++ hex_of w.as_bytes.result.now) front
          ∙ ap (λ (x : List ℕ). codes "v0-" ++ hex_of x) w.as_bytes.ensures.bytes in
          let text : text_of bytes ≡ codes "v0-" ++ hex_of bytes = text_of-version_0 bytes (sym version ∙ w.if-version-eq0.true) in
          record { exact = ap (λ (x : String Global). string_bytes x) w.text-is ∙ whole ∙ sym text }
      | else-version-eq0+in_ok-push+in_ok-append-2 w ↦
          let front : string_bytes w.push.new.self ≡ 98 ∷ [] =
          w.in_ok-push.ensures.bytes
          ∙ ap (λ (x : List ℕ). string_bytes c.new-text.result ++ x) (w.push.ensures.ascii (omega arith))
          ∙ ap (λ (x : List ℕ). x ++ 98 ∷ []) c.new-text.ensures.bytes in
          let whole : string_bytes w.append-else-version-eq0.new.text ≡ 98 ∷ base32_of bytes =
          w.in_ok-append-2.ensures
          ∙ ap (λ (x : List ℕ). x ++ base32_of w.as_bytes-else-version-eq0.result.now) front
          ∙ ap (λ (x : List ℕ). 98 ∷ base32_of x) w.as_bytes-else-version-eq0.ensures.bytes in
          let text : text_of bytes ≡ 98 ∷ base32_of bytes = text_of-other bytes (λ none. w.if-version-eq0.false (version ∙ none)) in
          record { exact = ap (λ (x : String Global). string_bytes x) w.text-is ∙ whole ∙ sym text }
    ]
