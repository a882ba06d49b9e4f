-- One verifier more was joined.
use Rattle.std.proofs.Common.{◌≡◌, ℕ, List, [], ◌∷◌, ◌++◌, ap, sym, subst, ◌∙◌, append_assoc, append-nil}
use Rattle.ix_store.specs.Store.{Blocks}
use Rattle.ix_car.specs.Headline.{checked_by}
use Rattle.ix_stages.specs.declared.item.Item.{Item}
use Rattle.ix_stages.specs.declared.verdicted.Verdicted.{Verdicted}
use Rattle.ix_stages.specs.declared.pass_view.PassView.{PassView}
use Rattle.ix_stages.specs.Received.{pairs_of}
use Rattle.ix_stages.specs.Seats.{SeatView}
use Rattle.ix_stages.specs.Sent.{SentFor}
use Rattle.ix_stages.specs.Settled.{taken_by}
use Rattle.ix_stages.specs.Verified.{IsVerified}
use Rattle.ix_pipeline.proofs.Sending.{sent_append, pairs_append}

-- the items of one more seat are after those of the others
pub taken_push : (ss : List SeatView) (s : SeatView) → taken_by (ss ++ s ∷ []) ≡ taken_by ss ++ s.pass.taken
taken_push [] s = append-nil s.pass.taken
taken_push (t ∷ ss) s = ap (λ (l : List Item). t.pass.taken ++ l) (taken_push ss s) ∙ sym (append_assoc t.pass.taken (taken_by ss) s.pass.taken)

-- the pairs of one more check are after those of the others
pub checked_push : {C : Type 0} (checked : C → List (ℕ × ℕ)) (cs : List C) (c : C) → checked_by checked (cs ++ c ∷ []) ≡ checked_by checked cs ++ checked c
checked_push checked [] c = append-nil (checked c)
checked_push checked (d ∷ cs) c = ap (λ (l : List (ℕ × ℕ)). checked d ++ l) (checked_push checked cs c) ∙ sym (append_assoc (checked d) (checked_by checked cs) (checked c))

module _ (store : Blocks) (v w : PassView) (sent sent' : List Verdicted) (checked checked' : List (ℕ × ℕ)) (r : IsVerified store v w sent sent' checked checked') where
  -- a verifier that began with nothing has sent a verdict for all that it took
  pub sent_all : v.taken ≡ [] → sent ≡ [] → SentFor store w.taken sent'
  sent_all none first =
      let d = r.did in
      let a : w.taken ≡ d.taken = ap (λ (h : PassView). h.taken) d.took_is ∙ ap (λ (l : List Item). l ++ d.taken) none in
      let b : sent' ≡ d.passed = d.sent_is ∙ ap (λ (l : List Verdicted). l ++ d.passed) first in
      subst (λ (l : List Item). SentFor store l sent') (sym a) (subst (λ (l : List Verdicted). SentFor store d.taken l) (sym b) d.answers)

  -- and checked just what it sent
  pub checked_all : sent ≡ [] → checked ≡ [] → checked' ≡ pairs_of sent'
  checked_all first none =
      let d = r.did in
      let b : sent' ≡ d.passed = d.sent_is ∙ ap (λ (l : List Verdicted). l ++ d.passed) first in
      d.checked_is ∙ ap (λ (l : List (ℕ × ℕ)). l ++ pairs_of d.passed) none ∙ ap pairs_of (sym b)

-- verdicts sent for more items, after those sent so far
pub sent_more : (store : Blocks) (taken taken' more : List Item) (sent sent' rest : List Verdicted) → taken' ≡ taken ++ more → sent' ≡ sent ++ rest → SentFor store taken sent → SentFor store more rest → SentFor store taken' sent'
sent_more store taken taken' more sent sent' rest e f h k = subst (λ (l : List Item). SentFor store l sent') (sym e) (subst (λ (l : List Verdicted). SentFor store (taken ++ more) l) (sym f) (sent_append store taken sent more rest h k))

-- pairs checked with more verdicts, after those checked so far
pub checked_more : (checked checked' more : List (ℕ × ℕ)) (sent sent' rest : List Verdicted) → checked' ≡ checked ++ more → sent' ≡ sent ++ rest → checked ≡ pairs_of sent → more ≡ pairs_of rest → checked' ≡ pairs_of sent'
checked_more checked checked' more sent sent' rest e f h k = e ∙ ap (λ (l : List (ℕ × ℕ)). l ++ more) h ∙ ap (λ (l : List (ℕ × ℕ)). pairs_of sent ++ l) k ∙ sym (pairs_append sent rest) ∙ ap pairs_of (sym f)
