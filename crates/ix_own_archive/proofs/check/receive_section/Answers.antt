use Rattle.std.proofs.Common.{◌≡◌, List, ℕ, sym, subst, arith}
use Rattle.std.specs.Prelude.{Some}
use Rattle.std.proofs.lemmas.Option.{IfSome_then}
use Rattle.ix_verdict.specs.Verdict.{verdict_with}
use Rattle.ix_receive.specs.Reception.{Receives, IsRefused, IsRightlyRefused}
use Rattle.ix_own_archive.specs.Checking.{IsRefusedAt}
use Rattle.ix_own_archive.proofs.Written.{section-written, are-bytes}
use Rattle.ix_own_archive.proofs.check.receive_section.Goals as goal

pub known_verdict-verdict-requires : goal.known_verdict-verdict-requires
known_verdict-verdict-requires c =
    let p : List ℕ × List ℕ = (c.in-Ok.read.0.cid, c.in-Ok.read.0.block.now) in
    IfSome_then c.args.known c.requires
    (λ v is. subst (λ (x : List ℕ). v ≡ verdict_with x (Some p.1)) (sym c.in-Ok-to_cid.ensures.same) (is (p, c.in-Ok.read.1.now) c.in-Ok.ensures.section.read))

pub returns-in-Ok-offer_judged-clause-received : goal.returns-in-Ok-offer_judged-clause-received
returns-in-Ok-offer_judged-clause-received c =
    let p : List ℕ × List ℕ = (c.in-Ok.read.0.cid, c.in-Ok.read.0.block.now) in
    let w = section-written c.args.bytes.now p c.in-Ok.read.1.now (are-bytes c.args.bytes.now (λ i. omega (arith, c.type_inv.bytes i))) c.in-Ok.ensures.section.read in
    record {
      section = p;
      written = w.whole;
      cid = w.cid;
      receives = subst (λ (x : List ℕ). Receives c.args.receiver.now (x, p.1) c.offer_judged.new.self) c.in-Ok-to_cid.ensures.same c.in-Ok-offer_judged.ensures.received;
    }

pub returns-in-Ok-to_cid-2-clause-refused : goal.returns-in-Ok-to_cid-2-clause-refused
returns-in-Ok-to_cid-2-clause-refused c =
    let r = c.args.receiver.now in
    let fault = c.in-Err-offer_judged.fault in
    let p : List ℕ × List ℕ = (c.in-Ok.read.0.cid, c.in-Ok.read.0.block.now) in
    let w = section-written c.args.bytes.now p c.in-Ok.read.1.now (are-bytes c.args.bytes.now (λ i. omega (arith, c.type_inv.bytes i))) c.in-Ok.ensures.section.read in
    subst (λ (x : List ℕ). IsRefusedAt r c.args.bytes.now x fault) (sym c.in-Ok-to_cid-2.ensures.same)
    (record {
      block = p.1;
      rest = c.in-Ok.read.1.now;
      written = w.whole;
      cid = w.cid;
      refused = subst (λ (x : List ℕ). IsRefused r (x, p.1) fault) c.in-Ok-to_cid.ensures.same c.in-Err-offer_judged.ensures.refused;
      rightly = subst (λ (x : List ℕ). IsRightlyRefused r (x, p.1) fault) c.in-Ok-to_cid.ensures.same c.in-Err-offer_judged.ensures.rightly;
    })
