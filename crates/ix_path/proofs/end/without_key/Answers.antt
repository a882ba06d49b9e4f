use Rattle.std.proofs.Common.{◌≡◌, true, false, sym, ◌∙◌, ap}
use Rattle.ix_cbor.specs.Data.{map, node_entries}
use Rattle.ix_path.specs.End.{is_enveloped}
use Rattle.ix_path.proofs.SelectorNodes.{other_map, in_envelope}
use Rattle.ix_path.proofs.end.without_key.Goals as goal

pub returns-then-not-are_envelope : goal.returns-then-not-are_envelope
returns-then-not-are_envelope c =
    let test : is_enveloped (map (node_entries c.args.entries.items)) ≡ false =
    sym (c.are_envelope.ensures ∙ ap (λ es. is_enveloped (map (node_entries es))) c.as_slice.ensures.value) ∙ c.if-not-are_envelope.true in
    other_map c.args.entries test

pub returns-in-Some : goal.returns-in-Some
returns-in-Some c =
    let test : is_enveloped (map (node_entries c.args.entries.items)) ≡ true =
    sym (c.are_envelope.ensures ∙ ap (λ es. is_enveloped (map (node_entries es))) c.as_slice.ensures.value) ∙ c.if-not-are_envelope.false in
    in_envelope c.args.entries.items c.pop.new.self.items (c.in-Some._key, c.in-Some.inner) test c.in-Some.ensures.items
