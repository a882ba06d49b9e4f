use Rattle.std.proofs.lemmas.List.{length-map}
use Rattle.ix_cid.specs.Cid.{codec_of, hash_code_of}
use Rattle.ix_sections.specs.Sections.{SectionMeaning}
use Rattle.ix_verify.specs.Tallied.{codecs_of, hash_codes_of}
use Rattle.ix_verify.proofs.summary.Summary.add.Goals as goal

pub count_in-requires : goal.count_in-requires
count_in-requires c =
    let few = c.requires.few in
    record { few = (codecs_of few.0, few.1.codecs, rw (length-map few.0 (λ (x : SectionMeaning). codec_of x.cid)) few.2) }

pub count_in-requires-2 : goal.count_in-requires-2
count_in-requires-2 c =
    let few = c.requires.few in
    record { few = (hash_codes_of few.0, few.1.hashes, rw (length-map few.0 (λ (x : SectionMeaning). hash_code_of x.cid)) few.2) }
