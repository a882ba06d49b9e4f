use Rattle.ix_cid.proofs.Texts.{cid_of_text-text_of, cid_of_text-ok}
use Rattle.ix_cid.proofs.text_law.text_is_read_where_it_is_spelled.Goals as goal

pub returns-clause-read : goal.returns-clause-read
returns-clause-read c bytes are is one = cid_of_text-text_of bytes are is one

pub returns-clause-only : goal.returns-clause-only
returns-clause-only c t bytes h = cid_of_text-ok t bytes h
