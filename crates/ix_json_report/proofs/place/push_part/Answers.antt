use Rattle.std.specs.Prelude.{codes}
use Rattle.ix_json_report.specs.Members.{text_member, number_member}
use Rattle.ix_json_report.proofs.Objects.{appends_both}
use Rattle.ix_json_report.proofs.place.push_part.Goals as goal

-- the path is appended, and then the size
pub returns : goal.returns
returns c = appends_both c.args.out.now c.push_text.new.out c.push_number.new.out (text_member (codes "part") c.args.path.now) (number_member (codes "part_bytes") c.args.size) c.push_number.result c.in_ok-push_text.ensures.0 c.in_ok-push_text.ensures.1 c.push_number.ensures
