use Rattle.std.proofs.Common.{◌≡◌, ◌++◌, take, string_bytes}
use Rattle.ix_jobs.specs.Report.{skip_lines}
use Rattle.ix_jobs.proofs.results.push_skip_lines.Given as goal

abbrev pub invariant-loop-skip : goal.invariant-loop-skip
invariant-loop-skip l = string_bytes l.text ≡ string_bytes l.fn.text ++ skip_lines (take l.skip-index l.skips)
