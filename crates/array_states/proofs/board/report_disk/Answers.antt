-- A report has one answer, and the pass finds an answer to it (`is_one_pass`).
use mathlib.Core.Path.{◌∙◌}
use Rattle.array_states.proofs.ScanLaws.{is_one_pass}
use Rattle.array_states.proofs.board.report_disk.Goals as goal

pub returns-clause-pass : goal.returns-clause-pass
returns-clause-pass c = c.into.ensures ∙ is_one_pass c.args.list.now c.args.which c.args.disk c.args.back _ _ c.try_report.ensures
