-- `line_end`: LF is looked for first, then CR LF.
use Rattle.plan_texts.proofs.FrontLaws.{end_reads}
use Rattle.plan_texts.proofs.letters.line_end.Goals as goal

pub returns : goal.returns
returns c = rw c.or.ensures (end_reads c.args.text.now c.strip_prefix.result c.strip_prefix-2.result c.strip_prefix.ensures.cases c.strip_prefix-2.ensures.cases)
