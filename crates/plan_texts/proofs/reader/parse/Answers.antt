-- `parse`: the names, their line end, then the lines behind it.
use Rattle.plan_texts.proofs.LineLaws.{no_names, no_names_end, all_read}
use Rattle.plan_texts.proofs.reader.parse.Goals as goal

pub returns-in_err-after_names : goal.returns-in_err-after_names
returns-in_err-after_names c = rw c.from_residual.ensures (no_names c.args.width c.args.text.now c.in_err-after_names.ensures.cases)

pub returns-in_err-line_end : goal.returns-in_err-line_end
returns-in_err-line_end c =
    let n = c.in_ok-after_names in
    rw c.from_residual-in_err-line_end.ensures (no_names_end c.args.width c.args.text.now n.ensures.cases.0 n.after_names.now n.ensures.cases.1 c.in_err-line_end.ensures)

pub returns : goal.returns
returns c =
    let n = c.in_ok-after_names in
    let e = c.in_ok-line_end in
    all_read c.args.width c.args.text.now n.ensures.cases.0 n.after_names.now n.ensures.cases.1 e.ensures.0 e.field-0.now e.ensures.1 c.lines.result c.lines.ensures
