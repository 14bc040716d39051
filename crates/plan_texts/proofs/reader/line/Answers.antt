-- `line`: the parts one behind the other, each at the front of what the one before it leaves.
use Rattle.plan_texts.proofs.LineLaws.{no_row, no_set, no_last, no_end, line_reads}
use Rattle.plan_texts.proofs.reader.line.Goals as goal

pub returns-in_err-row : goal.returns-in_err-row
returns-in_err-row c = rw c.from_residual.ensures (no_row c.args.text.now c.in_err-row.ensures)

pub returns-in_err-kind : goal.returns-in_err-kind
returns-in_err-kind c =
    let r = c.in_ok-row in
    rw c.from_residual-in_err-kind.ensures (no_set c.args.text.now r.ensures.0 r.after_row.now r.ensures.1.1 c.in_err-kind.ensures)

pub returns-in_err-number : goal.returns-in_err-number
returns-in_err-number c =
    let r = c.in_ok-row in
    let s = c.in_ok-kind in
    rw c.from_residual-in_err-number.ensures (no_last c.args.text.now r.ensures.0 r.after_row.now r.ensures.1.1 s.ensures.0 s.after_set.now s.ensures.1.1 c.in_err-number.ensures)

pub returns-in_err-after_line : goal.returns-in_err-after_line
returns-in_err-after_line c =
    let r = c.in_ok-row in
    let s = c.in_ok-kind in
    let n = c.in_ok-number in
    rw c.from_residual-in_err-after_line.ensures
    (no_end c.args.text.now r.ensures.0 r.after_row.now r.ensures.1.1 s.ensures.0 s.after_set.now s.ensures.1.1 n.ensures.0 n.after_number.now n.ensures.1.1 c.in_err-after_line.ensures)

pub returns : goal.returns
returns c =
    let r = c.in_ok-row in
    let s = c.in_ok-kind in
    let n = c.in_ok-number in
    let e = c.in_ok-after_line in
    line_reads c.args.text.now r.ensures.0 r.after_row.now r.ensures.1.1 s.ensures.0 s.after_set.now s.ensures.1.1 n.ensures.0 n.after_number.now n.ensures.1.1
    r.row s.kind n.number e.after_line r.ensures.1.0 s.ensures.1.0 n.ensures.1.0 e.ensures.0 e.ensures.1
