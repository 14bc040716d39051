-- `set`: a comma, a letter and a comma, each test on what the one before it leaves.
use Rattle.plan_texts.proofs.FrontLaws.{set_first, set_short, set_no_letter, set_no_comma, set_reads}
use Rattle.plan_texts.proofs.letters.set.Goals as goal

pub returns-in_err-strip_prefix : goal.returns-in_err-strip_prefix
returns-in_err-strip_prefix c = rw c.from_residual.ensures (set_first c.args.text.now c.in_err-strip_prefix.ensures.cases)

pub returns-in_err-letter : goal.returns-in_err-letter
returns-in_err-letter c =
    let k = c.in_ok-strip_prefix in
    rw c.from_residual-in_err-letter.ensures (set_short c.args.text.now k.field-0.now k.ensures.cases.0 k.ensures.cases.1 c.in_err-letter.ensures.cases)

pub returns-in_err-kind_of : goal.returns-in_err-kind_of
returns-in_err-kind_of c =
    let k = c.in_ok-strip_prefix in
    rw c.from_residual-in_err-kind_of.ensures (set_no_letter c.args.text.now k.field-0.now k.ensures.cases.0 k.ensures.cases.1 _ _ c.in_ok-letter.ensures.cases.0 c.in_err-kind_of.ensures)

pub returns-in_err-strip_prefix-2 : goal.returns-in_err-strip_prefix-2
returns-in_err-strip_prefix-2 c =
    let k = c.in_ok-strip_prefix in
    rw c.from_residual-in_err-strip_prefix-2.ensures (set_no_comma c.args.text.now k.field-0.now k.ensures.cases.0 k.ensures.cases.1 _ _ c.in_ok-letter.ensures.cases.0 c.in_err-strip_prefix-2.ensures.cases)

pub returns : goal.returns
returns c =
    let k = c.in_ok-strip_prefix in
    let x = c.in_ok-strip_prefix-2 in
    set_reads c.args.text.now k.field-0.now k.ensures.cases.0 k.ensures.cases.1 _ _ c.in_ok-letter.ensures.cases.0 c.in_ok-kind_of.field-0 x.field-0 c.in_ok-kind_of.ensures.0 c.in_ok-kind_of.ensures.1 x.ensures.cases.0 x.ensures.cases.1
