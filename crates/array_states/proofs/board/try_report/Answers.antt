-- `try_report`: past the refusals of the list it is refused as the report on the one array, or the
-- array is changed and the list counted anew.
use Rattle.std.proofs.Common.{rules, ◌≡◌, ◌<◌, get_or, length, Err}
use Rattle.refusals.specs.Refused.{number_of}
use Rattle.array_states.specs.States.{changed, state_report_refusal}
use Rattle.array_states.specs.Scanning.{no_array}
use Rattle.array_states.specs.Reports.{list_refusal, number_refusal}
use Rattle.array_states.proofs.ReportLaws.{report_refused, report_done}
use Rattle.array_states.proofs.board.try_report.Goals as goal

pub returns-in_err-after : goal.returns-in_err-after
returns-in_err-after c =
    let a = c.args in
    let xs = a.list.now in
    let e : number_refusal (length xs) a.which ≡ 0 = search rules in
    let l : list_refusal xs ≡ 0 = search rules in
    let h : a.which < length xs = search rules in
    let r = c.in_err-after.field-0.0 in
    let f : number_of r ≡ state_report_refusal (get_or xs a.which no_array) a.disk a.back = search rules in
    let q : c.from_residual-in_err-after.result ≡ Err r = search rules in
    report_refused xs a.which a.disk a.back e l h c.from_residual-in_err-after.result r q f

pub returns : goal.returns
returns c =
    let a = c.args in
    let xs = a.list.now in
    let e : number_refusal (length xs) a.which ≡ 0 = search rules in
    let l : list_refusal xs ≡ 0 = search rules in
    let h : a.which < length xs = search rules in
    let z : state_report_refusal (get_or xs a.which no_array) a.disk a.back ≡ 0 = search rules in
    let m : c.in_ok-after.after ≡ changed (get_or xs a.which no_array) a.disk a.back = search rules in
    report_done xs a.which a.disk a.back e l h c.in_ok-after.after c.of.result z m c.of.ensures
