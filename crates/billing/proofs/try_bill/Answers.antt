-- `try_bill`: past the refusals each product is small, so the charge does not wrap.
use Rattle.std.proofs.Common.{rules, ◌≡◌, arith}
use Rattle.billing.specs.Cents.{bill_refusal}
use Rattle.billing.proofs.BillLaws.{small}
use Rattle.billing.proofs.try_bill.Goals as goal

pub overflow_add-charge : goal.overflow_add-charge
overflow_add-charge c =
    let a = c.args in
    let none : bill_refusal a.bytes a.first a.second a.third ≡ 0 = search rules in
    omega (arith, small a.bytes a.first a.second a.third c.min-low.result c.min-most.result none (omega arith) (omega arith))

pub overflow_mul-charge-3 : goal.overflow_mul-charge-3
overflow_mul-charge-3 c =
    let a = c.args in
    let none : bill_refusal a.bytes a.first a.second a.third ≡ 0 = search rules in
    omega (arith, small a.bytes a.first a.second a.third c.min-low.result c.min-most.result none (omega arith) (omega arith))

pub overflow_add-charge-2 : goal.overflow_add-charge-2
overflow_add-charge-2 c =
    let a = c.args in
    let none : bill_refusal a.bytes a.first a.second a.third ≡ 0 = search rules in
    omega (arith, small a.bytes a.first a.second a.third c.min-low.result c.min-most.result none (omega arith) (omega arith))
