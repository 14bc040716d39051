-- `write_steps`: the judge's refusal, or the plain form of what it accepts.
use mathlib.Core.Path.{◌≡◌, sym, ap, subst, ◌∙◌}
use mathlib.Core.Bool.{true}
use Prim.Native.Nat.{ℕ, ◌*◌, ◌/◌}
use native.Mathlib.Omega.{arith}
use lib.ListN.{length}
use borrow.Author.Tests.{eqb-true}
use Rattle.liberation.specs.Judging.{steps_in}
use Rattle.liberation.proofs.RefusalLaws.{plan_of_lem}
use Rattle.plan_texts.specs.Form.Plain.{plain, writable}
use Rattle.plan_texts.proofs.FileLaws.{tellable, written}
use Rattle.plan_texts.proofs.plain.write_steps.Goals as goal

-- a plan of three bytes for each of p steps
count : (p n : ℕ) → n ≡ 3 * p → p ≡ n / 3
count p n e = omega arith

pub plain_form-plain-requires : goal.plain_form-plain-requires
plain_form-plain-requires c =
    let a = c.args in
    let z = eqb-true c.judge_plan.result.answer.refusal 0 (sym c.if-not-is_accepted.ensures) in (
      omega (arith, c.requires.1, (plan_of_lem a.width a.disks a.lost c.requires.0).0.widest),
      subst (λ (n : ℕ). writable (steps_in n a.plan.now) ≡ true) (count a.width (length a.plan.now) c.requires.1) (tellable a.width a.disks a.lost a.plan.now c.judge_plan.result c.requires.0 c.requires.1 c.judge_plan.ensures z),
    )

pub returns : goal.returns
returns c =
    let a = c.args in
    let z = eqb-true c.judge_plan.result.answer.refusal 0 (sym c.if-not-is_accepted.ensures) in
    let e = c.as_slice-text.ensures ∙ c.plain_form-plain.ensures ∙ ap (λ (n : ℕ). plain (steps_in n a.plan.now)) (sym (count a.width (length a.plan.now) c.requires.1)) in
    rw c.copy_from_slice.ensures.after (written a.width a.disks a.lost a.plan.now c.judge_plan.result c.requires.0 c.requires.1 c.judge_plan.ensures z c.as_slice-text.result.now a.out.now e)
