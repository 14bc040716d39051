-- `plain_form`: step by step. The invariant: the text is the plain form of the steps so far.
use mathlib.Core.Path.{sym, ap, ap₂, ◌∙◌}
use mathlib.Core.List.{List, ◌++◌}
use Prim.Native.Nat.{ℕ, ◌/◌, ◌<◌}
use native.Mathlib.Omega.{arith}
use lib.ListN.{length}
use Rattle.std.proofs.Common.{rules}
use Rattle.liberation.specs.Plans.{Step}
use Rattle.liberation.specs.Judging.{steps_in}
use Rattle.plan_texts.specs.Form.Plain.{plain, plain_line, plain_lines}
use Rattle.plan_texts.proofs.PlainLoop.{plain_next, plain_room, step_small, chunk_step}
use Rattle.plan_texts.proofs.writer.plain_form.Goals as goal

pub loop-row-init : goal.loop-row-init
unfolding plain plain_lines steps_in
loop-row-init c = search rules

pub push_step-requires : goal.push_step-requires
push_step-requires c =
    let bs = c.args.plan.now in
    let n = length bs / 3 in
    let i = c.loop-row.row-index in
    let h : i < n = search rules in
    let q = step_small n bs i h c.requires.1 in
    let e = chunk_step c.as_chunks.result.0.now n bs i c.as_chunks.ensures.front h in (
      omega arith,
      (
        omega (arith, q.0, ap (λ (s : Step). s.row) e),
        omega (arith, q.1, ap (λ (s : Step). s.number) e),
        omega (arith, c.requires.0, ap length c.loop-row.invariant, plain_room i bs),
      ),
    )

pub loop-row-preserved : goal.loop-row-preserved
loop-row-preserved c =
    let bs = c.args.plan.now in
    let i = c.loop-row.row-index in
    let e = chunk_step c.as_chunks.result.0.now (length bs / 3) bs i c.as_chunks.ensures.front (search rules) in
    c.push_step.ensures ∙ ap₂ (λ (x : List ℕ) (s : Step). x ++ plain_line s) c.loop-row.invariant e ∙ sym (plain_next bs i)
