-- `steps_in`: each turn copies the three bytes of a step to their places.
use Rattle.std.proofs.Common.{rules, ◌<◌, ◌∙◌, arith}
use Rattle.std.specs.Iterator.Adapters.{enumerate_count}
use Rattle.host_plans.proofs.FillLaws.{filled_none, filled_room, filled_next, filled_all}
use Rattle.host_plans.proofs.bytes.steps_in.Goals as goal

pub loop-place-init : goal.loop-place-init
loop-place-init c = record {
  can_next = search rules;
  is_finite = search rules;
  by_three = search rules;
  filled = filled_none c.args.plan.now _ _ _ (search rules) (search rules) c.none-steps.ensures;
}

pub bounds-steps-place : goal.bounds-steps-place
bounds-steps-place c =
    let s = c.in-Some.ensures.steps in
    let l = c.loop-place in
    omega (arith, s.1, filled_room c.in-Some.bytes.now _ s.0.1.0 (s.0.1.1 ∙ l.invariant.by_three) l.invariant.filled, c.requires, c.args.array.widest)

pub loop-place-preserved : goal.loop-place-preserved
loop-place-preserved c =
    let s = c.in-Some.ensures.steps in
    let l = c.loop-place in
    let k = s.0.1.1 ∙ l.invariant.by_three in
    let h : enumerate_count l.place-iterator < 31 = omega (arith, filled_room c.in-Some.bytes.now _ s.0.1.0 k l.invariant.filled, c.requires, c.args.array.widest) in
    record {
      can_next = search rules;
      is_finite = search rules;
      by_three = search rules;
      filled = rw s.1 (filled_next c.in-Some.bytes.now _ _ s.2 h s.0.1.0 k l.invariant.filled);
    }

pub returns : goal.returns
returns c = filled_all c.args.array.width c.requires (search rules) c.loop-place.invariant.filled
