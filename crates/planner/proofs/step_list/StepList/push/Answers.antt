-- `push`: the step follows those so far.
use Rattle.std.proofs.Common.{◌<◌, refl, arith}
use lib.ListN.{length}
use Rattle.liberation.specs.Records.{recorded}
use Rattle.liberation.specs.Plans.{step}
use Rattle.liberation.proofs.RecordLaws.{length_recorded}
use Rattle.planner.specs.declared.step_list.StepList.{StepList}
use Rattle.planner.proofs.StepRecord.{steps_more, holds_more}
use Rattle.planner.proofs.step_list.StepList.push.Goals as goal
use Rattle.planner.proofs.step_list.StepList.push.Goals.{in-Row, in-Diagonal}

-- there is a place for it
room : (l : StepList) → length (recorded l.count 0 l.steps.rows l.steps.kinds l.steps.numbers) < 31 → l.count < 31
room l h = omega (arith, length_recorded l.count 0 l.steps.rows l.steps.kinds l.steps.numbers, h)

pub bounds-self-self : goal.bounds-self-self
bounds-self-self c = room c.args.self.now c.requires.0

pub bounds-self-self-2 : goal.bounds-self-self-2
bounds-self-self-2 c = room c.args.self.now c.requires.0

pub bounds-self-self-3 : goal.bounds-self-self-3
bounds-self-self-3 c = room c.args.self.now c.requires.0

pub invariant_of-self : goal.invariant_of-self
invariant_of-self c =
    let s = c.args.self.now in
    let h = room s c.requires.0 in
    record {
      within = omega (arith, h);
      holds = elim c.match-set.branch [
        | in-Row w ↦ rw w.kind-is (holds_more s.count (step c.args.row 0 w.in-Row.number) s.steps _ h refl s.holds)
        | in-Diagonal w ↦ rw w.kind-is (holds_more s.count (step c.args.row 1 w.in-Diagonal.number) s.steps _ h refl s.holds)
      ];
    }

pub returns : goal.returns
returns c =
    let s = c.args.self.now in
    let h = room s c.requires.0 in
    elim c.match-set.branch [
      | in-Row w ↦ rw (w.kind-is, w.in-Row.is) (steps_more s.count (step c.args.row 0 w.in-Row.number) s.steps _ h refl s.holds)
      | in-Diagonal w ↦ rw (w.kind-is, w.in-Diagonal.is) (steps_more s.count (step c.args.row 1 w.in-Diagonal.number) s.steps _ h refl s.holds)
    ]
