-- The steps that a list of them has so far.
use Rattle.std.specs.Prelude.{List}
use Rattle.liberation.specs.Plans.{Step}
use Rattle.liberation.specs.Records.{recorded}
use Rattle.planner.specs.declared.step_list.StepList.{StepList}

abbrev pub steps_put : StepList → List Step
steps_put l = recorded l.count 0 l.steps.rows l.steps.kinds l.steps.numbers
