-- `take_row`: the row's route is set, and the word is as it was.
use Rattle.std.proofs.Common.{refl, ◌∙◌}
use lib.ListN.{length-set}
use Rattle.planner.specs.declared.routes.Route.TheVariants.{Row}
use Rattle.planner.proofs.RouteLaws.{numbers_set, word_kept}
use Rattle.planner.proofs.routes.Routes.take_row.Goals as goal

pub invariant_of-self : goal.invariant_of-self
invariant_of-self c =
    let s = c.args.self.now in
    record { long = length-set s.routes c.args.row Row ∙ s.long; word_is = word_kept s.array.width c.args.row s.word s.routes c.requires.0 c.requires.1 s.word_is }

pub returns : goal.returns
returns c = let s = c.args.self.now in record { array = refl; rows = numbers_set s.array.width c.args.row s.routes Row c.requires.0 }
