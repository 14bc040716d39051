-- `take_diagonal`: the row's route and its bit are set.
use Rattle.std.proofs.Common.{refl, ◌∙◌}
use lib.ListN.{length-set}
use Rattle.planner.specs.declared.routes.Route.TheVariants.{Diagonal}
use Rattle.planner.proofs.RouteLaws.{numbers_set, word_set}
use Rattle.planner.proofs.routes.Routes.take_diagonal.Goals as goal

pub invariant_of-self : goal.invariant_of-self
invariant_of-self c =
    let s = c.args.self.now in
    record { long = length-set s.routes c.args.row Diagonal ∙ s.long; word_is = word_set s.array.width c.args.row s.word s.routes s.array.widest s.long c.requires s.word_is }

pub returns : goal.returns
returns c = let s = c.args.self.now in record { array = refl; rows = numbers_set s.array.width c.args.row s.routes Diagonal c.requires }
