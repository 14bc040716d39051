-- `diagonals`: the ones of the word.
use Rattle.std.proofs.Common.{ap, ◌∙◌}
use lib.Count.{ones}
use Rattle.liberation.proofs.WordLaws.{ones_word}
use Rattle.planner.proofs.routes.Routes.diagonals.Goals as goal

pub returns : goal.returns
returns c = ap ones c.args.self.now.word_is ∙ ones_word _
