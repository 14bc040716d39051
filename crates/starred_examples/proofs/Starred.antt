-- The one proof of the table: every row computes to what document 01 states.
use mathlib.Core.Path.{◌≡◌, refl}
use mathlib.Core.Bool.{true}
use Rattle.mathematics.specs.Lists.{union}
use Rattle.mathematics.specs.Sums.{all_to, total}
use Rattle.mathematics.specs.Xor.{xor_from, xor_l}
use Rattle.liberation.specs.Sets.{row_from, row_set, diagonal_from, ordinary, diagonal_set, lost_in, surviving_in}
use Rattle.liberation.specs.Plans.{diagonals, first_routes, decided, routes_from, routes, row_steps, diagonal_steps, data_plan, all_of, plan_of, read_from}
use Rattle.liberation.specs.Judging.{others_there, step_refusal, judge_from}
use Rattle.liberation.specs.Stripes.Stripes.{xor_over, clean, without, followed, rebuilt, encoded}
use Rattle.space.specs.Says.{up_each}
use Rattle.starred_examples.specs.Table.{starred_table, agree}

pub starred : agree starred_table ≡ true
unfolding union all_to total up_each xor_from xor_l xor_over clean without followed rebuilt encoded row_from row_set diagonal_from ordinary diagonal_set lost_in surviving_in diagonals first_routes decided routes_from routes row_steps diagonal_steps data_plan all_of plan_of read_from others_there step_refusal judge_from starred_table agree
starred = refl
