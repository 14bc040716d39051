-- `sum_stripes`: the sum that the code takes is that of the stripes of each file, and does not wrap,
-- as few files have few stripes.
use Rattle.std.proofs.Common.{rules, ◌≡◌, ◌<◌, ◌^◌}
use Rattle.std.specs.Int.{div_ceil}
use Rattle.std.specs.List.{sum_by}
use Rattle.mathematics.specs.Sums.{total}
use Rattle.space.specs.Says.{up_each}
use Rattle.space.proofs.FilesLaws.{each_sum, sum_small}
use Rattle.space.proofs.sum_stripes.Goals as goal

pub sum-requires-clause-fits : goal.sum-requires-clause-fits
sum-requires-clause-fits c =
    let small : sum_by (λ l. div_ceil l c.args.holds) c.args.lengths.now < 2 ^ 64 = sum_small _ _ c.requires in
    search (rules, small)

pub returns : goal.returns
returns c =
    let sum : sum_by (λ l. div_ceil l c.args.holds) c.args.lengths.now ≡ total (up_each c.args.holds c.args.lengths.now) = each_sum _ c.requires.pos _ in
    search (rules, sum)
