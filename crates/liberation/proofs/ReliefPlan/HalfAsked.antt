-- No plan asks less than (p + 1)/2 cells of a surviving data disk, whatever disk is lost. A row set
-- has one ordinary cell on each data disk, and so has a diagonal; different row sets have different
-- ones there, and so have different diagonals.
-- A plan uses p sets, so either (p + 1)/2 row sets or (p + 1)/2 diagonals. Whether a cell is
-- rebuilt through an extra cell plays no part.
use mathlib.Core.Path.{◌≡◌, ap, ◌∙◌}
use mathlib.Core.Bool.{Bool, true, false, ◌&&◌, ◌||◌}
use Prim.Native.Nat.{ℕ, ◌+◌, ◌-◌, ◌%◌, ◌≤◌, ◌<◌}
use native.Mathlib.Omega.{arith}
use lib.Dec.{eqb, leb}
use Rattle.mathematics.specs.Choice.{when}
use Rattle.mathematics.proofs.SumLaws.{sum_mono}
use Rattle.liberation.specs.Sets.{place, extra_disk}
use Rattle.liberation.specs.Claims.{uses}
use Rattle.liberation.proofs.Widths.{width_odd}
use Rattle.liberation.proofs.ReadLaws.{holds}
use Rattle.liberation.proofs.UsedLaws.{named, named_numbers, holds_data}
use Rattle.liberation.proofs.AcceptedLaws.{accepted_named, used_total}
use Rattle.liberation.proofs.PartLaws.{full_data, holds_part}
use Rattle.liberation.proofs.BalancedPlan.Shares.{reads_other}
use Rattle.liberation.proofs.ReliefPlan.FlagSums.{sum_diagonals}
use Rattle.liberation.specs.ReliefPlan.Relief.{HalfAsked}

first_most_lem : (a b : Bool) → when a 1 ≤ when (a || b) 1
first_most_lem true b = omega arith
first_most_lem false b = omega arith

second_most : (a b c : Bool) → when b 1 ≤ when (a || (b || c)) 1
second_most true true c = omega arith
second_most true false c = omega arith
second_most false true c = omega arith
second_most false false c = omega arith

pub half_asked : HalfAsked
half_asked p k f c ss w most h l n t =
    let odd = width_odd p w in
    omega (
      arith,
      odd,
      reads_other p k f ss c on n here,
      used_total p k f ss t,
      sum_mono p (λ r. when (uses 0 r ss) 1) (λ r. when (on r) 1) (λ r m. first_most_lem (uses 0 r ss) (uses 1 ((r + p - c) % p) ss || extra r)),
      sum_mono p (λ r. when (uses 1 ((r + p - c) % p) ss) 1) (λ r. when (on r) 1) (λ r m. second_most (uses 0 r ss) (uses 1 ((r + p - c) % p) ss) (extra r)),
      sum_diagonals p c (omega arith) (omega arith) (λ z. when (uses 1 z ss) 1),
    )
  where
    ok : named p ss ≡ true
    ok = accepted_named p k f ss t

    -- a used diagonal holds the cell as its extra cell
    extra : ℕ → Bool
    extra r = uses 1 (p - 1 - r) ss && (leb 1 (p - 1 - r) && eqb c (extra_disk p (p - 1 - r)))

    on : ℕ → Bool
    on r = uses 0 r ss || (uses 1 ((r + p - c) % p) ss || extra r)

    here : (r : ℕ) → r < p → holds p k (place p r c) ss ≡ on r
    here r m =
        holds_part p k most r c ss m (omega arith) (named_numbers p ss ok)
        ∙ ap (λ (d : ℕ). holds p p (place p r d) ss) (full_data p k c l)
        ∙ holds_data p r c ss (width_odd p w) m (omega arith) ok
