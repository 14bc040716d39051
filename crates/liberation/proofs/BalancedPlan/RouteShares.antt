-- A plan told by its routes: row-set steps first, rows upward, then diagonal steps, rows upward.
-- Row j has a diagonal where the flag T j holds.
-- Where every surviving extra cell of a used diagonal is in another used set, it reads as many
-- cells as its diagonals say, and on surviving data disk c it reads the cells of the rows r without
-- a diagonal, and of those for which row r - (c - f) has one.
use mathlib.Core.Path.{◌≡◌, refl, sym, ap, ap₂, ◌∙◌}
use mathlib.Core.Bool.{Bool, true, false, ◌&&◌, ◌||◌, not}
use mathlib.Core.Logic.{inl}
use mathlib.Core.List.{List}
use Prim.Native.Nat.{ℕ, ◌+◌, ◌-◌, ◌*◌, ◌/◌, ◌%◌, ◌≤◌, ◌<◌}
use native.Mathlib.Nat.{mod-lt}
use native.Mathlib.Omega.{arith}
use lib.Dec.{eqb}
use lib.ListN.{length, get_or}
use borrow.Author.Tests.{eq-eqb, leb-true}
use Rattle.mathematics.specs.Choice.{when}
use Rattle.mathematics.specs.Sums.{sum_to}
use Rattle.mathematics.proofs.Flags.{and_l}
use Rattle.mathematics.proofs.SumLaws.{sum_ext, sum_none}
use Rattle.liberation.specs.Sets.{extra_disk, extra_of, has_extra}
use Rattle.liberation.specs.Plans.{Step, plan_of, read_count}
use Rattle.liberation.specs.Claims.{uses, diagonals_used, by_extra, held_elsewhere, lone_extra, lone_extras, is_best, Price}
use Rattle.liberation.proofs.UsedLaws.{named, elsewhere}
use Rattle.liberation.proofs.AcceptedLaws.{accepted_named}
use Rattle.liberation.proofs.RouteLaws.{diagonals_sum}
use Rattle.liberation.proofs.RowSteps.{steps_of, steps_row, steps_diagonal, steps_diagonals, steps_no_extra, steps_accepted}
use Rattle.liberation.proofs.Bounds.{count_met}
use Rattle.liberation.proofs.PriceLaws.{price}
use Rattle.liberation.proofs.Demand3.{ours_count, equally}
use Rattle.liberation.specs.BalancedPlan.Balanced.{reads_of}
use Rattle.liberation.proofs.BalancedPlan.Shares.{reads_other}
use Rattle.liberation.proofs.BalancedPlan.LoneLaws.{cell_held}

module _ (p f : ℕ) (odd : p % 2 ≡ 1) (h : f < p) (rs : List ℕ) (size : length rs ≡ p) (T : ℕ → Bool) (told : (j : ℕ) → j < p → eqb (get_or rs j 0) 2 ≡ T j) where
  some : 0 < p
  some = omega arith

  ss : List Step
  ss = steps_of p f rs

  -- R j is used exactly if row j has no diagonal
  pub uses_row : (j : ℕ) → j < p → uses 0 j (steps_of p f rs) ≡ not (T j)
  uses_row j l = steps_row p f odd h rs size j l ∙ ap not (told j l)

  -- D z is used exactly if row (z + f) mod p has a diagonal
  pub uses_diagonal : (z : ℕ) → z < p → uses 1 z (steps_of p f rs) ≡ T ((z + f) % p)
  uses_diagonal z l = steps_diagonal p f odd h rs size z l ∙ told ((z + f) % p) (mod-lt (z + f) some)

  pub diagonals_count : diagonals_used p (steps_of p f rs) ≡ sum_to p (λ j. when (T j) 1)
  diagonals_count =
      steps_diagonals p f odd h rs size
      ∙ diagonals_sum rs
      ∙ ap (λ (n : ℕ). sum_to n (λ j. when (eqb (get_or rs j 0) 2) 1)) size
      ∙ sum_ext p (λ j. when (eqb (get_or rs j 0) 2) 1) (λ j. when (T j) 1) (λ j l. ap (λ (b : Bool). when b 1) (told j l))

  ok_named : named p ss ≡ true
  unfolding ss
  ok_named = accepted_named p p f (steps_of p f rs) (steps_accepted p f odd h rs size)

  module _ (apart : (z : ℕ) → 1 ≤ z → z < p → T ((z + f) % p) ≡ true → (not (T (p - 1 - z)) || T ((z - 1 + f) % p)) ≡ true) where
    -- where D z is used, another used set holds its extra cell
    extra_held : (z : ℕ) → 1 ≤ z → z < p → uses 1 z ss ≡ true → (uses 0 (p - 1 - z) ss || uses 1 (z - 1) ss) ≡ true
    unfolding ss
    extra_held z low high t = ap₂ ◌||◌ (uses_row (p - 1 - z) (omega arith)) (uses_diagonal (z - 1) (omega arith)) ∙ apart z low high (sym (uses_diagonal z high) ∙ t)

    none_lone : (z : ℕ) → z < p → lone_extra p p f ss z ≡ false
    unfolding lone_extra
    none_lone z l = go (uses 1 z ss) (has_extra p p z) (eqb (extra_disk p z) f) refl refl
      where
        go : (b c d : Bool) → uses 1 z ss ≡ b → has_extra p p z ≡ c → (b && (c && (not d && not (held_elsewhere p p (extra_of p z) z ss)))) ≡ false
        go false c d eb ec = refl
        go true false d eb ec = refl
        go true true true eb ec = refl
        go true true false eb ec = let low : 1 ≤ z = leb-true 1 z (and_l _ _ ec) in ap not (elsewhere p z ss odd low l ok_named ∙ extra_held z low l eb)

    pub no_lone_extras : lone_extras p p f (steps_of p f rs) ≡ 0
    unfolding lone_extras ss
    no_lone_extras = sum_none p (λ z. when (lone_extra p p f ss z) 1) (λ z l. ap (λ (b : Bool). when b 1) (none_lone z l))

    -- with (p - 1)/2 diagonals it reads (3p² + 1)/4 cells, and is one of the best
    module _ (half : sum_to p (λ j. when (T j) 1) ≡ (p - 1) / 2) where
      pub half_count : 4 * read_count p p f (steps_of p f rs) ≡ 3 * (p * p) + 1
      unfolding ss
      half_count =
          let q : Price p f ss = price p f odd h ss (steps_accepted p f odd h rs size) in
          count_met p (diagonals_used p ss) (read_count p p f ss) (lone_extras p p f ss) (when (by_extra p p f ss) 1) odd q.few q.price
          (inl (diagonals_count ∙ half)) no_lone_extras (ap (λ (b : Bool). when b 1) (steps_no_extra p f odd h rs size))

      pub half_best : 3 ≤ p → is_best p p f (steps_of p f rs) ≡ true
      unfolding ss
      half_best large =
          sym (equally p f odd large h ss (steps_accepted p f odd h rs size))
          ∙ eq-eqb (read_count p p f ss) (read_count p p f (plan_of p p f)) (omega (arith, half_count, ours_count p f odd large h))

    -- a surviving data disk
    module _ (c : ℕ) (l : c < p) (n : c ≡ f → ⊥) where
      pub route_share : reads_of p p f c (steps_of p f rs) ≡ sum_to p (λ r. when (not (T r) || T (((r + p - c) % p + f) % p)) 1)
      unfolding ss
      route_share = reads_other p p f ss c (λ r. not (T r) || T (((r + p - c) % p + f) % p)) n (λ r m. cell_held p f odd ss ok_named no_lone_extras c l n r m ∙ ap₂ ◌||◌ (uses_row r m) (uses_diagonal ((r + p - c) % p) (mod-lt (r + p - c) some)))
