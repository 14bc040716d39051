-- The first cell of the walk to disk 0: where it is, and that the odd cells gathered are its XOR.
use mathlib.Core.Path.{◌≡◌, sym, ap, subst, ◌∙◌}
use mathlib.Core.Bool.{false}
use mathlib.Core.Logic.{⊎_elim}
use mathlib.Core.List.{List, []}
use Prim.Native.Nat.{ℕ, ◌+◌, ◌*◌, ◌≤◌, ◌<◌}
use native.Mathlib.Omega.{arith}
use lib.ListN.{length, get_or, take, replicate, length-replicate, get_or-replicate}
use Rattle.mathematics.specs.Lists.{is_in}
use Rattle.mathematics.proofs.Flags.{clash, flag}
use Rattle.mathematics.proofs.MemberLaws.{at_in}
use Rattle.liberation.specs.Sets.{place}
use Rattle.liberation.specs.Plans.{extra_row_on, marks_from}
use Rattle.liberation.proofs.MarkLists.{take_marks, no_cells}
use Rattle.liberation.proofs.SetLaws.{place_below}
use Rattle.liberation.specs.Stripes.Stripes.{cell_at, with_cell}
use Rattle.liberation.proofs.Stripes.StripeCellLaws.{cell_fits, cell_long}
use Rattle.liberation.specs.TwoDisks.Pairs.{start_sets, start_cells, first_cell, started}
use Rattle.liberation.specs.TwoDisks.PairSteps.{is_lost}
use Rattle.liberation.proofs.TwoDisks.FirstCell.{start_survives}
use Rattle.liberation.proofs.TwoDisks.Upward.{lost_first}
use Rattle.xor.specs.Parts.{with_part, xor_offsets}
use Rattle.stripe_cells.specs.Offsets.{scaled}
use Rattle.stripe_cells.proofs.OffsetLaws.{over_offsets}
use Rattle.stripe_cells.specs.Toggled.{is_odd, odd_from, toggled_all}
use Rattle.stripe_cells.specs.Gathered.{MarkedStripe}
use Rattle.stripe_cells.proofs.OddLaws.{toggled_long, odd_offsets_lem}
use Rattle.stripe_cells.specs.OrdinaryCells.{survivors}
use Rattle.liberation.specs.Stripes.StripeLimits.{Sized}
use Rattle.two_disk_walk.proofs.NumberLaws.{extra_below}
use Rattle.two_disk_walk.proofs.LostDisks.{Walked}
use Rattle.two_disk_walk.proofs.ToggleLaws.{toggled_other}

-- no mark is set before the start's sets are toggled
pub start_made : (p k x r m : ℕ) (all ms : List ℕ) → m ≡ p * (k + 2) → m ≤ 1023 → all ≡ marks_from 1023 0 [] → ms ≡ toggled_all (survivors p x 0 (start_sets p p k x 0 r)) (take m all) → ms ≡ toggled_all (survivors p x 0 (start_sets p p k x 0 r)) (replicate (p * (k + 2)) 0)
start_made p k x r m all ms e few z made = made ∙ ap (toggled_all (survivors p x 0 (start_sets p p k x 0 r))) (ap (take m) z ∙ take_marks m 1023 0 [] few ∙ sym (no_cells m 0) ∙ ap (λ (n : ℕ). replicate n 0) e)

-- x and disk 0 are walked
module _ (p k x : ℕ) (g : Walked p k x 0) (disks : k ≤ p) where
  row_below : extra_row_on p x < p
  row_below = (extra_below p x g.odd g.low (omega (arith, g.high))).1

  first_below_lem : first_cell p x 0 < p * (k + 2)
  first_below_lem = place_below p (k + 2) (extra_row_on p x) x row_below (omega (arith, g.high))

  -- the first cell is none of the cells that it is found from
  first_apart : is_in (first_cell p x 0) (start_cells p k x 0) ≡ false
  first_apart = ⊎_elim (λ m. clash (is_lost p x 0 (first_cell p x 0)) (lost_first p x 0 (extra_row_on p x) row_below) (start_survives p k x 0 (first_cell p x 0) row_below m).0) (λ m. m) (flag (is_in (first_cell p x 0) (start_cells p k x 0)))

  -- the marks of the start's sets were toggled, from no mark at all
  module _ (s r d : ℕ) (ms t : List ℕ) (z : Sized p k s t) (er : r ≡ extra_row_on p x) (ed : d ≡ place p r x) (made : ms ≡ toggled_all (survivors p x 0 (start_sets p p k x 0 r)) (replicate (p * (k + 2)) 0)) where
    -- the first cell's place, as the code counts it
    first_place : d ≡ first_cell p x 0
    first_place = ed ∙ ap (λ (i : ℕ). x * p + i) er

    marked : ms ≡ toggled_all (start_cells p k x 0) (replicate (p * (k + 2)) 0)
    unfolding start_cells
    marked = made ∙ ap (λ (i : ℕ). toggled_all (survivors p x 0 (start_sets p p k x 0 i)) (replicate (p * (k + 2)) 0)) er

    pub marks_long : length ms ≡ p * (k + 2)
    marks_long = ap length marked ∙ toggled_long (start_cells p k x 0) (replicate (p * (k + 2)) 0) ∙ length-replicate (p * (k + 2)) 0

    pub start_marked : p * (k + 2) ≤ 1023 → MarkedStripe s d ms t
    start_marked few =
        subst (λ (d : ℕ). MarkedStripe s d ms t) (sym first_place)
        (record {
          few = omega (arith, marks_long);
          small = z.small;
          cells = ap_le (ap (λ (m : ℕ). m * s) marks_long);
          place = omega (arith, first_below_lem, marks_long);
          even = ap is_odd (ap (λ (l : List ℕ). get_or l (first_cell p x 0) 0) marked ∙ toggled_other (first_cell p x 0) (start_cells p k x 0) (replicate (p * (k + 2)) 0) first_apart ∙ get_or-replicate (p * (k + 2)) (first_cell p x 0) 0 0 first_below_lem);
        })
      where
        ap_le : length ms * s ≡ p * (k + 2) * s → length ms * s ≤ length t
        ap_le e = omega (arith, e, z.long)

    -- the odd cells gathered
    pub start_done : (v : List ℕ) → v ≡ with_part s (d * s) (xor_offsets s t (scaled s (odd_from 0 ms))) t → v ≡ started p k s x 0 t
    start_done v ev =
        ev
        ∙ ap (λ (d : ℕ). with_part s (d * s) (xor_offsets s t (scaled s (odd_from 0 ms))) t) first_place
        ∙ ap (λ (l : List ℕ). with_cell s (first_cell p x 0) l t)
        (ap (λ (l : List ℕ). xor_offsets s t (scaled s (odd_from 0 l))) marked ∙ odd_offsets_lem s (p * (k + 2)) t (start_cells p k x 0) cells below ∙ over_offsets s t (start_cells p k x 0))
      where
        cells : (c : ℕ) → c < p * (k + 2) → length (cell_at s t c) ≡ s
        cells c h = cell_long s c t (omega (arith, cell_fits (p * (k + 2)) s c h, z.long))

        below : (i : ℕ) → i < length (start_cells p k x 0) → get_or (start_cells p k x 0) i 0 < p * (k + 2)
        below i h = (start_survives p k x 0 (get_or (start_cells p k x 0) i 0) row_below (at_in i (start_cells p k x 0) h)).1
