-- `copy_film`: a turn copies what is left of a cell, or of out; the place steps on, and from the last
-- place to the first of the next stripe. Until all is copied the cell and the byte in it are those of
-- the film's byte that comes next.
use mathlib.Core.Path.{◌≡◌, refl, ◌∙◌}
use mathlib.Core.Logic.{◌⊎◌, inr, ⊎_elim}
use Prim.Native.Nat.{ℕ, ◌+◌, ◌*◌, ◌/◌, ◌≤◌, ◌<◌}
use native.Mathlib.Nat.{mod-lt}
use native.Mathlib.Omega.{arith}
use lib.ListN.{length, take, drop}
use borrow.Author.Rules.{rules}
use Rattle.liberation.specs.Sets.{place}
use Rattle.unit_film.specs.FilmOrder.{in_order}
use Rattle.unit_film.proofs.CopyLaws.{place_start, turn_stripe, turn_within, turn_next, turn_copied, copy_end, next_place, next_stripe}
use Rattle.unit_film.proofs.film.copy_film.Goals as goal

-- a part copied: out is as long, and has the film's bytes as far
long : (c : goal.Then-x-places) → length c.copy_part.new.out ≡ length c.loop-done.out
long c = search rules

-- a part copied: out is as long, and has the film's bytes as far
long_2 : (c : goal.Else-x-places) → length c.copy_part.new.out ≡ length c.loop-done.out
long_2 c = search rules

-- in a turn: that byte
next : (c : goal.After-min-count) → let a = c.args in place a.places c.loop-done.x c.loop-done.stripe * a.size + c.loop-done.byte ≡ a.from + c.loop-done.done
next c = ⊎_elim (λ e. absurd (omega arith)) (λ e. e) c.loop-done.invariant.4

-- in a turn: that byte
next_2 : (c : goal.After-copy_part-arg-1) → let a = c.args in place a.places c.loop-done.x c.loop-done.stripe * a.size + c.loop-done.byte ≡ a.from + c.loop-done.done
next_2 c = ⊎_elim (λ e. absurd (omega arith)) (λ e. e) c.loop-done.invariant.4

-- in a turn: that byte
next_3 : (c : goal.Then-x-places) → let a = c.args in place a.places c.loop-done.x c.loop-done.stripe * a.size + c.loop-done.byte ≡ a.from + c.loop-done.done
next_3 c = ⊎_elim (λ e. absurd (omega arith)) (λ e. e) c.loop-done.invariant.4

-- in a turn: that byte
next_4 : (c : goal.Else-x-places) → let a = c.args in place a.places c.loop-done.x c.loop-done.stripe * a.size + c.loop-done.byte ≡ a.from + c.loop-done.done
next_4 c = ⊎_elim (λ e. absurd (omega arith)) (λ e. e) c.loop-done.invariant.4

within : (c : goal.After-min-count) → let a = c.args in (a.stripes * a.size ≤ length a.cells.now) × (c.loop-done.x * (a.stripes * a.size) + c.loop-done.stripe * a.size + a.size ≤ length a.cells.now)
within c =
    let a = c.args in
    turn_within a.places a.size a.stripes a.from (length a.out.now) c.loop-done.x c.loop-done.stripe c.loop-done.byte c.loop-done.done a.cells.now c.loop-done.invariant.2 c.loop-done.invariant.3 (omega arith) c.requires.2 c.requires.3 (next c)

within_2 : (c : goal.After-copy_part-arg-1) → let a = c.args in (a.stripes * a.size ≤ length a.cells.now) × (c.loop-done.x * (a.stripes * a.size) + c.loop-done.stripe * a.size + a.size ≤ length a.cells.now)
within_2 c =
    let a = c.args in
    turn_within a.places a.size a.stripes a.from (length a.out.now) c.loop-done.x c.loop-done.stripe c.loop-done.byte c.loop-done.done a.cells.now c.loop-done.invariant.2 c.loop-done.invariant.3 (omega arith) c.requires.2 c.requires.3 (next_2 c)

below : (c : goal.Then-x-places) → c.loop-done.stripe < c.args.stripes
below c =
    let a = c.args in
    turn_stripe a.places a.size a.stripes a.from (length a.out.now) c.loop-done.x c.loop-done.stripe c.loop-done.byte c.loop-done.done a.cells.now c.loop-done.invariant.2 c.loop-done.invariant.3 (omega arith) c.requires.2 c.requires.3 (next_3 c)

-- the byte that comes next is the first of a cell
moved : (c : goal.Then-x-places) (y v : ℕ) → let a = c.args in let m = c.loop-done.done + c.min-count.result in place a.places y v ≡ place a.places c.loop-done.x c.loop-done.stripe + 1 → (m ≡ length a.out.now) ⊎ (place a.places y v * a.size + 0 ≡ a.from + m)
moved c y v e =
    let a = c.args in
    turn_next a.places a.size a.stripes a.from (length a.out.now) c.loop-done.x c.loop-done.stripe c.loop-done.byte c.loop-done.done a.cells.now c.loop-done.invariant.2 c.loop-done.invariant.3 (omega arith) c.requires.2 c.requires.3 (next_3 c)
    c.min-count.result c.min-count.ensures y v e

copied : (c : goal.Then-x-places) → let a = c.args in let m = c.loop-done.done + c.min-count.result in take m c.copy_part.new.out ≡ take m (drop a.from (in_order a.places a.size a.stripes a.cells.now))
copied c =
    let a = c.args in
    turn_copied a.places a.size a.stripes a.from (length a.out.now) c.loop-done.x c.loop-done.stripe c.loop-done.byte c.loop-done.done a.cells.now c.loop-done.invariant.2 c.loop-done.invariant.3 (omega arith) c.requires.2 c.requires.3 (next_3 c)
    c.min-count.result c.min-count.ensures c.loop-done.out c.copy_part.new.out c.loop-done.invariant.1 c.loop-done.invariant.5 c.copy_part.ensures

-- the byte that comes next is the first of a cell
moved_2 : (c : goal.Else-x-places) (y v : ℕ) → let a = c.args in let m = c.loop-done.done + c.min-count.result in place a.places y v ≡ place a.places c.loop-done.x c.loop-done.stripe + 1 → (m ≡ length a.out.now) ⊎ (place a.places y v * a.size + 0 ≡ a.from + m)
moved_2 c y v e =
    let a = c.args in
    turn_next a.places a.size a.stripes a.from (length a.out.now) c.loop-done.x c.loop-done.stripe c.loop-done.byte c.loop-done.done a.cells.now c.loop-done.invariant.2 c.loop-done.invariant.3 (omega arith) c.requires.2 c.requires.3 (next_4 c)
    c.min-count.result c.min-count.ensures y v e

copied_2 : (c : goal.Else-x-places) → let a = c.args in let m = c.loop-done.done + c.min-count.result in take m c.copy_part.new.out ≡ take m (drop a.from (in_order a.places a.size a.stripes a.cells.now))
copied_2 c =
    let a = c.args in
    turn_copied a.places a.size a.stripes a.from (length a.out.now) c.loop-done.x c.loop-done.stripe c.loop-done.byte c.loop-done.done a.cells.now c.loop-done.invariant.2 c.loop-done.invariant.3 (omega arith) c.requires.2 c.requires.3 (next_4 c)
    c.min-count.result c.min-count.ensures c.loop-done.out c.copy_part.new.out c.loop-done.invariant.1 c.loop-done.invariant.5 c.copy_part.ensures

pub loop-done-init : goal.loop-done-init
loop-done-init c =
    let a = c.args in
    (omega arith, refl, mod-lt (a.from / a.size) c.requires.0, mod-lt a.from c.requires.1, inr (place_start a.places a.size a.from), refl)

pub overflow_mul-at : goal.overflow_mul-at
overflow_mul-at c = omega (arith, within c)

pub overflow_mul-at-in-loop-done : goal.overflow_mul-at-in-loop-done
overflow_mul-at-in-loop-done c = omega (arith, within c)

pub overflow_mul-at-in-loop-done-2 : goal.overflow_mul-at-in-loop-done-2
overflow_mul-at-in-loop-done-2 c = omega (arith, within c)

pub overflow_add-at : goal.overflow_add-at
overflow_add-at c = omega (arith, within c)

pub overflow_add-at-in-loop-done : goal.overflow_add-at-in-loop-done
overflow_add-at-in-loop-done c = omega (arith, within c)

pub copy_part-requires : goal.copy_part-requires
copy_part-requires c = (omega (arith, within_2 c, c.min-count.ensures), omega (arith, c.loop-done.invariant.1, c.min-count.ensures))

pub overflow_add-done : goal.overflow_add-done
overflow_add-done c = omega (arith, c.min-count.ensures)

pub overflow_add-x : goal.overflow_add-x
overflow_add-x c = omega (arith, c.loop-done.invariant.2)

pub overflow_add-stripe : goal.overflow_add-stripe
overflow_add-stripe c = omega (arith, below c)

pub loop-done-smaller-then-x-places : goal.loop-done-smaller-then-x-places
loop-done-smaller-then-x-places c = omega (arith, c.min-count.ensures)

pub loop-done-preserved-then-x-places : goal.loop-done-preserved-then-x-places
loop-done-preserved-then-x-places c = (
  omega (arith, c.min-count.ensures),
  long c ∙ c.loop-done.invariant.1,
  c.requires.0,
  c.requires.1,
  moved c 0 (c.loop-done.stripe + 1) (next_stripe c.args.places c.loop-done.x c.loop-done.stripe c.if-x-places.true),
  copied c,
)

pub loop-done-smaller : goal.loop-done-smaller
loop-done-smaller c = omega (arith, c.min-count.ensures)

pub loop-done-preserved : goal.loop-done-preserved
loop-done-preserved c = (
  omega (arith, c.min-count.ensures),
  long_2 c ∙ c.loop-done.invariant.1,
  omega (arith, c.loop-done.invariant.2, c.if-x-places.false),
  c.requires.1,
  moved_2 c (c.loop-done.x + 1) c.loop-done.stripe (next_place c.args.places c.loop-done.x c.loop-done.stripe),
  copied_2 c,
)

pub returns : goal.returns
returns c =
    let a = c.args in
    copy_end (in_order a.places a.size a.stripes a.cells.now) c.loop-done.out a.from c.loop-done.done (length a.out.now) (omega arith) c.loop-done.invariant.1 c.loop-done.invariant.5
