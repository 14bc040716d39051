-- The tests of the calls on the layout of images decide their limits.
use mathlib.Core.Bool.{◌&&◌}
use Prim.Native.Nat.{ℕ, ◌^◌}
use lib.Dec.{ltb}
use borrow.Author.Tests.{ltb-true, lt-ltb, ltb-false, le-ltb}
use Rattle.mathematics.proofs.Flags.{and_l, and_r, and_i}
use Rattle.image_layout.specs.declared.Layout.{Layout}
use Rattle.image_layout.specs.Layouts.{stripes_of, units_of}
use Rattle.image_layout.specs.Limits.{is_group, layout_refusal, cell_refusal, block_refusal, unit_refusal, film_refusal}
use Rattle.image_layout.proofs.LimitLaws.{fits_of, fits_by}
use Rattle.guarantees.specs.Limits.Limits.{Decides}
use Rattle.guarantees.specs.Limits.ImageCalls.{layout, cell_place, block_place, unit_place, film_place}
use Rattle.guarantees.proofs.Limits.LimitLaws.{test, test_not, then_zero}
use Rattle.guarantees.proofs.Limits.SharedLimits.{shape_decides}

pub layout_decides : (l : Layout) → Decides (layout l) (layout_refusal l) 0
layout_decides l =
    let u = l.unit in
    let s = l.cell_size in
    let g = l.group in
    then_zero (shape_decides l.width l.disks s)
    (λ w. then_zero (test (ltb (2 ^ 48) l.length) 10 (ltb-false (2 ^ 48) l.length) (le-ltb (2 ^ 48) l.length)) (λ v. test_not (is_group u s g) 24 (fits_of u s g) (fits_by u s g)))

pub cell_decides : (l : Layout) (i n : ℕ) → Decides (cell_place l i n) (cell_refusal l i n) 0
cell_decides l i n =
    let row = ltb i l.width in
    let stripe = ltb n (stripes_of l) in
    then_zero (layout_decides l)
    (λ w. test_not (row && stripe) 25 (λ e. (ltb-true i l.width (and_l row stripe e), ltb-true n (stripes_of l) (and_r row stripe e))) (λ h. and_i row stripe (lt-ltb i l.width h.0) (lt-ltb n (stripes_of l) h.1)))

pub block_decides : (l : Layout) (v : ℕ) → Decides (block_place l v) (block_refusal l v) 0
block_decides l v = then_zero (layout_decides l) (λ w. test_not (ltb v (units_of l)) 25 (ltb-true v (units_of l)) (lt-ltb v (units_of l)))

pub unit_decides : (l : Layout) (i v : ℕ) → Decides (unit_place l i v) (unit_refusal l i v) 0
unit_decides l i v = then_zero (block_decides l v) (λ w. test_not (ltb i l.width) 25 (ltb-true i l.width) (lt-ltb i l.width))

pub film_decides : (l : Layout) (n : ℕ) → Decides (film_place l n) (film_refusal l n) 0
film_decides l n = then_zero (layout_decides l) (λ w. test_not (ltb n l.length) 25 (ltb-true n l.length) (lt-ltb n l.length))
