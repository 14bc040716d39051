-- `try_film`: the digits of the number of a byte, and the place of its cell.
use Rattle.std.proofs.Common.{rules, ◌≡◌, ◌%◌, arith}
use native.Mathlib.Nat.{mod-lt}
use Rattle.image_layout.specs.Layouts.{film_bytes, film_at}
use Rattle.image_layout.specs.Limits.{film_refusal}
use Rattle.image_layout.proofs.LimitLaws.{accepted, film_of_lem}
use Rattle.image_layout.proofs.ImageLaws.{film_cell_lem}
use Rattle.image_layout.proofs.PlaceSums.{cell_small}
use Rattle.image_layout.proofs.try_film.Goals as goal

pub cell_at-requires : goal.cell_at-requires
cell_at-requires c =
    let l = c.args.layout in
    let none : film_refusal l c.args.byte ≡ 0 = search rules in
    let t = film_of_lem l c.args.byte none in
    rw (c.film_bytes-holds.ensures, c.in_ok-accepted.ensures.numbers) (film_cell_lem l (accepted l t.0) c.args.byte t.1)

pub overflow_add-result : goal.overflow_add-result
overflow_add-result c =
    let l = c.args.layout in
    let none : film_refusal l c.args.byte ≡ 0 = search rules in
    let t = film_of_lem l c.args.byte none in
    let ok = accepted l t.0 in
    rw (c.cell_at.ensures, c.film_bytes-holds.ensures, c.in_ok-accepted.ensures.numbers) (omega (arith, cell_small l ok _ _ (film_cell_lem l ok c.args.byte t.1), mod-lt (c.args.byte % film_bytes l) ok.some))

pub returns-clause-place : goal.returns-clause-place
unfolding film_at
returns-clause-place c = search rules
