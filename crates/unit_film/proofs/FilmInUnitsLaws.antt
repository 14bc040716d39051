-- Every byte of the film of an accepted layout is the byte of its unit's film that its number says,
-- and lies in the piece of its disk and row.
use mathlib.Core.Path.{◌≡◌, sym, ap, ◌∙◌}
use mathlib.Core.List.{List}
use Prim.Native.Nat.{ℕ, ◌+◌, ◌-◌, ◌*◌, ◌/◌, ◌%◌, ◌<◌}
use native.Mathlib.Nat.{div-add-mod', mod-lt}
use native.Mathlib.Omega.{arith}
use lib.ListN.{length, get_or, drop}
use lib.Seq.{get_or-take, get_or-drop}
use Rattle.mathematics.proofs.ChoiceLaws.{pick_done}
use Rattle.liberation.specs.Sets.{place}
use Rattle.liberation.specs.Stripes.Stripes.{cell_at, stripe_long}
use Rattle.liberation.proofs.Stripes.StripeCellLaws.{cell_fits}
use Rattle.image_layout.specs.Layouts.{film_bytes, stripes_of, units_of, film_stripe, film_cell, film_disk, film_row, film_offset}
use Rattle.image_layout.specs.Limits.{layout_refusal, film_refusal, Accepted}
use Rattle.image_layout.specs.Says.{FilmSays}
use Rattle.image_layout.specs.declared.Layout.{Layout}
use Rattle.image_layout.specs.declared.FilmPlace.{FilmPlace}
use Rattle.image_layout.proofs.SmallLaws.{film_pos}
use Rattle.image_layout.proofs.UpLaws.{up_above}
use Rattle.image_layout.proofs.FilmLaws.{cell_below}
use Rattle.image_layout.proofs.ImageLaws.{stripe_of}
use Rattle.image_layout.proofs.LimitLaws.{accepted, film_of_lem}
use Rattle.unit_film.specs.FilmOrder.{in_order}
use Rattle.unit_film.proofs.OrderLaws.{film_byte_lem}
use Rattle.unit_film.specs.FilmInUnits.{unit_stripes, unit_of, unit_byte, piece_bytes, InPiece, FilmInUnit}

module _ (l : Layout) (ok : Accepted l) (m : ℕ) (h : m < l.length) where
  in_set : film_stripe l m < stripes_of l
  in_set = stripe_of l ok m h

  whole : unit_of l m * l.unit + film_stripe l m % l.unit ≡ film_stripe l m
  whole = div-add-mod' (film_stripe l m) l.unit

  in_unit : film_stripe l m % l.unit < unit_stripes l (unit_of l m)
  in_unit = omega (arith, mod-lt (film_stripe l m) ok.unit, whole, in_set)

  unit_there : unit_of l m < units_of l
  unfolding units_of
  unit_there = up_above l.unit ok.unit (stripes_of l) (unit_of l m) (omega (arith, whole, in_set))

  -- the number in the unit by its stripe and the number in the stripe
  number : unit_byte l m ≡ film_stripe l m % l.unit * film_bytes l + m % film_bytes l
  number = omega (arith, div-add-mod' m (film_bytes l), ap (λ (y : ℕ). y * film_bytes l) whole)

  in_film : unit_byte l m < unit_stripes l (unit_of l m) * film_bytes l
  in_film = omega (arith, number, mod-lt m (film_pos l ok), cell_fits (unit_stripes l (unit_of l m)) (film_bytes l) (film_stripe l m % l.unit) in_unit)

  module _ (t : List ℕ) (long : length t ≡ stripe_long l.width l.disks (piece_bytes l (unit_of l m))) where
    abbrev n : ℕ
    n = unit_stripes l (unit_of l m)

    abbrev s : ℕ
    s = l.cell_size

    abbrev q : ℕ
    q = l.disks * l.width

    abbrev x : ℕ
    x = film_cell l m

    abbrev j : ℕ
    j = film_stripe l m % l.unit

    abbrev a : ℕ
    a = film_offset l m

    inside : a < s
    inside = mod-lt (m % film_bytes l) ok.some

    -- the cell by stripe and place
    by_cell : place q x j * s + a ≡ unit_byte l m
    by_cell = omega (arith, number, div-add-mod' (m % film_bytes l) s)

    by_place : place l.width (film_row l m) (film_disk l m) ≡ x
    by_place = div-add-mod' x l.width

    in_piece : InPiece l (unit_of l m) t (unit_byte l m) (film_disk l m) (film_row l m) (j * s + a)
    in_piece =
        let e : x * (n * s) + j * s + a ≡ x * (n * s) + (j * s + a) = omega arith in
        ap (λ (y : ℕ). get_or (in_order q s n t) y 0) (sym by_cell)
        ∙ film_byte_lem q s n t (omega (arith, long)) x j (cell_below l.disks l.width s ok.array.some ok.some (m % film_bytes l) (mod-lt m (film_pos l ok))) in_unit a inside
        ∙ ap (λ (y : ℕ). get_or t y 0) e
        ∙ sym (get_or-take (n * s) (drop (x * (n * s)) t) (j * s + a) 0 (omega (arith, inside, cell_fits n s j in_unit)) ∙ get_or-drop (x * (n * s)) t (j * s + a) 0)
        ∙ ap (λ (y : ℕ). get_or (cell_at (n * s) t y) (j * s + a) 0) (sym by_place)

-- THE THEOREM: byte m of the film of an accepted layout
pub film_in_unit : (l : Layout) → layout_refusal l ≡ 0 → (m : ℕ) → m < l.length → FilmInUnit l m
film_in_unit l e m h =
    let ok = accepted l e in
    record { unit = unit_there l ok m h; stripe = in_unit l ok m h; byte = in_film l ok m h; film = λ t g. in_piece l ok m h t g }

-- the same of the answer of an accepted call of `film_place`
pub place_in_unit :
    (l : Layout) (m : ℕ) (r : FilmPlace) → FilmSays l m r → r.answer.refusal ≡ 0 → (t : List ℕ)
    → length t ≡ stripe_long l.width l.disks (piece_bytes l (r.stripe / l.unit))
    → InPiece l (r.stripe / l.unit) t (m - r.stripe / l.unit * (l.unit * film_bytes l)) r.disk r.row (r.stripe % l.unit * l.cell_size + r.byte)
place_in_unit l m r says z t g =
    let none : film_refusal l m ≡ 0 = sym says.answer.refusal ∙ z in
    let w = film_of_lem l m none in
    let a : r.stripe ≡ film_stripe l m = says.stripe ∙ sym (pick_done (film_refusal l m) (film_stripe l m) 0 none) in
    let b : r.disk ≡ film_disk l m = says.disk ∙ sym (pick_done (film_refusal l m) (film_disk l m) 0 none) in
    let c : r.row ≡ film_row l m = says.row ∙ sym (pick_done (film_refusal l m) (film_row l m) 0 none) in
    let d : r.byte ≡ film_offset l m = says.byte ∙ sym (pick_done (film_refusal l m) (film_offset l m) 0 none) in
    rw (a, b, c, d) ((film_in_unit l w.0 m w.1).film t (rw a at g))
