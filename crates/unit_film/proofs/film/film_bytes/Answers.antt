-- `film_bytes`: the refusals in their order; past them the film's bytes are copied.
use mathlib.Core.Path.{◌≡◌, sym, ap, subst₂, ◌∙◌}
use Prim.Native.Nat.{ℕ, ◌+◌, ◌*◌, ◌≤◌, ◌<◌}
use lib.ListN.{length}
use Rattle.unit_film.specs.Says.{range_refusal}
use Rattle.unit_film.proofs.FilmRefusals.{film_room}
use Rattle.unit_film.proofs.film.film_bytes.Goals as goal

pub copy_film-requires : goal.copy_film-requires
copy_film-requires c =
    let a = c.args in
    let s = a.shape in
    let u = c.in_ok-unit.unit in
    let piece = a.stripes * s.cell_size in
    let e = c.in_ok-unit.ensures.array in
    let most : u.block.array.disks * c.column_bytes.result ≡ s.disks * (s.width * piece) = cc (c.column_bytes.ensures.0, c.geometry.ensures.0, c.geometry.ensures.1, e.0, e.1, e.2) in
    let room = film_room s.width s.disks s.cell_size a.stripes a.name.now a.block.now a.cells.now a.from (length a.out.now) (sym c.in_ok-unit.ensures.refusal) (ap (λ (z : ℕ). range_refusal z a.from (length a.out.now)) (sym most) ∙ sym c.in_ok-check_range.ensures) in
    subst₂ (λ (k p : ℕ). (0 < k * p) × (0 < s.cell_size) × (k * p * piece ≤ length a.cells.now) × (a.from + length a.out.now ≤ k * p * piece)) (sym e.1) (sym e.0) room
