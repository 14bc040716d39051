-- The refusals of a layout and of a place in it: past all of them the layout is accepted, and has the
-- place.
use mathlib.Core.Path.{◌≡◌}
use mathlib.Core.Bool.{Bool, true, ◌&&◌, ◌||◌, not}
use mathlib.Core.Logic.{◌⊎◌, inl, inr, ⊎_elim}
use Prim.Native.Nat.{ℕ, ◌*◌, ◌%◌, ◌^◌, ◌≤◌, ◌<◌}
use lib.Dec.{eqb, ltb, leb}
use borrow.Author.Tests.{ltb-true, leb-true, eqb-true, ltb-false, lt-ltb, le-leb, eq-eqb, not-false}
use Rattle.mathematics.specs.Choice.{when, first_of}
use Rattle.mathematics.proofs.Flags.{and_l, and_r, and_i, or_l, or_r, or_cases}
use Rattle.mathematics.proofs.ChoiceLaws.{first_none, when_none}
use Rattle.liberation.specs.Sets.{shape_refusal}
use Rattle.liberation.proofs.RefusalLaws.{shape_of}
use Rattle.space.specs.Refusals.{package_refusal}
use Rattle.image_layout.specs.Layouts.{stripes_of, units_of}
use Rattle.image_layout.specs.Limits.{is_group, group_refusal, layout_refusal, cell_refusal, block_refusal, unit_refusal, film_refusal, Fits, Accepted}
use Rattle.image_layout.specs.Stands.{IsCell}
use Rattle.image_layout.specs.declared.Layout.{Layout}

module _ (u s g : ℕ) where
  abbrev last : Bool
  last = leb g 65536 && eqb (g % u) 0

  abbrev piece : Bool
  piece = leb (u * s) 32768 || eqb u 1

  pub fits_of : is_group u s g ≡ true → Fits u s g
  fits_of e =
      let a = and_r (ltb 0 u) (piece && (ltb 0 g && last)) e in
      let b = and_r piece (ltb 0 g && last) a in
      let c = and_r (ltb 0 g) last b in
      record {
        unit = ltb-true 0 u (and_l (ltb 0 u) (piece && (ltb 0 g && last)) e);
        piece = ⊎_elim (λ h. inl (leb-true (u * s) 32768 h)) (λ h. inr (eqb-true u 1 h)) (or_cases (leb (u * s) 32768) (eqb u 1) (and_l piece (ltb 0 g && last) a));
        group = ltb-true 0 g (and_l (ltb 0 g) last b);
        most = leb-true g 65536 (and_l (leb g 65536) (eqb (g % u) 0) c);
        whole = eqb-true (g % u) 0 (and_r (leb g 65536) (eqb (g % u) 0) c);
      }

  piece_by : (u * s ≤ 32768) ⊎ (u ≡ 1) → piece ≡ true
  piece_by h = ⊎_elim (λ k. or_l (leb (u * s) 32768) (eqb u 1) (le-leb (u * s) 32768 k)) (λ k. or_r (leb (u * s) 32768) (eqb u 1) (eq-eqb u 1 k)) h

  pub fits_by : Fits u s g → is_group u s g ≡ true
  fits_by f =
      let c : last ≡ true = and_i (leb g 65536) (eqb (g % u) 0) (le-leb g 65536 f.most) (eq-eqb (g % u) 0 f.whole) in
      let b : (ltb 0 g && last) ≡ true = and_i (ltb 0 g) last (lt-ltb 0 g f.group) c in
      and_i (ltb 0 u) (piece && (ltb 0 g && last)) (lt-ltb 0 u f.unit) (and_i piece (ltb 0 g && last) (piece_by f.piece) b)

  group_of : group_refusal u s g ≡ 0 → Fits u s g
  group_of e = fits_of (not-false (is_group u s g) (when_none (not (is_group u s g)) 24 e))

-- past refusals 1, 13, 2, 11 and 25
pub accepted : (l : Layout) → layout_refusal l ≡ 0 → Accepted l
accepted l e =
    let a = first_none (shape_refusal l.width l.disks l.cell_size) (first_of (package_refusal l.length) (group_refusal l.unit l.cell_size l.group)) e in
    let b = first_none (package_refusal l.length) (group_refusal l.unit l.cell_size l.group) a.1 in
    let q = shape_of l.width l.disks l.cell_size a.0 in
    let f = group_of l.unit l.cell_size l.group b.1 in
    record {
      array = q.0;
      some = q.1;
      small = q.2;
      length = ltb-false (2 ^ 48) l.length (when_none (ltb (2 ^ 48) l.length) 10 b.0);
      unit = f.unit;
      group = f.group;
      most = f.most;
      whole = f.whole;
    }

-- past refusal 26, by a test t
place_of : (m : ℕ) (t : Bool) → first_of m (when (not t) 26) ≡ 0 → (m ≡ 0) × (t ≡ true)
place_of m t e = let n = first_none m (when (not t) 26) e in (n.0, not-false t (when_none (not t) 25 n.1))

-- past refusal 26
pub cell_of : (l : Layout) (i n : ℕ) → cell_refusal l i n ≡ 0 → (layout_refusal l ≡ 0) × IsCell l i n
cell_of l i n e =
    let t = place_of (layout_refusal l) (ltb i l.width && ltb n (stripes_of l)) e in
    (t.0, record { row = ltb-true i l.width (and_l (ltb i l.width) (ltb n (stripes_of l)) t.1); stripe = ltb-true n (stripes_of l) (and_r (ltb i l.width) (ltb n (stripes_of l)) t.1) })

pub block_of : (l : Layout) (v : ℕ) → block_refusal l v ≡ 0 → (layout_refusal l ≡ 0) × (v < units_of l)
block_of l v e = let t = place_of (layout_refusal l) (ltb v (units_of l)) e in (t.0, ltb-true v (units_of l) t.1)

pub unit_of_lem : (l : Layout) (i v : ℕ) → unit_refusal l i v ≡ 0 → (layout_refusal l ≡ 0) × (v < units_of l) × (i < l.width)
unit_of_lem l i v e =
    let t = place_of (block_refusal l v) (ltb i l.width) e in
    let b = block_of l v t.0 in
    (b.0, b.1, ltb-true i l.width t.1)

pub film_of_lem : (l : Layout) (n : ℕ) → film_refusal l n ≡ 0 → (layout_refusal l ≡ 0) × (n < l.length)
film_of_lem l n e = let t = place_of (layout_refusal l) (ltb n l.length) e in (t.0, ltb-true n l.length t.1)
