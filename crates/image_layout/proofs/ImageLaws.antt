-- Every accepted layout stands: cells and checksum blocks by their groups, the film by its digits,
-- and its stripes are as many as the space call reckons for a package of that one file.
use mathlib.Core.Path.{◌≡◌, refl, sym, ap, ap₂, ◌∙◌}
use mathlib.Core.List.{[], ◌∷◌}
use mathlib.Core.Logic.{⊎_elim}
use Prim.Native.Nat.{ℕ, ◌+◌, ◌*◌, ◌/◌, ◌%◌, ◌<◌}
use native.Mathlib.Nat.{mod-lt, div-mul-le_self}
use native.Mathlib.Omega.{arith}
use Rattle.mathematics.proofs.OrderLaws.{eq_or_ne}
use Rattle.mathematics.proofs.ChoiceLaws.{pick_done, first_none}
use Rattle.mathematics.specs.Choice.{first_of}
use Rattle.liberation.specs.Sets.{shape_refusal}
use Rattle.space.specs.Says.{SpaceSays}
use Rattle.space.specs.Refusals.{space_refusal, package_refusal}
use Rattle.space.specs.declared.Space.{Space}
use Rattle.space.proofs.SpaceLaws.{one_file}
use Rattle.image_layout.specs.Layouts.{film_bytes, stripes_of, end_at, image_bytes, cell_at, film_stripe, film_disk, film_row, film_offset, film_at, film_byte}
use Rattle.image_layout.specs.Limits.{layout_refusal, group_refusal, Accepted}
use Rattle.image_layout.specs.Stands.{IsCell, IsData, ImageStands, PiecesStand, FilmStands}
use Rattle.image_layout.specs.declared.Layout.{Layout}
use Rattle.image_layout.proofs.UpLaws.{up_above}
use Rattle.image_layout.proofs.GroupLaws.{inside_between, start_whole, end_whole}
use Rattle.image_layout.proofs.CellPlaces.{cell_inside, cells_apart}
use Rattle.image_layout.proofs.BlockPlaces.{block_inside, blocks_apart, cell_block_apart}
use Rattle.image_layout.proofs.PieceLaws.{pieces_by}
use Rattle.image_layout.proofs.SmallLaws.{film_pos}
use Rattle.image_layout.proofs.FilmLaws.{disk_below, number_below, number_of, digit_stripe, digit_disk, digit_row, digit_byte}
use Rattle.image_layout.proofs.LimitLaws.{accepted}

image_bytes_lem : (l : Layout) → image_bytes l ≡ end_at l + 4096
unfolding image_bytes
image_bytes_lem l = refl

pub image_stands : (l : Layout) → layout_refusal l ≡ 0 → ImageStands l
image_stands l e =
    let ok = accepted l e in
    record {
      cells = cells_apart l ok;
      cell_block = cell_block_apart l ok;
      blocks = blocks_apart l ok;
      cell_between = λ i n c. inside_between l ok (n / l.group) (cell_at l i n) l.cell_size (cell_inside l ok i n c);
      block_between = λ v h. inside_between l ok _ _ _ (block_inside l ok v h);
      starts = start_whole l ok;
      ends = end_whole l ok;
      bytes = image_bytes_lem l;
    }

pub pieces_stand : (l : Layout) → layout_refusal l ≡ 0 → PiecesStand l
pieces_stand l e = pieces_by l (accepted l e)

module _ (l : Layout) (ok : Accepted l) where
  -- where a byte of the film is
  data_of : (n : ℕ) → IsData l (film_disk l n) (film_row l n) (film_offset l n)
  data_of n =
      record {
        disk = disk_below l.disks l.width l.cell_size ok.array.some ok.some (n % film_bytes l) (mod-lt n (film_pos l ok));
        row = mod-lt (n % film_bytes l / l.cell_size) ok.array.some;
        byte = mod-lt (n % film_bytes l) ok.some;
      }

  pub stripe_of : (n : ℕ) → n < l.length → film_stripe l n < stripes_of l
  unfolding stripes_of
  stripe_of n h = up_above (film_bytes l) (film_pos l ok) l.length (n / film_bytes l) (omega (arith, h, div-mul-le_self n (film_bytes l)))

  pub film_cell_lem : (n : ℕ) → n < l.length → IsCell l (film_row l n) (film_stripe l n)
  film_cell_lem n h = record { row = (data_of n).row; stripe = stripe_of n h }

  below : (c i b : ℕ) → IsData l c i b → (c * l.width + i) * l.cell_size + b < film_bytes l
  below c i b d = number_below l.disks l.width l.cell_size ok.array.some ok.some c i b d.disk d.row d.byte

  -- two bytes at one place of an image are of one cell
  cell_same : (i m a j n b : ℕ) → IsCell l i m → IsCell l j n → a < l.cell_size → b < l.cell_size → cell_at l i m + a ≡ cell_at l j n + b → (i ≡ j) × (m ≡ n)
  cell_same i m a j n b c d ha hb e = (⊎_elim (λ q. q) (λ q. absurd (clash (λ p r. q p))) (eq_or_ne i j), ⊎_elim (λ q. q) (λ q. absurd (clash (λ p r. q r))) (eq_or_ne m n))
    where
      clash : (i ≡ j → m ≡ n → ⊥) → ⊥
      clash z = ⊎_elim (λ h. omega (arith, h, e, ha, hb)) (λ h. omega (arith, h, e, ha, hb)) (cells_apart l ok i m j n c d z)

  film_once : (m n : ℕ) → m < l.length → n < l.length → film_disk l m ≡ film_disk l n → film_at l m ≡ film_at l n → m ≡ n
  unfolding film_at
  film_once m n hm hn d e =
      let t = cell_same (film_row l m) (film_stripe l m) (film_offset l m) (film_row l n) (film_stripe l n) (film_offset l n) (film_cell_lem m hm) (film_cell_lem n hn) (data_of m).byte (data_of n).byte e in
      let c : cell_at l (film_row l m) (film_stripe l m) ≡ cell_at l (film_row l n) (film_stripe l n) = ap₂ (cell_at l) t.0 t.1 in
      let o : film_offset l m ≡ film_offset l n = omega (arith, e, c) in
      sym (number m) ∙ digits t.1 d t.0 o ∙ number n
    where
      number : (x : ℕ) → film_byte l (film_stripe l x) (film_disk l x) (film_row l x) (film_offset l x) ≡ x
      number x = number_of (film_bytes l) l.width l.cell_size x

      digits : {a b c d i j x y : ℕ} → a ≡ b → c ≡ d → i ≡ j → x ≡ y → film_byte l a c i x ≡ film_byte l b d j y
      digits {a} {b} {c} {d} {i} {j} {x} {y} p q r s = ap (λ (z : ℕ). film_byte l z c i x) p ∙ ap (λ (z : ℕ). film_byte l b z i x) q ∙ ap (λ (z : ℕ). film_byte l b d z x) r ∙ ap (λ (z : ℕ). film_byte l b d j z) s

  film_by : FilmStands l
  film_by =
      let f = film_bytes l in
      let p = l.width in
      let s = l.cell_size in
      record {
        is_data = data_of;
        stripe = stripe_of;
        back = λ n. number_of f p s n;
        of_stripe = λ m c i b d. digit_stripe f p s m c i b d.row d.byte (below c i b d);
        of_disk = λ m c i b d. digit_disk f p s m c i b d.row d.byte (below c i b d);
        of_row = λ m c i b d. digit_row f p s m c i b d.row d.byte (below c i b d);
        of_byte = λ m c i b d. digit_byte f p s m c i b d.row d.byte (below c i b d);
        once = film_once;
      }

pub film_stands : (l : Layout) → layout_refusal l ≡ 0 → FilmStands l
film_stands l e = film_by l (accepted l e)

-- the space call accepts a package of that one file, and reckons as many stripes
pub space_same : (l : Layout) (free : ℕ) (r : Space) → layout_refusal l ≡ 0 → SpaceSays l.width l.disks l.cell_size (l.length ∷ []) free r → (r.answer.refusal ≡ 0) × (r.stripes ≡ stripes_of l)
unfolding stripes_of
space_same l free r e h =
    let p = l.width in
    let k = l.disks in
    let s = l.cell_size in
    let one = one_file p k s l.length in
    let a = first_none (shape_refusal p k s) (first_of (package_refusal l.length) (group_refusal l.unit s l.group)) e in
    let b = first_none (package_refusal l.length) (group_refusal l.unit s l.group) a.1 in
    let z : space_refusal p k s (l.length ∷ []) ≡ 0 = ap₂ first_of a.0 (one.1 ∙ b.0) in
    (h.answer.refusal ∙ z, h.stripes ∙ sym (pick_done (space_refusal p k s (l.length ∷ [])) _ 0 z) ∙ one.0)
