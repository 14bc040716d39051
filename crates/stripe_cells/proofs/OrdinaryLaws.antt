-- The set without one of its ordinary cells: a set has one ordinary cell on a disk, and the extra
-- cell is none of them, so it is the set without that disk, but for the extra cell. The XOR of
-- those cells, put at the ordinary one, is the set's step.
use mathlib.Core.Path.{◌≡◌, refl, sym, ap, ap₂, ◌∙◌}
use mathlib.Core.Bool.{Bool, true, false, ◌&&◌}
use mathlib.Core.List.{◌++◌}
use Prim.Native.Nat.{ℕ, suc, ◌+◌, ◌*◌, ◌%◌, ◌≤◌, ◌<◌}
use native.Mathlib.Nat.{mod-lt}
use native.Mathlib.Omega.{arith}
use lib.Dec.{eqb, ltb, leb}
use borrow.Author.Tests.{eq-eqb, ne_eqb, eqb-true, le-leb}
use Rattle.mathematics.specs.Choice.{pick}
use Rattle.mathematics.specs.Lists.{is_in}
use Rattle.mathematics.proofs.Flags.{and_i, or_l, or_r, clash, same_flag}
use Rattle.mathematics.proofs.ListLaws.{is_in_append}
use Rattle.mathematics.proofs.MemberLaws.{in_below}
use Rattle.mathematics.proofs.KeptLaws.{kept_append, kept_same}
use Rattle.liberation.specs.Sets.{place, disk_at, row_at, row_set, ordinary, has_extra, extra_of, set_of}
use Rattle.liberation.proofs.SetLaws.{disk_place, place_of, in_row, in_ordinary, in_ordinary_data, set_below}
use Rattle.liberation.proofs.DistinctLaws.{extra_apart}
use Rattle.liberation.proofs.PlaceLaws.{disk_below}
use Rattle.liberation.specs.Stripes.Stripes.{without}
use Rattle.liberation.proofs.Stripes.OverLaws.{without_keeps}
use Rattle.stripe_cells.proofs.KeptLaws.{surviving_keeps}
use Rattle.stripe_cells.specs.OrdinaryCells.{survivors, ordinary_of}
use Rattle.stripe_cells.specs.SetCells.{extra_in}
use Rattle.stripe_cells.proofs.SetLists.{survivors_one, set_split, extra_kept, own_row}
use Rattle.stripe_cells.specs.Cells.{Ordinary}

-- the set without its ordinary cell on disk c
module _ (p k kind i c r : ℕ) (o : Ordinary p k kind i c r) where
  abbrev cell : ℕ
  cell = place p r c

  -- the cells of the set on disk c are that cell
  same_disk : (y : ℕ) → is_in y (ordinary_of p k kind i) ≡ true → disk_at p y ≡ c → cell ≡ y
  same_disk y h e =
      let q : place p (row_at p y) c ≡ y = ap (place p (row_at p y)) (sym e) ∙ place_of p y in
      let b : row_at p y < p = mod-lt y (omega (arith, o.row)) in
      let s : row_at p y ≡ r = own_row p k kind i o.numbered (row_at p y) c b (ap (λ (x : ℕ). is_in x (ordinary_of p k kind i)) q ∙ h) ∙ sym (own_row p k kind i o.numbered r c o.row o.own) in
      ap (λ (x : ℕ). place p x c) (sym s) ∙ q

  pub others_are : without (place p r c) (set_of p k kind i) ≡ survivors p c c (ordinary_of p k kind i) ++ extra_in p k kind i
  others_are =
      ap (without cell) (set_split p k kind i)
      ∙ kept_append (without_keeps cell) (ordinary_of p k kind i) (extra_in p k kind i)
      ∙ ap₂ ◌++◌ (kept_same (without_keeps cell) (surviving_keeps p c) (ordinary_of p k kind i) flags ∙ sym (survivors_one p c (ordinary_of p k kind i))) (extra_kept p k kind i o.numbered (without_keeps cell) none)
    where
      flags : (y : ℕ) → is_in y (ordinary_of p k kind i) ≡ true → eqb cell y ≡ eqb (disk_at p y) c
      flags y h =
          same_flag (eqb cell y) (eqb (disk_at p y) c)
          (λ e. eq-eqb (disk_at p y) c (ap (disk_at p) (sym (eqb-true cell y e)) ∙ disk_place p r c o.row))
          (λ e. eq-eqb cell y (same_disk y h (eqb-true (disk_at p y) c e)))

      none : (kind ≡ 0 → ⊥) → has_extra p k i ≡ true → eqb cell (extra_of p i) ≡ false
      none n h =
          ne_eqb cell (extra_of p i)
          (λ e. clash (is_in (extra_of p i) (ordinary p k i))
          (ap (λ (x : ℕ). is_in x (ordinary p k i)) (sym e) ∙ sym (ap (λ (b : Bool). is_in cell (pick b (row_set p k i) (ordinary p k i))) (ne_eqb kind 0 n)) ∙ o.own)
          (extra_apart p k i o.numbered h))

-- an ordinary cell of a set is a cell of the stripe
module _ (p k kind i c r : ℕ) (o : Ordinary p k kind i c r) where
  pub own_below : place p r c < p * (k + 2)
  own_below =
      in_below (p * (k + 2)) (place p r c) (set_of p k kind i) (set_below p k kind i o.numbered)
      (ap (is_in (place p r c)) (set_split p k kind i) ∙ is_in_append (place p r c) (ordinary_of p k kind i) (extra_in p k kind i) ∙ or_l (is_in (place p r c) (ordinary_of p k kind i)) (is_in (place p r c) (extra_in p k kind i)) o.own)

  pub own_disk : c < k + 2
  own_disk = omega (arith, disk_below p (k + 2) (place p r c) own_below, disk_place p r c o.row)

-- ordinary cells: of a row set on each data disk and P, of a diagonal set on each data disk and Q
pub row_own : (p k i c : ℕ) → i < p → c ≤ k → Ordinary p k 0 i c i
row_own p k i c h l = record { numbered = h; row = h; own = in_row p k i i c h h ∙ and_i (eqb i i) (leb c k) (eq-eqb i i refl) (le-leb c k l) }

pub diagonal_own : (p k i c r : ℕ) → i < p → r < p → c < k → r ≡ (i + c) % p → Ordinary p k 1 i c r
diagonal_own p k i c r h b l e = record { numbered = h; row = b; own = in_ordinary_data p k i r c b h l ∙ eq-eqb r ((i + c) % p) e }

pub parity_own : (p k i : ℕ) → i < p → Ordinary p k 1 i (k + 1) i
parity_own p k i h =
    record {
      numbered = h;
      row = h;
      own = in_ordinary p k i i (k + 1) h h ∙ or_r (ltb (k + 1) k && eqb i ((i + (k + 1)) % p)) (eqb (k + 1) (suc k) && eqb i i) (and_i (eqb (k + 1) (suc k)) (eqb i i) (eq-eqb (k + 1) (suc k) (omega arith)) (eq-eqb i i refl));
    }
