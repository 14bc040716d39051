-- A cell solved by its set: the offsets of the set's other cells lie apart from it, and their XOR, put
-- there, is the set's step. So with the columns of all rows.
use mathlib.Core.Path.{◌≡◌, sym, ap, ap₂, subst, ◌∙◌}
use mathlib.Core.Bool.{true, false}
use mathlib.Core.Logic.{◌⊎◌, inl, inr, ⊎_elim}
use mathlib.Core.List.{List, [], ◌++◌}
use Prim.Native.Nat.{ℕ, suc, ◌+◌, ◌-◌, ◌*◌, ◌≤◌, ◌<◌}
use native.Mathlib.Nat.{mul-le-mul}
use native.Mathlib.Omega.{arith}
use lib.ListN.{length, get_or}
use Rattle.mathematics.specs.Lists.{is_in, all_below}
use Rattle.mathematics.proofs.Flags.{clash}
use Rattle.mathematics.proofs.KeptLaws.{kept_below, kept_short}
use Rattle.mathematics.proofs.MemberLaws.{at_in}
use Rattle.mathematics.proofs.OrderLaws.{lt_or_le}
use Rattle.liberation.specs.Sets.{place, row_from, row_set, set_of, surviving_in}
use Rattle.liberation.specs.Plans.{all_of}
use Rattle.liberation.proofs.SetLaws.{set_below}
use Rattle.liberation.proofs.SetSizes.{size_most}
use Rattle.liberation.specs.Stripes.Stripes.{without, solved, followed, stripe_long}
use Rattle.liberation.proofs.Stripes.StripeCellLaws.{cell_fits, cells_apart}
use Rattle.liberation.proofs.Stripes.OverLaws.{without_keeps, without_none}
use Rattle.xor.specs.Parts.{with_part, xor_offsets}
use Rattle.xor.specs.Reach.{Reached}
use Rattle.xor_in_place.specs.Beside.{Beside, Apart}
use Rattle.stripe_cells.specs.Cells.{Ordinary}
use Rattle.stripe_cells.specs.Offsets.{scaled, cells_from}
use Rattle.stripe_cells.specs.OrdinaryCells.{survivors, ordinary_of}
use Rattle.stripe_cells.specs.SetCells.{extra_in}
use Rattle.stripe_cells.proofs.AppendedLaws.{both_appended, data_length}
use Rattle.stripe_cells.proofs.ColumnLaws.{columns_apart, rows_solved}
use Rattle.stripe_cells.proofs.KeptLaws.{cell_walk, surviving_but}
use Rattle.stripe_cells.proofs.OffsetLaws.{each_offset, cells_reached, over_offsets}
use Rattle.stripe_cells.proofs.OrdinaryLaws.{others_are, own_below}

-- what is appended to nothing
pub from_none : (a b xs : List ℕ) → a ≡ [] → b ≡ a ++ xs → b ≡ xs
from_none a b xs e q = q ∙ ap (λ (l : List ℕ). l ++ xs) e

-- offsets of cells xs of a stripe of n cells
module _ (s n : ℕ) (list xs t : List ℕ) (e : list ≡ scaled s xs) (few : length xs ≤ 100) (below : all_below n xs ≡ true) (long : length t ≡ n * s) where
  pub list_reached : Reached s (length t) list
  list_reached = subst (Reached s (length t)) (sym e) (cells_reached s n (length t) xs below (omega arith) few)

  -- each is the cell x, or lies apart from it
  pub list_lies_beside : (x : ℕ) → x < n → Beside (x * s) s (length t) list
  list_lies_beside x h =
      record {
        sources = list_reached;
        fits = omega (arith, cell_fits n s x h);
        apart = subst (λ (l : List ℕ). (i : ℕ) → i < length l → (get_or l i 0 + s ≤ x * s) ⊎ (x * s ≤ get_or l i 0)) (sym e) (each_offset (λ a. (a + s ≤ x * s) ⊎ (x * s ≤ a)) s xs (λ i l. one (get_or xs i 0)));
      }
    where
      one : (d : ℕ) → (d * s + s ≤ x * s) ⊎ (x * s ≤ d * s)
      one d = ⊎_elim (λ q. inl (cell_fits x s d q)) (λ q. let r : s ≤ s = omega arith in inr (mul-le-mul q r)) (lt_or_le d x)

  -- they lie apart from a cell that is none of them
  pub list_apart : (x : ℕ) → x < n → is_in x xs ≡ false → Apart (x * s) s (length t) list
  list_apart x h none =
      record {
        sources = list_reached;
        fits = omega (arith, cell_fits n s x h);
        apart = subst (λ (l : List ℕ). (i : ℕ) → i < length l → (get_or l i 0 + s ≤ x * s) ⊎ (x * s + s ≤ get_or l i 0)) (sym e) (each_offset (λ a. (a + s ≤ x * s) ⊎ (x * s + s ≤ a)) s xs apart);
      }
    where
      other : (i : ℕ) → i < length xs → get_or xs i 0 ≡ x → ⊥
      other i l q = clash (is_in x xs) (ap (λ (y : ℕ). is_in y xs) (sym q) ∙ at_in i xs l) none

      apart : (i : ℕ) → i < length xs → (get_or xs i 0 * s + s ≤ x * s) ⊎ (x * s + s ≤ get_or xs i 0 * s)
      apart i l = cells_apart s (get_or xs i 0) x (other i l)

-- the XOR of the other cells of a set xs, put at the cell x, is the set's step
pub put_is_step : (s x : ℕ) (xs list t u : List ℕ) → list ≡ scaled s (without x xs) → u ≡ with_part s (x * s) (xor_offsets s t list) t → u ≡ solved s x xs t
put_is_step s x xs list t u e q = q ∙ ap (λ (l : List ℕ). with_part s (x * s) l t) (ap (xor_offsets s t) e ∙ over_offsets s t (without x xs))

-- the other cells of a set that has an ordinary cell in row r of disk c
module _ (p k kind i c r : ℕ) (o : Ordinary p k kind i c r) (s : ℕ) (list t : List ℕ) (long : length t ≡ stripe_long p k s) (e : list ≡ scaled s (survivors p c c (ordinary_of p k kind i) ++ extra_in p k kind i)) where
  others_list : list ≡ scaled s (without (place p r c) (set_of p k kind i))
  others_list = e ∙ ap (scaled s) (sym (others_are p k kind i c r o))

  pub others_lie : k ≤ 31 → Apart (place p r c * s) s (length t) list
  others_lie h =
      let cell = place p r c in
      list_apart s (p * (k + 2)) list (without cell (set_of p k kind i)) t others_list (omega (arith, kept_short (without_keeps cell) (set_of p k kind i), size_most p k kind i))
      (kept_below (without_keeps cell) (p * (k + 2)) (set_of p k kind i) (set_below p k kind i o.numbered))
      (long ∙ omega arith)
      cell
      (own_below p k kind i c r o)
      (without_none cell (set_of p k kind i))

  pub others_put : (u : List ℕ) → u ≡ with_part s (place p r c * s) (xor_offsets s t list) t → u ≡ solved s (place p r c) (set_of p k kind i) t
  others_put u q = put_is_step s (place p r c) (set_of p k kind i) list t u others_list q

-- the cells of row 0 but that on disk d begin the other columns
module _ (p k s d : ℕ) (some : 0 < p) (disk : d ≤ k) (a b list t : List ℕ) (n : a ≡ []) (u : b ≡ a ++ scaled s (cells_from 0 (d - 0) p 0 0)) (v : list ≡ b ++ scaled s (cells_from 0 (k + 1 - (d + 1)) p 0 (d + 1))) (long : length t ≡ stripe_long p k s) where
  columns_list : list ≡ scaled s (surviving_in p d (row_set p k 0))
  unfolding row_set
  columns_list =
      let e : suc k - (suc k - d) - 0 ≡ d - 0 = omega arith in
      let q : suc k - (d + 1) ≡ k + 1 - (d + 1) = omega arith in
      both_appended (surviving_in p d (row_from (suc k) p 0 0)) a b list s (row_from (d - 0) p 0 0) (row_from (k + 1 - (d + 1)) p 0 (d + 1))
      (surviving_but p (λ c. 0) (λ c. some) (cell_walk 0 p 0) d (suc k) 0 (suc k) (omega arith) (omega arith) ∙ ap₂ (λ (x y : ℕ). row_from x p 0 0 ++ row_from y p 0 (d + 1)) e q)
      u
      v
      ∙ ap (λ (l : List ℕ). l ++ scaled s (surviving_in p d (row_from (suc k) p 0 0))) n

  columns_length : length list ≡ k
  columns_length = omega (arith, ap length n, data_length p k s 0 0 a b (d - 0) 0 u, data_length p k s 0 0 b list (k + 1 - (d + 1)) (d + 1) v)

  pub columns_lie : k ≤ 31 → Apart (d * (p * s)) (p * s) (length t) list
  columns_lie h = columns_apart p k s d some columns_list (omega (arith, columns_length)) (omega arith) disk

  pub columns_put : k ≤ 31 → (u : List ℕ) → u ≡ with_part (p * s) (d * (p * s)) (xor_offsets (p * s) t list) t → u ≡ followed p k s d (all_of p 0 0) t
  columns_put h u q = rows_solved p k s d t some disk long (subst (Reached (p * s) (length t)) columns_list (columns_lie h).sources) list u columns_list q
