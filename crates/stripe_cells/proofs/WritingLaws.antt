-- The loops that write the offset of a set's cell on one disk after another: the slots written, with
-- the cells still to come, are the cells of all the disks.
use mathlib.Core.Path.{◌≡◌, refl, sym, ap, ◌∙◌}
use mathlib.Core.List.{List, [], ◌∷◌, ◌++◌, append_assoc, append-nil}
use Prim.Native.Nat.{ℕ, suc, ◌+◌, ◌-◌, ◌*◌, ◌%◌, ◌≤◌, ◌<◌}
use native.Mathlib.Nat.{mul-le-mul}
use native.Mathlib.Numerals.{add-one}
use native.Mathlib.Omega.{arith}
use lib.ListN.{length, set, take, length-set}
use lib.Seq.{take-suc-set, take_all}
use Rattle.liberation.specs.Limits.{largest_cell}
use Rattle.liberation.specs.Sets.{place}
use Rattle.liberation.proofs.DiagonalRows.{row_below}
use Rattle.parity_sets.specs.declared.set.ParitySet.{ParitySet}
use Rattle.parity_sets.specs.declared.set.ParitySet.TheVariants.{Row, Diagonal}
use Rattle.parity_sets.specs.ParitySets.{kind_of}
use Rattle.stripe_cells.specs.Offsets.{scaled, cells_from}
use Rattle.stripe_cells.proofs.KeptLaws.{row_in, cell_walk}

-- there are two kinds of set
pub kind_most : (set : ParitySet) → kind_of set ≤ 1
kind_most (Row _) = omega arith
kind_most (Diagonal _) = omega arith

-- n of the slots are written
pub record Writing (kind p i s from : ℕ) (old at : List ℕ) (n : ℕ) : Type 0 where
  pub long : length at ≡ length old
  pub list : take n at ++ scaled s (cells_from kind (length old - n) p i (from + n)) ≡ scaled s (cells_from kind (length old) p i from)

scaled_next : (s kind p i n c : ℕ) → scaled s (cells_from kind (suc n) p i c) ≡ (place p (row_in kind p i c) c * s) ∷ scaled s (cells_from kind n p i (suc c))
unfolding scaled
scaled_next s kind p i n c = ap (scaled s) ((cell_walk kind p i).next n c)

scaled_none : (s kind p i c : ℕ) → scaled s (cells_from kind 0 p i c) ≡ []
unfolding scaled
scaled_none s kind p i c = ap (scaled s) ((cell_walk kind p i).none c)

module _ {kind p i s from : ℕ} {old : List ℕ} where
  pub writing_start : Writing kind p i s from old old 0
  writing_start =
      let z : from + 0 ≡ from = omega arith in
      let m : length old - 0 ≡ length old = omega arith in
      record {
        long = refl;
        list = ap (λ (j : ℕ). scaled s (cells_from kind j p i (from + 0))) m ∙ ap (λ (c : ℕ). scaled s (cells_from kind (length old) p i c)) z;
      }

  -- x is the offset of the set's cell on the next disk
  pub writing_turn : {at : List ℕ} {n : ℕ} (x : ℕ) → n < length old → x ≡ place p (row_in kind p i (from + n)) (from + n) * s → Writing kind p i s from old at n → Writing kind p i s from old (set at n x) (n + 1)
  writing_turn {at} {n} x h e w =
      let c = from + n in
      let m = length old - (n + 1) in
      let a : length old - n ≡ suc m = omega arith in
      let z : from + (n + 1) ≡ c + 1 = omega arith in
      record {
        long = length-set at n x ∙ w.long;
        list =
            ap (λ (j : ℕ). take j (set at n x) ++ scaled s (cells_from kind m p i (from + (n + 1)))) (add-one n)
            ∙ ap (λ (j : ℕ). take (suc n) (set at n x) ++ scaled s (cells_from kind m p i j)) (z ∙ add-one c)
            ∙ ap (λ (l : List ℕ). l ++ scaled s (cells_from kind m p i (suc c))) (take-suc-set at n x (omega (arith, w.long)))
            ∙ append_assoc (take n at) (x ∷ []) (scaled s (cells_from kind m p i (suc c)))
            ∙ ap (λ (j : ℕ). take n at ++ (j ∷ scaled s (cells_from kind m p i (suc c)))) e
            ∙ ap (λ (l : List ℕ). take n at ++ l) (sym (scaled_next s kind p i m c) ∙ ap (λ (j : ℕ). scaled s (cells_from kind j p i c)) (sym a))
            ∙ w.list;
      }

  pub writing_end : {at : List ℕ} {n : ℕ} → length old ≤ n → Writing kind p i s from old at n → at ≡ scaled s (cells_from kind (length old) p i from)
  writing_end {at} {n} h w =
      let z : length old - n ≡ 0 = omega arith in
      sym (take_all n at (omega (arith, w.long)))
      ∙ sym (append-nil (take n at))
      ∙ ap (λ (l : List ℕ). take n at ++ l) (sym (ap (λ (j : ℕ). scaled s (cells_from kind j p i (from + n))) z ∙ scaled_none s kind p i (from + n)))
      ∙ w.list

-- offsets are small numbers
pub small_row : (p s r : ℕ) → p ≤ 31 → s ≤ largest_cell → r < p → r * s ≤ 31 * largest_cell
small_row p s r h k l = let b : r ≤ 31 = omega arith in mul-le-mul b k

pub small_top : (p s c : ℕ) → p ≤ 31 → s ≤ largest_cell → c ≤ 34 → c * (p * s) ≤ 34 * (31 * largest_cell)
small_top p s c h k l = mul-le-mul l (mul-le-mul h k)

-- of a diagonal's cell: its row, the bytes of the column before it, and those before the column
pub small_cell : (p s i c row top : ℕ) → i < p → p ≤ 31 → s ≤ largest_cell → c ≤ 34 → row ≡ (i + c) % p → top ≡ c * (p * s) → (row < p) × (row * s ≤ 31 * largest_cell) × (top ≤ 34 * (31 * largest_cell))
small_cell p s i c row top h k l m r t =
    let b = row_below p i c row h r in
    (b, small_row p s row k l b, omega (arith, small_top p s c k l m))

-- no cells on no disks
pub no_cells : (kind n p i c : ℕ) → n ≡ 0 → cells_from kind n p i c ≡ []
no_cells kind n p i c e = ap (λ (m : ℕ). cells_from kind m p i c) e ∙ (cell_walk kind p i).none c
