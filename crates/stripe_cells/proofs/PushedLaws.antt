-- Offsets written into slots, a part of a set after the other: which slot comes next, and what the
-- slots before it then hold.
use mathlib.Core.Path.{◌≡◌, sym, ap, ◌∙◌}
use mathlib.Core.List.{List, [], ◌∷◌, ◌++◌}
use Prim.Native.Nat.{ℕ, ◌+◌, ◌*◌, ◌≤◌, ◌<◌}
use native.Mathlib.Numerals.{add-one}
use native.Mathlib.Omega.{arith}
use lib.ListN.{length, set, take, length-set}
use lib.Seq.{take-suc-set, length-take-le}
use Rattle.mathematics.proofs.KeptLaws.{kept_short}
use Rattle.mathematics.proofs.Walks.{walk_long}
use Rattle.liberation.specs.Sets.{row_from, row_set}
use Rattle.parity_sets.specs.declared.set.ParitySet.{ParitySet}
use Rattle.parity_sets.specs.declared.set.ParitySet.TheVariants.{Row}
use Rattle.parity_sets.specs.ParitySets.{kind_of, number_of}
use Rattle.stripe_cells.specs.Offsets.{scaled, cells_from, Pushed}
use Rattle.stripe_cells.specs.OrdinaryCells.{survivors, ordinary_of}
use Rattle.stripe_cells.proofs.KeptLaws.{cell_walk}
use Rattle.stripe_cells.proofs.OrdinaryLists.{survivors_keep}
use Rattle.stripe_cells.proofs.AppendedLaws.{none_appended, length_appended, data_length, ordinary_length}

-- what the slots in front held is in front
pub in_front : {old new front : List ℕ} {n r : ℕ} {xs : List ℕ} → take n old ≡ front → Pushed old new n r xs → take r new ≡ front ++ xs
in_front {xs = xs} e u = u.list ∙ ap (λ (l : List ℕ). l ++ xs) e

-- nothing written
pub none_pushed : {xs : List ℕ} (s n : ℕ) (l : List ℕ) → n ≤ length l → xs ≡ [] → Pushed l l n n (scaled s xs)
none_pushed s n l h e = record { list = none_appended s (take n l) e; fits = h }

-- one offset
pub one_pushed : {xs : List ℕ} (s n x y : ℕ) (l : List ℕ) → n < length l → y ≡ x * s → xs ≡ x ∷ [] → Pushed l (set l n y) n (n + 1) (scaled s xs)
unfolding scaled
one_pushed s n x y l h q e =
    record {
      list = ap (λ (j : ℕ). take j (set l n y)) (add-one n) ∙ take-suc-set l n y h ∙ ap (λ (j : ℕ). take n l ++ (j ∷ [])) q ∙ ap (λ (c : List ℕ). take n l ++ scaled s c) (sym e);
      fits = omega (arith, length-set l n y);
    }

module _ {a b : List ℕ} {m r : ℕ} (p s kind i : ℕ) (from : m ≤ length a) where
  -- so many cells of some disks
  pub data_count : (n c : ℕ) → Pushed a b m r (scaled s (cells_from kind n p i c)) → r ≡ m + n
  data_count n c u = omega (arith, data_length p 0 s kind i (take m a) (take r b) n c u.list, length-take-le m a from, length-take-le r b u.fits)

  -- so many at most, without two disks
  pub data_most : (k x y : ℕ) → Pushed a b m r (scaled s (survivors p x y (cells_from kind k p i 0))) → r ≤ m + k
  data_most k x y u =
      let n = length_appended (take m a) (take r b) s (survivors p x y (cells_from kind k p i 0)) u.list in
      omega (arith, n, kept_short (survivors_keep p x y) (cells_from kind k p i 0), walk_long (cell_walk kind p i) k 0, length-take-le m a from, length-take-le r b u.fits)

  pub ordinary_most : (k x y : ℕ) → Pushed a b m r (scaled s (survivors p x y (ordinary_of p k kind i))) → r ≤ m + (k + 1)
  ordinary_most k x y u = omega (arith, ordinary_length p k s kind i (take m a) (take r b) x y u.list, length-take-le m a from, length-take-le r b u.fits)

-- the ordinary cells of a row set are those on the data disks and P
pub row_cells : (set : ParitySet) (p k i : ℕ) → set ≡ Row i → cells_from (kind_of set) (k + 1) p (number_of set) 0 ≡ ordinary_of p k (kind_of set) (number_of set)
unfolding row_set
row_cells set p k i e = rw e (ap (λ (n : ℕ). row_from n p i 0) (add-one k))
