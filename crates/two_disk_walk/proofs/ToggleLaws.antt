-- Marks toggled for the surviving cells of sets where disks x and 0 are lost, set by set and row by
-- row of the start. A lost cell is none of them, so its mark is as it was.
use mathlib.Core.Path.{◌≡◌, refl, sym, ap, ap₂, subst, ◌∙◌}
use mathlib.Core.Bool.{false}
use mathlib.Core.List.{List, [], ◌∷◌, ◌++◌}
use Prim.Native.Nat.{ℕ, zero, suc, ◌+◌, ◌*◌, ◌%◌, ◌≤◌, ◌<◌}
use native.Mathlib.Nat.{add-zero, mod-eq_of_lt}
use native.Mathlib.Omega.{arith}
use lib.Bits.{bit_xor}
use lib.Dec.{eqb}
use lib.ListN.{length, get_or}
use lib.Seq.{get_or-set_other}
use borrow.Author.Tests.{eqb-false}
use Rattle.mathematics.specs.Lists.{is_in}
use Rattle.mathematics.proofs.Flags.{or_false_l, or_false_r}
use Rattle.mathematics.proofs.ListLaws.{below_at}
use Rattle.mathematics.proofs.KeptLaws.{kept_below}
use Rattle.liberation.specs.Sets.{row_set, diagonal_set, set_of}
use Rattle.liberation.proofs.SetLaws.{set_below}
use Rattle.liberation.specs.Plans.{diagonal_of}
use Rattle.liberation.specs.TwoDisks.Pairs.{next_row, start_sets}
use Rattle.stripe_cells.specs.Offsets.{scaled}
use Rattle.stripe_cells.specs.Toggled.{toggled, toggled_all}
use Rattle.stripe_cells.proofs.OddLaws.{toggled_append}
use Rattle.stripe_cells.specs.OrdinaryCells.{survivors}
use Rattle.stripe_cells.proofs.OrdinaryLists.{survivors_append, survivors_keep}
use Rattle.stripe_cells.proofs.SetLists.{survivors_none}

-- the mark of a place that is not in the list
pub toggled_other : (d : ℕ) (xs ms : List ℕ) → is_in d xs ≡ false → get_or (toggled_all xs ms) d 0 ≡ get_or ms d 0
unfolding toggled_all
toggled_other d [] ms h = refl
toggled_other d (x ∷ xs) ms h = toggled_other d xs (toggled x ms) (or_false_r (eqb d x) (is_in d xs) h) ∙ get_or-set_other ms x d (bit_xor (get_or ms x 0) 1) 0 (eqb-false d x (or_false_l (eqb d x) (is_in d xs) h))

-- cells of one byte
scaled_one : (xs : List ℕ) → scaled 1 xs ≡ xs
unfolding scaled
scaled_one [] = refl
scaled_one (x ∷ xs) = let e : x * 1 ≡ x = omega arith in ap₂ (λ (y : ℕ) (ys : List ℕ). y ∷ ys) e (scaled_one xs)

-- the places that were listed for a set, x and disk 0 being lost, in either order
pub set_places : (at xs ys : List ℕ) → at ≡ scaled 1 xs → xs ≡ ys → at ≡ ys
set_places at xs ys e q = e ∙ scaled_one xs ∙ q

-- they have marks
pub places_marked : (p k x kind i : ℕ) (at ms : List ℕ) → i < p → at ≡ survivors p x 0 (set_of p k kind i) → length ms ≡ p * (k + 2) → (j : ℕ) → j < length at → get_or at j 0 < length ms
places_marked p k x kind i at ms h e l =
    rw l (subst (λ (v : List ℕ). (j : ℕ) → j < length v → get_or v j 0 < p * (k + 2)) (sym e) (λ j m. below_at (p * (k + 2)) j (survivors p x 0 (set_of p k kind i)) (kept_below (survivors_keep p x 0) (p * (k + 2)) (set_of p k kind i) (set_below p k kind i h)) m))

-- the loop over the rows of the start: the row that is next is the diagonal's number
module _ (p k x : ℕ) where
  abbrev pub rows_rest : ℕ → ℕ → List ℕ → List ℕ
  rows_rest n r ms = toggled_all (survivors p x 0 (start_sets n p k x 0 r)) ms

  -- the surviving cells of xs have made u of ms, and those of ys are still to come
  then : (xs ys ms u : List ℕ) → u ≡ toggled_all (survivors p x 0 xs) ms → toggled_all (survivors p x 0 ys) u ≡ toggled_all (survivors p x 0 (xs ++ ys)) ms
  then xs ys ms u e =
      ap (toggled_all (survivors p x 0 ys)) e
      ∙ sym (toggled_append (survivors p x 0 xs) (survivors p x 0 ys) ms)
      ∙ sym (ap (λ (l : List ℕ). toggled_all l ms) (survivors_append p x 0 xs ys))

  pub rows_turn : (n m r i : ℕ) (ms u v : List ℕ) → n ≡ m + 1 → i ≡ diagonal_of p x r → i < p → u ≡ toggled_all (survivors p x 0 (row_set p k r)) ms → v ≡ toggled_all (survivors p x 0 (diagonal_set p k i)) u → rows_rest m i v ≡ rows_rest n r ms
  unfolding start_sets
  rows_turn zero m r i ms u v h d l e q = absurd (omega arith)
  rows_turn (suc n) m r i ms u v h d l e q =
      let o : m ≡ n = omega arith in
      let rest : List ℕ = start_sets n p k x 0 (next_row p x 0 r) in
      let next : next_row p x 0 r ≡ i = ap (λ (j : ℕ). j % p) (add-zero (diagonal_of p x r) ∙ sym d) ∙ mod-eq_of_lt l in
      ap₂ (λ (c j : ℕ). rows_rest c j v) o (sym next)
      ∙ then (diagonal_set p k (diagonal_of p x r)) rest u v (q ∙ ap (λ (j : ℕ). toggled_all (survivors p x 0 (diagonal_set p k j)) u) d)
      ∙ then (row_set p k r) (diagonal_set p k (diagonal_of p x r) ++ rest) ms u e

  pub rows_last : (n r : ℕ) (ms : List ℕ) → n ≤ 0 → rows_rest n r ms ≡ ms
  unfolding start_sets toggled_all
  rows_last zero r ms h = ap (λ (l : List ℕ). toggled_all l ms) (survivors_none p x 0)
  rows_last (suc n) r ms h = absurd (omega arith)
