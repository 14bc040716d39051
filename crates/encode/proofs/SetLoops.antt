-- The loop over the sets of a group, each of which is added once.
use mathlib.Core.Path.{◌≡◌, refl, sym, subst, ap, ◌∙◌}
use mathlib.Core.Logic.{◌⊎◌, inl, inr, ⊎_elim}
use mathlib.Core.List.{List}
use Prim.Native.Nat.{ℕ, ◌+◌, ◌*◌, ◌≤◌, ◌<◌}
use native.Mathlib.Omega.{arith}
use lib.ListN.{length}
use Rattle.mathematics.proofs.OrderLaws.{lt_or_le}
use Rattle.liberation.specs.Sets.{place}
use Rattle.liberation.specs.Stripes.Stripes.{cell_at}
use Rattle.stripe_cells.specs.OrdinaryCells.{parity_disk}
use Rattle.encode.specs.Groups.{parity_cell, group_sum, added_set}
use Rattle.encode.specs.Added.{KindAdded, SetsAdded}
use Rattle.encode.proofs.ParityCells.{DataSame, parity_apart, sum_same, added_cell, added_other, added_data}

-- parity cells of one kind
row_differs : (p d i j : ℕ) → (i ≡ j → ⊥) → place p i d ≡ place p j d → ⊥
row_differs p d i j n e = n (omega arith)

module _ (p k s lo hi : ℕ) (ordered : lo ≤ hi) (last : hi ≤ k) where
  kind_none : (kind from : ℕ) (t : List ℕ) → KindAdded p k s lo hi kind from 0 t t
  kind_none kind from t = record { done = λ i h l. absurd (omega arith); other = λ i h o. refl }

  -- the next set of the kind
  kind_more : (kind from n : ℕ) (t u v : List ℕ) → from + n < p → length u ≡ p * (k + 2) * s → DataSame p k s t u → v ≡ added_set p k s lo hi kind (from + n) u → KindAdded p k s lo hi kind from n t u → KindAdded p k s lo hi kind from (n + 1) t v
  kind_more kind from n t u v numbered long same e a =
      record {
        done = λ i h l. ⊎_elim (λ b. off i (λ q. omega arith) ∙ a.done i h b) (λ b. here i (omega arith)) (lt_or_le i (from + n));
        other = λ i h o. off i (λ q. ⊎_elim (λ b. omega arith) (λ b. omega arith) o) ∙ a.other i h (⊎_elim (λ b. inl b) (λ b. inr (omega arith)) o);
      }
    where
      off : (i : ℕ) → (i ≡ from + n → ⊥) → cell_at s v (parity_cell p k kind i) ≡ cell_at s u (parity_cell p k kind i)
      off i d = added_other p k s lo hi kind (from + n) numbered ordered last u v long e (parity_cell p k kind i) (row_differs p (parity_disk k kind) i (from + n) d)

      here : (i : ℕ) → i ≡ from + n → cell_at s v (parity_cell p k kind i) ≡ group_sum p k s lo hi kind i t
      here i q =
          ap (λ (j : ℕ). cell_at s v (parity_cell p k kind j)) q
          ∙ added_cell p k s lo hi kind (from + n) numbered ordered last u v long e
          ∙ sum_same p k s lo hi kind (from + n) numbered ordered last t u same (a.other (from + n) numbered (inr (omega arith)))
          ∙ ap (λ (j : ℕ). group_sum p k s lo hi kind j t) (sym q)

  -- a set of the other kind
  kind_kept : (kind unlike from n j : ℕ) (t u v : List ℕ) → from + n ≤ p → j < p → length u ≡ p * (k + 2) * s → (parity_disk k kind ≡ parity_disk k unlike → ⊥) → v ≡ added_set p k s lo hi unlike j u → KindAdded p k s lo hi kind from n t u → KindAdded p k s lo hi kind from n t v
  kind_kept kind unlike from n j t u v few numbered long d e a = record { done = λ i h l. off i (omega arith) ∙ a.done i h l; other = λ i h o. off i h ∙ a.other i h o }
    where
      off : (i : ℕ) → i < p → cell_at s v (parity_cell p k kind i) ≡ cell_at s u (parity_cell p k kind i)
      off i h = added_other p k s lo hi unlike j numbered ordered last u v long e (parity_cell p k kind i) (parity_apart p k kind unlike i j h numbered d)

  pub sets_none : (row number : ℕ) (t : List ℕ) → SetsAdded p k s lo hi row number 0 t t
  sets_none row number t = record { same = λ x h. refl; rows = kind_none 0 row t; diagonals = kind_none 1 number t }

  -- a turn: a row set, then a diagonal set
  pub sets_turn :
      (row number n : ℕ) (t u v w : List ℕ) → row + n < p → number + n < p → length u ≡ p * (k + 2) * s → length v ≡ p * (k + 2) * s
      → v ≡ added_set p k s lo hi 0 (row + n) u → w ≡ added_set p k s lo hi 1 (number + n) v
      → SetsAdded p k s lo hi row number n t u → SetsAdded p k s lo hi row number (n + 1) t w
  sets_turn row number n t u v w h l ulong vlong e q a =
      record {
        same = λ x b. added_data p k s lo hi 1 (number + n) l ordered last v w vlong q x b ∙ same x b;
        rows = kind_kept 0 1 row (n + 1) (number + n) t v w (omega arith) l vlong (λ d. omega arith) q (kind_more 0 row n t u v h ulong a.same e a.rows);
        diagonals = kind_more 1 number n t v w l vlong same q (kind_kept 1 0 number n (row + n) t u v (omega arith) h ulong (λ d. omega arith) e a.diagonals);
      }
    where
      same : DataSame p k s t v
      same x b = added_data p k s lo hi 0 (row + n) h ordered last u v ulong e x b ∙ a.same x b

  -- two runs that have each set once
  kind_both :
      (kind a n b m : ℕ) (t u v : List ℕ) → DataSame p k s t u → KindAdded p k s lo hi kind a n t u → KindAdded p k s lo hi kind b m u v
      → ((i : ℕ) → i < p → ((a ≤ i) × (i < a + n) × ((i < b) ⊎ (b + m ≤ i))) ⊎ (((i < a) ⊎ (a + n ≤ i)) × (b ≤ i) × (i < b + m)))
      → KindAdded p k s lo hi kind 0 p t v
  kind_both kind a n b m t u v same x y once =
      record {
        done = λ i h l. let q : i < p = omega arith in ⊎_elim (λ f. y.other i q f.2 ∙ x.done i f.0 f.1) (λ f. y.done i f.1 f.2 ∙ sum_same p k s lo hi kind i q ordered last t u same (x.other i q f.0)) (once i q);
        other = λ i h o. ⊎_elim (λ f. absurd (omega arith)) (λ f. absurd (omega arith)) o;
      }

  -- rows `first` to p - 1, then 0 to first - 1; diagonals in order
  pub sets_both : (first left : ℕ) (t u v : List ℕ) → first + left ≡ p → SetsAdded p k s lo hi first 0 left t u → SetsAdded p k s lo hi 0 left first u v → SetsAdded p k s lo hi 0 0 p t v
  sets_both first left t u v e x y =
      record {
        same = λ i h. y.same i h ∙ x.same i h;
        rows = kind_both 0 first left 0 first t u v x.same x.rows y.rows (λ i h. ⊎_elim (λ b. inr (inl b, omega arith, omega arith)) (λ b. inl (b, omega arith, inr (omega arith))) (lt_or_le i first));
        diagonals = kind_both 1 0 left left first t u v x.same x.diagonals y.diagonals (λ i h. ⊎_elim (λ b. inl (omega arith, omega arith, inl b)) (λ b. inr (inr (omega arith), b, omega arith)) (lt_or_le i left));
      }

-- the last turn is done
pub sets_end : (p k s lo hi row number n count : ℕ) (t u : List ℕ) → n ≡ count → SetsAdded p k s lo hi row number n t u → SetsAdded p k s lo hi row number count t u
sets_end p k s lo hi row number n count t u e a = subst (λ (m : ℕ). SetsAdded p k s lo hi row number m t u) e a
