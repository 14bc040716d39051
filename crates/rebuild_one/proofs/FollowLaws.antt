-- The steps of an accepted plan, one after another: the steps still to come, on the stripe with the
-- column as it stands, give what all steps give. What the column held at first does not matter,
-- since every row is rebuilt from surviving cells.
use mathlib.Core.Path.{◌≡◌, refl, sym, ap, ◌∙◌}
use mathlib.Core.Bool.{true}
use mathlib.Core.List.{List, ◌∷◌}
use Prim.Native.Nat.{ℕ, suc, ◌+◌, ◌*◌, ◌≤◌, ◌<◌}
use native.Mathlib.Numerals.{add-one}
use native.Mathlib.Omega.{arith}
use lib.ListN.{length, drop, drop_of_length-le}
use Rattle.mathematics.specs.Xor.{all_bytes}
use Rattle.liberation.specs.Sets.{place, set_of}
use Rattle.liberation.specs.Plans.{Step}
use Rattle.liberation.specs.Judging.{accepted}
use Rattle.liberation.proofs.AcceptedLaws.{accepted_length}
use Rattle.liberation.specs.Stripes.Stripes.{solved, followed, column_of, with_column, stripe_long, rebuilt_by}
use Rattle.liberation.proofs.Stripes.StripeCellLaws.{cell_fits, length_column, column_with, cell_off}
use Rattle.liberation.proofs.Stripes.Solving.{stripe_of, bytes_with}
use Rattle.liberation.proofs.Stripes.Rebuilding.{plan_unused}

-- the loop over the steps: i of them done
pub record Stepping (p k s f : ℕ) (ss : List Step) (t col₀ col : List ℕ) (i : ℕ) : Type 0 where
  pub within : i ≤ p
  pub long : length col ≡ p * s
  pub rest : followed p k s f (drop i ss) (with_column p s f col t) ≡ followed p k s f ss (with_column p s f col₀ t)

pub stepping_start : (p k s f : ℕ) (ss : List Step) (t col : List ℕ) → length col ≡ p * s → Stepping p k s f ss t col col 0
stepping_start p k s f ss t col e = record { within = omega arith; long = e; rest = refl }

pub stepping_turn : (p k s f : ℕ) (ss : List Step) (t col₀ col col' : List ℕ) (i : ℕ) (a : Step) → drop i ss ≡ a ∷ drop (suc i) ss → i < p → length col' ≡ length col
    → with_column p s f col' t ≡ solved s (place p a.row f) (set_of p k a.kind a.number) (with_column p s f col t)
    → Stepping p k s f ss t col₀ col i → Stepping p k s f ss t col₀ col' (i + 1)
unfolding followed
stepping_turn p k s f ss t col₀ col col' i a split h l e st =
    record {
      within = omega arith;
      long = l ∙ st.long;
      rest =
          ap (λ (j : ℕ). followed p k s f (drop j ss) (with_column p s f col' t)) (add-one i)
          ∙ ap (followed p k s f (drop (suc i) ss)) e
          ∙ sym (ap (λ (y : List Step). followed p k s f y (with_column p s f col t)) split)
          ∙ st.rest;
    }

-- all steps done: the column depends on the other disks alone
module _ (p k s f : ℕ) (ss : List Step) (ok : accepted p k f ss ≡ true) (some : 0 < p) (disk : f ≤ k + 1) where
  pub stepping_end : (t col₀ col : List ℕ) (i : ℕ) → p ≤ i → length t ≡ stripe_long p k s → length col₀ ≡ p * s → all_bytes t ≡ true → all_bytes col₀ ≡ true → Stepping p k s f ss t col₀ col i → col ≡ rebuilt_by p k s f ss t
  unfolding followed
  stepping_end t col₀ col i h lt lc bt bc st =
      sym (column_with p s f col t st.long fits)
      ∙ ap (column_of p s f) (sym (ap (λ (y : List Step). followed p k s f y (with_column p s f col t)) (drop_of_length-le ss few)) ∙ st.rest)
      ∙ plan_unused p k s f ss ok (omega arith) (with_column p s f col₀ t) t (stripe_of p k s (with_column p s f col₀ t) (length_column p s f col₀ t lc fits ∙ lt ∙ omega arith) (bytes_with (p * s) f col₀ t bc bt)) (stripe_of p k s t (lt ∙ omega arith) bt)
      (λ x l n. cell_off p s f col₀ t lc fits x (omega arith) n)
    where
      fits : f * (p * s) + p * s ≤ length t
      fits = let l : f < k + 2 = omega arith in omega (arith, cell_fits (k + 2) (p * s) f l)

      few : length ss ≤ i
      few = omega (arith, accepted_length p k f ss ok)
