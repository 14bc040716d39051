-- A loop over a list of arrays goes by what is left of it: the first record of the rest decides before
-- those after it, and each record adds one to one total.
use mathlib.Core.Path.{◌≡◌, sym, ap, ◌∙◌}
use mathlib.Core.Bool.{Bool}
use mathlib.Core.List.{List, [], ◌∷◌}
use Prim.Native.Nat.{ℕ, zero, suc, ◌+◌, ◌≤◌, ◌<◌}
use native.Mathlib.Nat.{not-suc-le-zero, le_of_suc-le-suc}
use native.Mathlib.Numerals.{add-one}
use native.Mathlib.Omega.{arith}
use lib.Count.{ones}
use lib.ListN.{length, get_or, drop}
use lib.Seq.{drop-cons, drop-length}
use Rattle.mathematics.specs.Choice.{when, first_of}
use Rattle.mathematics.proofs.ChoiceLaws.{when_most, first_none}
use Rattle.array_states.specs.declared.ArrayState.{ArrayState}
use Rattle.array_states.specs.States.{state_refusal}
use Rattle.array_states.specs.Scanning.{no_array}
use Rattle.array_states.specs.Reports.{list_refusal, how_many}

-- none is left at the end
pub refusal_none : (xs : List ArrayState) (i : ℕ) → i ≡ length xs → list_refusal (drop i xs) ≡ 0
unfolding list_refusal
refusal_none xs i e = ap (λ (n : ℕ). list_refusal (drop n xs)) e ∙ ap list_refusal (drop-length xs)

pub many_none : (f : ℕ → Bool) (xs : List ArrayState) (i : ℕ) → i ≡ length xs → how_many f (drop i xs) ≡ 0
unfolding how_many
many_none f xs i e = ap (λ (n : ℕ). how_many f (drop n xs)) e ∙ ap (how_many f) (drop-length xs)

-- record i and what is left after it
module _ (xs : List ArrayState) (i : ℕ) (h : i < length xs) where
  rest : drop i xs ≡ get_or xs i no_array ∷ drop (i + 1) xs
  rest = drop-cons xs i no_array h ∙ ap (λ (n : ℕ). get_or xs i no_array ∷ drop n xs) (sym (add-one i))

  pub refusal_next : list_refusal (drop i xs) ≡ first_of (state_refusal (get_or xs i no_array)) (list_refusal (drop (i + 1) xs))
  unfolding list_refusal
  refusal_next = ap list_refusal rest

  pub many_next : (f : ℕ → Bool) → how_many f (drop i xs) ≡ when (f (ones (get_or xs i no_array).lost)) 1 + how_many f (drop (i + 1) xs)
  unfolding how_many
  many_next f = ap (how_many f) rest

-- no more than there are
pub many_most : (f : ℕ → Bool) (xs : List ArrayState) → how_many f xs ≤ length xs
unfolding how_many
many_most f [] = omega arith
many_most f (c ∷ cs) = omega (arith, when_most (f (ones c.lost)), many_most f cs)

-- in a list that is not refused no record is
pub refusal_at : (xs : List ArrayState) (i : ℕ) → list_refusal xs ≡ 0 → i < length xs → state_refusal (get_or xs i no_array) ≡ 0
unfolding list_refusal
refusal_at [] i e h = absurd (not-suc-le-zero h)
refusal_at (c ∷ cs) zero e h = (first_none (state_refusal c) (list_refusal cs) e).0
refusal_at (c ∷ cs) (suc i) e h = refusal_at cs i (first_none (state_refusal c) (list_refusal cs) e).1 (le_of_suc-le-suc h)
