-- The refusals of losses from their tests: a byte, a pair, and the pairs one after another.
use mathlib.Core.Path.{◌≡◌, refl, sym, ap, ap₂, ◌∙◌}
use mathlib.Core.Bool.{Bool, true, false, not}
use mathlib.Core.List.{List}
use Prim.Native.Nat.{ℕ, ◌+◌}
use native.Mathlib.Numerals.{add-one}
use lib.Dec.{eqb}
use borrow.Author.Tests.{eq-eqb, ne_eqb}
use Rattle.mathematics.specs.Choice.{pick, first_of}
use Rattle.liberation.specs.ParityServer.Servers.{lost, first_loss, second_loss, pair_refusal, losses_refusal}

-- 255 is no disk
pub lost_false : (d : ℕ) → d ≡ 255 → lost d ≡ false
lost_false d e = ap not (eq-eqb d 255 e)

pub lost_true : (d : ℕ) → (d ≡ 255 → ⊥) → lost d ≡ true
lost_true d n = ap not (ne_eqb d 255 n)

-- the lost server's turn, and another one's
module _ (k j i : ℕ) (ls : List ℕ) where
  pub turn_none : i ≡ j → 0 ≡ pick (eqb i j) 0 (pair_refusal k (first_loss ls i) (second_loss ls i))
  turn_none e = sym (ap (λ (b : Bool). pick b 0 (pair_refusal k (first_loss ls i) (second_loss ls i))) (eq-eqb i j e))

  pub turn_pair : (r : ℕ) → (i ≡ j → ⊥) → r ≡ pair_refusal k (first_loss ls i) (second_loss ls i) → r ≡ pick (eqb i j) 0 (pair_refusal k (first_loss ls i) (second_loss ls i))
  turn_pair r n e = e ∙ sym (ap (λ (b : Bool). pick b 0 (pair_refusal k (first_loss ls i) (second_loss ls i))) (ne_eqb i j n))

-- the pairs so far have no refusal, and this one has none
pub losses_more : (i k j r : ℕ) (ls : List ℕ) → losses_refusal i k j ls ≡ 0 → r ≡ pick (eqb i j) 0 (pair_refusal k (first_loss ls i) (second_loss ls i)) → r ≡ 0 → losses_refusal (i + 1) k j ls ≡ 0
unfolding losses_refusal
losses_more i k j r ls h e z = ap (λ (n : ℕ). losses_refusal n k j ls) (add-one i) ∙ ap₂ first_of h (sym e ∙ z)

pub losses_start : (k j : ℕ) (ls : List ℕ) → losses_refusal 0 k j ls ≡ 0
unfolding losses_refusal
losses_start k j ls = refl
