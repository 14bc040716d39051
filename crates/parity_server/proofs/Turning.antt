-- Mending: what the tests of two bytes pick, and the slice turn by turn. Each turn finds its stripe
-- and its pair in the slices, whatever the turns before have mended.
use mathlib.Core.Path.{◌≡◌, refl, sym, ap, ap₂, ◌∙◌}
use mathlib.Core.Bool.{Bool}
use mathlib.Core.List.{List}
use Prim.Native.Nat.{ℕ, suc, ◌+◌, ◌<◌, ◌≤◌}
use native.Mathlib.Numerals.{add-one}
use native.Mathlib.Omega.{arith}
use lib.ListN.{length}
use borrow.Author.Tests.{eq-eqb, ne_eqb}
use Rattle.mathematics.specs.Choice.{pick}
use Rattle.liberation.specs.Plans.{plan_of}
use Rattle.liberation.specs.Stripes.Stripes.{with_cell, stripe_long, followed}
use Rattle.liberation.proofs.Stripes.StripeCellLaws.{cell_fits}
use Rattle.liberation.specs.TwoDisks.Pairs.{pair_solved}
use Rattle.liberation.specs.ParityServer.Servers.{lost, mended, mended_at, mended_turn, mended_all, pair_refusal}
use Rattle.liberation.specs.ParityServer.ServerClaims.{GivenLosses}
use Rattle.parity_server.specs.declared.servers.Servers.{Servers}
use Rattle.parity_server.specs.Turns.{AreStripesOf, Turn}
use Rattle.parity_server.proofs.LossRefusals.{lost_false, lost_true}
use Rattle.liberation.proofs.ParityServer.ServerRefusalLaws.{losses_of}

-- what the tests of two bytes pick
module _ (p k s a b : ℕ) (t : List ℕ) where
  picked : (c d : Bool) → lost a ≡ c → lost b ≡ d → mended p k s a b t ≡ pick c (pick d (pair_solved p k s a b t) (followed p k s a (plan_of p k a) t)) (pick d (followed p k s b (plan_of p k b) t) t)
  unfolding mended
  picked c d e q = ap₂ (λ (x y : Bool). pick x (pick y (pair_solved p k s a b t) (followed p k s a (plan_of p k a) t)) (pick y (followed p k s b (plan_of p k b) t) t)) e q

  pub none_lost : a ≡ 255 → b ≡ 255 → t ≡ mended p k s a b t
  none_lost ea eb = sym (picked _ _ (lost_false a ea) (lost_false b eb))

  pub second_lost : (u : List ℕ) → a ≡ 255 → (b ≡ 255 → ⊥) → u ≡ followed p k s b (plan_of p k b) t → u ≡ mended p k s a b t
  second_lost u ea nb e = e ∙ sym (picked _ _ (lost_false a ea) (lost_true b nb))

  pub first_lost : (u : List ℕ) → (a ≡ 255 → ⊥) → b ≡ 255 → u ≡ followed p k s a (plan_of p k a) t → u ≡ mended p k s a b t
  first_lost u na eb e = e ∙ sym (picked _ _ (lost_true a na) (lost_false b eb))

  pub both_lost : (u : List ℕ) → (a ≡ 255 → ⊥) → (b ≡ 255 → ⊥) → u ≡ pair_solved p k s a b t → u ≡ mended p k s a b t
  both_lost u na nb e = e ∙ sym (picked _ _ (lost_true a na) (lost_true b nb))

-- the turn of the lost server j, and of another one
module _ (p k s j i : ℕ) (ls ts : List ℕ) where
  pub turn_lost : i ≡ j → ts ≡ mended_turn p k s j ls i ts
  turn_lost e = sym (ap (λ (b : Bool). pick b ts (with_cell (stripe_long p k s) i (mended_at p k s ls ts i) ts)) (eq-eqb i j e))

  pub turn_other : (us : List ℕ) → (i ≡ j → ⊥) → us ≡ with_cell (stripe_long p k s) i (mended_at p k s ls ts i) ts → us ≡ mended_turn p k s j ls i ts
  turn_other us n e = e ∙ sym (ap (λ (b : Bool). pick b ts (with_cell (stripe_long p k s) i (mended_at p k s ls ts i) ts)) (ne_eqb i j n))

-- every turn of a call that is not refused
pub turn_of : (s : Servers) (j i : ℕ) (ls ts us : List ℕ) → AreStripesOf s ts → GivenLosses s.geometry.array.disks s.count j ls → length us ≡ length ts → i < s.count + 1 → Turn s j i ls us
turn_of s j i ls ts us g l e h =
    let below : i < suc s.count = omega arith in
    record {
      stripe = omega (arith, g, cell_fits (suc s.count) (stripe_long s.geometry.array.width s.geometry.array.disks s.geometry.cell_size) i below);
      pair = omega (arith, l.long);
      losses = l.pairs i below;
    }

-- one turn after another
pub turns_none : (p k s j : ℕ) (ls ts : List ℕ) → ts ≡ mended_all 0 p k s j ls ts
unfolding mended_all
turns_none p k s j ls ts = refl

pub turns_more : (p k s j i : ℕ) (ls ts us vs : List ℕ) → us ≡ mended_all i p k s j ls ts → vs ≡ mended_turn p k s j ls i us → vs ≡ mended_all (i + 1) p k s j ls ts
unfolding mended_all
turns_more p k s j i ls ts us vs e q = q ∙ ap (mended_turn p k s j ls i) e ∙ sym (ap (λ (n : ℕ). mended_all n p k s j ls ts) (add-one i))

pub both_disks : (k a b : ℕ) → pair_refusal k a b ≡ 0 → (a ≡ 255 → ⊥) → (b ≡ 255 → ⊥) → (a ≤ k + 1) × (b ≤ k + 1) × (a ≡ b → ⊥)
both_disks k a b pair na nb =
    let l = losses_of k a b pair in
    (l.first (lost_true a na), l.second (lost_true b nb), l.apart (lost_true a na))
