-- Demand 2 for two lost disks, said of the call: the stripe that it leaves is the one clean stripe
-- with the other disks' contents.
use mathlib.Core.Path.{◌≡◌, sym, ap, ◌∙◌}
use mathlib.Core.Bool.{true}
use mathlib.Core.List.{List}
use Prim.Native.Nat.{ℕ, ◌+◌, ◌*◌, ◌≤◌, ◌<◌}
use native.Mathlib.Omega.{arith}
use lib.Dec.{eqb}
use borrow.Author.Tests.{eqb-true, eq-eqb}
use Rattle.mathematics.specs.Choice.{pick}
use Rattle.liberation.specs.Sets.{disk_at}
use Rattle.liberation.specs.Claims.{full_disk}
use Rattle.liberation.proofs.PartLaws.{full_range, full_same}
use Rattle.liberation.specs.Stripes.Stripes.{cell_at, is_stripe, clean}
use Rattle.liberation.specs.Stripes.Widened.{widened}
use Rattle.liberation.proofs.Stripes.Widening.{widened_stripe, widened_clean}
use Rattle.liberation.proofs.Stripes.WidenedRebuilds.{widened_alike}
use Rattle.liberation.specs.TwoDisks.Pairs.{pair_solved}
use Rattle.liberation.proofs.TwoDisks.PairLaws.{pair_stripe, pair_off, pair_clean, pair_back}
use Rattle.refusals.specs.declared.answer.Answer.{Answer}
use Rattle.rebuild_two.specs.Says.{two_refusal, TwoSays}
use Rattle.rebuild_two.proofs.TwoRefusals.{refusal_none}
use Rattle.guarantees.proofs.Limits.Demand1.{demand1}
use Rattle.guarantees.proofs.Stripes.{is_stripe_lem, full_long}

-- An accepted rebuild of the disks a and b of t leaves t'.
pub record Restored (p k s a b : ℕ) (t t' : List ℕ) : Type 0 where
  -- a stripe still, in length and bytes
  pub stripe : is_stripe p k s t' ≡ true
  pub is_clean : clean p k s t' ≡ true
  -- the rest is untouched
  pub kept : (x : ℕ) → (disk_at p x ≡ a → ⊥) → (disk_at p x ≡ b → ⊥) → cell_at s t' x ≡ cell_at s t x
  -- no other clean stripe has the other disks' contents: survivors of a clean stripe u bring u
  -- back, whatever the lost columns held
  pub only : (u : List ℕ) → is_stripe p k s u ≡ true → clean p k s u ≡ true → ((x : ℕ) → x < p * (k + 2) → (disk_at p x ≡ a → ⊥) → (disk_at p x ≡ b → ⊥) → cell_at s t x ≡ cell_at s u x) → t' ≡ u

pub restores : (p k s a b : ℕ) (t t' : List ℕ) (r : Answer) → TwoSays p k s a b t t' r → r.refusal ≡ 0 → Restored p k s a b t t'
restores p k s a b t t' r d z =
    let e : two_refusal p k s a b t ≡ 0 = sym d.answer.refusal ∙ z in
    let c = refusal_none p k s a b t e in
    let m : k ≤ p = c.0.array.disks in
    let ha : a < k + 2 = omega (arith, c.1) in
    let hb : b < k + 2 = omega (arith, c.2) in
    let ok : is_stripe p k s t ≡ true = is_stripe_lem p k s t c.0.long d.bytes in
    let done : t' ≡ pair_solved p k s a b t = d.stripe ∙ ap (λ (n : ℕ). pick (eqb n 0) (pair_solved p k s a b t) t) e in
    record {
      stripe = ap (is_stripe p k s) done ∙ pair_stripe p k s a b c.0.array.width m ha hb c.3 t ok;
      is_clean = ap (clean p k s) done ∙ pair_clean p k s a b c.0.array.width m ha hb c.3 t ok;
      kept = λ x i j. ap (λ (l : List ℕ). cell_at s l x) done ∙ pair_off p k s a b c.0.array.width m ha hb c.3 t ok x i j;
      only = λ u v d h. done ∙ pair_back p k s a b c.0.array.width m ha hb c.3 t u ok v d h;
    }

-- Ask 1 for two lost disks: the rebuild of the full stripe, with zeros on the absent disks, leaves
-- the rebuilt one with zeros there.
pub absent_restored : (p k s a b : ℕ) (t t' u' : List ℕ) (r q : Answer) → TwoSays p k s a b t t' r → r.refusal ≡ 0 → TwoSays p p s (full_disk p k a) (full_disk p k b) (widened p k s t) u' q → u' ≡ widened p k s t'
absent_restored p k s a b t t' u' r q d z e =
    let w = (demand1.rebuild_two_lem p k s a b t t' r d).accepted z in
    let most = w.1.0.1 in
    let v = restores p k s a b t t' r d z in
    let ok = is_stripe_lem p k s t w.1.1.1.1.1.1.0 d.bytes in
    let apart : full_disk p k a ≡ full_disk p k b → ⊥ = λ h. w.1.1.1.1.1.0 (eqb-true a b (sym (full_same p k most a b) ∙ eq-eqb (full_disk p k a) (full_disk p k b) h)) in
    let y = (demand1.rebuild_two_lem p p s (full_disk p k a) (full_disk p k b) (widened p k s t) u' q e).accepts
    (w.0, ((omega (arith, w.1.0.0, most), omega arith), (w.1.1.0, (full_range p k most a w.1.1.1.0, (full_range p k most b w.1.1.1.1.0, (apart, (full_long p k s t most ok, tt))))))) in
    (restores p p s (full_disk p k a) (full_disk p k b) (widened p k s t) u' q e y).only (widened p k s t') (widened_stripe p k s t' most v.stripe) (sym (widened_clean p k s t' most v.stripe) ∙ v.is_clean)
    (λ x l na nb. widened_alike p k s most t t' ok v.stripe (λ c. (c ≡ a → ⊥) × (c ≡ b → ⊥)) (λ i m h. sym (v.kept i h.0 h.1)) x l (λ c h. (λ g. na (sym h ∙ ap (full_disk p k) g), λ g. nb (sym h ∙ ap (full_disk p k) g))))
