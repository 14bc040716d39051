-- Ask 9 of document 02, said of the calls: updates of two different cells leave one stripe in
-- either order, and a second update of a cell leaves what it alone would leave, clean and dirty
-- stripes alike.
-- A refusal depends on the numbers and lengths alone, which an update keeps, so a call that is
-- refused in one order is refused in the other, and nothing need be supposed of the answers.
use mathlib.Core.Path.{◌≡◌, refl, sym, ap, ◌∙◌}
use mathlib.Core.Bool.{Bool, true, false}
use mathlib.Core.List.{List}
use Prim.Native.Nat.{ℕ}
use native.Mathlib.Omega.{arith}
use lib.Dec.{eqb}
use lib.ListN.{length}
use borrow.Author.Tests.{eqb-true}
use Rattle.mathematics.specs.Choice.{pick}
use Rattle.mathematics.specs.Xor.{all_bytes}
use Rattle.liberation.specs.Stripes.Stripes.{is_stripe}
use Rattle.liberation.proofs.Stripes.Solving.{stripe_of}
use Rattle.liberation.specs.Update.Updates.{updated}
use Rattle.liberation.proofs.Update.Updating.{updated_long}
use Rattle.liberation.proofs.Update.UpdateOrder.{updates_turn, updates_again}
use Rattle.refusals.specs.declared.answer.Answer.{Answer}
use Rattle.refusals.proofs.AnswerLaws.{answers_none}
use Rattle.update.specs.Says.{update_lengths_refusal, update_refusal, UpdateSays}
use Rattle.update.proofs.UpdateRefusals.{refusal_none}

-- what a call leaves of t, where x says whether it is accepted
abbrev left : ℕ → ℕ → ℕ → ℕ → ℕ → List ℕ → Bool → List ℕ → List ℕ
left p k s r c new x t = pick x (updated p k s r c new t) t

-- an accepted call is on a stripe
is_stripe_lem : (p k s r c : ℕ) (t new : List ℕ) → update_refusal p k s r c t new ≡ 0 → all_bytes t ≡ true → is_stripe p k s t ≡ true
is_stripe_lem p k s r c t new z b = stripe_of p k s t (omega (arith, (refusal_none p k s r c t new z).0.long)) b

-- any call leaves as many bytes
pub as_long : (p k s r c : ℕ) (t new t' : List ℕ) (a : Answer) → UpdateSays p k s r c t new t' a → length t' ≡ length t
as_long p k s r c t new t' a q = ap length q.stripe ∙ go (eqb (update_refusal p k s r c t new) 0) refl
  where
    go : (x : Bool) → eqb (update_refusal p k s r c t new) 0 ≡ x → length (left p k s r c new x t) ≡ length t
    go true e =
        let z = eqb-true (update_refusal p k s r c t new) 0 e in
        let w = refusal_none p k s r c t new z in
        let d = w.0 in
        updated_long p k s r c d.odd d.row d.disk new w.1 t (is_stripe_lem p k s r c t new z q.bytes) ∙ omega (arith, d.long)
    go false e = refl

-- so a call on what another left is refused as one on t
left_by : (p k s r c : ℕ) (t u new v : List ℕ) (a : Answer) → UpdateSays p k s r c u new v a → length u ≡ length t → v ≡ left p k s r c new (eqb (update_refusal p k s r c t new) 0) u
left_by p k s r c t u new v a q e = q.stripe ∙ ap (λ (n : ℕ). left p k s r c new (eqb (update_lengths_refusal p k s r c n (length new)) 0) u) e

-- "mending two different cells of any stripe, one after the other, gives the same stripe in both
-- orders": t becomes t₁ and then t₁₂, or t₂ and then t₂₁
pub either_order :
    (p k s a b r c : ℕ) (t u v t₁ t₁₂ t₂ t₂₁ : List ℕ) (w x y z : Answer)
    → (a ≡ r → b ≡ c → ⊥)
    → UpdateSays p k s a b t u t₁ w → UpdateSays p k s r c t₁ v t₁₂ x
    → UpdateSays p k s r c t v t₂ y → UpdateSays p k s a b t₂ u t₂₁ z
    → t₁₂ ≡ t₂₁
either_order p k s a b r c t u v t₁ t₁₂ t₂ t₂₁ w x y z other first then second back =
    left_by p k s r c t t₁ v t₁₂ x then (as_long p k s a b t u t₁ w first)
    ∙ ap (left p k s r c v (eqb (update_refusal p k s r c t v) 0)) first.stripe
    ∙ go (eqb (update_refusal p k s a b t u) 0) (eqb (update_refusal p k s r c t v) 0) refl refl
    ∙ sym (left_by p k s a b t t₂ u t₂₁ z back (as_long p k s r c t v t₂ y second) ∙ ap (left p k s a b u (eqb (update_refusal p k s a b t u) 0)) second.stripe)
  where
    go : (m n : Bool) → eqb (update_refusal p k s a b t u) 0 ≡ m → eqb (update_refusal p k s r c t v) 0 ≡ n → left p k s r c v n (left p k s a b u m t) ≡ left p k s a b u m (left p k s r c v n t)
    go true true e f =
        let ze = eqb-true (update_refusal p k s a b t u) 0 e in
        let we = refusal_none p k s a b t u ze in
        let wf = refusal_none p k s r c t v (eqb-true (update_refusal p k s r c t v) 0 f) in
        updates_turn p k s a b r c we.0.odd we.0.row we.0.disk wf.0.row wf.0.disk other u v we.1 wf.1 first.cell_bytes second.cell_bytes t (is_stripe_lem p k s a b t u ze first.bytes)
    go true false e f = refl
    go false n e f = refl

-- "Mending the same cell twice gives what the second mend alone would give": t becomes t₁ and then
-- t₂, or t₃ at once; only the second update need be accepted
pub second_stands :
    (p k s r c : ℕ) (t u v t₁ t₂ t₃ : List ℕ) (x y z : Answer)
    → UpdateSays p k s r c t u t₁ x → UpdateSays p k s r c t₁ v t₂ y → y.refusal ≡ 0
    → UpdateSays p k s r c t v t₃ z
    → t₂ ≡ t₃
second_stands p k s r c t u v t₁ t₂ t₃ x y z first then accepted alone =
    left_by p k s r c t t₁ v t₂ y then long
    ∙ ap (left p k s r c v (eqb (update_refusal p k s r c t v) 0)) first.stripe
    ∙ ap (λ (n : ℕ). left p k s r c v (eqb n 0) (left p k s r c u (eqb (update_refusal p k s r c t u) 0) t)) fine
    ∙ go (eqb (update_refusal p k s r c t u) 0) refl
    ∙ sym (alone.stripe ∙ ap (λ (n : ℕ). left p k s r c v (eqb n 0) t) fine)
  where
    long : length t₁ ≡ length t
    long = as_long p k s r c t u t₁ x first

    fine : update_refusal p k s r c t v ≡ 0
    fine = ap (λ (n : ℕ). update_lengths_refusal p k s r c n (length v)) (sym long) ∙ answers_none (update_refusal p k s r c t₁ v) y then.answer accepted

    go : (m : Bool) → eqb (update_refusal p k s r c t u) 0 ≡ m → updated p k s r c v (left p k s r c u m t) ≡ updated p k s r c v t
    go true e =
        let ze = eqb-true (update_refusal p k s r c t u) 0 e in
        let we = refusal_none p k s r c t u ze in
        let wf = refusal_none p k s r c t v fine in
        updates_again p k s r c we.0.odd we.0.row we.0.disk u v we.1 wf.1 first.cell_bytes alone.cell_bytes t (is_stripe_lem p k s r c t u ze first.bytes)
    go false e = refl
