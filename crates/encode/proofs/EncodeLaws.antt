-- Encoding past the refusals: P by the row sets and then Q by the diagonal sets is the encoded
-- stripe, and the promise from what was refused or done.
use mathlib.Core.Path.{◌≡◌, refl, sym, ap₂, ◌∙◌}
use Rattle.std.specs.Prelude.{Result, Ok, IsErr}
use mathlib.Core.Bool.{true}
use mathlib.Core.List.{List}
use Prim.Native.Nat.{ℕ, suc, ◌+◌}
use native.Mathlib.Omega.{arith}
use Rattle.mathematics.specs.Xor.{all_bytes}
use Rattle.mathematics.proofs.ChoiceLaws.{pick_done}
use Rattle.liberation.specs.Plans.{Step, all_of}
use Rattle.liberation.proofs.ParityPlans.{plan_row_parity, plan_diagonal_parity}
use Rattle.liberation.specs.Stripes.Stripes.{encoded, followed}
use Rattle.refusals.specs.declared.array.Geometry.{Geometry}
use Rattle.refusals.specs.declared.refusal.Refusal.{Refusal}
use Rattle.refusals.specs.Refused.{refused, answer_of}
use Rattle.refusals.proofs.RefusalNumbers.{refused_pick}
use Rattle.refusals.specs.StripeSays.{stripe_refusal}
use Rattle.encode.specs.Says.{EncodeSays}

-- P by the row sets, then Q by the diagonal sets
pub both_kinds : (p k s : ℕ) (t u v : List ℕ) → u ≡ followed p k s k (all_of p 0 0) t → v ≡ followed p k s (k + 1) (all_of p 1 0) u → v ≡ encoded p k s t
unfolding encoded
both_kinds p k s t u v e q =
    let o : k + 1 ≡ suc k = omega arith in
    q
    ∙ ap₂ (λ (f : ℕ) (l : List ℕ). followed p k s f (all_of p 1 0) l) o e
    ∙ sym (ap₂ (λ (x y : List Step). followed p k s (suc k) y (followed p k s k x t)) (plan_row_parity p k) (plan_diagonal_parity p k))

-- the promise from what was refused, or done
pub encode_refused : (p k s : ℕ) (t : List ℕ) (r : Result Unit Refusal) → IsErr r → refused r ≡ stripe_refusal p k s t → all_bytes t ≡ true → EncodeSays p k s t t (answer_of r)
encode_refused p k s t r i e b =
    record {
      answer = record { refusal = e; place = refl };
      stripe = refused_pick r (stripe_refusal p k s t) (encoded p k s t) t i e;
      bytes = b;
    }

pub encode_done : (p k s : ℕ) (g : Geometry) (t u : List ℕ) → (g.array.width ≡ p) × (g.array.disks ≡ k) × (g.cell_size ≡ s) → 0 ≡ stripe_refusal p k s t → u ≡ encoded g.array.width g.array.disks g.cell_size t → all_bytes t ≡ true → EncodeSays p k s t u (answer_of (Ok tt))
encode_done p k s g t u n z e b =
    record {
      answer = record { refusal = z; place = refl };
      stripe = rw (n.0, n.1, n.2) at e ∙ pick_done (stripe_refusal p k s t) (encoded p k s t) t (sym z);
      bytes = b;
    }
