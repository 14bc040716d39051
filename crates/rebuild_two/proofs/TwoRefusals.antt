-- Refusals 1, 13 and 2 to 5 of `rebuild_two`, and its promise from what was refused or done.
use mathlib.Core.Path.{◌≡◌, refl, sym, ◌∙◌}
use Rattle.std.specs.Prelude.{Result, Ok, IsErr}
use mathlib.Core.Bool.{true}
use mathlib.Core.List.{List}
use Prim.Native.Nat.{ℕ, ◌+◌, ◌≤◌}
use native.Mathlib.Omega.{arith}
use lib.Dec.{eqb, ltb}
use borrow.Author.Tests.{ltb-false, eqb-false}
use Rattle.mathematics.specs.Choice.{when, first_of}
use Rattle.mathematics.specs.Xor.{all_bytes}
use Rattle.mathematics.proofs.ChoiceLaws.{first_none, when_none, pick_done}
use Rattle.liberation.specs.Sets.{numbers_refusal, disk_refusal, long_refusal}
use Rattle.liberation.proofs.RefusalLaws.{numbers_of_lem, long_of}
use Rattle.refusals.specs.declared.refusal.Refusal.{Refusal}
use Rattle.refusals.specs.Refused.{refused, answer_of}
use Rattle.refusals.proofs.RefusalNumbers.{refused_pick}
use Rattle.liberation.specs.Stripes.Stripes.{stripe_long}
use Rattle.liberation.specs.TwoDisks.Pairs.{pair_solved}
use Rattle.liberation.specs.Stripes.StripeLimits.{Sized}
use Rattle.rebuild_two.specs.Says.{two_refusal, TwoSays}

-- none of the refusals: the stripe is within the limits, and the disks are two of the array's
pub refusal_none : (p k s a b : ℕ) (t : List ℕ) → two_refusal p k s a b t ≡ 0 → Sized p k s t × (a ≤ k + 1) × (b ≤ k + 1) × (a ≡ b → ⊥)
refusal_none p k s a b t e =
    let tail5 : ℕ = long_refusal (stripe_long p k s) t in
    let tail4 : ℕ = first_of (when (eqb a b) 4) tail5 in
    let tail3 : ℕ = first_of (disk_refusal k b) tail4 in
    let w = first_none (numbers_refusal p k s a) tail3 e in
    let g = first_none (disk_refusal k b) tail4 w.1 in
    let h = first_none (when (eqb a b) 4) tail5 g.1 in
    let q = numbers_of_lem p k s a w.0 in (
      record { array = q.0; small = omega (arith, q.2); long = long_of (stripe_long p k s) t h.1 },
      q.3,
      ltb-false (k + 1) b (when_none (ltb (k + 1) b) 2 g.0),
      eqb-false a b (when_none (eqb a b) 3 h.0),
    )

-- the promise from what was refused, or done
pub two_refused : (p k s a b : ℕ) (t : List ℕ) (r : Result Unit Refusal) → IsErr r → refused r ≡ two_refusal p k s a b t → all_bytes t ≡ true → TwoSays p k s a b t t (answer_of r)
two_refused p k s a b t r i e y =
    record {
      answer = record { refusal = e; place = refl };
      stripe = refused_pick r (two_refusal p k s a b t) (pair_solved p k s a b t) t i e;
      bytes = y;
    }

pub two_done : (p k s a b : ℕ) (t u : List ℕ) → 0 ≡ two_refusal p k s a b t → u ≡ pair_solved p k s a b t → all_bytes t ≡ true → TwoSays p k s a b t u (answer_of (Ok tt))
two_done p k s a b t u z e y =
    record {
      answer = record { refusal = z; place = refl };
      stripe = e ∙ pick_done (two_refusal p k s a b t) (pair_solved p k s a b t) t (sym z);
      bytes = y;
    }
