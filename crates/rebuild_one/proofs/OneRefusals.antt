-- The promise of a rebuild: the refusals 1, 13, 2, 3 and 5 in this order, which leave the column as
-- it was, and the accepted call.
use Rattle.std.specs.Prelude.{Result, Ok, IsErr}
use mathlib.Core.Path.{◌≡◌, refl, sym, ◌∙◌}
use mathlib.Core.Bool.{Bool, true, not}
use mathlib.Core.List.{List}
use Prim.Native.Nat.{ℕ, ◌+◌, ◌*◌, ◌≤◌}
use native.Mathlib.Omega.{arith}
use lib.Dec.{eqb}
use lib.ListN.{length}
use borrow.Author.Tests.{eqb-true, not-false}
use Rattle.mathematics.specs.Choice.{first_of, when}
use Rattle.mathematics.specs.Xor.{all_bytes}
use Rattle.mathematics.proofs.ChoiceLaws.{first_none, when_none, pick_done}
use Rattle.liberation.specs.Sets.{numbers_refusal, long_refusal}
use Rattle.liberation.proofs.RefusalLaws.{numbers_of_lem, long_of}
use Rattle.liberation.specs.Stripes.Stripes.{stripe_long}
use Rattle.liberation.specs.Stripes.StripeLimits.{Sized}
use Rattle.refusals.specs.declared.refusal.Refusal.{Refusal}
use Rattle.refusals.specs.Refused.{refused, answer_of}
use Rattle.refusals.proofs.RefusalNumbers.{refused_pick}
use Rattle.rebuild_one.specs.RebuildOneSays.{lengths_refusal, Writes}

-- none of the refusals: the stripe is within the limits, the disk is one of the array's, and the
-- column, of m bytes, has its length
pub refusal_none : (p k s f m : ℕ) (t : List ℕ) → lengths_refusal p k s f (length t) m ≡ 0 → Sized p k s t × (f ≤ k + 1) × (m ≡ p * s)
refusal_none p k s f m t e =
    let b : Bool = eqb m (p * s) in
    let long : ℕ = long_refusal (stripe_long p k s) t in
    let w = first_none (numbers_refusal p k s f) (first_of long (when (not b) 5)) e in
    let v = first_none long (when (not b) 5) w.1 in
    let q = numbers_of_lem p k s f w.0 in
    (record { array = q.0; small = omega (arith, q.2); long = long_of (stripe_long p k s) t v.0 }, q.3, eqb-true m (p * s) (not-false b (when_none (not b) 4 v.1)))

-- a refusal
pub refused_writes : (m : ℕ) (new t o : List ℕ) (r : Result Unit Refusal) → IsErr r → refused r ≡ m → all_bytes t ≡ true → Writes m new t o o (answer_of r)
refused_writes m new t o r i e b = record { answer = record { refusal = e; place = refl }; column = refused_pick r m new o i e; bytes = b }

-- the accepted call
pub accepted_writes : (m : ℕ) (new t o o' : List ℕ) → 0 ≡ m → o' ≡ new → all_bytes t ≡ true → Writes m new t o o' (answer_of (Ok tt))
accepted_writes m new t o o' z e b = record { answer = record { refusal = z; place = refl }; column = e ∙ pick_done m new o (sym z); bytes = b }
