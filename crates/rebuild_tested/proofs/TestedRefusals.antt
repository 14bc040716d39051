-- The promise of `rebuild_tested`: the refusals of `rebuild_one`, then 19, which leave the column
-- as it was, and the accepted call.
use Rattle.std.specs.Prelude.{Result, Ok, IsErr}
use mathlib.Core.Path.{◌≡◌, refl, sym, ◌∙◌}
use mathlib.Core.Bool.{true, not}
use mathlib.Core.List.{List}
use Prim.Native.Nat.{ℕ, ◌+◌, ◌<◌}
use Rattle.mathematics.specs.Xor.{all_bytes}
use Rattle.mathematics.proofs.ChoiceLaws.{pick_done, first_none, when_none}
use Rattle.liberation.specs.Stripes.Stripes.{rebuilt}
use Rattle.refusals.specs.declared.refusal.Refusal.{Refusal}
use Rattle.refusals.specs.Refused.{refused, answer_of}
use Rattle.refusals.proofs.RefusalNumbers.{refused_pick}
use Rattle.rebuild_tested.specs.Says.{tested_refusal, TestedSays}
use native.Mathlib.Omega.{arith}
use lib.ListN.{length}
use borrow.Author.Tests.{not-false}
use Rattle.mathematics.specs.Choice.{when}
use Rattle.liberation.specs.Scrub.Survivors.{fits}
use Rattle.liberation.specs.Stripes.StripeLimits.{Sized}
use Rattle.rebuild_one.specs.RebuildOneSays.{lengths_refusal, one_refusal}
use Rattle.rebuild_one.proofs.OneRefusals.{refusal_none}

-- a refusal
pub refused_tested : (p k s f : ℕ) (t o : List ℕ) (r : Result Unit Refusal) → IsErr r → refused r ≡ tested_refusal p k s f t o → all_bytes t ≡ true → TestedSays p k s f t o o (answer_of r)
refused_tested p k s f t o r i e b = record { answer = record { refusal = e; place = refl }; column = refused_pick r (tested_refusal p k s f t o) (rebuilt p k s f t) o i e; bytes = b }

-- the accepted call
pub accepted_tested : (p k s f : ℕ) (t o o' : List ℕ) → 0 ≡ tested_refusal p k s f t o → o' ≡ rebuilt p k s f t → all_bytes t ≡ true → TestedSays p k s f t o o' (answer_of (Ok tt))
accepted_tested p k s f t o o' z e b = record { answer = record { refusal = z; place = refl }; column = e ∙ pick_done (tested_refusal p k s f t o) (rebuilt p k s f t) o (sym z); bytes = b }

-- what the test of the survivors asks
pub test_asks : (p k s f m : ℕ) (t : List ℕ) → lengths_refusal p k s f (length t) m ≡ 0 → Sized p k s t × (f < k + 2)
test_asks p k s f m t e = let q = refusal_none p k s f m t e in (q.0, omega (arith, q.1))

-- an accepted call is one that `rebuild_one` accepts, and its survivors fit
pub tested : (p k s f : ℕ) (t o : List ℕ) → tested_refusal p k s f t o ≡ 0 → (one_refusal p k s f t o ≡ 0) × (fits p k s f t ≡ true)
tested p k s f t o e =
    let q = first_none (one_refusal p k s f t o) (when (not (fits p k s f t)) 19) e in
    (q.0, not-false (fits p k s f t) (when_none (not (fits p k s f t)) 18 q.1))
