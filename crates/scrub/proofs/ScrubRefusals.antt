-- The promise of `scrub_stripe`: a refusal, or a verdict; and which verdict it is, of a clean stripe,
-- of one disk, of more than one.
use mathlib.Core.Path.{◌≡◌, refl, sym, ap, ap₂, ◌∙◌}
use mathlib.Core.Bool.{Bool, true, false, ◌&&◌}
use mathlib.Core.List.{List}
use Prim.Native.Nat.{ℕ, ◌+◌, ◌≤◌, ◌<◌}
use native.Mathlib.Omega.{arith}
use lib.Dec.{eqb, ltb}
use borrow.Author.Tests.{lt-ltb, le-ltb}
use Rattle.mathematics.specs.Choice.{pick}
use Rattle.mathematics.specs.Xor.{all_bytes}
use Rattle.mathematics.proofs.ChoiceLaws.{pick_done, pick_refused, and_refused}
use Rattle.liberation.specs.Stripes.Stripes.{clean}
use Rattle.liberation.specs.Scrub.Survivors.{suspect, verdict}
use Rattle.refusals.specs.declared.answer.Answer.{Answer}
use Rattle.refusals.specs.declared.refusal.Refusal.{Refusal}
use Rattle.refusals.specs.Answers.{Answers}
use Rattle.refusals.specs.Refused.{number_of}
use Rattle.refusals.proofs.AnswerLaws.{answers_as}
use Rattle.refusals.proofs.RefusalNumbers.{number_some}
use Rattle.refusals.specs.StripeSays.{stripe_refusal}
use Rattle.scrub.specs.declared.verdict.Verdict.{Verdict}
use Rattle.scrub.specs.declared.verdict.Verdict.TheVariants.{Clean, OneDisk, MoreThanOne}
use Rattle.scrub.specs.Verdicts.{verdict_number, verdict_disk, IsVerdict}
use Rattle.scrub.specs.ScrubSays.{ScrubSays}

module _ (p k s : ℕ) (t : List ℕ) where
  verdict_by_lem : (c b : Bool) → clean p k s t ≡ c → ltb (suspect p k s t) (k + 2) ≡ b → verdict p k s t ≡ pick c 0 (pick b 1 2)
  unfolding verdict
  verdict_by_lem c b e q = ap₂ (λ (x y : Bool). pick x 0 (pick y 1 2)) e q

  -- a verdict with this number and this disk
  named : (v : Verdict) → verdict p k s t ≡ verdict_number v → verdict_disk v ≡ pick (eqb (verdict_number v) 1) (suspect p k s t) 0 → IsVerdict p k s t v
  named v e q = record { number = sym e; disk = q ∙ ap (λ (n : ℕ). pick (eqb n 1) (suspect p k s t) 0) (sym e) }

  module _ (b : Bool) (e : b ≡ clean p k s t) where
    pub verdict_clean : b ≡ true → IsVerdict p k s t Clean
    verdict_clean h = named Clean (verdict_by_lem true (ltb (suspect p k s t) (k + 2)) (sym e ∙ h) refl) refl

    pub verdict_one : b ≡ false → (d : ℕ) → d ≡ suspect p k s t → d < k + 2 → IsVerdict p k s t (OneDisk d)
    verdict_one h d q l = named (OneDisk d) (verdict_by_lem false true (sym e ∙ h) (lt-ltb (suspect p k s t) (k + 2) (omega (arith, q)))) q

    pub verdict_more : b ≡ false → k + 2 ≤ suspect p k s t → IsVerdict p k s t MoreThanOne
    verdict_more h l = named MoreThanOne (verdict_by_lem false false (sym e ∙ h) (le-ltb (suspect p k s t) (k + 2) l)) refl

  module _ (bytes : all_bytes t ≡ true) where
    pub scrub_refused : (e : Refusal) (a : Answer) → number_of e ≡ stripe_refusal p k s t → Answers (number_of e) a → ScrubSays p k s t (record { answer = a; verdict = 0; disk = 0 })
    scrub_refused e a q h =
        record {
          answer = answers_as (number_of e) (stripe_refusal p k s t) a q h;
          verdict = pick_refused (number_of e) (stripe_refusal p k s t) (verdict p k s t) 0 q (number_some e);
          disk = ap (λ (b : Bool). pick b (suspect p k s t) 0) (and_refused (number_of e) (stripe_refusal p k s t) (eqb (verdict p k s t) 1) q (number_some e));
          bytes = bytes;
        }

    pub scrub_done : (v : Verdict) (a : Answer) (n d : ℕ) → 0 ≡ stripe_refusal p k s t → Answers 0 a → IsVerdict p k s t v → n ≡ verdict_number v → d ≡ verdict_disk v → ScrubSays p k s t (record { answer = a; verdict = n; disk = d })
    scrub_done v a n d z h is e q =
        record {
          answer = answers_as 0 (stripe_refusal p k s t) a z h;
          verdict = e ∙ is.number ∙ pick_done (stripe_refusal p k s t) (verdict p k s t) 0 (sym z);
          disk = q ∙ is.disk ∙ ap (λ (m : ℕ). pick (eqb m 0 && eqb (verdict p k s t) 1) (suspect p k s t) 0) z;
          bytes = bytes;
        }
