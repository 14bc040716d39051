-- What the calls that write answer: the plain form of a plan that the judge accepts, and the judge's
-- refusal with its place.
use mathlib.Core.Path.{◌≡◌, refl, sym, ap, subst, ◌∙◌}
use mathlib.Core.Bool.{Bool, true, false}
use mathlib.Core.List.{List, [], ◌∷◌, ◌++◌}
use Prim.Native.Nat.{ℕ, suc, ◌*◌}
use lib.Dec.{eqb}
use lib.ListN.{length, drop}
use borrow.Author.Tests.{eq-eqb, eqb-false}
use Rattle.mathematics.proofs.Flags.{and_i}
use Rattle.mathematics.proofs.ChoiceLaws.{first_none, first_next, pick_done}
use Rattle.liberation.specs.Sets.{plan_refusal, long_refusal}
use Rattle.liberation.specs.Plans.{Step}
use Rattle.liberation.specs.Judging.{Judged as Verdict, judged, judge, judge_from, step_refusal, steps_in, accepted}
use Rattle.liberation.proofs.RefusalLaws.{plan_of_lem, long_of}
use Rattle.judge.specs.declared.all_steps.Judged.{Judged}
use Rattle.judge.specs.JudgeSays.{JudgeSays}
use Rattle.plan_texts.specs.Form.Plain.{plain, writable}
use Rattle.plan_texts.specs.Form.Reading.{steps_read, step_bytes}
use Rattle.plan_texts.proofs.Form.TextTheorems.{accepted_writable}
use Rattle.plan_texts.specs.JudgeTextSays.{text_refusal}
use Rattle.plan_texts.specs.PlainTextSays.{room_refusal, Writes, PlainSays}
use Rattle.plan_texts.specs.declared.plain.Written.{Written}
use Rattle.plan_texts.proofs.PlainLoop.{steps_many}
use Rattle.plan_texts.proofs.JudgeTextLaws.{judges_steps, read_long, read_steps}

-- a plan that is not refused has no place
no_place : (i p k f : ℕ) (done : List ℕ) (ss : List Step) → (judge_from i p k f done ss).number ≡ 0 → (judge_from i p k f done ss).place ≡ 0
unfolding judge_from
no_place i p k f done [] z = refl
no_place i p k f done (s ∷ ss) z = go (eqb (step_refusal p k f done s) 0) refl (no_place (suc i) p k f (s.row ∷ done) ss) z
  where
    rest : Verdict
    rest = judge_from (suc i) p k f (s.row ∷ done) ss

    here : Bool → Verdict
    here b = elim b [ true ↦ rest | false ↦ judged (step_refusal p k f done s) i ]

    go : (b : Bool) → eqb (step_refusal p k f done s) 0 ≡ b → (rest.number ≡ 0 → rest.place ≡ 0) → (here b).number ≡ 0 → (here b).place ≡ 0
    go true e h q = h q
    go false e h q = absurd (eqb-false (step_refusal p k f done s) 0 e q)

-- the judge accepts the steps whose bytes are bs
module _ (p k f : ℕ) (bs : List ℕ) (j : Judged) (z : plan_refusal p k f ≡ 0) (l : length bs ≡ 3 * p) (g : JudgeSays p k f bs j) (a : j.answer.refusal ≡ 0) where
  accepts : (judge p k f (steps_in p bs)).number ≡ 0
  accepts = sym (judges_steps p k f (steps_in p bs) bs j z l refl g).refusal ∙ a

  -- so they can be told
  pub tellable : writable (steps_in p bs) ≡ true
  unfolding accepted
  tellable = accepted_writable p k f (steps_in p bs) (plan_of_lem p k f z).0.width (and_i _ _ (eq-eqb (length (steps_in p bs)) p (steps_many p bs)) (eq-eqb (judge p k f (steps_in p bs)).number 0 accepts))

  -- and are written
  pub written : (t o : List ℕ) → t ≡ plain (steps_in p bs) → Writes 0 p k f (steps_in p bs) o (t ++ drop (length t) o) (record { answer = record { refusal = 0; place = 0 }; length = length t })
  written t o e =
      let ss = steps_in p bs in
      let n = (judge p k f ss).number in
      record {
        refusal = sym accepts;
        place = sym (no_place 0 p k f [] ss accepts);
        size = ap length e ∙ pick_done n (length (plain ss)) 0 accepts;
        bytes = ap (λ (x : List ℕ). x ++ drop (length x) o) e ∙ pick_done n (plain ss ++ drop (length (plain ss)) o) o accepts;
      }

-- nothing is refused before the steps of a text
module _ (p k f : ℕ) (t o bs : List ℕ) (room : 0 ≡ room_refusal p k f o) (e : bs ≡ step_bytes (steps_read p t)) where
  pub text_ready : (plan_refusal p k f ≡ 0) × (length bs ≡ 3 * p) × (length o ≡ 263)
  text_ready =
      let w = first_none (plan_refusal p k f) (long_refusal 263 o) (sym room) in
      (w.0, read_long p t bs e, long_of 263 o w.1)

  pub text_written : (o' : List ℕ) (r : Written) → 0 ≡ text_refusal p t → Writes 0 p k f (steps_in p bs) o o' r → PlainSays p k f t o o' r
  text_written o' r q w = subst (λ (n : ℕ). Writes n p k f (steps_read p t) o o' r) (first_next 0 (room_refusal p k f o) (text_refusal p t) (sym room) q) (subst (λ (ss : List Step). Writes 0 p k f ss o o' r) (read_steps p t bs e) w)
