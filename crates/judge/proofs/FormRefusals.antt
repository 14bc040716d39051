-- Refusals 1, 3 and 5, which come before any step, and the judge's promise from them or from what
-- the steps say.
use mathlib.Core.Path.{◌≡◌, sym, ap, ◌∙◌}
use mathlib.Core.List.{List}
use Prim.Native.Nat.{ℕ}
use lib.Dec.{eqb}
use Rattle.mathematics.specs.Choice.{pick, first_of}
use Rattle.mathematics.proofs.ChoiceLaws.{first_kept, pick_refused, pick_done}
use Rattle.liberation.specs.Judging.{judge, steps_in}
use Rattle.refusals.specs.declared.answer.Answer.{Answer}
use Rattle.refusals.specs.Answers.{Answers}
use Rattle.judge.specs.declared.all_steps.Judged.{Judged}
use Rattle.judge.specs.JudgeSays.{form_refusal, DecidesOn, JudgeSays}

-- A call that makes other tests before the steps: these refuse,
pub after_refused : (p k f n m : ℕ) (bs new o : List ℕ) (r : Answer) → n ≡ m → (n ≡ 0 → ⊥) → Answers n r → DecidesOn m (judge p k f (steps_in p bs)) new o o r
after_refused p k f n m bs new o r e z a =
    let refusal : n ≡ first_of m (judge p k f (steps_in p bs)).number = first_kept n m (judge p k f (steps_in p bs)).number e z in
    record { refusal = a.refusal ∙ refusal; place = a.place ∙ pick_refused n m (judge p k f (steps_in p bs)).place 0 e z; lent = pick_refused n _ new o refusal z }

-- or the judge has the word,
after_form : (p k f m : ℕ) (bs : List ℕ) (j : Judged) → m ≡ 0 → form_refusal p k f bs ≡ 0 → JudgeSays p k f bs j → (j.answer.refusal ≡ first_of m (judge p k f (steps_in p bs)).number) × (j.answer.place ≡ pick (eqb m 0) (judge p k f (steps_in p bs)).place 0)
after_form p k f m bs j z e d =
    let same : form_refusal p k f bs ≡ m = e ∙ sym z in
    (d.refusal ∙ ap (λ (n : ℕ). first_of n (judge p k f (steps_in p bs)).number) same, d.place ∙ ap (λ (n : ℕ). pick (eqb n 0) (judge p k f (steps_in p bs)).place 0) same)

-- and refuses a step
pub after_step : (p k f m : ℕ) (bs new o : List ℕ) (j : Judged) → m ≡ 0 → form_refusal p k f bs ≡ 0 → JudgeSays p k f bs j → (j.answer.refusal ≡ 0 → ⊥) → DecidesOn m (judge p k f (steps_in p bs)) new o o j.answer
after_step p k f m bs new o j z e d n = let a = after_form p k f m bs j z e d in record { refusal = a.0; place = a.1; lent = pick_refused j.answer.refusal _ new o a.0 n }

-- or none
pub after_done : (p k f m : ℕ) (bs new o o' : List ℕ) (j : Judged) → m ≡ 0 → form_refusal p k f bs ≡ 0 → JudgeSays p k f bs j → j.answer.refusal ≡ 0 → o' ≡ new → DecidesOn m (judge p k f (steps_in p bs)) new o o' j.answer
after_done p k f m bs new o o' j z e d n q = let a = after_form p k f m bs j z e d in record { refusal = a.0; place = a.1; lent = q ∙ pick_done _ new o (sym a.0 ∙ n) }
