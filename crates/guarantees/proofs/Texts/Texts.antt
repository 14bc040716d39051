-- Ask 14 of document 02, said of the calls that judge a text, write a plan and make a text plain:
-- whatever they return, as long as they keep their promises.
-- t is a lent text, bs a lent plan of three bytes a step, o the lent slice as it was and o' as it
-- is given back. That the numbers and lengths are right comes with the answer.
use mathlib.Core.Path.{◌≡◌, sym, ap, ap₂, ◌∙◌}
use mathlib.Core.Bool.{Bool, true, not}
use mathlib.Core.Logic.{⊎_elim}
use mathlib.Core.List.{List, [], ◌++◌}
use Prim.Native.Nat.{ℕ, ◌+◌, ◌*◌, ◌≤◌}
use native.Mathlib.Omega.{arith}
use lib.Dec.{eqb}
use lib.ListN.{length, take, drop, length-append, length-drop, take-append-drop}
use lib.Seq.{take-append_seam, drop-append_seam}
use borrow.Author.Tests.{eqb-true, eq-eqb}
use Rattle.mathematics.specs.Choice.{pick, when, first_of}
use Rattle.mathematics.proofs.Flags.{and_r, and_i, flag}
use Rattle.mathematics.proofs.ChoiceLaws.{first_none, first_next, first_zero, pick_done, pick_refused}
use Rattle.liberation.specs.Sets.{is_width, plan_refusal, long_refusal}
use Rattle.liberation.specs.Plans.{Step, read_count}
use Rattle.liberation.specs.Judging.{judge, steps_in, accepted}
use Rattle.liberation.proofs.Widths.{width_most}
use Rattle.liberation.proofs.RefusalLaws.{plan_of_lem, long_of, long_accepted}
use Rattle.judge.specs.declared.all_steps.Judged.{Judged}
use Rattle.judge.specs.JudgeSays.{form_refusal, JudgeSays}
use Rattle.judge.proofs.AcceptLaws.{steps_long}
use Rattle.judge.proofs.JudgingLoop.{judge_most}
use Rattle.plan_texts.specs.Form.Form.{PlanText}
use Rattle.plan_texts.specs.Form.Reading.{readable, steps_read}
use Rattle.plan_texts.specs.Form.Plain.{plain}
use Rattle.plan_texts.proofs.Form.StepwiseLaws.{steps_count}
use Rattle.plan_texts.proofs.Form.TextTheorems.{form_readable, readable_has_form, accepted_readable, accepted_steps, accepted_most, accepted_writable, plain_equal}
use Rattle.plan_texts.specs.JudgeTextSays.{text_refusal, judge_first, all_refusals, JudgeTextSays}
use Rattle.plan_texts.specs.declared.plain.Written.{Written}
use Rattle.plan_texts.specs.PlainTextSays.{room_refusal, write_first, plain_first, Writes, WriteSays, PlainSays}

-- The steps ss are an accepted plan, and a call wrote them: o became o'.
pub record PlainWritten (p k f : ℕ) (ss : List Step) (o o' : List ℕ) (r : Written) : Type 0 where
  pub numbers : plan_refusal p k f ≡ 0
  pub lent : length o ≡ 263
  pub accepts : accepted p k f ss ≡ true
  -- "write an accepted plan in its one plain form", "its length is returned"
  pub text : take r.length o' ≡ plain ss
  pub size : r.length ≡ length (plain ss)
  -- "the bytes after it stand"
  pub stands : drop r.length o' ≡ drop r.length o
  pub long : length o' ≡ length o
  -- "a lent slice of 263 bytes": they are enough for every accepted plan
  pub fits : r.length ≤ 15 + 8 * p
  pub room : r.length ≤ 263

-- from a promise, with an answer that refuses nothing
module _ {n p k f : ℕ} {ss : List Step} {o o' : List ℕ} {r : Written} (w : Writes n p k f ss o o' r) (z : r.answer.refusal ≡ 0) where
  both : (n ≡ 0) × ((judge p k f ss).number ≡ 0)
  both = first_none n (judge p k f ss).number (sym w.refusal ∙ z)

  bytes : o' ≡ plain ss ++ drop (length (plain ss)) o
  bytes = w.bytes ∙ sym (pick_done (all_refusals n p k f ss) (plain ss ++ drop (length (plain ss)) o) o (sym w.refusal ∙ z))

  long_enough : length ss ≡ p → accepted p k f ss ≡ true
  unfolding accepted
  long_enough l = and_i _ _ (eq-eqb (length ss) p l) (eq-eqb (judge p k f ss).number 0 both.1)

  plain_written : plan_refusal p k f ≡ 0 → length o ≡ 263 → length ss ≡ p → PlainWritten p k f ss o o' r
  plain_written q m l =
      let a = long_enough l in
      let v = (plan_of_lem p k f q).0.width in
      let s : r.length ≡ length (plain ss) = w.size ∙ sym (pick_done (all_refusals n p k f ss) (length (plain ss)) 0 (sym w.refusal ∙ z)) in
      let most = accepted_most p k f v ss a in
      record {
        numbers = q;
        lent = m;
        accepts = a;
        text = ap₂ take s bytes ∙ take-append_seam (plain ss) (drop (length (plain ss)) o);
        size = s;
        stands = ap₂ drop s bytes ∙ drop-append_seam (plain ss) (drop (length (plain ss)) o) ∙ ap (λ (x : ℕ). drop x o) (sym s);
        long = ap length bytes ∙ omega (arith, length-append (plain ss) (drop (length (plain ss)) o), length-drop (length (plain ss)) o, most, width_most p v, m);
        fits = omega (arith, s, most);
        room = omega (arith, s, most, width_most p v);
      }

-- "Lent memory and records stay unchanged" by a refused call, and its length is 0
pub refused_nothing : (n p k f : ℕ) (ss : List Step) (o o' : List ℕ) (r : Written) → Writes n p k f ss o o' r → (r.answer.refusal ≡ 0 → ⊥) → (o' ≡ o) × (r.length ≡ 0)
refused_nothing n p k f ss o o' r w z =
    (w.bytes ∙ sym (pick_refused _ _ (plain ss ++ drop (length (plain ss)) o) o w.refusal z), w.size ∙ sym (pick_refused _ _ (length (plain ss)) 0 w.refusal z))

-- The call on a plan's bytes.
pub plan_written : (p k f : ℕ) (bs o o' : List ℕ) (r : Written) → WriteSays p k f bs o o' r → r.answer.refusal ≡ 0 → PlainWritten p k f (steps_in p bs) o o' r
plan_written p k f bs o o' r w z =
    let a = first_none (room_refusal p k f o) (long_refusal (3 * p) bs) (both w z).0 in
    let b = first_none (plan_refusal p k f) (long_refusal 263 o) a.0 in
    plain_written w z b.0 (long_of 263 o b.1) (steps_long p bs)

-- The call on a text: what it accepts is readable.
pub text_written : (p k f : ℕ) (t o o' : List ℕ) (r : Written) → PlainSays p k f t o o' r → r.answer.refusal ≡ 0 → (readable p t ≡ true) × PlainWritten p k f (steps_read p t) o o' r
text_written p k f t o o' r w z =
    let a = first_none (room_refusal p k f o) (text_refusal p t) (both w z).0 in
    let b = first_none (plan_refusal p k f) (long_refusal 263 o) a.0 in
    (read a.1, plain_written w z b.0 (long_of 263 o b.1) (steps_count p t))
  where
    read : text_refusal p t ≡ 0 → readable p t ≡ true
    read e = ⊎_elim (λ h. h) (λ h. absurd (omega (arith, e, ap (λ (x : Bool). when (not x) 22) h))) (flag (readable p t))

-- What was written, read again.
module _ {p k f : ℕ} {ss : List Step} {o o' : List ℕ} {r : Written} (w : PlainWritten p k f ss o o' r) where
  width : is_width p ≡ true
  width = (plan_of_lem p k f w.numbers).0.width

  -- the plain form is readable, and gives the steps back
  pub read_back : (readable p (take r.length o') ≡ true) × (steps_read p (take r.length o') ≡ ss)
  read_back = (ap (readable p) w.text ∙ accepted_readable p k f width ss w.accepts, ap (steps_read p) w.text ∙ accepted_steps p k f width ss w.accepts)

  no_refusal : (judge p k f ss).number ≡ 0
  unfolding accepted
  no_refusal = eqb-true (judge p k f ss).number 0 (and_r (eqb (length ss) p) (eqb (judge p k f ss).number 0) w.accepts)

  -- the same steps written behind it, into the same slice
  again : (n : ℕ) (rs : List Step) (o'' : List ℕ) (b : Written) → n ≡ 0 → rs ≡ ss → Writes n p k f rs o' o'' b → (b.answer.refusal ≡ 0) × (b.length ≡ r.length) × (o'' ≡ o')
  again n rs o'' b z e v =
      let q : all_refusals n p k f rs ≡ 0 = ap₂ (λ (m : ℕ) (x : List Step). all_refusals m p k f x) z e ∙ no_refusal in
      let l : length (plain rs) ≡ r.length = ap (λ (x : List Step). length (plain x)) e ∙ sym w.size in (
        v.refusal ∙ q,
        v.size ∙ sym (pick_done (all_refusals n p k f rs) (length (plain rs)) 0 q) ∙ l,
        v.bytes ∙ sym (pick_done (all_refusals n p k f rs) (plain rs ++ drop (length (plain rs)) o') o' q)
            ∙ ap₂ (λ (x : List ℕ) (m : ℕ). x ++ drop m o') (ap plain e ∙ sym w.text) l
            ∙ take-append-drop r.length o',
      )

  room_again : room_refusal p k f o' ≡ 0
  room_again = sym (first_next 0 (plan_refusal p k f) (long_refusal 263 o') w.numbers (sym (long_accepted 263 o' (w.long ∙ w.lent))))

  -- "writing the plain form's plan again alters no byte": as a text, or as the bytes of the same
  -- steps
  pub text_again : (o'' : List ℕ) (b : Written) → PlainSays p k f (take r.length o') o' o'' b → (b.answer.refusal ≡ 0) × (b.length ≡ r.length) × (o'' ≡ o')
  text_again o'' b v =
      again (plain_first p k f (take r.length o') o') (steps_read p (take r.length o')) o'' b
      (sym (first_next 0 (room_refusal p k f o') (text_refusal p (take r.length o')) room_again (sym (ap (λ (x : Bool). when (not x) 22) read_back.0))))
      read_back.1 v

  pub plan_again : (bs o'' : List ℕ) (b : Written) → length bs ≡ 3 * p → steps_in p bs ≡ ss → WriteSays p k f bs o' o'' b → (b.answer.refusal ≡ 0) × (b.length ≡ r.length) × (o'' ≡ o')
  plan_again bs o'' b l e v =
      again (write_first p k f bs o') (steps_in p bs) o'' b (sym (first_next 0 (room_refusal p k f o') (long_refusal (3 * p) bs) room_again (sym (long_accepted (3 * p) bs l)))) e v

  -- the judge accepts it, with the read count of the steps
  pub judged_back : (j : Judged) → JudgeTextSays p k f (take r.length o') j → (j.answer.refusal ≡ 0) × (j.reads ≡ read_count p k f ss)
  judged_back j g =
      let t = take r.length o' in
      let n : judge_first p k f t ≡ 0 = sym (first_next 0 (plan_refusal p k f) (text_refusal p t) w.numbers (sym (ap (λ (x : Bool). when (not x) 22) read_back.0))) in
      let q : all_refusals (judge_first p k f t) p k f (steps_read p t) ≡ 0 = ap₂ (λ (m : ℕ) (x : List Step). all_refusals m p k f x) n read_back.1 ∙ no_refusal in
      (g.refusal ∙ q, g.reads ∙ sym (pick_done (all_refusals (judge_first p k f t) p k f (steps_read p t)) (read_count p k f (steps_read p t)) 0 q) ∙ ap (read_count p k f) read_back.1)

-- "Two readable files of accepted plans lead to the same plain text exactly when they name the same
-- steps in the same order": only if, and if
module _ (p k f : ℕ) (t u o o' q q' : List ℕ) (a b : Written) (v : PlainSays p k f t o o' a) (w : PlainSays p k f u q q' b) (y : a.answer.refusal ≡ 0) (z : b.answer.refusal ≡ 0) where
  pub same_text : take a.length o' ≡ take b.length q' → steps_read p t ≡ steps_read p u
  same_text e = sym (read_back (text_written p k f t o o' a v y).1).1 ∙ ap (steps_read p) e ∙ (read_back (text_written p k f u q q' b w z).1).1

  pub same_steps : steps_read p t ≡ steps_read p u → take a.length o' ≡ take b.length q'
  same_steps e = (text_written p k f t o o' a v y).1.text ∙ ap plain e ∙ sym (text_written p k f u q q' b w z).1.text

-- "A file so read goes to the judge, with refusals 6 to 9 as they are": the answer is that for the
-- same steps as bytes
pub as_judged : (p k f : ℕ) (t bs : List ℕ) (i j : Judged) → JudgeTextSays p k f t j → JudgeSays p k f bs i → readable p t ≡ true → length bs ≡ 3 * p → steps_in p bs ≡ steps_read p t → (j.answer.refusal ≡ i.answer.refusal) × (j.answer.place ≡ i.answer.place) × (j.reads ≡ i.reads)
as_judged p k f t bs i j g h r l e =
    let n : judge_first p k f t ≡ form_refusal p k f bs = ap (first_of (plan_refusal p k f)) (ap (λ (x : Bool). when (not x) 22) r ∙ sym (long_accepted (3 * p) bs l)) in (
      g.refusal ∙ ap₂ (λ (m : ℕ) (x : List Step). all_refusals m p k f x) n (sym e) ∙ sym h.refusal,
      g.place ∙ ap₂ (λ (m : ℕ) (x : List Step). pick (eqb m 0) (judge p k f x).place 0) n (sym e) ∙ sym h.place,
      g.reads ∙ ap₂ (λ (m : ℕ) (x : List Step). pick (eqb (all_refusals m p k f x) 0) (read_count p k f x) 0) n (sym e) ∙ sym h.reads,
    )

-- a text to its plain form is refused as the judge refuses the text
pub text_answers : (p k f : ℕ) (t o o' : List ℕ) (j : Judged) (r : Written) → JudgeTextSays p k f t j → PlainSays p k f t o o' r → length o ≡ 263 → (r.answer.refusal ≡ j.answer.refusal) × (r.answer.place ≡ j.answer.place)
text_answers p k f t o o' j r g w l =
    let n : plain_first p k f t o ≡ judge_first p k f t = ap (λ (x : ℕ). first_of x (text_refusal p t)) (ap (first_of (plan_refusal p k f)) (long_accepted 263 o l) ∙ first_zero (plan_refusal p k f)) in
    (w.refusal ∙ ap (λ (m : ℕ). all_refusals m p k f (steps_read p t)) n ∙ sym g.refusal, w.place ∙ ap (λ (m : ℕ). pick (eqb m 0) (judge p k f (steps_read p t)).place 0) n ∙ sym g.place)

-- "22: text not of this form or not p lines", said with the form that document 02 describes: with
-- right numbers and lengths, exactly such a text is refused by 22.
module _ (p k f : ℕ) (t : List ℕ) (n x : ℕ) (z : n ≡ 0) (e : x ≡ all_refusals (first_of n (text_refusal p t)) p k f (steps_read p t)) where
  pub no_form_refused : ((ss : List Step) → PlanText t ss → length ss ≡ p → ⊥) → x ≡ 22
  no_form_refused h =
      ⊎_elim
      (λ r. let g = readable_has_form p t r in absurd (h (steps_read p t) g.0 g.1))
      (λ r. e ∙ ap₂ (λ (m : ℕ) (y : Bool). all_refusals (first_of m (when (not y) 22)) p k f (steps_read p t)) z r)
      (flag (readable p t))

  pub refused_no_form : x ≡ 22 → (ss : List Step) → PlanText t ss → length ss ≡ p → ⊥
  refused_no_form h ss g l =
      omega (
        arith,
        h,
        e ∙ ap₂ (λ (m : ℕ) (y : Bool). all_refusals (first_of m (when (not y) 22)) p k f (steps_read p t)) z (form_readable p t ss g l),
        judge_most 0 p k f [] (steps_read p t),
      )

module _ (p k f : ℕ) (t : List ℕ) (q : plan_refusal p k f ≡ 0) where
  pub judge_no_form : (j : Judged) → JudgeTextSays p k f t j → ((ss : List Step) → PlanText t ss → length ss ≡ p → ⊥) → j.answer.refusal ≡ 22
  judge_no_form j g h = no_form_refused p k f t (plan_refusal p k f) j.answer.refusal q g.refusal h

  pub judge_form_lem : (j : Judged) → JudgeTextSays p k f t j → j.answer.refusal ≡ 22 → (ss : List Step) → PlanText t ss → length ss ≡ p → ⊥
  judge_form_lem j g h = refused_no_form p k f t (plan_refusal p k f) j.answer.refusal q g.refusal h

  pub text_no_form : (o o' : List ℕ) (r : Written) → length o ≡ 263 → PlainSays p k f t o o' r → ((ss : List Step) → PlanText t ss → length ss ≡ p → ⊥) → r.answer.refusal ≡ 22
  text_no_form o o' r l g h = no_form_refused p k f t (room_refusal p k f o) r.answer.refusal (room o l) g.refusal h
    where
      room : (o : List ℕ) → length o ≡ 263 → room_refusal p k f o ≡ 0
      room o l = sym (first_next 0 (plan_refusal p k f) (long_refusal 263 o) q (sym (long_accepted 263 o l)))

  pub text_form : (o o' : List ℕ) (r : Written) → length o ≡ 263 → PlainSays p k f t o o' r → r.answer.refusal ≡ 22 → (ss : List Step) → PlanText t ss → length ss ≡ p → ⊥
  text_form o o' r l g h = refused_no_form p k f t (room_refusal p k f o) r.answer.refusal (sym (first_next 0 (plan_refusal p k f) (long_refusal 263 o) q (sym (long_accepted 263 o l)))) g.refusal h

-- the same of two texts for any two arrays and lost disks
module _ (p k f p' k' f' : ℕ) (t u o o' q q' : List ℕ) (a b : Written) (v : PlainSays p k f t o o' a) (w : PlainSays p' k' f' u q q' b) (y : a.answer.refusal ≡ 0) (z : b.answer.refusal ≡ 0) where
  pub same_text_any : take a.length o' ≡ take b.length q' → steps_read p t ≡ steps_read p' u
  same_text_any e =
      let m = (text_written p k f t o o' a v y).1 in
      let n = (text_written p' k' f' u q q' b w z).1 in
      plain_equal (steps_read p t) (steps_read p' u)
      (accepted_writable p k f (steps_read p t) (plan_of_lem p k f m.numbers).0.width m.accepts)
      (accepted_writable p' k' f' (steps_read p' u) (plan_of_lem p' k' f' n.numbers).0.width n.accepts)
      (sym m.text ∙ e ∙ n.text)

  pub same_steps_any : steps_read p t ≡ steps_read p' u → take a.length o' ≡ take b.length q'
  same_steps_any e = (text_written p k f t o o' a v y).1.text ∙ ap plain e ∙ sym (text_written p' k' f' u q q' b w z).1.text

-- the plain form written anew into any slice of 263 bytes: accepted, and the same text
module _ {p k f : ℕ} {ss : List Step} {o o' : List ℕ} {r : Written} (w : PlainWritten p k f ss o o' r) where
  pub text_anew : (q q' : List ℕ) (b : Written) → length q ≡ 263 → PlainSays p k f (take r.length o') q q' b → (b.answer.refusal ≡ 0) × (b.length ≡ r.length) × (take b.length q' ≡ take r.length o')
  text_anew q q' b l v =
      let t = take r.length o' in
      let n : plain_first p k f t q ≡ 0 = sym (first_next 0 (room_refusal p k f q) (text_refusal p t) (sym (first_next 0 (plan_refusal p k f) (long_refusal 263 q) w.numbers (sym (long_accepted 263 q l)))) (sym (ap (λ (x : Bool). when (not x) 22) (read_back w).0))) in
      let e : b.answer.refusal ≡ 0 = v.refusal ∙ ap₂ (λ (m : ℕ) (x : List Step). all_refusals m p k f x) n (read_back w).1 ∙ no_refusal w in
      let c = (text_written p k f t q q' b v e).1 in
      (e, c.size ∙ ap (λ (x : List Step). length (plain x)) (read_back w).1 ∙ sym w.size, c.text ∙ ap plain (read_back w).1 ∙ sym w.text)
