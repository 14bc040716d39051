-- One report on a list: an accepted one changes one bit of one record, which stays in its limits; a
-- refused one leaves the list; one within the limits is accepted.
use mathlib.Core.Path.{◌≡◌, refl, sym, ap, ap₂, ◌∙◌}
use mathlib.Core.Bool.{Bool, true, false, ◌&&◌, ◌||◌, not}
use mathlib.Core.List.{List, [], ◌∷◌}
use mathlib.Core.Logic.{⊎_elim}
use Prim.Native.Nat.{ℕ, zero, suc, ◌+◌, ◌^◌, ◌<◌, ◌≤◌}
use native.Mathlib.Nat.{not-suc-le-zero, le_of_suc-le-suc}
use native.Mathlib.Omega.{arith}
use lib.Count.{ones}
use lib.Dec.{eqb, leb, ltb}
use lib.ListN.{length, get_or, set, length-set}
use lib.Seq.{get_or-set_same, get_or-set_other}
use borrow.Author.Tests.{leb-false, ltb-false, lt-leb, le-ltb, eqb-true, eqb-false}
use Rattle.mathematics.specs.Choice.{pick, when, first_of}
use Rattle.mathematics.proofs.Flags.{or_false_l, or_false_r, flag}
use Rattle.mathematics.proofs.ChoiceLaws.{first_none, when_none, pick_done}
use Rattle.liberation.proofs.RefusalLaws.{disk_accepted}
use Rattle.refusals.proofs.AnswerLaws.{answers_none}
use Rattle.array_states.specs.declared.ArrayState.{ArrayState}
use Rattle.array_states.specs.declared.totals.Totals.{Totals}
use Rattle.array_states.specs.declared.board.Board.{Board}
use Rattle.array_states.specs.Lost.{has_bit, lost_after}
use Rattle.array_states.specs.States.{changed, state_refusal, again_refusal, disk_report_refusal}
use Rattle.array_states.specs.Scanning.{no_array, no_totals}
use Rattle.array_states.specs.Reports.{list_refusal, number_refusal, report_refusal, list_after, totals_of, ReportSays}
use Rattle.array_states.proofs.LostLaws.{lost_accepted, own_after, other_after, lost_after_lem, after_lt, loss_one_more, return_one_fewer}
use Rattle.array_states.proofs.StateLaws.{Reportable, reportable}
use Rattle.array_states.proofs.TotalLaws.{totals_all}
use Rattle.array_states.specs.Series.ReportSeries.{array_at, lost_at, ReportMeaning, ReportGoes}

-- ---- records in their limits
listed_none : (xs : List ArrayState) (i : ℕ) → list_refusal xs ≡ 0 → i < length xs → state_refusal (get_or xs i no_array) ≡ 0
unfolding list_refusal
listed_none [] i z h = absurd (not-suc-le-zero h)
listed_none (c ∷ cs) zero z h = (first_none (state_refusal c) (list_refusal cs) z).0
listed_none (c ∷ cs) (suc i) z h = listed_none cs i (first_none (state_refusal c) (list_refusal cs) z).1 (le_of_suc-le-suc h)

-- another record in its limits may take the place of one
set_none : (xs : List ArrayState) (i : ℕ) (m : ArrayState) → list_refusal xs ≡ 0 → state_refusal m ≡ 0 → list_refusal (set xs i m) ≡ 0
unfolding list_refusal
set_none [] i m z e = refl
set_none (c ∷ cs) zero m z e = ap₂ first_of e (first_none (state_refusal c) (list_refusal cs) z).1
set_none (c ∷ cs) (suc i) m z e = let q = first_none (state_refusal c) (list_refusal cs) z in ap₂ first_of q.0 (set_none cs i m q.1 e)

-- ---- an accepted report
pub record Taken (xs : List ArrayState) (i d : ℕ) (back : Bool) : Type 0 where
  pub index : i < length xs
  pub most : length xs ≤ 64
  pub fine : list_refusal xs ≡ 0
  pub report : Reportable (get_or xs i no_array) d back

taken : (xs : List ArrayState) (i d : ℕ) (back : Bool) → report_refusal xs i d back ≡ 0 → Taken xs i d back
taken xs i d back z =
    let c = get_or xs i no_array in
    let n = leb (length xs) i in
    let m = ltb 64 (length xs) in
    let q = first_none (number_refusal (length xs) i) (first_of (list_refusal xs) (disk_report_refusal c d back)) z in
    let t = when_none (n || m) 19 q.0 in
    let r = first_none (list_refusal xs) (disk_report_refusal c d back) q.1 in
    let l : i < length xs = leb-false (length xs) i (or_false_l n m t) in
    record {
      index = l;
      most = ltb-false 64 (length xs) (or_false_r n m t);
      fine = r.0;
      report = reportable c d back (ap₂ first_of (listed_none xs i r.0 l) r.1);
    }

-- the array after it is in its limits
changed_none : (c : ArrayState) (d : ℕ) (back : Bool) → Reportable c d back → state_refusal (changed c d back) ≡ 0
changed_none c d back k = ap₂ first_of k.array (sym (lost_accepted c.disks (lost_after c.lost d back) (2 ^ (c.disks + 2)) refl (after_lt (c.disks + 2) c.lost d back k.word (omega (arith, k.disk)))))

pub after_none : (xs : List ArrayState) (i d : ℕ) (back : Bool) → Taken xs i d back → list_refusal (list_after xs i d back) ≡ 0
after_none xs i d back k = set_none xs i (changed (get_or xs i no_array) d back) k.fine (changed_none (get_or xs i no_array) d back k.report)

-- disk e of array j after it
pub after_lost : (xs : List ArrayState) (i d : ℕ) (back : Bool) → i < length xs → (j e : ℕ) → lost_at (list_after xs i d back) j e ≡ pick (eqb j i && eqb e d) (not back) (lost_at xs j e)
after_lost xs i d back l j e =
    let c = get_or xs i no_array in
    let m = changed c d back in
    let end : Bool → Bool = λ b. pick (b && eqb e d) (not back) (lost_at xs j e) in
    ⊎_elim
    (λ t. let s = eqb-true j i t in
    ap (λ (x : ℕ). lost_at (set xs i m) x e) s ∙ ap (λ (y : ArrayState). has_bit y.lost e) (get_or-set_same xs i m no_array l) ∙ lost_after_lem c.lost d e back
    ∙ ap (λ (x : ℕ). pick (eqb e d) (not back) (lost_at xs x e)) (sym s) ∙ sym (ap end t))
    (λ f. ap (λ (y : ArrayState). has_bit y.lost e) (get_or-set_other xs i j m no_array (eqb-false j i f)) ∙ sym (ap end f))
    (flag (eqb j i))

-- ---- what the call answered
-- 0: the list is changed, and the totals are those of the list then
pub record Accepted (xs : List ArrayState) (i d : ℕ) (back : Bool) (ys : List ArrayState) (r : Board) : Type 0 where
  pub taken : Taken xs i d back
  pub list : ys ≡ list_after xs i d back
  pub totals : r.totals ≡ totals_of ys

pub accepted : (xs : List ArrayState) (i d : ℕ) (back : Bool) (ys : List ArrayState) (r : Board) → ReportSays xs i d back ys r → r.answer.refusal ≡ 0 → Accepted xs i d back ys r
accepted xs i d back ys r k z =
    let e : report_refusal xs i d back ≡ 0 = answers_none (report_refusal xs i d back) r.answer k.answer z in
    record {
      taken = taken xs i d back e;
      list = k.list ∙ sym (pick_done (report_refusal xs i d back) (list_after xs i d back) xs e);
      totals = k.totals ∙ sym (pick_done (report_refusal xs i d back) (totals_of ys) no_totals e);
    }

-- another number: the list stands
pub stood : (xs : List ArrayState) (i d : ℕ) (back : Bool) (ys : List ArrayState) (r : Board) → ReportSays xs i d back ys r → eqb r.answer.refusal 0 ≡ false → ys ≡ xs
stood xs i d back ys r k f = k.list ∙ ap (λ (b : Bool). pick b (list_after xs i d back) xs) (ap (λ (n : ℕ). eqb n 0) (sym k.answer.refusal) ∙ f)

pub report_means : ReportMeaning
report_means xs i d back ys r k z =
    let a = accepted xs i d back ys r k z in
    let q = a.taken in
    let c = get_or xs i no_array in
    let m = changed c d back in
    let n = c.disks + 2 in
    let few : d < n = omega (arith, q.report.disk) in
    let own : array_at ys i ≡ m = ap (λ (zs : List ArrayState). array_at zs i) a.list ∙ get_or-set_same xs i m no_array q.index in
    let word : (array_at ys i).lost ≡ lost_after c.lost d back = ap (λ (y : ArrayState). y.lost) own in
    let long : length ys ≡ length xs = ap (λ (zs : List ArrayState). length zs) a.list ∙ length-set xs i m in
    record {
      index = q.index;
      most = q.most;
      fine = q.fine;
      fine_after = ap list_refusal a.list ∙ after_none xs i d back q;
      was = q.report.bit;
      is = ap (λ (w : ℕ). has_bit w d) word ∙ own_after c.lost d back;
      more = λ b. ap ones word ∙ ap (λ (t : Bool). ones (lost_after c.lost d t)) b ∙ loss_one_more n c.lost d q.report.word few (q.report.bit ∙ b);
      fewer = λ b. return_one_fewer n c.lost d q.report.word few (q.report.bit ∙ b) ∙ sym (ap (λ (x : ℕ). 1 + x) (ap ones word ∙ ap (λ (t : Bool). ones (lost_after c.lost d t)) b));
      disks = λ e n. ap (λ (w : ℕ). has_bit w e) word ∙ other_after c.lost d e back n;
      others = λ j n. ap (λ (zs : List ArrayState). array_at zs j) a.list ∙ get_or-set_other xs i j m no_array n;
      long = long;
      totals = a.totals;
      all = ap (λ (t : Totals). t.optimal + t.degraded + t.critical + t.failed) a.totals ∙ totals_all ys ∙ long;
    }

again_right : (w d : ℕ) (back : Bool) → has_bit w d ≡ back → again_refusal w d back ≡ 0
again_right w d true e = ap (λ (t : Bool). when (not t) 21) e
again_right w d false e = ap (λ (t : Bool). when t 21) e

pub report_goes : ReportGoes
report_goes xs i d back ys r k most fine index disk was =
    let c = get_or xs i no_array in
    let number : number_refusal (length xs) i ≡ 0 = ap₂ (λ (a b : Bool). when (a || b) 20) (lt-leb (length xs) i index) (le-ltb 64 (length xs) most) in
    k.answer.refusal ∙ ap₂ first_of number (ap₂ first_of fine (ap₂ first_of (disk_accepted c.disks d disk) (again_right c.lost d back was)))
