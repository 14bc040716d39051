-- The promise of a report on an array of a list, from what the report on the one array answers.
use mathlib.Core.Path.{◌≡◌, refl, sym, ap, ◌∙◌}
use mathlib.Core.Bool.{Bool}
use mathlib.Core.List.{List}
use Prim.Native.Nat.{ℕ, ◌<◌}
use lib.ListN.{length, get_or, set}
use Rattle.std.proofs.Common.{Result, Ok, Err, rules}
use Rattle.mathematics.specs.Choice.{first_of}
use Rattle.mathematics.proofs.ChoiceLaws.{pick_refused, pick_done}
use Rattle.refusals.specs.declared.refusal.Refusal.{Refusal}
use Rattle.refusals.specs.Refused.{number_of}
use Rattle.array_states.specs.declared.ArrayState.{ArrayState}
use Rattle.array_states.specs.declared.totals.Totals.{Totals}
use Rattle.array_states.specs.States.{changed, disk_report_refusal, state_report_refusal}
use Rattle.array_states.specs.Scanning.{no_array, no_totals}
use Rattle.array_states.specs.Reports.{list_refusal, number_refusal, report_refusal, list_after, totals_of, board_of, ReportSays}
use Rattle.array_states.proofs.RestLaws.{refusal_at}

-- every refusal has a number
number_some : (r : Refusal) → number_of r ≡ 0 → ⊥
number_some r = search rules

module _ (xs : List ArrayState) (i d : ℕ) (back : Bool) (e : number_refusal (length xs) i ≡ 0) (l : list_refusal xs ≡ 0) (h : i < length xs) where
  abbrev state : ArrayState
  state = get_or xs i no_array

  -- a report that is not refused by the list is refused as one on the array alone
  same : report_refusal xs i d back ≡ state_report_refusal state d back
  same =
      let last = disk_report_refusal state d back in
      ap (λ (n : ℕ). first_of n (first_of (list_refusal xs) last)) e ∙ ap (λ (n : ℕ). first_of n last) l ∙ sym (ap (λ (n : ℕ). first_of n last) (refusal_at xs i l h))

  pub report_refused : (x : Result Totals Refusal) (r : Refusal) → x ≡ Err r → number_of r ≡ state_report_refusal state d back → ReportSays xs i d back xs (board_of x)
  report_refused x r q f =
      let n = number_of r in
      let g : n ≡ report_refusal xs i d back = f ∙ sym same in
      rw q (record {
        answer = record { refusal = g; place = refl };
        list = pick_refused n (report_refusal xs i d back) (list_after xs i d back) xs g (number_some r);
        totals = pick_refused n (report_refusal xs i d back) (totals_of xs) no_totals g (number_some r);
      })

  pub report_done : (m : ArrayState) (t : Totals) → state_report_refusal state d back ≡ 0 → m ≡ changed state d back → t ≡ totals_of (set xs i m) → ReportSays xs i d back (set xs i m) (board_of (Ok t))
  report_done m t z c f =
      let g : report_refusal xs i d back ≡ 0 = same ∙ z in
      record {
        answer = record { refusal = sym g; place = refl };
        list = ap (set xs i) c ∙ pick_done (report_refusal xs i d back) (list_after xs i d back) xs g;
        totals = f ∙ pick_done (report_refusal xs i d back) (totals_of (set xs i m)) no_totals g;
      }
