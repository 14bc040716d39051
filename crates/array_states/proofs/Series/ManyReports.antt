-- Reports one after another, by induction over them: an accepted one changes the list and is
-- counted, a refused one does neither.
use mathlib.Core.Path.{◌≡◌, refl, sym, ap, ap₂, ◌∙◌}
use mathlib.Core.Bool.{Bool, false, ◌||◌}
use mathlib.Core.List.{List, [], ◌∷◌}
use mathlib.Core.Logic.{⊎_elim}
use Prim.Native.Nat.{ℕ}
use lib.Dec.{eqb}
use lib.ListN.{length, get_or, length-set}
use lib.Seq.{get_or-set_same, get_or-set_other}
use borrow.Author.Tests.{eqb-true, eqb-false}
use Rattle.mathematics.specs.Choice.{pick}
use Rattle.mathematics.proofs.Flags.{or_false_l, or_false_r, flag}
use Rattle.array_states.specs.declared.ArrayState.{ArrayState}
use Rattle.array_states.specs.declared.totals.Totals.{Totals}
use Rattle.array_states.specs.States.{changed}
use Rattle.array_states.specs.Scanning.{no_array}
use Rattle.array_states.specs.Reports.{list_refusal, list_after, totals_of, ReportSays}
use Rattle.array_states.specs.Series.ReportSeries.{array_at, lost_at, Report, ReportSeries, report_made, last_list, accepted_in, totals_in, fresh_totals, last_totals, lost_since, is_named, ReportsRight}
use Rattle.array_states.proofs.Series.OneReport.{Taken, Accepted, accepted, stood, after_none, after_lost}

-- the first report and the rest
first_made : (xs : List ArrayState) (r : Report) (rs : List Report) → ReportSeries xs (r ∷ rs) → ReportSays xs r.which r.disk r.back r.left r.board × ReportSeries r.left rs
first_made xs r rs (report_made _ _ _ k m) = (k, m)

-- the first report was accepted, or it was refused
abbrev Took : List ArrayState → Report → Type 0
Took xs r = Accepted xs r.which r.disk r.back r.left r.board

by_answer : {A : Type 0} (xs : List ArrayState) (r : Report) (rs : List Report) → ReportSays xs r.which r.disk r.back r.left r.board
    → (Took xs r → accepted_in (r ∷ rs) ≡ r ∷ accepted_in rs → A) → (r.left ≡ xs → accepted_in (r ∷ rs) ≡ accepted_in rs → A) → A
unfolding accepted_in
by_answer xs r rs k took left =
    let n = r.board.answer.refusal in
    let kept : Bool → List Report = λ b. pick b (r ∷ accepted_in rs) (accepted_in rs) in
    ⊎_elim (λ t. took (accepted xs r.which r.disk r.back r.left r.board k (eqb-true n 0 t)) (ap kept t)) (λ f. left (stood xs r.which r.disk r.back r.left r.board k f) (ap kept f)) (flag (eqb n 0))

-- ---- the totals
made_totals : (xs : List ArrayState) (rs : List Report) → ReportSeries xs rs → totals_in (accepted_in rs) ≡ fresh_totals (accepted_in rs)
unfolding accepted_in totals_in fresh_totals
made_totals xs [] m = refl
made_totals xs (r ∷ rs) m =
    let q = first_made xs r rs m in
    let rest = made_totals r.left rs q.1 in
    by_answer xs r rs q.0
    (λ a e. ap totals_in e ∙ ap₂ (λ (t : Totals) (ts : List Totals). t ∷ ts) a.totals rest ∙ sym (ap fresh_totals e))
    (λ a e. ap totals_in e ∙ rest ∙ sym (ap fresh_totals e))

made_last : (xs : List ArrayState) (rs : List Report) → ReportSeries xs rs → last_totals (totals_of xs) (accepted_in rs) ≡ totals_of (last_list xs rs)
unfolding accepted_in last_totals last_list
made_last xs [] m = refl
made_last xs (r ∷ rs) m =
    let q = first_made xs r rs m in
    let rest = made_last r.left rs q.1 in
    let from : Totals → Totals = λ t. last_totals t (accepted_in rs) in
    by_answer xs r rs q.0
    (λ a e. ap (last_totals (totals_of xs)) e ∙ ap from a.totals ∙ rest)
    (λ a e. ap (last_totals (totals_of xs)) e ∙ ap (λ (ys : List ArrayState). from (totals_of ys)) (sym a) ∙ rest)

-- ---- the lost disks
made_lost : (xs : List ArrayState) (rs : List Report) → ReportSeries xs rs → (i d : ℕ) → lost_at (last_list xs rs) i d ≡ lost_since i d (lost_at xs i d) (accepted_in rs)
unfolding accepted_in last_list lost_since
made_lost xs [] m i d = refl
made_lost xs (r ∷ rs) m i d =
    let q = first_made xs r rs m in
    let rest = made_lost r.left rs q.1 i d in
    let since : Bool → Bool = λ b. lost_since i d b (accepted_in rs) in
    by_answer xs r rs q.0
    (λ a e. rest ∙ ap since (ap (λ (ys : List ArrayState). lost_at ys i d) a.list ∙ after_lost xs r.which r.disk r.back a.taken.index i d) ∙ sym (ap (lost_since i d (lost_at xs i d)) e))
    (λ a e. rest ∙ ap (λ (ys : List ArrayState). since (lost_at ys i d)) a ∙ sym (ap (lost_since i d (lost_at xs i d)) e))

-- ---- what stands
-- what a report on array i keeps of it is kept of every array
after_kept : {A : Type 0} (f : ArrayState → A) (xs : List ArrayState) (i : ℕ) (d : ℕ) (back : Bool) → Taken xs i d back → f (changed (get_or xs i no_array) d back) ≡ f (get_or xs i no_array) → (j : ℕ) → f (array_at (list_after xs i d back) j) ≡ f (array_at xs j)
after_kept f xs i d back k e j =
    let m = changed (get_or xs i no_array) d back in
    ⊎_elim
    (λ t. let s = eqb-true j i t in ap (λ (x : ℕ). f (array_at (list_after xs i d back) x)) s ∙ ap f (get_or-set_same xs i m no_array k.index) ∙ e ∙ ap (λ (x : ℕ). f (array_at xs x)) (sym s))
    (λ n. ap f (get_or-set_other xs i j m no_array (eqb-false j i n)))
    (flag (eqb j i))

made_kept : {A : Type 0} (f : ArrayState → A) → ((c : ArrayState) (d : ℕ) (back : Bool) → f (changed c d back) ≡ f c) → (xs : List ArrayState) (rs : List Report) → ReportSeries xs rs → (i : ℕ) → f (array_at (last_list xs rs) i) ≡ f (array_at xs i)
unfolding last_list
made_kept f keeps xs [] m i = refl
made_kept f keeps xs (r ∷ rs) m i =
    let q = first_made xs r rs m in
    let rest = made_kept f keeps r.left rs q.1 i in
    let at : List ArrayState → _ = λ ys. f (array_at ys i) in
    by_answer xs r rs q.0
    (λ a e. rest ∙ ap at a.list ∙ after_kept f xs r.which r.disk r.back a.taken (keeps (get_or xs r.which no_array) r.disk r.back) i)
    (λ a e. rest ∙ ap at a)

made_others : (xs : List ArrayState) (rs : List Report) → ReportSeries xs rs → (i : ℕ) → is_named i (accepted_in rs) ≡ false → array_at (last_list xs rs) i ≡ array_at xs i
unfolding accepted_in last_list is_named
made_others xs [] m i n = refl
made_others xs (r ∷ rs) m i n =
    let q = first_made xs r rs m in
    let rest = made_others r.left rs q.1 i in
    let here = eqb i r.which in
    let later = is_named i (accepted_in rs) in
    let at : List ArrayState → ArrayState = λ ys. array_at ys i in
    by_answer xs r rs q.0
    (λ a e. let f : (here || later) ≡ false = ap (is_named i) (sym e) ∙ n in
    rest (or_false_r here later f) ∙ ap at a.list ∙ get_or-set_other xs r.which i (changed (get_or xs r.which no_array) r.disk r.back) no_array (eqb-false i r.which (or_false_l here later f)))
    (λ a e. rest (ap (is_named i) (sym e) ∙ n) ∙ ap at a)

made_long : (xs : List ArrayState) (rs : List Report) → ReportSeries xs rs → length (last_list xs rs) ≡ length xs
unfolding last_list
made_long xs [] m = refl
made_long xs (r ∷ rs) m =
    let q = first_made xs r rs m in
    let rest = made_long r.left rs q.1 in
    let long : List ArrayState → ℕ = λ ys. length ys in
    by_answer xs r rs q.0
    (λ a e. rest ∙ ap long a.list ∙ length-set xs r.which (changed (get_or xs r.which no_array) r.disk r.back))
    (λ a e. rest ∙ ap long a)

made_fine : (xs : List ArrayState) (rs : List Report) → ReportSeries xs rs → list_refusal xs ≡ 0 → list_refusal (last_list xs rs) ≡ 0
unfolding last_list
made_fine xs [] m z = z
made_fine xs (r ∷ rs) m z =
    let q = first_made xs r rs m in
    let rest = made_fine r.left rs q.1 in
    by_answer xs r rs q.0
    (λ a e. rest (ap list_refusal a.list ∙ after_none xs r.which r.disk r.back a.taken))
    (λ a e. rest (ap list_refusal a ∙ z))

pub reports_right : ReportsRight
reports_right xs rs m =
    record {
      totals = made_totals xs rs m;
      last = made_last xs rs m;
      lost = made_lost xs rs m;
      width = made_kept (λ c. c.width) (λ c d back. refl) xs rs m;
      disks = made_kept (λ c. c.disks) (λ c d back. refl) xs rs m;
      others = made_others xs rs m;
      long = made_long xs rs m;
      fine = made_fine xs rs m;
    }
