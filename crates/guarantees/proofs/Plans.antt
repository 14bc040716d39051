-- Demand 3 and ask 13 said of the planner's and the judge's calls: whatever bytes a host sends and
-- whatever the two calls return, as long as they keep their promises.
use mathlib.Core.Path.{◌≡◌, sym, ap, ap₂, ◌∙◌}
use mathlib.Core.Bool.{true}
use mathlib.Core.List.{List}
use mathlib.Core.Logic.{◌↔◌}
use Prim.Native.Nat.{ℕ, ◌+◌, ◌-◌, ◌*◌, ◌≤◌, ◌<◌}
use native.Mathlib.Omega.{arith}
use lib.Dec.{eqb}
use lib.ListN.{length, get_or}
use borrow.Author.Tests.{eqb-true, eq-eqb}
use Rattle.mathematics.specs.Choice.{pick, when}
use Rattle.liberation.specs.Sets.{place}
use Rattle.liberation.specs.Plans.{Step, plan_of, read_count, read_list}
use Rattle.liberation.specs.Judging.{accepted, steps_in}
use Rattle.liberation.specs.Claims.{is_best, diagonals_used, lone_extras, by_extra, Rearranged, full_disk}
use Rattle.liberation.proofs.Widths.{width_least}
use Rattle.liberation.proofs.PartLaws.{full_range}
use Rattle.liberation.proofs.RefusalLaws.{plan_none}
use Rattle.liberation.proofs.Rearranging.{count_same}
use Rattle.liberation.proofs.Demand3.{plans_best}
use Rattle.liberation.proofs.PartPlans.{plan_accepted, plans_part}
use Rattle.liberation.specs.Stripes.Stripes.{is_stripe, followed}
use Rattle.liberation.proofs.Stripes.RearrangedBytes.{bytes_same}
use Rattle.planner.specs.declared.Plan.{Plan}
use Rattle.refusals.specs.declared.answer.Answer.{Answer}
use Rattle.planner.specs.PlanSays.{PlanSays}
use Rattle.planner.proofs.FormLaws.{form_of, length_of, plan_form}
use Rattle.planner.proofs.PlanMeans.{plan_means}
use Rattle.planner.specs.ReadListSays.{ListSays}
use Rattle.judge.specs.declared.all_steps.Judged.{Judged}
use Rattle.judge.specs.JudgeSays.{JudgeSays}
use Rattle.judge.proofs.AcceptLaws.{Acceptable, zero_accepts, accepts_zero, zero_counts}
use Rattle.guarantees.specs.Limits.Calls.{OneOfTen}
use Rattle.guarantees.proofs.Limits.Demand1.{demand1}

-- What holds of a host's plan bs for a lost data disk f that the judge accepts with answer j, where
-- our planner answers r.
pub record Compared (p f : ℕ) (bs : List ℕ) (r : Plan) (j : Judged) : Type 0 where
  -- ours reads no more
  pub least : r.reads ≤ j.reads
  -- and as much exactly under the three conditions on the steps in those bytes
  pub equally : eqb j.reads r.reads ≡ is_best p p f (steps_in p bs)

-- the planner's count is the read count of our plan
pub our_reads : (p k f : ℕ) (r : Plan) → PlanSays p k f r → r.answer.refusal ≡ 0 → r.reads ≡ read_count p k f (plan_of p k f)
our_reads p k f r d z = let m = plan_means p k f r d z in m.count ∙ ap (read_count p k f) m.steps

pub compared : (p f : ℕ) (bs : List ℕ) (r : Plan) (j : Judged) → f < p → PlanSays p p f r → JudgeSays p p f bs j → j.answer.refusal ≡ 0 → Compared p f bs r j
compared p f bs r j l k d z =
    let a = zero_accepts p p f bs j d z in
    let best = plans_best p f a.array.width l in
    let ss = steps_in p bs in
    let ours : r.reads ≡ read_count p p f (plan_of p p f) = our_reads p p f r k (k.answer.refusal ∙ plan_none p p f a.array a.disk) in
    let theirs : j.reads ≡ read_count p p f ss = zero_counts p p f bs j d z in
    record {
      least = omega (arith, ours, theirs, best.least ss a.accepts);
      equally = ap₂ eqb theirs ours ∙ best.equally ss a.accepts;
    }

-- Ask 13: "For a lost data disk and k = p, every plan that the judge accepts reads exactly p² - t(p
-- - t) + u + v cells", said of the judge's count.
pub record Priced (p f : ℕ) (bs : List ℕ) (j : Judged) : Type 0 where
  -- t is at most p, so that p - t is a difference
  pub few : diagonals_used p (steps_in p bs) ≤ p
  pub price : j.reads + diagonals_used p (steps_in p bs) * (p - diagonals_used p (steps_in p bs)) ≡ p * p + (lone_extras p p f (steps_in p bs) + when (by_extra p p f (steps_in p bs)) 1)

pub priced : (p f : ℕ) (bs : List ℕ) (j : Judged) → f < p → JudgeSays p p f bs j → j.answer.refusal ≡ 0 → Priced p f bs j
priced p f bs j l d z =
    let a = zero_accepts p p f bs j d z in
    let ss = steps_in p bs in
    let q = (plans_best p f a.array.width l).price ss a.accepts in
    record { few = q.few; price = ap (λ (n : ℕ). n + diagonals_used p ss * (p - diagonals_used p ss)) (zero_counts p p f bs j d z) ∙ q.price }

-- "rearranging a plan's steps into another accepted plan changes neither its count nor any byte its
-- steps rebuild, on dirty stripes too", whatever disk is lost and however many data disks there are
pub record Unchanged (p k f : ℕ) (bs cs : List ℕ) (j q : Judged) : Type 0 where
  pub count : j.reads ≡ q.reads
  pub bytes : (s : ℕ) (t : List ℕ) → is_stripe p k s t ≡ true → followed p k s f (steps_in p bs) t ≡ followed p k s f (steps_in p cs) t

pub rearranged : (p k f : ℕ) (bs cs : List ℕ) (j q : Judged) → JudgeSays p k f bs j → j.answer.refusal ≡ 0 → JudgeSays p k f cs q → q.answer.refusal ≡ 0 → Rearranged (steps_in p bs) (steps_in p cs) → Unchanged p k f bs cs j q
rearranged p k f bs cs j q d z e y r =
    let a = (zero_accepts p k f bs j d z).accepts in
    let b = (zero_accepts p k f cs q e y).accepts in
    record {
      count = zero_counts p k f bs j d z ∙ count_same p k f (steps_in p bs) (steps_in p cs) a b r ∙ sym (zero_counts p k f cs q e y);
      bytes = λ s t h. bytes_same p k s f (steps_in p bs) (steps_in p cs) a b r t h;
    }

-- The judge accepts the record of the planner's accepted answer put into its form, with the
-- planner's count.
pub record OwnAccepted (r : Plan) (j : Judged) : Type 0 where
  pub refusal : j.answer.refusal ≡ 0
  pub reads : j.reads ≡ r.reads

pub own_accepted : (p k f : ℕ) (r : Plan) (j : Judged) → PlanSays p k f r → r.answer.refusal ≡ 0 → JudgeSays p k f (form_of p r) j → OwnAccepted r j
own_accepted p k f r j y z d =
    let m = plan_means p k f r y z in
    let bs : List ℕ = form_of p r in
    let e : steps_in p bs ≡ plan_of p k f = plan_form p k f r y z in
    let a : Acceptable p k f bs = record { array = m.array; disk = m.disk; long = length_of p r; accepts = ap (accepted p k f) e ∙ plan_accepted p k f m.array.width m.array.disks m.disk } in
    let g : j.answer.refusal ≡ 0 = accepts_zero p k f bs j d a in
    record { refusal = g; reads = zero_counts p k f bs j d g ∙ ap (λ (ss : List Step). read_count p k f ss) e ∙ sym (our_reads p k f r y z) }

-- "Ours is (3p² + 1)/4", where k = p.
pub own_count : (p f : ℕ) (r : Plan) → f < p → PlanSays p p f r → r.answer.refusal ≡ 0 → 4 * r.reads ≡ 3 * (p * p) + 1
own_count p f r l k z = ap (λ (n : ℕ). 4 * n) (our_reads p p f r k z) ∙ (plans_best p f (plan_means p p f r k z).array.width l).ours_count

-- Ask 1: "A lost P or Q reads k × p cells."
pub parity_count : (p k f : ℕ) (r : Plan) → k ≤ f → PlanSays p k f r → r.answer.refusal ≡ 0 → r.reads ≡ k * p
parity_count p k f r l d z = (plan_means p k f r d z).parity l

-- the list that an accepted call writes
our_list : (p k f : ℕ) (o o' : List ℕ) (a : Answer) → ListSays p k f o o' a → a.refusal ≡ 0 → o' ≡ read_list p k f
our_list p k f o o' a d z = d.list ∙ ap (λ (n : ℕ). pick (eqb n 0) (read_list p k f) o) (sym d.answer.refusal ∙ z)

-- Ask 1: our plan reads "only cells the full cabinet would read, P and Q cells being compared with
-- P and Q cells of the same row", and all of those on the disks present: the two lists that
-- `read_list` writes agree there. The second is lent with its length; that it is written need not
-- be supposed.
pub part_within :
    (p k f : ℕ) (o o' n n' : List ℕ) (a b : Answer) → ListSays p k f o o' a → a.refusal ≡ 0 → ListSays p p (full_disk p k f) n n' b → length n ≡ p * (p + 2)
    → (r c : ℕ) → r < p → c < k + 2 → get_or o' (place p r c) 0 ≡ get_or n' (place p r (full_disk p k c)) 0
part_within p k f o o' n n' a b d z e long r c h g =
    let w = (demand1.read_list_lem p k f o o' a d).accepted z in
    let most = w.1.0.1 in
    let y = (demand1.read_list_lem p p (full_disk p k f) n n' b e).accepts (w.0, ((omega (arith, w.1.0.0, most), omega arith), (full_range p k most f w.1.1.0, (long, tt)))) in
    ap (λ (x : List ℕ). get_or x (place p r c) 0) (our_list p k f o o' a d z)
    ∙ (plans_part p k f w.0 most w.1.1.0).within r c h g
    ∙ sym (ap (λ (x : List ℕ). get_or x (place p r (full_disk p k c)) 0) (our_list p p (full_disk p k f) n n' b e y))

-- Demand 3 as one statement of two answers of the judge, where k = p: j is that for our plan, "the
-- p steps of the planner's record, put in that form", q that for any bytes bs of a host.
pub record Demand3 (p f : ℕ) (bs : List ℕ) (j q : Judged) : Type 0 where
  -- ours is accepted, and reads (3p² + 1)/4 cells
  pub accepted : j.answer.refusal ≡ 0
  pub count : 4 * j.reads ≡ 3 * (p * p) + 1
  -- any that is accepted reads as many or more, and as many exactly under the three conditions on
  -- its steps
  pub least : q.answer.refusal ≡ 0 → j.reads ≤ q.reads
  pub equally : q.answer.refusal ≡ 0 → (q.reads ≡ j.reads) ↔ (is_best p p f (steps_in p bs) ≡ true)

pub demand3 : (p f : ℕ) (bs : List ℕ) (r : Plan) (j q : Judged) → OneOfTen p → f < p → PlanSays p p f r → JudgeSays p p f (form_of p r) j → JudgeSays p p f bs q → Demand3 p f bs j q
demand3 p f bs r j q w l k d e =
    let z : r.answer.refusal ≡ 0 = (demand1.plan_disk p p f r k).accepts (w, ((omega (arith, width_least p w), omega arith), (omega arith, tt))) in
    let own = own_accepted p p f r j k z d in
    record {
      accepted = own.refusal;
      count = ap (λ (n : ℕ). 4 * n) own.reads ∙ own_count p f r l k z;
      least = λ y. omega (arith, own.reads, (compared p f bs r q l k e y).least);
      equally = λ y.
          let c : eqb q.reads j.reads ≡ is_best p p f (steps_in p bs) = ap (eqb q.reads) own.reads ∙ (compared p f bs r q l k e y).equally in
          (λ h. sym c ∙ eq-eqb q.reads j.reads h, λ h. eqb-true q.reads j.reads (c ∙ h));
    }
