-- Steps and skips one after another, each on the record that the one before left, and what is
-- claimed of every run: from its opening on, and from any record on that can be read, so also from
-- one that was open before records had today's fields.
use Rattle.std.specs.Prelude.{◌≡◌, Bool, true, ◌&&◌, List, [], ◌∷◌, ℕ, suc, ◌+◌, ◌-◌, ◌*◌, ◌≤◌, eqb, length}
use Rattle.mathematics.specs.Choice.{pick, first_of}
use Rattle.liberation.specs.Sets.{width_refusal, size_refusal, disk_refusal, numbers_refusal}
use Rattle.liberation.specs.Plans.{plan_of, read_count}
use Rattle.liberation.specs.Stripes.Stripes.{stripe_long, rebuilt}
use Rattle.refusals.specs.declared.answer.Answer.{Answer}
use Rattle.rebuild_runs.specs.declared.Run.{Run}
use Rattle.rebuild_runs.specs.declared.starts.FullRun.{FullRun}
use Rattle.rebuild_runs.specs.declared.starts.DisksRun.{DisksRun}
use Rattle.rebuild_runs.specs.declared.RunAnswer.{RunAnswer}
use Rattle.rebuild_runs.specs.declared.progress.Progress.{Progress}
use Rattle.rebuild_runs.specs.ProgressSays.{is_over, cells_so_far, reads_of, ProgressSays}
use Rattle.rebuild_runs.specs.Runs.{SkipSays}
use Rattle.rebuild_runs.specs.Starts.{resumed, resumed_disks, OpenSays}
use Rattle.rebuild_runs.specs.StepSays.{StepSays}

-- a step that was made: what it was given besides the record, and what it left
pub record MadeStep : Type 0 where
  pub which : ℕ
  pub stripe : List ℕ
  pub column : List ℕ
  pub left : List ℕ
  pub run : Run
  pub answer : Answer

-- a skip that was made
pub record MadeSkip : Type 0 where
  pub which : ℕ
  pub run : Run
  pub answer : Answer

-- a call on a run: a step or a skip
pub data Event : Type 0 where
  step_of : MadeStep → Event
  skip_of : MadeSkip → Event

-- the stripe number that it was given, and the refusal number that it answered
abbrev pub which_of : Event → ℕ
which_of (step_of c) = c.which
which_of (skip_of c) = c.which

abbrev pub refusal_of : Event → ℕ
refusal_of (step_of c) = c.answer.refusal
refusal_of (skip_of c) = c.answer.refusal

-- the record that it left
abbrev pub run_of : Event → Run
run_of (step_of c) = c.run
run_of (skip_of c) = c.run

-- events one after another, each with the promise of its call, while nothing else wrote the record
pub data EventsMade : Run → List Event → Type 0 where
  none_made : (x : Run) → EventsMade x []
  step_made : (x : Run) (c : MadeStep) (es : List Event) → StepSays x c.run c.which c.stripe c.column c.left c.answer → EventsMade c.run es → EventsMade x (step_of c ∷ es)
  skip_made : (x : Run) (c : MadeSkip) (es : List Event) → SkipSays x c.run c.which c.answer → EventsMade c.run es → EventsMade x (skip_of c ∷ es)

-- the record that they leave
unfoldable pub last_run : Run → List Event → Run
last_run x [] = x
last_run x (e ∷ es) = last_run (run_of e) es

-- those that were answered with 0
unfoldable pub accepted_in : List Event → List Event
accepted_in [] = []
accepted_in (e ∷ es) = pick (eqb (refusal_of e) 0) (e ∷ accepted_in es) (accepted_in es)

-- the steps and the skips among events
unfoldable pub steps_among : List Event → List MadeStep
steps_among [] = []
steps_among (step_of c ∷ es) = c ∷ steps_among es
steps_among (skip_of c ∷ es) = steps_among es

unfoldable pub skips_among : List Event → List MadeSkip
skips_among [] = []
skips_among (step_of c ∷ es) = skips_among es
skips_among (skip_of c ∷ es) = c ∷ skips_among es

-- how many steps and how many skips were accepted
abbrev pub stepped : List Event → ℕ
stepped es = length (steps_among (accepted_in es))

abbrev pub skipped : List Event → ℕ
skipped es = length (skips_among (accepted_in es))

-- stripe numbers go upward by one from i
unfoldable pub in_order : ℕ → List Event → Bool
in_order i [] = true
in_order i (e ∷ es) = eqb (which_of e) i && in_order (suc i) es

-- a step's stripe and column have the lengths required; a skip has neither
abbrev pub is_long : ℕ → ℕ → ℕ → Event → Bool
is_long p k s (step_of c) = eqb (length c.stripe) (stripe_long p k s) && eqb (length c.column) (p * s)
is_long p k s (skip_of c) = true

unfoldable pub all_long : ℕ → ℕ → ℕ → List Event → Bool
all_long p k s [] = true
all_long p k s (e ∷ es) = is_long p k s e && all_long p k s es

-- the columns that steps left, and the rebuilt disk f of each step's own stripe
unfoldable pub columns_of : List MadeStep → List (List ℕ)
columns_of [] = []
columns_of (c ∷ cs) = c.left ∷ columns_of cs

unfoldable pub rebuilt_each : ℕ → ℕ → ℕ → ℕ → List MadeStep → List (List ℕ)
rebuilt_each p k s f [] = []
rebuilt_each p k s f (c ∷ cs) = rebuilt p k s f c.stripe ∷ rebuilt_each p k s f cs

-- Events on a record that was opened over n stripes: skipped is the number of accepted skips, and
-- next less skipped that of accepted steps; together they are no more than n, and the run is over
-- exactly when they are n, not before; cells read are the accepted steps times the read count;
-- accepted events took the stripes in order, and each column is the rebuilt disk of the stripe
-- given with it.
pub record RunMade (p k s f n : ℕ) (x : Run) (es : List Event) : Type 0 where
  pub next : (last_run x es).next ≡ stepped es + skipped es
  pub skips : (last_run x es).skipped ≡ skipped es
  pub steps : (last_run x es).next - (last_run x es).skipped ≡ stepped es
  pub few : stepped es + skipped es ≤ n
  pub over : is_over (last_run x es) ≡ eqb (stepped es + skipped es) n
  pub cells : cells_so_far (last_run x es) ≡ stepped es * read_count p k f (plan_of p k f)
  pub order : in_order 0 (accepted_in es) ≡ true
  pub columns : columns_of (steps_among (accepted_in es)) ≡ rebuilt_each p k s f (steps_among (accepted_in es))

abbrev pub CallsRight : Type 0
CallsRight = (p k s f n : ℕ) (r : RunAnswer) (es : List Event) → OpenSays p k s f n r → r.answer.refusal ≡ 0 → EventsMade r.run es → RunMade p k s f n r.run es

-- The same from a record x on: accepted skips and steps are added to what it had.
pub record RunOn (x : Run) (es : List Event) : Type 0 where
  pub next : (last_run x es).next ≡ x.next + (stepped es + skipped es)
  pub skips : (last_run x es).skipped ≡ x.skipped + skipped es
  pub steps : (last_run x es).next - (last_run x es).skipped ≡ x.next - x.skipped + stepped es
  pub few : x.next ≤ x.stripes → x.next + (stepped es + skipped es) ≤ x.stripes
  pub over : is_over (last_run x es) ≡ eqb (x.next + (stepped es + skipped es)) x.stripes
  pub cells : cells_so_far (last_run x es) ≡ (x.next - x.skipped + stepped es) * reads_of x
  pub order : in_order x.next (accepted_in es) ≡ true
  pub columns : columns_of (steps_among (accepted_in es)) ≡ rebuilt_each x.shape.width x.shape.disks x.shape.cell_size x.lost (steps_among (accepted_in es))

abbrev pub CallsOn : Type 0
CallsOn = (x : Run) (es : List Event) → x.skipped ≤ x.next → EventsMade x es → RunOn x es

-- a converted record has no skipped stripe
abbrev pub FullOn : Type 0
FullOn = (y : FullRun) (x : Run) (es : List Event) → x ≡ resumed y → EventsMade x es → RunOn x es

abbrev pub DisksOn : Type 0
DisksOn = (y : DisksRun) (x : Run) (es : List Event) → x ≡ resumed_disks y → EventsMade x es → RunOn x es

-- what reading the record answers then: no refusal, over exactly when n events were accepted, and
-- the accepted steps times the read count
pub record RunRead (p k f n : ℕ) (es : List Event) (g : Progress) : Type 0 where
  pub refusal : g.answer.refusal ≡ 0
  pub over : g.over ≡ eqb (stepped es + skipped es) n
  pub cells : g.cells ≡ stepped es * read_count p k f (plan_of p k f)

abbrev pub ProgressRight : Type 0
ProgressRight = (p k s f n : ℕ) (r : RunAnswer) (es : List Event) (g : Progress) → OpenSays p k s f n r → r.answer.refusal ≡ 0 → EventsMade r.run es → ProgressSays (last_run r.run es) g → RunRead p k f n es g

-- the same from a record x on that was read without refusal, as h
pub record RunReadOn (x : Run) (es : List Event) (h g : Progress) : Type 0 where
  pub refusal : g.answer.refusal ≡ 0
  pub over : g.over ≡ eqb (x.next + (stepped es + skipped es)) x.stripes
  pub cells : g.cells ≡ h.cells + stepped es * reads_of x

abbrev pub ProgressOn : Type 0
ProgressOn = (x : Run) (es : List Event) (h g : Progress) → ProgressSays x h → h.answer.refusal ≡ 0 → EventsMade x es → ProgressSays (last_run x es) g → RunReadOn x es h g

-- Every run can be carried out: steps and skips in order, the steps on slices of the lengths
-- required, no more of them than n, are all accepted.
abbrev pub CallsGo : Type 0
CallsGo = (p k s f n : ℕ) (r : RunAnswer) (es : List Event) → OpenSays p k s f n r → r.answer.refusal ≡ 0 → EventsMade r.run es → in_order 0 es ≡ true → all_long p k s es ≡ true → length es ≤ n → accepted_in es ≡ es

abbrev pub CallsGoOn : Type 0
CallsGoOn = (x : Run) (es : List Event) (h : Progress) → ProgressSays x h → h.answer.refusal ≡ 0 → EventsMade x es → in_order x.next es ≡ true → all_long x.shape.width x.shape.disks x.shape.cell_size es ≡ true → x.next + length es ≤ x.stripes → accepted_in es ≡ es

-- What document 01 says of its own record: its refusals, 1, 2 and 3 in this order, when it is over,
-- and the cells read.
abbrev pub full_refusal : FullRun → ℕ
full_refusal y = first_of (width_refusal y.width) (first_of (size_refusal y.size) (disk_refusal y.width y.disk))

pub record FullRead (y : FullRun) (g : Progress) : Type 0 where
  pub refusal : g.answer.refusal ≡ full_refusal y
  pub over : g.over ≡ (eqb (full_refusal y) 0 && eqb y.next y.stripes)
  pub cells : g.cells ≡ pick (eqb (full_refusal y) 0) (y.next * read_count y.width y.width y.disk (plan_of y.width y.width y.disk)) 0

-- reading the record that it becomes answers just that
abbrev pub FullAreRead : Type 0
FullAreRead = (y : FullRun) (x : Run) (g : Progress) → x ≡ resumed y → ProgressSays x g → FullRead y g

-- What ask 1 says of its record: its refusals, 1, 13, 2 and 3, when it is over, and the cells read.
abbrev pub disks_run_refusal : DisksRun → ℕ
disks_run_refusal y = numbers_refusal y.shape.width y.shape.disks y.shape.cell_size y.lost

pub record DisksRead (y : DisksRun) (g : Progress) : Type 0 where
  pub refusal : g.answer.refusal ≡ disks_run_refusal y
  pub over : g.over ≡ (eqb (disks_run_refusal y) 0 && eqb y.next y.stripes)
  pub cells : g.cells ≡ pick (eqb (disks_run_refusal y) 0) (y.next * read_count y.shape.width y.shape.disks y.lost (plan_of y.shape.width y.shape.disks y.lost)) 0

abbrev pub DisksAreRead : Type 0
DisksAreRead = (y : DisksRun) (x : Run) (g : Progress) → x ≡ resumed_disks y → ProgressSays x g → DisksRead y g
