-- The limits of every call in plain words, in the order of the papers (document 01, "Reasons to
-- turn a call away", read with what document 02 adds): each line is a number and what must hold, or
-- else the call is refused by it.
-- "Checks go upward by number"; 13 is "tested right after 1", 18 "after 2" and before 5, 3 and 4,
-- 15 and 22 "after 5", 14 "just before 11", 16 and 17 after 14, 19 "last", 20 "first of all", 21
-- "last". No definition of a refusal is used here, so none can move a limit.
use Rattle.std.specs.Prelude.{◌≡◌, Bool, true, false, ◌⊎◌, List, [], ◌∷◌, ℕ, zero, suc, ◌+◌, ◌*◌, ◌^◌, ◌≤◌, ◌<◌, length, get_or}
use Rattle.mathematics.specs.Lists.{is_in}
use Rattle.mathematics.specs.Sums.{total}
use Rattle.liberation.specs.Sets.{place, set_of}
use Rattle.liberation.specs.Plans.{Step}
use Rattle.liberation.specs.Judging.{steps_in}
use Rattle.liberation.specs.Scrub.Explained.{Explains}
use Rattle.rebuild_cells.specs.Theory.Mending.{missing_cells, Determined}
use Rattle.plan_texts.specs.Form.Form.{PlanText}
use Rattle.plan_texts.specs.Form.Reading.{steps_read}
use Rattle.printed_plan.specs.Input.{input_of, first_value, second_value}
use Rattle.array_states.specs.Lost.{has_bit}
use Rattle.rebuild_runs.specs.declared.Run.{Run}
use Rattle.array_states.specs.declared.ArrayState.{ArrayState}
use Rattle.array_states.specs.Scanning.{no_array}
use Rattle.guarantees.specs.Limits.Limits.{Limits, none, limit, by, ◌then◌}

-- "The width p is one of ten primes"
abbrev pub OneOfTen : ℕ → Type 0
OneOfTen p = is_in p (3 ∷ (5 ∷ (7 ∷ (11 ∷ (13 ∷ (17 ∷ (19 ∷ (23 ∷ (29 ∷ (31 ∷ [])))))))))) ≡ true

-- ---- what calls share
abbrev pub array : ℕ → ℕ → Limits
array p k = by 1 (OneOfTen p) then by 13 ((2 ≤ k) × (k ≤ p))

abbrev pub shape : ℕ → ℕ → ℕ → Limits
shape p k s = array p k then by 2 ((1 ≤ s) × (s ≤ 4096))

abbrev pub disk : ℕ → ℕ → Limits
disk k f = by 3 (f ≤ k + 1)

-- n is the length required
abbrev pub long : ℕ → List ℕ → Limits
long n t = by 5 (length t ≡ n)

abbrev pub stripe : ℕ → ℕ → ℕ → List ℕ → Limits
stripe p k s t = long ((k + 2) * (p * s)) t

-- ---- plans
-- `plan_disk`
abbrev pub plan : ℕ → ℕ → ℕ → Limits
plan p k f = array p k then disk k f

-- `read_list`: o is the list
abbrev pub read_list : ℕ → ℕ → ℕ → List ℕ → Limits
read_list p k f o = plan p k f then long (p * (k + 2)) o

-- step i of a plan; done are the rows that earlier steps rebuild
abbrev pub step : ℕ → ℕ → ℕ → ℕ → List ℕ → Step → Limits
step i p k f done s =
    limit 6 i ((s.row < p) × (s.number < p) × (s.kind ≤ 1))
    (limit 7 i (is_in (place p s.row f) (set_of p k s.kind s.number) ≡ true)
    (limit 8 i (is_in s.row done ≡ false)
    (limit 9 i ((x : ℕ) → x < p → is_in (place p x f) (set_of p k s.kind s.number) ≡ true → (x ≡ s.row) ⊎ (is_in x done ≡ true)) none)))

-- the steps from step i on
abbrev pub steps : ℕ → ℕ → ℕ → ℕ → List ℕ → List Step → Limits
steps i p k f done [] = none
steps i p k f done (s ∷ ss) = step i p k f done s then steps (suc i) p k f (s.row ∷ done) ss

-- `judge_plan`: bs are the bytes of the plan
abbrev pub judge_plan : ℕ → ℕ → ℕ → List ℕ → Limits
judge_plan p k f bs = (plan p k f then long (3 * p) bs) then steps 0 p k f [] (steps_in p bs)

-- `relief_plan`: c is the relieved disk, a data disk other than the lost one
abbrev pub relief_plan : ℕ → ℕ → ℕ → ℕ → Limits
relief_plan p k f c = plan p k f then (by 3 (c < k) then by 4 (c ≡ f → ⊥))

-- `plan_list`: bs are the bytes of the plan, o is the list
abbrev pub plan_list : ℕ → ℕ → ℕ → List ℕ → List ℕ → Limits
plan_list p k f bs o = (plan p k f then (long (3 * p) bs then long (p * (k + 2)) o)) then steps 0 p k f [] (steps_in p bs)

-- "22: text not of this form or not p lines"
abbrev pub text : ℕ → List ℕ → Limits
text p t = by 22 ((ss : List Step) × PlanText t ss × (length ss ≡ p))

-- `judge_text`: t is the text
abbrev pub judge_text : ℕ → ℕ → ℕ → List ℕ → Limits
judge_text p k f t = (plan p k f then text p t) then steps 0 p k f [] (steps_read p t)

-- `write_plan`, `plain_text`: o is the slice to write to
abbrev pub room : ℕ → ℕ → ℕ → List ℕ → Limits
room p k f o = plan p k f then long 263 o

abbrev pub write_plan : ℕ → ℕ → ℕ → List ℕ → List ℕ → Limits
write_plan p k f bs o = (room p k f o then long (3 * p) bs) then steps 0 p k f [] (steps_in p bs)

abbrev pub plain_text : ℕ → ℕ → ℕ → List ℕ → List ℕ → Limits
plain_text p k f t o = (room p k f o then text p t) then steps 0 p k f [] (steps_read p t)

-- `plan_text`, "but the plan program tests 12 first": t is the input, which has the form if it is
-- that of its two numbers, both below 100
abbrev pub program : List ℕ → Limits
program t = by 12 ((first_value t < 100) × (second_value t < 100) × (t ≡ input_of (first_value t) (second_value t))) then (by 1 (OneOfTen (first_value t)) then disk (first_value t) (second_value t))

-- ---- stripes: t is the stripe
-- `encode_stripe`, `check_stripe`, `scrub_stripe`
abbrev pub on_stripe : ℕ → ℕ → ℕ → List ℕ → Limits
on_stripe p k s t = shape p k s then stripe p k s t

-- `rebuild_one`: o is the column
abbrev pub rebuild_one : ℕ → ℕ → ℕ → ℕ → List ℕ → List ℕ → Limits
rebuild_one p k s f t o = (shape p k s then disk k f) then (stripe p k s t then long (p * s) o)

-- `rebuild_by_plan`: bs are the bytes of the plan
abbrev pub rebuild_by_plan : ℕ → ℕ → ℕ → ℕ → List ℕ → List ℕ → List ℕ → Limits
rebuild_by_plan p k s f bs t o =
    ((shape p k s then disk k f) then (long (3 * p) bs then (stripe p k s t then long (p * s) o))) then steps 0 p k f [] (steps_in p bs)

-- `rebuild_tested`: some clean stripe agrees with all surviving cells
abbrev pub rebuild_tested : ℕ → ℕ → ℕ → ℕ → List ℕ → List ℕ → Limits
rebuild_tested p k s f t o = rebuild_one p k s f t o then by 19 ((u : List ℕ) × Explains p k s f t u)

-- `rebuild_two`
abbrev pub rebuild_two : ℕ → ℕ → ℕ → ℕ → ℕ → List ℕ → Limits
rebuild_two p k s a b t = (shape p k s then disk k a) then (disk k b then (by 4 (a ≡ b → ⊥) then stripe p k s t))

-- `update_cell`: r is the row, c the data disk, new the cell; "P and Q as the disk give refusal 3"
abbrev pub update_cell : ℕ → ℕ → ℕ → ℕ → ℕ → List ℕ → List ℕ → Limits
update_cell p k s r c t new = shape p k s then (by 3 (c < k) then (stripe p k s t then (long s new then by 15 (r < p))))

-- `rebuild_cells`: ms marks the missing cells; 23 where the others do not determine them
abbrev pub marked_stripe : ℕ → ℕ → ℕ → List ℕ → List ℕ → Limits
marked_stripe p k s ms t = shape p k s then (long (p * (k + 2)) ms then stripe p k s t)

abbrev pub rebuild_cells : ℕ → ℕ → ℕ → List ℕ → List ℕ → Limits
rebuild_cells p k s ms t = marked_stripe p k s ms t then by 23 (Determined p k s (missing_cells ms))

-- ---- servers: ts are the stripes, ls the losses
abbrev pub stripes : ℕ → ℕ → ℕ → ℕ → List ℕ → Limits
stripes p k s m ts = long (suc m * ((k + 2) * (p * s))) ts

-- `write_server`
abbrev pub write_server : ℕ → ℕ → ℕ → ℕ → List ℕ → Limits
write_server p k s m ts = shape p k s then (by 18 ((2 ≤ m) × (m ≤ 16)) then stripes p k s m ts)

-- a loss: "255 for none"
abbrev pub Loss : ℕ → ℕ → Type 0
Loss k d = (d ≡ 255) ⊎ (d ≤ k + 1)

-- the losses a and b of server i where server j is lost: "the lost server's own pair is not read"
abbrev pub losses : ℕ → ℕ → ℕ → ℕ → ℕ → Limits
losses i j k a b =
    by 3 ((i ≡ j → ⊥) → Loss k a) then (by 3 ((i ≡ j → ⊥) → Loss k b) then by 4 ((i ≡ j → ⊥) → (a ≡ 255 → ⊥) → a ≡ b → ⊥))

-- "then 3 and 4 server by server", for the first n servers
abbrev pub all_losses : ℕ → ℕ → ℕ → List ℕ → Limits
all_losses zero k j ls = none
all_losses (suc n) k j ls = all_losses n k j ls then losses n j k (get_or ls (2 * n) 0) (get_or ls (2 * n + 1) 0)

-- `rebuild_server`: "5 comes next, then 3 and 4"
abbrev pub rebuild_server : ℕ → ℕ → ℕ → ℕ → ℕ → List ℕ → List ℕ → Limits
rebuild_server p k s m j ts ls =
    (shape p k s then ((by 18 ((2 ≤ m) × (m ≤ 16)) then by 18 (j ≤ m)) then stripes p k s m ts)) then (long (2 * suc m) ls then all_losses (suc m) k j ls)

-- ---- runs
-- `open_run`
abbrev pub open_run : ℕ → ℕ → ℕ → ℕ → Limits
open_run p k s f = shape p k s then disk k f

-- the numbers of a record, and "A record whose skipped is above next gives refusal 10 in any call"
abbrev pub record_numbers : Run → Limits
record_numbers x = open_run x.shape.width x.shape.disks x.shape.cell_size x.lost

abbrev pub skipped : Run → Limits
skipped x = by 10 (x.skipped ≤ x.next)

-- "10: next is N or more, or the stripe number isn't next"
abbrev pub next : Run → ℕ → Limits
next x i = by 10 ((x.next < x.stripes) × (i ≡ x.next))

-- `run_progress`
abbrev pub read_run : Run → Limits
read_run x = record_numbers x then skipped x

-- `skip_stripe`
abbrev pub skip_stripe : Run → ℕ → Limits
skip_stripe x i = read_run x then next x i

-- `step_run`: t is the stripe, o the column
abbrev pub step_run : Run → ℕ → List ℕ → List ℕ → Limits
step_run x i t o = rebuild_one x.shape.width x.shape.disks x.shape.cell_size x.lost t o then (skipped x then next x i)

-- ---- bills and space
-- "16: a rate over 1,000; 17: more than 2^54 bytes"
abbrev pub rates : ℕ → ℕ → ℕ → Limits
rates a b c = by 16 ((a ≤ 1000) × (b ≤ 1000) × (c ≤ 1000))

-- `bill_bytes`: n are the bytes
abbrev pub bill_bytes : ℕ → ℕ → ℕ → ℕ → Limits
bill_bytes n a b c = rates a b c then by 17 (n ≤ 2 ^ 54)

-- `bill_run`: 17 never comes
abbrev pub bill_run : Run → ℕ → ℕ → ℕ → Limits
bill_run x a b c = read_run x then rates a b c

-- `package_space`: ls are the lengths of the files
abbrev pub package_space : ℕ → ℕ → ℕ → List ℕ → Limits
package_space p k s ls = shape p k s then (by 14 (length ls ≤ 4096) then by 11 (total ls ≤ 2 ^ 48))

-- ---- states of arrays
-- "A record whose p or k is out of limits, or that holds a lost disk over k + 1"
abbrev pub state : ArrayState → Limits
state c = array c.width c.disks then by 3 ((d : ℕ) → has_bit c.lost d ≡ true → d ≤ c.disks + 1)

-- "the earliest such record deciding"
abbrev pub states : List ArrayState → Limits
states [] = none
states (c ∷ cs) = state c then states cs

-- "21: a loss of a lost disk or a return of a present one"
abbrev pub report : ArrayState → ℕ → Bool → Limits
report c d back = disk c.disks d then by 21 (has_bit c.lost d ≡ back)

-- `report_state`
abbrev pub report_state : ArrayState → ℕ → Bool → Limits
report_state c d back = state c then report c d back

-- `cuzhaveli_report_disk`: "20: cabinet number, from 0, beyond the list or list over 64"
abbrev pub report_disk : List ArrayState → ℕ → ℕ → Bool → Limits
report_disk xs i d back = by 20 ((i < length xs) × (length xs ≤ 64)) then (states xs then report (get_or xs i no_array) d back)
