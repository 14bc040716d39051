-- The report on a list in one pass: record by record, its first refusal, the named record as it will
-- be, and the totals. What it finds is what a report answers: `array_states::report_disk` promises it.
use Rattle.std.specs.Prelude.{Bool, List, [], ◌∷◌, ℕ, ◌+◌, ◌≤◌, eqb, leb, ltb, length, take}
use Rattle.std.specs.Int.Count.{ones}
use Rattle.mathematics.specs.Choice.{pick, when, first_of}
use Rattle.array_states.specs.declared.ArrayState.{ArrayState}
use Rattle.array_states.specs.declared.totals.Totals.{Totals}
use Rattle.array_states.specs.declared.board.Board.{Board}
use Rattle.array_states.specs.States.{state_refusal, state_report_refusal, changed}
use Rattle.array_states.specs.Scanning.{no_array, no_totals}

-- what the pass has found in the records before `at`: the first refusal of a record; the refusal of
-- the report on record `which`, and that record after it; the totals
pub record Scan : Type 0 where
  pub at : ℕ
  pub refusal : ℕ
  pub own : ℕ
  pub found : ArrayState
  pub totals : Totals

-- how many of n records are scanned: none of a list that is too long
unfoldable pub scan_length : ℕ → ℕ
scan_length n = pick (ltb 64 n) 0 n

-- the scan of no record
abbrev pub scan_start : Scan
scan_start = record { at = 0; refusal = 0; own = 0; found = no_array; totals = no_totals }

-- the totals with an array more, which has lost n disks
abbrev pub counted_on : Totals → ℕ → Totals
counted_on t n = record { optimal = t.optimal + when (eqb n 0) 1; degraded = t.degraded + when (eqb n 1) 1; critical = t.critical + when (eqb n 2) 1; failed = t.failed + when (leb 3 n) 1 }

-- one array more can be counted: no total wraps
pub record FewCounted (t : Totals) : Type 0 where
  pub optimal : t.optimal ≤ 64
  pub degraded : t.degraded ≤ 64
  pub critical : t.critical ≤ 64
  pub failed : t.failed ≤ 64

-- one record more can be scanned
pub record MayScan (s : Scan) : Type 0 where
  pub at : s.at ≤ 64
  pub totals : FewCounted s.totals

-- the array c after a report that is accepted, and as it was after one that is refused
abbrev pub reported : ArrayState → ℕ → Bool → ArrayState
reported c d back = pick (eqb (state_report_refusal c d back) 0) (changed c d back) c

-- one record more: record `which` is counted as it is after the report
unfoldable pub scan_record : ℕ → ℕ → Bool → Scan → ArrayState → Scan
scan_record which d back s c =
    let own = eqb s.at which in
    let m = pick own (reported c d back) c in
    record {
      at = s.at + 1;
      refusal = first_of s.refusal (state_refusal c);
      own = pick own (state_report_refusal c d back) s.own;
      found = pick own m s.found;
      totals = counted_on s.totals (ones m.lost);
    }

-- the scan of a list, front first
unfoldable pub scan_from : ℕ → ℕ → Bool → Scan → List ArrayState → Scan
scan_from which d back s [] = s
scan_from which d back s (c ∷ cs) = scan_from which d back (scan_record which d back s c) cs

-- the answer after a scan of n records: 20, the first refusal of a record, the report's own
unfoldable pub scan_refusal : Scan → ℕ → ℕ → ℕ
scan_refusal s n which = first_of (when (leb n which) 20) (first_of s.refusal s.own)

unfoldable pub scan_answer : Scan → ℕ → ℕ → Board
unfolding scan_refusal
scan_answer s n which = record { answer = record { refusal = scan_refusal s n which; place = 0 }; totals = pick (eqb (scan_refusal s n which) 0) s.totals no_totals }

-- what the pass answers to a report on record `which` of a list
abbrev pub one_pass : List ArrayState → ℕ → ℕ → Bool → Board
one_pass xs which d back = scan_answer (scan_from which d back scan_start (take (scan_length (length xs)) xs)) (scan_length (length xs)) which
