-- The report on a list in one pass, over plain lists and records: what it finds is what a report
-- answers.
use mathlib.Core.Path.{◌≡◌, refl, sym, ap, ap₂, ◌∙◌, subst}
use mathlib.Core.Bool.{Bool, true, false, ◌||◌, or-true}
use mathlib.Core.List.{List, [], ◌∷◌}
use mathlib.Core.Logic.{⊎_elim}
use Prim.Native.Nat.{ℕ, zero, suc, ◌+◌, ◌<◌, ◌≤◌}
use native.Mathlib.Nat.{not-suc-le-zero, le_of_suc-le-suc}
use native.Mathlib.Omega.{arith}
use lib.Count.{ones}
use lib.Dec.{eqb, ltb, leb}
use lib.ListN.{length, get_or, set, take, length-take}
use lib.Seq.{take_all}
use borrow.Author.Tests.{eqb-true, eqb-false, ltb-false, leb-false, le-leb, lt-leb, le-ltb, eq-eqb, ne_eqb}
use Rattle.mathematics.specs.Choice.{pick, when, first_of}
use Rattle.mathematics.proofs.OrderLaws.{lt_or_le}
use Rattle.mathematics.proofs.ChoiceLaws.{first_none, first_zero, first_assoc, when_none, pick_refused, pick_done}
use Rattle.array_states.specs.declared.ArrayState.{ArrayState}
use Rattle.array_states.specs.declared.totals.Totals.{Totals}
use Rattle.array_states.specs.States.{state_refusal, disk_report_refusal, state_report_refusal, changed}
use Rattle.array_states.specs.Scanning.{no_array, no_totals}
use Rattle.array_states.specs.declared.board.Board.{Board}
use Rattle.refusals.specs.declared.answer.Answer.{Answer}
use Rattle.array_states.specs.OnePass.{Scan, scan_length, scan_start, counted_on, MayScan, reported, scan_record, scan_from, scan_refusal, scan_answer, one_pass}
use Rattle.array_states.proofs.CountLaws.{totals_are}
use Rattle.array_states.specs.Reports.{list_refusal, number_refusal, report_refusal, list_after, how_many, totals_of, ReportSays}

-- ---- how many records are scanned
pub scan_most : (m : ℕ) → scan_length m ≤ m
unfolding scan_length
scan_most m = go (ltb 64 m)
  where
    go : (b : Bool) → pick b 0 m ≤ m
    go true = omega arith
    go false = omega arith

scan_few : (m : ℕ) → scan_length m ≤ 64
unfolding scan_length
scan_few m = go (ltb 64 m) refl
  where
    go : (b : Bool) → ltb 64 m ≡ b → pick b 0 m ≤ 64
    go true e = omega arith
    go false e = ltb-false 64 m e

-- where some record is scanned, all are
scan_all : (m which : ℕ) → which < scan_length m → (scan_length m ≡ m) × (m ≤ 64)
unfolding scan_length
scan_all m which h = go (ltb 64 m) refl h
  where
    go : (b : Bool) → ltb 64 m ≡ b → which < pick b 0 m → (pick b 0 m ≡ m) × (m ≤ 64)
    go true e z = absurd (not-suc-le-zero z)
    go false e z = (refl, ltb-false 64 m e)

-- ---- the scan of the first i records
abbrev pub up_to : ℕ → ℕ → Bool → List ArrayState → ℕ → Scan
up_to which d back xs i = scan_from which d back scan_start (take i xs)

pub scan_none : (which d : ℕ) (back : Bool) (xs : List ArrayState) → scan_start ≡ up_to which d back xs 0
unfolding scan_from
scan_none which d back xs = refl

scan_suc : (which d : ℕ) (back : Bool) (s : Scan) (xs : List ArrayState) (i : ℕ) → i < length xs
    → scan_record which d back (scan_from which d back s (take i xs)) (get_or xs i no_array) ≡ scan_from which d back s (take (suc i) xs)
unfolding scan_from
scan_suc which d back s [] i h = absurd (not-suc-le-zero h)
scan_suc which d back s (c ∷ cs) zero h = refl
scan_suc which d back s (c ∷ cs) (suc i) h = scan_suc which d back (scan_record which d back s c) cs i (le_of_suc-le-suc h)

pub scan_next : (which d : ℕ) (back : Bool) (xs : List ArrayState) (i : ℕ) → i < length xs → scan_record which d back (up_to which d back xs i) (get_or xs i no_array) ≡ up_to which d back xs (i + 1)
scan_next which d back xs i h =
    let e : suc i ≡ i + 1 = omega arith in
    scan_suc which d back scan_start xs i h ∙ ap (up_to which d back xs) e

-- ---- its numbers are small
scan_at : (which d : ℕ) (back : Bool) (s : Scan) (xs : List ArrayState) → (scan_from which d back s xs).at ≡ s.at + length xs
unfolding scan_from scan_record
scan_at which d back s [] = omega arith
scan_at which d back s (c ∷ cs) = omega (arith, scan_at which d back (scan_record which d back s c) cs)

-- no total of t is above that of u by more than n
record Within (t u : Totals) (n : ℕ) : Type 0 where
  optimal : t.optimal ≤ u.optimal + n
  degraded : t.degraded ≤ u.degraded + n
  critical : t.critical ≤ u.critical + n
  failed : t.failed ≤ u.failed + n

one_most : (b : Bool) → when b 1 ≤ 1
one_most true = omega arith
one_most false = omega arith

scan_within : (which d : ℕ) (back : Bool) (s : Scan) (xs : List ArrayState) → Within (scan_from which d back s xs).totals s.totals (length xs)
unfolding scan_from scan_record
scan_within which d back s [] = record { optimal = omega arith; degraded = omega arith; critical = omega arith; failed = omega arith }
scan_within which d back s (c ∷ cs) =
    let n = ones (pick (eqb s.at which) (reported c d back) c).lost in
    let ih = scan_within which d back (scan_record which d back s c) cs in
    record {
      optimal = omega (arith, ih.optimal, one_most (eqb n 0));
      degraded = omega (arith, ih.degraded, one_most (eqb n 1));
      critical = omega (arith, ih.critical, one_most (eqb n 2));
      failed = omega (arith, ih.failed, one_most (leb 3 n));
    }

pub may_scan : (which d : ℕ) (back : Bool) (xs : List ArrayState) (i : ℕ) → i < scan_length (length xs) → MayScan (up_to which d back xs i)
may_scan which d back xs i h =
    let l : length (take i xs) ≤ 64 = omega (arith, length-take i xs, scan_few (length xs)) in
    let w = scan_within which d back scan_start (take i xs) in
    record {
      at = omega (arith, scan_at which d back scan_start (take i xs));
      totals = record { optimal = omega (arith, w.optimal); degraded = omega (arith, w.degraded); critical = omega (arith, w.critical); failed = omega (arith, w.failed) };
    }

-- ---- what the scan of a list has found
scan_refusal_lem : (which d : ℕ) (back : Bool) (s : Scan) (xs : List ArrayState) → (scan_from which d back s xs).refusal ≡ first_of s.refusal (list_refusal xs)
unfolding scan_from scan_record list_refusal
scan_refusal_lem which d back s [] = sym (first_zero s.refusal)
scan_refusal_lem which d back s (c ∷ cs) = scan_refusal_lem which d back (scan_record which d back s c) cs ∙ first_assoc s.refusal (state_refusal c) (list_refusal cs)

-- totals added
abbrev plus : Totals → Totals → Totals
plus t u = record { optimal = t.optimal + u.optimal; degraded = t.degraded + u.degraded; critical = t.critical + u.critical; failed = t.failed + u.failed }

-- a record is counted before the rest or with it
plus_next : (t : Totals) (c : ArrayState) (cs : List ArrayState) → plus (counted_on t (ones c.lost)) (totals_of cs) ≡ plus t (totals_of (c ∷ cs))
unfolding how_many
plus_next t c cs = totals_are (omega arith) (omega arith) (omega arith) (omega arith)

plus_none : (t : Totals) → t ≡ plus t (totals_of [])
unfolding how_many
plus_none t = totals_are (omega arith) (omega arith) (omega arith) (omega arith)

-- past the named record nothing is found, and each record counts as it is
record Past (z s : Scan) (xs : List ArrayState) : Type 0 where
  own : z.own ≡ s.own
  found : z.found ≡ s.found
  totals : z.totals ≡ plus s.totals (totals_of xs)

scan_past : (which d : ℕ) (back : Bool) (s : Scan) (xs : List ArrayState) → which < s.at → Past (scan_from which d back s xs) s xs
unfolding scan_from scan_record
scan_past which d back s [] h = record { own = refl; found = refl; totals = plus_none s.totals }
scan_past which d back s (c ∷ cs) h =
    let ne : s.at ≡ which → ⊥ = λ e. omega arith in
    let k = ne_eqb s.at which ne in
    let ih = scan_past which d back (scan_record which d back s c) cs (omega arith) in
    record {
      own = ih.own ∙ ap (λ (b : Bool). pick b (state_report_refusal c d back) s.own) k;
      found = ih.found ∙ ap (λ (b : Bool). pick b (pick b (reported c d back) c) s.found) k;
      totals = ih.totals ∙ ap (λ (b : Bool). plus (counted_on s.totals (ones (pick b (reported c d back) c).lost)) (totals_of cs)) k ∙ plus_next s.totals c cs;
    }

-- the named record, j records on: it is found as the report leaves it, and counts so
record Hit (d : ℕ) (back : Bool) (z s : Scan) (xs : List ArrayState) (j : ℕ) : Type 0 where
  own : z.own ≡ state_report_refusal (get_or xs j no_array) d back
  found : z.found ≡ reported (get_or xs j no_array) d back
  totals : z.totals ≡ plus s.totals (totals_of (set xs j (reported (get_or xs j no_array) d back)))

scan_hit : (which d : ℕ) (back : Bool) (s : Scan) (xs : List ArrayState) (j : ℕ) → which ≡ s.at + j → j < length xs → Hit d back (scan_from which d back s xs) s xs j
unfolding scan_from scan_record
scan_hit which d back s [] j e h = absurd (not-suc-le-zero h)
scan_hit which d back s (c ∷ cs) zero e h =
    let k = eq-eqb s.at which (omega arith) in
    let past = scan_past which d back (scan_record which d back s c) cs (omega arith) in
    record {
      own = past.own ∙ ap (λ (b : Bool). pick b (state_report_refusal c d back) s.own) k;
      found = past.found ∙ ap (λ (b : Bool). pick b (pick b (reported c d back) c) s.found) k;
      totals = past.totals ∙ ap (λ (b : Bool). plus (counted_on s.totals (ones (pick b (reported c d back) c).lost)) (totals_of cs)) k ∙ plus_next s.totals (reported c d back) cs;
    }
scan_hit which d back s (c ∷ cs) (suc j) e h =
    let ne : s.at ≡ which → ⊥ = λ d. omega arith in
    let k = ne_eqb s.at which ne in
    let ih = scan_hit which d back (scan_record which d back s c) cs j (omega arith) (le_of_suc-le-suc h) in
    let rest = set cs j (reported (get_or cs j no_array) d back) in
    record {
      own = ih.own;
      found = ih.found;
      totals = ih.totals ∙ ap (λ (b : Bool). plus (counted_on s.totals (ones (pick b (reported c d back) c).lost)) (totals_of rest)) k ∙ plus_next s.totals c rest;
    }

-- the scan of all records of a list that has record `which`
found_all : (which d : ℕ) (back : Bool) (xs : List ArrayState) → which < scan_length (length xs) → Hit d back (up_to which d back xs (scan_length (length xs))) scan_start xs which
found_all which d back xs h =
    let all = scan_all (length xs) which h in
    let whole = take_all (scan_length (length xs)) xs (omega (arith, all.0)) in
    subst (λ (ys : List ArrayState). Hit d back (scan_from which d back scan_start ys) scan_start xs which) (sym whole) (scan_hit which d back scan_start xs which (omega arith) (omega (arith, all.0)))

refusal_all : (which d : ℕ) (back : Bool) (xs : List ArrayState) → which < scan_length (length xs) → (up_to which d back xs (scan_length (length xs))).refusal ≡ list_refusal xs
refusal_all which d back xs h =
    let all = scan_all (length xs) which h in
    scan_refusal_lem which d back scan_start (take (scan_length (length xs)) xs) ∙ ap list_refusal (take_all (scan_length (length xs)) xs (omega (arith, all.0)))

-- ---- the refusal
-- a record's own refusal does not matter after the list's
first_twice : (a b m : ℕ) → first_of (first_of a b) (first_of a m) ≡ first_of (first_of a b) m
first_twice zero b m = refl
first_twice (suc a) b m = refl

first_listed : (xs : List ArrayState) (j m : ℕ) → j < length xs → first_of (list_refusal xs) (first_of (state_refusal (get_or xs j no_array)) m) ≡ first_of (list_refusal xs) m
unfolding list_refusal
first_listed [] j m h = absurd (not-suc-le-zero h)
first_listed (c ∷ cs) zero m h = first_twice (state_refusal c) (list_refusal cs) m
first_listed (c ∷ cs) (suc j) m h =
    let f = state_refusal c in
    first_assoc f (list_refusal cs) (first_of (state_refusal (get_or cs j no_array)) m) ∙ ap (first_of f) (first_listed cs j m (le_of_suc-le-suc h)) ∙ sym (first_assoc f (list_refusal cs) m)

number_none : (n i : ℕ) → i < n → n ≤ 64 → number_refusal n i ≡ 0
number_none n i l m = ap₂ (λ (a b : Bool). when (a || b) 20) (lt-leb n i l) (le-ltb 64 n m)

number_some : (n i : ℕ) → scan_length n ≤ i → number_refusal n i ≡ 20
unfolding scan_length
number_some n i h = go (ltb 64 n) h
  where
    go : (b : Bool) → pick b 0 n ≤ i → ◌≡◌ {A = ℕ} (when (leb n i || b) 20) 20
    go true z = ap (λ (t : Bool). when t 20) (or-true (leb n i))
    go false z = ap (λ (t : Bool). when (t || false) 20) (le-leb n i z)

-- after the scan it is the one that the promise names
whole_refusal : (which d : ℕ) (back : Bool) (xs : List ArrayState) → let n = scan_length (length xs) in scan_refusal (up_to which d back xs n) n which ≡ report_refusal xs which d back
unfolding scan_refusal
whole_refusal which d back xs =
    let n = scan_length (length xs) in
    let s = up_to which d back xs n in
    let c = get_or xs which no_array in
    let after : ℕ → ℕ = λ f. first_of f (first_of (list_refusal xs) (disk_report_refusal c d back)) in
    ⊎_elim
    (λ l. let all = scan_all (length xs) which l in
    ap (λ (b : Bool). first_of (when b 20) (first_of s.refusal s.own)) (lt-leb n which l) ∙ ap₂ first_of (refusal_all which d back xs l) (found_all which d back xs l).own
    ∙ first_listed xs which (disk_report_refusal c d back) (omega (arith, all.0)) ∙ sym (ap after (number_none (length xs) which (omega (arith, all.0)) all.1)))
    (λ g. ap (λ (b : Bool). first_of (when b 20) (first_of s.refusal s.own)) (le-leb n which g) ∙ sym (ap after (number_some (length xs) which g)))
    (lt_or_le which n)

-- ---- the answer
-- an answer with the number 0 is one on a record of the list
pub names_one : (s : Scan) (n which : ℕ) → (scan_answer s n which).answer.refusal ≡ 0 → which < n
unfolding scan_answer scan_refusal
names_one s n which e =
    let z = first_none (when (leb n which) 20) (first_of s.refusal s.own) e in
    leb-false n which (when_none (leb n which) 19 z.0)

-- the report on the named record was accepted then
own_none : (s : Scan) (n which : ℕ) → scan_refusal s n which ≡ 0 → s.own ≡ 0
unfolding scan_refusal
own_none s n which z = (first_none s.refusal s.own (first_none (when (leb n which) 20) (first_of s.refusal s.own) z).1).1

plus_start : (t : Totals) → plus no_totals t ≡ t
plus_start t = totals_are (omega arith) (omega arith) (omega arith) (omega arith)

pub says_done : (which d : ℕ) (back : Bool) (xs : List ArrayState) → let n = scan_length (length xs) in let s = up_to which d back xs n in
    (scan_answer s n which).answer.refusal ≡ 0 → ReportSays xs which d back (set xs which s.found) (scan_answer s n which)
unfolding scan_answer
says_done which d back xs z =
    let n = scan_length (length xs) in
    let s = up_to which d back xs n in
    let c = get_or xs which no_array in
    let hit = found_all which d back xs (names_one s n which z) in
    let same = whole_refusal which d back xs in
    let none : report_refusal xs which d back ≡ 0 = sym same ∙ z in
    let found = hit.found ∙ sym (pick_done (state_report_refusal c d back) (changed c d back) c (sym hit.own ∙ own_none s n which z)) in
    let fresh : ArrayState → Totals = λ m. totals_of (set xs which m) in
    record {
      answer = record { refusal = same; place = refl };
      list = ap (set xs which) found ∙ pick_done (report_refusal xs which d back) (list_after xs which d back) xs none;
      totals = sym (pick_done (scan_refusal s n which) s.totals no_totals z) ∙ hit.totals ∙ plus_start (fresh (reported c d back)) ∙ ap fresh (sym hit.found) ∙ pick_done (report_refusal xs which d back) (fresh s.found) no_totals none;
    }

pub says_refused : (which d : ℕ) (back : Bool) (xs : List ArrayState) → let n = scan_length (length xs) in let s = up_to which d back xs n in
    ((scan_answer s n which).answer.refusal ≡ 0 → ⊥) → ReportSays xs which d back xs (scan_answer s n which)
unfolding scan_answer
says_refused which d back xs some =
    let n = scan_length (length xs) in
    let s = up_to which d back xs n in
    let f = scan_refusal s n which in
    let same = whole_refusal which d back xs in
    record {
      answer = record { refusal = same; place = refl };
      list = pick_refused f (report_refusal xs which d back) (list_after xs which d back) xs same some;
      totals = sym (pick_refused f f s.totals no_totals refl some) ∙ pick_refused f (report_refusal xs which d back) (totals_of xs) no_totals same some;
    }

-- ---- the answer is the pass's
-- a report on a list has one answer
same_answer : (xs : List ArrayState) (which d : ℕ) (back : Bool) (ys zs : List ArrayState) (r q : Board) → ReportSays xs which d back ys r → ReportSays xs which d back zs q → r ≡ q
same_answer xs which d back ys zs r q m n =
    let given : List ArrayState → Totals = λ ls. pick (eqb (report_refusal xs which d back) 0) (totals_of ls) no_totals in
    let totals = m.totals ∙ ap given (m.list ∙ sym n.list) ∙ sym n.totals in
    let refusal = m.answer.refusal ∙ sym n.answer.refusal in
    let place = m.answer.place ∙ sym n.answer.place in
    ap₂ (λ (a : Answer) (t : Totals). record { answer = a; totals = t }) (ap₂ (λ (a b : ℕ). record { refusal = a; place = b }) refusal place) totals

pub is_one_pass : (xs : List ArrayState) (which d : ℕ) (back : Bool) (ys : List ArrayState) (r : Board) → ReportSays xs which d back ys r → r ≡ one_pass xs which d back
is_one_pass xs which d back ys r m = go (eqb (one_pass xs which d back).answer.refusal 0) refl
  where
    go : (b : Bool) → eqb (one_pass xs which d back).answer.refusal 0 ≡ b → r ≡ one_pass xs which d back
    go true e = same_answer xs which d back ys _ r (one_pass xs which d back) m (says_done which d back xs (eqb-true _ 0 e))
    go false e = same_answer xs which d back ys xs r (one_pass xs which d back) m (says_refused which d back xs (eqb-false _ 0 e))
