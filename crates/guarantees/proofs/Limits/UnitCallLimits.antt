-- The tests of the calls on units decide their limits.
use mathlib.Core.List.{List}
use Prim.Native.Nat.{ℕ, ◌+◌, ◌*◌, ◌/◌, ◌%◌, ◌<◌, min}
use native.Mathlib.Nat.{mul-pos}
use native.Mathlib.Omega.{arith}
use lib.Dec.{eqb, ltb, leb}
use lib.ListN.{length}
use borrow.Author.Tests.{eqb-false, ne_eqb, ltb-false, le-ltb, leb-false, lt-leb}
use Rattle.mathematics.proofs.AllLaws.{all_at, all_of_lem}
use Rattle.mathematics.proofs.Flags.{and_l, and_r, and_i}
use Rattle.liberation.specs.Sets.{place}
use Rattle.liberation.specs.Stripes.Stripes.{stripe_long}
use Rattle.liberation.proofs.Widths.{width_least}
use Rattle.rebuild_cells.specs.Theory.Mending.{mendable}
use Rattle.rebuild_cells.proofs.Theory.Marked.{missing_distinct}
use Rattle.rebuild_cells.proofs.Theory.MendLaws.{mendable_determined}
use Rattle.rebuild_cells.proofs.Theory.Exact.{determined_mendable}
use Rattle.unit_sums.specs.Sums.{block_long, is_sealed, fits}
use Rattle.unit_sums.specs.Refusals.{numbers_refusal, lengths_refusal, unit_refusal}
use Rattle.unit_sums.specs.OneBlock.{guard_refusal}
use Rattle.unit_sums.specs.OnePiece.{fits_at, is_piece_proved, fit_refusal}
use Rattle.unit_opening.specs.Opening.{missing_marks, missing_pieces}
use Rattle.unit_opening.specs.Refusals.{open_refusal}
use Rattle.unit_opening.proofs.OpenLaws.{pieces_below}
use Rattle.unit_film.specs.Says.{cell_count, fit_around, is_film_proved, film_bytes_refusal}
use Rattle.guarantees.specs.Limits.Limits.{Decides}
use Rattle.guarantees.specs.Limits.UnitCalls.{unit_numbers, unit_lengths, seal_unit, open_unit, film_bytes, block_fits, piece_fits}
use Rattle.guarantees.proofs.Limits.LimitLaws.{test, test_not, test_or, then_zero}
use Rattle.guarantees.proofs.Limits.SharedLimits.{array_decides, shape_decides, disk_decides, length_decides}

numbers_decide : (p k s n : ℕ) → Decides (unit_numbers p k s n) (numbers_refusal p k s n) 0
numbers_decide p k s n =
    then_zero (shape_decides p k s)
    (λ w. test_or (eqb n 0) (ltb 32768 (n * s)) 24 (λ e. omega (arith, eqb-false n 0 e)) (λ h. ne_eqb n 0 (λ e. omega arith)) (ltb-false 32768 (n * s)) (le-ltb 32768 (n * s)))

lengths_decide : (p k q : ℕ) (name b t : List ℕ) → Decides (unit_lengths p k q name b t) (lengths_refusal p k q (length name) (length b) (length t)) 0
lengths_decide p k q name b t =
    then_zero (length_decides (length name) 16) (λ w. then_zero (length_decides (length b) (block_long p k)) (λ v. length_decides (length t) q))

pub seal_decides : (p k s n : ℕ) (name b t : List ℕ) → Decides (seal_unit p k s n name b t) (unit_refusal p k s n (length name) (length b) (length t)) 0
seal_decides p k s n name b t = then_zero (numbers_decide p k s n) (λ w. lengths_decide p k (stripe_long p k (n * s)) name b t)

pub open_decides : (p k s n : ℕ) (name : List ℕ) (v : ℕ) (b ms t : List ℕ) → Decides (open_unit p k s n name v b ms t) (open_refusal p k s n name v b ms t) 0
open_decides p k s n name v b ms t =
    then_zero (then_zero (seal_decides p k s n name b t) (λ w. length_decides (length ms) (p * (k + 2))))
    (λ w.
    let some : 0 < p = omega (arith, width_least p w.0) in
    let bytes : 0 < n * s = mul-pos w.1.1.1.0.0 w.1.1.0.0 in
    let pieces = missing_pieces p k (n * s) name v b ms t in
    let below = pieces_below p k (n * s) name v b ms t in
    then_zero (test_not (is_sealed p k name v b) 23 (λ e. e) (λ e. e))
    (λ u. test_not (mendable p k pieces) 22 (mendable_determined p k (n * s) some pieces below) (determined_mendable p k (n * s) some bytes pieces below (missing_distinct (missing_marks p k (n * s) name v b ms t)))))

pub film_decides : (p k s n : ℕ) (name : List ℕ) (v : ℕ) (b t : List ℕ) (i : ℕ) (o : List ℕ) → Decides (film_bytes p k s n name v b t i o) (film_bytes_refusal p k s n name v b t i (length o)) 0
film_decides p k s n name v b t i o =
    let e = k * (p * (n * s)) in
    let c = min (cell_count s i (length o)) (k * p) in
    let sealed = is_sealed p k name v b in
    let around = fit_around p k (n * s) name v b t c (i / s) in
    then_zero
    (then_zero (seal_decides p k s n name b t) (λ w. test (ltb e (i + length o)) 4 (ltb-false e (i + length o)) (le-ltb e (i + length o))))
    (λ w. test_not (is_film_proved p k s n name v b t i (length o)) 23
    (λ h. (and_l sealed around h, all_at c (λ d. fits p (n * s) name v b t ((i / s + d) % (k * p))) (and_r sealed around h)))
    (λ q. and_i sealed around q.0 (all_of_lem c (λ d. fits p (n * s) name v b t ((i / s + d) % (k * p))) q.1)))

pub guard_decides : (p k : ℕ) (name : List ℕ) (v : ℕ) (b : List ℕ) → Decides (block_fits p k name v b) (guard_refusal p k name v b) 0
guard_decides p k name v b =
    then_zero (then_zero (array_decides p k) (λ w. then_zero (length_decides (length name) 16) (λ u. length_decides (length b) (block_long p k))))
    (λ w. test_not (is_sealed p k name v b) 23 (λ e. e) (λ e. e))

pub fit_decides : (p k s n : ℕ) (name : List ℕ) (v : ℕ) (b : List ℕ) (c i : ℕ) (x : List ℕ) → Decides (piece_fits p k s n name v b c i x) (fit_refusal p k s n name v b c i x) 0
fit_decides p k s n name v b c i x =
    let sealed = is_sealed p k name v b in
    let fit = fits_at p name v b (place p i c) x in
    then_zero
    (then_zero (numbers_decide p k s n)
    (λ w. then_zero (disk_decides k c) (λ u. then_zero (lengths_decide p k (n * s) name b x) (λ z. test (leb p i) 14 (leb-false p i) (lt-leb p i)))))
    (λ w. test_not (is_piece_proved p k name v b c i x) 23 (λ h. (and_l sealed fit h, and_r sealed fit h)) (λ q. and_i sealed fit q.0 q.1))
