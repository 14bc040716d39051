-- Refusals 1, 13, 2, 3 and 5: which test gives them, and what holds where there is none.
use mathlib.Core.Path.{◌≡◌, sym, ap, ap₂, ◌∙◌}
use mathlib.Core.Bool.{Bool, true, false, ◌||◌, not}
use mathlib.Core.Logic.{⊎_elim}
use mathlib.Core.List.{List}
use Prim.Native.Nat.{ℕ, ◌+◌, ◌*◌, ◌≤◌, ◌<◌}
use native.Mathlib.Nat.{mul-le-mul}
use native.Mathlib.Omega.{arith}
use lib.Dec.{eqb, ltb}
use lib.ListN.{length}
use borrow.Author.Tests.{eq-eqb, ne_eqb, lt-ltb, le-ltb, eqb-true, eqb-false, ltb-false, not-false}
use Rattle.mathematics.specs.Choice.{first_of, when}
use Rattle.mathematics.proofs.Flags.{or_r, or_false_l, or_false_r, flag}
use Rattle.mathematics.proofs.ChoiceLaws.{first_none, first_assoc, when_none}
use Rattle.liberation.specs.Sets.{is_width, width_refusal, disks_refusal, size_refusal, disk_refusal, array_refusal, plan_refusal, shape_refusal, numbers_refusal, long_refusal}
use Rattle.liberation.specs.Limits.{InArray}
use Rattle.liberation.proofs.Widths.{width_least, width_most}

pub width_refused : (p : ℕ) → is_width p ≡ false → width_refusal p ≡ 1
width_refused p e = ap (λ (b : Bool). when (not b) 1) e

pub width_accepted : (p : ℕ) → is_width p ≡ true → width_refusal p ≡ 0
width_accepted p e = ap (λ (b : Bool). when (not b) 1) e

-- no refusal: one of the ten
pub width_of : (p : ℕ) → width_refusal p ≡ 0 → is_width p ≡ true
width_of p e = not-false (is_width p) (when_none (not (is_width p)) 0 e)

-- fewer data disks than 2, more than the width, or neither
pub disks_few : (p k : ℕ) → k < 2 → disks_refusal p k ≡ 13
disks_few p k h = ap (λ (b : Bool). when (b || ltb p k) 13) (lt-ltb k 2 h)

pub disks_many : (p k : ℕ) → p < k → disks_refusal p k ≡ 13
disks_many p k h = ap (λ (b : Bool). when b 13) (or_r (ltb k 2) (ltb p k) (lt-ltb p k h))

pub disks_accepted : (p k : ℕ) → 2 ≤ k → k ≤ p → disks_refusal p k ≡ 0
disks_accepted p k n h = ap₂ (λ (a b : Bool). when (a || b) 13) (le-ltb k 2 n) (le-ltb p k h)

pub size_none : (s : ℕ) → s ≡ 0 → size_refusal s ≡ 2
size_none s e = simp (eq-eqb s 0 e)

pub size_over : (s : ℕ) → 4096 < s → size_refusal s ≡ 2
size_over s h = ap₂ (λ (a b : Bool). when (a || b) 2) (ne_eqb s 0 (λ e. omega arith)) (lt-ltb 4096 s h)

pub size_accepted : (s : ℕ) → 0 < s → s ≤ 4096 → size_refusal s ≡ 0
size_accepted s n h = ap₂ (λ (a b : Bool). when (a || b) 2) (ne_eqb s 0 (λ e. omega arith)) (le-ltb 4096 s h)

-- no refusal: from 1 to 4,096
pub size_of : (s : ℕ) → size_refusal s ≡ 0 → (0 < s) × (s ≤ 4096)
size_of s e =
    let t : (eqb s 0 || ltb 4096 s) ≡ false = when_none (eqb s 0 || ltb 4096 s) 1 e in
    (omega (arith, eqb-false s 0 (or_false_l (eqb s 0) (ltb 4096 s) t)), ltb-false 4096 s (or_false_r (eqb s 0) (ltb 4096 s) t))

pub disk_refused : (k f : ℕ) → k + 1 < f → disk_refusal k f ≡ 3
disk_refused k f h = ap (λ (b : Bool). when b 3) (lt-ltb (k + 1) f h)

pub disk_accepted : (k f : ℕ) → f ≤ k + 1 → disk_refusal k f ≡ 0
disk_accepted k f h = ap (λ (b : Bool). when b 3) (le-ltb (k + 1) f h)

-- no refusal: one of the disks
disk_of : (k f : ℕ) → disk_refusal k f ≡ 0 → f ≤ k + 1
disk_of k f e = ltb-false (k + 1) f (when_none (ltb (k + 1) f) 2 e)

-- no refusal: from 2 to the width
disks_of : (p k : ℕ) → disks_refusal p k ≡ 0 → (2 ≤ k) × (k ≤ p)
disks_of p k e =
    let t : (ltb k 2 || ltb p k) ≡ false = when_none (ltb k 2 || ltb p k) 12 e in
    (ltb-false k 2 (or_false_l (ltb k 2) (ltb p k) t), ltb-false p k (or_false_r (ltb k 2) (ltb p k) t))

-- neither of refusals 1 and 13, and back
pub array_of : (p k : ℕ) → array_refusal p k ≡ 0 → InArray p k
array_of p k e =
    let n = first_none (width_refusal p) (disks_refusal p k) e in
    let w = width_of p n.0 in
    let d = disks_of p k n.1 in
    record { width = w; some = omega (arith, width_least p w); widest = width_most p w; two = d.0; disks = d.1 }

pub array_none : (p k : ℕ) → is_width p ≡ true → 2 ≤ k → k ≤ p → array_refusal p k ≡ 0
array_none p k w n h = ap₂ first_of (width_accepted p w) (disks_accepted p k n h)

-- as many data disks as the width are in the limits
pub array_full : (p : ℕ) → is_width p ≡ true → array_refusal p p ≡ 0
array_full p w = array_none p p w (omega (arith, width_least p w)) (omega arith)

pub array_same : (p : ℕ) → array_refusal p p ≡ width_refusal p
array_same p = ⊎_elim (λ w. array_full p w ∙ sym (width_accepted p w)) (λ w. ap (λ (n : ℕ). first_of n (disks_refusal p p)) (width_refused p w) ∙ sym (width_refused p w)) (flag (is_width p))

-- none of refusals 1, 13 and 3, and back
pub plan_of_lem : (p k f : ℕ) → plan_refusal p k f ≡ 0 → InArray p k × (f ≤ k + 1)
plan_of_lem p k f e = let w = first_none (array_refusal p k) (disk_refusal k f) e in (array_of p k w.0, disk_of k f w.1)

pub plan_none : (p k f : ℕ) → InArray p k → f ≤ k + 1 → plan_refusal p k f ≡ 0
plan_none p k f a h = ap₂ first_of (array_none p k a.width a.two a.disks) (disk_accepted k f h)

-- none of refusals 1, 13 and 2
pub shape_of : (p k s : ℕ) → shape_refusal p k s ≡ 0 → InArray p k × (0 < s) × (s ≤ 4096)
shape_of p k s e =
    let w = first_none (array_refusal p k) (size_refusal s) e in
    let z = size_of s w.1 in
    (array_of p k w.0, z.0, z.1)

-- a stripe of such a shape has few enough bytes to count
pub shape_most : (p k s : ℕ) → shape_refusal p k s ≡ 0 → (p ≤ 31) × (k ≤ p) × (p * s ≤ 126976) × ((k + 2) * (p * s) ≤ 4190208)
shape_most p k s e =
    let q = shape_of p k s e in
    let a = q.0 in
    let m : p * s ≤ 31 * 4096 = mul-le-mul a.widest q.2 in
    let n : k + 2 ≤ 33 = omega (arith, a.disks, a.widest) in
    (a.widest, a.disks, omega arith, omega (arith, mul-le-mul n m))

-- none of refusals 1, 13, 2 and 3: the cell size is from 1 to 4,096, and the disk is one of the
-- array's
pub numbers_of_lem : (p k s f : ℕ) → numbers_refusal p k s f ≡ 0 → InArray p k × (0 < s) × (s ≤ 4096) × (f ≤ k + 1)
numbers_of_lem p k s f e =
    let w = first_none (shape_refusal p k s) (disk_refusal k f) e in
    let v = shape_of p k s w.0 in
    (v.0, v.1, v.2, disk_of k f w.1)

-- with as many data disks as the width, document 01's refusals: 1, 2 and 3
pub numbers_full : (p s f : ℕ) → numbers_refusal p p s f ≡ first_of (width_refusal p) (first_of (size_refusal s) (disk_refusal p f))
numbers_full p s f = ap (λ (n : ℕ). first_of (first_of n (size_refusal s)) (disk_refusal p f)) (array_same p) ∙ first_assoc (width_refusal p) (size_refusal s) (disk_refusal p f)

-- a disk's bytes can be worked on only where its plan can be made
pub numbers_plan : (p k s f : ℕ) → numbers_refusal p k s f ≡ 0 → plan_refusal p k f ≡ 0
numbers_plan p k s f e = let q = numbers_of_lem p k s f e in plan_none p k f q.0 q.3

-- a slice of another length, and of this length
pub long_refused : (n : ℕ) (t : List ℕ) → (length t ≡ n → ⊥) → long_refusal n t ≡ 5
long_refused n t h = ap (λ (b : Bool). when (not b) 5) (ne_eqb (length t) n h)

pub long_accepted : (n : ℕ) (t : List ℕ) → length t ≡ n → long_refusal n t ≡ 0
long_accepted n t h = ap (λ (b : Bool). when (not b) 5) (eq-eqb (length t) n h)

pub long_of : (n : ℕ) (t : List ℕ) → long_refusal n t ≡ 0 → length t ≡ n
long_of n t e = eqb-true (length t) n (not-false (eqb (length t) n) (when_none (not (eqb (length t) n)) 4 e))
