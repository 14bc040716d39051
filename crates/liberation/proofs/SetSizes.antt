-- A set of either kind: how many cells it has, and each of them, as the two functions test for
-- them.
use mathlib.Core.Path.{◌≡◌, sym, ap, ◌∙◌}
use mathlib.Core.Bool.{Bool, true, false, ◌&&◌}
use mathlib.Core.Logic.{⊎_elim}
use Prim.Native.Nat.{ℕ, suc, ◌+◌, ◌*◌, ◌%◌, ◌≤◌, ◌<◌}
use native.Mathlib.Nat.{mul-le-mul}
use native.Mathlib.Omega.{arith}
use lib.Dec.{eqb, ltb}
use lib.ListN.{length, get_or}
use borrow.Author.Tests.{eq-eqb, ne_eqb, lt-ltb, le-ltb, le-leb, lt-leb}
use Rattle.mathematics.specs.Choice.{pick}
use Rattle.mathematics.proofs.Flags.{and_i, flag}
use Rattle.liberation.specs.Sets.{place, row_set, diagonal_set, set_of, extra_disk, extra_row, has_extra}
use Rattle.liberation.proofs.CellLaws.{length_row, row_at, length_with, length_without, diagonal_at, parity_at, extra_at}

-- which of the two lists a set is
row_kind : (p k kind i : ℕ) → kind ≡ 0 → set_of p k kind i ≡ row_set p k i
row_kind p k kind i e = ap (λ (b : Bool). pick b (row_set p k i) (diagonal_set p k i)) (eq-eqb kind 0 e)

diagonal_kind : (p k kind i : ℕ) → (kind ≡ 0 → ⊥) → set_of p k kind i ≡ diagonal_set p k i
diagonal_kind p k kind i n = ap (λ (b : Bool). pick b (row_set p k i) (diagonal_set p k i)) (ne_eqb kind 0 n)

pub size_row : (p k kind i : ℕ) → kind ≡ 0 → k + 1 ≡ length (set_of p k kind i)
size_row p k kind i e = omega (arith, ap length (row_kind p k kind i e), length_row p k i)

has_none : (p k i : ℕ) → i ≡ 0 → has_extra p k i ≡ false
has_none p k i e = ap (λ (b : Bool). b && ltb (extra_disk p i) k) (lt-leb 1 i (omega arith))

has_absent : (p k i : ℕ) → (i ≡ 0 → ⊥) → k ≤ extra_disk p i → has_extra p k i ≡ false
has_absent p k i n h = ap (λ (b : Bool). b && ltb (extra_disk p i) k) (le-leb 1 i (omega arith)) ∙ le-ltb (extra_disk p i) k h

has_one : (p k i : ℕ) → (i ≡ 0 → ⊥) → extra_disk p i < k → has_extra p k i ≡ true
has_one p k i n h = and_i _ _ (le-leb 1 i (omega arith)) (lt-ltb (extra_disk p i) k h)

pub size_first_diagonal : (p k kind i : ℕ) → (kind ≡ 0 → ⊥) → i ≡ 0 → k + 1 ≡ length (set_of p k kind i)
size_first_diagonal p k kind i n e = omega (arith, ap length (diagonal_kind p k kind i n), length_without p k i (has_none p k i e))

pub size_absent : (p k kind i : ℕ) → (kind ≡ 0 → ⊥) → (i ≡ 0 → ⊥) → k ≤ extra_disk p i → k + 1 ≡ length (set_of p k kind i)
size_absent p k kind i n m h = omega (arith, ap length (diagonal_kind p k kind i n), length_without p k i (has_absent p k i m h))

pub size_extra : (p k kind i : ℕ) → (kind ≡ 0 → ⊥) → (i ≡ 0 → ⊥) → extra_disk p i < k → k + 2 ≡ length (set_of p k kind i)
size_extra p k kind i n m h = omega (arith, ap length (diagonal_kind p k kind i n), length_with p k i (has_one p k i m h))

pub size_most : (p k kind i : ℕ) → length (set_of p k kind i) ≤ k + 2
size_most p k kind i = ⊎_elim (λ e. row e) (λ e. ⊎_elim (λ h. with e h) (λ h. without e h) (flag (has_extra p k i))) (flag (eqb kind 0))
  where
    row : eqb kind 0 ≡ true → length (set_of p k kind i) ≤ k + 2
    row e = omega (arith, ap (λ (b : Bool). length (pick b (row_set p k i) (diagonal_set p k i))) e, length_row p k i)

    with : eqb kind 0 ≡ false → has_extra p k i ≡ true → length (set_of p k kind i) ≤ k + 2
    with e h = omega (arith, ap (λ (b : Bool). length (pick b (row_set p k i) (diagonal_set p k i))) e, length_with p k i h)

    without : eqb kind 0 ≡ false → has_extra p k i ≡ false → length (set_of p k kind i) ≤ k + 2
    without e h = omega (arith, ap (λ (b : Bool). length (pick b (row_set p k i) (diagonal_set p k i))) e, length_without p k i h)

-- the cells
pub cell_row : (p k kind i at : ℕ) → kind ≡ 0 → at < length (set_of p k kind i) → place p i at ≡ get_or (set_of p k kind i) at 0
cell_row p k kind i at e h =
    let l : at ≤ k = omega (arith, ap length (row_kind p k kind i e), length_row p k i) in
    sym (ap (λ l. get_or l at 0) (row_kind p k kind i e) ∙ row_at p k i at l)

pub cell_data : (p k kind i at : ℕ) → (kind ≡ 0 → ⊥) → at < k → place p ((i + at) % p) at ≡ get_or (set_of p k kind i) at 0
cell_data p k kind i at n h = sym (ap (λ l. get_or l at 0) (diagonal_kind p k kind i n) ∙ diagonal_at p k i at h)

pub cell_parity : (p k kind i at : ℕ) → (kind ≡ 0 → ⊥) → at ≡ k → place p i (k + 1) ≡ get_or (set_of p k kind i) at 0
cell_parity p k kind i at n e =
    let s : suc k ≡ k + 1 = omega arith in
    sym (ap (λ l. get_or l at 0) (diagonal_kind p k kind i n) ∙ ap (λ (j : ℕ). get_or (diagonal_set p k i) j 0) e ∙ parity_at p k i ∙ ap (place p i) s)

pub cell_extra : (p k kind i at : ℕ) → (kind ≡ 0 → ⊥) → k ≤ at → (at ≡ k → ⊥) → at < length (set_of p k kind i) → place p (extra_row p i) (extra_disk p i) ≡ get_or (set_of p k kind i) at 0
cell_extra p k kind i at n h m l = ⊎_elim (λ e. there e) (λ e. absurd (missing e)) (flag (has_extra p k i))
  where
    long : length (set_of p k kind i) ≡ length (diagonal_set p k i)
    long = ap length (diagonal_kind p k kind i n)

    missing : has_extra p k i ≡ false → ⊥
    missing e = omega (arith, long, length_without p k i e)

    there : has_extra p k i ≡ true → place p (extra_row p i) (extra_disk p i) ≡ get_or (set_of p k kind i) at 0
    there e =
        let q : at ≡ suc k = omega (arith, long, length_with p k i e) in
        sym (ap (λ l. get_or l at 0) (diagonal_kind p k kind i n) ∙ ap (λ (j : ℕ). get_or (diagonal_set p k i) j 0) q ∙ extra_at p k i e)

-- a place in the widest array is small
pub place_small : (p i c : ℕ) → p ≤ 31 → i < p → c ≤ 32 → c * p + i < 1100
place_small p i c h l m = omega (arith, mul-le-mul m h)
