-- The loops of the reduction: the rows and unknowns still to come, from what is there, give what
-- all give from the start.
use mathlib.Core.Path.{◌≡◌, sym, ap, ap₂, ◌∙◌}
use mathlib.Core.Bool.{Bool, true, false}
use Prim.Native.Nat.{ℕ, suc, ◌+◌, ◌-◌, ◌≤◌, ◌<◌}
use native.Mathlib.Numerals.{add-one}
use native.Mathlib.Omega.{arith}
use lib.Dec.{eqb, ltb}
use borrow.Author.Tests.{lt-ltb, le-ltb, ne_eqb, eq-eqb}
use Rattle.mathematics.specs.Choice.{pick}
use Rattle.mathematics.specs.Sums.{first_from}
use Rattle.mathematics.specs.BitRows.Rows.{Rows, Reduced, row_cleared, cleared_from, pivot, pivoted, column_done, reduction, reduced_from}

-- ---- one row

-- ---- all rows
pub clear_turn : (n b i : ℕ) (r r' : Rows) → i < n → r' ≡ row_cleared b i r → cleared_from (n - (i + 1)) b (i + 1) r' ≡ cleared_from (n - i) b i r
unfolding cleared_from
clear_turn n b i r r' h e =
    let w : n - i ≡ suc (n - (i + 1)) = omega arith in
    ap₂ (λ (j : ℕ) (q : Rows). cleared_from (n - (i + 1)) b j q) (add-one i) e ∙ sym (ap (λ (m : ℕ). cleared_from m b i r) w)

pub clear_end : (n b i : ℕ) (r : Rows) → n ≤ i → r ≡ cleared_from (n - i) b i r
unfolding cleared_from
clear_end n b i r h = let w : 0 ≡ n - i = omega arith in ap (λ (m : ℕ). cleared_from m b i r) w

-- ---- the search for a row
pub seek_here : (n j : ℕ) (f : ℕ → Bool) (t : Bool) → j < n → t ≡ f j → t ≡ true → j ≡ first_from (n - j) j f
unfolding first_from
seek_here n j f t h e k =
    let w : n - j ≡ suc (n - (j + 1)) = omega arith in
    sym (ap (λ (m : ℕ). first_from m j f) w ∙ ap (λ (u : Bool). pick u j (first_from (n - (j + 1)) (suc j) f)) (sym e ∙ k))

pub seek_turn : (n j : ℕ) (f : ℕ → Bool) (t : Bool) → j < n → t ≡ f j → t ≡ false → first_from (n - (j + 1)) (j + 1) f ≡ first_from (n - j) j f
unfolding first_from
seek_turn n j f t h e k =
    let w : n - j ≡ suc (n - (j + 1)) = omega arith in
    ap (λ (i : ℕ). first_from (n - (j + 1)) i f) (add-one j)
    ∙ sym (ap (λ (m : ℕ). first_from m j f) w ∙ ap (λ (u : Bool). pick u j (first_from (n - (j + 1)) (suc j) f)) (sym e ∙ k))

pub seek_end : (n j : ℕ) (f : ℕ → Bool) → n ≤ j → j ≡ first_from (n - j) j f
unfolding first_from
seek_end n j f h = let w : 0 ≡ n - j = omega arith in ap (λ (m : ℕ). first_from m j f) w

-- ---- one unknown
pub column_is : (n n' b j : ℕ) (r r' r'' : Rows) → n' ≡ n → r' ≡ pivoted b j r → r'' ≡ cleared_from n' b 0 r' → r'' ≡ column_done n b j r
column_is n n' b j r r' r'' q w h = h ∙ ap₂ (λ (m : ℕ) (x : Rows). cleared_from m b 0 x) q w

-- ---- all unknowns
pub reduce_turn :
    (m n b j : ℕ) (r r' : Rows) → b < m → j ≡ pivot n b r → j < n → r' ≡ column_done n b j r
    → reduced_from (m - (b + 1)) n (b + 1) r' ≡ reduced_from (m - b) n b r
unfolding reduced_from
reduce_turn m n b j r r' h e l w =
    let q : m - b ≡ suc (m - (b + 1)) = omega arith in
    ap₂ (λ (c : ℕ) (x : Rows). reduced_from (m - (b + 1)) n c x) (add-one b) (w ∙ ap (λ (i : ℕ). column_done n b i r) e)
    ∙ sym (ap (λ (x : ℕ). reduced_from x n b r) q ∙ ap (λ (t : Bool). pick t (reduced_from (m - (b + 1)) n (suc b) (column_done n b (pivot n b r) r)) (reduction b r)) (ap (λ (i : ℕ). ltb i n) (sym e) ∙ lt-ltb j n l))

pub reduce_stop : (m n b j : ℕ) (r : Rows) → b < m → j ≡ pivot n b r → n ≤ j → reduction b r ≡ reduced_from (m - b) n b r
unfolding reduced_from
reduce_stop m n b j r h e l =
    let q : m - b ≡ suc (m - (b + 1)) = omega arith in
    sym (ap (λ (x : ℕ). reduced_from x n b r) q ∙ ap (λ (t : Bool). pick t (reduced_from (m - (b + 1)) n (suc b) (column_done n b (pivot n b r) r)) (reduction b r)) (ap (λ (i : ℕ). ltb i n) (sym e) ∙ le-ltb j n l))

pub reduce_end : (m n b : ℕ) (r : Rows) → m ≤ b → reduction b r ≡ reduced_from (m - b) n b r
unfolding reduced_from
reduce_end m n b r h = let q : 0 ≡ m - b = omega arith in ap (λ (x : ℕ). reduced_from x n b r) q

-- ---- the end: some unknowns are done, or all
pub reduced_less : (m b : ℕ) (r : Rows) (q : Reduced) → reduction b r ≡ q → b < m → (false ≡ eqb q.done m) × (r ≡ q.left)
reduced_less m b r q e h = (sym (ap (λ (x : Reduced). eqb x.done m) (sym e) ∙ ne_eqb b m (λ z. omega arith)), ap (λ (x : Reduced). x.left) e)

pub reduced_whole : (m b : ℕ) (r : Rows) (q : Reduced) → reduction b r ≡ q → b ≡ m → (true ≡ eqb q.done m) × (r ≡ q.left)
reduced_whole m b r q e h = (sym (ap (λ (x : Reduced). eqb x.done m) (sym e) ∙ eq-eqb b m h), ap (λ (x : Reduced). x.left) e)

pub clear_start : (n b : ℕ) (r : Rows) → cleared_from (n - 0) b 0 r ≡ cleared_from n b 0 r
clear_start n b r = let w : n - 0 ≡ n = omega arith in ap (λ (m : ℕ). cleared_from m b 0 r) w

pub reduce_start : (m n : ℕ) (r : Rows) → reduced_from (m - 0) n 0 r ≡ reduced_from m n 0 r
reduce_start m n r = let w : m - 0 ≡ m = omega arith in ap (λ (x : ℕ). reduced_from x n 0 r) w
