-- The cells of a list on other disks than f. Of a row or a diagonal these are the cells before its
-- cell on disk f and those after it, so no test for each cell is needed.
use mathlib.Core.Path.{◌≡◌, refl, sym, ap, ap₂, ◌∙◌}
use mathlib.Core.Bool.{Bool, true, false, not}
use mathlib.Core.Logic.{⊎_elim}
use mathlib.Core.List.{List, ◌∷◌, ◌++◌}
use Prim.Native.Nat.{ℕ, zero, suc, ◌+◌, ◌-◌, ◌%◌, ◌≤◌, ◌<◌}
use native.Mathlib.Nat.{mod-lt}
use native.Mathlib.Omega.{arith}
use lib.Dec.{eqb}
use borrow.Author.Tests.{eq-eqb, ne_eqb, not-true}
use Rattle.mathematics.specs.Choice.{pick}
use Rattle.mathematics.specs.Lists.{is_in}
use Rattle.mathematics.proofs.Flags.{and_l}
use Rattle.mathematics.proofs.KeptLaws.{kept_append, kept_all}
use Rattle.mathematics.proofs.OrderLaws.{lt_or_le}
use Rattle.mathematics.proofs.Walks.{Walk}
use Rattle.liberation.specs.Sets.{place, disk_at, row_from, diagonal_from, surviving_in}
use Rattle.liberation.proofs.SetLaws.{disk_place, in_surviving}
pub use Rattle.liberation.proofs.SetLaws.{surviving_keeps}
use Rattle.stripe_cells.specs.Offsets.{cells_from}

-- a disk left out twice
pub surviving_twice : (p f : ℕ) (xs : List ℕ) → surviving_in p f (surviving_in p f xs) ≡ surviving_in p f xs
surviving_twice p f xs =
    kept_all (surviving_keeps p f) (surviving_in p f xs) (λ x h. not-true (eqb (disk_at p x) f) (and_l (not (eqb (disk_at p x) f)) (is_in x xs) (sym (in_surviving p f x xs) ∙ h)))

-- the row of a row's or a diagonal's cell on a data disk
abbrev pub row_in : ℕ → ℕ → ℕ → ℕ → ℕ
row_in kind p i c = pick (eqb kind 0) i ((i + c) % p)

pub row_in_below : (kind p i c : ℕ) → i < p → row_in kind p i c < p
row_in_below kind p i c h = go (eqb kind 0)
  where
    go : (b : Bool) → pick b i ((i + c) % p) < p
    go true = h
    go false = mod-lt (i + c) (omega arith)

pub cell_walk : (kind p i : ℕ) → Walk (λ c. place p (row_in kind p i c) c) (λ n c. cells_from kind n p i c)
unfolding row_from diagonal_from
cell_walk kind p i = go (eqb kind 0)
  where
    go : (b : Bool) → Walk (λ c. place p (pick b i ((i + c) % p)) c) (λ n c. pick b (row_from n p i c) (diagonal_from n p i c))
    go true = record { none = λ c. refl; next = λ n c. refl }
    go false = record { none = λ c. refl; next = λ n c. refl }

-- the smaller one of n and x is that of m and x, if m is that of n and a y which is not below x
smaller : (n m x y : ℕ) → x ≤ y → m ≡ n - (n - y) → m - (m - x) ≡ n - (n - x)
smaller n m x y h e = ⊎_elim short long (lt_or_le n y)
  where
    short : n < y → m - (m - x) ≡ n - (n - x)
    short k = let q : m ≡ n = omega arith in ap (λ (j : ℕ). j - (j - x)) q

    long : y ≤ n → m - (m - x) ≡ n - (n - x)
    long k =
        let a : m - (m - x) ≡ x = omega arith in
        let b : x ≡ n - (n - x) = omega arith in
        a ∙ b

-- l n c are the cells (row c, c) to (row (c + n - 1), c + n - 1)
module _ (p : ℕ) (row : ℕ → ℕ) (below : (c : ℕ) → row c < p) {l : ℕ → ℕ → List ℕ} (w : Walk (λ c. place p (row c) c) l) where
  -- the cell on disk c, and those on the disks after it
  pub surviving_first : (f n c : ℕ) (b : Bool) → eqb c f ≡ b → surviving_in p f (l (suc n) c) ≡ pick b (surviving_in p f (l n (suc c))) (place p (row c) c ∷ surviving_in p f (l n (suc c)))
  surviving_first f n c b e =
      ap (surviving_in p f) (w.next n c)
      ∙ (surviving_keeps p f).next (place p (row c) c) (l n (suc c))
      ∙ ap (λ (t : Bool). pick t (surviving_in p f (l n (suc c))) (place p (row c) c ∷ surviving_in p f (l n (suc c)))) (ap (λ (d : ℕ). eqb d f) (disk_place p (row c) c (below c)) ∙ e)

  -- all survive
  surviving_all : (f n c : ℕ) → f < c → surviving_in p f (l n c) ≡ l n c
  surviving_all f zero c h = ap (surviving_in p f) (w.none c) ∙ (surviving_keeps p f).none ∙ sym (w.none c)
  surviving_all f (suc n) c h = surviving_first f n c false (ne_eqb c f (λ e. omega arith)) ∙ ap (λ (r : List ℕ). place p (row c) c ∷ r) (surviving_all f n (suc c) (omega arith)) ∙ sym (w.next n c)

  -- all but the one on disk f, of the disks c to e - 1; e - (e - f) is the smaller one of e and f
  pub surviving_but : (f n c e : ℕ) → e ≡ c + n → c ≤ f → surviving_in p f (l n c) ≡ l (e - (e - f) - c) c ++ l (e - (f + 1)) (f + 1)
  surviving_but f zero c e q h =
      let u : 0 ≡ e - (e - f) - c = omega arith in
      let v : 0 ≡ e - (f + 1) = omega arith in
      ap (surviving_in p f) (w.none c)
      ∙ (surviving_keeps p f).none
      ∙ ap₂ ◌++◌ (sym (w.none c) ∙ ap (λ (j : ℕ). l j c) u) (sym (w.none (f + 1)) ∙ ap (λ (j : ℕ). l j (f + 1)) v)
  surviving_but f (suc n) c e q h = ⊎_elim (λ b. later b (surviving_but f n (suc c) e (omega arith) b)) here (lt_or_le c f)
    where
      here : f ≤ c → surviving_in p f (l (suc n) c) ≡ l (e - (e - f) - c) c ++ l (e - (f + 1)) (f + 1)
      here b =
          let a : c ≡ f = omega arith in
          let m : n ≡ e - (f + 1) = omega arith in
          let z : 0 ≡ e - (e - f) - c = omega arith in
          let y : suc c ≡ f + 1 = omega arith in
          surviving_first f n c true (eq-eqb c f a)
          ∙ surviving_all f n (suc c) (omega arith)
          ∙ ap₂ l m y
          ∙ ap (λ (r : List ℕ). r ++ l (e - (f + 1)) (f + 1)) (sym (w.none c) ∙ ap (λ (j : ℕ). l j c) z)

      later : c < f → surviving_in p f (l n (suc c)) ≡ l (e - (e - f) - suc c) (suc c) ++ l (e - (f + 1)) (f + 1) → surviving_in p f (l (suc n) c) ≡ l (e - (e - f) - c) c ++ l (e - (f + 1)) (f + 1)
      later b r =
          let z : suc (e - (e - f) - suc c) ≡ e - (e - f) - c = omega arith in
          surviving_first f n c false (ne_eqb c f (λ a. omega arith))
          ∙ ap (λ (u : List ℕ). place p (row c) c ∷ u) r
          ∙ ap (λ (u : List ℕ). u ++ l (e - (f + 1)) (f + 1)) (sym (w.next (e - (e - f) - suc c) c) ∙ ap (λ (j : ℕ). l j c) z)

  -- all but those on disks x and y, x ≤ y, of n disks from 0 on
  pub surviving_two : (x y n : ℕ) → x ≤ y → surviving_in p x (surviving_in p y (l n 0)) ≡ (l (n - (n - x) - 0) 0 ++ l (n - (n - y) - (x + 1)) (x + 1)) ++ l (n - (y + 1)) (y + 1)
  surviving_two x y n h =
      let m = n - (n - y) in
      let u : m - 0 ≡ m = omega arith in
      let v : m - (m - x) - 0 ≡ n - (n - x) - 0 = ap (λ (j : ℕ). j - 0) (smaller n m x y h refl) in
      ap (surviving_in p x) (surviving_but y n 0 n (omega arith) (omega arith) ∙ ap (λ (j : ℕ). l j 0 ++ l (n - (y + 1)) (y + 1)) u)
      ∙ kept_append (surviving_keeps p x) (l m 0) (l (n - (y + 1)) (y + 1))
      ∙ ap₂ ◌++◌ (surviving_but x m 0 m (omega arith) (omega arith) ∙ ap (λ (j : ℕ). l j 0 ++ l (m - (x + 1)) (x + 1)) v) (surviving_all x (n - (y + 1)) (y + 1) (omega arith))
