-- The rows of a walk between two data disks x and y: it goes by d = y - x mod p, so in p turns it
-- comes to every row once.
-- From the row of the extra cell on x it comes to that of the extra cell on y in (p + 1)/2 turns,
-- and back in (p - 1)/2: twice either row is its disk less 2. Where the inverse of d is at most (p
-- - 1)/2,
-- the diagonal whose extra cell is on y is met on the way back and the one whose extra cell is on x
-- is not.
use mathlib.Core.Path.{◌≡◌, refl, sym, ap, ◌∙◌}
use mathlib.Core.Logic.{⊎_elim}
use Prim.Native.Nat.{ℕ, zero, suc, ◌+◌, ◌-◌, ◌*◌, ◌/◌, ◌%◌, ◌≤◌, ◌<◌}
use native.Mathlib.Nat.{mod-lt, mod-eq_of_lt, mod-add-mod, add-mod-mod, add-mod_right, mul-add-mod_self_left}
use native.Mathlib.Omega.{arith}
use Rattle.mathematics.proofs.Modulo.{cong_add, cong_mul, small_eq}
use Rattle.mathematics.proofs.OrderLaws.{lt_or_le}
use Rattle.mathematics.proofs.Primes.{Prime, cancel, add_cancel, visits, once}
use Rattle.mathematics.proofs.Residues.{sub_small}
use Rattle.liberation.specs.Plans.{second_row, extra_row_on, diagonal_of}
use Rattle.liberation.proofs.RouteLaws.{second_row_lem}
use Rattle.liberation.proofs.LostLaws.{second_range}
use Rattle.liberation.specs.TwoDisks.Pairs.{next_row}

-- the row n turns on
unfoldable pub row_after : ℕ → ℕ → ℕ → ℕ → ℕ → ℕ
row_after zero p x y r = r
row_after (suc n) p x y r = row_after n p x y (next_row p x y r)

pub after_zero : (p x y r : ℕ) → row_after 0 p x y r ≡ r
unfolding row_after
after_zero p x y r = refl

pub after_next : (n p x y r : ℕ) → row_after (suc n) p x y r ≡ row_after n p x y (next_row p x y r)
unfolding row_after
after_next n p x y r = refl

pub after_suc : (n p x y r : ℕ) → row_after (suc n) p x y r ≡ next_row p x y (row_after n p x y r)
unfolding row_after
after_suc zero p x y r = refl
after_suc (suc n) p x y r = after_suc n p x y (next_row p x y r)

pub after_add : (m n p x y r : ℕ) → row_after (m + n) p x y r ≡ row_after n p x y (row_after m p x y r)
unfolding row_after
after_add zero n p x y r = let e : 0 + n ≡ n = omega arith in ap (λ (i : ℕ). row_after i p x y r) e
after_add (suc m) n p x y r = let e : suc m + n ≡ suc (m + n) = omega arith in ap (λ (i : ℕ). row_after i p x y r) e ∙ after_add m n p x y (next_row p x y r)

pub after_lt : (n p x y r : ℕ) → r < p → row_after n p x y r < p
unfolding row_after
after_lt zero p x y r h = h
after_lt (suc n) p x y r h = after_lt n p x y (next_row p x y r) (mod-lt (diagonal_of p x r + y) (omega arith))

-- one turn goes by d = y - x mod p
next_by : (p x y r : ℕ) → x ≤ p → next_row p x y r ≡ (r + diagonal_of p x y) % p
next_by p x y r h =
    let e : r + p - x + y ≡ r + (y + p - x) = omega arith in
    mod-add-mod (r + p - x) p y ∙ ap (λ (n : ℕ). n % p) e ∙ sym (add-mod-mod r (y + p - x) p)

pub after_by : (n p x y r : ℕ) → x ≤ p → r < p → row_after n p x y r ≡ (r + diagonal_of p x y * n) % p
unfolding row_after
after_by zero p x y r h l = let e : r ≡ r + diagonal_of p x y * 0 = omega arith in sym (mod-eq_of_lt l) ∙ ap (λ (n : ℕ). n % p) e
after_by (suc n) p x y r h l =
    let d = diagonal_of p x y in
    let e : r + d + d * n ≡ r + d * suc n = omega arith in
    after_by n p x y (next_row p x y r) h (mod-lt (diagonal_of p x r + y) (omega arith))
    ∙ ap (λ (i : ℕ). (i + d * n) % p) (next_by p x y r h)
    ∙ mod-add-mod (r + d) p (d * n)
    ∙ ap (λ (i : ℕ). i % p) e

-- two disks
module _ (p x y : ℕ) (ok : Prime p) (x_high : x < p) (y_high : y < p) (apart : x ≡ y → ⊥) where
  pub gap_range : (0 < diagonal_of p x y) × (diagonal_of p x y < p)
  gap_range = ⊎_elim (λ w. (positive w.1, mod-lt (y + p - x) (omega arith))) (λ w. (omega arith, mod-lt (y + p - x) (omega arith))) (sub_small p y x y_high x_high)
    where
      positive : diagonal_of p x y + x ≡ y → 0 < diagonal_of p x y
      positive e = ⊎_elim (λ l. l) (λ l. absurd (apart (omega arith))) (lt_or_le 0 (diagonal_of p x y))

  -- x + d is y
  gap_sum : (x + diagonal_of p x y) % p ≡ y % p
  gap_sum = let e : x + (y + p - x) ≡ y + p = omega arith in add-mod-mod x (y + p - x) p ∙ ap (λ (n : ℕ). n % p) e ∙ add-mod_right y p

  -- every row, and none twice
  pub comes_to : (e r : ℕ) → e < p → r < p → (q : ℕ) × (q < p) × (row_after q p x y e ≡ r)
  comes_to e r h l = let g = gap_range in let w = visits p ok e (diagonal_of p x y) r g.0 g.1 l in (w.0, w.1, after_by w.0 p x y e (omega arith) h ∙ w.2)

  pub comes_once : (e i j : ℕ) → e < p → i < p → j < p → row_after i p x y e ≡ row_after j p x y e → i ≡ j
  comes_once e i j h l m q =
      let g = gap_range in
      once p ok e (diagonal_of p x y) i j g.0 g.1 l m (sym (after_by i p x y e (omega arith) h) ∙ q ∙ after_by j p x y e (omega arith) h)

  -- p turns lead round
  pub comes_round : (e : ℕ) → e < p → row_after p p x y e ≡ e
  comes_round e h =
      let d = diagonal_of p x y in
      let q : e + d * p ≡ p * d + e = omega arith in
      after_by p p x y e (omega arith) h ∙ ap (λ (n : ℕ). n % p) q ∙ mul-add-mod_self_left p d e ∙ mod-eq_of_lt h

-- twice the second row of a disk is the disk
second_twice : (p c : ℕ) → p % 2 ≡ 1 → c < p → 2 * second_row p c % p ≡ c % p
second_twice p c odd h = ⊎_elim (λ e. ap (λ (n : ℕ). n % p) e) (λ e. ap (λ (n : ℕ). n % p) e ∙ add-mod_right c p) (second_row_lem p c odd h)

-- the row of disk x on the diagonal whose extra cell is on c
abbrev pub extra_meets : ℕ → ℕ → ℕ → ℕ
extra_meets p x c = (p - second_row p c + x) % p

pub meets_own : (p x : ℕ) → p % 2 ≡ 1 → 1 ≤ x → x < p → extra_meets p x x ≡ second_row p x
meets_own p x odd h l =
    let r = second_range p x odd h l in
    ⊎_elim
    (λ e. let q : p - second_row p x + x ≡ second_row p x + p = omega arith in ap (λ (n : ℕ). n % p) q ∙ add-mod_right (second_row p x) p ∙ mod-eq_of_lt r.1)
    (λ e. let q : p - second_row p x + x ≡ second_row p x = omega arith in ap (λ (n : ℕ). n % p) q ∙ mod-eq_of_lt r.1)
    (second_row_lem p x odd l)

-- both disks have an extra cell
module _ (p x y : ℕ) (ok : Prime p) (odd : p % 2 ≡ 1) (x_low : 1 ≤ x) (x_high : x < p) (y_low : 1 ≤ y) (y_high : y < p) (apart : x ≡ y → ⊥) where
  d : ℕ
  d = diagonal_of p x y

  large : 3 ≤ p
  large = omega (arith, ok.large)

  ex : ℕ
  ex = extra_row_on p x

  ey : ℕ
  ey = extra_row_on p y

  ex_lt : ex < p
  unfolding ex
  ex_lt = let w = second_range p x odd x_low x_high in omega arith

  ey_lt : ey < p
  unfolding ey
  ey_lt = let w = second_range p y odd y_low y_high in omega arith

  -- (p + 1)/2 turns from the extra cell on x to that on y
  pub there : row_after ((p + 1) / 2) p x y (extra_row_on p x) ≡ extra_row_on p y
  unfolding d ex ey
  there =
      after_by h p x y ex (omega arith) ex_lt
      ∙ cancel p ok 2 (ex + d * h) ey (omega arith) (omega (arith, large)) (add_cancel p 2 (2 * (ex + d * h)) (2 * ey) (omega arith) doubled)
      ∙ mod-eq_of_lt ey_lt
    where
      h : ℕ
      h = (p + 1) / 2

      gx : ℕ
      gx = second_row p x

      gy : ℕ
      gy = second_row p y

      turned : d * (2 * h) ≡ d * (p + 1)
      turned = let e : 2 * h ≡ p + 1 = omega arith in ap (λ (n : ℕ). d * n) e

      doubled : (2 + 2 * (ex + d * h)) % p ≡ (2 + 2 * ey) % p
      doubled =
          let wx = second_range p x odd x_low x_high in
          let wy = second_range p y odd y_low y_high in
          let a : 2 + 2 * (ex + d * h) ≡ p * d + (2 * gx + d) = omega (arith, turned) in
          let b : 2 * gy ≡ 2 + 2 * ey = omega arith in
          ap (λ (n : ℕ). n % p) a
          ∙ mul-add-mod_self_left p d (2 * gx + d)
          ∙ cong_add p (2 * gx) x d d (second_twice p x odd x_high) refl
          ∙ gap_sum p x y ok x_high y_high apart
          ∙ sym (second_twice p y odd y_high)
          ∙ ap (λ (n : ℕ). n % p) b

  -- and (p - 1)/2 back
  pub back : row_after ((p - 1) / 2) p x y (extra_row_on p y) ≡ extra_row_on p x
  unfolding ex
  back =
      let e : (p + 1) / 2 + (p - 1) / 2 ≡ p = omega arith in
      ap (row_after ((p - 1) / 2) p x y) (sym there)
      ∙ sym (after_add ((p + 1) / 2) ((p - 1) / 2) p x y (extra_row_on p x))
      ∙ ap (λ (n : ℕ). row_after n p x y (extra_row_on p x)) e
      ∙ comes_round p x y ok x_high y_high apart (extra_row_on p x) ex_lt

  -- m the inverse of d
  module _ (m : ℕ) (m-low : 1 ≤ m) (m-high : 2 * m < p) (inv : diagonal_of p x y * m % p ≡ 1) where
    -- on the way back the diagonal whose extra cell is on y is met after m - 1 turns
    pub met : row_after (m - 1) p x y (extra_row_on p y) ≡ extra_meets p x y
    unfolding d ey
    met = after_by (m - 1) p x y ey (omega arith) ey_lt ∙ add_cancel p (d + 1 + gy) (ey + d * (m - 1)) (p - gy + x) (omega arith) raised
      where
        gy : ℕ
        gy = second_row p y

        one_less : d * (m - 1) + d ≡ d * m
        one_less = let e : m - 1 + 1 ≡ m = omega arith in omega (arith, ap (λ (n : ℕ). d * n) e)

        raised : (d + 1 + gy + (ey + d * (m - 1))) % p ≡ (d + 1 + gy + (p - gy + x)) % p
        raised =
            let wy = second_range p y odd y_low y_high in
            let a : d + 1 + gy + (ey + d * (m - 1)) ≡ 2 * gy + d * m = omega (arith, one_less) in
            let b : x + d + 1 + p ≡ d + 1 + gy + (p - gy + x) = omega arith in
            ap (λ (n : ℕ). n % p) a
            ∙ cong_add p (2 * gy) (x + d) (d * m) 1 (second_twice p y odd y_high ∙ sym (gap_sum p x y ok x_high y_high apart)) (inv ∙ sym (mod-eq_of_lt ok.large))
            ∙ sym (add-mod_right (x + d + 1) p)
            ∙ ap (λ (n : ℕ). n % p) b

    -- and the one whose extra cell is on x is not met
    pub not_met : (j : ℕ) → 2 * j + 1 < p → row_after j p x y (extra_row_on p y) ≡ extra_meets p x x → ⊥
    unfolding d ey
    not_met j l e = parity (small_eq p (1 + 2 * j) (2 * m) (omega arith) m-high (cancel p ok d (1 + 2 * j) (2 * m) g.0 g.1 equal))
      where
        g : (0 < diagonal_of p x y) × (diagonal_of p x y < p)
        g = gap_range p x y ok x_high y_high apart

        gx : ℕ
        gx = second_row p x

        gy : ℕ
        gy = second_row p y

        parity : 1 + 2 * j ≡ 2 * m → ⊥
        parity q = omega arith

        landed : (ey + d * j) % p ≡ gx % p
        landed = sym (after_by j p x y ey (omega arith) ey_lt) ∙ e ∙ meets_own p x odd x_low x_high ∙ sym (mod-eq_of_lt (second_range p x odd x_low x_high).1)

        -- x + d (1 + 2j) is x + 2
        raised : (x + d * (1 + 2 * j)) % p ≡ (x + 2) % p
        raised =
            let wy = second_range p y odd y_low y_high in
            let a : x + d * (1 + 2 * j) ≡ x + d + 2 * (d * j) = omega arith in
            let b : 2 * gy + 2 * (d * j) ≡ 2 * (ey + d * j) + 2 = omega arith in
            ap (λ (n : ℕ). n % p) a
            ∙ cong_add p (x + d) (2 * gy) (2 * (d * j)) (2 * (d * j)) (gap_sum p x y ok x_high y_high apart ∙ sym (second_twice p y odd y_high)) refl
            ∙ ap (λ (n : ℕ). n % p) b
            ∙ cong_add p (2 * (ey + d * j)) x 2 2 (cong_mul p 2 2 (ey + d * j) gx refl landed ∙ second_twice p x odd x_high) refl

        doubled : 2 % p ≡ d * (2 * m) % p
        doubled =
            let a : 2 * (d * m) ≡ d * (2 * m) = omega arith in
            let o : 1 % p ≡ d * m % p = mod-eq_of_lt ok.large ∙ sym inv in
            cong_mul p 2 2 1 (d * m) refl o ∙ ap (λ (n : ℕ). n % p) a

        equal : d * (1 + 2 * j) % p ≡ d * (2 * m) % p
        equal = add_cancel p x (d * (1 + 2 * j)) 2 (omega arith) raised ∙ doubled
