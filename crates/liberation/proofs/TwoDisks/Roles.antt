-- Which of two lost data disks is walked from: x has an extra cell, and y is disk 0 or the inverse
-- of y - x mod p is at most (p - 1)/2. One of the two orders of any pair is so, and `forward` says
-- which,
-- since the inverses of y - x and of x - y add up to p. Then the walk does not meet the diagonal
-- whose extra cell is on y before that cell stands.
use mathlib.Core.Path.{◌≡◌, refl, sym, ap, ◌∙◌}
use mathlib.Core.Bool.{Bool, true, false, ◌&&◌, false≢true}
use mathlib.Core.Logic.{◌⊎◌, inl, inr, ⊎_elim}
use Prim.Native.Nat.{ℕ, zero, suc, ◌+◌, ◌-◌, ◌*◌, ◌/◌, ◌%◌, ◌≤◌, ◌<◌}
use native.Mathlib.Nat.{mod-lt, mod-eq_of_lt, mod-add-mod, mul-add-mod_self_left}
use native.Mathlib.Omega.{arith}
use lib.Dec.{eqb, leb}
use borrow.Author.Tests.{eqb-true, eqb-false, eq-eqb, leb-true, leb-false}
use Rattle.mathematics.proofs.Flags.{and_l, and_r, or_cases, or_l, or_r, clash}
use Rattle.mathematics.proofs.Modulo.{mul_mod_r}
use Rattle.mathematics.proofs.OrderLaws.{lt_or_le}
use Rattle.mathematics.proofs.Primes.{Prime, inverse}
use Rattle.mathematics.proofs.Residues.{sub_small}
use Rattle.mathematics.specs.Choice.{pick}
use Rattle.liberation.specs.Plans.{second_row, extra_row_on, diagonal_of}
use Rattle.liberation.proofs.RowSteps.{ordinary_row}
use Rattle.liberation.proofs.LostLaws.{second_range}
use Rattle.liberation.specs.TwoDisks.Pairs.{start_count, first_disk, comes_to_one, forward}
use Rattle.liberation.proofs.TwoDisks.WalkRows.{row_after, after_add, comes_once, comes_round, there, back, met}

-- the inverse of y - x mod p is at most (p - 1)/2
pub record Short (p x y : ℕ) : Type 0 where
  pub times : ℕ
  pub low : 1 ≤ times
  pub high : 2 * times < p
  pub inverse : diagonal_of p x y * times % p ≡ 1

pub record Roles (p x y : ℕ) : Type 0 where
  pub x_low : 1 ≤ x
  pub x_high : x < p
  pub y_high : y < p
  pub apart : x ≡ y → ⊥
  pub turn : (y ≡ 0) ⊎ ((1 ≤ y) × Short p x y)

-- what the search for 1 finds
comes_true : (n p d r : ℕ) → 1 < p → comes_to_one n p d r ≡ true → (j : ℕ) × (j < n) × ((r + d * j) % p ≡ 1)
unfolding comes_to_one
comes_true zero p d r h t = absurd (false≢true t)
comes_true (suc n) p d r h t = ⊎_elim here (λ e. later (comes_true n p d ((r + d) % p) h e)) (or_cases (eqb r 1) (comes_to_one n p d ((r + d) % p)) t)
  where
    here : eqb r 1 ≡ true → (j : ℕ) × (j < suc n) × ((r + d * j) % p ≡ 1)
    here e = let q : r + d * 0 ≡ 1 = omega (arith, eqb-true r 1 e) in (0, omega arith, ap (λ (i : ℕ). i % p) q ∙ mod-eq_of_lt h)

    later : (j : ℕ) × (j < n) × (((r + d) % p + d * j) % p ≡ 1) → (j : ℕ) × (j < suc n) × ((r + d * j) % p ≡ 1)
    later w =
        let q : r + d * suc w.0 ≡ r + d + d * w.0 = omega arith in
        (suc w.0, omega arith, ap (λ (i : ℕ). i % p) q ∙ sym (mod-add-mod (r + d) p (d * w.0)) ∙ w.2)

comes_found : (n p d r j : ℕ) → r < p → j < n → (r + d * j) % p ≡ 1 → comes_to_one n p d r ≡ true
unfolding comes_to_one
comes_found zero p d r j h l e = absurd (omega arith)
comes_found (suc n) p d r zero h l e =
    let q : r ≡ r + d * 0 = omega arith in
    or_l (eqb r 1) (comes_to_one n p d ((r + d) % p)) (eq-eqb r 1 (sym (mod-eq_of_lt h) ∙ ap (λ (i : ℕ). i % p) q ∙ e))
comes_found (suc n) p d r (suc j) h l e =
    let q : r + d + d * j ≡ r + d * suc j = omega arith in
    or_r (eqb r 1) (comes_to_one n p d ((r + d) % p)) (comes_found n p d ((r + d) % p) j (mod-lt (r + d) (omega arith)) (omega arith) (mod-add-mod (r + d) p (d * j) ∙ ap (λ (i : ℕ). i % p) q ∙ e))

module _ (p a b : ℕ) (ok : Prime p) (odd : p % 2 ≡ 1) (less : a < b) (below : b < p) where
  half : ℕ
  half = (p - 1) / 2

  gap : diagonal_of p a b ≡ b - a
  gap = ⊎_elim (λ w. omega arith) (λ w. omega arith) (sub_small p b a below (omega arith))

  pub roles_forward : forward p a b ≡ true → Roles p a b
  unfolding half
  roles_forward t =
      let low : 1 ≤ a = leb-true 1 a (and_l (leb 1 a) (comes_to_one half p (b - a) (b - a)) t) in
      record { x_low = low; x_high = omega arith; y_high = below; apart = λ e. omega arith; turn = inr (omega arith, short (comes_true half p (b - a) (b - a) ok.large (and_r (leb 1 a) (comes_to_one half p (b - a) (b - a)) t))) }
    where
      short : (j : ℕ) × (j < half) × ((b - a + (b - a) * j) % p ≡ 1) → Short p a b
      short w =
          let q : (b - a) * suc w.0 ≡ b - a + (b - a) * w.0 = omega arith in
          record { times = suc w.0; low = omega arith; high = omega (arith, w.1); inverse = ap (λ (d : ℕ). d * suc w.0 % p) gap ∙ ap (λ (i : ℕ). i % p) q ∙ w.2 }

  -- the inverse of b - a is the residue m, and past (p - 1)/2
  other_way : 1 ≤ a → comes_to_one half p (b - a) (b - a) ≡ false → (m : ℕ) → m < p → (b - a) * m % p ≡ 1 → Short p b a
  unfolding half
  other_way low f m l e =
      record {
        times = p - m;
        low = omega arith;
        high = omega (arith, past (lt_or_le (2 * m) p));
        inverse = sym (mul-add-mod_self_left p D (d * (p - m))) ∙ ap (λ (i : ℕ). i % p) (product d D (p - m) m p (omega (arith, turned)) (omega arith)) ∙ mul-add-mod_self_left p (p - m) (D * m) ∙ e;
      }
    where
      D : ℕ
      D = b - a

      d : ℕ
      d = diagonal_of p b a

      turned : d + D ≡ p
      turned = ⊎_elim (λ w. omega arith) (λ w. omega arith) (sub_small p a b (omega arith) below)

      -- (p - D)(p - m) is D m, less multiples of p
      product : (u v i j q : ℕ) → u + v ≡ q → i + j ≡ q → q * v + u * i ≡ q * i + v * j
      product u v i j q g h = omega (arith, ap (λ (n : ℕ). n * i) g, ap (λ (n : ℕ). v * n) h)

      -- m is not 0
      nonzero : m ≡ 0 → ⊥
      nonzero z =
          let q : D * m ≡ 0 = ap (λ (n : ℕ). D * n) z ∙ omega arith in
          omega (arith, sym e ∙ ap (λ (n : ℕ). n % p) q ∙ mod-eq_of_lt {n = 0} {m = p} (omega arith))

      past : (2 * m < p) ⊎ (p ≤ 2 * m) → p < 2 * m
      past (inl h) =
          let z : 1 ≤ m = positive nonzero in
          let q : D + D * (m - 1) ≡ D * m = times_pred m z in
          clash (comes_to_one half p D D) (comes_found half p D D (m - 1) (omega arith) (omega arith) (ap (λ (n : ℕ). n % p) q ∙ e)) f
        where
          positive : (m ≡ 0 → ⊥) → 1 ≤ m
          positive n = omega arith

          times_pred : (n : ℕ) → 1 ≤ n → D + D * (n - 1) ≡ D * n
          times_pred n h = let w : n - 1 + 1 ≡ n = omega arith in omega (arith, ap (λ (i : ℕ). D * i) w)
      past (inr h) = omega arith

  pub roles_backward : forward p a b ≡ false → Roles p b a
  unfolding half
  roles_backward f = record { x_low = omega arith; x_high = below; y_high = omega arith; apart = λ e. omega arith; turn = go (leb 1 a) refl f }
    where
      go : (t : Bool) → leb 1 a ≡ t → (t && comes_to_one half p (b - a) (b - a)) ≡ false → (a ≡ 0) ⊎ ((1 ≤ a) × Short p b a)
      go false e q = inl (omega (arith, leb-false 1 a e))
      go true e q =
          let low : 1 ≤ a = leb-true 1 a e in
          let w = inverse p ok (b - a) (omega arith) (omega arith) in
          inr (low, other_way low q (w.0 % p) (mod-lt w.0 (omega arith)) (mul_mod_r (b - a) w.0 p ∙ w.1))

module _ (p x y : ℕ) (ok : Prime p) (odd : p % 2 ≡ 1) (g : Roles p x y) where
  pub row_low : extra_row_on p x < p
  row_low = let w = second_range p x odd g.x_low g.x_high in omega arith

  -- the start's rows end at the row of the extra cell on x
  pub start_back : row_after (start_count p y) p x y (extra_row_on p (first_disk x y)) ≡ extra_row_on p x
  start_back = go (eqb y 0) refl
    where
      go : (t : Bool) → eqb y 0 ≡ t → row_after (pick t p ((p - 1) / 2)) p x y (extra_row_on p (pick t x y)) ≡ extra_row_on p x
      go true e = comes_round p x y ok g.x_high g.y_high g.apart (extra_row_on p x) row_low
      go false e = let n = eqb-false y 0 e in back p x y ok odd g.x_low g.x_high (omega arith) g.y_high g.apart

  -- where the walk meets the diagonal whose extra cell is on y, it has been in that cell's row
  pub extra_stood : (q : ℕ) → q < p → 1 ≤ y → diagonal_of p x (row_after q p x y (extra_row_on p x)) ≡ p - second_row p y → row_after q p x y (extra_row_on p x) < p → (l : ℕ) × (l ≤ q) × (row_after l p x y (extra_row_on p x) ≡ extra_row_on p y)
  extra_stood q h low e r = ((p + 1) / 2, long, there p x y ok odd g.x_low g.x_high low g.y_high g.apart)
    where
      e0 : ℕ
      e0 = extra_row_on p x

      short : (y ≡ 0) ⊎ ((1 ≤ y) × Short p x y) → Short p x y
      short (inl z) = absurd (omega arith)
      short (inr w) = w.1

      m : ℕ
      m = (short g.turn).times

      -- the time at which it is met
      time : q ≡ (p + 1) / 2 + (m - 1)
      time =
          comes_once p x y ok g.x_high g.y_high g.apart e0 q ((p + 1) / 2 + (m - 1)) row_low h (omega (arith, (short g.turn).low, (short g.turn).high))
          (sym (ordinary_row p x (row_after q p x y e0) g.x_high r)
          ∙ ap (λ (z : ℕ). (z + x) % p) e
          ∙ sym (met p x y ok odd g.x_low g.x_high low g.y_high g.apart m (short g.turn).low (short g.turn).high (short g.turn).inverse)
          ∙ ap (row_after (m - 1) p x y) (sym (there p x y ok odd g.x_low g.x_high low g.y_high g.apart))
          ∙ sym (after_add ((p + 1) / 2) (m - 1) p x y e0))

      long : (p + 1) / 2 ≤ q
      long = omega (arith, time)
