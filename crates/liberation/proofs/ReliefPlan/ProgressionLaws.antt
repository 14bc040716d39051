-- Arithmetic progressions mod a prime p. The numbers a, a + g, a + 2g, .. a + (p - 1)g are all
-- numbers mod p, each once; so what is said of a row is said of its place in this walk.
-- Two stretches of h = (p - 1)/2 places, 1 to h and the same e further round, have h less min(e, p
-- - e) in common.
use mathlib.Core.Path.{◌≡◌, sym, ap, ap₂, ◌∙◌}
use mathlib.Core.Bool.{Bool, true, false, ◌&&◌, ◌||◌}
use mathlib.Core.Logic.{⊎_elim}
use Prim.Native.Nat.{ℕ, zero, suc, ◌+◌, ◌-◌, ◌*◌, ◌%◌, ◌≤◌, ◌<◌}
use native.Mathlib.Nat.{mod-lt}
use native.Mathlib.Omega.{arith}
use lib.Dec.{eqb, leb, ltb}
use borrow.Author.Tests.{leb-true, leb-false, ltb-true, le-leb, lt-leb, lt-ltb, eqb-true, eq-eqb}
use Rattle.mathematics.specs.Choice.{pick, when}
use Rattle.mathematics.specs.Sums.{sum_to}
use Rattle.mathematics.proofs.Flags.{and_l, and_r, and_i, or_cases, or_l, or_r, same_flag, flag}
use Rattle.mathematics.proofs.OrderLaws.{eq_or_lt}
use Rattle.mathematics.proofs.Primes.{Prime, visits, once}
use Rattle.mathematics.proofs.Residues.{sub_small}
use Rattle.mathematics.proofs.SumLaws.{sum_ext, sum_none, sum_more, sum_permuted}
use Rattle.mathematics.proofs.TestLaws.{eqb_same, in_range, range_zero, range_suc}
use Rattle.liberation.specs.ReliefPlan.Relief.{in_steps, distance}

-- a number in a range, and the other way
pub range_of : (c n x : ℕ) → in_range c n x ≡ true → (c ≤ x) × (x < c + n)
range_of c n x t = (leb-true c x (and_l (leb c x) (ltb x (c + n)) t), ltb-true x (c + n) (and_r (leb c x) (ltb x (c + n)) t))

pub of_range : (c n x : ℕ) → c ≤ x → x < c + n → in_range c n x ≡ true
of_range c n x l m = and_i (leb c x) (ltb x (c + n)) (le-leb c x l) (lt-ltb x (c + n) m)

-- a range of n numbers has n numbers
pub range_count : (p c n : ℕ) → c + n ≤ p → sum_to p (λ x. when (in_range c n x) 1) ≡ n
range_count p c zero h = sum_none p (λ x. when (in_range c 0 x) 1) (λ x l. ap (λ (b : Bool). when b 1) (range_zero c x))
range_count p c (suc n) h =
    omega (
      arith,
      sum_ext p (λ x. when (in_range c (suc n) x) 1) (λ x. when (eqb x c || in_range (suc c) n x) 1) (λ x l. ap (λ (b : Bool). when b 1) (range_suc c n x)),
      sum_more p c (λ x. in_range (suc c) n x) (omega arith) (ap (λ (b : Bool). b && ltb c (suc c + n)) (lt-leb (suc c) c (omega arith))),
      range_count p (suc c) n (omega arith),
    )

-- the places 1 to h, and the same e further round
pub overlap : (p h e x : ℕ) → p ≡ 2 * h + 1 → e < p → x < p → (in_range 1 h x && in_range 1 h ((x + p - e) % p)) ≡ pick (leb e (p - e)) (in_range (1 + e) (h - e) x) (in_range 1 (h - (p - e)) x)
overlap p h e x size he hx = ⊎_elim near far (flag (leb e (p - e)))
  where
    y : ℕ
    y = (x + p - e) % p

    near : leb e (p - e) ≡ true → (in_range 1 h x && in_range 1 h y) ≡ pick (leb e (p - e)) (in_range (1 + e) (h - e) x) (in_range 1 (h - (p - e)) x)
    near t = same_flag (in_range 1 h x && in_range 1 h y) (in_range (1 + e) (h - e) x) there back ∙ ap (λ (b : Bool). pick b (in_range (1 + e) (h - e) x) (in_range 1 (h - (p - e)) x)) (sym t)
      where
        few : e ≤ h
        few = omega (arith, leb-true e (p - e) t)

        there : (in_range 1 h x && in_range 1 h y) ≡ true → in_range (1 + e) (h - e) x ≡ true
        there q =
            let a = range_of 1 h x (and_l _ _ q) in
            let b = range_of 1 h y (and_r (in_range 1 h x) (in_range 1 h y) q) in
            ⊎_elim (λ w. of_range (1 + e) (h - e) x (omega (arith, a.0, a.1, b.0, b.1, w.0, w.1)) (omega (arith, few, a.0, a.1, b.0, b.1, w.0, w.1))) (λ w. absurd (omega (arith, few, a.0, a.1, b.0, b.1, w.0, w.1))) (sub_small p x e hx he)

        back : in_range (1 + e) (h - e) x ≡ true → (in_range 1 h x && in_range 1 h y) ≡ true
        back q =
            let a = range_of (1 + e) (h - e) x q in
            ⊎_elim
            (λ w. and_i (in_range 1 h x) (in_range 1 h y) (of_range 1 h x (omega (arith, a.0)) (omega (arith, few, a.1))) (of_range 1 h y (omega (arith, a.0, w.1)) (omega (arith, few, a.1, w.1))))
            (λ w. absurd (omega (arith, a.0, w.0)))
            (sub_small p x e hx he)

    far : leb e (p - e) ≡ false → (in_range 1 h x && in_range 1 h y) ≡ pick (leb e (p - e)) (in_range (1 + e) (h - e) x) (in_range 1 (h - (p - e)) x)
    far t = same_flag (in_range 1 h x && in_range 1 h y) (in_range 1 (h - (p - e)) x) there back ∙ ap (λ (b : Bool). pick b (in_range (1 + e) (h - e) x) (in_range 1 (h - (p - e)) x)) (sym t)
      where
        many : h < e
        many = omega (arith, leb-false e (p - e) t)

        there : (in_range 1 h x && in_range 1 h y) ≡ true → in_range 1 (h - (p - e)) x ≡ true
        there q =
            let a = range_of 1 h x (and_l _ _ q) in
            let b = range_of 1 h y (and_r (in_range 1 h x) (in_range 1 h y) q) in
            ⊎_elim (λ w. absurd (omega (arith, many, a.1, w.0))) (λ w. of_range 1 (h - (p - e)) x a.0 (omega (arith, many, a.0, b.1, w.1))) (sub_small p x e hx he)

        back : in_range 1 (h - (p - e)) x ≡ true → (in_range 1 h x && in_range 1 h y) ≡ true
        back q =
            let a = range_of 1 (h - (p - e)) x q in
            ⊎_elim
            (λ w. absurd (omega (arith, many, a.1, w.0)))
            (λ w. and_i (in_range 1 h x) (in_range 1 h y) (of_range 1 h x a.0 (omega (arith, a.1))) (of_range 1 h y (omega (arith, a.0, w.1)) (omega (arith, a.0, a.1, w.1))))
            (sub_small p x e hx he)

pub overlap_count : (p h e : ℕ) → p ≡ 2 * h + 1 → e < p → sum_to p (λ x. when (in_range 1 h x && in_range 1 h ((x + p - e) % p)) 1) + distance p e ≡ h
overlap_count p h e size he = ⊎_elim near far (flag (leb e (p - e)))
  where
    near : leb e (p - e) ≡ true → sum_to p (λ x. when (in_range 1 h x && in_range 1 h ((x + p - e) % p)) 1) + distance p e ≡ h
    near t =
        omega (
          arith,
          leb-true e (p - e) t,
          sum_ext p (λ x. when (in_range 1 h x && in_range 1 h ((x + p - e) % p)) 1) (λ x. when (in_range (1 + e) (h - e) x) 1) (λ x l. ap (λ (b : Bool). when b 1) (overlap p h e x size he l ∙ ap (λ (b : Bool). pick b (in_range (1 + e) (h - e) x) (in_range 1 (h - (p - e)) x)) t)),
          range_count p (1 + e) (h - e) (omega (arith, leb-true e (p - e) t)),
          ap (λ (b : Bool). pick b e (p - e)) t,
        )

    far : leb e (p - e) ≡ false → sum_to p (λ x. when (in_range 1 h x && in_range 1 h ((x + p - e) % p)) 1) + distance p e ≡ h
    far t =
        omega (
          arith,
          leb-false e (p - e) t,
          sum_ext p (λ x. when (in_range 1 h x && in_range 1 h ((x + p - e) % p)) 1) (λ x. when (in_range 1 (h - (p - e)) x) 1) (λ x l. ap (λ (b : Bool). when b 1) (overlap p h e x size he l ∙ ap (λ (b : Bool). pick b (in_range (1 + e) (h - e) x) (in_range 1 (h - (p - e)) x)) t)),
          range_count p 1 (h - (p - e)) (omega arith),
          ap (λ (b : Bool). pick b e (p - e)) t,
        )

-- the walk a, a + g, a + 2g, ..
module _ (p : ℕ) (ok : Prime p) (a g : ℕ) (low : 0 < g) (high : g < p) where
  some : 0 < p
  some = omega arith

  -- a sum over all rows is a sum over all places of the walk
  pub sum_walk : (u : ℕ → ℕ) → sum_to p (λ x. u ((a + g * x) % p)) ≡ sum_to p u
  sum_walk u = sum_permuted p (λ x. (a + g * x) % p) (λ t l. visits p ok a g t low high l) (λ i j l m e. once p ok a g i j low high l m e) (λ x l. mod-lt (a + g * x) some) u

  -- the rows that n steps come to are the places 1 to n
  pub in_steps_lem : (n x : ℕ) → n < p → x < p → in_steps n p a g ((a + g * x) % p) ≡ in_range 1 n x
  unfolding in_steps
  in_steps_lem zero x hn hx = sym (range_zero 1 x)
  in_steps_lem (suc n) x hn hx =
      ap₂ ◌||◌ (eqb_same ((a + g * x) % p) ((a + g * suc n) % p) x (suc n) (λ e. once p ok a g x (suc n) low high hx hn e) (λ e. ap (λ (y : ℕ). (a + g * y) % p) e)) (in_steps_lem n x (omega arith) hx)
      ∙ same_flag (eqb x (suc n) || in_range 1 n x) (in_range 1 (suc n) x) there back
    where
      there : (eqb x (suc n) || in_range 1 n x) ≡ true → in_range 1 (suc n) x ≡ true
      there t =
          ⊎_elim
          (λ q. let e = eqb-true x (suc n) q in of_range 1 (suc n) x (omega arith) (omega arith))
          (λ q. let r = range_of 1 n x q in of_range 1 (suc n) x r.0 (omega (arith, r.1)))
          (or_cases (eqb x (suc n)) (in_range 1 n x) t)

      back : in_range 1 (suc n) x ≡ true → (eqb x (suc n) || in_range 1 n x) ≡ true
      back t =
          let r = range_of 1 (suc n) x t in
          ⊎_elim
          (λ e. or_l (eqb x (suc n)) (in_range 1 n x) (eq-eqb x (suc n) e))
          (λ l. or_r (eqb x (suc n)) (in_range 1 n x) (of_range 1 n x r.0 (omega arith)))
          (eq_or_lt x (suc n) (omega (arith, r.1)))
