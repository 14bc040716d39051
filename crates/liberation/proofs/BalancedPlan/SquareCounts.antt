-- How many squares there are modulo an odd prime p, (p - 1)/2, and how many squares x have x - d as
-- a square too, for d that p does not divide: 4 times that is p - 1, less 2 if d is a square, less
-- 2 if -d is one.
-- A square has two roots, 0 has one, other numbers have none. So the pairs (y, z) with y² - z² = d
-- are four for each such x, two if d is a square (z = 0) and two if -d is one (y = 0).
-- Such a pair is told by y + z = u, which is not 0, as 2 u y = u² + d; and every other u has one.
-- So there are p - 1 of them.
use mathlib.Core.Path.{◌≡◌, refl, sym, ap, ap₂, ◌∙◌}
use mathlib.Core.Bool.{Bool, true, false, ◌&&◌, ◌||◌}
use mathlib.Core.Logic.{⊎_elim}
use Prim.Native.Nat.{ℕ, suc, ◌+◌, ◌-◌, ◌*◌, ◌/◌, ◌%◌, ◌≤◌, ◌<◌}
use native.Mathlib.Nat.{mod-lt, mod-mod, mod-eq_of_lt, mod_self, add-mod-mod, add-mod_right, one-mul}
use native.Mathlib.Omega.{arith}
use lib.Dec.{eqb}
use borrow.Author.Tests.{eqb-true, eqb-false, eq-eqb, ne_eqb}
use Rattle.mathematics.specs.Choice.{when}
use Rattle.mathematics.specs.Sums.{sum_to}
use Rattle.mathematics.proofs.Flags.{flag, clash, same_flag, or_cases, or_l, or_r}
use Rattle.mathematics.proofs.Modulo.{mul_mod_l, add_small, cong_add, cong_mul, small_eq}
use Rattle.mathematics.proofs.OrderLaws.{eq_or_ne}
use Rattle.mathematics.proofs.Primes.{Prime, add_cancel, visits, once}
use Rattle.mathematics.proofs.Residues.{sub_small}
use Rattle.mathematics.proofs.SumLaws.{sum_ext, sum_add, sum_scale, sum_const, sum_swap, sum_none, sum_single, sum_first, sum_more}
use Rattle.mathematics.proofs.ShiftLaws.{sum_shifted, sum_at, when_and}
use Rattle.mathematics.proofs.TestLaws.{eqb_same}
use Rattle.liberation.specs.BalancedPlan.Squares.{is_square, squares, squares_apart}
use Rattle.liberation.proofs.BalancedPlan.SquareLaws.{sub_back, root, mirror, square_of, square_zero, not_zero, root_once}

-- a flag that holds at two numbers
sum_two : (n a b : ℕ) (u : ℕ → Bool) → a < n → b < n → (a ≡ b → ⊥) → ((i : ℕ) → i < n → u i ≡ (eqb i a || eqb i b)) → sum_to n (λ i. when (u i) 1) ≡ 2
sum_two n a b u ha hb d e =
    sum_ext n (λ i. when (u i) 1) (λ i. when (eqb i a || eqb i b) 1) (λ i l. ap (λ (x : Bool). when x 1) (e i l))
    ∙ sum_more n a (λ i. eqb i b) ha (ne_eqb a b d)
    ∙ ap (λ (x : ℕ). 1 + x) (sum_at n b (λ i. 1) hb)

-- a number times 0/1 of a flag
times_when : (b : Bool) (n : ℕ) → n * when b 1 ≡ when b n
times_when true n = omega arith
times_when false n = omega arith

-- two roots or one, times two roots or one
four : (s o t q : Bool) → (2 * when t 1 + when q 1) * (2 * when s 1 + when o 1) ≡ 4 * when (s && t) 1 + 2 * when q (when s 1) + 2 * when o (when t 1) + when o (when q 1)
four s o t q = omega (arith, when_and s t, times_when q (when s 1), times_when o (when t 1), times_when o (when q 1))

-- a sum over the values of s, each as often as s takes it
sum_values : (n : ℕ) (s : ℕ → ℕ) (g : ℕ → ℕ) → ((y : ℕ) → y < n → s y < n) → sum_to n (λ x. g x * sum_to n (λ y. when (eqb x (s y)) 1)) ≡ sum_to n (λ y. g (s y))
sum_values n s g within =
    sum_ext n (λ x. g x * sum_to n (λ y. when (eqb x (s y)) 1)) (λ x. sum_to n (λ y. g x * when (eqb x (s y)) 1)) (λ x l. sym (sum_scale n (g x) (λ y. when (eqb x (s y)) 1)))
    ∙ sum_swap n n (λ x y. g x * when (eqb x (s y)) 1)
    ∙ sum_ext n (λ y. sum_to n (λ x. g x * when (eqb x (s y)) 1)) (λ y. g (s y)) (λ y l. sum_ext n (λ x. g x * when (eqb x (s y)) 1) (λ x. when (eqb x (s y)) (g x)) (λ x m. times_when (eqb x (s y)) (g x)) ∙ sum_at n (s y) g (within y l))

module _ (p : ℕ) (ok : Prime p) (odd : p % 2 ≡ 1) where
  some : 0 < p
  some = omega (arith, ok.large)

  -- how many roots x has
  roots : ℕ → ℕ
  roots x = sum_to p (λ y. when (eqb x (y * y % p)) 1)

  -- a's square is that of a and of p - a only
  same_square : (a y : ℕ) → 1 ≤ a → a ≤ p - 1 → y < p → eqb (a * a % p) (y * y % p) ≡ (eqb y a || eqb y (p - a))
  same_square a y low high l = same_flag (eqb (a * a % p) (y * y % p)) (eqb y a || eqb y (p - a)) there back
    where
      there : eqb (a * a % p) (y * y % p) ≡ true → (eqb y a || eqb y (p - a)) ≡ true
      there t =
          ⊎_elim
          (λ q. or_r (eqb y a) (eqb y (p - a)) (eq-eqb y (p - a) (⊎_elim (λ e. omega arith) (λ e. omega arith) (add_small p y a l (omega arith)))))
          (λ q. or_l (eqb y a) (eqb y (p - a)) (eq-eqb y a (small_eq p y a l (omega arith) (root_once p ok y a q (sym (eqb-true (a * a % p) (y * y % p) t))))))
          (eq_or_ne ((y + a) % p) 0)

      back : (eqb y a || eqb y (p - a)) ≡ true → eqb (a * a % p) (y * y % p) ≡ true
      back t =
          eq-eqb (a * a % p) (y * y % p)
          (⊎_elim (λ q. ap (λ (z : ℕ). z * z % p) (sym (eqb-true y a q))) (λ q. sym (mirror p a (omega arith)) ∙ ap (λ (z : ℕ). z * z % p) (sym (eqb-true y (p - a) q))) (or_cases (eqb y a) (eqb y (p - a)) t))

  -- a square has two roots, 0 has one, and other numbers have none
  roots_count : (x : ℕ) → roots x ≡ 2 * when (is_square p x) 1 + when (eqb x 0) 1
  unfolding roots
  roots_count x = go (is_square p x) (eqb x 0) refl refl
    where
      -- a root that is not 0 makes x a square
      none : is_square p x ≡ false → (y : ℕ) → y < p → (y ≡ 0 → ⊥) → x ≡ y * y % p → ⊥
      none h y l n e = clash (is_square p x) (ap (is_square p) e ∙ square_of p y some (λ q. n (sym (mod-eq_of_lt l) ∙ q))) h

      go : (b c : Bool) → is_square p x ≡ b → eqb x 0 ≡ c → sum_to p (λ y. when (eqb x (y * y % p)) 1) ≡ 2 * when b 1 + when c 1
      go true true h e = clash (is_square p 0) (ap (is_square p) (sym (eqb-true x 0 e)) ∙ h) (square_zero p ok)
      go true false h e =
          let w = root p x h in
          let low = w.1 in
          let high = w.2 in
          sum_two p w.0 (p - w.0) (λ y. eqb x (y * y % p)) (omega (arith, some)) (omega arith) (λ q. omega arith) (λ y l. ap (λ (z : ℕ). eqb z (y * y % p)) w.3 ∙ same_square w.0 y low high l)
      go false true h e =
          sum_single p 0 (λ y. when (eqb x (y * y % p)) 1) some (λ y l n. ap (λ (b : Bool). when b 1) (ne_eqb x (y * y % p) (none h y l n)))
          ∙ ap (λ (b : Bool). when b 1) (eq-eqb x (0 * 0 % p) (eqb-true x 0 e ∙ sym (mod-eq_of_lt some)))
      go false false h e =
          sum_none p (λ y. when (eqb x (y * y % p)) 1)
          (λ y l. ap (λ (b : Bool). when b 1) (ne_eqb x (y * y % p) (λ q. none h y l (λ z. eqb-false x 0 e (q ∙ ap (λ (v : ℕ). v * v % p) z ∙ mod-eq_of_lt some)) q)))

  -- so half of the numbers from 1 to p - 1 are squares
  pub squares_count : squares p ≡ (p - 1) / 2
  unfolding squares roots
  squares_count =
      omega (
        arith,
        sum_values p (λ y. y * y % p) (λ x. 1) (λ y l. mod-lt (y * y) some),
        sum_const p 1,
        sum_ext p (λ x. 1 * roots x) (λ x. 2 * when (is_square p x) 1 + when (eqb x 0) 1) (λ x l. one-mul (roots x) ∙ roots_count x),
        sum_add p (λ x. 2 * when (is_square p x) 1) (λ x. when (eqb x 0) 1),
        sum_scale p 2 (λ x. when (is_square p x) 1),
        sum_at p 0 (λ x. 1) some,
      )

  module _ (d : ℕ) (low : 0 < d) (high : d < p) where
    -- y² is z² + d
    pair : ℕ → ℕ → Bool
    pair y z = eqb ((y * y % p + p - d) % p) (z * z % p)

    pair_eq : (y z : ℕ) → pair y z ≡ true → y * y % p ≡ (d + z * z) % p
    unfolding pair
    pair_eq y z h =
        sym (sub_back p d (y * y % p) (omega arith) ∙ mod-mod (y * y) p)
        ∙ cong_add p d d ((y * y % p + p - d) % p) (z * z) refl (mod-mod (y * y % p + p - d) p ∙ eqb-true ((y * y % p + p - d) % p) (z * z % p) h)

    eq_pair : (y z : ℕ) → y * y % p ≡ (d + z * z) % p → pair y z ≡ true
    unfolding pair
    eq_pair y z e =
        eq-eqb ((y * y % p + p - d) % p) (z * z % p)
        (sym (mod-mod (y * y % p + p - d) p) ∙ add_cancel p d ((y * y % p + p - d) % p) (z * z) some (sub_back p d (y * y % p) (omega arith) ∙ mod-mod (y * y) p ∙ e))

    -- the z for which y + z = u
    other : ℕ → ℕ → ℕ
    other u y = (u + (p - y)) % p

    other_sum : (u y : ℕ) → u < p → y < p → (y + other u y) % p ≡ u
    unfolding other
    other_sum u y hu hy =
        let e : y + (u + (p - y)) ≡ u + p = omega arith in
        add-mod-mod y (u + (p - y)) p ∙ ap (λ (x : ℕ). x % p) e ∙ add-mod_right u p ∙ mod-eq_of_lt hu

    -- with y + z = u it is a pair exactly if u² + d = 2 u y
    pair_linear : (u y z : ℕ) → (y + z) % p ≡ u % p → y * y % p ≡ (d + z * z) % p → (u * u + d) % p ≡ 2 * u * y % p
    pair_linear u y z e q =
        cong_add p (u * u) ((y + z) * (y + z)) d d (sym (cong_mul p (y + z) u (y + z) u e e)) refl
        ∙ ap (λ (x : ℕ). x % p) (omega arith)
        ∙ cong_add p (d + z * z) (y * y) (y * y + 2 * (y * z)) (y * y + 2 * (y * z)) (sym q) refl
        ∙ ap (λ (x : ℕ). x % p) (omega arith)
        ∙ cong_mul p (y + z) u (2 * y) (2 * y) e refl
        ∙ ap (λ (x : ℕ). x % p) (omega arith)

    linear_pair : (u y z : ℕ) → (y + z) % p ≡ u % p → (u * u + d) % p ≡ 2 * u * y % p → y * y % p ≡ (d + z * z) % p
    linear_pair u y z e q =
        add_cancel p (y * y + 2 * (y * z)) (y * y) (d + z * z) some
        (ap (λ (x : ℕ). x % p) (omega arith)
        ∙ cong_mul p (y + z) u (2 * y) (2 * y) e refl
        ∙ ap (λ (x : ℕ). x % p) (omega arith)
        ∙ sym q
        ∙ cong_add p (u * u) ((y + z) * (y + z)) d d (sym (cong_mul p (y + z) u (y + z) u e e)) refl
        ∙ ap (λ (x : ℕ). x % p) (omega arith))

    -- the pairs with y + z = u
    pairs_at : ℕ → ℕ
    pairs_at u = sum_to p (λ y. when (pair y (other u y)) 1)

    -- none for u = 0: d would be 0
    pairs_zero : pairs_at 0 ≡ 0
    unfolding pairs_at
    pairs_zero = sum_none p (λ y. when (pair y (other 0 y)) 1) (λ y l. ⊎_elim (λ h. absurd (omega (arith, gone y l h))) (λ h. ap (λ (b : Bool). when b 1) h) (flag (pair y (other 0 y))))
      where
        gone : (y : ℕ) → y < p → pair y (other 0 y) ≡ true → d ≡ 0
        gone y l h =
            let first : d ≡ 0 * 0 + d = omega arith in
            let last : 2 * 0 * y ≡ 0 = omega arith in
            sym (mod-eq_of_lt high)
            ∙ ap (λ (x : ℕ). x % p) first
            ∙ pair_linear 0 y (other 0 y) (other_sum 0 y some l ∙ sym (mod-eq_of_lt some)) (pair_eq y (other 0 y) h)
            ∙ ap (λ (x : ℕ). x % p) last
            ∙ mod-eq_of_lt some

    -- one for every other u: 2 u can be divided out
    pairs_one : (u : ℕ) → 0 < u → u < p → pairs_at u ≡ 1
    unfolding pairs_at
    pairs_one u hu ku =
        let w = visits p ok 0 (2 * u % p) ((u * u + d) % p) positive (mod-lt (2 * u) some) (mod-lt (u * u + d) some) in
        sum_single p w.0 (λ y. when (pair y (other u y)) 1) w.1
        (λ y l n. ⊎_elim (λ h. absurd (n (once p ok 0 (2 * u % p) y w.0 positive (mod-lt (2 * u) some) l w.1 (walked y ∙ sym (pair_linear u y (other u y) (there y l) (pair_eq y (other u y) h)) ∙ sym w.2)))) (λ h. ap (λ (b : Bool). when b 1) h) (flag (pair y (other u y))))
        ∙ ap (λ (b : Bool). when b 1) (eq_pair w.0 (other u w.0) (linear_pair u w.0 (other u w.0) (there w.0 w.1) (sym w.2 ∙ walked w.0)))
      where
        there : (y : ℕ) → y < p → (y + other u y) % p ≡ u % p
        there y l = other_sum u y ku l ∙ sym (mod-eq_of_lt ku)

        positive : 0 < 2 * u % p
        positive =
            let n : 2 * u % p ≡ 0 → ⊥ = not_zero p ok 2 u (λ e. omega (arith, mod-eq_of_lt {n = 2} {m = p} (omega (arith, ok.large)))) (λ e. omega (arith, mod-eq_of_lt ku)) in
            omega arith

        walked : (y : ℕ) → (0 + 2 * u % p * y) % p ≡ 2 * u * y % p
        walked y = ap (λ (x : ℕ). x % p) (omega arith) ∙ mul_mod_l (2 * u) y p

    -- all pairs
    pairs_all : sum_to p (λ y. sum_to p (λ z. when (pair y z) 1)) ≡ p - 1
    unfolding pairs_at other
    pairs_all =
        sum_ext p (λ y. sum_to p (λ z. when (pair y z) 1)) (λ y. sum_to p (λ u. when (pair y (other u y)) 1)) (λ y l. sym (sum_shifted p (p - y) some (λ z. when (pair y z) 1)))
        ∙ sum_swap p p (λ y u. when (pair y (other u y)) 1)
        ∙ by_rest (p - 1) (omega (arith, some))
      where
        by_rest : (m : ℕ) → p ≡ suc m → sum_to p pairs_at ≡ m
        by_rest m e =
            omega (
              arith,
              ap (λ (n : ℕ). sum_to n pairs_at) e,
              sum_first m pairs_at,
              pairs_zero,
              sum_ext m (λ i. pairs_at (suc i)) (λ i. 1) (λ i l. pairs_one (suc i) (omega arith) (omega arith)),
              sum_const m 1,
            )

    -- x - d
    less : ℕ → ℕ
    less x = (x + p - d) % p

    less_zero : (x : ℕ) → x < p → eqb (less x) 0 ≡ eqb x d
    unfolding less
    less_zero x l =
        eqb_same ((x + p - d) % p) 0 x d
        (λ e. ⊎_elim (λ w. omega arith) (λ w. omega arith) (sub_small p x d l high))
        (λ e. let q : x + p - d ≡ p = omega arith in ap (λ (y : ℕ). y % p) q ∙ mod_self p)

    -- 4 times the pairs of squares that are d apart
    pub apart_exact : 4 * squares_apart p d + 2 * when (is_square p d) 1 + 2 * when (is_square p (p - d)) 1 ≡ p - 1
    unfolding squares_apart roots pair less
    apart_exact =
        omega (
          arith,
          sum_values p (λ y. y * y % p) (λ x. roots (less x)) (λ y l. mod-lt (y * y) some),
          pairs_all,
          sum_ext p (λ x. roots (less x) * roots x) (λ x. 4 * both x + 2 * at_d x + 2 * at_zero x + at_none x) (λ x l. ap₂ ◌*◌ (roots_count (less x) ∙ ap (λ (b : Bool). 2 * when (is_square p (less x)) 1 + when b 1) (less_zero x l)) (roots_count x) ∙ four (is_square p x) (eqb x 0) (is_square p (less x)) (eqb x d)),
          sum_add p (λ x. 4 * both x + 2 * at_d x + 2 * at_zero x) at_none,
          sum_add p (λ x. 4 * both x + 2 * at_d x) (λ x. 2 * at_zero x),
          sum_add p (λ x. 4 * both x) (λ x. 2 * at_d x),
          sum_scale p 4 both,
          sum_scale p 2 at_d,
          sum_scale p 2 at_zero,
          sum_at p d (λ x. when (is_square p x) 1) high,
          sum_at p 0 (λ x. when (is_square p (less x)) 1) some,
          sum_at p 0 (λ x. when (eqb x d) 1) some,
          ap (λ (b : Bool). when b 1) (ne_eqb 0 d (λ e. omega arith)),
          ap (λ (x : ℕ). when (is_square p x) 1) turned,
        )
      where
        both : ℕ → ℕ
        both x = when (is_square p x && is_square p (less x)) 1

        at_d : ℕ → ℕ
        at_d x = when (eqb x d) (when (is_square p x) 1)

        at_zero : ℕ → ℕ
        at_zero x = when (eqb x 0) (when (is_square p (less x)) 1)

        at_none : ℕ → ℕ
        at_none x = when (eqb x 0) (when (eqb x d) 1)

        turned : less 0 ≡ p - d
        turned = let q : 0 + p - d ≡ p - d = omega arith in ap (λ (x : ℕ). x % p) q ∙ mod-eq_of_lt (omega arith)

    -- so at most (p - 1)/4 squares x have x - d as a square
    pub apart_few : 4 * squares_apart p d ≤ p - 1
    apart_few = omega (arith, apart_exact)
