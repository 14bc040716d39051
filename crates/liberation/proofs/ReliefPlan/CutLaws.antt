-- Flags round a circle of p = 2h + 1 places: J holds at t of them. A s counts the places where J
-- holds both there and s further on, X s those where R holds there and J holds s further on.
-- Over all s the A s are t² together, A 0 is t and A (p - s) is A s, so A 1 to A h are t(t - 1)/2
-- together.
-- If R holds just where J does not, X s is t - A s. If they differ from that by R holding at j + 1
-- too, where J holds, and not at j, where J does not, then X 1 to X h are no more together, nor are
-- X (p - 1) to X (p - h): the changes cancel but for the ends.
use mathlib.Core.Path.{◌≡◌, refl, sym, ap, ap₂, ◌∙◌}
use mathlib.Core.Bool.{Bool, true, false, ◌&&◌}
use Prim.Native.Nat.{ℕ, suc, ◌+◌, ◌-◌, ◌*◌, ◌%◌, ◌≤◌, ◌<◌}
use native.Mathlib.Nat.{mod-mod, mod-add-mod, mod-eq_of_lt, add-mod_right, add_comm}
use native.Mathlib.Omega.{arith}
use lib.Dec.{eqb}
use Rattle.mathematics.specs.Choice.{when}
use Rattle.mathematics.specs.Sums.{sum_to}
use Rattle.mathematics.proofs.ChoiceLaws.{when_most}
use Rattle.mathematics.proofs.SumLaws.{sum_suc, sum_ext, sum_add, sum_scale, sum_const, sum_swap, sum_split, sum_first}
use Rattle.mathematics.proofs.ShiftLaws.{sum_reversed, sum_shifted, sum_times, sum_at, when_and}

square : (b : Bool) → when b 1 * when b 1 ≡ when b 1
square true = refl
square false = refl

times_when : (b : Bool) (n : ℕ) → when b 1 * n ≡ when b n
times_when true n = omega arith
times_when false n = omega arith

-- a row of numbers, and the same one on
one_on : (n : ℕ) (g : ℕ → ℕ) → g 0 + sum_to n (λ i. g (suc i)) ≡ sum_to n g + g n
one_on n g = sym (sum_first n g) ∙ sum_suc n g

module _ (p h : ℕ) (size : p ≡ 2 * h + 1) (J : ℕ → Bool) where
  some : 0 < p
  some = omega arith

  pub w : ℕ → ℕ
  w i = when (J (i % p)) 1

  pub held : ℕ
  held = sum_to p w

  pub alike : ℕ → ℕ
  alike s = sum_to p (λ r. w r * w (r + s))

  pub w_at : (i : ℕ) → i < p → w i ≡ when (J i) 1
  unfolding w
  w_at i l = ap (λ (x : ℕ). when (J x) 1) (mod-eq_of_lt l)

  pub held_is : held ≡ sum_to p (λ i. when (J i) 1)
  unfolding held
  held_is = sum_ext p w (λ i. when (J i) 1) w_at

  w_mod : (i : ℕ) → w (i % p) ≡ w i
  unfolding w
  w_mod i = ap (λ (x : ℕ). when (J x) 1) (mod-mod i p)

  w_add : (i s : ℕ) → w (i % p + s) ≡ w (i + s)
  unfolding w
  w_add i s = ap (λ (x : ℕ). when (J x) 1) (mod-add-mod i p s)

  pub w_turn : (i : ℕ) → w (i + p) ≡ w i
  unfolding w
  w_turn i = ap (λ (x : ℕ). when (J x) 1) (add-mod_right i p)

  pub w_most : (i : ℕ) → w i ≤ 1
  unfolding w
  w_most i = when_most (J (i % p))

  pub shifted : (s : ℕ) → sum_to p (λ r. w (r + s)) ≡ held
  unfolding held
  shifted s = sum_ext p (λ r. w (r + s)) (λ r. w ((r + s) % p)) (λ r l. sym (w_mod (r + s))) ∙ sum_shifted p s some w

  all_alike : sum_to p alike ≡ held * held
  unfolding alike held
  all_alike =
      sum_swap p p (λ s r. w r * w (r + s))
      ∙ sum_ext p (λ r. sum_to p (λ s. w r * w (r + s))) (λ r. w r * held) (λ r l. sum_scale p (w r) (λ s. w (r + s)) ∙ ap (λ (x : ℕ). w r * x) (sum_ext p (λ s. w (r + s)) (λ s. w (s + r)) (λ s m. ap w (add_comm r s)) ∙ shifted r))
      ∙ sum_times p held w

  alike_zero : alike 0 ≡ held
  unfolding alike held w
  alike_zero = sum_ext p (λ r. w r * w (r + 0)) w (λ r l. let e : r + 0 ≡ r = omega arith in ap (λ (x : ℕ). w r * w x) e ∙ square (J (r % p)))

  alike_turn : (s : ℕ) → s ≤ p → alike (p - s) ≡ alike s
  unfolding alike
  alike_turn s l =
      sym (sum_shifted p s some (λ r. w r * w (r + (p - s))))
      ∙ sum_ext p (λ r. w ((r + s) % p) * w ((r + s) % p + (p - s))) (λ r. w r * w (r + s))
      (λ r m. let e : r + s + (p - s) ≡ r + p = omega arith in ap₂ ◌*◌ (w_mod (r + s)) (w_add (r + s) (p - s) ∙ ap w e ∙ w_turn r) ∙ omega arith)

  pub half_alike : 2 * sum_to h (λ i. alike (suc i)) + held ≡ held * held
  half_alike =
      let whole : p ≡ suc (h + h) = omega arith in
      omega (
        arith,
        all_alike,
        ap (λ (n : ℕ). sum_to n alike) whole,
        sum_first (h + h) alike,
        alike_zero,
        sum_split h h (λ i. alike (suc i)),
        sum_ext h (λ i. alike (suc (h + i))) (λ i. alike (suc (h - 1 - i))) (λ i l. let e : p - suc (h + i) ≡ suc (h - 1 - i) = omega arith in sym (alike_turn (suc (h + i)) (omega arith)) ∙ ap alike e),
        sum_reversed h (λ i. alike (suc i)),
      )

  module _ (R : ℕ → Bool) where
    pub met : ℕ → ℕ
    met s = sum_to p (λ r. when (R r) 1 * w (r + s))

    pub met_is : (s : ℕ) → met s ≡ sum_to p (λ r. when (R r && J ((r + s) % p)) 1)
    unfolding met w
    met_is s = sum_ext p (λ r. when (R r) 1 * w (r + s)) (λ r. when (R r && J ((r + s) % p)) 1) (λ r l. sym (when_and (R r) (J ((r + s) % p))))

    -- R holds just where J does not
    module _ (rows : (r : ℕ) → r < p → when (R r) 1 + w r ≡ 1) where
      met_plain : (s : ℕ) → met s + alike s ≡ held
      unfolding met alike
      met_plain s =
          sym (sum_add p (λ r. when (R r) 1 * w (r + s)) (λ r. w r * w (r + s)))
          ∙ sum_ext p (λ r. when (R r) 1 * w (r + s) + w r * w (r + s)) (λ r. w (r + s)) (λ r l. omega (arith, ap (λ (x : ℕ). x * w (r + s)) (rows r l)))
          ∙ shifted s

      plain_on : (g : ℕ → ℕ) → sum_to h (λ i. met (g i)) + sum_to h (λ i. alike (g i)) ≡ h * held
      plain_on g = sym (sum_add h (λ i. met (g i)) (λ i. alike (g i))) ∙ sum_ext h (λ i. met (g i) + alike (g i)) (λ i. held) (λ i l. met_plain (g i)) ∙ sum_const h held

      pub plain_few : sum_to h (λ i. met (suc i)) + sum_to h (λ i. alike (suc i)) ≤ h * held
      plain_few = omega (arith, plain_on (λ i. suc i))

      pub plain_few_back : sum_to h (λ i. met (p - suc i)) + sum_to h (λ i. alike (suc i)) ≤ h * held
      plain_few_back = omega (arith, plain_on (λ i. p - suc i), sum_ext h (λ i. alike (p - suc i)) (λ i. alike (suc i)) (λ i m. alike_turn (suc i) (omega arith)))

    -- R holds at j + 1 too, where J holds, and not at j, where J does not
    module _ (j : ℕ) (l : suc j < p) (rows : (r : ℕ) → r < p → when (R r) 1 + w r + when (eqb r j) 1 ≡ 1 + when (eqb r (suc j)) 1) where
      met_moved : (s : ℕ) → met s + alike s + w (j + s) ≡ held + w (suc j + s)
      unfolding met alike
      met_moved s =
          omega (
            arith,
            sum_add p (λ r. when (R r) 1 * w (r + s)) (λ r. w r * w (r + s)),
            sum_add p (λ r. when (R r) 1 * w (r + s) + w r * w (r + s)) (λ r. when (eqb r j) (w (r + s))),
            sum_add p (λ r. w (r + s)) (λ r. when (eqb r (suc j)) (w (r + s))),
            sum_at p j (λ r. w (r + s)) (omega arith),
            sum_at p (suc j) (λ r. w (r + s)) l,
            shifted s,
            sum_ext p (λ r. when (R r) 1 * w (r + s) + w r * w (r + s) + when (eqb r j) (w (r + s))) (λ r. w (r + s) + when (eqb r (suc j)) (w (r + s))) (λ r m. omega (arith, ap (λ (x : ℕ). x * w (r + s)) (rows r m), times_when (eqb r j) (w (r + s)), times_when (eqb r (suc j)) (w (r + s)))),
          )

      moved_on : (g : ℕ → ℕ) → sum_to h (λ i. met (g i)) + sum_to h (λ i. alike (g i)) + sum_to h (λ i. w (j + g i)) ≡ h * held + sum_to h (λ i. w (suc j + g i))
      moved_on g =
          omega (
            arith,
            sum_add h (λ i. met (g i)) (λ i. alike (g i)),
            sum_add h (λ i. met (g i) + alike (g i)) (λ i. w (j + g i)),
            sum_add h (λ i. held) (λ i. w (suc j + g i)),
            sum_const h held,
            sum_ext h (λ i. met (g i) + alike (g i) + w (j + g i)) (λ i. held + w (suc j + g i)) (λ i m. met_moved (g i)),
          )

      pub moved_few : w (suc j) ≡ 1 → sum_to h (λ i. met (suc i)) + sum_to h (λ i. alike (suc i)) ≤ h * held
      moved_few e =
          let first : suc j + 0 ≡ suc j = omega arith in
          omega (
            arith,
            e,
            moved_on (λ i. suc i),
            sum_ext h (λ i. w (j + suc i)) (λ i. w (suc j + i)) (λ i m. let q : j + suc i ≡ suc j + i = omega arith in ap w q),
            one_on h (λ i. w (suc j + i)),
            ap w first,
            w_most (suc j + h),
          )

      pub moved_few_back : w j ≡ 0 → sum_to h (λ i. met (p - suc i)) + sum_to h (λ i. alike (suc i)) ≤ h * held
      moved_few_back e =
          let first : j + p - 0 ≡ j + p = omega arith in
          omega (
            arith,
            e,
            moved_on (λ i. p - suc i),
            sum_ext h (λ i. alike (p - suc i)) (λ i. alike (suc i)) (λ i m. alike_turn (suc i) (omega arith)),
            sum_ext h (λ i. w (j + (p - suc i))) (λ i. w (j + p - suc i)) (λ i m. let q : j + (p - suc i) ≡ j + p - suc i = omega arith in ap w q),
            sum_ext h (λ i. w (suc j + (p - suc i))) (λ i. w (j + p - i)) (λ i m. let q : suc j + (p - suc i) ≡ j + p - i = omega arith in ap w q),
            one_on h (λ i. w (j + p - i)),
            ap w first,
            w_turn j,
          )
