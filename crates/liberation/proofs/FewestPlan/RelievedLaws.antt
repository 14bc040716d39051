-- What progression plans relieve: the sum over the disks of a walk, told by disk; the same for step
-- p - g as for g; and over all steps together, k times the sum of all distances.
use mathlib.Core.Path.{◌≡◌, refl, sym, ap, ap₂, ◌∙◌}
use mathlib.Core.Bool.{Bool, true, false}
use mathlib.Core.Logic.{⊎_elim}
use Prim.Native.Nat.{ℕ, suc, ◌+◌, ◌-◌, ◌*◌, ◌%◌, ◌≤◌, ◌<◌}
use native.Mathlib.Nat.{mod-lt, mod-eq_of_lt, mod_self, add-mod_right, mul-add-mod_self_left, mul_comm, mul-le-mul_left}
use native.Mathlib.Omega.{arith}
use lib.Dec.{ltb}
use borrow.Author.Tests.{lt-ltb, le-ltb, le-leb, lt-leb}
use Rattle.mathematics.specs.Choice.{pick, when}
use Rattle.mathematics.specs.Sums.{sum_to}
use Rattle.mathematics.proofs.Modulo.{mul_mod_r, cong_add, cong_mul}
use Rattle.mathematics.proofs.OrderLaws.{lt_or_le}
use Rattle.mathematics.proofs.Primes.{Prime, add_cancel}
use Rattle.mathematics.proofs.SumLaws.{sum_ext, sum_scale, sum_const, sum_mono, sum_swap, sum_none, sum_split, sum_first}
use Rattle.mathematics.proofs.ShiftLaws.{sum_reflected}
use Rattle.liberation.specs.ReliefPlan.Relief.{distance}
use Rattle.liberation.specs.FewestPlan.Fewest.{relieved_by}
use Rattle.liberation.proofs.ReliefPlan.ProgressionLaws.{sum_walk}

-- the distance as the lesser of the two
near : (p x : ℕ) → x ≤ p - x → distance p x ≡ x
near p x l = ap (λ (b : Bool). pick b x (p - x)) (le-leb x (p - x) l)

far : (p x : ℕ) → p - x < x → distance p x ≡ p - x
far p x l = ap (λ (b : Bool). pick b x (p - x)) (lt-leb x (p - x) l)

-- it is the same from the other side
distance_turn : (p x : ℕ) → x ≤ p → distance p (p - x) ≡ distance p x
distance_turn p x h =
    let back : p - (p - x) ≡ x = omega arith in
    ⊎_elim
    (λ l. near p (p - x) (omega arith) ∙ sym (far p x l))
    (λ l. ⊎_elim (λ m. far p (p - x) (omega arith) ∙ back ∙ sym (near p x l)) (λ m. let e : p - x ≡ x = omega arith in ap (distance p) e) (lt_or_le x (p - x)))
    (lt_or_le (p - x) x)

-- a sum over the numbers below k
sum_below_lem : (n k : ℕ) (u : ℕ → ℕ) → k ≤ n → sum_to n (λ i. when (ltb i k) (u i)) ≡ sum_to k u
sum_below_lem n k u h =
    let whole : n ≡ k + (n - k) = omega arith in
    omega (
      arith,
      ap (λ (m : ℕ). sum_to m (λ i. when (ltb i k) (u i))) whole,
      sum_split k (n - k) (λ i. when (ltb i k) (u i)),
      sum_ext k (λ i. when (ltb i k) (u i)) u (λ i l. ap (λ (b : Bool). when b (u i)) (lt-ltb i k l)),
      sum_none (n - k) (λ i. when (ltb (k + i) k) (u (k + i))) (λ i l. ap (λ (b : Bool). when b (u (k + i))) (le-ltb (k + i) k (omega arith))),
    )

-- steps p - g of the walk backward are steps g forward
turned : (p f g c : ℕ) → g ≤ p → c ≤ p → (f + (p - g) * (p - c)) % p ≡ (f + g * c) % p
turned p f g c hg hc = with_rest (p - g) (p - c) (omega arith) (omega arith)
  where
    with_rest : (m q : ℕ) → p ≡ m + g → p ≡ q + c → (f + m * q) % p ≡ (f + g * c) % p
    with_rest m q em eq =
        sym (mul-add-mod_self_left p c (f + m * q))
        ∙ ap (λ (x : ℕ). x % p) (omega (arith, ap (λ (x : ℕ). x * c) em, ap (λ (x : ℕ). x * m) eq))
        ∙ mul-add-mod_self_left p m (f + g * c)

pub relieved_turn : (p k f g : ℕ) → 0 < p → g ≤ p → relieved_by p k f (p - g) ≡ relieved_by p k f g
unfolding relieved_by
relieved_turn p k f g some h =
    sym (sum_reflected p 0 some (λ x. when (ltb ((f + (p - g) * x) % p) k) (distance p x)))
    ∙ sum_ext p (λ c. when (ltb ((f + (p - g) * ((0 + p - c) % p)) % p) k) (distance p ((0 + p - c) % p))) (λ c. when (ltb ((f + g * c) % p) k) (distance p c)) (λ c l. ap₂ (λ (x d : ℕ). when (ltb x k) d) (place c l) (away c l))
  where
    from : (c : ℕ) → 0 + p - c ≡ p - c
    from c = omega arith

    place : (c : ℕ) → c < p → (f + (p - g) * ((0 + p - c) % p)) % p ≡ (f + g * c) % p
    place c l = cong_add p f f ((p - g) * ((0 + p - c) % p)) ((p - g) * (p - c)) refl (mul_mod_r (p - g) (0 + p - c) p ∙ ap (λ (x : ℕ). (p - g) * x % p) (from c)) ∙ turned p f g c h (omega arith)

    away : (c : ℕ) → c < p → distance p ((0 + p - c) % p) ≡ distance p c
    away c l =
        ⊎_elim
        (λ m. ap (distance p) (ap (λ (x : ℕ). x % p) (from c) ∙ mod-eq_of_lt (omega arith)) ∙ distance_turn p c (omega arith))
        (λ m. let e : c ≡ 0 = omega arith in let q : 0 + p - c ≡ p = omega arith in ap (distance p) (ap (λ (x : ℕ). x % p) q ∙ mod_self p ∙ sym e))
        (lt_or_le 0 c)

-- m numbers, none above n, that are j times d together, 4 d being m(m + 2)
mean_of : (m j d n : ℕ) → 0 < m → 4 * d ≡ m * (m + 2) → suc j * d ≤ d + m * n → j * (m + 2) ≤ 4 * n
mean_of m j d n some e h =
    ⊎_elim
    (λ l. absurd (omega (arith, mul-le-mul_left m l, ap (λ (x : ℕ). j * x) e)))
    (λ l. l)
    (lt_or_le (4 * n) (j * (m + 2)))

-- all distances together
pub distances : ℕ → ℕ
distances p = sum_to p (distance p)

module _ (p : ℕ) (ok : Prime p) where
  some : 0 < p
  some = omega (arith, ok.large)

  -- disk by disk, r being the inverse of the step
  pub relieved_sum : (k f g r : ℕ) → k ≤ p → f < p → 0 < g → g < p → g * r % p ≡ 1 → relieved_by p k f g ≡ sum_to k (λ c. distance p (r * (c + p - f) % p))
  unfolding relieved_by
  relieved_sum k f g r most lost low high one =
      sum_ext p (λ x. when (ltb ((f + g * x) % p) k) (distance p x)) (λ x. u ((f + g * x) % p)) (λ x l. ap (λ (y : ℕ). when (ltb ((f + g * x) % p) k) (distance p y)) (sym (there x l)))
      ∙ sum_walk p ok f g low high u
      ∙ sum_below_lem p k (λ c. distance p (r * (c + p - f) % p)) most
    where
      u : ℕ → ℕ
      u c = when (ltb c k) (distance p (r * (c + p - f) % p))

      there : (x : ℕ) → x < p → r * ((f + g * x) % p + p - f) % p ≡ x
      there x l =
          let c = (f + g * x) % p in
          let whole : f + (c + p - f) ≡ c + p = omega arith in
          let d : (c + p - f) % p ≡ g * x % p = add_cancel p f (c + p - f) (g * x) some (ap (λ (y : ℕ). y % p) whole ∙ add-mod_right c p ∙ mod-eq_of_lt (mod-lt (f + g * x) some)) in
          cong_mul p r r (c + p - f) (g * x) refl d
          ∙ ap (λ (y : ℕ). y % p) (omega arith)
          ∙ cong_mul p (g * r) 1 x x (one ∙ sym (mod-eq_of_lt ok.large)) refl
          ∙ ap (λ (y : ℕ). y % p) (omega arith)
          ∙ mod-eq_of_lt l

  -- in a full array, and by the step 0, which is not taken
  pub relieved_full : (f g : ℕ) → relieved_by p p f g ≡ distances p
  unfolding relieved_by distances
  relieved_full f g = sum_ext p (λ x. when (ltb ((f + g * x) % p) p) (distance p x)) (distance p) (λ x l. ap (λ (b : Bool). when b (distance p x)) (lt-ltb ((f + g * x) % p) p (mod-lt (f + g * x) some)))

  relieved_none : (k f : ℕ) → k ≤ p → f < k → relieved_by p k f 0 ≡ distances p
  unfolding relieved_by distances
  relieved_none k f most h =
      sum_ext p (λ x. when (ltb ((f + 0 * x) % p) k) (distance p x)) (distance p)
      (λ x l. let e : f + 0 * x ≡ f = omega arith in ap (λ (b : Bool). when b (distance p x)) (lt-ltb ((f + 0 * x) % p) k (omega (arith, ap (λ (y : ℕ). y % p) e ∙ mod-eq_of_lt (omega arith)))))

  -- over all steps each distance counts once for each data disk
  relieved_all : (k f : ℕ) → k ≤ p → sum_to p (relieved_by p k f) ≡ k * distances p
  unfolding relieved_by distances
  relieved_all k f most =
      sum_swap p p (λ g x. when (ltb ((f + g * x) % p) k) (distance p x))
      ∙ sum_ext p (λ x. sum_to p (λ g. when (ltb ((f + g * x) % p) k) (distance p x))) (λ x. k * distance p x) (λ x l. ⊎_elim (walked x l) (λ m. still x (omega arith)) (lt_or_le 0 x))
      ∙ sum_scale p k (distance p)
    where
      walked : (x : ℕ) → x < p → 0 < x → sum_to p (λ g. when (ltb ((f + g * x) % p) k) (distance p x)) ≡ k * distance p x
      walked x l m =
          sum_ext p (λ g. when (ltb ((f + g * x) % p) k) (distance p x)) (λ g. when (ltb ((f + x * g) % p) k) (distance p x)) (λ g n. ap (λ (y : ℕ). when (ltb ((f + y) % p) k) (distance p x)) (mul_comm g x))
          ∙ sum_walk p ok f x m l (λ c. when (ltb c k) (distance p x))
          ∙ sum_below_lem p k (λ c. distance p x) most
          ∙ sum_const k (distance p x)

      nothing : (b : Bool) → when b 0 ≡ 0
      nothing true = refl
      nothing false = refl

      still : (x : ℕ) → x ≡ 0 → sum_to p (λ g. when (ltb ((f + g * x) % p) k) (distance p x)) ≡ k * distance p x
      still x e =
          let none : distance p x ≡ 0 = ap (distance p) e ∙ near p 0 (omega arith) in
          sum_none p (λ g. when (ltb ((f + g * x) % p) k) (distance p x)) (λ g l. ap (λ (d : ℕ). when (ltb ((f + g * x) % p) k) d) none ∙ nothing (ltb ((f + g * x) % p) k))
          ∙ omega (arith, ap (λ (d : ℕ). k * d) none)

  -- the greatest is at least the mean
  pub relieved_mean : (k f n : ℕ) → k ≤ p → f < k → 4 * distances p + 1 ≡ p * p → ((g : ℕ) → 0 < g → g < p → relieved_by p k f g ≤ n) → (k - 1) * (p + 1) ≤ 4 * n
  relieved_mean k f n most h size each = with_rest (p - 1) (k - 1) (omega arith) (omega arith)
    where
      with_rest : (m j : ℕ) → p ≡ suc m → k ≡ suc j → j * (p + 1) ≤ 4 * n
      with_rest m j ep ek = let e : p + 1 ≡ m + 2 = omega arith in omega (arith, mean_of m j (distances p) n (omega (arith, ok.large)) (omega (arith, size, ap (λ (x : ℕ). x * x) ep)) (omega (arith, together, ap (λ (x : ℕ). x * distances p) ek)), ap (λ (x : ℕ). j * x) e)
        where
          together : k * distances p ≤ distances p + m * n
          together =
              omega (
                arith,
                relieved_all k f most,
                ap (λ (x : ℕ). sum_to x (relieved_by p k f)) ep,
                sum_first m (relieved_by p k f),
                relieved_none k f most h,
                sum_mono m (λ i. relieved_by p k f (suc i)) (λ i. n) (λ i l. each (suc i) (omega arith) (omega arith)),
                sum_const m n,
              )
