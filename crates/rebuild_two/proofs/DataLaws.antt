-- Two lost data disks: which way the walk goes, from sums or to disk 0.
use mathlib.Core.Path.{◌≡◌, sym, ap, ◌∙◌}
use mathlib.Core.Bool.{Bool, true, false}
use mathlib.Core.Logic.{⊎_elim}
use mathlib.Core.List.{List}
use Prim.Native.Nat.{ℕ, ◌-◌, ◌/◌, ◌%◌, ◌≤◌, ◌<◌}
use native.Mathlib.Omega.{arith}
use lib.Dec.{leb}
use borrow.Author.Tests.{leb-true, lt-ltb, le-ltb}
use Rattle.mathematics.specs.Choice.{pick}
use Rattle.mathematics.specs.Xor.{all_bytes}
use Rattle.mathematics.proofs.Flags.{and_l}
use Rattle.mathematics.proofs.OrderLaws.{lt_or_le}
use Rattle.mathematics.proofs.Primes.{Prime}
use Rattle.liberation.proofs.Widths.{width_prime, width_odd}
use Rattle.liberation.specs.Stripes.Stripes.{is_stripe}
use Rattle.liberation.proofs.Stripes.Solving.{stripe_of}
use Rattle.liberation.specs.TwoDisks.Pairs.{walked, comes_to_one, forward, data_solved}
use Rattle.liberation.proofs.TwoDisks.Roles.{roles_forward, roles_backward}
use Rattle.liberation.specs.TwoDisksBySums.Sums.{sum_walked}
use Rattle.liberation.proofs.TwoDisksBySums.Summing.{sums_walk}
use Rattle.liberation.specs.Stripes.StripeLimits.{Sized}
use Rattle.two_disk_walk.specs.WalkDisks.{walked_by}

-- a < b: which way the walk goes
module _ (p k s a b : ℕ) (t u : List ℕ) where
  data_forward : (f : Bool) → f ≡ forward p a b → f ≡ true → u ≡ walked p k s a b t → u ≡ data_solved p k s a b t
  data_forward f e q w = w ∙ sym (ap (λ (c : Bool). pick c (walked p k s a b t) (walked p k s b a t)) (sym e ∙ q))

  data_back : (f : Bool) → f ≡ forward p a b → f ≡ false → u ≡ walked p k s b a t → u ≡ data_solved p k s a b t
  data_back f e q w = w ∙ sym (ap (λ (c : Bool). pick c (walked p k s a b t) (walked p k s b a t)) (sym e ∙ q))

  -- the same to disk 0
  data_zero : (f : Bool) → f ≡ forward p a b → f ≡ false → a ≤ 0 → u ≡ walked p k s b 0 t → u ≡ data_solved p k s a b t
  data_zero f e q h w =
      let z : 0 ≡ a = omega arith in
      data_back f e q (w ∙ ap (λ (y : ℕ). walked p k s b y t) z)

  -- the same from sums, to a disk that is not disk 0
  module _ (sized : Sized p k s t) (bytes : all_bytes t ≡ true) (less : a < b) (below : b < k) where
    stripe : is_stripe p k s t ≡ true
    stripe = stripe_of p k s t (sized.long ∙ omega arith) bytes

    within : b < p
    within = omega (arith, sized.array.disks)

    prime : Prime p
    prime = width_prime p sized.array.width

    odd : p % 2 ≡ 1
    odd = width_odd p sized.array.width

    pub solved_forward : (f : Bool) → f ≡ forward p a b → f ≡ true → u ≡ walked_by p k s a b t → u ≡ data_solved p k s a b t
    solved_forward f e q h =
        let w = h ∙ ap (λ (c : Bool). pick c (sum_walked p k s a b t) (walked p k s a 0 t)) (lt-ltb 0 b (omega arith)) in
        let g = roles_forward p a b prime odd less within (sym e ∙ q) in
        data_forward f e q (w ∙ sym (sums_walk p k s a b prime odd sized.array.disks g (omega arith) below (omega arith) t stripe))

    sums_back : (f : Bool) → f ≡ forward p a b → f ≡ false → 0 < a → u ≡ sum_walked p k s b a t → u ≡ data_solved p k s a b t
    sums_back f e q low w =
        let g = roles_backward p a b prime odd less within (sym e ∙ q) in
        data_back f e q (w ∙ sym (sums_walk p k s b a prime odd sized.array.disks g below (omega arith) low t stripe))

    pub solved_back : (f : Bool) → f ≡ forward p a b → f ≡ false → u ≡ walked_by p k s b a t → u ≡ data_solved p k s a b t
    solved_back f e q w = ⊎_elim
        (λ l. sums_back f e q l (w ∙ ap (λ (c : Bool). pick c (sum_walked p k s b a t) (walked p k s b 0 t)) (lt-ltb 0 a l)))
        (λ l. data_zero f e q l (w ∙ ap (λ (c : Bool). pick c (sum_walked p k s b a t) (walked p k s b 0 t)) (le-ltb 0 a l)))
        (lt_or_le 0 a)

-- the walk never goes from disk 0
pub forward_above : (p a b : ℕ) (f : Bool) → f ≡ forward p a b → f ≡ true → 1 ≤ a
forward_above p a b f e q = leb-true 1 a (and_l (leb 1 a) (comes_to_one ((p - 1) / 2) p (b - a) (b - a)) (sym e ∙ q))
