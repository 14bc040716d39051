-- The loop that copies film: x and j are the place and the stripe of a cell, a the byte in it that
-- comes next, d the bytes that are copied.
use mathlib.Core.Path.{◌≡◌, sym, ap, ap₂, ◌∙◌}
use mathlib.Core.List.{List, ◌++◌}
use mathlib.Core.Logic.{◌⊎◌, inl, inr, ⊎_elim}
use Prim.Native.Nat.{ℕ, ◌+◌, ◌-◌, ◌*◌, ◌/◌, ◌%◌, ◌≤◌, ◌<◌, min}
use native.Mathlib.Nat.{div-add-mod', mul-le-mul_right}
use native.Mathlib.Omega.{arith}
use lib.ListN.{length, take, drop, length-drop}
use lib.Seq.{take-add, take_at, take_all, drop_at, drop-drop, length-take-le}
use Rattle.mathematics.proofs.OrderLaws.{lt_or_le}
use Rattle.liberation.specs.Sets.{place}
use Rattle.xor.specs.Parts.{part, with_part}
use Rattle.unit_film.specs.FilmOrder.{in_order}
use Rattle.unit_film.proofs.OrderLaws.{stripe_below, cell_within, film_part}

-- before the loop
pub place_start : (q s i : ℕ) → place q (i / s % q) (i / s / q) * s + i % s ≡ i + 0
place_start q s i = omega (arith, ap (λ (y : ℕ). y * s) (div-add-mod' (i / s) q), div-add-mod' i s)

-- the bytes w put at byte d
put_next : (f o w : List ℕ) (i d b : ℕ) → d + b ≤ length o → length w ≡ b → take d o ≡ take d (drop i f) → w ≡ take b (drop (i + d) f) → take (d + b) (with_part b d w o) ≡ take (d + b) (drop i f)
put_next f o w i d b h l e g =
    let z : length (take d o) ≡ d = length-take-le d o (omega arith) in
    take-add d b (with_part b d w o)
    ∙ ap₂ ◌++◌ (take_at (take d o) (w ++ drop (d + b) o) d z) (ap (take b) (drop_at (take d o) (w ++ drop (d + b) o) d z) ∙ take_at w (drop (d + b) o) b l)
    ∙ ap₂ ◌++◌ e (g ∙ ap (take b) (sym (drop-drop d i f)))
    ∙ sym (take-add d b (drop i f))

-- a turn
module _ (q s n i all x j a d : ℕ) (t : List ℕ) (hx : x < q) (ha : a < s) (more : d < all) (long : q * (n * s) ≤ length t) (fits : i + all ≤ q * (n * s)) (at : place q x j * s + a ≡ i + d) where
  pub turn_stripe : j < n
  turn_stripe = stripe_below q s n x j a (i + d) at (omega arith)

  pub turn_within : (n * s ≤ length t) × (x * (n * s) + j * s + s ≤ length t)
  turn_within =
      let one : 1 ≤ q = omega arith in
      (omega (arith, mul-le-mul_right (n * s) one), cell_within q s n t long x j hx turn_stripe)

  module _ (b : ℕ) (count : b ≡ min (s - a) (all - d)) where
    pub turn_next : (y v : ℕ) → place q y v ≡ place q x j + 1 → (d + b ≡ all) ⊎ (place q y v * s + 0 ≡ i + (d + b))
    turn_next y v e =
        let w : place q y v * s ≡ (place q x j + 1) * s = ap (λ (z : ℕ). z * s) e in
        ⊎_elim (λ h. inr (omega arith)) (λ h. inl (omega arith)) (lt_or_le (s - a) (all - d))

    pub turn_copied : (o o' : List ℕ) → length o ≡ all → take d o ≡ take d (drop i (in_order q s n t)) → o' ≡ with_part b d (part b (x * (n * s) + j * s + a) t) o → take (d + b) o' ≡ take (d + b) (drop i (in_order q s n t))
    turn_copied o o' l e g =
        let c = x * (n * s) + j * s + a in
        let m : length (part b (x * (n * s) + j * s + a) t) ≡ b = length-take-le b (drop c t) (omega (arith, length-drop c t, turn_within.1)) in
        ap (take (d + b)) g
        ∙ put_next (in_order q s n t) o (part b c t) i d b (omega arith) m e
        (sym (film_part q s n t long x j hx turn_stripe a b (omega arith)) ∙ ap (λ (z : ℕ). take b (drop z (in_order q s n t))) at)

-- after the loop
pub copy_end : (f o : List ℕ) (i d all : ℕ) → d ≡ all → length o ≡ all → take d o ≡ take d (drop i f) → o ≡ take all (drop i f)
copy_end f o i d all e l h = sym (take_all d o (omega arith)) ∙ h ∙ ap (λ (n : ℕ). take n (drop i f)) e

-- x goes to the next place
pub next_place : (q x j : ℕ) → place q (x + 1) j ≡ place q x j + 1
next_place q x j = omega arith

pub next_stripe : (q x j : ℕ) → x + 1 ≡ q → place q 0 (j + 1) ≡ place q x j + 1
next_stripe q x j e = omega arith
