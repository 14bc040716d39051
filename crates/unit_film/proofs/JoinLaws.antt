-- Lists of one length, one after another: how long they are together, and where each lies.
use mathlib.Core.Path.{◌≡◌, sym, ap, ◌∙◌}
use mathlib.Core.List.{List}
use Prim.Native.Nat.{ℕ, zero, suc, ◌+◌, ◌*◌, ◌<◌}
use native.Mathlib.Omega.{arith}
use lib.ListN.{length, take, drop, length-append}
use lib.Seq.{take_at, drop_at, drop-drop}
use Rattle.liberation.specs.Stripes.Stripes.{cell_at}
use Rattle.unit_film.specs.FilmOrder.{joined_from}

module _ (s : ℕ) (f : ℕ → List ℕ) where
  pub joined_long : (n x : ℕ) → ((y : ℕ) → y < x + n → length (f y) ≡ s) → length (joined_from n x f) ≡ n * s
  unfolding joined_from
  joined_long zero x h = omega arith
  joined_long (suc n) x h =
      length-append (f x) (joined_from n (suc x) f)
      ∙ omega (arith, h x (omega arith), joined_long n (suc x) (λ y l. h y (omega arith)))

  pub joined_cell : (n x : ℕ) → ((y : ℕ) → y < x + n → length (f y) ≡ s) → (y : ℕ) → y < n → cell_at s (joined_from n x f) y ≡ f (x + y)
  unfolding joined_from
  joined_cell zero x h y l = absurd (omega arith)
  joined_cell (suc n) x h zero l =
      let e : x ≡ x + 0 = omega arith in
      let z : zero * s ≡ 0 = omega arith in
      ap (λ (m : ℕ). take s (drop m (joined_from (suc n) x f))) z
      ∙ take_at (f x) (joined_from n (suc x) f) s (h x (omega arith))
      ∙ ap f e
  joined_cell (suc n) x h (suc y) l =
      let e : suc y * s ≡ s + y * s = omega arith in
      let g : suc x + y ≡ x + suc y = omega arith in
      ap (λ (z : ℕ). take s (drop z (joined_from (suc n) x f))) e
      ∙ ap (take s) (sym (drop-drop (y * s) s (joined_from (suc n) x f)))
      ∙ ap (λ (v : List ℕ). take s (drop (y * s) v)) (drop_at (f x) (joined_from n (suc x) f) s (h x (omega arith)))
      ∙ joined_cell n (suc x) (λ z k. h z (omega arith)) y (omega arith)
      ∙ ap f g
