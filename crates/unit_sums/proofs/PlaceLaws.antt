-- What a seed is the checksum of, put together in 32 bytes part by part: each part lies where the
-- one before it ends.
use mathlib.Core.Path.{◌≡◌, refl, sym, ap, ap₂, ◌∙◌}
use mathlib.Core.List.{List, [], ◌∷◌, ◌++◌, append_assoc, append-nil}
use Prim.Native.Nat.{ℕ}
use native.Mathlib.Omega.{arith}
use lib.ListN.{length, drop, length-append, length-drop}
use lib.Seq.{take_at, drop_at}
use borrow.Rule.Slice.PartMut.{put_mid}
use Rattle.unit_sums.specs.Sums.{little_endian, place_bytes}
use Rattle.unit_sums.proofs.NumberLaws.{length_little}

-- ys in the place of the k bytes after f
put_next : (f g ys : List ℕ) (a k : ℕ) → length f ≡ a → put_mid a k (f ++ g) ys ≡ (f ++ ys) ++ drop k g
put_next f g ys a k h = ap₂ (λ (u v : List ℕ). u ++ (ys ++ drop k v)) (take_at f g a h) (drop_at f g a h) ∙ sym (append_assoc f ys (drop k g))

module _ (name x y₁ y₂ y₃ z : List ℕ) (disk row unit : ℕ) (n : length name ≡ 16) (l : length z ≡ 16) (e : x ≡ name) where
  long : length x ≡ 16
  long = ap length e ∙ n

  module _ (e₁ : y₁ ≡ little_endian 4 disk) where
    l₁ : length y₁ ≡ 4
    l₁ = ap length e₁ ∙ length_little 4 disk

    p₁ : put_mid 16 4 (x ++ z) y₁ ≡ (x ++ y₁) ++ drop 4 z
    p₁ = put_next x z y₁ 16 4 long

    f₁ : length (x ++ y₁) ≡ 20
    f₁ = length-append x y₁ ∙ omega (arith, long, l₁)

    module _ (e₂ : y₂ ≡ little_endian 4 row) where
      l₂ : length y₂ ≡ 4
      l₂ = ap length e₂ ∙ length_little 4 row

      p₂ : put_mid 20 4 (put_mid 16 4 (x ++ z) y₁) y₂ ≡ ((x ++ y₁) ++ y₂) ++ drop 4 (drop 4 z)
      p₂ = ap (λ (v : List ℕ). put_mid 20 4 v y₂) p₁ ∙ put_next (x ++ y₁) (drop 4 z) y₂ 20 4 f₁

      f₂ : length ((x ++ y₁) ++ y₂) ≡ 24
      f₂ = length-append (x ++ y₁) y₂ ∙ omega (arith, f₁, l₂)

      module _ (e₃ : y₃ ≡ little_endian 8 unit) where
        none : drop 8 (drop 4 (drop 4 z)) ≡ []
        none = nothing (drop 8 (drop 4 (drop 4 z))) (omega (arith, length-drop 8 (drop 4 (drop 4 z)), length-drop 4 (drop 4 z), length-drop 4 z))
          where
            nothing : (v : List ℕ) → length v ≡ 0 → v ≡ []
            nothing [] h = refl
            nothing (w ∷ v) h = absurd (omega arith)

        pub place_made : put_mid 24 8 (put_mid 20 4 (put_mid 16 4 (x ++ z) y₁) y₂) y₃ ≡ place_bytes name disk row unit
        unfolding place_bytes
        place_made =
            ap (λ (v : List ℕ). put_mid 24 8 v y₃) p₂
            ∙ put_next ((x ++ y₁) ++ y₂) (drop 4 (drop 4 z)) y₃ 24 8 f₂
            ∙ ap (λ (v : List ℕ). (((x ++ y₁) ++ y₂) ++ y₃) ++ v) none
            ∙ append-nil (((x ++ y₁) ++ y₂) ++ y₃)
            ∙ append_assoc (x ++ y₁) y₂ y₃
            ∙ append_assoc x y₁ (y₂ ++ y₃)
            ∙ ap₂ ◌++◌ e (ap₂ ◌++◌ e₁ (ap₂ ◌++◌ e₂ e₃))
