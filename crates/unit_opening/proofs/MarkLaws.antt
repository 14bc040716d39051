-- Marks, one a piece: the loop that writes them, and what each says.
use mathlib.Core.Path.{◌≡◌, refl, sym, ap, ap₂, ◌∙◌}
use mathlib.Core.Bool.{Bool, true, false, not}
use mathlib.Core.List.{List, ◌∷◌, ◌++◌, append-nil}
use Prim.Native.Nat.{ℕ, zero, suc, ◌+◌, ◌-◌, ◌≤◌, ◌<◌}
use native.Mathlib.Numerals.{add-one}
use native.Mathlib.Omega.{arith}
use lib.ListN.{length, get_or, take, set, replicate}
use lib.Seq.{take-suc-set, take_all, append_snoc}
use Rattle.std.specs.Int.{from_bool}
use Rattle.mathematics.specs.Choice.{pick}
use Rattle.unit_opening.specs.Opening.{marks_from}

-- the mark that is written for a test
pub mark_is : (b f : Bool) (v : ℕ) → v ≡ from_bool (not b) → b ≡ f → v ≡ pick f 0 1
mark_is true f v h e = h ∙ ap (λ (x : Bool). pick x 0 1) e
mark_is false f v h e = h ∙ ap (λ (x : Bool). pick x 0 1) e

-- a turn: what is written, then the marks of the rest, are all of them
pub marks_more :
    (f : ℕ → Bool) (d : List ℕ) (n x v : ℕ) (w : List ℕ) → x < length d → x < n → v ≡ pick (f x) 0 1
    → take x d ++ marks_from (n - x) x f ≡ w → take (x + 1) (set d x v) ++ marks_from (n - (x + 1)) (x + 1) f ≡ w
unfolding marks_from
marks_more f d n x v w h l q e =
    let m : n - x ≡ suc (n - (x + 1)) = omega arith in
    ap (λ (j : ℕ). take j (set d x v) ++ marks_from (n - (x + 1)) j f) (add-one x)
    ∙ ap (λ (y : List ℕ). y ++ marks_from (n - (x + 1)) (suc x) f) (take-suc-set d x v h)
    ∙ append_snoc (take x d) v (marks_from (n - (x + 1)) (suc x) f)
    ∙ ap (λ (y : ℕ). take x d ++ (y ∷ marks_from (n - (x + 1)) (suc x) f)) q
    ∙ ap (λ (j : ℕ). take x d ++ marks_from j x f) (sym m)
    ∙ e

pub marks_done : (f : ℕ → Bool) (d : List ℕ) (n x : ℕ) (w : List ℕ) → x ≡ n → take x d ++ marks_from (n - x) x f ≡ w → take n d ≡ w
unfolding marks_from
marks_done f d n x w l e =
    let z : n - x ≡ 0 = omega arith in
    sym (ap₂ ◌++◌ (ap (λ (j : ℕ). take j d) l) (ap (λ (j : ℕ). marks_from j x f) z) ∙ append-nil (take n d)) ∙ e

pub marks_end : (f : ℕ → Bool) (d : List ℕ) (n x : ℕ) (w : List ℕ) → length d ≡ n → x ≡ n → take x d ++ marks_from (n - x) x f ≡ w → d ≡ w
marks_end f d n x w h l e = let q : length d ≤ n = omega arith in sym (take_all n d q) ∙ marks_done f d n x w l e

pub marks_long : (n x : ℕ) (f : ℕ → Bool) → length (marks_from n x f) ≡ n
unfolding marks_from
marks_long zero x f = refl
marks_long (suc n) x f = ap suc (marks_long n (suc x) f)

-- the mark of piece x + y
marks_at : (n x y : ℕ) (f : ℕ → Bool) → y < n → get_or (marks_from n x f) y 0 ≡ pick (f (x + y)) 0 1
unfolding marks_from
marks_at zero x y f h = absurd (omega arith)
marks_at (suc n) x zero f h = let e : x ≡ x + 0 = omega arith in ap (λ (z : ℕ). pick (f z) 0 1) e
marks_at (suc n) x (suc y) f h = let e : suc x + y ≡ x + suc y = omega arith in marks_at n (suc x) y f (omega arith) ∙ ap (λ (z : ℕ). pick (f z) 0 1) e

mark_true : (b : Bool) → ◌≡◌ {A = ℕ} (pick b 0 1) 0 → b ≡ true
mark_true true e = refl
mark_true false e = absurd (omega arith)

-- a mark of 0 says that f holds, and back
module _ (n x : ℕ) (f : ℕ → Bool) (h : x < n) where
  at : get_or (marks_from n 0 f) x 0 ≡ pick (f x) 0 1
  at = let e : 0 + x ≡ x = omega arith in marks_at n 0 x f h ∙ ap (λ (z : ℕ). pick (f z) 0 1) e

  pub zero_holds : get_or (marks_from n 0 f) x 0 ≡ 0 → f x ≡ true
  zero_holds e = mark_true (f x) (sym at ∙ e)

  pub holds_zero : f x ≡ true → get_or (marks_from n 0 f) x 0 ≡ 0
  holds_zero e = at ∙ ap (λ (b : Bool). pick b 0 1) e

-- f holds everywhere
pub marks_none : (n x : ℕ) (f : ℕ → Bool) → ((y : ℕ) → y < n → f (x + y) ≡ true) → marks_from n x f ≡ replicate n 0
unfolding marks_from
marks_none zero x f h = refl
marks_none (suc n) x f h =
    let e : x ≡ x + 0 = omega arith in
    ap₂ ◌∷◌ (ap (λ (b : Bool). pick b 0 1) (ap f e ∙ h 0 (omega arith)))
    (marks_none n (suc x) f (λ y l. let q : suc x + y ≡ x + suc y = omega arith in ap f q ∙ h (suc y) (omega arith)))

pub marks_start : (n : ℕ) (f : ℕ → Bool) (d : List ℕ) → take 0 d ++ marks_from (n - 0) 0 f ≡ marks_from n 0 f
marks_start n f d = let z : n - 0 ≡ n = omega arith in ap (λ (j : ℕ). marks_from j 0 f) z
