-- The XOR over a list of cells: of two lists joined, with one cell taken out, and of a set in its
-- surviving and its lost cells.
-- XOR is associative and commutative, so the order of the cells does not matter; zeros are its unit
-- on cells of s bytes.
use mathlib.Core.Path.{◌≡◌, refl, sym, ap, ap₂, ◌∙◌}
use mathlib.Core.Bool.{Bool, true, false, ◌&&◌, ◌||◌, not, and-false, false≢true, and_comm}
use mathlib.Core.List.{List, [], ◌∷◌, ◌++◌}
use Prim.Native.Nat.{ℕ}
use lib.Dec.{eqb}
use lib.ListN.{length, replicate, length-replicate}
use borrow.Author.Tests.{eqb-true, eq-eqb, not-true, ne_eqb}
use Rattle.mathematics.specs.Choice.{pick}
use Rattle.mathematics.specs.Lists.{is_in, distinct}
use Rattle.mathematics.specs.Xor.{xor_l, all_bytes}
use Rattle.mathematics.proofs.Flags.{and_l, and_r}
use Rattle.mathematics.proofs.KeptLaws.{Keeps, in_kept, kept_all}
use Rattle.mathematics.proofs.TestLaws.{eqb_sym}
use Rattle.mathematics.proofs.MemberLaws.{in_head, in_tail}
use Rattle.mathematics.proofs.XorLaws.{xor_l_assoc, xor_l_swap, length_xor_l, zero_xor_l, xor_l_bytes, zeros_bytes}
use Rattle.liberation.specs.Sets.{place, row_at, disk_at, lost_in, surviving_in}
use Rattle.liberation.proofs.SetLaws.{place_of}
use Rattle.liberation.specs.Stripes.Stripes.{xor_over, without}

-- every cell of xs has s bytes
abbrev pub Long : ℕ → (ℕ → List ℕ) → List ℕ → Type 0
Long s g xs = (x : ℕ) → is_in x xs ≡ true → length (g x) ≡ s

pub over_long : (s : ℕ) (g : ℕ → List ℕ) (xs : List ℕ) → Long s g xs → length (xor_over s g xs) ≡ s
unfolding xor_over
over_long s g [] long = length-replicate s 0
over_long s g (x ∷ xs) long =
    let here : length (g x) ≡ s = long x (in_head x xs) in
    length_xor_l (g x) (xor_over s g xs) (here ∙ sym (over_long s g xs (λ y h. long y (in_tail y x xs h)))) ∙ here

pub over_bytes : (s : ℕ) (g : ℕ → List ℕ) (xs : List ℕ) → all_bytes (xor_over s g xs) ≡ true
unfolding xor_over
over_bytes s g [] = zeros_bytes s
over_bytes s g (x ∷ xs) = xor_l_bytes (g x) (xor_over s g xs)

-- it depends on the cells of the list alone
pub over_ext : (s : ℕ) (g h : ℕ → List ℕ) (xs : List ℕ) → ((x : ℕ) → is_in x xs ≡ true → g x ≡ h x) → xor_over s g xs ≡ xor_over s h xs
unfolding xor_over
over_ext s g h [] e = refl
over_ext s g h (x ∷ xs) e = ap₂ xor_l (e x (in_head x xs)) (over_ext s g h xs (λ y t. e y (in_tail y x xs t)))

pub over_append : (s : ℕ) (g : ℕ → List ℕ) (xs ys : List ℕ) → Long s g ys → xor_over s g (xs ++ ys) ≡ xor_l (xor_over s g xs) (xor_over s g ys)
unfolding xor_over
over_append s g [] ys long = sym (zero_xor_l s (xor_over s g ys) (over_long s g ys long) (over_bytes s g ys))
over_append s g (x ∷ xs) ys long = ap (xor_l (g x)) (over_append s g xs ys long) ∙ sym (xor_l_assoc (g x) (xor_over s g xs) (xor_over s g ys))

-- the cells of a list but x
pub without_keeps : (y : ℕ) → Keeps (λ x. eqb y x) (without y)
unfolding without
without_keeps y = record { none = refl; next = λ x xs. refl }

pub in_without : (x y : ℕ) (xs : List ℕ) → is_in y (without x xs) ≡ (is_in y xs && not (eqb y x))
in_without x y xs = in_kept (without_keeps x) y xs ∙ and_comm (not (eqb x y)) (is_in y xs) ∙ ap (λ (b : Bool). is_in y xs && not b) (eqb_sym x y)

pub without_none : (x : ℕ) (xs : List ℕ) → is_in x (without x xs) ≡ false
without_none x xs = in_without x x xs ∙ ap (λ (b : Bool). is_in x xs && not b) (eq-eqb x x refl) ∙ and-false (is_in x xs)

-- a list that lacks x
without_absent : (x : ℕ) (xs : List ℕ) → is_in x xs ≡ false → without x xs ≡ xs
without_absent x xs h = kept_all (without_keeps x) xs (λ y t. ne_eqb x y (λ e. false≢true (sym h ∙ ap (λ (z : ℕ). is_in z xs) e ∙ t)))

-- one cell taken out
pub over_without : (s : ℕ) (g : ℕ → List ℕ) (x : ℕ) (xs : List ℕ) → distinct xs ≡ true → is_in x xs ≡ true → xor_over s g xs ≡ xor_l (g x) (xor_over s g (without x xs))
unfolding xor_over without
over_without s g x [] d h = absurd (false≢true h)
over_without s g x (y ∷ ys) d h = go (eqb x y) refl h (λ t. over_without s g x ys (and_r (not (is_in y ys)) (distinct ys) d) t)
  where
    out : is_in y ys ≡ false
    out = not-true (is_in y ys) (and_l _ _ d)

    go : (b : Bool) → eqb x y ≡ b → (b || is_in x ys) ≡ true → (is_in x ys ≡ true → xor_over s g ys ≡ xor_l (g x) (xor_over s g (without x ys))) → xor_l (g y) (xor_over s g ys) ≡ xor_l (g x) (xor_over s g (pick b (without x ys) (y ∷ without x ys)))
    go true e t rest =
        let q : x ≡ y = eqb-true x y e in
        sym (ap₂ (λ (n : ℕ) (l : List ℕ). xor_l (g n) (xor_over s g l)) q (without_absent x ys (ap (λ (n : ℕ). is_in n ys) q ∙ out)))
    go false e t rest = ap (xor_l (g y)) (rest t) ∙ xor_l_swap (g y) (g x) (xor_over s g (without x ys))

-- the cells on other disks than f, and those on f by their rows
pub over_split : (s p f : ℕ) (g : ℕ → List ℕ) (xs : List ℕ) → xor_over s g xs ≡ xor_l (xor_over s g (surviving_in p f xs)) (xor_over s (λ r. g (place p r f)) (lost_in p f xs))
unfolding xor_over surviving_in lost_in
over_split s p f g [] = sym (zero_xor_l s (replicate s 0) (length-replicate s 0) (zeros_bytes s))
over_split s p f g (x ∷ xs) = ap (xor_l (g x)) (over_split s p f g xs) ∙ go (eqb (disk_at p x) f) refl
  where
    alive : List ℕ
    alive = xor_over s g (surviving_in p f xs)

    lost : List ℕ
    lost = xor_over s (λ r. g (place p r f)) (lost_in p f xs)

    go : (b : Bool) → eqb (disk_at p x) f ≡ b → xor_l (g x) (xor_l alive lost) ≡ xor_l (xor_over s g (pick b (surviving_in p f xs) (x ∷ surviving_in p f xs))) (xor_over s (λ r. g (place p r f)) (pick b (row_at p x ∷ lost_in p f xs) (lost_in p f xs)))
    go true e =
        let q : x ≡ place p (row_at p x) f = sym (place_of p x) ∙ ap (place p (row_at p x)) (eqb-true (disk_at p x) f e) in
        ap (λ (n : ℕ). xor_l (g n) (xor_l alive lost)) q ∙ xor_l_swap (g (place p (row_at p x) f)) alive lost
    go false e = sym (xor_l_assoc (g x) alive lost)
