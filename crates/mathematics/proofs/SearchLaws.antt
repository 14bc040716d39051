-- A search through a list from its front: what is still to be looked at answers for the whole list.
use mathlib.Core.Path.{◌≡◌, sym, ap, ap₂, ◌∙◌}
use mathlib.Core.Bool.{Bool, true, false, ◌||◌}
use mathlib.Core.List.{List, ◌∷◌}
use Prim.Native.Nat.{ℕ, ◌+◌, ◌≤◌, ◌<◌}
use native.Mathlib.Numerals.{add-one}
use lib.Dec.{eqb}
use lib.ListN.{length, get_or, drop, drop_of_length-le}
use lib.Seq.{drop-cons}
use borrow.Author.Tests.{eq-eqb, ne_eqb}
use Rattle.mathematics.specs.Lists.{is_in}
use Rattle.mathematics.proofs.Flags.{or_l}

-- the element x at `at`, and those after it
pub drop_next : (xs : List ℕ) (at x : ℕ) → at < length xs → x ≡ get_or xs at 0 → drop at xs ≡ x ∷ drop (at + 1) xs
drop_next xs at x h e = drop-cons xs at 0 h ∙ ap₂ (λ (y n : ℕ). y ∷ drop n xs) (sym e) (sym (add-one at))

-- the element x that is looked at is y, or another
pub seek_here : (y at x : ℕ) (xs : List ℕ) → at < length xs → x ≡ get_or xs at 0 → x ≡ y → is_in y (drop at xs) ≡ is_in y xs → true ≡ is_in y xs
seek_here y at x xs h g q e = sym (ap (is_in y) (drop_next xs at x h g) ∙ or_l (eqb y x) (is_in y (drop (at + 1) xs)) (eq-eqb y x (sym q))) ∙ e

pub seek_turn : (y at x : ℕ) (xs : List ℕ) → at < length xs → x ≡ get_or xs at 0 → (x ≡ y → ⊥) → is_in y (drop at xs) ≡ is_in y xs → is_in y (drop (at + 1) xs) ≡ is_in y xs
seek_turn y at x xs h g n e = sym (ap (is_in y) (drop_next xs at x h g) ∙ ap (λ (b : Bool). b || is_in y (drop (at + 1) xs)) (ne_eqb y x (λ q. n (sym q)))) ∙ e

pub seek_end : (y at : ℕ) (xs : List ℕ) → length xs ≤ at → is_in y (drop at xs) ≡ is_in y xs → false ≡ is_in y xs
seek_end y at xs h e = sym (ap (is_in y) (drop_of_length-le xs h)) ∙ e
