-- The loop that appends the offsets of the odd places: those in the list, with those still to come,
-- are all.
use mathlib.Core.Path.{◌≡◌, refl, sym, ap, ◌∙◌}
use mathlib.Core.Bool.{Bool, true, false}
use mathlib.Core.List.{List, ◌∷◌, [], ◌++◌, append_assoc}
use Prim.Native.Nat.{ℕ, ◌+◌, ◌*◌, ◌%◌, ◌≤◌, ◌<◌}
use native.Mathlib.Numerals.{add-one}
use native.Mathlib.Omega.{arith}
use lib.ListN.{length, get_or, drop, length-append}
use borrow.Author.Tests.{eq-eqb, ne_eqb}
use Rattle.mathematics.specs.Choice.{pick}
use Rattle.mathematics.proofs.SearchLaws.{drop_next}
use Rattle.stripe_cells.specs.Offsets.{scaled}
use Rattle.stripe_cells.specs.Toggled.{is_odd, odd_from}
use Rattle.stripe_cells.specs.Listed.{odd_offsets}

-- the loop at place x: the list `old` is now `at`
pub record OddPushing (s : ℕ) (ms old : List ℕ) (from most : ℕ) (at : List ℕ) (x : ℕ) : Type 0 where
  pub list : at ++ odd_offsets s ms x ≡ old ++ odd_offsets s ms from
  pub fits : length at ≤ most
  pub some : from ≤ x
  pub within : x ≤ length ms

-- the place x, and those after it
odd_next : (s x : ℕ) (ms : List ℕ) (b : Bool) → x < length ms → is_odd (get_or ms x 0) ≡ b → odd_offsets s ms x ≡ pick b (x * s ∷ odd_offsets s ms (x + 1)) (odd_offsets s ms (x + 1))
unfolding odd_from scaled
odd_next s x ms b h e =
    ap (λ (l : List ℕ). scaled s (odd_from x l)) (drop_next ms x (get_or ms x 0) h refl)
    ∙ ap (λ (k : ℕ). scaled s (pick (is_odd (get_or ms x 0)) (x ∷ odd_from k (drop (x + 1) ms)) (odd_from k (drop (x + 1) ms)))) (sym (add-one x))
    ∙ ap (λ (f : Bool). scaled s (pick f (x ∷ odd_from (x + 1) (drop (x + 1) ms)) (odd_from (x + 1) (drop (x + 1) ms)))) e
    ∙ picked b
  where
    picked : (f : Bool) → scaled s (pick f (x ∷ odd_from (x + 1) (drop (x + 1) ms)) (odd_from (x + 1) (drop (x + 1) ms))) ≡ pick f (x * s ∷ odd_offsets s ms (x + 1)) (odd_offsets s ms (x + 1))
    picked true = refl
    picked false = refl

module _ {s : ℕ} {ms old : List ℕ} {from most : ℕ} {at : List ℕ} {x : ℕ} (p : OddPushing s ms old from most at x) (h : x < length ms) where
  -- an odd place appended, and an even one passed over
  pub odd_put : {new : List ℕ} → length at < most → get_or ms x 0 % 2 ≡ 1 → new ≡ at ++ (x * s ∷ []) → OddPushing s ms old from most new (x + 1)
  odd_put {new} k e q =
      let rest = odd_offsets s ms (x + 1) in
      record {
        list =
            ap (λ (l : List ℕ). l ++ rest) q
            ∙ append_assoc at (x * s ∷ []) rest
            ∙ ap (λ (l : List ℕ). at ++ l) (sym (odd_next s x ms true h (eq-eqb (get_or ms x 0 % 2) 1 e)))
            ∙ p.list;
        fits = omega (arith, ap length q, length-append at (x * s ∷ []));
        some = omega arith;
        within = omega arith;
      }

  pub odd_skip : (get_or ms x 0 % 2 ≡ 1 → ⊥) → OddPushing s ms old from most at (x + 1)
  odd_skip n = record { list = ap (λ (l : List ℕ). at ++ l) (sym (odd_next s x ms false h (ne_eqb (get_or ms x 0 % 2) 1 n))) ∙ p.list; fits = p.fits; some = omega arith; within = omega arith }
