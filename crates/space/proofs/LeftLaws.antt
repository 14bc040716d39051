-- A loop over the lengths of files goes by what is left of the list.
use mathlib.Core.Path.{◌≡◌, sym, ap, ◌∙◌}
use mathlib.Core.List.{List}
use Prim.Native.Nat.{ℕ, ◌+◌, ◌<◌}
use native.Mathlib.Numerals.{add-one}
use lib.ListN.{length, get_or, drop}
use lib.Seq.{drop-cons, drop-length}
use Rattle.mathematics.specs.Sums.{total}

-- none is left at the end
pub left_none : (ls : List ℕ) (i : ℕ) → i ≡ length ls → total (drop i ls) ≡ 0
unfolding total
left_none ls i e = ap (λ (n : ℕ). total (drop n ls)) e ∙ ap total (drop-length ls)

-- what is left from i on is the length there and what is left after it
module _ (ls : List ℕ) (i : ℕ) (h : i < length ls) where
  pub left_next : total (drop i ls) ≡ get_or ls i 0 + total (drop (i + 1) ls)
  unfolding total
  left_next = ap total (drop-cons ls i 0 h) ∙ ap (λ (n : ℕ). get_or ls i 0 + total (drop n ls)) (sym (add-one i))
