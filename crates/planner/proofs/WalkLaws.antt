-- A walk round p rows: where it is, and the routes after one turn more.
use mathlib.Core.Path.{◌≡◌, refl, sym, ap, ap₂, ◌∙◌}
use mathlib.Core.List.{List}
use Prim.Native.Nat.{ℕ, suc, ◌+◌, ◌%◌}
use native.Mathlib.Numerals.{add-one}
use lib.ListN.{set, replicate}
use Rattle.planner.specs.Walks.{row_after, walked}

-- the walk is at this row, and these are its routes, after n turns
pub record IsAfter (p a : ℕ) (g : ℕ → ℕ) (n row : ℕ) (rs : List ℕ) : Type 0 where
  pub at : row ≡ row_after p a g n
  pub rows : rs ≡ walked p a g n

pub walk_starts : (p a : ℕ) (g : ℕ → ℕ) (rs : List ℕ) → rs ≡ replicate p 1 → IsAfter p a g 0 a rs
unfolding row_after walked
walk_starts p a g rs e = record { at = refl; rows = e }

pub walk_turns : (p a : ℕ) (g : ℕ → ℕ) (n row next : ℕ) (rs us : List ℕ) → next ≡ (row + g n) % p → us ≡ set rs next 2 → IsAfter p a g n row rs → IsAfter p a g (n + 1) next us
unfolding row_after walked
walk_turns p a g n row next rs us e q v =
    let here : next ≡ row_after p a g (suc n) = e ∙ ap (λ (r : ℕ). (r + g n) % p) v.at in
    record {
      at = here ∙ ap (row_after p a g) (sym (add-one n));
      rows = q ∙ ap₂ (λ (xs : List ℕ) (r : ℕ). set xs r 2) v.rows here ∙ ap (walked p a g) (sym (add-one n));
    }
