-- A run of a list, in the list before and after a place.
use mathlib.Core.Path.{◌≡◌, sym, ap, ◌∙◌}
use mathlib.Core.List.{List}
use Prim.Native.Nat.{ℕ, ◌+◌, ◌<◌, ◌≤◌}
use native.Mathlib.Omega.{arith}
use lib.ListN.{get_or, take, drop}
use lib.Seq.{get_or-take, get_or-drop}
use Rattle.rebuild_cells.specs.Listed.{RunFrom}
use mathlib.Core.Logic.{⊎_elim}
use Rattle.mathematics.proofs.OrderLaws.{lt_or_le}

-- the first n numbers of a list, and those from number n on
pub front_at : (n j : ℕ) (cs : List ℕ) → j < n → get_or (take n cs) j 0 ≡ get_or cs j 0
front_at n j cs h = get_or-take n cs j 0 h

pub back_at : (n j : ℕ) (cs : List ℕ) → get_or (drop n cs) j 0 ≡ get_or cs (n + j) 0
back_at n j cs = get_or-drop n cs j 0

-- a run of them
pub run_front : (n x : ℕ) (cs l : List ℕ) → l ≡ take n cs → RunFrom 0 n x l → RunFrom 0 n x cs
run_front n x cs l e g j h = sym (front_at n (0 + j) cs (omega arith)) ∙ ap (λ (m : List ℕ). get_or m (0 + j) 0) (sym e) ∙ g j h

pub run_back : (n x : ℕ) (cs l : List ℕ) → l ≡ drop n cs → RunFrom 0 n x l → RunFrom n n x cs
run_back n x cs l e g j h = let z : j ≡ 0 + j = omega arith in sym (back_at n j cs) ∙ ap (λ (m : List ℕ). get_or m j 0) (sym e) ∙ ap (λ (i : ℕ). get_or l i 0) z ∙ g j h

pub run_none : (i x : ℕ) (cs : List ℕ) → RunFrom i 0 x cs
run_none i x cs j h = absurd (omega arith)

pub run_turn : (i n x : ℕ) (cs : List ℕ) → RunFrom i n x cs → get_or cs (i + n) 0 ≡ x + n → RunFrom i (n + 1) x cs
run_turn i n x cs g e j h =
    ⊎_elim (λ l. g j l) (λ l. let q : j ≡ n = omega arith in ap (λ (m : ℕ). get_or cs (i + m) 0) q ∙ e ∙ ap (λ (m : ℕ). x + m) (sym q)) (lt_or_le j n)

pub run_end : (i n m x : ℕ) (cs : List ℕ) → RunFrom i n x cs → m ≤ n → RunFrom i m x cs
run_end i n m x cs g h j l = g j (omega arith)
