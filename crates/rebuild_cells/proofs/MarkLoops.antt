-- The loops over marks: the marks still to come give the rest of the list.
use mathlib.Core.Path.{◌≡◌, sym, ap, ap₂, ◌∙◌}
use mathlib.Core.Bool.{Bool}
use mathlib.Core.List.{List, [], ◌∷◌, ◌++◌, append-nil, append_assoc}
use Prim.Native.Nat.{ℕ, suc, ◌+◌, ◌*◌, ◌≤◌, ◌<◌}
use native.Mathlib.Numerals.{add-one}
use native.Mathlib.Omega.{arith}
use lib.ListN.{replicate, length, get_or, take, drop, length-append, drop_of_length-le}
use borrow.Author.Tests.{eq-eqb, ne_eqb}
use Rattle.mathematics.specs.Choice.{pick}
use Rattle.mathematics.proofs.SearchLaws.{drop_next}
use Rattle.liberation.specs.Plans.{marks_from}
use Rattle.liberation.proofs.MarkLists.{take_marks, no_cells, cells_most}
use Rattle.refusals.specs.declared.array.Array.{Array}
use Rattle.rebuild_cells.specs.Theory.Mending.{marked_from}

-- the cells from place x on
abbrev pub rest_from : ℕ → List ℕ → List ℕ
rest_from x ms = marked_from x (drop x ms)

rest_none : (ms : List ℕ) (x : ℕ) → length ms ≤ x → rest_from x ms ≡ []
unfolding marked_from
rest_none ms x h = ap (marked_from x) (drop_of_length-le ms h)

rest_unmarked : (ms : List ℕ) (x m : ℕ) → x < length ms → m ≡ get_or ms x 0 → m ≡ 0 → rest_from (x + 1) ms ≡ rest_from x ms
unfolding marked_from
rest_unmarked ms x m h e z =
    ap (λ (i : ℕ). marked_from i (drop (x + 1) ms)) (add-one x)
    ∙ sym (ap (marked_from x) (drop_next ms x m h e) ∙ ap (λ (b : Bool). pick b (marked_from (suc x) (drop (x + 1) ms)) (x ∷ marked_from (suc x) (drop (x + 1) ms))) (eq-eqb m 0 z))

rest_marked : (ms : List ℕ) (x m : ℕ) → x < length ms → m ≡ get_or ms x 0 → (m ≡ 0 → ⊥) → x ∷ rest_from (x + 1) ms ≡ rest_from x ms
unfolding marked_from
rest_marked ms x m h e z =
    ap (λ (i : ℕ). x ∷ marked_from i (drop (x + 1) ms)) (add-one x)
    ∙ sym (ap (marked_from x) (drop_next ms x m h e) ∙ ap (λ (b : Bool). pick b (marked_from (suc x) (drop (x + 1) ms)) (x ∷ marked_from (suc x) (drop (x + 1) ms))) (ne_eqb m 0 z))

-- a turn of the loop: the cells listed, with those still to come, are all
pub list_marked : (ms cs all : List ℕ) (x m : ℕ) → x < length ms → m ≡ get_or ms x 0 → (m ≡ 0 → ⊥) → cs ++ rest_from x ms ≡ all → (cs ++ (x ∷ [])) ++ rest_from (x + 1) ms ≡ all
list_marked ms cs all x m h e z q = append_assoc cs (x ∷ []) (rest_from (x + 1) ms) ∙ ap (λ (l : List ℕ). cs ++ l) (rest_marked ms x m h e z) ∙ q

pub list_unmarked : (ms cs all : List ℕ) (x m : ℕ) → x < length ms → m ≡ get_or ms x 0 → m ≡ 0 → cs ++ rest_from x ms ≡ all → cs ++ rest_from (x + 1) ms ≡ all
list_unmarked ms cs all x m h e z q = ap (λ (l : List ℕ). cs ++ l) (rest_unmarked ms x m h e z) ∙ q

-- one more than that
pub list_more : (ms cs all : List ℕ) (x m : ℕ) → x < length ms → m ≡ get_or ms x 0 → (m ≡ 0 → ⊥) → cs ++ rest_from x ms ≡ all → length cs < length all
list_more ms cs all x m h e z q =
    let a : length (cs ++ rest_from x ms) ≡ length cs + length (rest_from x ms) = length-append cs (rest_from x ms) in
    let d : length (rest_from x ms) ≡ suc (length (rest_from (x + 1) ms)) = ap length (sym (rest_marked ms x m h e z)) in
    omega (arith, a, d, ap length q)

pub list_end : (ms cs all : List ℕ) (x : ℕ) → length ms ≤ x → cs ++ rest_from x ms ≡ all → cs ≡ all
list_end ms cs all x h q = sym (append-nil cs) ∙ ap (λ (l : List ℕ). cs ++ l) (sym (rest_none ms x h)) ∙ q

-- the marks of an array's cells before any is marked
pub none_marked : (a : Array) (ms : List ℕ) (n : ℕ) → ms ≡ marks_from 1023 0 [] → n ≡ a.width * (a.disks + 2) → take n ms ≡ replicate (a.width * (a.disks + 2)) 0
none_marked a ms n e q =
    ap₂ take q e
    ∙ take_marks (a.width * (a.disks + 2)) 1023 0 [] (cells_most a.width a.disks a.widest a.within)
    ∙ sym (no_cells (a.width * (a.disks + 2)) 0)
