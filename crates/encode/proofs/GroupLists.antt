-- The cells that a group adds to a set's sum: where they lie, how they are pushed, and that the
-- groups one after another give all data cells of the set.
use mathlib.Core.Path.{◌≡◌, refl, sym, ap, ap₂, ◌∙◌}
use mathlib.Core.Bool.{Bool, true, false, ◌&&◌}
use mathlib.Core.Logic.{⊎_elim}
use mathlib.Core.List.{List, [], ◌∷◌, ◌++◌, append-nil}
use Prim.Native.Nat.{ℕ, zero, suc, ◌+◌, ◌-◌, ◌*◌, ◌≤◌, ◌<◌}
use native.Mathlib.Omega.{arith}
use lib.Dec.{eqb, ltb, leb}
use lib.ListN.{length}
use borrow.Author.Tests.{ltb-true, lt-ltb, le-ltb}
use Rattle.mathematics.specs.Choice.{pick}
use Rattle.mathematics.specs.Lists.{all_below}
use Rattle.mathematics.proofs.Flags.{and_i}
use Rattle.mathematics.proofs.OrderLaws.{lt_or_le}
use Rattle.mathematics.proofs.ListLaws.{below_append}
use Rattle.mathematics.proofs.Walks.{Walk, walk_below}
use Rattle.liberation.specs.Sets.{extra_row, extra_disk, extra_of}
use Rattle.liberation.proofs.SetLaws.{place_below}
use Rattle.liberation.specs.Stripes.Stripes.{stripe_long}
use Rattle.xor.specs.Parts.{with_part, xor_offsets}
use Rattle.xor_in_place.specs.Beside.{Beside}
use Rattle.stripe_cells.specs.Offsets.{scaled, cells_from}
use Rattle.stripe_cells.proofs.KeptLaws.{row_in, row_in_below, cell_walk}
use Rattle.stripe_cells.proofs.OffsetLaws.{over_offsets, length_scaled, scaled_append}
use Rattle.stripe_cells.specs.OrdinaryCells.{parity_disk}
use Rattle.stripe_cells.specs.SetCells.{extra_in}
use Rattle.stripe_cells.proofs.OrdinaryLists.{parity_most}
use Rattle.stripe_cells.proofs.AppendedLaws.{both_appended, data_length}
use Rattle.stripe_cells.proofs.SolvedLaws.{list_lies_beside}
use Rattle.encode.specs.Extras.{extra_between}
use Rattle.encode.proofs.ExtraLists.{extra_before, extra_from}
use Rattle.encode.specs.Groups.{group_cells, parity_cell, group_sources, group_sum, added_set}

-- a walk in two parts
walk_add : {f : ℕ → ℕ} {l : ℕ → ℕ → List ℕ} → Walk f l → (m n c : ℕ) → l (m + n) c ≡ l m c ++ l n (c + m)
walk_add {f} {l} w zero n c =
    let e : 0 + n ≡ n = omega arith in
    let q : c ≡ c + 0 = omega arith in
    ap₂ l e q ∙ ap (λ (xs : List ℕ). xs ++ l n (c + 0)) (sym (w.none c))
walk_add {f} {l} w (suc m) n c =
    let e : suc m + n ≡ suc (m + n) = omega arith in
    let q : suc c + m ≡ c + suc m = omega arith in
    ap (λ (j : ℕ). l j c) e
    ∙ w.next (m + n) c
    ∙ ap (λ (xs : List ℕ). f c ∷ xs) (walk_add w m n (suc c) ∙ ap (λ (d : ℕ). l m (suc c) ++ l n d) q)
    ∙ ap (λ (xs : List ℕ). xs ++ l n (c + suc m)) (sym (w.next m c))

-- the extra cell, as its disk is below n or not
module _ (p kind i : ℕ) where
  extra_as : (n : ℕ) (b : Bool) → ltb (extra_disk p i) n ≡ b → extra_in p n kind i ≡ pick (eqb kind 0) [] (pick (leb 1 i && b) (extra_of p i ∷ []) [])
  extra_as n b e = ap (λ (c : Bool). pick (eqb kind 0) [] (pick (leb 1 i && c) (extra_of p i ∷ []) [])) e

  extra_past : (n : ℕ) → n ≤ extra_disk p i → extra_in p n kind i ≡ []
  extra_past n h = extra_as n false (le-ltb (extra_disk p i) n h) ∙ go (eqb kind 0) (leb 1 i)
    where
      go : (a b : Bool) → pick a [] (pick (b && false) (extra_of p i ∷ []) []) ≡ []
      go true b = refl
      go false true = refl
      go false false = refl

  -- of the disks below lo and the group's it is on one
  extra_split : (lo hi : ℕ) → lo ≤ hi → extra_between p 0 hi kind i ≡ extra_between p 0 lo kind i ++ extra_between p lo hi kind i
  extra_split lo hi h = extra_from p kind i 0 hi (omega arith) ∙ ⊎_elim before here (lt_or_le (extra_disk p i) lo) ∙ ap (λ (l : List ℕ). l ++ extra_between p lo hi kind i) (sym (extra_from p kind i 0 lo (omega arith)))
    where
      before : extra_disk p i < lo → extra_in p hi kind i ≡ extra_in p lo kind i ++ extra_between p lo hi kind i
      before l =
          extra_as hi true (lt-ltb (extra_disk p i) hi (omega arith))
          ∙ sym (extra_as lo true (lt-ltb (extra_disk p i) lo l))
          ∙ sym (append-nil (extra_in p lo kind i))
          ∙ ap (λ (xs : List ℕ). extra_in p lo kind i ++ xs) (sym (extra_before p kind i lo hi l))

      here : lo ≤ extra_disk p i → extra_in p hi kind i ≡ extra_in p lo kind i ++ extra_between p lo hi kind i
      here l = ap₂ (λ (xs ys : List ℕ). xs ++ ys) (sym (extra_past lo l)) (sym (extra_from p kind i lo hi l))

  cells_split : (lo hi : ℕ) → lo ≤ hi → cells_from kind (hi - 0) p i 0 ≡ cells_from kind (lo - 0) p i 0 ++ cells_from kind (hi - lo) p i lo
  cells_split lo hi h =
      let e : hi - 0 ≡ (lo - 0) + (hi - lo) = omega arith in
      let q : 0 + (lo - 0) ≡ lo = omega arith in
      ap (λ (n : ℕ). cells_from kind n p i 0) e
      ∙ walk_add (cell_walk kind p i) (lo - 0) (hi - lo) 0
      ∙ ap (λ (c : ℕ). cells_from kind (lo - 0) p i 0 ++ cells_from kind (hi - lo) p i c) q

  -- the group's cells are on disks below hi
  module _ (m lo hi : ℕ) (numbered : i < p) (ordered : lo ≤ hi) (last : hi ≤ m) where
    pub cells_below : all_below (p * m) (cells_from kind (hi - lo) p i lo) ≡ true
    cells_below = walk_below (cell_walk kind p i) (p * m) (hi - lo) lo (λ d h. place_below p m (row_in kind p i d) d (row_in_below kind p i d numbered) (omega arith))

    pub extra_below : all_below (p * m) (extra_between p lo hi kind i) ≡ true
    extra_below = go (leb lo (extra_disk p i)) (eqb kind 0) (leb 1 i) (ltb (extra_disk p i) hi) refl
      where
        go : (a b c d : Bool) → ltb (extra_disk p i) hi ≡ d → all_below (p * m) (pick a (pick b [] (pick (c && d) (extra_of p i ∷ []) [])) []) ≡ true
        go false b c d e = refl
        go true true c d e = refl
        go true false false d e = refl
        go true false true false e = refl
        go true false true true e =
            let d : extra_disk p i < m = omega (arith, ltb-true (extra_disk p i) hi e) in
            let r : extra_row p i < p = omega arith in
            and_i _ _ (lt-ltb (extra_of p i) (p * m) (place_below p m (extra_row p i) (extra_disk p i) r d)) refl

    pub group_below : all_below (p * m) (group_cells p lo hi kind i) ≡ true
    unfolding group_cells
    group_below = below_append (p * m) (cells_from kind (hi - lo) p i lo) (extra_between p lo hi kind i) cells_below extra_below

-- the sources of a sum
pub parity_below : (p k kind i : ℕ) → i < p → parity_cell p k kind i < p * (k + 2)
parity_below p k kind i numbered = place_below p (k + 2) i (parity_disk k kind) numbered (omega (arith, parity_most p k kind i))

pub sources_below : (p k lo hi kind i : ℕ) → i < p → lo ≤ hi → hi ≤ k → all_below (p * (k + 2)) (group_sources p k lo hi kind i) ≡ true
sources_below p k lo hi kind i numbered ordered last =
    below_append (p * (k + 2)) (pick (eqb lo 0) [] (parity_cell p k kind i ∷ [])) (group_cells p lo hi kind i) (go (eqb lo 0)) (group_below p kind i (k + 2) lo hi numbered ordered (omega arith))
  where
    go : (b : Bool) → all_below (p * (k + 2)) (pick b [] (parity_cell p k kind i ∷ [])) ≡ true
    go true = refl
    go false = and_i _ _ (lt-ltb (parity_cell p k kind i) (p * (k + 2)) (parity_below p k kind i numbered)) refl

-- the sources of a set's sum, one of its parts after the other
module _ (p k s lo hi kind i : ℕ) where
  -- the parity cell, but in the first group
  own_scaled : (b : Bool) → scaled s (pick b [] (parity_cell p k kind i ∷ [])) ≡ pick b [] (parity_cell p k kind i * s ∷ [])
  unfolding scaled
  own_scaled true = refl
  own_scaled false = refl

  pub sources_listed : (a b c : List ℕ) (to : ℕ) → to ≡ parity_cell p k kind i * s → a ≡ pick (eqb lo 0) [] (to ∷ []) → b ≡ a ++ scaled s (cells_from kind (hi - lo) p i lo) → c ≡ b ++ scaled s (extra_between p lo hi kind i) → c ≡ scaled s (group_sources p k lo hi kind i)
  unfolding group_cells
  sources_listed a b c to e u v w =
      both_appended (group_cells p lo hi kind i) a b c s (cells_from kind (hi - lo) p i lo) (extra_between p lo hi kind i) refl v w
      ∙ ap (λ (l : List ℕ). l ++ scaled s (group_cells p lo hi kind i)) (u ∙ ap (λ (x : ℕ). pick (eqb lo 0) [] (x ∷ [])) e ∙ sym (own_scaled (eqb lo 0)))
      ∙ sym (scaled_append s (pick (eqb lo 0) [] (parity_cell p k kind i ∷ [])) (group_cells p lo hi kind i))

  -- so many in the list before the extra cell
  pub sources_few : (a b : List ℕ) (to : ℕ) → lo ≤ hi → a ≡ pick (eqb lo 0) [] (to ∷ []) → b ≡ a ++ scaled s (cells_from kind (hi - lo) p i lo) → (length a ≤ 1) × (length b ≤ 1 + (hi - lo))
  sources_few a b to h u v =
      let l : length a ≤ 1 = own in
      (l, omega (arith, data_length p k s kind i a b (hi - lo) lo v))
    where
      own : length a ≤ 1
      own = let q = one (eqb lo 0) in omega (arith, ap length u)
        where
          one : (b : Bool) → length (pick b [] (to ∷ [])) ≤ 1
          one true = omega arith
          one false = omega arith

  module _ (list t : List ℕ) (numbered : i < p) (ordered : lo ≤ hi) (last : hi ≤ k) (most : length list ≤ 33) (long : length t ≡ stripe_long p k s) (e : list ≡ scaled s (group_sources p k lo hi kind i)) where
    pub group_beside : Beside (parity_cell p k kind i * s) s (length t) list
    group_beside =
        list_lies_beside s (p * (k + 2)) list (group_sources p k lo hi kind i) t e (omega (arith, ap length e, length_scaled s (group_sources p k lo hi kind i))) (sources_below p k lo hi kind i numbered ordered last) (long ∙ omega arith)
        (parity_cell p k kind i)
        (parity_below p k kind i numbered)

    pub group_added : (u : List ℕ) → u ≡ with_part s (parity_cell p k kind i * s) (xor_offsets s t list) t → u ≡ added_set p k s lo hi kind i t
    unfolding group_sum
    group_added u q = q ∙ ap (λ (l : List ℕ). with_part s (parity_cell p k kind i * s) l t) (ap (xor_offsets s t) e ∙ over_offsets s t (group_sources p k lo hi kind i))

-- all data cells below hi: those below lo and the group's, then the extra cell if it is below lo or
-- in the group
pub cells_in_two : (p kind i lo hi : ℕ) → lo ≤ hi → group_cells p 0 hi kind i ≡ (cells_from kind (lo - 0) p i 0 ++ cells_from kind (hi - lo) p i lo) ++ (extra_between p 0 lo kind i ++ extra_between p lo hi kind i)
unfolding group_cells
cells_in_two p kind i lo hi h = ap₂ (λ (xs ys : List ℕ). xs ++ ys) (cells_split p kind i lo hi h) (extra_split p kind i lo hi h)
