-- Lists of a set's cells on lost disks. One of them is the cell that is written.
use mathlib.Core.Path.{◌≡◌, refl, sym, ap, ap₂, ◌∙◌}
use mathlib.Core.Bool.{Bool, true, false, ◌&&◌}
use mathlib.Core.List.{List, [], ◌∷◌, ◌++◌, append-nil}
use Prim.Native.Nat.{ℕ, ◌+◌, ◌-◌, ◌*◌, ◌%◌, ◌≤◌, ◌<◌}
use native.Mathlib.Omega.{arith}
use lib.Dec.{eqb}
use lib.ListN.{length, length-append}
use borrow.Author.Tests.{eq-eqb, ne_eqb, le-leb, lt-leb}
use Rattle.mathematics.specs.Choice.{pick}
use Rattle.mathematics.proofs.ListLaws.{below_append}
use Rattle.liberation.specs.Sets.{place, row_from, diagonal_from, row_set, diagonal_set, extra_row, extra_disk, set_of, lost_in}
use Rattle.liberation.proofs.SetLaws.{place_below}
use Rattle.liberation.proofs.LostLaws.{extra_on, lost_row, lost_diagonal}
use Rattle.liberation.specs.Stripes.Steps.{cell_step}
use Rattle.liberation.specs.TwoDisksBySums.Sums.{placed, lost_cells, sum_added}
use Rattle.liberation.proofs.TwoDisksBySums.Adding.{placed_below}
use Rattle.xor.specs.Parts.{with_part, xor_offsets}
use Rattle.xor_in_place.specs.Beside.{Beside}
use Rattle.stripe_cells.specs.Offsets.{scaled, cells_from}
use Rattle.mathematics.proofs.Walks.{walk_long}
use Rattle.stripe_cells.proofs.KeptLaws.{cell_walk}
use Rattle.stripe_cells.proofs.OffsetLaws.{over_offsets}
use Rattle.stripe_cells.proofs.AppendedLaws.{both_appended, length_appended}
use Rattle.stripe_cells.proofs.SolvedLaws.{list_lies_beside}
use Rattle.two_disk_walk.proofs.LostDisks.{Lost}

-- a set's cells on a lost disk: that of the row or the diagonal, and the extra cell if it is there
module _ (p k kind i f : ℕ) (h : i < p) (l : f < k) where
  listed : (b : Bool) → eqb kind 0 ≡ b → placed p f (lost_in p f (set_of p k kind i)) ≡ cells_from kind 1 p i f ++ pick b [] (pick (extra_on p i f) (place p (extra_row p i) f ∷ []) [])
  unfolding placed row_from diagonal_from
  listed b e =
      ap (λ (c : Bool). placed p f (lost_in p f (pick c (row_set p k i) (diagonal_set p k i)))) e
      ∙ go b
      ∙ sym (ap (λ (c : Bool). pick c (place p i f ∷ []) (place p ((i + f) % p) f ∷ []) ++ pick b [] (pick (extra_on p i f) (place p (extra_row p i) f ∷ []) [])) e)
    where
      extra : (c : Bool) → placed p f (pick c (extra_row p i ∷ []) []) ≡ pick c (place p (extra_row p i) f ∷ []) []
      extra true = refl
      extra false = refl

      go : (c : Bool) → placed p f (lost_in p f (pick c (row_set p k i) (diagonal_set p k i))) ≡ pick c (place p i f ∷ []) (place p ((i + f) % p) f ∷ []) ++ pick c [] (pick (extra_on p i f) (place p (extra_row p i) f ∷ []) [])
      go true = ap (placed p f) (lost_row p k i f h (omega arith))
      go false = ap (placed p f) (lost_diagonal p k i f h l) ∙ ap (λ (m : List ℕ). place p ((i + f) % p) f ∷ m) (extra (extra_on p i f))

  -- appended: that cell alone, or with the extra cell
  module _ (s : ℕ) (old new : List ℕ) (u : new ≡ old ++ scaled s (cells_from kind (f + 1 - f) p i f)) where
    one : new ≡ old ++ scaled s (cells_from kind 1 p i f)
    one = let e : f + 1 - f ≡ 1 = omega arith in u ∙ ap (λ (m : ℕ). old ++ scaled s (cells_from kind m p i f)) e

    plain : (b : Bool) → eqb kind 0 ≡ b → pick b [] (pick (extra_on p i f) (place p (extra_row p i) f ∷ []) []) ≡ [] → new ≡ old ++ scaled s (placed p f (lost_in p f (set_of p k kind i)))
    plain b e z = one ∙ ap (λ (xs : List ℕ). old ++ scaled s xs) (sym (listed b e ∙ ap (λ (m : List ℕ). cells_from kind 1 p i f ++ m) z ∙ append-nil (cells_from kind 1 p i f)))

    pub row_listed : kind ≡ 0 → new ≡ old ++ scaled s (placed p f (lost_in p f (set_of p k kind i)))
    row_listed e = plain true (eq-eqb kind 0 e) refl

    no_extra : (kind ≡ 0 → ⊥) → extra_on p i f ≡ false → new ≡ old ++ scaled s (placed p f (lost_in p f (set_of p k kind i)))
    no_extra e z = plain false (ne_eqb kind 0 e) (ap (λ (b : Bool). pick b (place p (extra_row p i) f ∷ []) []) z)

    pub first_listed : (kind ≡ 0 → ⊥) → i ≡ 0 → new ≡ old ++ scaled s (placed p f (lost_in p f (set_of p k kind i)))
    first_listed e z = no_extra e (ap (λ (b : Bool). b && eqb (extra_disk p i) f) (lt-leb 1 i (omega arith)))

    pub other_listed : (kind ≡ 0 → ⊥) → (i ≡ 0 → ⊥) → (extra_disk p i ≡ f → ⊥) → new ≡ old ++ scaled s (placed p f (lost_in p f (set_of p k kind i)))
    other_listed e z m = no_extra e (ap₂ ◌&&◌ (le-leb 1 i (omega arith)) (ne_eqb (extra_disk p i) f m))

    pub extra_listed : (kind ≡ 0 → ⊥) → (i ≡ 0 → ⊥) → extra_disk p i ≡ f → (o : ℕ) → o ≡ place p (extra_row p i) f * s → (last : List ℕ) → last ≡ new ++ (o ∷ []) → last ≡ old ++ scaled s (placed p f (lost_in p f (set_of p k kind i)))
    unfolding scaled
    extra_listed e z m o eo last v =
        both_appended (placed p f (lost_in p f (set_of p k kind i))) old new last s (cells_from kind 1 p i f) (place p (extra_row p i) f ∷ [])
        (listed false (ne_eqb kind 0 e) ∙ ap (λ (b : Bool). cells_from kind 1 p i f ++ pick b (place p (extra_row p i) f ∷ []) []) (ap₂ ◌&&◌ (le-leb 1 i (omega arith)) (eq-eqb (extra_disk p i) f m)))
        one (v ∙ ap (λ (n : ℕ). new ++ (n ∷ [])) eo)

    -- one more than before
    pub one_more : length new ≡ length old + 1
    one_more = length_appended old new s (cells_from kind 1 p i f) one ∙ ap (λ (n : ℕ). length old + n) (walk_long (cell_walk kind p i) 1 f)

  -- at most two
  pub lost_few : length (placed p f (lost_in p f (set_of p k kind i))) ≤ 2
  lost_few = go (eqb kind 0) refl
    where
      few : (b c : Bool) → length (pick b [] (pick c (place p (extra_row p i) f ∷ []) [])) ≤ 1
      few true c = omega arith
      few false true = omega arith
      few false false = omega arith

      go : (b : Bool) → eqb kind 0 ≡ b → length (placed p f (lost_in p f (set_of p k kind i))) ≤ 2
      go b e =
          let l : length (cells_from kind 1 p i f) ≡ 1 = walk_long (cell_walk kind p i) 1 f in
          omega (arith, ap length (listed b e) ∙ length-append (cells_from kind 1 p i f) (pick b [] (pick (extra_on p i f) (place p (extra_row p i) f ∷ []) [])), few b (extra_on p i f))

-- the lost cells of a set, listed
module _ (p k s x y : ℕ) (t list : List ℕ) (q : Lost p k s x y t) (kind i r f : ℕ) (numbered : i < p) (row : r < p) (on : f < k) (to : ℕ) (et : to ≡ place p r f * s) (e : list ≡ scaled s (lost_cells p x y (set_of p k kind i))) where
  few : length (lost_cells p x y (set_of p k kind i)) ≤ 100
  few =
      let set = set_of p k kind i in
      omega (arith, length-append (placed p x (lost_in p x set)) (placed p y (lost_in p y set)), lost_few p k kind i x numbered q.one, lost_few p k kind i y numbered q.other)

  pub add_beside : Beside to s (length t) list
  add_beside =
      let set = set_of p k kind i in
      rw et (list_lies_beside s (p * (k + 2)) list (lost_cells p x y set) t e few
      (below_append (p * (k + 2)) (placed p x (lost_in p x set)) (placed p y (lost_in p y set)) (placed_below (k + 2) p x set (omega arith) (omega (arith, q.one))) (placed_below (k + 2) p y set (omega arith) (omega (arith, q.other))))
      (q.sized.long ∙ omega arith) (place p r f) (place_below p (k + 2) r f row (omega arith)))

  pub add_done : (u : List ℕ) → u ≡ with_part s to (xor_offsets s t list) t → u ≡ sum_added p k s x y (cell_step (place p r f) kind i) t
  add_done u v = v ∙ ap (λ (d : ℕ). with_part s d (xor_offsets s t list) t) et ∙ ap (λ (l : List ℕ). with_part s (place p r f * s) l t) (ap (xor_offsets s t) e ∙ over_offsets s t (lost_cells p x y (set_of p k kind i)))
