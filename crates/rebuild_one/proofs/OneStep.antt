-- One step: the XOR of the surviving cells of the set, read in the stripe, and of its other lost
-- cells, read in the column, is that of the set's other cells in the stripe with the column put in.
-- The cell of the step itself is none of the survivors, and among the lost cells it is the one of
-- its row.
use mathlib.Core.Path.{◌≡◌, refl, sym, ap, ap₂, subst, ◌∙◌}
use mathlib.Core.Bool.{Bool, true, false, ◌&&◌, not}
use mathlib.Core.Logic.{◌⊎◌, inl, inr, ⊎_elim}
use mathlib.Core.List.{List, [], ◌∷◌}
use Prim.Native.Nat.{ℕ, zero, suc, ◌+◌, ◌-◌, ◌*◌, ◌≤◌, ◌<◌}
use native.Mathlib.Nat.{mul-le-mul_right}
use native.Mathlib.Omega.{arith}
use lib.Dec.{eqb}
use lib.ListN.{length, get_or, length-take, length-drop}
use borrow.Rule.Slice.PartMut.{put_mid, mid_of}
use borrow.Author.Tests.{eqb-true, eqb-false, eq-eqb, ne_eqb, not-true}
use Rattle.mathematics.specs.Choice.{pick}
use Rattle.mathematics.specs.Lists.{is_in}
use Rattle.mathematics.specs.Xor.{xor_l}
use Rattle.mathematics.proofs.Flags.{and_l, and_r}
use Rattle.mathematics.proofs.MemberLaws.{in_below}
use Rattle.mathematics.proofs.OrderLaws.{lt_or_le}
use Rattle.mathematics.proofs.XorLaws.{xor_l_zeros}
use Rattle.liberation.specs.Sets.{place, row_at, disk_at, set_of, lost_in, surviving_in}
use Rattle.liberation.proofs.SetLaws.{disk_place, row_place, place_of, place_below, set_below, lost_below, in_surviving, survivors_below}
use Rattle.liberation.proofs.SetSizes.{size_most}
use Rattle.mathematics.proofs.KeptLaws.{kept_below, kept_short}
use Rattle.liberation.specs.Stripes.Stripes.{stripe_long, cell_at, with_cell, with_column, xor_over, without, solved}
use Rattle.liberation.proofs.Stripes.StripeCellLaws.{cell_fits, cell_long, length_with, with_same, cell_with, with_with, cell_other, cell_on, cell_off, column_put}
use Rattle.liberation.proofs.Stripes.OverLaws.{over_long, over_bytes, over_ext, over_split, in_without}
use Rattle.liberation.proofs.Stripes.Solving.{cells_long}
use Rattle.xor.specs.Parts.{with_part, xor_offsets}
use Rattle.xor.specs.Reach.{Reached}
use Rattle.xor.proofs.PartLaws.{put_part}
use Rattle.xor_in_place.specs.Beside.{Beside}
use Rattle.stripe_cells.specs.Offsets.{scaled}
use Rattle.stripe_cells.proofs.OffsetLaws.{over_offsets}
use Rattle.stripe_cells.proofs.SolvedLaws.{list_reached}
use Rattle.stripe_cells.proofs.OrdinaryLists.{survivors_keep}
use Rattle.stripe_cells.specs.OrdinaryCells.{survivors}
use Rattle.stripe_cells.proofs.SetLists.{survivors_one}

-- the cell of the step is on the lost disk, so no survivor is left out
surviving_without : (p f row : ℕ) (xs : List ℕ) → row < p → surviving_in p f (without (place p row f) xs) ≡ surviving_in p f xs
unfolding surviving_in without
surviving_without p f row [] h = refl
surviving_without p f row (x ∷ xs) h = go (eqb (place p row f) x) refl (surviving_without p f row xs h)
  where
    go : (b : Bool) → eqb (place p row f) x ≡ b → surviving_in p f (without (place p row f) xs) ≡ surviving_in p f xs
        → surviving_in p f (pick b (without (place p row f) xs) (x ∷ without (place p row f) xs)) ≡ pick (eqb (disk_at p x) f) (surviving_in p f xs) (x ∷ surviving_in p f xs)
    go true e rest =
        let d : disk_at p x ≡ f = ap (disk_at p) (sym (eqb-true (place p row f) x e)) ∙ disk_place p row f h in
        rest ∙ sym (ap (λ (t : Bool). pick t (surviving_in p f xs) (x ∷ surviving_in p f xs)) (eq-eqb (disk_at p x) f d))
    go false e rest = ap (λ (ys : List ℕ). pick (eqb (disk_at p x) f) ys (x ∷ ys)) rest

-- of the lost cells, its row is
lost_without : (p f row : ℕ) (xs : List ℕ) → row < p → lost_in p f (without (place p row f) xs) ≡ without row (lost_in p f xs)
unfolding lost_in without
lost_without p f row [] h = refl
lost_without p f row (x ∷ xs) h = go (eqb (place p row f) x) (eqb (disk_at p x) f) refl refl (lost_without p f row xs h)
  where
    go : (b d : Bool) → eqb (place p row f) x ≡ b → eqb (disk_at p x) f ≡ d → lost_in p f (without (place p row f) xs) ≡ without row (lost_in p f xs)
        → lost_in p f (pick b (without (place p row f) xs) (x ∷ without (place p row f) xs)) ≡ without row (pick d (row_at p x ∷ lost_in p f xs) (lost_in p f xs))
    go true true e q rest =
        let r : row ≡ row_at p x = sym (row_place p row f h) ∙ ap (row_at p) (eqb-true (place p row f) x e) in
        rest ∙ sym (ap (λ (t : Bool). pick t (without row (lost_in p f xs)) (row_at p x ∷ without row (lost_in p f xs))) (eq-eqb row (row_at p x) r))
    go true false e q rest = rest
    go false true e q rest =
        let n : row ≡ row_at p x → ⊥ = λ r. eqb-false (place p row f) x e (ap₂ (place p) r (sym (eqb-true (disk_at p x) f q)) ∙ place_of p x) in
        ap (λ (t : Bool). pick t (row_at p x ∷ lost_in p f (without (place p row f) xs)) (lost_in p f (without (place p row f) xs))) q
        ∙ ap (λ (ys : List ℕ). row_at p x ∷ ys) rest
        ∙ sym (ap (λ (t : Bool). pick t (without row (lost_in p f xs)) (row_at p x ∷ without row (lost_in p f xs))) (ne_eqb row (row_at p x) n))
    go false false e q rest = ap (λ (t : Bool). pick t (row_at p x ∷ lost_in p f (without (place p row f) xs)) (lost_in p f (without (place p row f) xs))) q ∙ rest

module _ (p k s f row kind number : ℕ) (t col : List ℕ) (long : length t ≡ stripe_long p k s) (disk : f ≤ k + 1) (column : length col ≡ p * s) (numbered : number < p) (rows : row < p) where
  abbrev xs : List ℕ
  xs = set_of p k kind number

  -- the stripe with the column put in
  abbrev whole : List ℕ
  whole = with_column p s f col t

  some : 0 < p
  some = omega arith

  disk_fits : f * (p * s) + p * s ≤ length t
  disk_fits = let l : f < k + 2 = omega arith in omega (arith, cell_fits (k + 2) (p * s) f l)

  pub row_fits : row * s + s ≤ length col
  row_fits = omega (arith, cell_fits p s row rows)

  -- the XOR of the survivors and that of the other lost cells
  abbrev alive : List ℕ
  alive = xor_over s (cell_at s t) (surviving_in p f xs)

  abbrev lost : List ℕ → List ℕ
  lost c = xor_over s (cell_at s c) (without row (lost_in p f xs))

  kept_row : (y : ℕ) → is_in y (without row (lost_in p f xs)) ≡ true → (is_in y (lost_in p f xs) && not (eqb y row)) ≡ true
  kept_row y h = sym (in_without row y (lost_in p f xs)) ∙ h

  others : xor_over s (cell_at s whole) (without (place p row f) xs) ≡ xor_l alive (lost col)
  others =
      over_split s p f (cell_at s whole) (without (place p row f) xs)
      ∙ ap₂ xor_l
      (ap (xor_over s (cell_at s whole)) (surviving_without p f row xs rows) ∙ over_ext s (cell_at s whole) (cell_at s t) (surviving_in p f xs) off)
      (ap (xor_over s (λ r. cell_at s whole (place p r f))) (lost_without p f row xs rows) ∙ over_ext s (λ r. cell_at s whole (place p r f)) (cell_at s col) (without row (lost_in p f xs)) on)
    where
      off : (x : ℕ) → is_in x (surviving_in p f xs) ≡ true → cell_at s whole x ≡ cell_at s t x
      off x h = cell_off p s f col t column disk_fits x some (eqb-false (disk_at p x) f (not-true (eqb (disk_at p x) f) (and_l (not (eqb (disk_at p x) f)) (is_in x xs) (sym (in_surviving p f x xs) ∙ h))))

      on : (r : ℕ) → is_in r (without row (lost_in p f xs)) ≡ true → cell_at s whole (place p r f) ≡ cell_at s col r
      on r h =
          let l : r < p = in_below p r (lost_in p f xs) (lost_below p f xs some) (and_l (is_in r (lost_in p f xs)) (not (eqb r row)) (kept_row r h)) in
          cell_on p s f col t column disk_fits (place p r f) some (disk_place p r f l) ∙ ap (cell_at s col) (row_place p r f l)

  alive_long : length alive ≡ s
  alive_long =
      over_long s (cell_at s t) (surviving_in p f xs)
      (cells_long (p * (k + 2)) s (surviving_in p f xs) t (long ∙ omega arith) (survivors_below p k f kind number numbered))

  -- the offsets of the survivors: each has the length of the row's part, and lies in the stripe
  module _ (small : k ≤ 31) (list : List ℕ) (e : list ≡ scaled s (survivors p f f xs)) where
    mid_long : length (mid_of (row * s) (row * s + s - row * s) col) ≡ s
    mid_long = simp (length-take, length-drop) (omega (arith, row_fits))

    size_fits : s ≤ length t
    size_fits = let l : 0 < k + 2 = omega arith in omega (arith, cell_fits (p * (k + 2)) s (place p number 0) (place_below p (k + 2) number 0 numbered l))

    pub sources_fit : (length (mid_of (row * s) (row * s + s - row * s) col) ≤ length t) × Reached (length (mid_of (row * s) (row * s + s - row * s) col)) (length t) list
    sources_fit = (
      omega (arith, mid_long, size_fits),
      subst (λ (m : ℕ). Reached m (length t) list) (sym mid_long)
          (list_reached s (p * (k + 2)) list (survivors p f f xs) t e (omega (arith, kept_short (survivors_keep p f f) xs, size_most p k kind number)) (kept_below (survivors_keep p f f) (p * (k + 2)) xs (set_below p k kind number numbered)) (long ∙ omega arith)),
    )

    -- ys is their XOR: it is put into the row's part of the column
    module _ (ys : List ℕ) (gathered : ys ≡ xor_offsets (length (mid_of (row * s) (row * s + s - row * s) col)) t list) where
      abbrev mid : List ℕ
      mid = put_mid (row * s) (row * s + s - row * s) col ys

      mid_is : mid ≡ with_cell s row alive col
      mid_is =
          put_part (λ l. xor_offsets (length l) t list) (row * s) s col ys gathered
          ∙ ap (λ (m : ℕ). with_cell s row (xor_offsets m t list) col) (cell_long s row col row_fits)
          ∙ ap (λ (l : List ℕ). with_cell s row l col) (ap (xor_offsets s t) (e ∙ ap (scaled s) (survivors_one p f xs)) ∙ over_offsets s t (surviving_in p f xs))

      stands : cell_at s mid row ≡ alive
      stands = ap (λ (c : List ℕ). cell_at s c row) mid_is ∙ cell_with s row alive col alive_long row_fits

      -- then the other lost cells are added
      step_done : (last : List ℕ) → last ≡ with_cell s row (xor_l (cell_at s mid row) (lost mid)) mid → with_column p s f last t ≡ solved s (place p row f) xs whole
      step_done last q =
          ap (λ (c : List ℕ). with_column p s f c t) (q ∙ ap₂ (λ (c m : List ℕ). with_cell s row c m) (ap₂ xor_l stands same ∙ sym others) mid_is ∙ with_with s row alive col alive_long row_fits new)
          ∙ column_put p s f col t column disk_fits row new rows
        where
          new : List ℕ
          new = xor_over s (cell_at s whole) (without (place p row f) xs)

          same : lost mid ≡ lost col
          same =
              over_ext s (cell_at s mid) (cell_at s col) (without row (lost_in p f xs))
              (λ y h. ap (λ (c : List ℕ). cell_at s c y) mid_is ∙ cell_other s row alive col alive_long row_fits y (eqb-false y row (not-true (eqb y row) (and_r (is_in y (lost_in p f xs)) (not (eqb y row)) (kept_row y h)))))

      -- there is no other
      pub step_alone : without row (lost_in p f xs) ≡ [] → with_column p s f mid t ≡ solved s (place p row f) xs whole
      unfolding xor_over
      step_alone none =
          step_done mid
          (sym
          (ap (λ (c : List ℕ). with_cell s row c mid)
          (ap₂ xor_l stands (ap (xor_over s (cell_at s mid)) none)
          ∙ xor_l_zeros s alive alive_long (over_bytes s (cell_at s t) (surviving_in p f xs))
          ∙ sym stands)
          ∙ with_same s row mid))

      -- there is one, which is added to the row's own cell
      module _ (other : ℕ) (h : other < p) (one_left : without row (lost_in p f xs) ≡ other ∷ []) (pair : List ℕ) (two : pair ≡ row * s ∷ (other * s ∷ [])) where
        apart : (other * s + s ≤ row * s) ⊎ (row * s ≤ other * s)
        apart = ⊎_elim (λ l. inl (cell_fits row s other l)) (λ l. inr (mul-le-mul_right s l)) (lt_or_le other row)

        mid_size : length mid ≡ p * s
        mid_size = ap length mid_is ∙ length_with s row alive col alive_long row_fits ∙ column

        pub pair_beside : Beside (row * s) s (length mid) pair
        pair_beside =
            subst (Beside (row * s) s (length mid)) (sym two)
            (record {
              sources = record { few = omega arith; inside = inside };
              fits = omega (arith, mid_size, cell_fits p s row rows);
              apart = beside;
            })
          where
            inside : (i : ℕ) → i < 2 → get_or (row * s ∷ (other * s ∷ [])) i 0 + s ≤ length mid
            inside zero l = omega (arith, mid_size, cell_fits p s row rows)
            inside (suc zero) l = omega (arith, mid_size, cell_fits p s other h)
            inside (suc (suc i)) l = absurd (omega arith)

            beside : (i : ℕ) → i < 2 → (get_or (row * s ∷ (other * s ∷ [])) i 0 + s ≤ row * s) ⊎ (row * s ≤ get_or (row * s ∷ (other * s ∷ [])) i 0)
            beside zero l = inr (omega arith)
            beside (suc zero) l = apart
            beside (suc (suc i)) l = absurd (omega arith)

        pub step_added : (last : List ℕ) → last ≡ with_part s (row * s) (xor_offsets s mid pair) mid → with_column p s f last t ≡ solved s (place p row f) xs whole
        unfolding xor_offsets xor_over
        step_added last q =
            step_done last
            (q ∙ ap (λ (l : List ℕ). with_cell s row (xor_offsets s mid l) mid) two ∙ sym (ap (λ (l : List ℕ). with_cell s row (xor_l (cell_at s mid row) (xor_over s (cell_at s mid) l)) mid) one_left))
