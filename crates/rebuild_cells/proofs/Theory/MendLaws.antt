-- The mend of missing cells: all other cells stand, and survivors of a clean stripe bring it back.
-- So the cells that are not missing determine the others.
use mathlib.Core.Path.{◌≡◌, refl, sym, ap, ap₂, subst, ◌∙◌}
use mathlib.Core.Bool.{Bool, true, false, ◌&&◌, ◌||◌, not, true≢false}
use mathlib.Core.List.{List, [], ◌∷◌}
use mathlib.Core.Logic.{◌⊎◌, ⊎_elim}
use Prim.Native.Nat.{ℕ, zero, suc, ◌+◌, ◌*◌, ◌^◌, ◌<◌, ◌≤◌}
use native.Mathlib.Omega.{arith}
use lib.Dec.{eqb}
use lib.ListN.{length, get_or, replicate}
use borrow.Author.Tests.{eq-eqb, ne_eqb, eqb-true, eqb-false, not-true}
use Rattle.mathematics.specs.Lists.{is_in, all_below}
use Rattle.mathematics.proofs.Flags.{and_l, and_r}
use Rattle.mathematics.proofs.MemberLaws.{at_in, in_below}
use Rattle.mathematics.proofs.OrderLaws.{eq_or_ne, eq_or_lt}
use Rattle.mathematics.specs.BitRows.Rows.{has}
use Rattle.mathematics.specs.BitRows.Parity.{bit}
use Rattle.mathematics.proofs.BitRows.Reducing.{Solved, Dependent, reduces, names_alone}
use Rattle.liberation.specs.Stripes.Stripes.{cell_at, is_stripe, clean, solved, without, xor_over}
use Rattle.liberation.proofs.Stripes.OverLaws.{over_ext, in_without}
use Rattle.liberation.proofs.Stripes.Solving.{stripe_long_lem, stripe_bytes, stripe_of, stripes_equal, solved_long, solved_bytes, solved_cell, solved_other, solved_zero, solved_same}
use Rattle.rebuild_cells.specs.Theory.Mending.{set_numbered, equations, reduced_cells, mendable, odd_cells, mended_from, mended_cells, AlikeOff, Determined}
use Rattle.rebuild_cells.proofs.Theory.WordLaws.{word_bit, words_long, powers_long, words_at, powers_at}
use Rattle.rebuild_cells.proofs.Theory.OddCells.{odd_cell, cells_distinct, cells_below, odd_zero}

-- set i holds missing cell b
abbrev pub given : ℕ → ℕ → List ℕ → ℕ → ℕ → Bool
given p k cs i b = is_in (get_or cs b 0) (set_numbered p k i)

-- the reduction of the equations of the sets
pub cells_reduce :
    (p k : ℕ) (cs : List ℕ)
    → (((reduced_cells p k cs).done ≡ length cs) × Solved (2 * p) (length cs) (given p k cs) (reduced_cells p k cs).left)
    ⊎ (((reduced_cells p k cs).done < length cs) × Dependent (2 * p) (length cs) (given p k cs))
unfolding reduced_cells
cells_reduce p k cs = reduces (2 * p) (length cs) (given p k cs) (equations p k cs) (words_long (2 * p) 0 p k cs) (powers_long (2 * p) 0) words sums
  where
    words : (j b : ℕ) → j < 2 * p → b < length cs → has (equations p k cs) j b ≡ given p k cs j b
    words j b hj hb =
        let z : 0 + j ≡ j = omega arith in
        ap (λ (w : ℕ). bit w b) (words_at (2 * p) 0 p k cs j hj)
        ∙ word_bit cs (set_numbered p k (0 + j)) b hb
        ∙ ap (λ (i : ℕ). given p k cs i b) z

    sums : (j : ℕ) → j < 2 * p → get_or (equations p k cs).sums j 0 ≡ 2 ^ j
    sums j hj = let z : 0 + j ≡ j = omega arith in powers_at (2 * p) 0 j hj ∙ ap (λ (i : ℕ). 2 ^ i) z

-- more missing cells than sets are never mended
pub mendable_few : (p k : ℕ) (cs : List ℕ) → mendable p k cs ≡ true → length cs ≤ 2 * p
mendable_few p k cs h = ⊎_elim (λ d. d.1.few) (λ d. let l = d.0 in let e = eqb-true (reduced_cells p k cs).done (length cs) h in absurd (omega arith)) (cells_reduce p k cs)

-- the words ws are such that of the missing cells the sets of word c hold cell c alone an odd
-- number of times
abbrev pub Alone : ℕ → ℕ → List ℕ → List ℕ → Type 0
Alone p k cs ws = (c b : ℕ) → c < length cs → b < length cs → is_in (get_or cs b 0) (odd_cells p k (get_or ws c 0)) ≡ eqb c b

pub sums_alone : (p k : ℕ) (cs : List ℕ) → 0 < p → mendable p k cs ≡ true → Alone p k cs (reduced_cells p k cs).left.sums
sums_alone p k cs some ok c b hc hb = ⊎_elim done free (cells_reduce p k cs)
  where
    w : ℕ
    w = get_or (reduced_cells p k cs).left.sums c 0

    done : (((reduced_cells p k cs).done ≡ length cs) × Solved (2 * p) (length cs) (given p k cs) (reduced_cells p k cs).left) → is_in (get_or cs b 0) (odd_cells p k (get_or (reduced_cells p k cs).left.sums c 0)) ≡ eqb c b
    done g = odd_cell p k some (get_or (reduced_cells p k cs).left.sums c 0) (get_or cs b 0) ∙ names_alone (2 * p) (length cs) (given p k cs) (reduced_cells p k cs).left g.1 c b hc hb

    free : (((reduced_cells p k cs).done < length cs) × Dependent (2 * p) (length cs) (given p k cs)) → is_in (get_or cs b 0) (odd_cells p k (get_or (reduced_cells p k cs).left.sums c 0)) ≡ eqb c b
    free g = let l = g.0 in let e = eqb-true (reduced_cells p k cs).done (length cs) ok in absurd (omega arith)

-- ---- the steps, one a missing cell
module _ (p k s : ℕ) (some : 0 < p) (cs ws : List ℕ) (below : all_below (p * (k + 2)) cs ≡ true) (alone : Alone p k cs ws) where
  module _ (b : ℕ) (hb : b < length cs) where
    held : is_in (get_or cs b 0) (odd_cells p k (get_or ws b 0)) ≡ true
    held = alone b b hb hb ∙ eq-eqb b b refl

    next : List ℕ → List ℕ
    next t = solved s (get_or cs b 0) (odd_cells p k (get_or ws b 0)) t

    next_stripe : (t : List ℕ) → is_stripe p k s t ≡ true → is_stripe p k s (next t) ≡ true
    unfolding next
    next_stripe t ht =
        stripe_of p k s (next t)
        (solved_long (p * (k + 2)) s (get_or cs b 0) (odd_cells p k (get_or ws b 0)) t (stripe_long_lem p k s t ht) (cells_below p k some (get_or ws b 0)) held ∙ stripe_long_lem p k s t ht)
        (solved_bytes (p * (k + 2)) s (get_or cs b 0) (odd_cells p k (get_or ws b 0)) t (stripe_long_lem p k s t ht) (cells_below p k some (get_or ws b 0)) held (stripe_bytes p k s t ht))

    next_other : (t : List ℕ) → is_stripe p k s t ≡ true → (y : ℕ) → (y ≡ get_or cs b 0 → ⊥) → cell_at s (next t) y ≡ cell_at s t y
    unfolding next
    next_other t ht = solved_other (p * (k + 2)) s (get_or cs b 0) (odd_cells p k (get_or ws b 0)) t (stripe_long_lem p k s t ht) (cells_below p k some (get_or ws b 0)) held

    next_cell : (t : List ℕ) → is_stripe p k s t ≡ true → cell_at s (next t) (get_or cs b 0) ≡ xor_over s (cell_at s t) (without (get_or cs b 0) (odd_cells p k (get_or ws b 0)))
    unfolding next
    next_cell t ht = solved_cell (p * (k + 2)) s (get_or cs b 0) (odd_cells p k (get_or ws b 0)) t (stripe_long_lem p k s t ht) (cells_below p k some (get_or ws b 0)) held

    -- a clean stripe stands
    next_clean : (u : List ℕ) → is_stripe p k s u ≡ true → clean p k s u ≡ true → next u ≡ u
    unfolding next
    next_clean u hu cu =
        solved_same (p * (k + 2)) s (get_or cs b 0) (odd_cells p k (get_or ws b 0)) u (stripe_long_lem p k s u hu) (cells_below p k some (get_or ws b 0)) held
        (cells_distinct p k some (get_or ws b 0)) (stripe_bytes p k s u hu) (odd_zero p k some s u hu cu (get_or ws b 0))

    -- no missing cell is read
    reads : (y : ℕ) → is_in y (without (get_or cs b 0) (odd_cells p k (get_or ws b 0))) ≡ true → (c : ℕ) → c < length cs → y ≡ get_or cs c 0 → ⊥
    reads y h c hc e = eqb-false y (get_or cs b 0) (not-true (eqb y (get_or cs b 0)) (and_r (is_in y (odd_cells p k (get_or ws b 0))) (not (eqb y (get_or cs b 0))) both)) (e ∙ ap (λ (i : ℕ). get_or cs i 0) (sym same))
      where
        both : (is_in y (odd_cells p k (get_or ws b 0)) && not (eqb y (get_or cs b 0))) ≡ true
        both = sym (in_without (get_or cs b 0) y (odd_cells p k (get_or ws b 0))) ∙ h

        same : b ≡ c
        same = eqb-true b c (sym (alone b c hb hc) ∙ ap (λ (z : ℕ). is_in z (odd_cells p k (get_or ws b 0))) (sym e) ∙ and_l (is_in y (odd_cells p k (get_or ws b 0))) (not (eqb y (get_or cs b 0))) both)

  -- two stripes agree in every cell that is not one of the missing cells from b on
  Near : ℕ → List ℕ → List ℕ → Type 0
  Near b t u = (y : ℕ) → y < p * (k + 2) → ((c : ℕ) → b ≤ c → c < length cs → y ≡ get_or cs c 0 → ⊥) → cell_at s t y ≡ cell_at s u y

  -- after a step they agree in its cell too
  near_next : (b : ℕ) (hb : b < length cs) (t u : List ℕ) → is_stripe p k s t ≡ true → is_stripe p k s u ≡ true → Near b t u → Near (suc b) (next b hb t) (next b hb u)
  unfolding Near
  near_next b hb t u ht hu near y hy off = ⊎_elim same other (eq_or_ne y (get_or cs b 0))
    where
      own : cell_at s (next b hb t) (get_or cs b 0) ≡ cell_at s (next b hb u) (get_or cs b 0)
      own =
          next_cell b hb t ht
          ∙ over_ext s (cell_at s t) (cell_at s u) (without (get_or cs b 0) (odd_cells p k (get_or ws b 0)))
          (λ z h. near z (in_below (p * (k + 2)) z (odd_cells p k (get_or ws b 0)) (cells_below p k some (get_or ws b 0)) (and_l _ _ (sym (in_without (get_or cs b 0) z (odd_cells p k (get_or ws b 0))) ∙ h))) (λ c l hc. reads b hb z h c hc))
          ∙ sym (next_cell b hb u hu)

      same : y ≡ get_or cs b 0 → cell_at s (next b hb t) y ≡ cell_at s (next b hb u) y
      same e = ap (cell_at s (next b hb t)) e ∙ own ∙ ap (cell_at s (next b hb u)) (sym e)

      other : (y ≡ get_or cs b 0 → ⊥) → cell_at s (next b hb t) y ≡ cell_at s (next b hb u) y
      other q = next_other b hb t ht y q ∙ near y hy before ∙ sym (next_other b hb u hu y q)
        where
          before : (c : ℕ) → b ≤ c → c < length cs → y ≡ get_or cs c 0 → ⊥
          before c l hc e = ⊎_elim (λ w. q (e ∙ ap (λ (i : ℕ). get_or cs i 0) (sym w))) (λ w. off c w hc e) (eq_or_lt b c l)

  -- all steps from b on
  from_stripe : (n b : ℕ) → b + n ≡ length cs → (t : List ℕ) → is_stripe p k s t ≡ true → is_stripe p k s (mended_from n b p k s cs ws t) ≡ true
  unfolding mended_from next
  from_stripe zero b e t ht = ht
  from_stripe (suc n) b e t ht = from_stripe n (suc b) (omega arith) _ (next_stripe b (omega arith) t ht)

  from_off : (n b : ℕ) → b + n ≡ length cs → (t : List ℕ) → is_stripe p k s t ≡ true → (y : ℕ) → ((c : ℕ) → c < length cs → y ≡ get_or cs c 0 → ⊥) → cell_at s (mended_from n b p k s cs ws t) y ≡ cell_at s t y
  unfolding mended_from next
  from_off zero b e t ht y h = refl
  from_off (suc n) b e t ht y h = from_off n (suc b) (omega arith) _ (next_stripe b (omega arith) t ht) y h ∙ next_other b (omega arith) t ht y (h b (omega arith))

  from_clean : (n b : ℕ) → b + n ≡ length cs → (u : List ℕ) → is_stripe p k s u ≡ true → clean p k s u ≡ true → mended_from n b p k s cs ws u ≡ u
  unfolding mended_from next
  from_clean zero b e u hu cu = refl
  from_clean (suc n) b e u hu cu = ap (mended_from n (suc b) p k s cs ws) (next_clean b (omega arith) u hu cu) ∙ from_clean n (suc b) (omega arith) u hu cu

  from_near : (n b : ℕ) → b + n ≡ length cs → (t u : List ℕ) → is_stripe p k s t ≡ true → is_stripe p k s u ≡ true → Near b t u → mended_from n b p k s cs ws t ≡ mended_from n b p k s cs ws u
  unfolding mended_from next Near
  from_near zero b e t u ht hu near = stripes_equal p k s t u ht hu (λ x l. near x l (λ c g hc. absurd (omega arith)))
  from_near (suc n) b e t u ht hu near =
      from_near n (suc b) (omega arith) _ _ (next_stripe b (omega arith) t ht) (next_stripe b (omega arith) u hu) (near_next b (omega arith) t u ht hu near)

  -- a cell that no later step writes stands
  from_later : (n b : ℕ) → b + n ≡ length cs → (t : List ℕ) → is_stripe p k s t ≡ true → (y : ℕ) → ((c : ℕ) → b ≤ c → c < length cs → y ≡ get_or cs c 0 → ⊥) → cell_at s (mended_from n b p k s cs ws t) y ≡ cell_at s t y
  unfolding mended_from next
  from_later zero b e t ht y h = refl
  from_later (suc n) b e t ht y h =
      from_later n (suc b) (omega arith) _ (next_stripe b (omega arith) t ht) y (λ c l hc. h c (omega arith) hc)
      ∙ next_other b (omega arith) t ht y (h b (omega arith) (omega arith))

  -- the odd cells of a step's sets XOR to zero after it, and in the end
  next_zero : (b : ℕ) (hb : b < length cs) (t : List ℕ) → is_stripe p k s t ≡ true → xor_over s (cell_at s (next b hb t)) (odd_cells p k (get_or ws b 0)) ≡ replicate s 0
  unfolding next
  next_zero b hb t ht =
      solved_zero (p * (k + 2)) s (get_or cs b 0) (odd_cells p k (get_or ws b 0)) t (stripe_long_lem p k s t ht) (cells_below p k some (get_or ws b 0)) (held b hb) (cells_distinct p k some (get_or ws b 0))

  rest_zero : (n b : ℕ) (hb : b < length cs) → suc b + n ≡ length cs → (t : List ℕ) → is_stripe p k s t ≡ true → xor_over s (cell_at s (mended_from n (suc b) p k s cs ws (next b hb t))) (odd_cells p k (get_or ws b 0)) ≡ replicate s 0
  rest_zero n b hb e t ht =
      over_ext s (cell_at s (mended_from n (suc b) p k s cs ws (next b hb t))) (cell_at s (next b hb t)) (odd_cells p k (get_or ws b 0))
      (λ y i. from_later n (suc b) e (next b hb t) (next_stripe b hb t ht) y (off y i))
      ∙ next_zero b hb t ht
    where
      off : (y : ℕ) → is_in y (odd_cells p k (get_or ws b 0)) ≡ true → (c : ℕ) → suc b ≤ c → c < length cs → y ≡ get_or cs c 0 → ⊥
      off y i c l hc q = let w : b ≡ c = eqb-true b c (sym (alone b c hb hc) ∙ ap (λ (z : ℕ). is_in z (odd_cells p k (get_or ws b 0))) (sym q) ∙ i) in omega arith

  from_zero : (n b : ℕ) → b + n ≡ length cs → (t : List ℕ) → is_stripe p k s t ≡ true → (d : ℕ) → b ≤ d → d < length cs → xor_over s (cell_at s (mended_from n b p k s cs ws t)) (odd_cells p k (get_or ws d 0)) ≡ replicate s 0
  unfolding mended_from next
  from_zero zero b e t ht d l h = absurd (omega arith)
  from_zero (suc n) b e t ht d l h =
      ⊎_elim
      (λ q. subst (λ (x : ℕ). xor_over s (cell_at s (mended_from (suc n) b p k s cs ws t)) (odd_cells p k (get_or ws x 0)) ≡ replicate s 0) q (rest_zero n b (omega arith) (omega arith) t ht))
      (λ g. from_zero n (suc b) (omega arith) _ (next_stripe b (omega arith) t ht) d g h)
      (eq_or_lt b d l)

-- a cell that is not in a list is none of it
pub none_of : (cs : List ℕ) (y : ℕ) → is_in y cs ≡ false → (c : ℕ) → c < length cs → y ≡ get_or cs c 0 → ⊥
none_of cs y h c l e = true≢false (sym (at_in c cs l) ∙ ap (λ (z : ℕ). is_in z cs) (sym e) ∙ h)

-- and one that is none of it is not in it
pub off_list : (cs : List ℕ) (y : ℕ) → ((c : ℕ) → c < length cs → y ≡ get_or cs c 0 → ⊥) → is_in y cs ≡ false
off_list [] y h = refl
off_list (c ∷ cs) y h = ap₂ ◌||◌ (ne_eqb y c (h 0 (omega arith))) (off_list cs y (λ i l. h (suc i) (omega arith)))

-- ---- missing cells that can be mended
module _ (p k s : ℕ) (some : 0 < p) (cs : List ℕ) (below : all_below (p * (k + 2)) cs ≡ true) (ok : mendable p k cs ≡ true) where
  ws : List ℕ
  ws = (reduced_cells p k cs).left.sums

  alone : Alone p k cs ws
  unfolding ws
  alone = sums_alone p k cs some ok

  -- a stripe stays a stripe
  pub mended_stripe : (t : List ℕ) → is_stripe p k s t ≡ true → is_stripe p k s (mended_cells p k s cs t) ≡ true
  unfolding mended_cells ws
  mended_stripe = from_stripe p k s some cs ws below alone (length cs) 0 (omega arith)

  -- the cells that are not missing stand
  pub mended_off : (t : List ℕ) → is_stripe p k s t ≡ true → AlikeOff p k s cs (mended_cells p k s cs t) t
  unfolding mended_cells ws
  mended_off t ht x l h = from_off p k s some cs ws below alone (length cs) 0 (omega arith) t ht x (none_of cs x h)

  -- a clean stripe stands
  pub mended_clean : (u : List ℕ) → is_stripe p k s u ≡ true → clean p k s u ≡ true → mended_cells p k s cs u ≡ u
  unfolding mended_cells ws
  mended_clean = from_clean p k s some cs ws below alone (length cs) 0 (omega arith)

  -- what the missing cells held does not matter, also among dirty survivors
  pub mended_alike : (t u : List ℕ) → is_stripe p k s t ≡ true → is_stripe p k s u ≡ true → AlikeOff p k s cs t u → mended_cells p k s cs t ≡ mended_cells p k s cs u
  unfolding mended_cells ws Near
  mended_alike t u ht hu same = from_near p k s some cs ws below alone (length cs) 0 (omega arith) t u ht hu (λ y l off. same y l (off_list cs y (λ c h. off c (omega arith) h)))

  -- the odd cells of the sets that a missing cell's row names XOR to zero
  pub mended_zero : (t : List ℕ) → is_stripe p k s t ≡ true → (d : ℕ) → d < length cs → xor_over s (cell_at s (mended_cells p k s cs t)) (odd_cells p k (get_or (reduced_cells p k cs).left.sums d 0)) ≡ replicate s 0
  unfolding mended_cells ws
  mended_zero t ht d h = from_zero p k s some cs ws below alone (length cs) 0 (omega arith) t ht d (omega arith) h

  -- survivors of a clean stripe bring it back
  pub mended_back : (t u : List ℕ) → is_stripe p k s t ≡ true → is_stripe p k s u ≡ true → clean p k s u ≡ true → AlikeOff p k s cs t u → mended_cells p k s cs t ≡ u
  mended_back t u ht hu cu same = mended_alike t u ht hu same ∙ mended_clean u hu cu

  -- so no two clean stripes agree in the cells that are not missing
  pub mendable_determined : Determined p k s cs
  mendable_determined t u ht hu ct cu same = sym (mended_clean t ht ct) ∙ mended_back t u ht hu cu same
