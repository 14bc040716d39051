-- All cells of one disk missing, and no other: each of p sets holds a cell of its own, row sets for
-- a data disk or P, diagonals for Q, and the reduction leaves these sets as they are. So each cell
-- comes from its set alone, also among dirty survivors.
use mathlib.Core.Path.{◌≡◌, refl, sym, ap, ap₂, subst, ◌∙◌}
use mathlib.Core.Bool.{Bool, true, false, ◌&&◌, not, and-true, and-false}
use mathlib.Core.List.{List}
use mathlib.Core.Logic.{⊎_elim}
use Prim.Native.Nat.{ℕ, zero, suc, ◌+◌, ◌-◌, ◌*◌, ◌^◌, ◌≤◌, ◌<◌}
use native.Mathlib.Omega.{arith}
use lib.Dec.{eqb, ltb}
use lib.ListN.{length, get_or, length-set}
use lib.Seq.{get_or-set_other}
use borrow.Author.Tests.{eq-eqb, ne_eqb, eqb-false, lt-ltb, le-leb, lt-leb}
use Rattle.mathematics.specs.Choice.{pick}
use Rattle.mathematics.specs.Lists.{is_in}
use Rattle.mathematics.specs.Sums.{first_from}
use Rattle.mathematics.proofs.Flags.{clash}
use Rattle.mathematics.proofs.OrderLaws.{eq_or_ne, lt_or_le}
use Rattle.mathematics.specs.BitRows.Parity.{bit}
use Rattle.mathematics.specs.BitRows.Rows.{Rows, has, row_added, row_cleared, cleared_from, pivot, pivoted, column_done, reduction, reduced_from}
use Rattle.mathematics.proofs.BitRows.Reducing.{exchange_long, exchange_first, exchange_second, exchange_other}
use Rattle.liberation.specs.Sets.{place, set_of}
use Rattle.liberation.specs.Plans.{all_of}
use Rattle.liberation.proofs.SetLaws.{in_row, in_diagonal_parity, set_below}
use Rattle.liberation.specs.Stripes.Stripes.{solved, followed}
use Rattle.liberation.proofs.Stripes.Solving.{solved_long}
use Rattle.rebuild_cells.specs.Listed.{RunFrom}
use Rattle.rebuild_cells.specs.Theory.Mending.{set_numbered, equations, reduced_cells, mendable, odd_cells, mended_from, mended_cells}
use Rattle.rebuild_cells.proofs.NumberedLaws.{numbered_row, numbered_diagonal}
use Rattle.rebuild_cells.proofs.Theory.WordLaws.{word_bit, words_long, powers_long, words_at, powers_at}
use Rattle.rebuild_cells.proofs.Theory.SingleSets.{single_solved}

-- a search that passes none before d
first_at : (n b d : ℕ) (f : ℕ → Bool) → b ≤ d → d < b + n → ((j : ℕ) → b ≤ j → j < d → f j ≡ false) → f d ≡ true → first_from n b f ≡ d
unfolding first_from
first_at zero b d f l h none e = absurd (omega arith)
first_at (suc n) b d f l h none e =
    ⊎_elim
    (λ m. ap (λ (t : Bool). pick t b (first_from n (suc b) f)) (none b (omega arith) m) ∙ first_at n (suc b) d f (omega arith) (omega arith) (λ j k i. none j (omega arith) i) e)
    (λ m. let q : b ≡ d = omega arith in ap (λ (t : Bool). pick t b (first_from n (suc b) f)) (ap f q ∙ e) ∙ q)
    (lt_or_le b d)

-- ---- 2p rows: of the p from o on each has an unknown of its own, and those before them have none
module _ (p o : ℕ) (room : o + p ≤ 2 * p) where
  -- row j has unknown i alone, and is equation o + i
  record Own (r : Rows) (j i : ℕ) : Type 0 where
    word : (c : ℕ) → c < p → has r j c ≡ eqb i c
    sum : get_or r.sums j 0 ≡ 2 ^ (o + i)

  None : Rows → ℕ → Type 0
  None r j = (c : ℕ) → c < p → has r j c ≡ false

  -- after b unknowns: their equations are the first rows, and the others are where they were
  record Kept (b : ℕ) (r : Rows) : Type 0 where
    words_in : length r.words ≡ 2 * p
    sums_in : length r.sums ≡ 2 * p
    done : (i : ℕ) → i < b → Own r i i
    left : (i : ℕ) → b ≤ i → i < p → Own r (o + i) i
    none : (j : ℕ) → b ≤ j → j < o + b → None r j

  -- row j of r is row j' of r'
  record Same (r r' : Rows) (j j' : ℕ) : Type 0 where
    word : get_or r'.words j' 0 ≡ get_or r.words j 0
    sum : get_or r'.sums j' 0 ≡ get_or r.sums j 0

  own_same : (r r' : Rows) (j j' i : ℕ) → Same r r' j j' → Own r j i → Own r' j' i
  own_same r r' j j' i e g = record { word = λ c h. ap (λ (w : ℕ). bit w c) e.word ∙ g.word c h; sum = e.sum ∙ g.sum }

  none_same : (r r' : Rows) (j j' : ℕ) → Same r r' j j' → None r j → None r' j'
  unfolding None
  none_same r r' j j' e g c h = ap (λ (w : ℕ). bit w c) e.word ∙ g c h

  -- the search for unknown b ends at its equation
  pivot_at : (b : ℕ) (r : Rows) → b < p → Kept b r → pivot (2 * p) b r ≡ o + b
  unfolding None
  pivot_at b r hb g = first_at (2 * p - b) b (o + b) (λ j. has r j b) (omega arith) (omega arith) (λ j l h. g.none j l h b hb) ((g.left b (omega arith) hb).word b hb ∙ eq-eqb b b refl)

  exchange_kept : (b : ℕ) (r : Rows) → b < p → Kept b r → Kept (suc b) (pivoted b (o + b) r)
  exchange_kept b r hb g =
      record {
        words_in = exchange_long b (o + b) r.words ∙ g.words_in;
        sums_in = exchange_long b (o + b) r.sums ∙ g.sums_in;
        done = λ i h. ⊎_elim (λ l. own_same r (pivoted b (o + b) r) i i i (other i (λ e. omega arith) (λ e. omega arith)) (g.done i l)) (λ l. let e : b ≡ i = omega arith in subst (λ (x : ℕ). Own (pivoted b (o + b) r) x x) e (own_same r (pivoted b (o + b) r) (o + b) b b first (g.left b (omega arith) hb))) (lt_or_le i b);
        left = λ i l h. own_same r (pivoted b (o + b) r) (o + i) (o + i) i (other (o + i) (λ e. omega arith) (λ e. omega arith)) (g.left i (omega arith) h);
        none = λ j l h. ⊎_elim (λ m. none_same r (pivoted b (o + b) r) j j (other j (λ e. omega arith) (λ e. omega arith)) (g.none j (omega arith) m)) (λ m. let e : o + b ≡ j = omega arith in subst (None (pivoted b (o + b) r)) e (none_same r (pivoted b (o + b) r) b (o + b) second (g.none b (omega arith) (omega arith)))) (lt_or_le j (o + b));
      }
    where
      inside : (i : ℕ) (ws : List ℕ) → length ws ≡ 2 * p → i < 2 * p → i < length ws
      inside i ws e h = omega arith

      first : Same r (pivoted b (o + b) r) (o + b) b
      first =
          record {
            word = exchange_first b (o + b) r.words (inside b r.words g.words_in (omega arith)) (inside (o + b) r.words g.words_in (omega arith));
            sum = exchange_first b (o + b) r.sums (inside b r.sums g.sums_in (omega arith)) (inside (o + b) r.sums g.sums_in (omega arith));
          }

      second : Same r (pivoted b (o + b) r) b (o + b)
      second =
          record {
            word = exchange_second b (o + b) r.words (inside (o + b) r.words g.words_in (omega arith));
            sum = exchange_second b (o + b) r.sums (inside (o + b) r.sums g.sums_in (omega arith));
          }

      other : (a : ℕ) → (a ≡ b → ⊥) → (a ≡ o + b → ⊥) → Same r (pivoted b (o + b) r) a a
      other a m n = record { word = exchange_other b (o + b) r.words a m n; sum = exchange_other b (o + b) r.sums a m n }

  -- row b is added to no row that counts: none of them has unknown b
  clear_kept : (b i : ℕ) (r : Rows) → b < p → Kept (suc b) r → Kept (suc b) (row_cleared b i r)
  unfolding None
  clear_kept b i r hb g = go (eqb i b) refl (has r i b) refl
    where
      go : (t : Bool) → eqb i b ≡ t → (u : Bool) → has r i b ≡ u → Kept (suc b) (pick (not t && u) (row_added i b r) r)
      go true e u h = g
      go false e false h = g
      go false e true h =
          record {
            words_in = length-set r.words i _ ∙ g.words_in;
            sums_in = length-set r.sums i _ ∙ g.sums_in;
            done = λ a l. own_same r (row_added i b r) a a a (stands a (off_done a l)) (g.done a l);
            left = λ a l m. own_same r (row_added i b r) (o + a) (o + a) a (stands (o + a) (off (o + a) ((g.left a l m).word b hb ∙ ne_eqb a b (λ q. omega arith)))) (g.left a l m);
            none = λ j l m. none_same r (row_added i b r) j j (stands j (off j (g.none j l m b hb))) (g.none j l m);
          }
        where
          stands : (a : ℕ) → (a ≡ i → ⊥) → Same r (row_added i b r) a a
          stands a q = record { word = get_or-set_other r.words i a _ 0 q; sum = get_or-set_other r.sums i a _ 0 q }

          off : (a : ℕ) → has r a b ≡ false → a ≡ i → ⊥
          off a f q = clash (has r i b) h (ap (λ (x : ℕ). has r x b) (sym q) ∙ f)

          off_done : (a : ℕ) → a < suc b → a ≡ i → ⊥
          off_done a l = ⊎_elim (λ q w. eqb-false i b e (sym w ∙ q)) (λ q. off a ((g.done a l).word b hb ∙ ne_eqb a b q)) (eq_or_ne a b)

  rows_kept : (n b i : ℕ) (r : Rows) → b < p → Kept (suc b) r → Kept (suc b) (cleared_from n b i r)
  unfolding cleared_from
  rows_kept zero b i r hb g = g
  rows_kept (suc n) b i r hb g = rows_kept n b (suc i) (row_cleared b i r) hb (clear_kept b i r hb g)

  column_kept : (b : ℕ) (r : Rows) → b < p → Kept b r → Kept (suc b) (column_done (2 * p) b (pivot (2 * p) b r) r)
  column_kept b r hb g = subst (λ (j : ℕ). Kept (suc b) (column_done (2 * p) b j r)) (sym (pivot_at b r hb g)) (rows_kept (2 * p) b 0 (pivoted b (o + b) r) hb (exchange_kept b r hb g))

  all_kept : (m b : ℕ) (r : Rows) → b + m ≡ p → Kept b r → ((reduced_from m (2 * p) b r).done ≡ p) × Kept p (reduced_from m (2 * p) b r).left
  unfolding reduced_from
  all_kept zero b r e g = let q : b ≡ p = omega arith in (q, subst (λ (x : ℕ). Kept x r) q g)
  all_kept (suc m) b r e g =
      let hb : b < p = omega arith in
      let l : ltb (pivot (2 * p) b r) (2 * p) ≡ true = lt-ltb (pivot (2 * p) b r) (2 * p) (omega (arith, pivot_at b r hb g)) in
      subst
      (λ (t : Bool). let z = pick t (reduced_from m (2 * p) (suc b) (column_done (2 * p) b (pivot (2 * p) b r) r)) (reduction b r) in (z.done ≡ p) × Kept p z.left)
      (sym l) (all_kept m (suc b) (column_done (2 * p) b (pivot (2 * p) b r) r) (omega arith) (column_kept b r hb g))

flipped : (i b : ℕ) → eqb b i ≡ eqb i b
flipped i b = ⊎_elim (λ q. eq-eqb b i (sym q) ∙ sym (eq-eqb i b q)) (λ q. ne_eqb b i (λ w. q (sym w)) ∙ sym (ne_eqb i b q)) (eq_or_ne i b)

-- ---- the cells of disk c, each in its set of one kind, from set o on, and in no set before
module _ (p k c kind o : ℕ) (some : 0 < p) (room : o + p ≤ 2 * p) (cs : List ℕ) (long : length cs ≡ p) (run : RunFrom 0 p (c * p) cs)
    (numbered : (i : ℕ) → i < p → set_numbered p k (o + i) ≡ set_of p k kind i)
    (holds : (i b : ℕ) → i < p → b < p → is_in (place p b c) (set_of p k kind i) ≡ eqb b i)
    (before : (j b : ℕ) → j < o → b < p → is_in (place p b c) (set_numbered p k j) ≡ false) where
  at : (b : ℕ) → b < p → get_or cs b 0 ≡ place p b c
  at b h = let z : b ≡ 0 + b = omega arith in ap (λ (i : ℕ). get_or cs i 0) z ∙ run b h

  in_set : (i b : ℕ) → i < p → b < p → is_in (place p b c) (set_numbered p k (o + i)) ≡ eqb b i
  in_set i b hi hb = ap (is_in (place p b c)) (numbered i hi) ∙ holds i b hi hb

  given_at : (j b : ℕ) → j < 2 * p → b < p → has (equations p k cs) j b ≡ is_in (place p b c) (set_numbered p k j)
  given_at j b hj hb =
      let z : 0 + j ≡ j = omega arith in
      ap (λ (w : ℕ). bit w b) (words_at (2 * p) 0 p k cs j hj)
      ∙ word_bit cs (set_numbered p k (0 + j)) b (omega arith)
      ∙ ap₂ (λ (y i : ℕ). is_in y (set_numbered p k i)) (at b hb) z

  given_kept : Kept p o room 0 (equations p k cs)
  unfolding None
  given_kept =
      record {
        words_in = words_long (2 * p) 0 p k cs;
        sums_in = powers_long (2 * p) 0;
        done = λ i h. absurd (omega arith);
        left = λ i l hi. record {
          word = λ b hb. given_at (o + i) b (omega arith) hb ∙ in_set i b hi hb ∙ flipped i b;
          sum = let z : 0 + (o + i) ≡ o + i = omega arith in powers_at (2 * p) 0 (o + i) (omega arith) ∙ ap (λ (n : ℕ). 2 ^ n) z;
        };
        none = λ j l h b hb. given_at j b (omega arith) hb ∙ before j b (omega arith) hb;
      }

  reduced : ((reduced_cells p k cs).done ≡ p) × Kept p o room p (reduced_cells p k cs).left
  unfolding reduced_cells
  reduced = subst (λ (m : ℕ). ((reduced_from m (2 * p) 0 (equations p k cs)).done ≡ p) × Kept p o room p (reduced_from m (2 * p) 0 (equations p k cs)).left) (sym long) (all_kept p o room p 0 (equations p k cs) (omega arith) given_kept)

  own_mendable : mendable p k cs ≡ true
  own_mendable = eq-eqb (reduced_cells p k cs).done (length cs) (reduced.0 ∙ sym long)

  -- the steps, one a set
  step_own : (s b w : ℕ) (t : List ℕ) → b < p → w ≡ 2 ^ (o + b) → length t ≡ p * (k + 2) * s → solved s (get_or cs b 0) (odd_cells p k w) t ≡ solved s (place p b c) (set_of p k kind b) t
  step_own s b w t hb e l =
      ap₂ (λ (x v : ℕ). solved s x (odd_cells p k v) t) (at b hb) e
      ∙ single_solved p k some (o + b) (omega arith) s t l (place p b c) (in_set b b hb hb ∙ eq-eqb b b refl)
      ∙ ap (λ (xs : List ℕ). solved s (place p b c) xs t) (numbered b hb)

  step_long : (s b : ℕ) (t : List ℕ) → b < p → length t ≡ p * (k + 2) * s → length (solved s (place p b c) (set_of p k kind b) t) ≡ p * (k + 2) * s
  step_long s b t hb l = solved_long (p * (k + 2)) s (place p b c) (set_of p k kind b) t l (set_below p k kind b hb) (holds b b hb hb ∙ eq-eqb b b refl) ∙ l

  steps : (s n b : ℕ) (ws t : List ℕ) → ((i : ℕ) → i < p → get_or ws i 0 ≡ 2 ^ (o + i)) → b + n ≡ p → length t ≡ p * (k + 2) * s → mended_from n b p k s cs ws t ≡ followed p k s c (all_of n kind b) t
  unfolding mended_from followed all_of
  steps s zero b ws t h e l = refl
  steps s (suc n) b ws t h e l =
      let hb : b < p = omega arith in
      ap (mended_from n (suc b) p k s cs ws) (step_own s b (get_or ws b 0) t hb (h b hb) l)
      ∙ steps s n (suc b) ws (solved s (place p b c) (set_of p k kind b) t) h (omega arith) (step_long s b t hb l)

  own_mended : (s : ℕ) (t : List ℕ) → length t ≡ p * (k + 2) * s → mended_cells p k s cs t ≡ followed p k s c (all_of p kind 0) t
  unfolding mended_cells
  own_mended s t l =
      ap (λ (n : ℕ). mended_from n 0 p k s cs (reduced_cells p k cs).left.sums t) long
      ∙ steps s p 0 (reduced_cells p k cs).left.sums t (λ i h. (reduced.1.done i h).sum) (omega arith) l

-- a data disk or P, by the row sets
module _ (p k c : ℕ) (some : 0 < p) (hc : c ≤ k) (cs : List ℕ) (long : length cs ≡ p) (run : RunFrom 0 p (c * p) cs) where
  few : 0 + p ≤ 2 * p
  few = omega arith

  number : (i : ℕ) → i < p → set_numbered p k (0 + i) ≡ set_of p k 0 i
  number i h = let z : 0 + i ≡ i = omega arith in ap (set_numbered p k) z ∙ numbered_row p k i h

  in_rows : (i b : ℕ) → i < p → b < p → is_in (place p b c) (set_of p k 0 i) ≡ eqb b i
  in_rows i b hi hb = in_row p k i b c hb hi ∙ ap (λ (t : Bool). eqb b i && t) (le-leb c k hc) ∙ and-true (eqb b i)

  pub disk_mendable : mendable p k cs ≡ true
  disk_mendable = own_mendable p k c 0 0 some few cs long run number in_rows (λ j b h. absurd (omega arith))

  pub disk_mended : (s : ℕ) (t : List ℕ) → length t ≡ p * (k + 2) * s → mended_cells p k s cs t ≡ followed p k s c (all_of p 0 0) t
  disk_mended = own_mended p k c 0 0 some few cs long run number in_rows (λ j b h. absurd (omega arith))

-- Q, by the diagonals
module _ (p k : ℕ) (some : 0 < p) (cs : List ℕ) (long : length cs ≡ p) (run : RunFrom 0 p ((k + 1) * p) cs) where
  all : p + p ≤ 2 * p
  all = omega arith

  diagonal : (i : ℕ) → i < p → set_numbered p k (p + i) ≡ set_of p k 1 i
  diagonal i h = let z : p + i - p ≡ i = omega arith in numbered_diagonal p k (p + i) (omega arith) (omega arith) ∙ ap (set_of p k 1) z

  in_diagonals : (i b : ℕ) → i < p → b < p → is_in (place p b (k + 1)) (set_of p k 1 i) ≡ eqb b i
  in_diagonals i b hi hb =
      let z : k + 1 ≡ suc k = omega arith in
      in_diagonal_parity p k i b (k + 1) hb hi (omega arith) ∙ ap (λ (t : Bool). t && eqb b i) (eq-eqb (k + 1) (suc k) z)

  no_row : (j b : ℕ) → j < p → b < p → is_in (place p b (k + 1)) (set_numbered p k j) ≡ false
  no_row j b hj hb =
      ap (is_in (place p b (k + 1))) (numbered_row p k j hj)
      ∙ in_row p k j b (k + 1) hb hj
      ∙ ap (λ (t : Bool). eqb b j && t) (lt-leb (k + 1) k (omega arith))
      ∙ and-false (eqb b j)

  pub q_mendable : mendable p k cs ≡ true
  q_mendable = own_mendable p k (k + 1) 1 p some all cs long run diagonal in_diagonals no_row

  pub q_mended : (s : ℕ) (t : List ℕ) → length t ≡ p * (k + 2) * s → mended_cells p k s cs t ≡ followed p k s (k + 1) (all_of p 1 0) t
  q_mended = own_mended p k (k + 1) 1 p some all cs long run diagonal in_diagonals no_row
