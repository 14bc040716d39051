-- The words of the sets: made from marks cell by cell, the last one first, and listed set by set.
use mathlib.Core.Path.{◌≡◌, refl, sym, ap, ap₂, subst, ◌∙◌}
use mathlib.Core.Bool.{Bool, true}
use mathlib.Core.List.{List, [], ◌∷◌, ◌++◌, append-nil, append_assoc}
use Prim.Native.Nat.{ℕ, zero, suc, ◌+◌, ◌-◌, ◌*◌, ◌%◌, ◌^◌, ◌≤◌, ◌<◌}
use native.Mathlib.Nat.{mod-lt, lt_of_lt_of_le, pow-succ'}
use native.Mathlib.Numerals.{add-one}
use native.Mathlib.Omega.{arith}
use lib.Dec.{eqb}
use lib.ListN.{length, get_or, take, drop, set, replicate, length-set, length-drop, length-replicate, drop_of_length-le}
use lib.Pow.{pow_mono}
use lib.Seq.{take-suc-set, take_all}
use Rattle.mathematics.specs.Choice.{when}
use Rattle.mathematics.specs.Lists.{is_in, distinct, all_below}
use Rattle.mathematics.proofs.SearchLaws.{drop_next}
use Rattle.mathematics.specs.BitRows.Parity.{differ, odd_in}
use Rattle.mathematics.proofs.BitRows.ParityLaws.{differ_false, in_distinct}
use Rattle.liberation.proofs.DistinctLaws.{distinct_set}
use Rattle.liberation.proofs.SetLaws.{set_below}
use Rattle.parity_sets.specs.declared.set.ParitySet.{ParitySet}
use Rattle.parity_sets.specs.ParitySets.{cells_of, kind_of, number_of}
use Rattle.stripe_cells.specs.Toggled.{is_odd, toggled_all}
use Rattle.rebuild_cells.specs.Theory.Mending.{set_numbered, word_of, words_from, powers_from}
use Rattle.rebuild_cells.proofs.Theory.OddCells.{toggled_odd, none_odd}
use Rattle.rebuild_cells.specs.Words.{marks_word}

-- ---- a word from marks
pub word_none : (cs ms : List ℕ) (i : ℕ) → length cs ≤ i → 0 ≡ marks_word (drop i cs) ms
unfolding marks_word
word_none cs ms i h = ap (λ (l : List ℕ). marks_word l ms) (sym (drop_of_length-le cs h))

pub word_turn : (cs ms : List ℕ) (i w : ℕ) → 0 < i → i ≤ length cs → w ≡ marks_word (drop i cs) ms → 2 * w + get_or ms (get_or cs (i - 1) 0) 0 % 2 ≡ marks_word (drop (i - 1) cs) ms
unfolding marks_word
word_turn cs ms i w h l e =
    let q : i - 1 + 1 ≡ i = omega arith in
    let d : drop (i - 1) cs ≡ get_or cs (i - 1) 0 ∷ drop i cs = drop_next cs (i - 1) (get_or cs (i - 1) 0) (omega arith) refl ∙ ap (λ (j : ℕ). get_or cs (i - 1) 0 ∷ drop j cs) q in
    let v : 2 * w ≡ 2 * marks_word (drop i cs) ms = ap (λ (x : ℕ). 2 * x) e in
    omega (arith, v) ∙ sym (ap (λ (l : List ℕ). marks_word l ms) d)

word_lt : (cs ms : List ℕ) → marks_word cs ms < 2 ^ length cs
unfolding marks_word
word_lt [] ms = omega arith
word_lt (c ∷ cs) ms =
    let e : 2 ^ length (c ∷ cs) ≡ 2 * 2 ^ length cs = pow-succ' 2 (length cs) in
    let h = word_lt cs ms in
    let m = mod-lt (get_or ms c 0) {m = 2} (omega arith) in
    omega arith

-- it has room for one more bit
pub word_room : (cs ms : List ℕ) (i w : ℕ) → 0 < i → length cs ≤ 62 → w ≡ marks_word (drop i cs) ms → w < 2 ^ 61
word_room cs ms i w h l e =
    let d : length (drop i cs) ≡ length cs - i = length-drop i cs in
    let b : length (drop i cs) ≤ 61 = omega arith in
    lt_of_lt_of_le (subst (λ (x : ℕ). x < 2 ^ length (drop i cs)) (sym e) (word_lt (drop i cs) ms)) (pow_mono b)

-- where the marks are those of a set, it is the set's word
mark_digit : (m : ℕ) (t : Bool) → is_odd m ≡ t → m % 2 ≡ when t 1
mark_digit m t e = low (m % 2) refl (mod-lt m {m = 2} (omega arith))
  where
    low : (d : ℕ) → m % 2 ≡ d → d < 2 → m % 2 ≡ when t 1
    low zero q h = q ∙ ap (λ (b : Bool). when b 1) (sym (ap (λ (x : ℕ). eqb x 1) q) ∙ e)
    low (suc zero) q h = q ∙ ap (λ (b : Bool). when b 1) (sym (ap (λ (x : ℕ). eqb x 1) q) ∙ e)
    low (suc (suc d)) q h = absurd (omega arith)

set_marks : (n c : ℕ) (xs : List ℕ) → distinct xs ≡ true → all_below n xs ≡ true → is_odd (get_or (toggled_all xs (replicate n 0)) c 0) ≡ is_in c xs
set_marks n c xs once below =
    toggled_odd xs (replicate n 0) c (ap (λ (m : ℕ). all_below m xs) (length-replicate n 0) ∙ below)
    ∙ ap (differ (odd_in (eqb c) xs)) (none_odd n c)
    ∙ differ_false (odd_in (eqb c) xs)
    ∙ in_distinct c xs once

words_same : (n : ℕ) (cs xs : List ℕ) → distinct xs ≡ true → all_below n xs ≡ true → marks_word cs (toggled_all xs (replicate n 0)) ≡ word_of cs xs
unfolding marks_word word_of
words_same n [] xs once below = refl
words_same n (c ∷ cs) xs once below =
    ap₂ (λ (x y : ℕ). x + 2 * y) (mark_digit (get_or (toggled_all xs (replicate n 0)) c 0) (is_in c xs) (set_marks n c xs once below)) (words_same n cs xs once below)

pub set_word_is : (p k : ℕ) (set : ParitySet) (cs ms : List ℕ) (w : ℕ) → number_of set < p → ms ≡ toggled_all (cells_of p k set) (replicate (p * (k + 2)) 0) → w ≡ marks_word cs ms → w ≡ word_of cs (cells_of p k set)
set_word_is p k set cs ms w h e q =
    q ∙ ap (marks_word cs) e
    ∙ words_same (p * (k + 2)) cs (cells_of p k set) (distinct_set p k (kind_of set) (number_of set) h) (set_below p k (kind_of set) (number_of set) h)

-- ---- the words of all sets
pub record Filling (p k : ℕ) (cs ws ts : List ℕ) (i : ℕ) : Type 0 where
  pub words : take i ws ++ words_from (2 * p - i) i p k cs ≡ words_from (2 * p) 0 p k cs
  pub sums : take i ts ++ powers_from (2 * p - i) i ≡ powers_from (2 * p) 0
  pub words_long : length ws ≡ 2 * p
  pub sums_long : length ts ≡ 2 * p
  pub within : i ≤ 2 * p

pub fill_start : (p k : ℕ) (cs ws ts : List ℕ) → length ws ≡ 2 * p → length ts ≡ 2 * p → Filling p k cs ws ts 0
fill_start p k cs ws ts lw lt =
    let e : 2 * p - 0 ≡ 2 * p = omega arith in
    record { words = ap (λ (n : ℕ). words_from n 0 p k cs) e; sums = ap (λ (n : ℕ). powers_from n 0) e; words_long = lw; sums_long = lt; within = omega arith }

-- one more number put into a list, in front of the rest
put : (l rest whole : List ℕ) (i v : ℕ) → i < length l → take i l ++ (v ∷ rest) ≡ whole → take (i + 1) (set l i v) ++ rest ≡ whole
put l rest whole i v h e =
    ap (λ (x : List ℕ). x ++ rest) (ap (λ (j : ℕ). take j (set l i v)) (add-one i) ∙ take-suc-set l i v h)
    ∙ append_assoc (take i l) (v ∷ []) rest
    ∙ e

pub fill_turn : (p k : ℕ) (cs ws ts : List ℕ) (i w t : ℕ) → Filling p k cs ws ts i → i < 2 * p → w ≡ word_of cs (set_numbered p k i) → t ≡ 2 ^ i → Filling p k cs (set ws i w) (set ts i t) (i + 1)
unfolding words_from powers_from
fill_turn p k cs ws ts i w t g h ew et =
    let lw = g.words_long in
    let lt = g.sums_long in
    let q : 2 * p - i ≡ suc (2 * p - (i + 1)) = omega arith in
    let j : suc i ≡ i + 1 = omega arith in
    record {
      words = put ws (words_from (2 * p - (i + 1)) (i + 1) p k cs) (words_from (2 * p) 0 p k cs) i w (omega arith)
          (ap₂ (λ (x n : ℕ). take i ws ++ (x ∷ words_from (2 * p - (i + 1)) n p k cs)) ew (sym j) ∙ ap (λ (n : ℕ). take i ws ++ words_from n i p k cs) (sym q) ∙ g.words);
      sums = put ts (powers_from (2 * p - (i + 1)) (i + 1)) (powers_from (2 * p) 0) i t (omega arith)
          (ap₂ (λ (x n : ℕ). take i ts ++ (x ∷ powers_from (2 * p - (i + 1)) n)) et (sym j) ∙ ap (λ (n : ℕ). take i ts ++ powers_from n i) (sym q) ∙ g.sums);
      words_long = length-set ws i w ∙ lw;
      sums_long = length-set ts i t ∙ lt;
      within = omega arith;
    }

pub fill_end : (p k : ℕ) (cs ws ts : List ℕ) (i : ℕ) → Filling p k cs ws ts i → 2 * p ≤ i → (ws ≡ words_from (2 * p) 0 p k cs) × (ts ≡ powers_from (2 * p) 0)
unfolding words_from powers_from
fill_end p k cs ws ts i g h =
    let z : 2 * p - i ≡ 0 = omega arith in
    let lw = g.words_long in
    let lt = g.sums_long in (
      sym (ap (λ (n : ℕ). take i ws ++ words_from n i p k cs) z ∙ append-nil (take i ws) ∙ take_all i ws (omega arith)) ∙ g.words,
      sym (ap (λ (n : ℕ). take i ts ++ powers_from n i) z ∙ append-nil (take i ts) ∙ take_all i ts (omega arith)) ∙ g.sums,
    )

pub word_end : (cs ms : List ℕ) (i w : ℕ) → i ≤ 0 → w ≡ marks_word (drop i cs) ms → w ≡ marks_word cs ms
word_end cs ms i w h e = let z : i ≡ 0 = omega arith in e ∙ ap (λ (j : ℕ). marks_word (drop j cs) ms) z
