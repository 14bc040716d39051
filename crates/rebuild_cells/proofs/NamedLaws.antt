-- Marks toggled for the sets that a word names, and the gather of those that are odd: a step of the
-- mend.
use mathlib.Core.Path.{◌≡◌, refl, sym, ap, ap₂, ◌∙◌}
use mathlib.Core.Bool.{Bool, true, false, not}
use mathlib.Core.List.{List, [], ◌∷◌, ◌++◌}
use mathlib.Core.Logic.{⊎_elim}
use Prim.Native.Nat.{ℕ, zero, suc, ◌+◌, ◌*◌, ◌≤◌, ◌<◌}
use native.Mathlib.Omega.{arith}
use lib.Dec.{eqb}
use lib.ListN.{length, get_or, set, replicate, length-set, length-replicate}
use lib.Seq.{get_or-set_same}
use borrow.Author.Tests.{eq-eqb, ne_eqb}
use Rattle.mathematics.specs.Choice.{pick, when}
use Rattle.mathematics.proofs.Flags.{flag}
use Rattle.mathematics.specs.BitRows.Parity.{bit}
use Rattle.liberation.specs.Stripes.Stripes.{cell_at, with_cell, xor_over, without, solved}
use Rattle.liberation.specs.Stripes.StripeLimits.{Sized}
use Rattle.xor.specs.Parts.{with_part, xor_offsets}
use Rattle.stripe_cells.specs.Offsets.{scaled}
use Rattle.stripe_cells.proofs.OffsetLaws.{over_offsets}
use Rattle.stripe_cells.specs.Toggled.{is_odd, odd_from, toggled_all}
use Rattle.stripe_cells.specs.Gathered.{MarkedStripe}
use Rattle.rebuild_cells.specs.Theory.Mending.{set_numbered, words_from, powers_from, equations, reduced_cells, mendable, named_to, odd_cells, mended_cells}
use Rattle.stripe_cells.proofs.OddLaws.{toggled_long, toggled_append}
use Rattle.rebuild_cells.proofs.Theory.WordLaws.{words_long}
use Rattle.rebuild_cells.proofs.Theory.MendLaws.{mendable_few}
use Rattle.mathematics.specs.BitRows.Rows.{Rows, rows, Reduced, reduced_from}
use Rattle.std.proofs.Common.{Result, Ok, Err}
use Rattle.std.specs.Result.{is_ok}
use Rattle.refusals.proofs.RefusalNumbers.{number_some}
use Rattle.std.proofs.lemmas.List.{length-map}
use Rattle.refusals.specs.declared.array.Geometry.{Geometry}
use Rattle.refusals.specs.declared.refusal.Refusal.{Refusal}
use Rattle.refusals.specs.Refused.{refused}
use Rattle.rebuild_cells.specs.declared.reduction.Row.{Row}
use Rattle.rebuild_cells.specs.RowLists.{words_of, sums_of, rows_of}
use Rattle.rebuild_cells.specs.Listed.{Mended}

-- ---- all sets, the last one first
pub named_on : (p k w i n : ℕ) (xs ms u : List ℕ) → bit w n ≡ true → suc n ≡ i → xs ≡ set_numbered p k n → u ≡ toggled_all xs ms → toggled_all (named_to n p k w) u ≡ toggled_all (named_to i p k w) ms
unfolding named_to
named_on p k w i n xs ms u on q x e =
    ap (toggled_all (named_to n p k w)) (e ∙ ap (λ (l : List ℕ). toggled_all l ms) x)
    ∙ sym (toggled_append (set_numbered p k n) (named_to n p k w) ms)
    ∙ sym (ap (λ (b : Bool). toggled_all (pick b (set_numbered p k n) [] ++ named_to n p k w) ms) on)
    ∙ ap (λ (m : ℕ). toggled_all (named_to m p k w) ms) q

pub named_off : (p k w i n : ℕ) (ms : List ℕ) → bit w n ≡ false → suc n ≡ i → toggled_all (named_to n p k w) ms ≡ toggled_all (named_to i p k w) ms
unfolding named_to
named_off p k w i n ms off q =
    sym (ap (λ (b : Bool). toggled_all (pick b (set_numbered p k n) [] ++ named_to n p k w) ms) off)
    ∙ ap (λ (m : ℕ). toggled_all (named_to m p k w) ms) q

pub named_end : (p k w i : ℕ) (ms : List ℕ) → i ≤ 0 → ms ≡ toggled_all (named_to i p k w) ms
unfolding named_to toggled_all
named_end p k w i ms h = let z : 0 ≡ i = omega arith in ap (λ (n : ℕ). toggled_all (named_to n p k w) ms) z

-- ---- one mark cleared
clear_before : (i x : ℕ) (ms : List ℕ) → x < i → without x (odd_from i ms) ≡ odd_from i ms
unfolding odd_from without
clear_before i x [] h = refl
clear_before i x (m ∷ ms) h = go (is_odd m) (clear_before (suc i) x ms (omega arith))
  where
    go : (b : Bool) → without x (odd_from (suc i) ms) ≡ odd_from (suc i) ms → without x (pick b (i ∷ odd_from (suc i) ms) (odd_from (suc i) ms)) ≡ pick b (i ∷ odd_from (suc i) ms) (odd_from (suc i) ms)
    go true e = ap (λ (t : Bool). pick t (without x (odd_from (suc i) ms)) (i ∷ without x (odd_from (suc i) ms))) (ne_eqb x i (λ q. omega arith)) ∙ ap (λ (l : List ℕ). i ∷ l) e
    go false e = e

cleared : (i z : ℕ) (ms : List ℕ) → odd_from i (set ms z 0) ≡ without (i + z) (odd_from i ms)
unfolding odd_from without
cleared i z [] = refl
cleared i zero (m ∷ ms) = let e : i ≡ i + 0 = omega arith in go (is_odd m) ∙ ap (λ (x : ℕ). without x (odd_from i (m ∷ ms))) e
  where
    go : (b : Bool) → odd_from (suc i) ms ≡ without i (pick b (i ∷ odd_from (suc i) ms) (odd_from (suc i) ms))
    go true = sym (ap (λ (t : Bool). pick t (without i (odd_from (suc i) ms)) (i ∷ without i (odd_from (suc i) ms))) (eq-eqb i i refl) ∙ clear_before (suc i) i ms (omega arith))
    go false = sym (clear_before (suc i) i ms (omega arith))
cleared i (suc z) (m ∷ ms) = let e : suc i + z ≡ i + suc z = omega arith in go (is_odd m) (cleared (suc i) z ms) ∙ ap (λ (x : ℕ). without x (odd_from i (m ∷ ms))) e
  where
    go : (b : Bool) → odd_from (suc i) (set ms z 0) ≡ without (suc i + z) (odd_from (suc i) ms)
        → pick b (i ∷ odd_from (suc i) (set ms z 0)) (odd_from (suc i) (set ms z 0)) ≡ without (suc i + z) (pick b (i ∷ odd_from (suc i) ms) (odd_from (suc i) ms))
    go true h = ap (λ (l : List ℕ). i ∷ l) h ∙ sym (ap (λ (t : Bool). pick t (without (suc i + z) (odd_from (suc i) ms)) (i ∷ without (suc i + z) (odd_from (suc i) ms))) (ne_eqb (suc i + z) i (λ q. omega arith)))
    go false h = h

-- ---- the gather of the odd cells
module _ (p k s x w : ℕ) (ms t : List ℕ) (z : Sized p k s t) (hx : x < p * (k + 2)) (made : ms ≡ set (toggled_all (named_to (2 * p) p k w) (replicate (p * (k + 2)) 0)) x 0) where
  all : List ℕ
  all = toggled_all (named_to (2 * p) p k w) (replicate (p * (k + 2)) 0)

  all_long_lem : length all ≡ p * (k + 2)
  unfolding all
  all_long_lem = toggled_long (named_to (2 * p) p k w) (replicate (p * (k + 2)) 0) ∙ length-replicate (p * (k + 2)) 0

  marks_long : length ms ≡ p * (k + 2)
  unfolding all
  marks_long = ap length made ∙ length-set all x 0 ∙ all_long_lem

  pub mend_marked : p * (k + 2) ≤ 1023 → MarkedStripe s x ms t
  unfolding all
  mend_marked few =
      let l = marks_long in
      let a = all_long_lem in
      let e : length ms * s ≡ p * (k + 2) * s = ap (λ (m : ℕ). m * s) marks_long in
      record {
        few = omega arith;
        small = z.small;
        cells = omega (arith, z.long);
        place = omega arith;
        even = ap is_odd (ap (λ (m : List ℕ). get_or m x 0) made ∙ get_or-set_same all x 0 0 (omega arith));
      }

  pub mend_done : (v : List ℕ) → v ≡ with_part s (x * s) (xor_offsets s t (scaled s (odd_from 0 ms))) t → v ≡ solved s x (odd_cells p k w) t
  unfolding all
  mend_done v e =
      let q : 0 + x ≡ x = omega arith in
      e
      ∙ ap (λ (l : List ℕ). with_cell s x l t)
      (over_offsets s t (odd_from 0 ms) ∙ ap (xor_over s (cell_at s t)) (ap (odd_from 0) made ∙ cleared 0 x all ∙ ap (λ (y : ℕ). without y (odd_from 0 all)) q))

-- ---- the rows filled and reduced
pub cells_reduced :
    (p k : ℕ) (cs : List ℕ) (rs rs' : List Row) (b : Bool) → words_of rs ≡ words_from (2 * p) 0 p k cs → sums_of rs ≡ powers_from (2 * p) 0
    → b ≡ eqb (reduced_from (length cs) (length rs) 0 (rows_of rs)).done (length cs) → rows_of rs' ≡ (reduced_from (length cs) (length rs) 0 (rows_of rs)).left
    → (b ≡ mendable p k cs) × (sums_of rs' ≡ (reduced_cells p k cs).left.sums)
unfolding reduced_cells
cells_reduced p k cs rs rs' b ew et d e = (d ∙ ap (λ (q : Reduced). eqb q.done (length cs)) whole, ap (λ (r : Rows). r.sums) e ∙ ap (λ (q : Reduced). q.left.sums) whole)
  where
    long : length rs ≡ 2 * p
    long = sym (length-map rs (λ (r : Row). r.word)) ∙ ap length ew ∙ words_long (2 * p) 0 p k cs

    whole : reduced_from (length cs) (length rs) 0 (rows_of rs) ≡ reduced_from (length cs) (2 * p) 0 (equations p k cs)
    whole = ap (λ (n : ℕ). reduced_from (length cs) n 0 (rows_of rs)) long ∙ ap₂ (λ (x y : List ℕ). reduced_from (length cs) (2 * p) 0 (rows x y)) ew et

-- ---- mended, or not
-- more missing cells than sets
pub too_many : (g : Geometry) (cs t : List ℕ) (r : Result Unit Refusal) → refused r ≡ 23 → 2 * g.array.width < length cs → Mended g cs t t r
too_many g cs t r e h =
    record {
      refusal = e ∙ sym (ap (λ (b : Bool). when (not b) 23) none);
      stripe = sym (ap (λ (b : Bool). pick b (mended_cells g.array.width g.array.disks g.cell_size cs t) t) none);
    }
  where
    none : mendable g.array.width g.array.disks cs ≡ false
    none = ⊎_elim (λ m. let l = mendable_few g.array.width g.array.disks cs m in absurd (omega arith)) (λ f. f) (flag (mendable g.array.width g.array.disks cs))

-- it is mended exactly if the others determine it
pub mended_if : (g : Geometry) (cs t u : List ℕ) (r : Result Unit Refusal) → Mended g cs t u r → is_ok r ≡ mendable g.array.width g.array.disks cs
mended_if g cs t u (Ok x) m = ⊎_elim (λ h. sym h) (λ h. absurd (omega (arith, m.refusal, ap (λ (b : Bool). when (not b) 23) h))) (flag (mendable g.array.width g.array.disks cs))
mended_if g cs t u (Err e) m = ⊎_elim (λ h. absurd (number_some e (m.refusal ∙ ap (λ (b : Bool). when (not b) 23) h))) (λ h. sym h) (flag (mendable g.array.width g.array.disks cs))
