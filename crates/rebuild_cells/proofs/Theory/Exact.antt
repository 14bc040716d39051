-- The mend is exact: where it refuses, two different clean stripes agree in all cells that are not
-- missing. So missing cells can be mended exactly if the others determine them.
use mathlib.Core.Path.{◌≡◌, refl, sym, ap, ap₂, ◌∙◌}
use mathlib.Core.Bool.{Bool, true, false, ◌&&◌, not, and_comm, and-false}
use mathlib.Core.List.{List, [], ◌∷◌}
use mathlib.Core.Logic.{⊎_elim}
use Prim.Native.Nat.{ℕ, zero, suc, ◌+◌, ◌*◌, ◌<◌}
use native.Mathlib.Omega.{arith}
use lib.Dec.{eqb}
use lib.ListN.{length, get_or, get_or-replicate}
use borrow.Author.Tests.{eq-eqb, ne_eqb, not-true}
use Rattle.mathematics.specs.Lists.{is_in, distinct, all_below}
use Rattle.mathematics.proofs.Flags.{and_l, and_r, clash, flag}
use Rattle.mathematics.proofs.ListLaws.{below_at}
use Rattle.mathematics.proofs.MemberLaws.{at_in}
use Rattle.mathematics.specs.BitRows.Parity.{odd_to, odd_in}
use Rattle.mathematics.proofs.BitRows.ParityLaws.{to_ext, to_none, to_one, in_none, in_and, in_distinct, swap}
use Rattle.mathematics.proofs.BitRows.Reducing.{Dependent}
use Rattle.liberation.specs.Stripes.Stripes.{cell_at}
use Rattle.rebuild_cells.specs.Theory.Mending.{set_numbered, reduced_cells, mendable, Determined, TwoClean}
use Rattle.rebuild_cells.proofs.Theory.OddCells.{numbered_distinct}
use Rattle.rebuild_cells.proofs.Theory.MendLaws.{given, cells_reduce, none_of}
use Rattle.rebuild_cells.proofs.Theory.LitStripes.{lit_cell, lit, lit_stripe, lit_cell_lem, lit_clean}

-- a list without repetitions has each of its numbers at one place
pub at_once : (xs : List ℕ) → distinct xs ≡ true → (i j : ℕ) → i < length xs → j < length xs → get_or xs i 0 ≡ get_or xs j 0 → i ≡ j
at_once [] d i j hi hj e = absurd (omega arith)
at_once (x ∷ xs) d zero zero hi hj e = refl
at_once (x ∷ xs) d zero (suc j) hi hj e = clash (is_in x xs) (ap (λ (y : ℕ). is_in y xs) e ∙ at_in j xs (omega arith)) (not-true (is_in x xs) (and_l (not (is_in x xs)) (distinct xs) d))
at_once (x ∷ xs) d (suc i) zero hi hj e = clash (is_in x xs) (ap (λ (y : ℕ). is_in y xs) (sym e) ∙ at_in i xs (omega arith)) (not-true (is_in x xs) (and_l (not (is_in x xs)) (distinct xs) d))
at_once (x ∷ xs) d (suc i) (suc j) hi hj e = ap suc (at_once xs (and_r (not (is_in x xs)) (distinct xs) d) i j (omega arith) (omega arith) e)

module _ (p k s : ℕ) (some : 0 < p) (bytes : 0 < s) (cs : List ℕ) (below : all_below (p * (k + 2)) cs ≡ true) (once : distinct cs ≡ true) where
  -- a vector that solves all equations as a stripe: its missing cells are ones
  module _ (g : Dependent (2 * p) (length cs) (given p k cs)) where
    ones : ℕ → Bool
    ones y = odd_to (length cs) (λ b. g.vector b && eqb (get_or cs b 0) y)

    even : (i : ℕ) → i < 2 * p → odd_in ones (set_numbered p k i) ≡ false
    unfolding ones
    even i l =
        swap (length cs) (λ b y. g.vector b && eqb (get_or cs b 0) y) (set_numbered p k i)
        ∙ to_ext (length cs) _ _ (λ b h. in_and (eqb (get_or cs b 0)) (g.vector b) (set_numbered p k i) ∙ ap (λ (t : Bool). g.vector b && t) (in_distinct (get_or cs b 0) (set_numbered p k i) (numbered_distinct p k some i)) ∙ and_comm (g.vector b) (given p k cs i b))
        ∙ g.solution i l

    off : (y : ℕ) → is_in y cs ≡ false → ones y ≡ false
    unfolding ones
    off y h = to_none (length cs) _ (λ b l. ap (λ (t : Bool). g.vector b && t) (ne_eqb (get_or cs b 0) y (λ e. none_of cs y h b l (sym e))) ∙ and-false (g.vector b))

    own : ones (get_or cs g.unknown 0) ≡ true
    unfolding ones
    own =
        to_one (length cs) g.unknown _ g.below
        (λ b l q. ap (λ (t : Bool). g.vector b && t) (ne_eqb (get_or cs b 0) (get_or cs g.unknown 0) (λ e. q (at_once cs once b g.unknown l g.below e))) ∙ and-false (g.vector b))
        ∙ ap₂ ◌&&◌ g.holds (eq-eqb (get_or cs g.unknown 0) (get_or cs g.unknown 0) refl)

    never : ℕ → Bool
    never y = false

    two_clean : TwoClean p k s cs
    unfolding never
    two_clean =
        record {
          one = lit p k s ones;
          two = lit p k s never;
          one_stripe = lit_stripe p k s ones;
          two_stripe = lit_stripe p k s never;
          one_clean = lit_clean p k s ones even;
          two_clean = lit_clean p k s never (λ i l. in_none (set_numbered p k i));
          alike = λ x l h. lit_cell_lem p k s ones x l ∙ ap (lit_cell s) (off x h) ∙ sym (lit_cell_lem p k s never x l);
          apart = apart;
        }
      where
        x : ℕ
        x = get_or cs g.unknown 0

        l : x < p * (k + 2)
        l = below_at (p * (k + 2)) g.unknown cs below g.below

        apart : lit p k s ones ≡ lit p k s never → ⊥
        apart e =
            let q : lit_cell s true ≡ lit_cell s false = sym (lit_cell_lem p k s ones x l ∙ ap (lit_cell s) own) ∙ ap (λ (t : List ℕ). cell_at s t x) e ∙ lit_cell_lem p k s never x l in
            let w : ◌≡◌ {A = ℕ} 1 0 = sym (get_or-replicate s 0 1 0 bytes) ∙ ap (λ (c : List ℕ). get_or c 0 0) q ∙ get_or-replicate s 0 0 0 bytes in
            omega arith

  -- where the mend refuses
  pub refused_two : mendable p k cs ≡ false → TwoClean p k s cs
  refused_two h = ⊎_elim (λ d. clash (mendable p k cs) (eq-eqb (reduced_cells p k cs).done (length cs) d.0) h) (λ d. two_clean d.1) (cells_reduce p k cs)

  -- "exactly when": cells that determine the missing ones let them be mended
  pub determined_mendable : Determined p k s cs → mendable p k cs ≡ true
  determined_mendable h =
      ⊎_elim (λ t. t) (λ f. let g = refused_two f in absurd (g.apart (h g.one g.two g.one_stripe g.two_stripe g.one_clean g.two_clean g.alike))) (flag (mendable p k cs))
