-- The test of a disk: the list of an equation's survivors tested, and what the equations say of the
-- disk.
use mathlib.Core.Path.{◌≡◌, sym, ap, ◌∙◌}
use mathlib.Core.Bool.{Bool, true, not}
use mathlib.Core.List.{List}
use Prim.Native.Nat.{ℕ, ◌+◌, ◌-◌, ◌*◌, ◌%◌, ◌≤◌, ◌<◌}
use native.Mathlib.Nat.{mod-lt, mod-eq_of_lt, add-mod-mod, add-mod_right}
use native.Mathlib.Omega.{arith}
use lib.Dec.{eqb}
use lib.ListN.{length, replicate}
use borrow.Author.Tests.{eq-eqb, ne_eqb}
use Rattle.mathematics.specs.Lists.{same}
use Rattle.mathematics.specs.Xor.{all_bytes}
use Rattle.mathematics.specs.Sums.{all_to}
use Rattle.mathematics.proofs.AllLaws.{all_at, all_of_lem, all_fails}
use Rattle.liberation.specs.Sets.{is_width, place, surviving_in}
use Rattle.liberation.proofs.SetLaws.{surviving_below, place_below}
use Rattle.liberation.specs.Stripes.Stripes.{stripe_long}
use Rattle.liberation.proofs.Stripes.StripeCellLaws.{cell_fits}
use Rattle.liberation.proofs.Stripes.Solving.{stripe_of}
use Rattle.liberation.specs.Scrub.Survivors.{equation, equation_holds, equations_hold, fits}
use Rattle.liberation.proofs.Scrub.EquationCells.{equation_below}
use Rattle.liberation.proofs.Scrub.EquationLaws.{fits_equations}
use Rattle.xor.specs.Parts.{xor_offsets}
use Rattle.xor.specs.Reach.{Reached}
use Rattle.stripe_cells.specs.Offsets.{scaled}
use Rattle.stripe_cells.proofs.OffsetLaws.{length_scaled, over_offsets}
use Rattle.stripe_cells.proofs.SolvedLaws.{list_reached}

-- the list of an equation's survivors in a stripe t, and the test of their XOR
module _ (p k s d i : ℕ) (list t : List ℕ) (numbered : i < p) (disk : d < k + 2) (room : length list ≤ 99) (long : length t ≡ stripe_long p k s) (e : list ≡ scaled s (surviving_in p d (equation p k d i))) where
  pub size_fits : s ≤ length t
  size_fits = let l : 0 < k + 2 = omega arith in omega (arith, cell_fits (p * (k + 2)) s (place p i 0) (place_below p (k + 2) i 0 numbered l))

  pub equation_reached : Reached s (length t) list
  equation_reached =
      let xs = surviving_in p d (equation p k d i) in
      list_reached s (p * (k + 2)) list xs t e (omega (arith, ap length e, length_scaled s xs)) (surviving_below (p * (k + 2)) p d (equation p k d i) (equation_below p k d i numbered disk)) (long ∙ omega arith)

  pub equation_tested : (r : Bool) → r ≡ same (xor_offsets s t list) (replicate s 0) → r ≡ equation_holds p k s d t i
  equation_tested r q = q ∙ ap (λ (l : List ℕ). same l (replicate s 0)) (ap (xor_offsets s t) e ∙ over_offsets s t (surviving_in p d (equation p k d i)))

-- what the equations say of the disk, tested from number b on and round
module _ (p k s d b : ℕ) (t : List ℕ) (width : is_width p ≡ true) (most : k ≤ p) (disk : d < k + 2) (long : length t ≡ stripe_long p k s) (bytes : all_bytes t ≡ true) (below : b < p) where
  fits_is : fits p k s d t ≡ equations_hold p k s d t
  fits_is = fits_equations p k s d width most disk t (stripe_of p k s t (long ∙ omega arith) bytes)

  -- every number comes in its turn
  in_turn : (n : ℕ) → n < p → (b + (n + p - b) % p) % p ≡ n
  in_turn n l = let e : b + (n + p - b) ≡ n + p = omega arith in add-mod-mod b (n + p - b) p ∙ ap (λ (m : ℕ). m % p) e ∙ add-mod_right n p ∙ mod-eq_of_lt l

  pub one_refuses : (i : ℕ) (r : Bool) → i < p → r ≡ equation_holds p k s d t ((b + i) % p) → not r ≡ true → (i ≤ p) × (eqb i p ≡ fits p k s d t)
  unfolding equations_hold
  one_refuses i r l e n =
      (omega arith, ne_eqb i p (λ q. omega arith) ∙ sym (fits_is ∙ all_fails p ((b + i) % p) (λ j. equation_holds p k s d t j) r (mod-lt (b + i) (omega arith)) e n))

  pub none_refuses : (i : ℕ) → i ≤ p → p ≤ i → all_to i (λ j. equation_holds p k s d t ((b + j) % p)) ≡ true → (i ≤ p) × (eqb i p ≡ fits p k s d t)
  unfolding equations_hold
  none_refuses i l m e =
      let q : i ≡ p = omega arith in
      let f : ℕ → Bool = λ j. equation_holds p k s d t j in
      let each : (n : ℕ) → n < p → f n ≡ true = λ n h. sym (ap f (in_turn n h)) ∙ all_at i (λ j. f ((b + j) % p)) e ((n + p - b) % p) (omega (arith, mod-lt (n + p - b) {m = p} (omega arith))) in
      (l, eq-eqb i p q ∙ sym (fits_is ∙ all_of_lem p f each))
