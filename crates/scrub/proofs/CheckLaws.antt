-- The row sets of a stripe as one test and a set by the XOR of its cells; a stripe is clean if the
-- sets of both kinds are; and the promise of the check from what was refused or done.
use mathlib.Core.Path.{◌≡◌, sym, subst, ap, ap₂, ◌∙◌}
use mathlib.Core.Bool.{Bool, true, false, ◌&&◌}
use mathlib.Core.List.{List, [], ◌++◌}
use Prim.Native.Nat.{ℕ, suc, ◌+◌, ◌-◌, ◌*◌, ◌≤◌, ◌<◌}
use native.Mathlib.Omega.{arith}
use lib.ListN.{length, replicate}
use Rattle.mathematics.specs.Lists.{same}
use Rattle.mathematics.specs.Sums.{all_to}
use Rattle.mathematics.specs.Xor.{all_bytes}
use Rattle.mathematics.proofs.ChoiceLaws.{and_refused, and_done}
use borrow.Author.Tests.{ne_eqb}
use Rattle.mathematics.proofs.KeptLaws.{kept_all}
use Rattle.mathematics.proofs.MemberLaws.{in_below}
use Rattle.liberation.specs.Sets.{place, disk_at, row_from, row_set, set_of, surviving_in}
use Rattle.liberation.proofs.SetLaws.{set_below, place_below, surviving_keeps}
use Rattle.liberation.proofs.SetSizes.{size_most}
use Rattle.liberation.proofs.PlaceLaws.{disk_below}
use Rattle.liberation.proofs.Stripes.StripeCellLaws.{cell_fits}
use Rattle.liberation.specs.Stripes.Stripes.{clean, set_clean, stripe_long}
use Rattle.refusals.specs.declared.answer.Answer.{Answer}
use Rattle.refusals.specs.Answers.{Answers}
use Rattle.refusals.specs.declared.refusal.Refusal.{Refusal}
use Rattle.refusals.specs.Refused.{number_of}
use Rattle.refusals.proofs.RefusalNumbers.{number_some}
use Rattle.refusals.proofs.AnswerLaws.{answers_as}
use Rattle.xor.specs.Parts.{xor_offsets}
use Rattle.xor.specs.Reach.{Reached}
use Rattle.stripe_cells.specs.Offsets.{scaled}
use Rattle.stripe_cells.proofs.OffsetLaws.{over_offsets}
use Rattle.stripe_cells.proofs.RunLaws.{run_zero}
use Rattle.stripe_cells.specs.OrdinaryCells.{survivors}
use Rattle.stripe_cells.proofs.SetLists.{survivors_one, surviving_past}
use Rattle.stripe_cells.proofs.SolvedLaws.{from_none, list_reached}
use Rattle.refusals.specs.StripeSays.{stripe_refusal}
use Rattle.mathematics.proofs.AllLaws.{all_same}
use Rattle.scrub.specs.CheckSays.{CheckSays}

-- the row sets of a stripe as one test: there is no disk past Q, so no cell is left out
module _ (p k s : ℕ) (t : List ℕ) (some : 0 < p) (long : length t ≡ stripe_long p k s) where
  whole : (i : ℕ) → i < p → surviving_in p (k + 2) (row_from (suc k) p i 0) ≡ row_set p k i
  unfolding row_set
  whole i h = surviving_past p (k + 2) (row_set p k i) (set_below p k 0 i h)

  pub first_row : (a list : List ℕ) → a ≡ [] → list ≡ a ++ scaled s (row_from (k + 1 - 0) p 0 0) → list ≡ scaled s (surviving_in p (k + 2) (row_set p k 0))
  unfolding row_set
  first_row a list n u =
      let e : k + 1 - 0 ≡ suc k = omega arith in
      from_none a list (scaled s (row_from (k + 1 - 0) p 0 0)) n u ∙ ap (λ (j : ℕ). scaled s (row_from j p 0 0)) e ∙ ap (scaled s) (sym (whole 0 some))

  pub rows_clean : (at : List ℕ) (r : Bool) → at ≡ scaled s (surviving_in p (k + 2) (row_set p k 0)) → Reached (p * s) (length t) at → r ≡ same (xor_offsets (p * s) t at) (replicate (p * s) 0) → r ≡ all_to p (λ i. set_clean p k s t 0 i)
  unfolding row_set
  rows_clean at r e reach h =
      h
      ∙ ap (λ (l : List ℕ). same (xor_offsets (p * s) t l) (replicate (p * s) 0)) e
      ∙ run_zero s p (k + 2) (suc k) t (subst (λ (l : List ℕ). Reached (p * s) (length t) l) e reach).inside
      ∙ all_same p (λ i b. ap (λ (l : List ℕ). same l (replicate s 0)) (ap (λ (xs : List ℕ). xor_offsets s t (scaled s xs)) (whole i b) ∙ over_offsets s t (row_set p k i)))

-- all cells of a set are listed where no disk is lost, so their XOR tells whether the set is clean;
-- disk 33 is none of an array's
module _ (p k s kind i l h : ℕ) (a list t : List ℕ) (numbered : i < p) (few : k ≤ 31) (e : (l ≡ 33) × (h ≡ 33)) (n : a ≡ []) (listed : list ≡ a ++ scaled s (survivors p l h (set_of p k kind i))) (long : length t ≡ stripe_long p k s) where
  none_lost : survivors p 33 33 (set_of p k kind i) ≡ set_of p k kind i
  none_lost =
      survivors_one p 33 (set_of p k kind i)
      ∙ kept_all (surviving_keeps p 33) (set_of p k kind i) (λ x m. ne_eqb (disk_at p x) 33 (λ q. omega (arith, disk_below p (k + 2) x (in_below (p * (k + 2)) x (set_of p k kind i) (set_below p k kind i numbered) m))))

  all_listed : list ≡ scaled s (set_of p k kind i)
  all_listed = from_none a list (scaled s (survivors p l h (set_of p k kind i))) n listed ∙ ap₂ (λ (x y : ℕ). scaled s (survivors p x y (set_of p k kind i))) e.0 e.1 ∙ ap (scaled s) none_lost

  pub set_fits : s ≤ length t
  set_fits = let q : 0 < k + 2 = omega arith in omega (arith, cell_fits (p * (k + 2)) s (place p i 0) (place_below p (k + 2) i 0 numbered q))

  pub set_reached : Reached s (length t) list
  set_reached = list_reached s (p * (k + 2)) list (set_of p k kind i) t all_listed (omega (arith, size_most p k kind i)) (set_below p k kind i numbered) (long ∙ omega arith)

  pub set_tested : (r : Bool) → r ≡ same (xor_offsets s t list) (replicate s 0) → r ≡ set_clean p k s t kind i
  set_tested r q = q ∙ ap (λ (u : List ℕ). same u (replicate s 0)) (ap (xor_offsets s t) all_listed ∙ over_offsets s t (set_of p k kind i))

-- the promise of the check from what was refused, or done
pub check_refused : (p k s : ℕ) (t : List ℕ) (e : Refusal) (a : Answer) → number_of e ≡ stripe_refusal p k s t → Answers (number_of e) a → all_bytes t ≡ true → CheckSays p k s t (record { answer = a; clean = false })
check_refused p k s t e a q h b = record { answer = answers_as (number_of e) (stripe_refusal p k s t) a q h; clean = and_refused (number_of e) (stripe_refusal p k s t) (clean p k s t) q (number_some e); bytes = b }

pub check_done : (p k s : ℕ) (t : List ℕ) (a : Answer) (b : Bool) → 0 ≡ stripe_refusal p k s t → Answers 0 a → b ≡ clean p k s t → all_bytes t ≡ true → CheckSays p k s t (record { answer = a; clean = b })
check_done p k s t a b z h e y = record { answer = answers_as 0 (stripe_refusal p k s t) a z h; clean = e ∙ and_done (stripe_refusal p k s t) (clean p k s t) (sym z); bytes = y }

-- clean if the sets of both kinds are: a row set is not, or the diagonal sets decide
pub clean_rows : (p k s : ℕ) (t : List ℕ) (b : Bool) → b ≡ all_to p (λ i. set_clean p k s t 0 i) → b ≡ false → false ≡ clean p k s t
unfolding clean
clean_rows p k s t b e f = sym (ap (λ (x : Bool). x && all_to p (λ i. set_clean p k s t 1 i)) (sym e ∙ f))

pub clean_both : (p k s : ℕ) (t : List ℕ) (b d : Bool) → b ≡ all_to p (λ i. set_clean p k s t 0 i) → b ≡ true → d ≡ all_to p (λ i. set_clean p k s t 1 i) → d ≡ clean p k s t
unfolding clean
clean_both p k s t b d e f q = q ∙ sym (ap (λ (x : Bool). x && all_to p (λ i. set_clean p k s t 1 i)) (sym e ∙ f))
