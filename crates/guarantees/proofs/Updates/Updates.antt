-- Ask 4 of document 02, said of the call that updates a cell: whatever it returns, as long as it
-- keeps its promise.
-- t is the stripe as it was lent, t' as it is given back, new the lent cell, for row r of data disk
-- c. That the lengths are those required and that all are bytes comes with the answer.
use mathlib.Core.Path.{◌≡◌, sym, ap, ap₂, ◌∙◌}
use mathlib.Core.Bool.{true, false}
use mathlib.Core.Logic.{◌⊎◌}
use mathlib.Core.List.{List}
use Prim.Native.Nat.{ℕ, suc, ◌+◌, ◌/◌, ◌≤◌, ◌<◌}
use native.Mathlib.Omega.{arith}
use lib.Dec.{eqb}
use lib.ListN.{length, get_or}
use Rattle.mathematics.specs.Choice.{pick, when, first_of}
use Rattle.mathematics.specs.Lists.{is_in, distinct}
use Rattle.mathematics.specs.Xor.{xor_l}
use Rattle.mathematics.proofs.ChoiceLaws.{first_none}
use Rattle.liberation.specs.Sets.{place, extra_of, diagonal_set, set_of, shape_refusal}
use Rattle.liberation.proofs.RefusalLaws.{long_accepted}
use Rattle.liberation.specs.Stripes.Stripes.{cell_at, with_cell, xor_over, stripe_long, is_stripe, clean, encoded}
use Rattle.liberation.proofs.Stripes.StripeCellLaws.{length_with}
use Rattle.liberation.proofs.Stripes.Solving.{stripe_of}
use Rattle.liberation.specs.Update.Updates.{is_extra, holders, parity_of, updated}
use Rattle.liberation.proofs.Update.HolderLaws.{in_holders, holders_distinct, holders_count, extra_some, extra_any}
use Rattle.liberation.proofs.Update.ParityCells.{parity_row, parity_diagonal, parity_cases}
use Rattle.liberation.proofs.Update.Updating.{updated_stripe, updated_new, updated_parity, updated_byte, updated_set, updated_clean, updated_encoded}
use Rattle.refusals.specs.declared.answer.Answer.{Answer}
use Rattle.refusals.proofs.AnswerLaws.{answers_none}
use Rattle.refusals.specs.StripeSays.{stripe_refusal}
use Rattle.encode.specs.Says.{EncodeSays}
use Rattle.update.specs.Cells.{DataCell}
use Rattle.update.proofs.CellPlaces.{own_fits}
use Rattle.update.specs.Says.{data_refusal, update_refusal, UpdateSays}
use Rattle.update.proofs.UpdateRefusals.{last_refusals, refusal_none}

-- The parity cells of data cell (r, c): "its P cell and the Q cells of the diagonals holding it".
pub record Parity (p k r c : ℕ) : Type 0 where
  -- on P, that of its row
  pub row : (i : ℕ) → i < p → is_in (place p i k) (parity_of p k r c) ≡ eqb i r
  -- on Q, those of the diagonals that hold it
  pub diagonals : (i : ℕ) → i < p → is_in (place p i (suc k)) (parity_of p k r c) ≡ is_in (place p r c) (diagonal_set p k i)
  -- no other cell
  pub only : (y : ℕ) → is_in y (parity_of p k r c) ≡ true → (y ≡ place p r k) ⊎ ((j : ℕ) × (j < p) × (y ≡ place p j (suc k)))
  -- "Usually that is one diagonal, for an extra cell two": `holders` are those diagonals, each once
  pub holding : (i : ℕ) → i < p → is_in i (holders p r c) ≡ is_in (place p r c) (diagonal_set p k i)
  pub once : distinct (holders p r c) ≡ true
  pub count : length (holders p r c) ≡ 1 + when (is_extra p r c) 1
  -- the extra cells are those of the diagonals
  pub extra : is_extra p r c ≡ true → (i : ℕ) × (1 ≤ i) × (i < p) × (extra_of p i ≡ place p r c)
  pub extras : (i : ℕ) → 1 ≤ i → i < p → extra_of p i ≡ place p r c → is_extra p r c ≡ true

-- An accepted update of t leaves t'.
pub record Updates (p k s r c : ℕ) (t new t' : List ℕ) : Type 0 where
  -- a stripe still, in length and bytes
  pub stripe : is_stripe p k s t' ≡ true
  -- "puts the new bytes in that cell"
  pub put : cell_at s t' (place p r c) ≡ new
  -- each parity cell takes what the cell took
  pub changed : (y : ℕ) → is_in y (parity_of p k r c) ≡ true → cell_at s t' y ≡ xor_l (cell_at s t y) (xor_l (cell_at s t (place p r c)) new)
  -- "Every other byte stands."
  pub kept : (j : ℕ) → (j / s ≡ place p r c → ⊥) → is_in (j / s) (parity_of p k r c) ≡ false → get_or t' j 0 ≡ get_or t j 0
  -- "The XOR of every set is the same before and after", on dirty stripes too
  pub sums : (kind i : ℕ) → i < p → xor_over s (cell_at s t') (set_of p k kind i) ≡ xor_over s (cell_at s t) (set_of p k kind i)
  pub cleanness : clean p k s t' ≡ clean p k s t
  -- "so a clean stripe ends as a fresh encoding would leave it"
  pub as_encoded : clean p k s t ≡ true → t' ≡ encoded p k s (with_cell s (place p r c) new t)

-- an accepted call, by its answer
module _ (p k s r c : ℕ) (t new t' : List ℕ) (a : Answer) (q : UpdateSays p k s r c t new t' a) (z : a.refusal ≡ 0) where
  none : update_refusal p k s r c t new ≡ 0
  none = answers_none (update_refusal p k s r c t new) a q.answer z

  pub shown : DataCell p k s r c t × (length new ≡ s) × (0 < s)
  shown = refusal_none p k s r c t new none

  done : t' ≡ updated p k s r c new t
  done = q.stripe ∙ ap (λ (n : ℕ). pick (eqb n 0) (updated p k s r c new t) t) none

  lent : is_stripe p k s t ≡ true
  lent = stripe_of p k s t (omega (arith, shown.0.long)) q.bytes

  pub has_parity : Parity p k r c
  has_parity =
      let d = shown.0 in
      record {
        row = λ i l. parity_row p k r c d.row i l;
        diagonals = λ i l. parity_diagonal p k r c d.row i l ∙ in_holders p k r c i d.disks d.row d.disk l;
        only = parity_cases p k r c d.row;
        holding = λ i l. in_holders p k r c i d.disks d.row d.disk l;
        once = holders_distinct p r c d.odd d.row;
        count = holders_count p r c;
        extra = extra_some p r c d.row;
        extras = λ i. extra_any p r c i d.row;
      }

  pub updates : Updates p k s r c t new t'
  updates =
      let d = shown.0 in
      let n = shown.1 in
      record {
        stripe = ap (is_stripe p k s) done ∙ updated_stripe p k s r c d.odd d.row d.disk new n t lent q.cell_bytes;
        put = ap (λ (l : List ℕ). cell_at s l (place p r c)) done ∙ updated_new p k s r c d.odd d.row d.disk new n t lent;
        changed = λ y h. ap (λ (l : List ℕ). cell_at s l y) done ∙ updated_parity p k s r c d.odd d.row d.disk new n t lent y h;
        kept = λ j h o. ap (λ (l : List ℕ). get_or l j 0) done ∙ updated_byte p k s r c d.odd d.row d.disk new n t lent j shown.2 h o;
        sums = λ kind i l. ap (λ (u : List ℕ). xor_over s (cell_at s u) (set_of p k kind i)) done ∙ updated_set p k s r c d.odd d.row d.disk new n t lent d.disks q.cell_bytes kind i l;
        cleanness = ap (clean p k s) done ∙ updated_clean p k s r c d.odd d.row d.disk new n t lent d.disks q.cell_bytes;
        as_encoded = λ e. done ∙ updated_encoded p k s r c d.odd d.row d.disk new n t lent d.disks q.cell_bytes e;
      }

  -- the same said of the call that encodes: it need not be supposed that it accepts
  pub ends_as_encoded : clean p k s t ≡ true → (u : List ℕ) (b : Answer) → EncodeSays p k s (with_cell s (place p r c) new t) u b → t' ≡ u
  ends_as_encoded e u b m =
      let d = shown.0 in
      let w : List ℕ = with_cell s (place p r c) new t in
      let fine : stripe_refusal p k s w ≡ 0 = ap₂ first_of shape (long_accepted (stripe_long p k s) w (length_with s (place p r c) new t shown.1 (own_fits p k s r c t d) ∙ d.long)) in
      updates.as_encoded e ∙ sym (m.stripe ∙ ap (λ (n : ℕ). pick (eqb n 0) (encoded p k s w) w) fine)
    where
      shape : shape_refusal p k s ≡ 0
      shape = (first_none (shape_refusal p k s) (first_of (data_refusal k c) (last_refusals p k s r c (length t) (length new))) none).0
