-- One record of a scan.
use mathlib.Core.Path.{◌≡◌}
use mathlib.Core.Bool.{Bool}
use Prim.Native.Nat.{ℕ, ◌+◌}
use lib.Count.{ones}
use borrow.Author.Tests.{eq-eqb, ne_eqb}
use Rattle.mathematics.specs.Choice.{first_of}
use Rattle.array_states.specs.declared.ArrayState.{ArrayState}
use Rattle.array_states.specs.declared.totals.Totals.{Totals}
use Rattle.array_states.specs.States.{StateAnswer, state_refusal, StateSays}
use Rattle.array_states.specs.OnePass.{Scan, counted_on, scan_record}

-- the record that the report names is next: r is what the report on it answers
pub scan_own : (which d : ℕ) (back : Bool) (s : Scan) (c : ArrayState) (f : ℕ) (r : StateAnswer) (t : Totals) → s.at ≡ which → f ≡ first_of s.refusal (state_refusal c) → StateSays c d back r → t ≡ counted_on s.totals (ones r.state.lost)
    → ◌≡◌ {A = Scan} (record { at = s.at + 1; refusal = f; own = r.answer.refusal; found = r.state; totals = t }) (scan_record which d back s c)
unfolding scan_record
scan_own which d back s c f r t e ef k et = simp (eq-eqb _ _ e, ef, k.answer.refusal, et, k.state)

-- another record is next
pub scan_other : (which d : ℕ) (back : Bool) (s : Scan) (c : ArrayState) (f : ℕ) (t : Totals) → (s.at ≡ which → ⊥) → f ≡ first_of s.refusal (state_refusal c) → t ≡ counted_on s.totals (ones c.lost)
    → ◌≡◌ {A = Scan} (record { at = s.at + 1; refusal = f; own = s.own; found = s.found; totals = t }) (scan_record which d back s c)
unfolding scan_record
scan_other which d back s c f t ne ef et = simp (ne_eqb _ _ ne, ef, et)
