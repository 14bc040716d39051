-- The lost disks of an array as the bits of a word (document 02, ask 12, "A board of all
-- cabinets"): what a report changes, and the refusal of a lost disk past Q.
use Rattle.std.specs.Prelude.{Bool, ℕ, ◌+◌, ◌/◌, ◌%◌, ◌^◌, eqb, leb}
use Rattle.std.specs.Int.Bits.{bit_and, bit_or, bit_xor}
use Rattle.mathematics.specs.Choice.{pick, when}

-- "a 64-bit word with bit d set for lost disk d"
abbrev pub has_bit : ℕ → ℕ → Bool
has_bit w d = eqb (w / 2 ^ d % 2) 1

-- "a disk lost, which sets its bit"
abbrev pub with_lost : ℕ → ℕ → ℕ
with_lost w d = bit_or w (2 ^ d)

-- "or a disk back, which clears it"
abbrev pub with_back : ℕ → ℕ → ℕ
with_back w d = bit_xor w (bit_and w (2 ^ d))

abbrev pub lost_after : ℕ → ℕ → Bool → ℕ
lost_after w d back = pick back (with_back w d) (with_lost w d)

-- "that holds a lost disk over k + 1, gives refusal .. 3"
abbrev pub lost_refusal : ℕ → ℕ → ℕ
lost_refusal k w = when (leb (2 ^ (k + 2)) w) 3
