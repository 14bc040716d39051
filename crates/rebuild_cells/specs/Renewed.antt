-- What the choice of the next cell and of its word promises: nothing of its weight, on which no
-- result depends.
use Rattle.std.specs.Prelude.{◌≡◌, true, false, List, ◌⊎◌, ℕ, Option, MatchOption, ◌<◌, get_or}
use Rattle.std.specs.Int.Bits.{bit_xor}
use Rattle.mathematics.specs.BitRows.Parity.{bit}

-- each of the first n words is as it was, or the sum of the words x and d
abbrev pub Renewed : ℕ → ℕ → List ℕ → List ℕ → List ℕ → Type 0
Renewed n d ws ns ns' = (x : ℕ) → x < n → (get_or ns' x 0 ≡ get_or ns x 0) ⊎ (get_or ns' x 0 ≡ bit_xor (get_or ws x 0) (get_or ws d 0))

-- of the first m unknowns r is left, one of n, or none is
abbrev pub Chosen : ℕ → ℕ → ℕ → Option ℕ → Type 0
Chosen n m left r = MatchOption r ((c : ℕ) → c < m → bit left c ≡ false) (λ b. (b < n) × (bit left b ≡ true))
