-- The numbers of a bill (document 02, asks 6 and 10): its refusals, and a charge in whole cents.
use Rattle.std.specs.Prelude.{◌≡◌, ◌||◌, ℕ, ◌+◌, ◌-◌, ◌*◌, ◌/◌, ◌%◌, ◌^◌, ◌≤◌, eqb, leb, ltb}
use Rattle.mathematics.specs.Choice.{pick, when, first_of}

-- the smaller of two numbers
abbrev pub least : ℕ → ℕ → ℕ
least a b = pick (leb a b) a b

-- a GiB, 2^30 bytes
abbrev pub gib : ℕ
gib = 2 ^ 30

-- the even one of q and q + 1
abbrev pub even_of : ℕ → ℕ
even_of q = pick (eqb (q % 2) 0) q (q + 1)

-- q whole cents and a rest of e, in bytes of a GiB: "sums go to the nearest cent, and an exact half
-- goes to the even cent"
abbrev pub rounded : ℕ → ℕ → ℕ
rounded q e = pick (ltb (2 ^ 29) e) (q + 1) (pick (ltb e (2 ^ 29)) q (even_of q))

-- the cents of a charge
abbrev pub nearest : ℕ → ℕ
nearest c = rounded (c / gib) (c % gib)

-- how far two numbers are apart
abbrev pub apart : ℕ → ℕ → ℕ
apart a b = (a - b) + (b - a)

-- n cents for a charge of c: no number of cents is nearer, and where c is some cents and an exact
-- half, n is even
pub record Nearest (c n : ℕ) : Type 0 where
  pub near : (m : ℕ) → apart c (n * gib) ≤ apart c (m * gib)
  pub even : (m : ℕ) → 2 * c ≡ (2 * m + 1) * gib → n % 2 ≡ 0

-- refusal 16: "a rate over 1,000"; 17: "more than 2^54 bytes"
abbrev pub rate_refusal : ℕ → ℕ → ℕ → ℕ
rate_refusal r s t = when (ltb 1000 r || (ltb 1000 s || ltb 1000 t)) 16

abbrev pub bytes_refusal : ℕ → ℕ
bytes_refusal b = when (ltb (2 ^ 54) b) 17

abbrev pub bill_refusal : ℕ → ℕ → ℕ → ℕ → ℕ
bill_refusal b r s t = first_of (rate_refusal r s t) (bytes_refusal b)
