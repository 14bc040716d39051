-- What the gather of the odd cells promises, list by list.
use Rattle.std.specs.Prelude.{◌≡◌, ◌⊎◌, true, List, ◌++◌, ℕ, ◌*◌, ◌≤◌, ◌<◌, length}
use Rattle.mathematics.specs.Xor.{xor_l, all_bytes}
use Rattle.xor.specs.Parts.{part, with_part, xor_offsets}
use Rattle.stripe_cells.specs.Listed.{odd_offsets}

-- the list `old` has become `new`, of at most `most` offsets: with the offsets of the odd places from
-- r on it has the old ones with those from place x on; it is full, or no place is left
pub record OddPushed (s : ℕ) (ms old new : List ℕ) (x most r : ℕ) : Type 0 where
  pub list : new ++ odd_offsets s ms r ≡ old ++ odd_offsets s ms x
  pub fits : length new ≤ most
  pub some : x ≤ r
  pub within : r ≤ length ms
  pub full : (r ≡ length ms) ⊎ (length new ≡ most)

-- the stripe t has become t', in which only cell d is another: with the odd cells from place r on
-- it is the XOR of the cells of the list and the odd cells from place x on; r is further on than x,
-- unless no place is left
pub record OddAdded (s d : ℕ) (ms t t' list : List ℕ) (x r : ℕ) : Type 0 where
  pub sum : xor_l (part s (d * s) t') (xor_offsets s t (odd_offsets s ms r)) ≡ xor_offsets s t (list ++ odd_offsets s ms x)
  pub long : length (part s (d * s) t') ≡ s
  pub bytes : all_bytes (part s (d * s) t') ≡ true
  pub kept : t' ≡ with_part s (d * s) (part s (d * s) t') t
  pub within : r ≤ length ms
  pub on : x < length ms → x < r
