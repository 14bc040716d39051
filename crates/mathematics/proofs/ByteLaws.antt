-- Lists of bytes: joined, and cut at the front or the back, they are bytes still.
use mathlib.Core.Path.{◌≡◌, refl}
use mathlib.Core.Bool.{true}
use mathlib.Core.List.{List, [], ◌∷◌, ◌++◌}
use Prim.Native.Nat.{ℕ, zero, suc}
use lib.Dec.{ltb}
use lib.ListN.{take, drop}
use Rattle.mathematics.specs.Xor.{all_bytes}
use Rattle.mathematics.proofs.Flags.{and_l, and_r, and_i}

pub bytes_append : (a b : List ℕ) → all_bytes a ≡ true → all_bytes b ≡ true → all_bytes (a ++ b) ≡ true
bytes_append [] b h k = k
bytes_append (x ∷ a) b h k = and_i (ltb x 256) (all_bytes (a ++ b)) (and_l (ltb x 256) (all_bytes a) h) (bytes_append a b (and_r (ltb x 256) (all_bytes a) h) k)

pub bytes_take : (n : ℕ) (a : List ℕ) → all_bytes a ≡ true → all_bytes (take n a) ≡ true
bytes_take zero a h = refl
bytes_take (suc n) [] h = refl
bytes_take (suc n) (x ∷ a) h = and_i (ltb x 256) (all_bytes (take n a)) (and_l (ltb x 256) (all_bytes a) h) (bytes_take n a (and_r (ltb x 256) (all_bytes a) h))

pub bytes_drop : (n : ℕ) (a : List ℕ) → all_bytes a ≡ true → all_bytes (drop n a) ≡ true
bytes_drop zero a h = h
bytes_drop (suc n) [] h = refl
bytes_drop (suc n) (x ∷ a) h = bytes_drop n a (and_r (ltb x 256) (all_bytes a) h)
