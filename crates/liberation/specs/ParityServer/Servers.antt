-- A parity server (document 02, ask 7): m servers with the same p rows, k data disks and cells of s
-- bytes, and one more. Their m + 1 stripes lie one after another, the extra one last,
-- so a stripe is a cell of stripe_long p k s bytes of the whole, and writing or rebuilding a server
-- is the step of a set whose cells are all the stripes.
use Rattle.std.specs.Prelude.{Bool, ◌&&◌, ◌||◌, not, List, [], ◌∷◌, ◌++◌, ℕ, zero, suc, ◌+◌, ◌*◌, eqb, ltb, length, get_or}
use Rattle.mathematics.specs.Choice.{pick, when, first_of}
use Rattle.mathematics.specs.Xor.{all_bytes}
use Rattle.liberation.specs.Sets.{disk_refusal, shape_refusal, long_refusal}
use Rattle.liberation.specs.Plans.{plan_of}
use Rattle.liberation.specs.Stripes.Stripes.{cell_at, with_cell, stripe_long, solved, followed}
use Rattle.liberation.specs.TwoDisks.Pairs.{pair_solved}

-- the numbers below n, upward
unfoldable pub up_to : ℕ → List ℕ
up_to zero = []
up_to (suc n) = up_to n ++ (n ∷ [])

-- the stripe of server i
abbrev pub server_at : ℕ → ℕ → ℕ → List ℕ → ℕ → List ℕ
server_at p k s ts i = cell_at (stripe_long p k s) ts i

-- "All m + 1 stripes lie one after another in a lent slice"
abbrev pub servers_long : ℕ → ℕ → ℕ → ℕ → ℕ
servers_long p k s m = suc m * stripe_long p k s

abbrev pub is_servers : ℕ → ℕ → ℕ → ℕ → List ℕ → Bool
is_servers p k s m ts = eqb (length ts) (servers_long p k s m) && all_bytes ts

-- server j's stripe becomes the XOR of the others, "cell for cell"
abbrev pub server_solved : ℕ → ℕ → ℕ → ℕ → ℕ → List ℕ → List ℕ
server_solved p k s m j ts = solved (stripe_long p k s) j (up_to (suc m)) ts

-- "one more whose stripe is the XOR of theirs": the extra stripe written
abbrev pub server_written : ℕ → ℕ → ℕ → ℕ → List ℕ → List ℕ
server_written p k s m ts = server_solved p k s m m ts

-- "These losses come as two bytes a server, 255 for none": whether a byte names a disk, and the two
-- bytes of server i
abbrev pub lost : ℕ → Bool
lost d = not (eqb d 255)

abbrev pub first_loss : List ℕ → ℕ → ℕ
first_loss ls i = get_or ls (2 * i) 0

abbrev pub second_loss : List ℕ → ℕ → ℕ
second_loss ls i = get_or ls (2 * i + 1) 0

-- "one lost disk by our plan for it and two by the two-disk rule"
unfoldable pub mended : ℕ → ℕ → ℕ → ℕ → ℕ → List ℕ → List ℕ
mended p k s a b t =
    pick (lost a) (pick (lost b) (pair_solved p k s a b t) (followed p k s a (plan_of p k a) t)) (pick (lost b) (followed p k s b (plan_of p k b) t) t)

-- the stripe of server i once its losses are mended
abbrev pub mended_at : ℕ → ℕ → ℕ → List ℕ → List ℕ → ℕ → List ℕ
mended_at p k s ls ts i = mended p k s (first_loss ls i) (second_loss ls i) (server_at p k s ts i)

-- the slice with server i mended, but server j not: "the lost server's own pair is not read"
abbrev pub mended_turn : ℕ → ℕ → ℕ → ℕ → List ℕ → ℕ → List ℕ → List ℕ
mended_turn p k s j ls i ts = pick (eqb i j) ts (with_cell (stripe_long p k s) i (mended_at p k s ls ts i) ts)

-- the first n servers "mended first in the lent slice"
unfoldable pub mended_all : ℕ → ℕ → ℕ → ℕ → ℕ → List ℕ → List ℕ → List ℕ
mended_all zero p k s j ls ts = ts
mended_all (suc n) p k s j ls ts = mended_turn p k s j ls n (mended_all n p k s j ls ts)

-- "rebuilding any one of the m + 1 from the others"
unfoldable pub server_rebuilt : ℕ → ℕ → ℕ → ℕ → ℕ → List ℕ → List ℕ → List ℕ
server_rebuilt p k s m j ls ts = server_solved p k s m j (mended_all (suc m) p k s j ls ts)

-- "18: m outside 2 to 16, or a server number over m"
abbrev pub servers_refusal : ℕ → ℕ
servers_refusal m = when (ltb m 2 || ltb 16 m) 18

abbrev pub server_refusal : ℕ → ℕ → ℕ
server_refusal m j = first_of (servers_refusal m) (when (ltb m j) 18)

-- "then 3 and 4 server by server": the refusal of one byte, of one server's pair, and of the pairs
-- of the first n servers but j
abbrev pub byte_refusal : ℕ → ℕ → ℕ
byte_refusal k d = pick (lost d) (disk_refusal k d) 0

abbrev pub pair_refusal : ℕ → ℕ → ℕ → ℕ
pair_refusal k a b = first_of (byte_refusal k a) (first_of (byte_refusal k b) (when (lost a && eqb a b) 4))

unfoldable pub losses_refusal : ℕ → ℕ → ℕ → List ℕ → ℕ
losses_refusal zero k j ls = 0
losses_refusal (suc n) k j ls = first_of (losses_refusal n k j ls) (pick (eqb n j) 0 (pair_refusal k (first_loss ls n) (second_loss ls n)))

-- the refusals of the two calls, in order: 1, 13, 2, then 18, n being what its test gave, and 5 for
-- the stripes; a rebuild goes on with 5 for the losses, 3 and 4
abbrev pub call_refusal : ℕ → ℕ → ℕ → ℕ → ℕ → List ℕ → ℕ
call_refusal n p k s m ts = first_of (shape_refusal p k s) (first_of n (long_refusal (servers_long p k s m) ts))

unfoldable pub write_refusal : ℕ → ℕ → ℕ → ℕ → List ℕ → ℕ
write_refusal p k s m ts = call_refusal (servers_refusal m) p k s m ts

unfoldable pub rebuild_refusal : ℕ → ℕ → ℕ → ℕ → ℕ → List ℕ → List ℕ → ℕ
rebuild_refusal p k s m j ls ts = first_of (call_refusal (server_refusal m j) p k s m ts) (first_of (long_refusal (2 * suc m) ls) (losses_refusal (suc m) k j ls))
