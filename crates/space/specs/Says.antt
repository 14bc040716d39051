-- The space that a package of files takes (document 01, "Run and space"; document 02, asks 1 and
-- 3), and the promise of the space call, for accepted and refused calls alike.
-- p is the width, k the number of data disks, s the bytes of a cell, ls the lengths of the files.
use Rattle.std.specs.Prelude.{◌≡◌, Bool, true, false, ◌&&◌, List, [], ◌∷◌, ◌↔◌, ℕ, zero, suc, ◌+◌, ◌-◌, ◌*◌, ◌/◌, ◌^◌, ◌≤◌, ◌<◌, eqb, leb, length, get_or}
use Rattle.mathematics.specs.Choice.{pick}
use Rattle.mathematics.specs.Sums.{total}
use Rattle.refusals.specs.Answers.{Answers}
use Rattle.space.specs.Refusals.{space_refusal}
use Rattle.space.specs.declared.Space.{Space}

-- the quotient of a by d, "rounded up"
abbrev pub up_by : ℕ → ℕ → ℕ
up_by a d = (a + (d - 1)) / d

-- "each disk gives p × s bytes per stripe"
abbrev pub disk_gives : ℕ → ℕ → ℕ
disk_gives p s = p * s

-- stripes "hold k × p × s bytes of film"
abbrev pub stripe_holds : ℕ → ℕ → ℕ → ℕ
stripe_holds p k s = k * disk_gives p s

-- "the stripes of each file rounded up", where a stripe holds d bytes
unfoldable pub up_each : ℕ → List ℕ → List ℕ
up_each d [] = []
up_each d (l ∷ ls) = up_by l d ∷ up_each d ls

-- "then added"
abbrev pub stripes_of : ℕ → ℕ → ℕ → List ℕ → ℕ
stripes_of p k s ls = total (up_each (stripe_holds p k s) ls)

-- the need: bytes of each disk
abbrev pub need_of : ℕ → ℕ → ℕ → List ℕ → ℕ
need_of p k s ls = stripes_of p k s ls * disk_gives p s

-- "It fits exactly when that need is at most the free bytes of one disk"
abbrev pub fits_in : ℕ → ℕ → ℕ → List ℕ → ℕ → Bool
fits_in p k s ls free = leb (need_of p k s ls) free

-- the promise of `package_space`: free are "the free bytes of one disk"
pub record SpaceSays (p k s : ℕ) (ls : List ℕ) (free : ℕ) (r : Space) : Type 0 where
  pub answer : Answers (space_refusal p k s ls) r.answer
  pub stripes : r.stripes ≡ pick (eqb (space_refusal p k s ls) 0) (stripes_of p k s ls) 0
  pub bytes : r.bytes ≡ pick (eqb (space_refusal p k s ls) 0) (need_of p k s ls) 0
  pub fits : r.fits ≡ (eqb (space_refusal p k s ls) 0 && fits_in p k s ls free)

-- a refusal by number n
pub record SpaceRefused (n : ℕ) (r : Space) : Type 0 where
  pub answer : Answers n r.answer
  pub stripes : r.stripes ≡ 0
  pub bytes : r.bytes ≡ 0
  pub fits : r.fits ≡ false

-- files few and short enough for the sum of their stripes, which hold d bytes each
pub record FewFiles (d : ℕ) (ls : List ℕ) : Type 0 where
  pub pos : 0 < d
  pub holds : d ≤ 31490048
  pub files : length ls ≤ 4096
  pub bytes : total ls ≤ 2 ^ 48

-- a file of l bytes on n stripes, which hold d bytes each: they hold it, one fewer does not, and an
-- empty file has none
pub record Placed (d l n : ℕ) : Type 0 where
  pub enough : l ≤ n * d
  pub fewest : 0 < l → (n - 1) * d < l
  pub none : l ≡ 0 → n ≡ 0

-- ns: the stripes of each file of ls
pub record Each (d : ℕ) (ls ns : List ℕ) : Type 0 where
  pub files : length ns ≡ length ls
  pub placed : (i : ℕ) → i < length ls → Placed d (get_or ls i 0) (get_or ns i 0)

-- how many files are not empty
unfoldable pub nonempty : List ℕ → ℕ
nonempty [] = 0
nonempty (zero ∷ ls) = nonempty ls
nonempty (suc l ∷ ls) = suc (nonempty ls)

-- What every accepted answer means.
pub record SpaceMeans (p k s : ℕ) (ls : List ℕ) (free : ℕ) (r : Space) : Type 0 where
  -- some list has for each file as many stripes as hold it, and none too many
  pub own : List ℕ
  pub each : Each (k * (p * s)) ls own
  -- and the stripes are the sum of every such list
  pub sum : (ns : List ℕ) → Each (k * (p * s)) ls ns → r.stripes ≡ total ns
  -- never fewer than one file of the whole length would take
  pub least : up_by (total ls) (k * (p * s)) ≤ r.stripes
  -- and at most one stripe less a byte more than the whole length for each file that is not empty
  pub most : r.stripes * (k * (p * s)) ≤ total ls + nonempty ls * (k * (p * s) - 1)
  -- the need, compared with the free bytes
  pub bytes : r.bytes ≡ r.stripes * (p * s)
  pub fits : (r.fits ≡ true) ↔ (r.bytes ≤ free)
