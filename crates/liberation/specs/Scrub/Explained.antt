-- What the verdict on a stripe claims, in terms of clean stripes alone (document 02, asks 2 and
-- 11).
use Rattle.std.specs.Prelude.{◌≡◌, true, false, List, ℕ, ◌+◌, ◌*◌, ◌<◌}
use Rattle.liberation.specs.Sets.{disk_at}
use Rattle.liberation.specs.Stripes.Stripes.{cell_at, is_stripe, clean}
use Rattle.liberation.specs.Scrub.Survivors.{suspect, verdict}

-- disk d explains t by u: u is a clean stripe and agrees with t in every cell off disk d
pub record Explains (p k s d : ℕ) (t u : List ℕ) : Type 0 where
  pub stripe : is_stripe p k s u ≡ true
  pub cleans : clean p k s u ≡ true
  pub alike : (x : ℕ) → x < p * (k + 2) → (disk_at p x ≡ d → ⊥) → cell_at s t x ≡ cell_at s u x

-- t is dirty, and of all disks d alone explains it
pub record OneDisk (p k s d : ℕ) (t : List ℕ) : Type 0 where
  pub below : d < k + 2
  pub dirty : clean p k s t ≡ false
  pub explained : (u : List ℕ) × Explains p k s d t u
  pub alone : (c : ℕ) (u : List ℕ) → c < k + 2 → Explains p k s c t u → c ≡ d

-- t is dirty, and no one disk explains it
pub record NoDisk (p k s : ℕ) (t : List ℕ) : Type 0 where
  pub dirty : clean p k s t ≡ false
  pub none : (c : ℕ) (u : List ℕ) → c < k + 2 → Explains p k s c t u → ⊥

-- each verdict says one of the three, and is given wherever that holds
pub record VerdictMeans (p k s : ℕ) (t : List ℕ) : Type 0 where
  pub says_clean : verdict p k s t ≡ 0 → clean p k s t ≡ true
  pub says_one : verdict p k s t ≡ 1 → OneDisk p k s (suspect p k s t) t
  pub says_none : verdict p k s t ≡ 2 → NoDisk p k s t
  pub if_clean : clean p k s t ≡ true → verdict p k s t ≡ 0
  pub if_one : (d : ℕ) (u : List ℕ) → d < k + 2 → clean p k s t ≡ false → Explains p k s d t u → (verdict p k s t ≡ 1) × (suspect p k s t ≡ d)
  pub if_none : NoDisk p k s t → verdict p k s t ≡ 2
  pub few : verdict p k s t < 3
