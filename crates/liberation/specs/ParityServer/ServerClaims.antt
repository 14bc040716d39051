-- What holds before the losses, what a loss leaves, and what both calls accept (document 02, ask
-- 7).
use Rattle.std.specs.Prelude.{◌≡◌, true, List, ℕ, suc, ◌+◌, ◌*◌, ◌≤◌, ◌<◌, length}
use Rattle.liberation.specs.Limits.{InArray}
use Rattle.liberation.specs.Sets.{disk_at}
use Rattle.liberation.specs.Stripes.Stripes.{cell_at, xor_over, stripe_long, clean}
use Rattle.liberation.specs.ParityServer.Servers.{up_to, server_at, servers_long, is_servers, first_loss, second_loss, pair_refusal}

-- "all m + 1 stripes were clean and the extra the XOR of the rest"
pub record CleanServers (p k s m : ℕ) (us : List ℕ) : Type 0 where
  pub servers : is_servers p k s m us ≡ true
  pub cleans : (i : ℕ) → i < suc m → clean p k s (server_at p k s us i) ≡ true
  pub extra : server_at p k s us m ≡ xor_over (stripe_long p k s) (server_at p k s us) (up_to m)

-- every server but j holds us off its losses; a loss of 255 is no disk's. Server j may hold
-- anything.
abbrev pub AlikeOff : ℕ → ℕ → ℕ → ℕ → ℕ → List ℕ → List ℕ → List ℕ → Type 0
AlikeOff p k s m j ls ts us =
    (i : ℕ) → i < suc m → (i ≡ j → ⊥)
    → (x : ℕ) → x < p * (k + 2) → (disk_at p x ≡ first_loss ls i → ⊥) → (disk_at p x ≡ second_loss ls i → ⊥)
    → cell_at s (server_at p k s ts i) x ≡ cell_at s (server_at p k s us i) x

-- what a call that is not refused was given: numbers within their limits, slices as long as
-- required; for a rebuild a server, and losses with no refusal of their own
pub record Given (p k s m : ℕ) (ts : List ℕ) : Type 0 where
  pub array : InArray p k
  pub some : 0 < s
  pub small : s ≤ 4096
  pub few : 2 ≤ m
  pub many : m ≤ 16
  pub long : length ts ≡ servers_long p k s m

pub record GivenLosses (k m j : ℕ) (ls : List ℕ) : Type 0 where
  pub server : j < suc m
  pub long : length ls ≡ 2 * suc m
  pub pairs : (i : ℕ) → i < suc m → (i ≡ j → ⊥) → pair_refusal k (first_loss ls i) (second_loss ls i) ≡ 0
