-- The promises of `write_server` and `rebuild_server` (document 02, ask 7), for accepted and
-- refused calls alike: p rows, k data disks, cells of s bytes, m servers and the extra one.
use Rattle.std.specs.Prelude.{◌≡◌, true, not, List, ℕ, suc, ◌*◌, eqb}
use Rattle.mathematics.specs.Choice.{pick, when, first_of}
use Rattle.mathematics.specs.Xor.{all_bytes}
use Rattle.liberation.specs.Sets.{shape_refusal, long_refusal}
use Rattle.liberation.specs.ParityServer.Servers.{servers_long, server_written, server_rebuilt, server_refusal, losses_refusal, write_refusal, rebuild_refusal}
use Rattle.refusals.specs.declared.answer.Answer.{Answer}
use Rattle.refusals.specs.Answers.{Answers}

-- the refusals of a rebuild of server j, of stripes of n bytes in all
abbrev pub rebuild_tests : ℕ → ℕ → ℕ → ℕ → ℕ → ℕ → List ℕ → ℕ
rebuild_tests p k s m j n ls =
    first_of (first_of (shape_refusal p k s) (first_of (server_refusal m j) (when (not (eqb n (servers_long p k s m))) 5))) (first_of (long_refusal (2 * suc m) ls) (losses_refusal (suc m) k j ls))

-- the stripes ts become ts': the extra one written, or all as they were on a refusal
pub record WriteServerSays (p k s m : ℕ) (ts ts' : List ℕ) (r : Answer) : Type 0 where
  pub answer : Answers (write_refusal p k s m ts) r
  pub stripes : ts' ≡ pick (eqb (write_refusal p k s m ts) 0) (server_written p k s m ts) ts
  -- what was lent are bytes
  pub bytes : all_bytes ts ≡ true

-- the stripes ts become ts': all mended and server j rebuilt, or as they were on a refusal; ls are
-- the losses
pub record RebuildServerSays (p k s m j : ℕ) (ts ls ts' : List ℕ) (r : Answer) : Type 0 where
  pub answer : Answers (rebuild_refusal p k s m j ls ts) r
  pub stripes : ts' ≡ pick (eqb (rebuild_refusal p k s m j ls ts) 0) (server_rebuilt p k s m j ls ts) ts
  -- what was lent are bytes
  pub bytes : all_bytes ts ≡ true
  pub loss_bytes : all_bytes ls ≡ true
