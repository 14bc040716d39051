-- `rest_of`: as `block_of`, in the first m bytes.
use mathlib.Core.Path.{◌≡◌, refl}
use Prim.Native.Nat.{ℕ, ◌≤◌}
use lib.ListN.{length, take, replicate}
use lib.Seq.{length-take-le}
use Rattle.xor.proofs.BlockLaws.{rest_is}
use Rattle.xor.proofs.rest_of.Goals as goal

long : (m : ℕ) → m ≤ 64 → length (take m (replicate {A = ℕ} 64 0)) ≡ m
long m h = length-take-le m (replicate 64 0) h

pub returns : goal.returns
returns c = rest_is c.args.m 64 (length (take c.args.m (replicate {A = ℕ} 64 0))) c.args.t.now c.args.at.now (replicate 64 0) c.add_all.new.dst c.requires.0 refl (long c.args.m c.requires.0) c.requires.1.inside c.add_all.ensures
