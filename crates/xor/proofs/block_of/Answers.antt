-- `block_of`: zeros, and all parts added.
use mathlib.Core.Path.{refl}
use Prim.Native.Nat.{ℕ}
use lib.ListN.{length, replicate, length-replicate}
use Rattle.xor.proofs.BlockLaws.{block_is}
use Rattle.xor.proofs.block_of.Goals as goal

pub returns : goal.returns
returns g c = block_is g.row.N (length (replicate {A = ℕ} g.row.N 0)) c.args.t.now c.args.at.now (replicate g.row.N 0) c.add_all.new.dst refl (length-replicate {A = ℕ} g.row.N 0) c.requires.inside c.add_all.ensures
