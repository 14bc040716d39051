-- `all_zero`: the OR of all bytes is 0 exactly if each of them is.
use mathlib.Core.Path.{◌≡◌, ap, ◌∙◌}
use Prim.Native.Nat.{ℕ}
use lib.Bits.{bit_or}
use lib.Dec.{eqb}
use borrow.Author.Rules.{rules}
use Rattle.std.specs.List.{fold}
use Rattle.std.proofs.lemmas.Iterator.{YieldsList-from_slice}
use Rattle.std.proofs.lemmas.Iterator.Consumers.{fold_from_yields_List}
use Rattle.xor.proofs.ZeroLaws.{or_all}
use Rattle.xor.proofs.slices.all_zero.Goals as goal

pub returns : goal.returns
returns c =
    let e : c.fold.result ≡ fold bit_or 0 c.args.cell.now = fold_from_yields_List _ bit_or 0 c.fold.result c.fold.ensures.ran (YieldsList-from_slice c.args.cell.now (cc)) (λ b x r q k. search rules) in
    ap (λ (n : ℕ). eqb n 0) e ∙ or_all 0 c.args.cell.now
