-- `add_all`: four sources a turn, then one a turn.
use mathlib.Core.Path.{◌≡◌, refl, sym, subst, ap, ◌∙◌}
use mathlib.Core.List.{List}
use Prim.Native.Nat.{ℕ, ◌+◌, ◌-◌}
use native.Mathlib.Omega.{arith}
use lib.ListN.{length, take, drop, length-take, length-drop}
use lib.Seq.{take_all}
use Rattle.mathematics.specs.Xor.{xor_l}
use Rattle.xor.specs.Parts.{xor_offsets}
use Rattle.xor.specs.Reach.{Reached}
use Rattle.xor.proofs.BlockLaws.{reach_some}
use Rattle.xor.proofs.SourceLaws.{bytes_all, none_added, added_more, one_more}
use Rattle.xor.proofs.add_all.Goals as goal

pub loop-k-init : goal.loop-k-init
loop-k-init c = (omega arith, none_added (length c.args.dst.now) c.args.t.now c.args.at.now c.args.dst.now refl (bytes_all c.args.dst.now c.type_inv.dst))

pub add_four-requires : goal.add_four-requires
add_four-requires c =
    let k = c.loop-k.k in
    let o = c.args in
    (simp (length-take, length-drop) (omega arith), subst (λ (n : ℕ). Reached n (length o.t.now) (take (k + 4 - k) (drop k o.at.now))) (sym c.loop-k.auto.dst) (reach_some k (k + 4 - k) o.at.now c.requires))

pub loop-k-preserved : goal.loop-k-preserved
loop-k-preserved c =
    let k = c.loop-k.k in
    let o = c.args in
    let e : k + 4 - k ≡ 4 = omega arith in
    (omega arith, added_more (length o.dst.now) k 4 (k + 4) (length c.loop-k.dst) o.t.now o.at.now o.dst.now c.loop-k.dst c.add_four.new.dst _ c.requires.inside refl c.loop-k.auto.dst (ap (λ (m : ℕ). take m (drop k o.at.now)) e) c.loop-k.invariant.1 c.add_four.ensures)

pub loop-i-init : goal.loop-i-init
loop-i-init c = c.loop-k.invariant.1

pub loop-i-preserved : goal.loop-i-preserved
loop-i-preserved c =
    let o = c.args in
    let i = c.loop-i.i in
    one_more (length o.dst.now) i (length c.loop-i.dst) o.t.now o.at.now o.dst.now c.loop-i.dst c.add_one.new.dst c.requires.inside c.loop-i-test.true (omega arith) (omega arith) c.loop-i.invariant c.add_one.ensures

pub returns : goal.returns
returns c =
    let o = c.args in
    c.loop-i.invariant ∙ ap (λ (l : List ℕ). xor_l o.dst.now (xor_offsets (length o.dst.now) o.t.now l)) (take_all _ o.at.now (omega arith))
