-- `add_lists`: each turn adds the next sources by a list that has the destination in front.
use mathlib.Core.Path.{◌≡◌, refl, subst, ◌∙◌}
use Prim.Native.Nat.{ℕ, ◌+◌, ◌-◌, ◌<◌}
use native.Mathlib.Omega.{arith}
use lib.ListN.{take, drop, set, length-set}
use Rattle.mathematics.specs.Xor.{xor_l}
use Rattle.xor.specs.Parts.{part, with_part, xor_offsets}
use Rattle.xor.proofs.SourceLaws.{bytes_all}
use Rattle.xor_in_place.proofs.ListLaws.{none_added, next_beside, next_rest, next_added, all_added}
use Rattle.xor_in_place.proofs.lists.add_lists.Goals as goal

pub loop-i-init : goal.loop-i-init
loop-i-init c =
    let a = c.args in
    (c.requires.1, c.requires.2, omega arith, refl, refl, none_added a.d a.n a.t.now a.at.now c.requires.0 a.from (bytes_all a.t.now c.type_inv.t))

pub gather_within-requires : goal.gather_within-requires
gather_within-requires c =
    let l = c.loop-i in
    let a = c.args in
    let i = l.invariant in
    let h : 0 < l.i = i.1 c.loop-i-test.true in
    next_beside a.d a.n a.t.now a.at.now c.requires.0 a.from l.i (l.i - 1) c.min-end.result l.at l.t (omega arith) i.2 (omega arith) (omega arith) i.3 i.4 i.5 l.auto.t

pub loop-i-preserved : goal.loop-i-preserved
loop-i-preserved c =
    let l = c.loop-i in
    let a = c.args in
    let i = l.invariant in
    let h : 0 < l.i = i.1 c.loop-i-test.true in
    let e : c.min-end.result ≡ l.i + 7 = omega arith in (
      omega arith,
      λ q. omega arith,
      omega arith,
      length-set l.at (l.i - 1) a.d ∙ i.3,
      subst (λ (k : ℕ). drop k (set l.at (l.i - 1) a.d) ≡ drop k a.at.now) e (next_rest a.d a.n a.t.now a.at.now c.requires.0 a.from l.i (l.i - 1) c.min-end.result l.at l.t (omega arith) i.2 (omega arith) (omega arith) i.3 i.4 i.5 l.auto.t),
      subst (λ (k : ℕ). c.gather_within.new.t ≡ with_part a.n a.d (xor_l (part a.n a.d a.t.now) (xor_offsets a.n a.t.now (take (k - a.from) (drop a.from a.at.now)))) a.t.now) e
          (next_added a.d a.n a.t.now a.at.now c.requires.0 a.from l.i (l.i - 1) c.min-end.result l.at l.t (omega arith) i.2 (omega arith) (omega arith) i.3 i.4 i.5 l.auto.t c.gather_within.new.t c.gather_within.ensures),
    )

pub shape_of-at : goal.shape_of-at
shape_of-at c = c.loop-i.invariant.3

pub returns : goal.returns
returns c =
    let l = c.loop-i in
    let a = c.args in
    all_added a.d a.n a.t.now a.at.now c.requires.0 a.from l.i l.t (omega arith) l.invariant.5

-- the last turn
pub returns-2 : goal.returns-2
returns-2 c =
    let l = c.loop-i in
    let a = c.args in
    let i = l.invariant in
    let h : 0 < l.i = i.1 c.loop-i-test.true in
    all_added a.d a.n a.t.now a.at.now c.requires.0 a.from c.min-end.result c.gather_within.new.t (omega arith)
    (next_added a.d a.n a.t.now a.at.now c.requires.0 a.from l.i (l.i - 1) c.min-end.result l.at l.t (omega arith) i.2 (omega arith) (omega arith) i.3 i.4 i.5 l.auto.t c.gather_within.new.t c.gather_within.ensures)
