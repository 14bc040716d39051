-- `stretch_is_zero`: the first parts gathered, and the others tested with their XOR.
use mathlib.Core.Path.{ap, ap₂, ◌∙◌}
use mathlib.Core.List.{List}
use Prim.Native.Nat.{ℕ}
use lib.ListN.{replicate}
use Rattle.mathematics.specs.Lists.{same}
use Rattle.mathematics.specs.Xor.{xor_l}
use Rattle.xor.specs.Parts.{xor_offsets}
use Rattle.xor_is_zero.proofs.LastLaws.{two_lists}
use Rattle.xor_is_zero.proofs.one_stretch.stretch_is_zero.Goals as goal

pub returns : goal.returns
returns c =
    let a = c.args in
    let t = a.t.now in
    let x = c.gather.new.dst in
    c.sum_is_zero.ensures
    ∙ ap (λ (l : List ℕ). same (xor_l (xor_offsets 2048 t l) x) (replicate 2048 0)) c.split_at.ensures.back
    ∙ ap (λ (l : List ℕ). same l (replicate 2048 0)) (two_lists 2048 _ t a.at.now x c.requires.2.inside (c.gather.ensures ∙ ap₂ (λ (n : ℕ) (l : List ℕ). xor_offsets n t l) c.requires.0 c.split_at.ensures.front))
