-- `are_fit_around`: the pieces before piece i after the first fit.
use mathlib.Core.Path.{◌≡◌}
use mathlib.Core.Bool.{true}
use Prim.Native.Nat.{◌+◌, ◌*◌, ◌%◌}
use Rattle.mathematics.specs.Sums.{all_to}
use Rattle.unit_sums.specs.Sums.{fits}
use Rattle.unit_film.proofs.pieces.are_fit_around.Given as goal

abbrev pub invariant-loop-i : goal.invariant-loop-i
invariant-loop-i l =
    let b = l.unit.block in
    all_to l.i (λ i. fits b.array.width l.unit.piece_bytes b.label.name.now b.label.unit b.bytes.now l.cells ((l.first + i) % (b.array.disks * b.array.width))) ≡ true
