-- `try_space`: the need does not wrap, as the stripes of few files are few.
use native.Mathlib.Nat.{mul-le-mul_right}
use Rattle.std.proofs.Common.{rules, ◌*◌, ◌≤◌, arith}
use Rattle.space.specs.Says.{FewFiles}
use Rattle.space.proofs.FilesLaws.{need_small}
use Rattle.space.proofs.try_space.Goals as goal

pub overflow_mul-bytes : goal.overflow_mul-bytes
overflow_mul-bytes c =
    let a = c.in_ok-geometry.geometry in
    let d = c.film_bytes.result in
    let g = c.column_bytes.result in
    let few : FewFiles d c.args.lengths.now = search rules in
    let m : 1 * (a.array.width * a.cell_size) ≤ a.array.disks * (a.array.width * a.cell_size) = mul-le-mul_right (a.array.width * a.cell_size) (omega arith) in
    let less : g ≤ d = omega arith in
    rw c.sum_stripes-stripes.ensures (omega (arith, need_small d g c.args.lengths.now less few))
