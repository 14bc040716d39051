-- `mend_disk`: a run that is a data disk or P is mended by the row sets, Q by the diagonals.
use mathlib.Core.Path.{◌≡◌, sym, subst, ◌∙◌}
use Prim.Native.Nat.{ℕ, ◌+◌, ◌*◌}
use native.Mathlib.Omega.{arith}
use Rattle.liberation.proofs.Stripes.SizedLaws.{sized_long}
use Rattle.refusals.proofs.WithinLimits.{sized}
use Rattle.rebuild_cells.specs.Listed.{RunFrom}
use Rattle.rebuild_cells.proofs.Theory.OneDisk.{disk_mendable, disk_mended, q_mendable, q_mended}
use Rattle.rebuild_cells.proofs.WholeLaws.{whole_done}
use Rattle.rebuild_cells.proofs.whole_disks.mend_disk.Goals as goal

pub returns-then-disk-geometry : goal.returns-then-disk-geometry
returns-then-disk-geometry c =
    let g = c.args.geometry in
    let a = g.array in
    let cs = c.args.cells.now in
    let t = c.args.stripe.now in
    let d = c.in-Some.disk in
    whole_done a.width a.disks g.cell_size cs t c.solve_rows.new.stripe
    (disk_mendable a.width a.disks d a.some c.if-disk-geometry.true cs c.requires.2 c.in-Some.ensures.1)
    (c.solve_rows.ensures ∙ sym (disk_mended a.width a.disks d a.some c.if-disk-geometry.true cs c.requires.2 c.in-Some.ensures.1 g.cell_size t (sized_long a.width a.disks g.cell_size t (sized g t c.requires.0))))

pub returns-else-disk-geometry : goal.returns-else-disk-geometry
returns-else-disk-geometry c =
    let g = c.args.geometry in
    let a = g.array in
    let cs = c.args.cells.now in
    let t = c.args.stripe.now in
    let q : c.in-Some.disk ≡ a.disks + 1 = omega (arith, c.in-Some.ensures.0) in
    let run = subst (λ (d : ℕ). RunFrom 0 a.width (d * a.width) cs) q c.in-Some.ensures.1 in
    whole_done a.width a.disks g.cell_size cs t c.solve_diagonals.new.stripe
    (q_mendable a.width a.disks a.some cs c.requires.2 run)
    (c.solve_diagonals.ensures ∙ sym (q_mended a.width a.disks a.some cs c.requires.2 run g.cell_size t (sized_long a.width a.disks g.cell_size t (sized g t c.requires.0))))
