-- `mend_pair`: two runs that are disks are mended by the rebuild of the two.
use mathlib.Core.Path.{◌≡◌, sym, ap, ◌∙◌}
use mathlib.Core.List.{List}
use Prim.Native.Nat.{ℕ, ◌+◌}
use native.Mathlib.Omega.{arith}
use lib.ListN.{get_or}
use Rattle.xor.proofs.SourceLaws.{bytes_all}
use Rattle.mathematics.proofs.ListLaws.{below_at}
use Rattle.liberation.proofs.Stripes.SizedLaws.{sized_long}
use Rattle.liberation.proofs.Stripes.Solving.{stripe_of}
use Rattle.refusals.proofs.WithinLimits.{in_array, sized}
use Rattle.rebuild_cells.proofs.RunLaws.{run_front, run_back, front_at, back_at}
use Rattle.rebuild_cells.proofs.Theory.TwoRuns.{runs_apart, runs_mendable, runs_mended}
use Rattle.rebuild_cells.proofs.WholeLaws.{whole_done}
use Rattle.rebuild_cells.proofs.whole_disks.mend_pair.Goals as goal

pub whole_disk-requires : goal.whole_disk-requires
whole_disk-requires c =
    let a = c.args.geometry.array in
    let cs = c.args.cells.now in
    let e : get_or c.split_at.result.0.now 0 0 ≡ get_or cs 0 0 = ap (λ (l : List ℕ). get_or l 0 0) c.split_at.ensures.front ∙ front_at a.width 0 cs a.some in
    (c.split_at.ensures.front_len, omega (arith, e, below_at _ 0 cs c.requires.1.below (omega (arith, a.some, c.requires.2))))

pub whole_disk-requires-2 : goal.whole_disk-requires-2
whole_disk-requires-2 c =
    let a = c.args.geometry.array in
    let cs = c.args.cells.now in
    let e : get_or c.split_at.result.1.now 0 0 ≡ get_or cs (a.width + 0) 0 = ap (λ (l : List ℕ). get_or l 0 0) c.split_at.ensures.back ∙ back_at a.width 0 cs in
    (omega (arith, c.split_at.ensures.back_len, c.requires.2), omega (arith, e, below_at _ (a.width + 0) cs c.requires.1.below (omega (arith, a.some, c.requires.2))))

pub solve_pair-requires-clause-first_bound : goal.solve_pair-requires-clause-first_bound
solve_pair-requires-clause-first_bound c =
    let a = c.args.geometry.array in
    let f = c.in-Some.ensures in
    let s = c.in-Some-whole_disk.ensures in
    (omega (arith, f.0), omega (arith, s.0), runs_apart a.width a.disks c.in-Some.first c.in-Some-whole_disk.second (in_array a) f.0 s.0 c.args.cells.now c.requires.2 c.requires.1.below c.requires.1.once (run_front a.width _ _ _ c.split_at.ensures.front f.1) (run_back a.width _ _ _ c.split_at.ensures.back s.1))

pub returns : goal.returns
returns c =
    let g = c.args.geometry in
    let a = g.array in
    let cs = c.args.cells.now in
    let t = c.args.stripe.now in
    let x = c.in-Some.first in
    let y = c.in-Some-whole_disk.second in
    let f = c.in-Some.ensures in
    let s = c.in-Some-whole_disk.ensures in
    let rx = run_front a.width _ _ _ c.split_at.ensures.front f.1 in
    let ry = run_back a.width _ _ _ c.split_at.ensures.back s.1 in
    whole_done a.width a.disks g.cell_size cs t c.solve_pair.new.stripe
    (runs_mendable a.width a.disks x y (in_array a) f.0 s.0 cs c.requires.2 c.requires.1.below c.requires.1.once rx ry)
    (c.solve_pair.ensures
    ∙ sym (runs_mended a.width a.disks x y (in_array a) f.0 s.0 cs c.requires.2 c.requires.1.below c.requires.1.once rx ry g.cell_size t
    (stripe_of a.width a.disks g.cell_size t (sized_long a.width a.disks g.cell_size t (sized g t c.requires.0)) (bytes_all t c.slice_known-1.given))))
