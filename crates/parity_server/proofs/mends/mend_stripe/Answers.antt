-- `mend_stripe`: what is lost of the two is mended.
use Rattle.parity_server.proofs.Turning.{none_lost, second_lost, first_lost, both_lost}
use Rattle.parity_server.proofs.mends.mend_stripe.Goals as goal
use Rattle.parity_server.proofs.mends.mend_stripe.Goals.{in-Some-None, in-Some-None-2}

pub returns-in-None-None : goal.returns-in-None-None
returns-in-None-None c =
    let a = c.args in
    let g = a.geometry in
    none_lost g.array.width g.array.disks g.cell_size a.first a.second a.stripe.now (rw c.in-None-None.is-0 at c.loss_of.ensures) c.in-None-None.ensures

pub returns-in-Some-Some : goal.returns-in-Some-Some
returns-in-Some-Some c =
    let a = c.args in
    let g = a.geometry in
    let e = rw c.in-Some-Some.is-0 at c.loss_of.ensures in
    let f = rw c.in-Some-Some.is-1 at c.loss_of-2.ensures in
    both_lost g.array.width g.array.disks g.cell_size a.first a.second a.stripe.now c.solve_pair.new.stripe e.1 f.1 (rw (e.0, f.0) at c.solve_pair.ensures)

pub returns-in-Some-None : goal.returns-in-Some-None
returns-in-Some-None c =
    let a = c.args in
    let g = a.geometry in
    elim c.in-Some-None-1.branch [
      | in-Some-None w ↦
          let f = w.in-Some-None.ensures in
          second_lost g.array.width g.array.disks g.cell_size a.first a.second a.stripe.now c.rebuild_within.new.stripe (rw w.in-Some-None.is-0 at c.loss_of.ensures) f.1 (rw (w.disk-is, f.0) at c.rebuild_within.ensures)
      | in-Some-None-2 w ↦
          let f = w.in-Some-None.ensures in
          first_lost g.array.width g.array.disks g.cell_size a.first a.second a.stripe.now c.rebuild_within.new.stripe f.1 w.in-Some-None.ensures' (rw (w.disk-is, f.0) at c.rebuild_within.ensures)
    ]
