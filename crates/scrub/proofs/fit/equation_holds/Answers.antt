-- `equation_holds`: the survivors of the equation are listed, and their XOR is tested.
use Rattle.scrub.proofs.EquationTests.{size_fits, equation_reached, equation_tested}
use Rattle.scrub.proofs.fit.equation_holds.Goals as goal

pub is_zero-requires : goal.is_zero-requires
is_zero-requires c =
    let a = c.args in
    let w = a.geometry in
    (size_fits w.array.width w.array.disks w.cell_size a.disk a.number c.list_equation.new.list a.stripe.now c.requires.numbered.1 c.requires.numbered.0 c.as_slice.ensures.1 c.requires.stripe_len c.list_equation.ensures, rw c.as_slice.ensures.0 (equation_reached w.array.width w.array.disks w.cell_size a.disk a.number c.list_equation.new.list a.stripe.now c.requires.numbered.1 c.requires.numbered.0 c.as_slice.ensures.1 c.requires.stripe_len c.list_equation.ensures))

pub returns : goal.returns
returns c =
    let a = c.args in
    let w = a.geometry in
    equation_tested w.array.width w.array.disks w.cell_size a.disk a.number c.list_equation.new.list a.stripe.now c.requires.numbered.1 c.requires.numbered.0 c.as_slice.ensures.1 c.requires.stripe_len c.list_equation.ensures c.is_zero.result (rw c.as_slice.ensures.0 at c.is_zero.ensures)
