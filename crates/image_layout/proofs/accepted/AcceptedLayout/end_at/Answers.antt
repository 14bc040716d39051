-- `end_at`: the start of the last, short group, and its bytes.
use Rattle.std.proofs.Common.{ℕ, ◌+◌, ◌/◌, ◌%◌, ap, ap₂, ◌∙◌, arith}
use Rattle.image_layout.specs.Layouts.{group_bytes, group_start, end_at}
use Rattle.image_layout.proofs.SmallLaws.{end_small}
use Rattle.image_layout.proofs.accepted.AcceptedLayout.end_at.Goals as goal

pub overflow_add-result : goal.overflow_add-result
unfolding end_at
overflow_add-result c =
    let l = c.args.self.layout in
    omega (arith, c.group_start-start.ensures ∙ ap (λ (n : ℕ). group_start l (n / l.group)) c.stripes-stripes.ensures, c.group_bytes.ensures ∙ ap (λ (n : ℕ). group_bytes l (n % l.group)) c.stripes-stripes.ensures, end_small l c.args.self.within)

pub returns : goal.returns
unfolding end_at
returns c =
    let l = c.args.self.layout in
    ap₂ ◌+◌ (c.group_start-start.ensures ∙ ap (λ (n : ℕ). group_start l (n / l.group)) c.stripes-stripes.ensures) (c.group_bytes.ensures ∙ ap (λ (n : ℕ). group_bytes l (n % l.group)) c.stripes-stripes.ensures)
