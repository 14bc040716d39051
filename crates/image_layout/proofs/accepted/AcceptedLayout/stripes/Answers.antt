-- `stripes`: the length divided by the bytes of a stripe, of which there are some, rounded up.
use Rattle.std.proofs.Common.{ap, ◌∙◌}
use Rattle.std.specs.Int.{div_ceil}
use Rattle.space.proofs.FilesLaws.{ceil_is}
use Rattle.image_layout.specs.Layouts.{film_bytes, stripes_of}
use Rattle.image_layout.proofs.SmallLaws.{film_pos}
use Rattle.image_layout.proofs.accepted.AcceptedLayout.stripes.Goals as goal

pub returns : goal.returns
unfolding stripes_of
returns c =
    let l = c.args.self.layout in
    c.div_ceil.ensures ∙ ap (div_ceil l.length) c.film_bytes.ensures ∙ ceil_is l.length (film_bytes l) (film_pos l c.args.self.within)
