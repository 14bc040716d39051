-- `group_bytes`: cells and checksum blocks, rounded up; all of it is small.
use Rattle.std.proofs.Common.{◌≡◌, ℕ, ◌+◌, ◌*◌, ap, ap₂, ◌∙◌, arith}
use Rattle.std.specs.Int.{div_ceil}
use Rattle.space.specs.Says.{up_by}
use Rattle.space.proofs.FilesLaws.{ceil_is}
use Rattle.image_layout.specs.Layouts.{block_bytes, rounded, group_bytes}
use Rattle.image_layout.specs.declared.Layout.{Layout}
use Rattle.image_layout.specs.Limits.{Accepted}
use Rattle.image_layout.proofs.SmallLaws.{cell_bytes_small, blocks_small}
use Rattle.image_layout.proofs.accepted.AcceptedLayout.group_bytes.Goals as goal

-- the checksum blocks of m stripes
blocks : (l : Layout) (ok : Accepted l) (m b n : ℕ) → b ≡ block_bytes l → n ≡ div_ceil m l.unit → b * n ≡ block_bytes l * up_by m l.unit
blocks l ok m b n e f = ap₂ ◌*◌ e (f ∙ ceil_is m l.unit ok.unit)

pub overflow_mul-blocks : goal.overflow_mul-blocks
overflow_mul-blocks c =
    let l = c.args.self.layout in
    let ok = c.args.self.within in
    omega (arith, blocks_small l ok c.args.count c.requires, blocks l ok c.args.count _ _ c.block_bytes.ensures c.div_ceil.ensures)

pub overflow_add-cell_bytes : goal.overflow_add-cell_bytes
overflow_add-cell_bytes c =
    let l = c.args.self.layout in
    let ok = c.args.self.within in
    omega (arith, c.cell_bytes.ensures, cell_bytes_small l ok c.args.count c.requires, blocks_small l ok c.args.count c.requires, blocks l ok c.args.count _ _ c.block_bytes.ensures c.div_ceil.ensures)

pub overflow_mul-result : goal.overflow_mul-result
overflow_mul-result c =
    let l = c.args.self.layout in
    let ok = c.args.self.within in
    omega (arith, c.cell_bytes.ensures, cell_bytes_small l ok c.args.count c.requires, blocks_small l ok c.args.count c.requires, blocks l ok c.args.count _ _ c.block_bytes.ensures c.div_ceil.ensures)

pub returns : goal.returns
unfolding group_bytes rounded
returns c =
    let l = c.args.self.layout in
    let all = ap₂ ◌+◌ c.cell_bytes.ensures (blocks l c.args.self.within c.args.count _ _ c.block_bytes.ensures c.div_ceil.ensures) in
    ap (λ (x : ℕ). x * 4096) (c.div_ceil-2.ensures ∙ ceil_is _ 4096 (omega arith) ∙ ap (λ (x : ℕ). up_by x 4096) all)
