-- `open`: the missing pieces are found and mended. Pieces that were present fit as before, so only
-- those that were missing are compared.
use mathlib.Core.Path.{refl, sym, ap, ◌∙◌}
use mathlib.Core.List.{List}
use Prim.Native.Nat.{ℕ}
use lib.ListN.{get_or, take}
use borrow.Author.Rules.{rules}
use Rattle.std.specs.Result.{is_ok}
use Rattle.std.proofs.lemmas.Result.{err_from_is_err_and}
use Rattle.xor.proofs.SourceLaws.{bytes_all}
use Rattle.rebuild_cells.specs.Theory.Mending.{missing_cells, mendable}
use Rattle.unit_sums.specs.Sums.{fits}
use Rattle.unit_opening.proofs.OpenLaws.{still_fits, mended_is, mends_of, opened, unopened}
use Rattle.unit_opening.proofs.opening.open.Goals as goal

pub returns-in_err-mend-clause-opened : goal.returns-in_err-mend-clause-opened
returns-in_err-mend-clause-opened c =
    let u = c.args.unit in
    let b = u.block in
    let missing = take c.cells.result c.find_missing-all_missing.result in
    let m = mends_of c.geometry.result b.array u.piece_bytes (missing_cells missing) c.args.cells.now c.mend.new.stripe c.mend.result c.geometry.ensures.0 c.geometry.ensures.1 c.mend.ensures in
    let p = err_from_is_err_and c.from_residual.result c.from_residual.ensures.1 in
    rw p.1
    (unopened b.array.width b.array.disks u.piece_bytes b.label.name.now b.label.unit b.bytes.now c.args.marks.now c.args.cells.now (is_ok c.mend.result) missing c.mend.new.stripe
    (ap (λ (n : ℕ). take n c.find_missing-all_missing.result) c.cells.ensures.0 ∙ c.find_missing-all_missing.ensures)
    (bytes_all c.args.cells.now (search rules)) m.0 m.1 (rw c.in_err-mend.was refl))

pub compare_mended-requires-clause-known : goal.compare_mended-requires-clause-known
compare_mended-requires-clause-known c =
    let u = c.args.unit in
    let b = u.block in
    let missing = take c.cells.result c.find_missing-all_missing.result in
    let m = mends_of c.geometry.result b.array u.piece_bytes (missing_cells missing) c.args.cells.now c.mend.new.stripe c.mend.result c.geometry.ensures.0 c.geometry.ensures.1 c.mend.ensures in
    let made = ap (λ (n : ℕ). take n c.find_missing-all_missing.result) c.cells.ensures.0 ∙ c.find_missing-all_missing.ensures in
    let bytes = bytes_all c.args.cells.now (search rules) in
    let mends = sym (m.0 ∙ ap (λ (m : List ℕ). mendable b.array.width b.array.disks (missing_cells m)) made) ∙ (rw c.in_ok-mend.was refl) in
    λ x l e.
    ap (λ (v : List ℕ). fits b.array.width u.piece_bytes b.label.name.now b.label.unit b.bytes.now v x)
    (mended_is b.array.width b.array.disks u.piece_bytes b.label.name.now b.label.unit b.bytes.now c.args.marks.now c.args.cells.now (is_ok c.mend.result) missing c.mend.new.stripe made bytes m.0 m.1 (rw c.in_ok-mend.was refl))
    ∙ still_fits b.array.width b.array.disks u.piece_bytes b.label.name.now b.label.unit b.bytes.now c.args.marks.now c.args.cells.now b.array.some c.requires.long bytes mends
    x l (sym (ap (λ (m : List ℕ). get_or m x 0) made) ∙ e)

pub returns-clause-opened : goal.returns-clause-opened
returns-clause-opened c =
    let u = c.args.unit in
    let b = u.block in
    let missing = take c.cells.result c.find_missing-all_missing.result in
    let m = mends_of c.geometry.result b.array u.piece_bytes (missing_cells missing) c.args.cells.now c.mend.new.stripe c.mend.result c.geometry.ensures.0 c.geometry.ensures.1 c.mend.ensures in
    opened b.array.width b.array.disks u.piece_bytes b.label.name.now b.label.unit b.bytes.now c.args.marks.now c.args.cells.now (is_ok c.mend.result) missing c.mend.new.stripe
    (ap (λ (n : ℕ). take n c.find_missing-all_missing.result) c.cells.ensures.0 ∙ c.find_missing-all_missing.ensures)
    (bytes_all c.args.cells.now (search rules)) m.0 m.1 c.compare_mended.new.marks (rw c.in_ok-mend.was refl) c.compare_mended.ensures
