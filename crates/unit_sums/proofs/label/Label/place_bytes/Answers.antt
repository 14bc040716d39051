-- `place_bytes`: the name, then disk, row and unit as bytes, each in the part after the last.
use mathlib.Core.Path.{◌≡◌, refl, ap, ◌∙◌}
use mathlib.Core.List.{List, ◌++◌}
use Prim.Native.Nat.{ℕ}
use native.Mathlib.Omega.{arith}
use lib.ListN.{length, drop, replicate, length-append}
use borrow.Rule.Slice.PartMut.{put_mid, same_len_mid}
use Rattle.unit_sums.proofs.NumberLaws.{four_bytes, eight_bytes}
use Rattle.unit_sums.proofs.PlaceLaws.{place_made}
use Rattle.unit_sums.proofs.label.Label.place_bytes.Goals as goal

abbrev zeros : List ℕ
zeros = drop 16 (replicate 32 0)

-- the bytes keep their length as parts are written
named_long : (name : List ℕ) → length name ≡ 16 → length (name ++ zeros) ≡ 32
named_long name h = length-append name zeros ∙ omega (arith, h)

pub slice_bounds-bytes-end-3 : goal.slice_bounds-bytes-end-3
slice_bounds-bytes-end-3 c =
    let named = c.copy_from_slice.new.self in
    let disk = c.copy_from_slice-2.new.self in
    omega (arith, same_len_mid 16 4 (named ++ zeros) disk c.copy_from_slice-2.auto.self, named_long named c.copy_from_slice.ensures.len)

pub slice_bounds-bytes-end-4 : goal.slice_bounds-bytes-end-4
slice_bounds-bytes-end-4 c =
    let named = c.copy_from_slice.new.self in
    let disk = c.copy_from_slice-2.new.self in
    let row = c.copy_from_slice-3.new.self in
    omega (arith, same_len_mid 20 4 (put_mid 16 4 (named ++ zeros) disk) row c.copy_from_slice-3.auto.self, same_len_mid 16 4 (named ++ zeros) disk c.copy_from_slice-2.auto.self, named_long named c.copy_from_slice.ensures.len)

pub returns : goal.returns
returns c =
    let a = c.args in
    place_made a.self.name.now c.copy_from_slice.new.self c.copy_from_slice-2.new.self c.copy_from_slice-3.new.self c.copy_from_slice-4.new.self zeros a.disk a.row a.self.unit
    (omega (arith, ap length c.copy_from_slice.ensures.after, c.copy_from_slice.ensures.len)) refl c.copy_from_slice.ensures.after
    (c.copy_from_slice-2.ensures.after ∙ c.to_le_bytes.ensures ∙ four_bytes a.disk)
    (c.copy_from_slice-3.ensures.after ∙ c.to_le_bytes-2.ensures ∙ four_bytes a.row)
    (c.copy_from_slice-4.ensures.after ∙ c.to_le_bytes-3.ensures ∙ eight_bytes a.self.unit)
