-- A buffer has zeros after its text, and still has them after the text grows.
use mathlib.Core.Path.{◌≡◌, sym, ap, ◌∙◌}
use mathlib.Core.List.{List}
use Prim.Native.Nat.{ℕ, ◌+◌, ◌-◌, ◌≤◌}
use native.Mathlib.Omega.{arith}
use lib.ListN.{drop, replicate}
use lib.Seq.{drop-drop}
use Rattle.mathematics.proofs.LengthLaws.{drop_replicate}

-- fewer zeros are left after more bytes
pub zeros_left : (bytes : List ℕ) (size old new : ℕ) → old ≤ new → drop old bytes ≡ replicate (size - old) 0 → drop new bytes ≡ replicate (size - new) 0
zeros_left bytes size old new h e =
    let n : old + (new - old) ≡ new = omega arith in
    let m : size - old - (new - old) ≡ size - new = omega arith in
    ap (λ (k : ℕ). drop k bytes) (sym n)
    ∙ sym (drop-drop (new - old) old bytes)
    ∙ ap (drop (new - old)) e
    ∙ drop_replicate (new - old) (size - old) 0
    ∙ ap (λ (k : ℕ). replicate k 0) m
