-- Refusal 18 by its tests, and the bytes of a call that is not refused.
use mathlib.Core.Path.{◌≡◌}
use Prim.Native.Nat.{ℕ, ◌+◌, ◌*◌, ◌≤◌}
use native.Mathlib.Nat.{mul-le-mul}
use native.Mathlib.Omega.{arith}
use Rattle.liberation.specs.Sets.{shape_refusal}
use Rattle.liberation.proofs.RefusalLaws.{shape_most}
use Rattle.liberation.specs.ParityServer.Servers.{server_refusal}
use Rattle.liberation.proofs.ParityServer.ServerRefusalLaws.{count_of, server_of}

-- the bytes of one stripe and of all can be counted
pub servers_small : (p k s m j : ℕ) → shape_refusal p k s ≡ 0 → server_refusal m j ≡ 0 → (m ≤ 16) × (k + 2 ≤ 33) × (p * s ≤ 126976) × ((k + 2) * (p * s) ≤ 4190208) × ((m + 1) * ((k + 2) * (p * s)) ≤ 17 * 4190208)
servers_small p k s m j e z =
    let q = shape_most p k s e in
    let most : m ≤ 16 = (count_of m (server_of m j z).0).1 in
    let l : m + 1 ≤ 17 = omega arith in
    (most, omega (arith, q.0, q.1), q.2, q.3, mul-le-mul l q.3)
