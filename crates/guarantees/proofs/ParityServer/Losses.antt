-- "one lost disk by our plan for it and two by the two-disk rule", said of the calls: server i is
-- mended as the call that rebuilds one disk, or two, would rebuild it alone.
use mathlib.Core.Path.{◌≡◌, refl, sym, ap, ◌∙◌}
use mathlib.Core.Bool.{true, not}
use mathlib.Core.List.{List}
use Prim.Native.Nat.{ℕ, suc, ◌+◌, ◌*◌, ◌≤◌, ◌<◌}
use native.Mathlib.Nat.{mul-le-mul_right}
use native.Mathlib.Omega.{arith}
use lib.Dec.{eqb}
use lib.ListN.{length}
use borrow.Author.Tests.{ne_eqb}
use Rattle.mathematics.specs.Choice.{pick}
use Rattle.liberation.specs.Plans.{plan_of}
use Rattle.liberation.specs.Stripes.Stripes.{column_of, stripe_long, followed, rebuilt}
use Rattle.liberation.proofs.Stripes.StripeCellLaws.{cell_long}
use Rattle.liberation.specs.TwoDisks.Pairs.{pair_solved}
use Rattle.liberation.specs.ParityServer.Servers.{server_at, lost, first_loss, second_loss, mended, rebuild_refusal}
use Rattle.liberation.specs.ParityServer.ServerClaims.{Given}
use Rattle.liberation.proofs.ParityServer.ServerRefusalLaws.{Losses, losses_of, rebuild_of, rebuild_losses}
use Rattle.refusals.specs.declared.answer.Answer.{Answer}
use Rattle.refusals.proofs.AnswerLaws.{answers_none}
use Rattle.rebuild_one.specs.RebuildOneSays.{one_refusal, OneSays}
use Rattle.rebuild_two.specs.Says.{two_refusal, TwoSays}
use Rattle.parity_server.proofs.Turning.{none_lost, second_lost, first_lost, both_lost}
use Rattle.parity_server.specs.Says.{RebuildServerSays}
use Rattle.guarantees.specs.Limits.Limits.{Within}
use Rattle.guarantees.specs.Limits.Calls.{shape}
use Rattle.guarantees.proofs.Limits.Demand1.{demand1}
use Rattle.guarantees.proofs.ParityServer.Servers.{rebuilds}

-- an accepted rebuild of server j, and another server i of it
module _ (p k s m j : ℕ) (ts ls ts' : List ℕ) (r : Answer) (q : RebuildServerSays p k s m j ts ls ts' r) (z : r.refusal ≡ 0) (i : ℕ) (l : i < suc m) (n : i ≡ j → ⊥) where
  others : server_at p k s ts' i ≡ mended p k s (first_loss ls i) (second_loss ls i) (server_at p k s ts i)
  others = (rebuilds p k s m j ts ls ts' r q z).others i l n

  -- no loss: it stands
  pub no_loss : first_loss ls i ≡ 255 → second_loss ls i ≡ 255 → server_at p k s ts' i ≡ server_at p k s ts i
  no_loss a b = others ∙ sym (none_lost p k s (first_loss ls i) (second_loss ls i) (server_at p k s ts i) a b)

  -- its stripe and its losses are within the limits of the calls on one stripe, which therefore
  -- accept
  g : Given p k s m ts
  g = rebuild_of p k s m ts j ls (answers_none (rebuild_refusal p k s m j ls ts) r q.answer z)

  h : Losses k (first_loss ls i) (second_loss ls i)
  h = losses_of k (first_loss ls i) (second_loss ls i) ((rebuild_losses p k s m ts j ls (answers_none (rebuild_refusal p k s m j ls ts) r q.answer z)).pairs i l n)

  shaped : Within (shape p k s)
  shaped = (g.array.width, ((g.array.two, g.array.disks), ((g.some, g.small), tt)))

  long : length (server_at p k s ts i) ≡ stripe_long p k s
  long = cell_long (stripe_long p k s) i ts (omega (arith, g.long, mul-le-mul_right (stripe_long p k s) l))

  named : (d : ℕ) → (d ≡ 255 → ⊥) → lost d ≡ true
  named d e = ap not (ne_eqb d 255 e)

  -- one loss, in either byte: its column is what the rebuild of one lost disk writes, into any
  -- column of the length required
  column_is : (d : ℕ) (o o' : List ℕ) (a : Answer) → OneSays p k s d (server_at p k s ts i) o o' a → length o ≡ p * s → d ≤ k + 1 → server_at p k s ts' i ≡ followed p k s d (plan_of p k d) (server_at p k s ts i) → column_of p s d (server_at p k s ts' i) ≡ o'
  unfolding rebuilt
  column_is d o o' a w e f b =
      let y = (demand1.rebuild_one_lem p k s d (server_at p k s ts i) o o' a w).accepts (shaped.0, (shaped.1.0, (shaped.1.1.0, (f, (long, (e, tt)))))) in
      ap (column_of p s d) b
      ∙ sym (w.column ∙ ap (λ (x : ℕ). pick (eqb x 0) (rebuilt p k s d (server_at p k s ts i)) o) (answers_none (one_refusal p k s d (server_at p k s ts i) o) a w.answer y))

  pub first_loss_lem : (o o' : List ℕ) (a : Answer) → OneSays p k s (first_loss ls i) (server_at p k s ts i) o o' a → length o ≡ p * s → (first_loss ls i ≡ 255 → ⊥) → second_loss ls i ≡ 255 → column_of p s (first_loss ls i) (server_at p k s ts' i) ≡ o'
  first_loss_lem o o' a w e na b = column_is (first_loss ls i) o o' a w e (h.first (named (first_loss ls i) na)) (others ∙ sym (first_lost p k s (first_loss ls i) (second_loss ls i) (server_at p k s ts i) _ na b refl))

  pub second_loss_lem : (o o' : List ℕ) (a : Answer) → OneSays p k s (second_loss ls i) (server_at p k s ts i) o o' a → length o ≡ p * s → first_loss ls i ≡ 255 → (second_loss ls i ≡ 255 → ⊥) → column_of p s (second_loss ls i) (server_at p k s ts' i) ≡ o'
  second_loss_lem o o' a w e b nb = column_is (second_loss ls i) o o' a w e (h.second (named (second_loss ls i) nb)) (others ∙ sym (second_lost p k s (first_loss ls i) (second_loss ls i) (server_at p k s ts i) _ b nb refl))

  -- two losses: it is what the rebuild of two lost disks leaves
  pub two_losses : (u : List ℕ) (a : Answer) → TwoSays p k s (first_loss ls i) (second_loss ls i) (server_at p k s ts i) u a → (first_loss ls i ≡ 255 → ⊥) → (second_loss ls i ≡ 255 → ⊥) → server_at p k s ts' i ≡ u
  two_losses u a w na nb =
      let t = server_at p k s ts i in
      let fa = named (first_loss ls i) na in
      let y = (demand1.rebuild_two_lem p k s (first_loss ls i) (second_loss ls i) t u a w).accepts (shaped.0, (shaped.1.0, (shaped.1.1.0, (h.first fa, (h.second (named (second_loss ls i) nb), (h.apart fa, (long, tt))))))) in
      let e : u ≡ pair_solved p k s (first_loss ls i) (second_loss ls i) t = w.stripe ∙ ap (λ (x : ℕ). pick (eqb x 0) (pair_solved p k s (first_loss ls i) (second_loss ls i) t) t) (answers_none (two_refusal p k s (first_loss ls i) (second_loss ls i) t) a w.answer y) in
      others ∙ sym (both_lost p k s (first_loss ls i) (second_loss ls i) t u na nb e)
