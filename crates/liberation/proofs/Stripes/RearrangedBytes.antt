-- The steps of a plan in another order, where both orders are accepted, leave the same bytes, on
-- dirty stripes too: what the other order leaves has XOR zero in every set named, so the first
-- order leaves it as it is; and what a plan leaves does not depend on what stood in the lost
-- column.
use mathlib.Core.Path.{◌≡◌, sym, ap, ◌∙◌}
use mathlib.Core.Bool.{true}
use mathlib.Core.List.{List, []}
use Prim.Native.Nat.{ℕ}
use Rattle.liberation.specs.Sets.{place}
use Rattle.liberation.specs.Plans.{Step}
use Rattle.liberation.specs.Judging.{accepted}
use Rattle.liberation.specs.Claims.{Rearranged}
use Rattle.liberation.proofs.AcceptedLaws.{Passes, accepted_passes}
use Rattle.liberation.proofs.Rearranging.{uses_same}
use Rattle.liberation.specs.Stripes.Stripes.{cell_at, is_stripe, followed}
use Rattle.liberation.proofs.Stripes.Solving.{stripes_alike}
use Rattle.liberation.proofs.Stripes.Following.{followed_stripe, followed_off, followed_zero, followed_same}
use Rattle.liberation.proofs.Stripes.Rebuilding.{steps_agree}

pub bytes_same : (p k s f : ℕ) (ss us : List Step) → accepted p k f ss ≡ true → accepted p k f us ≡ true → Rearranged ss us → (t : List ℕ) → is_stripe p k s t ≡ true → followed p k s f ss t ≡ followed p k s f us t
bytes_same p k s f ss us a b r t h =
    stripes_alike p k s f (followed p k s f ss t) v (followed_stripe p k s f pa t h) hv
    (λ y l n. followed_off p k s f pa t h y n ∙ sym (followed_off p k s f pb t h y n))
    (λ j l. steps_agree p k s f ss a t v h hv (λ x m n e. sym (followed_off p k s f pb t h x n)) j l ∙ ap (λ (u : List ℕ). cell_at s u (place p j f)) stays)
  where
    pa : Passes p k f [] ss
    pa = accepted_passes p k f ss a

    pb : Passes p k f [] us
    pb = accepted_passes p k f us b

    v : List ℕ
    v = followed p k s f us t

    hv : is_stripe p k s v ≡ true
    hv = followed_stripe p k s f pb t h

    stays : followed p k s f ss v ≡ v
    stays = followed_same p k s f pa v hv (λ kind i e. followed_zero p k s f pb t h kind i (sym (uses_same kind i r) ∙ e))
