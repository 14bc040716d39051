-- The test that the steps stand, as the public statement has it: it is true of steps that do.
use mathlib.Core.Path.{◌≡◌, refl, ap}
use mathlib.Core.Bool.{true, ◌&&◌, not}
use mathlib.Core.List.{List, [], ◌∷◌}
use Prim.Native.Nat.{ℕ}
use lib.Dec.{ltb, leb}
use borrow.Author.Tests.{le-leb, lt-ltb}
use Rattle.mathematics.specs.Lists.{is_in}
use Rattle.mathematics.proofs.Flags.{and_i}
use Rattle.mathematics.proofs.MemberLaws.{in_head, in_tail}
use Rattle.liberation.specs.Sets.{set_of}
use Rattle.liberation.specs.Stripes.Steps.{CellStep}
use Rattle.liberation.proofs.Stripes.Standing.{Stands, Standing, none, next}
use Rattle.liberation.specs.TwoDisks.PairSteps.{is_lost, is_known, all_known, step_stands, steps_stand}

all_known_lem : (p a b : ℕ) (done xs : List ℕ) → ((y : ℕ) → is_in y xs ≡ true → is_known p a b done y ≡ true) → all_known p a b done xs ≡ true
unfolding all_known
all_known_lem p a b done [] h = refl
all_known_lem p a b done (x ∷ xs) h = and_i (is_known p a b done x) (all_known p a b done xs) (h x (in_head x xs)) (all_known_lem p a b done xs (λ y e. h y (in_tail y x xs e)))

stands_true : (p k a b : ℕ) (done : List ℕ) (c : CellStep) → Stands p k (is_lost p a b) done c → step_stands p k a b done c ≡ true
unfolding step_stands
stands_true p k a b done c g =
    let xs = set_of p k c.kind c.number in
    and_i (leb c.kind 1 && ltb c.number p) ((is_in c.cell xs && not (is_known p a b done c.cell)) && all_known p a b (c.cell ∷ done) xs)
    (and_i (leb c.kind 1) (ltb c.number p) (le-leb c.kind 1 g.kind_below) (lt-ltb c.number p g.number_below))
    (and_i (is_in c.cell xs && not (is_known p a b done c.cell)) (all_known p a b (c.cell ∷ done) xs)
    (and_i (is_in c.cell xs) (not (is_known p a b done c.cell)) g.held (ap not g.fresh))
    (all_known_lem p a b (c.cell ∷ done) xs g.others))

pub standing_true : (p k a b : ℕ) {done : List ℕ} {cs : List CellStep} → Standing p k (is_lost p a b) done cs → steps_stand p k a b done cs ≡ true
unfolding steps_stand
standing_true p k a b none = refl
standing_true p k a b (next {done} {c} {cs} g ok) = and_i (step_stands p k a b done c) (steps_stand p k a b (c.cell ∷ done) cs) (stands_true p k a b done c g) (standing_true p k a b ok)
