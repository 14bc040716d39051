-- The offsets of the other servers' stripes: they lie apart from the stripe left out, and their XOR
-- put there is the step of all servers.
use mathlib.Core.Path.{◌≡◌, refl, sym, ap, ◌∙◌}
use mathlib.Core.Bool.{Bool, true}
use mathlib.Core.List.{List, [], ◌∷◌, ◌++◌, append-nil}
use Prim.Native.Nat.{ℕ, ◌+◌, ◌*◌, ◌≤◌}
use native.Mathlib.Numerals.{add-one}
use native.Mathlib.Omega.{arith}
use lib.ListN.{length}
use borrow.Author.Tests.{eq-eqb, ne_eqb}
use Rattle.mathematics.specs.Choice.{pick}
use Rattle.mathematics.specs.Lists.{all_below}
use Rattle.mathematics.proofs.KeptLaws.{kept_below, kept_short}
use Rattle.liberation.specs.Stripes.Stripes.{without, solved}
use Rattle.liberation.proofs.Stripes.OverLaws.{without_keeps, without_none}
use Rattle.liberation.specs.ParityServer.Servers.{up_to}
use Rattle.liberation.proofs.ParityServer.UpTo.{up_below, up_long, without_turn}
use Rattle.xor.specs.Parts.{with_part, xor_offsets}
use Rattle.xor_in_place.specs.Beside.{Apart}
use Rattle.stripe_cells.specs.Offsets.{scaled}
use Rattle.stripe_cells.proofs.OffsetLaws.{length_scaled, scaled_append}
use Rattle.stripe_cells.proofs.SolvedLaws.{list_apart, put_is_step}

-- no server yet
pub others_none : (long out : ℕ) → [] ≡ scaled long (without out (up_to 0))
unfolding scaled without up_to
others_none long out = refl

-- the turn of another server, and of the one left out
pub others_more : (long out i : ℕ) (l m : List ℕ) → (i ≡ out → ⊥) → l ≡ scaled long (without out (up_to i)) → m ≡ l ++ (i * long ∷ []) → m ≡ scaled long (without out (up_to (i + 1)))
unfolding scaled
others_more long out i l m n e q =
    q ∙ ap (λ (x : List ℕ). x ++ (i * long ∷ [])) e
    ∙ sym (scaled_append long (without out (up_to i)) (i ∷ []))
    ∙ ap (λ (b : Bool). scaled long (without out (up_to i) ++ pick b [] (i ∷ []))) (sym (ne_eqb out i (λ z. n (sym z))))
    ∙ ap (scaled long) (sym (without_turn out i) ∙ ap (λ (j : ℕ). without out (up_to j)) (sym (add-one i)))

pub others_same : (long out i : ℕ) (l : List ℕ) → i ≡ out → l ≡ scaled long (without out (up_to i)) → l ≡ scaled long (without out (up_to (i + 1)))
others_same long out i l z e =
    e
    ∙ ap (scaled long)
    (sym (append-nil (without out (up_to i)))
    ∙ ap (λ (b : Bool). without out (up_to i) ++ pick b [] (i ∷ [])) (sym (eq-eqb out i (sym z)))
    ∙ sym (without_turn out i) ∙ ap (λ (j : ℕ). without out (up_to j)) (sym (add-one i)))

pub others_few : (long out i : ℕ) (l : List ℕ) → l ≡ scaled long (without out (up_to i)) → length l ≤ i
others_few long out i l e = omega (arith, ap length e, length_scaled long (without out (up_to i)), kept_short (without_keeps out) (up_to i), up_long i)

-- all of m + 1 servers but server j
module _ (long m j : ℕ) (list ts : List ℕ) (most : m ≤ 16) (server : j ≤ m) (whole : length ts ≡ (m + 1) * long) (e : list ≡ scaled long (without j (up_to (m + 1)))) where
  below : all_below (m + 1) (without j (up_to (m + 1))) ≡ true
  below = kept_below (without_keeps j) (m + 1) (up_to (m + 1)) (up_below (m + 1) (m + 1) (omega arith))

  few : length (without j (up_to (m + 1))) ≤ 100
  few = omega (arith, kept_short (without_keeps j) (up_to (m + 1)), up_long (m + 1))

  pub others_apart : Apart (j * long) long (length ts) list
  others_apart = list_apart long (m + 1) list (without j (up_to (m + 1))) ts e few below whole j (omega arith) (without_none j (up_to (m + 1)))

  pub others_solve : (us : List ℕ) → us ≡ with_part long (j * long) (xor_offsets long ts list) ts → us ≡ solved long j (up_to (m + 1)) ts
  others_solve us q = put_is_step long j (up_to (m + 1)) list ts us e q
