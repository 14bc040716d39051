-- A unit under its own block: what is asked for of its film within the limits is handed out.
use mathlib.Core.Path.{◌≡◌, ap, ◌∙◌}
use mathlib.Core.Bool.{true}
use mathlib.Core.List.{List}
use Prim.Native.Nat.{ℕ, ◌+◌, ◌*◌, ◌/◌, ◌%◌, ◌<◌, min}
use native.Mathlib.Nat.{mod-lt, mul-pos}
use native.Mathlib.Omega.{arith}
use lib.Dec.{eqb}
use lib.ListN.{length, take, drop}
use Rattle.mathematics.specs.Choice.{pick}
use Rattle.mathematics.proofs.AllLaws.{all_of_lem}
use Rattle.mathematics.proofs.Flags.{and_i}
use Rattle.refusals.specs.declared.answer.Answer.{Answer}
use Rattle.unit_sums.specs.Sums.{block_of, is_sealed, fits}
use Rattle.unit_sums.proofs.BlockLaws.{block_sealed, own_fits}
use Rattle.unit_film.specs.FilmOrder.{film_of}
use Rattle.unit_film.specs.Says.{cell_count, fit_around, is_film_proved, film_bytes_refusal, FilmBytesSays}
use Rattle.unit_film.proofs.FilmRefusals.{limits, film_within, film_accepted}

-- the block is that of the unit: what is asked for within the limits is handed out
pub sealed_film :
    (p k s n : ℕ) (name : List ℕ) (unit : ℕ) (t : List ℕ) (i : ℕ) (o o' : List ℕ) (r : Answer)
    → FilmBytesSays p k s n name unit (block_of p k (n * s) name unit t) t i o o' r
    → limits p k s n name unit (block_of p k (n * s) name unit t) t i (length o) ≡ 0
    → (r.refusal ≡ 0) × (o' ≡ take (length o) (drop i (film_of p k s n t)))
sealed_film p k s n name unit t i o o' r says e = (says.answer.refusal ∙ none, says.out ∙ ap (λ (c : ℕ). pick (eqb c 0) (take (length o) (drop i (film_of p k s n t))) o) none)
  where
    block : List ℕ
    block = block_of p k (n * s) name unit t

    places : 0 < k * p
    places =
        let a = (film_within p k s n name unit (block_of p k (n * s) name unit t) t i (length o) e).1.sized.array in
        mul-pos (omega (arith, a.two)) a.some

    proved : is_film_proved p k s n name unit (block_of p k (n * s) name unit t) t i (length o) ≡ true
    proved =
        let c = min (cell_count s i (length o)) (k * p) in
        and_i (is_sealed p k name unit block) (fit_around p k (n * s) name unit block t c (i / s)) (block_sealed p k (n * s) name unit t)
        (all_of_lem c (λ j. fits p (n * s) name unit block t ((i / s + j) % (k * p))) (λ j l. own_fits p k (n * s) name unit t ((i / s + j) % (k * p)) (omega (arith, mod-lt (i / s + j) places))))

    none : film_bytes_refusal p k s n name unit (block_of p k (n * s) name unit t) t i (length o) ≡ 0
    none = film_accepted p k s n name unit (block_of p k (n * s) name unit t) t i (length o) e proved
