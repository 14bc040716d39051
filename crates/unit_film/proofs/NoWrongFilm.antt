-- No wrong film leaves: every byte that `film_bytes` hands out is the byte that was
-- encoded, or two different pieces of one length and place have one checksum.
-- A byte of the film lies in the piece at the place of its cell. That place was compared: the cells
-- from the first on go round the data places, and either all that are touched or all places were.
use mathlib.Core.Path.{◌≡◌, sym, ap, subst, ◌∙◌}
use mathlib.Core.Bool.{true}
use mathlib.Core.List.{List}
use mathlib.Core.Logic.{◌⊎◌, inl, inr, ⊎_elim}
use Prim.Native.Nat.{ℕ, ◌+◌, ◌-◌, ◌*◌, ◌/◌, ◌%◌, ◌≤◌, ◌<◌, min}
use native.Mathlib.Nat.{mod-lt, mod-le, add-mod-mod, mul-pos, le-div_iff_mul-le, div-mul-le_self}
use native.Mathlib.Omega.{arith}
use lib.Dec.{eqb}
use lib.ListN.{length, get_or, take, drop, length-drop}
use lib.Seq.{ext_get_or, get_or-take, get_or-drop, length-take-le}
use Rattle.mathematics.specs.Choice.{pick}
use Rattle.mathematics.proofs.AllLaws.{all_at}
use Rattle.mathematics.proofs.Flags.{and_r}
use Rattle.liberation.specs.Stripes.Stripes.{cell_at, stripe_long}
use Rattle.refusals.specs.declared.answer.Answer.{Answer}
use Rattle.unit_sums.specs.Sums.{block_of, is_sealed, fits}
use Rattle.unit_sums.specs.Collisions.{Collision}
use Rattle.unit_film.specs.FilmOrder.{film_of}
use Rattle.unit_film.specs.Says.{cell_count, fit_around, is_film_proved, film_bytes_refusal, FilmBytesSays}
use Rattle.unit_sums.proofs.RightPieces.{places_right}
use Rattle.unit_film.proofs.OrderLaws.{film_long, film_at_lem}
use Rattle.unit_film.proofs.FilmRefusals.{limits, film_within, film_proved}

module _ (p k s n : ℕ) (name : List ℕ) (unit : ℕ) (t u : List ℕ) (i m : ℕ) (rows : 0 < p) (disks : 0 < k) (some : 0 < s) (within : i + m ≤ k * (p * (n * s))) (long : length t ≡ stripe_long p k (n * s)) (sized : length u ≡ stripe_long p k (n * s)) where
  abbrev at : ℕ → ℕ
  at d = (i / s + d) % (k * p)

  places : 0 < k * p
  places = mul-pos disks rows

  data_place : (d : ℕ) → at d < p * (k + 2)
  data_place d = omega (arith, mod-lt (i / s + d) places)

  -- the place of a byte that is asked for is one that was compared
  module _ (alike : (d : ℕ) → d < min (cell_count s i m) (k * p) → cell_at (n * s) t (at d) ≡ cell_at (n * s) u (at d)) where
    same_piece : (y : ℕ) → i ≤ y → y < i + m → cell_at (n * s) t (y / s % (k * p)) ≡ cell_at (n * s) u (y / s % (k * p))
    same_piece y a b =
        let d = (y / s - i / s) % (k * p) in
        let l : i / s ≤ y / s = (le-div_iff_mul-le some).1 (omega (arith, div-mul-le_self i s)) in
        let g : y / s + 1 ≤ (i + m + (s - 1)) / s = (le-div_iff_mul-le some).1 (omega (arith, div-mul-le_self y s)) in
        let w : d < min (cell_count s i m) (k * p) = omega (arith, mod-lt (y / s - i / s) places, mod-le (y / s - i / s) (k * p)) in
        let z : i / s + (y / s - i / s) ≡ y / s = omega arith in
        let e : at d ≡ y / s % (k * p) = add-mod-mod (i / s) (y / s - i / s) (k * p) ∙ ap (λ (v : ℕ). v % (k * p)) z in
        subst (λ (x : ℕ). cell_at (n * s) t x ≡ cell_at (n * s) u x) e (alike d w)

    same_byte : (y : ℕ) → i ≤ y → y < i + m → get_or (film_of p k s n t) y 0 ≡ get_or (film_of p k s n u) y 0
    same_byte y a b =
        film_at_lem (k * p) s n t (omega (arith, long)) places some y (omega arith)
        ∙ ap (λ (c : List ℕ). get_or c (y / s / (k * p) * s + y % s) 0) (same_piece y a b)
        ∙ sym (film_at_lem (k * p) s n u (omega (arith, sized)) places some y (omega arith))

    same_film : take m (drop i (film_of p k s n t)) ≡ take m (drop i (film_of p k s n u))
    same_film =
        ext_get_or 0 (take m (drop i (film_of p k s n t))) (take m (drop i (film_of p k s n u))) (part_long t (omega (arith, long)) ∙ sym (part_long u (omega (arith, sized))))
        (λ j g. let w : j < m = omega (arith, part_long t (omega (arith, long))) in byte (film_of p k s n t) j w ∙ same_byte (i + j) (omega arith) (omega arith) ∙ sym (byte (film_of p k s n u) j w))
      where
        part_long : (v : List ℕ) → k * p * (n * s) ≤ length v → length (take m (drop i (film_of p k s n v))) ≡ m
        part_long v q = length-take-le m (drop i (film_of p k s n v)) (omega (arith, length-drop i (film_of p k s n v), film_long (k * p) s n v q))

        byte : (v : List ℕ) (j : ℕ) → j < m → get_or (take m (drop i v)) j 0 ≡ get_or v (i + j) 0
        byte v j w = get_or-take m (drop i v) j 0 w ∙ get_or-drop i v j 0

  pub proved_right : is_film_proved p k s n name unit (block_of p k (n * s) name unit u) t i m ≡ true → (take m (drop i (film_of p k s n t)) ≡ take m (drop i (film_of p k s n u))) ⊎ Collision p k (n * s) name unit t u
  proved_right h =
      ⊎_elim (λ a. inl (same_film a)) inr
      (places_right p k (n * s) name unit t u (min (cell_count s i m) (k * p)) at (λ d g. data_place d)
      (all_at (min (cell_count s i m) (k * p)) (λ d. fits p (n * s) name unit (block_of p k (n * s) name unit u) t (at d))
      (and_r (is_sealed p k name unit (block_of p k (n * s) name unit u)) (fit_around p k (n * s) name unit (block_of p k (n * s) name unit u) t (min (cell_count s i m) (k * p)) (i / s)) h)))

-- THE THEOREM of `film_bytes`: u is what was sealed
pub no_wrong_film :
    (p k s n : ℕ) (name : List ℕ) (unit : ℕ) (block t u : List ℕ) (i : ℕ) (o o' : List ℕ) (r : Answer)
    → FilmBytesSays p k s n name unit block t i o o' r
    → block ≡ block_of p k (n * s) name unit u → length u ≡ stripe_long p k (n * s) → r.refusal ≡ 0
    → (o' ≡ take (length o) (drop i (film_of p k s n u))) ⊎ Collision p k (n * s) name unit t u
no_wrong_film p k s n name unit block t u i o o' r says e l z =
    let w = film_within p k s n name unit block t i (length o) g.0 in
    let a = w.1.sized.array in
    let d : 0 < k = omega (arith, a.two) in
    ⊎_elim (λ q. inl (given ∙ q)) inr
    (proved_right p k s n name unit t u i (length o) a.some d w.0 w.2 w.1.sized.long l (subst (λ (b : List ℕ). is_film_proved p k s n name unit b t i (length o) ≡ true) e g.1))
  where
    none : film_bytes_refusal p k s n name unit block t i (length o) ≡ 0
    none = sym says.answer.refusal ∙ z

    g : (limits p k s n name unit block t i (length o) ≡ 0) × (is_film_proved p k s n name unit block t i (length o) ≡ true)
    g = film_proved p k s n name unit block t i (length o) none

    given : o' ≡ take (length o) (drop i (film_of p k s n t))
    given = says.out ∙ ap (λ (c : ℕ). pick (eqb c 0) (take (length o) (drop i (film_of p k s n t))) o) none
