-- `film_bytes`: its refusals, its walk over the data places, and its promise from what was refused,
-- proved or not proved.
use mathlib.Core.Path.{◌≡◌, sym, ap, ◌∙◌}
use mathlib.Core.Bool.{Bool, true, not}
use mathlib.Core.List.{List}
use Prim.Native.Nat.{ℕ, ◌+◌, ◌-◌, ◌*◌, ◌/◌, ◌%◌, ◌≤◌, ◌<◌, min}
use native.Mathlib.Nat.{le_antisymm, le-div_iff_mul-le, div-lt_iff_lt-mul, mul-pos, div-mul-le_self, mul-le-mul_right, mod-add-mod, mod_self, mod-eq_of_lt, mod-lt}
use Rattle.std.proofs.lemmas.Grind.{div_ceil_times}
use native.Mathlib.Omega.{arith}
use lib.Dec.{ltb}
use lib.ListN.{length}
use borrow.Author.Tests.{ltb-false, le-ltb, not-false}
use Rattle.mathematics.specs.Choice.{when, first_of}
use Rattle.mathematics.proofs.ChoiceLaws.{first_none, when_none}
use Rattle.unit_sums.specs.UnitLimits.{InUnit}
use Rattle.unit_sums.specs.Refusals.{unit_refusal}
use Rattle.unit_sums.proofs.UnitRefusals.{unit_of_lem}
use Rattle.unit_film.specs.Says.{range_refusal, film_limits, cell_count, fit_around, is_film_proved, film_bytes_refusal}
use mathlib.Core.Logic.{⊎_elim}
use Rattle.mathematics.proofs.OrderLaws.{lt_or_le}

-- bytes that do not go past the last one
pub past_within : (e i m : ℕ) → i + m ≤ e → range_refusal e i m ≡ 0
past_within e i m h = ap (λ (b : Bool). when b 5) (le-ltb e (i + m) h)

past_of : (e i m : ℕ) → range_refusal e i m ≡ 0 → i + m ≤ e
past_of e i m h = ltb-false e (i + m) (when_none (ltb e (i + m)) 4 h)

-- a quotient rounded up, as the library has it
pub rounded_up : (y s : ℕ) → 0 < s → y / s + min 1 (y % s) ≡ (y + (s - 1)) / s
rounded_up y s h =
    let q = y / s + min 1 (y % s) in
    let b = div_ceil_times y s h in
    let below : (y + (s - 1)) / s < q + 1 = (div-lt_iff_lt-mul h).1 (omega arith) in
    le_antisymm ((le-div_iff_mul-le h).1 (omega arith)) (omega arith)

-- the test of the pieces that m bytes from byte i on lie in
pub pieces_are :
    (p k s : ℕ) (name : List ℕ) (unit : ℕ) (block t : List ℕ) (cell i m past c : ℕ) (r : Bool) → 0 < cell → past ≡ (i + m) / cell + min 1 ((i + m) % cell) → c ≡ min (past - i / cell) (k * p)
    → r ≡ fit_around p k s name unit block t c (i / cell) → r ≡ fit_around p k s name unit block t (min (cell_count cell i m) (k * p)) (i / cell)
pieces_are p k s name unit block t cell i m past c r h e q f =
    f ∙ ap (λ (y : ℕ). fit_around p k s name unit block t y (i / cell)) (q ∙ ap (λ (y : ℕ). min (y - i / cell) (k * p)) (e ∙ rounded_up (i + m) cell h))

module _ (p k s n : ℕ) (name : List ℕ) (unit : ℕ) (block t : List ℕ) (i m : ℕ) where
  -- the refusals before 24, and 24
  abbrev pub limits : ℕ
  limits = film_limits p k s n (length name) (length block) (length t) i m

  abbrev unproved : ℕ
  unproved = when (not (is_film_proved p k s n name unit block t i m)) 24

  -- none of the first
  pub film_within : limits ≡ 0 → (0 < s) × InUnit p k (n * s) name block t × (i + m ≤ k * (p * (n * s)))
  film_within e =
      let w = first_none (unit_refusal p k s n (length name) (length block) (length t)) (range_refusal (k * (p * (n * s))) i m) e in
      let u = unit_of_lem p k s n name block t w.0 in
      (u.0, u.1, past_of (k * (p * (n * s))) i m w.1)

  -- and not 24
  pub film_proved : film_bytes_refusal p k s n name unit block t i m ≡ 0 → (limits ≡ 0) × (is_film_proved p k s n name unit block t i m ≡ true)
  film_proved e =
      let w = first_none limits unproved e in
      (w.0, not-false (is_film_proved p k s n name unit block t i m) (when_none (not (is_film_proved p k s n name unit block t i m)) 23 w.1))

  -- and back
  pub film_accepted : limits ≡ 0 → is_film_proved p k s n name unit block t i m ≡ true → film_bytes_refusal p k s n name unit block t i m ≡ 0
  film_accepted e h = ap (λ (c : ℕ). first_of c unproved) e ∙ ap (λ (b : Bool). when (not b) 24) h

-- what is copied lies in the unit
pub film_room :
    (p k s n : ℕ) (name block t : List ℕ) (i m : ℕ) → unit_refusal p k s n (length name) (length block) (length t) ≡ 0 → range_refusal (k * (p * (n * s))) i m ≡ 0
    → (0 < k * p) × (0 < s) × (k * p * (n * s) ≤ length t) × (i + m ≤ k * p * (n * s))
film_room p k s n name block t i m e r =
    let w = unit_of_lem p k s n name block t e in
    let a = w.1.sized.array in
    (mul-pos (omega (arith, a.two)) a.some, w.0, omega (arith, w.1.sized.long), omega (arith, past_of (k * (p * (n * s))) i m r))

-- the cells that bytes i to e lie in are from the first, that of byte i, to the last
pub cell_order : (s i e : ℕ) → 0 < s → i ≤ e → i / s ≤ (e + (s - 1)) / s
cell_order s i e some order = (le-div_iff_mul-le some).1 (omega (arith, div-mul-le_self i s))

-- a cell is no longer than its piece
pub cell_of_piece : (s n : ℕ) → 0 < n * s → s ≤ n * s
cell_of_piece s n h =
    ⊎_elim (λ l. let e : n ≡ 0 = omega arith in absurd (omega (arith, ap (λ (y : ℕ). y * s) e))) (λ l. omega (arith, mul-le-mul_right s l)) (lt_or_le n 1)

-- the next data place, x being that of number c
module _ (m c x : ℕ) (e : x ≡ c % m) where
  step : (c + 1) % m ≡ (x + 1) % m
  step = sym (mod-add-mod c m 1) ∙ ap (λ (y : ℕ). (y + 1) % m) (sym e)

  pub around_back : x + 1 ≡ m → 0 ≡ (c + 1) % m
  around_back h = sym (step ∙ ap (λ (y : ℕ). y % m) h ∙ mod_self m)

  pub around_on : 0 < m → (x + 1 ≡ m → ⊥) → x + 1 ≡ (c + 1) % m
  around_on z h =
      let l : c % m < m = mod-lt c z in
      let g : x + 1 < m = omega arith in
      sym (step ∙ mod-eq_of_lt g)
