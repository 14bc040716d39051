-- The odd cells gathered list by list into cell d, which is not odd: what stands there, with the
-- odd cells still to come, is the XOR of all.
use mathlib.Core.Path.{◌≡◌, refl, sym, subst, ap, ◌∙◌}
use mathlib.Core.Bool.{Bool, true, false, false≢true}
use mathlib.Core.Logic.{◌⊎◌, inl, inr, ⊎_elim}
use mathlib.Core.List.{List, [], ◌∷◌, ◌++◌}
use Prim.Native.Nat.{ℕ, zero, suc, ◌+◌, ◌*◌, ◌≤◌, ◌<◌}
use native.Mathlib.Nat.{mul-le-mul}
use native.Mathlib.Omega.{arith}
use lib.ListN.{length, get_or, take, drop, length-append, length-drop, get_or-append, drop_of_length-le, take-append-drop}
use lib.Seq.{drop-drop, get_or-drop}
use Rattle.mathematics.specs.Choice.{pick}
use Rattle.mathematics.specs.Xor.{xor_l, all_bytes}
use Rattle.mathematics.proofs.ByteLaws.{bytes_take, bytes_drop}
use Rattle.mathematics.proofs.OrderLaws.{lt_or_le}
use Rattle.mathematics.proofs.XorLaws.{xor_l_zeros}
use Rattle.liberation.specs.Limits.{largest_cell}
use Rattle.liberation.proofs.Stripes.StripeCellLaws.{cell_fits, cells_apart}
use Rattle.xor.specs.Parts.{part, with_part, xor_offsets}
use Rattle.xor.proofs.StoreLaws.{part_long}
use Rattle.xor.proofs.BlockLaws.{Within, offsets_long, offsets_bytes, offsets_append}
use Rattle.xor_in_place.specs.Beside.{Beside}
use Rattle.xor_in_place.proofs.WithinLaws.{part_with, with_with, part_kept, offsets_same}
use Rattle.stripe_cells.specs.Offsets.{scaled}
use Rattle.stripe_cells.specs.Toggled.{is_odd, odd_from}
use Rattle.stripe_cells.specs.Listed.{odd_offsets}
use Rattle.stripe_cells.specs.Gathered.{MarkedStripe}
use Rattle.stripe_cells.specs.OddCells.{OddPushed, OddAdded}

-- every number of a list has a property
abbrev All : (ℕ → Type 0) → List ℕ → Type 0
All P os = (i : ℕ) → i < length os → P (get_or os i 0)

all_front : (P : ℕ → Type 0) (a b : List ℕ) → All P (a ++ b) → All P a
all_front P a b f i h = subst P (get_or-append a b 0 i h) (f i (omega (arith, length-append a b)))

all_append : (P : ℕ → Type 0) (a b : List ℕ) → All P a → All P b → All P (a ++ b)
all_append P [] b f g i h = g i h
all_append P (x ∷ a) b f g zero h = f 0 (omega arith)
all_append P (x ∷ a) b f g (suc i) h = all_append P a b (λ j k. f (suc j) (omega arith)) g i (omega arith)

odd_all : (P : ℕ → Type 0) (s x : ℕ) (ms : List ℕ) → ((j : ℕ) → j < length ms → is_odd (get_or ms j 0) ≡ true → P ((x + j) * s)) → All P (scaled s (odd_from x ms))
unfolding scaled odd_from
odd_all P s x [] f = λ i h. absurd (omega arith)
odd_all P s x (m ∷ ms) f = go (is_odd m) refl (odd_all P s (suc x) ms (λ j k e. let z : (x + suc j) * s ≡ (suc x + j) * s = omega arith in subst P z (f (suc j) (omega arith) e)))
  where
    go : (b : Bool) → is_odd m ≡ b → All P (scaled s (odd_from (suc x) ms)) → All P (scaled s (pick b (x ∷ odd_from (suc x) ms) (odd_from (suc x) ms)))
    go true e g zero h = let z : (x + 0) * s ≡ x * s = omega arith in subst P z (f 0 (omega arith) e)
    go true e g (suc i) h = g i (omega arith)
    go false e g i h = g i h

-- so it has that all odd cells have
odd_have : (P : ℕ → Type 0) (s x : ℕ) (ms : List ℕ) → ((y : ℕ) → y < length ms → is_odd (get_or ms y 0) ≡ true → P (y * s)) → All P (odd_offsets s ms x)
odd_have P s x ms f =
    odd_all P s x (drop x ms) (λ j h e. f (x + j) (omega (arith, length-drop x ms)) (ap is_odd (sym (get_or-drop x ms j 0)) ∙ e))

module _ (s d : ℕ) (ms t : List ℕ) (m : MarkedStripe s d ms t) where
  -- cell d, and the odd cells, are in the stripe; the odd cells are apart from cell d
  own_within : d * s + s ≤ length t
  own_within = omega (arith, cell_fits (length ms) s d m.place, m.cells)

  odd_within : (x : ℕ) → Within s (length t) (odd_offsets s ms x)
  odd_within x = odd_have (λ a. a + s ≤ length t) s x ms (λ y h e. omega (arith, cell_fits (length ms) s y h, m.cells))

  odd_apart : (x : ℕ) → All (λ a. (a + s ≤ d * s) ⊎ (d * s + s ≤ a)) (odd_offsets s ms x)
  odd_apart x = odd_have (λ a. (a + s ≤ d * s) ⊎ (d * s + s ≤ a)) s x ms far
    where
      far : (y : ℕ) → y < length ms → is_odd (get_or ms y 0) ≡ true → (y * s + s ≤ d * s) ⊎ (d * s + s ≤ y * s)
      far y h e = cells_apart s y d (λ q. false≢true (sym m.even ∙ ap (λ (z : ℕ). is_odd (get_or ms z 0)) (sym q) ∙ e))

  -- the list that was pushed: it had the destination alone, or nothing
  module _ (old new : List ℕ) (x most r : ℕ) (room : (1 < most) × (most ≤ 33)) (own : (old ≡ []) ⊎ (old ≡ d * s ∷ [])) (p : OddPushed s ms old new x most r) where
    abbrev Source : ℕ → Type 0
    Source a = (a + s ≤ length t) × ((a + s ≤ d * s) ⊎ (d * s ≤ a))

    first : All Source old
    first = ⊎_elim (λ e. subst (All Source) (sym e) (λ i h. absurd (omega arith))) (λ e. subst (All Source) (sym e) one) own
      where
        one : All Source (d * s ∷ [])
        one zero h = (own_within, inr (omega arith))
        one (suc i) h = absurd (omega arith)

    sources : All Source new
    sources = all_front Source new (odd_offsets s ms r) (subst (All Source) (sym p.list) (all_append Source old (odd_offsets s ms x) first odd))
      where
        odd : All Source (odd_offsets s ms x)
        odd i h = (odd_within x i h, ⊎_elim (λ l. inl l) (λ l. inr (omega arith)) (odd_apart x i h))

    pub list_beside : Beside (d * s) s (length t) new
    list_beside =
        record {
          sources = record { few = omega (arith, p.fits, room); inside = λ i h. (sources i h).0 };
          fits = own_within;
          apart = λ i h. (sources i h).1;
        }

    -- a place was passed, unless none is left
    on : x < length ms → x < r
    on h = ⊎_elim (λ l. l) (λ l. absurd (stuck (omega (arith, p.some)))) (lt_or_le x r)
      where
        short : length old ≤ 1
        short = ⊎_elim (λ e. omega (arith, ap length e)) (λ e. omega (arith, ap length e)) own

        stuck : r ≡ x → ⊥
        stuck e =
            let q : length new + length (odd_offsets s ms r) ≡ length old + length (odd_offsets s ms x) = sym (length-append new (odd_offsets s ms r)) ∙ ap length p.list ∙ length-append old (odd_offsets s ms x) in
            let k : length (odd_offsets s ms r) ≡ length (odd_offsets s ms x) = ap (λ (y : ℕ). length (odd_offsets s ms y)) e in
            let m = short in
            ⊎_elim (λ w. omega arith) (λ w. omega (arith, room)) p.full

    -- and gathered
    pub list_added : (t' : List ℕ) → t' ≡ with_part s (d * s) (xor_offsets s t new) t → OddAdded s d ms t t' old x r
    list_added t' e =
        let put : part s (d * s) t' ≡ xor_offsets s t new = ap (part s (d * s)) e ∙ part_with s (d * s) (xor_offsets s t new) t (offsets_long s t new (λ i h. (sources i h).0)) own_within in
        record {
          sum =
              ap (λ (l : List ℕ). xor_l l (xor_offsets s t (odd_offsets s ms r))) put
              ∙ sym (offsets_append s t new (odd_offsets s ms r) (odd_within r))
              ∙ ap (xor_offsets s t) p.list;
          long = ap length put ∙ offsets_long s t new (λ i h. (sources i h).0);
          bytes = ap all_bytes put ∙ offsets_bytes s t new;
          kept = e ∙ ap (λ (l : List ℕ). with_part s (d * s) l t) (sym put);
          within = p.within;
          on = on;
        }

-- the gathers so far, from place `from` on, have made t of t₀: the odd cells from place x on are
-- still to come
pub record Gathering (s d : ℕ) (ms t₀ : List ℕ) (from : ℕ) (t : List ℕ) (x : ℕ) : Type 0 where
  pub sum : xor_l (part s (d * s) t) (xor_offsets s t₀ (odd_offsets s ms x)) ≡ xor_l (part s (d * s) t₀) (xor_offsets s t₀ (odd_offsets s ms from))
  pub long : length (part s (d * s) t) ≡ s
  pub bytes : all_bytes (part s (d * s) t) ≡ true
  pub kept : t ≡ with_part s (d * s) (part s (d * s) t) t₀
  pub within : x ≤ length ms

module _ {s d : ℕ} {ms t₀ : List ℕ} (m : MarkedStripe s d ms t₀) where
  -- the odd cells as they were
  odd_kept : {t : List ℕ} → length (part s (d * s) t) ≡ s → t ≡ with_part s (d * s) (part s (d * s) t) t₀ → (x : ℕ) → xor_offsets s t (odd_offsets s ms x) ≡ xor_offsets s t₀ (odd_offsets s ms x)
  odd_kept {t} l e x =
      ap (λ (u : List ℕ). xor_offsets s u (odd_offsets s ms x)) e
      ∙ offsets_same s (with_part s (d * s) (part s (d * s) t) t₀) t₀ (odd_offsets s ms x)
      (λ j h. part_kept s (d * s) (part s (d * s) t) t₀ l (own_within s d ms t₀ m) s (get_or (odd_offsets s ms x) j 0) (odd_apart s d ms t₀ m x j h))

  -- a later change of the same cell
  again : {t : List ℕ} (y : List ℕ) → length (part s (d * s) t) ≡ s → t ≡ with_part s (d * s) (part s (d * s) t) t₀ → with_part s (d * s) y t ≡ with_part s (d * s) y t₀
  again {t} y l e = ap (with_part s (d * s) y) e ∙ with_with s (d * s) (part s (d * s) t) t₀ l (own_within s d ms t₀ m) y

  pub gathering_none : (from : ℕ) → from ≤ length ms → all_bytes t₀ ≡ true → Gathering s d ms t₀ from t₀ from
  gathering_none from h b =
      record {
        sum = refl;
        long = (part_long t₀ (d * s) s (own_within s d ms t₀ m)).size;
        bytes = bytes_take s (drop (d * s) t₀) (bytes_drop (d * s) t₀ b);
        kept = sym (ap (λ (l : List ℕ). take (d * s) t₀ ++ (part s (d * s) t₀ ++ l)) (sym (drop-drop s (d * s) t₀)) ∙ ap (λ (l : List ℕ). take (d * s) t₀ ++ l) (take-append-drop s (drop (d * s) t₀)) ∙ take-append-drop (d * s) t₀);
        within = h;
      }

  -- the next list, which has cell d in front
  pub gathering_next : {from x r : ℕ} {t t' : List ℕ} (list : List ℕ) → list ≡ d * s ∷ [] → Gathering s d ms t₀ from t x → OddAdded s d ms t t' list x r → Gathering s d ms t₀ from t' r
  unfolding xor_offsets
  gathering_next {from} {x} {r} {t} {t'} list e g a =
      record {
        sum =
            ap (xor_l (part s (d * s) t')) (sym (odd_kept g.long g.kept r))
            ∙ a.sum
            ∙ ap (λ (l : List ℕ). xor_offsets s t (l ++ odd_offsets s ms x)) e
            ∙ ap (xor_l (part s (d * s) t)) (odd_kept g.long g.kept x)
            ∙ g.sum;
        long = a.long;
        bytes = a.bytes;
        kept = a.kept ∙ again (part s (d * s) t') g.long g.kept;
        within = a.within;
      }

  -- no odd cell is left
  pub gathering_end : {from x : ℕ} {t : List ℕ} → length ms ≤ x → Gathering s d ms t₀ from t x → t ≡ with_part s (d * s) (xor_l (part s (d * s) t₀) (xor_offsets s t₀ (odd_offsets s ms from))) t₀
  unfolding xor_offsets scaled odd_from
  gathering_end {from} {x} {t} h g =
      g.kept
      ∙ ap (λ (l : List ℕ). with_part s (d * s) l t₀)
      (sym (xor_l_zeros s (part s (d * s) t) g.long g.bytes) ∙ ap (λ (l : List ℕ). xor_l (part s (d * s) t) (xor_offsets s t₀ (scaled s (odd_from x l)))) (sym (drop_of_length-le ms h)) ∙ g.sum)

  -- the first list, and the rest added
  pub all_gathered : {x : ℕ} (t t' list : List ℕ) → list ≡ [] → OddAdded s d ms t₀ t list 0 x → t' ≡ with_part s (d * s) (xor_l (part s (d * s) t) (xor_offsets s t (odd_offsets s ms x))) t → t' ≡ with_part s (d * s) (xor_offsets s t₀ (odd_offsets s ms 0)) t₀
  all_gathered {x} t t' list n a e =
      e
      ∙ again (xor_l (part s (d * s) t) (xor_offsets s t (odd_offsets s ms x))) a.long a.kept
      ∙ ap (λ (l : List ℕ). with_part s (d * s) l t₀) (ap (xor_l (part s (d * s) t)) (odd_kept a.long a.kept x) ∙ a.sum ∙ ap (λ (l : List ℕ). xor_offsets s t₀ (l ++ odd_offsets s ms 0)) n)

-- a stripe as long
pub still_marked : {s d : ℕ} {ms t : List ℕ} (u : List ℕ) → length u ≡ length t → MarkedStripe s d ms t → MarkedStripe s d ms u
still_marked u e m = record { few = m.few; small = m.small; cells = omega arith; place = m.place; even = m.even }

-- the offset of cell d is a small number
pub own_small : {s d : ℕ} {ms t : List ℕ} → MarkedStripe s d ms t → d * s ≤ 1023 * largest_cell
own_small {s} {d} m = let h : d ≤ 1023 = omega arith in mul-le-mul h m.small
