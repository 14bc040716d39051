-- Missing cells mended in any order: a step by a word that gives its cell leaves one cell fewer in
-- which the stripe is not yet as it is to be.
use mathlib.Core.Path.{◌≡◌, refl, sym, ap, ap₂, subst, ◌∙◌}
use mathlib.Core.Bool.{Bool, true, false, ◌&&◌, not}
use mathlib.Core.List.{List}
use mathlib.Core.Logic.{⊎_elim}
use Prim.Native.Nat.{ℕ, zero, suc, ◌+◌, ◌*◌, ◌^◌, ◌<◌}
use native.Mathlib.Omega.{arith}
use lib.Bits.{bit_xor}
use lib.Dec.{eqb}
use lib.ListN.{length, get_or}
use borrow.Author.Tests.{eq-eqb, ne_eqb, eqb-false, not-true}
use Rattle.mathematics.specs.Choice.{when}
use Rattle.mathematics.specs.Lists.{is_in}
use Rattle.mathematics.specs.Sums.{sum_to, all_to}
use Rattle.mathematics.proofs.AllLaws.{all_at}
use Rattle.mathematics.proofs.Flags.{and_l, and_r, clash}
use Rattle.mathematics.proofs.MemberLaws.{in_below}
use Rattle.mathematics.proofs.OrderLaws.{eq_or_ne, lt_or_le}
use Rattle.mathematics.specs.BitRows.Parity.{differ, bit}
use Rattle.mathematics.proofs.BitRows.BitLaws.{bit_xor_lem, bit_power}
use Rattle.mathematics.proofs.BitRows.ParityLaws.{differ_false}
use Rattle.liberation.specs.Stripes.Stripes.{cell_at, is_stripe, xor_over, without, solved}
use Rattle.liberation.proofs.Stripes.OverLaws.{over_ext, in_without}
use Rattle.liberation.proofs.Stripes.Solving.{stripe_long_lem, stripe_bytes, stripe_of, stripes_equal, solved_long, solved_bytes, solved_cell, solved_other, solved_same}
use Rattle.rebuild_cells.specs.Theory.Mending.{odd_cells, mended_cells}
use Rattle.rebuild_cells.specs.Theory.Nearing.{Reducible, Target, Near, Gives, Given}
use Rattle.rebuild_cells.specs.Renewed.{Renewed}
use Rattle.rebuild_cells.proofs.Theory.OddCells.{cells_distinct, cells_below}
use Rattle.rebuild_cells.proofs.Theory.MendLaws.{Alone, sums_alone, off_list, mended_stripe, mended_off, mended_zero}
use Rattle.rebuild_cells.proofs.Theory.WordSums.{odd_sum, zero_sum}

-- ---- one unknown fewer
module _ (left d : ℕ) where
  others : (c : ℕ) → (c ≡ d → ⊥) → bit (bit_xor left (2 ^ d)) c ≡ bit left c
  others c q = bit_xor_lem left (2 ^ d) c ∙ ap (differ (bit left c)) (bit_power d c ∙ ne_eqb c d q) ∙ differ_false (bit left c)

  module _ (on : bit left d ≡ true) where
    gone : bit (bit_xor left (2 ^ d)) d ≡ false
    gone = bit_xor_lem left (2 ^ d) d ∙ ap₂ differ on (bit_power d d ∙ eq-eqb d d refl)

    fewer : (c : ℕ) → bit (bit_xor left (2 ^ d)) c ≡ true → bit left c ≡ true
    fewer c h = ⊎_elim (λ q. ap (bit left) q ∙ on) (λ q. sym (others c q) ∙ h) (eq_or_ne c d)

-- how many of the first n unknowns are left
abbrev pub left_to : ℕ → ℕ → ℕ
left_to n left = sum_to n (λ c. when (bit left c) 1)

same_to : (n : ℕ) (f g : ℕ → ℕ) → ((c : ℕ) → c < n → f c ≡ g c) → sum_to n f ≡ sum_to n g
unfolding sum_to
same_to zero f g h = refl
same_to (suc n) f g h = ap₂ ◌+◌ (same_to n f g (λ c l. h c (omega arith))) (h n (omega arith))

one_less : (n d : ℕ) (f g : ℕ → ℕ) → d < n → ((c : ℕ) → (c ≡ d → ⊥) → f c ≡ g c) → f d < g d → sum_to n f < sum_to n g
unfolding sum_to
one_less zero d f g h s l = absurd (omega arith)
one_less (suc n) d f g h s l =
    ⊎_elim
    (λ m. let i = one_less n d f g m s l in let e : f n ≡ g n = s n (λ q. omega arith) in omega arith)
    (λ m. let q : n ≡ d = omega arith in let i = same_to n f g (λ c w. s c (λ q. omega arith)) in let z : f n < g n = subst (λ (x : ℕ). f x < g x) (sym q) l in omega arith)
    (lt_or_le d n)

pub left_falls : (n left d : ℕ) → d < n → bit left d ≡ true → left_to n (bit_xor left (2 ^ d)) < left_to n left
left_falls n left d h on =
    one_less n d (λ c. when (bit (bit_xor left (2 ^ d)) c) 1) (λ c. when (bit left c) 1) h
    (λ c q. ap (λ (t : Bool). when t 1) (others left d c q))
    (let a : when (bit (bit_xor left (2 ^ d)) d) 1 ≡ 0 = ap (λ (t : Bool). when t 1) (gone left d on) in let b : when (bit left d) 1 ≡ 1 = ap (λ (t : Bool). when t 1) on in omega arith)

-- ---- words that give cells
module _ (p k : ℕ) (some : 0 < p) (cs ws : List ℕ) (alone : Alone p k cs ws) where
  pub own_gives : (left : ℕ) → Given p k cs ws left ws
  own_gives left b hb l =
      record {
        zeros = λ s u g. g.zeros b hb;
        held = alone b b hb hb ∙ eq-eqb b b refl;
        lone = λ c hc n q. alone b c hb hc ∙ ne_eqb b c (λ e. q (sym e));
      }

  sum_gives : (left b d : ℕ) → b < length cs → d < length cs → (b ≡ d → ⊥) → bit left d ≡ false → Gives p k cs ws left b (bit_xor (get_or ws b 0) (get_or ws d 0))
  sum_gives left b d hb hd q none =
      record {
        zeros = λ s u g. zero_sum p k some s u (stripe_long_lem p k s u g.stripe) (get_or ws b 0) (get_or ws d 0) (g.zeros b hb) (g.zeros d hd);
        held = odd_sum p k some (get_or ws b 0) (get_or ws d 0) (get_or cs b 0) ∙ ap₂ differ (alone b b hb hb ∙ eq-eqb b b refl) (alone d b hd hb ∙ ne_eqb d b (λ e. q (sym e)));
        lone = λ c hc l n.
            odd_sum p k some (get_or ws b 0) (get_or ws d 0) (get_or cs c 0)
            ∙ ap₂ differ (alone b c hb hc ∙ ne_eqb b c (λ e. n (sym e))) (alone d c hd hc ∙ ne_eqb d c (λ e. clash (bit left d) (ap (bit left) e ∙ l) none));
      }

  pub renewed_gives : (left d : ℕ) (ns ns' : List ℕ) → d < length cs → bit left d ≡ true → Given p k cs ws left ns → Renewed (length cs) d ws ns ns' → Given p k cs ws (bit_xor left (2 ^ d)) ns'
  renewed_gives left d ns ns' hd on g r b hb l =
      ⊎_elim
      (λ e. subst (Gives p k cs ws (bit_xor left (2 ^ d)) b) (sym e) old)
      (λ e. subst (Gives p k cs ws (bit_xor left (2 ^ d)) b) (sym e) (sum_gives (bit_xor left (2 ^ d)) b d hb hd apart (gone left d on)))
      (r b hb)
    where
      apart : b ≡ d → ⊥
      apart q = clash (bit (bit_xor left (2 ^ d)) b) l (ap (bit (bit_xor left (2 ^ d))) q ∙ gone left d on)

      was : Gives p k cs ws left b (get_or ns b 0)
      was = g b hb (fewer left d on b l)

      old : Gives p k cs ws (bit_xor left (2 ^ d)) b (get_or ns b 0)
      old = record { zeros = was.zeros; held = was.held; lone = λ c hc n q. was.lone c hc (fewer left d on c n) q }

  -- ---- a step
  module _ (s : ℕ) (u t : List ℕ) (left b w : ℕ) (hb : b < length cs) (to : Target p k s cs ws u) (near : Near p k s cs u left t) (gives : Gives p k cs ws left b w) where
    x : ℕ
    x = get_or cs b 0

    xs : List ℕ
    xs = odd_cells p k w

    long : (v : List ℕ) → is_stripe p k s v ≡ true → length v ≡ p * (k + 2) * s
    long v h = stripe_long_lem p k s v h

    -- the other cells are as they are to be
    read : (z : ℕ) → is_in z (without x xs) ≡ true → cell_at s t z ≡ cell_at s u z
    unfolding x xs
    read z h = near.alike z (in_below (p * (k + 2)) z xs (cells_below p k some w) inside) (λ c hc l e. ⊎_elim (λ q. other (e ∙ ap (λ (i : ℕ). get_or cs i 0) q)) (λ q. clash (is_in z xs) inside (ap (λ (y : ℕ). is_in y xs) e ∙ gives.lone c hc l q)) (eq_or_ne c b))
      where
        both : (is_in z xs && not (eqb z x)) ≡ true
        both = sym (in_without x z xs) ∙ h

        inside : is_in z xs ≡ true
        inside = and_l (is_in z xs) (not (eqb z x)) both

        other : z ≡ x → ⊥
        other = eqb-false z x (not-true (eqb z x) (and_r (is_in z xs) (not (eqb z x)) both))

    own : cell_at s (solved s x xs t) x ≡ cell_at s u x
    unfolding x xs
    own =
        solved_cell (p * (k + 2)) s x xs t (long t near.stripe) (cells_below p k some w) gives.held
        ∙ over_ext s (cell_at s t) (cell_at s u) (without x xs) read
        ∙ sym (solved_cell (p * (k + 2)) s x xs u (long u to.stripe) (cells_below p k some w) gives.held)
        ∙ ap (λ (v : List ℕ). cell_at s v x)
        (solved_same (p * (k + 2)) s x xs u (long u to.stripe) (cells_below p k some w) gives.held (cells_distinct p k some w) (stripe_bytes p k s u to.stripe) (gives.zeros s u to))

    pub near_step : Near p k s cs u (bit_xor left (2 ^ b)) (solved s (get_or cs b 0) (odd_cells p k w) t)
    unfolding x xs
    near_step =
        record {
          stripe = stripe_of p k s (solved s x xs t)
              (solved_long (p * (k + 2)) s x xs t (long t near.stripe) (cells_below p k some w) gives.held ∙ long t near.stripe)
              (solved_bytes (p * (k + 2)) s x xs t (long t near.stripe) (cells_below p k some w) gives.held (stripe_bytes p k s t near.stripe));
          alike = λ y hy off. ⊎_elim (λ q. ap (cell_at s (solved s x xs t)) q ∙ own ∙ ap (cell_at s u) (sym q)) (λ q. rest y hy off q) (eq_or_ne y x);
        }
      where
        rest : (y : ℕ) → y < p * (k + 2) → ((c : ℕ) → c < length cs → bit (bit_xor left (2 ^ b)) c ≡ true → y ≡ get_or cs c 0 → ⊥) → (y ≡ x → ⊥) → cell_at s (solved s x xs t) y ≡ cell_at s u y
        rest y hy off q =
            solved_other (p * (k + 2)) s x xs t (long t near.stripe) (cells_below p k some w) gives.held y q
            ∙ near.alike y hy (λ c hc l e. off c hc (others left b c (λ z. q (e ∙ ap (λ (i : ℕ). get_or cs i 0) z)) ∙ l) e)

-- ---- the start and the end
every : (c : ℕ) → c < 62 → bit 18446744073709551615 c ≡ true
unfolding all_to
every = all_at 62 (bit 18446744073709551615) refl

module _ (p k s : ℕ) (some : 0 < p) (cs ws t : List ℕ) (r : Reducible p k cs ws) (ht : is_stripe p k s t ≡ true) where
  pub rows_alone : Alone p k cs ws
  rows_alone = subst (Alone p k cs) (sym r.sums) (sums_alone p k cs some r.ok)

  pub mended_target : Target p k s cs ws (mended_cells p k s cs t)
  mended_target =
      record {
        stripe = mended_stripe p k s some cs r.listed.below r.ok t ht;
        zeros = λ b hb. ap (λ (v : List ℕ). xor_over s (cell_at s (mended_cells p k s cs t)) (odd_cells p k (get_or v b 0))) r.sums ∙ mended_zero p k s some cs r.listed.below r.ok t ht b hb;
      }

  pub near_start : Near p k s cs (mended_cells p k s cs t) 18446744073709551615 t
  near_start =
      record {
        stripe = ht;
        alike = λ y hy off. sym (mended_off p k s some cs r.listed.below r.ok t ht y hy (off_list cs y (λ c hc. off c hc (every c (omega (arith, r.listed.few))))));
      }

  pub near_end : (left : ℕ) (v : List ℕ) → Near p k s cs (mended_cells p k s cs t) left v → ((c : ℕ) → c < length cs → bit left c ≡ false) → v ≡ mended_cells p k s cs t
  near_end left v n h = stripes_equal p k s v (mended_cells p k s cs t) n.stripe mended_target.stripe (λ x l. n.alike x l (λ c hc o e. clash (bit left c) o (h c hc)))
