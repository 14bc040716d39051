-- A disk fits exactly if some clean stripe is t off that disk, and that stripe is then t with the
-- disk rebuilt. A dirty stripe has at most one such disk:
-- two stripes that explain it by different disks are clean and alike off both, so they are the
-- same, and t is that stripe.
use mathlib.Core.Path.{◌≡◌, sym, ap, ◌∙◌}
use mathlib.Core.Bool.{true, false}
use mathlib.Core.Logic.{⊎_elim}
use mathlib.Core.List.{List}
use Prim.Native.Nat.{ℕ, ◌+◌, ◌*◌, ◌≤◌, ◌<◌}
use native.Mathlib.Omega.{arith}
use lib.ListN.{length}
use Rattle.mathematics.specs.Xor.{all_bytes}
use Rattle.mathematics.proofs.Flags.{flag, clash}
use Rattle.mathematics.proofs.OrderLaws.{eq_or_ne}
use Rattle.liberation.specs.Sets.{is_width, place, disk_at}
use Rattle.liberation.specs.Plans.{plan_of}
use Rattle.liberation.specs.Judging.{accepted}
use Rattle.liberation.proofs.PlaceLaws.{some_row}
use Rattle.liberation.specs.Stripes.Stripes.{cell_at, is_stripe, clean, column_of, with_column, rebuilt}
use Rattle.liberation.proofs.Stripes.StripeCellLaws.{cell_fits, column_cell, length_column, cell_off, column_with}
use Rattle.liberation.proofs.Stripes.Solving.{stripe_long_lem, stripe_bytes, stripe_of, bytes_with, stripes_equal, stripes_alike}
use Rattle.liberation.proofs.Stripes.Rebuilding.{rebuilt_long, rebuilt_bytes, one_back}
use Rattle.liberation.proofs.TwoDisks.PairLaws.{pair_only}
use Rattle.liberation.specs.Scrub.Survivors.{with_rebuilt, fits}
use Rattle.liberation.specs.Scrub.Explained.{Explains}
use Rattle.liberation.proofs.PartPlans.{plan_accepted}

-- disk d of a stripe t
module _ (p k s d : ℕ) (disk : d < k + 2) (t : List ℕ) (stripe : is_stripe p k s t ≡ true) where
  column_room : d * (p * s) + p * s ≤ length t
  column_room = omega (arith, cell_fits (k + 2) (p * s) d disk, stripe_long_lem p k s t stripe)

  -- a column of bytes put in for it
  module _ (col : List ℕ) (long : length col ≡ p * s) (bytes : all_bytes col ≡ true) where
    pub column_stripe : is_stripe p k s (with_column p s d col t) ≡ true
    column_stripe = stripe_of p k s (with_column p s d col t) (length_column p s d col t long column_room ∙ stripe_long_lem p k s t stripe) (bytes_with (p * s) d col t bytes (stripe_bytes p k s t stripe))

    pub column_explains : clean p k s (with_column p s d col t) ≡ true → Explains p k s d t (with_column p s d col t)
    column_explains h = record { stripe = column_stripe; cleans = h; alike = λ x l n. sym (cell_off p s d col t long column_room x (some_row p (k + 2) x l) n) }

-- one disk of a width: our plan for it is accepted
module _ (p k s d : ℕ) (width : is_width p ≡ true) (most : k ≤ p) (disk : d < k + 2) (t : List ℕ) (stripe : is_stripe p k s t ≡ true) where
  ok : accepted p k d (plan_of p k d) ≡ true
  ok = plan_accepted p k d width most (omega arith)

  long : length (rebuilt p k s d t) ≡ p * s
  long = rebuilt_long p k s d ok disk t stripe

  bytes : all_bytes (rebuilt p k s d t) ≡ true
  bytes = rebuilt_bytes p k s d ok disk t stripe

  -- it fits: the stripe with the disk rebuilt explains t
  pub fits_explains : fits p k s d t ≡ true → Explains p k s d t (with_rebuilt p k s d t)
  unfolding fits
  fits_explains h = column_explains p k s d disk t stripe (rebuilt p k s d t) long bytes h

  -- where some stripe explains t, its column is the rebuilt one
  pub explains_column : (u : List ℕ) → Explains p k s d t u → column_of p s d u ≡ rebuilt p k s d t
  explains_column u e = sym (one_back p k s d ok disk t u stripe e.stripe e.cleans e.alike)

  -- so it is t with that column, and the disk fits
  pub explains_fits : (u : List ℕ) → Explains p k s d t u → fits p k s d t ≡ true
  unfolding fits
  explains_fits u e = ap (clean p k s) (sym same) ∙ e.cleans
    where
      v : List ℕ
      v = with_rebuilt p k s d t

      room : d * (p * s) + p * s ≤ length t
      room = column_room p k s d disk t stripe

      off : (x : ℕ) → x < p * (k + 2) → (disk_at p x ≡ d → ⊥) → cell_at s u x ≡ cell_at s v x
      off x l n = sym (e.alike x l n) ∙ sym (cell_off p s d (rebuilt p k s d t) t long room x (some_row p (k + 2) x l) n)

      on : (r : ℕ) → r < p → cell_at s u (place p r d) ≡ cell_at s v (place p r d)
      on r l =
          sym (column_cell p s d r u l)
          ∙ ap (λ (c : List ℕ). cell_at s c r) (explains_column u e ∙ sym (column_with p s d (rebuilt p k s d t) t long room))
          ∙ column_cell p s d r v l

      same : u ≡ v
      same = stripes_alike p k s d u v e.stripe (column_stripe p k s d disk t stripe (rebuilt p k s d t) long bytes) off on

  -- no stripe does: it does not fit
  pub none_unfit : ((u : List ℕ) → Explains p k s d t u → ⊥) → fits p k s d t ≡ false
  none_unfit n = ⊎_elim (λ h. absurd (n (with_rebuilt p k s d t) (fits_explains h))) (λ h. h) (flag (fits p k s d t))

-- a stripe explained by two different disks is clean
module _ (p k s a b : ℕ) (width : is_width p ≡ true) (most : k ≤ p) (ha : a < k + 2) (hb : b < k + 2) (t : List ℕ) (stripe : is_stripe p k s t ≡ true) where
  two_clean : (a ≡ b → ⊥) → (u v : List ℕ) → Explains p k s a t u → Explains p k s b t v → clean p k s t ≡ true
  two_clean apart u v eu ev = ap (clean p k s) t_is_u ∙ eu.cleans
    where
      u_is_v : u ≡ v
      u_is_v = pair_only p k s a b width most ha hb apart u v eu.stripe ev.stripe eu.cleans ev.cleans (λ x l m n. sym (eu.alike x l m) ∙ ev.alike x l n)

      on_a : (x : ℕ) → x < p * (k + 2) → disk_at p x ≡ a → cell_at s t x ≡ cell_at s u x
      on_a x l q = ev.alike x l (λ e. apart (sym q ∙ e)) ∙ ap (λ (w : List ℕ). cell_at s w x) (sym u_is_v)

      t_is_u : t ≡ u
      t_is_u = stripes_equal p k s t u stripe eu.stripe (λ x l. ⊎_elim (on_a x l) (eu.alike x l) (eq_or_ne (disk_at p x) a))

  pub explains_once : clean p k s t ≡ false → (u v : List ℕ) → Explains p k s a t u → Explains p k s b t v → a ≡ b
  explains_once dirty u v eu ev = ⊎_elim (λ q. q) (λ n. clash (clean p k s t) (two_clean n u v eu ev) dirty) (eq_or_ne a b)
