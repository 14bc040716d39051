-- The cells of a set as they are pushed: the ordinary cells and the extra cell, each but on the
-- lost disks.
use mathlib.Core.Path.{◌≡◌, refl, sym, ap, ap₂, ◌∙◌}
use mathlib.Core.Bool.{Bool, true, false, ◌&&◌, or_comm}
use mathlib.Core.Logic.{⊎_elim}
use mathlib.Core.List.{List, [], ◌∷◌, ◌++◌, append-nil}
use Prim.Native.Nat.{ℕ, suc, ◌+◌, ◌*◌, ◌%◌, ◌≤◌, ◌<◌}
use native.Mathlib.Omega.{arith}
use lib.Dec.{eqb, ltb, leb}
use borrow.Author.Tests.{eq-eqb, ne_eqb, eqb-true, eqb-false, ltb-true, lt-ltb, le-ltb, le-leb, lt-leb}
use Rattle.mathematics.specs.Choice.{pick}
use Rattle.mathematics.specs.Lists.{is_in, all_below}
use Rattle.mathematics.proofs.Flags.{and_l, and_r, and_i, or_cases}
use Rattle.mathematics.proofs.MemberLaws.{in_below}
use Rattle.mathematics.proofs.KeptLaws.{Keeps, kept_same, kept_all}
use Rattle.liberation.specs.Sets.{place, disk_at, row_set, diagonal_set, ordinary, has_extra, extra_disk, extra_row, extra_of, set_of, surviving_in}
use Rattle.liberation.proofs.SetLaws.{disk_place, in_row, in_ordinary, surviving_keeps}
use Rattle.liberation.proofs.PlaceLaws.{disk_below}
use Rattle.stripe_cells.proofs.KeptLaws.{surviving_twice}
use Rattle.stripe_cells.specs.OrdinaryCells.{survivors, ordinary_of}
use Rattle.stripe_cells.proofs.OrdinaryLists.{survivors_keep}
use Rattle.stripe_cells.specs.SetCells.{extra_in}

pub survivors_none : (p x y : ℕ) → survivors p x y [] ≡ []
survivors_none p x y = (survivors_keep p x y).none

-- in either order
pub survivors_swap : (p x y : ℕ) (xs : List ℕ) → survivors p x y xs ≡ survivors p y x xs
survivors_swap p x y xs = kept_same (survivors_keep p x y) (survivors_keep p y x) xs (λ c h. or_comm (eqb (disk_at p c) y) (eqb (disk_at p c) x))

-- one disk, named twice; the cells of a stripe, without a disk that it lacks
pub survivors_one : (p f : ℕ) (xs : List ℕ) → survivors p f f xs ≡ surviving_in p f xs
survivors_one p f xs = surviving_twice p f xs

pub surviving_past : (p f : ℕ) (xs : List ℕ) → all_below (p * f) xs ≡ true → surviving_in p f xs ≡ xs
surviving_past p f xs h = kept_all (surviving_keeps p f) xs (λ x i. ne_eqb (disk_at p x) f (λ e. omega (arith, disk_below p f x (in_below (p * f) x xs h i))))

pub survivors_past : (p f : ℕ) (xs : List ℕ) → all_below (p * f) xs ≡ true → survivors p f f xs ≡ xs
survivors_past p f xs h = survivors_one p f xs ∙ surviving_past p f xs h

module _ (p k kind i : ℕ) where
  -- the ordinary cells, and the extra cell
  pub set_split : set_of p k kind i ≡ ordinary_of p k kind i ++ extra_in p k kind i
  unfolding diagonal_set
  set_split = go (eqb kind 0)
    where
      go : (b : Bool) → pick b (row_set p k i) (diagonal_set p k i) ≡ pick b (row_set p k i) (ordinary p k i) ++ pick b [] (pick (has_extra p k i) (extra_of p i ∷ []) [])
      go true = sym (append-nil (row_set p k i))
      go false = refl

  -- there is no extra cell, or there is one
  no_extra : has_extra p k i ≡ false → extra_in p k kind i ≡ []
  no_extra h = ap (λ (b : Bool). pick (eqb kind 0) [] (pick b (extra_of p i ∷ []) [])) h ∙ go (eqb kind 0)
    where
      go : (b : Bool) → ◌≡◌ {A = List ℕ} (pick b [] []) []
      go true = refl
      go false = refl

  pub extra_row_lem : kind ≡ 0 → extra_in p k kind i ≡ []
  extra_row_lem e = ap (λ (b : Bool). pick b [] (pick (has_extra p k i) (extra_of p i ∷ []) [])) (eq-eqb kind 0 e)

  pub extra_first : i ≡ 0 → extra_in p k kind i ≡ []
  extra_first e = no_extra (ap (λ (b : Bool). b && ltb (extra_disk p i) k) (lt-leb 1 i (omega arith)))

  pub extra_absent : (i ≡ 0 → ⊥) → k ≤ extra_disk p i → extra_in p k kind i ≡ []
  extra_absent n h = no_extra (ap (λ (b : Bool). b && ltb (extra_disk p i) k) (le-leb 1 i (omega arith)) ∙ le-ltb (extra_disk p i) k h)

  pub extra_some : (kind ≡ 0 → ⊥) → (i ≡ 0 → ⊥) → extra_disk p i < k → extra_in p k kind i ≡ extra_of p i ∷ []
  extra_some n m h = ap₂ (λ (a b : Bool). pick a [] (pick b (extra_of p i ∷ []) [])) (ne_eqb kind 0 n) (and_i (leb 1 i) (ltb (extra_disk p i) k) (le-leb 1 i (omega arith)) (lt-ltb (extra_disk p i) k h))

  module _ (numbered : i < p) where
    -- what each extra cell has, if there is one: its disk is a data disk, and it is no ordinary
    -- cell
    pub extra_kept : {gone : ℕ → Bool} {kept : List ℕ → List ℕ} → Keeps gone kept → ((kind ≡ 0 → ⊥) → has_extra p k i ≡ true → gone (extra_of p i) ≡ false) → kept (extra_in p k kind i) ≡ extra_in p k kind i
    extra_kept {gone} {kept} w f = go (eqb kind 0) (has_extra p k i) refl refl
      where
        go : (a b : Bool) → eqb kind 0 ≡ a → has_extra p k i ≡ b → kept (pick a [] (pick b (extra_of p i ∷ []) [])) ≡ pick a [] (pick b (extra_of p i ∷ []) [])
        go true b e h = w.none
        go false false e h = w.none
        go false true e h = w.next (extra_of p i) [] ∙ ap₂ (λ (t : Bool) (l : List ℕ). pick t l (extra_of p i ∷ l)) (f (eqb-false kind 0 e) h) w.none

    extra_past : (f : ℕ) → k ≤ f → surviving_in p f (extra_in p k kind i) ≡ extra_in p k kind i
    extra_past f h =
        extra_kept (surviving_keeps p f)
        (λ n e. let d : extra_disk p i < k = ltb-true (extra_disk p i) k (and_r (leb 1 i) (ltb (extra_disk p i) k) e) in
        let r : extra_row p i < p = omega arith in
        ne_eqb (disk_at p (extra_of p i)) f (λ q. omega (arith, disk_place p (extra_row p i) (extra_disk p i) r)))

    pub extra_survives : (f : ℕ) → k ≤ f → survivors p f f (extra_in p k kind i) ≡ extra_in p k kind i
    extra_survives f h = ap (surviving_in p f) (extra_past f h) ∙ extra_past f h

    -- the row of the ordinary cell on disk c
    pub own_row : (r c : ℕ) → r < p → is_in (place p r c) (ordinary_of p k kind i) ≡ true → r ≡ pick (eqb kind 0) i (pick (ltb c k) ((i + c) % p) i)
    own_row r c h = go (eqb kind 0)
      where
        on_data : ((ltb c k && eqb r ((i + c) % p)) ≡ true) → r ≡ pick (ltb c k) ((i + c) % p) i
        on_data e = eqb-true r ((i + c) % p) (and_r (ltb c k) (eqb r ((i + c) % p)) e) ∙ sym (ap (λ (b : Bool). pick b ((i + c) % p) i) (and_l (ltb c k) (eqb r ((i + c) % p)) e))

        on_parity : ((eqb c (suc k) && eqb r i) ≡ true) → r ≡ pick (ltb c k) ((i + c) % p) i
        on_parity e =
            let q : c ≡ suc k = eqb-true c (suc k) (and_l (eqb c (suc k)) (eqb r i) e) in
            eqb-true r i (and_r (eqb c (suc k)) (eqb r i) e) ∙ sym (ap (λ (b : Bool). pick b ((i + c) % p) i) (le-ltb c k (omega arith)))

        go : (b : Bool) → is_in (place p r c) (pick b (row_set p k i) (ordinary p k i)) ≡ true → r ≡ pick b i (pick (ltb c k) ((i + c) % p) i)
        go true e = eqb-true r i (and_l (eqb r i) (leb c k) (sym (in_row p k i r c h numbered) ∙ e))
        go false e = ⊎_elim on_data on_parity (or_cases (ltb c k && eqb r ((i + c) % p)) (eqb c (suc k) && eqb r i) (sym (in_ordinary p k i r c h numbered) ∙ e))
