-- Which rows of the lost data disk the sets used by an accepted plan hold as ordinary cells. R r:
-- the row set of row r is used; J r: the diagonal is used on which row r is ordinary.
-- If no cell is rebuilt through an extra cell, each row has just one of the two. Else the diagonal
-- z that rebuilds its extra cell has its cells on the lost disk in rows j = p - 1 - z and j + 1:
-- row j has neither set, row j + 1 has both, and every other row has one.
use mathlib.Core.Path.{◌≡◌, refl, sym, ap, ap₂, ◌∙◌}
use mathlib.Core.Bool.{Bool, true, false, ◌&&◌, ◌||◌, not}
use mathlib.Core.Logic.{◌⊎◌, inl, inr, ⊎_elim}
use mathlib.Core.List.{List, []}
use Prim.Native.Nat.{ℕ, suc, ◌+◌, ◌-◌, ◌%◌, ◌≤◌, ◌<◌}
use native.Mathlib.Nat.{mod-lt, mod-eq_of_lt, add-mod_right}
use native.Mathlib.Omega.{arith}
use lib.Dec.{eqb, leb}
use borrow.Author.Tests.{eqb-true, eq-eqb, ne_eqb, leb-true, not-true}
use Rattle.mathematics.specs.Choice.{when}
use Rattle.mathematics.specs.Sums.{sum_to}
use Rattle.mathematics.proofs.AllLaws.{all_at}
use Rattle.mathematics.proofs.Flags.{flag, and_l, and_r, or_cases, clash}
use Rattle.mathematics.proofs.OrderLaws.{eq_or_ne}
use Rattle.mathematics.proofs.SumLaws.{sum_ext, sum_add, sum_more, none_all}
use Rattle.mathematics.proofs.ShiftLaws.{when_or}
use Rattle.liberation.specs.Sets.{extra_row, extra_disk, diagonal_set}
use Rattle.liberation.specs.Plans.{Step, diagonal_of}
use Rattle.liberation.specs.Judging.{accepted}
use Rattle.liberation.specs.Claims.{uses, diagonals_used, by_extra}
use Rattle.liberation.proofs.SetLaws.{in_lost, in_diagonal_data, extra_cases, extra_once}
use Rattle.liberation.proofs.AcceptedLaws.{Passes, accepted_passes, used_total, rebuilds, uses_rebuilds, rebuilt_passed, row_once, row_number, diagonal_row, meets}
use Rattle.liberation.proofs.RowSteps.{ordinary_row, ordinary_diagonal}
use Rattle.liberation.proofs.BalancedPlan.Shares.{sum_above}
use Rattle.liberation.proofs.ReliefPlan.FlagSums.{sum_full, sum_diagonals}

on : (b : Bool) → 0 < when b 1 → b ≡ true
on true q = refl
on false q = absurd (omega arith)

module _ (p f : ℕ) (odd : p % 2 ≡ 1) (h : f < p) (ss : List Step) (t : accepted p p f ss ≡ true) where
  some : 0 < p
  some = omega arith

  ok : Passes p p f [] ss
  ok = accepted_passes p p f ss t

  unfoldable pub R : ℕ → Bool
  R r = uses 0 r ss

  unfoldable pub J : ℕ → Bool
  J r = uses 1 (diagonal_of p f r) ss

  pub J-diagonal : (z : ℕ) → z < p → J ((z + f) % p) ≡ uses 1 z ss
  unfolding J
  J-diagonal z l = ap (λ (x : ℕ). uses 1 x ss) (ordinary_diagonal p f z h l)

  pub J-count : sum_to p (λ r. when (J r) 1) ≡ diagonals_used p ss
  unfolding J diagonals_used
  J-count = sum_diagonals p f some (omega arith) (λ z. when (uses 1 z ss) 1)

  pub total : sum_to p (λ r. when (R r) 1) + sum_to p (λ r. when (J r) 1) ≡ p
  unfolding R diagonals_used
  total = ap (λ (n : ℕ). sum_to p (λ r. when (uses 0 r ss) 1) + n) J-count ∙ used_total p p f ss t

  -- the rows with both, as meets counts them
  both_count : sum_to p (λ r. when (R r && J r) 1) ≡ when (by_extra p p f ss) 1
  unfolding R J
  both_count =
      sum_ext p (λ r. when (uses 0 r ss && uses 1 (diagonal_of p f r) ss) 1) (λ r. both (diagonal_of p f r)) (λ r l. flip (uses 0 r ss) (uses 1 (diagonal_of p f r) ss) (ap (λ (x : ℕ). uses 0 x ss) (sym (ordinary_row p f r h l))))
      ∙ sum_diagonals p f some (omega arith) both
      ∙ meets p f ss odd h t
    where
      both : ℕ → ℕ
      both z = when (uses 1 z ss && uses 0 ((z + f) % p) ss) 1

      flip : (a b : Bool) {c : Bool} → a ≡ c → when (a && b) 1 ≡ when (b && c) 1
      flip true true e = ap (λ (x : Bool). when x 1) e
      flip true false e = refl
      flip false true e = ap (λ (x : Bool). when x 1) e
      flip false false e = refl

  either_count : sum_to p (λ r. when (R r || J r) 1) + when (by_extra p p f ss) 1 ≡ p
  either_count =
      omega (
        arith,
        total,
        both_count,
        sum_add p (λ r. when (R r || J r) 1) (λ r. when (R r && J r) 1),
        sum_add p (λ r. when (R r) 1) (λ r. when (J r) 1),
        sum_ext p (λ r. when (R r || J r) 1 + when (R r && J r) 1) (λ r. when (R r) 1 + when (J r) 1) (λ r l. when_or (R r) (J r)),
      )

  -- one of the two, and not both
  one : (a b : Bool) → (a || b) ≡ true → (a && b) ≡ false → when a 1 + when b 1 ≡ 1
  one true true o n = clash true refl n
  one true false o n = refl
  one false true o n = refl
  one false false o n = clash false o refl

  pub plain_rows : by_extra p p f ss ≡ false → (r : ℕ) → r < p → when (R r) 1 + when (J r) 1 ≡ 1
  plain_rows e r l =
      let none : when (by_extra p p f ss) 1 ≡ 0 = ap (λ (b : Bool). when b 1) e in
      one (R r) (J r)
      (sum_full p (λ i. R i || J i) (omega (arith, none, either_count)) r l)
      (not-true (R r && J r) (all_at p (λ i. not (R i && J i)) (none_all p (λ i. R i && J i) (both_count ∙ none)) r l))

  -- a used row set rebuilds its own row
  row_rebuilt : (r : ℕ) → R r ≡ true → rebuilds r 0 r ss ≡ true
  unfolding R
  row_rebuilt r u = let v = uses_rebuilds 0 r ss u in ap (λ (x : ℕ). rebuilds x 0 r ss) (sym (row_number p f odd h ss ok v.0 r v.1)) ∙ v.1

  -- a used diagonal whose ordinary row has its row set in use rebuilds its extra cell
  both_extra : (z : ℕ) → uses 1 z ss ≡ true → R ((z + f) % p) ≡ true → (extra_disk p z ≡ f) × (1 ≤ z) × (z < p) × (rebuilds (p - 1 - z) 1 z ss ≡ true)
  both_extra z u v =
      let w = uses_rebuilds 1 z ss u in
      let g = (rebuilt_passed p p f w.0 1 z ok w.1).1 in
      go w.0 w.1 g.number_below
      (or_cases (eqb w.0 ((z + f) % p)) (leb 1 z && (eqb w.0 (extra_row p z) && eqb f (extra_disk p z)))
      (sym (in_diagonal_data p z w.0 f odd g.row_below g.number_below h) ∙ sym (in_lost p f w.0 (diagonal_set p p z) g.row_below) ∙ g.lost))
    where
      go : (r : ℕ) → rebuilds r 1 z ss ≡ true → z < p → (eqb r ((z + f) % p) ≡ true) ⊎ ((leb 1 z && (eqb r (extra_row p z) && eqb f (extra_disk p z))) ≡ true) → (extra_disk p z ≡ f) × (1 ≤ z) × (z < p) × (rebuilds (p - 1 - z) 1 z ss ≡ true)
      go r b l (inl e) = absurd (omega (arith, (row_once p p f ((z + f) % p) 0 ((z + f) % p) 1 z ok (row_rebuilt ((z + f) % p) v) (ap (λ (x : ℕ). rebuilds x 1 z ss) (sym (eqb-true r ((z + f) % p) e)) ∙ b)).0))
      go r b l (inr e) =
          let last = and_r (leb 1 z) (eqb r (extra_row p z) && eqb f (extra_disk p z)) e in (
            sym (eqb-true f (extra_disk p z) (and_r (eqb r (extra_row p z)) (eqb f (extra_disk p z)) last)),
            leb-true 1 z (and_l _ _ e),
            l,
            ap (λ (x : ℕ). rebuilds x 1 z ss) (sym (eqb-true r (extra_row p z) (and_l _ _ last))) ∙ b,
          )

  -- its two rows on the lost disk follow one another
  row_after_lem : (z : ℕ) → 1 ≤ z → z < p → extra_disk p z ≡ f → (z + f) % p ≡ suc (p - 1 - z)
  row_after_lem z low high e =
      ⊎_elim
      (λ w. let q : z + f ≡ suc (p - 1 - z) = omega (arith, w.1) in ap (λ (x : ℕ). x % p) q ∙ mod-eq_of_lt (omega arith))
      (λ w. let q : z + f ≡ suc (p - 1 - z) + p = omega (arith, w.1) in ap (λ (x : ℕ). x % p) q ∙ add-mod_right (suc (p - 1 - z)) p ∙ mod-eq_of_lt (omega arith))
      (extra_cases p z high)

  Moved : ℕ → Type 0
  Moved j = (suc j < p) × (J (suc j) ≡ true) × (J j ≡ false) × ((r : ℕ) → r < p → when (R r) 1 + when (J r) 1 + when (eqb r j) 1 ≡ 1 + when (eqb r (suc j)) 1)

  module _ (e : by_extra p p f ss ≡ true) (z : ℕ) (u : uses 1 z ss ≡ true) (v : R ((z + f) % p) ≡ true) where
    x : (extra_disk p z ≡ f) × (1 ≤ z) × (z < p) × (rebuilds (p - 1 - z) 1 z ss ≡ true)
    x = both_extra z u v

    j : ℕ
    j = p - 1 - z

    after : (z + f) % p ≡ suc j
    unfolding j
    after = row_after_lem z x.1 x.2 x.0

    -- only one diagonal has its extra cell on the lost disk, and its ordinary row is j + 1
    only : (r : ℕ) → r < p → extra_disk p (diagonal_of p f r) ≡ f → r ≡ suc j
    only r l q =
        sym (ordinary_row p f r h l)
        ∙ ap (λ (y : ℕ). (y + f) % p) (extra_once p (diagonal_of p f r) z odd (mod-lt (r + p - f) some) x.2 (q ∙ sym x.0))
        ∙ after

    R-none : R j ≡ false
    unfolding j
    R-none = ⊎_elim (λ q. absurd (omega (arith, (row_once p p f j 0 j 1 z ok (row_rebuilt j q) x.3).0))) (λ q. q) (flag (R j))

    j_below : j < p
    unfolding j
    j_below = omega arith

    J-none : J j ≡ false
    unfolding j J
    J-none = ⊎_elim (λ q. absurd (there q)) (λ q. q) (flag (J j))
      where
        there : uses 1 (diagonal_of p f j) ss ≡ true → ⊥
        there q =
            let w = uses_rebuilds 1 (diagonal_of p f j) ss q in
            ⊎_elim
            (λ n. let s = (row_once p p f j 1 (diagonal_of p f j) 1 z ok (ap (λ (y : ℕ). rebuilds y 1 (diagonal_of p f j) ss) (sym (n ∙ ordinary_row p f j h j_below)) ∙ w.1) x.3).1 in omega (arith, sym (ordinary_row p f j h j_below) ∙ ap (λ (y : ℕ). (y + f) % p) s ∙ after))
            (λ n. omega (arith, only j j_below n))
            (diagonal_row p f odd h ss ok w.0 (diagonal_of p f j) w.1)

    rows : (r : ℕ) → r < p → when (R r) 1 + when (J r) 1 + when (eqb r j) 1 ≡ 1 + when (eqb r (suc j)) 1
    unfolding J
    rows r l = ⊎_elim at_j (λ n. ⊎_elim (at_next n) (elsewhere n) (eq_or_ne r (suc j))) (eq_or_ne r j)
      where
        at_j : r ≡ j → when (R r) 1 + when (J r) 1 + when (eqb r j) 1 ≡ 1 + when (eqb r (suc j)) 1
        at_j q = omega (arith, ap (λ (i : ℕ). when (R i) 1) q, ap (λ (i : ℕ). when (J i) 1) q, ap (λ (b : Bool). when b 1) R-none, ap (λ (b : Bool). when b 1) J-none, ap (λ (b : Bool). when b 1) (eq-eqb r j q), ap (λ (b : Bool). when b 1) (ne_eqb r (suc j) (λ m. omega arith)))

        at_next : (r ≡ j → ⊥) → r ≡ suc j → when (R r) 1 + when (J r) 1 + when (eqb r j) 1 ≡ 1 + when (eqb r (suc j)) 1
        at_next n q =
            omega (
              arith,
              ap (λ (i : ℕ). when (R i) 1) (q ∙ sym after) ∙ ap (λ (b : Bool). when b 1) v,
              ap (λ (i : ℕ). when (J i) 1) (q ∙ sym after) ∙ ap (λ (b : Bool). when b 1) (J-diagonal z x.2 ∙ u),
              ap (λ (b : Bool). when b 1) (ne_eqb r j n),
              ap (λ (b : Bool). when b 1) (eq-eqb r (suc j) q),
            )

        both : R r ≡ true → J r ≡ true → r ≡ suc j
        both a b = only r l (both_extra (diagonal_of p f r) b (ap R (ordinary_row p f r h l) ∙ a)).0

        not_both : (a b : Bool) → R r ≡ a → J r ≡ b → (r ≡ suc j → ⊥) → (a && b) ≡ false
        not_both true true ea eb n = absurd (n (both ea eb))
        not_both true false ea eb n = refl
        not_both false b ea eb n = refl

        elsewhere : (r ≡ j → ⊥) → (r ≡ suc j → ⊥) → when (R r) 1 + when (J r) 1 + when (eqb r j) 1 ≡ 1 + when (eqb r (suc j)) 1
        elsewhere n m =
            let all = sum_full p (λ i. eqb i j || (R i || J i)) (omega (arith, sum_more p j (λ i. R i || J i) j_below (ap₂ ◌||◌ R-none J-none), either_count, ap (λ (b : Bool). when b 1) e)) r l in
            let had : (R r || J r) ≡ true = ap (λ (b : Bool). b || (R r || J r)) (sym (ne_eqb r j n)) ∙ all in
            omega (
              arith,
              one (R r) (J r) had (not_both (R r) (J r) refl refl m),
              ap (λ (b : Bool). when b 1) (ne_eqb r j n),
              ap (λ (b : Bool). when b 1) (ne_eqb r (suc j) m),
            )

    moved_at : Moved (p - 1 - z)
    unfolding j Moved
    moved_at = (omega (arith, x.1, x.2), ap J (sym after) ∙ J-diagonal z x.2 ∙ u, J-none, rows)

  pub moved_rows : by_extra p p f ss ≡ true → (j : ℕ) × (suc j < p) × (J (suc j) ≡ true) × (J j ≡ false) × ((r : ℕ) → r < p → when (R r) 1 + when (J r) 1 + when (eqb r j) 1 ≡ 1 + when (eqb r (suc j)) 1)
  unfolding Moved J
  moved_rows e =
      let w = sum_above p 0 (λ r. when (R r && J r) 1) (omega (arith, both_count, ap (λ (b : Bool). when b 1) e)) in
      let b = on (R w.0 && J w.0) w.2 in
      let m = moved_at e (diagonal_of p f w.0) (and_r (R w.0) (J w.0) b) (ap R (ordinary_row p f w.0 h w.1) ∙ and_l (R w.0) (J w.0) b) in
      (p - 1 - diagonal_of p f w.0, m.0, m.1, m.2, m.3)
