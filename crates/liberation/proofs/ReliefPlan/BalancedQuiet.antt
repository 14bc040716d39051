-- The busiest survivor of a part-filled array. On surviving data disk c an accepted plan leaves
-- unread at most the cells of the rows r whose row set is used and for which the diagonal of row r
-- - (c - f) is used: X (f - c) of them, in the words of CutLaws.
-- Over the (p - 1)/2 disks next after f, or next before it, these are t(p - t)/2 together at most,
-- so (p² - 1)/8; hence some disk of these gives (3p - 1)/4 cells at least.
use mathlib.Core.Path.{◌≡◌, sym, ap, ap₂, ◌∙◌}
use mathlib.Core.Bool.{Bool, true, false, ◌&&◌, ◌||◌}
use mathlib.Core.Logic.{◌⊎◌, inl, inr, ⊎_elim}
use mathlib.Core.List.{List}
use Prim.Native.Nat.{ℕ, suc, ◌+◌, ◌-◌, ◌*◌, ◌/◌, ◌%◌, ◌≤◌, ◌<◌}
use native.Mathlib.Nat.{mod-lt, mod-add-mod, add-mod_right, mul-le-mul_left}
use native.Mathlib.Omega.{arith}
use lib.Dec.{eqb, leb}
use Rattle.mathematics.specs.Choice.{when}
use Rattle.mathematics.specs.Sums.{sum_to}
use Rattle.mathematics.proofs.Flags.{flag}
use Rattle.mathematics.proofs.SumLaws.{sum_ext, sum_add, sum_const, sum_mono}
use Rattle.mathematics.proofs.ShiftLaws.{sum_shifted, when_or}
use Rattle.liberation.specs.Sets.{extra_disk}
use Rattle.liberation.specs.Plans.{Step}
use Rattle.liberation.specs.Judging.{accepted}
use Rattle.liberation.specs.Claims.{uses, by_extra}
use Rattle.liberation.proofs.Widths.{width_odd, width_least}
use Rattle.liberation.proofs.UsedLaws.{named_numbers, holds_data}
use Rattle.liberation.proofs.AcceptedLaws.{accepted_named}
use Rattle.liberation.proofs.PartLaws.{full_data, accepted_part}
use Rattle.liberation.proofs.Bounds.{split_most}
use Rattle.liberation.specs.BalancedPlan.Balanced.{reads_of, fair_share}
use Rattle.liberation.proofs.BalancedPlan.Shares.{sum_above, reads_other, reads_part}
use Rattle.liberation.proofs.BalancedPlan.BalancedShares.{plans_balanced_part}
use Rattle.liberation.specs.ReliefPlan.Quiet.{PlansBalancedQuiet}
use Rattle.liberation.proofs.ReliefPlan.CutLaws as cut
use Rattle.liberation.proofs.ReliefPlan.RowsTaken as rows

either_most : (a b c : Bool) → when (a || b) 1 ≤ when (a || (b || c)) 1
either_most true b c = omega arith
either_most false true c = omega arith
either_most false false c = omega arith

-- t(p - t), and twice h t less t(t - 1)
cut_size : (p h t a : ℕ) → p ≡ 2 * h + 1 → t ≤ p → 2 * a + t ≡ t * t → 2 * (h * t) ≡ t * (p - t) + 2 * a
cut_size p h t a size few e = with_rest (p - t) (omega arith)
  where
    with_rest : (q : ℕ) → p ≡ q + t → 2 * (h * t) ≡ t * q + 2 * a
    with_rest q d = omega (arith, ap (λ (x : ℕ). x * t) (sym size ∙ d))

-- h numbers of h p - n together, where 8 n is less than p², are more than h b together
too_few : (p h b n s : ℕ) → p ≡ 2 * h + 1 → 3 ≤ p → 4 * b + 2 ≤ 3 * p → 8 * n + 1 ≤ p * p → h * p ≤ s + n → h * b < s
too_few p h b n s size large l m k = omega (arith, ap (λ (x : ℕ). x * x) size, ap (λ (x : ℕ). h * x) size, mul-le-mul_left h l)

module _ (p f : ℕ) (odd : p % 2 ≡ 1) (large : 3 ≤ p) (lost : f < p) (ss : List Step) (t : accepted p p f ss ≡ true) where
  h : ℕ
  h = (p - 1) / 2

  size : p ≡ 2 * h + 1
  unfolding h
  size = omega arith

  J : ℕ → Bool
  J = rows.J p f odd lost ss t

  R : ℕ → Bool
  R = rows.R p f odd lost ss t

  w : ℕ → ℕ
  w = cut.w p h size J

  met : ℕ → ℕ
  met = cut.met p h size J R

  used : ℕ
  used = cut.held p h size J

  alike : ℕ → ℕ
  alike = cut.alike p h size J

  -- a set of rows as RowsTaken tells them, in the words of CutLaws
  as_w : (a r : ℕ) → r < p → a + when (J r) 1 ≡ a + w r
  unfolding w
  as_w a r l = ap (λ (x : ℕ). a + x) (sym (cut.w_at p h size J r l))

  few : sum_to h (λ i. met (suc i)) + sum_to h (λ i. alike (suc i)) ≤ h * used
  unfolding w met alike used J R
  few = ⊎_elim moved plain (flag (by_extra p p f ss))
    where
      plain : by_extra p p f ss ≡ false → sum_to h (λ i. met (suc i)) + sum_to h (λ i. alike (suc i)) ≤ h * used
      plain e = cut.plain_few p h size J R (λ r l. sym (as_w (when (R r) 1) r l) ∙ rows.plain_rows p f odd lost ss t e r l)

      moved : by_extra p p f ss ≡ true → sum_to h (λ i. met (suc i)) + sum_to h (λ i. alike (suc i)) ≤ h * used
      moved e =
          let m = rows.moved_rows p f odd lost ss t e in
          cut.moved_few p h size J R m.0 m.1 (λ r l. ap (λ (x : ℕ). x + when (eqb r m.0) 1) (sym (as_w (when (R r) 1) r l)) ∙ m.4 r l)
          (cut.w_at p h size J (suc m.0) m.1 ∙ ap (λ (b : Bool). when b 1) m.2)

  few_back : sum_to h (λ i. met (p - suc i)) + sum_to h (λ i. alike (suc i)) ≤ h * used
  unfolding w met alike used J R
  few_back = ⊎_elim moved plain (flag (by_extra p p f ss))
    where
      plain : by_extra p p f ss ≡ false → sum_to h (λ i. met (p - suc i)) + sum_to h (λ i. alike (suc i)) ≤ h * used
      plain e = cut.plain_few_back p h size J R (λ r l. sym (as_w (when (R r) 1) r l) ∙ rows.plain_rows p f odd lost ss t e r l)

      moved : by_extra p p f ss ≡ true → sum_to h (λ i. met (p - suc i)) + sum_to h (λ i. alike (suc i)) ≤ h * used
      moved e =
          let m = rows.moved_rows p f odd lost ss t e in
          cut.moved_few_back p h size J R m.0 m.1 (λ r l. ap (λ (x : ℕ). x + when (eqb r m.0) 1) (sym (as_w (when (R r) 1) r l)) ∙ m.4 r l)
          (cut.w_at p h size J m.0 (omega (arith, m.1)) ∙ ap (λ (b : Bool). when b 1) m.3)

  -- what a disk gives, and what it is relieved
  share : (c s : ℕ) → c < p → (c ≡ f → ⊥) → ((r : ℕ) → r < p → ((r + p - c) % p + f) % p ≡ (r + s) % p) → p ≤ reads_of p p f c ss + met s
  unfolding met J R rows.R
  share c s l other far =
      omega (
        arith,
        reads_other p p f ss c on other (λ r m. holds_data p r c ss odd m l (accepted_named p p f ss t)),
        sum_mono p (λ r. when (R r || J ((r + s) % p)) 1) (λ r. when (on r) 1) (λ r m. omega (arith, either_most (R r) (uses 1 ((r + p - c) % p) ss) (extra r), ap (λ (b : Bool). when (R r || b) 1) (seen r m))),
        cut.met_is p h size J R s,
        sum_add p (λ r. when (R r || J ((r + s) % p)) 1) (λ r. when (R r && J ((r + s) % p)) 1),
        sum_add p (λ r. when (R r) 1) (λ r. when (J ((r + s) % p)) 1),
        sum_ext p (λ r. when (R r || J ((r + s) % p)) 1 + when (R r && J ((r + s) % p)) 1) (λ r. when (R r) 1 + when (J ((r + s) % p)) 1) (λ r m. when_or (R r) (J ((r + s) % p))),
        sum_shifted p s (omega arith) (λ r. when (J r) 1),
        rows.total p f odd lost ss t,
      )
    where
      extra : ℕ → Bool
      extra r = uses 1 (p - 1 - r) ss && (leb 1 (p - 1 - r) && eqb c (extra_disk p (p - 1 - r)))

      on : ℕ → Bool
      on r = R r || (uses 1 ((r + p - c) % p) ss || extra r)

      seen : (r : ℕ) → r < p → J ((r + s) % p) ≡ uses 1 ((r + p - c) % p) ss
      seen r m = ap J (sym (far r m)) ∙ rows.J-diagonal p f odd lost ss t ((r + p - c) % p) (mod-lt (r + p - c) (omega arith))

  -- what the plan leaves unread on h disks, if it is no more than this, is too little for all of
  -- them to be quiet
  busy : (g s : ℕ → ℕ) → sum_to h (λ i. met (s i)) + sum_to h (λ i. alike (suc i)) ≤ h * used → ((i : ℕ) → i < h → p ≤ reads_of p p f (g i) ss + met (s i)) → (i : ℕ) × (i < h) × (fair_share p ≤ reads_of p p f (g i) ss)
  unfolding alike used J
  busy g s few each =
      let v = sum_above h b (λ i. reads_of p p f (g i) ss) (too_few p h b (sum_to h (λ i. met (s i))) (sum_to h (λ i. reads_of p p f (g i) ss)) size large (omega (arith, odd)) relieved together) in
      (v.0, v.1, omega (arith, v.2, large))
    where
      b : ℕ
      b = fair_share p - 1

      most : used ≤ p
      most = omega (arith, cut.held_is p h size J, rows.total p f odd lost ss t)

      relieved : 8 * sum_to h (λ i. met (s i)) + 1 ≤ p * p
      relieved = omega (arith, few, split_most p used odd most, cut_size p h used (sum_to h (λ i. alike (suc i))) size most (cut.half_alike p h size J))

      together : h * p ≤ sum_to h (λ i. reads_of p p f (g i) ss) + sum_to h (λ i. met (s i))
      together = omega (arith, sum_const h p, sum_mono h (λ i. p) (λ i. reads_of p p f (g i) ss + met (s i)) each, sum_add h (λ i. reads_of p p f (g i) ss) (λ i. met (s i)))

  -- the disks after the lost one, and those before it
  pub busy_after : (p - 1) / 2 + f < p → (c : ℕ) × (f < c) × (c ≤ (p - 1) / 2 + f) × (fair_share p ≤ reads_of p p f c ss)
  unfolding h
  busy_after m =
      let v = busy (λ i. f + suc i) (λ i. p - suc i) few_back (λ i l. share (f + suc i) (p - suc i) (omega arith) (λ e. omega arith) (λ r k. let q : r + p - (f + suc i) + f ≡ r + (p - suc i) = omega arith in mod-add-mod (r + p - (f + suc i)) p f ∙ ap (λ (x : ℕ). x % p) q)) in
      (f + suc v.0, omega arith, omega (arith, v.1), v.2)

  pub busy_before : (p - 1) / 2 ≤ f → (c : ℕ) × (c < f) × (fair_share p ≤ reads_of p p f c ss)
  unfolding h
  busy_before m =
      let v = busy (λ i. f - suc i) (λ i. suc i) few (λ i l. share (f - suc i) (suc i) (omega arith) (λ e. omega arith) (λ r k. let q : r + p - (f - suc i) + f ≡ r + suc i + p = omega arith in mod-add-mod (r + p - (f - suc i)) p f ∙ ap (λ (x : ℕ). x % p) q ∙ add-mod_right (r + suc i) p)) in
      (f - suc v.0, omega (arith, v.1), v.2)

pub plans_balanced_quiet : PlansBalancedQuiet
plans_balanced_quiet p k f w most h side = record { balanced_shares = (plans_balanced_part p k f w most (omega arith)).balanced_shares h; busiest = λ ss t. busiest ss t }
  where
    odd : p % 2 ≡ 1
    odd = width_odd p w

    large : 3 ≤ p
    large = width_least p w

    lost : f < p
    lost = omega arith

    busiest : (ss : List Step) → accepted p k f ss ≡ true → (c : ℕ) × (c < k) × (c ≡ f → ⊥) × (fair_share p ≤ reads_of p k f c ss)
    busiest ss t = go side
      where
        full : accepted p p f ss ≡ true
        full = ap (λ (d : ℕ). accepted p p d ss) (sym (full_data p k f h)) ∙ sym (accepted_part p k most f (omega arith) ss) ∙ t

        here : (c : ℕ) → c < k → reads_of p k f c ss ≡ reads_of p p f c ss
        here c l = reads_part p k f c most (omega arith) ss (named_numbers p ss (accepted_named p k f ss t)) ∙ ap₂ (λ (x y : ℕ). reads_of p p x y ss) (full_data p k f h) (full_data p k c l)

        go : ((p - 1) / 2 ≤ f) ⊎ ((p - 1) / 2 + f < k) → (c : ℕ) × (c < k) × (c ≡ f → ⊥) × (fair_share p ≤ reads_of p k f c ss)
        go (inl m) =
            let v = busy_before p f odd large lost ss full m in
            let l : v.0 < k = omega (arith, v.1) in
            (v.0, l, (λ e. omega (arith, v.1)), omega (arith, v.2, here v.0 l))
        go (inr m) =
            let v = busy_after p f odd large lost ss full (omega arith) in
            let l : v.0 < k = omega (arith, v.2) in
            (v.0, l, (λ e. omega (arith, v.1)), omega (arith, v.3, here v.0 l))
