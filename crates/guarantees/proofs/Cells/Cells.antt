-- The mend of missing cells, from its promise alone: it is refused by 23 exactly if two different
-- clean stripes agree in all cells that are not missing.
-- Where it is accepted, all other bytes stand, what the missing cells held does not matter, and
-- survivors of a clean stripe bring that one back. Missing cells on two disks are always mended,
-- two whole disks as by the rebuild of the two; one whole disk by its row sets, Q by the diagonals.
use mathlib.Core.Path.{◌≡◌, refl, sym, ap, ap₂, subst, ◌∙◌}
use mathlib.Core.Bool.{Bool, true, false, not}
use mathlib.Core.List.{List}
use mathlib.Core.Logic.{◌⊎◌, ⊎_elim}
use Prim.Native.Nat.{ℕ, ◌+◌, ◌-◌, ◌*◌, ◌≤◌, ◌<◌}
use native.Mathlib.Nat.{mod-lt, mul-le-mul_right}
use native.Mathlib.Omega.{arith}
use lib.Dec.{eqb}
use lib.ListN.{length, get_or}
use borrow.Author.Tests.{eqb-true, eq-eqb, le-ltb, not-false}
use Rattle.mathematics.specs.Choice.{pick, when, first_of}
use Rattle.mathematics.specs.Lists.{is_in, all_below}
use Rattle.mathematics.proofs.ChoiceLaws.{first_none, when_none, pick_refused}
use Rattle.mathematics.proofs.Flags.{flag}
use Rattle.liberation.specs.Limits.{InArray}
use Rattle.liberation.specs.Sets.{disk_at, row_at, shape_refusal, long_refusal}
use Rattle.liberation.specs.Plans.{all_of, data_plan, plan_of}
use Rattle.liberation.proofs.SetLaws.{disk_place, place_of}
use Rattle.liberation.proofs.RefusalLaws.{shape_of}
use Rattle.liberation.specs.Stripes.Stripes.{cell_at, column_of, stripe_long, is_stripe, clean, followed, rebuilt}
use Rattle.liberation.proofs.Stripes.SizedLaws.{sized_long}
use Rattle.liberation.proofs.Stripes.Solving.{stripe_of}
use Rattle.liberation.specs.TwoDisks.Pairs.{pair_solved}
use Rattle.rebuild_cells.specs.Theory.Mending.{missing_cells, mendable, mended_cells, AlikeOff, Determined, TwoClean}
use Rattle.rebuild_cells.proofs.Theory.Marked.{missing_in, missing_distinct, missing_below, missing_run}
use Rattle.rebuild_cells.proofs.Theory.MendLaws.{mended_off, mended_alike, mended_back, mendable_determined, mendable_few}
use Rattle.rebuild_cells.proofs.Theory.Exact.{refused_two, determined_mendable}
use Rattle.rebuild_cells.proofs.Theory.WholeDisks.{disks_mendable, disks_whole}
use Rattle.rebuild_cells.proofs.Theory.OneDisk.{disk_mendable, disk_mended, q_mendable, q_mended}
use Rattle.rebuild_cells.specs.Listed.{RunFrom}
use Rattle.refusals.specs.declared.answer.Answer.{Answer}
use Rattle.rebuild_cells.specs.Says.{lent_refusal, mend_refusal, RebuildCellsSays}
use Rattle.rebuild_cells.proofs.MendRefusals.{lent_none}
use Rattle.guarantees.specs.Limits.Limits.{by, Within as Inside, Decides}
use Rattle.guarantees.specs.Limits.Calls.{marked_stripe, rebuild_cells}
use Rattle.guarantees.proofs.Limits.LimitLaws.{within_zero, comes_after}
use Rattle.guarantees.proofs.Limits.CallLimits.{marked_decides}
use Rattle.guarantees.proofs.Limits.Demand1.{demand1}

-- what refusals 1, 13, 2 and 5 leave
record Within (p k s : ℕ) (ms t : List ℕ) : Type 0 where
  array : InArray p k
  some : 0 < s
  stripe : is_stripe p k s t ≡ true
  below : all_below (p * (k + 2)) (missing_cells ms) ≡ true

module _ (p k s : ℕ) (ms t t' : List ℕ) (r : Answer) (says : RebuildCellsSays p k s ms t t' r) where
  within : lent_refusal p k s ms t ≡ 0 → Within p k s ms t
  within e =
      let g = lent_none p k s ms t e in
      let w = shape_of p k s (first_none (shape_refusal p k s) (first_of (long_refusal (p * (k + 2)) ms) (long_refusal (stripe_long p k s) t)) e).0 in
      record {
        array = w.0;
        some = w.1;
        stripe = stripe_of p k s t (sized_long p k s t g.0) says.bytes;
        below = missing_below (p * (k + 2)) ms g.1;
      }

  -- a call within these limits
  lent : Inside (marked_stripe p k s ms t) → lent_refusal p k s ms t ≡ 0
  lent w = within_zero (marked_decides p k s ms t) w

  -- an accepted call: none of the refusals
  faultless : r.refusal ≡ 0 → mend_refusal p k s ms t ≡ 0
  faultless z = sym says.answer.refusal ∙ z

  limits : r.refusal ≡ 0 → lent_refusal p k s ms t ≡ 0
  limits z = (first_none (lent_refusal p k s ms t) (when (not (mendable p k (missing_cells ms))) 23) (faultless z)).0

  determined : r.refusal ≡ 0 → mendable p k (missing_cells ms) ≡ true
  determined z = not-false (mendable p k (missing_cells ms)) (when_none (not (mendable p k (missing_cells ms))) 22 (first_none (lent_refusal p k s ms t) (when (not (mendable p k (missing_cells ms))) 23) (faultless z)).1)

  written : r.refusal ≡ 0 → t' ≡ mended_cells p k s (missing_cells ms) t
  written z = says.stripe ∙ ap (λ (n : ℕ). pick (eqb n 0) (mended_cells p k s (missing_cells ms) t) t) (faultless z)

  -- the cells that are not missing stand
  pub others_stand : r.refusal ≡ 0 → (x : ℕ) → x < p * (k + 2) → get_or ms x 0 ≡ 0 → cell_at s t' x ≡ cell_at s t x
  others_stand z x l e =
      let w = within (limits z) in
      ap (λ (u : List ℕ). cell_at s u x) (written z)
      ∙ mended_off p k s w.array.some (missing_cells ms) w.below (determined z) t w.stripe x l (missing_in ms x ∙ ap not (eq-eqb (get_or ms x 0) 0 e))

  -- survivors of a clean stripe bring it back
  pub cells_back : r.refusal ≡ 0 → (u : List ℕ) → is_stripe p k s u ≡ true → clean p k s u ≡ true → AlikeOff p k s (missing_cells ms) t u → t' ≡ u
  cells_back z u hu cu same = let w = within (limits z) in written z ∙ mended_back p k s w.array.some (missing_cells ms) w.below (determined z) t u w.stripe hu cu same

  -- accepted: the cells that are not missing determine the others, and no more are missing than
  -- there are sets
  pub accepted_determined : r.refusal ≡ 0 → Determined p k s (missing_cells ms)
  accepted_determined z = let w = within (limits z) in mendable_determined p k s w.array.some (missing_cells ms) w.below (determined z)

  pub accepted_few : r.refusal ≡ 0 → length (missing_cells ms) ≤ 2 * p
  accepted_few z = mendable_few p k (missing_cells ms) (determined z)

  -- past the first refusals there is 23 alone
  refusal_is : lent_refusal p k s ms t ≡ 0 → (b : Bool) → mendable p k (missing_cells ms) ≡ b → r.refusal ≡ when (not b) 23
  refusal_is e b h = says.answer.refusal ∙ ap (λ (n : ℕ). first_of n (when (not (mendable p k (missing_cells ms))) 23)) e ∙ ap (λ (x : Bool). when (not x) 23) h

  pub determined_accepted : Inside (marked_stripe p k s ms t) → Determined p k s (missing_cells ms) → r.refusal ≡ 0
  determined_accepted i d =
      let w = within (lent i) in
      refusal_is (lent i) true (determined_mendable p k s w.array.some w.some (missing_cells ms) w.below (missing_distinct ms) d)

  -- refused by 23: two different clean stripes agree in all cells that are not missing, and the
  -- stripe stands
  pub refused_stands : (r.refusal ≡ 0 → ⊥) → t' ≡ t
  refused_stands n = says.stripe ∙ sym (pick_refused r.refusal (mend_refusal p k s ms t) (mended_cells p k s (missing_cells ms) t) t says.answer.refusal n)

  pub undetermined : r.refusal ≡ 23 → TwoClean p k s (missing_cells ms)
  undetermined q = ⊎_elim (λ h. absurd (never (refusal_is e true h))) two (flag (mendable p k (missing_cells ms)))
    where
      e : lent_refusal p k s ms t ≡ 0
      e = lent (comes_after (marked_stripe p k s ms t) (by 23 (Determined p k s (missing_cells ms))) refl (subst (λ (n : ℕ). Decides (rebuild_cells p k s ms t) n r.place) q (demand1.rebuild_cells_lem p k s ms t t' r says).decides)).0

      never : r.refusal ≡ 0 → ⊥
      never z = omega arith

      two : mendable p k (missing_cells ms) ≡ false → TwoClean p k s (missing_cells ms)
      two h = let w = within e in refused_two p k s w.array.some w.some (missing_cells ms) w.below (missing_distinct ms) h

  -- and only then
  pub two_refused : Inside (marked_stripe p k s ms t) → TwoClean p k s (missing_cells ms) → r.refusal ≡ 23
  two_refused i g = ⊎_elim mended (λ h. refusal_is e false h) (flag (mendable p k (missing_cells ms)))
    where
      e : lent_refusal p k s ms t ≡ 0
      e = lent i

      mended : mendable p k (missing_cells ms) ≡ true → r.refusal ≡ 23
      mended h = absurd (g.apart (accepted_determined (refusal_is e true h) g.one g.two g.one_stripe g.two_stripe g.one_clean g.two_clean g.alike))

  -- missing cells on two disks
  module _ (a b : ℕ) (i : Inside (marked_stripe p k s ms t)) (ha : a < k + 2) (hb : b < k + 2) (apart : a ≡ b → ⊥) (on : (x : ℕ) → is_in x (missing_cells ms) ≡ true → (disk_at p x ≡ a) ⊎ (disk_at p x ≡ b)) where
    pub disks_accepted : r.refusal ≡ 0
    disks_accepted =
        let w = within (lent i) in
        refusal_is (lent i) true (disks_mendable p k a b w.array.width w.array.some w.array.disks ha hb apart (missing_cells ms) w.below (missing_distinct ms) on)

    -- two whole disks: as `rebuild_two`
    pub disks_rebuilt : ((x : ℕ) → (disk_at p x ≡ a) ⊎ (disk_at p x ≡ b) → is_in x (missing_cells ms) ≡ true) → t' ≡ pair_solved p k s a b t
    disks_rebuilt all =
        let w = within (lent i) in
        written disks_accepted
        ∙ disks_whole p k a b w.array.width w.array.some w.array.disks ha hb apart (missing_cells ms) w.below (missing_distinct ms) on all s t w.stripe

  -- one whole disk
  module _ (c : ℕ) (i : Inside (marked_stripe p k s ms t)) (hc : c < k + 2) (on : (x : ℕ) → x < p * (k + 2) → disk_at p x ≡ c → get_or ms x 0 ≡ 0 → ⊥) (off : (x : ℕ) → x < p * (k + 2) → (disk_at p x ≡ c → ⊥) → get_or ms x 0 ≡ 0) where
    some : 0 < p
    some = (within (lent i)).array.some

    -- its cells are a run
    whole : (length (missing_cells ms) ≡ p) × RunFrom 0 p (c * p) (missing_cells ms)
    whole =
        let e = (lent_none p k s ms t (lent i)).1 in
        missing_run p (c * p) ms (subst (λ (n : ℕ). c * p + p ≤ n) (sym e) fits)
        (λ x h l m. on x (subst (λ (n : ℕ). x < n) e h) (disk_in x l m))
        (λ x h n. off x (subst (λ (n : ℕ). x < n) e h) (λ q. n (disk_low x q) (disk_high x q)))
      where
        fits : c * p + p ≤ p * (k + 2)
        fits = let l : (c + 1) * p ≤ (k + 2) * p = mul-le-mul_right p (omega arith) in omega arith

        disk_in : (x : ℕ) → c * p ≤ x → x < c * p + p → disk_at p x ≡ c
        disk_in x l m = let z : x ≡ c * p + (x - c * p) = omega arith in ap (disk_at p) z ∙ disk_place p (x - c * p) c (omega arith)

        disk_low : (x : ℕ) → disk_at p x ≡ c → c * p ≤ x
        disk_low x q = let z : c * p + row_at p x ≡ x = ap (λ (d : ℕ). d * p + row_at p x) (sym q) ∙ place_of p x in omega arith

        disk_high : (x : ℕ) → disk_at p x ≡ c → x < c * p + p
        disk_high x q = let z : c * p + row_at p x ≡ x = ap (λ (d : ℕ). d * p + row_at p x) (sym q) ∙ place_of p x in omega (arith, mod-lt x some)

    long : length t ≡ p * (k + 2) * s
    long = sized_long p k s t (lent_none p k s ms t (lent i)).0

    -- a data disk or P by the row sets
    pub disk_rebuilt : c ≤ k → t' ≡ followed p k s c (all_of p 0 0) t
    disk_rebuilt l =
        written (refusal_is (lent i) true (disk_mendable p k c some l (missing_cells ms) whole.0 whole.1))
        ∙ disk_mended p k c some l (missing_cells ms) whole.0 whole.1 s t long

    -- P as `rebuild_one`
    pub p_rebuilt : c ≡ k → column_of p s c t' ≡ rebuilt p k s c t
    unfolding rebuilt plan_of
    p_rebuilt e =
        let z : 0 ≡ c - k = omega arith in
        ap (column_of p s c) (disk_rebuilt (omega arith) ∙ ap (λ (n : ℕ). followed p k s c (all_of p n 0) t) z)
        ∙ ap (λ (b : Bool). column_of p s c (followed p k s c (pick b (data_plan p c) (all_of p (c - k) 0)) t)) (sym (le-ltb c k (omega arith)))

    -- and Q
    pub q_rebuilt : c ≡ k + 1 → column_of p s c t' ≡ rebuilt p k s c t
    unfolding rebuilt plan_of
    q_rebuilt e =
        let run = subst (λ (d : ℕ). RunFrom 0 p (d * p) (missing_cells ms)) e whole.1 in
        let z : 1 ≡ c - k = omega arith in
        ap (column_of p s c)
        (written (refusal_is (lent i) true (q_mendable p k some (missing_cells ms) whole.0 run))
        ∙ q_mended p k some (missing_cells ms) whole.0 run s t long
        ∙ ap₂ (λ (d n : ℕ). followed p k s d (all_of p n 0) t) (sym e) z)
        ∙ ap (λ (b : Bool). column_of p s c (followed p k s c (pick b (data_plan p c) (all_of p (c - k) 0)) t)) (sym (le-ltb c k (omega arith)))

-- two accepted calls with the same marks, on stripes that agree in the cells that are not missing,
-- end with the same stripe
pub same_survivors :
    (p k s : ℕ) (ms t t' u u' : List ℕ) (q r : Answer) → RebuildCellsSays p k s ms t t' q → RebuildCellsSays p k s ms u u' r → q.refusal ≡ 0 → r.refusal ≡ 0 → AlikeOff p k s (missing_cells ms) t u → t' ≡ u'
same_survivors p k s ms t t' u u' q r f g z y same =
    let w = within p k s ms t t' q f (limits p k s ms t t' q f z) in
    let v = within p k s ms u u' r g (limits p k s ms u u' r g y) in
    written p k s ms t t' q f z
    ∙ mended_alike p k s w.array.some (missing_cells ms) w.below (determined p k s ms t t' q f z) t u w.stripe v.stripe same
    ∙ sym (written p k s ms u u' r g y)

-- fewer missing cells of a call that was accepted are mended too
pub fewer_accepted :
    (p k s : ℕ) (ms ns t t' u u' : List ℕ) (q r : Answer) → RebuildCellsSays p k s ms t t' q → RebuildCellsSays p k s ns u u' r → r.refusal ≡ 0 → Inside (marked_stripe p k s ms t)
    → ((x : ℕ) → get_or ns x 0 ≡ 0 → get_or ms x 0 ≡ 0) → q.refusal ≡ 0
fewer_accepted p k s ms ns t t' u u' q r f g z e fewer =
    determined_accepted p k s ms t t' q f e
    (λ v w hv hw cv cw same. accepted_determined p k s ns u u' r g z v w hv hw cv cw (λ x l h. same x l (missing_in ms x ∙ ap not (eq-eqb (get_or ms x 0) 0 (fewer x (present x h))))))
  where
    present : (x : ℕ) → is_in x (missing_cells ns) ≡ false → get_or ns x 0 ≡ 0
    present x h = eqb-true (get_or ns x 0) 0 (not-false (eqb (get_or ns x 0) 0) (sym (missing_in ns x) ∙ h))
