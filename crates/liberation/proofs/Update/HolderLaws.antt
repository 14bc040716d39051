-- The diagonals that hold a data cell: `holders` lists each once, and no other. The second of two
-- is the one whose extra cell it is, and then the first is the one before it.
use mathlib.Core.Path.{◌≡◌, refl, sym, ap, ap₂, ◌∙◌}
use mathlib.Core.Bool.{Bool, true, false, ◌&&◌, ◌||◌, not, or-false, and-false}
use mathlib.Core.Logic.{⊎_elim}
use mathlib.Core.List.{[], ◌∷◌}
use Prim.Native.Nat.{ℕ, suc, ◌+◌, ◌-◌, ◌%◌, ◌≤◌, ◌<◌}
use native.Mathlib.Nat.{mod-lt}
use native.Mathlib.Omega.{arith}
use lib.Dec.{eqb, leb}
use lib.ListN.{length}
use borrow.Author.Tests.{eqb-true, eq-eqb, ne_eqb, leb-true, le-leb, lt-ltb}
use Rattle.mathematics.specs.Choice.{pick, when}
use Rattle.mathematics.specs.Lists.{is_in, distinct, all_below}
use Rattle.mathematics.proofs.Flags.{and_l, and_r, and_i, same_flag}
use Rattle.mathematics.proofs.Modulo.{add_small}
use Rattle.mathematics.proofs.TestLaws.{eqb_same}
use Rattle.liberation.specs.Sets.{place, row_at, disk_at, extra_row, extra_disk, extra_of, diagonal_set}
use Rattle.liberation.specs.Plans.{diagonal_of}
use Rattle.liberation.proofs.SetLaws.{disk_place, row_place, diagonal_of_lem, extra_range, extra_diagonal}
use Rattle.liberation.proofs.LostLaws.{extra_on, on_data}
use Rattle.liberation.specs.Update.Updates.{is_extra, holders}

-- a list of one number or none
in_pick : (b : Bool) (i z : ℕ) → is_in i (pick b (z ∷ []) []) ≡ (b && eqb i z)
in_pick true i z = or-false (eqb i z)
in_pick false i z = refl

-- rows and diagonals of extra cells
row_of_extra : (p r : ℕ) → r < p → extra_row p (extra_row p r) ≡ r
row_of_extra p r h = omega arith

-- an extra cell is the extra cell of some diagonal, and that of every diagonal is one
pub extra_some : (p r c : ℕ) → r < p → is_extra p r c ≡ true → (i : ℕ) × (1 ≤ i) × (i < p) × (extra_of p i ≡ place p r c)
extra_some p r c h t =
    let z = extra_row p r in
    let low : 1 ≤ z = leb-true 1 z (and_l _ _ t) in
    (z, low, omega arith, ap₂ (place p) (row_of_extra p r h) (eqb-true (extra_disk p z) c (and_r (leb 1 z) (eqb (extra_disk p z) c) t)))

pub extra_any : (p r c i : ℕ) → r < p → 1 ≤ i → i < p → extra_of p i ≡ place p r c → is_extra p r c ≡ true
extra_any p r c i h low high e =
    let row : extra_row p i ≡ r = sym (row_place p (extra_row p i) (extra_disk p i) (omega arith)) ∙ ap (row_at p) e ∙ row_place p r c h in
    let disk : extra_disk p i ≡ c = sym (disk_place p (extra_row p i) (extra_disk p i) (omega arith)) ∙ ap (disk_at p) e ∙ disk_place p r c h in
    let z : i ≡ extra_row p r = omega arith in
    ap (λ (n : ℕ). extra_on p n c) (sym z) ∙ and_i _ _ (le-leb 1 i low) (eq-eqb (extra_disk p i) c disk)

-- D i holds (r, c) as its extra cell exactly if i = p - 1 - r and (r, c) is an extra cell
extra_held : (p r c i : ℕ) → r < p → i < p → (is_extra p r c && eqb i (extra_row p r)) ≡ (extra_on p i c && eqb r (extra_row p i))
extra_held p r c i h l = go (eqb i (extra_row p r)) refl ∙ ap (λ (b : Bool). extra_on p i c && b) (eqb_same i (extra_row p r) r (extra_row p i) (λ e. omega arith) (λ e. omega arith))
  where
    go : (b : Bool) → eqb i (extra_row p r) ≡ b → (is_extra p r c && b) ≡ (extra_on p i c && b)
    go true e = ap (λ (z : ℕ). extra_on p z c && true) (sym (eqb-true i (extra_row p r) e))
    go false e = and-false (is_extra p r c) ∙ sym (and-false (extra_on p i c))

-- the diagonals that hold a data cell are its holders
pub in_holders : (p k r c i : ℕ) → k ≤ p → r < p → c < k → i < p → is_in i (holders p r c) ≡ is_in (place p r c) (diagonal_set p k i)
unfolding holders
in_holders p k r c i most h l m =
    ap₂ ◌||◌ (sym (diagonal_of_lem p i r c m h (omega arith))) (in_pick (is_extra p r c) i (extra_row p r) ∙ extra_held p r c i h m) ∙ sym (on_data p k i r c h m l)

pub holders_below : (p r c : ℕ) → r < p → all_below p (holders p r c) ≡ true
unfolding holders
holders_below p r c h = and_i _ _ (lt-ltb (diagonal_of p c r) p (mod-lt (r + p - c) (omega arith))) (go (is_extra p r c))
  where
    go : (b : Bool) → all_below p (pick b (extra_row p r ∷ []) []) ≡ true
    go true = and_i _ _ (lt-ltb (extra_row p r) p (omega arith)) refl
    go false = refl

-- an extra cell is ordinary on the diagonal before
pub extra_before : (p r c : ℕ) → p % 2 ≡ 1 → r < p → is_extra p r c ≡ true → suc (diagonal_of p c r) ≡ extra_row p r
extra_before p r c odd h t =
    let low : 1 ≤ extra_row p r = leb-true 1 (extra_row p r) (and_l _ _ t) in
    let e : extra_disk p (extra_row p r) ≡ c = eqb-true (extra_disk p (extra_row p r)) c (and_r (leb 1 (extra_row p r)) (eqb (extra_disk p (extra_row p r)) c) t) in
    let q : diagonal_of p c r ≡ extra_row p r - 1 = sym (ap₂ (λ (x y : ℕ). (x + p - y) % p) (row_of_extra p r h) e) ∙ extra_diagonal p (extra_row p r) odd low (omega arith) in
    omega arith

-- and only extra cells are: the test needs no other remainder than the diagonal's
pub extra_test : (p r c : ℕ) → p % 2 ≡ 1 → r < p → c < p → is_extra p r c ≡ eqb (suc (diagonal_of p c r)) (extra_row p r)
extra_test p r c odd h l =
    same_flag (is_extra p r c) (eqb (suc (diagonal_of p c r)) (extra_row p r))
    (λ t. eq-eqb (suc (diagonal_of p c r)) (extra_row p r) (extra_before p r c odd h t))
    (λ t. back (eqb-true (suc (diagonal_of p c r)) (extra_row p r) t))
  where
    -- a disk on which r is the row of D j
    row_on : (j d : ℕ) → j < p → d < p → diagonal_of p d r ≡ j → r ≡ (j + d) % p
    row_on j d hj hd e = eqb-true r ((j + d) % p) (diagonal_of_lem p j r d hj h hd ∙ eq-eqb j (diagonal_of p d r) (sym e))

    -- there is one such disk
    one_disk : (j d e : ℕ) → j < p → d < p → e < p → r ≡ (j + d) % p → r ≡ (j + e) % p → d ≡ e
    one_disk j d e hj hd he q w = ⊎_elim (λ x. ⊎_elim (λ y. omega arith) (λ y. omega arith) (add_small p j e hj he)) (λ x. ⊎_elim (λ y. omega arith) (λ y. omega arith) (add_small p j e hj he)) (add_small p j d hj hd)

    back : suc (diagonal_of p c r) ≡ extra_row p r → is_extra p r c ≡ true
    back e =
        let low : 1 ≤ extra_row p r = omega arith in
        let d : extra_disk p (extra_row p r) < p = (extra_range p (extra_row p r) odd low (omega arith)).1 in
        let j : extra_row p r - 1 < p = omega arith in
        let q : diagonal_of p (extra_disk p (extra_row p r)) r ≡ extra_row p r - 1 = sym (ap (λ (x : ℕ). diagonal_of p (extra_disk p (extra_row p r)) x) (row_of_extra p r h)) ∙ extra_diagonal p (extra_row p r) odd low (omega arith) in
        and_i _ _ (le-leb 1 (extra_row p r) low)
        (eq-eqb (extra_disk p (extra_row p r)) c
        (one_disk (extra_row p r - 1) (extra_disk p (extra_row p r)) c j d l (row_on (extra_row p r - 1) (extra_disk p (extra_row p r)) j d q) (row_on (extra_row p r - 1) c j l (omega arith))))

-- so no diagonal is listed twice
pub holders_distinct : (p r c : ℕ) → p % 2 ≡ 1 → r < p → distinct (holders p r c) ≡ true
unfolding holders
holders_distinct p r c odd h = go (is_extra p r c) refl
  where
    go : (b : Bool) → is_extra p r c ≡ b → distinct (diagonal_of p c r ∷ pick b (extra_row p r ∷ []) []) ≡ true
    go true e = ap (λ (b : Bool). not (b || false) && true) (ne_eqb (diagonal_of p c r) (extra_row p r) (λ q. omega (arith, extra_before p r c odd h e)))
    go false e = refl

-- one diagonal, or two for an extra cell
pub holders_count : (p r c : ℕ) → length (holders p r c) ≡ 1 + when (is_extra p r c) 1
unfolding holders
holders_count p r c = go (is_extra p r c)
  where
    go : (b : Bool) → length (diagonal_of p c r ∷ pick b (extra_row p r ∷ []) []) ≡ 1 + when b 1
    go true = refl
    go false = refl

-- the holders by the first of them: d, and d + 1 where d + 1 = p - 1 - r
pub holders_next : (p r c : ℕ) → p % 2 ≡ 1 → r < p → c < p → holders p r c ≡ diagonal_of p c r ∷ pick (eqb (suc (diagonal_of p c r)) (extra_row p r)) (suc (diagonal_of p c r) ∷ []) []
unfolding holders
holders_next p r c odd h l = ap (λ (b : Bool). diagonal_of p c r ∷ pick b (extra_row p r ∷ []) []) (extra_test p r c odd h l) ∙ go (eqb (suc (diagonal_of p c r)) (extra_row p r)) refl
  where
    go : (b : Bool) → eqb (suc (diagonal_of p c r)) (extra_row p r) ≡ b → (diagonal_of p c r ∷ pick b (extra_row p r ∷ []) []) ≡ diagonal_of p c r ∷ pick b (suc (diagonal_of p c r) ∷ []) []
    go true e = ap (λ (z : ℕ). diagonal_of p c r ∷ (z ∷ [])) (sym (eqb-true (suc (diagonal_of p c r)) (extra_row p r) e))
    go false e = refl
