-- The cells that a set has on a lost disk: a row set has one on each data disk and on P, a diagonal
-- set one on each data disk and on Q and, on the disk of its extra cell, that one too.
-- Disk c > 0 holds one extra cell, in row e = extra_row_on p c, of the diagonal p - 1 - e. Every
-- width and every number k ≤ p of data disks.
use mathlib.Core.Path.{◌≡◌, refl, sym, ap, ap₂, ◌∙◌}
use mathlib.Core.Bool.{Bool, true, false, ◌&&◌, ◌||◌, and-false, false≢true}
use mathlib.Core.Logic.{◌⊎◌, inl, inr, ⊎_elim}
use mathlib.Core.List.{List, [], ◌∷◌, ◌++◌}
use Prim.Native.Nat.{ℕ, zero, suc, ◌+◌, ◌-◌, ◌*◌, ◌%◌, ◌≤◌, ◌<◌}
use native.Mathlib.Nat.{mod-lt}
use native.Mathlib.Omega.{arith}
use lib.Dec.{eqb, ltb, leb}
use borrow.Author.Tests.{eqb-true, eq-eqb, ne_eqb, leb-true, le-leb, ltb-true, lt-ltb}
use Rattle.mathematics.specs.Choice.{pick}
use Rattle.mathematics.specs.Lists.{is_in}
use Rattle.mathematics.proofs.Flags.{and_l, and_r, and_i, or_cases, same_flag}
use Rattle.mathematics.proofs.OrderLaws.{eq_or_lt}
use Rattle.mathematics.proofs.TestLaws.{eqb_sym}
use Rattle.mathematics.proofs.Walks.{Walk}
use Rattle.liberation.specs.Sets.{place, row_at, disk_at, row_set, diagonal_from, ordinary, extra_row, extra_disk, extra_of, has_extra, diagonal_set, lost_in, surviving_in}
use Rattle.liberation.specs.Plans.{second_row, extra_row_on}
use Rattle.liberation.proofs.SetLaws.{disk_place, row_place, in_diagonal, in_ordinary_data, extra_cases, extra_range, row_cells, diagonal_cells}
use Rattle.liberation.proofs.RouteLaws.{second_row_lem}

-- D z has its extra cell on disk c
abbrev pub extra_on : ℕ → ℕ → ℕ → Bool
extra_on p z c = leb 1 z && eqb (extra_disk p z) c

-- where c is a data disk, that cell is not absent
extra_there : (p k z c : ℕ) → c < k → (has_extra p k z && eqb (extra_disk p z) c) ≡ extra_on p z c
extra_there p k z c l = go (leb 1 z) (eqb (extra_disk p z) c) refl
  where
    go : (b e : Bool) → eqb (extra_disk p z) c ≡ e → ((b && ltb (extra_disk p z) k) && e) ≡ (b && e)
    go b false q = and-false (b && ltb (extra_disk p z) k) ∙ sym (and-false b)
    go false true q = refl
    go true true q = ap (λ (t : Bool). t && true) (lt-ltb (extra_disk p z) k (omega (arith, eqb-true (extra_disk p z) c q)))

-- the cells of D z on a data disk
pub on_data : (p k z r c : ℕ) → r < p → z < p → c < k → is_in (place p r c) (diagonal_set p k z) ≡ (eqb r ((z + c) % p) || (extra_on p z c && eqb r (extra_row p z)))
on_data p k z r c h l m =
    in_diagonal p k z r c h l
    ∙ ap₂ ◌||◌ (in_ordinary_data p k z r c h l m) (turn (has_extra p k z) (eqb r (extra_row p z)) (eqb c (extra_disk p z)) (eqb (extra_disk p z) c) (eqb_sym c (extra_disk p z)) ∙ ap (λ (b : Bool). b && eqb r (extra_row p z)) (extra_there p k z c m))
  where
    turn : (a b c d : Bool) → c ≡ d → (a && (b && c)) ≡ ((a && d) && b)
    turn false b c d e = refl
    turn true false c d e = sym (and-false d)
    turn true true true d e = ap (λ (t : Bool). t && true) e
    turn true true false d e = ap (λ (t : Bool). t && true) e

odd_not_even : (p n : ℕ) → p % 2 ≡ 1 → p ≡ 2 * n → ⊥
odd_not_even p n odd e = omega arith

-- the one diagonal whose extra cell is on disk c > 0, and that cell's row
module _ (p c : ℕ) (odd : p % 2 ≡ 1) (low : 1 ≤ c) (high : c < p) where
  pub second_range : (1 ≤ second_row p c) × (second_row p c < p)
  second_range = ⊎_elim (λ e. omega arith) (λ e. omega arith) (second_row_lem p c odd high)

  pub extra_on_lem : (z : ℕ) → z < p → extra_on p z c ≡ eqb z (p - second_row p c)
  extra_on_lem z l = same_flag (extra_on p z c) (eqb z (p - second_row p c)) (λ t. eq-eqb z (p - second_row p c) (there (eqb-true (extra_disk p z) c (and_r (leb 1 z) (eqb (extra_disk p z) c) t)))) (λ t. back (eqb-true z (p - second_row p c) t))
    where
      there : extra_disk p z ≡ c → z ≡ p - second_row p c
      there e = let r = second_range in ⊎_elim (λ w. ⊎_elim (λ v. absurd (odd_not_even p (second_row p c + z) odd (omega arith))) (λ v. omega arith) (extra_cases p z l)) (λ w. ⊎_elim (λ v. omega arith) (λ v. absurd (odd_not_even p (second_row p c + z - p) odd (omega arith))) (extra_cases p z l)) (second_row_lem p c odd high)

      same : z ≡ p - second_row p c → extra_disk p z ≡ c
      same e = let r = second_range in ⊎_elim (λ w. ⊎_elim (λ v. omega arith) (λ v. omega arith) (extra_cases p z l)) (λ w. ⊎_elim (λ v. omega arith) (λ v. omega arith) (extra_cases p z l)) (second_row_lem p c odd high)

      back : z ≡ p - second_row p c → extra_on p z c ≡ true
      back e = let r = second_range in and_i _ _ (le-leb 1 z (omega arith)) (eq-eqb (extra_disk p z) c (same e))

  pub extra_row_lem : (z : ℕ) → z < p → extra_on p z c ≡ true → extra_row p z ≡ extra_row_on p c
  extra_row_lem z l t = let e : z ≡ p - second_row p c = eqb-true z (p - second_row p c) (sym (extra_on_lem z l) ∙ t) in let r = second_range in omega arith

-- disk 0 has none
pub extra_none : (p z : ℕ) → p % 2 ≡ 1 → z < p → extra_on p z 0 ≡ false
extra_none p z odd l = go (leb 1 z) refl
  where
    go : (b : Bool) → leb 1 z ≡ b → (b && eqb (extra_disk p z) 0) ≡ false
    go true e = ne_eqb (extra_disk p z) 0 (λ q. let w = extra_range p z odd (leb-true 1 z e) l in omega arith)
    go false e = refl

-- so a cell of D z on a data disk c is its ordinary one, or the extra cell on c
pub on_cases : (p k z r c : ℕ) → p % 2 ≡ 1 → k ≤ p → r < p → z < p → c < k → is_in (place p r c) (diagonal_set p k z) ≡ true → (r ≡ (z + c) % p) ⊎ ((1 ≤ c) × (z ≡ p - second_row p c) × (r ≡ extra_row_on p c))
on_cases p k z r c odd most h l m t =
    ⊎_elim (λ e. inl (eqb-true r ((z + c) % p) e)) (λ e. inr (extra c m (and_l (extra_on p z c) (eqb r (extra_row p z)) e) (eqb-true r (extra_row p z) (and_r (extra_on p z c) (eqb r (extra_row p z)) e))))
    (or_cases _ _ (sym (on_data p k z r c h l m) ∙ t))
  where
    extra : (d : ℕ) → d < k → extra_on p z d ≡ true → r ≡ extra_row p z → (1 ≤ d) × (z ≡ p - second_row p d) × (r ≡ extra_row_on p d)
    extra zero n e q = absurd (false≢true (sym (extra_none p z odd l) ∙ e))
    extra (suc d) n e q =
        (omega arith, eqb-true z (p - second_row p (suc d)) (sym (extra_on_lem p (suc d) odd (omega arith) (omega arith) z l) ∙ e), q ∙ extra_row_lem p (suc d) odd (omega arith) (omega arith) z l e)

-- the lost rows of lists joined, and of what survives another disk
pub lost_append : (p c : ℕ) (xs ys : List ℕ) → lost_in p c (xs ++ ys) ≡ lost_in p c xs ++ lost_in p c ys
unfolding lost_in
lost_append p c [] ys = refl
lost_append p c (x ∷ xs) ys = go (eqb (disk_at p x) c) (lost_append p c xs ys)
  where
    go : (b : Bool) → lost_in p c (xs ++ ys) ≡ lost_in p c xs ++ lost_in p c ys → pick b (row_at p x ∷ lost_in p c (xs ++ ys)) (lost_in p c (xs ++ ys)) ≡ pick b (row_at p x ∷ lost_in p c xs) (lost_in p c xs) ++ lost_in p c ys
    go true e = ap (λ (l : List ℕ). row_at p x ∷ l) e
    go false e = e

pub lost_surviving : (p c d : ℕ) (xs : List ℕ) → (c ≡ d → ⊥) → lost_in p c (surviving_in p d xs) ≡ lost_in p c xs
unfolding lost_in surviving_in
lost_surviving p c d [] n = refl
lost_surviving p c d (x ∷ xs) n = go (eqb (disk_at p x) d) (eqb (disk_at p x) c) refl refl (lost_surviving p c d xs n)
  where
    go : (b t : Bool) → eqb (disk_at p x) d ≡ b → eqb (disk_at p x) c ≡ t → lost_in p c (surviving_in p d xs) ≡ lost_in p c xs → lost_in p c (pick b (surviving_in p d xs) (x ∷ surviving_in p d xs)) ≡ pick t (row_at p x ∷ lost_in p c xs) (lost_in p c xs)
    go true true e q rest = absurd (n (sym (eqb-true (disk_at p x) c q) ∙ eqb-true (disk_at p x) d e))
    go true false e q rest = rest
    go false true e q rest = ap (λ (t : Bool). pick t (row_at p x ∷ lost_in p c (surviving_in p d xs)) (lost_in p c (surviving_in p d xs))) q ∙ ap (λ (l : List ℕ). row_at p x ∷ l) rest
    go false false e q rest = ap (λ (t : Bool). pick t (row_at p x ∷ lost_in p c (surviving_in p d xs)) (lost_in p c (surviving_in p d xs))) q ∙ rest

-- one cell
lost_one : (p c r d : ℕ) (xs : List ℕ) → r < p → lost_in p c (place p r d ∷ xs) ≡ pick (eqb d c) (r ∷ lost_in p c xs) (lost_in p c xs)
unfolding lost_in
lost_one p c r d xs h = ap₂ (λ (x y : ℕ). pick (eqb x c) (y ∷ lost_in p c xs) (lost_in p c xs)) (disk_place p r d h) (row_place p r d h)

lost_here : (p c r : ℕ) (xs : List ℕ) → r < p → lost_in p c (place p r c ∷ xs) ≡ r ∷ lost_in p c xs
lost_here p c r xs h = lost_one p c r c xs h ∙ ap (λ (b : Bool). pick b (r ∷ lost_in p c xs) (lost_in p c xs)) (eq-eqb c c refl)

lost_off : (p c r d : ℕ) (xs : List ℕ) → r < p → (d ≡ c → ⊥) → lost_in p c (place p r d ∷ xs) ≡ lost_in p c xs
lost_off p c r d xs h n = lost_one p c r d xs h ∙ ap (λ (b : Bool). pick b (r ∷ lost_in p c xs) (lost_in p c xs)) (ne_eqb d c n)

lost_nil : (p c : ℕ) → lost_in p c [] ≡ []
unfolding lost_in
lost_nil p c = refl

-- disk c is none of the n disks from d on
abbrev Off : ℕ → ℕ → ℕ → Type 0
Off d n c = (c < d) ⊎ (d + n ≤ c)

off_first : (d n c : ℕ) → Off d (suc n) c → d ≡ c → ⊥
off_first d n c o e = ⊎_elim (λ l. omega arith) (λ l. omega arith) o

off_rest : (d n c : ℕ) → Off d (suc n) c → Off (suc d) n c
off_rest d n c o = ⊎_elim (λ l. inl (omega arith)) (λ l. inr (omega arith)) o

-- one cell on each of n disks from d on: none where disk c is not among them, and its row where it
-- is
module _ (p : ℕ) (g : ℕ → ℕ) {l : ℕ → ℕ → List ℕ} (w : Walk (λ c. place p (g c) c) l) (rows : (c : ℕ) → g c < p) where
  walk_off : (n d c : ℕ) → Off d n c → lost_in p c (l n d) ≡ []
  walk_off zero d c o = ap (lost_in p c) (w.none d) ∙ lost_nil p c
  walk_off (suc n) d c o = ap (lost_in p c) (w.next n d) ∙ lost_off p c (g d) d (l n (suc d)) (rows d) (off_first d n c o) ∙ walk_off n (suc d) c (off_rest d n c o)

  walk_row : (n d c : ℕ) → d ≤ c → c < d + n → lost_in p c (l n d) ≡ g c ∷ []
  walk_row zero d c a b = absurd (omega arith)
  walk_row (suc n) d c a b = ap (lost_in p c) (w.next n d) ∙ ⊎_elim here (λ m. lost_off p c (g d) d (l n (suc d)) (rows d) (λ e. omega arith) ∙ walk_row n (suc d) c m (omega arith)) (eq_or_lt d c a)
    where
      here : d ≡ c → lost_in p c (place p (g d) d ∷ l n (suc d)) ≡ g c ∷ []
      here e = ap (λ (x : ℕ). lost_in p c (place p (g x) x ∷ l n (suc d))) e ∙ lost_here p c (g c) (l n (suc d)) (rows c) ∙ ap (λ (xs : List ℕ). g c ∷ xs) (walk_off n (suc d) c (inl (omega arith)))

pub lost_row : (p k i c : ℕ) → i < p → c ≤ k → lost_in p c (row_set p k i) ≡ i ∷ []
unfolding row_set
lost_row p k i c h l = walk_row p (λ d. i) (row_cells p i) (λ d. h) (suc k) 0 c (omega arith) (omega arith)

-- R i has no cell on Q
pub lost_row_Q : (p k i : ℕ) → i < p → lost_in p (suc k) (row_set p k i) ≡ []
unfolding row_set
lost_row_Q p k i h = walk_off p (λ d. i) (row_cells p i) (λ d. h) (suc k) 0 (suc k) (inr (omega arith))

-- the rows of D z on data disks
diagonal_rows : (p z : ℕ) → z < p → (c : ℕ) → (z + c) % p < p
diagonal_rows p z h c = mod-lt (z + c) (omega arith)

-- the row of the extra cell of D z, where it is on disk c
abbrev pub extra_rows : ℕ → ℕ → ℕ → List ℕ
extra_rows p z c = pick (extra_on p z c) (extra_row p z ∷ []) []

-- D z in its three parts: data disks, Q, extra cell
lost_parts : (p k z c : ℕ) → z < p → lost_in p c (diagonal_set p k z) ≡ (lost_in p c (diagonal_from k p z 0) ++ lost_in p c (place p z (suc k) ∷ [])) ++ pick (has_extra p k z && eqb (extra_disk p z) c) (extra_row p z ∷ []) []
unfolding diagonal_set ordinary
lost_parts p k z c h =
    lost_append p c (ordinary p k z) (pick (has_extra p k z) (extra_of p z ∷ []) [])
    ∙ ap₂ ◌++◌ (lost_append p c (diagonal_from k p z 0) (place p z (suc k) ∷ [])) (extra (has_extra p k z))
  where
    extra : (b : Bool) → lost_in p c (pick b (extra_of p z ∷ []) []) ≡ pick (b && eqb (extra_disk p z) c) (extra_row p z ∷ []) []
    extra true = lost_one p c (extra_row p z) (extra_disk p z) [] (omega arith) ∙ ap (λ (m : List ℕ). pick (eqb (extra_disk p z) c) (extra_row p z ∷ m) m) (lost_nil p c)
    extra false = lost_nil p c

pub lost_diagonal : (p k z c : ℕ) → z < p → c < k → lost_in p c (diagonal_set p k z) ≡ ((z + c) % p) ∷ extra_rows p z c
lost_diagonal p k z c h l =
    lost_parts p k z c h
    ∙ ap₂ ◌++◌
    (ap₂ ◌++◌ (walk_row p (λ d. (z + d) % p) (diagonal_cells p z) (diagonal_rows p z h) k 0 c (omega arith) (omega arith)) (lost_off p c z (suc k) [] h (λ e. omega arith) ∙ lost_nil p c))
    (ap (λ (b : Bool). pick b (extra_row p z ∷ []) []) (extra_there p k z c l))

-- no extra cell is on a parity disk
extra_parity : (p k z c : ℕ) → k ≤ c → (has_extra p k z && eqb (extra_disk p z) c) ≡ false
extra_parity p k z c l = go (has_extra p k z) refl
  where
    go : (b : Bool) → has_extra p k z ≡ b → (b && eqb (extra_disk p z) c) ≡ false
    go true e = let d : extra_disk p z < k = ltb-true (extra_disk p z) k (and_r (leb 1 z) (ltb (extra_disk p z) k) e) in ne_eqb (extra_disk p z) c (λ q. omega arith)
    go false e = refl

-- so D z has no cell on P, and one on Q
pub lost_diagonal_P : (p k z : ℕ) → z < p → lost_in p k (diagonal_set p k z) ≡ []
lost_diagonal_P p k z h =
    lost_parts p k z k h
    ∙ ap₂ ◌++◌
    (ap₂ ◌++◌ (walk_off p (λ d. (z + d) % p) (diagonal_cells p z) (diagonal_rows p z h) k 0 k (inr (omega arith))) (lost_off p k z (suc k) [] h (λ e. omega arith) ∙ lost_nil p k))
    (ap (λ (b : Bool). pick b (extra_row p z ∷ []) []) (extra_parity p k z k (omega arith)))

pub lost_diagonal_Q : (p k z : ℕ) → z < p → lost_in p (suc k) (diagonal_set p k z) ≡ z ∷ []
lost_diagonal_Q p k z h =
    lost_parts p k z (suc k) h
    ∙ ap₂ ◌++◌
    (ap₂ ◌++◌ (walk_off p (λ d. (z + d) % p) (diagonal_cells p z) (diagonal_rows p z h) k 0 (suc k) (inr (omega arith))) (lost_here p (suc k) z [] h ∙ ap (λ (l : List ℕ). z ∷ l) (lost_nil p (suc k))))
    (ap (λ (b : Bool). pick b (extra_row p z ∷ []) []) (extra_parity p k z (suc k) (omega arith)))
