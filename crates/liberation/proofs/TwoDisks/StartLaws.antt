-- The start: over the sets of its rows the lost cells XOR to the first cell. A row r and its
-- diagonal leave on disk x nothing and on disk y the cells of row r and of the next row, so the
-- cells of disk y telescope;
-- besides, the diagonal whose extra cell is on a lost disk adds that cell. So in a clean stripe the
-- XOR of the surviving cells is the first cell; and where the first cell is that XOR and all those
-- sets but the last diagonal XOR to zero, so does that one.
use mathlib.Core.Path.{◌≡◌, refl, sym, ap, ap₂, ◌∙◌}
use mathlib.Core.Bool.{Bool, true, false}
use mathlib.Core.Logic.{⊎_elim}
use mathlib.Core.List.{List, [], ◌∷◌, ◌++◌}
use Prim.Native.Nat.{ℕ, zero, suc, ◌+◌, ◌-◌, ◌/◌, ◌%◌, ◌≤◌, ◌<◌}
use native.Mathlib.Nat.{mod-lt}
use native.Mathlib.Omega.{arith}
use lib.Dec.{ltb}
use lib.ListN.{length, replicate, length-replicate}
use borrow.Author.Tests.{eqb-true, eq-eqb, lt-ltb}
use Rattle.mathematics.specs.Choice.{pick}
use Rattle.mathematics.specs.Lists.{all_below}
use Rattle.mathematics.specs.Xor.{xor_l, all_bytes}
use Rattle.mathematics.proofs.Flags.{flag, and_i}
use Rattle.mathematics.proofs.ListLaws.{below_append}
use Rattle.mathematics.proofs.MemberLaws.{in_below}
use Rattle.mathematics.proofs.Primes.{Prime}
use Rattle.mathematics.proofs.XorLaws.{xor_l_comm, xor_l_swap, xor_l_zeros, xor_l_twice, xor_l_long, xor_l_bytes, zero_xor_l, zeros_bytes}
use Rattle.liberation.specs.Sets.{row_set, diagonal_set, extra_row, lost_in}
use Rattle.liberation.specs.Plans.{second_row, extra_row_on, diagonal_of}
use Rattle.liberation.proofs.SetLaws.{lost_below}
use Rattle.liberation.proofs.RowSteps.{ordinary_row, ordinary_diagonal}
use Rattle.liberation.proofs.LostLaws.{extra_on, extra_rows, extra_on_lem, extra_row_lem, extra_none, second_range, lost_append, lost_row, lost_diagonal}
use Rattle.liberation.specs.Stripes.Stripes.{xor_over}
use Rattle.liberation.proofs.Stripes.OverLaws.{Long, over_long, over_bytes, over_append}
use Rattle.liberation.specs.TwoDisks.Pairs.{next_row, start_sets}
use Rattle.liberation.proofs.TwoDisks.WalkRows.{row_after, after_zero, after_next, after_lt, comes_to, comes_once, comes_round, extra_meets, back, met, not_met}
use Rattle.liberation.proofs.TwoDisks.Roles.{Short, Roles, row_low}

-- cells of s bytes, one for each row
pub record Cells (s p : ℕ) (h : ℕ → List ℕ) : Type 0 where
  pub long : (r : ℕ) → r < p → length (h r) ≡ s
  pub bytes : (r : ℕ) → r < p → all_bytes (h r) ≡ true

rows_long : (s p : ℕ) (h : ℕ → List ℕ) → Cells s p h → (xs : List ℕ) → all_below p xs ≡ true → Long s h xs
rows_long s p h c xs b r m = c.long r (in_below p r xs b m)

extra_below : (p z c : ℕ) → 0 < p → all_below p (extra_rows p z c) ≡ true
extra_below p z c h = go (extra_on p z c)
  where
    go : (b : Bool) → all_below p (pick b (extra_row p z ∷ []) []) ≡ true
    go true = and_i (ltb (extra_row p z) p) true (lt-ltb (extra_row p z) p (omega arith)) refl
    go false = refl

pub over_nil : (s : ℕ) (h : ℕ → List ℕ) → xor_over s h [] ≡ replicate s 0
unfolding xor_over
over_nil s h = refl

over_one : (s : ℕ) (h : ℕ → List ℕ) (r : ℕ) → length (h r) ≡ s → all_bytes (h r) ≡ true → xor_over s h (r ∷ []) ≡ h r
unfolding xor_over
over_one s h r e b = xor_l_zeros s (h r) e b

-- the rows of the extra cells on disk c, of the diagonals of n rows from r on
unfoldable extras_in : ℕ → ℕ → ℕ → ℕ → ℕ → ℕ → List ℕ
extras_in zero p x y c r = []
extras_in (suc n) p x y c r = extra_rows p (diagonal_of p x r) c ++ extras_in n p x y c (next_row p x y r)

extras_below : (n p x y c r : ℕ) → 0 < p → all_below p (extras_in n p x y c r) ≡ true
unfolding extras_in
extras_below zero p x y c r h = refl
extras_below (suc n) p x y c r h = below_append p (extra_rows p (diagonal_of p x r) c) (extras_in n p x y c (next_row p x y r)) (extra_below p (diagonal_of p x r) c h) (extras_below n p x y c (next_row p x y r) h)

-- none of the n diagonals has its extra cell on c, or just the m-th
extras_none : (n p x y c r : ℕ) → ((j : ℕ) → j < n → extra_on p (diagonal_of p x (row_after j p x y r)) c ≡ false) → extras_in n p x y c r ≡ []
unfolding extras_in
extras_none zero p x y c r none = refl
extras_none (suc n) p x y c r none =
    ap₂ (λ (b : Bool) (l : List ℕ). pick b (extra_row p (diagonal_of p x r) ∷ []) [] ++ l)
    (ap (λ (i : ℕ). extra_on p (diagonal_of p x i) c) (sym (after_zero p x y r)) ∙ none 0 (omega arith))
    (extras_none n p x y c (next_row p x y r) (λ j l. ap (λ (i : ℕ). extra_on p (diagonal_of p x i) c) (sym (after_next j p x y r)) ∙ none (suc j) (omega arith)))

extras_one :
    (n m p x y c r : ℕ) → m < n
    → extra_on p (diagonal_of p x (row_after m p x y r)) c ≡ true
    → ((j : ℕ) → j < n → (j ≡ m → ⊥) → extra_on p (diagonal_of p x (row_after j p x y r)) c ≡ false)
    → extras_in n p x y c r ≡ extra_row p (diagonal_of p x (row_after m p x y r)) ∷ []
unfolding extras_in
extras_one zero m p x y c r h here none = absurd (omega arith)
extras_one (suc n) zero p x y c r h here none =
    ap₂ (λ (b : Bool) (l : List ℕ). pick b (extra_row p (diagonal_of p x r) ∷ []) [] ++ l)
    (ap (λ (i : ℕ). extra_on p (diagonal_of p x i) c) (sym (after_zero p x y r)) ∙ here)
    (extras_none n p x y c (next_row p x y r) (λ j l. ap (λ (i : ℕ). extra_on p (diagonal_of p x i) c) (sym (after_next j p x y r)) ∙ none (suc j) (omega arith) (λ e. omega arith)))
    ∙ ap (λ (i : ℕ). extra_row p (diagonal_of p x i) ∷ []) (sym (after_zero p x y r))
extras_one (suc n) (suc m) p x y c r h here none =
    ap₂ (λ (b : Bool) (l : List ℕ). pick b (extra_row p (diagonal_of p x r) ∷ []) [] ++ l)
    (ap (λ (i : ℕ). extra_on p (diagonal_of p x i) c) (sym (after_zero p x y r)) ∙ none 0 (omega arith) (λ e. omega arith))
    (extras_one n m p x y c (next_row p x y r) (omega arith) (ap (λ (i : ℕ). extra_on p (diagonal_of p x i) c) (sym (after_next m p x y r)) ∙ here) (λ j l q. ap (λ (i : ℕ). extra_on p (diagonal_of p x i) c) (sym (after_next j p x y r)) ∙ none (suc j) (omega arith) (λ e. q (omega arith))))
    ∙ ap (λ (i : ℕ). extra_row p (diagonal_of p x i) ∷ []) (sym (after_next m p x y r))

-- the lost cells of the start's sets: on x each row's cell twice, on y those of the first and the
-- row after the last, and on both the extra cells
module _ (s p k x y : ℕ) (h : ℕ → List ℕ) (cells : Cells s p h) (hx : x < k) (hy : y < k) (x_high : x < p) where
  -- the lost rows of the first row's two sets, and the rest
  lost_next : (c n r : ℕ) → c < k → r < p → lost_in p c (start_sets (suc n) p k x y r) ≡ r ∷ (((diagonal_of p x r + c) % p) ∷ (extra_rows p (diagonal_of p x r) c ++ lost_in p c (start_sets n p k x y (next_row p x y r))))
  unfolding start_sets
  lost_next c n r l m =
      let z = diagonal_of p x r in
      lost_append p c (row_set p k r) (diagonal_set p k z ++ start_sets n p k x y (next_row p x y r))
      ∙ ap₂ ◌++◌ (lost_row p k r c m (omega arith)) (lost_append p c (diagonal_set p k z) (start_sets n p k x y (next_row p x y r)) ∙ ap (λ (l : List ℕ). l ++ lost_in p c (start_sets n p k x y (next_row p x y r))) (lost_diagonal p k z c (mod-lt (r + p - x) (omega arith)) l))

  -- the XOR over the extra cells and what follows
  rest_over : (xs ys : List ℕ) → all_below p ys ≡ true → xor_over s h (xs ++ ys) ≡ xor_l (xor_over s h xs) (xor_over s h ys)
  rest_over xs ys b = over_append s h xs ys (rows_long s p h cells ys b)

  rows_over : (xs : List ℕ) → all_below p xs ≡ true → length (xor_over s h xs) ≡ s
  rows_over xs b = over_long s h xs (rows_long s p h cells xs b)

  on_x : (n r : ℕ) → r < p → xor_over s h (lost_in p x (start_sets n p k x y r)) ≡ xor_over s h (extras_in n p x y x r)
  unfolding xor_over start_sets extras_in lost_in
  on_x zero r l = refl
  on_x (suc n) r l =
      let z = diagonal_of p x r in
      let r2 = next_row p x y r in
      let rest = lost_in p x (start_sets n p k x y r2) in
      let pos : 0 < p = omega arith in
      ap (xor_over s h) (lost_next x n r hx l)
      ∙ ap (λ (i : ℕ). xor_l (h r) (xor_l (h i) (xor_over s h (extra_rows p z x ++ rest)))) (ordinary_row p x r x_high l)
      ∙ xor_l_twice s (h r) (xor_over s h (extra_rows p z x ++ rest)) (cells.long r l)
      (rows_over (extra_rows p z x ++ rest) (below_append p (extra_rows p z x) rest (extra_below p z x pos) (lost_below p x (start_sets n p k x y r2) pos)))
      (over_bytes s h (extra_rows p z x ++ rest))
      ∙ rest_over (extra_rows p z x) rest (lost_below p x (start_sets n p k x y r2) pos)
      ∙ ap (xor_l (xor_over s h (extra_rows p z x))) (on_x n r2 (mod-lt (z + y) pos))
      ∙ sym (rest_over (extra_rows p z x) (extras_in n p x y x r2) (extras_below n p x y x r2 pos))

  on_y : (n r : ℕ) → r < p → xor_over s h (lost_in p y (start_sets n p k x y r)) ≡ xor_l (h r) (xor_l (h (row_after n p x y r)) (xor_over s h (extras_in n p x y y r)))
  unfolding xor_over start_sets extras_in lost_in row_after
  on_y zero r l = sym (xor_l_twice s (h r) (replicate s 0) (cells.long r l) (length-replicate s 0) (zeros_bytes s))
  on_y (suc n) r l =
      let z = diagonal_of p x r in
      let r2 = next_row p x y r in
      let rest = lost_in p y (start_sets n p k x y r2) in
      let pos : 0 < p = omega arith in
      let e = xor_over s h (extra_rows p z y) in
      let tail = xor_l (h (row_after n p x y r2)) (xor_over s h (extras_in n p x y y r2)) in
      ap (xor_over s h) (lost_next y n r hy l)
      ∙ ap (λ (c : List ℕ). xor_l (h r) (xor_l (h r2) c)) (rest_over (extra_rows p z y) rest (lost_below p y (start_sets n p k x y r2) pos) ∙ ap (xor_l e) (on_y n r2 (mod-lt (z + y) pos)))
      ∙ ap (xor_l (h r)) (ap (xor_l (h r2)) (xor_l_swap e (h r2) tail) ∙ xor_l_twice s (h r2) (xor_l e tail) (cells.long r2 (mod-lt (z + y) pos)) (xor_l_long s e tail (rows_over (extra_rows p z y) (extra_below p z y pos)) (xor_l_long s (h (row_after n p x y r2)) (xor_over s h (extras_in n p x y y r2)) (cells.long (row_after n p x y r2) (after_lt n p x y r2 (mod-lt (z + y) pos))) (rows_over (extras_in n p x y y r2) (extras_below n p x y y r2 pos)))) (xor_l_bytes e tail))
      ∙ ap (xor_l (h r)) (xor_l_swap e (h (row_after n p x y r2)) (xor_over s h (extras_in n p x y y r2)) ∙ ap (xor_l (h (row_after n p x y r2))) (sym (rest_over (extra_rows p z y) (extras_in n p x y y r2) (extras_below n p x y y r2 pos))))

-- which extra cells the start meets, by the rows that it comes to
module _ (p x y : ℕ) (ok : Prime p) (odd : p % 2 ≡ 1) (x_high : x < p) (y_high : y < p) (apart : x ≡ y → ⊥) (c : ℕ) (c-low : 1 ≤ c) (c-high : c < p) (n r : ℕ) (r-lt : r < p) where
  -- the diagonal of a row has its extra cell on c exactly if it is the row that meets says
  at_row : (j : ℕ) → extra_on p (diagonal_of p x (row_after j p x y r)) c ≡ true → row_after j p x y r ≡ extra_meets p x c
  at_row j t =
      let z = diagonal_of p x (row_after j p x y r) in
      let z_lt : z < p = mod-lt (row_after j p x y r + p - x) (omega arith) in
      sym (ordinary_row p x (row_after j p x y r) x_high (after_lt j p x y r r-lt)) ∙ ap (λ (i : ℕ). (i + x) % p) (eqb-true z (p - second_row p c) (sym (extra_on_lem p c odd c-low c-high z z_lt) ∙ t))

  unmet : ((j : ℕ) → j < n → row_after j p x y r ≡ extra_meets p x c → ⊥) → extras_in n p x y c r ≡ []
  unmet never = extras_none n p x y c r (λ j l. ⊎_elim (λ t. absurd (never j l (at_row j t))) (λ t. t) (flag (extra_on p (diagonal_of p x (row_after j p x y r)) c)))

  met_once : (m : ℕ) → m < n → n ≤ p → row_after m p x y r ≡ extra_meets p x c → extras_in n p x y c r ≡ extra_row_on p c ∷ []
  met_once m l b e =
      extras_one n m p x y c r l here (λ j i q. ⊎_elim (λ t. absurd (q (comes_once p x y ok x_high y_high apart r j m r-lt (omega arith) (omega arith) (at_row j t ∙ sym e)))) (λ t. t) (flag (extra_on p (diagonal_of p x (row_after j p x y r)) c)))
      ∙ ap (λ (i : ℕ). i ∷ []) (extra_row_lem p c odd c-low c-high z z_lt here)
    where
      z : ℕ
      z = diagonal_of p x (row_after m p x y r)

      z_lt : z < p
      z_lt = mod-lt (row_after m p x y r + p - x) (omega arith)

      here : extra_on p z c ≡ true
      here =
          let w = second_range p c odd c-low c-high in
          extra_on_lem p c odd c-low c-high z z_lt ∙ eq-eqb z (p - second_row p c) (ap (diagonal_of p x) e ∙ ordinary_diagonal p x (p - second_row p c) x_high (omega arith))

-- a start with its roles, over any cells of the two disks
module _ (s p k x y : ℕ) (ok : Prime p) (odd : p % 2 ≡ 1) (g : Roles p x y) (hx : x < k) (hy : y < k) (cx cy : ℕ → List ℕ) (on_first : Cells s p cx) (on_second : Cells s p cy) where
  abbrev ex : ℕ
  ex = extra_row_on p x

  -- y is disk 0: every row is met, disk y has no extra cell, and on disk y the walk comes round
  pub from_zero : y ≡ 0 → xor_l (xor_over s cx (lost_in p x (start_sets p p k x y ex))) (xor_over s cy (lost_in p y (start_sets p p k x y ex))) ≡ cx ex
  from_zero e = ap₂ xor_l first second ∙ xor_l_zeros s (cx ex) (on_first.long ex ex_lt) (on_first.bytes ex ex_lt)
    where
      ex_lt : ex < p
      ex_lt = row_low p x y ok odd g

      pos : 0 < p
      pos = omega arith

      first : xor_over s cx (lost_in p x (start_sets p p k x y ex)) ≡ cx ex
      first =
          let w = comes_to p x y ok g.x_high g.y_high g.apart ex (extra_meets p x x) ex_lt (mod-lt (p - second_row p x + x) pos) in
          on_x s p k x y cx on_first hx hy g.x_high p ex ex_lt
          ∙ ap (xor_over s cx) (met_once p x y ok odd g.x_high g.y_high g.apart x g.x_low g.x_high p ex ex_lt w.0 w.1 (omega arith) w.2)
          ∙ over_one s cx ex (on_first.long ex ex_lt) (on_first.bytes ex ex_lt)

      second : xor_over s cy (lost_in p y (start_sets p p k x y ex)) ≡ replicate s 0
      second =
          on_y s p k x y cy on_second hx hy g.x_high p ex ex_lt
          ∙ ap₂ (λ (i : ℕ) (l : List ℕ). xor_l (cy ex) (xor_l (cy i) (xor_over s cy l)))
          (comes_round p x y ok g.x_high g.y_high g.apart ex ex_lt)
          (extras_none p p x y y ex (λ j l. ap (extra_on p (diagonal_of p x (row_after j p x y ex))) e ∙ extra_none p (diagonal_of p x (row_after j p x y ex)) odd (mod-lt (row_after j p x y ex + p - x) pos)))
          ∙ ap (λ (c : List ℕ). xor_l (cy ex) (xor_l (cy ex) c)) (over_nil s cy)
          ∙ xor_l_twice s (cy ex) (replicate s 0) (on_second.long ex ex_lt) (length-replicate s 0) (zeros_bytes s)

  -- y has an extra cell, which is met, and that on x is not
  pub from_other : 1 ≤ y → Short p x y → xor_l (xor_over s cx (lost_in p x (start_sets ((p - 1) / 2) p k x y (extra_row_on p y)))) (xor_over s cy (lost_in p y (start_sets ((p - 1) / 2) p k x y (extra_row_on p y)))) ≡ cy ex
  from_other low short = ap₂ xor_l first second ∙ zero_xor_l s (cy ex) (on_second.long ex ex_lt) (on_second.bytes ex ex_lt)
    where
      ex_lt : ex < p
      ex_lt = row_low p x y ok odd g

      ey : ℕ
      ey = extra_row_on p y

      ey_lt : ey < p
      ey_lt = let w = second_range p y odd low g.y_high in omega arith

      half : ℕ
      half = (p - 1) / 2

      first : xor_over s cx (lost_in p x (start_sets half p k x y ey)) ≡ replicate s 0
      first =
          on_x s p k x y cx on_first hx hy g.x_high half ey ey_lt
          ∙ ap (xor_over s cx) (unmet p x y ok odd g.x_high g.y_high g.apart x g.x_low g.x_high half ey ey_lt
          (λ j l. not_met p x y ok odd g.x_low g.x_high low g.y_high g.apart short.times short.low short.high short.inverse j (omega arith)))
          ∙ over_nil s cx

      second : xor_over s cy (lost_in p y (start_sets half p k x y ey)) ≡ cy ex
      second =
          on_y s p k x y cy on_second hx hy g.x_high half ey ey_lt
          ∙ ap₂ (λ (i : ℕ) (l : List ℕ). xor_l (cy ey) (xor_l (cy i) (xor_over s cy l)))
          (back p x y ok odd g.x_low g.x_high low g.y_high g.apart)
          (met_once p x y ok odd g.x_high g.y_high g.apart y low g.y_high half ey ey_lt (short.times - 1) (omega (arith, short.low, short.high)) (omega arith)
          (met p x y ok odd g.x_low g.x_high low g.y_high g.apart short.times short.low short.high short.inverse))
          ∙ ap (λ (c : List ℕ). xor_l (cy ey) (xor_l (cy ex) c)) (over_one s cy ey (on_second.long ey ey_lt) (on_second.bytes ey ey_lt))
          ∙ ap (xor_l (cy ey)) (xor_l_comm (cy ex) (cy ey))
          ∙ xor_l_twice s (cy ey) (cy ex) (on_second.long ey ey_lt) (on_second.long ex ex_lt) (on_second.bytes ex ex_lt)
