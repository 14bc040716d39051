-- Equations over bits, reduced: at every time each row is the sum of the given equations that its
-- second word names, and what solves all rows solves all given equations.
-- Where all unknowns are done, row b holds unknown b alone; where one cannot be done, a vector that
-- is not zero solves all given equations.
use mathlib.Core.Path.{◌≡◌, refl, sym, ap, ap₂, subst, ◌∙◌}
use mathlib.Core.Bool.{Bool, true, false, ◌&&◌, ◌||◌, not, and-false, and-true}
use mathlib.Core.Logic.{◌⊎◌, inl, inr, ⊎_elim}
use mathlib.Core.List.{List}
use Prim.Native.Nat.{ℕ, zero, suc, ◌+◌, ◌-◌, ◌^◌, ◌≤◌, ◌<◌}
use native.Mathlib.Omega.{arith}
use lib.Bits.{bit_xor}
use lib.Dec.{eqb, ltb}
use lib.ListN.{length, get_or, set, length-set}
use lib.Seq.{get_or-set_same, get_or-set_other}
use borrow.Author.Tests.{ltb-true, ltb-false, eqb-true, eqb-false, eq-eqb, ne_eqb, lt-ltb, le-ltb}
use Rattle.mathematics.specs.Choice.{pick}
use Rattle.mathematics.specs.Sums.{first_from}
use Rattle.mathematics.proofs.Flags.{flag}
use Rattle.mathematics.proofs.FirstLaws.{first_passes, first_least}
use Rattle.mathematics.proofs.OrderLaws.{eq_or_ne, lt_or_le}
use Rattle.mathematics.specs.BitRows.Parity.{differ, odd_to, bit}
use Rattle.mathematics.specs.BitRows.Rows.{Rows, has, plus, row_added, row_cleared, cleared_from, pivot, exchanged, pivoted, column_done, Reduced, reduction, reduced_from}
use Rattle.mathematics.proofs.BitRows.ParityLaws.{differ_self, differ_false, differ_none, differ_and, to_ext, to_none, to_add, to_one}
use Rattle.mathematics.proofs.BitRows.BitLaws.{bit_xor_lem, bit_power}

-- ---- a word added to another
plus_long : (i j : ℕ) (ws : List ℕ) → length (plus i j ws) ≡ length ws
plus_long i j ws = length-set ws i (bit_xor (get_or ws i 0) (get_or ws j 0))

plus_own : (i j : ℕ) (ws : List ℕ) (b : ℕ) → i < length ws → bit (get_or (plus i j ws) i 0) b ≡ differ (bit (get_or ws i 0) b) (bit (get_or ws j 0) b)
plus_own i j ws b h = ap (λ (w : ℕ). bit w b) (get_or-set_same ws i (bit_xor (get_or ws i 0) (get_or ws j 0)) 0 h) ∙ bit_xor_lem (get_or ws i 0) (get_or ws j 0) b

plus_other : (i j : ℕ) (ws : List ℕ) (a b : ℕ) → (a ≡ i → ⊥) → bit (get_or (plus i j ws) a 0) b ≡ bit (get_or ws a 0) b
plus_other i j ws a b n = ap (λ (w : ℕ). bit w b) (get_or-set_other ws i a (bit_xor (get_or ws i 0) (get_or ws j 0)) 0 n)

-- ---- two words exchanged, which may be one
pub exchange_long : (b j : ℕ) (ws : List ℕ) → length (exchanged b j ws) ≡ length ws
exchange_long b j ws = length-set (set ws b (get_or ws j 0)) j (get_or ws b 0) ∙ length-set ws b (get_or ws j 0)

pub exchange_second : (b j : ℕ) (ws : List ℕ) → j < length ws → get_or (exchanged b j ws) j 0 ≡ get_or ws b 0
exchange_second b j ws h = get_or-set_same (set ws b (get_or ws j 0)) j (get_or ws b 0) 0 (subst (λ (l : ℕ). j < l) (sym (length-set ws b (get_or ws j 0))) h)

pub exchange_first : (b j : ℕ) (ws : List ℕ) → b < length ws → j < length ws → get_or (exchanged b j ws) b 0 ≡ get_or ws j 0
exchange_first b j ws h l =
    ⊎_elim
    (λ e. ap (λ (i : ℕ). get_or (exchanged b j ws) i 0) e ∙ exchange_second b j ws l ∙ ap (λ (i : ℕ). get_or ws i 0) e)
    (λ n. get_or-set_other (set ws b (get_or ws j 0)) j b (get_or ws b 0) 0 n ∙ get_or-set_same ws b (get_or ws j 0) 0 h)
    (eq_or_ne b j)

pub exchange_other : (b j : ℕ) (ws : List ℕ) (a : ℕ) → (a ≡ b → ⊥) → (a ≡ j → ⊥) → get_or (exchanged b j ws) a 0 ≡ get_or ws a 0
exchange_other b j ws a m n = get_or-set_other (set ws b (get_or ws j 0)) j a (get_or ws b 0) 0 n ∙ get_or-set_other ws b a (get_or ws j 0) 0 m

-- a search does not go back
pub first_low : (n d : ℕ) (f : ℕ → Bool) → d ≤ first_from n d f
unfolding first_from
first_low zero d f = omega arith
first_low (suc n) d f = go (f d) (first_low n (suc d) f)
  where
    go : (b : Bool) → suc d ≤ first_from n (suc d) f → d ≤ pick b d (first_from n (suc d) f)
    go true h = omega arith
    go false h = omega arith

-- of n rows, those before row b: the unknowns before b are each in their own row alone
abbrev pub Alone : ℕ → ℕ → Rows → Type 0
Alone n b r = (j c : ℕ) → j < n → c < b → has r j c ≡ eqb j c

-- n equations in m unknowns: given i b says that unknown b is in equation i
module _ (n m : ℕ) (given : ℕ → ℕ → Bool) where
  -- what every step keeps
  pub record Derived (r : Rows) : Type 0 where
    pub words_long : length r.words ≡ n
    pub sums_long : length r.sums ≡ n
    pub summed : (j b : ℕ) → j < n → b < m → has r j b ≡ odd_to n (λ i. bit (get_or r.sums j 0) i && given i b)
    pub solves : (x : ℕ → Bool) → ((j : ℕ) → j < n → odd_to m (λ b. has r j b && x b) ≡ false) → (i : ℕ) → i < n → odd_to m (λ b. given i b && x b) ≡ false

  -- one row added to another
  module _ (r : Rows) (d : Derived r) (i j : ℕ) (hi : i < n) (hj : j < n) (apart : j ≡ i → ⊥) where
    own_word : (b : ℕ) → has (row_added i j r) i b ≡ differ (has r i b) (has r j b)
    own_word b = plus_own i j r.words b (subst (λ (l : ℕ). i < l) (sym d.words_long) hi)

    own_sum : (b : ℕ) → bit (get_or (plus i j r.sums) i 0) b ≡ differ (bit (get_or r.sums i 0) b) (bit (get_or r.sums j 0) b)
    own_sum b = plus_own i j r.sums b (subst (λ (l : ℕ). i < l) (sym d.sums_long) hi)

    added_summed : (a b : ℕ) → a < n → b < m → has (row_added i j r) a b ≡ odd_to n (λ c. bit (get_or (plus i j r.sums) a 0) c && given c b)
    added_summed a b ha hb = ⊎_elim same other (eq_or_ne a i)
      where
        same : a ≡ i → has (row_added i j r) a b ≡ odd_to n (λ c. bit (get_or (plus i j r.sums) a 0) c && given c b)
        same e =
            ap (λ (x : ℕ). has (row_added i j r) x b) e
            ∙ own_word b
            ∙ ap₂ differ (d.summed i b hi hb) (d.summed j b hj hb)
            ∙ sym (to_add n (λ c. bit (get_or r.sums i 0) c && given c b) (λ c. bit (get_or r.sums j 0) c && given c b))
            ∙ to_ext n _ _ (λ c l. sym (ap (λ (x : Bool). x && given c b) (own_sum c) ∙ differ_and (bit (get_or r.sums i 0) c) (bit (get_or r.sums j 0) c) (given c b)))
            ∙ ap (λ (x : ℕ). odd_to n (λ c. bit (get_or (plus i j r.sums) x 0) c && given c b)) (sym e)

        other : (a ≡ i → ⊥) → has (row_added i j r) a b ≡ odd_to n (λ c. bit (get_or (plus i j r.sums) a 0) c && given c b)
        other q =
            plus_other i j r.words a b q
            ∙ d.summed a b ha hb
            ∙ to_ext n _ _ (λ c l. ap (λ (x : Bool). x && given c b) (sym (plus_other i j r.sums a c q)))

    -- a vector x meets the new row in the sum of what it meets the two in
    meets : (x : ℕ → Bool) → odd_to m (λ b. has (row_added i j r) i b && x b) ≡ differ (odd_to m (λ b. has r i b && x b)) (odd_to m (λ b. has r j b && x b))
    meets x =
        to_ext m _ _ (λ b l. ap (λ (y : Bool). y && x b) (own_word b) ∙ differ_and (has r i b) (has r j b) (x b))
        ∙ to_add m (λ b. has r i b && x b) (λ b. has r j b && x b)

    added_solves : (x : ℕ → Bool) → ((a : ℕ) → a < n → odd_to m (λ b. has (row_added i j r) a b && x b) ≡ false) → (a : ℕ) → a < n → odd_to m (λ b. has r a b && x b) ≡ false
    added_solves x h a ha = ⊎_elim same (λ q. other a q ha) (eq_or_ne a i)
      where
        other : (c : ℕ) → (c ≡ i → ⊥) → c < n → odd_to m (λ b. has r c b && x b) ≡ false
        other c q l = to_ext m _ _ (λ b k. ap (λ (y : Bool). y && x b) (sym (plus_other i j r.words c b q))) ∙ h c l

        same : a ≡ i → odd_to m (λ b. has r a b && x b) ≡ false
        same e =
            ap (λ (c : ℕ). odd_to m (λ b. has r c b && x b)) e
            ∙ differ_none (odd_to m (λ b. has r i b && x b)) (odd_to m (λ b. has r j b && x b)) (sym (meets x) ∙ h i hi)
            ∙ other j apart hj

    added_derived : Derived (row_added i j r)
    added_derived =
        record {
          words_long = plus_long i j r.words ∙ d.words_long;
          sums_long = plus_long i j r.sums ∙ d.sums_long;
          summed = added_summed;
          solves = λ x h. d.solves x (added_solves x h);
        }

  -- ---- one unknown, b: those before it are done, and row b has it
  record Ready (b : ℕ) (r : Rows) : Type 0 where
    derived : Derived r
    alone : (j c : ℕ) → j < n → c < b → has r j c ≡ eqb j c
    own : has r b b ≡ true

  -- row a of r' is row `at` of r, and the other way round
  record Partner (r r' : Rows) (a : ℕ) : Type 0 where
    at : ℕ
    inside : at < n
    word : get_or r'.words a 0 ≡ get_or r.words at 0
    sum : get_or r'.sums a 0 ≡ get_or r.sums at 0
    back : get_or r'.words at 0 ≡ get_or r.words a 0

  -- the same rows in another order
  order_derived : (r r' : Rows) → Derived r → length r'.words ≡ n → length r'.sums ≡ n → ((a : ℕ) → a < n → Partner r r' a) → Derived r'
  order_derived r r' d lw ls partner =
      record {
        words_long = lw;
        sums_long = ls;
        summed = λ a b ha hb. let f = partner a ha in ap (λ (w : ℕ). bit w b) f.word ∙ d.summed f.at b f.inside hb ∙ ap (λ (w : ℕ). odd_to n (λ i. bit w i && given i b)) (sym f.sum);
        solves = λ x h. d.solves x (λ a ha. let f = partner a ha in ap (λ (w : ℕ). odd_to m (λ b. bit w b && x b)) (sym f.back) ∙ h f.at f.inside);
      }

  -- row j, the first from b on that has it, exchanged with row b
  module _ (b j : ℕ) (r : Rows) (d : Derived r) (alone : (a c : ℕ) → a < n → c < b → has r a c ≡ eqb a c) (from : b ≤ j) (hj : j < n) (held : has r j b ≡ true) where
    hb : b < n
    hb = omega arith

    words_in : (i : ℕ) → i < n → i < length r.words
    words_in i = subst (λ (l : ℕ). i < l) (sym d.words_long)

    sums_in : (i : ℕ) → i < n → i < length r.sums
    sums_in i = subst (λ (l : ℕ). i < l) (sym d.sums_long)

    now_first : get_or (pivoted b j r).words b 0 ≡ get_or r.words j 0
    now_first = exchange_first b j r.words (words_in b hb) (words_in j hj)

    now_second : get_or (pivoted b j r).words j 0 ≡ get_or r.words b 0
    now_second = exchange_second b j r.words (words_in j hj)

    partner : (a : ℕ) → a < n → Partner r (pivoted b j r) a
    partner a ha = ⊎_elim first (λ q. ⊎_elim second (other q) (eq_or_ne a j)) (eq_or_ne a b)
      where
        first : a ≡ b → Partner r (pivoted b j r) a
        first e = subst (Partner r (pivoted b j r)) (sym e) (record { at = j; inside = hj; word = now_first; sum = exchange_first b j r.sums (sums_in b hb) (sums_in j hj); back = now_second })

        second : a ≡ j → Partner r (pivoted b j r) a
        second e = subst (Partner r (pivoted b j r)) (sym e) (record { at = b; inside = hb; word = now_second; sum = exchange_second b j r.sums (sums_in j hj); back = now_first })

        other : (a ≡ b → ⊥) → (a ≡ j → ⊥) → Partner r (pivoted b j r) a
        other q w = let e = exchange_other b j r.words a q w in record { at = a; inside = ha; word = e; sum = exchange_other b j r.sums a q w; back = e }

    pivot_ready : Ready b (pivoted b j r)
    pivot_ready =
        record {
          derived = order_derived r (pivoted b j r) d (exchange_long b j r.words ∙ d.words_long) (exchange_long b j r.sums ∙ d.sums_long) partner;
          alone = λ a c l k. ⊎_elim (first a c k) (λ q. ⊎_elim (second a c k) (λ w. ap (λ (x : ℕ). bit x c) (exchange_other b j r.words a q w) ∙ alone a c l k) (eq_or_ne a j)) (eq_or_ne a b);
          own = ap (λ (x : ℕ). bit x b) now_first ∙ held;
        }
      where
        off : (a c : ℕ) → a < n → c < b → b ≤ a → has r a c ≡ false
        off a c l k h = alone a c l k ∙ ne_eqb a c (λ e. omega arith)

        first : (a c : ℕ) → c < b → a ≡ b → has (pivoted b j r) a c ≡ eqb a c
        first a c k e =
            ap (λ (x : ℕ). has (pivoted b j r) x c) e
            ∙ ap (λ (x : ℕ). bit x c) now_first
            ∙ off j c hj k from
            ∙ sym (ne_eqb a c (λ w. omega arith))

        second : (a c : ℕ) → c < b → a ≡ j → has (pivoted b j r) a c ≡ eqb a c
        second a c k e =
            ap (λ (x : ℕ). has (pivoted b j r) x c) e
            ∙ ap (λ (x : ℕ). bit x c) now_second
            ∙ off b c hb k (omega arith)
            ∙ sym (ne_eqb a c (λ w. omega arith))

  -- row b added to row i, if that has unknown b
  record Cleared (b i : ℕ) (r r' : Rows) : Type 0 where
    ready : Ready b r'
    here : has r' i b ≡ eqb i b
    others : (a c : ℕ) → (a ≡ i → ⊥) → has r' a c ≡ has r a c

  clear_row : (b i : ℕ) (r : Rows) → b < n → i < n → Ready b r → Cleared b i r (row_cleared b i r)
  clear_row b i r hb hi g = go (eqb i b) refl (has r i b) refl
    where
      d : Derived r
      d = g.derived

      go : (t : Bool) → eqb i b ≡ t → (u : Bool) → has r i b ≡ u → Cleared b i r (pick (not t && u) (row_added i b r) r)
      go true e u k = record { ready = g; here = ap (λ (x : ℕ). has r x b) (eqb-true i b e) ∙ g.own ∙ sym e; others = λ a c q. refl }
      go false e false k = record { ready = g; here = k ∙ sym e; others = λ a c q. refl }
      go false e true k =
          record {
            ready = record {
              derived = added_derived r d i b hi hb apart;
              alone = λ a c l m. ⊎_elim (same a c m) (λ q. plus_other i b r.words a c q ∙ g.alone a c l m) (eq_or_ne a i);
              own = plus_other i b r.words b b apart ∙ g.own;
            };
            here = own_word r d i b hi hb apart b ∙ ap₂ differ k g.own ∙ sym e;
            others = λ a c q. plus_other i b r.words a c q;
          }
        where
          apart : b ≡ i → ⊥
          apart q = eqb-false i b e (sym q)

          same : (a c : ℕ) → c < b → a ≡ i → has (row_added i b r) a c ≡ eqb a c
          same a c m q =
              ap (λ (x : ℕ). has (row_added i b r) x c) q
              ∙ own_word r d i b hi hb apart c
              ∙ ap₂ differ (g.alone i c hi m) (g.alone b c hb m ∙ ne_eqb b c (λ w. omega arith))
              ∙ differ_false (eqb i c)
              ∙ ap (λ (x : ℕ). eqb x c) (sym q)

  -- all rows from i on
  record Column (b : ℕ) (r : Rows) : Type 0 where
    ready : Ready b r
    only : (a : ℕ) → a < n → has r a b ≡ eqb a b

  clear_rows : (k b i : ℕ) (r : Rows) → i + k ≡ n → b < n → Ready b r → ((a : ℕ) → a < i → has r a b ≡ eqb a b) → Column b (cleared_from k b i r)
  unfolding cleared_from
  clear_rows zero b i r e hb g h = record { ready = g; only = λ a l. h a (omega arith) }
  clear_rows (suc k) b i r e hb g h = clear_rows k b (suc i) (row_cleared b i r) (omega arith) hb c.ready before
    where
      c : Cleared b i r (row_cleared b i r)
      c = clear_row b i r hb (omega arith) g

      before : (a : ℕ) → a < suc i → has (row_cleared b i r) a b ≡ eqb a b
      before a l = ⊎_elim (λ q. ap (λ (x : ℕ). has (row_cleared b i r) x b) q ∙ c.here ∙ ap (λ (x : ℕ). eqb x b) (sym q)) (λ q. c.others a b q ∙ h a (less a l q)) (eq_or_ne a i)
        where
          less : (a : ℕ) → a < suc i → (a ≡ i → ⊥) → a < i
          less a l q = omega arith

  -- so one more unknown is done
  record Done (b : ℕ) (r : Rows) : Type 0 where
    derived : Derived r
    alone : Alone n b r

  column_done_lem : (b j : ℕ) (r : Rows) → Done b r → b ≤ j → j < n → has r j b ≡ true → Done (suc b) (column_done n b j r)
  column_done_lem b j r d from hj held = record { derived = c.ready.derived; alone = alone }
    where
      c : Column b (column_done n b j r)
      c = clear_rows n b 0 (pivoted b j r) (omega arith) (omega arith) (pivot_ready b j r d.derived d.alone from hj held) (λ a l. absurd (omega arith))

      alone : (a e : ℕ) → a < n → e < suc b → has (column_done n b j r) a e ≡ eqb a e
      alone a e l k = ⊎_elim (λ q. c.ready.alone a e l q) (λ q. let w : e ≡ b = omega arith in ap (has (column_done n b j r) a) w ∙ c.only a l ∙ ap (eqb a) (sym w)) (lt_or_le e b)

  -- ---- an unknown that no row from its own on has: the vector of it and of those before it whose
  -- rows have it solves everything
  pub record Dependent : Type 0 where
    pub unknown : ℕ
    pub below : unknown < m
    pub vector : ℕ → Bool
    pub holds : vector unknown ≡ true
    pub solution : (i : ℕ) → i < n → odd_to m (λ b. given i b && vector b) ≡ false

  module _ (b : ℕ) (r : Rows) (d : Done b r) (hb : b < m) (most : b ≤ n) (free : (j : ℕ) → b ≤ j → j < n → has r j b ≡ false) where
    vector : ℕ → Bool
    vector c = eqb c b || (ltb c b && has r c b)

    at_own : vector b ≡ true
    unfolding vector
    at_own = ap (λ (t : Bool). t || (ltb b b && has r b b)) (eq-eqb b b refl)

    at_past : (c : ℕ) → b < c → vector c ≡ false
    unfolding vector
    at_past c l = ap₂ (λ (t u : Bool). t || (u && has r c b)) (ne_eqb c b (λ e. omega arith)) (le-ltb c b (omega arith))

    at_before : (c : ℕ) → c < b → vector c ≡ has r c b
    unfolding vector
    at_before c l = ap₂ (λ (t u : Bool). t || (u && has r c b)) (ne_eqb c b (λ e. omega arith)) (lt-ltb c b l)

    -- what it meets a row in: the unknown itself, and the row's own
    row_meets : (j : ℕ) → j < n → odd_to m (λ c. has r j c && vector c) ≡ false
    row_meets j hj = ⊎_elim before from (lt_or_le j b)
      where
        -- a row from b on has none of these unknowns
        from : b ≤ j → odd_to m (λ c. has r j c && vector c) ≡ false
        from k = to_none m _ (λ c l. ⊎_elim (low c) (λ g. ⊎_elim (high c) (here c g) (lt_or_le b c)) (lt_or_le c b))
          where
            low : (c : ℕ) → c < b → (has r j c && vector c) ≡ false
            low c g = ap (λ (t : Bool). t && vector c) (d.alone j c hj g ∙ ne_eqb j c (λ e. omega arith))

            high : (c : ℕ) → b < c → (has r j c && vector c) ≡ false
            high c g = ap (λ (t : Bool). has r j c && t) (at_past c g) ∙ and-false (has r j c)

            here : (c : ℕ) → b ≤ c → c ≤ b → (has r j c && vector c) ≡ false
            here c g h = let e : c ≡ b = omega arith in ap (λ (t : Bool). t && vector c) (ap (has r j) e ∙ free j k hj)

        -- a row before b has its own, and b exactly if the vector has its own
        before : j < b → odd_to m (λ c. has r j c && vector c) ≡ false
        before k =
            to_ext m _ _ term
            ∙ to_add m (λ c. eqb b c && has r j b) (λ c. eqb j c && has r j b)
            ∙ ap₂ differ (single b hb) (single j (omega arith))
            ∙ differ_self (has r j b)
          where
            single : (a : ℕ) → a < m → odd_to m (λ c. eqb a c && has r j b) ≡ has r j b
            single a l = to_one m a _ l (λ c h q. ap (λ (t : Bool). t && has r j b) (ne_eqb a c (λ e. q (sym e)))) ∙ ap (λ (t : Bool). t && has r j b) (eq-eqb a a refl)

            term : (c : ℕ) → c < m → (has r j c && vector c) ≡ differ (eqb b c && has r j b) (eqb j c && has r j b)
            term c l = ⊎_elim low (λ g. ⊎_elim high (here g) (lt_or_le b c)) (lt_or_le c b)
              where
                own : (t : Bool) → eqb j c ≡ t → (t && has r c b) ≡ (t && has r j b)
                own true e = ap (λ (x : ℕ). has r x b) (sym (eqb-true j c e))
                own false e = refl

                low : c < b → (has r j c && vector c) ≡ differ (eqb b c && has r j b) (eqb j c && has r j b)
                low g =
                    ap₂ ◌&&◌ (d.alone j c hj g) (at_before c g)
                    ∙ own (eqb j c) refl
                    ∙ sym (ap (λ (t : Bool). differ (t && has r j b) (eqb j c && has r j b)) (ne_eqb b c (λ e. omega arith)))

                high : b < c → (has r j c && vector c) ≡ differ (eqb b c && has r j b) (eqb j c && has r j b)
                high g =
                    ap (λ (t : Bool). has r j c && t) (at_past c g)
                    ∙ and-false (has r j c)
                    ∙ sym (ap₂ (λ (t u : Bool). differ (t && has r j b) (u && has r j b)) (ne_eqb b c (λ e. omega arith)) (ne_eqb j c (λ e. omega arith)))

                here : b ≤ c → c ≤ b → (has r j c && vector c) ≡ differ (eqb b c && has r j b) (eqb j c && has r j b)
                here g h =
                    let e : c ≡ b = omega arith in
                    ap (λ (x : ℕ). has r j x && vector x) e
                    ∙ ap (λ (t : Bool). has r j b && t) at_own
                    ∙ and-true (has r j b)
                    ∙ sym (ap₂ (λ (t u : Bool). differ (t && has r j b) (u && has r j b)) (eq-eqb b c (sym e)) (ne_eqb j c (λ e. omega arith)) ∙ differ_false (has r j b))

    dependent : Dependent
    dependent = record { unknown = b; below = hb; vector = vector; holds = at_own; solution = d.derived.solves vector row_meets }

  -- ---- all unknowns, from b on
  pub record Solved (r : Rows) : Type 0 where
    pub derived : Derived r
    pub alone : Alone n m r
    pub few : m ≤ n

  Outcome : Reduced → Type 0
  Outcome q = ((q.done ≡ m) × Solved q.left) ⊎ ((q.done < m) × Dependent)

  module _ (b : ℕ) (r : Rows) (d : Done b r) (most : b ≤ n) where
    low : b ≤ pivot n b r
    low = first_low (n - b) b (λ j. has r j b)

    least : (j : ℕ) → b ≤ j → j < n → has r j b ≡ true → pivot n b r ≤ j
    least j from l h = first_least (n - b) b j (λ a. has r a b) from (omega arith) h

    on : pivot n b r < n → Done (suc b) (column_done n b (pivot n b r) r)
    on l = column_done_lem b (pivot n b r) r d low l (first_passes (n - b) b (λ j. has r j b) (omega (arith, low)))

    stop : b < m → n ≤ pivot n b r → Dependent
    stop hb l = dependent b r d hb most (λ j from h. ⊎_elim (λ w. absurd (past (least j from h w) h)) (λ w. w) (flag (has r j b)))
      where
        past : {j : ℕ} → pivot n b r ≤ j → j < n → ⊥
        past u v = omega arith

  from_b : (k b : ℕ) (r : Rows) → b + k ≡ m → b ≤ n → Done b r → Outcome (reduced_from k n b r)
  unfolding reduced_from Outcome
  from_b zero b r e most d = let w : b ≡ m = omega arith in inl (w, record { derived = d.derived; alone = λ j c l h. d.alone j c l (omega arith); few = omega arith })
  from_b (suc k) b r e most d = go (ltb (pivot n b r) n) refl (λ l. from_b k (suc b) (column_done n b (pivot n b r) r) (omega arith) (room l) (on b r d most l))
    where
      room : pivot n b r < n → suc b ≤ n
      room l = omega (arith, low b r d most)

      go : (t : Bool) → ltb (pivot n b r) n ≡ t → (pivot n b r < n → Outcome (reduced_from k n (suc b) (column_done n b (pivot n b r) r))) → Outcome (pick t (reduced_from k n (suc b) (column_done n b (pivot n b r) r)) (reduction b r))
      go true w rest = rest (ltb-true (pivot n b r) n w)
      go false w rest = let l : b < m = omega arith in inr (l, stop b r d most l (ltb-false (pivot n b r) n w))

-- ---- rows that are the given equations, each the sum of itself alone
module _ (n m : ℕ) (given : ℕ → ℕ → Bool) (r : Rows) (lw : length r.words ≡ n) (ls : length r.sums ≡ n)
    (words : (j b : ℕ) → j < n → b < m → has r j b ≡ given j b) (sums : (j : ℕ) → j < n → get_or r.sums j 0 ≡ 2 ^ j) where
  start : Done n m given 0 r
  start =
      record {
        derived = record {
          words_long = lw;
          sums_long = ls;
          summed = λ j b hj hb. words j b hj hb ∙ sym (alone_sum j b hj);
          solves = λ x h i l. to_ext m _ _ (λ b k. ap (λ (t : Bool). t && x b) (sym (words i b l k))) ∙ h i l;
        };
        alone = λ j c l h. absurd (omega arith);
      }
    where
      own : (j i : ℕ) → j < n → bit (get_or r.sums j 0) i ≡ eqb i j
      own j i l = ap (λ (w : ℕ). bit w i) (sums j l) ∙ bit_power j i

      alone_sum : (j b : ℕ) → j < n → odd_to n (λ i. bit (get_or r.sums j 0) i && given i b) ≡ given j b
      alone_sum j b l =
          to_one n j _ l (λ i h q. ap (λ (t : Bool). t && given i b) (own j i l ∙ ne_eqb i j q))
          ∙ ap (λ (t : Bool). t && given j b) (own j j l ∙ eq-eqb j j refl)

  -- all unknowns are done, each alone in its row, or a vector that is not zero solves all given
  -- equations
  pub reduces : (((reduced_from m n 0 r).done ≡ m) × Solved n m given (reduced_from m n 0 r).left) ⊎ (((reduced_from m n 0 r).done < m) × Dependent n m given)
  unfolding Outcome
  reduces = from_b n m given m 0 r (omega arith) (omega arith) start

-- in the first case the given equations that a row names add up to its unknown alone
pub names_alone :
    (n m : ℕ) (given : ℕ → ℕ → Bool) (r : Rows) → Solved n m given r → (c b : ℕ) → c < m → b < m
    → odd_to n (λ i. bit (get_or r.sums c 0) i && given i b) ≡ eqb c b
names_alone n m given r g c b hc hb = let l : c < n = few c hc g.few in sym (g.derived.summed c b l hb) ∙ g.alone c b l hb
  where
    few : (c : ℕ) → c < m → m ≤ n → c < n
    few c h k = omega arith
