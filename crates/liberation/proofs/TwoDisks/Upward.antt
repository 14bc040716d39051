-- Steps that rebuild one lost disk f row by row upward, where each set's cells on f are in its own
-- row or a lower one, and its cells on the other lost disk stand.
-- Two lost disks rebuilt so one after the other, the first by sets that do not meet the second:
-- every step stands, and every cell is known at the end.
use mathlib.Core.Path.{◌≡◌, refl, sym, ap, ap₂, ◌∙◌}
use mathlib.Core.Bool.{Bool, true, false, ◌&&◌, ◌||◌, not, and-true, false≢true}
use mathlib.Core.Logic.{◌⊎◌, inl, inr, ⊎_elim}
use mathlib.Core.List.{List, [], ◌∷◌, ◌++◌}
use Prim.Native.Nat.{ℕ, zero, suc, ◌+◌, ◌*◌, ◌≤◌, ◌<◌}
use native.Mathlib.Nat.{mod-lt}
use native.Mathlib.Omega.{arith}
use lib.Dec.{eqb, ltb}
use borrow.Author.Tests.{eqb-true, eqb-false, eq-eqb, ne_eqb, lt-ltb, le-ltb}
use Rattle.mathematics.specs.Lists.{is_in}
use Rattle.mathematics.proofs.Flags.{flag, and_i, or_cases, or_l, or_r}
use Rattle.mathematics.proofs.OrderLaws.{eq_or_lt}
use Rattle.mathematics.proofs.MemberLaws.{in_tail}
use Rattle.mathematics.proofs.TestLaws.{ltb_next}
use Rattle.liberation.specs.Sets.{place, row_at, disk_at, set_of}
use Rattle.liberation.proofs.SetLaws.{disk_place, place_of, place_eq}
use Rattle.liberation.proofs.PlaceLaws.{some_row}
use Rattle.liberation.specs.Stripes.Steps.{CellStep, cell_step}
use Rattle.liberation.specs.TwoDisks.PairSteps.{is_lost, is_known}
use Rattle.liberation.proofs.Stripes.Standing.{Standing, none, next, done_after, names, standing_append, done_append}

-- n rows of disk f from row j on, row i by the set of this kind with the number num i
unfoldable pub up_steps : ℕ → ℕ → ℕ → ℕ → (ℕ → ℕ) → ℕ → List CellStep
up_steps zero p f kind num j = []
up_steps (suc n) p f kind num j = cell_step (place p j f) kind (num j) ∷ up_steps n p f kind num (suc j)

-- a cell by its disk
pub on_disk_lem : (p y f : ℕ) → disk_at p y ≡ f → place p (row_at p y) f ≡ y
on_disk_lem p y f e = ap (place p (row_at p y)) (sym e) ∙ place_of p y

-- a lost cell is on the one disk or on the other
pub lost_cases : (p a b y : ℕ) → is_lost p a b y ≡ true → (disk_at p y ≡ a) ⊎ (disk_at p y ≡ b)
lost_cases p a b y h = ⊎_elim (λ e. inl (eqb-true (disk_at p y) a e)) (λ e. inr (eqb-true (disk_at p y) b e)) (or_cases (eqb (disk_at p y) a) (eqb (disk_at p y) b) h)

pub lost_first : (p a b r : ℕ) → r < p → is_lost p a b (place p r a) ≡ true
lost_first p a b r l = or_l (eqb (disk_at p (place p r a)) a) (eqb (disk_at p (place p r a)) b) (eq-eqb (disk_at p (place p r a)) a (disk_place p r a l))

pub lost_second : (p a b r : ℕ) → r < p → is_lost p a b (place p r b) ≡ true
lost_second p a b r l = or_r (eqb (disk_at p (place p r b)) a) (eqb (disk_at p (place p r b)) b) (eq-eqb (disk_at p (place p r b)) b (disk_place p r b l))

-- what is lost and has been written is known; so is what is not lost
pub known_lost : (p a b y : ℕ) (done : List ℕ) → (is_lost p a b y ≡ true → is_in y done ≡ true) → is_known p a b done y ≡ true
known_lost p a b y done h = go (is_lost p a b y) h
  where
    go : (t : Bool) → (t ≡ true → is_in y done ≡ true) → (not t || is_in y done) ≡ true
    go true e = e refl
    go false e = refl

pub unknown_lost : (p a b y : ℕ) (done : List ℕ) → is_lost p a b y ≡ true → is_in y done ≡ false → is_known p a b done y ≡ false
unknown_lost p a b y done h e = ap₂ (λ (t u : Bool). not t || u) h e

-- a set's cells are known if those on the two disks are, row by row
pub known_rows :
    (p a b : ℕ) (xs done : List ℕ) → 0 < p
    → ((r : ℕ) → r < p → is_in (place p r a) xs ≡ true → is_in (place p r a) done ≡ true)
    → ((r : ℕ) → r < p → is_in (place p r b) xs ≡ true → is_in (place p r b) done ≡ true)
    → (y : ℕ) → is_in y xs ≡ true → is_known p a b done y ≡ true
known_rows p a b xs done h first second y m = known_lost p a b y done (λ t. ⊎_elim (λ e. by_row_lem a first e) (λ e. by_row_lem b second e) (lost_cases p a b y t))
  where
    by_row_lem : (c : ℕ) → ((r : ℕ) → r < p → is_in (place p r c) xs ≡ true → is_in (place p r c) done ≡ true) → disk_at p y ≡ c → is_in y done ≡ true
    by_row_lem c there e =
        ap (λ (z : ℕ). is_in z done) (sym (on_disk_lem p y c e)) ∙ there (row_at p y) (mod-lt y h) (ap (λ (z : ℕ). is_in z xs) (on_disk_lem p y c e) ∙ m)

-- one row more
row_more : (p r j f : ℕ) (done : List ℕ) → r < p → j < p → is_in (place p r f) done ≡ ltb r j → is_in (place p r f) (place p j f ∷ done) ≡ ltb r (suc j)
row_more p r j f done l m e =
    ap₂ ◌||◌ (place_eq p r f j f l m ∙ ap (λ (t : Bool). eqb r j && t) (eq-eqb f f refl) ∙ and-true (eqb r j)) e ∙ ltb_next r j

-- row i of disk f by the set of this kind with the number num i: the set holds that cell, and on
-- disk f no cell of a higher row
pub record Upward (p k f kind : ℕ) (num : ℕ → ℕ) : Type 0 where
  pub low : kind ≤ 1
  pub below : (i : ℕ) → i < p → num i < p
  pub held : (i : ℕ) → i < p → is_in (place p i f) (set_of p k kind (num i)) ≡ true
  pub lower : (i r : ℕ) → i < p → r < p → is_in (place p r f) (set_of p k kind (num i)) ≡ true → r ≤ i

module _ (p k a b f kind : ℕ) (num : ℕ → ℕ) (up : Upward p k f kind num) where
  pub up_standing :
      ((r : ℕ) → r < p → is_lost p a b (place p r f) ≡ true)
      → (n j : ℕ) (done : List ℕ) → n + j ≡ p
      → ((r : ℕ) → r < p → is_in (place p r f) done ≡ ltb r j)
      → ((i y : ℕ) → i < p → is_in y (set_of p k kind (num i)) ≡ true → is_lost p a b y ≡ true → (disk_at p y ≡ f → ⊥) → is_in y done ≡ true)
      → Standing p k (is_lost p a b) done (up_steps n p f kind num j)
  unfolding up_steps
  up_standing lost zero j done e rows other = none
  up_standing lost (suc n) j done e rows other =
      next
      (record {
        kind_below = up.low;
        number_below = up.below j (omega arith);
        held = up.held j (omega arith);
        fresh = unknown_lost p a b (place p j f) done (lost j (omega arith)) (rows j (omega arith) ∙ le-ltb j j (omega arith));
        others = λ y h. known_lost p a b y (place p j f ∷ done) (λ t. ⊎_elim (λ q. own y h (eqb-true (disk_at p y) f q)) (λ q. in_tail y (place p j f) done (other j y (omega arith) h t (eqb-false (disk_at p y) f q))) (flag (eqb (disk_at p y) f)));
      })
      (up_standing lost n (suc j) (place p j f ∷ done) (omega arith) (λ r l. row_more p r j f done l (omega arith) (rows r l)) (λ i y l h t q. in_tail y (place p j f) done (other i y l h t q)))
    where
      own : (y : ℕ) → is_in y (set_of p k kind (num j)) ≡ true → disk_at p y ≡ f → is_in y (place p j f ∷ done) ≡ true
      own y h q =
          let l : row_at p y < p = mod-lt y (omega arith) in
          let w : row_at p y ≤ j = up.lower j (row_at p y) (omega arith) l (ap (λ (z : ℕ). is_in z (set_of p k kind (num j))) (on_disk_lem p y f q) ∙ h) in
          ap (λ (z : ℕ). is_in z (place p j f ∷ done)) (sym (on_disk_lem p y f q)) ∙ row_more p (row_at p y) j f done l (omega arith) (rows (row_at p y) l) ∙ lt-ltb (row_at p y) (suc j) (omega arith)

  -- afterwards every row stands
  pub up_done : (n j : ℕ) (done : List ℕ) → n + j ≡ p → ((r : ℕ) → r < p → is_in (place p r f) done ≡ ltb r j) → (r : ℕ) → r < p → is_in (place p r f) (done_after done (up_steps n p f kind num j)) ≡ true
  unfolding up_steps done_after
  up_done zero j done e rows r l = rows r l ∙ lt-ltb r j (omega arith)
  up_done (suc n) j done e rows r l = up_done n (suc j) (place p j f ∷ done) (omega arith) (λ i m. row_more p i j f done m (omega arith) (rows i m)) r l

  -- and no other cell is written
  pub up_off : (n j y : ℕ) (done : List ℕ) → n + j ≡ p → (disk_at p y ≡ f → ⊥) → is_in y (done_after done (up_steps n p f kind num j)) ≡ is_in y done
  unfolding up_steps done_after
  up_off zero j y done e q = refl
  up_off (suc n) j y done e q =
      up_off n (suc j) y (place p j f ∷ done) (omega arith) q ∙ ap (λ (t : Bool). t || is_in y done) (ne_eqb y (place p j f) (λ w. q (ap (disk_at p) w ∙ disk_place p j f (omega arith))))

  -- the set of each row is named
  pub up_names : (n j i : ℕ) → j ≤ i → i < j + n → names kind (num i) (up_steps n p f kind num j) ≡ true
  unfolding up_steps names
  up_names zero j i h l = absurd (omega arith)
  up_names (suc n) j i h l =
      ⊎_elim
      (λ e. or_l (eqb kind kind && eqb (num j) (num i)) (names kind (num i) (up_steps n p f kind num (suc j))) (and_i (eqb kind kind) (eqb (num j) (num i)) (eq-eqb kind kind refl) (eq-eqb (num j) (num i) (ap num e))))
      (λ g. or_r (eqb kind kind && eqb (num j) (num i)) (names kind (num i) (up_steps n p f kind num (suc j))) (up_names n (suc j) i g (omega arith)))
      (eq_or_lt j i h)

-- disk a by sets that do not meet disk b, then disk b
module _ (p k a b kind kind2 : ℕ) (num num2 : ℕ → ℕ) (up : Upward p k a kind num) (up2 : Upward p k b kind2 num2) (two : a ≡ b → ⊥) (clear : (i r : ℕ) → i < p → r < p → is_in (place p r b) (set_of p k kind (num i)) ≡ false) where
  after : List ℕ
  after = done_after [] (up_steps p p a kind num 0)

  no_rows : (c r : ℕ) → r < p → is_in (place p r c) [] ≡ ltb r 0
  no_rows c r l = sym (le-ltb r 0 (omega arith))

  after_first_lem : (r : ℕ) → r < p → is_in (place p r a) after ≡ true
  unfolding after
  after_first_lem r l = up_done p k a b a kind num up p 0 [] (omega arith) (no_rows a) r l

  after_off : (y : ℕ) → (disk_at p y ≡ a → ⊥) → is_in y after ≡ false
  unfolding after
  after_off y q = up_off p k a b a kind num up p 0 y [] (omega arith) q

  second_rows : (r : ℕ) → r < p → is_in (place p r b) after ≡ ltb r 0
  second_rows r l = after_off (place p r b) (λ e. two (sym e ∙ disk_place p r b l)) ∙ no_rows b r l

  -- a cell of the first disk by its row
  first_cell_lem : (y : ℕ) (done : List ℕ) → 0 < p → disk_at p y ≡ a → ((r : ℕ) → r < p → is_in (place p r a) done ≡ true) → is_in y done ≡ true
  first_cell_lem y done h e all = ap (λ (z : ℕ). is_in z done) (sym (on_disk_lem p y a e)) ∙ all (row_at p y) (mod-lt y h)

  pub both_standing : Standing p k (is_lost p a b) [] (up_steps p p a kind num 0 ++ up_steps p p b kind2 num2 0)
  unfolding after
  both_standing =
      standing_append p k (is_lost p a b)
      (up_standing p k a b a kind num up (lost_first p a b) p 0 [] (omega arith) (no_rows a) none_there)
      (up_standing p k a b b kind2 num2 up2 (lost_second p a b) p 0 after (omega arith) second_rows there)
    where
      none_there : (i y : ℕ) → i < p → is_in y (set_of p k kind (num i)) ≡ true → is_lost p a b y ≡ true → (disk_at p y ≡ a → ⊥) → is_in y [] ≡ true
      none_there i y l h t q =
          ⊎_elim (λ e. absurd (q e)) (λ e. absurd (false≢true (sym (clear i (row_at p y) l (mod-lt y (omega arith))) ∙ ap (λ (z : ℕ). is_in z (set_of p k kind (num i))) (on_disk_lem p y b e) ∙ h))) (lost_cases p a b y t)

      there : (i y : ℕ) → i < p → is_in y (set_of p k kind2 (num2 i)) ≡ true → is_lost p a b y ≡ true → (disk_at p y ≡ b → ⊥) → is_in y after ≡ true
      there i y l h t q = ⊎_elim (λ e. first_cell_lem y after (omega arith) e after_first_lem) (λ e. absurd (q e)) (lost_cases p a b y t)

  pub both_full : (y : ℕ) → y < p * (k + 2) → is_known p a b (done_after [] (up_steps p p a kind num 0 ++ up_steps p p b kind2 num2 0)) y ≡ true
  unfolding after
  both_full y l =
      ap (λ (done : List ℕ). is_known p a b done y) (done_append [] (up_steps p p a kind num 0) (up_steps p p b kind2 num2 0))
      ∙ known_lost p a b y (done_after after (up_steps p p b kind2 num2 0)) (λ t. ⊎_elim on_first on_second (lost_cases p a b y t))
    where
      on_first : disk_at p y ≡ a → is_in y (done_after after (up_steps p p b kind2 num2 0)) ≡ true
      on_first e =
          up_off p k a b b kind2 num2 up2 p 0 y after (omega arith) (λ q. two (sym e ∙ q)) ∙ first_cell_lem y after (some_row p (k + 2) y l) e after_first_lem

      on_second : disk_at p y ≡ b → is_in y (done_after after (up_steps p p b kind2 num2 0)) ≡ true
      on_second e =
          ap (λ (z : ℕ). is_in z (done_after after (up_steps p p b kind2 num2 0))) (sym (on_disk_lem p y b e))
          ∙ up_done p k a b b kind2 num2 up2 p 0 after (omega arith) second_rows (row_at p y) (mod-lt y (some_row p (k + 2) y l))
