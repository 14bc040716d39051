-- Steps put into the record one by one, and the definition's list of steps taken row by row.
use mathlib.Core.Path.{◌≡◌, sym, ap, subst, ◌∙◌, refl}
use mathlib.Core.Bool.{Bool}
use mathlib.Core.List.{List, [], ◌∷◌, ◌++◌, append_assoc, append-nil}
use Prim.Native.Nat.{ℕ, suc, ◌+◌, ◌-◌, ◌≤◌, ◌<◌, zero}
use native.Mathlib.Numerals.{add-one}
use native.Mathlib.Omega.{arith}
use lib.ListN.{length, get_or, drop, set, replicate, length-append, drop_of_length-le}
use lib.Seq.{drop-cons, set_at}
use borrow.Author.Tests.{eq-eqb, ne_eqb}
use Rattle.mathematics.specs.Choice.{pick}
use Rattle.liberation.specs.Plans.{Step, step, diagonal_of, row_steps, diagonal_steps, all_of}
use Rattle.liberation.specs.Records.{listed, padded, recorded}
use Rattle.liberation.proofs.RecordLaws.{listed_append, length_listed, length_recorded}
use Rattle.liberation.proofs.RowSteps.{steps_long}
use Rattle.planner.specs.declared.records.Steps.{Steps}
use Rattle.planner.specs.StepRecords.{Holds, Counts}
use Rattle.planner.proofs.HeldLaws.{held_is}

-- the first zero after a list becomes its next element
padded_more : (xs : List ℕ) (at v : ℕ) → at ≡ length xs → at < 31 → set (padded xs) at v ≡ padded (xs ++ (v ∷ []))
padded_more xs at v e h =
    let m : 31 - length xs ≡ suc (31 - length (xs ++ (v ∷ []))) = omega (arith, length-append xs (v ∷ [])) in
    let n : ℕ = 31 - length (xs ++ (v ∷ [])) in
    ap (λ (k : ℕ). set (xs ++ replicate k 0) at v) m
    ∙ set_at xs 0 (replicate n 0) v at (sym e)
    ∙ sym (append_assoc xs (v ∷ []) (replicate n 0))

field_more : (g : Step → ℕ) (ss : List Step) (s : Step) (old : List ℕ) (at : ℕ) → at ≡ length ss → at < 31 → old ≡ padded (listed g ss) → set old at (g s) ≡ padded (listed g (ss ++ (s ∷ [])))
field_more g ss s old at e h q =
    ap (λ (l : List ℕ). set l at (g s)) q
    ∙ padded_more (listed g ss) at (g s) (e ∙ sym (length_listed g ss)) h
    ∙ ap padded (sym (listed_append g ss (s ∷ [])))

pub counts_more : (st : Step) (ss : List Step) (rows kinds numbers : List ℕ) (count : ℕ) → count < 31 → Counts ss rows kinds numbers count
    → Counts (ss ++ (st ∷ [])) (set rows count st.row) (set kinds count st.kind) (set numbers count st.number) (count + 1)
counts_more st ss rows kinds numbers count h k =
    record {
      rows = field_more (λ x. x.row) ss st rows count k.count h k.rows;
      kinds = field_more (λ x. x.kind) ss st kinds count k.count h k.kinds;
      numbers = field_more (λ x. x.number) ss st numbers count k.count h k.numbers;
      count = ap (λ (n : ℕ). n + 1) k.count ∙ sym (length-append ss (st ∷ []));
    }

-- one step more in a record of steps, and what it has then
counts_is : (n : ℕ) (s : Steps) → Holds (recorded n 0 s.rows s.kinds s.numbers) s → Counts (recorded n 0 s.rows s.kinds s.numbers) s.rows s.kinds s.numbers n
counts_is n s h = record { rows = h.rows; kinds = h.kinds; numbers = h.numbers; count = sym (length_recorded n 0 s.rows s.kinds s.numbers) }

pub steps_more : (n : ℕ) (st : Step) (s t : Steps) → n < 31 → t ≡ record { rows = set s.rows n st.row; kinds = set s.kinds n st.kind; numbers = set s.numbers n st.number } → Holds (recorded n 0 s.rows s.kinds s.numbers) s → recorded (n + 1) 0 t.rows t.kinds t.numbers ≡ recorded n 0 s.rows s.kinds s.numbers ++ (st ∷ [])
steps_more n st s t h e k =
    let ss : List Step = recorded n 0 s.rows s.kinds s.numbers in
    let c = counts_more st ss s.rows s.kinds s.numbers n h (counts_is n s k) in
    let q : Holds (ss ++ (st ∷ [])) t = rw e (record { rows = c.rows; kinds = c.kinds; numbers = c.numbers }) in
    held_is (n + 1) (ss ++ (st ∷ [])) t (sym c.count) q

pub holds_more : (n : ℕ) (st : Step) (s t : Steps) → n < 31 → t ≡ record { rows = set s.rows n st.row; kinds = set s.kinds n st.kind; numbers = set s.numbers n st.number } → Holds (recorded n 0 s.rows s.kinds s.numbers) s → Holds (recorded (n + 1) 0 t.rows t.kinds t.numbers) t
holds_more n st s t h e k =
    let ss : List Step = recorded n 0 s.rows s.kinds s.numbers in
    let c = counts_more st ss s.rows s.kinds s.numbers n h (counts_is n s k) in
    subst (λ (x : List Step). Holds x t) (sym (steps_more n st s t h e k)) (rw e (record { rows = c.rows; kinds = c.kinds; numbers = c.numbers }))

-- A loop that puts the steps `whole`: those so far, and the rest that is still to come.
pub push : (done : List Step) {whole more rest all : List Step} (st : Step) → all ≡ st ∷ rest → done ++ all ≡ whole → more ≡ done ++ (st ∷ []) → more ++ rest ≡ whole
push done {rest = rest} st e q m = ap (λ (l : List Step). l ++ rest) m ∙ append_assoc done (st ∷ []) rest ∙ ap (λ (l : List Step). done ++ l) (sym e) ∙ q

-- there is room for a step that is still to come
pub room : (done all : List Step) {whole rest : List Step} {st : Step} → all ≡ st ∷ rest → done ++ all ≡ whole → length whole ≤ 31 → length done < 31
room done all e q h = omega (arith, ap length q, length-append done all, ap length e, h)

pub over : (done : List Step) {whole all : List Step} → all ≡ [] → done ++ all ≡ whole → done ≡ whole
over done e q = sym (append-nil done) ∙ ap (λ (l : List Step). done ++ l) (sym e) ∙ q

-- the row sets are at most as many as the rows, and with the diagonals just as many
pub rows_many : (rs : List ℕ) → length (row_steps 0 rs) ≤ length rs
rows_many rs = omega (arith, steps_long 0 0 0 rs)

pub steps_many : (p f : ℕ) (rs : List ℕ) → length (row_steps 0 rs ++ diagonal_steps p f 0 rs) ≡ length rs
steps_many p f rs = omega (arith, length-append (row_steps 0 rs) (diagonal_steps p f 0 rs), steps_long p f 0 rs)

-- the definition's steps, from row j on
pub row_some : (j : ℕ) (rs : List ℕ) → j < length rs → (get_or rs j 0 ≡ 2 → ⊥) → row_steps j (drop j rs) ≡ step j 0 j ∷ row_steps (j + 1) (drop (j + 1) rs)
unfolding row_steps
row_some j rs h n =
    ap (row_steps j) (drop-cons rs j 0 h)
    ∙ ap (λ (b : Bool). pick b (row_steps (suc j) (drop (suc j) rs)) (step j 0 j ∷ row_steps (suc j) (drop (suc j) rs))) (ne_eqb (get_or rs j 0) 2 n)
    ∙ ap (λ (i : ℕ). step j 0 j ∷ row_steps i (drop i rs)) (sym (add-one j))

pub row_none : (j : ℕ) (rs : List ℕ) → j < length rs → get_or rs j 0 ≡ 2 → row_steps j (drop j rs) ≡ row_steps (j + 1) (drop (j + 1) rs)
unfolding row_steps
row_none j rs h e =
    ap (row_steps j) (drop-cons rs j 0 h)
    ∙ ap (λ (b : Bool). pick b (row_steps (suc j) (drop (suc j) rs)) (step j 0 j ∷ row_steps (suc j) (drop (suc j) rs))) (eq-eqb (get_or rs j 0) 2 e)
    ∙ ap (λ (i : ℕ). row_steps i (drop i rs)) (sym (add-one j))

pub row_last : (j : ℕ) (rs : List ℕ) → length rs ≤ j → row_steps j (drop j rs) ≡ []
unfolding row_steps
row_last j rs h = ap (row_steps j) (drop_of_length-le rs h)

pub diagonal_some : (p f j : ℕ) (rs : List ℕ) → j < length rs → get_or rs j 0 ≡ 2 → diagonal_steps p f j (drop j rs) ≡ step j 1 (diagonal_of p f j) ∷ diagonal_steps p f (j + 1) (drop (j + 1) rs)
unfolding diagonal_steps
diagonal_some p f j rs h e =
    ap (diagonal_steps p f j) (drop-cons rs j 0 h)
    ∙ ap (λ (b : Bool). pick b (step j 1 (diagonal_of p f j) ∷ diagonal_steps p f (suc j) (drop (suc j) rs)) (diagonal_steps p f (suc j) (drop (suc j) rs))) (eq-eqb (get_or rs j 0) 2 e)
    ∙ ap (λ (i : ℕ). step j 1 (diagonal_of p f j) ∷ diagonal_steps p f i (drop i rs)) (sym (add-one j))

pub diagonal_none : (p f j : ℕ) (rs : List ℕ) → j < length rs → (get_or rs j 0 ≡ 2 → ⊥) → diagonal_steps p f j (drop j rs) ≡ diagonal_steps p f (j + 1) (drop (j + 1) rs)
unfolding diagonal_steps
diagonal_none p f j rs h n =
    ap (diagonal_steps p f j) (drop-cons rs j 0 h)
    ∙ ap (λ (b : Bool). pick b (step j 1 (diagonal_of p f j) ∷ diagonal_steps p f (suc j) (drop (suc j) rs)) (diagonal_steps p f (suc j) (drop (suc j) rs))) (ne_eqb (get_or rs j 0) 2 n)
    ∙ ap (λ (i : ℕ). diagonal_steps p f i (drop i rs)) (sym (add-one j))

pub diagonal_last : (p f j : ℕ) (rs : List ℕ) → length rs ≤ j → diagonal_steps p f j (drop j rs) ≡ []
unfolding diagonal_steps
diagonal_last p f j rs h = ap (diagonal_steps p f j) (drop_of_length-le rs h)

pub all_some : (p t j : ℕ) → j < p → all_of (p - j) t j ≡ step j t j ∷ all_of (p - (j + 1)) t (j + 1)
unfolding all_of
all_some p t j h =
    let m : p - j ≡ suc (p - (j + 1)) = omega arith in
    ap (λ (n : ℕ). all_of n t j) m ∙ ap (λ (i : ℕ). step j t j ∷ all_of (p - (j + 1)) t i) (sym (add-one j))

pub all_last : (p t j : ℕ) → p ≤ j → all_of (p - j) t j ≡ []
unfolding all_of
all_last p t j h = let z : p - j ≡ 0 = omega arith in ap (λ (n : ℕ). all_of n t j) z

-- a zero written over a zero
pub zero_again : (n i : ℕ) → set {A = ℕ} (replicate n 0) i 0 ≡ replicate n 0
zero_again zero i = refl
zero_again (suc n) zero = refl
zero_again (suc n) (suc i) = ap (λ (l : List ℕ). 0 ∷ l) (zero_again n i)
