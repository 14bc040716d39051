-- The loop that writes the lines of a plan's steps: one step more in the plain form, and a step that
-- can be told.
use mathlib.Core.Path.{◌≡◌, refl, sym, ap, ◌∙◌}
use mathlib.Core.Bool.{true}
use mathlib.Core.List.{List, [], ◌∷◌, ◌++◌, append_assoc, append-nil}
use Prim.Native.Nat.{ℕ, zero, suc, ◌+◌, ◌*◌, ◌≤◌, ◌<◌}
use native.Mathlib.Numerals.{add-one}
use native.Mathlib.Omega.{arith}
use lib.Dec.{ltb, leb}
use lib.ListN.{length, get_or, take, drop}
use lib.Seq.{drop-drop, get_or-drop}
use borrow.Author.Tests.{ltb-true}
use Rattle.std.specs.Simd.{first_chunks}
use Rattle.std.proofs.lemmas.List.{get_or-take}
use Rattle.mathematics.proofs.Flags.{and_l, and_r}
use Rattle.liberation.specs.Plans.{Step, step}
use Rattle.liberation.specs.Judging.{steps_in}
use Rattle.plan_texts.specs.Form.Plain.{plain_line, plain_lines, plain, writable}
use Rattle.plan_texts.proofs.Form.PlainLaws.{plain_most}

-- step i of a plan of three bytes a step
abbrev pub step_at : List ℕ → ℕ → Step
step_at bs i = step (get_or bs (3 * i) 0) (get_or bs (3 * i + 1) 0) (get_or bs (3 * i + 2) 0)

-- it is step i - 1 of what follows the first step
step_after : (bs : List ℕ) (i : ℕ) → step_at (drop 3 bs) i ≡ step_at bs (suc i)
step_after bs i =
    let a : (k : ℕ) → 3 + (3 * i + k) ≡ 3 * suc i + k = λ k. omega arith in
    let z : 3 + 3 * i ≡ 3 * suc i = omega arith in
    let r = get_or-drop 3 bs (3 * i) 0 ∙ ap (λ (n : ℕ). get_or bs n 0) z in
    let k = get_or-drop 3 bs (3 * i + 1) 0 ∙ ap (λ (n : ℕ). get_or bs n 0) (a 1) in
    let n = get_or-drop 3 bs (3 * i + 2) 0 ∙ ap (λ (n : ℕ). get_or bs n 0) (a 2) in
    (λ j. step (r j) (k j) (n j))

lines_next : (bs : List ℕ) (i : ℕ) → plain_lines (steps_in (suc i) bs) ≡ plain_lines (steps_in i bs) ++ plain_line (step_at bs i)
unfolding plain_lines steps_in
lines_next bs zero = append-nil _
lines_next bs (suc i) =
    ap (λ (x : List ℕ). plain_line (step_at bs 0) ++ x) (lines_next (drop 3 bs) i)
    ∙ sym (append_assoc (plain_line (step_at bs 0)) (plain_lines (steps_in i (drop 3 bs))) (plain_line (step_at (drop 3 bs) i)))
    ∙ ap (λ (s : Step). (plain_line (step_at bs 0) ++ plain_lines (steps_in i (drop 3 bs))) ++ plain_line s) (step_after bs i)

-- one step more
pub plain_next : (bs : List ℕ) (i : ℕ) → plain (steps_in (i + 1) bs) ≡ plain (steps_in i bs) ++ plain_line (step_at bs i)
unfolding plain
plain_next bs i = ap (λ (n : ℕ). plain (steps_in n bs)) (add-one i) ∙ ap (λ (x : List ℕ). 114 ∷ (111 ∷ (119 ∷ (44 ∷ (115 ∷ (101 ∷ (116 ∷ (44 ∷ (110 ∷ (117 ∷ (109 ∷ (98 ∷ (101 ∷ (114 ∷ (10 ∷ x))))))))))))))) (lines_next bs i)

-- its numbers have at most two digits
pub step_small : (n : ℕ) (bs : List ℕ) (i : ℕ) → i < n → writable (steps_in n bs) ≡ true → (get_or bs (3 * i) 0 < 100) × (get_or bs (3 * i + 2) 0 < 100)
unfolding writable steps_in
step_small zero bs i h w = absurd (omega arith)
step_small (suc n) bs zero h w =
    (ltb-true (get_or bs 0 0) 100 (and_l (ltb (get_or bs 0 0) 100) _ w), ltb-true (get_or bs 2 0) 100 (and_l (ltb (get_or bs 2 0) 100) _ (and_r (ltb (get_or bs 0 0) 100) _ w)))
step_small (suc n) bs (suc i) h w =
    let q = step_small n (drop 3 bs) i (omega arith) (and_r (leb (get_or bs 1 0) 1) _ (and_r (ltb (get_or bs 2 0) 100) _ (and_r (ltb (get_or bs 0 0) 100) _ w))) in
    let e = step_after bs i in
    (omega (arith, q.0, ap (λ (s : Step). s.row) e), omega (arith, q.1, ap (λ (s : Step). s.number) e))

-- as many steps
pub steps_many : (n : ℕ) (bs : List ℕ) → length (steps_in n bs) ≡ n
unfolding steps_in
steps_many zero bs = refl
steps_many (suc n) bs = ap suc (steps_many n (drop 3 bs))

-- room for one step more
pub plain_room : (n : ℕ) (bs : List ℕ) → length (plain (steps_in n bs)) ≤ 15 + 8 * n
plain_room n bs = omega (arith, plain_most (steps_in n bs), steps_many n bs)

-- chunk i of three bytes is step i
chunk_at : (n : ℕ) (bs : List ℕ) (i : ℕ) → i < n → get_or (first_chunks 3 n bs) i [] ≡ take 3 (drop (3 * i) bs)
chunk_at zero bs i h = absurd (omega arith)
chunk_at (suc n) bs zero h = refl
chunk_at (suc n) bs (suc i) h =
    let e : 3 + 3 * i ≡ 3 * suc i = omega arith in
    chunk_at n (drop 3 bs) i (omega arith) ∙ ap (take 3) (drop-drop (3 * i) 3 bs ∙ ap (λ (m : ℕ). drop m bs) e)

chunk_byte : (rows : List (List ℕ)) (n : ℕ) (bs : List ℕ) (i k : ℕ) → rows ≡ first_chunks 3 n bs → i < n → k < 3 → get_or (get_or rows i []) k 0 ≡ get_or bs (3 * i + k) 0
chunk_byte rows n bs i k e h l =
    ap (λ (x : List (List ℕ)). get_or (get_or x i []) k 0) e
    ∙ ap (λ (x : List ℕ). get_or x k 0) (chunk_at n bs i h)
    ∙ get_or-take 3 (drop (3 * i) bs) k 0 l
    ∙ get_or-drop (3 * i) bs k 0

pub chunk_step :
    (rows : List (List ℕ)) (n : ℕ) (bs : List ℕ) (i : ℕ)
    → rows ≡ first_chunks 3 n bs
    → i < n
    → step (get_or (get_or rows i []) 0 0) (get_or (get_or rows i []) 1 0) (get_or (get_or rows i []) 2 0) ≡ step_at bs i
chunk_step rows n bs i e h =
    let z : 3 * i + 0 ≡ 3 * i = omega arith in
    let r = chunk_byte rows n bs i 0 e h (omega arith) ∙ ap (λ (m : ℕ). get_or bs m 0) z in
    let k = chunk_byte rows n bs i 1 e h (omega arith) in
    let m = chunk_byte rows n bs i 2 e h (omega arith) in
    (λ j. step (r j) (k j) (m j))
