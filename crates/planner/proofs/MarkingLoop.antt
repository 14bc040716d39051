-- Marking the cells that the steps of a plan read, step by step.
use mathlib.Core.Path.{◌≡◌, refl, sym, ap, ◌∙◌}
use mathlib.Core.List.{List, ◌∷◌, []}
use Prim.Native.Nat.{ℕ, zero, suc, ◌+◌, ◌*◌, ◌≤◌, ◌<◌}
use native.Mathlib.Numerals.{add-one}
use native.Mathlib.Omega.{arith}
use lib.ListN.{length, drop, drop_of_length-le}
use Rattle.mathematics.specs.Lists.{union}
use mathlib.Core.Bool.{Bool}
use borrow.Author.Tests.{ne_eqb}
use Rattle.mathematics.specs.Choice.{pick}
use Rattle.liberation.specs.Sets.{row_set, diagonal_set, set_of, surviving_in}
use Rattle.liberation.specs.Plans.{Step, read_from, cells_read, read_count, marks_from, list_of}
use Rattle.liberation.proofs.SetLaws.{survivors_below}
use Rattle.parity_sets.specs.Marks.{Marked}
use Rattle.parity_sets.specs.ParitySets.{number_of, cells_of, parity_set}
use Rattle.parity_sets.proofs.MarkLaws.{marked_read, marked_few}

-- The loop over the steps: after i of them the marks stand for the cells read so far, and `reads`
-- counts them.
pub record Reading (p k f : ℕ) (ss : List Step) (m : List ℕ) (reads i : ℕ) : Type 0 where
  pub within : i ≤ length ss
  pub cells : List ℕ
  pub marks : m ≡ marks_from (p * (k + 2)) 0 cells
  pub count : reads ≡ length cells
  pub few : reads ≤ (k + 2) * i
  pub rest : read_from p k f (drop i ss) cells ≡ cells_read p k f ss

pub reading_turn : (p k f : ℕ) (ss : List Step) (m m' : List ℕ) (reads i r : ℕ) (a : Step) → drop i ss ≡ a ∷ drop (suc i) ss → i < length ss → a.number < p → Reading p k f ss m reads i → Marked m m' (surviving_in p f (set_of p k a.kind a.number)) r → Reading p k f ss m' (reads + r) (i + 1)
unfolding read_from
reading_turn p k f ss m m' reads i r a split l n u d =
    let xs : List ℕ = surviving_in p f (set_of p k a.kind a.number) in
    let q = marked_read (p * (k + 2)) xs u.cells m m' r (survivors_below p k f a.kind a.number n) u.marks d in
    record {
      within = omega arith;
      cells = union xs u.cells;
      marks = q.0;
      count = omega (arith, q.1, u.count);
      few = omega (arith, u.few, marked_few p k f a.kind a.number d);
      rest = ap (λ (j : ℕ). read_from p k f (drop j ss) (union xs u.cells)) (add-one i) ∙ sym (ap (λ (y : List Step). read_from p k f y u.cells) split) ∙ u.rest;
    }

pub reading_end : (p k f : ℕ) (ss : List Step) (m : List ℕ) (reads i : ℕ) → length ss ≤ i → Reading p k f ss m reads i → (reads ≡ read_count p k f ss) × (m ≡ list_of p k f ss)
unfolding read_from
reading_end p k f ss m reads i l u =
    let all : u.cells ≡ cells_read p k f ss = ap (λ (y : List Step). read_from p k f y u.cells) (sym (drop_of_length-le ss l)) ∙ u.rest in
    (u.count ∙ ap (λ (y : List ℕ). length y) all, u.marks ∙ ap (marks_from (p * (k + 2)) 0) all)

-- the set of a step's bytes
pub named : (kind number : ℕ) {p : ℕ} → number < p → number_of (parity_set kind number) < p
named zero number h = h
named (suc kind) number h = h

pub cells_named : (p k kind number : ℕ) → cells_of p k (parity_set kind number) ≡ set_of p k kind number
cells_named p k zero number = refl
cells_named p k (suc kind) number = ap (λ (b : Bool). pick b (row_set p k number) (diagonal_set p k number)) (sym (ne_eqb (suc kind) 0 (λ e. absurd (omega (arith, e)))))

pub reading_start : (p k f : ℕ) (ss : List Step) (m : List ℕ) → m ≡ marks_from (p * (k + 2)) 0 [] → Reading p k f ss m 0 0
reading_start p k f ss m e = record { within = omega arith; cells = []; marks = e; count = refl; few = omega arith; rest = refl }
