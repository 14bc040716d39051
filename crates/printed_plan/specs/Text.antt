-- The printed plan (document 01, "The printed plan"): the whole output as a function of the whole
-- input.
use Rattle.std.specs.Prelude.{List, [], ◌∷◌, ◌++◌, ℕ, suc, ◌-◌, eqb, length}
use Rattle.mathematics.specs.Choice.{pick, first_of}
use Rattle.mathematics.specs.Lists.{union}
use Rattle.liberation.specs.Sets.{set_of, surviving_in, width_refusal, disk_refusal}
use Rattle.liberation.specs.Plans.{Step, plan_of}
use Rattle.text.specs.Digits.{digits_of}
use Rattle.text.specs.Fields.{step_fields}
use Rattle.printed_plan.specs.Input.{first_value, second_value, is_form}

-- fixed byte strings: `step,row,set,number,new`, ended by LF; `refused,`
abbrev pub head_line : List ℕ
head_line =
    115 ∷ (116 ∷ (101 ∷ (112 ∷ (44 ∷ (114 ∷ (111 ∷ (119 ∷ (44 ∷ (115 ∷ (101 ∷ (116 ∷ (44
    ∷ (110 ∷ (117 ∷ (109 ∷ (98 ∷ (101 ∷ (114 ∷ (44 ∷ (110 ∷ (101 ∷ (119 ∷ (10 ∷ [])))))))))))))))))))))))

abbrev pub refused_word : List ℕ
refused_word = 114 ∷ (101 ∷ (102 ∷ (117 ∷ (115 ∷ (101 ∷ (100 ∷ (44 ∷ [])))))))

-- a line: step, row, set, number, new
abbrev pub line_of : ℕ → Step → ℕ → List ℕ
line_of i s new = digits_of i ++ (44 ∷ (step_fields s.row s.kind s.number 44 ++ (digits_of new ++ (10 ∷ []))))

-- the column `new`, step by step: "cells no earlier step read"; ys are the cells that the steps
-- before these read
unfoldable pub new_from : ℕ → ℕ → List ℕ → List Step → List ℕ
new_from p f ys [] = []
new_from p f ys (s ∷ ss) =
    let zs = union (surviving_in p f (set_of p p s.kind s.number)) ys in
    (length zs - length ys) ∷ new_from p f zs ss

-- the lines of the steps from step i on, each with its number of new cells
unfoldable pub lines_from : ℕ → List Step → List ℕ → List ℕ
lines_from i [] ns = []
lines_from i (s ∷ ss) [] = []
lines_from i (s ∷ ss) (n ∷ ns) = line_of i s n ++ lines_from (suc i) ss ns

-- the text of our plan: the names line, then a line a step
unfoldable pub plan_text : ℕ → ℕ → List ℕ
plan_text p f = head_line ++ lines_from 0 (plan_of p p f) (new_from p f [] (plan_of p p f))

-- "A refusal prints `refused`, then its number on a line"
abbrev pub refused_line : ℕ → List ℕ
refused_line n = refused_word ++ (digits_of n ++ (10 ∷ []))

-- 12 first, then 1, then 3
unfoldable pub input_refusal : List ℕ → ℕ
input_refusal t = pick (is_form t) (first_of (width_refusal (first_value t)) (disk_refusal (first_value t) (second_value t))) 12

-- the whole output for the whole input
unfoldable pub printed : List ℕ → List ℕ
printed t = pick (eqb (input_refusal t) 0) (plan_text (first_value t) (second_value t)) (refused_line (input_refusal t))
