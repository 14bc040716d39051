-- The starred examples of document 01 ("Checked examples"), a row each: what the definitions
-- compute, and what document 01 states.
use Rattle.std.specs.Prelude.{Bool, true, ◌&&◌, List, [], ◌∷◌, ◌++◌, ℕ, eqb, replicate}
use Rattle.mathematics.specs.Choice.{when}
use Rattle.mathematics.specs.Lists.{same}
use Rattle.liberation.specs.Plans.{Step, step, routes, plan_of, read_count}
use Rattle.liberation.specs.Judging.{judge}
use Rattle.liberation.specs.Stripes.Stripes.{encoded, rebuilt, clean}
use Rattle.space.specs.Refusals.{space_refusal}
use Rattle.space.specs.Says.{stripes_of, need_of}

pub record Example : Type 0 where
  pub computed : List ℕ
  pub stated : List ℕ

infixl 20 ◌is◌
abbrev pub ◌is◌ : List ℕ → List ℕ → Example
c is s = record { computed = c; stated = s }

-- a route, row 0 first: 1 where the row takes a diagonal
abbrev pub taken : List ℕ → List ℕ
taken [] = []
taken (r ∷ rs) = when (eqb r 2) 1 ∷ taken rs

-- steps written out: row, kind, number
abbrev pub in_bytes : List Step → List ℕ
in_bytes [] = []
in_bytes (s ∷ ss) = s.row ∷ (s.kind ∷ (s.number ∷ in_bytes ss))

-- what the judge gives for p data disks: number, place, count
abbrev pub judgement : ℕ → ℕ → List Step → List ℕ
judgement p f ss = (judge p p f ss).number ∷ ((judge p p f ss).place ∷ (read_count p p f ss ∷ []))

-- what a package of files of these lengths takes with p data disks: number, stripes
abbrev pub takes : ℕ → ℕ → List ℕ → List ℕ
takes p s ls = space_refusal p p s ls ∷ (stripes_of p p s ls ∷ [])

-- the plans of the examples
abbrev pub all_rows : List Step
all_rows = step 0 0 0 ∷ (step 1 0 1 ∷ (step 2 0 2 ∷ (step 3 0 3 ∷ (step 4 0 4 ∷ []))))

abbrev pub mixed : List Step
mixed = step 0 0 0 ∷ (step 3 0 3 ∷ (step 4 0 4 ∷ (step 1 1 0 ∷ (step 2 1 2 ∷ []))))

abbrev pub even_rows : List Step
even_rows = step 0 0 0 ∷ (step 2 0 2 ∷ (step 4 0 4 ∷ (step 1 1 1 ∷ (step 3 1 3 ∷ []))))

-- the stripe of the example: p = 3, s = 1, rows 01 02 04 / 08 10 20 / 40 80 00, disk by disk, and
-- its parity
abbrev pub film : List ℕ
film = 0x01 ∷ (0x08 ∷ (0x40 ∷ (0x02 ∷ (0x10 ∷ (0x80 ∷ (0x04 ∷ (0x20 ∷ (0x00 ∷ []))))))))

-- the same with other bytes in the column of disk 1
abbrev pub film_lost : List ℕ
film_lost = 0x01 ∷ (0x08 ∷ (0x40 ∷ (0x5A ∷ (0xA5 ∷ (0xFF ∷ (0x04 ∷ (0x20 ∷ (0x00 ∷ []))))))))

abbrev pub film_parity : List ℕ
film_parity = 0x07 ∷ (0x38 ∷ (0xC0 ∷ (0x11 ∷ (0x9C ∷ (0x66 ∷ [])))))

unfoldable pub starred_table : List Example
starred_table =
    -- P is 07 38 C0, Q is 11 9C 66, whatever stood there before; the stripe is then clean
    (encoded 3 3 1 (film ++ replicate 6 9) is (film ++ film_parity))
    ∷ (((when (clean 3 3 1 (film ++ film_parity)) 1 ∷ []) is (1 ∷ []))
    -- Losing disk 1 there gives 02 10 80, whatever its column holds
    ∷ ((rebuilt 3 3 1 1 (film_lost ++ film_parity) is (0x02 ∷ (0x10 ∷ (0x80 ∷ []))))
    -- by R0, D0, D1, with 7 reads
    ∷ ((in_bytes (plan_of 3 3 1) is (0 ∷ (0 ∷ (0 ∷ (1 ∷ (1 ∷ (0 ∷ (2 ∷ (1 ∷ (1 ∷ []))))))))))
    ∷ ((judgement 3 1 (plan_of 3 3 1) is (0 ∷ (0 ∷ (7 ∷ []))))
    -- Routes
    ∷ ((taken (routes 3 0) is (1 ∷ (0 ∷ (0 ∷ []))))
    ∷ ((taken (routes 3 2) is (0 ∷ (1 ∷ (1 ∷ []))))
    ∷ ((taken (routes 5 0) is (1 ∷ (1 ∷ (0 ∷ (0 ∷ (0 ∷ []))))))
    ∷ ((taken (routes 5 1) is (0 ∷ (1 ∷ (0 ∷ (1 ∷ (0 ∷ []))))))
    ∷ ((taken (routes 5 3) is (0 ∷ (0 ∷ (0 ∷ (1 ∷ (1 ∷ []))))))
    ∷ ((taken (routes 5 4) is (0 ∷ (0 ∷ (1 ∷ (0 ∷ (1 ∷ []))))))
    ∷ ((taken (routes 7 1) is (0 ∷ (1 ∷ (1 ∷ (0 ∷ (1 ∷ (0 ∷ (0 ∷ []))))))))
    -- p = 5, lost 1: all rows, 25; R0, R3, R4, row 1 by D0, row 2 by D2, 20
    ∷ ((judgement 5 1 all_rows is (0 ∷ (0 ∷ (25 ∷ []))))
    ∷ ((judgement 5 1 mixed is (0 ∷ (0 ∷ (20 ∷ []))))
    -- p = 5, lost 0: R0, R2, R4, D1, D3, 21
    ∷ ((judgement 5 0 even_rows is (0 ∷ (0 ∷ (21 ∷ []))))
    -- p = 5, s = 4,096: 102,400 bytes take 1 stripe, 20,480 bytes a disk; 102,401 take 2; "packages
    -- of one file" (document 02, ask 3)
    ∷ ((takes 5 4096 (102400 ∷ []) is (0 ∷ (1 ∷ [])))
    ∷ (((need_of 5 5 4096 (102400 ∷ []) ∷ []) is (20480 ∷ []))
    ∷ ((takes 5 4096 (102401 ∷ []) is (0 ∷ (2 ∷ [])))
    ∷ [])))))))))))))))))

-- every row agrees
unfoldable pub agree : List Example → Bool
agree [] = true
agree (r ∷ rs) = same r.computed r.stated && agree rs
