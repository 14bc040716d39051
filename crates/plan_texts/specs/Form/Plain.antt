-- The one plain form of a plan (document 02, ask 14): "LF, capitals, no leading zero beyond a lone
-- 0".
use Rattle.std.specs.Prelude.{Bool, true, ◌&&◌, List, [], ◌∷◌, ◌++◌, ℕ, ltb, leb}
use Rattle.liberation.specs.Plans.{Step}
use Rattle.text.specs.Fields.{step_fields}
use Rattle.plan_texts.specs.Form.Reading.{names}

abbrev pub plain_line : Step → List ℕ
plain_line s = step_fields s.row s.kind s.number 10

unfoldable pub plain_lines : List Step → List ℕ
plain_lines [] = []
plain_lines (s ∷ ss) = plain_line s ++ plain_lines ss

-- the plain form of steps: the names line, then a line a step
unfoldable pub plain : List Step → List ℕ
plain ss = names ++ (10 ∷ plain_lines ss)

-- steps that the plain form can tell: rows and numbers of at most two digits, kinds 0 and 1. Those
-- of an accepted plan are so
unfoldable pub writable : List Step → Bool
writable [] = true
writable (s ∷ ss) = ltb s.row 100 && (ltb s.number 100 && (leb s.kind 1 && writable ss))
