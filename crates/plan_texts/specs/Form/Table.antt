-- Texts that are plans' texts for p = 3 and texts that are not, a row each: what the definitions
-- read of the text, and what is to be read.
use Rattle.std.specs.Prelude.{Bool, true, ◌&&◌, List, [], ◌∷◌, ℕ}
use Prim.Native.Char.{code}
use Prim.Native.String.{String, [] as []ˢ, ◌∷◌ as ◌∷ˢ◌}
use Rattle.mathematics.specs.Choice.{pick}
use Rattle.mathematics.specs.Lists.{same}
use Rattle.liberation.specs.Plans.{Step, step}
use Rattle.plan_texts.specs.Form.Reading.{readable, steps_read, step_bytes}

-- the bytes of a quoted text (ASCII)
unfoldable pub bytes : String → List ℕ
bytes []ˢ = []
bytes (c ∷ˢ s) = code c ∷ bytes s

pub record TextExample : Type 0 where
  pub read : List ℕ
  pub wanted : List ℕ

-- 1 and the steps as row, kind, number; or 0 alone
abbrev pub read_of : String → List ℕ
read_of s = pick (readable 3 (bytes s)) (1 ∷ step_bytes (steps_read 3 (bytes s))) (0 ∷ [])

abbrev pub good : String → List ℕ → TextExample
good s w = record { read = read_of s; wanted = 1 ∷ w }

abbrev pub bad : String → TextExample
bad s = record { read = read_of s; wanted = 0 ∷ [] }

-- R 0 for row 0, D 0 for row 1, D 1 for row 2; and with the last number 255, for the judge to
-- refuse
abbrev pub ours : List ℕ
ours = 0 ∷ (0 ∷ (0 ∷ (1 ∷ (1 ∷ (0 ∷ (2 ∷ (1 ∷ (1 ∷ []))))))))

abbrev pub wide : List ℕ
wide = 0 ∷ (0 ∷ (0 ∷ (1 ∷ (1 ∷ (0 ∷ (2 ∷ (1 ∷ (255 ∷ []))))))))

unfoldable pub text_table : List TextExample
text_table =
    good "row,set,number\n0,R,0\n1,D,0\n2,D,1\n" ours
    -- CR LF, mixed line ends, small letters, leading zeros, 255
    ∷ (good "row,set,number\r\n0,R,0\r\n1,D,0\r\n2,D,1\r\n" ours
    ∷ (good "row,set,number\r\n0,r,0\n1,d,0\r\n2,D,1\n" ours
    ∷ (good "row,set,number\n00,R,000\n001,D,0\n2,D,01\n" ours
    ∷ (good "row,set,number\n0,R,0\n1,D,0\n2,D,255\n" wide
    -- numbers: over 255, four digits, no digit, a sign, a space
    ∷ (bad "row,set,number\n0,R,0\n1,D,0\n2,D,256\n"
    ∷ (bad "row,set,number\n0,R,0\n1,D,0\n999,D,1\n"
    ∷ (bad "row,set,number\n0,R,0\n1,D,0\n2,D,0001\n"
    ∷ (bad "row,set,number\n0000,R,0\n1,D,0\n2,D,1\n"
    ∷ (bad "row,set,number\n0,R,\n1,D,0\n2,D,1\n"
    ∷ (bad "row,set,number\n,R,0\n1,D,0\n2,D,1\n"
    ∷ (bad "row,set,number\n0,R,0\n1,D,0\n2,D,-1\n"
    ∷ (bad "row,set,number\n0,R,0\n1,D, 0\n2,D,1\n"
    ∷ (bad "row,set,number\n0,R,0\n1,D,0\n2,D,1 \n"
    -- letters and commas
    ∷ (bad "row,set,number\n0,P,0\n1,D,0\n2,D,1\n"
    ∷ (bad "row,set,number\n0,RR,0\n1,D,0\n2,D,1\n"
    ∷ (bad "row,set,number\n0,R;0\n1,D,0\n2,D,1\n"
    ∷ (bad "row,set,number\n0,R,0,\n1,D,0\n2,D,1\n"
    -- line ends: the last line not ended, CR alone, CR CR LF, LF CR
    ∷ (bad "row,set,number\n0,R,0\n1,D,0\n2,D,1"
    ∷ (bad "row,set,number\n0,R,0\n1,D,0\n2,D,1\r"
    ∷ (bad "row,set,number\r0,R,0\r1,D,0\r2,D,1\r"
    ∷ (bad "row,set,number\n0,R,0\r 1,D,0\n2,D,1\n"
    ∷ (bad "row,set,number\n0,R,0\r\r\n1,D,0\n2,D,1\n"
    ∷ (bad "row,set,number\n0,R,0\n\r1,D,0\n2,D,1\n"
    -- lines: too few, too many, empty ones, anything after the last
    ∷ (bad "row,set,number\n0,R,0\n1,D,0\n"
    ∷ (bad "row,set,number\n0,R,0\n1,D,0\n2,D,1\n2,D,1\n"
    ∷ (bad "row,set,number\n0,R,0\n1,D,0\n2,D,1\n\n"
    ∷ (bad "row,set,number\n0,R,0\n\n1,D,0\n2,D,1\n"
    ∷ (bad "row,set,number\n0,R,0\n1,D,0\n2,D,1\n "
    ∷ (bad "row,set,number\n0,R,0\n1,D,0\n2,D,1\n\0"
    -- the names line: capitals, missing, not ended, cut short; nothing at all
    ∷ (bad "TextExample,set,number\n0,R,0\n1,D,0\n2,D,1\n"
    ∷ (bad "Row,set,number\n0,R,0\n1,D,0\n2,D,1\n"
    ∷ (bad "ROW,SET,NUMBER\n0,R,0\n1,D,0\n2,D,1\n"
    ∷ (bad "0,R,0\n1,D,0\n2,D,1\n"
    ∷ (bad "row,set,number0,R,0\n1,D,0\n2,D,1\n"
    ∷ (bad "row,set\n0,R,0\n1,D,0\n2,D,1\n"
    ∷ (bad " row,set,number\n0,R,0\n1,D,0\n2,D,1\n"
    ∷ (bad "row,set,number\n"
    ∷ (bad ""
    ∷ []))))))))))))))))))))))))))))))))))))))

-- every row agrees
unfoldable pub agree : List TextExample → Bool
agree [] = true
agree (r ∷ rs) = same r.read r.wanted && agree rs

-- steps, and the plain form that is to be written for them
abbrev pub written_steps : List Step
written_steps = step 0 0 0 ∷ (step 10 1 0 ∷ (step 2 1 30 ∷ []))

unfoldable pub form : List ℕ
form = bytes "row,set,number\n0,R,0\n10,D,0\n2,D,30\n"
