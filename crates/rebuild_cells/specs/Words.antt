-- The word made from marks: bit b says that the mark of cell b of a list is odd.
use Rattle.std.specs.Prelude.{List, [], ◌∷◌, ℕ, ◌+◌, ◌*◌, ◌%◌, get_or}

unfoldable pub marks_word : List ℕ → List ℕ → ℕ
marks_word [] ms = 0
marks_word (c ∷ cs) ms = get_or ms c 0 % 2 + 2 * marks_word cs ms
