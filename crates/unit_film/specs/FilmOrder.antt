-- The film of a unit, stripe by stripe. A unit of n stripes with cells of s bytes lies in memory as
-- one stripe whose cells are its pieces, n × s bytes each; the data pieces are at the first k × p
-- places.
use Rattle.std.specs.Prelude.{List, [], ◌++◌, ℕ, zero, suc, ◌+◌, ◌*◌}
use Rattle.xor.specs.Parts.{part}

-- n lists, f x, f (x + 1) and so on, one after another
unfoldable pub joined_from : ℕ → ℕ → (ℕ → List ℕ) → List ℕ
joined_from zero x f = []
joined_from (suc n) x f = f x ++ joined_from n (suc x) f

-- the cell of stripe j at place x: s bytes of the piece there, from its byte j × s on
abbrev pub stripe_cell : ℕ → ℕ → List ℕ → ℕ → ℕ → List ℕ
stripe_cell s n t j x = part s (x * (n * s) + j * s) t

-- the cells of n stripes at q places
unfoldable pub in_order : ℕ → ℕ → ℕ → List ℕ → List ℕ
in_order q s n t = joined_from n 0 (λ j. joined_from q 0 (λ x. stripe_cell s n t j x))

-- the film
abbrev pub film_of : ℕ → ℕ → ℕ → ℕ → List ℕ → List ℕ
film_of p k s n t = in_order (k * p) s n t
