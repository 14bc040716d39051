-- Routes in 31 places, the first p of which count, and their word; and what our plan's rule makes of
-- them row by row.
use mathlib.Core.Path.{◌≡◌, refl, sym, ap, ap₂, ◌∙◌}
use mathlib.Core.Bool.{Bool, true, false, ◌||◌}
use mathlib.Core.List.{List, map}
use Prim.Native.Nat.{ℕ, zero, suc, ◌+◌, ◌-◌, ◌*◌, ◌/◌, ◌%◌, ◌^◌, ◌≤◌, ◌<◌}
use native.Mathlib.Nat.{one-mul}
use native.Mathlib.Numerals.{add-one}
use native.Mathlib.Omega.{arith}
use lib.Bits.{bit_or}
use lib.Pow.{shl_exact}
use lib.Dec.{eqb, lit<}
use lib.ListN.{length, get_or, take, set, replicate}
use lib.Seq.{length-take-le, take-set-lt}
use borrow.Author.Tests.{eq-eqb, ne_eqb, le-leb, lt-leb}
use Rattle.std.proofs.lemmas.List.{map-set, length-map}
use Rattle.mathematics.specs.Choice.{pick, when}
use Rattle.mathematics.proofs.Flags.{or_l, or_r}
use Rattle.mathematics.proofs.ListLaws.{take_replicate}
use Rattle.liberation.specs.Plans.{diagonals, second_row, first_routes, zero_routes, diagonal_of, partner, decided, turned, routes_from, routes, word_from}
use Rattle.liberation.proofs.RouteLaws.{routes_stop, routes_on}
use Rattle.liberation.proofs.WordLaws.{set_word, word_same}
use Rattle.refusals.specs.declared.array.Array.{Array}
use Rattle.planner.specs.declared.routes.Route.{Route}
use Rattle.planner.specs.declared.routes.Route.TheVariants.{Row, Diagonal}
use Rattle.planner.specs.Route.{route_number}

-- the routes of the first p places by number
abbrev numbers : ℕ → List Route → List ℕ
numbers p R = take p (map route_number R)

-- one row's route is another
pub numbers_set : (p i : ℕ) (R : List Route) (r : Route) → i < p → numbers p (set R i r) ≡ set (numbers p R) i (route_number r)
numbers_set p i R r h = ap (take p) (map-set route_number R i r) ∙ take-set-lt p (map route_number R) i (route_number r) h

pub long : (p : ℕ) (R : List Route) → p ≤ 31 → length R ≡ 31 → length (numbers p R) ≡ p
long p R h e = length-take-le p (map route_number R) (omega (arith, length-map R route_number, e, h))

-- a row takes a diagonal: its bit is set
pub word_set : (p i w : ℕ) (R : List Route) → p ≤ 31 → length R ≡ 31 → i < p → w ≡ word_from 0 (numbers p R) → bit_or w (1 * 2 ^ i % 4294967296) ≡ word_from 0 (numbers p (set R i Diagonal))
word_set p i w R h e l q =
    ap₂ bit_or q (shl_exact 1 i 32 (lit< tt) (omega (arith, h, l)) ∙ one-mul _)
    ∙ set_word (numbers p R) i (omega (arith, long p R h e, l))
    ∙ ap (word_from 0) (sym (numbers_set p i R Diagonal l))

-- a row without one takes its row set: the word is as it was
pub word_kept : (p i w : ℕ) (R : List Route) → i < p → (get_or (numbers p R) i 0 ≡ 2 → ⊥) → w ≡ word_from 0 (numbers p R) → w ≡ word_from 0 (numbers p (set R i Row))
word_kept p i w R l n q = q ∙ sym (word_same (numbers p R) i 1 n (λ e. absurd (omega (arith, e)))) ∙ ap (word_from 0) (sym (numbers_set p i R Row l))

-- no row takes a diagonal
word_plain : (n i v : ℕ) → (v ≡ 2 → ⊥) → 0 ≡ word_from i (replicate n v)
unfolding word_from
word_plain zero i v n = refl
word_plain (suc m) i v n = ap₂ ◌+◌ (ap (λ (b : Bool). when b (2 ^ i)) (sym (ne_eqb v 2 n))) (word_plain m (suc i) v n)

pub word_nothing : (p v : ℕ) → p ≤ 31 → (v ≡ 2 → ⊥) → 0 ≡ word_from 0 (take p (replicate 31 v))
word_nothing p v h n = word_plain p 0 v n ∙ ap (word_from 0) (sym (take_replicate p 31 v h))

-- the first routes of disk 0: row f has a diagonal
pub first_only : (p f : ℕ) → f ≡ 0 → set (replicate p 0) f 2 ≡ first_routes p f
unfolding first_routes
first_only p f e = ap (λ (b : Bool). pick b (set (zero_routes p f) (second_row p f) 2) (zero_routes p f)) (sym (lt-leb 1 f (omega (arith, e))))

-- and for f > 0 a second row
pub first_both : (p f : ℕ) → (f ≡ 0 → ⊥) → set (set (replicate p 0) f 2) (second_row p f) 2 ≡ first_routes p f
unfolding first_routes
first_both p f n = ap (λ (b : Bool). pick b (set (zero_routes p f) (second_row p f) 2) (zero_routes p f)) (sym (le-leb 1 f (omega (arith, n))))

-- the partner as the code has it
pub partner_is : (a b : Array) (f j d : ℕ) → b ≡ a → d ≡ diagonal_of b.width f j → b.width - 1 - d ≡ partner a.width f j
partner_is a b f j d e q = ap (λ (x : ℕ). b.width - 1 - x) q ∙ ap (λ (x : Array). partner x.width f j) e

-- a row whose partner i is itself or has a diagonal takes its row set,
decided_row : (p f j : ℕ) (rs : List ℕ) → (eqb (partner p f j) j || eqb (get_or rs (partner p f j) 0) 2) ≡ true → set rs j 1 ≡ decided p f j rs
unfolding decided
decided_row p f j rs t = ap (λ (b : Bool). pick b (set rs j 1) (set (set rs j 2) (partner p f j) 1)) (sym t)

pub decided_self : (p f j i : ℕ) (rs : List ℕ) → i ≡ partner p f j → i ≡ j → set rs j 1 ≡ decided p f j rs
decided_self p f j i rs q e = decided_row p f j rs (or_l (eqb (partner p f j) j) (eqb (get_or rs (partner p f j) 0) 2) (eq-eqb (partner p f j) j (sym q ∙ e)))

pub decided_taken : (p f j i : ℕ) (rs : List ℕ) → i ≡ partner p f j → eqb (get_or rs i 0) 2 ≡ true → set rs j 1 ≡ decided p f j rs
decided_taken p f j i rs q e = decided_row p f j rs (or_r (eqb (partner p f j) j) (eqb (get_or rs (partner p f j) 0) 2) (ap (λ (x : ℕ). eqb (get_or rs x 0) 2) (sym q) ∙ e))

-- any other a diagonal, and its partner the row set
pub decided_both : (p f j i : ℕ) (rs : List ℕ) → i ≡ partner p f j → (i ≡ j → ⊥) → eqb (get_or rs i 0) 2 ≡ false → set (set rs j 2) i 1 ≡ decided p f j rs
unfolding decided
decided_both p f j i rs q n e =
    ap (λ (x : ℕ). set (set rs j 2) x 1) q
    ∙ ap (λ (b : Bool). pick b (set rs j 1) (set (set rs j 2) (partner p f j) 1)) (sym (ap₂ (λ (a b : Bool). a || b) (ne_eqb (partner p f j) j (λ x. n (q ∙ x))) (ap (λ (x : ℕ). eqb (get_or rs x 0) 2) (sym q) ∙ e)))

-- What the rows from j on make of the routes so far: all of it where they stop,
pub stops : (p f j : ℕ) (rs : List ℕ) → (p - 1) / 2 ≤ diagonals rs → routes_from (p - j) p f j rs ≡ routes p f → rs ≡ routes p f
stops p f j rs h e = sym (routes_stop (p - j) p f j rs (le-leb ((p - 1) / 2) (diagonals rs) h)) ∙ e

-- else what the next rows make of it after the turn of row j: it is decided
turns : (p f j : ℕ) (rs us : List ℕ) → j < p → diagonals rs < (p - 1) / 2 → us ≡ turned p f j rs → routes_from (p - j) p f j rs ≡ routes p f → routes_from (p - (j + 1)) p f (j + 1) us ≡ routes p f
turns p f j rs us l d q e =
    let s : p - j ≡ suc (p - (j + 1)) = omega (arith, l) in
    ap₂ (λ (i : ℕ) (x : List ℕ). routes_from (p - (j + 1)) p f i x) (add-one j) q
    ∙ sym (routes_on (p - (j + 1)) p f j rs (lt-leb ((p - 1) / 2) (diagonals rs) d))
    ∙ ap (λ (i : ℕ). routes_from i p f j rs) (sym s)
    ∙ e

pub turn_decides : (p f j : ℕ) (rs us : List ℕ) → j < p → diagonals rs < (p - 1) / 2 → eqb (get_or rs j 0) 0 ≡ true → us ≡ decided p f j rs → routes_from (p - j) p f j rs ≡ routes p f → routes_from (p - (j + 1)) p f (j + 1) us ≡ routes p f
turn_decides p f j rs us l d t q = turns p f j rs us l d (q ∙ ap (λ (b : Bool). pick b (decided p f j rs) rs) (sym t))

-- or was before
pub turn_skips : (p f j : ℕ) (rs : List ℕ) → j < p → diagonals rs < (p - 1) / 2 → eqb (get_or rs j 0) 0 ≡ false → routes_from (p - j) p f j rs ≡ routes p f → routes_from (p - (j + 1)) p f (j + 1) rs ≡ routes p f
turn_skips p f j rs l d t = turns p f j rs rs l d (ap (λ (b : Bool). pick b (decided p f j rs) rs) (sym t))

-- no row is left
pub ends : (p f j : ℕ) (rs : List ℕ) → p ≤ j → routes_from (p - j) p f j rs ≡ routes p f → rs ≡ routes p f
unfolding routes_from
ends p f j rs l e =
    let z : p - j ≡ 0 = omega (arith, l) in
    ap (λ (n : ℕ). routes_from n p f j rs) (sym z) ∙ e

pub begins : (p f : ℕ) (rs : List ℕ) → rs ≡ first_routes p f → routes_from (p - 0) p f 0 rs ≡ routes p f
unfolding routes
begins p f rs e = let z : p - 0 ≡ p = omega arith in ap₂ (λ (n : ℕ) (us : List ℕ). routes_from n p f 0 us) z e
