-- Marking cell after cell: one cell more, and marks as a list of cells. Marks that stand for the
-- cells ys, with xs marked, stand for `added xs ys`.
use mathlib.Core.Path.{◌≡◌, refl, sym, ap, ap₂, ◌∙◌}
use mathlib.Core.Bool.{Bool, true, false, ◌||◌}
use mathlib.Core.List.{List, [], ◌∷◌, ◌++◌}
use Prim.Native.Nat.{ℕ, suc, ◌+◌, ◌≤◌, ◌<◌}
use native.Mathlib.Numerals.{add-one}
use native.Mathlib.Omega.{arith}
use lib.Dec.{eqb, ltb}
use lib.ListN.{length, get_or, set, drop, length-set, drop_of_length-le}
use lib.Seq.{drop-cons}
use borrow.Author.Tests.{eq-eqb, ne_eqb, eqb-true, ltb-true}
use Rattle.mathematics.specs.Choice.{pick, when}
use Rattle.mathematics.specs.Lists.{is_in, union, all_below}
use Rattle.mathematics.proofs.Flags.{and_l, and_r}
use Rattle.mathematics.proofs.KeptLaws.{kept_append}
use Rattle.liberation.specs.Sets.{disk_at, set_of, surviving_in}
use Rattle.liberation.specs.Plans.{marks_from}
use Rattle.liberation.proofs.SetLaws.{surviving_keeps, surviving_few}
use Rattle.liberation.proofs.SetSizes.{size_most}
use Rattle.liberation.proofs.ReadListLaws.{mark_at}
use Rattle.liberation.proofs.MarkLists.{mark_set, marks_same}
use Rattle.parity_sets.specs.Marks.{mark_all, fresh_in, Marked}

-- one cell: on the lost disk, or not
pub lost_one : (p f x : ℕ) → disk_at p x ≡ f → surviving_in p f (x ∷ []) ≡ []
unfolding surviving_in
lost_one p f x e = ap (λ (b : Bool). pick b [] (x ∷ [])) (eq-eqb (disk_at p x) f e)

pub surviving_one : (p f x : ℕ) → (disk_at p x ≡ f → ⊥) → surviving_in p f (x ∷ []) ≡ x ∷ []
unfolding surviving_in
surviving_one p f x n = ap (λ (b : Bool). pick b [] (x ∷ [])) (ne_eqb (disk_at p x) f n)

pub marked_none : (m xs : List ℕ) → xs ≡ [] → Marked m m xs 0
unfolding mark_all fresh_in
marked_none m xs e = record { fresh = sym (ap (fresh_in m) e); marks = sym (ap (mark_all m) e) }

pub marked_one : (m xs : List ℕ) (x r : ℕ) → xs ≡ x ∷ [] → when (eqb (get_or m x 0) 0) 1 ≡ r → Marked m (set m x 1) xs r
unfolding mark_all fresh_in
marked_one m xs x r e q = record { fresh = sym (ap (fresh_in m) e ∙ omega (arith, q)); marks = sym (ap (mark_all m) e) }

-- one part, then the rest
mark_append : (m xs ys : List ℕ) → mark_all m (xs ++ ys) ≡ mark_all (mark_all m xs) ys
unfolding mark_all
mark_append m [] ys = refl
mark_append m (x ∷ xs) ys = mark_append (set m x 1) xs ys

fresh_append : (m xs ys : List ℕ) → fresh_in m (xs ++ ys) ≡ fresh_in m xs + fresh_in (mark_all m xs) ys
unfolding mark_all fresh_in
fresh_append m [] ys = omega arith
fresh_append m (x ∷ xs) ys = omega (arith, fresh_append (set m x 1) xs ys)

-- where one cell x is marked first, what is left to mark of x ∷ xs is xs
pub mark_turn : (p f x r : ℕ) (m m' xs : List ℕ) → Marked m m' (surviving_in p f (x ∷ [])) r → mark_all m (surviving_in p f (x ∷ xs)) ≡ mark_all m' (surviving_in p f xs)
mark_turn p f x r m m' xs d =
    ap (mark_all m) (kept_append (surviving_keeps p f) (x ∷ []) xs)
    ∙ mark_append m (surviving_in p f (x ∷ [])) (surviving_in p f xs)
    ∙ ap (λ (l : List ℕ). mark_all l (surviving_in p f xs)) (sym d.marks)

pub fresh_turn : (p f x r : ℕ) (m m' xs : List ℕ) → Marked m m' (surviving_in p f (x ∷ [])) r → fresh_in m (surviving_in p f (x ∷ xs)) ≡ r + fresh_in m' (surviving_in p f xs)
fresh_turn p f x r m m' xs d =
    ap (fresh_in m) (kept_append (surviving_keeps p f) (x ∷ []) xs)
    ∙ fresh_append m (surviving_in p f (x ∷ [])) (surviving_in p f xs)
    ∙ ap₂ (λ (n : ℕ) (l : List ℕ). n + fresh_in l (surviving_in p f xs)) (sym d.fresh) (sym d.marks)

pub length_mark : (m xs : List ℕ) → length (mark_all m xs) ≡ length m
unfolding mark_all
length_mark m [] = refl
length_mark m (x ∷ xs) = length_mark (set m x 1) xs ∙ length-set m x 1

fresh_le : (m xs : List ℕ) → fresh_in m xs ≤ length xs
unfolding fresh_in
fresh_le m [] = omega arith
fresh_le m (x ∷ xs) = go (eqb (get_or m x 0) 0) (fresh_le (set m x 1) xs)
  where
    go : (b : Bool) → fresh_in (set m x 1) xs ≤ length xs → when b 1 + fresh_in (set m x 1) xs ≤ suc (length xs)
    go true h = omega arith
    go false h = omega arith

pub nothing_marked : (m : List ℕ) → (mark_all m [] ≡ m) × (fresh_in m [] ≡ 0)
unfolding mark_all fresh_in
nothing_marked m = (refl, refl)

-- a cell that is there already may be put in front
again : (y : ℕ) (ys : List ℕ) → is_in y ys ≡ true → (x : ℕ) → is_in x (y ∷ ys) ≡ is_in x ys
again y ys t x = go (eqb x y) refl
  where
    go : (b : Bool) → eqb x y ≡ b → (b || is_in x ys) ≡ is_in x ys
    go true e = sym (ap (λ (k : ℕ). is_in k ys) (eqb-true x y e) ∙ t)
    go false e = refl

-- the cells that marks stand for, all below n
marks_added : (n : ℕ) (xs ys : List ℕ) → all_below n xs ≡ true → mark_all (marks_from n 0 ys) xs ≡ marks_from n 0 (union xs ys)
unfolding mark_all union
marks_added n [] ys b = refl
marks_added n (x ∷ xs) ys b =
    let l : x < n = ltb-true x n (and_l (ltb x n) (all_below n xs) b) in
    ap (λ (m : List ℕ). mark_all m xs) (mark_set n 0 x ys l ∙ (let e : 0 + x ≡ x = omega arith in ap (λ (k : ℕ). marks_from n 0 (k ∷ ys)) e) ∙ go (is_in x ys) refl)
    ∙ marks_added n xs (pick (is_in x ys) ys (x ∷ ys)) (and_r (ltb x n) (all_below n xs) b)
  where
    go : (t : Bool) → is_in x ys ≡ t → marks_from n 0 (x ∷ ys) ≡ marks_from n 0 (pick t ys (x ∷ ys))
    go true t = marks_same n 0 (x ∷ ys) ys (again x ys t)
    go false t = refl

fresh_added : (n : ℕ) (xs ys : List ℕ) → all_below n xs ≡ true → fresh_in (marks_from n 0 ys) xs + length ys ≡ length (union xs ys)
unfolding fresh_in union
fresh_added n [] ys b = omega arith
fresh_added n (x ∷ xs) ys b =
    let l : x < n = ltb-true x n (and_l (ltb x n) (all_below n xs) b) in
    let e : 0 + x ≡ x = omega arith in
    let r : all_below n xs ≡ true = and_r (ltb x n) (all_below n xs) b in
    let m : get_or (marks_from n 0 ys) x 0 ≡ when (is_in x ys) 1 = mark_at n 0 x ys l ∙ ap (λ (k : ℕ). when (is_in k ys) 1) e in
    let s : set (marks_from n 0 ys) x 1 ≡ marks_from n 0 (x ∷ ys) = mark_set n 0 x ys l ∙ ap (λ (k : ℕ). marks_from n 0 (k ∷ ys)) e in
    ap₂ (λ (a : ℕ) (k : List ℕ). when (eqb a 0) 1 + fresh_in k xs + length ys) m s ∙ go (is_in x ys) refl (fresh_added n xs (pick (is_in x ys) ys (x ∷ ys)) r)
  where
    go : (t : Bool) → is_in x ys ≡ t → fresh_in (marks_from n 0 (pick t ys (x ∷ ys))) xs + length (pick t ys (x ∷ ys)) ≡ length (union xs (pick t ys (x ∷ ys))) → when (eqb (when t 1) 0) 1 + fresh_in (marks_from n 0 (x ∷ ys)) xs + length ys ≡ length (union xs (pick t ys (x ∷ ys)))
    go true t h = (let q : marks_from n 0 (x ∷ ys) ≡ marks_from n 0 ys = marks_same n 0 (x ∷ ys) ys (again x ys t) in ap (λ (k : List ℕ). 0 + fresh_in k xs + length ys) q) ∙ omega (arith, h)
    go false t h = omega (arith, h)

-- where the marks were those of ys, they become those of all, and the new ones are counted
pub marked_read : (n : ℕ) (xs ys m m' : List ℕ) (r : ℕ) → all_below n xs ≡ true → m ≡ marks_from n 0 ys → Marked m m' xs r → (m' ≡ marks_from n 0 (union xs ys)) × (r + length ys ≡ length (union xs ys))
marked_read n xs ys m m' r b e d =
    (d.marks ∙ ap (λ (l : List ℕ). mark_all l xs) e ∙ marks_added n xs ys b, ap (λ (x : ℕ). x + length ys) (d.fresh ∙ ap (λ (l : List ℕ). fresh_in l xs) e) ∙ fresh_added n xs ys b)

-- a set has at most k + 2 cells, so no more are new
pub marked_few : (p k f kind number : ℕ) {m m' : List ℕ} {r : ℕ} → Marked m m' (surviving_in p f (set_of p k kind number)) r → r ≤ k + 2
marked_few p k f kind number {m} d =
    omega (arith, d.fresh, fresh_le m (surviving_in p f (set_of p k kind number)), surviving_few p f (set_of p k kind number), size_most p k kind number)

-- Marking the surviving cells of xs one by one: after `at` of them the marks are m, and the rest is
-- still to be marked.
pub record Halfway (p f : ℕ) (xs m₀ m : List ℕ) (fresh at : ℕ) : Type 0 where
  pub within : at ≤ length xs
  pub long : length m ≡ length m₀
  pub few : fresh ≤ at
  pub marks : mark_all m (surviving_in p f (drop at xs)) ≡ mark_all m₀ (surviving_in p f xs)
  pub count : fresh + fresh_in m (surviving_in p f (drop at xs)) ≡ fresh_in m₀ (surviving_in p f xs)

pub halfway_start : (p f : ℕ) (xs m : List ℕ) → Halfway p f xs m m 0 0
halfway_start p f xs m = record { within = omega arith; long = refl; few = omega arith; marks = refl; count = omega arith }

one_fresh : (p f x r : ℕ) (m m' : List ℕ) → Marked m m' (surviving_in p f (x ∷ [])) r → r ≤ 1
unfolding surviving_in fresh_in
one_fresh p f x r m m' d = go (eqb (disk_at p x) f) d.fresh
  where
    go : (b : Bool) → r ≡ fresh_in m (pick b [] (x ∷ [])) → r ≤ 1
    go true e = omega arith
    go false e = omega (arith, fresh_le m (x ∷ []), e)

pub halfway_turn : (p f : ℕ) (xs m₀ m m' : List ℕ) (fresh at r : ℕ) → at < length xs → Halfway p f xs m₀ m fresh at → Marked m m' (surviving_in p f (get_or xs at 0 ∷ [])) r → Halfway p f xs m₀ m' (fresh + r) (at + 1)
halfway_turn p f xs m₀ m m' fresh at r h k d =
    record {
      within = omega arith;
      long = ap length d.marks ∙ length_mark m (surviving_in p f (x ∷ [])) ∙ k.long;
      few = omega (arith, one_fresh p f x r m m' d, k.few);
      marks = ap (λ (l : List ℕ). mark_all m' (surviving_in p f l)) rest ∙ sym (mark_turn p f x r m m' (drop (suc at) xs) d) ∙ ap (λ (l : List ℕ). mark_all m (surviving_in p f l)) (sym here) ∙ k.marks;
      count = ap (λ (l : List ℕ). fresh + r + fresh_in m' (surviving_in p f l)) rest ∙ omega (arith, fresh_turn p f x r m m' (drop (suc at) xs) d, ap (λ (l : List ℕ). fresh_in m (surviving_in p f l)) here, k.count);
    }
  where
    x : ℕ
    x = get_or xs at 0

    here : drop at xs ≡ x ∷ drop (suc at) xs
    here = drop-cons xs at 0 h

    rest : drop (at + 1) xs ≡ drop (suc at) xs
    rest = ap (λ (n : ℕ). drop n xs) (add-one at)

pub halfway_end : (p f : ℕ) (xs m₀ m : List ℕ) (fresh at : ℕ) → length xs ≤ at → Halfway p f xs m₀ m fresh at → Marked m₀ m (surviving_in p f xs) fresh
unfolding surviving_in
halfway_end p f xs m₀ m fresh at h k =
    record {
      fresh = omega (arith, ap (λ (l : List ℕ). fresh_in m (surviving_in p f l)) none, (nothing_marked m).1, k.count);
      marks = sym (nothing_marked m).0 ∙ ap (λ (l : List ℕ). mark_all m (surviving_in p f l)) (sym none) ∙ k.marks;
    }
  where
    none : drop at xs ≡ []
    none = drop_of_length-le xs h

-- Marking the surviving cells of xs one by one: the cells `rest` are still to be marked in m.
pub record Marking (n p f : ℕ) (xs m₀ m : List ℕ) (fresh : ℕ) (rest : List ℕ) : Type 0 where
  pub below : all_below n rest ≡ true
  pub long : length m ≡ n
  pub few : fresh + length rest ≤ length xs
  pub marks : mark_all m (surviving_in p f rest) ≡ mark_all m₀ (surviving_in p f xs)
  pub count : fresh + fresh_in m (surviving_in p f rest) ≡ fresh_in m₀ (surviving_in p f xs)

pub marking_start : (n p f : ℕ) (xs m : List ℕ) → all_below n xs ≡ true → length m ≡ n → Marking n p f xs m m 0 xs
marking_start n p f xs m b l = record { below = b; long = l; few = omega arith; marks = refl; count = omega arith }

-- the next cell is one of the marks
pub marking_next : {n p f : ℕ} {xs m₀ m : List ℕ} {fresh : ℕ} {rest : List ℕ} (x : ℕ) (left : List ℕ) → rest ≡ x ∷ left → Marking n p f xs m₀ m fresh rest → (x < length m) × (fresh < length xs)
marking_next {n} {fresh = fresh} x left e k =
    let b = rw e at k.below in
    (omega (arith, ltb-true x n (and_l (ltb x n) (all_below n left) b), k.long), omega (arith, ap length e, k.few))

pub marking_turn : {n p f : ℕ} {xs m₀ m : List ℕ} {fresh : ℕ} {rest : List ℕ} (x : ℕ) (left m' : List ℕ) (r : ℕ) → rest ≡ x ∷ left → Marking n p f xs m₀ m fresh rest → Marked m m' (surviving_in p f (x ∷ [])) r → Marking n p f xs m₀ m' (fresh + r) left
marking_turn {n} {p} {f} {xs} {m₀} {m} {fresh} {rest} x left m' r e k d =
    record {
      below = and_r (ltb x n) (all_below n left) (rw e at k.below);
      long = ap length d.marks ∙ length_mark m (surviving_in p f (x ∷ [])) ∙ k.long;
      few = omega (arith, one_fresh p f x r m m' d, k.few, ap length e);
      marks = sym (mark_turn p f x r m m' left d) ∙ ap (λ (l : List ℕ). mark_all m (surviving_in p f l)) (sym e) ∙ k.marks;
      count = omega (arith, fresh_turn p f x r m m' left d, ap (λ (l : List ℕ). fresh_in m (surviving_in p f l)) e, k.count);
    }

pub marking_end : {n p f : ℕ} {xs m₀ m : List ℕ} {fresh : ℕ} {rest : List ℕ} → rest ≡ [] → Marking n p f xs m₀ m fresh rest → Marked m₀ m (surviving_in p f xs) fresh
unfolding surviving_in
marking_end {p = p} {f = f} {m = m} e k =
    record {
      fresh = omega (arith, ap (λ (l : List ℕ). fresh_in m (surviving_in p f l)) e, (nothing_marked m).1, k.count);
      marks = sym (nothing_marked m).0 ∙ ap (λ (l : List ℕ). mark_all m (surviving_in p f l)) (sym e) ∙ k.marks;
    }
