-- The steps of a plan, done in order on a stripe, are steps over the cells of the lost disk, and
-- where they pass, each finds the other lost cells of its set standing; so Standing says what they
-- do.
use mathlib.Core.Path.{◌≡◌, refl, sym, ap, ap₂, ◌∙◌}
use mathlib.Core.Bool.{Bool, true, ◌&&◌, ◌||◌, not}
use mathlib.Core.Logic.{⊎_elim}
use mathlib.Core.List.{List, [], ◌∷◌}
use Prim.Native.Nat.{ℕ, ◌+◌, ◌*◌, ◌<◌}
use native.Mathlib.Omega.{arith}
use lib.Dec.{eqb}
use borrow.Author.Tests.{eq-eqb, ne_eqb, eqb-false}
use Rattle.mathematics.specs.Lists.{is_in}
use Rattle.mathematics.proofs.Flags.{or_r}
use Rattle.mathematics.proofs.TestLaws.{eqb_same}
use Rattle.liberation.specs.Sets.{place, disk_at, set_of, lost_in}
use Rattle.liberation.specs.Plans.{Step}
use Rattle.liberation.specs.Claims.{uses}
use Rattle.liberation.proofs.SetLaws.{disk_place, in_lost}
use Rattle.liberation.proofs.PlaceLaws.{cell_cases}
use Rattle.liberation.proofs.ReadLaws.{holds}
use Rattle.liberation.proofs.AcceptedLaws.{Passes, none, next}
use Rattle.liberation.proofs.RowLaws.{rows_after}
use Rattle.liberation.specs.Stripes.Stripes.{cell_at, is_stripe, clean, followed}
use Rattle.liberation.specs.Stripes.Steps.{steps_done, on_disk, known}
use Rattle.liberation.proofs.Stripes.Solving.{SetZero}
use Rattle.liberation.proofs.Stripes.Standing as standing
use Rattle.liberation.proofs.Stripes.Standing.{Standing, done_after, names, in_sets, off_known, known_off, steps_stripe, steps_kept, steps_zero, steps_same, steps_clean, steps_agree}

pub followed_steps : (p k s f : ℕ) (ss : List Step) (t : List ℕ) → followed p k s f ss t ≡ steps_done p k s (on_disk p f ss) t
unfolding followed on_disk steps_done
followed_steps p k s f [] t = refl
followed_steps p k s f (st ∷ ss) t = followed_steps p k s f ss _

-- the cells of disk f, all of them and those of some rows
abbrev lost_on : ℕ → ℕ → ℕ → Bool
lost_on p f y = eqb (disk_at p y) f

unfoldable cells_in : ℕ → ℕ → List ℕ → List ℕ
cells_in p f [] = []
cells_in p f (r ∷ rs) = place p r f ∷ cells_in p f rs

in_cells : (p f r : ℕ) (rs : List ℕ) → is_in (place p r f) (cells_in p f rs) ≡ is_in r rs
unfolding cells_in
in_cells p f r [] = refl
in_cells p f r (i ∷ rs) = ap₂ ◌||◌ (eqb_same (place p r f) (place p i f) r i (λ e. omega arith) (λ e. ap (λ (j : ℕ). place p j f) e)) (in_cells p f r rs)

-- steps that pass stand, and name the same sets, hold the same cells and write the same rows
passes_standing : (p k f : ℕ) {done : List ℕ} {ss : List Step} → Passes p k f done ss → Standing p k (lost_on p f) (cells_in p f done) (on_disk p f ss)
unfolding cells_in on_disk
passes_standing p k f none = standing.none
passes_standing p k f (next {done} {s = st} {ss} g rest) =
    standing.next
    (record {
      kind_below = g.kind_below;
      number_below = g.number_below;
      held = sym (in_lost p f st.row xs g.row_below) ∙ g.lost;
      fresh = ap₂ (λ (a b : Bool). not a || b) (eq-eqb (disk_at p (place p st.row f)) f (disk_place p st.row f g.row_below)) (in_cells p f st.row done ∙ g.fresh);
      others = λ y h. ⊎_elim (λ n. off_known (lost_on p f) y (cells_in p f (st.row ∷ done)) (ne_eqb (disk_at p y) f n)) (λ w. stood y w.0 w.2 w.3) (cell_cases p f y xs (omega (arith, g.row_below)) h);
    })
    (passes_standing p k f rest)
  where
    xs : List ℕ
    xs = set_of p k st.kind st.number

    stood : (y z : ℕ) → y ≡ place p z f → is_in z (lost_in p f xs) ≡ true → known (lost_on p f) (cells_in p f (st.row ∷ done)) y ≡ true
    stood y z q a = or_r (not (lost_on p f y)) (is_in y (cells_in p f (st.row ∷ done))) (ap (λ (x : ℕ). is_in x (cells_in p f (st.row ∷ done))) q ∙ in_cells p f z (st.row ∷ done) ∙ g.others z a)

names_uses : (p f kind i : ℕ) (ss : List Step) → names kind i (on_disk p f ss) ≡ uses kind i ss
unfolding names on_disk uses
names_uses p f kind i [] = refl
names_uses p f kind i (st ∷ ss) = ap (λ (b : Bool). (eqb st.kind kind && eqb st.number i) || b) (names_uses p f kind i ss)

sets_hold : (p k f x : ℕ) (ss : List Step) → in_sets p k x (on_disk p f ss) ≡ holds p k x ss
unfolding in_sets on_disk holds
sets_hold p k f x [] = refl
sets_hold p k f x (st ∷ ss) = ap (λ (b : Bool). is_in x (set_of p k st.kind st.number) || b) (sets_hold p k f x ss)

rows_written : (p f : ℕ) (done : List ℕ) (ss : List Step) → done_after (cells_in p f done) (on_disk p f ss) ≡ cells_in p f (rows_after done ss)
unfolding cells_in on_disk done_after rows_after
rows_written p f done [] = refl
rows_written p f done (st ∷ ss) = rows_written p f (st.row ∷ done) ss

pub followed_stripe : (p k s f : ℕ) {done : List ℕ} {ss : List Step} → Passes p k f done ss → (t : List ℕ) → is_stripe p k s t ≡ true → is_stripe p k s (followed p k s f ss t) ≡ true
followed_stripe p k s f {ss = ss} ok t h = ap (is_stripe p k s) (followed_steps p k s f ss t) ∙ steps_stripe p k s (lost_on p f) (passes_standing p k f ok) t h

-- no cell off the lost disk changes
pub followed_off : (p k s f : ℕ) {done : List ℕ} {ss : List Step} → Passes p k f done ss → (t : List ℕ) → is_stripe p k s t ≡ true → (y : ℕ) → (disk_at p y ≡ f → ⊥) → cell_at s (followed p k s f ss t) y ≡ cell_at s t y
followed_off p k s f {done} {ss} ok t h y n =
    ap (λ (v : List ℕ). cell_at s v y) (followed_steps p k s f ss t) ∙ steps_kept p k s (lost_on p f) (passes_standing p k f ok) t h y (off_known (lost_on p f) y (cells_in p f done) (ne_eqb (disk_at p y) f n))

-- the sets named have XOR zero after the steps
pub followed_zero : (p k s f : ℕ) {done : List ℕ} {ss : List Step} → Passes p k f done ss → (t : List ℕ) → is_stripe p k s t ≡ true → (kind i : ℕ) → uses kind i ss ≡ true → SetZero p k s (followed p k s f ss t) kind i
followed_zero p k s f {ss = ss} ok t h kind i e =
    rw (followed_steps p k s f ss t) (steps_zero p k s (lost_on p f) (passes_standing p k f ok) t h kind i (names_uses p f kind i ss ∙ e))

-- a stripe in which they have XOR zero already is left as it is, and so is a clean one
pub followed_same : (p k s f : ℕ) {done : List ℕ} {ss : List Step} → Passes p k f done ss → (t : List ℕ) → is_stripe p k s t ≡ true → ((kind i : ℕ) → uses kind i ss ≡ true → SetZero p k s t kind i) → followed p k s f ss t ≡ t
followed_same p k s f {ss = ss} ok t h zeros =
    followed_steps p k s f ss t ∙ steps_same p k s (lost_on p f) (passes_standing p k f ok) t h (λ kind i l e. zeros kind i (sym (names_uses p f kind i ss) ∙ e))

pub followed_clean : (p k s f : ℕ) {done : List ℕ} {ss : List Step} → Passes p k f done ss → (t : List ℕ) → is_stripe p k s t ≡ true → clean p k s t ≡ true → followed p k s f ss t ≡ t
followed_clean p k s f {ss = ss} ok t h c = followed_steps p k s f ss t ∙ steps_clean p k s (lost_on p f) (passes_standing p k f ok) t h c

-- what the steps leave in the rows that they rebuild depends only on the surviving cells of the
-- sets named
pub followed_agree :
    (p k s f : ℕ) {ss : List Step} → Passes p k f [] ss
    → (t u : List ℕ) → is_stripe p k s t ≡ true → is_stripe p k s u ≡ true
    → ((x : ℕ) → x < p * (k + 2) → (disk_at p x ≡ f → ⊥) → holds p k x ss ≡ true → cell_at s t x ≡ cell_at s u x)
    → (r : ℕ) → r < p → is_in r (rows_after [] ss) ≡ true → cell_at s (followed p k s f ss t) (place p r f) ≡ cell_at s (followed p k s f ss u) (place p r f)
unfolding cells_in
followed_agree p k s f {ss} ok t u ht hu alive r l h =
    ap (λ (v : List ℕ). cell_at s v x) (followed_steps p k s f ss t)
    ∙ steps_agree p k s (lost_on p f) (passes_standing p k f ok) t u ht hu (λ y m a e. alive y m (survives y a) (sym (sets_hold p k f y ss) ∙ e)) x (λ a. absurd (survives x a (disk_place p r f l)))
    (or_r (not (lost_on p f x)) (is_in x (done_after [] (on_disk p f ss))) (ap (is_in x) (rows_written p f [] ss) ∙ in_cells p f r (rows_after [] ss) ∙ h))
    ∙ sym (ap (λ (v : List ℕ). cell_at s v x) (followed_steps p k s f ss u))
  where
    x : ℕ
    x = place p r f

    survives : (y : ℕ) → known (lost_on p f) [] y ≡ true → disk_at p y ≡ f → ⊥
    survives y a = eqb-false (disk_at p y) f (known_off (lost_on p f) y a)
