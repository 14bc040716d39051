-- Demand 2, and the last sentence of demand 3, said of the calls that encode, check and rebuild one
-- disk: whatever they return, as long as they keep their promises.
-- t, u are lent stripes, o a column as it was lent, o' as it is given back. That their lengths are
-- those required and that stripes are bytes comes with the answers.
use mathlib.Core.Path.{◌≡◌, sym, ap, ◌∙◌}
use mathlib.Core.Bool.{true, ◌&&◌}
use mathlib.Core.List.{List}
use Prim.Native.Nat.{ℕ, ◌+◌, ◌*◌, ◌≤◌, ◌<◌}
use native.Mathlib.Omega.{arith}
use lib.Dec.{eqb}
use lib.ListN.{length, get_or}
use borrow.Author.Tests.{eqb-true, eq-eqb}
use Rattle.mathematics.specs.Choice.{pick}
use Rattle.mathematics.specs.Xor.{all_bytes}
use Rattle.mathematics.proofs.Flags.{and_l, and_i}
use Rattle.liberation.specs.Sets.{disk_at}
use Rattle.liberation.specs.Plans.{read_list}
use Rattle.liberation.specs.Claims.{full_disk}
use Rattle.liberation.proofs.PartLaws.{full_range}
use Rattle.liberation.proofs.PartPlans.{plan_accepted}
use Rattle.liberation.specs.Stripes.Stripes.{cell_at, column_of, stripe_long, is_stripe, clean, encoded, rebuilt}
use Rattle.liberation.specs.Stripes.StripeLimits.{Sized}
use Rattle.liberation.specs.Stripes.Widened.{widened}
use Rattle.liberation.proofs.Stripes.Widening.{widened_stripe, widened_clean, widened_encoded}
use Rattle.liberation.proofs.Stripes.WidenedRebuilds.{widened_rebuilt}
use Rattle.liberation.proofs.Stripes.Encoding.{encoded_stripe, encoded_data, encoded_clean, encoded_only}
use Rattle.liberation.proofs.Stripes.Rebuilding.{one_back, lost_unused, only_read}
use Rattle.refusals.specs.declared.answer.Answer.{Answer}
use Rattle.planner.specs.ReadListSays.{ListSays}
use Rattle.scrub.specs.declared.clean.Checked.{Checked}
use Rattle.refusals.specs.StripeSays.{stripe_refusal}
use Rattle.encode.specs.Says.{EncodeSays}
use Rattle.scrub.specs.CheckSays.{CheckSays}
use Rattle.refusals.proofs.StripeRefusals.{refusal_none as within-limits}
use Rattle.rebuild_one.specs.RebuildOneSays.{OneSays}
use Rattle.rebuild_one.proofs.OneRefusals.{refusal_none}
use Rattle.guarantees.specs.Limits.Limits.{Within}
use Rattle.guarantees.specs.Limits.Calls.{on_stripe}
use Rattle.guarantees.proofs.Limits.Demand1.{demand1}

pub is_stripe_lem : (p k s : ℕ) (t : List ℕ) → length t ≡ stripe_long p k s → all_bytes t ≡ true → is_stripe p k s t ≡ true
is_stripe_lem p k s t e b = and_i (eqb (length t) (stripe_long p k s)) (all_bytes t) (eq-eqb (length t) (stripe_long p k s) e) b

-- An accepted encoding of t leaves t'.
pub record Encodes (p k s : ℕ) (t t' : List ℕ) : Type 0 where
  -- a stripe still, in length and bytes
  pub stripe : is_stripe p k s t' ≡ true
  pub is_clean : clean p k s t' ≡ true
  -- no data cell is touched
  pub kept : (x : ℕ) → x < p * k → cell_at s t' x ≡ cell_at s t x
  -- no other clean stripe has those data
  pub only : (u : List ℕ) → is_stripe p k s u ≡ true → clean p k s u ≡ true → ((x : ℕ) → x < p * k → cell_at s u x ≡ cell_at s t x) → u ≡ t'

encoded_is : (p k s : ℕ) (t t' : List ℕ) (r : Answer) → EncodeSays p k s t t' r → r.refusal ≡ 0 → t' ≡ encoded p k s t
encoded_is p k s t t' r d z = d.stripe ∙ ap (λ (n : ℕ). pick (eqb n 0) (encoded p k s t) t) (sym d.answer.refusal ∙ z)

pub encodes : (p k s : ℕ) (t t' : List ℕ) (r : Answer) → EncodeSays p k s t t' r → r.refusal ≡ 0 → Encodes p k s t t'
encodes p k s t t' r d z =
    let e : stripe_refusal p k s t ≡ 0 = sym d.answer.refusal ∙ z in
    let done : t' ≡ encoded p k s t = encoded_is p k s t t' r d z in
    let ok : is_stripe p k s t ≡ true = is_stripe_lem p k s t (within-limits p k s t e).long d.bytes in
    record {
      stripe = ap (is_stripe p k s) done ∙ encoded_stripe p k s t ok;
      is_clean = ap (clean p k s) done ∙ encoded_clean p k s t ok;
      kept = λ x h. ap (λ (l : List ℕ). cell_at s l x) done ∙ encoded_data p k s t ok x h;
      only = λ u a c h. encoded_only p k s t ok u a c h ∙ sym done;
    }

-- "The check says yes exactly for clean stripes."
pub checks : (p k s : ℕ) (t : List ℕ) (r : Checked) → CheckSays p k s t r → r.answer.refusal ≡ 0 → r.clean ≡ clean p k s t
checks p k s t r d z = d.clean ∙ ap (λ (n : ℕ). eqb n 0 && clean p k s t) (sym d.answer.refusal ∙ z)

-- Ask 1: cells of absent disks "count as zero". A call on the full stripe, with zeros on the absent
-- disks, is within its limits where one on the stripe is
pub full_long : (p k s : ℕ) (t : List ℕ) → k ≤ p → is_stripe p k s t ≡ true → length (widened p k s t) ≡ stripe_long p p s
full_long p k s t most ok = eqb-true (length (widened p k s t)) (stripe_long p p s) (and_l _ _ (widened_stripe p k s t most ok))

full_within : (p k s : ℕ) (t : List ℕ) → all_bytes t ≡ true → Within (on_stripe p k s t) → Within (on_stripe p p s (widened p k s t))
full_within p k s t b w = (w.0, ((omega (arith, w.1.0.0, w.1.0.1), omega arith), (w.1.1.0, (full_long p k s t w.1.0.1 (is_stripe_lem p k s t w.1.1.1.0 b), tt))))

-- The check says of a stripe what it says of the full one; that the second call is accepted need
-- not be supposed,
pub absent_checked : (p k s : ℕ) (t : List ℕ) (r q : Checked) → CheckSays p k s t r → r.answer.refusal ≡ 0 → CheckSays p p s (widened p k s t) q → r.clean ≡ q.clean
absent_checked p k s t r q d z e =
    let w = (demand1.check_stripe p k s t r d).accepted z in
    let y = (demand1.check_stripe p p s (widened p k s t) q e).accepts (full_within p k s t d.bytes w) in
    checks p k s t r d z ∙ widened_clean p k s t w.1.0.1 (is_stripe_lem p k s t w.1.1.1.0 d.bytes) ∙ sym (checks p p s (widened p k s t) q e y)

-- nor here: encoding that one leaves the encoded stripe with zeros on the absent disks.
pub absent_encoded : (p k s : ℕ) (t t' u' : List ℕ) (r q : Answer) → EncodeSays p k s t t' r → r.refusal ≡ 0 → EncodeSays p p s (widened p k s t) u' q → u' ≡ widened p k s t'
absent_encoded p k s t t' u' r q d z e =
    let w = (demand1.encode_stripe p k s t t' r d).accepted z in
    let y = (demand1.encode_stripe p p s (widened p k s t) u' q e).accepts (full_within p k s t d.bytes w) in
    encoded_is p p s (widened p k s t) u' q e y ∙ widened_encoded p k s t w.1.0.1 (is_stripe_lem p k s t w.1.1.1.0 d.bytes) ∙ ap (widened p k s) (sym (encoded_is p k s t t' r d z))

-- what an accepted rebuild shows of its arguments
taken : (p k s f : ℕ) (t o o' : List ℕ) (r : Answer) → OneSays p k s f t o o' r → r.refusal ≡ 0 → Sized p k s t × (f ≤ k + 1)
taken p k s f t o o' r d z = let q = refusal_none p k s f (length o) t (sym d.answer.refusal ∙ z) in (q.0, q.1)

stripe_is : (p k s f : ℕ) (t o o' : List ℕ) (r : Answer) → OneSays p k s f t o o' r → r.refusal ≡ 0 → is_stripe p k s t ≡ true
stripe_is p k s f t o o' r d z = is_stripe_lem p k s t (taken p k s f t o o' r d z).0.long d.bytes

column_is : (p k s f : ℕ) (t o o' : List ℕ) (r : Answer) → OneSays p k s f t o o' r → r.refusal ≡ 0 → o' ≡ rebuilt p k s f t
column_is p k s f t o o' r d z = d.column ∙ ap (λ (n : ℕ). pick (eqb n 0) (rebuilt p k s f t) o) (sym d.answer.refusal ∙ z)

-- Demand 2 for one lost disk: survivors of a clean stripe u bring the disk back as it was in u,
-- whatever stood in the lost column.
pub brings_back :
    (p k s f : ℕ) (t u o o' : List ℕ) (r : Answer) → is_stripe p k s u ≡ true → clean p k s u ≡ true → OneSays p k s f t o o' r → r.refusal ≡ 0
    → ((x : ℕ) → x < p * (k + 2) → (disk_at p x ≡ f → ⊥) → cell_at s t x ≡ cell_at s u x) → o' ≡ column_of p s f u
brings_back p k s f t u o o' r v c d z h =
    let a = taken p k s f t o o' r d z in
    column_is p k s f t o o' r d z ∙ one_back p k s f (plan_accepted p k f a.0.array.width a.0.array.disks a.1) (omega (arith, a.1)) t u (stripe_is p k s f t o o' r d z) v c h

-- "What the stripe holds for the lost disk is never used": two accepted calls on stripes alike off
-- that disk write one column, on dirty stripes too.
pub never_used :
    (p k s f : ℕ) (t u o o' n n' : List ℕ) (r q : Answer) → OneSays p k s f t o o' r → r.refusal ≡ 0 → OneSays p k s f u n n' q → q.refusal ≡ 0
    → ((x : ℕ) → x < p * (k + 2) → (disk_at p x ≡ f → ⊥) → cell_at s t x ≡ cell_at s u x) → o' ≡ n'
never_used p k s f t u o o' n n' r q d z m y h =
    let a = taken p k s f t o o' r d z in
    column_is p k s f t o o' r d z
    ∙ lost_unused p k s f (plan_accepted p k f a.0.array.width a.0.array.disks a.1) (omega (arith, a.1)) t u (stripe_is p k s f t o o' r d z) (stripe_is p k s f u n n' q m y) h
    ∙ sym (column_is p k s f u n n' q m y)

-- The last sentence of demand 3: stripes alike in every cell marked 1 in the list that `read_list`
-- writes give one rebuilt disk, dirty stripes too.
pub one_column :
    (p k s f : ℕ) (t u o o' n n' l l' : List ℕ) (r q a : Answer)
    → OneSays p k s f t o o' r → r.refusal ≡ 0 → OneSays p k s f u n n' q → q.refusal ≡ 0 → ListSays p k f l l' a → length l ≡ p * (k + 2)
    → ((x : ℕ) → get_or l' x 0 ≡ 1 → cell_at s t x ≡ cell_at s u x) → o' ≡ n'
one_column p k s f t u o o' n n' l l' r q a d z m y w e h =
    let i = taken p k s f t o o' r d z in
    let g : a.refusal ≡ 0 = (demand1.read_list_lem p k f l l' a w).accepts (i.0.array.width, ((i.0.array.two, i.0.array.disks), (i.1, (e, tt)))) in
    let list : l' ≡ read_list p k f = w.list ∙ ap (λ (x : ℕ). pick (eqb x 0) (read_list p k f) l) (sym w.answer.refusal ∙ g) in
    column_is p k s f t o o' r d z
    ∙ only_read p k s f (plan_accepted p k f i.0.array.width i.0.array.disks i.1) (omega (arith, i.1)) t u (stripe_is p k s f t o o' r d z) (stripe_is p k s f u n n' q m y) (λ x v. h x (ap (λ (y : List ℕ). get_or y x 0) list ∙ v))
    ∙ sym (column_is p k s f u n n' q m y)

-- Ask 1 for the rebuild: that of the full stripe, with zeros on the absent disks, writes the same
-- column, dirty stripes too.
pub absent_rebuilt : (p k s f : ℕ) (t o o' n n' : List ℕ) (r q : Answer) → OneSays p k s f t o o' r → r.refusal ≡ 0 → OneSays p p s (full_disk p k f) (widened p k s t) n n' q → length n ≡ p * s → n' ≡ o'
absent_rebuilt p k s f t o o' n n' r q d z e l =
    let w = (demand1.rebuild_one_lem p k s f t o o' r d).accepted z in
    let most = w.1.0.1 in
    let ok = stripe_is p k s f t o o' r d z in
    let y = (demand1.rebuild_one_lem p p s (full_disk p k f) (widened p k s t) n n' q e).accepts (w.0, ((omega (arith, w.1.0.0, most), omega arith), (w.1.1.0, (full_range p k most f w.1.1.1.0, (full_long p k s t most ok, (l, tt)))))) in
    column_is p p s (full_disk p k f) (widened p k s t) n n' q e y ∙ widened_rebuilt p k s f w.0 most w.1.1.1.0 t ok ∙ sym (column_is p k s f t o o' r d z)
