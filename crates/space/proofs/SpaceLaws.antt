-- No product or sum of the space call wraps, by the bounds that its tests leave: the stripes hold
-- at most 2^48 bytes and 4,096 stripes more. Accepted and refused answers keep the promise, and
-- what an accepted answer means follows from the laws of the files.
use mathlib.Core.Path.{◌≡◌, sym, ap, ◌∙◌}
use mathlib.Core.List.{List, [], ◌∷◌}
use Prim.Native.Nat.{ℕ, ◌+◌, ◌*◌, ◌^◌, ◌≤◌, ◌<◌}
use native.Mathlib.Nat.{mul-le-mul, mul-pos, mul-le-mul_right, mul-le-mul_left}
use native.Mathlib.Omega.{arith}
use lib.Dec.{ltb, leb}
use lib.ListN.{length}
use borrow.Author.Tests.{ltb-false, leb-true, le-leb}
use Rattle.mathematics.specs.Choice.{first_of}
use Rattle.mathematics.specs.Sums.{total}
use Rattle.liberation.specs.Sets.{shape_refusal}
use Rattle.mathematics.proofs.ChoiceLaws.{first_none, when_none, pick_refused, pick_done, and_refused, and_done}
use Rattle.liberation.proofs.RefusalLaws.{shape_of}
use Rattle.refusals.specs.declared.answer.Answer.{Answer}
use Rattle.refusals.specs.Answers.{Answers}
use Rattle.refusals.proofs.AnswerLaws.{answers_as, answers_none}
use Rattle.space.specs.Refusals.{files_refusal, package_refusal, space_refusal}
use Rattle.space.specs.declared.Space.{Space}
use Rattle.space.specs.Says.{up_by, stripe_holds, up_each, stripes_of, need_of, fits_in, SpaceSays, SpaceRefused, FewFiles, SpaceMeans}
use Rattle.space.proofs.FilesLaws.{each_is, each_once, files_least, files_most, files_small}

-- the numbers of a call with k data disks, whose k and p are at most 31
pub record Bounds (p k s : ℕ) (ls : List ℕ) : Type 0 where
  pub gives : p * s ≤ 126976
  pub few : FewFiles (stripe_holds p k s) ls
  pub need : need_of p k s ls < 2 ^ 64

bounds : (p k s : ℕ) (ls : List ℕ) → 0 < p → p ≤ 31 → 0 < k → k ≤ 31 → 0 < s → s ≤ 4096 → length ls ≤ 4096 → total ls ≤ 2 ^ 48 → Bounds p k s ls
bounds p k s ls p0 p1 k0 k1 s0 s1 n1 l1 =
    let g : p * s ≤ 31 * 4096 = mul-le-mul p1 s1 in
    let t : k * (p * s) ≤ 31 * 126976 = mul-le-mul k1 g in
    let f : FewFiles (stripe_holds p k s) ls = record { pos = mul-pos k0 (mul-pos p0 s0); holds = omega (arith, t); files = n1; bytes = l1 } in
    let m : stripes_of p k s ls * (1 * (p * s)) ≤ stripes_of p k s ls * (k * (p * s)) = mul-le-mul_left (stripes_of p k s ls) (mul-le-mul_right (p * s) k0) in
    record { gives = g; few = f; need = omega (arith, m, files_small (stripe_holds p k s) ls f) }

-- none of refusals 1, 13, 2, 14 and 11
refusal_of_lem : (p k s : ℕ) (ls : List ℕ) → space_refusal p k s ls ≡ 0 → (shape_refusal p k s ≡ 0) × ((length ls ≤ 4096) × (total ls ≤ 2 ^ 48))
refusal_of_lem p k s ls e =
    let a = first_none (shape_refusal p k s) (first_of (files_refusal ls) (package_refusal (total ls))) e in
    let b = first_none (files_refusal ls) (package_refusal (total ls)) a.1 in
    (a.0, (ltb-false 4096 (length ls) (when_none (ltb 4096 (length ls)) 13 b.0), ltb-false (2 ^ 48) (total ls) (when_none (ltb (2 ^ 48) (total ls)) 10 b.1)))

-- one file: document 01's package
pub one_file : (p k s l : ℕ) → (stripes_of p k s (l ∷ []) ≡ up_by l (stripe_holds p k s)) × (first_of (files_refusal (l ∷ [])) (package_refusal (total (l ∷ []))) ≡ package_refusal l)
unfolding total up_each
one_file p k s l = let e : l + 0 ≡ l = omega arith in (omega arith, ap package_refusal e)

-- so the numbers are small
pub small : (p k s : ℕ) (ls : List ℕ) → space_refusal p k s ls ≡ 0 → Bounds p k s ls
small p k s ls e =
    let c = refusal_of_lem p k s ls e in
    let q = shape_of p k s c.0 in
    let a = q.0 in
    bounds p k s ls a.some a.widest (omega (arith, a.two)) (omega (arith, a.widest, a.disks)) q.1 q.2 c.1.0 c.1.1

-- a refusal by a number that is not 0
pub refusal_says : (p k s : ℕ) (ls : List ℕ) (free n : ℕ) (r : Space) → n ≡ space_refusal p k s ls → (n ≡ 0 → ⊥) → SpaceRefused n r → SpaceSays p k s ls free r
refusal_says p k s ls free n r e z d =
    record {
      answer = answers_as n (space_refusal p k s ls) r.answer e d.answer;
      stripes = d.stripes ∙ pick_refused n (space_refusal p k s ls) (stripes_of p k s ls) 0 e z;
      bytes = d.bytes ∙ pick_refused n (space_refusal p k s ls) (need_of p k s ls) 0 e z;
      fits = d.fits ∙ and_refused n (space_refusal p k s ls) (fits_in p k s ls free) e z;
    }

-- an accepted call whose stripes are n
pub space_says : (p k s : ℕ) (ls : List ℕ) (free n : ℕ) (a : Answer) → space_refusal p k s ls ≡ 0 → Answers 0 a → n ≡ stripes_of p k s ls → SpaceSays p k s ls free (record { answer = a; stripes = n; bytes = n * (p * s); fits = leb (n * (p * s)) free })
space_says p k s ls free n a e h q =
    record {
      answer = answers_as 0 (space_refusal p k s ls) a (sym e) h;
      stripes = q ∙ pick_done (space_refusal p k s ls) (stripes_of p k s ls) 0 e;
      bytes = ap (λ (x : ℕ). x * (p * s)) q ∙ pick_done (space_refusal p k s ls) (need_of p k s ls) 0 e;
      fits = ap (λ (x : ℕ). leb (x * (p * s)) free) q ∙ and_done (space_refusal p k s ls) (fits_in p k s ls free) e;
    }

-- an accepted answer: each file's stripes hold it and one fewer does not, and the package fits
-- exactly when its need is at most the free bytes
pub space_means : (p k s : ℕ) (ls : List ℕ) (free : ℕ) (r : Space) → SpaceSays p k s ls free r → r.answer.refusal ≡ 0 → SpaceMeans p k s ls free r
space_means p k s ls free r h z =
    let e : space_refusal p k s ls ≡ 0 = answers_none (space_refusal p k s ls) r.answer h.answer z in
    let d : ℕ = stripe_holds p k s in
    let n : r.stripes ≡ stripes_of p k s ls = h.stripes ∙ sym (pick_done (space_refusal p k s ls) (stripes_of p k s ls) 0 e) in
    let b : r.bytes ≡ need_of p k s ls = h.bytes ∙ sym (pick_done (space_refusal p k s ls) (need_of p k s ls) 0 e) in
    let f : r.fits ≡ fits_in p k s ls free = h.fits ∙ sym (and_done (space_refusal p k s ls) (fits_in p k s ls free) e) in
    let c : 0 < stripe_holds p k s = (small p k s ls e).few.pos in
    record {
      own = up_each d ls;
      each = each_is d c ls;
      sum = λ ns m. n ∙ ap total (each_once d c ls ns m);
      least = rw n (files_least d c ls);
      most = rw n (files_most d c ls);
      bytes = b ∙ ap (λ (x : ℕ). x * (p * s)) (sym n);
      fits = (λ t. rw b (leb-true (need_of p k s ls) free (sym f ∙ t)), λ t. f ∙ le-leb (need_of p k s ls) free (rw b at t));
    }
