-- A list whose first b bytes from d on are new: every source has the bytes that are still to be
-- read as they were, and the next block makes b + m bytes new.
use mathlib.Core.Path.{◌≡◌, refl, sym, ap, ap₂, ◌∙◌}
use mathlib.Core.Logic.{◌⊎◌, inl, inr, ⊎_elim}
use mathlib.Core.List.{List, [], ◌∷◌, ◌++◌, append_assoc, append-nil}
use Prim.Native.Nat.{ℕ, suc, ◌+◌, ◌-◌, ◌≤◌, ◌<◌}
use native.Mathlib.Omega.{arith}
use lib.ListN.{length, get_or, take, drop, length-append, length-take, length-drop, take-append-drop, drop_of_length-le}
use lib.Seq.{take_at, drop_at, drop-drop, take-add, take_all, length-take-le}
use borrow.Rule.Slice.PartMut.{put_mid}
use Rattle.mathematics.specs.Xor.{xor_l}
use Rattle.mathematics.proofs.ListLaws.{part_front}
use Rattle.xor.specs.Parts.{part, with_part, xor_offsets}
use Rattle.xor.proofs.BlockLaws.{offsets_long, part_block, tail_is, tail_long}
use Rattle.xor_in_place.specs.Beside.{Beside}

module _ (b d : ℕ) (w t : List ℕ) (long : length w ≡ b) (fits : d + b ≤ length t) where
  front : length (take d t) ≡ d
  front = length-take-le d t (omega arith)

  head_long : length (take d t ++ w) ≡ d + b
  head_long = simp length-append (omega (arith, front))

  -- what stands before them, with them, and after them
  before : take d (with_part b d w t) ≡ take d t
  before = take_at (take d t) (w ++ drop (d + b) t) d front

  head : take (d + b) (with_part b d w t) ≡ take d t ++ w
  head = ap (take (d + b)) (sym (append_assoc (take d t) w (drop (d + b) t))) ∙ take_at (take d t ++ w) (drop (d + b) t) (d + b) head_long

  after : (k : ℕ) → drop (d + b + k) (with_part b d w t) ≡ drop (d + b + k) t
  after k =
      sym (drop-drop k (d + b) (with_part b d w t))
      ∙ ap (λ (l : List ℕ). drop k (drop (d + b) l)) (sym (append_assoc (take d t) w (drop (d + b) t)))
      ∙ ap (drop k) (drop_at (take d t ++ w) (drop (d + b) t) (d + b) head_long)
      ∙ drop-drop k (d + b) t

  -- a part that ends before them, or does not begin before their end, is as it was
  pub part_kept : (m a : ℕ) → (a + m ≤ d) ⊎ (d + b ≤ a) → part m a (with_part b d w t) ≡ part m a t
  part_kept m a p = ⊎_elim low high p
    where
      low : a + m ≤ d → part m a (with_part b d w t) ≡ part m a t
      low h = sym (part_front a m d (with_part b d w t) h) ∙ ap (part m a) before ∙ part_front a m d t h

      high : d + b ≤ a → part m a (with_part b d w t) ≡ part m a t
      high h =
          let e : d + b + (a - (d + b)) ≡ a = omega arith in
          ap (λ (k : ℕ). part m k (with_part b d w t)) (sym e) ∙ ap (take m) (after (a - (d + b))) ∙ ap (λ (k : ℕ). part m k t) e

  -- they are there, and may be replaced once more
  pub part_with : part b d (with_part b d w t) ≡ w
  part_with = ap (take b) (drop_at (take d t) (w ++ drop (d + b) t) d front) ∙ take_at w (drop (d + b) t) b long

  pub with_with : (y : List ℕ) → with_part b d y (with_part b d w t) ≡ with_part b d y t
  with_with y =
      let e : d + b ≡ d + b + 0 = omega arith in
      ap₂ (λ (u v : List ℕ). u ++ (y ++ v)) before (ap (λ (k : ℕ). drop k (with_part b d w t)) e ∙ after 0 ∙ ap (λ (k : ℕ). drop k t) (sym e))

  -- the m bytes after them are replaced, too
  with_next : (m : ℕ) (v : List ℕ) → with_part m (d + b) v (with_part b d w t) ≡ with_part (b + m) d (w ++ v) t
  with_next m v =
      let e : d + b + m ≡ d + (b + m) = omega arith in
      ap₂ (λ (x y : List ℕ). x ++ (v ++ y)) head (after m ∙ ap (λ (k : ℕ). drop k t) e)
      ∙ append_assoc (take d t) w (v ++ drop (d + (b + m)) t)
      ∙ ap (λ (l : List ℕ). take d t ++ l) (sym (append_assoc w v (drop (d + (b + m)) t)))

-- the XOR depends on the parts alone
pub offsets_same : (m : ℕ) (x t os : List ℕ) → ((j : ℕ) → j < length os → part m (get_or os j 0) x ≡ part m (get_or os j 0) t) → xor_offsets m x os ≡ xor_offsets m t os
unfolding xor_offsets
offsets_same m x t [] f = refl
offsets_same m x t (a ∷ os) f = ap₂ xor_l (f 0 (omega arith)) (offsets_same m x t os (λ j k. f (suc j) (omega arith)))

module _ (d n : ℕ) (t os : List ℕ) (beside : Beside d n (length t) os) where
  abbrev new : List ℕ
  new = xor_offsets n t os

  new_long : length new ≡ n
  new_long = offsets_long n t os beside.sources.inside

  -- none are new; all are
  pub within_long : (b : ℕ) (x : List ℕ) → b ≤ n → x ≡ with_part b d (take b (xor_offsets n t os)) t → length x ≡ length t
  within_long b x h e = ap length e ∙ simp (length-append, length-take, length-drop) (omega (arith, new_long, beside.fits))

  pub within_none : t ≡ with_part 0 d (take 0 (xor_offsets n t os)) t
  within_none = let e : d ≡ d + 0 = omega arith in sym (take-append-drop d t) ∙ ap (λ (k : ℕ). take d t ++ drop k t) e

  -- the first m are
  pub within_first : (m : ℕ) (y : List ℕ) → m ≤ n → y ≡ with_part m d (xor_offsets m t os) t → y ≡ with_part m d (take m (xor_offsets n t os)) t
  within_first m y h e = e ∙ ap (λ (w : List ℕ). with_part m d w t) (sym (part_block m 0 n t os (omega arith)))

  pub within_all : (b : ℕ) (x : List ℕ) → b ≡ n → x ≡ with_part b d (take b (xor_offsets n t os)) t → x ≡ with_part n d (xor_offsets n t os) t
  within_all b x q e = e ∙ ap (λ (k : ℕ). with_part k d (take k new) t) q ∙ ap (λ (l : List ℕ). with_part n d l t) (take_all n new (omega (arith, new_long)))

  -- the next m, which the block makes of the list as it is now
  within_next : (b m e : ℕ) (x y : List ℕ) → e ≡ b + m → b + m ≤ n → x ≡ with_part b d (take b (xor_offsets n t os)) t → y ≡ with_part m (d + b) (xor_offsets m (drop b x) os) x → y ≡ with_part e d (take e (xor_offsets n t os)) t
  within_next b m e x y s h g q =
      q
      ∙ ap (λ (l : List ℕ). with_part m (d + b) (xor_offsets m (drop b l) os) l) g
      ∙ ap (λ (v : List ℕ). with_part m (d + b) v now) (offsets_same m (drop b now) (drop b t) os kept ∙ sym (part_block m b n t os h))
      ∙ with_next b d (take b new) t long fits m (part m b new)
      ∙ ap (λ (l : List ℕ). with_part (b + m) d l t) (sym (take-add b m new))
      ∙ ap (λ (c : ℕ). with_part c d (take c new) t) (sym s)
    where
      now : List ℕ
      now = with_part b d (take b new) t

      long : length (take b new) ≡ b
      long = length-take-le b new (omega (arith, new_long))

      fits : d + b ≤ length t
      fits = omega arith

      kept : (j : ℕ) → j < length os → part m (get_or os j 0) (drop b now) ≡ part m (get_or os j 0) (drop b t)
      kept j k =
          let a = get_or os j 0 in
          ap (take m) (drop-drop a b now)
          ∙ part_kept b d (take b new) t long fits m (b + a) (⊎_elim (λ w. inl (omega arith)) (λ w. inr (omega arith)) (beside.apart j k))
          ∙ ap (take m) (sym (drop-drop a b t))

-- fewer bytes of every source
pub beside_less : {d n long : ℕ} {at : List ℕ} (m : ℕ) → m ≤ n → Beside d n long at → Beside d m long at
beside_less m h r =
    record {
      sources = record { few = r.sources.few; inside = λ i q. omega (arith, r.sources.inside i q) };
      fits = omega (arith, r.fits);
      apart = λ i q. ⊎_elim (λ w. inl (omega arith)) (λ w. inr w) (r.apart i q);
    }

-- the next m bytes, of the list from b on
pub beside_tail : (d n b m : ℕ) (t x at : List ℕ) → b + m ≤ n → length x ≡ length t → Beside d n (length t) at → Beside d m (length (take (length x - b) (drop b x))) at
beside_tail d n b m t x at h e r =
    let l : length (take (length x - b) (drop b x)) ≡ length x - b = tail_long b x in
    record {
      sources = record { few = r.sources.few; inside = λ i q. omega (arith, r.sources.inside i q) };
      fits = omega (arith, r.fits);
      apart = λ i q. ⊎_elim (λ w. inl (omega arith)) (λ w. inr w) (r.apart i q);
    }

-- a gather in the list from b on, said of the whole list
put_tail : (d m b : ℕ) (at x v : List ℕ) → b ≤ length x → v ≡ with_part m d (xor_offsets m (take (length x - b) (drop b x)) at) (take (length x - b) (drop b x)) →
    take b x ++ (v ++ drop (length x - b) (drop b x)) ≡ with_part m (d + b) (xor_offsets m (drop b x) at) x
put_tail d m b at x v h e =
    let w = xor_offsets m (drop b x) at in
    let q : b + (d + m) ≡ d + b + m = omega arith in
    let r : b + d ≡ d + b = omega arith in
    ap₂ (λ (y z : List ℕ). take b x ++ (y ++ z)) (e ∙ ap (λ (u : List ℕ). with_part m d (xor_offsets m u at) u) (tail_is b x)) (drop_of_length-le (drop b x) {i = length x - b} (simp length-drop (omega arith)))
    ∙ ap (λ (y : List ℕ). take b x ++ y) (append-nil (with_part m d w (drop b x)))
    ∙ sym (append_assoc (take b x) (take d (drop b x)) (w ++ drop (d + m) (drop b x)))
    ∙ ap₂ (λ (y z : List ℕ). y ++ (w ++ z)) (sym (take-add b d x) ∙ ap (λ (k : ℕ). take k x) r) (drop-drop (d + m) b x ∙ ap (λ (k : ℕ). drop k x) q)

-- the next m bytes, which a gather in the list from b on makes new
pub within_more : (d n : ℕ) (t os : List ℕ) → Beside d n (length t) os → (b m e : ℕ) (x v : List ℕ) → e ≡ b + m → b + m ≤ n → x ≡ with_part b d (take b (xor_offsets n t os)) t
    → v ≡ with_part m d (xor_offsets m (take (length x - b) (drop b x)) os) (take (length x - b) (drop b x)) → put_mid b (length x - b) x v ≡ with_part e d (take e (xor_offsets n t os)) t
within_more d n t os r b m e x v s h g q =
    let l : length x ≡ length t = within_long d n t os r b x (omega arith) g in
    within_next d n t os r b m e x (put_mid b (length x - b) x v) s h g (put_tail d m b os x v (omega (arith, r.fits)) q)
