-- A long list gathered list by list, the sources apart from the destination: after i of them the
-- destination holds their XOR, and the next list has it in front.
use mathlib.Core.Path.{◌≡◌, sym, ap, ap₂, subst, ◌∙◌}
use mathlib.Core.Bool.{true}
use mathlib.Core.Logic.{◌⊎◌, inl, inr, ⊎_elim}
use mathlib.Core.List.{List, ◌∷◌, ◌++◌}
use Prim.Native.Nat.{ℕ, zero, suc, ◌+◌, ◌-◌, ◌≤◌, ◌<◌}
use native.Mathlib.Omega.{arith}
use lib.ListN.{length, get_or, set, take, drop, length-take, length-drop, length-set, take-append-drop}
use lib.Seq.{take-add, get_or-take, get_or-drop, drop-set-lt, drop-cons, drop-drop, get_or-set_same, take_all}
use Rattle.mathematics.specs.Xor.{xor_l, all_bytes}
use Rattle.mathematics.proofs.ByteLaws.{bytes_take, bytes_drop}
use Rattle.mathematics.proofs.XorLaws.{xor_l_assoc, xor_l_zeros, xor_l_long}
use Rattle.xor.specs.Parts.{part, with_part, xor_offsets}
use Rattle.xor.proofs.StoreLaws.{part_long}
use Rattle.xor.proofs.BlockLaws.{Within, offsets_long, offsets_append, some_within}
use Rattle.xor_in_place.specs.Beside.{Beside, Apart}
use Rattle.xor_in_place.proofs.WithinLaws.{part_kept, part_with, with_with, offsets_same}

module _ (d n : ℕ) (t at : List ℕ) (a : Apart d n (length t) at) where
  -- numbers of the list are sources that lie apart
  within : (i m : ℕ) → Within n (length t) (take m (drop i at))
  within i m = some_within n (length t) i m at a.sources.inside

  far : (i m j : ℕ) → j < length (take m (drop i at)) → (get_or (take m (drop i at)) j 0 + n ≤ d) ⊎ (d + n ≤ get_or (take m (drop i at)) j 0)
  far i m j h =
      let k : j < m = omega (arith, length-take m (drop i at)) in
      let b : i + j < length at = omega (arith, length-take m (drop i at), length-drop i at) in
      let e : get_or at (i + j) 0 ≡ get_or (take m (drop i at)) j 0 = sym (get_or-take m (drop i at) j 0 k ∙ get_or-drop i at j 0) in
      subst (λ (x : ℕ). (x + n ≤ d) ⊎ (d + n ≤ x)) e (a.apart (i + j) b)

  -- the first list
  pub first_beside : (i : ℕ) → Beside d n (length t) (take i at)
  first_beside i =
      record {
        sources = record { few = omega (arith, length-take i at, a.sources.few); inside = within 0 i };
        fits = a.fits;
        apart = λ j h. ⊎_elim (λ w. inl w) (λ w. inr (omega arith)) (far 0 i j h);
      }

  -- what stands at d has the sources from index `from` up to i added
  module _ (from : ℕ) where
    abbrev pub sum : ℕ → List ℕ
    sum i = xor_l (part n d t) (xor_offsets n t (take (i - from) (drop from at)))

    sum_long : (i : ℕ) → length (sum i) ≡ n
    sum_long i = let l = (part_long t d n a.fits).size in xor_l_long n (part n d t) (xor_offsets n t (take (i - from) (drop from at))) l (offsets_long n t (take (i - from) (drop from at)) (within from (i - from)))

    pub none_added : all_bytes t ≡ true → t ≡ with_part n d (xor_l (part n d t) (xor_offsets n t (take (from - from) (drop from at)))) t
    unfolding xor_offsets
    none_added f =
        let z : from - from ≡ 0 = omega arith in
        sym
        (ap (λ (c : ℕ). with_part n d (xor_l (part n d t) (xor_offsets n t (take c (drop from at)))) t) z
        ∙ ap (λ (l : List ℕ). with_part n d l t) (xor_l_zeros n (part n d t) (part_long t d n a.fits).size (bytes_take n (drop d t) (bytes_drop d t f)))
        ∙ ap (λ (l : List ℕ). take d t ++ (part n d t ++ l)) (sym (drop-drop n d t))
        ∙ ap (λ (l : List ℕ). take d t ++ l) (take-append-drop n (drop d t))
        ∙ take-append-drop d t)

    -- the next list, up to source e
    module _ (i b e : ℕ) (now u : List ℕ) (some : i ≡ suc b) (low : from ≤ i) (more : i < e) (most : e ≤ length at) (long : length now ≡ length at) (rest : drop i now ≡ drop i at)
        (stands : u ≡ with_part n d (xor_l (part n d t) (xor_offsets n t (take (i - from) (drop from at)))) t) (same : length u ≡ length t) where
      abbrev ys : List ℕ
      ys = take (e - i) (drop i at)

      list_is : take (e - b) (drop b (set now b d)) ≡ d ∷ ys
      list_is =
          let m : e - b ≡ suc (e - i) = omega arith in
          let h : b < length (set now b d) = omega (arith, length-set now b d) in
          let k : b < length now = omega arith in
          ap₂ (λ (c : ℕ) (l : List ℕ). take c l) m
          (drop-cons (set now b d) b 0 h
          ∙ ap₂ ◌∷◌ (get_or-set_same now b d 0 k) (drop-set-lt (suc b) now b d (omega arith) ∙ ap (λ (c : ℕ). drop c now) (sym some) ∙ rest))

      pub next_beside : Beside d n (length u) (take (e - b) (drop b (set now b d)))
      next_beside =
          subst (Beside d n (length u)) (sym list_is)
          (record {
            sources = record { few = omega (arith, length-take (e - i) (drop i at), length-drop i at, a.sources.few); inside = inside };
            fits = omega (arith, a.fits);
            apart = apart;
          })
        where
          inside : Within n (length u) (d ∷ ys)
          inside zero h = omega (arith, a.fits)
          inside (suc j) h = omega (arith, within i (e - i) j (omega arith))

          apart : (j : ℕ) → j < length (d ∷ ys) → (get_or (d ∷ ys) j 0 + n ≤ d) ⊎ (d ≤ get_or (d ∷ ys) j 0)
          apart zero h = inr (omega arith)
          apart (suc j) h = ⊎_elim (λ w. inl w) (λ w. inr (omega arith)) (far i (e - i) j (omega arith))

      pub next_rest : drop e (set now b d) ≡ drop e at
      next_rest =
          let z : i + (e - i) ≡ e = omega arith in
          drop-set-lt e now b d (omega arith) ∙ ap (λ (c : ℕ). drop c now) (sym z) ∙ sym (drop-drop (e - i) i now) ∙ ap (drop (e - i)) rest ∙ drop-drop (e - i) i at ∙ ap (λ (c : ℕ). drop c at) z

      pub next_added : (v : List ℕ) → v ≡ with_part n d (xor_offsets n u (take (e - b) (drop b (set now b d)))) u → v ≡ with_part n d (xor_l (part n d t) (xor_offsets n t (take (e - from) (drop from at)))) t
      unfolding xor_offsets
      next_added v q =
          let w = sum i in
          let xs = take (i - from) (drop from at) in
          let z : i - from + (e - i) ≡ e - from = omega arith in
          let y : from + (i - from) ≡ i = omega arith in
          q
          ∙ ap₂ (λ (l x : List ℕ). with_part n d (xor_offsets n x l) x) list_is stands
          ∙ ap (λ (l : List ℕ). with_part n d l (with_part n d w t))
          (ap₂ xor_l (part_with n d w t (sum_long i) a.fits) (offsets_same n (with_part n d w t) t ys (λ j h. part_kept n d w t (sum_long i) a.fits n (get_or ys j 0) (far i (e - i) j h)))
          ∙ xor_l_assoc (part n d t) (xor_offsets n t xs) (xor_offsets n t ys)
          ∙ ap (xor_l (part n d t))
          (sym (offsets_append n t xs ys (within i (e - i)))
          ∙ ap (λ (l : List ℕ). xor_offsets n t (xs ++ take (e - i) l)) (sym (drop-drop (i - from) from at ∙ ap (λ (c : ℕ). drop c at) y))
          ∙ ap (xor_offsets n t) (sym (take-add (i - from) (e - i) (drop from at)) ∙ ap (λ (c : ℕ). take c (drop from at)) z)))
          ∙ with_with n d w t (sum_long i) a.fits (sum e)

    pub all_added : (i : ℕ) (u : List ℕ) → length at ≤ i → u ≡ with_part n d (xor_l (part n d t) (xor_offsets n t (take (i - from) (drop from at)))) t → u ≡ with_part n d (xor_l (part n d t) (xor_offsets n t (drop from at))) t
    all_added i u h e = e ∙ ap (λ (l : List ℕ). with_part n d (xor_l (part n d t) (xor_offsets n t l)) t) (take_all (i - from) (drop from at) (omega (arith, length-drop from at)))

  -- the first list gathered, and the others added
  pub lists_done : (i : ℕ) (u v : List ℕ) → u ≡ with_part n d (xor_offsets n t (take i at)) t → v ≡ with_part n d (xor_l (part n d u) (xor_offsets n u (drop i at))) u → v ≡ with_part n d (xor_offsets n t at) t
  lists_done i u v e q =
      let w = xor_offsets n t (take i at) in
      let l : length w ≡ n = offsets_long n t (take i at) (within 0 i) in
      let rest : take (length at) (drop i at) ≡ drop i at = take_all (length at) (drop i at) (omega (arith, length-drop i at)) in
      q
      ∙ ap (λ (x : List ℕ). with_part n d (xor_l (part n d x) (xor_offsets n x (drop i at))) x) e
      ∙ ap (λ (y : List ℕ). with_part n d y (with_part n d w t))
      (ap₂ xor_l (part_with n d w t l a.fits) (ap (xor_offsets n (with_part n d w t)) (sym rest) ∙ offsets_same n (with_part n d w t) t (take (length at) (drop i at)) (λ j h. part_kept n d w t l a.fits n (get_or (take (length at) (drop i at)) j 0) (far i (length at) j h)) ∙ ap (xor_offsets n t) rest)
      ∙ sym (offsets_append n t (take i at) (drop i at) (subst (Within n (length t)) rest (within i (length at))))
      ∙ ap (xor_offsets n t) (take-append-drop i at))
      ∙ with_with n d w t l a.fits (xor_offsets n t at)

-- an array as long, of which the first list stands
pub still_apart : {d n long : ℕ} {at : List ℕ} (k : ℕ) → k ≡ long → Apart d n long at → Apart d n k at
still_apart k e a = record { sources = record { few = a.sources.few; inside = λ i h. omega (arith, a.sources.inside i h) }; fits = omega (arith, a.fits); apart = a.apart }
