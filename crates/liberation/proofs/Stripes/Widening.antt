-- A stripe of k data disks in the full array: `widened` puts zeros in the place of the absent data
-- disks. A set of the full array has the part-filled array's cells and, on absent disks, zeros,
-- which are nothing to a XOR; so one is clean exactly if the other is, and encoding one is encoding
-- the other.
use mathlib.Core.Path.{◌≡◌, refl, sym, ap, ap₂, ◌∙◌}
use mathlib.Core.Bool.{Bool, true, false, ◌&&◌}
use mathlib.Core.Logic.{⊎_elim}
use mathlib.Core.List.{List, [], ◌∷◌, ◌++◌, append_assoc}
use Prim.Native.Nat.{ℕ, zero, suc, ◌+◌, ◌-◌, ◌*◌, ◌%◌, ◌≤◌, ◌<◌}
use native.Mathlib.Nat.{mod-lt}
use native.Mathlib.Omega.{arith}
use lib.Dec.{ltb, leb}
use lib.ListN.{length, take, drop, replicate, length-append, length-drop, length-replicate}
use lib.Seq.{length-take-le, take_at, drop_at, drop-drop, take-append-le, drop-append-le}
use borrow.Author.Tests.{ltb-true, ltb-false}
use Rattle.mathematics.specs.Choice.{pick}
use Rattle.mathematics.specs.Lists.{is_in}
use Rattle.mathematics.specs.Xor.{xor_l, all_bytes}
use Rattle.mathematics.proofs.Flags.{same_flag, or_r}
use Rattle.mathematics.proofs.OrderLaws.{lt_or_le}
use Rattle.mathematics.proofs.ListLaws.{is_in_append, take_replicate, part_front}
use Rattle.mathematics.proofs.LengthLaws.{drop_replicate}
use Rattle.mathematics.proofs.ByteLaws.{bytes_append, bytes_take, bytes_drop}
use Rattle.mathematics.proofs.XorLaws.{zero_xor_l, zeros_bytes}
use Rattle.mathematics.proofs.Walks.{Walk, walk_last}
use Rattle.liberation.specs.Sets.{place, row_at, disk_at, row_from, row_set, diagonal_from, ordinary, extra_row, extra_disk, extra_of, has_extra, diagonal_set, set_of}
use Rattle.liberation.specs.Claims.{full_disk}
use Rattle.liberation.proofs.SetLaws.{place_of, row_cells, diagonal_cells, place_below, set_below}
use Rattle.liberation.proofs.PlaceLaws.{some_row, disk_below}
use Rattle.liberation.proofs.PartLaws.{full_data, full_parity}
use Rattle.liberation.specs.Stripes.Stripes.{cell_at, xor_over, is_stripe, clean, encoded}
use Rattle.liberation.specs.Stripes.Widened.{widened}
use Rattle.liberation.proofs.Stripes.StripeCellLaws.{cell_fits}
use Rattle.liberation.proofs.Stripes.OverLaws.{Long, over_long, over_bytes}
use Rattle.liberation.proofs.Stripes.Solving.{cells_long, stripe_long_lem, stripe_bytes, stripe_of, clean_at, clean_of}
use Rattle.liberation.proofs.Stripes.Encoding.{encoded_stripe, encoded_data, encoded_clean, encoded_only}

-- z zeros put into a list after its first a bytes
module _ (s a z : ℕ) (t : List ℕ) (fits : a ≤ length t) where
  spread : List ℕ
  spread = take a t ++ (replicate z 0 ++ drop a t)

  front_long : length (take a t) ≡ a
  front_long = length-take-le a t fits

  -- the cells before them
  spread_before : (x : ℕ) → x * s + s ≤ a → cell_at s spread x ≡ cell_at s t x
  unfolding spread
  spread_before x h =
      sym (part_front (x * s) s a spread h)
      ∙ ap (λ (l : List ℕ). take s (drop (x * s) l)) (take_at (take a t) (replicate z 0 ++ drop a t) a front_long)
      ∙ part_front (x * s) s a t h

  -- past the front
  spread_past : (m x : ℕ) → a + m ≡ x * s → cell_at s spread x ≡ take s (drop m (replicate z 0 ++ drop a t))
  unfolding spread
  spread_past m x e =
      sym (ap (take s) (drop-drop m a spread ∙ ap (λ (n : ℕ). drop n spread) e))
      ∙ ap (λ (l : List ℕ). take s (drop m l)) (drop_at (take a t) (replicate z 0 ++ drop a t) a front_long)

  -- the cells within them
  spread_within : (j x : ℕ) → a + j * s ≡ x * s → j * s + s ≤ z → cell_at s spread x ≡ replicate s 0
  spread_within j x e h =
      spread_past (j * s) x e
      ∙ ap (take s) (drop-append-le (j * s) (replicate z 0) (drop a t) (simp length-replicate (omega arith)))
      ∙ take-append-le s (drop (j * s) (replicate z 0)) (drop a t) (simp (length-drop, length-replicate) (omega arith))
      ∙ ap (take s) (drop_replicate (j * s) z 0)
      ∙ take_replicate s (z - j * s) 0 (omega arith)

  -- the cells after them
  spread_after : (j x y : ℕ) → a + (z + j * s) ≡ x * s → a + j * s ≡ y * s → cell_at s spread x ≡ cell_at s t y
  spread_after j x y e q =
      spread_past (z + j * s) x e
      ∙ ap (take s)
      (sym (drop-drop (j * s) z (replicate z 0 ++ drop a t))
      ∙ ap (drop (j * s)) (drop_at (replicate z 0) (drop a t) z (length-replicate z 0))
      ∙ drop-drop (j * s) a t
      ∙ ap (λ (n : ℕ). drop n t) q)

module _ (p k s : ℕ) (t : List ℕ) (most : k ≤ p) (stripe : is_stripe p k s t ≡ true) where
  -- the bytes of the data disks present and of the absent ones
  all_data : k * (p * s) + (p - k) * (p * s) ≡ p * (p * s)
  all_data = let e : k + (p - k) ≡ p = omega arith in omega (arith, ap (λ (n : ℕ). n * (p * s)) e)

  fits : k * (p * s) ≤ length t
  fits = omega (arith, stripe_long_lem p k s t stripe)

  -- "Data disks k to p - 1 are absent: their cells .. count as zero."
  pub widened_absent : (r c : ℕ) → r < p → k ≤ c → c < p → cell_at s (widened p k s t) (place p r c) ≡ replicate s 0
  unfolding widened spread
  widened_absent r c h l m =
      let e : k + (c - k) ≡ c = omega arith in
      spread_within s (k * (p * s)) ((p - k) * (p * s)) t fits (place p r (c - k)) (place p r c)
      (omega (arith, ap (λ (n : ℕ). n * (p * s)) e)) (omega (arith, cell_fits (p * (p - k)) s (place p r (c - k)) (place_below p (p - k) r (c - k) h (omega arith))))

  -- "P becomes disk k and Q disk k + 1": the cells of the disks present stand on the full array's
  -- disks, P and Q on P and Q
  pub widened_cell : (r c : ℕ) → r < p → c < k + 2 → cell_at s (widened p k s t) (place p r (full_disk p k c)) ≡ cell_at s t (place p r c)
  unfolding widened spread
  widened_cell r c h l = ⊎_elim on_data on_parity (lt_or_le c k)
    where
      on_data : c < k → cell_at s (widened p k s t) (place p r (full_disk p k c)) ≡ cell_at s t (place p r c)
      on_data m =
          ap (λ (d : ℕ). cell_at s (widened p k s t) (place p r d)) (full_data p k c m)
          ∙ spread_before s (k * (p * s)) ((p - k) * (p * s)) t fits (place p r c) (omega (arith, cell_fits (p * k) s (place p r c) (place_below p k r c h m)))

      on_parity : k ≤ c → cell_at s (widened p k s t) (place p r (full_disk p k c)) ≡ cell_at s t (place p r c)
      on_parity m =
          let e : k + (c - k) ≡ c = omega arith in
          ap (λ (d : ℕ). cell_at s (widened p k s t) (place p r d)) (full_parity p k c m)
          ∙ spread_after s (k * (p * s)) ((p - k) * (p * s)) t fits (place p r (c - k)) (place p r (c - k + p)) (place p r c)
          (omega (arith, all_data)) (omega (arith, ap (λ (n : ℕ). n * (p * s)) e))

  -- "Stripes have (k + 2) × p × s bytes": with zeros for the absent disks it is a stripe of the
  -- full array
  pub widened_stripe : is_stripe p p s (widened p k s t) ≡ true
  unfolding widened
  widened_stripe = stripe_of p p s (widened p k s t) long bytes
    where
      long : length (widened p k s t) ≡ p * (p + 2) * s
      long = simp (length-append, length-drop, length-replicate) (omega (arith, length-take-le (k * (p * s)) t fits, all_data, stripe_long_lem p k s t stripe))

      bytes : all_bytes (widened p k s t) ≡ true
      bytes =
          let all = stripe_bytes p k s t stripe in
          bytes_append (take (k * (p * s)) t) (replicate ((p - k) * (p * s)) 0 ++ drop (k * (p * s)) t) (bytes_take (k * (p * s)) t all)
          (bytes_append (replicate ((p - k) * (p * s)) 0) (drop (k * (p * s)) t) (zeros_bytes ((p - k) * (p * s))) (bytes_drop (k * (p * s)) t all))

  -- the cells by their places
  abbrev full : ℕ → List ℕ
  full = cell_at s (widened p k s t)

  abbrev part : ℕ → List ℕ
  part = cell_at s t

  data_cell : (r c : ℕ) → r < p → c < k → full (place p r c) ≡ part (place p r c)
  data_cell r c h l = ap (λ (d : ℕ). full (place p r d)) (sym (full_data p k c l)) ∙ widened_cell r c h (omega arith)

  parity_cell_lem : (r c d : ℕ) → r < p → k ≤ c → c < k + 2 → d ≡ c - k + p → full (place p r d) ≡ part (place p r c)
  parity_cell_lem r c d h l m e = ap (λ (x : ℕ). full (place p r x)) (e ∙ sym (full_parity p k c l)) ∙ widened_cell r c h m

  -- a set with one cell (row c, c) on each data disk c and the cells us beside, in the part-filled
  -- array vs
  module _ (kind i : ℕ) (within : i < p) (row : ℕ → ℕ) (below : (c : ℕ) → row c < p)
      (cells : ℕ → ℕ → List ℕ) (w : Walk (λ c. place p (row c) c) cells)
      (us vs : List ℕ) (in-full : set_of p p kind i ≡ cells p 0 ++ us) (in_part : set_of p k kind i ≡ cells k 0 ++ vs) (rest : xor_over s full us ≡ xor_over s part vs) where
    us_long : Long s full us
    us_long x h =
        cells_long (p * (p + 2)) s (set_of p p kind i) (widened p k s t) (stripe_long_lem p p s (widened p k s t) widened_stripe) (set_below p p kind i within)
        x (ap (is_in x) in-full ∙ is_in_append x (cells p 0) us ∙ or_r (is_in x (cells p 0)) (is_in x us) h)

    -- absent disks add zeros
    absent_out : (n c : ℕ) → k ≤ c → c + n ≤ p → xor_over s full (cells n c ++ us) ≡ xor_over s full us
    unfolding xor_over
    absent_out zero c l m = ap (λ (xs : List ℕ). xor_over s full (xs ++ us)) (w.none c)
    absent_out (suc n) c l m =
        ap (λ (xs : List ℕ). xor_over s full (xs ++ us)) (w.next n c)
        ∙ ap₂ xor_l (widened_absent (row c) c (below c) l (omega arith)) (absent_out n (suc c) (omega arith) (omega arith))
        ∙ zero_xor_l s (xor_over s full us) (over_long s full us us_long) (over_bytes s full us)

    -- disks from c on: n present, j in the full array
    present_kept : (n j c : ℕ) → c + n ≡ k → c + j ≡ p → xor_over s full (cells j c ++ us) ≡ xor_over s part (cells n c ++ vs)
    unfolding xor_over
    present_kept zero j c e q = absent_out j c (omega arith) (omega arith) ∙ rest ∙ sym (ap (λ (xs : List ℕ). xor_over s part (xs ++ vs)) (w.none c))
    present_kept (suc n) zero c e q = absurd (omega arith)
    present_kept (suc n) (suc j) c e q =
        ap (λ (xs : List ℕ). xor_over s full (xs ++ us)) (w.next j c)
        ∙ ap₂ xor_l (data_cell (row c) c (below c) (omega arith)) (present_kept n j (suc c) (omega arith) (omega arith))
        ∙ sym (ap (λ (xs : List ℕ). xor_over s part (xs ++ vs)) (w.next n c))

    set_kept : xor_over s full (set_of p p kind i) ≡ xor_over s part (set_of p k kind i)
    set_kept = ap (xor_over s full) in-full ∙ present_kept k p 0 (omega arith) (omega arith) ∙ sym (ap (xor_over s part) in_part)

  -- row sets end with their P cell, diagonal sets with their Q cell and the extra cell, if its disk
  -- is there
  pub row_kept : (i : ℕ) → i < p → xor_over s full (set_of p p 0 i) ≡ xor_over s part (set_of p k 0 i)
  unfolding xor_over row_set
  row_kept i l =
      set_kept 0 i l (λ c. i) (λ c. l) (λ n c. row_from n p i c) (row_cells p i) (place p i p ∷ []) (place p i k ∷ []) (ends p) (ends k)
      (ap (λ (x : List ℕ). xor_l x (replicate s 0)) (parity_cell_lem i k p l (omega arith) (omega arith) (omega arith)))
    where
      ends : (n : ℕ) → row_from (suc n) p i 0 ≡ row_from n p i 0 ++ (place p i n ∷ [])
      ends n = let e : 0 + n ≡ n = omega arith in walk_last (row_cells p i) n 0 ∙ ap (λ (d : ℕ). row_from n p i 0 ++ (place p i d ∷ [])) e

  -- an extra cell on an absent disk is zero
  extra_kept : (i : ℕ) → i < p → xor_over s full (pick (has_extra p p i) (extra_of p i ∷ []) []) ≡ xor_over s part (pick (has_extra p k i) (extra_of p i ∷ []) [])
  unfolding xor_over
  extra_kept i l = go (leb 1 i) (ltb (extra_disk p i) p) (ltb (extra_disk p i) k) refl refl
    where
      go : (a b c : Bool) → ltb (extra_disk p i) p ≡ b → ltb (extra_disk p i) k ≡ c → xor_over s full (pick (a && b) (extra_of p i ∷ []) []) ≡ xor_over s part (pick (a && c) (extra_of p i ∷ []) [])
      go false b c e q = refl
      go true true true e q = ap (λ (x : List ℕ). xor_l x (replicate s 0)) (data_cell (extra_row p i) (extra_disk p i) (omega arith) (ltb-true (extra_disk p i) k q))
      go true true false e q =
          ap (λ (x : List ℕ). xor_l x (replicate s 0)) (widened_absent (extra_row p i) (extra_disk p i) (omega arith) (ltb-false (extra_disk p i) k q) (ltb-true (extra_disk p i) p e))
          ∙ zero_xor_l s (replicate s 0) (length-replicate s 0) (zeros_bytes s)
      go true false true e q = absurd (omega (arith, ltb-false (extra_disk p i) p e, ltb-true (extra_disk p i) k q))
      go true false false e q = refl

  pub diagonal_kept : (i : ℕ) → i < p → xor_over s full (set_of p p 1 i) ≡ xor_over s part (set_of p k 1 i)
  unfolding xor_over diagonal_set ordinary
  diagonal_kept i l =
      set_kept 1 i l (λ c. (i + c) % p) (λ c. mod-lt (i + c) (omega arith)) (λ n c. diagonal_from n p i c) (diagonal_cells p i)
      (place p i (suc p) ∷ pick (has_extra p p i) (extra_of p i ∷ []) []) (place p i (suc k) ∷ pick (has_extra p k i) (extra_of p i ∷ []) []) (ends p) (ends k)
      (ap₂ xor_l (parity_cell_lem i (suc k) (suc p) l (omega arith) (omega arith) (omega arith)) (extra_kept i l))
    where
      ends : (n : ℕ) → diagonal_set p n i ≡ diagonal_from n p i 0 ++ (place p i (suc n) ∷ pick (has_extra p n i) (extra_of p i ∷ []) [])
      ends n = append_assoc (diagonal_from n p i 0) (place p i (suc n) ∷ []) (pick (has_extra p n i) (extra_of p i ∷ []) [])

  -- so one is clean exactly if the other is
  pub widened_clean : clean p k s t ≡ clean p p s (widened p k s t)
  widened_clean =
      same_flag (clean p k s t) (clean p p s (widened p k s t))
      (λ h. clean_of p p s (widened p k s t) (λ i l. row_kept i l ∙ clean_at p k s t h 0 i l) (λ i l. diagonal_kept i l ∙ clean_at p k s t h 1 i l))
      (λ h. clean_of p k s t (λ i l. sym (row_kept i l) ∙ clean_at p p s (widened p k s t) h 0 i l) (λ i l. sym (diagonal_kept i l) ∙ clean_at p p s (widened p k s t) h 1 i l))

-- encoding a part-filled stripe is encoding the full one: with zeros for the absent disks the
-- encoded stripe is clean and has those data, and no other stripe is so
pub widened_encoded : (p k s : ℕ) (t : List ℕ) → k ≤ p → is_stripe p k s t ≡ true → encoded p p s (widened p k s t) ≡ widened p k s (encoded p k s t)
widened_encoded p k s t most stripe =
    sym (encoded_only p p s (widened p k s t) (widened_stripe p k s t most stripe) (widened p k s done) (widened_stripe p k s done most written)
    (sym (widened_clean p k s done most written) ∙ encoded_clean p k s t stripe) same_data)
  where
    done : List ℕ
    done = encoded p k s t

    written : is_stripe p k s done ≡ true
    written = encoded_stripe p k s t stripe

    same_data : (x : ℕ) → x < p * p → cell_at s (widened p k s done) x ≡ cell_at s (widened p k s t) x
    same_data x h = ap (cell_at s (widened p k s done)) (sym (place_of p x)) ∙ ⊎_elim present absent (lt_or_le (disk_at p x) k) ∙ ap (cell_at s (widened p k s t)) (place_of p x)
      where
        row_in : row_at p x < p
        row_in = mod-lt x (some_row p p x h)

        present : disk_at p x < k → cell_at s (widened p k s done) (place p (row_at p x) (disk_at p x)) ≡ cell_at s (widened p k s t) (place p (row_at p x) (disk_at p x))
        present l =
            data_cell p k s done most written (row_at p x) (disk_at p x) row_in l
            ∙ encoded_data p k s t stripe (place p (row_at p x) (disk_at p x)) (place_below p k (row_at p x) (disk_at p x) row_in l)
            ∙ sym (data_cell p k s t most stripe (row_at p x) (disk_at p x) row_in l)

        absent : k ≤ disk_at p x → cell_at s (widened p k s done) (place p (row_at p x) (disk_at p x)) ≡ cell_at s (widened p k s t) (place p (row_at p x) (disk_at p x))
        absent l =
            widened_absent p k s done most written (row_at p x) (disk_at p x) row_in l (disk_below p p x h)
            ∙ sym (widened_absent p k s t most stripe (row_at p x) (disk_at p x) row_in l (disk_below p p x h))
