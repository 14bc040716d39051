-- The XOR of parts and of a list of bytes x, block by block: it is zero up to the end of a block
-- exactly if it is zero up to the block and in it.
use mathlib.Core.Path.{◌≡◌, refl, sym, ap, ap₂, ◌∙◌}
use mathlib.Core.Bool.{Bool, true, ◌&&◌}
use mathlib.Core.List.{List}
use Prim.Native.Nat.{ℕ, ◌+◌, ◌-◌, ◌≤◌}
use native.Mathlib.Omega.{arith}
use lib.ListN.{length, take, drop, replicate}
use lib.Seq.{take_all}
use Rattle.mathematics.specs.Lists.{same}
use Rattle.mathematics.specs.Xor.{xor_l}
use Rattle.mathematics.proofs.XorLaws.{xor_l_comm, xor_l_long, take_xor_l, drop_xor_l}
use Rattle.xor.specs.Parts.{part, xor_offsets}
use Rattle.xor.proofs.BlockLaws.{Within, offsets_long, part_block, both_lists, tail_is}
use Rattle.xor.proofs.ZeroLaws.{none_to, none_add, zero_from, zero_all, zero_turn}

-- the XOR of the parts of n bytes and of x
abbrev pub sum_with : ℕ → List ℕ → List ℕ → List ℕ → List ℕ
sum_with n t os x = xor_l (xor_offsets n t os) x

module _ (n : ℕ) (t os x : List ℕ) (long : length x ≡ n) (inside : Within n (length t) os) where
  sum_long : length (sum_with n t os x) ≡ n
  sum_long = xor_l_long n (xor_offsets n t os) x (offsets_long n t os inside) long

  sum_whole : same (sum_with n t os x) (replicate n 0) ≡ none_to n (sum_with n t os x)
  sum_whole = ap (λ (l : List ℕ). same l (replicate n 0)) (sym (take_all n (sum_with n t os x) (omega (arith, sum_long))))

  -- the first b bytes, and the block of m bytes after them
  pub sum_next : (b m : ℕ) → b + m ≤ n → none_to (b + m) (sum_with n t os x) ≡ (none_to b (sum_with n t os x) && same (sum_with m (drop b t) os (part m b x)) (replicate m 0))
  sum_next b m h =
      none_add b m (b + m) (sum_with n t os x) refl (omega (arith, sum_long))
      ∙ ap (λ (l : List ℕ). none_to b (sum_with n t os x) && same l (replicate m 0))
      (ap (take m) (drop_xor_l b (xor_offsets n t os) x) ∙ take_xor_l m (drop b (xor_offsets n t os)) (drop b x) ∙ ap (λ (l : List ℕ). xor_l l (part m b x)) (part_block m b n t os h))

  -- the first b bytes, and all after them
  pub sum_split : (b : ℕ) → b ≤ n → same (sum_with n t os x) (replicate n 0) ≡ (none_to b (sum_with n t os x) && same (part (n - b) b (sum_with n t os x)) (replicate (n - b) 0))
  sum_split b h = let e : n ≡ b + (n - b) = omega arith in sum_whole ∙ none_add b (n - b) n (sum_with n t os x) e (omega (arith, sum_long))

  -- a turn, whose block's answer is r
  pub sum_turn : (b m k : ℕ) (a r : Bool) (u : List ℕ) → b + m ≤ n → k ≡ m → u ≡ drop b t → none_to b (sum_with n t os x) ≡ true → a ≡ same (sum_with m u os (take k (drop b x))) (replicate m 0) → a ≡ r
      → none_to (b + m) (sum_with n t os x) ≡ r
  sum_turn b m k a r u h e d w q g =
      sum_next b m h ∙ ap₂ (λ (f i : Bool). f && i) w (sym (sym g ∙ q ∙ ap₂ (λ (v : List ℕ) (j : ℕ). same (sum_with m v os (take j (drop b x))) (replicate m 0)) d e))

  -- all bytes
  pub sum_all : (b : ℕ) → b ≡ n → same (sum_with n t os x) (replicate n 0) ≡ none_to b (sum_with n t os x)
  sum_all b e = sum_whole ∙ ap (λ (k : ℕ). none_to k (sum_with n t os x)) (sym e)

-- the first i parts gathered in x, and the others with it
pub two_lists : (s i : ℕ) (t at x : List ℕ) → Within s (length t) at → x ≡ xor_offsets s t (take i at) → sum_with s t (drop i at) x ≡ xor_offsets s t at
two_lists s i t at x f e = let last = xor_offsets s t (drop i at) in xor_l_comm last x ∙ both_lists s i t at x (xor_l x last) f e refl

-- the answer W, in two turns: that of the first b bytes, which is r, of the next up to byte j, which is q, and of what follows
module _ (b j n : ℕ) (t os : List ℕ) (low : b ≤ j) (high : j ≤ n) (long : n ≤ length t) (inside : Within n (length t) os) where
  pub first_turn : (x r : Bool) → x ≡ same (xor_offsets b t os) (replicate b 0) → x ≡ r → same (xor_offsets n t os) (replicate n 0) ≡ (r && zero_from b n t os)
  first_turn x r e g = zero_turn (same (xor_offsets n t os) (replicate n 0)) x r 0 b b n t os t (omega arith) (omega arith) long inside refl (zero_all n t os) e g

  pub both_turns : (x y r q : Bool) → x ≡ same (xor_offsets b t os) (replicate b 0) → x ≡ r → y ≡ same (xor_offsets (j - b) (take (length t - b) (drop b t)) os) (replicate (j - b) 0) → y ≡ q
      → same (xor_offsets n t os) (replicate n 0) ≡ (r && (q && zero_from j n t os))
  both_turns x y r q e g f h = first_turn x r e g ∙ ap (λ (z : Bool). r && z) (zero_turn (zero_from b n t os) y q b (j - b) j n t os (take (length t - b) (drop b t)) (omega arith) high long inside (tail_is b t) refl f h)
