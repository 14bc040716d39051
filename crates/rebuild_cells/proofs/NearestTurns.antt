-- The mend of the cells one by one: before each turn every cell that is left has a word that gives
-- it, and all others are as they are to be.
use mathlib.Core.Path.{◌≡◌, refl, sym, ap, subst, ◌∙◌}
use mathlib.Core.Bool.{true, false}
use mathlib.Core.List.{List}
use Prim.Native.Nat.{ℕ, ◌^◌, ◌<◌}
use lib.Bits.{bit_xor}
use native.Mathlib.Omega.{arith}
use lib.ListN.{length, get_or, take}
use lib.Seq.{length-take-le, get_or-take}
use Rattle.mathematics.specs.BitRows.Parity.{bit}
use Rattle.liberation.specs.Limits.{InArray}
use Rattle.liberation.specs.Stripes.Stripes.{is_stripe, solved}
use Rattle.rebuild_cells.specs.Theory.Mending.{odd_cells, mended_cells}
use Rattle.rebuild_cells.specs.Theory.Nearing.{Reducible, Near, Gives, Given}
use Rattle.rebuild_cells.specs.Renewed.{Renewed}
use Rattle.rebuild_cells.proofs.Theory.NearLaws.{left_to, left_falls, own_gives, renewed_gives, near_step, rows_alone, mended_target, near_start, near_end}

pub record Turning (p k s : ℕ) (cs ws t₀ ns t : List ℕ) (left : ℕ) : Type 0 where
  pub near_long : length ns ≡ length cs
  pub long : length t ≡ length t₀
  pub given : Given p k cs ws left ns
  pub near : Near p k s cs (mended_cells p k s cs t₀) left t

module _ (p k s : ℕ) (array : InArray p k) (cs ws t₀ : List ℕ) (r : Reducible p k cs ws) (ht : is_stripe p k s t₀ ≡ true) where
  pub turn_start : (ns : List ℕ) → ns ≡ take (length cs) ws → Turning p k s cs ws t₀ ns t₀ 18446744073709551615
  turn_start ns e =
      record {
        near_long = ap length e ∙ length-take-le (length cs) ws (omega (arith, r.long, r.room));
        long = refl;
        given = λ b h l. subst (Gives p k cs ws 18446744073709551615 b) (sym (ap (λ (x : List ℕ). get_or x b 0) e ∙ get_or-take (length cs) ws b 0 h)) (own_gives p k array.some cs ws (rows_alone p k s array.some cs ws t₀ r ht) 18446744073709551615 b h l);
        near = near_start p k s array.some cs ws t₀ r ht;
      }

  module _ (ns t : List ℕ) (left b w : ℕ) (g : Turning p k s cs ws t₀ ns t left) (hb : b < length cs) (on : bit left b ≡ true) (is : w ≡ 2 ^ b) where
    pub turn_falls : left_to (length cs) (bit_xor left w) < left_to (length cs) left
    turn_falls = subst (λ (v : ℕ). left_to (length cs) (bit_xor left v) < left_to (length cs) left) (sym is) (left_falls (length cs) left b hb on)

    pub turn_next : (ns' t' : List ℕ) → t' ≡ solved s (get_or cs b 0) (odd_cells p k (get_or ns b 0)) t → length t' ≡ length t → Renewed (length ns) b ws ns ns' → length ns' ≡ length ns → Turning p k s cs ws t₀ ns' t' (bit_xor left w)
    turn_next ns' t' e l new m =
        record {
          near_long = m ∙ g.near_long;
          long = l ∙ g.long;
          given = subst (λ (v : ℕ). Given p k cs ws (bit_xor left v) ns') (sym is) (renewed_gives p k array.some cs ws (rows_alone p k s array.some cs ws t₀ r ht) left b ns ns' hb on g.given (subst (λ (n : ℕ). Renewed n b ws ns ns') g.near_long new));
          near =
              subst (λ (v : ℕ). Near p k s cs (mended_cells p k s cs t₀) (bit_xor left v) t') (sym is)
              (subst (Near p k s cs (mended_cells p k s cs t₀) (bit_xor left (2 ^ b))) (sym e)
              (near_step p k array.some cs ws (rows_alone p k s array.some cs ws t₀ r ht) s (mended_cells p k s cs t₀) t left b (get_or ns b 0) hb (mended_target p k s array.some cs ws t₀ r ht) g.near (g.given b hb on)));
        }

  pub turn_end : (ns t : List ℕ) (left : ℕ) → Turning p k s cs ws t₀ ns t left → ((c : ℕ) → c < length ns → bit left c ≡ false) → t ≡ mended_cells p k s cs t₀
  turn_end ns t left g h = near_end p k s array.some cs ws t₀ r ht left t g.near (λ c l. h c (omega (arith, g.near_long)))
