-- Where no surviving extra cell is in one used diagonal only, a cell of a surviving data disk is
-- read exactly if its row set or its ordinary diagonal is used.
use mathlib.Core.Path.{◌≡◌, refl, sym, ap, ap₂, ◌∙◌}
use mathlib.Core.Bool.{Bool, true, false, ◌&&◌, ◌||◌, not}
use mathlib.Core.List.{List}
use Prim.Native.Nat.{ℕ, ◌+◌, ◌-◌, ◌%◌, ◌≤◌, ◌<◌}
use native.Mathlib.Omega.{arith}
use lib.Dec.{eqb, leb}
use borrow.Author.Tests.{eqb-true, ne_eqb, leb-true, le-leb, not-true}
use Rattle.mathematics.proofs.AllLaws.{all_at}
use Rattle.mathematics.proofs.Flags.{and_l, and_r}
use Rattle.mathematics.proofs.SumLaws.{none_all}
use Rattle.liberation.specs.Sets.{place, extra_disk, extra_of}
use Rattle.liberation.specs.Plans.{Step}
use Rattle.liberation.specs.Claims.{uses, held_elsewhere, lone_extra, lone_extras}
use Rattle.liberation.proofs.SetLaws.{has_extra_lem, extra_diagonal}
use Rattle.liberation.proofs.ReadLaws.{holds}
use Rattle.liberation.proofs.UsedLaws.{named, holds_data, elsewhere}

module _ (p f : ℕ) (odd : p % 2 ≡ 1) (ss : List Step) (ok : named p ss ≡ true) (lone : lone_extras p p f ss ≡ 0) where
  -- the extra cell of a used diagonal, on a disk that survives, is in another used set
  extra_held : (z : ℕ) → 1 ≤ z → z < p → (extra_disk p z ≡ f → ⊥) → uses 1 z ss ≡ true → (uses 0 (p - 1 - z) ss || uses 1 (z - 1) ss) ≡ true
  unfolding lone_extra lone_extras
  extra_held z low high other u = sym (elsewhere p z ss odd low high ok) ∙ go (held_elsewhere p p (extra_of p z) z ss) (sym told ∙ none)
    where
      none : lone_extra p p f ss z ≡ false
      none = not-true (lone_extra p p f ss z) (all_at p (λ y. not (lone_extra p p f ss y)) (none_all p (lone_extra p p f ss) lone) z high)

      told : lone_extra p p f ss z ≡ not (held_elsewhere p p (extra_of p z) z ss)
      told =
          ap₂ (λ (a b : Bool). a && (b && (not (eqb (extra_disk p z) f) && not (held_elsewhere p p (extra_of p z) z ss)))) u (has_extra_lem p z odd high ∙ le-leb 1 z low)
          ∙ ap (λ (b : Bool). not b && not (held_elsewhere p p (extra_of p z) z ss)) (ne_eqb (extra_disk p z) f other)

      go : (b : Bool) → not b ≡ false → b ≡ true
      go true e = refl
      go false e = sym e

  pub cell_held : (c : ℕ) → c < p → (c ≡ f → ⊥) → (r : ℕ) → r < p → holds p p (place p r c) ss ≡ (uses 0 r ss || uses 1 ((r + p - c) % p) ss)
  cell_held c l other r m = holds_data p r c ss odd m l ok ∙ go (uses 0 r ss) (uses 1 z ss) (uses 1 y ss) (leb 1 y && eqb c (extra_disk p y)) refl refl refl refl
    where
      z : ℕ
      z = (r + p - c) % p

      y : ℕ
      y = p - 1 - r

      covered : uses 1 y ss ≡ true → (leb 1 y && eqb c (extra_disk p y)) ≡ true → (uses 0 r ss || uses 1 z ss) ≡ true
      covered u v =
          let low : 1 ≤ y = leb-true 1 y (and_l _ _ v) in
          let disk : c ≡ extra_disk p y = eqb-true c (extra_disk p y) (and_r (leb 1 y) (eqb c (extra_disk p y)) v) in
          let row : r ≡ p - 1 - y = omega arith in
          ap₂ (λ (i j : ℕ). uses 0 i ss || uses 1 j ss) row (ap₂ (λ (i j : ℕ). (i + p - j) % p) row disk ∙ extra_diagonal p y odd low (omega arith))
          ∙ extra_held y low (omega arith) (λ e. other (disk ∙ e)) u

      go : (a b x t : Bool) → uses 0 r ss ≡ a → uses 1 z ss ≡ b → uses 1 y ss ≡ x → (leb 1 y && eqb c (extra_disk p y)) ≡ t → (a || (b || (x && t))) ≡ (a || b)
      go true b x t ea eb ex et = refl
      go false true x t ea eb ex et = refl
      go false false false t ea eb ex et = refl
      go false false true false ea eb ex et = refl
      go false false true true ea eb ex et = sym (covered ex et) ∙ ap₂ ◌||◌ ea eb
