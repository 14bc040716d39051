-- Answers of accepted calls are the places of the definitions, so what holds of these holds of
-- them.
use mathlib.Core.Path.{◌≡◌, sym, ◌∙◌}
use Prim.Native.Nat.{ℕ}
use Rattle.mathematics.proofs.ChoiceLaws.{pick_done}
use Rattle.refusals.proofs.AnswerLaws.{answers_none}
use Rattle.image_layout.specs.Layouts.{block_bytes, cell_at, block_at}
use Rattle.image_layout.specs.Limits.{cell_refusal, block_refusal}
use Rattle.image_layout.specs.Says.{PlaceSays, CellSays, BlockSays}
use Rattle.image_layout.specs.Stands.{AnswersStand}
use Rattle.image_layout.specs.declared.Layout.{Layout}
use Rattle.image_layout.specs.declared.Place.{Place}
use Rattle.image_layout.proofs.LimitLaws.{cell_of, block_of}
use Rattle.image_layout.proofs.ImageLaws.{image_stands}

-- an answer that is not a refusal
record Done (m a n : ℕ) (r : Place) : Type 0 where
  pub none : m ≡ 0
  pub at : r.at ≡ a
  pub bytes : r.bytes ≡ n

done : (m a n : ℕ) (r : Place) → PlaceSays m a n r → r.answer.refusal ≡ 0 → Done m a n r
done m a n r h z =
    let e = answers_none m r.answer h.answer z in
    record { none = e; at = h.at ∙ sym (pick_done m a 0 e); bytes = h.bytes ∙ sym (pick_done m n 0 e) }

module _ (l : Layout) where
  cell_done : (i n : ℕ) (r : Place) → CellSays l i n r → r.answer.refusal ≡ 0 → Done (cell_refusal l i n) (cell_at l i n) l.cell_size r
  cell_done i n r h z = done (cell_refusal l i n) (cell_at l i n) l.cell_size r h z

  block_done : (v : ℕ) (r : Place) → BlockSays l v r → r.answer.refusal ≡ 0 → Done (block_refusal l v) (block_at l v) (block_bytes l) r
  block_done v r h z = done (block_refusal l v) (block_at l v) (block_bytes l) r h z

  pub answers_stand : AnswersStand l
  answers_stand =
      record {
        cells = λ i m j n a b h k y z d. let p = cell_done i m a h y in let q = cell_done j n b k z in let s = cell_of l i m p.none in rw (p.at, p.bytes, q.at, q.bytes) ((image_stands l s.0).cells i m j n s.1 (cell_of l j n q.none).1 d);
        cell_block = λ i n v a b h k y z. let p = cell_done i n a h y in let q = block_done v b k z in let s = cell_of l i n p.none in rw (p.at, p.bytes, q.at, q.bytes) ((image_stands l s.0).cell_block i n v s.1 (block_of l v q.none).1);
        blocks = λ v w a b h k y z d. let p = block_done v a h y in let q = block_done w b k z in let s = block_of l v p.none in rw (p.at, p.bytes, q.at, q.bytes) ((image_stands l s.0).blocks v w s.1 (block_of l w q.none).1 d);
        cell_between = λ i n a h y. let p = cell_done i n a h y in let s = cell_of l i n p.none in rw (p.at, p.bytes) ((image_stands l s.0).cell_between i n s.1);
        block_between = λ v a h y. let p = block_done v a h y in let s = block_of l v p.none in rw (p.at, p.bytes) ((image_stands l s.0).block_between v s.1);
      }
