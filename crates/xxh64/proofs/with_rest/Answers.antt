-- `with_rest`: words of one size are chunks of what is left, and each fold goes over its chunks.
use mathlib.Core.Path.{◌≡◌}
use mathlib.Core.List.{List}
use Prim.Native.Nat.{ℕ}
use borrow.Author.Rules.{rules}
use borrow.Author.Tests.{tests}
use Rattle.std.proofs.lemmas.Iterator.{YieldsList-from_slice}
use Rattle.std.proofs.lemmas.Iterator.Consumers.{fold_from_yields_List}
use Rattle.std.specs.List.{fold}
use Rattle.xxh64.specs.Checksum.{number, eight, four, one}
use Rattle.xxh64.proofs.ByteLaws.{rest_is}
use Rattle.xxh64.proofs.with_rest.Goals as goal

pub returns : goal.returns
returns c =
    let by_eights : c.fold-by_eights.result ≡ fold (λ (s : ℕ) (x : List ℕ). eight s (number x)) c.args.begun c.as_chunks-2.result.0.now = fold_from_yields_List _ (λ (s : ℕ) (x : List ℕ). eight s (number x)) _ _ c.fold-by_eights.ensures.ran (YieldsList-from_slice _ c.iter.ensures.rest) (λ a x b q k. search (rules, tests)) in
    let by_fours : c.fold-by_fours.result ≡ fold (λ (s : ℕ) (x : List ℕ). four s (number x)) c.fold-by_eights.result c.as_chunks-3.result.0.now = fold_from_yields_List _ (λ (s : ℕ) (x : List ℕ). four s (number x)) _ _ c.fold-by_fours.ensures.ran (YieldsList-from_slice _ c.iter-2.ensures.rest) (λ a x b q k. search (rules, tests)) in
    let by_ones : c.fold.result ≡ fold one c.fold-by_fours.result c.as_chunks-3.result.1.now = fold_from_yields_List _ one _ _ c.fold.ensures.ran (YieldsList-from_slice _ c.iter-3.ensures.rest) (λ a x b q k. search (rules, tests)) in
    rest_is c.args.bytes.now c.args.begun c.as_chunks.result.1.now c.as_chunks-2.result.1.now c.as_chunks-3.result.1.now c.as_chunks-2.result.0.now c.as_chunks-3.result.0.now c.fold-by_eights.result c.fold-by_fours.result c.fold.result
    c.as_chunks.ensures.back c.as_chunks.ensures.back_len c.as_chunks-2.ensures.back c.as_chunks-2.ensures.back_len c.as_chunks-3.ensures.back c.as_chunks-2.ensures.front c.as_chunks-3.ensures.front by_eights by_fours by_ones
