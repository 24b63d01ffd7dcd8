use Rattle.std.proofs.Common.{refl, ◌≡◌, ◌<◌, ◌+◌, ◌*◌, ◌-◌, length, drop, sym, ap, ◌∙◌, arith}
use Rattle.std.specs.Prelude.{◌&&◌}
use Rattle.qc_model.specs.Licence.{words_of_bytes}
use Rattle.qc_turn.specs.Seats.{words}
use Rattle.qc_chain.proofs.Calls.{words_are}
use Rattle.qc_core.specs.KeySpelling.{is_text, read}
use Rattle.qc_core.proofs.Spelling.{text_step, still_same, loaded, within_on}
use Rattle.qc_core.proofs.keys.is_spelled.Goals as goal

pub returns-then-not-is_piece-clause-text : goal.returns-then-not-is_piece-clause-text
returns-then-not-is_piece-clause-text c =
    let h = c.args.held.now in
    let key = c.args.key.now in
    let i = c.loop-index.index in
    let first = c.args.block.first in
    let inv = c.loop-index.invariant in
    let count : c.div_ceil-count.result ≡ words_of_bytes (length key) = c.div_ceil-count.ensures ∙ words_are (length key) in
    let inside : i < c.div_ceil-count.result = c.loop-index-test.true in
    let w = loaded h c.loop-index.held c.args.block (length key) c.args.block.first i c.load-word.result inv.same c.requires.read refl (omega (arith, inside, count)) c.load-word.ensures.word in
    let step = text_step (words h) first c.div_ceil-count.result i key c.load-word.result c.min-to.result c.is_piece.result inside w c.min-to.ensures c.is_piece.ensures in
    let none = ap (λ b. b && is_text (read (words h) (first + (i + 1)) (c.div_ceil-count.result - (i + 1))) (drop (8 * (i + 1)) key)) c.if-not-is_piece.true in
    sym (ap (λ n. is_text (read (words h) first n) key) (sym count) ∙ (sym inv.rest ∙ (step ∙ none)))

pub loop-index-preserved : goal.loop-index-preserved
loop-index-preserved c =
    let h = c.args.held.now in
    let key = c.args.key.now in
    let i = c.loop-index.index in
    let first = c.args.block.first in
    let inv = c.loop-index.invariant in
    let count : c.div_ceil-count.result ≡ words_of_bytes (length key) = c.div_ceil-count.ensures ∙ words_are (length key) in
    let inside : i < c.div_ceil-count.result = c.loop-index-test.true in
    let w = loaded h c.loop-index.held c.args.block (length key) c.args.block.first i c.load-word.result inv.same c.requires.read refl (omega (arith, inside, count)) c.load-word.ensures.word in
    let step = text_step (words h) first c.div_ceil-count.result i key c.load-word.result c.min-to.result c.is_piece.result inside w c.min-to.ensures c.is_piece.ensures in
    let some = ap (λ b. b && is_text (read (words h) (first + (i + 1)) (c.div_ceil-count.result - (i + 1))) (drop (8 * (i + 1)) key)) c.if-not-is_piece.false in
    let l = c.load-word.ensures in
    record {
      same = still_same h c.loop-index.held c.load-word.new.self inv.same (record { held = l.held.0; same = l.held.1; words = l.same.0; value = l.same.1; ranges = l.same.2 });
      rest = sym (step ∙ some) ∙ inv.rest;
    }

pub load-word-requires : goal.load-word-requires
load-word-requires c =
    let key = c.args.key.now in
    let count : c.div_ceil-count.result ≡ words_of_bytes (length key) = c.div_ceil-count.ensures ∙ words_are (length key) in
    let inside : c.loop-index.index < c.div_ceil-count.result = c.loop-index-test.true in
    record { held = c.loop-index.invariant.same.held; inside = within_on c.args.held.now c.loop-index.held c.args.block (length key) c.args.block.first c.loop-index.index c.loop-index.invariant.same c.requires.read refl (omega (arith, inside, count)) }
