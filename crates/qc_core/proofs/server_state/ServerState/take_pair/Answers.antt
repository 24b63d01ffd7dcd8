use Rattle.std.proofs.Common.{◌≡◌, max, List, [], ◌∷◌, sym, ap, subst, ◌∙◌, arith, refl}
use Rattle.qc_types.specs.Blocks.{raised}
use Rattle.qc_model.specs.Licence.{unit_words, words_of_bytes}
use Rattle.qc_tiles.specs.declared.blocks.Tile.{Tile}
use Rattle.qc_chain.proofs.Calls.{words_are}
use Rattle.qc_sound.proofs.Handed.{times_append}
use Rattle.qc_core.specs.EntryRemoval.{table_blocks}
use Rattle.qc_core.specs.Allocation.{next_of, MayTakeOne, PrunesSome, HasNone, TakesKeeping, Stops}
use Rattle.qc_core.proofs.Drawing.{may_take_first, may_take_text, pair_so, stops, given_out, err_same}
use Rattle.qc_core.proofs.server_state.ServerState.take_pair.Goals as goal

pub returns-in_err-first-clause-err : goal.returns-in_err-first-clause-err
returns-in_err-first-clause-err c = λ u.
    let s = c.args.self.now in
    let hand = c.args.hand.now in
    let may = may_take_first c.args.bytes hand s u in
    let p = (c.in_err-first.ensures {u = tt}).err may in
    let next = next_of [] c.args.bytes hand s u in
    let after = c.allocate.new.hand in
    err_same c.from_residual.result c.in_err-first.field-0.0 _ c.from_residual.ensures.1
    (stops [] (unit_words s.options) (raised (words_of_bytes c.args.bytes) ∷ []) next u.words [] [] hand after hand.tables refl s s c.allocate.new.self [] c.in_err-first.field-0.0 refl p.0 p.1 may.least (λ k low. low) [] (table_blocks after.fresh) (λ b. let sum = times_append b (table_blocks after.fresh) [] in omega (arith, sum)))

pub allocate-taken-requires : goal.allocate-taken-requires
allocate-taken-requires c =
    let u = c.requires in
    let s = c.args.self.now in
    let hand = c.args.hand.now in
    let t = (c.in_ok-first.ensures {u = tt}).ok (may_take_first c.args.bytes hand s u) in
    let size : c.max.result ≡ raised (words_of_bytes c.args.bytes) = c.max.ensures ∙ ap (λ n. max n 64) (c.div_ceil.ensures ∙ words_are c.args.bytes) in
    subst (λ n. MayTakeOne n c.allocate.new.hand c.allocate.new.self) (sym size) (may_take_text c.args.bytes hand s u c.in_ok-first.first c.allocate.new.hand c.allocate.new.self t)

pub give_back-requires : goal.give_back-requires
give_back-requires c =
    let u = c.requires in
    let s = c.args.self.now in
    let hand = c.args.hand.now in
    let first = c.in_ok-first.first in
    let mid = c.allocate.new.self in
    let one = c.allocate.new.hand in
    let after = c.allocate-taken.new.hand in
    let last = c.allocate-taken.new.self in
    let t = (c.in_ok-first.ensures {u = tt}).ok (may_take_first c.args.bytes hand s u) in
    let size : c.max.result ≡ raised (words_of_bytes c.args.bytes) = c.max.ensures ∙ ap (λ n. max n 64) (c.div_ceil.ensures ∙ words_are c.args.bytes) in
    let may = may_take_text c.args.bytes hand s u first one mid t in
    let p = subst (λ n. (v : MayTakeOne n one mid) → PrunesSome n v.next v.words v.missing v.others one after mid last × HasNone n last c.in-Err.none) size (c.in-Err.ensures {u = tt}).err may in
    (given_out (unit_words s.options ∷ []) (raised (words_of_bytes c.args.bytes)) [] (next_of [] c.args.bytes hand s u) u.words [] (first ∷ []) one after hand.tables t.tables s mid last (first ∷ []) c.in-Err.none (mid, t.takes, refl) p.0 p.1 may.least t.room (first ∷ []) (table_blocks after.fresh) (λ b. let sum = times_append b (table_blocks after.fresh) (first ∷ []) in omega (arith, sum))).each.0

pub returns-in-Ok-clause-ok : goal.returns-in-Ok-clause-ok
returns-in-Ok-clause-ok c = λ u.
    let s = c.args.self.now in
    let hand = c.args.hand.now in
    let first = c.in_ok-first.first in
    let mid = c.allocate.new.self in
    let one = c.allocate.new.hand in
    let after = c.allocate-taken.new.hand in
    let new = c.allocate-taken.new.self in
    let t = (c.in_ok-first.ensures {u = tt}).ok (may_take_first c.args.bytes hand s u) in
    let size : c.max.result ≡ raised (words_of_bytes c.args.bytes) = c.max.ensures ∙ ap (λ n. max n 64) (c.div_ceil.ensures ∙ words_are c.args.bytes) in
    let q = subst (λ n. (v : MayTakeOne n one mid) → TakesKeeping n v.next v.words v.missing v.others one after mid c.in-Ok.text new) size (c.in-Ok.ensures {u = tt}).ok (may_take_text c.args.bytes hand s u first one mid t) in
    pair_so c.args.bytes hand s u first one mid t c.in-Ok.text after new q

pub returns-in-Err-clause-err : goal.returns-in-Err-clause-err
returns-in-Err-clause-err c = λ u.
    let s = c.args.self.now in
    let hand = c.args.hand.now in
    let first = c.in_ok-first.first in
    let mid = c.allocate.new.self in
    let one = c.allocate.new.hand in
    let after = c.allocate-taken.new.hand in
    let last = c.allocate-taken.new.self in
    let t = (c.in_ok-first.ensures {u = tt}).ok (may_take_first c.args.bytes hand s u) in
    let size : c.max.result ≡ raised (words_of_bytes c.args.bytes) = c.max.ensures ∙ ap (λ n. max n 64) (c.div_ceil.ensures ∙ words_are c.args.bytes) in
    let may = may_take_text c.args.bytes hand s u first one mid t in
    let p = subst (λ n. (v : MayTakeOne n one mid) → PrunesSome n v.next v.words v.missing v.others one after mid last × HasNone n last c.in-Err.none) size (c.in-Err.ensures {u = tt}).err may in
    let next = next_of [] c.args.bytes hand s u in
    let r = stops (unit_words s.options ∷ []) (raised (words_of_bytes c.args.bytes)) [] next u.words [] (first ∷ []) one after hand.tables t.tables s mid last (first ∷ []) c.in-Err.none (mid, t.takes, refl) p.0 p.1 may.least t.room (first ∷ []) (table_blocks after.fresh) (λ b. let sum = times_append b (table_blocks after.fresh) (first ∷ []) in omega (arith, sum)) in
    subst (λ (ts : List Tile). Stops hand.tables next u.words (unit_words s.options ∷ raised (words_of_bytes c.args.bytes) ∷ []) (table_blocks after.fresh) s (record last { tiles = ts }) c.in-Err.none) (sym c.give_back.ensures.tiles) r
