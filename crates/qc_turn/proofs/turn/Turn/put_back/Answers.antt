use Rattle.std.proofs.Common.{rules, ◌≡◌, Some, Option, ◌∷◌, ap, sym, subst, refl, ◌∙◌, arith, ◌<◌, ◌+◌, ℕ, length, slice_index, List, []}
use Rattle.atomic_table.specs.Table.{Me, Allows, rest, step}
use mathlib.Core.Option.{none}
use Rattle.qc_turn.specs.declared.view.View.{View}
use Rattle.qc_turn.specs.Blocks.{places}
use Rattle.qc_turn.specs.Rules.{TurnRule}
use Rattle.qc_turn.specs.Steps.{releases_turn}
use Rattle.qc_turn.specs.Tasks.{listed_for, places_of, blocks_in, task_in, is_stream, released_task, released_blocks, HasBlocks}
use Rattle.qc_turn.specs.Views.{after_release, words_of}
use Rattle.qc_turn.specs.Words.{extra_words}
use Rattle.atomic_table.specs.Seated.{TableId}
use Rattle.qc_turn.proofs.RuleKept.{releases_held}
use Rattle.qc_turn.specs.declared.task.Task.{Task}
use Rattle.qc_tiles.specs.declared.blocks.Block.{Block}
use Rattle.qc_turn.proofs.Tasks.{end_is, hand_is, ends_as, within_end}
use Rattle.qc_turn.proofs.turn.Turn.put_back.Goals as goal

pub store-requires : goal.store-requires
store-requires g c =
    let v = c.args.seat.now.pass.me.0 in
    let x = c.args.value in
    let id = c.exchange-out.new.seat.id in
    let e : c.exchange-out.new.seat.me ≡ (v, (0, Some x) ∷ []) = c.exchange-out.ensures.3 ∙ ap (λ l. (v, (0, Some x) ∷ rest l)) c.requires.turn.1 in
    let live : 0 < v.number = omega (arith, c.args.seat.now.numbered.0, c.args.seat.now.numbered.1) in
    let slots = c.args.self.now.table.shared.table_id.slots in
    let size = c.args.self.now.table.shared.key.size in (
      search rules,
      search rules,
      subst (λ (m : Me (Option g.row.V.Denot) (View g.row.V.Denot g.row.V-Event.Denot)). Allows (TurnRule g.V.Kept size) slots id m 0 (λ _. 0) (λ _. releases_turn g.V.Kept (step slots 0 0 0 none) m 0)) (sym e)
          (releases_held g.V.Kept size slots id (v, (0, Some x) ∷ []) x live refl c.requires.turn.2 c.requires.sound c.requires.follows (ends_as v.number v.word_set c.args.task c.args.ranges.blocks (listed_for v.number (g.V.Kept.tasks x)) c.requires.task.0 c.requires.task.1) c.requires.content),
    )

pub returns : goal.returns
returns g c =
    let v = c.args.seat.now.pass.me.0 in
    let x = c.args.value in
    let e : c.exchange-out.new.seat.me ≡ (v, (0, Some x) ∷ []) = c.exchange-out.ensures.3 ∙ ap (λ l. (v, (0, Some x) ∷ rest l)) c.requires.turn.1 in
    let t : c.store.new.seat.me ≡ (after_release g.V.Kept v x (words_of v.holding), []) = c.store.ensures.2 x (ap (λ m. m.1) e) ∙ ap (λ (m : Me (Option g.row.V.Denot) (View g.row.V.Denot g.row.V-Event.Denot)). (after_release g.V.Kept m.0 x (words_of m.0.holding), [])) e in
    let listed = listed_for v.number (g.V.Kept.tasks x) in
    let same : released_task v.word_set (task_in listed) ≡ c.args.task = end_is v.number v.word_set c.args.task c.args.ranges.blocks listed c.requires.task.0 c.requires.task.1 in
    record { seated = record { table = c.store.ensures.0 ∙ (c.exchange-out.ensures.0 ∙ c.requires.turn.0); out = ap (λ m. m.1) t; free = ap (λ m. m.0.holding) t; ranges = subst (λ (p : Task × List Block). HasBlocks p.0 p.1 c.args.ranges.blocks) (λ i. (sym (ap (λ m. m.0.task) t ∙ same) i, sym (ap (λ m. m.0.blocks) t ∙ ap (λ u. released_blocks u (blocks_in listed)) same) i)) (hand_is v.number c.args.task c.args.ranges.blocks listed c.requires.task.0); was_sound = record { value = x; words = words_of v.holding; sound = c.requires.sound; journal = sym (ap (λ m. m.0.seen) t) } }; view = ap (λ m. m.0) t; ranges = refl }

pub invariant_of-seat : goal.invariant_of-seat
invariant_of-seat g c =
    let v = c.args.seat.now.pass.me.0 in
    let x = c.args.value in
    let old = c.args.seat.now in
    let e : c.exchange-out.new.seat.me ≡ (v, (0, Some x) ∷ []) = c.exchange-out.ensures.3 ∙ ap (λ l. (v, (0, Some x) ∷ rest l)) c.requires.turn.1 in
    let t : c.store.new.seat.me ≡ (after_release g.V.Kept v x (words_of v.holding), []) = c.store.ensures.2 x (ap (λ m. m.1) e) ∙ ap (λ (m : Me (Option g.row.V.Denot) (View g.row.V.Denot g.row.V-Event.Denot)). (after_release g.V.Kept m.0 x (words_of m.0.holding), [])) e in
    let place = c.store.ensures.0 ∙ c.exchange-out.ensures.0 in
    let turn = c.args.self.now in
    let width : length (words_of v.holding) ≡ v.size = omega (arith, c.requires.width, old.sized, ap (λ (z : TableId). z.words) c.requires.turn.0, turn.sized.0) in
    let listed = listed_for v.number (g.V.Kept.tasks x) in
    let same : released_task v.word_set (task_in listed) ≡ c.args.task = end_is v.number v.word_set c.args.task c.args.ranges.blocks listed c.requires.task.0 c.requires.task.1 in
    let law : (k : ℕ) → k < length (places (released_blocks (released_task v.word_set (task_in listed)) (blocks_in listed))) → slice_index (places (released_blocks (released_task v.word_set (task_in listed)) (blocks_in listed))) k < v.size =
    subst (λ (u : Task). (k : ℕ) → k < length (places (released_blocks u (blocks_in listed))) → slice_index (places (released_blocks u (blocks_in listed))) k < v.size) (sym same)
    (within_end v.number v.size c.args.task c.args.ranges.blocks listed c.requires.task.0
    (λ k h. subst (λ (n : ℕ). slice_index (places_of listed) k < n) width (g.V.Kept.within (words_of v.holding) x v.number k c.requires.sound h))) in
    record {
      numbered = (old.numbered.0 ∙ sym (ap (λ m. m.0.number) t), old.numbered.1);
      counted = old.counted ∙ sym (ap (λ m. length m.0.registry + 1) t);
      sized = ap (λ m. m.0.size + extra_words) t ∙ (old.sized ∙ sym (ap (λ (z : TableId). z.words) place));
      tasked = (sym (ap (λ m. m.0.task) t ∙ same), old.tasked.1 ∙ sym (ap (λ m. m.0.word_set) t));
      few = (λ e. old.tasked.1 ∙ (c.requires.task.1 ∙ (sym (ap is_stream (ap (λ m. m.0.task) t ∙ same)) ∙ e)), old.few.1);
      within = subst (λ (w : View g.row.V.Denot g.row.V-Event.Denot). (k : ℕ) → k < length (places w.blocks) → slice_index (places w.blocks) k < w.size) (sym (ap (λ m. m.0) t)) law;
    }
