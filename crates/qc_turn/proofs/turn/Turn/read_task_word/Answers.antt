use Rattle.std.proofs.Common.{◌≡◌, ◌<◌, ◌+◌, ◌∙◌, ℕ, ap, sym, subst, length, slice_index, arith}
use Rattle.atomic_table.specs.Seated.{TableId}
use Rattle.atomic_table.specs.Table.{Allows, step}
use mathlib.Core.Option.{none}
use Rattle.qc_turn.specs.declared.view.View.{View}
use Rattle.qc_turn.specs.Blocks.{places}
use Rattle.qc_turn.specs.Rules.{TurnRule}
use Rattle.qc_turn.specs.Steps.{reads_task_word}
use Rattle.qc_turn.specs.Tasks.{is_stream}
use Rattle.qc_turn.specs.Words.{extra_words, task_word}
use Rattle.qc_turn.proofs.RuleKept.{reads_word_held, found_after}
use Rattle.qc_turn.proofs.turn.Turn.read_task_word.Goals as goal

pub load-found-requires : goal.load-found-requires
load-found-requires g c =
    let me = c.args.seat.now.pass.me in
    let t = c.args.self.now in
    let size = t.table.shared.key.size in
    let slots = t.table.shared.table_id.slots in
    let id = c.args.seat.now.pass.id in
    let live : 0 < me.0.number = omega (arith, c.args.seat.now.numbered.0, c.args.seat.now.numbered.1) in
    let at : task_word size c.args.number ≡ c.task_index-word.result = omega (arith, c.task_index-word.ensures, t.sized.2) in
    let fits : c.task_index-word.result < t.table.shared.table_id.words = omega (arith, c.task_index-word.ensures, t.sized.0, c.requires.few.1) in
    (c.requires.turn.0, fits, subst (λ (w : ℕ). Allows (TurnRule g.V.Kept size) slots id me w (λ x. x) (reads_task_word g.V.Kept (step slots w 0 0 none) me)) at (reads_word_held g.V.Kept size slots id me c.args.number live c.requires.few.0 c.requires.turn.1))

pub invariant_of-seat : goal.invariant_of-seat
invariant_of-seat g c =
    let old = c.args.seat.now in
    let t = c.args.self.now in
    let at : c.task_index-word.result ≡ task_word old.pass.me.0.size c.args.number = omega (arith, c.task_index-word.ensures, old.sized, ap (λ (z : TableId). z.words) c.requires.turn.0, t.sized.0) in
    let after = found_after g.V.Kept 0 c.load-found.result c.args.number old.pass.me c.load-found.new.seat.me (c.load-found.ensures.2 c.args.number at) in
    record {
      numbered = (old.numbered.0 ∙ sym (ap (λ m. m.0.number) after), old.numbered.1);
      counted = old.counted ∙ sym (ap (λ m. length m.0.registry + 1) after);
      sized = ap (λ m. m.0.size + extra_words) after ∙ (old.sized ∙ sym (ap (λ (z : TableId). z.words) c.load-found.ensures.0));
      tasked = (old.tasked.0 ∙ sym (ap (λ m. m.0.task) after), old.tasked.1 ∙ sym (ap (λ m. m.0.word_set) after));
      few = (λ e. old.few.0 (sym (ap (λ m. is_stream m.0.task) after) ∙ e), old.few.1);
      within = subst (λ (w : View g.row.V.Denot g.row.V-Event.Denot). (k : ℕ) → k < length (places w.blocks) → slice_index (places w.blocks) k < w.size) (sym (ap (λ m. m.0) after)) old.within;
    }

pub returns-clause-same : goal.returns-clause-same
returns-clause-same g c =
    let old = c.args.seat.now in
    let t = c.args.self.now in
    let at : c.task_index-word.result ≡ task_word old.pass.me.0.size c.args.number = omega (arith, c.task_index-word.ensures, old.sized, ap (λ (z : TableId). z.words) c.requires.turn.0, t.sized.0) in
    let after = found_after g.V.Kept 0 c.load-found.result c.args.number old.pass.me c.load-found.new.seat.me (c.load-found.ensures.2 c.args.number at) in
    (ap (λ m. m.1) after, c.load-found.ensures.0)

pub returns-clause-view : goal.returns-clause-view
returns-clause-view g c =
    let old = c.args.seat.now in
    let t = c.args.self.now in
    let at : c.task_index-word.result ≡ task_word old.pass.me.0.size c.args.number = omega (arith, c.task_index-word.ensures, old.sized, ap (λ (z : TableId). z.words) c.requires.turn.0, t.sized.0) in
    let after = found_after g.V.Kept 0 c.load-found.result c.args.number old.pass.me c.load-found.new.seat.me (c.load-found.ensures.2 c.args.number at) in
    ap (λ m. m.0) after
