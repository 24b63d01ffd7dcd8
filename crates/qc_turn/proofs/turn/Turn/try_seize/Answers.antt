use Rattle.std.proofs.Common.{rules, Some, ap, subst, sym, ◌∙◌, ◌∷◌, ◌≡◌}
use Rattle.qc_turn.specs.Seats.{view}
use Rattle.qc_turn.specs.Steps.{Taken}
use Rattle.qc_turn.specs.Tasks.{HasBlocks}
use Rattle.qc_turn.specs.Views.{IsSoundJournal, with_turn}
use Rattle.qc_chain.specs.Chains.{Ranged}
use Rattle.qc_turn.proofs.turn.Turn.try_seize.Goals as goal

pub take_value-requires-clause-table : goal.take_value-requires-clause-table
take_value-requires-clause-table g c = c.ask-found.ensures.table.0 ∙ c.requires.table

pub take_value-requires-clause-slot : goal.take_value-requires-clause-slot
take_value-requires-clause-slot g c = let t = c.ask-found.ensures.tells.0 c.if-found-ne0.false in (t.0, t.4 ∙ ap (λ l. (0, Some t.0) ∷ l) c.requires.out)

pub returns-then-found-ne0 : goal.returns-then-found-ne0
returns-then-found-ne0 g c = let t = c.ask-found.ensures.tells.1 c.if-found-ne0.true in (
  c.if-found-ne0.true,
  t.1,
  record {
    table = c.ask-found.ensures.table.0 ∙ c.requires.table;
    out = ap (λ m. m.1) t.0 ∙ c.requires.out;
    free = ap (λ m. m.0.holding) t.0 ∙ c.requires.free;
    ranges = subst (λ (p : _ × Ranged). HasBlocks p.0.0.task p.0.0.blocks p.1.blocks) (λ i. (sym t.0 i, sym c.ask-found.ensures.table.1 i)) c.requires.ranges;
    was_sound = subst (λ (m : _). IsSoundJournal g.V.Kept m.0.seen) (sym t.0) c.requires.was_sound;
  },
  ap (λ m. m.0) t.0,
  c.ask-found.ensures.table.1,
)

pub returns : goal.returns
returns g c = let t = c.ask-found.ensures.tells.0 c.if-found-ne0.false in
    let v = c.take_value.ensures in
    let same : t.0 ≡ c.take_value.result = v.value t.0 (t.4 ∙ ap (λ l. (0, Some t.0) ∷ l) c.requires.out) in (
      record {
        words = t.1;
        taken = subst (λ x. Taken g.V.Kept (view c.args.seat.now) x t.1) same t.2;
        view = v.out.0 ∙ (t.3 ∙ ap (λ x. with_turn (view c.args.seat.now) x t.1) same);
        out = v.out.1;
        table = v.same.0 ∙ c.ask-found.ensures.table.0;
      },
      v.same.1 ∙ c.ask-found.ensures.table.1,
    )
