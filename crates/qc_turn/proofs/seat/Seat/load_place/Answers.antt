use Rattle.std.proofs.Common.{rules, ◌≡◌, ◌<◌, ◌-◌, ◌∙◌, ℕ, ap, sym, subst, arith}
use Rattle.atomic_table.specs.Table.{Allows, step}
use mathlib.Core.Option.{none}
use Rattle.qc_turn.specs.Rules.{TurnRule}
use Rattle.qc_turn.specs.Steps.{loads_streamed}
use Rattle.qc_turn.specs.Words.{line_words, region_word}
use Rattle.qc_turn.proofs.RuleKept.{reads_streamed}
use Rattle.qc_turn.proofs.seat.Seat.load_place.Goals as goal

pub load-requires : goal.load-requires
load-requires g c =
    let table = c.args.turn.now.table.shared.table_id in
    let pass = c.args.self.now.pass in
    let size = c.args.turn.now.table.shared.key.size in
    let same : pass.me.0.size ≡ size = omega (arith, c.args.self.now.sized, ap (λ t. t.words) c.requires.seated.table, c.args.turn.now.sized.0, c.args.turn.now.sized.2) in
    let inside : c.args.place < size = omega (arith, c.requires.inside, same) in
    let at : region_word c.args.place ≡ c.region_index.result = sym c.region_index.ensures in
    let fits : c.region_index.result < table.words = omega (arith, at, inside, c.args.turn.now.sized.0, c.args.turn.now.sized.2) in (
      c.requires.seated.table,
      fits,
      subst (λ (w : ℕ). Allows (TurnRule g.V.Kept size) table.slots pass.id pass.me w (λ n. n) (loads_streamed g.V.Kept (step table.slots w 0 0 none) pass.me)) at
          (reads_streamed g.V.Kept size table.slots pass.id pass.me c.requires.streaming.0 c.args.place (search rules) c.requires.seated.free c.requires.streaming.1 inside),
    )

pub returns-clause-word : goal.returns-clause-word
returns-clause-word g c =
    let back : c.args.place ≡ c.region_index.result - line_words = omega (arith, c.region_index.ensures) in
    λ i small at. c.load.ensures.2.1 i small (at ∙ back)
