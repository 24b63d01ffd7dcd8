use Rattle.std.proofs.Common.{ap, sym, ◌∙◌}
use Rattle.std.specs.Prelude.{Option, Some, None}
use Rattle.std.specs.Option.{IfNone}
use Rattle.qc_tiles.proofs.Keeps.{after_move_down-none}
use Rattle.qc_core.proofs.server_state.ServerState.move_down.Goals as goal

if_none : {A P : Type 0} (o : Option A) → P → IfNone o P
if_none None p = p
if_none (Some x) p = tt

pub returns-in_err-change-clause-none : goal.returns-in_err-change-clause-none
returns-in_err-change-clause-none c =
    let s = c.args.self.now in
    let t = c.requires.tiling in
    let none = sym c.move_down.ensures.change ∙ c.in_err-change.was in
    if_none c.from_residual.result (ap (λ ts. record s { tiles = ts }) (c.move_down.ensures.tiles ∙ sym (after_move_down-none t.0 s.tiles t.1 none)))
