use denote.Exit.{no}
use denote.Param.Send.{arg_send, arg_sync, param_send, param_sync}
use Rattle.std.proofs.Common.{rules, subst}
use Rattle.std.specs.Prelude.{slice_index_or}
use Rattle.qc_app.specs.declared.sessions.Slot.{Slot}
use Rattle.qc_app.specs.Sessions.{IsServed}
use Rattle.qc_app.proofs.Closures.{closure_sync}
use Rattle.qc_app.proofs.Lists.{all_zip}
use Rattle.qc_app.proofs.Sends.{slot_send}
use Rattle.qc_app.proofs.sessions.serve_each.Goals as goal

pub for_each_mut-requires-send-T : goal.for_each_mut-requires-send-T
for_each_mut-requires-send-T g c κs within = param_send _ _ (arg_send _ no _ slot_send)

pub for_each_mut-requires-sync-F : goal.for_each_mut-requires-sync-F
for_each_mut-requires-sync-F g c κs within = param_sync _ _ (arg_sync _ no _ (closure_sync _ _ _ _ _ _ g.row.R g.row.G c.type_bounds.sync-R c.type_bounds.sync-G))

pub returns : goal.returns
returns g c =
    let t = c.args.turn.now in
    let new = c.for_each_mut.new.s in
    all_zip (IsServed t) c.args.slots.now new (search rules) (λ i d l.
    let at = (c.for_each_mut.ensures i d l).1 in
    subst (λ (s : Slot). IsServed t s (slice_index_or new i d)) at.argument_is (subst (λ (s : Slot). IsServed t at.argument.now s) at.left at.call))
