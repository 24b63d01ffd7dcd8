use Rattle.std.proofs.Common.{◌≡◌, List, sym, ap, subst, ◌∙◌}
use Rattle.std.specs.Prelude.{IsSomeAnd, slice_get}
use Rattle.std.specs.List.{list_any}
use Rattle.std.proofs.lemmas.Option.{slice_get_within, same_Some}
use Rattle.qc_core.specs.declared.server_state.RunningTask.{RunningTask}
use Rattle.qc_core.proofs.Resting.{some_and, at_found, none_found}
use Rattle.qc_core.proofs.Seating.{removed_is}
use Rattle.qc_core.specs.TaskEnd.{is_of}
use Rattle.qc_core.proofs.server_state.ServerState.take_task.Goals as goal

pub returns-in_default-clause-found : goal.returns-in_default-clause-found
returns-in_default-clause-found c =
    sym (none_found (is_of c.args.seat) c.args.self.now.tasks.items (ap (list_any (is_of c.args.seat)) (sym c.items.ensures) ∙ (c.in_default.ensures {u = tt}).none))

pub remove-requires : goal.remove-requires
remove-requires c =
    let items = c.args.self.now.tasks.items in
    let got = some_and _ _ (subst (λ (l : List RunningTask). IsSomeAnd (slice_get l c.in-Some.index) (λ w. w.seat ≡ c.args.seat)) c.items.ensures (c.in-Some.ensures {u = tt}).some) in
    slice_get_within items c.in-Some.index got.0 got.1

pub returns-clause-found : goal.returns-clause-found
returns-clause-found c =
    let items = c.args.self.now.tasks.items in
    let got = some_and _ _ (subst (λ (l : List RunningTask). IsSomeAnd (slice_get l c.in-Some.index) (λ w. w.seat ≡ c.args.seat)) c.items.ensures (c.in-Some.ensures {u = tt}).some) in
    let item = c.remove.ensures.item in
    let seat = ap (λ (w : RunningTask). w.seat) (same_Some c.remove.result got.0 (sym item ∙ got.1)) ∙ got.2 in
    sym (at_found (λ (w : RunningTask). w.seat) c.args.seat c.in-Some.index items c.remove.result c.requires item seat)

pub returns-clause-some : goal.returns-clause-some
returns-clause-some c =
    let s = c.args.self.now in
    let got = some_and _ _ (subst (λ (l : List RunningTask). IsSomeAnd (slice_get l c.in-Some.index) (λ w. w.seat ≡ c.args.seat)) c.items.ensures (c.in-Some.ensures {u = tt}).some) in
    let items = c.remove.ensures.items ∙ removed_is (λ (w : RunningTask). w.seat) c.args.seat c.in-Some.index s.tasks.items got.0 c.requires got.1 got.2 in
    λ i. record s { tasks = record { items = items i; room = c.remove.ensures.room i } }
