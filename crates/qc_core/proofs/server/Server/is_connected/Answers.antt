use Rattle.std.proofs.Common.{◌≡◌, ℕ, List, false, ◌∙◌, ap, subst}
use Rattle.std.specs.Prelude.{IfSome, IfNone, Some, slice_get, ◌==◌}
use Rattle.std.specs.List.{list_any}
use Rattle.qc_core.specs.declared.server_state.ServerState.{ServerState}
use Rattle.qc_core.proofs.Seating.{is_found}
use Rattle.qc_core.proofs.server.Server.is_connected.Goals as goal

pub returns : goal.returns
returns c =
    let p = c.position in
    let n = c.args.seat in
    let o = p.result in
    let is = c.items.ensures ∙ ap (λ (s : ServerState). s.connected.items) (c.deref.ensures ∙ c.self.view_is) in
    c.is_some.ensures ∙ is_found n c.args.self.now.connected.items o
    (subst (λ (l : List ℕ). IfSome o (λ i. slice_get l i ≡ Some n)) is p.ensures.some)
    (subst (λ (l : List ℕ). IfNone o (list_any (λ m. m == n) l ≡ false)) is p.ensures.none)
