use Rattle.std.proofs.Common.{◌≡◌, ℕ, List, subst}
use Rattle.std.specs.Prelude.{Some, slice_get}
use Rattle.std.proofs.lemmas.Option.{slice_get_within}
use Rattle.qc_core.proofs.Connecting.{disconnected_is}
use Rattle.qc_core.proofs.server_state.ServerState.disconnect.Goals as goal

pub remove-requires : goal.remove-requires
remove-requires c =
    let at = subst (λ (l : List ℕ). slice_get l c.in-Some.index ≡ Some c.args.seat) c.items.ensures (c.in-Some.ensures {u = tt}).some in
    slice_get_within c.args.self.now.connected.items c.in-Some.index c.args.seat at

pub returns : goal.returns
returns c =
    let at = subst (λ (l : List ℕ). slice_get l c.in-Some.index ≡ Some c.args.seat) c.items.ensures (c.in-Some.ensures {u = tt}).some in
    λ i. record c.args.self.now { connected = disconnected_is c.args.self.now.connected c.remove.new.self c.args.seat c.in-Some.index c.requires.once at c.remove.ensures.items c.remove.ensures.room i }
