use Rattle.std.proofs.Common.{◌≡◌, ℕ, true, sym, ap, subst, ◌∙◌}
use Rattle.std.specs.Prelude.{◌==◌}
use Rattle.std.specs.List.{list_any}
use Rattle.qc_turn.specs.Tasks.{listed_for}
use Rattle.qc_turn.specs.Seats.{holder}
use Rattle.qc_turn.proofs.Holders.{same_on, number_is}
use Rattle.qc_core.specs.declared.server_state.ServerState.{ServerState}
use Rattle.qc_core.specs.ListRoom.{Reserved}
use Rattle.qc_core.specs.Whole.{tasks_of}
use Rattle.qc_core.specs.Connection.{disconnects}
use Rattle.qc_core.proofs.connection.leave.Goals as goal

pub end_connection-requires-clause-session : goal.end_connection-requires-clause-session
end_connection-requires-clause-session c = c.requires.session ∙ sym (number_is c.args.held.now c.reap_own_stream.new.held c.reap_own_stream.ensures.stands.1)

pub end_connection-requires-clause-connected : goal.end_connection-requires-clause-connected
end_connection-requires-clause-connected c =
    let number = number_is c.args.held.now c.reap_own_stream.new.held c.reap_own_stream.ensures.stands.1 in
    subst (λ (p : ℕ × Reserved ℕ). list_any (λ m. m == p.0) p.1.items ≡ true) (λ i. (sym number i, sym c.reap_own_stream.ensures.connected i)) c.requires.connected

pub returns-clause-stands : goal.returns-clause-stands
returns-clause-stands c =
    let one = c.reap_own_stream.ensures.stands in
    let two = c.end_connection.ensures.stands in
    (two.0, same_on c.args.held.now c.reap_own_stream.new.held c.end_connection.new.held one.1 two.1)

pub returns-clause-left : goal.returns-clause-left
returns-clause-left c =
    let number = number_is c.args.held.now c.reap_own_stream.new.held c.reap_own_stream.ensures.stands.1 in
    c.end_connection.ensures.left ∙ (λ i. disconnects (number i) (c.reap_own_stream.ensures.struck i))

pub returns-clause-rests : goal.returns-clause-rests
returns-clause-rests c = ap (λ (s : ServerState). listed_for (holder c.args.held.now).number (tasks_of s)) c.end_connection.ensures.left ∙ c.reap_own_stream.ensures.rests
