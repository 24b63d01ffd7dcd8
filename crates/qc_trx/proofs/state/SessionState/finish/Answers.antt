-- The conflict of the transaction is that of the rows that it writes.
use Rattle.std.proofs.Common.{◌≡◌, ◌∙◌, sym, ap, [], Some, None}
use Rattle.std.specs.Prelude.{option_map}
use Rattle.qc_model.specs.Conflicts.{conflict_above}
use Rattle.qc_trx.specs.Endings.{meant, unless_in_conflict, IsOriginIn}
use Rattle.qc_trx.specs.Progresses.{IsSeen}
use Rattle.qc_trx.specs.Writes.{rows_written}
use Rattle.qc_trx.proofs.Finishes.{conflict_is}
use Rattle.qc_trx.proofs.state.SessionState.finish.Goals as goal

pub returns-in-None-clause-gives : goal.returns-in-None-clause-gives
returns-in-None-clause-gives c =
    let s = c.in-Seen.snapshot in
    let own = c.self.inside.own in
    let events = c.args.journal.now.events in
    let seen : IsSeen s own c.self.inside.writes = rw c.in-Seen.is at c.self.invariant in
    let stands : IsOriginIn events s.place (Some s.origin) = rw (← c.self.view_is, c.in-Seen.is) at c.requires in
    let found : None ≡ conflict_above s.place (rows_written c.self.inside.writes) 1 [] events = ap (option_map meant) (sym c.in-None.is) ∙ c.in_ok-first_conflict-in-Seen.ensures in
    rw (← c.self.view_is, c.in-Seen.is) (ap (λ o. unless_in_conflict o own) (conflict_is s own c.self.inside.writes events seen stands ∙ sym found))

pub returns-in-Some-clause-gives : goal.returns-in-Some-clause-gives
returns-in-Some-clause-gives c =
    let s = c.in-Seen.snapshot in
    let own = c.self.inside.own in
    let events = c.args.journal.now.events in
    let seen : IsSeen s own c.self.inside.writes = rw c.in-Seen.is at c.self.invariant in
    let stands : IsOriginIn events s.place (Some s.origin) = rw (← c.self.view_is, c.in-Seen.is) at c.requires in
    let found : Some (meant c.in-Some.conflict) ≡ conflict_above s.place (rows_written c.self.inside.writes) 1 [] events = ap (option_map meant) (sym c.in-Some.is) ∙ c.in_ok-first_conflict-in-Seen.ensures in
    rw (← c.self.view_is, c.in-Seen.is) (ap (λ o. unless_in_conflict o own) (conflict_is s own c.self.inside.writes events seen stands ∙ sym found))
