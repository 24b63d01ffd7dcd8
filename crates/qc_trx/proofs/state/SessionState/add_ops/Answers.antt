-- What is kept behind the snapshot, with more operations.
use Rattle.std.proofs.Common.{◌≡◌, ◌∙◌, sym, ap, true, []}
use Rattle.std.specs.Prelude.{Ok}
use Rattle.qc_sql.specs.Database.{apply}
use Rattle.qc_model.specs.Licence.{ops_fit}
use Rattle.qc_table.specs.Fitting.{fitting}
use Rattle.qc_trx.specs.Progresses.{current, IsSeen}
use Rattle.qc_trx.specs.Writes.{rows_left}
use Rattle.qc_trx.proofs.Ordered.{seen_more}
use Rattle.qc_trx.proofs.state.SessionState.add_ops.Goals as goal

pub invariant_of-self-2 : goal.invariant_of-self-2
invariant_of-self-2 c =
    let s = c.in-Seen.snapshot in
    let own = c.self.inside.own in
    let ops = c.args.ops in
    let seen : IsSeen s own c.self.inside.writes = rw c.in-Seen.is at c.self.invariant in
    let fits : ops_fit ops (apply own s.origin) ≡ true = rw (← c.self.view_is, c.in-Seen.is) at c.requires in
    let made : fitting (apply ops (current s)) ≡ Ok c.in_ok-next.next = rw c.current.ensures at c.in_ok-next.ensures in
    let noted : c.in_ok-rows.rows.items ≡ rows_left [] ops (current s) = rw (c.items.ensures, c.current-2.ensures) at c.in_ok-rows.ensures in
    rw (c.see_changed.ensures, c.in-Seen.is, c.in_ok-keep.ensures.ok.0, c.in_ok-keep.ensures.ok.1) (seen_more s own ops c.self.inside.writes c.in_ok-rows.rows.items c.in_ok-next.next seen fits made noted)
