use Rattle.std.proofs.Common.{sym, ap, ◌∙◌, cond}
use Rattle.std.specs.Prelude.{Some, None}
use Rattle.qc_serve.proofs.Endings.{ready_makes}
use Rattle.qc_serve.proofs.lookup.share_for.Goals as goal

pub returns-then-not-takes_snapshot-clause-shares : goal.returns-then-not-takes_snapshot-clause-shares
returns-then-not-takes_snapshot-clause-shares c =
    let h = c.args.held.now in
    record {
      database = h.value.database;
      makes = ready_makes c.args.who h c.requires;
      share = ap (λ b. cond b (Some h.value.database) None) (sym (sym c.takes_snapshot.ensures ∙ c.if-not-takes_snapshot.true));
    }

pub returns-clause-shares : goal.returns-clause-shares
returns-clause-shares c =
    record {
      database = c.in_ok-database.database;
      makes = c.in_ok-database.ensures.makes;
      share = ap (λ b. cond b (Some c.in_ok-database.database) None) (sym (sym c.takes_snapshot.ensures ∙ c.if-not-takes_snapshot.false));
    }
