use Rattle.std.proofs.Common.{subst}
use Rattle.qc_sql.specs.Database.{Database, apply}
use Rattle.qc_sql.specs.Effects.{effect}
use Rattle.qc_model.specs.Journal.{present}
use Rattle.qc_model.specs.Machine.{form_given}
use Rattle.qc_trx.specs.Endings.{meant}
use Rattle.qc_statements.specs.Sound.{IsSound}
use Rattle.qc_statements.proofs.Endings.{conflict_ends, ends_in}
use Rattle.qc_statements.proofs.schema_changes.schema_change.Goals as goal

pub check_conflicts-requires-clause-sound : goal.check_conflicts-requires-clause-sound
check_conflicts-requires-clause-sound g c =
    let sound = c.requires.sound.1 in
    (c.requires.sound.0, subst (λ (d : Database). IsSound c.requires.sound.0 c.args.journal.now.events d) sound.database sound)

pub returns-in-Err-Other-clause-gives : goal.returns-in-Err-Other-clause-gives
returns-in-Err-Other-clause-gives g c = λ who.
    let J = c.args.journal.now.events in
    let state = c.args.state.now.state in
    let gives = rw c.in-Err-Other.field-0-is at c.in-Err-Other.ensures.gives in
    rw c.in-Err-Other.field-0-is (conflict_ends who J state (meant c.in-Err-Other.conflict) (λ own. form_given who state own (effect c.args.statement.now (apply own (present J)) state.db state.session)) (ends_in J state (meant c.in-Err-Other.conflict) gives))
