use Rattle.std.proofs.Common.{◌≡◌, subst, sym, true, Ok, Err}
use Rattle.qc_sql.specs.Database.{Database}
use Rattle.qc_sql.specs.Effects.{effect}
use Rattle.qc_model.specs.Licence.{ops_fit}
use Rattle.qc_statements.proofs.TableChanges.{behind, forms_full, forms_full_fits, forms_good, forms_refusal_fits}
use Rattle.qc_statements.proofs.schema_changes.change_behind.Goals as goal

pub apply-requires : goal.apply-requires
apply-requires g c =
    let sound = c.requires.sound.1 in
    subst (λ (d : Database). ops_fit c.args.ops.now d ≡ true) (sym sound.database) c.requires.good.fit

pub returns-in-Err-Other-clause-gives : goal.returns-in-Err-Other-clause-gives
returns-in-Err-Other-clause-gives g c = λ who.
    let gives = rw c.in-Err-Other.field-0-is at c.in-Err-Other.ensures in
    rw c.in-Err-Other.field-0-is (forms_full c.args.journal.now.events c.args.database.now c.args.state.now.state c.args.statement.now c.args.ops.now c.in-Err-Other.full.table c.requires.sound.1 c.requires.own c.requires.alone gives who)

pub returns-in-Err-Other-clause-good : goal.returns-in-Err-Other-clause-good
returns-in-Err-Other-clause-good g c =
    let gives = rw c.in-Err-Other.field-0-is at c.in-Err-Other.ensures in
    rw c.in-Err-Other.field-0-is (forms_full_fits c.args.journal.now.events c.args.database.now c.args.ops.now c.in-Err-Other.full.table c.requires.sound.1 c.requires.good gives)

pub returns-in-Ok-effect-clause-good : goal.returns-in-Ok-effect-clause-good
returns-in-Ok-effect-clause-good g c =
    let x = c.args.state.now in
    let J = c.args.journal.now.events in
    let d = c.args.database.now in
    let b = behind J d c.in-Ok.made c.args.ops.now c.requires.sound.1 c.requires.good c.in-Ok.ensures in
    let is : effect c.args.statement.now c.in-Ok.made x.state.db x.state.session ≡ Ok c.in-Ok-effect.effect = rw (c.db.ensures, c.session.ensures) at c.in-Ok-effect.ensures in
    forms_good J d c.in-Ok.made x c.args.statement.now c.args.ops.now c.in-Ok-effect.effect c.requires.own c.requires.fit b c.requires.forms c.requires.short is

pub returns-in-Err-Other-effect-clause-good : goal.returns-in-Err-Other-effect-clause-good
returns-in-Err-Other-effect-clause-good g c =
    let x = c.args.state.now in
    let J = c.args.journal.now.events in
    let d = c.args.database.now in
    let b = behind J d c.in-Ok.made c.args.ops.now c.requires.sound.1 c.requires.good c.in-Ok.ensures in
    let is : effect c.args.statement.now c.in-Ok.made x.state.db x.state.session ≡ Err c.in-Err-Other-effect.error = rw (c.in-Err-Other-effect.field-0-is, c.db.ensures, c.session.ensures) at c.in-Err-Other-effect.ensures in
    forms_refusal_fits J d c.in-Ok.made x c.args.statement.now c.args.ops.now c.in-Err-Other-effect.error c.requires.fit b c.requires.short is
