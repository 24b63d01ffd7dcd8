use Rattle.std.proofs.Common.{[], ◌∷◌}
use Rattle.std.specs.Prelude.{codes, decimal}
use Rattle.std.proofs.lemmas.Result.{IfOk-equal}
use Rattle.qc_model.specs.ReportText.{table_text}
use Rattle.qc_script.proofs.Joined.{more_fields}
use Rattle.qc_script.proofs.reports.events.put_reason.Goals as goal

pub returns-in_ok-put_word_of_table-in-NotVisible : goal.returns-in_ok-put_word_of_table-in-NotVisible
returns-in_ok-put_word_of_table-in-NotVisible c =
    let told = c.in-NotVisible in
    let word = codes "notvisible" ∷ table_text told.table ∷ [] in
    let numbers = decimal told.changed ∷ decimal told.snapshot ∷ [] in
    IfOk-equal _ _ _ _ c.put_pair.ensures (rw (c.in_ok-put_word_of_table-in-NotVisible.ensures, told.is) (more_fields c.args.out.now word numbers))
