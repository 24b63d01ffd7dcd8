-- The text is taken out, and the other comes in its place.
use Rattle.std.proofs.Common.{◌<◌, ◌∙◌, List, ap, arith, length, suc, ◌+◌}
use Rattle.std.specs.Prelude.{option_copied}
use Rattle.std.specs.List.{insert}
use Rattle.qc_types.specs.declared.names.Value.{Value}
use Rattle.qc_table.specs.Columns.{text_length, texts_of}
use Rattle.qc_table.specs.Views.{text_value}
use Rattle.qc_table.proofs.Moves.{put_back}
use Rattle.qc_table.proofs.Putting.{on_ok}
use Rattle.qc_table.proofs.TextSteps.{texts_length}
use Rattle.qc_table.proofs.texts.Texts.replace.Goals as goal

pub insert-requires-clause-row : goal.insert-requires-clause-row
insert-requires-clause-row c = omega (arith, c.remove.ensures.count, c.requires.row)

pub returns-clause-values : goal.returns-clause-values
returns-clause-values c =
    let old = c.args.self.now in
    let v = text_value (option_copied c.args.text) in
    let low : c.args.row < length (texts_of old) = omega (arith, c.requires.row, texts_length 0 0 old.ends.items old.bytes.items old.nulls.items) in
    on_ok c.insert.result _ _ (λ is. is ∙ (ap (λ (us : List Value). insert us c.args.row v) c.remove.ensures.values ∙ put_back (texts_of old) c.args.row v low)) c.insert.ensures.values

pub returns-clause-room : goal.returns-clause-room
returns-clause-room c = λ more count has. c.insert.ensures.room more count (c.remove.ensures.room (suc more) (text_length (text_value (option_copied c.args.text)) + count) has)
