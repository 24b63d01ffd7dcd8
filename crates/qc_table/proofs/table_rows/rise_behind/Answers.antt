-- The next key stands behind the last one, and is the last of those that follow.
use Rattle.std.proofs.Common.{◌<◌, ◌∙◌, ◌+◌, ap, arith, drop, length, map, rules, sym, w64, FitsSigned, Some}
use Rattle.std.specs.Prelude.{◌&&◌}
use Rattle.std.proofs.lemmas.Int.{to_z-of_z}
use Rattle.qc_sql.specs.Database.{key_of}
use Rattle.qc_table.specs.Changes.{rise_behind}
use Rattle.qc_table.proofs.Putting.{key_read, keys_length, rise_step}
use Rattle.qc_table.proofs.table_rows.rise_behind.Goals as goal

pub returns-then-not-stands_behind : goal.returns-then-not-stands_behind
returns-then-not-stands_behind c =
    let columns = c.args.columns.now in
    let rows = c.args.puts.now.rows in
    let ks = map (key_of columns) rows in
    let i = c.loop-index.index in
    let key = c.key_of_row-key.result in
    let whole : FitsSigned w64 key = search rules in
    let within : i < length rows = omega arith in
    let low : i < length ks = omega (arith, keys_length columns rows) in
    let read = key_read columns rows i within ∙ (ap (key_of columns) (sym c.row.ensures) ∙ sym c.key_of_row-key.ensures) in
    let behind = rw (to_z-of_z w64 key whole) at c.stands_behind.ensures in
    let step = rise_step c.loop-index.last ks i key c.stands_behind.result low read behind in
    sym (c.loop-index.invariant ∙ (step ∙ ap (λ b. b && rise_behind (Some key) (drop (i + 1) ks)) c.if-not-stands_behind.true))

pub loop-index-preserved : goal.loop-index-preserved
loop-index-preserved c =
    let columns = c.args.columns.now in
    let rows = c.args.puts.now.rows in
    let ks = map (key_of columns) rows in
    let i = c.loop-index.index in
    let key = c.key_of_row-key.result in
    let whole : FitsSigned w64 key = search rules in
    let within : i < length rows = omega arith in
    let low : i < length ks = omega (arith, keys_length columns rows) in
    let read = key_read columns rows i within ∙ (ap (key_of columns) (sym c.row.ensures) ∙ sym c.key_of_row-key.ensures) in
    let behind = rw (to_z-of_z w64 key whole) at c.stands_behind.ensures in
    let step = rise_step c.loop-index.last ks i key c.stands_behind.result low read behind in
    rw (to_z-of_z w64 key whole) (c.loop-index.invariant ∙ (step ∙ ap (λ b. b && rise_behind (Some key) (drop (i + 1) ks)) c.if-not-stands_behind.false))
