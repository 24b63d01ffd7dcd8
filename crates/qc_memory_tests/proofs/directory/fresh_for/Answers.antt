use Rattle.std.proofs.Common.{◌≡◌, ◌+◌, ◌++◌, ◌∷◌, [], take, true, false, sym, ap, ◌∙◌, arith}
use Rattle.std.specs.List.{list_any}
use Rattle.std.proofs.lemmas.List.{take_more, length_push}
use Rattle.qc_sql.specs.Database.{same_table}
use Rattle.qc_dir.specs.Directory.{is_block_of}
use Rattle.qc_memory_tests.proofs.Fresh.{known_is, fresh_again, fresh_known, fresh_more}
use Rattle.qc_memory_tests.proofs.directory.fresh_for.Goals as goal

pub loop-at-preserved-then-has_table : goal.loop-at-preserved-then-has_table
loop-at-preserved-then-has_table c =
    let names = c.items-tables.result.now in
    let i = c.loop-at.at in
    let t = c.index-tables-at.result in
    let more : take (i + 1) names ≡ take i names ++ t ∷ [] = take_more names i t c.loop-at-test.true ∙ ap (λ u. take i names ++ u ∷ []) (sym c.index-tables-at.is) in
    record {
      fresh = rw more (fresh_again (take i names) t c.args.dir.now.tables c.loop-at.fresh c.loop-at.invariant.fresh (sym c.has_table.ensures ∙ c.if-has_table.true));
      few = omega (arith, c.loop-at.invariant.few);
    }

pub loop-at-preserved-then-is_some : goal.loop-at-preserved-then-is_some
loop-at-preserved-then-is_some c =
    let names = c.items-tables.result.now in
    let i = c.loop-at.at in
    let t = c.index-tables-at.result in
    let tables = c.args.dir.now.tables in
    let more : take (i + 1) names ≡ take i names ++ t ∷ [] = take_more names i t c.loop-at-test.true ∙ ap (λ u. take i names ++ u ∷ []) (sym c.index-tables-at.is) in
    let known : list_any (is_block_of t) tables ≡ true = sym (known_is t tables) ∙ (rw c.table_block.ensures.block at (sym c.is_some.ensures ∙ c.if-is_some.true)) in
    record {
      fresh = rw more (fresh_known (take i names) t tables c.loop-at.fresh c.loop-at.invariant.fresh known);
      few = omega (arith, c.loop-at.invariant.few);
    }

pub loop-at-preserved : goal.loop-at-preserved
loop-at-preserved c =
    let names = c.items-tables.result.now in
    let i = c.loop-at.at in
    let t = c.index-tables-at.result in
    let tables = c.args.dir.now.tables in
    let more : take (i + 1) names ≡ take i names ++ t ∷ [] = take_more names i t c.loop-at-test.true ∙ ap (λ u. take i names ++ u ∷ []) (sym c.index-tables-at.is) in
    let new : list_any (same_table t) (take i names) ≡ false = sym c.has_table.ensures ∙ c.if-has_table.false in
    let none : list_any (is_block_of t) tables ≡ false = sym (known_is t tables) ∙ (rw c.table_block.ensures.block at (sym c.is_some.ensures ∙ c.if-is_some.false)) in
    record {
      fresh = rw (more, c.push.ensures, c.in_ok-duplicate.ensures {u = tt}) (fresh_more (take i names) (record { table = t; block = c.block.result }) tables c.loop-at.fresh c.loop-at.invariant.fresh new none);
      few = rw c.push.ensures (omega (arith, c.loop-at.invariant.few, length_push c.loop-at.fresh (record { table = c.in_ok-duplicate.field-0; block = c.block.result })));
    }
