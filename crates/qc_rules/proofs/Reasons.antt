-- The first reason that keeps a select out, where it locks nothing and names a table.
use Rattle.std.proofs.Common.{◌≡◌, false, cond, List, [], map, length, refl, ap, sym, ◌∙◌}
use Rattle.std.specs.Prelude.{◌==◌, ℕ, Option, None, Some, find, option_map}
use Rattle.qc_types.specs.declared.names.TableName.{TableName}
use Rattle.qc_types.specs.declared.names.Why.{Why}
use Rattle.qc_types.specs.declared.names.Why.TheVariants as why
use Rattle.qc_sql.specs.declared.statements.Select.{Select}
use Rattle.qc_sql.specs.declared.statements.Source.{Source}
use Rattle.qc_sql.specs.Database.{Name}
use Rattle.qc_sql.specs.Rules.{Calls, full_name, is_system, is_uncached, select_calls, select_tables, first_of_tables, first_of_calls, why_not}
use Rattle.qc_rules.specs.Functions.{first_name}
use Rattle.qc_rules.proofs.Once.{first_once}

function_named : (found : Option (Name × ℕ)) → option_map why.Function (option_map (λ (call : Name × ℕ). call.0) found) ≡ first_of_calls found
function_named None = refl
function_named (Some call) = refl

-- the sources were looked at for a table, and the select for a function
pub reason_is : (db : Name) (select : Select) (sources : List Source) (table : Option TableName) (name : Option Name) → sources ≡ select.from → select.lock ≡ false → false ≡ (length sources == 0)
    → table ≡ find is_system (map (λ source. full_name db source.table) sources) → name ≡ first_name (select_calls select)
    → first_of_tables table (option_map why.Function name) ≡ why_not db select
reason_is db select sources table name same unlocked some is_table is_name =
    (λ i. first_of_tables (is_table i) (option_map why.Function (is_name i)))
    ∙ (λ i. first_of_tables (find is_system (map (λ source. full_name db source.table) (same i))) (function_named (find is_uncached (select_calls select)) i))
    ∙ ap (λ found. first_of_tables found (first_of_calls (find is_uncached (select_calls select)))) (sym (first_once [] (map (λ source. full_name db source.table) select.from) refl))
    ∙ sym (λ i. cond (unlocked i) (Some why.Locking) (cond (sym (some ∙ ap (λ ss. length ss == 0) same) i) (Some why.NoTables)
    (first_of_tables (find is_system (select_tables db select)) (first_of_calls (find is_uncached (select_calls select))))))
