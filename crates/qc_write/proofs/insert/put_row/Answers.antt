use Rattle.std.proofs.Common.{◌≡◌, ◌∙◌, sym, ap, ℤ, Bool, List, int_cmp, is_eq, Ok, Err, w64, to_z, of_z}
use Rattle.std.specs.Prelude.{◌||◌}
use Rattle.std.specs.BTreeSet.{contains}
use Rattle.std.proofs.lemmas.Result.{err_from_is_err_and}
use Rattle.std.proofs.lemmas.Int.{to_z-of_z}
use Rattle.qc_types.specs.Answers.{Gives}
use Rattle.qc_types.specs.declared.names.Value.{Value}
use Rattle.qc_types.specs.declared.sql_error.SqlError.{SqlError}
use Rattle.qc_sql.specs.declared.tables.Column.{Column}
use Rattle.qc_sql.specs.Database.{key_of}
use Rattle.qc_write.specs.Inserts.{named_in, tuple_validated, key_validated, row_validated}
use Rattle.qc_write.specs.Targets.{bound_of}
use Rattle.qc_resolve.proofs.Exits.{refused_too}
use Rattle.qc_write.proofs.Rows.{key_refused, row_good}
use Rattle.qc_write.proofs.insert.put_row.Goals as goal

pub returns-in_err-take_key-clause-gives : goal.returns-in_err-take_key-clause-gives
returns-in_err-take_key-clause-gives g c =
    let p = err_from_is_err_and c.from_residual-in_err-take_key.result c.from_residual-in_err-take_key.ensures.1 in
    let b = bound_of c.args.target.now in
    let named = named_in c.args.shape.now in
    let seen = contains int_cmp c.args.taken.now in
    let n = c.args.number in
    let tuple = c.args.tuple.now in
    let row = c.in_ok-row.row in
    let key = c.key_of_row-key.result in
    let same = to_z-of_z w64 key (record { sfits = c.key_of_row-key.type_inv }) in
    let made : tuple_validated named b.table.columns n tuple ≡ Ok row = c.in_ok-row.ensures in
    let of_row : key ≡ key_of b.table.columns row = c.key_of_row-key.ensures ∙ ap (λ (cs : List Column). key_of cs row) c.columns.ensures.value in
    let told : Gives (λ (u : Unit {0}). tt {0}) (λ (e : SqlError). e) (Err c.in_err-take_key.field-0.0) (key_validated b seen n (to_z w64 (of_z w64 key))) = c.in_err-take_key.ensures.gives in
    rw (p.1, p.2)
    (refused_too (λ (u : Unit {0}). tt {0}) (λ (vs : List Value). vs) c.in_err-take_key.field-0.0 (key_validated b seen n (to_z w64 (of_z w64 key))) (row_validated b named seen n tuple)
    (λ e h. key_refused b named seen n tuple row key made of_row e (ap (key_validated b seen n) (sym same) ∙ h)) told)

pub returns-clause-gives : goal.returns-clause-gives
returns-clause-gives g c =
    let b = bound_of c.args.target.now in
    let named = named_in c.args.shape.now in
    let seen = contains int_cmp c.args.taken.now in
    let n = c.args.number in
    let row = c.in_ok-row.row in
    let key = c.key_of_row-key.result in
    let same = to_z-of_z w64 key (record { sfits = c.key_of_row-key.type_inv }) in
    let made : tuple_validated named b.table.columns n c.args.tuple.now ≡ Ok row = c.in_ok-row.ensures in
    let of_row : key ≡ key_of b.table.columns row = c.key_of_row-key.ensures ∙ ap (λ (cs : List Column). key_of cs row) c.columns.ensures.value in
    let taken : key_validated b seen n (to_z w64 (of_z w64 key)) ≡ Ok (tt {0}) = c.in_ok-take_key.ensures.gives in
    row_good b named seen n c.args.tuple.now row key made of_row (ap (key_validated b seen n) (sym same) ∙ taken)

pub returns-clause-taken : goal.returns-clause-taken
returns-clause-taken g c =
    let columns = c.args.target.now.version.now.columns in
    let row = c.in_ok-row.row in
    let key = c.key_of_row-key.result in
    let same = to_z-of_z w64 key (record { sfits = c.key_of_row-key.type_inv }) in
    let of_row : key ≡ key_of columns row = c.key_of_row-key.ensures ∙ ap (λ (cs : List Column). key_of cs row) c.columns.ensures.value in
    let more : (q : ℤ) → contains int_cmp c.take_key.new.taken q ≡ (is_eq (int_cmp (to_z w64 (of_z w64 key)) q) || contains int_cmp c.args.taken.now q) = c.in_ok-take_key.ensures.taken in
    λ q. more q ∙ ap (λ (k : ℤ). is_eq (int_cmp k q) || contains int_cmp c.args.taken.now q) (same ∙ of_row)
