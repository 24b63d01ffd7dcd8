use Rattle.std.proofs.Common.{◌≡◌, ◌∙◌, sym, ap, ℤ, ℕ, ◌+◌, List, [], ◌∷◌, ◌++◌, drop, int_cmp, Ok, Err, Result}
use Rattle.std.specs.BTreeMap.{is_at}
use Rattle.std.specs.BTreeSet.{contains}
use Rattle.std.specs.List.{list_any}
use Rattle.std.proofs.lemmas.List.{drop_all}
use Rattle.std.proofs.lemmas.Result.{err_from_is_err_and}
use Rattle.qc_types.specs.Answers.{Gives}
use Rattle.qc_types.specs.declared.names.TableName.{TableName}
use Rattle.qc_types.specs.declared.names.Value.{Value}
use Rattle.qc_types.specs.declared.sql_error.SqlError.{SqlError}
use Rattle.qc_sql.specs.declared.tables.RowOp.{RowOp}
use Rattle.qc_sql.specs.declared.tables.RowOp.TheVariants as op
use Rattle.qc_sql.specs.Database.{key_of}
use Rattle.qc_write.specs.Inserts.{named_in, row_validated, rows_validated}
use Rattle.qc_write.specs.Targets.{bound_of}
use Rattle.qc_resolve.proofs.Exits.{refused_too}
use Rattle.qc_write.proofs.Inserts.{rows_on, row_refused, row_put, rows_ended}
use Rattle.qc_write.proofs.Keys.{one_taken}
use Rattle.qc_write.proofs.insert.put_rows.Goals as goal

pub loop-i-init : goal.loop-i-init
loop-i-init g c = (
  [],
  ap (λ (ops : List RowOp). rows_on (bound_of c.args.target.now) (named_in c.args.shape.now) [] 1 c.args.tuples.now ops) (sym c.new-ops.ensures),
  λ q. ap (λ (keys : List ℤ). list_any (is_at (int_cmp q)) keys) c.new-taken.ensures.empty,
)

pub loop-i-preserved : goal.loop-i-preserved
loop-i-preserved g c =
    let v = c.loop-i.invariant in
    let b = bound_of c.args.target.now in
    let named = named_in c.args.shape.now in
    let i = c.loop-i.i in
    let tuple = c.index-tuples-i.result in
    let row = c.in_ok-row.row in
    let key = key_of b.table.columns row in
    let made : row_validated b named (contains int_cmp c.loop-i.taken) (i + 1) tuple ≡ Ok row =
    ap (λ (vs : List Value). row_validated b named (contains int_cmp c.loop-i.taken) (i + 1) vs) (sym c.items-tuple.ensures) ∙ c.in_ok-row.ensures.gives in (
      key ∷ v.0,
      v.1
          ∙ row_put b named v.0 (contains int_cmp c.loop-i.taken) v.2 c.args.tuples.now i tuple c.loop-i-test.true c.index-tuples-i.is c.loop-i.ops (i + 1) row made
          ∙ ap (λ (ops : List RowOp). rows_on b named (key ∷ v.0) (i + 1 + 1) (drop (i + 1) c.args.tuples.now) ops)
          (sym (c.in_ok-push.ensures.ok ∙ ap (λ (t : TableName). c.loop-i.ops ++ op.Put t row ∷ []) c.in_ok-duplicate.ensures)),
      one_taken c.loop-i.taken c.put_row.new.taken v.0 key v.2 c.in_ok-row.ensures.taken,
    )

pub returns-in_err-row : goal.returns-in_err-row
returns-in_err-row g c =
    let p = err_from_is_err_and c.from_residual.result c.from_residual.ensures.1 in
    let v = c.loop-i.invariant in
    let b = bound_of c.args.target.now in
    let named = named_in c.args.shape.now in
    let i = c.loop-i.i in
    let tuple = c.index-tuples-i.result in
    let validated : List Value → Result (List Value) SqlError = λ vs. row_validated b named (contains int_cmp c.loop-i.taken) (i + 1) vs in
    let told : Gives (λ (vs : List Value). vs) (λ (e : SqlError). e) (Err c.in_err-row.field-0.0) (validated c.items-tuple.result.now) = c.in_err-row.ensures.gives in
    rw (p.1, p.2)
    (refused_too (λ (vs : List Value). vs) (λ (ops : List RowOp). ops) c.in_err-row.field-0.0 (validated c.items-tuple.result.now) (rows_validated b named c.args.tuples.now)
    (λ e h. v.1 ∙ row_refused b named v.0 (contains int_cmp c.loop-i.taken) v.2 c.args.tuples.now i tuple c.loop-i-test.true c.index-tuples-i.is c.loop-i.ops (i + 1) e (ap validated (sym c.items-tuple.ensures) ∙ h)) told)

pub returns : goal.returns
returns g c =
    let v = c.loop-i.invariant in
    let i = c.loop-i.i in
    v.1 ∙ rows_ended (bound_of c.args.target.now) (named_in c.args.shape.now) v.0 (i + 1) c.args.tuples.now c.loop-i.ops i (drop_all i c.args.tuples.now c.loop-i-test.false)
