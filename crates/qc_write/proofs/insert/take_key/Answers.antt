use Rattle.std.proofs.Common.{◌≡◌, ◌+◌, ◌∙◌, sym, ap, ℤ, Bool, true, int_cmp, is_eq, Ok, Err, Result, length, w64, to_z, of_z, cond}
use Rattle.std.specs.Prelude.{◌||◌, nat_lt}
use Rattle.std.specs.BTreeMap.{is_at}
use Rattle.std.specs.BTreeSet.{contains, Updates}
use Rattle.std.proofs.lemmas.Result.{err_from_is_err_and}
use Rattle.std.proofs.lemmas.Int.{to_z-of_z}
use Rattle.qc_types.specs.Answers.{Gives}
use Rattle.qc_types.specs.declared.sql_error.SqlError.{SqlError}
use Rattle.qc_sql.specs.Effects.{has_key}
use Rattle.qc_sql.specs.Errors.{duplicate_entry, table_full}
use Rattle.qc_sql.specs.Rows.{◌>>=◌, refuse_if}
use Rattle.qc_write.specs.Inserts.{key_validated}
use Rattle.qc_write.specs.Targets.{bound_of}
use Rattle.qc_resolve.proofs.Exits.{refused_too}
use Rattle.qc_write.proofs.Rows.{cond_or}
use Rattle.qc_write.proofs.insert.take_key.Goals as goal

abbrev Step : Type 0
Step = Result (Unit {0}) SqlError

pub returns-in_err-check_key-clause-gives : goal.returns-in_err-check_key-clause-gives
returns-in_err-check_key-clause-gives g c =
    let p = err_from_is_err_and c.from_residual.result c.from_residual.ensures.1 in
    let t = c.args.target.now in
    let key = c.args.key in
    let free : ℤ → Step = λ k. refuse_if (has_key t.version.now k || contains int_cmp c.args.taken.now k) (duplicate_entry k) in
    let room = refuse_if (nat_lt 1048576 (length t.version.now.rows + c.args.number)) (table_full t.name) in
    let told : Gives (λ (u : Unit {0}). tt {0}) (λ (e : SqlError). e) (Err c.in_err-check_key.field-0.0) (free (to_z w64 (of_z w64 key))) = c.in_err-check_key.ensures in
    rw (p.1, p.2)
    (refused_too (λ (u : Unit {0}). tt {0}) (λ (u : Unit {0}). tt {0}) c.in_err-check_key.field-0.0 (free (to_z w64 (of_z w64 key))) (free key >>= λ _. room)
    (λ e h. ap (λ (r : Step). r >>= λ _. room) (ap free (sym (to_z-of_z w64 key c.ranges.key)) ∙ h)) told)

pub returns-in_err-check_room-clause-gives : goal.returns-in_err-check_room-clause-gives
returns-in_err-check_room-clause-gives g c =
    let p = err_from_is_err_and c.from_residual-in_err-check_room.result c.from_residual-in_err-check_room.ensures.1 in
    let t = c.args.target.now in
    let key = c.args.key in
    let free : ℤ → Step = λ k. refuse_if (has_key t.version.now k || contains int_cmp c.args.taken.now k) (duplicate_entry k) in
    let room = refuse_if (nat_lt 1048576 (length t.version.now.rows + c.args.number)) (table_full t.name) in
    let fine : free (to_z w64 (of_z w64 key)) ≡ Ok (tt {0}) = c.in_ok-check_key.ensures in
    let told : Gives (λ (u : Unit {0}). tt {0}) (λ (e : SqlError). e) (Err c.in_err-check_room.field-0.0) room = c.in_err-check_room.ensures in
    rw (p.1, p.2)
    (refused_too (λ (u : Unit {0}). tt {0}) (λ (u : Unit {0}). tt {0}) c.in_err-check_room.field-0.0 room (free key >>= λ _. room)
    (λ e h. ap (λ (r : Step). r >>= λ _. room) (ap free (sym (to_z-of_z w64 key c.ranges.key)) ∙ fine) ∙ h) told)

pub returns-clause-gives : goal.returns-clause-gives
returns-clause-gives g c =
    let t = c.args.target.now in
    let key = c.args.key in
    let free : ℤ → Step = λ k. refuse_if (has_key t.version.now k || contains int_cmp c.args.taken.now k) (duplicate_entry k) in
    let room = refuse_if (nat_lt 1048576 (length t.version.now.rows + c.args.number)) (table_full t.name) in
    let fine : free (to_z w64 (of_z w64 key)) ≡ Ok (tt {0}) = c.in_ok-check_key.ensures in
    let roomy : room ≡ Ok (tt {0}) = c.in_ok-check_room.ensures in
    ap (λ (r : Step). r >>= λ _. room) (ap free (sym (to_z-of_z w64 key c.ranges.key)) ∙ fine) ∙ roomy

pub returns-clause-taken : goal.returns-clause-taken
returns-clause-taken g c =
    let key = c.args.key in
    let old = c.args.taken.now in
    let more : Updates int_cmp old c.insert.new.self (to_z w64 (of_z w64 key)) true = c.in_ok-insert.ensures.updates in
    λ q. more.0 q ∙ ap (λ (k : ℤ). cond (is_at (int_cmp k) q) true (contains int_cmp old q)) (to_z-of_z w64 key c.ranges.key) ∙ cond_or (is_eq (int_cmp key q)) (contains int_cmp old q)
