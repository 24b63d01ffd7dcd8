-- What ending a transaction gives, by the rows that its operations write.
use Rattle.std.proofs.Common.{◌≡◌, ℕ, ◌+◌, List, [], ◌∷◌, ◌++◌, refl, sym, ap, ◌∙◌, Option}
use Rattle.std.specs.Prelude.{Some, None}
use Rattle.qc_sql.specs.declared.tables.RowOp.{RowOp}
use Rattle.qc_model.specs.Journal.{Journal, present, before}
use Rattle.qc_model.specs.Session.{State, Transaction}
use Rattle.qc_model.specs.Conflicts.{Conflict, Written, all_written, conflict_above, conflict_of}
use Rattle.qc_trx.specs.declared.progress.Snapshot.{Snapshot}
use Rattle.qc_trx.specs.declared.writes.OwnRow.{OwnRow}
use Rattle.qc_trx.specs.Endings.{IsOriginIn, end_of, unless_in_conflict}
use Rattle.qc_trx.specs.Progresses.{IsSeen}
use Rattle.qc_trx.specs.Writes.{own_rows, rows_written}
use Rattle.qc_trx.proofs.Aboves.{by_rows}
use Rattle.qc_trx.proofs.Meets.{rows_alone}

-- a transaction with a snapshot is in conflict where one of its rows is met
pub conflict_is : (s : Snapshot) (own : List RowOp) (rows : List (Option OwnRow)) (journal : Journal) → IsSeen s own rows → IsOriginIn journal s.place (Some s.origin)
    → conflict_of (record { snapshot = Some s.place; operations = own }) journal ≡ conflict_above s.place (rows_written rows) 1 [] journal
conflict_is s own rows journal h o =
    let is : s.origin ≡ present (before s.place journal) = let e = o.is in cc in
    let at : all_written own (present (before s.place journal)) ≡ all_written own s.origin = ap (all_written own) (sym is) in
    let by = by_rows s.place 1 (all_written own s.origin) (rows_written (own_rows own s.origin)) [] journal (λ theirs. rows_alone own s.origin theirs) in
    ap (λ (ws : List Written). conflict_above s.place ws 1 [] journal) at
    ∙ (by ∙ ap (λ (rs : List (Option OwnRow)). conflict_above s.place (rows_written rs) 1 [] journal) (sym h.noted))
