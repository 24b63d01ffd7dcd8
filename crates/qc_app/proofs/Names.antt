-- The names of columns in the journal of a sound server are short.
use Rattle.std.proofs.Common.{◌≡◌, zero, suc, Bool, true, List, [], ◌∷◌, arith}
use Rattle.std.specs.List.{list_all, All}
use Rattle.std.proofs.lemmas.Bool.{and_parts}
use Rattle.qc_sql.specs.declared.tables.Column.{Column}
use Rattle.qc_sql.specs.declared.tables.RowOp.{RowOp}
use Rattle.qc_sql.specs.declared.tables.RowOp.TheVariants as op
use Rattle.qc_types.specs.declared.options.Options.{Options}
use Rattle.qc_model.specs.declared.events.Event.{Event}
use Rattle.qc_model.specs.declared.events.Event.TheVariants as event
use Rattle.qc_model.specs.declared.reports.SessionReport.{SessionReport}
use Rattle.qc_laws.specs.runs.Runs.{report_of}
use Rattle.qc_laws.specs.sizes.Names.{is_short}
use Rattle.qc_laws.specs.sizes.Replies.{is_bounded_column, is_bounded_kind, is_bounded_operation}
use Rattle.qc_laws.specs.sizes.Operations.{is_small_event, is_small_operation, makes_short_name}
use Rattle.qc_core.specs.declared.server_state.ServerState.{ServerState}
use Rattle.qc_core.specs.Whole.{IsSomewhereSound}
use Rattle.qc_script.specs.ShortNames.{HasShortNames, HasShortColumns, HasShortName, MakesShortColumns}

all_of : {X : Type 0} (p : X → Bool) (P : X → Type 0) → ((x : X) → p x ≡ true → P x) → (xs : List X) → list_all p xs ≡ true → All P xs
all_of p P f [] h k d lt = absurd (omega (arith, lt))
all_of p P f (x ∷ xs) h zero d lt = f x (and_parts (p x) (list_all p xs) h).0
all_of p P f (x ∷ xs) h (suc k) d lt = all_of p P f xs (and_parts (p x) (list_all p xs) h).1 k d (omega (arith, lt))

column_short : (c : Column) → is_bounded_column c ≡ true → HasShortName c
column_short c h = let short = (and_parts (is_short c.name) (is_bounded_kind c.kind) h).0 in grind (arith)

bounded_short : (o : RowOp) → is_bounded_operation o ≡ true → MakesShortColumns o
bounded_short (op.CreateTable t columns) h = all_of is_bounded_column HasShortName column_short columns (and_parts _ (list_all is_bounded_column columns) h).1
bounded_short (op.Put t row) h = tt
bounded_short (op.Del t key) h = tt
bounded_short (op.DropTable t) h = tt
bounded_short (op.CreateDb name) h = tt
bounded_short (op.DropDb name) h = tt

operation_short : (o : RowOp) → is_small_operation o ≡ true → MakesShortColumns o
operation_short o h = bounded_short o (and_parts (is_bounded_operation o) (makes_short_name o) h).0

event_short : (e : Event) → is_small_event e ≡ true → HasShortColumns e
event_short (event.Commit who ops) h = all_of is_small_operation MakesShortColumns operation_short ops h
event_short (event.Run who x) h = tt
event_short (event.Done serial) h = tt
event_short (event.Gone serial why) h = tt
event_short (event.Prune serial need largest) h = tt
event_short (event.Reset who) h = tt
event_short (event.Flush who) h = tt

pub names_are_short : (options : Options) (sessions : List SessionReport) (server : ServerState) → IsSomewhereSound server → HasShortNames (report_of options sessions server.journal.events)
names_are_short options sessions server sound = all_of is_small_event HasShortColumns event_short server.journal.events sound.1.1.sound.journal.small
