-- USE, by whether the database is there.
use Rattle.std.proofs.Common.{◌≡◌, refl, sym, ◌∙◌, ap, subst, Option, None, Some, Ok, Err}
use Rattle.std.specs.Prelude.{is_some, if◌then◌else◌}
use Rattle.qc_types.specs.declared.options.Options.{Options}
use Rattle.qc_types.specs.declared.sql_error.SqlError.{SqlError}
use Rattle.qc_sql.specs.Database.{Name, Database, Tables, tables_of}
use Rattle.qc_sql.specs.Errors.{unknown_database}
use Rattle.qc_laws.specs.sizes.Replies.{FitsError}
use Rattle.qc_laws.proofs.sizes.Answered.{unknown_database_fits}
use Rattle.qc_model.specs.declared.events.Who.{Who}
use Rattle.qc_model.specs.Journal.{Journal}
use Rattle.qc_model.specs.Session.{State, base}
use Rattle.qc_model.specs.Machine.{ok_reply, other, refused, used}
use Rattle.qc_trx.specs.SnapshotStates.{SnapshotState, in_database, seen_on}
use Rattle.qc_statements.specs.Statements.{chosen}
use Rattle.qc_statements.specs.Sound.{IsSound, IsFitState}
use Rattle.qc_statements.proofs.Shorts.{short_there}
use Rattle.qc_statements.proofs.States.{base_is, fit_in_database, orderly_base}

-- what a session sees is what its next statement is validated on
pub view_is : {o : Options} (J : Journal) (d : Database) (x : SnapshotState) → IsSound o J d → IsFitState J x → seen_on d x ≡ base x.state J
view_is J d x s f = ap (λ (e : Database). seen_on e x) s.database ∙ base_is J x f

pub used_none : (who : Who) (J : Journal) (state : State) (name : Name) → tables_of name (base state J) ≡ None → other who state (refused (unknown_database name)) ≡ used who state J name
used_none who J state name h = rw h refl

pub used_there : (who : Who) (J : Journal) (state : State) (name : Name) (ts : Tables) → tables_of name (base state J) ≡ Some ts
    → (let next = record state { db = name } in other who next (ok_reply next 0)) ≡ used who state J name
used_there who J state name ts h = rw h refl

by_there : {X : Type 0} (o : Option Tables) (a b : X) (e : SqlError) → (if is_some o then Ok a else Err e) ≡ Ok b → (b ≡ a) × ((ts : Tables) × (o ≡ Some ts))
by_there None a b e h = absurd cc
by_there {X} (Some ts) a b e h = let same : ◌≡◌ {A = X} a b = cc in (sym same, (ts, refl))

by_missing : {X : Type 0} (o : Option Tables) (a : X) (e f : SqlError) → (if is_some o then Ok a else Err e) ≡ Err f → (f ≡ e) × (o ≡ None)
by_missing None a e f h = let same : ◌≡◌ {A = SqlError} e f = cc in (sym same, refl)
by_missing (Some ts) a e f h = absurd cc

-- what USE gives where the database is seen: its state fits, and its reply and its state are the machine's
pub record IsChosen (who : Who) (J : Journal) (x next : SnapshotState) (name : Name) : Type 0 where
  pub is : next ≡ in_database name x
  pub fit : IsFitState J next
  pub given : other who next.state (ok_reply next.state 0) ≡ used who x.state J name

pub chosen_fits : {o : Options} (who : Who) (J : Journal) (d : Database) (x next : SnapshotState) (name : Name) → IsSound o J d → IsFitState J x → chosen name d x ≡ Ok next → IsChosen who J x next name
chosen_fits who J d x next name s f h =
    let found = by_there (tables_of name (seen_on d x)) (in_database name x) next (unknown_database name) h in
    let ts = found.1.0 in
    let there : tables_of name (base x.state J) ≡ Some ts = ap (tables_of name) (sym (view_is J d x s f)) ∙ found.1.1 in
    let orderly = orderly_base J d x s f in
    let short = short_there name ts (base x.state J) there orderly.short in
    record {
      is = found.0;
      fit = subst (IsFitState J) (sym found.0) (fit_in_database J name x short f);
      given = ap (λ (y : SnapshotState). other who y.state (ok_reply y.state 0)) found.0 ∙ used_there who J x.state name ts there;
    }

-- and where it isn't
pub not_chosen : {o : Options} (who : Who) (J : Journal) (d : Database) (x : SnapshotState) (name : Name) (e : SqlError) → IsSound o J d → IsFitState J x → chosen name d x ≡ Err e
    → (other who x.state (refused e) ≡ used who x.state J name) × FitsError e
not_chosen who J d x name e s f h =
    let missing = by_missing (tables_of name (seen_on d x)) (in_database name x) (unknown_database name) e h in (
      ap (λ (y : SqlError). other who x.state (refused y)) missing.0 ∙ used_none who J x.state name (ap (tables_of name) (sym (view_is J d x s f)) ∙ missing.1),
      subst FitsError (sym missing.0) (unknown_database_fits name),
    )
