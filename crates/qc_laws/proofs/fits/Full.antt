-- No table is full exactly where none has more rows than it may have.
use Rattle.std.proofs.Common.{◌≡◌, Bool, true, [], ◌∷◌, length, refl, ap, ◌∙◌, None}
use Rattle.std.specs.Prelude.{nat_lt, nat_le}
use Rattle.std.specs.List.{list_all}
use Rattle.std.proofs.lemmas.Bool.{and_parts, and_from, ltb-false, le-ltb, leb-true, le-leb}
use Rattle.qc_types.specs.declared.names.TableName.{TableName}
use Rattle.qc_sql.specs.Database.{Name, Table, Tables, most_rows}
use Rattle.qc_sql.specs.Words.{◌or_else◌, when}
use Rattle.qc_model.specs.Machine.{full_in, full_table}
use Rattle.qc_model.specs.Licence.{is_within_rows}
use Rattle.qc_laws.specs.fits.Laws.{NoneIsFull, WithinIsNotFull}
use Rattle.qc_laws.proofs.fits.Kept.{neither, not_when}

abbrev has_room : Table → Bool
has_room x = nat_le (length x.rows) most_rows

abbrev have_room : Tables → Bool
have_room ts = list_all (λ entry. has_room entry.1) ts

abbrev called : Name → Name → TableName
called db name = record { db = db; name = name }

none_full_in : (db : Name) (ts : Tables) → full_in db ts ≡ None → have_room ts ≡ true
none_full_in db [] h = refl
none_full_in db (t ∷ ts) h =
    let parts = neither (when (nat_lt most_rows (length t.1.rows)) (called db t.0)) (full_in db ts) h in
    let few = ltb-false most_rows (length t.1.rows) (not_when (nat_lt most_rows (length t.1.rows)) (called db t.0) parts.0) in
    and_from (has_room t.1) (have_room ts) (le-leb (length t.1.rows) most_rows few) (none_full_in db ts parts.1)

pub none_is_full : NoneIsFull
none_is_full [] h = refl
none_is_full (e ∷ d) h =
    let parts = neither (full_in e.0 e.1) (full_table d) h in
    and_from (have_room e.1) (is_within_rows d) (none_full_in e.0 e.1 parts.0) (none_is_full d parts.1)

room_in : (db : Name) (ts : Tables) → have_room ts ≡ true → full_in db ts ≡ None
room_in db [] h = refl
room_in db (t ∷ ts) h =
    let parts = and_parts (has_room t.1) (have_room ts) h in
    let few = le-ltb most_rows (length t.1.rows) (leb-true (length t.1.rows) most_rows parts.0) in
    ap (λ b. when b (called db t.0) or_else full_in db ts) few ∙ room_in db ts parts.1

pub within_is_not_full : WithinIsNotFull
within_is_not_full [] h = refl
within_is_not_full (e ∷ d) h =
    let parts = and_parts (have_room e.1) (is_within_rows d) h in
    ap (λ o. o or_else full_table d) (room_in e.0 e.1 parts.0) ∙ within_is_not_full d parts.1
