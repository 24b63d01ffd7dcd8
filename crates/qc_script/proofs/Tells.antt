-- What is read is told whole by its text.
use Rattle.std.proofs.Common.{◌≡◌, ℕ, zero, suc, ◌+◌, ◌^◌, ◌<◌, ◌≤◌, Bool, true, false, List, [], ◌∷◌, length, take, drop, Result, Ok, Err, Option, Some, None, refl, sym, ap, subst, ◌∙◌, arith}
use Rattle.std.specs.Prelude.{◌==◌, bytes_eq, codes, decimal, ℤ, IfOk, IfSome, slice_index, if◌then◌else◌}
use Rattle.std.specs.List.{AllByRecursion}
use Rattle.std.proofs.lemmas.Bool.{and_parts, ltb-true, ltb-false}
use Rattle.std.proofs.lemmas.List.{length-take}
use Rattle.byteorder.specs.Numbers.{little_from-lt}
use Rattle.hex.specs.declared.error.FromHexError.{FromHexError}
use Rattle.hex.specs.Hex.{decode_of, decode_pairs}
use Rattle.hex.proofs.HexLemmas.{decode_pairs-ok}
use Rattle.qc_types.specs.declared.names.Why.TheVariants as why
use Rattle.qc_sql.specs.declared.tables.Column.{Column}
use Rattle.qc_sql.specs.declared.tables.Kind.{Kind}
use Rattle.qc_sql.specs.declared.tables.Kind.TheVariants as kind
use Rattle.qc_sql.specs.declared.tables.RowOp.{RowOp}
use Rattle.qc_sql.specs.declared.tables.RowOp.TheVariants as op
use Rattle.qc_model.specs.declared.events.How.TheVariants as how
use Rattle.qc_model.specs.declared.events.Reason.TheVariants as reason
use Rattle.qc_model.specs.declared.events.GoneWhy.TheVariants as gone
use Rattle.qc_model.specs.declared.events.Event.{Event}
use Rattle.qc_model.specs.declared.events.Event.TheVariants as event
use Rattle.qc_model.specs.declared.reports.Ending.TheVariants as ending
use Rattle.qc_model.specs.declared.reports.SessionReport.{SessionReport}
use Rattle.qc_model.specs.declared.reports.Report.{Report}
use Rattle.qc_model.specs.ReportText.{Text, table_text, option_fields, counter_fields, event_fields, line_text, lines}
use Rattle.qc_script.specs.declared.reading.misspelt.Misspelt.{Misspelt}
use Rattle.qc_script.specs.declared.reports.sessions.Head.{Head}
use Rattle.qc_script.specs.ReportParts.{head_fields}
use Rattle.qc_script.specs.Told.{Told, nothing, ◌>>=◌, front, behind, behind_two, members, each, number_told, number_below, signed_told, decoded, bytes_told, table_told, table_among, tables_told, key_told, taken, little, integer_told, cell_behind, cell_told, number_or_text, value_told, first_kind, cells_told, row_told, kind_told, column_of, column_told, columns_within, columns_told, KindsMade, kinds_at, put_told, create_told, del_told, change_told, op_told, ops_told, who_told, why_told, not_visible_told, reason_told, start_told, totals_told, conflict_told, how_told, gone_told, run_told, commit_told, prune_told, gone_event_told, other_told, event_told, behind_word, spelt, one_line, options_in, options_line, counters_in, counters_line, count_line, ending_told, head_in, head_line, word_told, command_in, command_line, event_line, Unread, line_at, at_number, told_at, behind_line, times, command_at, session_at, sessions_at, Behind, behind_event, event_at, events_at, journal_at, ended, report_told}
use Rattle.qc_script.specs.Tellable.{IsU8, IsU16, IsU64, IsI64, AreBytes, IsName, IsNoNumber, IsText, FitsKind, FitKinds, IsKind, IsColumn, TellsOp, made_by, TellOps, made_by_all, IsWho, IsWhy, IsReason, AreTotals, IsHow, IsGoneWhy, TellsEvent, made_by_event, TellEvents, IsEnding, IsLine, IsSession, AreOptions, AreCounters, IsTellable}
use Rattle.qc_script.proofs.Numbers.{signed_is}

-- ---- steps

-- ---- what holds of a value that is read

pub record Holds {A E : Type 0} (r : Result A E) (P : A → Type 0) : Type 0 where
  pub of : IfOk r P

ok : {A E : Type 0} {P : A → Type 0} (x : A) → P x → Holds {E = E} (Ok x) P
ok x h = record { of = h }

refused : {A E : Type 0} {P : A → Type 0} (e : E) → Holds {A = A} (Err e) P
refused e = record { of = tt }

-- what holds of a step's value, and then of what goes on from it
on : {A B E : Type 0} {P : A → Type 0} {Q : B → Type 0} (r : Result A E) (f : A → Result B E) → Holds r P → ((x : A) → P x → Holds (f x) Q) → Holds (r >>= f) Q
on (Ok x) f h g = g x h.of
on (Err e) f h g = record { of = tt }

any : {A E : Type 0} (r : Result A E) → Holds r (λ x. Unit {0})
any (Ok x) = record { of = tt }
any (Err e) = record { of = tt }

by_test : {A E : Type 0} {P : A → Type 0} (b : Bool) (x y : Result A E) → Holds x P → Holds y P → Holds (if b then x else y) P
by_test true x y hx hy = hx
by_test false x y hx hy = hy

where_true : {A : Type 0} {P : A → Type 0} (b : Bool) (x : A) → (b ≡ true → P x) → Holds {E = Misspelt} (if b then Ok x else nothing) P
where_true true x h = record { of = h refl }
where_true false x h = record { of = tt }

where_false : {A : Type 0} {P : A → Type 0} (b : Bool) (x : A) → (b ≡ false → P x) → Holds {E = Misspelt} (if b then nothing else Ok x) P
where_false true x h = record { of = tt }
where_false false x h = record { of = h refl }

-- ---- fields

number_ok : (t : Text) → Holds (number_told t) IsU64
unfolding number_told
number_ok t = where_true _ _ (λ e. ltb-true _ _ (and_parts _ _ e).0)

below_ok : (limit : ℕ) (t : Text) → Holds (number_below limit t) (λ n. n < limit)
unfolding number_below
below_ok limit t = on (number_told t) _ (any (number_told t)) (λ n u. where_true _ n (λ e. ltb-true n limit e))

signed_ok : (t : Text) → Holds (signed_told t) IsI64
unfolding signed_told
signed_ok t = where_true _ _ (λ e. ltb-true _ _ (and_parts _ _ e).0)

are_bytes : (bs : Text) → ((i : ℕ) → slice_index bs i < 256) → AreBytes bs
are_bytes [] h = tt
are_bytes (b ∷ bs) h = (h 0, are_bytes bs (λ i. h (suc i)))

by_place : (bs : Text) → AreBytes bs → (i : ℕ) → slice_index bs i < 256
by_place [] all i = omega arith
by_place (b ∷ bs) all zero = all.0
by_place (b ∷ bs) all (suc i) = by_place bs all.1 i

decoded_ok : (r : Result Text FromHexError) → ((bs : Text) → r ≡ Ok bs → AreBytes bs) → Holds (decoded r) AreBytes
decoded_ok (Ok bs) h = ok _ (h bs refl)
decoded_ok (Err e) h = refused _

even_pairs : (b : Bool) (e : FromHexError) (r : Result Text FromHexError) (bs : Text) → (if b then Err e else r) ≡ Ok bs → r ≡ Ok bs
even_pairs true e r bs h = absurd cc
even_pairs false e r bs h = h

bytes_ok : (t : Text) → Holds (bytes_told t) AreBytes
unfolding bytes_told
bytes_ok t = by_test _ _ _ (ok _ tt) (decoded_ok (decode_of t) (λ bs h. are_bytes bs (decode_pairs-ok 0 t bs (even_pairs _ _ (decode_pairs 0 t) bs h)).2))

table_ok : (t : Text) → Holds (table_told t) IsName
unfolding table_told
table_ok t = on (bytes_told (front 46 t)) _ (bytes_ok _) (λ db hd. on (bytes_told (behind 46 t)) _ (bytes_ok _) (λ name hn. ok _ (record { db = hd; name = hn })))

each_table_ok : (u : Unit {0}) (ts : List Text) → Holds (each table_among u ts) (λ r. AllByRecursion IsName r.0)
unfolding each
each_table_ok u [] = ok _ tt
each_table_ok u (t ∷ ts) =
    on (table_among u t) _ (on {Q = λ p. IsName p.0} (table_told t) _ (table_ok t) (λ x h. ok _ h)) (λ first hf. on (each table_among first.1 ts) _ (each_table_ok first.1 ts) (λ others ho. ok _ (hf, ho)))

tables_ok : (t : Text) → Holds (tables_told t) (λ ts. AllByRecursion IsName ts)
unfolding tables_told
tables_ok t = on (each table_among tt (members t)) _ (each_table_ok tt (members t)) (λ ts h. ok _ h)

key_ok : (t : Text) → Holds (key_told t) (λ k. IfSome k IsI64)
unfolding key_told
key_ok t = by_test _ _ _ (ok _ tt) (on (signed_told t) _ (signed_ok t) (λ z h. ok _ h))

-- ---- rows and columns

bytes_taken : (n : ℕ) (bs : Text) → AreBytes bs → AreBytes (take n bs) × AreBytes (drop n bs)
bytes_taken zero bs all = (tt, all)
bytes_taken (suc n) [] all = (tt, tt)
bytes_taken (suc n) (b ∷ bs) all = let rest = bytes_taken n bs all.1 in ((all.0, rest.0), rest.1)

pub record Took (n : ℕ) (r : Text × Text) : Type 0 where
  pub bytes : AreBytes r.0
  pub rest : AreBytes r.1
  pub size : length r.0 ≡ n

taken_ok : (n : ℕ) (t : Text) → AreBytes t → Holds (taken n t) (Took n)
taken_ok n t all =
    where_false _ _ (λ e.
    let long : n ≤ length t = ltb-false (length t) n e in
    let parts = bytes_taken n t all in
    record { bytes = parts.0; rest = parts.1; size = omega (arith, length-take n t, long) })

pub record Number (limit : ℕ) (r : ℕ × Text) : Type 0 where
  pub below : r.0 < limit
  pub rest : AreBytes r.1

little_ok : (n : ℕ) (t : Text) → AreBytes t → Holds (little n t) (Number (256 ^ n))
unfolding little
little_ok n t all = on (taken n t) _ (taken_ok n t all) (λ b h. ok _ (record { below = little_from-lt 0 n b.0 (by_place b.0 h.bytes); rest = h.rest }))

widen : (limit : ℕ) (r : Told (ℕ × Text)) → limit ≤ 2 ^ 64 → Holds r (Number limit) → Holds r (Number (2 ^ 64))
widen limit (Ok x) le h = let n = h.of in ok _ (record { below = omega (arith, le, n.below); rest = n.rest })
widen limit (Err e) le h = refused _

integer_ok : (first : ℕ) (t : Text) → first < 256 → AreBytes t → Holds (integer_told first t) (Number (2 ^ 64))
unfolding integer_told
integer_ok first t lt all =
    by_test _ _ _ (ok _ (record { below = omega (arith, lt); rest = all }))
    (by_test _ _ _ (widen (256 ^ 2) (little 2 t) (omega arith) (little_ok 2 t all))
    (by_test _ _ _ (widen (256 ^ 3) (little 3 t) (omega arith) (little_ok 3 t all))
    (by_test _ _ _ (widen (256 ^ 8) (little 8 t) (omega arith) (little_ok 8 t all)) (refused _))))

abbrev IsCell : Option Text → Type 0
IsCell None = Unit {0}
IsCell (Some t) = IsText t

pub record Cell (r : Option Text × Text) : Type 0 where
  pub cell : IsCell r.0
  pub rest : AreBytes r.1

cell_ok : (t : Text) → AreBytes t → Holds (cell_told t) Cell
unfolding cell_told cell_behind
cell_ok t all =
    on (little 1 t) _ (little_ok 1 t all) (λ first hf.
    by_test _ _ _ (ok _ (record { cell = tt; rest = hf.rest }))
    (on (integer_told first.0 first.1) _ (integer_ok first.0 first.1 (omega (arith, hf.below)) hf.rest) (λ size hs.
    on (taken size.0 size.1) _ (taken_ok size.0 size.1 hs.rest) (λ text h. ok _ (record { cell = record { bytes = h.bytes; size = omega (arith, h.size, hs.below) }; rest = h.rest })))))

no_number : (t : Text) (e : Misspelt) → signed_told t ≡ Err e → IsNoNumber t
no_number t e told z fits is = absurd (apart e z (sym told ∙ signed_is t z fits is))
  where
    apart : (m : Misspelt) (y : ℤ) → ◌≡◌ {A = Told ℤ} (Err m) (Ok y) → ⊥
    apart m y p = absurd cc

number_or_text_fits : (t : Text) (r : Told ℤ) → signed_told t ≡ r → Holds r IsI64 → IsText t → FitsKind (Some kind.Int) (number_or_text t r)
number_or_text_fits t (Ok z) told fits is = fits.of
number_or_text_fits t (Err e) told fits is = (is, no_number t e told)

value_fits : (k : Option Kind) (c : Option Text) → IsCell c → FitsKind k (value_told k c)
value_fits k None is = tt
value_fits None (Some t) is = is
value_fits (Some (kind.Str n)) (Some t) is = is
value_fits (Some kind.Int) (Some t) is = number_or_text_fits t (signed_told t) refl (signed_ok t) is

cells_ok : (n : ℕ) (kinds : List Kind) (t : Text) → AreBytes t → Holds (cells_told n kinds t) (FitKinds kinds)
unfolding cells_told
cells_ok zero kinds [] all = ok _ tt
cells_ok (suc n) kinds [] all = ok _ tt
cells_ok zero kinds (b ∷ bs) all = refused _
cells_ok (suc n) kinds (b ∷ bs) all =
    on (cell_told (b ∷ bs)) _ (cell_ok (b ∷ bs) all) (λ cell hc. on (cells_told n (drop 1 kinds) cell.1) _ (cells_ok n (drop 1 kinds) cell.1 hc.rest) (λ others ho. ok _ (value_fits (first_kind kinds) cell.0 hc.cell, ho)))

kind_ok : (k size : ℕ) → IsU16 size → Holds (kind_told k size) IsKind
unfolding kind_told
kind_ok k size lt = by_test (k == 0) _ _ (ok kind.Int tt) (where_true (k == 1) (kind.Str size) (λ e. lt))

column_of_ok : (name : Text) (k : Kind) (flags : ℕ) → AreBytes name → length name ≤ 255 → IsKind k → Holds (column_of name k flags) IsColumn
unfolding column_of
column_of_ok name k flags all short is =
    by_test (flags == 0) _ _ (ok (record { name = name; kind = k; not_null = false; primary = false }) (record { short = short; name = all; kind = is; key = λ e. absurd (apart e) }))
    (by_test (flags == 1) _ _ (ok (record { name = name; kind = k; not_null = true; primary = false }) (record { short = short; name = all; kind = is; key = λ e. refl }))
    (by_test (flags == 3) _ _ (ok (record { name = name; kind = k; not_null = true; primary = true }) (record { short = short; name = all; kind = is; key = λ e. refl })) (refused _)))
  where
    apart : false ≡ true → ⊥
    apart e = absurd cc

pub record ColumnRead (r : Column × Text) : Type 0 where
  pub column : IsColumn r.0
  pub rest : AreBytes r.1

column_ok : (t : Text) → AreBytes t → Holds (column_told t) ColumnRead
unfolding column_told
column_ok t all =
    on (little 1 t) _ (little_ok 1 t all) (λ size hs.
    on (taken size.0 size.1) _ (taken_ok size.0 size.1 hs.rest) (λ name hn.
    on (little 1 name.1) _ (little_ok 1 name.1 hn.rest) (λ which hw.
    on (little 2 which.1) _ (little_ok 2 which.1 hw.rest) (λ long hl.
    on (little 1 long.1) _ (little_ok 1 long.1 hl.rest) (λ flags hf.
    on (kind_told which.0 long.0) _ (kind_ok which.0 long.0 (omega (arith, hl.below))) (λ k hk.
    on (column_of name.0 k flags.0) _ (column_of_ok name.0 k flags.0 hn.bytes (omega (arith, hn.size, hs.below)) hk) (λ c hc. ok _ (record { column = hc; rest = hf.rest }))))))))

columns_ok : (n : ℕ) (t : Text) → AreBytes t → Holds (columns_within n t) (λ cs. AllByRecursion IsColumn cs)
unfolding columns_within
columns_ok zero [] all = ok _ tt
columns_ok (suc n) [] all = ok _ tt
columns_ok zero (b ∷ bs) all = refused _
columns_ok (suc n) (b ∷ bs) all = on (column_told (b ∷ bs)) _ (column_ok (b ∷ bs) all) (λ c hc. on (columns_within n c.1) _ (columns_ok n c.1 hc.rest) (λ others ho. ok _ (hc.column, ho)))

-- ---- operations

pub record OpRead (made : KindsMade) (r : RowOp × KindsMade) : Type 0 where
  pub tells : TellsOp made r.0
  pub after : r.1 ≡ made_by r.0 made

pub record Change (made : KindsMade) (o : RowOp) : Type 0 where
  pub tells : TellsOp made o
  pub same : made ≡ made_by o made

row_ok : (kinds : List Kind) (t : Text) → AreBytes t → Holds (row_told kinds t) (FitKinds kinds)
row_ok kinds t all = cells_ok (length t) kinds t all

put_ok : (made : KindsMade) (t : Text) → Holds (put_told made t) (Change made)
unfolding put_told
put_ok made t =
    on (table_told (front 58 t)) _ (table_ok _) (λ table ht.
    on (bytes_told (behind 58 t)) _ (bytes_ok _) (λ payload hp.
    on (row_told (kinds_at (table_text table) made) payload) _ (row_ok (kinds_at (table_text table) made) payload hp) (λ row hr. ok _ (record { tells = (ht, hr); same = refl }))))

create_ok : (made : KindsMade) (t : Text) → Holds (create_told made t) (OpRead made)
unfolding create_told
create_ok made t =
    on (bytes_told (behind 58 t)) _ (bytes_ok _) (λ payload hp.
    on (columns_told payload) _ (columns_ok (length payload) payload hp) (λ columns hc.
    on (table_told (front 58 t)) _ (table_ok _) (λ table ht. ok _ (record { tells = (ht, hc); after = refl }))))

del_ok : (made : KindsMade) (t : Text) → Holds (del_told t) (Change made)
unfolding del_told
del_ok made t = on (table_told (front 58 t)) _ (table_ok _) (λ table ht. on (signed_told (behind 58 t)) _ (signed_ok _) (λ key hk. ok _ (record { tells = (ht, hk); same = refl })))

change_ok : (made : KindsMade) (w t : Text) → Holds (change_told made w t) (Change made)
unfolding change_told
change_ok made w t =
    by_test (bytes_eq w (codes "put")) _ _ (put_ok made t)
    (by_test (bytes_eq w (codes "del")) _ _ (del_ok made t)
    (by_test (bytes_eq w (codes "drop")) _ _ (on (table_told t) (λ table. Ok (op.DropTable table)) (table_ok t) (λ table ht. ok (op.DropTable table) (record { tells = ht; same = refl })))
    (by_test (bytes_eq w (codes "createdb")) _ _ (on (bytes_told t) (λ name. Ok (op.CreateDb name)) (bytes_ok t) (λ name hn. ok (op.CreateDb name) (record { tells = hn; same = refl })))
    (by_test (bytes_eq w (codes "dropdb")) _ _ (on (bytes_told t) (λ name. Ok (op.DropDb name)) (bytes_ok t) (λ name hn. ok (op.DropDb name) (record { tells = hn; same = refl }))) (refused _)))))

op_ok : (made : KindsMade) (t : Text) → Holds (op_told made t) (OpRead made)
unfolding op_told
op_ok made t =
    by_test _ _ _ (create_ok made (behind 58 t))
    (on (change_told made (front 58 t) (behind 58 t)) _ (change_ok made (front 58 t) (behind 58 t)) (λ o h. ok _ (record { tells = h.tells; after = h.same })))

pub record OpsRead (made : KindsMade) (r : List RowOp × KindsMade) : Type 0 where
  pub tell : TellOps made r.0
  pub after : r.1 ≡ made_by_all r.0 made

ops_ok : (made : KindsMade) (ts : List Text) → Holds (each op_told made ts) (OpsRead made)
unfolding each
ops_ok made [] = ok _ (record { tell = tt; after = refl })
ops_ok made (t ∷ ts) =
    on (op_told made t) _ (op_ok made t) (λ first hf.
    on (each op_told first.1 ts) _ (ops_ok first.1 ts) (λ others ho. ok _ (record {
      tell = (hf.tells, subst (λ m. TellOps m others.0) hf.after ho.tell);
      after = ho.after ∙ ap (made_by_all others.0) hf.after;
    })))

-- ---- events

who_ok : (t : Text) → Holds (who_told t) IsWho
unfolding who_told
who_ok t = on (number_below (2 ^ 8) (front 32 t)) _ (below_ok _ _) (λ s hs. on (number_told (front 32 (behind 32 t))) _ (number_ok _) (λ n hn. ok _ (record { session = hs; number = hn })))

why_ok : (w t : Text) → Holds (why_told w t) IsWhy
unfolding why_told
why_ok w t =
    by_test (bytes_eq w (codes "locking")) _ _ (ok why.Locking tt)
    (by_test (bytes_eq w (codes "notables")) _ _ (ok why.NoTables tt)
    (by_test (bytes_eq w (codes "systemtable")) _ _ (on (table_told t) (λ table. Ok (why.SystemTable table)) (table_ok t) (λ table h. ok (why.SystemTable table) h))
    (by_test (bytes_eq w (codes "function")) _ _ (on (bytes_told t) (λ name. Ok (why.Function name)) (bytes_ok t) (λ name h. ok (why.Function name) h)) (refused _))))

not_visible_ok : (t : Text) → Holds (not_visible_told t) IsReason
unfolding not_visible_told
not_visible_ok t =
    on (table_told (front 32 t)) _ (table_ok _) (λ table ht.
    on (number_told (front 32 (behind 32 t))) _ (number_ok _) (λ changed hc. on (number_told (behind_two t)) _ (number_ok _) (λ snapshot hs. ok _ (ht, hc, hs))))

reason_ok : (t : Text) → Holds (reason_told t) IsReason
unfolding reason_told
reason_ok t =
    let w : Text = front 32 t in
    let rest : Text = behind 32 t in
    by_test (bytes_eq w (codes "error")) _ _ (on (number_below (2 ^ 16) rest) (λ code. Ok (reason.Error code)) (below_ok (2 ^ 16) rest) (λ code h. ok (reason.Error code) h))
    (by_test (bytes_eq w (codes "off")) _ _ (ok reason.Off tt)
    (by_test (bytes_eq w (codes "notasked")) _ _ (ok reason.NotAsked tt)
    (by_test (bytes_eq w (codes "written")) _ _ (on (table_told rest) (λ table. Ok (reason.Written table)) (table_ok rest) (λ table h. ok (reason.Written table) h))
    (by_test (bytes_eq w (codes "notvisible")) _ _ (not_visible_ok rest)
    (by_test (bytes_eq w (codes "rival")) _ _ (on (number_told rest) (λ serial. Ok (reason.Rival serial)) (number_ok rest) (λ serial h. ok (reason.Rival serial) h))
    (by_test (bytes_eq w (codes "noroom")) _ _
    (on (number_below (2 ^ 32) (front 32 rest)) (λ need. number_below (2 ^ 32) (behind 32 rest) >>= λ largest. Ok (reason.NoRoom need largest)) (below_ok _ _) (λ need hn.
    on (number_below (2 ^ 32) (behind 32 rest)) (λ largest. Ok (reason.NoRoom need largest)) (below_ok _ _) (λ largest hl. ok (reason.NoRoom need largest) (hn, hl))))
    (on (why_told w rest) (λ y. Ok (reason.Rule y)) (why_ok w rest) (λ y h. ok (reason.Rule y) h))))))))

start_ok : (t : Text) → Holds (start_told t) IsHow
unfolding start_told
start_ok t =
    on (number_told (front 32 t)) _ (number_ok _) (λ serial hs.
    on (bytes_told (front 32 (behind 32 t))) _ (bytes_ok _) (λ key hk. on (tables_told (behind_two t)) _ (tables_ok _) (λ tables ht. ok _ (hs, hk, ht))))

totals_ok : (t : Text) → Holds (totals_told t) AreTotals
unfolding totals_told
totals_ok t =
    on (number_below (2 ^ 32) (front 32 t)) _ (below_ok _ _) (λ blocks hb.
    on (number_below (2 ^ 32) (front 32 (behind 32 t))) _ (below_ok _ _) (λ free hf.
    on (number_below (2 ^ 35) (behind_two t)) _ (below_ok _ _) (λ bytes h. ok _ (record { blocks = hb; free_blocks = hf; free_words = omega (arith, h) }))))

conflict_ok : (t : Text) → Holds (conflict_told t) IsHow
unfolding conflict_told
conflict_ok t =
    on (table_told (front 32 t)) _ (table_ok _) (λ table ht.
    on (key_told (front 32 (behind 32 t))) _ (key_ok _) (λ key hk. on (number_told (behind_two t)) _ (number_ok _) (λ by hb. ok _ (ht, hk, hb))))

how_ok : (t : Text) → Holds (how_told t) IsHow
unfolding how_told
how_ok t =
    let w : Text = front 32 t in
    let rest : Text = behind 32 t in
    by_test (bytes_eq w (codes "hit")) _ _ (on (number_told rest) (λ serial. Ok (how.Hit serial)) (number_ok rest) (λ serial h. ok (how.Hit serial) h))
    (by_test (bytes_eq w (codes "start")) _ _ (start_ok rest)
    (by_test (bytes_eq w (codes "plain")) _ _ (on (reason_told rest) (λ y. Ok (how.Plain y)) (reason_ok rest) (λ y h. ok (how.Plain y) h))
    (by_test (bytes_eq w (codes "other")) _ _ (ok how.Other tt)
    (by_test (bytes_eq w (codes "status")) _ _ (on (totals_told rest) (λ totals. Ok (how.Status totals)) (totals_ok rest) (λ totals h. ok (how.Status totals) h))
    (by_test (bytes_eq w (codes "conflict")) _ _ (conflict_ok rest) (refused _))))))

gone_ok : (t : Text) → Holds (gone_told t) IsGoneWhy
unfolding gone_told
gone_ok t =
    let w : Text = front 32 t in
    let rest : Text = behind 32 t in
    by_test (bytes_eq w (codes "toolarge")) _ _
    (on (number_told (front 32 rest)) (λ size. number_below (2 ^ 32) (behind 32 rest) >>= λ limit. Ok (gone.TooLarge size limit)) (number_ok _) (λ size hs.
    on (number_below (2 ^ 32) (behind 32 rest)) (λ limit. Ok (gone.TooLarge size limit)) (below_ok _ _) (λ limit hl. ok (gone.TooLarge size limit) (hs, hl))))
    (by_test (bytes_eq w (codes "noroom")) _ _
    (on (number_below (2 ^ 32) (front 32 rest)) (λ need. number_below (2 ^ 32) (behind 32 rest) >>= λ largest. Ok (gone.NoRoom need largest)) (below_ok _ _) (λ need hn.
    on (number_below (2 ^ 32) (behind 32 rest)) (λ largest. Ok (gone.NoRoom need largest)) (below_ok _ _) (λ largest hl. ok (gone.NoRoom need largest) (hn, hl))))
    (by_test (bytes_eq w (codes "ended")) _ _ (ok gone.Ended tt) (refused _)))

pub record EventRead (made : KindsMade) (r : Event × KindsMade) : Type 0 where
  pub tells : TellsEvent made r.0
  pub after : r.1 ≡ made_by_event r.0 made

pub record OtherRead (made : KindsMade) (e : Event) : Type 0 where
  pub tells : TellsEvent made e
  pub same : made ≡ made_by_event e made

commit_ok : (made : KindsMade) (t : Text) → Holds (commit_told made t) (EventRead made)
unfolding commit_told
commit_ok made t =
    on (who_told t) _ (who_ok t) (λ w hw.
    on (ops_told made (behind 32 (behind_two t))) _ (ops_ok made (members (behind 32 (behind_two t)))) (λ os ho. ok _ (record { tells = (hw, ho.tell); after = ho.after })))

run_ok : (made : KindsMade) (t : Text) → Holds (run_told t) (OtherRead made)
unfolding run_told
run_ok made t =
    on (who_told t) _ (who_ok t) (λ who hw. on (how_told (behind_two t)) (λ h. Ok (event.Run who h)) (how_ok _) (λ h hh. ok (event.Run who h) (record { tells = (hw, hh); same = refl })))

gone_event_ok : (made : KindsMade) (t : Text) → Holds (gone_event_told t) (OtherRead made)
unfolding gone_event_told
gone_event_ok made t =
    on (number_told (front 32 t)) _ (number_ok _) (λ serial hs. on (gone_told (behind 32 t)) (λ y. Ok (event.Gone serial y)) (gone_ok _) (λ y hy. ok (event.Gone serial y) (record { tells = (hs, hy); same = refl })))

prune_ok : (made : KindsMade) (t : Text) → Holds (prune_told t) (OtherRead made)
unfolding prune_told
prune_ok made t =
    on (number_told (front 32 t)) _ (number_ok _) (λ serial hs.
    on (number_below (2 ^ 32) (front 32 (behind 32 t))) _ (below_ok _ _) (λ need hn.
    on (number_below (2 ^ 32) (behind_two t)) (λ largest. Ok (event.Prune serial need largest)) (below_ok _ _) (λ largest hl. ok (event.Prune serial need largest) (record { tells = (hs, hn, hl); same = refl }))))

other_ok : (made : KindsMade) (w t : Text) → Holds (other_told w t) (OtherRead made)
unfolding other_told
other_ok made w t =
    by_test (bytes_eq w (codes "run")) _ _ (run_ok made t)
    (by_test (bytes_eq w (codes "done")) _ _ (on (number_told t) (λ serial. Ok (event.Done serial)) (number_ok t) (λ serial h. ok (event.Done serial) (record { tells = h; same = refl })))
    (by_test (bytes_eq w (codes "gone")) _ _ (gone_event_ok made t)
    (by_test (bytes_eq w (codes "prune")) _ _ (prune_ok made t)
    (by_test (bytes_eq w (codes "reset")) _ _ (on (who_told t) (λ who. Ok (event.Reset who)) (who_ok t) (λ who h. ok (event.Reset who) (record { tells = h; same = refl })))
    (by_test (bytes_eq w (codes "flush")) _ _ (on (who_told t) (λ who. Ok (event.Flush who)) (who_ok t) (λ who h. ok (event.Flush who) (record { tells = h; same = refl }))) (refused _))))))

event_ok : (made : KindsMade) (t : Text) → Holds (event_told made t) (EventRead made)
unfolding event_told
event_ok made t =
    by_test _ _ _ (commit_ok made (behind 32 t))
    (on (other_told (front 32 t) (behind 32 t)) _ (other_ok made (front 32 t) (behind 32 t)) (λ e h. ok _ (record { tells = h.tells; after = h.same })))

-- ---- lines

spelt_ok : {A : Type 0} {P : A → Type 0} (line : Text) (text : A → Text) (x : A) → P x → Holds (spelt line text x) P
spelt_ok line text x h = where_true _ x (λ e. h)

pub options_ok : (line : Text) → Holds (options_line line) AreOptions
unfolding options_line options_in
options_ok line =
    let t : Text = behind_word line in
    on {P = AreOptions} (options_in t) _
    (on (number_below (2 ^ 32) (front 32 t)) _ (below_ok _ _) (λ size hs.
    on (number_below (2 ^ 32) (front 32 (behind 32 t))) _ (below_ok _ _) (λ limit hl.
    on (number_below (2 ^ 32) (front 32 (behind_two t))) _ (below_ok _ _) (λ u hu.
    on (number_below (2 ^ 8) (behind 32 (behind_two t))) _ (below_ok _ _) (λ k hk. ok _ (record { size = hs; limit = hl; unit = hu; kind = hk }))))))
    (λ o h. spelt_ok line (λ p. one_line (option_fields p)) o h)

pub counters_ok : (line : Text) → Holds (counters_line line) AreCounters
unfolding counters_line counters_in
counters_ok line =
    on {P = AreCounters} (counters_in (behind_word line)) _
    (on (number_told _) _ (number_ok _) (λ a ha. on (number_told _) _ (number_ok _) (λ b hb. on (number_told _) _ (number_ok _) (λ c hc.
    on (number_told _) _ (number_ok _) (λ d hd. on (number_told _) _ (number_ok _) (λ e he. on (number_told _) _ (number_ok _) (λ f hf.
    ok _ (record { com_select = ha; hits = hb; inserts = hc; not_cached = hd; lowmem_prunes = he; queries_in_cache = hf }))))))))
    (λ o h. spelt_ok line (λ p. one_line (counter_fields p)) o h)

pub count_ok : (w line : Text) → Holds (count_line w line) IsU64
unfolding count_line
count_ok w line = on (number_told (behind_word line)) _ (number_ok _) (λ n h. spelt_ok line (λ m. one_line (w ∷ decimal m ∷ [])) n h)

ending_ok : (t : Text) → Holds (ending_told t) IsEnding
unfolding ending_told
ending_ok t =
    let w : Text = front 32 t in
    let rest : Text = behind 32 t in
    by_test (bytes_eq w (codes "quit")) _ _ (ok ending.Quit tt)
    (by_test (bytes_eq w (codes "input")) _ _ (ok ending.Input tt)
    (by_test (bytes_eq w (codes "cut")) _ _ (on (number_below (2 ^ 32) rest) (λ size. Ok (ending.Cut size)) (below_ok _ _) (λ size h. ok (ending.Cut size) h))
    (by_test (bytes_eq w (codes "toolong")) _ _ (on (number_below (2 ^ 32) rest) (λ size. Ok (ending.TooLong size)) (below_ok _ _) (λ size h. ok (ending.TooLong size) h))
    (by_test (bytes_eq w (codes "badsequence")) _ _
    (on (number_below (2 ^ 8) (front 32 rest)) (λ found. number_below (2 ^ 8) (behind 32 rest) >>= λ wanted. Ok (ending.BadSequence found wanted)) (below_ok _ _) (λ found hf.
    on (number_below (2 ^ 8) (behind 32 rest)) (λ wanted. Ok (ending.BadSequence found wanted)) (below_ok _ _) (λ wanted hw. ok (ending.BadSequence found wanted) (hf, hw))))
    (refused _)))))

pub record IsHead (h : Head) : Type 0 where
  pub session : IsU8 h.session
  pub commands : IsU64 h.commands
  pub ending : IsEnding h.ending

pub head_ok : (line : Text) → Holds (head_line line) IsHead
unfolding head_line head_in
head_ok line =
    on {P = IsHead} (head_in (behind_word line)) _
    (on (number_below (2 ^ 8) _) _ (below_ok _ _) (λ s hs. on (number_told _) _ (number_ok _) (λ n hn. on (ending_told _) _ (ending_ok _) (λ e he. ok _ (record { session = hs; commands = hn; ending = he })))))
    (λ h is. spelt_ok line (λ p. one_line (codes "session" ∷ head_fields p)) h is)

pub command_ok : (line : Text) → Holds (command_line line) IsLine
unfolding command_line command_in
command_ok line =
    on {P = IsLine} (command_in (front 10 line)) _
    (on (number_told _) _ (number_ok _) (λ p hp. on (word_told _) _ (any (word_told _)) (λ w u. on (bytes_told _) _ (bytes_ok _) (λ r hr. ok _ (record { place = hp; reply = hr })))))
    (λ c is. spelt_ok line (λ p. lines (line_text p ∷ [])) c is)

pub event_line_ok : (made : KindsMade) (number : ℕ) (line : Text) → Holds (event_line made number line) (EventRead made)
unfolding event_line
event_line_ok made number line = on (event_told made (behind_word line)) _ (event_ok made (behind_word line)) (λ e h. spelt_ok line (λ (p : Event × KindsMade). one_line (decimal number ∷ event_fields p.0)) e h)

-- ---- the whole

at_ok : {A : Type 0} {P : A → Type 0} (n : ℕ) (r : Told A) → Holds r P → Holds (at_number n r) P
at_ok n (Ok x) h = ok _ h.of
at_ok n (Err e) h = refused _

told_ok : {A : Type 0} {P : A → Type 0} (tells : Text → Told A) (u : Unread) → ((line : Text) → Holds (tells line) P) → Holds (told_at tells u) (λ r. P r.0)
told_ok tells u h = on (line_at u) _ (any (line_at u)) (λ line x. on (at_number u.number (tells line.0)) _ (at_ok u.number (tells line.0) (h line.0)) (λ v hv. ok _ hv))

pub record Many {A S : Type 0} (P : A → Type 0) (n : ℕ) (r : List A × S) : Type 0 where
  pub all : AllByRecursion P r.0
  pub count : length r.0 ≡ n

times_ok : {A S : Type 0} {P : A → Type 0} (read : S → Result (A × S) ℕ) → ((s : S) → Holds (read s) (λ r. P r.0)) → (n : ℕ) (s : S) → Holds (times read n s) (Many P n)
unfolding times
times_ok read h zero s = ok _ (record { all = tt; count = refl })
times_ok read h (suc n) s = on (read s) _ (h s) (λ first hf. on (times read n first.1) _ (times_ok read h n first.1) (λ others ho. ok _ (record { all = (hf, ho.all); count = ap suc ho.count })))

session_ok : (u : Unread) → Holds (session_at u) (λ r. IsSession r.0)
unfolding session_at
session_ok u =
    on (told_at head_line u) _ (told_ok head_line u head_ok) (λ head hh.
    on (times command_at head.0.commands head.1) _ (times_ok command_at (λ s. told_ok command_line s command_ok) head.0.commands head.1)
    (λ cs hc. ok _ (record { session = hh.session; count = subst IsU64 (sym hc.count) hh.commands; each = hc.all; ending = hh.ending })))

pub record SessionsRead (r : List SessionReport × Unread) : Type 0 where
  pub all : AllByRecursion IsSession r.0
  pub count : IsU64 (length r.0)

sessions_ok : (u : Unread) → Holds (sessions_at u) SessionsRead
unfolding sessions_at
sessions_ok u =
    on (told_at (count_line (codes "sessions")) u) _ (told_ok (count_line (codes "sessions")) u (count_ok (codes "sessions"))) (λ count hc.
    sessions_counted count.0 hc (times session_at count.0 count.1) (times_ok session_at session_ok count.0 count.1))
  where
    sessions_counted : (n : ℕ) → IsU64 n → (r : Result (List SessionReport × Unread) ℕ) → Holds r (Many IsSession n) → Holds r SessionsRead
    sessions_counted n lt (Ok x) h = let m = h.of in ok _ (record { all = m.all; count = subst IsU64 (sym m.count) lt })
    sessions_counted n lt (Err e) h = refused _

pub record Step (s : Behind) (r : Event × Behind) : Type 0 where
  pub tells : TellsEvent s.made r.0
  pub after : r.1.made ≡ made_by_event r.0 s.made

event_at_ok : (s : Behind) → Holds (event_at s) (Step s)
unfolding event_at
event_at_ok s =
    on (line_at s.unread) _ (any (line_at s.unread)) (λ line u.
    on (at_number s.unread.number (event_line s.made (s.number + 1) line.0)) _ (at_ok s.unread.number _ (event_line_ok s.made (s.number + 1) line.0)) (λ e h. ok _ (record { tells = h.tells; after = h.after })))

pub record EventsRead (made : KindsMade) (n : ℕ) (r : List Event × Behind) : Type 0 where
  pub tell : TellEvents made r.0
  pub count : length r.0 ≡ n

events_ok : (n : ℕ) (s : Behind) → Holds (times event_at n s) (EventsRead s.made n)
unfolding times
events_ok zero s = ok _ (record { tell = tt; count = refl })
events_ok (suc n) s =
    on (event_at s) _ (event_at_ok s) (λ first hf. on (times event_at n first.1) _ (events_ok n first.1) (λ others ho. ok _ (record { tell = (hf.tells, subst (λ m. TellEvents m others.0) hf.after ho.tell); count = ap suc ho.count })))

pub record JournalRead (r : List Event × Unread) : Type 0 where
  pub tell : TellEvents [] r.0
  pub count : IsU64 (length r.0)

journal_ok : (u : Unread) → Holds (journal_at u) JournalRead
unfolding journal_at events_at
journal_ok u =
    on (told_at (count_line (codes "journal")) u) _ (told_ok (count_line (codes "journal")) u (count_ok (codes "journal"))) (λ count hc.
    on (times event_at count.0 (behind_event 0 [] count.1)) _ (events_ok count.0 (behind_event 0 [] count.1)) (λ es h. ok _ (record { tell = h.tell; count = subst IsU64 (sym h.count) hc })))

pub report_ok : (u : Unread) → Holds (report_told u) IsTellable
unfolding report_told
report_ok u =
    on (behind_line (codes "qcache report 1\n") u) _ (any _) (λ first x.
    on (told_at options_line first) _ (told_ok options_line first options_ok) (λ options ho.
    on (sessions_at options.1) _ (sessions_ok options.1) (λ sessions hs.
    on (journal_at sessions.1) _ (journal_ok sessions.1) (λ journal hj.
    on (told_at counters_line journal.1) _ (told_ok counters_line journal.1 counters_ok) (λ counters hc.
    on (behind_line (codes "end\n") counters.1) _ (any _) (λ last y.
    on (ended last) _ (any _) (λ none z.
    ok _ (record { options = ho; session_count = hs.count; sessions = hs.all; event_count = hj.count; journal = hj.tell; counters = hc }))))))))

-- what was read is told whole
pub read_is_tellable : (u : Unread) (r : Report) → report_told u ≡ Ok r → IsTellable r
read_is_tellable u r e = subst (λ (x : Result Report ℕ). IfOk x IsTellable) e (report_ok u).of
