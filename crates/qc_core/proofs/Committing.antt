-- The server after a commit.
use Rattle.std.proofs.Common.{◌≡◌, ℕ, ◌+◌, ◌-◌, ◌<◌, ◌≤◌, Bool, true, false, cond, List, [], ◌∷◌, ◌++◌, map, length, drop, refl, sym, ap, subst, ◌∙◌, Result, Ok, Err, append-nil, append_assoc, inl}
use Rattle.std.specs.Prelude.{not, ◌||◌, Some, None, slice_get, OnOk, OnErr}
use Rattle.std.specs.List.{list_any, list_all, filter, AllByRecursion, AllZip}
use Rattle.qc_types.specs.declared.names.TableName.{TableName}
use Rattle.qc_types.specs.declared.memory.Or.{Or}
use Rattle.qc_types.specs.Answers.{Gives}
use Rattle.qc_key.specs.Hash.{hash}
use Rattle.qc_sql.specs.declared.tables.RowOp.{RowOp}
use Rattle.qc_sql.specs.Database.{Database, apply}
use Rattle.qc_model.specs.declared.events.Who.{Who}
use Rattle.qc_model.specs.declared.events.Event.TheVariants as event
use Rattle.qc_model.specs.Journal.{present, event_count}
use Rattle.qc_model.specs.Cache.{cache}
use Rattle.qc_model.specs.Cache.{Entry as Cached}
use Rattle.qc_model.specs.Licence.{ops_fit, is_within_rows, MayCommit}
use Rattle.qc_laws.specs.history.Named.{AreThere}
use Rattle.qc_laws.proofs.history.Named.{tables_are_there}
use Rattle.qc_table.specs.declared.database.TableFull.{TableFull}
use Rattle.qc_table.specs.Fitting.{fitting}
use Rattle.qc_table.proofs.Fits.{fitted, within_rows}
use Rattle.qc_chain.specs.Chains.{Chained}
use Rattle.qc_dir.specs.declared.entries.Entry.{Entry}
use Rattle.qc_dir.specs.Directory.{names_table}
use Rattle.qc_turn.specs.Tasks.{listed_for}
use Rattle.qc_turn.specs.Releases.{Follows}
use Rattle.qc_core.specs.contracts.server.ServerKept.TheImpl.{ghosts}
use Rattle.qc_laws.specs.sizes.Operations.{is_small_operation}
use Rattle.qc_sound.specs.PlainServer.{StoredEntry}
use Rattle.qc_sound.specs.Moment.{at_rest}
use Rattle.qc_sound.specs.parts.Directory.{IsStoredAs}
use Rattle.qc_sound.specs.steps.Leaving.{staying, is_touched}
use Rattle.qc_sound.proofs.Needs.{needs_push}
use Rattle.qc_core.specs.declared.server_state.ServerState.{ServerState}
use Rattle.qc_core.specs.Whole.{stored, plain, tasks_of, Sound, with_event}
use Rattle.qc_core.specs.Calls.{HasSpare}
use Rattle.qc_core.specs.EntryRemoval.{MayLeave}
use Rattle.qc_core.specs.EntriesCut.{HasSoundBlocks, LeaveInTurn, is_removed}
use Rattle.qc_core.specs.Invalidation.{named_table, is_on, is_named_by, tables_dropped_by, tables_dropped, uses_touched, EntriesHaveTables, TakesOut, with_database, IsCommitted}
use Rattle.qc_core.proofs.Cutting.{whole_blocks}
use Rattle.qc_core.proofs.Emptying.{cut_tasks, commit_whole}
use Rattle.qc_core.proofs.Dropping.{in_turn, turn_cut, turn_others, left_entries, removed_stored, filter_twice, filter_all, filter_same, drop_item, drop_end}
use Rattle.qc_core.proofs.Touching.{all_touched}
use Rattle.qc_core.proofs.Resetting.{IsLeft, left_follows}
use Rattle.qc_core.proofs.Noting.{alone}

-- ---- in turn

pub takes_both : (p q : Entry → Bool) (old mid new : ServerState) → TakesOut p old mid → TakesOut q mid new → TakesOut (λ e. q e || p e) old new
takes_both p q old mid new a b = record {
  serials = b.serials ++ a.serials;
  left = in_turn b.serials a.serials old mid new a.left b.left;
  entries = b.entries ∙ (ap (filter (λ e. not (q e))) a.entries ∙ filter_twice q p old.dir.entries);
}

pub takes_same : (p q : Entry → Bool) (old new : ServerState) → AllByRecursion (λ e. p e ≡ q e) old.dir.entries → TakesOut p old new → TakesOut q old new
takes_same p q old new h a = record { serials = a.serials; left = a.left; entries = a.entries ∙ filter_same p q old.dir.entries h }

-- those that use a touched table are out, where the ones that name the operations' tables and the dropped ones are
pub touched_out : (ops : List RowOp) (d : Database) (dropped : List TableName) (s mid new : ServerState) → EntriesHaveTables s → dropped ≡ tables_dropped ops s.database → TakesOut (λ e. list_any (λ t. names_table t e) dropped) (with_database d s) mid
    → TakesOut (λ e. list_any (λ o. is_named_by o e) ops) mid new → TakesOut (uses_touched ops) (with_database d s) new
touched_out ops d dropped s mid new have is a b =
    let all = tables_dropped ops s.database in
    takes_same (λ e. list_any (λ o. is_named_by o e) ops || list_any (λ t. names_table t e) all) (uses_touched ops) (with_database d s) new (all_touched ops s.database s.dir.entries have)
    (takes_both (λ e. list_any (λ t. names_table t e) all) (λ e. list_any (λ o. is_named_by o e) ops) (with_database d s) mid new (subst (λ ts. TakesOut (λ e. list_any (λ t. names_table t e) ts) (with_database d s) mid) is a) b)

-- ---- the tables of entries

stored_tables : (cs : Chained) (d : Database) (es : List Entry) → AllByRecursion (λ (x : StoredEntry). AreThere d x.tables) (map (stored cs) es) → AllByRecursion (λ e. AreThere d e.tables) es
stored_tables cs d [] h = tt
stored_tables cs d (e ∷ es) h = (h.0, stored_tables cs d es h.1)

-- the tables of each entry of a server that stands are there
pub have_tables : (words : List ℕ) (s : ServerState) → Sound words s → EntriesHaveTables s
have_tables words s h =
    let w = h.1 in
    let j = s.journal.events in
    subst (λ d. AllByRecursion (λ (e : Entry). AreThere d e.tables) s.dir.entries) (sym w.sound.journal.database)
    (stored_tables s.chains (present j) s.dir.entries (zip_there (present j) (map (stored s.chains) s.dir.entries) (cache j) w.sound.directory (tables_are_there s.options j w.sound.journal.lawful)))
  where
    zip_there : (d : Database) (xs : List StoredEntry) (ys : List Cached) → AllZip (IsStoredAs hash) xs ys → AllByRecursion (λ (y : Cached). AreThere d y.tables) ys → AllByRecursion (λ (x : StoredEntry). AreThere d x.tables) xs
    zip_there d [] [] z h = tt
    zip_there d [] (y ∷ ys) z h = tt
    zip_there d (x ∷ xs) [] z h = absurd z
    zip_there d (x ∷ xs) (y ∷ ys) z h = (subst (AreThere d) (sym z.0.tables) h.0, zip_there d xs ys z.1 h.1)

-- ---- the database

-- entries leave whatever the database is
pub turn_database : (d : Database) (serials : List ℕ) (old new : ServerState) → LeaveInTurn serials old new → LeaveInTurn serials (with_database d old) (with_database d new)
turn_database d [] old new same = ap (with_database d) same
turn_database d (n ∷ ns) old new l =
    let one = l.2 in
    let may : MayLeave n (with_database d l.0) = record { entry = one.may.entry; held = one.may.held; there = one.may.there; begun = one.may.begun; tiling = one.may.tiling; chain = one.may.chain; out = one.may.out } in
    (with_database d l.0, turn_database d ns old l.0 l.1, record { may = may; freed = one.freed; left = record { removed = one.left.removed; server = ap (with_database d) one.left.server }; valid = one.valid })

touched_stored : (who : Who) (ops : List RowOp) (cs : Chained) (es : List Entry) → map (stored cs) (filter (λ e. not (uses_touched ops e)) es) ≡ staying (is_touched (event.Commit who ops)) (map (stored cs) es)
touched_stored who ops cs [] = refl
touched_stored who ops cs (e ∷ es) = elim (uses_touched ops e) as (λ b. map (stored cs) (cond (not b) (e ∷ filter (λ e. not (uses_touched ops e)) es) (filter (λ e. not (uses_touched ops e)) es)) ≡ cond (not b) (stored cs e ∷ staying (is_touched (event.Commit who ops)) (map (stored cs) es)) (staying (is_touched (event.Commit who ops)) (map (stored cs) es))) [
  | true ↦ touched_stored who ops cs es
  | false ↦ ap (λ l. stored cs e ∷ l) (touched_stored who ops cs es)
]

-- ---- the whole

-- operations that were carried out leave no table too full
pub carried_out : (ops : List RowOp) (d x : Database) → fitting (apply ops d) ≡ Ok x → (is_within_rows (apply ops d) ≡ true) × (x ≡ apply ops d)
carried_out ops d x is = let f = fitted (apply ops d) x is in (within_rows (apply ops d) f.0, f.1)

pub commit_left : (words : List ℕ) (s v : ServerState) (who : Who) (ops : List RowOp) (seat : ℕ) (idle : List ℕ) → Sound words s → 0 < seat → who.session ≡ seat - 1 → who.number ≡ event_count s.journal.events who.session + 1 → listed_for seat (tasks_of s) ≡ [] → HasSpare s
    → 0 < length ops → ops_fit ops s.database ≡ true → list_all is_small_operation ops ≡ true → is_within_rows (apply ops s.database) ≡ true → IsCommitted who ops s v → IsLeft words seat idle s v
commit_left words s v who ops seat idle sound ps is number free room some fit small within r =
    let w = sound.1 in
    let names = sound.0 in
    let serials = r.out.serials in
    let e = event.Commit who ops in
    let d = apply ops s.database in
    let t = with_database s.database r.mid in
    let left : LeaveInTurn serials s t = turn_database s.database serials (with_database d s) r.mid r.out.left in
    let k = turn_cut (at_rest hash) names s (whole_blocks (at_rest hash) names words s w) serials t left in
    let a = alone words names (at_rest hash) s who e seat w ps refl is number free in
    let same : staying (is_removed serials) (plain names s).entries ≡ staying (is_touched e) (plain names s).entries =
    removed_stored serials s.chains s.dir.entries ∙ (ap (map (stored s.chains)) (sym (left_entries serials s t left) ∙ r.out.entries) ∙ touched_stored who ops s.chains s.dir.entries) in
    let may : MayCommit s.journal.events ops = record { some = some; fit = subst (λ x. ops_fit ops x ≡ true) w.sound.journal.database fit; not_full = subst (λ x. is_within_rows (apply ops x) ≡ true) w.sound.journal.database within } in
    let whole = commit_whole (at_rest hash) names serials words s t k who ops w same (a.decides, may, small) small (needs_push s.options s.journal.events e w.sound.journal.needs tt) a.none room in
    let others = turn_others serials (with_database d s) r.mid r.out.left in
    let made : r.mid.database ≡ d = ap (λ (x : ServerState). x.database) others in
    let back : with_event e (with_database d r.mid) ≡ v = (λ i. with_event e (with_database (sym made i) r.mid)) ∙ sym r.server in
    let listed : tasks_of r.mid ≡ tasks_of s = cut_tasks (at_rest hash) names serials s t k w.named in
    record {
      sound = subst (Sound words) back (k.names, whole);
      follows = subst (Follows ghosts seat idle s) (sym r.server) (left_follows s r.mid e who seat idle refl ps is (ap (λ (x : ServerState). x.journal) others) (ap (λ (x : ServerState). x.options) others) (ap (λ (x : ServerState). x.connected) others) listed);
      listed = ap tasks_of r.server ∙ listed;
    }

-- whatever the answer is: where it is an error, nothing changed
pub commit_any : (words : List ℕ) (s v : ServerState) (who : Who) (ops : List RowOp) (seat : ℕ) (idle : List ℕ) (answer : Result ℕ (Or TableFull)) → Sound words s → 0 < seat → who.session ≡ seat - 1 → who.number ≡ event_count s.journal.events who.session + 1 → listed_for seat (tasks_of s) ≡ [] → HasSpare s
    → 0 < length ops → ops_fit ops s.database ≡ true → list_all is_small_operation ops ≡ true → Gives (λ number. v.database) (λ full. full.table) answer (fitting (apply ops s.database)) → OnOk answer (IsCommitted who ops s v) → OnErr answer (v ≡ s) → IsLeft words seat idle s v
commit_any words s v who ops seat idle (Ok n) sound ps is number free room some fit small made ok err = commit_left words s v who ops seat idle sound ps is number free room some fit small (carried_out ops s.database v.database made).0 ok
commit_any words s v who ops seat idle (Err e) sound ps is number free room some fit small made ok err =
    subst (IsLeft words seat idle s) (sym err) (record {
      sound = sound;
      follows = record { journal = ([], sym (append-nil s.journal.events)); others = λ k ne. refl; fixed = refl; connected = λ k ne. refl; tasks = λ k ne. inl refl };
      listed = refl;
    })

-- ---- what the code asks

-- blocks are sound whatever the database is
pub blocks_database : (d : Database) (s : ServerState) → HasSoundBlocks s → HasSoundBlocks (with_database d s)
blocks_database d s h =
    let b = h.sound in
    record {
      moment = h.moment;
      names = h.names;
      sound = record {
        named = record { begun = b.named.begun; numbers = b.named.numbers; entries = b.named.entries; tasks = b.named.tasks };
        tiles = record { tiling = b.tiles.tiling; in_use = b.tiles.in_use; pinned = b.tiles.pinned };
        tables = record { named = b.tables.named; once = b.tables.once; words = b.tables.words };
        apart = b.apart;
        wanted = b.wanted;
        once = b.once;
        serials = b.serials;
        directory = b.directory;
        seats = record { once = b.seats.once; room = b.seats.room; task_room = b.seats.task_room };
        room = record { entries = b.room.entries; tables = b.room.tables; chains = b.room.chains; unpinner = b.room.unpinner };
      };
    }

pub out_spare : (p : Entry → Bool) (old new : ServerState) → TakesOut p old new → new.journal.spare ≡ old.journal.spare
out_spare p old new h = ap (λ (x : ServerState). x.journal.spare) (turn_others h.serials old new h.left)

pub out_database : (p : Entry → Bool) (old new : ServerState) → TakesOut p old new → new.database ≡ old.database
out_database p old new h = ap (λ (x : ServerState). x.database) (turn_others h.serials old new h.left)

pub commits : (who : Who) (ops : List RowOp) (x : Database) (dropped : List TableName) (s mid t v : ServerState) → EntriesHaveTables s → dropped ≡ tables_dropped ops s.database → x ≡ apply ops s.database
    → TakesOut (λ e. list_any (λ t. names_table t e) dropped) (with_database x s) mid → TakesOut (λ e. list_any (λ o. is_named_by o e) ops) mid t → v ≡ with_event (event.Commit who ops) t → IsCommitted who ops s v
commits who ops x dropped s mid t v have is made a b server = record {
  mid = t;
  out = subst (λ d. TakesOut (uses_touched ops) (with_database d s) t) made (touched_out ops x dropped s mid t have is a b);
  server = server;
}

-- an operation that names no table takes nothing out
pub takes_none : (o : RowOp) (s : ServerState) → named_table o ≡ None → TakesOut (is_named_by o) s s
takes_none o s none = record { serials = []; left = refl; entries = sym (ap (λ t. filter (λ e. not (is_on t e)) s.dir.entries) none ∙ filter_all s.dir.entries) }

-- the tables of one more operation
pub dropped_on : (d : Database) (ops : List RowOp) (k : ℕ) (o : RowOp) (now more new : List TableName) → slice_get ops k ≡ Some o → more ≡ tables_dropped_by d o → new ≡ now ++ more → now ++ tables_dropped (drop k ops) d ≡ tables_dropped ops d → new ++ tables_dropped (drop (k + 1) ops) d ≡ tables_dropped ops d
dropped_on d ops k o now more new got is added h =
    let rest = tables_dropped (drop (k + 1) ops) d in
    ap (λ l. l ++ rest) (added ∙ ap (λ l. now ++ l) is) ∙ (append_assoc now (tables_dropped_by d o) rest ∙ (ap (λ os. now ++ tables_dropped os d) (sym (drop_item ops k o got)) ∙ h))

pub dropped_all : (d : Database) (ops : List RowOp) (k : ℕ) (now : List TableName) → length ops ≤ k → now ++ tables_dropped (drop k ops) d ≡ tables_dropped ops d → now ≡ tables_dropped ops d
dropped_all d ops k now end h = sym (append-nil now) ∙ (ap (λ os. now ++ tables_dropped os d) (sym (drop_end ops k end)) ∙ h)
