-- The one event of a command was pushed.
use Rattle.std.proofs.Common.{◌≡◌, ℕ, ◌+◌, ◌-◌, Bool, true, false, Ok, Err, Result, OnOk, List, [], ◌∷◌, ◌++◌, length, refl, sym, ap, ◌∙◌, subst, append-nil}
use Rattle.std.specs.Prelude.{IfOk, OnErr, count_by, filter, ◌||◌}
use Rattle.std.proofs.lemmas.List.Elements.{filter-append}
use Rattle.std.proofs.lemmas.List.Sums.{length-filter}
use Rattle.qc_sql.specs.declared.tables.RowOp.{RowOp}
use Rattle.qc_sql.specs.Database.{Database, apply}
use Rattle.qc_types.specs.declared.memory.Or.{Or}
use Rattle.qc_types.specs.declared.memory.Or.TheVariants as or
use Rattle.qc_types.specs.declared.totals.Totals.{Totals}
use Rattle.qc_types.specs.Answers.{Gives}
use Rattle.qc_table.specs.declared.database.TableFull.{TableFull}
use Rattle.qc_table.specs.Fitting.{fitting}
use Rattle.qc_model.specs.declared.events.Counters.{Counters}
use Rattle.qc_model.specs.declared.events.Event.{Event}
use Rattle.qc_model.specs.declared.events.Event.TheVariants as event
use Rattle.qc_model.specs.declared.events.How.{How}
use Rattle.qc_model.specs.declared.events.How.TheVariants as how
use Rattle.qc_model.specs.declared.events.Who.{Who}
use Rattle.qc_model.specs.Cache.{counters, is_hit, is_not_cached, is_plain, is_prune, is_run, is_start}
use Rattle.qc_model.specs.Journal.{Journal, event_count}
use Rattle.qc_laws.proofs.history.Events.{cache_push}
use Rattle.qc_turn.specs.declared.view.FoundWord.{FoundWord}
use Rattle.qc_turn.specs.Seats.{Held, MayRelease, SameHolder, holder}
use Rattle.qc_turn.specs.Tasks.{listed_for}
use Rattle.qc_core.specs.contracts.server.ServerKept.TheImpl.{ghosts}
use Rattle.qc_core.specs.declared.server_state.ServerState.{ServerState}
use Rattle.qc_core.specs.Calls.{HasSpare}
use Rattle.qc_core.specs.Connection.{is_connected}
use Rattle.qc_core.specs.Invalidation.{IsCommitted}
use Rattle.qc_core.specs.Compaction.{IsCompacted}
use Rattle.qc_core.specs.Clearing.{IsReset}
use Rattle.qc_core.specs.ServerStatus.{TellsStatus}
use Rattle.qc_core.specs.EndedStreams.{Finds, swept}
use Rattle.qc_core.specs.Whole.{tasks_of, with_event}
use Rattle.qc_serve.specs.Seats.{GoesOn, IsReady, IsSameSeat, Pushes, SameBooks, next_of}
use Rattle.qc_statements.proofs.Fitting.{has_room}
use Rattle.qc_serve.proofs.Books.{OneMore, commit_one, moves_books, reset_one, swept_books}
use Rattle.qc_serve.proofs.Seating.{found_seat, pushes, same_seat, still_free}

-- a call on the same holding, after which the same tasks are listed
pub one_pushed : (who : Who) (e : Event) (h k : Held ServerState Event ghosts) → IsReady who h → MayRelease k × SameHolder h k → k.ranges ≡ h.ranges → OneMore e h.value k.value → tasks_of k.value ≡ tasks_of h.value → Pushes who e h k
one_pushed who e h k ready both ranges one tasks =
    let same = same_seat h k both.1 ranges in
    pushes who e h k ready same both.0 one.events one.connected (still_free h k who ready same tasks)

pub run_pushed : (who : Who) (r : How) (h k : Held ServerState Event ghosts) → IsReady who h → MayRelease k × SameHolder h k → k.ranges ≡ h.ranges → k.value ≡ with_event (event.Run who r) h.value → Pushes who (event.Run who r) h k
run_pushed who r h k ready both ranges is =
    one_pushed who (event.Run who r) h k ready both ranges
    (record { events = ap (λ (x : ServerState). x.journal.events) is; connected = ap (λ (x : ServerState). x.connected) is }) (ap tasks_of is)

pub commit_pushed : (who : Who) (ops : List RowOp) (h k : Held ServerState Event ghosts) (r : Result ℕ (Or TableFull)) → IsReady who h → MayRelease k × SameHolder h k → k.ranges ≡ h.ranges → OnOk r (IsCommitted who ops h.value k.value) → tasks_of k.value ≡ tasks_of h.value
    → IfOk r (λ number. Pushes who (event.Commit who ops) h k)
commit_pushed who ops h k (Ok x) ready both ranges is tasks = one_pushed who (event.Commit who ops) h k ready both ranges (commit_one who ops h.value k.value is) tasks
commit_pushed who ops h k (Err e) ready both ranges is tasks = tt

-- a commit that was refused, or for which memory lacked
abbrev IsNextIn : ℕ → ServerState → Who → Type 0
IsNextIn n s who = (who.session ≡ n - 1) × (who.number ≡ event_count s.journal.events who.session + 1) × (is_connected n s ≡ true) × (listed_for n (tasks_of s) ≡ [])

pub still_ready : (who : Who) (h k : Held ServerState Event ghosts) → IsReady who h → MayRelease k → IsSameSeat h k → k.value ≡ h.value → IsReady who k
still_ready who h k r stands same is =
    let next = r.next in
    let moved = subst (λ (p : ℕ × ServerState). IsNextIn p.0 p.1 who) (λ i. (sym same.number i, sym is i)) (next.session, next.number, next.connected, next.free) in
    record {
      stands = stands;
      seat = same.number ∙ r.seat;
      unset = same.word_set ∙ r.unset;
      next = record { session = moved.0; number = moved.1; connected = moved.2; free = moved.3 };
      who_is = subst (λ (j : Journal). who ≡ next_of who.session j) (sym same.seen) r.who_is;
      room = subst HasSpare (sym is) r.room;
      goes_on = subst (λ (p : Journal × ServerState). GoesOn who.session p.0 p.1.journal.events) (λ i. (sym same.seen i, sym is i)) r.goes_on;
    }

pub refused_ready : (who : Who) (h k : Held ServerState Event ghosts) (r : Result ℕ (Or TableFull)) → IsReady who h → MayRelease k × SameHolder h k → k.ranges ≡ h.ranges → OnErr r (k.value ≡ h.value) → OnErr r (IsSameSeat h k × IsReady who k × (k.value ≡ h.value))
refused_ready who h k (Ok x) ready both ranges is = tt
refused_ready who h k (Err e) ready both ranges is = let same = same_seat h k both.1 ranges in (same, still_ready who h k ready both.0 same is, is)

pub commit_made : (ops : List RowOp) (d n : Database) (r : Result ℕ (Or TableFull)) → Gives (λ (x : ℕ). n) (λ (full : TableFull). full.table) r (fitting (apply ops d)) → Gives (λ (x : ℕ). apply ops d) (λ (full : TableFull). full.table) r (fitting (apply ops d))
commit_made ops d n (Ok x) g = let q = has_room (apply ops d) n g in g ∙ ap Ok q.1
commit_made ops d n (Err or.Memory) g = tt
commit_made ops d n (Err (or.Other full)) g = g

pub reset_pushed : (who : Who) (h k : Held ServerState Event ghosts) → IsReady who h → MayRelease k × SameHolder h k → k.ranges ≡ h.ranges → IsReset who h.value k.value → tasks_of k.value ≡ tasks_of h.value → Pushes who (event.Reset who) h k
reset_pushed who h k ready both ranges is tasks = one_pushed who (event.Reset who) h k ready both ranges (reset_one who h.value k.value is) tasks

-- a call that strikes ended streams off first
swept_pushed : (who : Who) (e : Event) (h k : Held ServerState Event ghosts) (found : List FoundWord) (mid : ServerState) → IsReady who h → MayRelease k → Finds h k found → SameBooks (swept found h.value) mid → k.value ≡ with_event e mid
    → listed_for (holder h).number (tasks_of k.value) ≡ [] → Pushes who e h k
swept_pushed who e h k found mid ready stands finds later is free =
    let same = found_seat h k found finds in
    let first = swept_books found h.value in
    pushes who e h k ready same stands
    (ap (λ (x : ServerState). x.journal.events) is ∙ ap (λ (j : List Event). j ++ e ∷ []) (later.events ∙ first.events))
    (ap (λ (x : ServerState). x.connected) is ∙ (later.connected ∙ first.connected))
    (subst (λ n. listed_for n (tasks_of k.value) ≡ []) (sym same.number) free)

pub flush_pushed : (who : Who) (h k : Held ServerState Event ghosts) (found : List FoundWord) (mid : ServerState) → IsReady who h → MayRelease k → Finds h k found → IsCompacted (swept found h.value) mid → k.value ≡ with_event (event.Flush who) mid
    → listed_for (holder h).number (tasks_of k.value) ≡ [] → Pushes who (event.Flush who) h k
flush_pushed who h k found mid ready stands finds compacted is free = swept_pushed who (event.Flush who) h k found mid ready stands finds (moves_books compacted.count (swept found h.value) mid compacted.moves) is free

pub status_pushed : (who : Who) (h k : Held ServerState Event ghosts) (found : List FoundWord) (told : ℕ × Counters × Totals) → IsReady who h → MayRelease k → Finds h k found → TellsStatus who (swept found h.value) k.value told
    → listed_for (holder h).number (tasks_of k.value) ≡ [] → Pushes who (event.Run who (how.Status told.2)) h k
status_pushed who h k found told ready stands finds tells free =
    swept_pushed who (event.Run who (how.Status told.2)) h k found (swept found h.value) ready stands finds (record { events = refl; database = refl; options = refl; connected = refl }) tells.server free

-- ---- its event counts nothing

counted_else : (p : Event → Bool) (J : Journal) (e : Event) → p e ≡ false → count_by p (J ++ e ∷ []) ≡ count_by p J
counted_else p J e fails =
    sym (length-filter p (J ++ e ∷ [])) ∙ ap length (filter-append p J (e ∷ []) ∙ (ap (λ (l : List Event). filter p J ++ l) (rw fails refl) ∙ append-nil (filter p J))) ∙ length-filter p J

pub same_counters : (who : Who) (t : Totals) (J : Journal) → counters (J ++ event.Run who (how.Status t) ∷ []) ≡ counters J
same_counters who t J =
    let e : Event = event.Run who (how.Status t) in
    λ i. record {
      com_select = counted_else (is_run (λ h. is_start h || is_plain h)) J e refl i;
      hits = counted_else (is_run is_hit) J e refl i;
      inserts = counted_else (is_run is_start) J e refl i;
      not_cached = counted_else (is_run is_not_cached) J e refl i;
      lowmem_prunes = counted_else is_prune J e refl i;
      queries_in_cache = length (cache_push J e i);
    }

pub status_counts : (who : Who) (h : ServerState) (found : List FoundWord) (k : ServerState) (told : ℕ × Counters × Totals) → TellsStatus who (swept found h) k told → told.1 ≡ counters h.journal.events
status_counts who h found k told tells =
    tells.counts ∙ (ap counters (ap (λ (x : ServerState). x.journal.events) tells.server ∙ ap (λ (j : Journal). j ++ event.Run who (how.Status told.2) ∷ []) (swept_books found h).events) ∙ same_counters who told.2 h.journal.events)
