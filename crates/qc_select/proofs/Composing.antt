-- One part of the call behind another.
use Rattle.std.proofs.Common.{◌≡◌, ℕ, ◌+◌, ◌-◌, ◌*◌, ◌≤◌, true, List, [], length, sym, ap, subst, ◌∙◌, arith}
use Rattle.std.specs.Prelude.{◌==◌, Option, Some, None, Result, Ok, Err, IfNone, IfOk, IfSome, OnErr, option_map}
use Rattle.std.specs.List.{list_any}
use Rattle.std.proofs.lemmas.Option.{none-some, same_Some}
use Rattle.qc_types.specs.declared.names.TableName.{TableName}
use Rattle.qc_types.specs.declared.options.Options.{Options}
use Rattle.qc_types.specs.declared.sql_error.SqlError.{SqlError}
use Rattle.qc_sql.specs.declared.session.Asked.{Asked}
use Rattle.qc_sql.specs.declared.statements.Select.{Select}
use Rattle.qc_sql.specs.Database.{Database}
use Rattle.qc_sql.specs.Rows.{rows}
use Rattle.qc_sql.specs.Rules.{select_tables}
use Rattle.qc_sql.specs.Words.{◌or_else◌}
use Rattle.qc_eval.specs.Plans.{PlanView}
use Rattle.qc_chain.specs.Chains.{Ranged}
use Rattle.qc_chain.specs.Words.{words_of}
use Rattle.qc_model.specs.declared.events.Who.{Who}
use Rattle.qc_model.specs.declared.events.Event.{Event}
use Rattle.qc_model.specs.declared.events.Event.TheVariants as event
use Rattle.qc_model.specs.declared.events.How.TheVariants as how
use Rattle.qc_model.specs.declared.events.Reason.{Reason}
use Rattle.qc_model.specs.declared.events.Reason.TheVariants as reason
use Rattle.qc_model.specs.Choice.{rival, unseen_reason}
use Rattle.qc_model.specs.Journal.{Journal, event_count}
use Rattle.qc_model.specs.Cache.{Entry}
use Rattle.qc_model.specs.Session.{State, flags_of}
use Rattle.qc_trx.specs.SnapshotStates.{IsSnapshotState, SnapshotState, seen_on}
use Rattle.qc_turn.specs.declared.view.FoundWord.{FoundWord}
use Rattle.qc_turn.specs.declared.task.Task.TheVariants as task
use Rattle.qc_turn.specs.Tasks.{listed_for, own}
use Rattle.qc_turn.specs.Seats.{Held, MayRelease, SameHolder, holder, with_ranges, words}
use Rattle.qc_turn.proofs.Holders.{number_is, same_on}
use Rattle.qc_core.specs.declared.hit_stream.Hit.{Hit}
use Rattle.qc_core.specs.declared.server_state.ServerState.{ServerState}
use Rattle.qc_core.specs.contracts.server.ServerKept.TheImpl.{ghosts}
use Rattle.qc_core.specs.Whole.{tasks_of, with_event}
use Rattle.qc_core.specs.Calls.{HasMoreRoom, IsNext}
use Rattle.qc_core.specs.Connection.{is_connected}
use Rattle.qc_core.specs.HitStream.{IsChainOf, hit_server}
use Rattle.qc_core.specs.PlainRun.{MayRunPlain}
use Rattle.qc_core.specs.TaskEnd.{rested}
use Rattle.qc_core.specs.EndedStreams.{Finds}
use Rattle.qc_select.specs.declared.selected.Selected.{Selected}
use Rattle.qc_select.specs.declared.selected.Selected.TheVariants as selected
use Rattle.qc_select.specs.Selects.{Begins, Decided, Decides, IsOfText, MayAsk, answering_asked, given, outside_by, planned, rule_by}
use Rattle.qc_select.proofs.Answering.{IsUnanswered, decided_begins, decided_hit, decided_more, decided_outside, decided_refused, finds_behind}
use Rattle.qc_select.proofs.Deciding.{decides, decides_on}
use Rattle.qc_select.proofs.Permitting.{MayGoOn}
use Rattle.qc_select.proofs.Rooms.{more_refl, more_trans, next_more}
use Rattle.qc_select.proofs.Seeing.{seen_is}
use Rattle.qc_select.proofs.Sweeping.{Keeps, finds_none, keeps_both, more_keeps, rested_keeps}

abbrev pub H : Type 0
H = Held ServerState Event ghosts

-- ---- the plan

-- the database that was taken is that of the journal
pub given_there : (h : H) (x : SnapshotState) (select : Select) (d : Database) → MayRelease h → MayAsk h.value.journal.events x → IsSnapshotState x → d ≡ h.value.database
    → planned (rows select (seen_on d x) x.state.db (flags_of x.state) x.state.session) ≡ planned (given x.state h.value.journal.events select)
given_there h x select d stands ask is same =
    ap (λ b. planned (rows select b x.state.db (flags_of x.state) x.state.session)) (seen_is h.value.journal.events d x (same ∙ stands.sound.1.sound.journal.database) is ask.stands)

-- ---- reasons

early : (a b r : Option Reason) (why : Reason) → (a or_else b) ≡ Some why → Some why ≡ (a or_else (b or_else r))
early (Some x) b r why h = sym h
early None (Some y) r why h = sym h
early None None r why h = absurd (none-some why h)

pub outside_early : (old v : ServerState) (s : State) (asked : Asked) (select : Select) (ts : List TableName) (key : List ℕ) (o : Option Reason) (why : Reason) → v ≡ old
    → o ≡ (rule_by v.options s asked select or_else unseen_reason s v.journal.events ts) → o ≡ Some why → Some why ≡ outside_by old.options s asked select old.journal.events ts key
outside_early old v s asked select ts key o why same is some =
    subst (λ (p : ServerState). Some why ≡ outside_by p.options s asked select p.journal.events ts key) same
    (early (rule_by v.options s asked select) (unseen_reason s v.journal.events ts) (option_map (λ (e : Entry). reason.Rival e.serial) (rival v.journal.events key)) why (sym is ∙ some))

-- the reason that was found, for the tables of the select and the bytes of the key
pub outside_of : (h : H) (s : State) (asked : Asked) (select : Select) (ts : List TableName) (key k : List ℕ) (o why : Option Reason) → ts ≡ select_tables s.db select → k ≡ key → o ≡ outside_by h.value.options s asked select h.value.journal.events ts k → o ≡ why
    → outside_by h.value.options s asked select h.value.journal.events (select_tables s.db select) key ≡ why
outside_of h s asked select ts key k o why named same is found = sym (is ∙ λ i. outside_by h.value.options s asked select h.value.journal.events (named i) (same i)) ∙ found

-- ---- a holding behind another

-- the same holding, with more room than this server
pub record IsBehind (start : ServerState) (h k : H) : Type 0 where
  pub same : SameHolder h k
  pub more : HasMoreRoom start k.value
  pub ranges : k.ranges ≡ h.ranges

-- the own stream was struck off, and the room for the events was made
abbrev pub IsReserved : H → H → Type 0
IsReserved h k = IsBehind (rested (holder h).number h.value) h k

pub behind_reserve : (h k : H) → SameHolder h k → HasMoreRoom (rested (holder h).number h.value) k.value → k.ranges ≡ h.ranges → IsReserved h k
behind_reserve h k same more ranges = record { same = same; more = more; ranges = ranges }

more_same : (a b : ServerState) → b ≡ a → HasMoreRoom a b
more_same a b e = subst (HasMoreRoom a) (sym e) (more_refl a)

pub behind_same : (h k : H) → SameHolder h k → k.value ≡ h.value → k.ranges ≡ h.ranges → IsBehind h.value h k
behind_same h k same value ranges = record { same = same; more = more_same h.value k.value value; ranges = ranges }

pub behind_look : {A : Type 0} (o : Option A) (h k : H) → o ≡ None → SameHolder h k → IfNone o ((k.value ≡ h.value) × (k.ranges ≡ h.ranges)) → IsBehind h.value h k
behind_look None h k is same none = behind_same h k same none.0 none.1
behind_look (Some x) h k is same none = absurd (none-some x (sym is))

pub behind_both : (start : ServerState) (h k l : H) → IsBehind start h k → IsBehind k.value k l → IsBehind start h l
behind_both start h k l a b = record { same = same_on h k l a.same b.same; more = more_trans start k.value l.value a.more b.more; ranges = b.ranges ∙ a.ranges }

pub reserved_keeps : (h k : H) → IsReserved h k → Keeps h.value k.value
reserved_keeps h k b = keeps_both h.value (rested (holder h).number h.value) k.value (rested_keeps (holder h).number h.value) (more_keeps (rested (holder h).number h.value) k.value b.more)

-- nothing is listed for the seat any more
pub next_reserved : (h k : H) (who : Who) → IsReserved h k → who.session ≡ (holder h).number - 1 → who.number ≡ event_count h.value.journal.events who.session + 1 → is_connected (holder h).number h.value ≡ true
    → listed_for (holder h).number (tasks_of k.value) ≡ [] → IsNext k who
next_reserved h k who b session number connected free =
    let keeps = reserved_keeps h k b in
    let same = number_is h k b.same in
    record {
      session = session ∙ ap (λ i. i - 1) (sym same);
      number = number ∙ ap (λ j. event_count j who.session + 1) (sym keeps.events);
      connected = (λ i. list_any (λ m. m == same i) (keeps.connected i).items) ∙ connected;
      free = ap (λ n. listed_for n (tasks_of k.value)) same ∙ free;
    }

pub ranges_reserved : (h k : H) → IsReserved h k → h.value.options.size ≤ 512 * h.ranges.room → k.value.options.size ≤ 512 * k.ranges.room
ranges_reserved h k b long = subst (λ (p : Options × Ranged). p.0.size ≤ 512 * p.1.room) (λ i. (sym (reserved_keeps h k b).options i, sym b.ranges i)) long

pub ask_reserved : (h k : H) (x : SnapshotState) → IsReserved h k → MayAsk h.value.journal.events x → MayAsk k.value.journal.events x
ask_reserved h k x b ask = subst (λ (j : Journal). MayAsk j x) (sym (reserved_keeps h k b).events) ask

-- the same may be said of an error
pub at_error : {A E P : Type 0} (r : Result A E) → P → OnErr r P
at_error (Ok x) p = tt
at_error (Err y) p = p

pub next_behind : (h k : H) (who : Who) → IsBehind h.value h k → IsNext h who → IsNext k who
next_behind h k who b next = next_more h k who b.same b.more next

pub err_behind : {A E : Type 0} (r : Result A E) (start : ServerState) (h k m : H) → IsBehind start h k → OnErr r (SameHolder k m × HasMoreRoom k.value m.value × (m.ranges ≡ k.ranges)) → OnErr r (SameHolder h m × HasMoreRoom start m.value × (m.ranges ≡ h.ranges))
err_behind (Ok x) start h k m b e = tt
err_behind (Err y) start h k m b e = (same_on h k m b.same e.0, more_trans start k.value m.value b.more e.1, e.2 ∙ b.ranges)

pub go_on : (h : H) (who : Who) → MayRelease h → IsNext h who → MayGoOn h.value who
go_on h who stands next = record {
  words = words h;
  sound = stands.sound;
  seat = (holder h).number;
  positive = omega (arith, h.seat.now.numbered.0, h.seat.now.numbered.1);
  session = next.session;
  number = next.number;
  free = next.free;
}

-- an event alone lists nothing
still_free : (h : H) (new : ServerState) (e : Event) (who : Who) → IsNext h who → new ≡ with_event e h.value → listed_for (holder h).number (tasks_of new) ≡ []
still_free h new e who next pushed = ap (λ (p : ServerState). listed_for (holder h).number (tasks_of p)) pushed ∙ next.free

module _ (who : Who) (key : List ℕ) (select : Select) (asked : Asked) (s : State) where
  -- what was decided on the holding k, from h on
  abbrev pub IsDecided : H → H → Selected → Type 0
  IsDecided h m x = (found : List FoundWord) × Finds h (with_ranges m h.ranges) found × Decided (holder h).number who key select asked s h.value m.value h.ranges m.ranges found x

  pub one_behind : (h k m : H) (x : Selected) → IsReserved h k → IsNext k who → IsDecided k m x → IsDecided h m x
  one_behind h k m x b next d =
      let same = number_is h k b.same in (
        d.0,
        finds_behind h k m d.0 b.same d.1,
        decided_more (holder h).number who key select asked s h.value k.value m.value h.ranges m.ranges d.0 x b.more (ap (λ n. listed_for n (tasks_of k.value)) (sym same) ∙ next.free)
            (subst (λ (p : ℕ × Ranged). Decided p.0 who key select asked s k.value m.value p.1 m.ranges d.0 x) (λ i. (same i, b.ranges i)) d.2),
      )

  pub ok_behind : {E : Type 0} (r : Result Selected E) (h k m : H) → IsReserved h k → IsNext k who → IfOk r (IsDecided k m) → IfOk r (IsDecided h m)
  ok_behind (Ok x) h k m b next d = one_behind h k m x b next d
  ok_behind (Err e) h k m b next d = tt

  -- an entry answers
  hit_at : (h m : H) (hit : Hit) → IsNext h who → SameHolder h m → Some hit.serial ≡ option_map (λ entry. entry.serial) (answering_asked h.value.options asked s h.value.journal.events key)
      → m.value ≡ hit_server who hit.serial (holder h).number h.value → (hit.place ≡ length m.value.journal.events) × (hit.bytes ≡ m.ranges.bytes) → IsChainOf hit.serial m.value m.ranges → hit.bytes ≤ 8 * words_of m.ranges.blocks → m.ranges.room ≡ h.ranges.room
      → listed_for (holder h).number (tasks_of m.value) ≡ own (holder h).number (task.Stream hit.serial) m.ranges.blocks → IsDecided h m (selected.Hit hit)
  hit_at h m hit next same found server place chain within kept listed = ([], finds_none h m same, decided_hit (holder h).number who key select asked s h.value next.free m.value h.ranges m.ranges hit found server place.0 place.1 chain within kept listed)

  pub hit_decided : (k m : H) (o : Option Hit) (hit : Hit) → o ≡ Some hit → IsNext k who → SameHolder k m → option_map (λ hit. hit.serial) o ≡ option_map (λ entry. entry.serial) (answering_asked k.value.options asked s k.value.journal.events key)
      → IfSome o (λ hit. m.value ≡ hit_server who hit.serial (holder k).number k.value) → IfSome o (λ hit. (hit.place ≡ length m.value.journal.events) × (hit.bytes ≡ m.ranges.bytes)) → IfSome o (λ hit. IsChainOf hit.serial m.value m.ranges)
      → IfSome o (λ hit. hit.bytes ≤ 8 * words_of m.ranges.blocks) → IfSome o (λ hit. m.ranges.room ≡ k.ranges.room) → IfSome o (λ hit. listed_for (holder k).number (tasks_of m.value) ≡ own (holder k).number (task.Stream hit.serial) m.ranges.blocks) → IsDecided k m (selected.Hit hit)
  hit_decided k m None hit is next same found server place chain within kept listed = absurd (none-some hit is)
  hit_decided k m (Some x) hit is next same found server place chain within kept listed = subst (λ y. IsDecided k m (selected.Hit y)) (same_Some x hit is) (hit_at k m x next same found server place chain within kept listed)

  -- it is refused
  pub refused_decided : (h k m : H) (e : SqlError) (x : Selected) → IsNext h who → IsUnanswered (holder h).number who key select asked s h.value → ◌≡◌ {A = Result PlanView SqlError} (Err e) (planned (given s h.value.journal.events select)) → SameHolder h k → k.value ≡ h.value → SameHolder k m
      → x ≡ selected.Plain (reason.Error e.code) (length m.value.journal.events) (Err e) → m.value ≡ with_event (event.Run who (how.Plain (reason.Error e.code))) k.value → m.ranges ≡ h.ranges → IsDecided h m x
  refused_decided h k m e x next none is same value after what pushed ranges =
      let run = event.Run who (how.Plain (reason.Error e.code)) in
      let own = pushed ∙ ap (with_event run) value in
      subst (IsDecided h m) (sym what) ([], finds_none h m (same_on h k m same after), decided_refused (holder h).number who key select asked s h.value next.free m.value h.ranges m.ranges e none is own ranges (still_free h m.value run who next own))

  -- it runs plain
  pub plain_decided : {E : Type 0} (r : Result Selected E) (h k m : H) (why : Reason) (plan : PlanView) → IsNext h who → IsUnanswered (holder h).number who key select asked s h.value → ◌≡◌ {A = Result PlanView _} (Ok plan) (planned (given s h.value.journal.events select))
      → outside_by h.value.options s asked select h.value.journal.events (select_tables s.db select) key ≡ Some why → MayRunPlain h.value who why → SameHolder h k → k.value ≡ h.value → SameHolder k m
      → IfOk r (λ x. x ≡ selected.Plain why (length m.value.journal.events) (Ok plan)) → IfOk r (λ x. m.value ≡ with_event (event.Run who (how.Plain why)) k.value) → m.ranges ≡ h.ranges → IfOk r (IsDecided h m)
  plain_decided (Err e) h k m why plan next none is out may same value after what pushed ranges = tt
  plain_decided (Ok x) h k m why plan next none is out may same value after what pushed ranges =
      let own = pushed ∙ ap (with_event (event.Run who (how.Plain why))) value in
      subst (IsDecided h m) (sym what) (
        [],
        finds_none h m (same_on h k m same after),
        decided_outside (holder h).number who key select asked s h.value next.free m.value h.ranges m.ranges why plan none is out may own ranges (still_free h m.value (event.Run who (how.Plain why)) who next own),
      )

  -- a start is tried
  pub begins_decided : {E : Type 0} (r : Result Selected E) (h k m : H) (plan : PlanView) (ts : List TableName) → IsNext h who → IsUnanswered (holder h).number who key select asked s h.value → ◌≡◌ {A = Result PlanView _} (Ok plan) (planned (given s h.value.journal.events select))
      → outside_by h.value.options s asked select h.value.journal.events (select_tables s.db select) key ≡ None → ts ≡ select_tables s.db select → SameHolder h k → k.value ≡ h.value → k.ranges ≡ h.ranges
      → IfOk r (λ x. (found : List FoundWord) × Finds k (with_ranges m k.ranges) found × Begins (holder k).number who key ts plan k.value m.value k.ranges m.ranges found x) → IfOk r (IsDecided h m)
  begins_decided (Err e) h k m plan ts next none is out named same value ranges b = tt
  begins_decided (Ok x) h k m plan ts next none is out named same value ranges b = (
    b.0,
    finds_behind h k m b.0 same b.1,
    decided_begins (holder h).number who key select asked s h.value next.free m.value h.ranges m.ranges b.0 plan x none is out
        (subst (λ (p : ℕ × ServerState × Ranged × List TableName). Begins p.0 who key p.3 plan p.1 m.value p.2 m.ranges b.0 x) (λ i. (number_is h k same i, value i, ranges i, named i)) b.2),
  )

pub err_plain : {A E : Type 0} (r : Result A E) (h k m : H) → SameHolder h k → k.value ≡ h.value → SameHolder k m → OnErr r (m.value ≡ k.value) → m.ranges ≡ h.ranges → OnErr r (SameHolder h m × HasMoreRoom h.value m.value × (m.ranges ≡ h.ranges))
err_plain (Ok x) h k m same value after e ranges = tt
err_plain (Err y) h k m same value after e ranges = (same_on h k m same after, more_same h.value m.value (e ∙ value), ranges)

-- ---- for the text

module _ (h k : H) (x : SnapshotState) (key : List ℕ) (select : Select) (asked : Asked) (text : List ℕ) (who : Who) (b : IsReserved h k) (stands : MayRelease k) (next : IsNext k who) (ask : MayAsk h.value.journal.events x) (t : IsOfText x.state key select asked text) where
  pub one_decides : (m : H) (y : Selected) → IsDecided who key select asked x.state k m y → Decides who text key select x.state h.value m.value y
  one_decides m y d =
      decides_on h.value k.value m.value who text key select x.state y (reserved_keeps h k b)
      (decides (words k) k.value x key select asked text stands.sound (ask_reserved h k x b ask) t (holder k).number who m.value k.ranges m.ranges d.0 y next.free d.2)

  pub ok_decides : {E : Type 0} (r : Result Selected E) (m : H) → IfOk r (IsDecided who key select asked x.state k m) → IfOk r (Decides who text key select x.state h.value m.value)
  ok_decides (Ok y) m d = one_decides m y d
  ok_decides (Err e) m d = tt
