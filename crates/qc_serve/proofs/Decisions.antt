-- A SELECT is decided under the turn: what its seat then may go on with, and what was decided.
use Rattle.std.proofs.Common.{◌≡◌, ℕ, ◌*◌, ◌≤◌, Bool, true, false, cond, List, [], ◌∷◌, ◌++◌, refl, sym, ap, ◌∙◌, subst, arith}
use Rattle.std.specs.Prelude.{◌==◌, slice_index, Option, Some, None, option_map}
use Rattle.std.specs.List.{list_any}
use Rattle.std.proofs.lemmas.Option.{none-some}
use Rattle.qc_types.specs.declared.names.TableName.{TableName}
use Rattle.qc_types.specs.declared.options.Options.{Options}
use Rattle.qc_sql.specs.declared.session.Asked.{Asked}
use Rattle.qc_sql.specs.declared.statements.Select.{Select}
use Rattle.qc_sql.specs.Database.{Database}
use Rattle.qc_sql.specs.Rules.{select_tables}
use Rattle.qc_model.specs.declared.events.Event.{Event}
use Rattle.qc_model.specs.declared.events.Event.TheVariants as event
use Rattle.qc_model.specs.declared.events.How.TheVariants as how
use Rattle.qc_model.specs.declared.events.Reason.TheVariants as reason
use Rattle.qc_model.specs.declared.events.Who.{Who}
use Rattle.qc_model.specs.Cache.{Entry as Cached}
use Rattle.qc_model.specs.Choice.{Allows, answering}
use Rattle.qc_model.specs.Journal.{Journal}
use Rattle.qc_model.specs.Licence.{IsLawful}
use Rattle.qc_model.specs.Needs.{HasOwnNeeds}
use Rattle.qc_model.specs.Session.{State}
use Rattle.qc_trx.specs.SnapshotStates.{SnapshotState}
use Rattle.qc_chain.specs.Chains.{Ranged}
use Rattle.qc_chain.specs.Words.{words_of}
use Rattle.qc_tiles.specs.declared.blocks.Block.{Block}
use Rattle.qc_turn.specs.declared.task.Task.TheVariants as task
use Rattle.qc_turn.specs.declared.view.FoundWord.{FoundWord}
use Rattle.qc_turn.specs.declared.view.View.{View}
use Rattle.qc_turn.specs.Seats.{Held, MayRelease, holder, taken, with_ranges}
use Rattle.qc_turn.specs.Tasks.{listed_for, own}
use Rattle.qc_turn.specs.Views.{base_of}
use Rattle.qc_core.specs.contracts.server.ServerKept.TheImpl.{ghosts}
use Rattle.qc_core.specs.declared.server_state.ServerState.{ServerState}
use Rattle.qc_core.specs.declared.entry_start.Begun.{Begun}
use Rattle.qc_core.specs.declared.entry_start.Begun.TheVariants as begun
use Rattle.qc_core.specs.Eviction.{PrunesMany}
use Rattle.qc_core.specs.ListRoom.{Reserved}
use Rattle.qc_core.specs.EntryStart.{IsBegun, Takes, needs_of}
use Rattle.qc_core.specs.TaskEnd.{rested}
use Rattle.qc_core.specs.EndedStreams.{Finds, swept}
use Rattle.qc_core.specs.Whole.{tasks_of}
use Rattle.qc_core.proofs.FillTasks.{pruned_after}
use Rattle.qc_select.specs.declared.selected.Selected.{Selected}
use Rattle.qc_select.specs.declared.selected.Selected.TheVariants as selected
use Rattle.qc_select.specs.Selects.{Decided, Decides, Does, MayAsk, how_of, place_of, selected_tasks}
use Rattle.qc_select.specs.Settled.{state_at}
use Rattle.qc_statements.specs.Sound.{IsFitState}
use Rattle.qc_statements.proofs.Looking.{place_by_fit}
use Rattle.qc_statements.proofs.States.{stands_in}
use Rattle.qc_serve.specs.Holding.{HasBegun, TurnsHeld}
use Rattle.qc_serve.specs.Ends.{Makes}
use Rattle.qc_serve.specs.Asking.{HasHeld, IsAsking, IsDecided, MaySelect, SelectsHeld, task_of}
use Rattle.qc_serve.specs.Seats.{IsReady, IsSameSeat, SameBooks, next_of}
use Rattle.qc_serve.proofs.Books.{more_books, rested_books, swept_books}
use Rattle.qc_serve.proofs.Deciding.{fit_taken, ready_goes_on, ready_who}
use Rattle.qc_serve.proofs.Finding.{hit_connected, hit_events}
use Rattle.qc_serve.proofs.Hitting.{hit_answered}
use Rattle.qc_serve.proofs.Seating.{found_seat}

-- ---- who is connected stays so

many_connected : (tables : List TableName) (need count : ℕ) (s t : ServerState) → PrunesMany tables need count s t → t.connected ≡ s.connected
many_connected tables need count s t h = let after = pruned_after tables need count s t h in after.connected

takes_connected : (tables : List TableName) (needs : List ℕ) (s : ServerState) (bs : List Block) (t : ServerState) → Takes tables needs s bs t → t.connected ≡ s.connected
takes_connected tables [] s [] t h = ap (λ (x : ServerState). x.connected) h
takes_connected tables [] s (b ∷ bs) t h = absurd h
takes_connected tables (need ∷ needs) s [] t h = absurd h
takes_connected tables (need ∷ needs) s (b ∷ bs) t h =
    let one = h.1 in
    takes_connected tables needs h.0 bs t h.2 ∙ (ap (λ (x : ServerState). x.connected) one.server ∙ many_connected tables need one.count s one.mid one.prunes)

begun_connected : (seat : ℕ) (who : Who) (key : List ℕ) (tables : List TableName) (s t : ServerState) (before after : Ranged) (b : Begun) → IsBegun seat who key tables s t before after b → t.connected ≡ s.connected
begun_connected seat who key tables s t before after (begun.Started b) h = let adds = h.adds in ap (λ (x : ServerState). x.connected) adds.server ∙ takes_connected tables (needs_of s.options s.dir.tables tables key) s (h.blocks ++ h.first ∷ h.text ∷ []) h.mid h.takes
begun_connected seat who key tables s t before after (begun.NoRoom need largest place) h =
    let short = h.short in
    ap (λ (x : ServerState). x.connected) h.server
    ∙ (ap (λ (x : ServerState). x.connected) short.server ∙ (many_connected tables short.need short.count short.mid short.last short.prunes ∙ takes_connected tables short.done s short.blocks short.mid short.takes))

swept_connected : (found : List FoundWord) (s : ServerState) → (swept found s).connected ≡ s.connected
swept_connected found s = let b = swept_books found s in b.connected

module _ (seat : ℕ) (who : Who) (key : List ℕ) (tables : List TableName) (s t : ServerState) (before after : Ranged) (found : List FoundWord) where
  does_connected : (x : Selected) → Does seat who key tables s t before after found x → t.connected ≡ s.connected
  does_connected (selected.Hit hit) d = ap (λ (x : ServerState). x.connected) d.1 ∙ hit_connected who hit.serial seat s
  does_connected (selected.Start serial place plan) d = begun_connected seat who key tables (swept found s) t before after (begun.Started (record { serial = serial; place = place })) d.1 ∙ swept_connected found s
  does_connected (selected.Plain (reason.NoRoom need largest) place plan) d = begun_connected seat who key tables (swept found s) t before after (begun.NoRoom need largest place) d.1 ∙ swept_connected found s
  does_connected (selected.Plain (reason.Error code) place plan) d = ap (λ (x : ServerState). x.connected) d.1
  does_connected (selected.Plain reason.Off place plan) d = ap (λ (x : ServerState). x.connected) d.1
  does_connected (selected.Plain reason.NotAsked place plan) d = ap (λ (x : ServerState). x.connected) d.1
  does_connected (selected.Plain (reason.Rule w) place plan) d = ap (λ (x : ServerState). x.connected) d.1
  does_connected (selected.Plain (reason.Written w) place plan) d = ap (λ (x : ServerState). x.connected) d.1
  does_connected (selected.Plain (reason.NotVisible w changed snapshot) place plan) d = ap (λ (x : ServerState). x.connected) d.1
  does_connected (selected.Plain (reason.Rival n) place plan) d = ap (λ (x : ServerState). x.connected) d.1

  -- the ranges keep their room
  does_room : (x : Selected) → Does seat who key tables s t before after found x → after.room ≡ before.room
  does_room (selected.Hit hit) d = d.6
  does_room (selected.Start serial place plan) d = let b = d.1 in ap (λ (r : Ranged). r.room) b.ranges
  does_room (selected.Plain (reason.NoRoom need largest) place plan) d = let b = d.1 in ap (λ (r : Ranged). r.room) b.ranges
  does_room (selected.Plain (reason.Error code) place plan) d = ap (λ (r : Ranged). r.room) d.3
  does_room (selected.Plain reason.Off place plan) d = ap (λ (r : Ranged). r.room) d.3
  does_room (selected.Plain reason.NotAsked place plan) d = ap (λ (r : Ranged). r.room) d.3
  does_room (selected.Plain (reason.Rule w) place plan) d = ap (λ (r : Ranged). r.room) d.3
  does_room (selected.Plain (reason.Written w) place plan) d = ap (λ (r : Ranged). r.room) d.3
  does_room (selected.Plain (reason.NotVisible w changed snapshot) place plan) d = ap (λ (r : Ranged). r.room) d.3
  does_room (selected.Plain (reason.Rival n) place plan) d = ap (λ (r : Ranged). r.room) d.3

  -- an entry whose fill is listed was started
  does_begin : (x : Selected) → Does seat who key tables s t before after found x → HasBegun (task_of x) t.journal.events
  does_begin (selected.Hit hit) d = tt
  does_begin (selected.Start serial place plan) d =
      let b = d.1 in
      let mid = b.mid in
      record { who = who; key = key; tables = tables; earlier = mid.journal.events; later = []; split = b.events }
  does_begin (selected.Plain why place plan) d = tt

listed_as : (seat : ℕ) (r : Ranged) (x : Selected) → selected_tasks seat r x ≡ own seat (task_of x) r.blocks
listed_as seat r (selected.Hit hit) = refl
listed_as seat r (selected.Start serial place plan) = refl
listed_as seat r (selected.Plain why place plan) = refl

-- ---- the entry that answers, where the cache is asked

answering_by : (b : Bool) (o : Option Cached) (n : ℕ) → option_map (λ (y : Cached). y.serial) (cond b o None) ≡ Some n → option_map (λ (y : Cached). y.serial) o ≡ Some n
answering_by true o n h = h
answering_by false o n h = absurd (none-some n h)

-- ---- the options stay

pub options_are : (a b : Options) → ◌≡◌ {A = List ℕ} (a.size ∷ a.limit ∷ a.unit ∷ a.kind ∷ []) (b.size ∷ b.limit ∷ b.unit ∷ b.kind ∷ []) → a ≡ b
options_are a b h =
    let size : a.size ≡ b.size = cc in
    let limit : a.limit ≡ b.limit = cc in
    let unit : a.unit ≡ b.unit = cc in
    let kind : a.kind ≡ b.kind = cc in
    λ i. record { size = size i; limit = limit i; unit = unit i; kind = kind i }

-- ---- the call

module _ (session : ℕ) (who : Who) (key : List ℕ) (select : Select) (asked : Asked) (state : State) (h g k : Held ServerState Event ghosts) (found : List FoundWord) (x : Selected) (a : IsAsking session h) (named : who.session ≡ session) (ready : IsReady who g)
    (same : IsSameSeat h g) (books : SameBooks h.value g.value) (stands : MayRelease k) (finds : Finds g (with_ranges k g.ranges) found) (d : Decided (holder g).number who key select asked state g.value k.value g.ranges k.ranges found x) where
  on : IsSameSeat g (with_ranges k g.ranges)
  on = found_seat g (with_ranges k g.ranges) found finds

  whole : IsSameSeat h (with_ranges k h.ranges)
  whole =
      let s = on in
      record { seat = s.seat ∙ same.seat; turn = s.turn ∙ same.turn; number = s.number ∙ same.number; seen = s.seen ∙ same.seen; fixed = s.fixed ∙ same.fixed; registry = s.registry ∙ same.registry; word_set = s.word_set ∙ same.word_set; task = s.task ∙ same.task; ranges = refl }

  -- the value has the options that it had when it was taken
  fixed : ghosts.fixed k.value ≡ ghosts.fixed h.value
  fixed =
      let was = ready.stands in
      let was_taken = was.follows in
      let follows = stands.follows in
      let base : taken k ≡ taken g = ap (λ (v : View ServerState Event). base_of k.value v.holding) finds.holder in
      follows.fixed ∙ (ap ghosts.fixed base ∙ (sym was_taken.fixed ∙ ap (λ (o : Options). o.size ∷ o.limit ∷ o.unit ∷ o.kind ∷ []) books.options))

  connected : k.value.connected ≡ g.value.connected
  connected =
      let more = more_books (rested (holder g).number g.value) d.room d.more in
      let rest = rested_books (holder g).number g.value in
      does_connected (holder g).number who key (select_tables state.db select) d.room k.value g.ranges k.ranges found x d.does ∙ (more.connected ∙ rest.connected)

  pub selected_turns : TurnsHeld (task_of x) h k
  selected_turns =
      let s = on in
      let w = whole in
      let next = ready.next in
      record {
        may = record {
          stands = stands;
          seated = omega (arith, s.number, ready.seat);
          few = omega (arith, w.number, a.few);
          unset = s.word_set ∙ ready.unset;
          rested = w.task ∙ a.rested;
          listed = subst (λ m. listed_for m (tasks_of k.value) ≡ own m (task_of x) k.ranges.blocks) (sym s.number) (d.listed ∙ listed_as (holder g).number k.ranges x);
          begun = does_begin (holder g).number who key (select_tables state.db select) d.room k.value g.ranges k.ranges found x d.does;
          connected = (λ i. let r : Reserved ℕ = connected i in list_any (λ m. m == s.number i) r.items) ∙ next.connected;
        };
        same = w;
        room = does_room (holder g).number who key (select_tables state.db select) d.room k.value g.ranges k.ranges found x d.does ∙ ap (λ (r : Ranged). r.room) same.ranges;
      }

  pub still_known : (holder k).fixed ≡ ghosts.fixed k.value
  still_known = let w = whole in w.fixed ∙ (a.known ∙ sym fixed)

  pub still_room : k.value.options.size ≤ 512 * k.ranges.room
  still_room =
      let size : k.value.options.size ≡ h.value.options.size = ap (λ (l : List ℕ). slice_index l 0) fixed in
      let room : k.ranges.room ≡ h.ranges.room = does_room (holder g).number who key (select_tables state.db select) d.room k.value g.ranges k.ranges found x d.does ∙ ap (λ (r : Ranged). r.room) same.ranges in
      omega (arith, a.room, size, room)

-- the hit has its stream in hand
pub selected_hit : (who : Who) (key : List ℕ) (select : Select) (asked : Asked) (state : State) (g k : Held ServerState Event ghosts) (found : List FoundWord) (x : Selected) → IsReady who g → MayRelease k → Finds g (with_ranges k g.ranges) found
    → Decided (holder g).number who key select asked state g.value k.value g.ranges k.ranges found x → HasHeld key k x
selected_hit who key select asked state g k found (selected.Hit hit) ready stands finds d =
    let n = hit.serial in
    let J : Journal = g.value.journal.events in
    let more = more_books (rested (holder g).number g.value) d.room d.more in
    let rest = rested_books (holder g).number g.value in
    let on = found_seat g (with_ranges k g.ranges) found finds in
    let was = ready.stands in
    let events : k.value.journal.events ≡ J ++ event.Run who (how.Hit n) ∷ [] = hit_events who n (holder g).number d.room k.value k.ranges d.does.1 d.does.4 ∙ ap (λ (j : Journal). j ++ event.Run who (how.Hit n) ∷ []) (more.events ∙ rest.events) in
    let chosen : option_map (λ (y : Cached). y.serial) (answering state J key) ≡ Some n = answering_by _ (answering state J key) n d.chosen in (
      record {
        listed = subst (λ m. listed_for m (tasks_of k.value) ≡ own m (task.Stream n) k.ranges.blocks) (sym on.number) d.listed;
        within = subst (λ b. b ≤ 8 * words_of k.ranges.blocks) d.does.3 d.does.5;
        answered = hit_answered k g.value.options J who n key state was.sound.1.sound.journal.lawful stands chosen events d.does.4;
      },
      d.does.3,
    )
selected_hit who key select asked state g k found (selected.Start serial place plan) ready stands finds d = tt
selected_hit who key select asked state g k found (selected.Plain why place plan) ready stands finds d = tt

-- what was decided
selected_so : (who : Who) (text key : List ℕ) (select : Select) (state : State) (h g k : Held ServerState Event ghosts) (x : Selected) (database : Database) → who.session ≡ state.session → IsReady who g → IsSameSeat h g → SameBooks h.value g.value → Makes g.value.journal.events database → IsLawful h.value.options k.value.journal.events
    → Decides who text key select state g.value k.value x → IsDecided state.session h.value.options text key select state (holder h).seen k.value.journal.events x database
selected_so who text key select state h g k x database named ready same books makes lawful c =
    let J : Journal = g.value.journal.events in
    let who_is : who ≡ next_of state.session (holder h).seen = ready_who state.session who h g same named ready in
    let options : g.value.options ≡ h.value.options = books.options in
    record {
      journal = J;
      goes_on = ready_goes_on state.session who h g same named ready;
      makes = makes;
      prunes = c.prunes;
      only = c.only;
      events = subst (λ (w : Who). k.value.journal.events ≡ J ++ (c.prunes ++ event.Run w (how_of key (select_tables state.db select) x) ∷ [])) who_is c.events;
      place = c.place;
      allowed = subst (λ (o : Options). Allows o (state_at J (place_of x) select state) text select (J ++ c.prunes) (how_of key (select_tables state.db select) x)) options c.allowed;
      needs = subst (λ (p : Options × Who). HasOwnNeeds p.0 (J ++ c.prunes) key (event.Run p.1 (how_of key (select_tables state.db select) x))) (λ i. (options i, who_is i)) c.needs;
      plan = c.plan;
      lawful = lawful;
    }

pub selects_held : (who : Who) (text key : List ℕ) (select : Select) (asked : Asked) (state : State) (h g k : Held ServerState Event ghosts) (found : List FoundWord) (x : Selected) (database : Database) → IsAsking state.session h → who.session ≡ state.session → IsReady who g → IsSameSeat h g
    → SameBooks h.value g.value → Makes g.value.journal.events database → MayRelease k → Finds g (with_ranges k g.ranges) found → Decided (holder g).number who key select asked state g.value k.value g.ranges k.ranges found x → Decides who text key select state g.value k.value x
    → SelectsHeld text key select state h k x database
selects_held who text key select asked state h g k found x database a named ready same books makes stands finds d c =
    let options : k.value.options ≡ h.value.options = options_are k.value.options h.value.options (fixed state.session who key select asked state h g k found x a named ready same books stands finds d) in
    record {
      has = selected_hit who key select asked state g k found x ready stands finds d;
      decided = selected_so who text key select state h g k x database named ready same books makes (subst (λ (o : Options). IsLawful o k.value.journal.events) options stands.sound.1.sound.journal.lawful) c;
    }

-- ---- what run_select asks

pub may_ask : (who : Who) (h g : Held ServerState Event ghosts) (x : SnapshotState) → IsSameSeat h g → who.session ≡ x.state.session → IsReady who g → MaySelect (holder h).seen x → MayAsk g.value.journal.events x
may_ask who h g x same named ready may =
    let fit : IsFitState g.value.journal.events x = fit_taken x.state.session who h g x same named ready may.past may.fit in
    record { keyed = may.keyed; stands = stands_in g.value.journal.events x fit; place = place_by_fit g.value.journal.events x fit }
