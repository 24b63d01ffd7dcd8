-- What was decided is what a select may have at the place of its event.
use Rattle.std.proofs.Common.{◌≡◌, ◌⊎◌, inl, inr, ℕ, ◌+◌, ◌≤◌, Bool, true, false, cond, List, [], ◌∷◌, ◌++◌, length, refl, sym, ap, subst, ◌∙◌, arith, length-append}
use Rattle.std.specs.Prelude.{Option, Some, None, option_map, ◌&&◌}
use Rattle.std.specs.List.{list_all}
use Rattle.std.proofs.lemmas.Option.{none-some, same_Some}
use Rattle.qc_types.specs.declared.options.Options.{Options}
use Rattle.qc_sql.specs.declared.session.Asked.{Asked}
use Rattle.qc_sql.specs.declared.statements.Select.{Select}
use Rattle.qc_sql.specs.Rules.{select_tables}
use Rattle.qc_key.specs.Hash.{hash}
use Rattle.qc_chain.specs.Chains.{Ranged}
use Rattle.qc_turn.specs.declared.view.FoundWord.{FoundWord}
use Rattle.qc_turn.specs.Tasks.{listed_for}
use Rattle.qc_dir.specs.declared.entries.Entry.{Entry}
use Rattle.qc_dir.specs.Directory.{entry_at}
use Rattle.qc_model.specs.declared.events.Who.{Who}
use Rattle.qc_model.specs.declared.events.Event.{Event}
use Rattle.qc_model.specs.declared.events.Event.TheVariants as event
use Rattle.qc_model.specs.declared.events.How.{How}
use Rattle.qc_model.specs.declared.events.How.TheVariants as how
use Rattle.qc_model.specs.declared.events.Reason.{Reason}
use Rattle.qc_model.specs.declared.events.Reason.TheVariants as reason
use Rattle.qc_model.specs.Journal.{Journal}
use Rattle.qc_model.specs.Cache.{cache, is_prune}
use Rattle.qc_model.specs.Cache.{Entry as Cached}
use Rattle.qc_model.specs.Choice.{Allows, IsNoRoom, answering, has_key, is_visible, start_count}
use Rattle.qc_model.specs.Licence.{unit_words}
use Rattle.qc_model.specs.Needs.{HasNeeds, HasOwnNeeds, is_need}
use Rattle.qc_model.specs.Session.{State, key_of_text}
use Rattle.qc_laws.proofs.history.Serials.{serials_apart}
use Rattle.qc_trx.specs.SnapshotStates.{SnapshotState}
use Rattle.qc_sound.specs.Moment.{at_rest}
use Rattle.qc_sound.proofs.Needs.{needs_are}
use Rattle.qc_core.specs.declared.server_state.ServerState.{ServerState}
use Rattle.qc_core.specs.Whole.{Sound, tasks_of, with_event}
use Rattle.qc_core.specs.Calls.{HasMoreRoom}
use Rattle.qc_core.specs.HitStream.{hit_entry}
use Rattle.qc_core.specs.EndedStreams.{swept}
use Rattle.qc_core.proofs.Seeking.{own_serial, pair_of}
use Rattle.qc_select.specs.declared.selected.Selected.{Selected}
use Rattle.qc_select.specs.declared.selected.Selected.TheVariants as selected
use Rattle.qc_select.specs.Settled.{state_at}
use Rattle.qc_select.specs.Selects.{Decided, Decides, HasPlan, IsOfText, MayAsk, answering_asked, given, how_of, place_of, planned, reason_by}
use Rattle.qc_select.proofs.Beginning.{Runs, short_runs, started_runs}
use Rattle.qc_select.proofs.Choosing.{asked_entry, else_allowed, hit_allowed, plain_allowed}
use Rattle.qc_select.proofs.Needing.{is_own_prune, own_are_prunes, own_needs}
use Rattle.qc_select.proofs.Permitting.{asked_as, reason_as}
use Rattle.qc_select.proofs.NoReasons.{rows_alike}
use Rattle.qc_select.proofs.Rooms.{more_rested}
use Rattle.qc_select.proofs.Seeing.{reached}
use Rattle.qc_select.proofs.Settling.{settles}
use Rattle.qc_select.proofs.Sweeping.{Keeps, keeps_both, more_keeps, swept_keeps}

-- ---- the place

place_next : (jn q new : Journal) (e : Event) (p : ℕ) → p ≡ length new → new ≡ jn ++ (q ++ e ∷ []) → p ≡ length (jn ++ q) + 1
place_next jn q new e p at is =
    let whole = length-append jn (q ++ e ∷ []) in
    let behind = length-append q (e ∷ []) in
    let short = length-append jn q in
    let all : length new ≡ length (jn ++ (q ++ e ∷ [])) = ap (λ (l : Journal). length l) is in
    omega (arith, at, all, whole, behind, short)

module _ (words : List ℕ) (old : ServerState) (x : SnapshotState) (key : List ℕ) (select : Select) (asked : Asked) (text : List ℕ) (sound : Sound words old) (ask : MayAsk old.journal.events x) (t : IsOfText x.state key select asked text) where
  abbrev jn : Journal
  jn = old.journal.events

  abbrev s : State
  s = x.state

  -- the state at the place
  abbrev there : ℕ → State
  there p = state_at jn p select s

  at_place : (q : Journal) (h : How) (p : ℕ) → p ≡ length (jn ++ q) + 1 → Allows old.options (state_at jn (length (jn ++ q) + 1) select s) text select (jn ++ q) h → Allows old.options (there p) text select (jn ++ q) h
  at_place q h p is a = subst (λ n. Allows old.options (state_at jn n select s) text select (jn ++ q) h) (sym is) a

  -- the plan is that of the database at the place
  plan_there : (q : Journal) (p : ℕ) (y : Selected) → list_all is_prune q ≡ true → p ≡ length (jn ++ q) + 1 → HasPlan (given s jn select) y → HasPlan (given (there p) (jn ++ q) select) y
  plan_there q p y prunes is h =
      let g = settles jn q select s prunes (reached jn x ask.stands) in
      subst (λ n. HasPlan (given (state_at jn n select s) (jn ++ q) select) y) (sym is) (subst (λ r. HasPlan r y) (sym (rows_alike jn q s (state_at jn (length (jn ++ q) + 1) select s) g select)) h)

  -- ---- a hit

  record Answers (n : ℕ) : Type 0 where
    pub cached : Cached
    pub found : asked_entry old.options s text jn ≡ Some cached
    pub serial : n ≡ cached.serial

  answers : (n : ℕ) (o : Option Cached) → answering_asked old.options asked s jn key ≡ o → option_map (λ e. e.serial) o ≡ Some n → Answers n
  answers n None is h = absurd (none-some n h)
  answers n (Some e) is h = record { cached = e; found = sym (asked_as old.options jn s key select asked text t) ∙ is; serial = sym (same_Some e.serial n h) }

  asked_found : (b : Bool) (o : Option Cached) (e : Cached) → (cond b o None) ≡ Some e → o ≡ Some e
  asked_found true o e h = h
  asked_found false o e h = absurd (none-some e h)

  hit_events : (who : Who) (n seat : ℕ) (room : ServerState) (o : Option Entry) (e : Entry) → o ≡ Some e → (hit_entry who n seat o room).journal.events ≡ room.journal.events ++ event.Run who (how.Hit n) ∷ []
  hit_events who n seat room None e h = absurd (none-some e h)
  hit_events who n seat room (Some y) e h = refl

  hit_there : (n : ℕ) → Answers n → (e : Entry) × (entry_at n old.dir.entries ≡ Some e)
  hit_there n a =
      let found : answering s jn (key_of_text s text) ≡ Some a.cached = asked_found _ _ a.cached a.found in
      let own = own_serial (λ e. e.complete && has_key (key_of_text s text) e && is_visible s jn e) (cache jn) a.cached (serials_apart old.options jn sound.1.sound.journal.lawful) found in
      let q = (pair_of (at_rest hash) words sound.0 old a.cached.serial a.cached sound.1 own.0).0 in
      (q.entry, ap (λ k. entry_at k old.dir.entries) a.serial ∙ q.there)

  -- ---- by what was chosen

  pub decides_hit : (seat : ℕ) (who : Who) (new : ServerState) (before after : Ranged) (found : List FoundWord) (hit : _) → (d : Decided seat who key select asked s old new before after found (selected.Hit hit)) → HasMoreRoom old d.room → Decides who text key select s old new (selected.Hit hit)
  decides_hit seat who new before after found hit d more =
      let n = hit.serial in
      let a = answers n _ refl d.chosen in
      let e = hit_there n a in
      let dir : entry_at n d.room.dir.entries ≡ Some e.0 = ap (λ (p : ServerState). entry_at n p.dir.entries) more.same ∙ e.1 in
      let events : new.journal.events ≡ jn ++ event.Run who (how.Hit n) ∷ [] =
      ap (λ (p : ServerState). p.journal.events) d.does.1 ∙ hit_events who n seat d.room (entry_at n d.room.dir.entries) e.0 dir ∙ ap (λ j. j ++ event.Run who (how.Hit n) ∷ []) more.events in
      let p = place_next jn [] new.journal.events (event.Run who (how.Hit n)) hit.place d.does.2 events in
      record {
        prunes = [];
        only = refl;
        events = events;
        place = d.does.2;
        allowed = at_place [] (how.Hit n) hit.place p (hit_allowed old.options jn s text select a.cached n (reached jn x ask.stands) a.found a.serial);
        needs = tt;
        plan = tt;
      }

  pub decides_plain : (seat : ℕ) (who : Who) (new room : ServerState) (why : Reason) (place : ℕ) (plan : _) → answering_asked old.options asked s jn key ≡ None → reason_by old.options s asked select jn key ≡ Some why → HasPlan (given s jn select) (selected.Plain why place plan)
      → HasMoreRoom old room → new ≡ with_event (event.Run who (how.Plain why)) room → place ≡ length new.journal.events → HasOwnNeeds old.options (jn ++ []) key (event.Run who (how.Plain why)) → Decides who text key select s old new (selected.Plain why place plan)
  decides_plain seat who new room why place plan none is planned more pushed at needs =
      let events : new.journal.events ≡ jn ++ event.Run who (how.Plain why) ∷ [] = ap (λ (p : ServerState). p.journal.events) pushed ∙ ap (λ j. j ++ event.Run who (how.Plain why) ∷ []) more.events in
      let p = place_next jn [] new.journal.events (event.Run who (how.Plain why)) place at events in
      record {
        prunes = [];
        only = refl;
        events = events;
        place = at;
        allowed = at_place [] (how.Plain why) place p (plain_allowed old.options jn s text select why (reached jn x ask.stands) (sym (asked_as old.options jn s key select asked text t) ∙ none) (sym (reason_as old.options jn s key select asked text t) ∙ is));
        needs = needs;
        plan = plan_there [] place (selected.Plain why place plan) refl p planned;
      }

  -- behind some prunes
  decides_else : (who : Who) (new : ServerState) (y : Selected) → answering_asked old.options asked s jn key ≡ None → reason_by old.options s asked select jn key ≡ None → HasPlan (given s jn select) y
      → (r : Runs key who old new (how_of key (select_tables s.db select) y)) → place_of y ≡ length new.journal.events → HasOwnNeeds old.options (jn ++ r.prunes) key (event.Run who (how_of key (select_tables s.db select) y))
      → (how_of key (select_tables s.db select) y ≡ how.Start (start_count jn + 1) (key_of_text s text) (select_tables s.db select)) ⊎ IsNoRoom (how_of key (select_tables s.db select) y) → Decides who text key select s old new y
  decides_else who new y none is planned r at needs h =
      let prunes = own_are_prunes old.options key r.prunes r.own in
      let p = place_next jn r.prunes new.journal.events _ (place_of y) at r.events in
      record {
        prunes = r.prunes;
        only = prunes;
        events = r.events;
        place = at;
        allowed = at_place r.prunes _ (place_of y) p (else_allowed old.options jn r.prunes s text select _ prunes (reached jn x ask.stands) (sym (asked_as old.options jn s key select asked text t) ∙ none) (sym (reason_as old.options jn s key select asked text t) ∙ is) h);
        needs = needs;
        plan = plan_there r.prunes (place_of y) y prunes p planned;
      }

  swept_same : (found : List FoundWord) (room : ServerState) → HasMoreRoom old room → Keeps old (swept found room)
  swept_same found room more = keeps_both old room (swept found room) (more_keeps old room more) (swept_keeps found room)

  runs_before : (who : Who) (room new : ServerState) (h : How) → Keeps old room → Runs key who room new h → Runs key who old new h
  runs_before who room new h same r = record {
    prunes = r.prunes;
    own = subst (λ (o : Options). list_all (is_own_prune o key) r.prunes ≡ true) same.options r.own;
    events = r.events ∙ ap (λ j. j ++ (r.prunes ++ event.Run who h ∷ [])) same.events;
  }

  least : (room : ServerState) → Keeps old room → 64 ≤ unit_words room.options
  least room same = subst (λ (o : Options). 64 ≤ unit_words o) (sym same.options) sound.1.sound.rounded.least

  has_needs : HasNeeds old.options jn
  has_needs = needs_are old.options [] jn sound.1.sound.journal.needs

  decides_start : (seat : ℕ) (who : Who) (new : ServerState) (before after : Ranged) (found : List FoundWord) (serial place : ℕ) (plan : _) → (d : Decided seat who key select asked s old new before after found (selected.Start serial place plan)) → HasMoreRoom old d.room → Decides who text key select s old new (selected.Start serial place plan)
  decides_start seat who new before after found serial place plan d more =
      let tables = select_tables s.db select in
      let runs = runs_before who (swept found d.room) new (how.Start serial key tables) (swept_same found d.room more) (started_runs seat who key tables (swept found d.room) new before after (record { serial = serial; place = place }) (least (swept found d.room) (swept_same found d.room more)) d.does.1) in
      let number : serial ≡ start_count jn + 1 = d.does.1.serial ∙ ap (λ j. start_count j + 1) (swept_same found d.room more).events in
      decides_else who new (selected.Start serial place plan) d.chosen.0 d.chosen.1 d.plan runs d.does.1.place tt (inl (λ i. how.Start (number i) (t.key_is i) tables))

  decides_short : (seat : ℕ) (who : Who) (new : ServerState) (before after : Ranged) (found : List FoundWord) (need largest place : ℕ) (plan : _) → (d : Decided seat who key select asked s old new before after found (selected.Plain (reason.NoRoom need largest) place plan)) → HasMoreRoom old d.room
      → Decides who text key select s old new (selected.Plain (reason.NoRoom need largest) place plan)
  decides_short seat who new before after found need largest place plan d more =
      let tables = select_tables s.db select in
      let short = short_runs who key tables (swept found d.room) new before after need largest place (least (swept found d.room) (swept_same found d.room more)) d.does.1 in
      let runs = runs_before who (swept found d.room) new (how.Plain (reason.NoRoom need largest)) (swept_same found d.room more) short.runs in
      let is : is_need old.options key need ≡ true = subst (λ (o : Options). is_need o key need ≡ true) (swept_same found d.room more).options short.need_is in
      decides_else who new (selected.Plain (reason.NoRoom need largest) place plan) d.chosen.0 d.chosen.1 d.plan runs d.does.1.place (own_needs old.options jn runs.prunes key who need largest has_needs runs.own is) (inr (need, largest, refl))

  pub decides : (seat : ℕ) (who : Who) (new : ServerState) (before after : Ranged) (found : List FoundWord) (y : Selected) → listed_for seat (tasks_of old) ≡ [] → Decided seat who key select asked s old new before after found y → Decides who text key select s old new y
  decides seat who new before after found (selected.Hit hit) free d = decides_hit seat who new before after found hit d (more_rested seat old d.room free d.more)
  decides seat who new before after found (selected.Start serial place plan) free d = decides_start seat who new before after found serial place plan d (more_rested seat old d.room free d.more)
  decides seat who new before after found (selected.Plain (reason.NoRoom need largest) place plan) free d = decides_short seat who new before after found need largest place plan d (more_rested seat old d.room free d.more)
  decides seat who new before after found (selected.Plain (reason.Error code) place plan) free d = decides_plain seat who new d.room (reason.Error code) place plan d.chosen.0 d.chosen.1 d.plan (more_rested seat old d.room free d.more) d.does.1 d.does.2 tt
  decides seat who new before after found (selected.Plain reason.Off place plan) free d = decides_plain seat who new d.room reason.Off place plan d.chosen.0 d.chosen.1 d.plan (more_rested seat old d.room free d.more) d.does.1 d.does.2 tt
  decides seat who new before after found (selected.Plain reason.NotAsked place plan) free d = decides_plain seat who new d.room reason.NotAsked place plan d.chosen.0 d.chosen.1 d.plan (more_rested seat old d.room free d.more) d.does.1 d.does.2 tt
  decides seat who new before after found (selected.Plain (reason.Rule why) place plan) free d = decides_plain seat who new d.room (reason.Rule why) place plan d.chosen.0 d.chosen.1 d.plan (more_rested seat old d.room free d.more) d.does.1 d.does.2 tt
  decides seat who new before after found (selected.Plain (reason.Written table) place plan) free d = decides_plain seat who new d.room (reason.Written table) place plan d.chosen.0 d.chosen.1 d.plan (more_rested seat old d.room free d.more) d.does.1 d.does.2 tt
  decides seat who new before after found (selected.Plain (reason.NotVisible table changed snapshot) place plan) free d = decides_plain seat who new d.room (reason.NotVisible table changed snapshot) place plan d.chosen.0 d.chosen.1 d.plan (more_rested seat old d.room free d.more) d.does.1 d.does.2 tt
  decides seat who new before after found (selected.Plain (reason.Rival serial) place plan) free d = decides_plain seat who new d.room (reason.Rival serial) place plan d.chosen.0 d.chosen.1 d.plan (more_rested seat old d.room free d.more) d.does.1 d.does.2 tt

-- what was decided behind a change that keeps the events and the options
pub decides_on : (old mid new : ServerState) (who : Who) (text key : List ℕ) (select : Select) (s : State) (y : Selected) → Keeps old mid → Decides who text key select s mid new y → Decides who text key select s old new y
decides_on old mid new who text key select s y k d =
    let how = how_of key (select_tables s.db select) y in
    record {
      prunes = d.prunes;
      only = d.only;
      events = d.events ∙ ap (λ (j : Journal). j ++ (d.prunes ++ event.Run who how ∷ [])) k.events;
      place = d.place;
      allowed = subst (λ (p : Options × Journal). Allows p.0 (state_at p.1 (place_of y) select s) text select (p.1 ++ d.prunes) how) (λ i. (k.options i, k.events i)) d.allowed;
      needs = subst (λ (p : Options × Journal). HasOwnNeeds p.0 (p.1 ++ d.prunes) key (event.Run who how)) (λ i. (k.options i, k.events i)) d.needs;
      plan = subst (λ (j : Journal). HasPlan (given (state_at j (place_of y) select s) (j ++ d.prunes) select) y) k.events d.plan;
    }
