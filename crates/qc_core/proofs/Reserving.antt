-- Room in the journal, and how many entries there are.
use Rattle.std.proofs.Common.{◌≡◌, ℕ, ◌+◌, ◌≤◌, true, false, cond, List, [], ◌∷◌, length, map, refl, sym, ap, ◌∙◌, arith, inl, append-nil}
use Rattle.std.specs.Prelude.{not}
use Rattle.std.specs.List.{filter, AllZip}
use Rattle.std.proofs.lemmas.List.{length-map}
use Rattle.std.proofs.lemmas.List.Sums.{sum_by-cons}
use Rattle.qc_model.specs.Cache.{cache}
use Rattle.qc_model.specs.Cache.{Entry as Cached}
use Rattle.qc_key.specs.Hash.{hash}
use Rattle.qc_chain.specs.Chains.{Chained}
use Rattle.qc_dir.specs.declared.entries.Entry.{Entry}
use Rattle.qc_dir.specs.Directory.{incomplete}
use Rattle.qc_turn.specs.Releases.{Follows}
use Rattle.qc_sound.specs.PlainServer.{StoredEntry}
use Rattle.qc_sound.specs.Moment.{Moment, at_rest}
use Rattle.qc_sound.specs.parts.Journal.{incomplete_count, reserved}
use Rattle.qc_sound.specs.parts.Directory.{IsStoredAs}
use Rattle.qc_core.specs.declared.server_state.ServerState.{ServerState}
use Rattle.qc_core.specs.contracts.server.ServerKept.TheImpl.{ghosts}
use Rattle.qc_core.specs.Whole.{Named, stored, IsWhole, Sound}
use Rattle.qc_core.specs.Calls.{HasSpare, HasMoreRoom}

as_long : (m : Moment) (xs : List StoredEntry) (ys : List Cached) → AllZip (IsStoredAs m.hash) xs ys → length xs ≡ length ys
as_long m [] [] h = refl
as_long m [] (y ∷ ys) h = absurd h
as_long m (x ∷ xs) [] h = absurd h
as_long m (x ∷ xs) (y ∷ ys) h = omega (arith, as_long m xs ys h.1)

as_many : (m : Moment) (xs : List StoredEntry) (ys : List Cached) → AllZip (IsStoredAs m.hash) xs ys → length (filter (λ e. not e.complete) xs) ≡ incomplete_count ys
as_many m [] [] h = refl
as_many m [] (y ∷ ys) h = absurd h
as_many m (x ∷ xs) [] h = absurd h
as_many m (x ∷ xs) (y ∷ ys) h =
    let rest = as_many m xs ys h.1 in
    let one = sum_by-cons (λ (e : Cached). cond (not e.complete) 1 0) y ys in
    let same : length (cond (not x.complete) (x ∷ filter (λ e. not e.complete) xs) (filter (λ e. not e.complete) xs)) ≡ length (cond (not y.complete) (x ∷ filter (λ e. not e.complete) xs) (filter (λ e. not e.complete) xs)) = ap (λ b. length (cond (not b) (x ∷ filter (λ e. not e.complete) xs) (filter (λ e. not e.complete) xs))) h.0.complete in
    same ∙ (elim y.complete as (λ b. length (cond (not b) (x ∷ filter (λ e. not e.complete) xs) (filter (λ e. not e.complete) xs)) ≡ cond (not b) 1 0 + incomplete_count ys) [ true ↦ omega (arith, rest) | false ↦ omega (arith, rest) ] ∙ sym one)

stored_many : (cs : Chained) (es : List Entry) → length (filter (λ e. not e.complete) (map (stored cs) es)) ≡ incomplete es
stored_many cs [] = refl
stored_many cs (e ∷ es) =
    let rest = stored_many cs es in
    elim e.complete as (λ b. length (cond (not b) (stored cs e ∷ filter (λ e. not e.complete) (map (stored cs) es)) (filter (λ e. not e.complete) (map (stored cs) es))) ≡ length (cond (not b) (e ∷ filter (λ e. not e.complete) es) (filter (λ e. not e.complete) es))) [ true ↦ rest | false ↦ omega (arith, rest) ]

fewer : (es : List Entry) → incomplete es ≤ length es
fewer [] = omega arith
fewer (e ∷ es) = elim e.complete as (λ b. length (cond (not b) (e ∷ filter (λ e. not e.complete) es) (filter (λ e. not e.complete) es)) ≤ length (e ∷ es)) [ true ↦ omega (arith, fewer es) | false ↦ omega (arith, fewer es) ]

-- the entries are as many as those of the cache
pub entries_are : (m : Moment) (names : List Named) (words : List ℕ) (s : ServerState) → IsWhole m names words s → length s.dir.entries ≡ length (cache s.journal.events)
entries_are m names words s h = sym (length-map s.dir.entries (stored s.chains)) ∙ as_long m (map (stored s.chains) s.dir.entries) (cache s.journal.events) h.sound.directory

pub reserved_is : (m : Moment) (names : List Named) (words : List ℕ) (s : ServerState) → IsWhole m names words s → reserved (cache s.journal.events) ≡ length s.dir.entries + incomplete s.dir.entries
reserved_is m names words s h =
    omega (arith, entries_are m names words s h, stored_many s.chains s.dir.entries, as_many m (map (stored s.chains) s.dir.entries) (cache s.journal.events) h.sound.directory)

pub few_entries : (m : Moment) (names : List Named) (words : List ℕ) (s : ServerState) → IsWhole m names words s → length words ≤ 8388608 → (length s.dir.entries ≤ 65536) × (incomplete s.dir.entries ≤ 65536)
few_entries m names words s h long =
    let few : length s.dir.entries ≤ 65536 = omega (arith, h.room.entries, h.sound.region, long) in
    (few, omega (arith, few, fewer s.dir.entries))

-- ---- more room

pub more_sound : (words : List ℕ) (s : ServerState) (k : ℕ) → Sound words s → s.journal.spare ≤ k → Sound words (record s { journal = record { events = s.journal.events; spare = k } })
more_sound words s k sound more =
    let w = sound.1 in
    let h = w.sound in (
      sound.0,
      record {
        named = record { begun = w.named.begun; numbers = w.named.numbers; entries = w.named.entries; tasks = w.named.tasks };
        sound = record {
          rounded = h.rounded;
          region = h.region;
          journal = record { lawful = h.journal.lawful; small = h.journal.small; needs = h.journal.needs; database = h.journal.database; room = omega (arith, h.journal.room, more) };
          directory = h.directory;
          memory = record {
            tiles = record { tiling = h.memory.tiles.tiling; in_use = h.memory.tiles.in_use; pinned = h.memory.tiles.pinned };
            tables = record { named = h.memory.tables.named; once = h.memory.tables.once; words = h.memory.tables.words };
            chains = record { apart = h.memory.chains.apart; entered = h.memory.chains.entered; wanted = h.memory.chains.wanted; fitting = h.memory.chains.fitting; uncut = h.memory.chains.uncut };
            texts = h.memory.texts;
          };
          contents = h.contents;
          tasks = record { connected = h.tasks.connected; one_each = h.tasks.one_each; each = h.tasks.each; filled = h.tasks.filled; users = h.tasks.users };
        };
        directory = w.directory;
        seats = record { once = w.seats.once; room = w.seats.room; task_room = w.seats.task_room };
        room = record { entries = w.room.entries; tables = w.room.tables; chains = w.room.chains; unpinner = w.room.unpinner };
      },
    )

pub more_is : (s t : ServerState) → HasMoreRoom s t → t ≡ record s { journal = record { events = s.journal.events; spare = t.journal.spare } }
more_is s t h = h.same ∙ (λ i. record s { journal = record { events = h.events i; spare = t.journal.spare } })

pub more_follows : (s : ServerState) (k n : ℕ) (idle : List ℕ) → Follows ghosts n idle s (record s { journal = record { events = s.journal.events; spare = k } })
more_follows s k n idle = record { journal = ([], sym (append-nil s.journal.events)); others = λ k ne. refl; fixed = refl; connected = λ k ne. refl; tasks = λ k ne. inl refl }

-- what there is room for
pub room_so : (words : List ℕ) (s v t : ServerState) → Sound words s → v ≡ s → HasMoreRoom v t → length v.dir.entries + incomplete v.dir.entries + 1 ≤ t.journal.spare → HasSpare t
room_so words s v t sound same more room =
    let is = reserved_is (at_rest hash) sound.0 words s sound.1 in
    let events : t.journal.events ≡ s.journal.events = more.events ∙ ap (λ (x : ServerState). x.journal.events) same in
    omega (arith, room, is, ap (λ j. reserved (cache j)) events, ap (λ (x : ServerState). length x.dir.entries + incomplete x.dir.entries) same)
