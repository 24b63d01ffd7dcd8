-- A hit, as the plain server has it.
use Rattle.std.proofs.Common.{◌≡◌, ◌≢◌, ℕ, suc, ◌+◌, ◌-◌, ◌*◌, ◌/◌, ◌<◌, ◌≤◌, eqb, eq-eqb, eqb-true, Bool, true, false, cond, List, [], ◌∷◌, ◌++◌, map, length, refl, sym, ap, subst, ◌∙◌, arith, true≢false, inl, inr, ⊎_elim, length-append, append-nil, ne_eqb}
use Rattle.std.specs.Prelude.{not, ◌==◌, Option, Some, None, is_some, Contains, find}
use Rattle.std.specs.List.{filter, flat_map, AllByRecursion}
use Rattle.std.proofs.lemmas.List.{map-append, length-map}
use Rattle.std.proofs.lemmas.List.Sums.{count_by-le-length}
use Rattle.std.proofs.lemmas.List.Concat.{flat_map-append}
use Rattle.std.proofs.lemmas.List.Elements.{Contains-append_left, Contains-append_right, Contains-append_cases}
use Rattle.std.proofs.lemmas.List.Sorted.{Contains-permutation, IsPermutation-sym, length_permutation}
use Rattle.qc_model.specs.declared.events.Who.{Who}
use Rattle.qc_model.specs.declared.events.Event.TheVariants as event
use Rattle.qc_model.specs.declared.events.How.TheVariants as how
use Rattle.qc_model.specs.Journal.{event_count}
use Rattle.qc_model.specs.Cache.{cache, entry_of}
use Rattle.qc_model.specs.Licence.{IsComplete, region_words}
use Rattle.qc_laws.proofs.history.Events.{found_all, all_append}
use Rattle.qc_tiles.specs.declared.blocks.Tile.{Tile}
use Rattle.qc_tiles.specs.declared.blocks.Block.{Block}
use Rattle.qc_tiles.specs.Tiles.{handed_out, block_of}
use Rattle.qc_tiles.proofs.Calls.{own_tiling}
use Rattle.qc_tiles.proofs.Tilings.{length_words, tiling_words}
use Rattle.qc_chain.specs.Chains.{Chained, chain_at, Begun, IsFit}
use Rattle.qc_chain.specs.Chains.{Chain as Kept}
use Rattle.qc_dir.specs.declared.entries.Entry.{Entry}
use Rattle.qc_dir.specs.Directory.{has_serial, entry_at, without, after_enter, after_touch, moved_to_end, IsDirectory, with_entries}
use Rattle.qc_turn.specs.declared.task.Task.TheVariants as task
use Rattle.qc_turn.specs.Tasks.{listed_for, own}
use Rattle.qc_sound.specs.PlainServer.{StoredEntry, EntryChain, blocks_at, blocks_of}
use Rattle.qc_sound.specs.PlainServer.{SeatTask}
use Rattle.qc_sound.specs.Moment.{Moment}
use Rattle.qc_sound.specs.Sound.{IsSound}
use Rattle.qc_sound.specs.parts.Directory.{IsStoredAs}
use Rattle.qc_sound.specs.parts.Contents.{IsSpelled}
use Rattle.qc_sound.specs.parts.Memory.{TilesAreSound, blocks_in_use}
use Rattle.qc_sound.specs.parts.Tasks.{is_stream_of}
use Rattle.qc_sound.specs.PlainServer.{is_stored}
use Rattle.qc_sound.specs.steps.Hits.{used_more, moved_stored, streaming, hit, Pins}
use Rattle.qc_sound.specs.steps.Events.{HasRoom}
use Rattle.qc_sound.specs.Handed.{after_pins}
use Rattle.qc_sound.proofs.Lists.{zip_both}
use Rattle.qc_sound.proofs.Moved.{found_pair, hit_entry, same_serials}
use Rattle.qc_sound.proofs.Hits.{hit_step}
use Rattle.qc_laws.specs.history.Runs.{are_distinct}
use Rattle.qc_laws.proofs.history.Serials.{serials_apart}
use Rattle.qc_sound.specs.parts.Tasks.{IsSeat}
use Rattle.qc_core.proofs.Seating.{found_less}
use Rattle.qc_sound.proofs.Handed.{pinned_all}
use Rattle.qc_core.specs.declared.server_state.RunningTask.{RunningTask}
use Rattle.qc_core.specs.declared.server_state.ServerState.{ServerState}
use Rattle.qc_core.specs.Whole.{Named, is_named, IsNamedAs, chain_blocks, stored, chain_in, work_in, listed_in, plain, tasks_of, IsNamed, IsWhole, with_event}
use Rattle.qc_core.specs.HitStream.{MayUse, streams, used_by, hit_server, entry_chain, IsChainOf}
use Rattle.qc_chain.specs.Chains.{Ranged}
use Rattle.qc_core.specs.HitStream.{hit_entry as hit_entry_server}
use Rattle.qc_core.specs.contracts.server.ServerKept.TheImpl.{ghosts}
use Rattle.qc_turn.specs.Releases.{Follows}
use Rattle.qc_turn.specs.declared.task.ListedTask.{ListedTask}
use Rattle.qc_turn.proofs.Holders.{of_seat_else}
use Rattle.qc_sound.specs.Pending.{NeedsOf}
use Rattle.std.proofs.lemmas.List.Elements.{filter-append}
use Rattle.qc_core.specs.KeptLaws.{blocks_named}
use Rattle.qc_core.proofs.Noting.{alone, none_listed}

some_same : {A : Type 0} (a b : A) → Some a ≡ Some b → a ≡ b
some_same a b h = cc

-- ---- the entries

abbrev pub entered : Entry → Entry
entered e = record e { users = e.users + 1 }

pub serial_at : (n : ℕ) (es : List Entry) (e : Entry) → entry_at n es ≡ Some e → e.serial ≡ n
serial_at n [] e h = absurd cc
serial_at n (x ∷ es) e h = elim (eqb x.serial n) as (λ b. eqb x.serial n ≡ b → cond b (Some x) (entry_at n es) ≡ Some e → e.serial ≡ n) [
  | true ↦ λ p f. subst (λ (y : Entry). y.serial ≡ n) (some_same x e f) (eqb-true x.serial n p)
  | false ↦ λ p f. serial_at n es e f
] refl h

pub entered_at : (n : ℕ) (es : List Entry) (e : Entry) → entry_at n es ≡ Some e → entry_at n (after_enter n es) ≡ Some (entered e)
entered_at n [] e h = absurd cc
entered_at n (x ∷ es) e h = elim (eqb x.serial n) as (λ b. eqb x.serial n ≡ b → cond b (Some x) (entry_at n es) ≡ Some e → entry_at n (cond b (entered x) x ∷ after_enter n es) ≡ Some (entered e)) [
  | true ↦ λ p f. ap (λ b. cond b (Some (entered x)) (entry_at n (after_enter n es))) p ∙ ap (λ y. Some (entered y)) (some_same x e f)
  | false ↦ λ p f. ap (λ b. cond b (Some x) (entry_at n (after_enter n es))) p ∙ entered_at n es e f
] refl h

without_entered : (n : ℕ) (es : List Entry) → without n (after_enter n es) ≡ without n es
without_entered n [] = refl
without_entered n (x ∷ es) = elim (eqb x.serial n) as (λ b. eqb x.serial n ≡ b → without n (cond b (entered x) x ∷ after_enter n es) ≡ cond (not b) (x ∷ without n es) (without n es)) [
  | true ↦ λ p. ap (λ b. cond (not b) (entered x ∷ without n (after_enter n es)) (without n (after_enter n es))) p ∙ without_entered n es
  | false ↦ λ p. ap (λ b. cond (not b) (x ∷ without n (after_enter n es)) (without n (after_enter n es))) p ∙ ap (λ l. x ∷ l) (without_entered n es)
] refl

pub used_is : (n : ℕ) (es : List Entry) (e : Entry) → entry_at n es ≡ Some e → after_touch n (after_enter n es) ≡ without n es ++ entered e ∷ []
used_is n es e h =
    ap (λ o. moved_to_end o (λ e. e) (after_enter n es)) (entered_at n es e h)
    ∙ (ap (λ m. without m (after_enter n es) ++ entered e ∷ []) (serial_at n es e h) ∙ ap (λ l. l ++ entered e ∷ []) (without_entered n es))

pub stored_at : (cs : Chained) (n : ℕ) (es : List Entry) (e : Entry) → entry_at n es ≡ Some e → find (is_stored n) (map (stored cs) es) ≡ Some (stored cs e)
stored_at cs n [] e h = absurd cc
stored_at cs n (x ∷ es) e h = elim (eqb x.serial n) as (λ b. cond b (Some x) (entry_at n es) ≡ Some e → cond b (Some (stored cs x)) (find (is_stored n) (map (stored cs) es)) ≡ Some (stored cs e)) [
  | true ↦ λ f. ap (λ y. Some (stored cs y)) (some_same x e f)
  | false ↦ λ f. stored_at cs n es e f
] h

pub stored_without : (cs : Chained) (n : ℕ) (es : List Entry) → map (stored cs) (without n es) ≡ filter (λ x. not (is_stored n x)) (map (stored cs) es)
stored_without cs n [] = refl
stored_without cs n (x ∷ es) = elim (eqb x.serial n) as (λ b. map (stored cs) (cond (not b) (x ∷ without n es) (without n es)) ≡ cond (not b) (stored cs x ∷ filter (λ x. not (is_stored n x)) (map (stored cs) es)) (filter (λ x. not (is_stored n x)) (map (stored cs) es))) [
  | true ↦ stored_without cs n es
  | false ↦ ap (λ l. stored cs x ∷ l) (stored_without cs n es)
]

pub stored_used : (cs : Chained) (n : ℕ) (es : List Entry) (e : Entry) → entry_at n es ≡ Some e → map (stored cs) (after_touch n (after_enter n es)) ≡ moved_stored n used_more (find (is_stored n) (map (stored cs) es)) (map (stored cs) es)
stored_used cs n es e h =
    ap (map (stored cs)) (used_is n es e h)
    ∙ (map-append (stored cs) (without n es) (entered e ∷ [])
    ∙ (ap (λ l. l ++ stored cs (entered e) ∷ []) (stored_without cs n es)
    ∙ sym (ap (λ o. moved_stored n used_more o (map (stored cs) es)) (stored_at cs n es e h))))

pub used_length : (n : ℕ) (es : List Entry) (e : Entry) → are_distinct (map (λ e. e.serial) es) ≡ true → entry_at n es ≡ Some e → length (after_touch n (after_enter n es)) ≡ length es
used_length n es e d there =
    let is = ap (λ (l : List Entry). length l) (used_is n es e there) in
    omega (arith, is, length-append (without n es) (entered e ∷ []), found_less (λ (e : Entry). e.serial) n es e d there)

stored_serials : (cs : Chained) (es : List Entry) → map (λ e. e.serial) (map (stored cs) es) ≡ map (λ e. e.serial) es
stored_serials cs [] = refl
stored_serials cs (x ∷ es) = ap (λ l. x.serial ∷ l) (stored_serials cs es)

pub serials_distinct : (m : Moment) (names : List Named) (words : List ℕ) (s : ServerState) → IsWhole m names words s → are_distinct (map (λ e. e.serial) s.dir.entries) ≡ true
serials_distinct m names words s h =
    ap are_distinct (sym (stored_serials s.chains s.dir.entries) ∙ same_serials m (map (stored s.chains) s.dir.entries) (cache s.journal.events) h.sound.directory) ∙ serials_apart s.options s.journal.events h.sound.journal.lawful

-- the entry of one that is stored
pub record Back (cs : Chained) (n : ℕ) (es : List Entry) (x : StoredEntry) : Type 0 where
  pub entry : Entry
  pub there : entry_at n es ≡ Some entry
  pub is : stored cs entry ≡ x

pub back : (cs : Chained) (n : ℕ) (es : List Entry) (x : StoredEntry) → find (is_stored n) (map (stored cs) es) ≡ Some x → Back cs n es x
back cs n [] x h = absurd cc
back cs n (y ∷ es) x h = elim (eqb y.serial n) as (λ b. eqb y.serial n ≡ b → cond b (Some (stored cs y)) (find (is_stored n) (map (stored cs) es)) ≡ Some x → Back cs n (y ∷ es) x) [
  | true ↦ λ p f. record { entry = y; there = ap (λ b. cond b (Some y) (entry_at n es)) p; is = some_same (stored cs y) x f }
  | false ↦ λ p f. let t = back cs n es x f in record { entry = t.entry; there = ap (λ b. cond b (Some y) (entry_at n es)) p ∙ t.there; is = t.is }
] refl h

-- all entries, but for the one that is used
pub all_without : (P : Entry → Type 0) (n : ℕ) (es : List Entry) → AllByRecursion P es → AllByRecursion P (without n es)
all_without P n [] h = tt
all_without P n (x ∷ es) h = elim (eqb x.serial n) as (λ b. AllByRecursion P (cond (not b) (x ∷ without n es) (without n es))) [
  | true ↦ all_without P n es h.1
  | false ↦ (h.0, all_without P n es h.1)
]

pub all_used : (P : Entry → Type 0) (n : ℕ) (es : List Entry) (e : Entry) → entry_at n es ≡ Some e → (P e → P (entered e)) → AllByRecursion P es → AllByRecursion P (after_touch n (after_enter n es))
all_used P n es e there more h = subst (AllByRecursion P) (sym (used_is n es e there)) (all_append P (without n es) (entered e ∷ []) (all_without P n es h) (more (found_all P (has_serial n) es e h there).0, tt))

-- ---- the chain

pub find_all : {A : Type 0} (P : A → Type 0) (p : A → Bool) (xs : List A) (x : A) → AllByRecursion P xs → find p xs ≡ Some x → P x
find_all P p xs x h f = (found_all P p xs x h f).0

chain_there : (o : Option Kept) → is_some o ≡ true → (c : Kept) × (o ≡ Some c)
chain_there None h = absurd (true≢false (sym h))
chain_there (Some c) h = (c, refl)

pub begun_at : (names : List Named) (s : ServerState) (serial number : ℕ) → IsNamed names s → IsNamedAs names serial number → (c : Kept) × Begun number s.chains c
begun_at names s serial number h is = chain_there (chain_at number s.chains) (find_all (λ x. is_some (chain_at x.number s.chains) ≡ true) (is_named serial) names _ h.begun is)

-- its blocks are among those of all chains
in_chains : (cs : Chained) (names : List Named) (n : ℕ) (x : Named) (b : Block) → find (is_named n) names ≡ Some x → Contains (chain_blocks (chain_at x.number cs)) b → Contains (flat_map (λ c. c.blocks) (map (chain_in cs) names)) b
in_chains cs [] n x b h k = absurd cc
in_chains cs (y ∷ names) n x b h k = elim (eqb y.serial n) as (λ v. cond v (Some y) (find (is_named n) names) ≡ Some x → Contains (chain_blocks (chain_at y.number cs) ++ flat_map (λ (c : EntryChain). c.blocks) (map (chain_in cs) names)) b) [
  | true ↦ λ f. Contains-append_left (chain_blocks (chain_at y.number cs)) (flat_map (λ (c : EntryChain). c.blocks) (map (chain_in cs) names)) b (subst (λ (z : Named). Contains (chain_blocks (chain_at z.number cs)) b) (sym (some_same y x f)) k)
  | false ↦ λ f. Contains-append_right (chain_blocks (chain_at y.number cs)) (flat_map (λ (c : EntryChain). c.blocks) (map (chain_in cs) names)) b (in_chains cs names n x b f k)
] h

more_chains : (cs : Chained) (names : List Named) (n : ℕ) (x : Named) → find (is_named n) names ≡ Some x → length (chain_blocks (chain_at x.number cs)) ≤ length (flat_map (λ c. c.blocks) (map (chain_in cs) names))
more_chains cs [] n x h = absurd cc
more_chains cs (y ∷ names) n x h =
    let sum = length-append (chain_blocks (chain_at y.number cs)) (flat_map (λ (c : EntryChain). c.blocks) (map (chain_in cs) names)) in
    elim (eqb y.serial n) as (λ v. cond v (Some y) (find (is_named n) names) ≡ Some x → length (chain_blocks (chain_at x.number cs)) ≤ length (chain_blocks (chain_at y.number cs) ++ flat_map (λ (c : EntryChain). c.blocks) (map (chain_in cs) names))) [
      | true ↦ λ f. let same : length (chain_blocks (chain_at y.number cs)) ≡ length (chain_blocks (chain_at x.number cs)) = ap (λ (z : Named). length (chain_blocks (chain_at z.number cs))) (some_same y x f) in omega (arith, sum, same)
      | false ↦ λ f. let more = more_chains cs names n x f in omega (arith, sum, more)
    ] h

-- from members to all
pub all_members : (P : Block → Type 0) (bs : List Block) → ((b : Block) → Contains bs b → P b) → AllByRecursion P bs
all_members P [] h = tt
all_members P (b ∷ bs) h = (h b (0, omega arith, refl), all_members P bs (λ c k. h c (suc k.0, omega (arith, k.1), k.2)))

-- the blocks of a chain are handed out
pub out_of : (m : Moment) (names : List Named) (words : List ℕ) (s : ServerState) (n number : ℕ) (held : Kept) → IsWhole m names words s → IsNamedAs names n number → Begun number s.chains held → AllByRecursion (Contains (handed_out s.tiles)) held.blocks
out_of m names words s n number held h is begun =
    let p = plain names s in
    all_members (Contains (handed_out s.tiles)) held.blocks (λ b k.
    Contains-permutation (m.held ++ blocks_in_use p) (handed_out s.tiles) b (IsPermutation-sym (handed_out s.tiles) (m.held ++ blocks_in_use p) h.sound.memory.tiles.in_use)
    (Contains-append_right m.held (blocks_in_use p) b (Contains-append_right (map (λ e. e.text) p.entries) (map (λ b. b.1) p.table_blocks ++ flat_map (λ c. c.blocks) p.chains) b
    (Contains-append_right (map (λ b. b.1) p.table_blocks) (flat_map (λ c. c.blocks) p.chains) b
    (in_chains s.chains names n _ b is (subst (λ o. Contains (chain_blocks o) b) (sym begun) k))))))

-- a chain has few blocks against the region
few_out : (ts : List Tile) → length (handed_out ts) ≤ length ts
few_out [] = omega arith
few_out (t ∷ ts) = elim t.free as (λ v. length (map block_of (cond (not v) (t ∷ filter (λ t. not t.free) ts) (filter (λ t. not t.free) ts))) ≤ length (t ∷ ts)) [
  | true ↦ omega (arith, few_out ts)
  | false ↦ omega (arith, few_out ts)
]

pub few_blocks : (m : Moment) (names : List Named) (s : ServerState) (n number : ℕ) (held : Kept) → TilesAreSound m (plain names s) → IsNamedAs names n number → Begun number s.chains held → 512 * length held.blocks ≤ s.options.size
few_blocks m names s n number held h is begun =
    let p = plain names s in
    let chains = flat_map (λ (c : EntryChain). c.blocks) p.chains in
    let tables = map (λ (b : _ × Block). b.1) p.table_blocks in
    let texts = map (λ (e : StoredEntry). e.text) p.entries in
    let own = more_chains s.chains names n _ is in
    let same : length (chain_blocks (chain_at number s.chains)) ≡ length held.blocks = ap (λ o. length (chain_blocks o)) begun in
    let one : length (handed_out s.tiles) ≡ length (m.held ++ blocks_in_use p) = sym (length_permutation (handed_out s.tiles) (m.held ++ blocks_in_use p) h.in_use) in
    let two = length-append m.held (blocks_in_use p) in
    let three = length-append texts (tables ++ chains) in
    let four = length-append tables chains in
    let tiles = few_out s.tiles in
    let long = length_words s.tiles h.tiling.large in
    let words_are = tiling_words (region_words s.options) s.tiles h.tiling in
    let eighth : 8 * (s.options.size / 8) ≤ s.options.size = omega arith in
    omega (arith, own, same, one, two, three, four, tiles, long, words_are, eighth)

-- ---- the whole

pub may_use : (m : Moment) (names : List Named) (words : List ℕ) (s : ServerState) (n room : ℕ) → IsWhole m names words s → IsComplete s.journal.events n → s.options.size ≤ 512 * room → 0 < s.tasks.room → MayUse n s room
may_use m names words s n room h complete wide some_room =
    let p = plain names s in
    let y = hit_entry n (entry_of n (cache p.journal)) complete in
    let pair = found_pair m (IsSpelled words p.chains p.journal) n p.entries (cache p.journal) y.0 (zip_both (IsStoredAs m.hash) (IsSpelled words p.chains p.journal) p.entries (cache p.journal) h.sound.directory h.sound.contents) y.1 in
    let e = back s.chains n s.dir.entries pair.at pair.found in
    let named = find_all (λ e. IsNamedAs names e.serial e.chain.number) (has_serial n) s.dir.entries e.entry h.named.entries e.there in
    let c = begun_at names s e.entry.serial e.entry.chain.number h.named named in
    let users = find_all _ (is_stored n) p.entries pair.at h.sound.tasks.users pair.found in
    let same : e.entry.users ≡ pair.at.users = ap (λ (x : StoredEntry). x.users) e.is in
    let most = count_by-le-length (λ (w : SeatTask). is_stream_of pair.at.serial w.task) p.tasks in
    let long : length p.tasks ≡ length s.tasks.items = length-map s.tasks.items work_in in
    let few = few_blocks m names s e.entry.serial e.entry.chain.number c.0 h.sound.memory.tiles named c.1 in
    record {
      entry = e.entry;
      held = c.0;
      there = e.there;
      begun = c.1;
      users = omega (arith, users, same, most, long, h.seats.task_room);
      ranges = omega (arith, few, wide);
      tasks = some_room;
      tiling = own_tiling (region_words s.options) s.tiles h.sound.memory.tiles.tiling;
      out = out_of m names words s e.entry.serial e.entry.chain.number c.0 h named c.1;
    }

pub hit_whole : (m : Moment) (names : List Named) (words : List ℕ) (s : ServerState) (who : Who) (n seat room : ℕ) → IsWhole m names words s → IsSeat seat → NeedsOf s.options m.next (s.journal.events ++ event.Run who (how.Hit n) ∷ []) → who.session ≡ seat - 1 → who.number ≡ event_count s.journal.events who.session + 1
    → listed_for seat (tasks_of s) ≡ [] → HasRoom (plain names s) → IsComplete s.journal.events n → (u : MayUse n s room) → IsDirectory (with_entries (after_touch n (after_enter n s.dir.entries)) s.dir)
    → IsWhole m names words (with_event (event.Run who (how.Hit n)) (used_by seat n u.entry u.held s))
hit_whole m names words s who n seat room h low needs is number free spare complete u valid =
    let p = plain names s in
    let e = u.entry in
    let ev = event.Run who (how.Hit n) in
    let ts = after_pins u.held.blocks s.tiles in
    let a = alone words names m s who ev seat h low.low refl is number free in
    let named = find_all (λ e. IsNamedAs names e.serial e.chain.number) (has_serial n) s.dir.entries e h.named.entries u.there in
    let named_n : IsNamedAs names n e.chain.number = subst (λ k. IsNamedAs names k e.chain.number) (serial_at n s.dir.entries e u.there) named in
    let pins = pinned_all (region_words s.options) s.tiles u.held.blocks h.sound.memory.tiles.tiling u.out in
    let f = λ (w : SeatTask). blocks_of p.chains w.task in
    let last : flat_map f (p.tasks ++ streaming seat n ∷ []) ≡ flat_map f p.tasks ++ u.held.blocks =
    flat_map-append f p.tasks (streaming seat n ∷ []) ∙ ap (λ l. flat_map f p.tasks ++ l) (append-nil (blocks_at n p.chains) ∙ (blocks_named s.chains names n _ named_n ∙ ap chain_blocks u.begun)) in
    let held : Pins p (hit who n seat ts p) = record {
      tiling = pins.tiling;
      same = pins.hands;
      pinned = λ b. (
        λ c. subst (λ l. Contains l b) (sym last) (⊎_elim (λ x. Contains-append_left (flat_map f p.tasks) u.held.blocks b ((h.sound.memory.tiles.pinned b).0 x)) (λ x. Contains-append_right (flat_map f p.tasks) u.held.blocks b x) ((pins.pins b).0 c)),
        λ c. (pins.pins b).1 (⊎_elim (λ x. inl ((h.sound.memory.tiles.pinned b).1 x)) (λ x. inr x) (Contains-append_cases (flat_map f p.tasks) u.held.blocks b (subst (λ l. Contains l b) last c))),
      );
    } in
    let after = hit_step m words p who n seat ts h.sound (a.decides, complete) needs spare (record { number = low; session = is; rests = none_listed s.chains seat s.tasks.items free }) held in
    let plain_is : plain names (with_event ev (used_by seat n e u.held s)) ≡ hit who n seat ts p = λ i. record {
      options = s.options;
      journal = s.journal.events ++ ev ∷ [];
      spare = s.journal.spare - 1;
      database = s.database;
      entries = stored_used s.chains n s.dir.entries e u.there i;
      chains = p.chains;
      table_blocks = p.table_blocks;
      tiles = ts;
      connected = s.connected.items;
      tasks = map-append work_in s.tasks.items (streams seat n e ∷ []) i;
    } in
    record {
      named = record {
        begun = h.named.begun;
        numbers = h.named.numbers;
        entries = all_used (λ e. IsNamedAs names e.serial e.chain.number) n s.dir.entries e u.there (λ k. k) h.named.entries;
        tasks = all_append _ s.tasks.items (streams seat n e ∷ []) h.named.tasks (named_n, tt);
      };
      sound = subst (λ z. IsSound m words z) (sym plain_is) after;
      directory = valid;
      seats = record {
        once = h.seats.once;
        room = h.seats.room;
        task_room = omega (arith, h.seats.task_room, u.tasks, length-append s.tasks.items (streams seat n e ∷ []));
      };
      room = record { entries = omega (arith, h.room.entries, used_length n s.dir.entries e (serials_distinct m names words s h) u.there); tables = h.room.tables; chains = h.room.chains; unpinner = h.room.unpinner };
    }

-- ---- what the others have listed

listed_else : (cs : Chained) (k : ℕ) (ws : List RunningTask) (w : RunningTask) → k ≢ w.seat → listed_for k (map (listed_in cs) (ws ++ w ∷ [])) ≡ listed_for k (map (listed_in cs) ws)
listed_else cs k ws w ne =
    ap (listed_for k) (map-append (listed_in cs) ws (w ∷ []))
    ∙ (filter-append (λ (t : ListedTask). t.number == k) (map (listed_in cs) ws) (listed_in cs w ∷ [])
    ∙ (ap (λ b. listed_for k (map (listed_in cs) ws) ++ cond b (listed_in cs w ∷ []) []) (ne_eqb w.seat k (λ z. ne (sym z))) ∙ append-nil (listed_for k (map (listed_in cs) ws))))

-- what is listed for the seat
pub hit_listed : (s : ServerState) (who : Who) (n seat room : ℕ) (u : MayUse n s room) → listed_for seat (tasks_of s) ≡ [] → listed_for seat (tasks_of (with_event (event.Run who (how.Hit n)) (used_by seat n u.entry u.held s))) ≡ own seat (task.Stream n) u.held.blocks
hit_listed s who n seat room u free =
    let w = streams seat n u.entry in
    ap (listed_for seat) (map-append (listed_in s.chains) s.tasks.items (w ∷ []))
    ∙ (filter-append (λ (t : ListedTask). t.number == seat) (tasks_of s) (listed_in s.chains w ∷ [])
    ∙ ((λ i. free i ++ cond (eq-eqb seat seat refl i) (listed_in s.chains w ∷ []) []) ∙ ap (λ (o : Option Kept). own seat (task.Stream n) (chain_blocks o)) u.begun))

pub hit_follows : (s : ServerState) (who : Who) (n seat : ℕ) (e : Entry) (held : Kept) (quiet : List ℕ) → 0 < seat → who.session ≡ seat - 1 → Follows ghosts seat quiet s (with_event (event.Run who (how.Hit n)) (used_by seat n e held s))
hit_follows s who n seat e held quiet ps is = record {
  journal = (event.Run who (how.Hit n) ∷ [], refl);
  others = λ k ne. of_seat_else ghosts k s.journal.events (event.Run who (how.Hit n)) who.session refl (λ z. ne (omega (arith, z, ps, is)));
  fixed = refl;
  connected = λ k ne. refl;
  tasks = λ k ne. inl (listed_else s.chains k s.tasks.items (streams seat n e) ne);
}

-- the server after the hit, by the definition
pub hit_is : (s : ServerState) (who : Who) (n seat room : ℕ) (u : MayUse n s room) → with_event (event.Run who (how.Hit n)) (used_by seat n u.entry u.held s) ≡ hit_server who n seat s
hit_is s who n seat room u =
    sym (ap (λ o. hit_entry_server who n seat o s) u.there ∙ ap (λ (o : Option Kept). with_event (event.Run who (how.Hit n)) (used_by seat n u.entry (record { blocks = chain_blocks o; bytes = 0 }) s)) u.begun)

-- ---- what the code did

pub use_pulled : (s v new : ServerState) (old taken : Ranged) (n seat : ℕ) → v ≡ s → taken ≡ old → ((u : MayUse n v taken.room) → new ≡ used_by seat n u.entry u.held v) → (u : MayUse n s old.room) → new ≡ used_by seat n u.entry u.held s
use_pulled s v new old taken n seat same hand f u =
    subst (λ (p : ServerState × Ranged). (u : MayUse n p.0 p.1.room) → new ≡ used_by seat n u.entry u.held p.0) (λ i. (same i, hand i)) f u

pub hand_pulled : (s v : ServerState) (old taken new : Ranged) (n : ℕ) → v ≡ s → taken ≡ old → ((u : MayUse n v taken.room) → new ≡ record { blocks = u.held.blocks; bytes = u.held.bytes; room = taken.room }) → (u : MayUse n s old.room)
    → new ≡ record { blocks = u.held.blocks; bytes = u.held.bytes; room = old.room }
hand_pulled s v old taken new n same hand f u =
    subst (λ (p : ServerState × Ranged). (u : MayUse n p.0 p.1.room) → new ≡ record { blocks = u.held.blocks; bytes = u.held.bytes; room = p.1.room }) (λ i. (same i, hand i)) f u

pub fit_pulled : (s v : ServerState) (old taken : Ranged) (n : ℕ) → v ≡ s → taken ≡ old → ((u : MayUse n v taken.room) → IsFit u.held.blocks u.held.bytes) → (u : MayUse n s old.room) → IsFit u.held.blocks u.held.bytes
fit_pulled s v old taken n same hand f u = subst (λ (p : ServerState × Ranged). (u : MayUse n p.0 p.1.room) → IsFit u.held.blocks u.held.bytes) (λ i. (same i, hand i)) f u

-- the entry is found at the end
none_without : (n : ℕ) (es : List Entry) (e : Entry) → e.serial ≡ n → entry_at n (without n es ++ e ∷ []) ≡ Some e
none_without n [] e is = ap (λ b. cond b (Some e) None) (eq-eqb e.serial n is)
none_without n (x ∷ es) e is = elim (eqb x.serial n) as (λ b. eqb x.serial n ≡ b → entry_at n (cond (not b) (x ∷ without n es) (without n es) ++ e ∷ []) ≡ Some e) [
  | true ↦ λ p. none_without n es e is
  | false ↦ λ p. ap (λ b. cond b (Some x) (entry_at n (without n es ++ e ∷ []))) p ∙ none_without n es e is
] refl

pub chain_kept : (s : ServerState) (who : Who) (n seat room : ℕ) (u : MayUse n s room) (r : Ranged) → r ≡ record { blocks = u.held.blocks; bytes = u.held.bytes; room = room } → IsChainOf n (with_event (event.Run who (how.Hit n)) (used_by seat n u.entry u.held s)) r
chain_kept s who n seat room u r is =
    ap (λ o. entry_chain s.chains o) (ap (entry_at n) (used_is n s.dir.entries u.entry u.there) ∙ none_without n s.dir.entries (entered u.entry) (serial_at n s.dir.entries u.entry u.there))
    ∙ (u.begun ∙ ap (λ (z : Ranged). Some (record { blocks = z.blocks; bytes = z.bytes })) (sym is))
