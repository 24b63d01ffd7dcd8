-- A block moves down, and the server stays sound where its words are carried along.
use Rattle.std.proofs.Common.{◌≡◌, ℕ, zero, suc, ◌-◌, true, List, [], ◌∷◌, map, length, refl, sym, ap, subst, ◌∙◌, arith, length-append}
use Rattle.std.specs.Prelude.{Option, Some, None, is_some, is_none, option_map, option_and_then, slice_get}
use Rattle.std.specs.List.{filter, flat_map, AllByRecursion}
use Rattle.std.proofs.lemmas.List.{length-map}
use Rattle.qc_key.specs.Hash.{hash}
use Rattle.qc_model.specs.Licence.{region_words}
use Rattle.qc_tiles.specs.declared.blocks.Block.{Block}
use Rattle.qc_tiles.specs.declared.blocks.Move.{Move}
use Rattle.qc_tiles.specs.Tiles.{moved, movable, after_move_down}
use Rattle.qc_chain.specs.Chains.{Chained, chain_at, after_shift, moved_chain}
use Rattle.qc_chain.specs.Chains.{Chain as Kept}
use Rattle.qc_dir.specs.declared.entries.Entry.{Entry}
use Rattle.qc_dir.specs.declared.tables.TableBlock.{TableBlock}
use Rattle.qc_dir.specs.Directory.{IsDirectory}
use Rattle.qc_dir.specs.Directory as dir
use Rattle.qc_sound.specs.PlainServer.{listed_tasks}
use Rattle.qc_sound.specs.Moment.{at_rest}
use Rattle.qc_sound.specs.Sound.{IsSound}
use Rattle.qc_sound.specs.steps.Moving.{shifted, MovesWords}
use Rattle.qc_sound.specs.steps.Moving as meant
use Rattle.qc_sound.proofs.Moving.{move_step}
use Rattle.qc_sound.proofs.MovedTiles.{moves_tiles}
use Rattle.qc_sound.proofs.Places.{moves_spell}
use Rattle.qc_core.specs.declared.server_state.ServerState.{ServerState}
use Rattle.qc_core.specs.Whole.{Named, IsNamedAs, chain_blocks, chain_bytes, chain_in, stored, table_pair, plain, tasks_of, ChainsHaveRoom, IsNamed, IsWhole}
use Rattle.qc_core.specs.KeptLaws.{tasks_same}
use Rattle.qc_core.specs.Compaction.{shifted_by}

-- ---- chains

shift_get : (change : Move) (l : List (Option Kept)) (k : ℕ) → option_and_then (λ x. x) (slice_get (map (option_map (moved_chain change)) l) k) ≡ option_map (moved_chain change) (option_and_then (λ x. x) (slice_get l k))
shift_get change [] k = refl
shift_get change (x ∷ l) zero = refl
shift_get change (x ∷ l) (suc k) = shift_get change l k

pub shift_at : (change : Move) (cs : Chained) (k : ℕ) → chain_at k (after_shift change cs) ≡ option_map (moved_chain change) (chain_at k cs)
shift_at change cs k = shift_get change cs.chains k

blocks_moved : (change : Move) (o : Option Kept) → chain_blocks (option_map (moved_chain change) o) ≡ map (moved change) (chain_blocks o)
blocks_moved change None = refl
blocks_moved change (Some c) = refl

bytes_moved : (change : Move) (o : Option Kept) → chain_bytes (option_map (moved_chain change) o) ≡ chain_bytes o
bytes_moved change None = refl
bytes_moved change (Some c) = refl

some_moved : (change : Move) (o : Option Kept) → is_some (option_map (moved_chain change) o) ≡ is_some o
some_moved change None = refl
some_moved change (Some c) = refl

shift_blocks : (change : Move) (cs : Chained) (k : ℕ) → chain_blocks (chain_at k (after_shift change cs)) ≡ map (moved change) (chain_blocks (chain_at k cs))
shift_blocks change cs k = ap chain_blocks (shift_at change cs k) ∙ blocks_moved change (chain_at k cs)

shift_chains : (change : Move) (cs : Chained) (names : List Named) → map (chain_in (after_shift change cs)) names ≡ map (meant.moved_chain change) (map (chain_in cs) names)
shift_chains change cs [] = refl
shift_chains change cs (x ∷ names) = λ i. record { serial = x.serial; blocks = shift_blocks change cs x.number i } ∷ shift_chains change cs names i

shift_entries : (change : Move) (cs : Chained) (es : List Entry) → map (stored (after_shift change cs)) (map (dir.moved_entry change) es) ≡ map (meant.moved_entry change) (map (stored cs) es)
shift_entries change cs [] = refl
shift_entries change cs (e ∷ es) =
    let bytes : chain_bytes (chain_at e.chain.number (after_shift change cs)) ≡ chain_bytes (chain_at e.chain.number cs) = ap chain_bytes (shift_at change cs e.chain.number) ∙ bytes_moved change (chain_at e.chain.number cs) in
    λ i. record { serial = e.serial; hash = e.hash; text = moved change e.text; text_bytes = e.text_bytes; tables = e.tables; bytes = bytes i; complete = e.complete; users = e.users } ∷ shift_entries change cs es i

shift_tables : (change : Move) (ts : List TableBlock) → map table_pair (map (dir.moved_table change) ts) ≡ map (λ b. (b.0, moved change b.1)) (map table_pair ts)
shift_tables change [] = refl
shift_tables change (t ∷ ts) = ap (λ l. (t.table, moved change t.block) ∷ l) (shift_tables change ts)

-- ---- room

shift_long : (change : Move) (cs : Chained) (names : List Named) → length (flat_map (λ c. c.blocks) (map (chain_in (after_shift change cs)) names)) ≡ length (flat_map (λ c. c.blocks) (map (chain_in cs) names))
shift_long change cs [] = refl
shift_long change cs (x ∷ names) =
    let here = ap (λ (l : List Block). length l) (shift_blocks change cs x.number) ∙ length-map (chain_blocks (chain_at x.number cs)) (moved change) in
    omega (
      arith,
      here,
      shift_long change cs names,
      length-append (chain_blocks (chain_at x.number (after_shift change cs))) (flat_map (λ c. c.blocks) (map (chain_in (after_shift change cs)) names)),
      length-append (chain_blocks (chain_at x.number cs)) (flat_map (λ c. c.blocks) (map (chain_in cs) names)),
    )

shift_free : (change : Move) (l : List (Option Kept)) → length (filter (λ c. is_none c) (map (option_map (moved_chain change)) l)) ≡ length (filter (λ c. is_none c) l)
shift_free change [] = refl
shift_free change (None ∷ l) = ap suc (shift_free change l)
shift_free change (Some c ∷ l) = shift_free change l

shift_room : (change : Move) (cs : Chained) (names : List Named) (words : ℕ) → ChainsHaveRoom names cs words → ChainsHaveRoom names (after_shift change cs) words
shift_room change cs names words h = record { blocks = omega (arith, h.blocks, shift_long change cs names); free = omega (arith, h.free, shift_free change cs.chains) }

-- ---- names

shift_begun : (change : Move) (cs : Chained) (names : List Named) → AllByRecursion (λ x. is_some (chain_at x.number cs) ≡ true) names → AllByRecursion (λ x. is_some (chain_at x.number (after_shift change cs)) ≡ true) names
shift_begun change cs [] h = tt
shift_begun change cs (x ∷ names) h = (ap is_some (shift_at change cs x.number) ∙ (some_moved change (chain_at x.number cs) ∙ h.0), shift_begun change cs names h.1)

shift_named : (change : Move) (names : List Named) (es : List Entry) → AllByRecursion (λ e. IsNamedAs names e.serial e.chain.number) es → AllByRecursion (λ e. IsNamedAs names e.serial e.chain.number) (map (dir.moved_entry change) es)
shift_named change names [] h = tt
shift_named change names (e ∷ es) h = (h.0, shift_named change names es h.1)

-- ---- the server

pub record IsShifted (names : List Named) (over : List ℕ) (s : ServerState) (change : Move) : Type 0 where
  pub whole : IsWhole (at_rest hash) names over (shifted_by change s)
  pub listed : tasks_of (shifted_by change s) ≡ tasks_of s

pub shifted_whole : (names : List Named) (words over : List ℕ) (s : ServerState) (change : Move) → IsWhole (at_rest hash) names words s → movable s.tiles ≡ Some change → IsDirectory (shifted_by change s).dir → length over ≡ length words → MovesWords change words over → IsShifted names over s change
shifted_whole names words over s change w is valid long carried =
    let p = plain names s in
    let t = shifted_by change s in
    let m = moves_tiles (at_rest hash) p change w.sound.memory.tiles is in
    let spells = moves_spell (at_rest hash) words over p change w.sound.memory.tiles is carried in
    let named : IsNamed names t = record { begun = shift_begun change s.chains names w.named.begun; numbers = w.named.numbers; entries = shift_named change names s.dir.entries w.named.entries; tasks = w.named.tasks } in
    let plain_is : plain names t ≡ shifted change (after_move_down s.tiles) p = λ i. record {
      options = s.options;
      journal = s.journal.events;
      spare = s.journal.spare;
      database = s.database;
      entries = shift_entries change s.chains s.dir.entries i;
      chains = shift_chains change s.chains names i;
      table_blocks = shift_tables change s.dir.tables i;
      tiles = after_move_down s.tiles;
      connected = s.connected.items;
      tasks = p.tasks;
    } in
    record {
      whole = record {
        named = named;
        sound = subst (λ z. IsSound (at_rest hash) over z) (sym plain_is) (move_step (at_rest hash) words over p change (after_move_down s.tiles) w.sound long spells m.tiles);
        directory = valid;
        seats = record { once = w.seats.once; room = w.seats.room; task_room = w.seats.task_room };
        room = record {
          entries = omega (arith, w.room.entries, length-map s.dir.entries (dir.moved_entry change));
          tables = omega (arith, w.room.tables, length-map s.dir.tables (dir.moved_table change));
          chains = shift_room change s.chains names (region_words s.options) w.room.chains;
          unpinner = w.room.unpinner;
        };
      };
      listed = tasks_same names t named ∙ (ap listed_tasks plain_is ∙ (m.listed ∙ sym (tasks_same names s w.named)));
    }
