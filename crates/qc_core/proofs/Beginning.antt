-- A server with nothing in it is sound over words that are all 0.
use Rattle.std.proofs.Common.{◌≡◌, ℕ, ◌/◌, ◌%◌, ◌≤◌, true, false, cond, eqb, List, [], ◌∷◌, length, refl, sym, ap, subst, ◌∙◌, arith, replicate}
use Rattle.std.specs.Prelude.{IsPermutation, ◌==◌, Contains}
use Rattle.std.proofs.lemmas.List.{length-replicate}
use Rattle.std.proofs.lemmas.List.Sorted.{IsPermutation-refl}
use Rattle.qc_sql.specs.Database.{empty_database}
use Rattle.qc_model.specs.Licence.{region_words}
use Rattle.qc_tiles.specs.Tiles.{IsTiling, fresh, free_tile, handed_out}
use Rattle.qc_turn.specs.Releases.{IsFresh}
use Rattle.qc_sound.specs.parts.Memory.{pinned_blocks}
use Rattle.qc_laws.specs.history.Runs.{are_distinct}
use Rattle.qc_core.specs.declared.server_state.ServerState.{ServerState}
use Rattle.qc_core.specs.contracts.server.ServerKept.TheImpl.{ghosts}
use Rattle.std.specs.Prelude.{map, IfSome}
use Rattle.std.specs.List.{list_any, AllByRecursion}
use Rattle.qc_key.specs.Hash.{hash}
use Rattle.qc_sql.specs.Database.{same_table}
use Rattle.qc_dir.specs.declared.entries.Entry.{Entry}
use Rattle.qc_dir.specs.declared.tables.TableBlock.{TableBlock}
use Rattle.qc_dir.specs.Directory.{AreApart, names_table, is_block_of}
use Rattle.qc_sound.specs.PlainServer.{PlainServer}
use Rattle.qc_sound.specs.Sound.{IsSound}
use Rattle.qc_sound.specs.Moment.{at_rest}
use Rattle.qc_sound.specs.PlainServer.{serial_of}
use Rattle.qc_core.specs.declared.server_state.RunningTask.{RunningTask}
use Rattle.qc_chain.specs.Chains.{no_chains}
use Rattle.qc_core.proofs.ChainRooms.{fresh_room}
use Rattle.qc_core.specs.Whole.{ChainsHaveRoom, plain, stored, table_pair, work_in, listed_in, IsNamedAs}

no_hands : (words : ℕ) → handed_out (fresh words) ≡ []
no_hands words = elim (eqb words 0) as (λ b. handed_out (cond b [] (free_tile 0 words ∷ [])) ≡ []) [ true ↦ refl | false ↦ refl ]

no_pins : (words : ℕ) → pinned_blocks (fresh words) ≡ []
no_pins words = elim (eqb words 0) as (λ b. pinned_blocks (cond b [] (free_tile 0 words ∷ [])) ≡ []) [ true ↦ refl | false ↦ refl ]

-- nothing is in it
pub record IsNew (s : ServerState) : Type 0 where
  pub size : s.options.size % 1024 ≡ 0
  pub unit : (s.options.unit % 8 ≡ 0) × (512 ≤ s.options.unit)
  pub events : s.journal.events ≡ []
  pub database : s.database ≡ empty_database
  pub entries : s.dir.entries ≡ []
  pub tables : s.dir.tables ≡ []
  pub entry_room : s.dir.room ≡ region_words s.options / 128
  pub table_room : s.dir.table_room ≡ region_words s.options / 64
  pub unpinner : s.unpinner ≡ region_words s.options / 64
  pub chains : s.chains ≡ no_chains (region_words s.options / 64)
  pub tiles : s.tiles ≡ fresh (region_words s.options)
  pub tiling : IsTiling (region_words s.options) s.tiles
  pub connected : s.connected.items ≡ []
  pub seats : s.connected.room ≡ 65
  pub tasks : s.tasks.items ≡ []
  pub task_room : s.tasks.room ≡ 65

abbrev nothing : ServerState → PlainServer
nothing s = record { options = s.options; journal = []; spare = s.journal.spare; database = empty_database; entries = []; chains = []; table_blocks = []; tiles = fresh (region_words s.options); connected = []; tasks = [] }

nothing_sound : (s : ServerState) → IsNew s → IsSound (at_rest hash) (replicate (region_words s.options) 0) (nothing s)
nothing_sound s h = record {
  rounded = record { size = omega (arith, h.size); unit = omega (arith, h.unit.0); least = omega (arith, h.unit.0, h.unit.1) };
  region = length-replicate {A = ℕ} (region_words s.options) 0;
  journal = record { lawful = tt; small = refl; needs = tt; database = refl; room = omega arith };
  directory = tt;
  memory = record {
    tiles = record {
      tiling = subst (IsTiling (region_words s.options)) h.tiles h.tiling;
      in_use = subst (λ l. IsPermutation l []) (sym (no_hands (region_words s.options))) (IsPermutation-refl []);
      pinned = λ b. (λ h. subst (λ l. Contains l b) (no_pins (region_words s.options)) h, λ h. subst (λ l. Contains l b) (sym (no_pins (region_words s.options))) h);
    };
    tables = record { named = λ t. refl; once = refl; words = tt };
    chains = record { apart = refl; entered = tt; wanted = tt; fitting = tt; uncut = tt };
    texts = tt;
  };
  contents = tt;
  tasks = record { connected = tt; one_each = refl; each = tt; filled = tt; users = tt };
}

plain_nothing : (s : ServerState) → IsNew s → plain [] s ≡ nothing s
plain_nothing s h = λ i. record {
  options = s.options;
  journal = h.events i;
  spare = s.journal.spare;
  database = h.database i;
  entries = map (stored s.chains) (h.entries i);
  chains = [];
  table_blocks = map table_pair (h.tables i);
  tiles = h.tiles i;
  connected = h.connected i;
  tasks = map work_in (h.tasks i);
}

pub fresh_of : (s : ServerState) → IsNew s → IsFresh ghosts (region_words s.options) s
fresh_of s h = record {
  sound = (
    [],
    record {
      named = record {
        begun = tt;
        numbers = refl;
        entries = subst (AllByRecursion (λ (e : Entry). IsNamedAs [] e.serial e.chain.number)) (sym h.entries) tt;
        tasks = subst (AllByRecursion (λ (w : RunningTask). IfSome (serial_of w.task) (λ n. IsNamedAs [] n w.chain.number))) (sym h.tasks) tt;
      };
      sound = subst (λ p. IsSound (at_rest hash) (replicate (region_words s.options) 0) p) (sym (plain_nothing s h)) (nothing_sound s h);
      directory = record {
        serials = subst (AreApart (λ (e f : Entry). e.serial == f.serial)) (sym h.entries) tt;
        once = subst (AreApart (λ (b c : TableBlock). same_table b.table c.table)) (sym h.tables) tt;
        few = subst (AllByRecursion (λ (e : Entry). length e.tables ≤ 8)) (sym h.entries) tt;
        named = λ t. ap (list_any (names_table t)) h.entries ∙ sym (ap (list_any (is_block_of t)) h.tables);
      };
      seats = record {
        once = ap are_distinct h.connected;
        room = omega (arith, ap (λ (l : List ℕ). length l) h.connected, h.seats);
        task_room = omega (arith, ap (λ (l : List RunningTask). length l) h.tasks, h.task_room);
      };
      room = record {
        entries = omega (arith, ap (λ (l : List Entry). length l) h.entries, h.entry_room);
        tables = omega (arith, ap (λ (l : List TableBlock). length l) h.tables, h.table_room);
        chains = subst (λ cs. ChainsHaveRoom [] cs (region_words s.options)) (sym h.chains) (fresh_room (region_words s.options));
        unpinner = h.unpinner;
      };
    },
  );
  journal = h.events;
  connected = λ n. ap (list_any (λ m. m == n)) h.connected;
  tasks = ap (map (listed_in s.chains)) h.tasks;
}
