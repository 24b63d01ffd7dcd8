-- The law behind "crowded".
use Rattle.std.specs.Prelude.{◌≡◌, ◌≢◌, ℕ, ◌+◌, ◌*◌, ◌<◌, ◌≤◌, true, false, not, ◌&&◌, Bool, Some, ◌==◌, List, length, ◌++◌, IsPermutation}
use Rattle.std.specs.List.{AllByRecursion, list_any, find, flat_map}
use Rattle.qc_turn.specs.Words.{word_seats}
use Rattle.qc_tiles.specs.declared.blocks.Tile.{Tile}
use Rattle.qc_tiles.specs.Tiles.{IsTiling, largest_free}
use Rattle.qc_model.specs.Licence.{IsCrowded, LacksRoom, MayPrune, word_bound, region_words, starts_serial}
use Rattle.qc_model.specs.Journal.{last_event}
use Rattle.qc_model.specs.Cache.{cache}
use Rattle.qc_tiles.specs.declared.blocks.Block.{Block}
use Rattle.qc_sound.specs.PlainServer.{PlainServer, StoredEntry, session_of}
use Rattle.qc_sound.specs.Moment.{Moment}
use Rattle.qc_sound.specs.parts.Memory.{blocks_in_use}
use Rattle.qc_sound.specs.Sound.{IsSound}
use Rattle.qc_tiles.specs.Tiles.{handed_out}

-- Where every free block is smaller than the need, the region is crowded, also while a start holds up to 9 blocks.
abbrev pub Crowds : Type 0
Crowds = (moment : Moment) (words : List ℕ) (s : PlainServer) (tiles : List Tile) (held : List Block) (need : ℕ) → IsSound moment words s → IsTiling (region_words s.options) tiles
    → IsPermutation (handed_out tiles) (held ++ blocks_in_use s) → length held ≤ 9 → AllByRecursion (λ b. b.words ≤ word_bound s.options s.journal need) held
    → AllByRecursion (λ t. t.free ≡ true → t.words < need) tiles → IsCrowded s.options s.journal need

-- no complete entry is without users
abbrev pub Restless : PlainServer → Type 0
Restless s = AllByRecursion (λ e. e.complete ≡ true → 0 < e.users) s.entries

-- Where the largest free block is smaller than the need and no complete entry is without users, want of room is licensed.
abbrev pub LacksRoomThen : Type 0
LacksRoomThen = (moment : Moment) (words : List ℕ) (s : PlainServer) (tiles : List Tile) (held : List Block) (need : ℕ) → IsSound moment words s → IsTiling (region_words s.options) tiles
    → IsPermutation (handed_out tiles) (held ++ blocks_in_use s) → length held ≤ 9 → AllByRecursion (λ b. b.words ≤ word_bound s.options s.journal need) held
    → largest_free tiles < need → Restless s → LacksRoom s.options s.journal need (largest_free tiles)

-- A session of a seat without a listed task has no fill under way.
abbrev pub HasNoFill : Type 0
HasNoFill = (moment : Moment) (words : List ℕ) (s : PlainServer) (session : ℕ) → IsSound moment words s → AllByRecursion (λ w. session_of w.seat ≢ session) s.tasks
    → list_any (λ entry. not entry.complete && starts_serial entry.serial (last_event s.journal session)) (cache s.journal) ≡ false

-- complete and without users
abbrev pub is_idle : StoredEntry → Bool
is_idle e = e.complete && e.users == 0

-- Where the largest free block is smaller than the need, the first idle entry may be pruned.
abbrev pub PrunesOldest : Type 0
PrunesOldest = (moment : Moment) (words : List ℕ) (s : PlainServer) (x : StoredEntry) (need : ℕ) → IsSound moment words s → length moment.held ≤ 9 → AllByRecursion (λ b. b.words ≤ word_bound s.options s.journal need) moment.held
    → largest_free s.tiles < need → find is_idle s.entries ≡ Some x → MayPrune s.options s.journal x.serial need (largest_free s.tiles)

-- ---- what there is at most

-- Each block has 64 words at least, and each entry has a chain with a block; each of 65 seats has one task at most.
pub record IsFew (moment : Moment) (s : PlainServer) : Type 0 where
  pub blocks : 64 * (length moment.held + (length s.entries + (length s.table_blocks + length (flat_map (λ c. c.blocks) s.chains)))) ≤ region_words s.options
  pub chained : length s.entries ≤ length (flat_map (λ c. c.blocks) s.chains)
  pub tasks : length s.tasks ≤ word_seats

abbrev pub AreFew : Type 0
AreFew = (moment : Moment) (words : List ℕ) (s : PlainServer) → IsSound moment words s → IsFew moment s
