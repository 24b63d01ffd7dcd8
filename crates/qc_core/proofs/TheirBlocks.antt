-- The blocks that tables have while a start takes its own.
use Rattle.std.proofs.Common.{◌≡◌, List, [], ◌∷◌, ◌++◌, refl, sym, subst, append_assoc}
use Rattle.std.specs.Prelude.{Contains, IsPermutation}
use Rattle.std.specs.List.{AllByRecursion}
use Rattle.std.proofs.lemmas.List.Elements.{All-from_recursion, recursion_from_All, All-contains_itself, Contains-append_left, Contains-push}
use Rattle.std.proofs.lemmas.List.Sorted.{All-permutation, IsPermutation-sym}
use Rattle.qc_types.specs.declared.names.TableName.{TableName}
use Rattle.qc_tiles.specs.declared.blocks.Block.{Block}
use Rattle.qc_dir.specs.declared.tables.TableBlock.{TableBlock}
use Rattle.qc_core.specs.declared.reserved_blocks.ReservedBlocks.{ReservedBlocks}
use Rattle.qc_core.specs.declared.server_state.ServerState.{ServerState}
use Rattle.qc_core.specs.EntryStart.{HaveTheirBlocks}
use Rattle.qc_core.specs.Allocation.{KeepsBlocks, GivesBlocks}

all_split : (P : TableBlock → Type 0) (xs ys : List TableBlock) → AllByRecursion P (xs ++ ys) → AllByRecursion P xs × AllByRecursion P ys
all_split P [] ys h = (tt, h)
all_split P (x ∷ xs) ys h = let r = all_split P xs ys h.1 in ((h.0, r.0), r.1)

all_join : (P : TableBlock → Type 0) (xs ys : List TableBlock) → AllByRecursion P xs → AllByRecursion P ys → AllByRecursion P (xs ++ ys)
all_join P [] ys h k = k
all_join P (x ∷ xs) ys h k = (h.0, all_join P xs ys h.1 k)

all_more : (all more xs : List TableBlock) → AllByRecursion (Contains all) xs → AllByRecursion (Contains (all ++ more)) xs
all_more all more [] h = tt
all_more all more (x ∷ xs) h = (Contains-append_left all more x h.0, all_more all more xs h.1)

pub permuted_all : (P : TableBlock → Type 0) (xs ys : List TableBlock) → IsPermutation xs ys → AllByRecursion P xs → AllByRecursion P ys
permuted_all P xs ys same h = recursion_from_All P ys (All-permutation P xs ys same (All-from_recursion P xs h))

-- an entry leaves, and the blocks of some of its tables come into the hand
pub prune_keeps : (before after : ReservedBlocks) (s v : ServerState) (kept others rest : List TableBlock) → after ≡ record { tables = before.tables; fresh = before.fresh ++ kept } → v.dir.tables ≡ rest → IsPermutation s.dir.tables (others ++ (kept ++ rest))
    → KeepsBlocks before after s v
prune_keeps before after s v kept others rest hand dirs split = λ all h.
    let P = Contains all in
    let parts = all_split P before.fresh s.dir.tables h in
    let behind = (all_split P others (kept ++ rest) (permuted_all P s.dir.tables (others ++ (kept ++ rest)) split parts.1)).1 in
    let joined = all_join P before.fresh (kept ++ rest) parts.0 behind in
    subst (λ (q : ReservedBlocks × List TableBlock). AllByRecursion P (q.0.fresh ++ q.1)) (λ i. (sym hand i, sym dirs i)) (subst (AllByRecursion P) (sym (append_assoc before.fresh kept rest)) joined)

-- a block is taken for a table
pub push_only : (all given : List TableBlock) (x : TableBlock) (fresh rest : List TableBlock) → AllByRecursion (Contains (all ++ given)) (fresh ++ rest) → AllByRecursion (Contains (all ++ (given ++ x ∷ []))) ((fresh ++ x ∷ []) ++ rest)
push_only all given x fresh rest h =
    let long = append_assoc all given (x ∷ []) in
    let P = Contains (all ++ (given ++ x ∷ [])) in
    let now = subst (λ l. AllByRecursion (Contains l) (fresh ++ rest)) long (all_more (all ++ given) (x ∷ []) (fresh ++ rest) h) in
    let parts = all_split P fresh rest now in
    let own = subst (λ l. Contains l x) long (Contains-push (all ++ given) x) in
    subst (AllByRecursion P) (sym (append_assoc fresh (x ∷ []) rest)) (all_join P fresh (x ∷ rest) parts.0 (own, parts.1))

-- no table gets another block afterwards
pub gives_on : (names : List TableName) (blocks : List Block) (before hand after : ReservedBlocks) (old mid new : ServerState) → GivesBlocks names blocks before hand old mid → KeepsBlocks hand after mid new → GivesBlocks names blocks before after old new
gives_on names blocks before hand after old mid new g keeps = record { given = g.given; named = g.named; taken = g.taken; only = λ all h. keeps (all ++ g.given) (g.only all h) }

-- the hand's blocks come into the directory
pub their_blocks : (names : List TableName) (blocks : List Block) (before hand : ReservedBlocks) (old mid : ServerState) (new : List TableBlock) → before.fresh ≡ [] → GivesBlocks names blocks before hand old mid → IsPermutation new (hand.fresh ++ mid.dir.tables)
    → HaveTheirBlocks names blocks old.dir.tables new
their_blocks names blocks before hand old mid new none g same =
    let own = recursion_from_All (Contains old.dir.tables) old.dir.tables (All-contains_itself old.dir.tables) in
    let first = subst (λ (l : List TableBlock). AllByRecursion (Contains old.dir.tables) (l ++ old.dir.tables)) (sym none) own in
    record {
      given = g.given;
      named = g.named;
      taken = g.taken;
      only = permuted_all (Contains (old.dir.tables ++ g.given)) (hand.fresh ++ mid.dir.tables) new (IsPermutation-sym new (hand.fresh ++ mid.dir.tables) same) (g.only old.dir.tables first);
    }
