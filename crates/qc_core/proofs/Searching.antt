-- Prunes until a free block holds a need, and the block that is taken then.
use Rattle.std.proofs.Common.{◌≡◌, ℕ, zero, suc, ◌+◌, ◌<◌, ◌≤◌, true, false, cond, List, [], ◌∷◌, ◌++◌, map, refl, sym, ap, subst, ◌∙◌, arith, true≢false}
use Rattle.std.specs.Result.{IfErr, result_ok}
use Rattle.std.specs.Prelude.{Result, Ok, Err, IfOk, ◌==◌, ◌&&◌, Option, Some, None, Contains, find, option_map}
use Rattle.std.specs.List.{AllByRecursion}
use Rattle.std.proofs.lemmas.Option.{none-some}
use Rattle.qc_types.specs.declared.names.TableName.{TableName}
use Rattle.qc_types.specs.declared.options.Options.{Options}
use Rattle.qc_model.specs.declared.events.Event.{Event}
use Rattle.qc_model.specs.declared.events.Event.TheVariants as event
use Rattle.qc_model.specs.Journal.{Journal}
use Rattle.qc_model.specs.Cache.{cache}
use Rattle.qc_model.specs.Licence.{IsLawful, region_words, unit_words}
use Rattle.qc_model.specs.Needs.{PruneHasNeed}
use Rattle.qc_tiles.specs.declared.blocks.Block.{Block}
use Rattle.qc_tiles.specs.declared.blocks.NoTile.{NoTile}
use Rattle.qc_tiles.specs.declared.blocks.Tile.{Tile}
use Rattle.qc_tiles.specs.Tiles.{taken, after_take, largest_free}
use Rattle.qc_chain.specs.Chains.{Chained}
use Rattle.qc_dir.specs.declared.entries.Entry.{Entry}
use Rattle.qc_dir.specs.declared.tables.TableBlock.{TableBlock}
use Rattle.qc_dir.specs.Directory.{is_idle, oldest_idle}
use Rattle.qc_sound.specs.parts.Journal.{reserved}
use Rattle.qc_sound.proofs.Grounds.{lacks_room}
use Rattle.qc_sound.proofs.Handed.{times_append}
use Rattle.qc_core.specs.declared.reserved_blocks.ReservedBlocks.{ReservedBlocks}
use Rattle.qc_core.specs.declared.server_state.ServerState.{ServerState}
use Rattle.qc_core.specs.Whole.{stored, plain, IsWhole}
use Rattle.qc_core.specs.EntryRemoval.{table_blocks}
use Rattle.qc_core.specs.Eviction.{Prunes}
use Rattle.qc_core.specs.BlocksReserved.{IsInHand}
use Rattle.qc_core.specs.Allocation.{holds, MayTakeOne, PrunesKeeping, PrunesSome, HasNone, TakesKeeping}
use Rattle.qc_core.proofs.Allocating.{holding, need_left, held_whole, holds_some}
use Rattle.qc_core.proofs.FillTasks.{prune_is, pruned_after}
use Rattle.qc_core.proofs.Taking.{took}
use Rattle.qc_core.proofs.Keeping.{held_few, held_low, reheld}

-- some entries were pruned, and the need is still one that the call may have
pub record GoesOn (need : ℕ) (hand now : ReservedBlocks) (old s : ServerState) (u : MayTakeOne need hand old) : Type 0 where
  pub pruned : PrunesSome need u.next u.words u.missing u.others hand now old s
  pub needs : PruneHasNeed s.options s.journal.events need u.next

pub none_yet : (need : ℕ) (hand : ReservedBlocks) (s : ServerState) (u : MayTakeOne need hand s) → GoesOn need hand hand s s u
none_yet need hand s u = record { pruned = record { count = 0; prunes = refl; starting = u.starting; tables = refl; room = λ k low. low; keeps = λ all h. h }; needs = u.needs }

module _ (need : ℕ) (hand now : ReservedBlocks) (old s : ServerState) (u : MayTakeOne need hand old) (g : GoesOn need hand now old s u) where
  abbrev pub p : PrunesSome need u.next u.words u.missing u.others hand now old s
  p = g.pruned

  pub options_stay : s.options ≡ old.options
  options_stay = (pruned_after hand.tables need p.count old s p.prunes).options

  abbrev pub may_go_on : MayTakeOne need now s
  may_go_on = record {
    next = u.next;
    words = u.words;
    missing = u.missing;
    others = u.others;
    starting = p.starting;
    least = u.least;
    needs = g.needs;
    few = u.few;
    small = subst (λ (o : Options). AllByRecursion (λ (b : Block). b.words ≤ unit_words o + 63) u.others) (sym options_stay) u.small;
  }

  -- one prune more
  pub goes_on : (after : ReservedBlocks) (new : ServerState) → PrunesKeeping need u.next u.words u.missing u.others now after s new → GoesOn need hand after old new u
  goes_on after new q =
      let e = event.Prune q.prunes.serial need (largest_free s.tiles) in
      let is = prune_is now.tables need s new q.prunes in
      let events : new.journal.events ≡ s.journal.events ++ e ∷ [] = ap (λ (x : ServerState). x.journal.events) is in
      let options : new.options ≡ s.options = ap (λ (x : ServerState). x.options) is in
      let lawful : IsLawful s.options (s.journal.events ++ e ∷ []) = subst (λ (k : Options × Journal). IsLawful k.0 k.1) (λ i. (options i, events i)) q.starting.whole.sound.journal.lawful in
      record {
        pruned = record {
          count = suc p.count;
          prunes = (s, p.prunes, subst (λ ts. Prunes ts need s new) p.tables q.prunes);
          starting = q.starting;
          tables = q.tables ∙ p.tables;
          room = λ k low. q.room k (p.room k low);
          keeps = λ all h. q.keeps all (p.keeps all h);
        };
        needs = subst (λ (k : Options × Journal). PruneHasNeed k.0 k.1 need u.next) (λ i. (sym options i, sym events i)) (need_left s.options s.journal.events q.prunes.serial need (largest_free s.tiles) lawful need u.next g.needs);
      }

  -- no entry is left to prune
  pub has_none : (e : NoTile) → e ≡ record { need = need; largest = largest_free s.tiles } → largest_free s.tiles < need → oldest_idle s.dir.entries ≡ None → HasNone need s e
  has_none e is small none =
      let w = p.starting.whole in
      let names = p.starting.names in
      record {
        lacks = record { answer = is; small = small; none = none };
        licensed = lacks_room (holds u.next (table_blocks now.fresh ++ u.others)) u.words (plain names s) s.tiles (table_blocks now.fresh ++ u.others) need w.sound w.sound.memory.tiles.tiling w.sound.memory.tiles.in_use (held_few need now s may_go_on) (held_low need now s may_go_on) small (restless s.chains s.dir.entries none);
      }
    where
      used : (n : ℕ) → (n == 0) ≡ false → 0 < n
      used zero e = absurd (true≢false e)
      used (suc n) e = omega arith

      none_idle : (es : List Entry) → option_map (λ (e : Entry). e.serial) (find is_idle es) ≡ None → find is_idle es ≡ None
      none_idle es h = by (find is_idle es) h
        where
          by : (o : Option Entry) → option_map (λ (e : Entry). e.serial) o ≡ None → o ≡ None
          by None k = refl
          by (Some x) k = absurd cc

      restless : (cs : Chained) (es : List Entry) → oldest_idle es ≡ None → AllByRecursion (λ e. e.complete ≡ true → 0 < e.users) (map (stored cs) es)
      restless cs es h = each es (none_idle es h)
        where
          each : (es : List Entry) → find is_idle es ≡ None → AllByRecursion (λ e. e.complete ≡ true → 0 < e.users) (map (stored cs) es)
          each [] h = tt
          each (x ∷ es) h = elim (is_idle x) as (λ v. is_idle x ≡ v → cond v (Some x) (find is_idle es) ≡ None → AllByRecursion (λ e. e.complete ≡ true → 0 < e.users) (map (stored cs) (x ∷ es))) [
            | true ↦ λ e k. absurd (none-some x (sym k))
            | false ↦ λ e k. (λ c. used x.users (ap (λ v. v && (x.users == 0)) (sym c) ∙ e), each es k)
          ] refl h

module _ (need : ℕ) (hand now : ReservedBlocks) (old s : ServerState) (u : MayTakeOne need hand old) (p : PrunesSome need u.next u.words u.missing u.others hand now old s) where
  -- a free block holds the need, and is taken
  pub takes_so : (b : Block) (new : ServerState) → taken need s.tiles ≡ Some b → new ≡ record s { tiles = after_take need s.tiles } → TakesKeeping need u.next u.words u.missing u.others hand now old b new
  takes_so b new is server =
      let st = p.starting in
      let m = holds u.next (table_blocks now.fresh ++ u.others) in
      let held = table_blocks now.fresh ++ (b ∷ u.others) in
      let after = record s { tiles = after_take need s.tiles } in
      let whole = held_whole m st.names u.words s need b st.whole is in
      let t = took (region_words s.options) need s.tiles b st.whole.sound.memory.tiles.tiling is in
      record {
        takes = record { count = p.count; mid = s; prunes = p.prunes; taken = is; server = server };
        large = t.large;
        small = t.small;
        pruned = p;
        starting = record {
          names = st.names;
          whole = subst (IsWhole (holds u.next held) st.names u.words) (sym server) (reheld (holding b m) held st.names u.words after whole (λ c. omega (arith, times_append c (table_blocks now.fresh) (b ∷ u.others), times_append c (b ∷ []) u.others, times_append c (b ∷ []) (table_blocks now.fresh ++ u.others), times_append c (table_blocks now.fresh) u.others)));
          hand = subst (λ (x : ServerState). IsInHand now u.missing x.dir.tables) (sym server) st.hand;
          small = st.small;
        };
        names = refl;
        tables = p.tables;
        room = λ k low.
            let same : new.journal ≡ s.journal = ap (λ (x : ServerState). x.journal) server in
            subst (λ j. reserved (cache j.events) + k < j.spare) (sym same) (p.room k low);
        keeps = λ all h. subst (λ (ts : List TableBlock). AllByRecursion (Contains all) (now.fresh ++ ts)) (sym (ap (λ (x : ServerState). x.dir.tables) server)) (p.keeps all h);
      }

  pub takes_ok : (r : Result Block NoTile) (tiles : List Tile) → result_ok r ≡ taken need s.tiles → tiles ≡ after_take need s.tiles → IfOk r (λ b. TakesKeeping need u.next u.words u.missing u.others hand now old b (record s { tiles = tiles }))
  takes_ok (Ok b) tiles is made = takes_so b (record s { tiles = tiles }) (sym is) (λ i. record s { tiles = made i })
  takes_ok (Err e) tiles is made = tt

  pub takes_err : (r : Result Block NoTile) (P : NoTile → Type 0) → need ≤ largest_free s.tiles → result_ok r ≡ taken need s.tiles → IfErr r P
  takes_err (Ok b) P large is = tt
  takes_err (Err e) P large is = absurd (holds_some need s.tiles u.least large (sym is))
