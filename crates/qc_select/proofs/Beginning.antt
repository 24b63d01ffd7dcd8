-- The events of a start.
use Rattle.std.proofs.Common.{◌≡◌, ℕ, zero, suc, ◌≤◌, Bool, true, false, List, [], ◌∷◌, ◌++◌, map, length, refl, sym, ap, subst, ◌∙◌, true≢false, arith, append_assoc, append-nil, eq-eqb}
use Rattle.std.specs.Prelude.{◌||◌, ◌==◌}
use Rattle.std.specs.List.{list_all}
use Rattle.std.proofs.lemmas.Bool.{and_parts, and_from}
use Rattle.std.proofs.lemmas.List.Folds.{list_all-append}
use Rattle.qc_types.specs.declared.names.TableName.{TableName}
use Rattle.qc_types.specs.declared.options.Options.{Options}
use Rattle.qc_types.specs.Blocks.{least_block, raised}
use Rattle.qc_tiles.specs.declared.blocks.Block.{Block}
use Rattle.qc_tiles.specs.declared.blocks.NoTile.{NoTile}
use Rattle.qc_tiles.specs.Tiles.{largest_free}
use Rattle.qc_chain.specs.Chains.{Ranged}
use Rattle.qc_model.specs.declared.events.Who.{Who}
use Rattle.qc_model.specs.declared.events.Event.TheVariants as event
use Rattle.qc_model.specs.declared.events.How.{How}
use Rattle.qc_model.specs.declared.events.How.TheVariants as how
use Rattle.qc_model.specs.declared.events.Reason.TheVariants as reason
use Rattle.qc_model.specs.Journal.{Journal}
use Rattle.qc_model.specs.Licence.{unit_words, words_of_bytes}
use Rattle.qc_model.specs.Needs.{is_need}
use Rattle.qc_core.specs.declared.server_state.ServerState.{ServerState}
use Rattle.qc_core.specs.declared.entry_start.Started.{Started}
use Rattle.qc_core.specs.Eviction.{PrunesMany}
use Rattle.qc_core.specs.EntryStart.{LacksRoomFor, Starts, Takes, needs_of, without_block}
use Rattle.qc_core.proofs.FillTasks.{prune_is}
use Rattle.qc_select.proofs.Needing.{is_own_prune}

-- ---- prunes for needs of a key

-- some entries were pruned, for needs that a start with this key may have
pub record ArePruned (key : List ℕ) (old new : ServerState) : Type 0 where
  pub prunes : Journal
  pub own : list_all (is_own_prune old.options key) prunes ≡ true
  pub events : new.journal.events ≡ old.journal.events ++ prunes
  pub options : new.options ≡ old.options

none_pruned : (key : List ℕ) (old new : ServerState) → new ≡ old → ArePruned key old new
none_pruned key old new is = record {
  prunes = [];
  own = refl;
  events = ap (λ (s : ServerState). s.journal.events) is ∙ sym (append-nil old.journal.events);
  options = ap (λ (s : ServerState). s.options) is;
}

then_pruned : (key : List ℕ) (a b c : ServerState) → ArePruned key a b → ArePruned key b c → ArePruned key a c
then_pruned key a b c h k = record {
  prunes = h.prunes ++ k.prunes;
  own = list_all-append (is_own_prune a.options key) h.prunes k.prunes ∙ and_from (list_all (is_own_prune a.options key) h.prunes) (list_all (is_own_prune a.options key) k.prunes) h.own (subst (λ o. list_all (is_own_prune o key) k.prunes ≡ true) h.options k.own);
  events = k.events ∙ ap (λ j. j ++ k.prunes) h.events ∙ append_assoc a.journal.events h.prunes k.prunes;
  options = k.options ∙ h.options;
}

many_pruned : (key : List ℕ) (tables : List TableName) (need count : ℕ) (old new : ServerState) → is_need old.options key need ≡ true → PrunesMany tables need count old new → ArePruned key old new
many_pruned key tables need zero old new is h = none_pruned key old new h
many_pruned key tables need (suc k) old new is h =
    let mid = h.0 in
    let one = h.2 in
    let first = many_pruned key tables need k old mid is h.1 in
    let went = prune_is tables need mid new one in
    then_pruned key old mid new first (record {
      prunes = event.Prune one.serial need (largest_free mid.tiles) ∷ [];
      own = and_from (is_need mid.options key need) true (subst (λ o. is_need o key need ≡ true) (sym first.options) is) refl;
      events = ap (λ (s : ServerState). s.journal.events) went;
      options = ap (λ (s : ServerState). s.options) went;
    })

same_events : (key : List ℕ) (a b c : ServerState) → c.journal ≡ b.journal → c.options ≡ b.options → ArePruned key a b → ArePruned key a c
same_events key a b c journal options h = record { prunes = h.prunes; own = h.own; events = ap (λ j. j.events) journal ∙ h.events; options = options ∙ h.options }

takes_pruned : (key : List ℕ) (tables : List TableName) (needs : List ℕ) (old : ServerState) (bs : List Block) (new : ServerState) → list_all (is_need old.options key) needs ≡ true → Takes tables needs old bs new → ArePruned key old new
takes_pruned key tables [] old [] new own h = none_pruned key old new h
takes_pruned key tables [] old (b ∷ bs) new own h = absurd h
takes_pruned key tables (need ∷ needs) old [] new own h = absurd h
takes_pruned key tables (need ∷ needs) old (b ∷ bs) new own h =
    let parts = and_parts (is_need old.options key need) (list_all (is_need old.options key) needs) own in
    let next = h.0 in
    let one = h.1 in
    let first = many_pruned key tables need one.count old one.mid parts.0 one.prunes in
    let taken = same_events key old one.mid next (ap (λ (s : ServerState). s.journal) one.server) (ap (λ (s : ServerState). s.options) one.server) first in
    then_pruned key old next new taken (takes_pruned key tables needs next bs new (subst (λ o. list_all (is_need o key) needs ≡ true) (sym taken.options) parts.1) h.2)

-- ---- the needs of a start

or_middle : (a b c : Bool) → b ≡ true → (a || b || c) ≡ true
or_middle true b c h = refl
or_middle false true c h = refl
or_middle false false c h = absurd (true≢false (sym h))

or_last : (a b c : Bool) → c ≡ true → (a || b || c) ≡ true
or_last true b c h = refl
or_last false true c h = refl
or_last false false c h = h

tables_need : (options : Options) (key : List ℕ) (ts : List TableName) → list_all (is_need options key) (map (λ t. least_block) ts) ≡ true
tables_need options key [] = refl
tables_need options key (t ∷ ts) = tables_need options key ts

raised_same : (n : ℕ) → 64 ≤ n → n ≡ raised n
raised_same n h = omega (arith, h)

pub needs_are_own : (options : Options) (key : List ℕ) (there : _) (tables : List TableName) → 64 ≤ unit_words options → list_all (is_need options key) (needs_of options there tables key) ≡ true
needs_are_own options key there tables least =
    let missing = without_block there tables in
    let unit : is_need options key (unit_words options) ≡ true = or_middle (unit_words options == least_block) (unit_words options == raised (unit_words options)) (unit_words options == raised (words_of_bytes (length key))) (eq-eqb (unit_words options) (raised (unit_words options)) (raised_same (unit_words options) least)) in
    let text : is_need options key (raised (words_of_bytes (length key))) ≡ true = or_last (raised (words_of_bytes (length key)) == least_block) (raised (words_of_bytes (length key)) == raised (unit_words options)) (raised (words_of_bytes (length key)) == raised (words_of_bytes (length key))) (eq-eqb _ _ refl) in
    list_all-append (is_need options key) (map (λ t. least_block) missing) (unit_words options ∷ raised (words_of_bytes (length key)) ∷ [])
    ∙ and_from (list_all (is_need options key) (map (λ t. least_block) missing)) (list_all (is_need options key) (unit_words options ∷ raised (words_of_bytes (length key)) ∷ [])) (tables_need options key missing)
    (and_from (is_need options key (unit_words options)) (list_all (is_need options key) (raised (words_of_bytes (length key)) ∷ [])) unit (and_from (is_need options key (raised (words_of_bytes (length key)))) true text refl))

-- ---- a start, or none

-- some prunes, and then the event
pub record Runs (key : List ℕ) (who : Who) (old new : ServerState) (h : How) : Type 0 where
  pub prunes : Journal
  pub own : list_all (is_own_prune old.options key) prunes ≡ true
  pub events : new.journal.events ≡ old.journal.events ++ (prunes ++ event.Run who h ∷ [])

then_runs : (key : List ℕ) (who : Who) (old mid new : ServerState) (h : How) → ArePruned key old mid → new.journal.events ≡ mid.journal.events ++ event.Run who h ∷ [] → Runs key who old new h
then_runs key who old mid new h p e = record { prunes = p.prunes; own = p.own; events = e ∙ ap (λ j. j ++ event.Run who h ∷ []) p.events ∙ append_assoc old.journal.events p.prunes (event.Run who h ∷ []) }

pub started_runs : (seat : ℕ) (who : Who) (key : List ℕ) (tables : List TableName) (old new : ServerState) (before after : Ranged) (b : Started) → 64 ≤ unit_words old.options → Starts seat who key tables old new before after b
    → Runs key who old new (how.Start b.serial key tables)
started_runs seat who key tables old new before after b least s =
    then_runs key who old s.mid new (how.Start b.serial key tables) (takes_pruned key tables (needs_of old.options old.dir.tables tables key) old _ s.mid (needs_are_own old.options key old.dir.tables tables least) s.takes) s.events

pub record RunsShort (key : List ℕ) (who : Who) (old new : ServerState) (need largest : ℕ) : Type 0 where
  pub runs : Runs key who old new (how.Plain (reason.NoRoom need largest))
  pub need_is : is_need old.options key need ≡ true

pub short_runs : (who : Who) (key : List ℕ) (tables : List TableName) (old new : ServerState) (before after : Ranged) (need largest place : ℕ) → 64 ≤ unit_words old.options → LacksRoomFor who key tables old new before after need largest place
    → RunsShort key who old new need largest
short_runs who key tables old new before after need largest place least l =
    let s = l.short in
    let all : list_all (is_need old.options key) (s.done ++ s.need ∷ s.rest) ≡ true = subst (λ ns. list_all (is_need old.options key) ns ≡ true) s.split (needs_are_own old.options key old.dir.tables tables least) in
    let parts = and_parts (list_all (is_need old.options key) s.done) (list_all (is_need old.options key) (s.need ∷ s.rest)) (sym (list_all-append (is_need old.options key) s.done (s.need ∷ s.rest)) ∙ all) in
    let own = and_parts (is_need old.options key s.need) (list_all (is_need old.options key) s.rest) parts.1 in
    let told : need ≡ s.need = ap (λ (e : NoTile). e.need) s.lacks.answer in
    let first = takes_pruned key tables s.done old s.blocks s.mid parts.0 s.takes in
    let more = many_pruned key tables s.need s.count s.mid s.last (subst (λ o. is_need o key s.need ≡ true) (sym first.options) own.0) s.prunes in
    let all_pruned = same_events key old s.last l.mid (ap (λ (x : ServerState). x.journal) s.server) (ap (λ (x : ServerState). x.options) s.server) (then_pruned key old s.mid s.last first more) in
    record {
      runs = then_runs key who old l.mid new (how.Plain (reason.NoRoom need largest)) all_pruned (ap (λ (x : ServerState). x.journal.events) l.server);
      need_is = subst (λ n. is_need old.options key n ≡ true) (sym told) own.0;
    }
