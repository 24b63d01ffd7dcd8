-- What goes on under the turn while a fill gets blocks or ends.
use Rattle.std.proofs.Common.{◌≡◌, ℕ, zero, suc, ◌+◌, ◌*◌, ◌<◌, ◌≤◌, Bool, true, false, cond, List, [], ◌∷◌, ◌++◌, length, map, refl, sym, ap, subst, ◌∙◌, arith, true≢false, ⊎_elim, append_assoc, append-nil, Result, Ok, Err}
use Rattle.std.specs.Prelude.{◌&&◌, ◌==◌, nat_le, Option, Some, None, is_some, is_ok, IfOk, IfErr, find, option_map, unwrap_or}
use Rattle.std.specs.List.{AllByRecursion}
use Rattle.std.proofs.lemmas.Bool.Decides.{nat_tests}
use Rattle.std.proofs.lemmas.List.Elements.{filter-append}
use Rattle.std.proofs.lemmas.Option.{none-some, same_Some}
use Rattle.qc_key.specs.Hash.{hash}
use Rattle.qc_types.specs.Blocks.{raised, least_block}
use Rattle.qc_types.specs.declared.options.Options.{Options}
use Rattle.qc_journal.specs.Room.{Recorded}
use Rattle.qc_model.specs.declared.events.Event.{Event}
use Rattle.qc_model.specs.declared.events.Event.TheVariants as event
use Rattle.qc_model.specs.declared.events.How.TheVariants as how
use Rattle.qc_model.specs.declared.events.GoneWhy.{GoneWhy}
use Rattle.qc_model.specs.declared.events.GoneWhy.TheVariants as gone
use Rattle.qc_model.specs.Agrees.{is_ended}
use Rattle.qc_model.specs.Cache.{cache, entry_of}
use Rattle.qc_model.specs.Licence.{IsLawful, MayGiveUp, LacksRoom, unit_words}
use Rattle.qc_laws.specs.history.Runs.{IsStarted}
use Rattle.qc_tiles.specs.declared.blocks.Tile.{Tile}
use Rattle.qc_tiles.specs.declared.blocks.Block.{Block}
use Rattle.qc_tiles.specs.declared.blocks.NoTile.{NoTile}
use Rattle.qc_tiles.specs.Tiles.{best, holds, smaller, taken, taken_from, cut_words, largest_free}
use Rattle.qc_chain.specs.Words.{words_of}
use Rattle.qc_chain.proofs.Words.{words_push}
use Rattle.qc_chain.specs.Chains.{Ranged, Chained}
use Rattle.qc_dir.specs.declared.entries.Entry.{Entry}
use Rattle.qc_dir.specs.Directory.{is_idle}
use Rattle.qc_turn.specs.declared.task.Task.TheVariants as task
use Rattle.qc_turn.specs.declared.view.FoundWord.{FoundWord}
use Rattle.qc_turn.specs.Seats.{Held, holder, MayRelease, with_ranges}
use Rattle.qc_turn.specs.Tasks.{listed_for, own}
use Rattle.qc_turn.specs.Views.{of_seat}
use Rattle.qc_turn.specs.Words.{StartsWith}
use Rattle.qc_sound.specs.Moment.{at_rest}
use Rattle.qc_sound.specs.PlainServer.{serial_of}
use Rattle.qc_sound.proofs.Grounds.{lacks_room}
use Rattle.qc_core.specs.declared.fill_growth.Short.{Short}
use Rattle.qc_core.specs.declared.fill_growth.Short.TheVariants as short
use Rattle.qc_core.specs.declared.server_state.RunningTask.{RunningTask}
use Rattle.qc_core.specs.declared.server_state.ServerState.{ServerState}
use Rattle.qc_core.specs.contracts.server.ServerKept.TheImpl.{ghosts}
use Rattle.qc_core.specs.Whole.{stored, plain, tasks_of, Sound}
use Rattle.qc_core.specs.Eviction.{LacksTile}
use Rattle.qc_core.specs.FillEnd.{EndsBy}
use Rattle.qc_core.specs.FillGrowth.{FillsOn, Grows, IsShort, TellsGrowth, longer_by}
use Rattle.qc_core.specs.OvertakenFill.{IsOvertaken}
use Rattle.qc_core.specs.TaskEnd.{is_of, let_go, with_user_less, without_task_of, rested_from, rested_by, rested}
use Rattle.qc_core.specs.EndedStreams.{swept, ReadsStreams, Finds}
use Rattle.qc_core.proofs.FillTasks.{IsAfter, pruned_after, still_filling}
use Rattle.qc_core.proofs.Filling.{fills_of, there_same, none_of, was_overtaken}
use Rattle.qc_turn.proofs.Tasks.{starts_trans}
use Rattle.qc_flow.specs.Growths.{HoldFewer, GrowFor, Onward, settled, Continues, FillsFor, WasShort, AsksBlock}
use Rattle.qc_flow.specs.Seats.{EndsIn}
use Rattle.qc_flow.proofs.Removals.{overtaken_ends}

-- ---- the journal goes on

pub onward_same : (s : ServerState) → Onward s s
onward_same s = record { later = []; events = sym (append-nil s.journal.events); quiet = λ n. refl; options = refl; connected = refl }

pub onward_both : (s t u : ServerState) → Onward s t → Onward t u → Onward s u
onward_both s t u p q = record {
  later = p.later ++ q.later;
  events = q.events ∙ (ap (λ l. l ++ q.later) p.events ∙ append_assoc s.journal.events p.later q.later);
  quiet = λ n. filter-append _ p.later q.later ∙ (λ i. p.quiet n i ++ q.quiet n i);
  options = q.options ∙ p.options;
  connected = q.connected ∙ p.connected;
}

onward_after : (s t : ServerState) → IsAfter s t → Onward s t
onward_after s t a = record { later = a.later; events = a.events; quiet = a.others; options = a.options; connected = a.connected }

onward_grown : (n : ℕ) (s t : ServerState) (b : Block) → Grows n s b t → Onward s t
onward_grown n s t b g =
    let o = onward_after s g.mid (pruned_after [] (unit_words s.options) g.count s g.mid g.prunes) in
    subst (Onward s) (sym g.server) (record { later = o.later; events = o.events; quiet = o.quiet; options = o.options; connected = o.connected })

onward_short : (n : ℕ) (s t : ServerState) (e : Short) → IsShort n s t e → Onward s t
onward_short n s t (short.Overtaken by) h = subst (Onward s) (sym h.2) (onward_same s)
onward_short n s t (short.NoRoom need largest) h = onward_after s t (pruned_after [] (unit_words s.options) h.1 s t h.2)

-- ---- what is struck off

record Keeps (s t : ServerState) : Type 0 where
  pub journal : t.journal ≡ s.journal
  pub options : t.options ≡ s.options
  pub connected : t.connected ≡ s.connected

go_keeps : (on there : Bool) (number : ℕ) (s : ServerState) → Keeps s (let_go on there number s)
go_keeps true there number s = record { journal = refl; options = refl; connected = refl }
go_keeps false true number s = record { journal = refl; options = refl; connected = refl }
go_keeps false false number s = record { journal = refl; options = refl; connected = refl }

from_keeps : (seat number : ℕ) (o : Option ℕ) (s : ServerState) → Keeps s (rested_from seat number o s)
from_keeps seat number None s = record { journal = refl; options = refl; connected = refl }
from_keeps seat number (Some n) s = let k = go_keeps _ _ number (with_user_less n (without_task_of seat s)) in record { journal = k.journal; options = k.options; connected = k.connected }

by_keeps : (seat : ℕ) (o : Option RunningTask) (s : ServerState) → Keeps s (rested_by seat o s)
by_keeps seat None s = record { journal = refl; options = refl; connected = refl }
by_keeps seat (Some w) s = from_keeps seat w.chain.number (serial_of w.task) s

rested_keeps : (seat : ℕ) (s : ServerState) → Keeps s (rested seat s)
rested_keeps seat s = by_keeps seat (find (is_of seat) s.tasks.items) s

swept_keeps : (found : List FoundWord) (s : ServerState) → Keeps s (swept found s)
swept_keeps [] s = record { journal = refl; options = refl; connected = refl }
swept_keeps (f ∷ fs) s = elim f.set as (λ b. Keeps s (cond b (swept fs s) (rested f.seat (swept fs s)))) [
  | true ↦ swept_keeps fs s
  | false ↦
      let a = swept_keeps fs s in
      let b = rested_keeps f.seat (swept fs s) in
      record { journal = b.journal ∙ a.journal; options = b.options ∙ a.options; connected = b.connected ∙ a.connected }
]

onward_kept : (s t : ServerState) → Keeps s t → Onward s t
onward_kept s t k = record { later = []; events = ap (λ (j : Recorded). j.events) k.journal ∙ sym (append-nil s.journal.events); quiet = λ n. refl; options = k.options; connected = k.connected }

-- ---- one call on the holding

pub continues_same : (h : Held ServerState Event ghosts) → Continues h h
continues_same h = record { seat = refl; turn = refl; view = refl; turns = refl; value = onward_same h.value; room = refl }

pub continues_both : (h k m : Held ServerState Event ghosts) → Continues h k → Continues k m → Continues h m
continues_both h k m p q = record { seat = q.seat ∙ p.seat; turn = q.turn ∙ p.turn; view = q.view ∙ p.view; turns = q.turns ∙ p.turns; value = onward_both h.value k.value m.value p.value q.value; room = q.room ∙ p.room }

told_value : (n : ℕ) (s t : ServerState) (q r : Ranged) (told : Result Block Short) → TellsGrowth n s q t r told → Onward s t × (r.room ≡ q.room)
told_value n s t q r (Ok b) g = (onward_grown n s t b g.ok.0, ap (λ (x : Ranged). x.room) g.ok.1)
told_value n s t q r (Err e) g = (onward_short n s t e g.err.0, ap (λ (x : Ranged). x.room) g.err.1)

-- what one call for a block more tells
abbrev Told : ℕ → Held ServerState Event ghosts → Held ServerState Event ghosts → Result Block Short → Type 0
Told n h k told = (found : List FoundWord) × ReadsStreams (holder h).number h.value found × Finds h (with_ranges k h.ranges) found × TellsGrowth n (swept found h.value) h.ranges k.value k.ranges told

pub grew : (n : ℕ) (h k : Held ServerState Event ghosts) (told : Result Block Short) → Told n h k told → Continues h k
grew n h k told g =
    let found = g.0 in
    let t = told_value n (swept found h.value) k.value h.ranges k.ranges told g.3 in
    record {
      seat = g.2.seat;
      turn = g.2.turn;
      view = ap settled g.2.holder;
      turns = ap (λ v. v.turns) g.2.holder;
      value = onward_both h.value (swept found h.value) k.value (onward_kept h.value (swept found h.value) (swept_keeps found h.value)) t.0;
      room = t.1;
    }

pub grew_block : (n : ℕ) (h k : Held ServerState Event ghosts) (told : Result Block Short) (b : Block) → told ≡ Ok b → Told n h k told → k.ranges.blocks ≡ h.ranges.blocks ++ b ∷ []
grew_block n h k told b is g = ap (λ (x : Ranged). x.blocks) (subst (λ r. TellsGrowth n (swept g.0 h.value) h.ranges k.value k.ranges r) is g.3).ok.1

pub grew_none : (n : ℕ) (h k : Held ServerState Event ghosts) (told : Result Block Short) (e : Short) → told ≡ Err e → Told n h k told → k.ranges.blocks ≡ h.ranges.blocks
grew_none n h k told e is g = ap (λ (x : Ranged). x.blocks) (subst (λ r. TellsGrowth n (swept g.0 h.value) h.ranges k.value k.ranges r) is g.3).err.1

-- the same of the server, by the number of the seat
pub asked_block : (seat n : ℕ) (h k : Held ServerState Event ghosts) (told r : Result Block Short) → told ≡ r → seat ≡ (holder h).number → Told n h k told → AsksBlock seat n h.value h.ranges k.value k.ranges r
asked_block seat n h k told r is number g = (g.0, subst (λ i. ReadsStreams i h.value g.0) (sym number) g.1, subst (λ z. TellsGrowth n (swept g.0 h.value) h.ranges k.value k.ranges z) is g.3)

-- a chain that grew begins as it was
pub grown_front : (total : ℕ) (old new : List Block) → GrowFor total old new → StartsWith new old
grown_front total old new g = ⊎_elim
    (λ (e : new ≡ old). ([], e ∙ sym (append-nil old)))
    (λ (m : (front : List Block) × (last : Block) × (new ≡ front ++ last ∷ []) × StartsWith front old × HoldFewer front total). starts_trans new m.0 old (m.1 ∷ [], m.2) m.3)
    g

-- ---- a start stays

pub started_on : (s t : ServerState) (n : ℕ) → Onward s t → IsStarted s.journal.events n → IsStarted t.journal.events n
started_on s t n o u = record {
  who = u.who;
  key = u.key;
  tables = u.tables;
  earlier = u.earlier;
  later = u.later ++ o.later;
  split = o.events ∙ (ap (λ l. l ++ o.later) u.split ∙ append_assoc u.earlier (event.Run u.who (how.Start n u.key u.tables) ∷ u.later) o.later);
}

pub number_on : (h k : Held ServerState Event ghosts) → Continues h k → (holder k).number ≡ (holder h).number
number_on h k c = ap (λ v. v.number) c.view

pub fills_on : (n total : ℕ) (h k : Held ServerState Event ghosts) → FillsFor n total h → Continues h k → listed_for (holder h).number (tasks_of k.value) ≡ own (holder h).number (task.Fill n) k.ranges.blocks → FillsFor n total k
unfolding started_on
fills_on n total h k f c listed = record {
  listed = subst (λ i. listed_for i (tasks_of k.value) ≡ own i (task.Fill n) k.ranges.blocks) (sym (number_on h k c)) listed;
  start = started_on h.value k.value n c.value f.start;
  all = f.all;
  answered = f.answered;
  long = f.long;
  room = subst (λ (p : Options × ℕ). p.0.size ≤ 512 * p.1) (λ i. (sym c.value.options i, sym c.room i)) f.room;
}

pub asks_more : (n total : ℕ) (h : Held ServerState Event ghosts) → FillsFor n total h → nat_le total (8 * words_of h.ranges.blocks) ≡ false → FillsOn (holder h).number n h.value h.ranges
asks_more n total h f more = record {
  listed = f.listed;
  start = f.start;
  more = subst (λ (o : Option (List ℕ)). 8 * words_of h.ranges.blocks < length (unwrap_or o [])) (sym f.answered) (let over : 8 * words_of h.ranges.blocks < total = grind (arith, nat_tests, more) in omega (arith, over, f.long));
  room = f.room;
}

-- ---- each block has a word

best_large : (need : ℕ) (ts : List Tile) (t : Tile) → best need ts ≡ Some t → need ≤ t.words
best_large need [] t h = absurd (none-some t h)
best_large need (x ∷ ts) t h = elim (holds need x) as (λ b. holds need x ≡ b → cond b (Some (smaller x (best need ts))) (best need ts) ≡ Some t → need ≤ t.words) [
  | true ↦ λ e f. subst (λ (y : Tile). need ≤ y.words) (same_Some (smaller x (best need ts)) t f) (by (best_large need ts) (best need ts) refl (wide x e))
  | false ↦ λ e f. best_large need ts t f
] refl h
  where
    wide : (x : Tile) → holds need x ≡ true → need ≤ x.words
    wide x e = elim x.free as (λ b. (b && nat_le need x.words) ≡ true → need ≤ x.words) [
      | true ↦ λ f. grind (arith, nat_tests, f)
      | false ↦ λ f. absurd (true≢false (sym f))
    ] e

    by : ((u : Tile) → best need ts ≡ Some u → need ≤ u.words) → (o : Option Tile) → best need ts ≡ o → need ≤ x.words → need ≤ (smaller x o).words
    by more None e w = w
    by more (Some u) e w = elim (nat_le x.words u.words) as (λ b. need ≤ (cond b x u).words) [ true ↦ w | false ↦ more u e ]

pub block_words : (need : ℕ) (ts : List Tile) (b : Block) → 0 < need → taken need ts ≡ Some b → 0 < b.words
block_words need ts b some h = by (best (raised need) ts) refl h
  where
    low : need ≤ raised need
    low = omega arith

    by : (o : Option Tile) → best (raised need) ts ≡ o → taken_from (raised need) o ≡ Some b → 0 < b.words
    by None e k = absurd (none-some b k)
    by (Some t) e k =
        let large = best_large (raised need) ts t e in
        let cut : 0 < cut_words (raised need) t.words = elim (nat_le (raised need + least_block) t.words) as (λ v. 0 < cond v (raised need) t.words) [ true ↦ omega (arith, low, some) | false ↦ omega (arith, low, some, large) ] in
        subst (λ (x : Block). 0 < x.words) (same_Some (record { first = t.first; words = cut_words (raised need) t.words }) b k) cut

-- one more block holds more
pub more_words : (n : ℕ) (s t : ServerState) (q r : Ranged) (b : Block) → 0 < unit_words s.options → Grows n s b t → r ≡ longer_by b q → words_of q.blocks < words_of r.blocks
more_words n s t q r b some g is =
    let one = block_words (unit_words s.options) g.mid.tiles b some g.taken in
    let sum = words_push q.blocks b in
    let same = ap (λ (x : Ranged). words_of x.blocks) is in
    omega (arith, one, sum, same)

-- ---- why a chain doesn't grow

pub was_short : (n : ℕ) (s t : ServerState) (e : Short) → IsLawful t.options t.journal.events → IsShort n s t e → WasShort n t e
was_short n s t (short.Overtaken by) lawful h = (ap (λ (x : ServerState). entry_of n (cache x.journal.events)) h.2 ∙ h.0, subst (λ (x : ServerState). IsOvertaken x.journal.events n by) (sym h.2) h.1)
was_short n s t (short.NoRoom need largest) lawful h =
    let a = pruned_after [] (unit_words s.options) h.1 s t h.2 in
    (still_filling t.options s t n lawful a h.0, subst (λ o. LacksTile (unit_words o) t (record { need = need; largest = largest })) (sym a.options) h.3)

found_none : (es : List Entry) → option_map (λ (e : Entry). e.serial) (find is_idle es) ≡ None → find is_idle es ≡ None
found_none es h = by (find is_idle es) h
  where
    by : (o : Option Entry) → option_map (λ (e : Entry). e.serial) o ≡ None → o ≡ None
    by None k = refl
    by (Some e) k = absurd (none-some e.serial (sym k))

restless : (cs : Chained) (es : List Entry) → find is_idle es ≡ None → AllByRecursion (λ e. e.complete ≡ true → 0 < e.users) (map (stored cs) es)
restless cs [] h = tt
restless cs (e ∷ es) h = elim (is_idle e) as (λ b. is_idle e ≡ b → cond b (Some e) (find is_idle es) ≡ None → (e.complete ≡ true → 0 < e.users) × AllByRecursion (λ e. e.complete ≡ true → 0 < e.users) (map (stored cs) es)) [
  | true ↦ λ p f. absurd (none-some e (sym f))
  | false ↦ λ p f. ((λ whole. used e.users (sym (ap (λ b. b && e.users == 0) whole) ∙ p)), restless cs es f)
] refl h
  where
    used : (n : ℕ) → (n == 0) ≡ false → 0 < n
    used zero k = absurd (true≢false k)
    used (suc n) k = omega arith

pub no_room : (ws : List ℕ) (s : ServerState) (n need largest : ℕ) → Sound ws s → LacksTile (unit_words s.options) s (record { need = need; largest = largest }) → MayGiveUp s.options s.journal.events n (gone.NoRoom need largest)
no_room ws s n need largest sound l =
    let h = sound.1.sound in
    let t = h.memory.tiles in
    let room = lacks_room (at_rest hash) ws (plain sound.0 s) s.tiles [] (unit_words s.options) h t.tiling t.in_use (omega arith) tt l.small (restless s.chains s.dir.entries (found_none s.dir.entries l.none)) in
    let is_need : need ≡ unit_words s.options = ap (λ (x : NoTile). x.need) l.answer in
    let is_largest : largest ≡ largest_free s.tiles = ap (λ (x : NoTile). x.largest) l.answer in
    (is_need, subst (λ (p : ℕ × ℕ). LacksRoom s.options s.journal.events p.0 p.1) (λ i. (sym is_need i, sym is_largest i)) room)

-- ---- a fill ends

pub quiet_gone : (n : ℕ) (why : GoneWhy) (k : ℕ) → of_seat ghosts k (event.Gone n why ∷ []) ≡ []
quiet_gone n why k = refl

pub quiet_done : (n k : ℕ) → of_seat ghosts k (event.Done n ∷ []) ≡ []
quiet_done n k = refl

-- by this event, or it was overtaken
pub record EndedSo (e : Event) (n : ℕ) (s t : ServerState) (r : Result ℕ ℕ) : Type 0 where
  pub onward : Onward s t
  pub ok : IfOk r (λ place. (place ≡ length t.journal.events) × EndsIn e t.journal.events)
  pub err : IfErr r (λ by. IsOvertaken t.journal.events n by × (is_ended n [] t.journal.events ≡ true))
  pub kept : IfErr r (λ by. t.journal.events ≡ s.journal.events)

pub ended_so : (e : Event) (n seat : ℕ) (ws : List ℕ) (s t : ServerState) (bs : List Block) (r : Result ℕ ℕ) → ((k : ℕ) → of_seat ghosts k (e ∷ []) ≡ []) → Sound ws s → listed_for seat (tasks_of s) ≡ own seat (task.Fill n) bs → is_ok r ≡ is_some (entry_of n (cache s.journal.events))
    → IfOk r (λ place. (place ≡ length t.journal.events) × EndsBy e s t) → IfErr r (λ by. IsOvertaken s.journal.events n by × (t ≡ rested seat s)) → EndedSo e n s t r
ended_so e n seat ws s t bs (Ok place) quiet sound listed there ok err = record {
  onward = record { later = e ∷ []; events = ok.1.events; quiet = quiet; options = ok.1.options; connected = ok.1.connected };
  ok = (ok.0, (s.journal.events, ok.1.events));
  err = tt;
  kept = tt;
}
ended_so e n seat ws s t bs (Err by) quiet sound listed there ok err =
    let keeps = rested_keeps seat s in
    let same : t.journal.events ≡ s.journal.events = ap (λ (x : ServerState). x.journal.events) err.1 ∙ ap (λ (j : Recorded). j.events) keeps.journal in
    let left = none_of _ (there_same (at_rest hash) sound.0 ws s n sound.1 ∙ sym there) in
    let was = was_overtaken (at_rest hash) sound.0 ws s seat n sound.1 (fills_of s seat n bs listed) left in
    record {
      onward = subst (Onward s) (sym err.1) (onward_kept s (rested seat s) keeps);
      ok = tt;
      err = (subst (λ j. IsOvertaken j n by) (sym same) err.0, subst (λ j. is_ended n [] j ≡ true) (sym same) (overtaken_ends s.journal.events n was));
      kept = same;
    }

pub grew_more : (n : ℕ) (h k : Held ServerState Event ghosts) (told : Result Block Short) (b : Block) → told ≡ Ok b → MayRelease h → Told n h k told → words_of h.ranges.blocks < words_of k.ranges.blocks
grew_more n h k told b is stands g =
    let found = g.0 in
    let t = subst (λ r. TellsGrowth n (swept found h.value) h.ranges k.value k.ranges r) is g.3 in
    let unit : 0 < unit_words h.value.options = omega (arith, stands.sound.1.sound.rounded.least) in
    let some : 0 < unit_words (swept found h.value).options = subst (λ o. 0 < unit_words o) (sym (swept_keeps found h.value).options) unit in
    more_words n (swept found h.value) k.value h.ranges k.ranges b some t.ok.0 t.ok.1

pub grew_short : (n : ℕ) (h k : Held ServerState Event ghosts) (told : Result Block Short) (e : Short) → told ≡ Err e → MayRelease k → Told n h k told → WasShort n k.value e
grew_short n h k told e is stands g =
    let found = g.0 in
    let t = subst (λ r. TellsGrowth n (swept found h.value) h.ranges k.value k.ranges r) is g.3 in
    was_short n (swept found h.value) k.value e stands.sound.1.sound.journal.lawful t.err.0
