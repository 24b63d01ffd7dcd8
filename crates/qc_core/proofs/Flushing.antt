-- The server stands while blocks move down, and takes the event of the flush.
use Rattle.std.proofs.Common.{◌≡◌, ℕ, zero, suc, ◌+◌, ◌-◌, ◌<◌, List, [], get_or, refl, sym, ap, subst, ◌∙◌, arith, inl, append-nil}
use Rattle.std.specs.Prelude.{Some, None}
use Rattle.qc_key.specs.Hash.{hash}
use Rattle.qc_model.specs.declared.events.Who.{Who}
use Rattle.qc_model.specs.declared.events.Event.{Event}
use Rattle.qc_model.specs.declared.events.Event.TheVariants as event
use Rattle.qc_model.specs.Journal.{event_count}
use Rattle.qc_model.specs.Licence.{region_words}
use Rattle.qc_tiles.specs.declared.blocks.Move.{Move}
use Rattle.qc_tiles.specs.Tiles.{movable, handed_out}
use Rattle.qc_dir.specs.Directory.{IsDirectory}
use Rattle.qc_turn.specs.Tasks.{listed_for, OutsideOtherFills}
use Rattle.qc_turn.specs.Releases.{Follows, IsFreeOfOthers}
use Rattle.qc_turn.specs.Views.{idle_of}
use Rattle.qc_turn.specs.Seats.{Held, holder, words, taken, SameHolder, MayRelease, with_value}
use Rattle.qc_turn.proofs.Holders.{taken_is, number_is, same_on, same_value, held_value, follows_on}
use Rattle.qc_sound.specs.Moment.{at_rest}
use Rattle.qc_sound.specs.steps.Events.{IsQuiet}
use Rattle.qc_sound.specs.steps.Moving.{MovesWords}
use Rattle.qc_sound.proofs.Needs.{needs_push}
use Rattle.qc_sound.proofs.Pushes.{quiet_step}
use Rattle.qc_journal.specs.Room.{Recorded}
use Rattle.qc_core.specs.declared.server_state.ServerState.{ServerState}
use Rattle.qc_core.specs.contracts.server.ServerKept.TheImpl.{ghosts}
use Rattle.qc_core.specs.Whole.{plain, tasks_of, with_event, Sound}
use Rattle.qc_core.specs.Calls.{IsNext, HasSpare}
use Rattle.qc_core.specs.Connection.{is_connected}
use Rattle.qc_core.specs.Compaction.{shifted_by, Moves, OneFreeBetween, IsCompacted, MayCarry, HasCarried}
use Rattle.qc_core.proofs.Noting.{alone}
use Rattle.qc_core.proofs.Shifting.{IsShifted, shifted_whole}
use Rattle.qc_core.proofs.Compacting.{bounds, move_misses, free_words, firsts, move_less, few_free}

shift_follows : (s : ServerState) (change : Move) (n : ℕ) (idle : List ℕ) → tasks_of (shifted_by change s) ≡ tasks_of s → Follows ghosts n idle s (shifted_by change s)
shift_follows s change n idle same = record { journal = ([], sym (append-nil s.journal.events)); others = λ k ne. refl; fixed = refl; connected = λ k ne. refl; tasks = λ k ne. inl (ap (listed_for k) same) }

-- ---- one move

module _ (k : Held ServerState Event ghosts) (v x : ServerState) (change : Move) (stands : MayRelease k) (same : v ≡ k.value) (is : movable v.tiles ≡ Some change) (moved : x ≡ shifted_by change v) (valid : IsDirectory x.dir) where
  is_here : movable k.value.tiles ≡ Some change
  is_here = ap (λ (s : ServerState). movable s.tiles) (sym same) ∙ is

  pub may_carry : MayCarry (with_value k x) change
  may_carry =
      let w = stands.sound.1 in
      let b = bounds 0 (region_words k.value.options) k.value.tiles change w.sound.memory.tiles.tiling.covers w.sound.memory.tiles.tiling.large is_here in
      record {
        held = held_value k x stands.held;
        down = b.down;
        within = omega (arith, b.within, w.sound.region);
        free = λ y low high.
            subst (λ (t : ServerState). OutsideOtherFills (holder k).number (tasks_of t) y × IsFreeOfOthers ghosts (holder k).number (idle_of (holder k).found) y t) (sym (taken_is k (with_value k x) (same_value k x stands.held)))
            (free_words (holder k).number y (idle_of (holder k).found) (taken k) k.value stands.follows (λ n. move_misses stands.sound.0 (words k) k.value change y n w is_here low high));
      }

  module _ (g : Held ServerState Event ghosts) (c : HasCarried (with_value k x) g change change.words) where
    pub value_is : g.value ≡ shifted_by change k.value
    value_is = c.value ∙ (moved ∙ ap (shifted_by change) same)

    carried : MovesWords change (words k) (words g)
    carried = record {
      carried = c.carried;
      below = c.below;
      behind = λ j low. let at : change.from + (j - change.from) ≡ j = omega (arith, low) in subst (λ i. get_or (words g) i 0 ≡ get_or (words k) i 0) at (c.left (j - change.from) (omega (arith, low)));
    }

    shifted : IsShifted stands.sound.0 (words g) k.value change
    shifted = shifted_whole stands.sound.0 (words k) (words g) k.value change stands.sound.1 is_here (subst (λ (s : ServerState). IsDirectory s.dir) (moved ∙ ap (shifted_by change) same) valid) c.long carried

    pub same_holder : SameHolder k g
    same_holder = same_on k (with_value k x) g (same_value k x stands.held) c.same

    pub still_stands : MayRelease g
    still_stands = record {
      held = c.held;
      sound = subst (Sound (words g)) (sym value_is) (stands.sound.0, shifted.whole);
      follows = subst (λ (p : ℕ × List ℕ × ServerState × ServerState). Follows ghosts p.0 p.1 p.2 p.3)
          (λ i. (sym (number_is k g same_holder) i, sym (ap (λ v. idle_of v.found) same_holder.holder) i, sym (taken_is k g same_holder) i, sym value_is i))
          (follows_on ghosts (holder k).number (idle_of (holder k).found) (taken k) k.value (shifted_by change k.value) stands.follows (shift_follows k.value change (holder k).number (idle_of (holder k).found) shifted.listed));
    }

    pub still_listed : tasks_of g.value ≡ tasks_of k.value
    still_listed = ap tasks_of value_is ∙ shifted.listed

    pub less : firsts (handed_out g.value.tiles) < firsts (handed_out k.value.tiles)
    less = subst (λ (s : ServerState). firsts (handed_out s.tiles) < firsts (handed_out k.value.tiles)) (sym value_is) (move_less (region_words k.value.options) k.value.tiles change stands.sound.1.sound.memory.tiles.tiling is_here)

-- ---- all moves

-- what the loop keeps
pub record Compacts (h k : Held ServerState Event ghosts) : Type 0 where
  pub stands : MayRelease k
  pub same : SameHolder h k
  pub count : ℕ
  pub moves : Moves count h.value k.value
  pub listed : tasks_of k.value ≡ tasks_of h.value
  pub ranges : k.ranges ≡ h.ranges

pub compacts_start : (h : Held ServerState Event ghosts) → MayRelease h → Compacts h h
compacts_start h stands =
    let s = same_value h h.value stands.held in
    record { stands = stands; same = record { seat = s.seat; turn = s.turn; holder = s.holder }; count = 0; moves = refl; listed = refl; ranges = refl }

pub compacts_on : (h k g : Held ServerState Event ghosts) (v x : ServerState) (change : Move) (i : Compacts h k) → v ≡ k.value → movable v.tiles ≡ Some change → x ≡ shifted_by change v → IsDirectory x.dir → HasCarried (with_value k x) g change change.words → Compacts h g
compacts_on h k g v x change i same is moved valid c = record {
  stands = still_stands k v x change i.stands same is moved valid g c;
  same = same_on h k g i.same (same_holder k v x change i.stands same is moved valid g c);
  count = suc i.count;
  moves = (k.value, i.moves, change, ap (λ (s : ServerState). movable s.tiles) (sym same) ∙ is, value_is k v x change i.stands same is moved valid g c);
  listed = still_listed k v x change i.stands same is moved valid g c ∙ i.listed;
  ranges = c.ranges ∙ i.ranges;
}

pub compacts_end : (h k : Held ServerState Event ghosts) (v x : ServerState) (i : Compacts h k) → v ≡ k.value → movable v.tiles ≡ None → x ≡ v → Compacts h (with_value k x) × IsCompacted h.value x
compacts_end h k v x i same none kept =
    let is : x ≡ k.value = kept ∙ same in
    let last : movable x.tiles ≡ None = ap (λ (s : ServerState). movable s.tiles) kept ∙ none in (
      subst (λ y. Compacts h (with_value k y)) (sym is) (record { stands = record { held = i.stands.held; sound = i.stands.sound; follows = i.stands.follows }; same = record { seat = i.same.seat; turn = i.same.turn; holder = i.same.holder }; count = i.count; moves = i.moves; listed = i.listed; ranges = i.ranges }),
      record { count = i.count; moves = subst (Moves i.count h.value) (sym is) i.moves; last = last; free = subst (λ (s : ServerState). movable s.tiles ≡ None → OneFreeBetween 0 s.tiles) (sym is) (few_free (region_words k.value.options) k.value.tiles i.stands.sound.1.sound.memory.tiles.tiling) last },
    )

-- ---- what a compacted server has of its journal

pub record SameBooks (s t : ServerState) : Type 0 where
  pub journal : t.journal ≡ s.journal
  pub connected : t.connected ≡ s.connected

pub moves_books : (count : ℕ) (s t : ServerState) → Moves count s t → SameBooks s t
moves_books zero s t h = subst (SameBooks s) (sym h) (record { journal = refl; connected = refl })
moves_books (suc n) s t h = let b = moves_books n s h.0 h.1 in subst (SameBooks s) (sym h.4) (record { journal = b.journal; connected = b.connected })

pub next_compacted : (h k : Held ServerState Event ghosts) (who : Who) → IsNext h who → SameHolder h k → SameBooks h.value k.value → tasks_of k.value ≡ tasks_of h.value → IsNext k who
next_compacted h k who n same b listed = record {
  session = n.session ∙ ap (λ m. m - 1) (sym (number_is h k same));
  number = n.number ∙ ap (λ (j : Recorded). event_count j.events who.session + 1) (sym b.journal);
  connected = (λ i. is_connected (number_is h k same i) (record k.value { connected = b.connected i })) ∙ n.connected;
  free = (λ i. listed_for (number_is h k same i) (listed i)) ∙ n.free;
}

-- ---- the event

pub flush_sound : (words : List ℕ) (s : ServerState) (who : Who) (seat : ℕ) → Sound words s → 0 < seat → who.session ≡ seat - 1 → who.number ≡ event_count s.journal.events who.session + 1 → listed_for seat (tasks_of s) ≡ [] → HasSpare s → Sound words (with_event (event.Flush who) s)
flush_sound words s who seat sound ps is number free room =
    let w = sound.1 in
    let e = event.Flush who in
    let a = alone words sound.0 _ s who e seat w ps refl is number free in
    let quiet : IsQuiet e = record { same_cache = λ es. refl; no_operations = refl; no_end = λ n. refl; needs = tt } in (
      sound.0,
      record {
        named = record { begun = w.named.begun; numbers = w.named.numbers; entries = w.named.entries; tasks = w.named.tasks };
        sound = quiet_step (at_rest hash) None words (plain sound.0 s) e w.sound quiet a.decides (needs_push s.options s.journal.events e w.sound.journal.needs quiet.needs) a.none room;
        directory = w.directory;
        seats = record { once = w.seats.once; room = w.seats.room; task_room = w.seats.task_room };
        room = record { entries = w.room.entries; tables = w.room.tables; chains = w.room.chains; unpinner = w.room.unpinner };
      },
    )
