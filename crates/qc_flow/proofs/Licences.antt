-- A reply that is longer than the limit may be given up, on each server that the seat may meet.
use Rattle.std.proofs.Common.{◌≡◌, ℕ, ◌+◌, List, ◌∷◌, ◌++◌, length, length-append, sym, ap, subst, ◌∙◌, arith, append_assoc}
use Rattle.std.specs.Prelude.{Option, Some, option_map, IsSomeAnd, slice_index}
use Rattle.std.specs.List.{concat}
use Rattle.std.proofs.lemmas.List.Folds.{concat-append}
use Rattle.qc_model.specs.declared.events.Event.{Event}
use Rattle.qc_model.specs.declared.events.Event.TheVariants as event
use Rattle.qc_model.specs.declared.events.How.TheVariants as how
use Rattle.qc_model.specs.declared.events.GoneWhy.TheVariants as gone
use Rattle.qc_model.specs.Cache.{Entry, cache, entry_of}
use Rattle.qc_model.specs.Journal.{Journal, present}
use Rattle.qc_model.specs.Licence.{prefix_above}
use Rattle.qc_model.specs.Session.{answer, answer_packets}
use Rattle.qc_laws.specs.history.Runs.{IsStarted}
use Rattle.qc_turn.specs.Views.{IsSoundJournal}
use Rattle.qc_turn.specs.Words.{StartsWith}
use Rattle.qc_turn.proofs.Tasks.{starts_trans}
use Rattle.qc_turn.specs.declared.view.View.{View}
use Rattle.qc_sound.specs.Sound.{FitsFill}
use Rattle.qc_core.specs.Whole.{IsSomewhereSound}
use Rattle.qc_core.specs.contracts.server.ServerKept.TheImpl.{ghosts}
use Rattle.qc_core.specs.declared.server_state.ServerState.{ServerState}
use Rattle.qc_core.proofs.Filling.{some_of}
use Rattle.qc_flow.specs.Fills.{IsNextPacket}
use Rattle.qc_flow.specs.Endings.{IsGrantedFor, IsTooLong}
use Rattle.qc_flow.specs.Growths.{Wants}
use Rattle.qc_flow.specs.Seats.{GoesOn}
use Rattle.qc_flow.proofs.Packets.{packets_now, first_above, front_fits}

-- a start in a longer journal
abbrev pub started_in : (j seen : Journal) (n : ℕ) → StartsWith j seen → IsStarted seen n → IsStarted j n
started_in j seen n begins s = record {
  who = s.who;
  key = s.key;
  tables = s.tables;
  earlier = s.earlier;
  later = s.later ++ begins.0;
  split = begins.1 ∙ (ap (λ l. l ++ begins.0) s.split ∙ append_assoc s.earlier (event.Run s.who (how.Start n s.key s.tables) ∷ s.later) begins.0);
}

pub long_granted : (serial total limit : ℕ) (v : View ServerState Event) → IsTooLong serial total limit v → IsGrantedFor serial (gone.TooLarge total limit) v
long_granted serial total limit v long s sound begins fixed there =
    let j = s.journal.events in
    let p = long.next in
    let start = started_in j v.seen serial begins p.start in
    let y = some_of (entry_of serial (cache j)) there in
    let ps = p.earlier ++ long.packet ∷ p.later in
    let now : answer_packets y.0.key (present j) ≡ Some ps = packets_now s.options j serial start ps y.0 sound.1.1.sound.journal.lawful p.packets y.1 in
    let stored = ap (λ (l : List ℕ). length l) p.stored in
    let above = long.above in
    let sum = long.sum in
    let first = first_above limit p.earlier long.packet p.later (omega (arith, stored, long.before)) (omega (arith, stored, above, sum)) in
    let is : total ≡ prefix_above limit 0 ps = omega (arith, stored, sum, first) in (
      long.options ∙ ap (λ (l : List ℕ). slice_index l 1) fixed,
      above,
      subst (λ (o : Option Entry). IsSomeAnd o (λ e. IsSomeAnd (answer_packets e.key (present j)) (λ qs. total ≡ prefix_above limit 0 qs))) (sym y.1) (subst (λ (o : Option (List (List ℕ))). IsSomeAnd o (λ qs. total ≡ prefix_above limit 0 qs)) (sym now) is),
    )

-- what begins the answer fits, by each journal that goes on from there
pub seen_fits : (s : ServerState) (seen : Journal) (n : ℕ) (start : IsStarted seen n) (all bytes : List ℕ) → IsSomewhereSound s → StartsWith s.journal.events seen → answer start.key (present start.earlier) ≡ Some all → StartsWith all bytes → FitsFill s.journal.events n bytes
seen_fits s seen n start all bytes sound begins is front = front_fits s.options s.journal.events n (started_in s.journal.events seen n begins start) all bytes sound.1.1.sound.journal.lawful is front

-- a packet that comes next is more of the answer
pub wants_packet : (n : ℕ) (packet : List ℕ) (v : View ServerState Event) → IsNextPacket n packet v → Wants n (length v.content + length packet) v
wants_packet n packet v p =
    let all = concat (p.earlier ++ packet ∷ p.later) in
    let split : all ≡ v.content ++ (packet ++ concat p.later) = concat-append p.earlier (packet ∷ p.later) ∙ ap (λ l. l ++ (packet ++ concat p.later)) (sym p.stored) in
    let a = length-append v.content (packet ++ concat p.later) in
    let b = length-append packet (concat p.later) in
    let size = ap (λ (l : List ℕ). length l) split in
    record {
      start = p.start;
      all = all;
      answered = ap (option_map concat) p.packets;
      begun = (packet ++ concat p.later, split);
      long = omega (arith, a, b, size);
    }

-- the packets are those that stand in front
pub packet_front : (n : ℕ) (packet : List ℕ) (v : View ServerState Event) (p : IsNextPacket n packet v) → StartsWith (concat (p.earlier ++ packet ∷ p.later)) (v.content ++ packet)
packet_front n packet v p = (concat p.later, concat-append p.earlier (packet ∷ p.later) ∙ (ap (λ l. l ++ (packet ++ concat p.later)) (sym p.stored) ∙ sym (append_assoc v.content packet (concat p.later))))

-- a packet that comes next may stand behind what is stored, by what the seat has seen since
pub put_fits : (n : ℕ) (packet : List ℕ) (v w : View ServerState Event) (p : IsNextPacket n packet v) → IsSoundJournal ghosts w.seen → GoesOn v w → w.content ≡ v.content → (front : List ℕ) → StartsWith (w.content ++ packet) front → FitsFill w.seen n front
put_fits n packet v w p sound goes same front begins =
    let all = concat (p.earlier ++ packet ∷ p.later) in
    let within : StartsWith all front = starts_trans all (v.content ++ packet) front (packet_front n packet v p) (subst (λ l. StartsWith (l ++ packet) front) same begins) in
    let seen : StartsWith sound.value.journal.events v.seen = subst (λ j. StartsWith j v.seen) (sym sound.journal) goes.seen in
    subst (λ j. FitsFill j n front) sound.journal (seen_fits sound.value v.seen n p.start all front (sound.words, sound.sound) seen (ap (option_map concat) p.packets) within)
