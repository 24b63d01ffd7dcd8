-- What a seat that fills knows when it has taken the turn, and what it may release.
use Rattle.std.proofs.Common.{◌≡◌, ℕ, ◌*◌, ◌≤◌, false, List, [], ◌∷◌, ◌++◌, length, take, sym, ap, subst, ◌∙◌, ⊎_elim, arith}
use Rattle.std.specs.Prelude.{Some, slice_index}
use Rattle.qc_model.specs.declared.events.Event.{Event}
use Rattle.qc_tiles.specs.declared.blocks.Block.{Block}
use Rattle.qc_chain.specs.Words.{words_of}
use Rattle.qc_chain.specs.Chains.{Ranged}
use Rattle.qc_turn.specs.Blocks.{spelled}
use Rattle.qc_turn.specs.Bytes.{bytes_of}
use Rattle.qc_turn.specs.Releases.{Follows, SpellsReleased}
use Rattle.qc_turn.specs.Rules.{ContentRule}
use Rattle.qc_turn.specs.Seats.{Held, holder, words, taken, task_words, IsHeld, MayRelease}
use Rattle.qc_turn.specs.Steps.{Taken}
use Rattle.qc_turn.specs.Tasks.{listed_for, own, blocks_in, words_in, is_stream, IsListed, IsEnded, HasBlocks}
use Rattle.qc_turn.specs.Views.{base_of, idle_of, with_turn, with_word_set, after_release}
use Rattle.qc_turn.specs.Words.{StartsWith}
use Rattle.qc_turn.specs.declared.task.Task.{Task}
use Rattle.qc_turn.specs.declared.task.Task.TheVariants as task
use Rattle.qc_turn.specs.declared.task.ListedTask.{ListedTask}
use Rattle.qc_turn.specs.declared.view.Holding.TheVariants.{Free}
use Rattle.qc_turn.specs.declared.view.View.{View}
use Rattle.qc_turn.proofs.Holders.{follows_refl}
use Rattle.qc_turn.proofs.Tasks.{starts_trans, length_words}
use Rattle.qc_sound.specs.Sound.{FitsFill}
use Rattle.qc_core.specs.Calls.{StoresWhole}
use Rattle.qc_core.specs.OvertakenFill.{IsOvertaken}
use Rattle.qc_core.specs.Whole.{IsSomewhereSound, tasks_of}
use Rattle.qc_core.specs.declared.fill_growth.Short.{Short}
use Rattle.qc_core.specs.declared.fill_growth.Short.TheVariants as short
use Rattle.qc_core.specs.contracts.server.ServerKept.TheImpl.{ghosts}
use Rattle.qc_core.specs.declared.server_state.ServerState.{ServerState}
use Rattle.qc_flow.specs.Fills.{IsWholeAnswer, size_of, limit_of}
use Rattle.qc_flow.specs.Growths.{HoldFewer, Widens, WasShort, IsFull, EndsShort, step_of, Wants, Onward, settled, Continues, FillsFor, GrowsShort}
use Rattle.qc_flow.specs.Seats.{GoesOn, IsAtRest, HasEnded, TookOnce}
use Rattle.qc_flow.proofs.Licences.{started_in, seen_fits}
use Rattle.qc_flow.proofs.Seats.{released_on, released_rests, released_fills, fill_spells, longer_front}

-- the one task that is listed for a seat that fills
fill_alone : (n serial : ℕ) (t : Task) (bs : List Block) (ts : List ListedTask) → t ≡ task.Fill serial → IsListed n t bs ts → ts ≡ own n (task.Fill serial) bs
fill_alone n serial t bs ts h l = ⊎_elim (λ (e : ts ≡ own n (task.Fill serial) bs). e) (λ (r : (task.Fill serial ≡ task.Rest) × IsEnded n ts). absurd (not_rest r.0)) (subst (λ u. IsListed n u bs ts) h l)
  where
    not_rest : task.Fill serial ≡ task.Rest → ⊥
    not_rest e = absurd cc

-- what a fill stored, as the words had it at the take
stored_front : (b : ServerState) (ws : List ℕ) (t : Task) (serial : ℕ) (bs : List Block) (content : List ℕ) → t ≡ task.Fill serial → ContentRule ghosts b ws t bs content → (content ≡ take (length content) (bytes_of (spelled ws bs))) × FitsFill b.journal.events serial content
stored_front b ws t serial bs content h rule = subst (λ u. ContentRule ghosts b ws u bs content) h rule

-- the words of a seat that fills
pub fill_words : (v : View ServerState Event) (serial : ℕ) → v.task ≡ task.Fill serial → task_words v ≡ words_of v.blocks
fill_words v serial h = ap (λ t. words_in t v.blocks) h ∙ length_words v.blocks

pub record TookFill (v : View ServerState Event) (h : Held ServerState Event ghosts) (serial : ℕ) : Type 0 where
  pub stands : MayRelease h
  pub listed : listed_for (holder h).number (tasks_of h.value) ≡ own (holder h).number (task.Fill serial) v.blocks
  pub view : settled (holder h) ≡ settled v
  pub turns : (holder h).turns ≡ h.value ∷ v.turns
  pub unset : v.word_set ≡ false
  pub front : v.content ≡ take (length v.content) (bytes_of (spelled (words h) v.blocks))

pub took_fill : (v : View ServerState Event) (h : Held ServerState Event ghosts) (serial : ℕ) → IsHeld h → Taken ghosts v h.value (words h) → holder h ≡ with_turn v h.value (words h) → v.task ≡ task.Fill serial → TookFill v h serial
took_fill v h serial held t holds fill =
    let base : taken h ≡ h.value = ap (λ u. base_of h.value u.holding) holds in
    let number : (holder h).number ≡ v.number = ap (λ u. u.number) holds in
    record {
      stands = record {
        held = held;
        sound = t.sound;
        follows = subst (λ b. Follows ghosts (holder h).number (idle_of (holder h).found) b h.value) (sym base) (follows_refl ghosts (holder h).number (idle_of (holder h).found) h.value);
      };
      listed = subst (λ n. listed_for n (tasks_of h.value) ≡ own n (task.Fill serial) v.blocks) (sym number) (fill_alone v.number serial v.task v.blocks (listed_for v.number (tasks_of h.value)) fill t.listed);
      view = ap settled holds;
      turns = ap (λ u. u.turns) holds;
      unset = t.word_set ∙ ap is_stream fill;
      front = (stored_front h.value (words h) v.task serial v.blocks v.content fill t.content).0;
    }

-- what is stored is the whole answer, so the entry may be completed
pub stores_whole : (v : View ServerState Event) (h : Held ServerState Event ghosts) (serial bytes : ℕ) → TookFill v h serial → Taken ghosts v h.value (words h) → IsWholeAnswer serial v → (bytes ≡ length v.content) × (bytes ≤ 8 * words_of v.blocks) × (bytes ≤ limit_of v) → StoresWhole serial bytes h
stores_whole v h serial bytes f t whole few bs one =
    let blocks : bs ≡ v.blocks = ap blocks_in (sym one ∙ f.listed) in
    let text : v.content ≡ take bytes (bytes_of (spelled (words h) bs)) = f.front ∙ (λ i. take (sym few.0 i) (bytes_of (spelled (words h) (sym blocks i)))) in
    let size = ap (λ (l : List ℕ). length l) text in
    let limit = ap (λ (l : List ℕ). slice_index l 1) t.fixed in
    record {
      start = started_in h.value.journal.events v.seen serial t.seen whole.start;
      answered = whole.answered ∙ ap Some text;
      long = sym size ∙ sym few.0;
      within = subst (λ (l : List Block). bytes ≤ 8 * words_of l) (sym blocks) few.1;
      limit = subst (λ n. bytes ≤ n) limit few.2;
    }

-- ---- the seat after the release

-- a seat that took the turn once has no other server from it
pub took_once : (v w : View ServerState Event) (h k : Held ServerState Event ghosts) (serial : ℕ) (set : _) → TookFill v h serial → (holder k).turns ≡ (holder h).turns → w ≡ after_release ghosts (with_word_set (holder k) set) k.value (words k) → TookOnce h.value v w
took_once v w h k serial set f same is = ap (λ u. u.turns) is ∙ (same ∙ f.turns)

-- the seat rests, and has seen this journal
pub record Rested (v w : View ServerState Event) (x : ServerState) : Type 0 where
  pub goes_on : GoesOn v w
  pub rests : IsAtRest w
  pub seen : w.seen ≡ x.journal.events

pub seat_rests : (v w : View ServerState Event) (h k : Held ServerState Event ghosts) (serial : ℕ) → TookFill v h serial → Taken ghosts v h.value (words h) → v.holding ≡ Free → settled (holder k) ≡ settled (holder h) → Onward h.value k.value → listed_for (holder h).number (tasks_of k.value) ≡ []
    → w ≡ after_release ghosts (with_word_set (holder k) false) k.value (words k) → Rested v w k.value
seat_rests v w h k serial f t free same o none is =
    let number : (holder k).number ≡ (holder h).number = ap (λ u. u.number) same in
    let none_now = subst (λ n. listed_for n (tasks_of k.value) ≡ []) (sym number) none in
    record {
      goes_on = subst (GoesOn v) (sym is) (released_on v h.value (words h) t free f.unset (holder k) k.value (words k) (same ∙ f.view) o);
      rests = subst IsAtRest (sym is) (released_rests (holder k) k.value (words k) none_now);
      seen = ap (λ u. u.seen) is;
    }

-- what a seat asks that has taken the turn for more blocks
pub fills_for : (v : View ServerState Event) (h : Held ServerState Event ghosts) (ranges : Ranged) (serial total : ℕ) → TookFill v h serial → Taken ghosts v h.value (words h) → v.task ≡ task.Fill serial → HasBlocks v.task v.blocks ranges.blocks → h.ranges ≡ ranges → Wants serial total v → size_of v ≤ 512 * ranges.room
    → FillsFor serial total h
fills_for v h ranges serial total f t fill has same wants room =
    let blocks : h.ranges.blocks ≡ v.blocks = ap (λ (r : Ranged). r.blocks) same ∙ subst (λ u. HasBlocks u v.blocks ranges.blocks) fill has in
    record {
      listed = f.listed ∙ ap (own (holder h).number (task.Fill serial)) (sym blocks);
      start = started_in h.value.journal.events v.seen serial t.seen wants.start;
      all = wants.all;
      answered = wants.answered;
      long = wants.long;
      room = subst (λ (p : ℕ × Ranged). p.0 ≤ 512 * p.1.room) (λ i. (ap (λ (l : List ℕ). slice_index l 0) t.fixed i, sym same i)) room;
    }

-- the fill goes on with its blocks, and what was stored stands in them
module _ (v : View ServerState Event) (h k : Held ServerState Event ghosts) (ranges : Ranged) (serial total : ℕ) (f : TookFill v h serial) (t : Taken ghosts v h.value (words h)) (fill : v.task ≡ task.Fill serial) (c : Continues h k) (one : FillsFor serial total k) where
  filled : (holder k).task ≡ task.Fill serial
  filled = ap (λ u. u.task) (c.view ∙ f.view) ∙ fill

  same_content : (holder k).content ≡ v.content
  same_content = ap (λ u. u.content) (c.view ∙ f.view)

  pub fill_content : MayRelease k → HasBlocks v.task v.blocks ranges.blocks → h.ranges ≡ ranges → Wants serial total v → words k ≡ words h → StartsWith k.ranges.blocks h.ranges.blocks → SpellsReleased ghosts (with_word_set (holder k) false) k.value (words k)
  fill_content stands has same wants still longer =
      let blocks : h.ranges.blocks ≡ v.blocks = ap (λ (r : Ranged). r.blocks) same ∙ subst (λ u. HasBlocks u v.blocks ranges.blocks) fill has in
      let split : k.ranges.blocks ≡ v.blocks ++ longer.0 = longer.1 ∙ ap (λ l. l ++ longer.0) blocks in
      let front : v.content ≡ take (length v.content) (bytes_of (spelled (words h) (v.blocks ++ longer.0))) = longer_front (words h) v.content v.blocks longer.0 f.front in
      let now : v.content ≡ take (length v.content) (bytes_of (spelled (words k) k.ranges.blocks)) = front ∙ (λ i. take (length v.content) (bytes_of (spelled (sym still i) (sym split i)))) in
      let begins = starts_trans k.value.journal.events h.value.journal.events v.seen (c.value.later, c.value.events) t.seen in
      let fits = seen_fits k.value v.seen serial wants.start wants.all v.content (words k, stands.sound) begins wants.answered wants.begun in
      fill_spells (holder k) k.value (words k) serial k.ranges.blocks one.listed filled
      (subst (λ l. l ≡ take (length l) (bytes_of (spelled (words k) k.ranges.blocks))) (sym same_content) now)
      (subst (FitsFill k.value.journal.events serial) (sym same_content) fits)

  pub seat_fills : (w : View ServerState Event) → v.holding ≡ Free → w ≡ after_release ghosts (with_word_set (holder k) false) k.value (words k) → GoesOn v w × (w.task ≡ task.Fill serial) × (w.content ≡ v.content) × (w.blocks ≡ k.ranges.blocks)
  seat_fills w free is =
      let r = released_fills (holder k) k.value (words k) serial k.ranges.blocks one.listed filled in (
        subst (GoesOn v) (sym is) (released_on v h.value (words h) t free f.unset (holder k) k.value (words k) (c.view ∙ f.view) c.value),
        ap (λ u. u.task) is ∙ r.task,
        ap (λ u. u.content) is ∙ (r.content ∙ same_content),
        ap (λ u. u.blocks) is ∙ r.blocks,
      )

-- no block was found, and the answer is longer than the blocks hold
pub is_full : (n total : ℕ) (k : Held ServerState Event ghosts) (e : Short) → FillsFor n total k → WasShort n k.value e × HoldFewer k.ranges.blocks total → IsFull (holder k).number n k.value e
is_full n total k (short.Overtaken by) f was = tt
is_full n total k (short.NoRoom need largest) f was =
    record { tile = was.0.1; blocks = k.ranges.blocks; listed = f.listed; start = f.start; all = f.all; answered = f.answered; longer = omega (arith, was.1, f.long) }

-- no block was found
pub widens_short : (serial total : ℕ) (v w : View ServerState Event) (k m : ServerState) (bs : List Block) (e : Short) (taken : ServerState) (before after : Ranged) → TookOnce taken v w → GrowsShort v.number serial taken before k after e → before.blocks ≡ v.blocks → after.blocks ≡ bs
    → HoldFewer v.blocks total → IsSomewhereSound k → listed_for v.number (tasks_of k) ≡ own v.number (task.Fill serial) bs → StartsWith bs v.blocks → WasShort serial k e × HoldFewer bs total
    → EndsShort serial k.journal.events m.journal.events e → w.seen ≡ m.journal.events → HasEnded serial w → Widens serial total v w (step_of e)
widens_short serial total v w k m bs (short.Overtaken by) taken before after once grown begun ended_with fewer sound listed longer was ends seen ended = (fewer, ended, subst (λ j. IsOvertaken j serial by) (sym (seen ∙ ends)) was.0.1)
widens_short serial total v w k m bs (short.NoRoom need largest) taken before after once grown begun ended_with fewer sound listed longer was ends seen ended =
    (ended, record { taken = taken; once = once; before = before; after = after; ranged = (begun, ended_with); server = k; grown = grown; sound = sound; events = seen ∙ ends; blocks = bs; listed = listed; longer = longer; fewer = was.1; lacks = was.0.1 })
