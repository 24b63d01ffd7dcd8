-- What a seat knows after it gave the turn back.
use Rattle.std.proofs.Common.{◌≡◌, ℕ, ◌≤◌, eq-eqb, false, cond, List, [], ◌∷◌, ◌++◌, length, take, map, refl, sym, ap, subst, ◌∙◌, arith, append_assoc, append-nil, length-take}
use Rattle.std.specs.Prelude.{◌==◌, slice_index}
use Rattle.std.specs.List.{list_any}
use Rattle.std.proofs.lemmas.List.{map-append, take-append-le}
use Rattle.std.proofs.lemmas.List.Elements.{filter-append}
use Rattle.qc_model.specs.declared.events.Event.{Event}
use Rattle.qc_tiles.specs.declared.blocks.Block.{Block}
use Rattle.qc_turn.specs.Blocks.{places, spelled}
use Rattle.qc_turn.specs.Bytes.{low_bytes, bytes_of}
use Rattle.qc_turn.specs.Releases.{SpellsReleased}
use Rattle.qc_turn.specs.Rules.{ContentRule}
use Rattle.qc_turn.specs.Steps.{Taken}
use Rattle.qc_turn.specs.Tasks.{listed_for, own, task_in, blocks_in, released_task, released_blocks}
use Rattle.qc_turn.specs.Views.{of_seat, bytes_on, content_of, with_word_set, after_release}
use Rattle.qc_turn.specs.declared.task.Task.{Task}
use Rattle.qc_turn.specs.declared.task.Task.TheVariants as task
use Rattle.qc_turn.specs.declared.view.Holding.TheVariants.{Free}
use Rattle.qc_turn.specs.declared.view.View.{View}
use Rattle.qc_turn.proofs.Tasks.{starts_trans}
use Rattle.qc_sound.specs.Sound.{FitsFill}
use Rattle.qc_sound.proofs.Counts.{places_append}
use Rattle.qc_core.specs.Whole.{tasks_of}
use Rattle.qc_core.specs.contracts.server.ServerKept.TheImpl.{ghosts}
use Rattle.qc_core.specs.declared.server_state.ServerState.{ServerState}
use Rattle.qc_flow.specs.Growths.{Onward, settled}
use Rattle.qc_flow.specs.Seats.{GoesOn, IsAtRest}

-- ---- what stays

module _ (v : View ServerState Event) (b : ServerState) (ws : List ℕ) (taken : Taken ghosts v b ws) (free : v.holding ≡ Free) (unset : v.word_set ≡ false) where
  on : (turns : List ServerState) (x : ServerState) (us : List ℕ) → Onward b x → GoesOn v (after_release ghosts (with_word_set (record v { turns = turns }) false) x us)
  on turns x us o =
      let events : of_seat ghosts v.number x.journal.events ≡ v.events =
      ap (of_seat ghosts v.number) o.events
      ∙ (filter-append _ b.journal.events o.later ∙ (ap (λ l. of_seat ghosts v.number b.journal.events ++ l) (o.quiet v.number) ∙ (append-nil (of_seat ghosts v.number b.journal.events) ∙ sym taken.events))) in
      let connected : list_any (λ m. m == v.number) x.connected.items ≡ v.connected = ap (λ c. list_any (λ m. m == v.number) c.items) o.connected ∙ sym taken.connected in
      let new = after_release ghosts (with_word_set (record v { turns = turns }) false) x us in
      record {
        seen = starts_trans x.journal.events b.journal.events v.seen (o.later, o.events) taken.seen;
        same = λ i. record v { seen = new.seen; events = events i; connected = connected i; task = new.task; blocks = new.blocks; content = new.content; holding = sym free i; word_set = sym unset i; found = sym taken.none_found i; turns = turns };
        told = λ h. refl;
      }

  pub released_on : (w : View ServerState Event) (x : ServerState) (us : List ℕ) → settled w ≡ settled v → Onward b x → GoesOn v (after_release ghosts (with_word_set w false) x us)
  released_on w x us same o = subst (λ (u : View ServerState Event). GoesOn v (after_release ghosts (with_word_set (record u { turns = w.turns }) false) x us)) (sym same) (on w.turns x us o)

-- ---- the seat rests

pub released_rests : (w : View ServerState Event) (x : ServerState) (us : List ℕ) → listed_for w.number (tasks_of x) ≡ [] → IsAtRest (after_release ghosts (with_word_set w false) x us)
released_rests w x us none = record {
  task = ap (λ ts. released_task false (task_in ts)) none;
  blocks = ap (λ ts. released_blocks (released_task false (task_in ts)) (blocks_in ts)) none;
  content = ap (λ ts. content_of ghosts us w.task w.content (released_task false (task_in ts)) (released_blocks (released_task false (task_in ts)) (blocks_in ts))) none;
}

-- ---- the fill goes on

bytes_same : (t : Task) (serial : ℕ) (bytes : List ℕ) → t ≡ task.Fill serial → bytes_on ghosts t serial bytes ≡ bytes
bytes_same t serial bytes h = ap (λ u. bytes_on ghosts u serial bytes) h ∙ ap (λ b. cond b bytes []) (eq-eqb serial serial refl)

pub record Fills (serial : ℕ) (bs : List Block) (bytes : List ℕ) (v : View ServerState Event) : Type 0 where
  pub task : v.task ≡ task.Fill serial
  pub blocks : v.blocks ≡ bs
  pub content : v.content ≡ bytes

module _ (w : View ServerState Event) (x : ServerState) (us : List ℕ) (serial : ℕ) (bs : List Block) (one : listed_for w.number (tasks_of x) ≡ own w.number (task.Fill serial) bs) (filled : w.task ≡ task.Fill serial) where
  pub released_fills : Fills serial bs w.content (after_release ghosts (with_word_set w false) x us)
  released_fills = record {
    task = ap (λ ts. released_task false (task_in ts)) one;
    blocks = ap (λ ts. released_blocks (released_task false (task_in ts)) (blocks_in ts)) one;
    content = ap (λ ts. content_of ghosts us w.task w.content (released_task false (task_in ts)) (released_blocks (released_task false (task_in ts)) (blocks_in ts))) one ∙ bytes_same w.task serial w.content filled;
  }

  pub fill_spells : w.content ≡ take (length w.content) (bytes_of (spelled us bs)) → FitsFill x.journal.events serial w.content → SpellsReleased ghosts (with_word_set w false) x us
  fill_spells front fits =
      let now = bytes_same w.task serial w.content filled in
      let rule : ContentRule ghosts x us (task.Fill serial) bs (bytes_on ghosts w.task serial w.content) = subst (λ l. (l ≡ take (length l) (bytes_of (spelled us bs))) × FitsFill x.journal.events serial l) (sym now) (front, fits) in
      subst (λ ts. ContentRule ghosts x us (released_task false (task_in ts)) (released_blocks (released_task false (task_in ts)) (blocks_in ts)) (content_of ghosts us w.task w.content (released_task false (task_in ts)) (released_blocks (released_task false (task_in ts)) (blocks_in ts)))) (sym one) rule

-- the bytes of a fill stand in the blocks that came behind, too
bytes_join : (xs ys : List ℕ) → bytes_of (xs ++ ys) ≡ bytes_of xs ++ bytes_of ys
bytes_join [] ys = refl
bytes_join (x ∷ xs) ys = ap (λ l. low_bytes 8 x ++ l) (bytes_join xs ys) ∙ sym (append_assoc (low_bytes 8 x) (bytes_of xs) (bytes_of ys))

pub longer_front : (us content : List ℕ) (bs more : List Block) → content ≡ take (length content) (bytes_of (spelled us bs)) → content ≡ take (length content) (bytes_of (spelled us (bs ++ more)))
longer_front us content bs more h =
    let look = λ (i : ℕ). slice_index us i in
    let cut = length-take (length content) (bytes_of (spelled us bs)) in
    let same = ap (λ (l : List ℕ). length l) h in
    let few : length content ≤ length (bytes_of (spelled us bs)) = omega (arith, cut, same) in
    let split : bytes_of (spelled us (bs ++ more)) ≡ bytes_of (spelled us bs) ++ bytes_of (spelled us more) = ap (λ l. bytes_of (map look l)) (places_append bs more) ∙ (ap bytes_of (map-append look (places bs) (places more)) ∙ bytes_join (spelled us bs) (spelled us more)) in
    h ∙ sym (ap (take (length content)) split ∙ take-append-le (length content) (bytes_of (spelled us bs)) (bytes_of (spelled us more)) few)
