-- The fill of an entry begins and goes on from packet to packet, and its entry answers what it stored.
use Rattle.std.proofs.Common.{◌≡◌, ℕ, ◌*◌, ◌/◌, ◌%◌, ◌≤◌, false, List, [], ◌∷◌, ◌++◌, length, drop, refl, sym, ap, subst, ◌∙◌, arith, append_assoc, append-nil}
use Rattle.std.specs.Prelude.{Some, option_map, slice_index}
use Rattle.std.specs.List.{concat}
use Rattle.std.proofs.lemmas.List.Folds.{concat-append}
use Rattle.qc_model.specs.declared.events.Event.{Event}
use Rattle.qc_chain.specs.Chains.{Ranged}
use Rattle.qc_turn.specs.Bytes.{low_bytes}
use Rattle.qc_turn.specs.Seats.{holder, words, view}
use Rattle.qc_turn.specs.Tasks.{task_in, blocks_in, released_task, released_blocks}
use Rattle.qc_turn.specs.Views.{bytes_on, content_of, with_word_set, after_release}
use Rattle.qc_turn.specs.declared.view.View.{View}
use Rattle.qc_core.specs.contracts.server.ServerKept.TheImpl.{ghosts}
use Rattle.qc_core.specs.declared.server_state.ServerState.{ServerState}
use Rattle.qc_flow.specs.Begins.{FillsBegin, PacketsFollow, FillsAnswer}
use Rattle.qc_flow.proofs.Licences.{started_in}
use Rattle.qc_flow.proofs.Packets.{answer_now}

pub fills_begin : FillsBegin
fills_begin h f s b =
    let w = with_word_set (holder h) false in
    let us = words h in
    let none : (after_release ghosts w h.value us).content ≡ [] = ap (λ ts. content_of ghosts us w.task w.content (released_task false (task_in ts)) (released_blocks (released_task false (task_in ts)) (blocks_in ts))) b.listed ∙ ap (λ t. bytes_on ghosts t f.serial w.content) b.rested in
    let content : (view s).content ≡ [] = ap (λ (v : View ServerState Event). v.content) b.view ∙ none in
    let fixed : (view s).fixed ≡ ghosts.fixed h.value = ap (λ (v : View ServerState Event). v.fixed) b.view ∙ b.fixed in
    let empty = b.empty in (
      record {
        task = ap (λ (v : View ServerState Event). v.task) b.view ∙ ap (λ ts. released_task false (task_in ts)) b.listed;
        bytes = b.empty ∙ ap (λ (l : List ℕ). length l) (sym content);
        last = (λ i. low_bytes (b.empty i % 8) f.last) ∙ sym (λ i. drop (8 * (b.empty i / 8)) (content i));
        stored = omega (arith, empty);
        limit = b.limit ∙ ap (λ (l : List ℕ). slice_index l 1) (sym fixed);
        within = omega (arith, empty);
        room = subst (λ (p : List ℕ × Ranged). slice_index p.0 0 ≤ 512 * p.1.room) (λ i. (sym fixed i, sym b.ranges i)) b.room;
      },
      content,
    )

pub packets_follow : PacketsFollow
packets_follow serial packet old new now goes content =
    let start = started_in new.seen old.seen serial goes.seen now.start in
    let stored : new.content ≡ concat now.earlier ++ packet = content ∙ ap (λ l. l ++ packet) now.stored in
    record {
      last = λ none. record {
        start = start;
        answered = ap (option_map concat) now.packets ∙ ap Some ((λ i. concat (now.earlier ++ packet ∷ none i)) ∙ (concat-append now.earlier (packet ∷ []) ∙ (ap (λ l. concat now.earlier ++ l) (append-nil packet) ∙ sym stored)));
      };
      more = λ p ps split. (
        record {
          start = start;
          earlier = now.earlier ++ packet ∷ [];
          later = ps;
          packets = now.packets ∙ ap Some ((λ i. now.earlier ++ packet ∷ split i) ∙ sym (append_assoc now.earlier (packet ∷ []) (p ∷ ps)));
          stored = stored ∙ sym (concat-append now.earlier (packet ∷ []) ∙ ap (λ l. concat now.earlier ++ l) (append-nil packet));
        },
        refl,
      );
    }

pub fills_answer : FillsAnswer
fills_answer serial v s e whole sound begins there =
    let j = s.journal.events in
    answer_now s.options j serial (started_in j v.seen serial begins whole.start) v.content e sound.1.1.sound.journal.lawful whole.answered there
