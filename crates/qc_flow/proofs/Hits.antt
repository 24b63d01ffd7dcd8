-- What a hit has in hand.
use Rattle.std.proofs.Common.{◌≡◌, ℕ, eqb, eq-eqb, eqb-true, Bool, true, false, cond, List, [], ◌∷◌, ◌++◌, length, map, take, refl, sym, ap, subst, ◌∙◌, arith, true≢false}
use Rattle.std.specs.Prelude.{not, ◌&&◌, ◌||◌, ◌==◌, Option, Some, None, find, option_map, slice_index}
use Rattle.std.specs.List.{list_any}
use Rattle.std.proofs.lemmas.List.{length-map}
use Rattle.std.proofs.lemmas.Option.{none-some, same_Some}
use Rattle.std.proofs.lemmas.Slice.Eq.{bytes_eq-Decides}
use Rattle.qc_key.specs.Hash.{hash}
use Rattle.qc_model.specs.declared.events.Event.{Event}
use Rattle.qc_model.specs.declared.events.Event.TheVariants as event
use Rattle.qc_model.specs.declared.events.How.TheVariants as how
use Rattle.qc_model.specs.declared.events.Who.{Who}
use Rattle.qc_model.specs.Cache.{cache, entry_of, is_entry, without, used, moved}
use Rattle.qc_model.specs.Cache.{Entry as Cached}
use Rattle.qc_model.specs.Choice.{answering, has_key, is_visible}
use Rattle.qc_model.specs.Journal.{Journal, present}
use Rattle.qc_model.specs.Session.{State, answer}
use Rattle.qc_laws.specs.history.Runs.{are_distinct, serials}
use Rattle.qc_laws.proofs.history.Events.{cache_push}
use Rattle.qc_laws.proofs.history.Serials.{serials_apart, both_true}
use Rattle.qc_chain.specs.Chains.{chain_at}
use Rattle.qc_dir.specs.declared.entries.Entry.{Entry}
use Rattle.qc_dir.specs.Directory.{entry_at, has_serial}
use Rattle.qc_turn.specs.Blocks.{places, spelled}
use Rattle.qc_turn.specs.Bytes.{bytes_of}
use Rattle.qc_turn.specs.Seats.{Held, holder, words}
use Rattle.qc_turn.specs.Tasks.{listed_for, own, task_in, blocks_in, released_task, released_blocks}
use Rattle.qc_turn.specs.Views.{content_of, with_word_set, after_release}
use Rattle.qc_turn.specs.declared.task.Task.TheVariants as task
use Rattle.qc_turn.proofs.Tasks.{length_words}
use Rattle.qc_sound.specs.Moment.{at_rest}
use Rattle.qc_sound.specs.PlainServer.{blocks_at}
use Rattle.qc_sound.specs.parts.Contents.{text_of}
use Rattle.qc_core.specs.declared.server_state.ServerState.{ServerState}
use Rattle.qc_core.specs.contracts.server.ServerKept.TheImpl.{ghosts}
use Rattle.qc_core.specs.HitStream.{entry_chain, hit_entry, used_by}
use Rattle.qc_core.specs.KeptLaws.{blocks_named}
use Rattle.qc_core.specs.Whole.{Named, IsNamedAs, chain_blocks, chain_bytes, chain_in, tasks_of, with_event}
use Rattle.qc_core.proofs.Seeking.{pair_of}
use Rattle.qc_core.proofs.Uses.{find_all}
use Rattle.qc_flow.proofs.Removals.{find_last}
use Rattle.qc_flow.specs.Hits.{HasHit, Looked, HitsAnswer, StreamsBegin}

-- ---- the entry in the cache

any_found : (p : Cached → Bool) (es : List Cached) (y : Cached) → find p es ≡ Some y → list_any (λ m. m == y.serial) (serials es) ≡ true
any_found p [] y h = absurd (none-some y h)
any_found p (x ∷ es) y h = elim (p x) as (λ b. cond b (Some x) (find p es) ≡ Some y → (x.serial == y.serial || list_any (λ m. m == y.serial) (serials es)) ≡ true) [
  | true ↦ λ f. ap (λ b. b || list_any (λ m. m == y.serial) (serials es)) (eq-eqb x.serial y.serial (ap (λ (z : Cached). z.serial) (same_Some x y f)))
  | false ↦ λ f. or_last (x.serial == y.serial) _ (any_found p es y f)
] h
  where
    or_last : (a b : Bool) → b ≡ true → (a || b) ≡ true
    or_last true b k = refl
    or_last false b k = k

-- what a test finds is found by its serial too
found_serial : (p : Cached → Bool) (es : List Cached) (y : Cached) → are_distinct (serials es) ≡ true → find p es ≡ Some y → (entry_of y.serial es ≡ Some y) × (p y ≡ true)
found_serial p [] y d h = absurd (none-some y h)
found_serial p (x ∷ es) y d h =
    let parts = both_true (not (list_any (λ m. m == x.serial) (serials es))) (are_distinct (serials es)) d in
    elim (p x) as (λ b. p x ≡ b → cond b (Some x) (find p es) ≡ Some y → (entry_of y.serial (x ∷ es) ≡ Some y) × (p y ≡ true)) [
      | true ↦ λ e f. subst (λ (z : Cached). (entry_of z.serial (x ∷ es) ≡ Some z) × (p z ≡ true)) (same_Some x y f) (ap (λ b. cond b (Some x) (entry_of x.serial es)) (eq-eqb x.serial x.serial refl), e)
      | false ↦ λ e f.
          let t = found_serial p es y parts.1 f in (
            elim (eqb x.serial y.serial) as (λ b. eqb x.serial y.serial ≡ b → cond b (Some x) (entry_of y.serial es) ≡ Some y) [
              | true ↦ λ q. absurd (true≢false (sym (sym (ap not (subst (λ i. list_any (λ m. m == i) (serials es) ≡ true) (sym (eqb-true x.serial y.serial q)) (any_found p es y f))) ∙ parts.0)))
              | false ↦ λ q. t.0
            ] refl,
            t.1,
          )
    ] refl h

-- an entry that was used is there as it was
none_left : (n : ℕ) (es : List Cached) → list_any (is_entry n) (without n es) ≡ false
none_left n [] = refl
none_left n (x ∷ es) = elim (is_entry n x) as (λ b. is_entry n x ≡ b → list_any (is_entry n) (cond (not b) (x ∷ without n es) (without n es)) ≡ false) [
  | true ↦ λ e. none_left n es
  | false ↦ λ e. ap (λ b. b || list_any (is_entry n) (without n es)) e ∙ none_left n es
] refl

used_there : (n : ℕ) (es : List Cached) (y : Cached) → entry_of n es ≡ Some y → y.serial ≡ n → entry_of n (used n es) ≡ Some y
used_there n es y h serial =
    ap (λ o. entry_of n (moved (λ e. e) o es)) h
    ∙ (ap (λ k. entry_of n (without k es ++ y ∷ [])) serial ∙ find_last (is_entry n) (without n es) y (none_left n es) (eq-eqb y.serial n serial))

-- ---- the hit

from_map : (o : Option Cached) (n : ℕ) → option_map (λ (y : Cached). y.serial) o ≡ Some n → (y : Cached) × (o ≡ Some y) × (y.serial ≡ n)
from_map None n h = absurd (none-some n h)
from_map (Some y) n h = (y, refl, same_Some y.serial n h)

module _ (g h : Held ServerState Event ghosts) (who : Who) (serial : ℕ) (key : List ℕ) (state : State) (l : Looked g h who serial key state) where
  abbrev s : ServerState
  s = g.value

  abbrev t : ServerState
  t = h.value

  abbrev J : Journal
  J = s.journal.events

  abbrev ev : Event
  ev = event.Run who (how.Hit serial)

  abbrev was : (y : Cached) × (answering state J key ≡ Some y) × (y.serial ≡ serial)
  was = from_map (answering state J key) serial l.found

  lawful : are_distinct (serials (cache J)) ≡ true
  lawful = serials_apart s.options J l.stood.sound.1.sound.journal.lawful

  abbrev found : (entry_of was.0.serial (cache J) ≡ Some was.0) × ((was.0.complete && has_key key was.0 && is_visible state J was.0) ≡ true)
  found = found_serial _ (cache J) was.0 lawful was.1

  of_serial : entry_of serial (cache J) ≡ Some was.0
  of_serial = subst (λ n. entry_of n (cache J) ≡ Some was.0) was.2 found.0

  whole : was.0.complete ≡ true
  whole = (both_true was.0.complete (has_key key was.0) (both_true (was.0.complete && has_key key was.0) (is_visible state J was.0) found.1).0).0

  key_is : was.0.key ≡ key
  key_is = (bytes_eq-Decides was.0.key key).0 (both_true was.0.complete (has_key key was.0) (both_true (was.0.complete && has_key key was.0) (is_visible state J was.0) found.1).0).1

  abbrev old_pair : Entry × Unit {0}
  old_pair = ((pair_of (at_rest hash) (words g) l.stood.sound.0 s serial was.0 l.stood.sound.1 of_serial).0.entry, tt)

  server : t ≡ with_event ev (used_by (holder g).number serial old_pair.0 (record { blocks = chain_blocks (chain_at old_pair.0.chain.number s.chains); bytes = 0 }) s)
  server = l.server ∙ ap (λ o. hit_entry who serial (holder g).number o s) (pair_of (at_rest hash) (words g) l.stood.sound.0 s serial was.0 l.stood.sound.1 of_serial).0.there

  events : t.journal.events ≡ J ++ ev ∷ []
  events = ap (λ (x : ServerState). x.journal.events) server

  now_there : entry_of serial (cache t.journal.events) ≡ Some was.0
  now_there = ap (λ j. entry_of serial (cache j)) events ∙ (ap (entry_of serial) (cache_push J ev) ∙ used_there serial (cache J) was.0 of_serial was.2)

  abbrev names : List Named
  names = l.stands.sound.0

  abbrev entry : Entry
  entry = (pair_of (at_rest hash) (words h) names t serial was.0 l.stands.sound.1 now_there).0.entry

  there : entry_at serial t.dir.entries ≡ Some entry
  there = (pair_of (at_rest hash) (words h) names t serial was.0 l.stands.sound.1 now_there).0.there

  chain_is : chain_at entry.chain.number t.chains ≡ Some (record { blocks = h.ranges.blocks; bytes = h.ranges.bytes })
  chain_is = sym (ap (entry_chain t.chains) there) ∙ l.chain

  named : IsNamedAs names entry.serial entry.chain.number
  named = find_all (λ e. IsNamedAs names e.serial e.chain.number) (has_serial serial) t.dir.entries entry l.stands.sound.1.named.entries there

  answered : answer key (present t.journal.events) ≡ Some (text_of (words h) h.ranges.blocks h.ranges.bytes)
  answered =
      let q = (pair_of (at_rest hash) (words h) names t serial was.0 l.stands.sound.1 now_there).0 in
      let blocks : blocks_at entry.serial (map (chain_in t.chains) names) ≡ h.ranges.blocks = blocks_named t.chains names entry.serial _ named ∙ ap chain_blocks chain_is in
      let bytes : chain_bytes (chain_at entry.chain.number t.chains) ≡ h.ranges.bytes = ap chain_bytes chain_is in
      ap (λ k. answer k (present t.journal.events)) (sym key_is) ∙ (q.spelled.kept_answer (q.is.complete ∙ whole) ∙ (λ i. Some (text_of (words h) (blocks i) (bytes i))))

  pub has_hit : HasHit h serial key
  has_hit = record {
    listed = subst (λ k. listed_for k (tasks_of t) ≡ own k (task.Stream serial) h.ranges.blocks) (sym l.number) l.listed;
    within = l.within;
    answered = answered;
  }

pub hits_answer : HitsAnswer
hits_answer g h who serial key state l = has_hit g h who serial key state l

pub streams_begin : StreamsBegin
streams_begin h out key hit bytes =
    let v = with_word_set (holder h) true in
    let us = words h in
    let bs = h.ranges.blocks in
    let one = hit.listed in
    let blocks : (after_release ghosts v h.value us).blocks ≡ bs = ap (λ ts. released_blocks (released_task true (task_in ts)) (blocks_in ts)) one in
    let content : (after_release ghosts v h.value us).content ≡ spelled us bs = ap (λ ts. content_of ghosts us v.task v.content (released_task true (task_in ts)) (released_blocks (released_task true (task_in ts)) (blocks_in ts))) one in
    let long : length (spelled us bs) ≡ length (places bs) = length-map (places bs) (λ i. slice_index us i) in
    let all = length_words bs in
    let size = ap (λ (l : List ℕ). length l) content in
    let within = hit.within in
    record {
      streams = record {
        task = ap (λ ts. released_task true (task_in ts)) one;
        words = size ∙ (long ∙ ap (λ l. length (places l)) (sym blocks));
        within = omega (arith, within, bytes, size, long, all);
      };
      answered = hit.answered ∙ (λ i. Some (take (sym bytes i) (bytes_of (sym content i))));
    }
