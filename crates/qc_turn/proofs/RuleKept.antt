-- Each step keeps the rule of the turn.
use Rattle.std.proofs.Common.{◌≡◌, ◌≢◌, ◌⊎◌, ℕ, zero, suc, ◌+◌, ◌-◌, ◌*◌, ◌<◌, ◌≤◌, eqb, eq-eqb, ne_eqb, Bool, true, false, not, Option, Some, None, List, [], ◌∷◌, ◌++◌, length, get_or, set, refl, sym, ap, ◌∙◌, subst, inl, inr, ⊎_elim, arith, true≢false, take, drop, length-drop, get_or-drop, replicate, append-nil, length-append, length-set, get_or-set_same, get_or-set_other, map}
use mathlib.Core.Logic.{dite}
use mathlib.Core.Option.{some, none, some-injective, some-ne-none}
use native.Mathlib.Decide.{ℕ_discrete}
use lib.ListN.{get_elem?}
use lib.Seq.{set-get_or}
use prog.Atomic.{either}
use Rattle.std.proofs.Math.ListN.{length-replicate}
use Rattle.atomic_table.specs.Table.{State, Me, Act, step, keeps, takes, gives, stepped, carried_after, Valid, Allows, Splits, Joins, opening}
use Rattle.atomic_table.specs.declared.shared.Seat.{Seat}
use Rattle.atomic_table.proofs.Lists.{at_set, at_snoc, at_longer, at_last, set_here, set_else, set_again}
use Rattle.qc_turn.specs.declared.kept.Kept.{Ghosts}
use Rattle.qc_turn.specs.declared.view.View.{View}
use Rattle.qc_turn.specs.declared.view.FoundWord.{FoundWord}
use Rattle.qc_turn.specs.declared.view.MetSeat.{MetSeat}
use Rattle.qc_tiles.specs.declared.blocks.Block.{Block}
use Rattle.qc_turn.specs.declared.view.Holding.{Holding}
use Rattle.qc_turn.specs.declared.view.Holding.TheVariants.{Free, Holds}
use Rattle.qc_turn.specs.declared.task.Task.{Task}
use Rattle.qc_turn.specs.declared.task.Task.TheVariants.{Rest, Stream, Fill}
use Rattle.qc_turn.specs.Blocks.{IsDistinct, places, spelled, Misses}
use Rattle.qc_turn.specs.Bytes.{bytes_of, filled}
use Rattle.qc_turn.specs.Releases.{HeldFreeOfOthers, IsFresh, ClosesWith, SpellsReleased, ListsReleased, Follows}
use Rattle.qc_turn.specs.Rules.{HoldingRule, ContentRule, TaskRule, SeatRule, TurnRule}
use Rattle.qc_turn.specs.Steps.{Taken, TookTurn, LoadedWord, GetsTurn, takes_turn, tries_turn, releases_turn, loads_word, loads_streamed, stores_filled, sets_task_word, clears_task_word, reads_task_word, stores_word}
use Rattle.qc_turn.specs.Tasks.{is_stream, IsListed, IsEnded, FoundIdle, released_task, released_blocks, OutsideOtherFills, Agrees, fill_places, places_of, listed_for, own, task_in, blocks_in, HasBlocks}
use Rattle.qc_turn.specs.Views.{base_of, words_of, HoldsTurn, written, Apart, AllMet, first_seat, with_holding, with_turn, with_refusal, spent, after_split, next_seat, after_meet, met_seat, of_seat, content_of, after_release, with_content, with_word_set, with_found, found_word, idle_of, after_stream, IsSoundJournal}
use Rattle.qc_turn.specs.Words.{task_words_of, bit, StartsWith, line_words, extra_words, region_word, line_of, task_word, region, last_seat}
use Rattle.qc_turn.proofs.Tasks.{starts_refl, starts_trans, longer_of, longer_one, region_at, region_set, region_set0, length-region, misses_front, spelled_missed, missed, is_in, spelled_agree, filled_front, region_high, zero_set, zero_stays, task_words_low, task_words_set, task_words_at, listed_live, keeps_fills, keeps_none, keeps_listed, ended_rests}

module _ {V E : Type 0} where
  -- the seats stay apart where one keeps its number, or is spent
  pub apart_set : (views : List (View V E)) (id : ℕ) (u w : View V E) → get_elem? views id ≡ some u → (w.number ≢ 0 → w.number ≡ u.number) → Apart views → Apart (set views id w)
  apart_set views id u w at same apart i j v x p q e live =
      ⊎_elim
      (λ (a : (i ≡ id) × (w ≡ v)). ⊎_elim
      (λ (b : (j ≡ id) × (w ≡ x)). a.0 ∙ sym b.0)
      (λ (b : (j ≢ id) × (get_elem? views j ≡ some x)).
      let nw : w.number ≡ v.number = ap (λ (y : View V E). y.number) a.1 in
      let nu : w.number ≡ u.number = same (λ z. live (sym nw ∙ z)) in
      a.0 ∙ apart id j u x at b.1 (sym nu ∙ (nw ∙ e)) (λ z. live (sym nw ∙ (nu ∙ z))))
      (at_set views id j w x q))
      (λ (a : (i ≢ id) × (get_elem? views i ≡ some v)). ⊎_elim
      (λ (b : (j ≡ id) × (w ≡ x)).
      let nw : w.number ≡ x.number = ap (λ (y : View V E). y.number) b.1 in
      let nu : w.number ≡ u.number = same (λ z. live (e ∙ (sym nw ∙ z))) in
      apart i id v u a.1 at (e ∙ (sym nw ∙ nu)) live ∙ sym b.0)
      (λ (b : (j ≢ id) × (get_elem? views j ≡ some x)). apart i j v x a.1 b.1 e live)
      (at_set views id j w x q))
      (at_set views id i w v p)

  each_set : (P : View V E → Type 0) (views : List (View V E)) (id : ℕ) (w : View V E) → (w.number ≢ 0 → P w) → ((j : ℕ) (v : View V E) → j ≢ id → get_elem? views j ≡ some v → v.number ≢ 0 → P v)
      → (j : ℕ) (v : View V E) → get_elem? (set views id w) j ≡ some v → v.number ≢ 0 → P v
  each_set P views id w mine others j v e live = ⊎_elim
      (λ (t : (j ≡ id) × (w ≡ v)). subst P t.1 (mine (λ z. live (ap (λ (y : View V E). y.number) (sym t.1) ∙ z))))
      (λ (t : (j ≢ id) × (get_elem? views j ≡ some v)). others j v t.0 t.1 live)
      (at_set views id j w v e)

pub there : {A : Type 0} (l : List A) (i : ℕ) (a : A) → get_elem? l i ≡ some a → i < length l
there [] i a e = absurd (some-ne-none a (sym e))
there (x ∷ xs) zero a e = omega arith
there (x ∷ xs) (suc i) a e = let h = there xs i a e in omega arith

-- at_snoc, with the place
pub at_end : {A : Type 0} (l : List A) (a b : A) (j : ℕ) → get_elem? (l ++ a ∷ []) j ≡ some b → (get_elem? l j ≡ some b) ⊎ ((j ≡ length l) × (a ≡ b))
at_end [] a b zero e = inr (refl, some-injective a b e)
at_end [] a b (suc j) e = absurd (some-ne-none b (sym e))
at_end (x ∷ xs) a b zero e = inl e
at_end (x ∷ xs) a b (suc j) e = ⊎_elim inl (λ t. inr (ap suc t.0, t.1)) (at_end xs a b j e)

single : {A : Type 0} (a : A) (i j : ℕ) (v w : A) → get_elem? (a ∷ []) i ≡ some v → get_elem? (a ∷ []) j ≡ some w → i ≡ j
single a zero zero v w p q = refl
single a zero (suc j) v w p q = absurd (some-ne-none w (sym q))
single a (suc i) j v w p q = absurd (some-ne-none v (sym p))

all_of : (n m : ℕ) → take {A = ℕ} n (replicate (n + m) 0) ≡ replicate n 0
all_of zero m = refl
all_of (suc n) m = let e : suc n + m ≡ suc (n + m) = omega arith in ap (λ k. take {A = ℕ} (suc n) (replicate k 0)) e ∙ ap (λ l. 0 ∷ l) (all_of n m)

drop_zeros : (n m : ℕ) → drop {A = ℕ} n (replicate (n + m) 0) ≡ replicate m 0
drop_zeros zero m = let e : 0 + m ≡ m = omega arith in ap (λ k. replicate {A = ℕ} k 0) e
drop_zeros (suc n) m = let e : suc n + m ≡ suc (n + m) = omega arith in ap (λ k. drop {A = ℕ} (suc n) (replicate k 0)) e ∙ drop_zeros n m

region_zeros : (size : ℕ) → region size (replicate (size + extra_words) 0) ≡ replicate size 0
region_zeros size =
    let e : size + extra_words ≡ line_words + (size + 528) = omega arith in
    ap (λ k. region size (replicate k 0)) e ∙ (ap (take size) (drop_zeros line_words (size + 528)) ∙ all_of size 528)

zero_at : (m i : ℕ) → get_or {A = ℕ} (replicate m 0) i 0 ≡ 0
zero_at zero i = refl
zero_at (suc m) zero = refl
zero_at (suc m) (suc i) = zero_at m i

zeros : (n m i : ℕ) → get_or {A = ℕ} (drop n (replicate m 0)) i 0 ≡ 0
zeros n m i = get_or-drop n (replicate m 0) i 0 ∙ zero_at m (n + i)

pub get_or_map0 : (f : ℕ → ℕ) (l : List ℕ) (i : ℕ) → i < length l → get_or (map f l) i 0 ≡ f (get_or l i 0)
get_or_map0 f [] i h = absurd (omega arith)
get_or_map0 f (x ∷ xs) zero h = refl
get_or_map0 f (x ∷ xs) (suc i) h = get_or_map0 f xs i (omega arith)

-- what a value lists for one seat lies within the words
pub within_own : (n size : ℕ) (t : Task) (bs : List Block) (ts : List _) → ts ≡ own n t bs → ((k : ℕ) → k < length (places_of ts) → get_or (places_of ts) k 0 < size)
    → (k : ℕ) → k < length (places (blocks_in ts)) → get_or (places (blocks_in ts)) k 0 < size
within_own n size Rest bs ts e law k h = let e' : length (places (blocks_in ts)) ≡ 0 = ap (λ l. length (places (blocks_in l))) e in absurd (omega arith)
within_own n size (Stream s) bs ts e law k h =
    let same : places_of ts ≡ places (blocks_in ts) = ap places_of e ∙ (append-nil (places bs) ∙ sym (ap (λ l. places (blocks_in l)) e)) in
    subst (λ (l : List ℕ). get_or l k 0 < size) same (law k (subst (λ (l : List ℕ). k < length l) (sym same) h))
within_own n size (Fill s) bs ts e law k h =
    let same : places_of ts ≡ places (blocks_in ts) = ap places_of e ∙ (append-nil (places bs) ∙ sym (ap (λ l. places (blocks_in l)) e)) in
    subst (λ (l : List ℕ). get_or l k 0 < size) same (law k (subst (λ (l : List ℕ). k < length l) (sym same) h))

pub task_own : (n : ℕ) (t : Task) (bs : List Block) (ts : List _) → ts ≡ own n t bs → task_in ts ≡ t
task_own n Rest bs ts e = ap task_in e
task_own n (Stream s) bs ts e = ap task_in e
task_own n (Fill s) bs ts e = ap task_in e

pub in_hand_own : (n : ℕ) (t : Task) (bs : List Block) (ts : List _) (task : Task) (blocks : List Block) → ts ≡ own n t bs → task ≡ task_in ts → blocks ≡ blocks_in ts → HasBlocks task blocks bs
in_hand_own n Rest bs ts task blocks e e' e'' = subst (λ (x : Task). HasBlocks x blocks bs) (sym (e' ∙ ap task_in e)) tt
in_hand_own n (Stream s) bs ts task blocks e e' e'' = subst (λ (x : Task). HasBlocks x blocks bs) (sym (e' ∙ ap task_in e)) (sym (e'' ∙ ap blocks_in e))
in_hand_own n (Fill s) bs ts task blocks e e' e'' = subst (λ (x : Task). HasBlocks x blocks bs) (sym (e' ∙ ap task_in e)) (sym (e'' ∙ ap blocks_in e))

pub none_left : {E : Type 0} (registry : List (Option (MetSeat E))) (k : ℕ) → AllMet registry → get_elem? registry k ≡ some None → ⊥
none_left [] k all e = some-ne-none None (sym e)
none_left (None ∷ registry) k all e = absurd all
none_left (Some es ∷ registry) zero all e = cc
none_left (Some es ∷ registry) (suc k) all e = none_left registry k all e

module _ {V : Type 0} where
  abbrev first_or : Option V → List (ℕ × Option V) → Option V
  first_or d [] = d
  first_or d (x ∷ xs) = x.1

  -- what came out of the slot is what was taken
  pub came_out : (l m n : List (ℕ × Option V)) (x y : Option V) → l ≡ (0, y) ∷ m → l ≡ (0, x) ∷ n → x ≡ y
  came_out l m n x y p q = ap (first_or x) (sym q ∙ p)

module _ {V E : Type 0} (K : Ghosts V E) (size : ℕ) where
  abbrev St : Type 0
  St = State (Option V) (View V E)

  abbrev M : Type 0
  M = Me (Option V) (View V E)

  abbrev Rule : St → Type 0
  Rule = TurnRule K size

  abbrev word : St → ℕ
  word s = get_or s.words 0 0

  abbrev task_words : St → List ℕ
  task_words s = task_words_of size s.words

  holds_free : (b : V) (us : List ℕ) → Holds b us ≡ Free → ⊥
  holds_free b us e = cc

  not_in_none : (k : ℕ) → FoundIdle [] k → ⊥
  not_in_none k h = h tt

  -- what others holding, when the turn word changes
  holding_taken : (word n m : ℕ) (ws : List ℕ) (base : V) (g : Holding V) → word ≡ 0 → m ≢ 0 → m ≢ n → HoldingRule K word ws base m g → HoldingRule K n ws base m g
  holding_taken word n m ws base Free z live other h = λ e. other (sym e)
  holding_taken word n m ws base (Holds b us) z live other h = absurd (live (sym h.0 ∙ z))

  -- where the seat isn't the one of the turn word, it holds nothing
  holding_else : (word word' m : ℕ) (ws ws' : List ℕ) (base base' : V) (g : Holding V) → m ≢ word → word' ≢ m → HoldingRule K word ws base m g → HoldingRule K word' ws' base' m g
  holding_else word word' m ws ws' base base' Free other h' h = h'
  holding_else word word' m ws ws' base base' (Holds b us) other h' h = absurd (other (sym h.0))

  idle_else : (word m : ℕ) (ws : List ℕ) (base : V) (g : Holding V) → m ≢ word → HoldingRule K word ws base m g → g ≡ Free
  idle_else word m ws base Free other h = refl
  idle_else word m ws base (Holds b us) other h = absurd (other (sym h.0))

  bit_zero : (b : Bool) → bit b ≡ 0 → b ≡ false
  bit_zero true e = absurd (omega arith)
  bit_zero false e = refl

  agrees_refl : (n : ℕ) (b : V) (ws : List ℕ) → Agrees n (K.tasks b) ws ws
  agrees_refl n b ws = (refl, λ k out. refl)

  -- a step that changes nothing
  pub unmoved : (s : St) → Rule s → (i id : ℕ) (cs : List (ℕ × Option V)) (v : View V E) → get_elem? s.views id ≡ some v → Rule (stepped s i (get_or s.words i 0) id cs v keeps)
  unmoved s r i id cs v at =
      subst (λ (ws : List ℕ). Rule record { words = ws; homes = s.homes; views = set s.views id v }) (sym (set-get_or s.words i 0))
      (subst (λ (vs : List (View V E)). Rule record { words = s.words; homes = s.homes; views = vs }) (sym (set_again s.views id v at)) r)

  -- the seat's view, where it holding_now nothing: the same with another holding
  with_new_holding : (word word' : ℕ) (ws ws' ms : List ℕ) (base : V) (registry : List (Option (MetSeat E))) (v : View V E) (g : Holding V) (turns : List V) (refusals : List ℕ) → SeatRule K size word ws ms base registry v → HoldingRule K word' ws' base v.number g → TaskRule K base ws' g v.task v.blocks v.content
      → (g ≡ Free → v.word_set ≡ is_stream v.task) → (g ≡ Free → v.found ≡ []) → SeatRule K size word' ws' ms base registry (record v { holding = g; turns = turns; refusals = refusals })
  with_new_holding word word' ws ws' ms base registry v g turns refusals f holding_now spells as_set none_found = record {
    sized = f.sized;
    numbered = f.numbered;
    first = f.first;
    unmet = f.unmet;
    seen = f.seen;
    was_sound = f.was_sound;
    fixed = f.fixed;
    events = f.events;
    connected = f.connected;
    listed = f.listed;
    task_word = f.task_word;
    word_set = as_set;
    goes_on = f.goes_on;
    idle = f.idle;
    none_found = none_found;
    holding = holding_now;
    content = spells;
  }

  -- the same view under other task words
  other_words : (word : ℕ) (ws ms ms' : List ℕ) (base : V) (registry : List (Option (MetSeat E))) (v : View V E) → SeatRule K size word ws ms base registry v → get_or ms' (line_of v.number) 0 ≡ bit v.word_set → ((k : ℕ) → k ≢ v.number → FoundIdle (idle_of v.found) k → (0 < k) × (get_or ms' (line_of k) 0 ≡ 0)) → SeatRule K size word ws ms' base registry v
  other_words word ws ms ms' base registry v f task_word idle = record {
    sized = f.sized;
    numbered = f.numbered;
    first = f.first;
    unmet = f.unmet;
    seen = f.seen;
    was_sound = f.was_sound;
    fixed = f.fixed;
    events = f.events;
    connected = f.connected;
    listed = f.listed;
    task_word = task_word;
    word_set = f.word_set;
    goes_on = f.goes_on;
    idle = idle;
    none_found = f.none_found;
    holding = f.holding;
    content = f.content;
  }

  -- some seat still has the number of the turn word, after one view changed and kept its number
  away_set : (s : St) (r : Rule s) (id : ℕ) (v w : View V E) → get_elem? s.views id ≡ some v → w.number ≡ v.number → word s ≢ 0 → (x : ℕ) → x ≡ word s
      → (get_elem? s.homes 0 ≡ some none) × ((holder : ℕ) × (u : View V E) × (get_elem? (set s.views id w) holder ≡ some u) × (u.number ≡ x))
  away_set s r id v w at same up x is = let a = r.out_of_slot up in let h = a.1 in (
    a.0,
    dite (ℕ_discrete h.0 id)
        (λ e. (id, w, set_here s.views id w (there s.views id v at), same ∙ (ap (λ (y : View V E). y.number) (some-injective _ _ (sym at ∙ (ap (λ (j : ℕ). get_elem? s.views j) (sym e) ∙ h.2))) ∙ (h.3 ∙ sym is))))
        (λ ne. (h.0, h.1, set_else s.views id h.0 w ne ∙ h.2, h.3 ∙ sym is)),
  )

  -- the rule after a step of one seat, the value staying as it was taken
  won : (slots id : ℕ) (me : M) (n : ℕ) → n ≡ me.0.number → 0 < n → me.0.holding ≡ Free → (s : St) → Rule s → get_elem? s.views id ≡ some me.0 → word s ≡ 0
      → (w : View V E) × (a : Act (Option V)) × Valid s.homes me.1 a × Rule (stepped s 0 n id me.1 w a) × GetsTurn K me (w, carried_after me.1 a)
  won slots id me n is live idle s r at free =
      let v : View V E = me.0 in
      let base : V = r.base in
      let ws : List ℕ = region size s.words in
      let in_slot = r.in_slot free in
      let w : View V E = with_turn v base ws in
      let mine : SeatRule K size (word s) ws (task_words s) base r.registry v = r.each id v at (λ z. absurd (omega arith)) in
      let width = r.width in
      let now : get_or (set s.words 0 n) 0 0 ≡ n = get_or-set_same s.words 0 n 0 (omega arith) in
      let here : region size (set s.words 0 n) ≡ ws = region_set0 size s.words n in
      let spells : ContentRule K base ws v.task v.blocks v.content = subst (λ (g : Holding V). TaskRule K base ws g v.task v.blocks v.content) idle mine.content in
      let deep : 0 < length s.homes = there s.homes 0 (some (Some base)) in_slot.0 in
      let ms : List ℕ = task_words s in
      let also : task_words_of size (set s.words 0 n) ≡ ms = task_words_low size 0 n s.words (omega arith) in
      let Q : ℕ → List ℕ → List ℕ → View V E → Type 0 = λ x us ns u. SeatRule K size x us ns base r.registry u in
      let all : (j : ℕ) (u : View V E) → get_elem? (set s.views id w) j ≡ some u → u.number ≢ 0 → Q n ws ms u =
      each_set (Q n ws ms) s.views id w (λ _. with_new_holding (word s) n ws ws ms base r.registry v (Holds base ws) (base ∷ v.turns) v.refusals mine (is, refl, agrees_refl v.number base ws) (ws, in_slot.1, spells) (λ e. absurd (holds_free base ws e)) (λ e. absurd (holds_free base ws e)))
      (λ j u other e alive. let f = r.each j u e alive in
      let apart : u.number ≢ n = λ same. other (r.apart j id u v e at (same ∙ is) alive) in
      with_new_holding (word s) n ws ws ms base r.registry u u.holding u.turns u.refusals f (holding_taken (word s) n u.number ws base u.holding free alive apart f.holding) f.content f.word_set f.none_found) in (
        w,
        takes 0 (Some base),
        in_slot.0,
        record {
          base = base;
          registry = r.registry;
          few = r.few;
          width = length-set s.words 0 n ∙ width;
          in_slot = λ z. absurd (omega arith);
          out_of_slot = λ _. (set_here s.homes 0 none deep, (id, w, set_here s.views id w (there s.views id v at), sym is ∙ sym now));
          was_sound = r.was_sound;
          apart = apart_set s.views id v w at (λ _. refl) r.apart;
          each = subst (λ (t : ℕ × List ℕ × List ℕ). (j : ℕ) (u : View V E) → get_elem? (set s.views id w) j ≡ some u → u.number ≢ 0 → Q t.0 t.1 t.2 u) (λ i. (sym now i, sym here i, sym also i)) all;
          met = λ k es e. let m = r.met k es e in record { events = m.events; seen = m.seen; listed = m.listed; task_word = ap (λ l. get_or l (line_of (k + 2)) 0) also ∙ m.task_word };
          unmade = λ k more. let m = r.unmade k more in record { events = m.events; connected = m.connected; listed = m.listed; task_word = ap (λ l. get_or l (line_of k) 0) also ∙ m.task_word };
          zero_number = r.zero_number;
        },
        (base, ws, record { width = length-region size s.words (omega arith) ∙ sym mine.sized; sound = in_slot.1; seen = mine.seen; fixed = mine.fixed; events = mine.events; connected = mine.connected; listed = mine.listed; word_set = mine.word_set idle; none_found = mine.none_found idle; was_sound = mine.was_sound; content = spells; zero_number = r.zero_number }, refl, refl),
      )

  -- the turn word is 0 or the number of a seat that was made
  small_word : (s : St) (r : Rule s) → word s ≤ length r.registry + 1
  small_word s r = dite (ℕ_discrete (word s) 0)
      (λ z. omega arith)
      (λ up. let out_of_slot = r.out_of_slot up in let h = out_of_slot.1 in let f = r.each h.0 h.1 h.2 (λ z. up (sym h.3 ∙ z)) in let n = f.numbered in let e = h.3 in omega arith)

  -- the rule after a step that changes no word and no value: one seat knows something else
  view_on : (s : St) (r : Rule s) (i id : ℕ) (cs : List (ℕ × Option V)) (v w : View V E) → get_elem? s.views id ≡ some v → w.number ≡ v.number → SeatRule K size (word s) (region size s.words) (task_words s) r.base r.registry w
      → Rule (stepped s i (get_or s.words i 0) id cs w keeps)
  view_on s r i id cs v w at same fits =
      let Q : View V E → Type 0 = λ z. SeatRule K size (word s) (region size s.words) (task_words s) r.base r.registry z in
      subst (λ (l : List ℕ). Rule record { words = l; homes = s.homes; views = set s.views id w }) (sym (set-get_or s.words i 0)) record {
        base = r.base;
        registry = r.registry;
        few = r.few;
        width = r.width;
        in_slot = r.in_slot;
        out_of_slot = λ up. away_set s r id v w at same up (word s) refl;
        was_sound = r.was_sound;
        apart = apart_set s.views id v w at (λ _. same) r.apart;
        each = each_set Q s.views id w (λ _. fits) (λ j z other e alive. r.each j z e alive);
        met = r.met;
        unmade = r.unmade;
        zero_number = r.zero_number;
      }

  pub asks : (slots id : ℕ) (me : M) (n : ℕ) → n ≡ me.0.number → 0 < n → me.0.holding ≡ Free → Allows Rule slots id me 0 (λ x. either (eqb x 0) n x) (takes_turn K (step slots 0 0 n none) me)
  asks slots id me n is live free s r _ at _ = dite (ℕ_discrete (word s) 0)
      (λ hit. let t = won slots id me n is live free s r at hit in
      (t.0, t.1, t.2, subst (λ b. Rule (stepped s 0 (either b n (word s)) id me.1 t.0 t.1)) (sym (eq-eqb (word s) 0 hit)) t.3, ((λ _. t.4), (λ some. absurd (some hit)))))
      (λ miss.
      let mine = r.each id me.0 at (λ z. absurd (omega arith)) in
      let other : word s ≢ me.0.number = subst (λ (g : Holding V). HoldingRule K (word s) (region size s.words) r.base me.0.number g) free mine.holding in
      let small = small_word s r in
      let few = r.few in (
        me.0,
        keeps,
        tt,
        subst (λ b. Rule (stepped s 0 (either b n (word s)) id me.1 me.0 keeps)) (sym (ne_eqb (word s) 0 miss)) (unmoved s r 0 id me.1 me.0 at),
        ((λ hit. absurd (miss hit)), (λ _. (refl, other, omega arith))),
      ))

  pub tries : (slots id : ℕ) (me : M) (n : ℕ) → n ≡ me.0.number → 0 < n → me.0.holding ≡ Free → Allows Rule slots id me 0 (λ x. either (eqb x 0) n x) (tries_turn K (step slots 0 0 n none) me)
  tries slots id me n is live free s r _ at _ = dite (ℕ_discrete (word s) 0)
      (λ hit. let t = won slots id me n is live free s r at hit in
      (t.0, t.1, t.2, subst (λ b. Rule (stepped s 0 (either b n (word s)) id me.1 t.0 t.1)) (sym (eq-eqb (word s) 0 hit)) t.3, ((λ _. t.4), (λ some. absurd (some hit)))))
      (λ miss.
      let v : View V E = me.0 in
      let w : View V E = with_refusal v (word s) in
      let mine : SeatRule K size (word s) (region size s.words) (task_words s) r.base r.registry v = r.each id v at (λ z. absurd (omega arith)) in
      let other : word s ≢ v.number = subst (λ (g : Holding V). HoldingRule K (word s) (region size s.words) r.base v.number g) free mine.holding in
      let keeps_on = with_new_holding (word s) (word s) (region size s.words) (region size s.words) (task_words s) r.base r.registry v v.holding v.turns (word s ∷ v.refusals) mine mine.holding mine.content mine.word_set mine.none_found in
      let small = small_word s r in
      let few = r.few in (
        w,
        keeps,
        tt,
        subst (λ b. Rule (stepped s 0 (either b n (word s)) id me.1 w keeps)) (sym (ne_eqb (word s) 0 miss)) (view_on s r 0 id me.1 v w at refl keeps_on),
        ((λ hit. absurd (miss hit)), (λ _. (refl, other, omega arith))),
      ))

  -- the seat holds the turn: what the turn word, the value as taken and the words are
  holding_is : (word : ℕ) (ws us : List ℕ) (base b : V) (n : ℕ) (g : Holding V) → g ≡ Holds b us → HoldingRule K word ws base n g → (word ≡ n) × (b ≡ base) × Agrees n (K.tasks base) us ws
  holding_is word ws us base b n g e h = subst (λ (x : Holding V). HoldingRule K word ws base n x) e h

  -- the words of the seat's own task are in no other seat's fill
  own_outside : (ws : List ℕ) (x : V) (n k i : ℕ) → K.sound ws x → i < length (places_of (listed_for n (K.tasks x))) → get_or (places_of (listed_for n (K.tasks x))) i 0 ≡ k → OutsideOtherFills n (K.tasks x) k
  own_outside ws x n k i sound inside at m other = missed k (fill_places (listed_for m (K.tasks x)))
      (λ not. is_in (places_of (listed_for n (K.tasks x))) i inside (subst (λ y. Misses y (places_of (listed_for n (K.tasks x)))) (sym at) (K.fills_apart ws x m n k sound other not)))

  outside_on : (n : ℕ) (base x : V) (k : ℕ) → ((m : ℕ) → m ≢ n → fill_places (listed_for m (K.tasks x)) ≡ fill_places (listed_for m (K.tasks base))) → OutsideOtherFills n (K.tasks x) k → OutsideOtherFills n (K.tasks base) k
  outside_on n base x k same out m other = subst (λ l. Misses k l) (same m other) (out m other)

  spots_of_own : (n : ℕ) (t : Task) (bs : List Block) (ts : List _) → ts ≡ own n t bs → (t ≡ Rest → ⊥) → places_of ts ≡ places bs
  spots_of_own n Rest bs ts e live = absurd (live refl)
  spots_of_own n (Stream s) bs ts e live = ap places_of e ∙ append-nil (places bs)
  spots_of_own n (Fill s) bs ts e live = ap places_of e ∙ append-nil (places bs)

  -- what the task of the seat spells over the holder's words, it spells over the words
  spelled_own : (ws us : List ℕ) (base x : V) (n : ℕ) (t : Task) (bs : List Block) → Agrees n (K.tasks base) us ws → K.sound ws x → ((m : ℕ) → m ≢ n → fill_places (listed_for m (K.tasks x)) ≡ fill_places (listed_for m (K.tasks base))) → listed_for n (K.tasks x) ≡ own n t bs → (t ≡ Rest → ⊥)
      → spelled us bs ≡ spelled ws bs
  spelled_own ws us base x n t bs agrees sound same lists live = spelled_agree us ws bs (λ i inside.
      let all = spots_of_own n t bs (listed_for n (K.tasks x)) lists live in
      agrees.1 (get_or (places bs) i 0) (outside_on n base x (get_or (places bs) i 0) same
      (own_outside ws x n (get_or (places bs) i 0) i sound (subst (λ (l : List ℕ). i < length l) (sym all) inside) (ap (λ l. get_or l i 0) all))))

  rest_or : (s : ℕ) → (Stream s ≡ Rest → ⊥) × (Fill s ≡ Rest → ⊥)
  rest_or s = ((λ e. cc), (λ e. cc))

  spells_own : (ws us : List ℕ) (base x : V) (n : ℕ) (t : Task) (bs : List Block) (content : List ℕ) → Agrees n (K.tasks base) us ws → K.sound ws x → ((m : ℕ) → m ≢ n → fill_places (listed_for m (K.tasks x)) ≡ fill_places (listed_for m (K.tasks base))) → IsListed n t bs (listed_for n (K.tasks x))
      → TaskRule K x us Free t bs content → TaskRule K x ws Free t bs content
  spells_own ws us base x n Rest bs content agrees sound same lists h = tt
  spells_own ws us base x n (Stream s) bs content agrees sound same lists h = h ∙ spelled_own ws us base x n (Stream s) bs agrees sound same (listed_live n (Stream s) bs (listed_for n (K.tasks x)) lists (rest_or s).0) (rest_or s).0
  spells_own ws us base x n (Fill s) bs content agrees sound same lists h = (h.0 ∙ ap (λ l. take (length content) (bytes_of l)) (spelled_own ws us base x n (Fill s) bs agrees sound same (listed_live n (Fill s) bs (listed_for n (K.tasks x)) lists (rest_or s).1) (rest_or s).1), h.1)

  -- a value that is sound over the holder's words is so over the words
  sound_on : (ws us : List ℕ) (base x : V) (n : ℕ) → Agrees n (K.tasks base) us ws → K.sound us x → ((m : ℕ) → m ≢ n → fill_places (listed_for m (K.tasks x)) ≡ fill_places (listed_for m (K.tasks base))) → K.sound ws x
  sound_on ws us base x n agrees sound same = K.fills_free us ws x sound (sym agrees.0) (λ k out. sym (agrees.1 k (outside_on n base x k same (λ m other. out m))))

  spells_follow : (base x : V) (over ws us : List ℕ) (g : Holding V) (t : Task) (bs : List Block) (content : List ℕ) → K.sound over base → K.sound us x → StartsWith (K.journal x) (K.journal base) → TaskRule K base ws g t bs content → TaskRule K x ws g t bs content
  spells_follow base x over ws us (Holds b vs) t bs content p q j h = h
  spells_follow base x over ws us Free Rest bs content p q j h = tt
  spells_follow base x over ws us Free (Stream s) bs content p q j h = h
  spells_follow base x over ws us Free (Fill s) bs content p q j h = (h.0, K.fits_on over us base x s content p q j h.1)

  -- the value changes, and what a seat other than n has stays
  followed : (n word : ℕ) (idle ws ms over : List ℕ) (base x : V) (registry : List (Option (MetSeat E))) (u : View V E) → Follows K n idle base x → ((k : ℕ) → k ≢ n → FoundIdle idle k → (0 < k) × (get_or ms (line_of k) 0 ≡ 0)) → K.sound over base → K.sound ws x → u.number ≢ n → word ≡ n → u.number ≢ 0 → SeatRule K size word ws ms base registry u → SeatRule K size 0 ws ms x registry u
  followed n word idle ws ms over base x registry u fol found old_sound new_sound other is live f = record {
    sized = f.sized;
    numbered = f.numbered;
    first = f.first;
    unmet = f.unmet;
    seen = starts_trans (K.journal x) (K.journal base) u.seen fol.journal f.seen;
    was_sound = f.was_sound;
    fixed = f.fixed ∙ sym fol.fixed;
    events = f.events ∙ sym (fol.others u.number other);
    connected = f.connected ∙ sym (fol.connected u.number other);
    listed = keeps_listed idle u.number u.task u.blocks (listed_for u.number (K.tasks base)) (listed_for u.number (K.tasks x)) (fol.tasks u.number other) f.listed
        (λ h. sym (f.word_set (idle_else word u.number ws base u.holding (λ e. other (e ∙ is)) f.holding)) ∙ bit_zero u.word_set (sym f.task_word ∙ (found u.number other h).1));
    task_word = f.task_word;
    word_set = f.word_set;
    goes_on = f.goes_on;
    idle = f.idle;
    none_found = f.none_found;
    holding = holding_else word 0 u.number ws ws base x u.holding (λ e. other (e ∙ is)) (λ e. live (sym e)) f.holding;
    content = spells_follow base x over ws ws u.holding u.task u.blocks u.content old_sound new_sound fol.journal f.content;
  }

  abbrev out_or : V → List (ℕ × Option V) → V
  out_or d [] = d
  out_or d ((k, None) ∷ xs) = d
  out_or d ((k, Some y) ∷ xs) = y

  released : (slots id : ℕ) (v : View V E) (x b : V) (us : List ℕ) (n : ℕ) → n ≡ v.number → 0 < n → v.holding ≡ Holds b us → K.sound us x → Follows K n (idle_of v.found) b x → ListsReleased K v x → SpellsReleased K v x us
      → Allows Rule slots id (v, (0, Some x) ∷ []) 0 (λ _. 0) (λ _. releases_turn K (step slots 0 0 0 none) (v, (0, Some x) ∷ []) 0)
  released slots id v x b us n is live holds stands follows ends_as spells s r _ at _ =
      let base : V = r.base in
      let ws : List ℕ = region size s.words in
      let mine : SeatRule K size (word s) ws (task_words s) base r.registry v = r.each id v at (λ z. absurd (omega arith)) in
      let g = holding_is (word s) ws us base b v.number v.holding holds mine.holding in
      let up : word s ≡ n = g.0 ∙ sym is in
      let idle : List ℕ = idle_of v.found in
      let fol : Follows K n idle base x = subst (λ (y : V). Follows K n idle y x) g.1 follows in
      let same : (m : ℕ) → m ≢ n → fill_places (listed_for m (K.tasks x)) ≡ fill_places (listed_for m (K.tasks base)) = λ m ne. keeps_fills idle m (listed_for m (K.tasks base)) (listed_for m (K.tasks x)) (fol.tasks m ne) in
      let ms : List ℕ = task_words s in
      let also : task_words_of size (set s.words 0 0) ≡ ms = task_words_low size 0 0 s.words (omega arith) in
      let agrees : Agrees n (K.tasks base) us ws = subst (λ (k : ℕ). Agrees k (K.tasks base) us ws) (sym is) g.2 in
      let sound : K.sound ws x = sound_on ws us base x n agrees stands same in
      let us_is : words_of v.holding ≡ us = ap (λ (y : Holding V). words_of y) holds in
      let w : View V E = after_release K v x (words_of v.holding) in
      let width = r.width in
      let now : get_or (set s.words 0 0) 0 0 ≡ 0 = get_or-set_same s.words 0 0 0 (omega arith) in
      let here : region size (set s.words 0 0) ≡ ws = region_set0 size s.words 0 in
      let out_of_slot = r.out_of_slot (λ z. absurd (omega arith)) in
      let ts = listed_for v.number (K.tasks x) in
      let t : Task = released_task v.word_set (task_in ts) in
      let bs : List Block = released_blocks t (blocks_in ts) in
      let agrees' : Agrees v.number (K.tasks base) us ws = g.2 in
      let tasks' : (m : ℕ) → m ≢ v.number → fill_places (listed_for m (K.tasks x)) ≡ fill_places (listed_for m (K.tasks base)) = λ m ne. same m (λ e. ne (e ∙ is)) in
      let content : TaskRule K x ws Free t bs (content_of K us v.task v.content t bs) =
      spells_own ws us base x v.number t bs (content_of K us v.task v.content t bs) agrees' sound tasks' ends_as.0 spells in
      let Q : ℕ → List ℕ → List ℕ → View V E → Type 0 = λ k l ns u. SeatRule K size k l ns x r.registry u in
      let own_fits : Q 0 ws ms w = record {
        sized = mine.sized;
        numbered = mine.numbered;
        first = mine.first;
        unmet = mine.unmet;
        seen = starts_refl (K.journal x);
        was_sound = record { value = x; words = ws; sound = sound; journal = refl };
        fixed = mine.fixed ∙ sym fol.fixed;
        events = refl;
        connected = refl;
        listed = ends_as.0;
        task_word = mine.task_word;
        word_set = λ _. ends_as.1;
        goes_on = λ e. ends_as.1 ∙ e;
        idle = λ k ne h. absurd (not_in_none k h);
        none_found = λ _. refl;
        holding = (λ z. absurd (omega arith));
        content = subst (λ (l : List ℕ). TaskRule K x ws Free t bs (content_of K l v.task v.content t bs)) (sym us_is) content;
      } in
      let all : (j : ℕ) (u : View V E) → get_elem? (set s.views id w) j ≡ some u → u.number ≢ 0 → Q 0 ws ms u =
      each_set (Q 0 ws ms) s.views id w (λ _. own_fits)
      (λ j u other e alive. let apart : u.number ≢ n = λ same. other (r.apart j id u v e at (same ∙ is) alive) in followed n (word s) idle ws ms r.was_sound.0 base x r.registry u fol (λ k ne. mine.idle k (λ e. ne (e ∙ sym is))) r.was_sound.2 sound apart up alive (r.each j u e alive)) in (
        w,
        gives,
        tt,
        record {
          base = x;
          registry = r.registry;
          few = r.few;
          width = length-set s.words 0 0 ∙ width;
          in_slot = λ _. (set_here s.homes 0 (some (Some x)) (there s.homes 0 none out_of_slot.0), subst (λ (l : List ℕ). K.sound l x) (sym here) sound);
          out_of_slot = λ some_word. absurd (some_word now);
          was_sound = (ws, length-region size s.words (omega arith), sound);
          apart = apart_set s.views id v w at (λ _. refl) r.apart;
          each = subst (λ (p : ℕ × List ℕ × List ℕ). (j : ℕ) (u : View V E) → get_elem? (set s.views id w) j ≡ some u → u.number ≢ 0 → Q p.0 p.1 p.2 u) (λ i. (sym now i, sym here i, sym also i)) all;
          met = λ k es e.
              let apart : k + 2 ≢ n = λ same. let back : n - 2 ≡ k = omega arith in let front : 1 < n = omega arith in
              let none_there : get_elem? r.registry k ≡ some None = subst (λ (i : ℕ). get_elem? r.registry i ≡ some None) (ap (λ (i : ℕ). i - 2) (sym is) ∙ back) (mine.unmet (omega arith)) in absurd (cc) in
              let old = r.met k es e in record {
                events = old.events ∙ sym (fol.others (k + 2) apart);
                seen = starts_trans (K.journal x) (K.journal base) es.seen fol.journal old.seen;
                listed = keeps_listed idle (k + 2) Rest [] (listed_for (k + 2) (K.tasks base)) (listed_for (k + 2) (K.tasks x)) (fol.tasks (k + 2) apart) old.listed (λ _. refl);
                task_word = ap (λ l. get_or l (line_of (k + 2)) 0) also ∙ old.task_word;
              };
          unmade = λ k more. let small = mine.numbered in
              let apart : k ≢ n = λ same. absurd (omega arith) in
              let old = r.unmade k more in record {
                events = fol.others k apart ∙ old.events;
                connected = fol.connected k apart ∙ old.connected;
                listed = keeps_none idle k (listed_for k (K.tasks base)) (listed_for k (K.tasks x)) (fol.tasks k apart) old.listed;
                task_word = ap (λ l. get_or l (line_of k) 0) also ∙ old.task_word;
              };
          zero_number =
              let apart : 0 ≢ n = λ same. absurd (omega arith) in
              (fol.connected 0 apart ∙ r.zero_number.0, keeps_none idle 0 (listed_for 0 (K.tasks base)) (listed_for 0 (K.tasks x)) (fol.tasks 0 apart) r.zero_number.1);
        },
        λ y e. ap (λ (z : V). (after_release K v z (words_of v.holding), [])) (ap (out_or x) e),
      )

  pub releases_back : (slots id : ℕ) (me : M) (x b : V) (us : List ℕ) (n : ℕ) → n ≡ me.0.number → 0 < n → me.1 ≡ (0, Some x) ∷ [] → me.0.holding ≡ Holds b us → K.sound us x → Follows K n (idle_of me.0.found) b x → ListsReleased K me.0 x → SpellsReleased K me.0 x us
      → Allows Rule slots id me 0 (λ _. 0) (λ _. releases_turn K (step slots 0 0 0 none) me 0)
  releases_back slots id me x b us n is live out holds stands follows ends_as spells =
      subst (λ (c : List (ℕ × Option V)). Allows Rule slots id (me.0, c) 0 (λ _. 0) (λ _. releases_turn K (step slots 0 0 0 none) (me.0, c) 0)) (sym out) (released slots id me.0 x b us n is live holds stands follows ends_as spells)

  pub reads : (slots id : ℕ) (me : M) (k : ℕ) → 0 < me.0.number → k < size → Allows Rule slots id me (region_word k) (λ n. n) (loads_word K (step slots (region_word k) 0 0 none) me)
  reads slots id me k live inside s r _ at _ =
      let ws : List ℕ = region size s.words in
      let mine = r.each id me.0 at (λ z. absurd (omega arith)) in
      let back : region_word k - line_words ≡ k = omega arith in (
        me.0,
        keeps,
        tt,
        unmoved s r (region_word k) id me.1 me.0 at,
        (
          refl,
          λ b us holds out.
              let g = holding_is (word s) ws us r.base b me.0.number me.0.holding holds mine.holding in
              let out' : OutsideOtherFills me.0.number (K.tasks r.base) k = subst (λ (p : V × ℕ). OutsideOtherFills me.0.number (K.tasks p.0) p.1) (λ i. (g.1 i, back i)) out in
              sym (region_at size s.words k inside) ∙ (sym (g.2.1 k out') ∙ ap (λ j. get_or us j 0) (sym back)),
        ),
      )

  -- what a seat spells, after a write that misses its blocks
  spells_on : (base : V) (ws : List ℕ) (k x n : ℕ) (g : Holding V) (t : Task) (bs : List Block) (content : List ℕ) (ts : List _) → IsListed n t bs ts → Misses k (places_of ts) → TaskRule K base ws g t bs content → TaskRule K base (set ws k x) g t bs content
  spells_on base ws k x n (Holds b us) t bs content ts e m h = h
  spells_on base ws k x n Free Rest bs content ts e m h = tt
  spells_on base ws k x n Free (Fill s) bs content ts e m h = (h.0 ∙ ap (λ l. take (length content) (bytes_of l)) (sym (spelled_missed ws k x bs (misses_front k (places bs) [] (subst (λ l. Misses k (places_of l)) (listed_live n (Fill s) bs ts e (rest_or s).1) m)))), h.1)
  spells_on base ws k x n Free (Stream s) bs content ts e m h = h ∙ sym (spelled_missed ws k x bs (misses_front k (places bs) [] (subst (λ l. Misses k (places_of l)) (listed_live n (Stream s) bs ts e (rest_or s).0) m)))

  -- the same where there is no task
  spells_rest : (base : V) (ws us : List ℕ) (g : Holding V) (t : Task) (bs : List Block) (content : List ℕ) → t ≡ Rest → TaskRule K base ws g t bs content → TaskRule K base us g t bs content
  spells_rest base ws us (Holds b vs) t bs content e h = h
  spells_rest base ws us Free Rest bs content e h = tt
  spells_rest base ws us Free (Stream s) bs content e h = absurd ((rest_or s).0 e)
  spells_rest base ws us Free (Fill s) bs content e h = absurd ((rest_or s).1 e)

  -- what another seat spells, after a write of a word that is in no task of it, or in a stream of it that was found ended
  spells_beside : (base : V) (ws : List ℕ) (k x n : ℕ) (idle : List ℕ) (g : Holding V) (t : Task) (bs : List Block) (content : List ℕ) (ts : List _) → IsListed n t bs ts → (FoundIdle idle n → is_stream t ≡ false) → Misses k (places_of ts) ⊎ (FoundIdle idle n × IsEnded n ts)
      → TaskRule K base ws g t bs content → TaskRule K base (set ws k x) g t bs content
  spells_beside base ws k x n idle g t bs content ts l q m h = ⊎_elim
      (λ (miss : Misses k (places_of ts)). spells_on base ws k x n g t bs content ts l miss h)
      (λ (ended : FoundIdle idle n × IsEnded n ts). spells_rest base ws (set ws k x) g t bs content (ended_rests n t bs ts l (q ended.0) ended.1) h)
      m

  agrees_set : (n : ℕ) (b : V) (us ws : List ℕ) (k x : ℕ) → k < length ws → Agrees n (K.tasks b) us ws → Agrees n (K.tasks b) (set us k x) (set ws k x)
  agrees_set n b us ws k x inside h = let long = h.0 in (
    length-set us k x ∙ (h.0 ∙ sym (length-set ws k x)),
    λ j out. dite (ℕ_discrete j k)
        (λ e. ap (λ i. get_or (set us k x) i 0) e ∙ (get_or-set_same us k x 0 (omega arith) ∙ sym (ap (λ i. get_or (set ws k x) i 0) e ∙ get_or-set_same ws k x 0 inside)))
        (λ ne. get_or-set_other us k j x 0 ne ∙ (h.1 j out ∙ sym (get_or-set_other ws k j x 0 ne))),
  )

  pub writes : (slots id : ℕ) (me : M) (b : V) (us : List ℕ) (k x : ℕ) → 0 < me.0.number → me.0.holding ≡ Holds b us → k < size → ((n : ℕ) → n ≢ me.0.number → Misses k (places_of (listed_for n (K.tasks b))) ⊎ (FoundIdle (idle_of me.0.found) n × IsEnded n (listed_for n (K.tasks b))))
      → Allows Rule slots id me (region_word k) (λ _. x) (λ _. stores_word K (step slots (region_word k) x 0 none) me x)
  writes slots id me b us k x live holds inside clear s r _ at _ =
      let v : View V E = me.0 in
      let base : V = r.base in
      let ws : List ℕ = region size s.words in
      let mine : SeatRule K size (word s) ws (task_words s) base r.registry v = r.each id v at (λ z. absurd (omega arith)) in
      let g = holding_is (word s) ws us base b v.number v.holding holds mine.holding in
      let is : word s ≡ v.number = g.0 in
      let w : View V E = with_holding v (written v.holding (region_word k - line_words) x) in
      let width = r.width in
      let now : get_or (set s.words (region_word k) x) 0 0 ≡ word s = get_or-set_other s.words (region_word k) 0 x 0 (λ e. absurd (omega arith)) in
      let here : region size (set s.words (region_word k) x) ≡ set ws k x = region_set size s.words k x in
      let back : region_word k - line_words ≡ k = omega arith in
      let held : written v.holding (region_word k - line_words) x ≡ Holds b (set us k x) = (λ i. written (holds i) (back i) x) in
      let long : length ws ≡ size = length-region size s.words (omega arith) in
      let holding_now : HoldingRule K (word s) (set ws k x) base v.number (written v.holding (region_word k - line_words) x) = subst (λ (y : Holding V). HoldingRule K (word s) (set ws k x) base v.number y) (sym held) (is, g.1, agrees_set v.number base us ws k x (omega arith) g.2) in
      let spells : TaskRule K base (set ws k x) (written v.holding (region_word k - line_words) x) v.task v.blocks v.content = subst (λ (y : Holding V). TaskRule K base (set ws k x) y v.task v.blocks v.content) (sym held) (subst (λ (y : Holding V). TaskRule K base ws y v.task v.blocks v.content) holds mine.content) in
      let Clear : V → Type 0 = λ y. (n : ℕ) → n ≢ v.number → Misses k (places_of (listed_for n (K.tasks y))) ⊎ (FoundIdle (idle_of v.found) n × IsEnded n (listed_for n (K.tasks y))) in
      let clear' : Clear base = subst Clear g.1 clear in
      let ms : List ℕ = task_words s in
      let also : task_words_of size (set s.words (region_word k) x) ≡ ms = task_words_low size (region_word k) x s.words (omega arith) in
      let held_not : written v.holding (region_word k - line_words) x ≡ Free → ⊥ = λ e. holds_free b (set us k x) (sym held ∙ e) in
      let Q : ℕ → List ℕ → List ℕ → View V E → Type 0 = λ y l ns u. SeatRule K size y l ns base r.registry u in
      let all : (j : ℕ) (u : View V E) → get_elem? (set s.views id w) j ≡ some u → u.number ≢ 0 → Q (word s) (set ws k x) ms u =
      each_set (Q (word s) (set ws k x) ms) s.views id w (λ _. with_new_holding (word s) (word s) ws (set ws k x) ms base r.registry v (written v.holding (region_word k - line_words) x) v.turns v.refusals mine holding_now spells (λ e. absurd (held_not e)) (λ e. absurd (held_not e)))
      (λ j u other e alive. let f = r.each j u e alive in
      let apart : u.number ≢ v.number = λ same. other (r.apart j id u v e at same alive) in
      with_new_holding (word s) (word s) ws (set ws k x) ms base r.registry u u.holding u.turns u.refusals f
      (holding_else (word s) (word s) u.number ws (set ws k x) base base u.holding (λ e. apart (e ∙ is)) (λ e. apart (sym e ∙ is)) f.holding)
      (spells_beside base ws k x u.number (idle_of v.found) u.holding u.task u.blocks u.content (listed_for u.number (K.tasks base)) f.listed (λ h. sym (f.word_set (idle_else (word s) u.number ws base u.holding (λ e. apart (e ∙ is)) f.holding)) ∙ bit_zero u.word_set (sym f.task_word ∙ (mine.idle u.number apart h).1)) (clear' u.number apart) f.content) f.word_set f.none_found) in
      let some_word : word s ≢ 0 = λ z. absurd (omega arith) in
      let out_of_slot = r.out_of_slot some_word in (
        w,
        keeps,
        tt,
        record {
          base = base;
          registry = r.registry;
          few = r.few;
          width = length-set s.words (region_word k) x ∙ width;
          in_slot = λ z. absurd (some_word (sym now ∙ z));
          out_of_slot = λ _. (out_of_slot.0, (id, w, set_here s.views id w (there s.views id v at), sym is ∙ sym now));
          was_sound = r.was_sound;
          apart = apart_set s.views id v w at (λ _. refl) r.apart;
          each = subst (λ (p : ℕ × List ℕ × List ℕ). (j : ℕ) (u : View V E) → get_elem? (set s.views id w) j ≡ some u → u.number ≢ 0 → Q p.0 p.1 p.2 u) (λ i. (sym now i, sym here i, sym also i)) all;
          met = λ k es e. let m = r.met k es e in record { events = m.events; seen = m.seen; listed = m.listed; task_word = ap (λ l. get_or l (line_of (k + 2)) 0) also ∙ m.task_word };
          unmade = λ k more. let m = r.unmade k more in record { events = m.events; connected = m.connected; listed = m.listed; task_word = ap (λ l. get_or l (line_of k) 0) also ∙ m.task_word };
          zero_number = r.zero_number;
        },
        refl,
      )

  pub splits : (id : ℕ) (v : View V E) → v.number ≡ 1 → v.holding ≡ Free → length v.registry + 1 < last_seat → Splits Rule id v (after_split v) (next_seat v)
  splits id v one free few s r at =
      let base : V = r.base in
      let ws : List ℕ = region size s.words in
      let registry = r.registry in
      let mine : SeatRule K size (word s) ws (task_words s) base registry v = r.each id v at (λ z. absurd (omega arith)) in
      let registry_is : v.registry ≡ registry = mine.first one in
      let next : List (Option (MetSeat E)) = registry ++ None ∷ [] in
      let longer_registry : length next ≡ length registry + 1 = length-append registry (None ∷ []) in
      let w : View V E = after_split v in
      let u' : View V E = next_seat v in
      let count : length v.registry ≡ length registry = ap (λ l. length l) registry_is in
      let made : u'.number ≡ length registry + 2 = omega arith in
      let fresh = r.unmade u'.number (omega arith) in
      let small = small_word s r in
      let Q : View V E → Type 0 = λ u. SeatRule K size (word s) ws (task_words s) base next u in
      let old_first : Q w = record {
        sized = mine.sized;
        numbered = omega arith;
        first = λ _. ap (λ l. l ++ None ∷ []) registry_is;
        unmet = λ more. absurd (omega arith);
        seen = mine.seen;
        was_sound = mine.was_sound;
        fixed = mine.fixed;
        events = mine.events;
        connected = mine.connected;
        listed = mine.listed;
        task_word = mine.task_word;
        word_set = mine.word_set;
        goes_on = mine.goes_on;
        idle = mine.idle;
        none_found = mine.none_found;
        holding = mine.holding;
        content = mine.content;
      } in
      let new_one : Q u' = record {
        sized = mine.sized;
        numbered = omega arith;
        first = λ e. absurd (omega arith);
        unmet = λ _. at_last registry None (u'.number - 2) (omega arith);
        seen = mine.seen;
        was_sound = mine.was_sound;
        fixed = mine.fixed;
        events = sym fresh.events;
        connected = sym fresh.connected;
        listed = inl fresh.listed;
        task_word = fresh.task_word;
        word_set = λ _. refl;
        goes_on = λ e. absurd (true≢false (sym e));
        idle = λ k ne h. absurd (not_in_none k h);
        none_found = λ _. refl;
        holding = (λ e. absurd (omega arith));
        content = tt;
      } in
      let others : (j : ℕ) (u : View V E) → j ≢ id → get_elem? s.views j ≡ some u → u.number ≢ 0 → Q u = λ j u other e alive.
      let f = r.each j u e alive in
      let small_number = f.numbered in
      let apart : u.number ≢ 1 = λ same. other (r.apart j id u v e at (same ∙ sym one) alive) in record {
        sized = f.sized;
        numbered = omega arith;
        first = λ e. absurd (apart e);
        unmet = λ more. at_longer registry (None ∷ []) (u.number - 2) None (f.unmet more);
        seen = f.seen;
        was_sound = f.was_sound;
        fixed = f.fixed;
        events = f.events;
        connected = f.connected;
        listed = f.listed;
        task_word = f.task_word;
        word_set = f.word_set;
        goes_on = f.goes_on;
        idle = f.idle;
        none_found = f.none_found;
        holding = f.holding;
        content = f.content;
      } in
      let in_set : (j : ℕ) (u : View V E) → get_elem? (set s.views id w) j ≡ some u → u.number ≢ 0 → Q u = each_set Q s.views id w (λ _. old_first) others in
      let low : (j : ℕ) (u : View V E) → get_elem? (set s.views id w) j ≡ some u → u.number < u'.number = λ j u e. dite (ℕ_discrete u.number 0) (λ z. omega arith)
      (λ alive. ⊎_elim
      (λ (t : (j ≡ id) × (w ≡ u)). let same : w.number ≡ u.number = ap (λ (y : View V E). y.number) t.1 in omega arith)
      (λ (t : (j ≢ id) × (get_elem? s.views j ≡ some u)). let f = r.each j u t.1 alive in let n = f.numbered in omega arith)
      (at_set s.views id j w u e)) in
      let apart_old = apart_set s.views id v w at (λ _. refl) r.apart in record {
        base = base;
        registry = next;
        few = omega arith;
        width = r.width;
        in_slot = r.in_slot;
        out_of_slot = λ up. let a = r.out_of_slot up in let h = a.1 in (
          a.0,
          dite (ℕ_discrete h.0 id)
              (λ same. (
                id,
                w,
                at_longer (set s.views id w) (u' ∷ []) id w (set_here s.views id w (there s.views id v at)),
                ap (λ (y : View V E). y.number) (some-injective _ _ (sym at ∙ (ap (λ (i : ℕ). get_elem? s.views i) (sym same) ∙ h.2))) ∙ h.3,
              ))
              (λ other. (h.0, h.1, at_longer (set s.views id w) (u' ∷ []) h.0 h.1 (set_else s.views id h.0 w other ∙ h.2), h.3)),
        );
        was_sound = r.was_sound;
        apart = λ i j a b p q e alive.
            let l = set s.views id w in
            ⊎_elim
            (λ old_i. ⊎_elim (λ old_j. apart_old i j a b old_i old_j e alive)
            (λ (t : (j ≡ length l) × (u' ≡ b)). let n = low i a old_i in let m : u'.number ≡ b.number = ap (λ (y : View V E). y.number) t.1 in absurd (omega arith))
            (at_end l u' b j q))
            (λ (t : (i ≡ length l) × (u' ≡ a)). ⊎_elim
            (λ old_j. let n = low j b old_j in let m : u'.number ≡ a.number = ap (λ (y : View V E). y.number) t.1 in absurd (omega arith))
            (λ (t' : (j ≡ length l) × (u' ≡ b)). t.0 ∙ sym t'.0)
            (at_end l u' b j q))
            (at_end l u' a i p);
        each = λ j u e alive. ⊎_elim (λ old. in_set j u old alive) (λ (same : u' ≡ u). subst Q same new_one) (at_snoc (set s.views id w) u' u j e);
        met = λ k es e. ⊎_elim (λ old. r.met k es old) (λ (new : None ≡ Some es). absurd (cc)) (at_snoc registry None (Some es) k e);
        unmade = λ n more. r.unmade n (omega arith);
        zero_number = r.zero_number;
      }

  pub joins : (id : ℕ) (v : View V E) (other : ℕ) (w : View V E) → v.number ≡ 1 → 1 < w.number → w.holding ≡ Free → w.task ≡ Rest → Joins Rule id v other w (after_meet v w) spent
  joins id v other w one more free rests s r at apart there_w =
      let base : V = r.base in
      let ws : List ℕ = region size s.words in
      let registry = r.registry in
      let both : View V E = after_meet v w in
      let at_w : get_elem? s.views other ≡ some w = sym (set_else s.views id other both apart) ∙ there_w in
      let mine : SeatRule K size (word s) ws (task_words s) base registry v = r.each id v at (λ z. absurd (omega arith)) in
      let theirs : SeatRule K size (word s) ws (task_words s) base registry w = r.each other w at_w (λ z. absurd (omega arith)) in
      let registry_is : v.registry ≡ registry = mine.first one in
      let m : ℕ = w.number - 2 in
      let next : List (Option (MetSeat E)) = set registry m (Some (met_seat w)) in
      let long : length next ≡ length registry = length-set registry m (Some (met_seat w)) in
      let made = r.few in
      let merged = longer_of (K.journal base) v.seen w.seen mine.seen theirs.seen in
      let Q : View V E → Type 0 = λ u. SeatRule K size (word s) ws (task_words s) base next u in
      let first_one : Q both = record {
        sized = mine.sized;
        numbered = omega arith;
        first = λ _. ap (λ l. set l m (Some (met_seat w))) registry_is;
        unmet = λ up. absurd (omega arith);
        seen = merged.0;
        was_sound = longer_one (IsSoundJournal K) v.seen w.seen mine.was_sound theirs.was_sound;
        fixed = mine.fixed;
        events = mine.events;
        connected = mine.connected;
        listed = mine.listed;
        task_word = mine.task_word;
        word_set = mine.word_set;
        goes_on = mine.goes_on;
        idle = mine.idle;
        none_found = mine.none_found;
        holding = mine.holding;
        content = mine.content;
      } in
      let others : (j : ℕ) (u : View V E) → j ≢ id → j ≢ other → get_elem? s.views j ≡ some u → u.number ≢ 0 → Q u = λ j u off_v off_w e alive.
      let f = r.each j u e alive in
      let small = f.numbered in
      let ne : u.number ≢ w.number = λ same. off_w (r.apart j other u w e at_w same alive) in record {
        sized = f.sized;
        numbered = omega arith;
        first = λ is_one. absurd (off_v (r.apart j id u v e at (is_one ∙ sym one) alive));
        unmet = λ up. set_else registry m (u.number - 2) (Some (met_seat w)) (λ same. ne (omega arith)) ∙ f.unmet up;
        seen = f.seen;
        was_sound = f.was_sound;
        fixed = f.fixed;
        events = f.events;
        connected = f.connected;
        listed = f.listed;
        task_word = f.task_word;
        word_set = f.word_set;
        goes_on = f.goes_on;
        idle = f.idle;
        none_found = f.none_found;
        holding = f.holding;
        content = f.content;
      } in
      let views1 = set s.views id both in
      let met_word : word s ≢ w.number = subst (λ (g : Holding V). HoldingRule K (word s) ws base w.number g) free theirs.holding in
      let none_listed : IsListed w.number Rest [] (listed_for w.number (K.tasks base)) = subst (λ (t : Task). IsListed w.number t w.blocks (listed_for w.number (K.tasks base))) rests theirs.listed in
      let zero_word : get_or (task_words s) (line_of w.number) 0 ≡ 0 = theirs.task_word ∙ ap bit (theirs.word_set free ∙ ap is_stream rests) in
      let number_is : w.number ≡ m + 2 = omega arith in record {
        base = base;
        registry = next;
        few = omega arith;
        width = r.width;
        in_slot = r.in_slot;
        out_of_slot = λ up. let a = r.out_of_slot up in let h = a.1 in
            let off : h.0 ≢ other = λ same. met_word (sym h.3 ∙ ap (λ (y : View V E). y.number) (some-injective _ _ (sym h.2 ∙ (ap (λ (i : ℕ). get_elem? s.views i) same ∙ at_w)))) in (
              a.0,
              dite (ℕ_discrete h.0 id)
                  (λ same. (
                    id,
                    both,
                    set_else views1 other id spent (λ e. apart (sym e)) ∙ set_here s.views id both (there s.views id v at),
                    ap (λ (y : View V E). y.number) (some-injective _ _ (sym at ∙ (ap (λ (i : ℕ). get_elem? s.views i) (sym same) ∙ h.2))) ∙ h.3,
                  ))
                  (λ ne. (h.0, h.1, set_else views1 other h.0 spent off ∙ (set_else s.views id h.0 both ne ∙ h.2), h.3)),
            );
        was_sound = r.was_sound;
        apart = apart_set views1 other w spent there_w (λ live. absurd (live refl)) (apart_set s.views id v both at (λ _. refl) r.apart);
        each = λ j u e alive. ⊎_elim
            (λ (t : (j ≡ other) × (spent ≡ u)). absurd (alive (ap (λ (y : View V E). y.number) (sym t.1))))
            (λ (t : (j ≢ other) × (get_elem? views1 j ≡ some u)). ⊎_elim
            (λ (t' : (j ≡ id) × (both ≡ u)). subst Q t'.1 first_one)
            (λ (t' : (j ≢ id) × (get_elem? s.views j ≡ some u)). others j u t'.0 t.0 t'.1 alive)
            (at_set s.views id j both u t.1))
            (at_set views1 other j spent u e);
        met = λ k es e. ⊎_elim
            (λ (t : (k ≡ m) × (Some (met_seat w) ≡ Some es)).
            let same : w.number ≡ k + 2 = omega arith in
            let es_is : es ≡ met_seat w = cc in
            let back : line_of (k + 2) ≡ line_of w.number = omega arith in
            record {
              events = ap (λ (x : MetSeat E). x.events) es_is ∙ (theirs.events ∙ ap (λ (n : ℕ). of_seat K n (K.journal base)) same);
              seen = subst (λ (x : MetSeat E). StartsWith (K.journal base) x.seen) (sym es_is) theirs.seen;
              listed = subst (λ (n : ℕ). IsListed n Rest [] (listed_for n (K.tasks base))) same none_listed;
              task_word = ap (λ n. get_or (task_words s) n 0) back ∙ zero_word;
            })
            (λ (t : (k ≢ m) × (get_elem? registry k ≡ some (Some es))). r.met k es t.1)
            (at_set registry m k (Some (met_seat w)) (Some es) e);
        unmade = λ n up. r.unmade n (omega arith);
        zero_number = r.zero_number;
      }

  pub ends : (id : ℕ) (v : View V E) → v.number ≡ 1 → v.holding ≡ Free → AllMet v.registry → (s : St) (r : Rule s) → get_elem? s.views id ≡ some v → word s ≡ 0
  ends id v one free all s r at = dite (ℕ_discrete (word s) 0) (λ z. z) (λ up.
      let out_of_slot = r.out_of_slot up in let h = out_of_slot.1 in
      let live : h.1.number ≢ 0 = λ z. up (sym h.3 ∙ z) in
      let f = r.each h.0 h.1 h.2 live in
      let mine = r.each id v at (λ z. absurd (omega arith)) in
      let holding : word s ≢ v.number = subst (λ (g : Holding V). HoldingRule K (word s) (region size s.words) r.base v.number g) free mine.holding in
      let more : 1 < h.1.number = let e = h.3 in omega arith in
      absurd (none_left v.registry (h.1.number - 2) all (subst (λ l. get_elem? l (h.1.number - 2) ≡ some None) (sym (mine.first one)) (f.unmet more))))

  writes_at : (slots id : ℕ) (me : M) (g : Holding V) (k x : ℕ) → 0 < me.0.number → me.0.holding ≡ g → HeldFreeOfOthers K me.0.number (idle_of me.0.found) k g → k < size → Allows Rule slots id me (region_word k) (λ _. x) (λ _. stores_word K (step slots (region_word k) x 0 none) me x)
  writes_at slots id me Free k x live e h inside = absurd h
  writes_at slots id me (Holds b us) k x live e h inside = writes slots id me b us k x live e inside h

  pub writes_held : (slots id : ℕ) (me : M) (k x : ℕ) → 0 < me.0.number → HeldFreeOfOthers K me.0.number (idle_of me.0.found) k me.0.holding → k < size → Allows Rule slots id me (region_word k) (λ _. x) (λ _. stores_word K (step slots (region_word k) x 0 none) me x)
  writes_held slots id me k x live h inside = writes_at slots id me me.0.holding k x live refl h inside

  releases_at : (slots id : ℕ) (me : M) (g : Holding V) (x : V) → 0 < me.0.number → me.1 ≡ (0, Some x) ∷ [] → me.0.holding ≡ g → HoldsTurn g → K.sound (words_of g) x → Follows K me.0.number (idle_of me.0.found) (base_of x g) x → ListsReleased K me.0 x → SpellsReleased K me.0 x (words_of g)
      → Allows Rule slots id me 0 (λ _. 0) (λ _. releases_turn K (step slots 0 0 0 none) me 0)
  releases_at slots id me Free x live out e h stands follows lists spells = absurd h
  releases_at slots id me (Holds b us) x live out e h stands follows lists spells = releases_back slots id me x b us me.0.number refl live out e stands follows lists spells

  pub releases_held : (slots id : ℕ) (me : M) (x : V) → 0 < me.0.number → me.1 ≡ (0, Some x) ∷ [] → HoldsTurn me.0.holding → K.sound (words_of me.0.holding) x → Follows K me.0.number (idle_of me.0.found) (base_of x me.0.holding) x → ListsReleased K me.0 x → SpellsReleased K me.0 x (words_of me.0.holding)
      → Allows Rule slots id me 0 (λ _. 0) (λ _. releases_turn K (step slots 0 0 0 none) me 0)
  releases_held slots id me x live out h stands follows lists spells = releases_at slots id me me.0.holding x live out refl h stands follows lists spells

  -- the table at the start
  pub opens : (x : V) (words : List ℕ) → words ≡ replicate (size + extra_words) 0 → IsFresh K size x → Rule (opening words (Some x ∷ []) (first_seat size (K.fixed x)))
  opens x words is fresh = subst (λ (ws : List ℕ). Rule (opening ws (Some x ∷ []) (first_seat size (K.fixed x)))) (sym is) record {
    base = x;
    registry = [];
    few = omega arith;
    width = length-replicate (size + extra_words) 0;
    in_slot = λ _. (refl, subst (λ (l : List ℕ). K.sound l x) (sym (region_zeros size)) fresh.sound);
    out_of_slot = λ up. absurd (up (zero_at (size + extra_words) 0));
    was_sound = (replicate size 0, length-replicate size 0, fresh.sound);
    apart = λ i j v w p q e live. single _ i j v w p q;
    each = each;
    met = λ k es e. absurd (some-ne-none (Some es) (sym e));
    unmade = λ n more. record { events = ap (of_seat K n) fresh.journal; connected = fresh.connected n; listed = ap (listed_for n) fresh.tasks; task_word = zeros (region_word size) (size + extra_words) (line_of n) };
    zero_number = (fresh.connected 0, ap (listed_for 0) fresh.tasks);
  }
    where
      each : (j : ℕ) (v : View V E) → get_elem? (first_seat size (K.fixed x) ∷ []) j ≡ some v → v.number ≢ 0 → SeatRule K size (get_or (replicate {A = ℕ} (size + extra_words) 0) 0 0) (region size (replicate (size + extra_words) 0)) (task_words_of size (replicate (size + extra_words) 0)) x [] v
      each zero v e live = subst (SeatRule K size (get_or (replicate {A = ℕ} (size + extra_words) 0) 0 0) (region size (replicate (size + extra_words) 0)) (task_words_of size (replicate (size + extra_words) 0)) x []) (some-injective _ _ e) record {
        sized = refl;
        numbered = omega arith;
        first = λ _. refl;
        unmet = λ more. absurd (omega arith);
        seen = (K.journal x, refl);
        was_sound = record { value = x; words = replicate size 0; sound = fresh.sound; journal = fresh.journal };
        fixed = refl;
        events = sym (ap (of_seat K 1) fresh.journal);
        connected = sym (fresh.connected 1);
        listed = inl (ap (listed_for 1) fresh.tasks);
        task_word = zeros (region_word size) (size + extra_words) (line_of 1);
        word_set = λ _. refl;
        goes_on = λ e. absurd (true≢false (sym e));
        idle = λ k ne h. absurd (not_in_none k h);
        none_found = λ _. refl;
        holding = (λ e. absurd (omega (arith, e, zero_at (size + extra_words) 0)));
        content = tt;
      }
      each (suc j) v e live = absurd (some-ne-none v (sym e))

  -- the table at the end
  pub closes : (id : ℕ) (v : View V E) → v.number ≡ 1 → v.holding ≡ Free → AllMet v.registry → (s : St) (r : Rule s) → get_elem? s.views id ≡ some v → (get_elem? s.homes 0 ≡ some (some (Some r.base))) × ClosesWith K v r.base
  closes id v one free all s r at =
      let zero_word = ends id v one free all s r at in
      let mine = r.each id v at (λ z. absurd (omega arith)) in
      let registry_is = mine.first one in
      let in_slot = r.in_slot zero_word in (
        in_slot.0,
        record {
          sound = (region size s.words, length-region size s.words (let width = r.width in omega arith) ∙ sym mine.sized, in_slot.1);
          seen = mine.seen;
          fixed = mine.fixed;
          own = mine.events ∙ ap (λ (n : ℕ). of_seat K n (K.journal r.base)) one;
          met = λ k es e. let m = r.met k es (subst (λ l. get_elem? l k ≡ some (Some es)) registry_is e) in (m.events, m.seen);
          others = λ n more. (r.unmade n (subst (λ l. length l + 1 < n) registry_is more)).events;
        },
      )

  pub reads_streamed : (slots id : ℕ) (me : M) (serial k : ℕ) → 0 < me.0.number → me.0.holding ≡ Free → me.0.task ≡ Stream serial → k < size → Allows Rule slots id me (region_word k) (λ n. n) (loads_streamed K (step slots (region_word k) 0 0 none) me)
  reads_streamed slots id me serial k live free task inside s r _ at _ =
      let ws : List ℕ = region size s.words in
      let mine = r.each id me.0 at (λ z. absurd (omega arith)) in
      let spells : me.0.content ≡ spelled ws me.0.blocks = subst (λ (p : Holding V × Task). TaskRule K r.base ws p.0 p.1 me.0.blocks me.0.content) (λ i. (free i, task i)) mine.content in
      let back : region_word k - line_words ≡ k = omega arith in (
        me.0,
        keeps,
        tt,
        unmoved s r (region_word k) id me.1 me.0 at,
        (refl, (λ i small at_k. sym (region_at size s.words k inside) ∙ (sym (ap (λ j. get_or ws j 0) (at_k ∙ back)) ∙ (sym (get_or_map0 (λ j. get_or ws j 0) (places me.0.blocks) i small) ∙ ap (λ l. get_or l i 0) (sym spells))))),
      )

  pub won_from : (p p' q : Seat (Option V) (View V E)) (x : V) → p.me.0 ≡ p'.me.0 → p.table_id ≡ p'.table_id → TookTurn K p q x → TookTurn K p' q x
  won_from p p' q x e e' w = record { words = w.words; taken = subst (λ (v : View V E). Taken K v x w.words) e w.taken; view = w.view ∙ ap (λ (v : View V E). with_turn v x w.words) e; out = w.out; table = w.table ∙ e' }

  holding_filled : (word : ℕ) (ws : List ℕ) (k x : ℕ) (base : V) (m : ℕ) (g : Holding V) → ((j : ℕ) → OutsideOtherFills m (K.tasks base) j → j ≢ k) → HoldingRule K word ws base m g → HoldingRule K word (set ws k x) base m g
  holding_filled word ws k x base m Free apart h = h
  holding_filled word ws k x base m (Holds b us) apart h = (h.0, h.1, (h.2.0 ∙ sym (length-set ws k x), λ j out. h.2.1 j out ∙ sym (get_or-set_other ws k j x 0 (apart j out))))

  pub fills_step : (slots id : ℕ) (me : M) (serial i k x count : ℕ) → 0 < me.0.number → me.0.holding ≡ Free → me.0.task ≡ Fill serial → i < length (places me.0.blocks) → get_or (places me.0.blocks) i 0 ≡ k → k < size
      → 8 * i ≤ count → count ≤ 8 * i + 8 → 8 * i ≤ length me.0.content → K.fits me.0.seen serial (filled me.0.content i x count)
      → Allows Rule slots id me (region_word k) (λ _. x) (λ _. stores_filled K i count (step slots (region_word k) x 0 none) me x)
  fills_step slots id me serial i k x count live free task inside here_k small low high long may s r _ at _ =
      let v : View V E = me.0 in
      let base : V = r.base in
      let ws : List ℕ = region size s.words in
      let ws' : List ℕ = set ws k x in
      let mine : SeatRule K size (word s) ws (task_words s) base r.registry v = r.each id v at (λ z. absurd (omega arith)) in
      let width = r.width in
      let ts = listed_for v.number (K.tasks base) in
      let ts_is : ts ≡ own v.number (Fill serial) v.blocks = listed_live v.number (Fill serial) v.blocks ts (subst (λ (t : Task). IsListed v.number t v.blocks ts) task mine.listed) (rest_or serial).1 in
      let all : places_of ts ≡ places v.blocks = spots_of_own v.number (Fill serial) v.blocks ts ts_is (rest_or serial).1 in
      let fill_all : fill_places ts ≡ places v.blocks = ap fill_places ts_is ∙ append-nil (places v.blocks) in
      let hit : Misses k (fill_places ts) → ⊥ = λ m. is_in (places v.blocks) i inside (subst (λ (p : ℕ × List ℕ). Misses p.0 p.1) (λ j. (sym here_k j, fill_all j)) m) in
      let off : (j : ℕ) → Misses j (fill_places ts) → j ≢ k = λ j m e. hit (subst (λ y. Misses y (fill_places ts)) e m) in
      let once : IsDistinct (places v.blocks) = subst IsDistinct all (K.once r.was_sound.0 base v.number r.was_sound.2) in
      let region_long : length ws ≡ size = length-region size s.words (omega arith) in
      let bytes : List ℕ = filled v.content i x count in
      let w : View V E = with_content v bytes in
      let now : get_or (set s.words (region_word k) x) 0 0 ≡ word s = get_or-set_other s.words (region_word k) 0 x 0 (λ e. absurd (omega arith)) in
      let here : region size (set s.words (region_word k) x) ≡ ws' = region_set size s.words k x in
      let old_text : (v.content ≡ take (length v.content) (bytes_of (spelled ws v.blocks))) × K.fits (K.journal base) serial v.content = subst (λ (p : Holding V × Task). TaskRule K base ws p.0 p.1 v.blocks v.content) (λ j. (free j, task j)) mine.content in
      let front : bytes ≡ take (length bytes) (bytes_of (spelled ws' v.blocks)) = filled_front ws v.blocks v.content i k x count once inside here_k (omega arith) low high old_text.0 long in
      let u = mine.was_sound in
      let fits : K.fits (K.journal base) serial bytes = K.fits_on u.words r.was_sound.0 u.value base serial bytes u.sound r.was_sound.2 (subst (λ l. StartsWith (K.journal base) l) (sym u.journal) mine.seen) (subst (λ l. K.fits l serial bytes) (sym u.journal) may) in
      let content : TaskRule K base ws' v.holding v.task v.blocks bytes = subst (λ (p : Holding V × Task). TaskRule K base ws' p.0 p.1 v.blocks bytes) (λ j. (sym free j, sym task j)) (front, fits) in
      let ms : List ℕ = task_words s in
      let also : task_words_of size (set s.words (region_word k) x) ≡ ms = task_words_low size (region_word k) x s.words (omega arith) in
      let Q : ℕ → List ℕ → List ℕ → View V E → Type 0 = λ y l ns z. SeatRule K size y l ns base r.registry z in
      let own_fits : Q (word s) ws' ms w = record {
        sized = mine.sized;
        numbered = mine.numbered;
        first = mine.first;
        unmet = mine.unmet;
        seen = mine.seen;
        was_sound = mine.was_sound;
        fixed = mine.fixed;
        events = mine.events;
        connected = mine.connected;
        listed = mine.listed;
        task_word = mine.task_word;
        word_set = mine.word_set;
        goes_on = mine.goes_on;
        idle = mine.idle;
        none_found = mine.none_found;
        holding = subst (λ (g : Holding V). HoldingRule K (word s) ws' base v.number g) (sym free) (subst (λ (g : Holding V). HoldingRule K (word s) ws base v.number g) free mine.holding);
        content = content;
      } in
      let each' : (j : ℕ) (z : View V E) → get_elem? (set s.views id w) j ≡ some z → z.number ≢ 0 → Q (word s) ws' ms z =
      each_set (Q (word s) ws' ms) s.views id w (λ _. own_fits)
      (λ j z other e alive. let f = r.each j z e alive in
      let apart : z.number ≢ v.number = λ same. other (r.apart j id z v e at same alive) in
      let apart' : v.number ≢ z.number = λ same. apart (sym same) in
      with_new_holding (word s) (word s) ws ws' ms base r.registry z z.holding z.turns z.refusals f
      (holding_filled (word s) ws k x base z.number z.holding (λ j out. off j (out v.number apart')) f.holding)
      (spells_on base ws k x z.number z.holding z.task z.blocks z.content (listed_for z.number (K.tasks base)) f.listed (K.fills_apart r.was_sound.0 base v.number z.number k r.was_sound.2 apart' hit) f.content) f.word_set f.none_found) in (
        w,
        keeps,
        tt,
        record {
          base = base;
          registry = r.registry;
          few = r.few;
          width = length-set s.words (region_word k) x ∙ width;
          in_slot = λ z. let h = r.in_slot (sym now ∙ z) in (h.0, subst (λ (l : List ℕ). K.sound l base) (sym here) (K.fills_free ws ws' base h.1 (length-set ws k x) (λ j out. get_or-set_other ws k j x 0 (off j (out v.number)))));
          out_of_slot = λ up. let a = r.out_of_slot (λ z. up (now ∙ z)) in let h = a.1 in (
            a.0,
            dite (ℕ_discrete h.0 id)
                (λ same. (id, w, set_here s.views id w (there s.views id v at), ap (λ (y : View V E). y.number) (some-injective _ _ (sym at ∙ (ap (λ (j : ℕ). get_elem? s.views j) (sym same) ∙ h.2))) ∙ (h.3 ∙ sym now)))
                (λ ne. (h.0, h.1, set_else s.views id h.0 w ne ∙ h.2, h.3 ∙ sym now)),
          );
          was_sound = r.was_sound;
          apart = apart_set s.views id v w at (λ _. refl) r.apart;
          each = subst (λ (p : ℕ × List ℕ × List ℕ). (j : ℕ) (z : View V E) → get_elem? (set s.views id w) j ≡ some z → z.number ≢ 0 → Q p.0 p.1 p.2 z) (λ j. (sym now j, sym here j, sym also j)) each';
          met = λ k es e. let m = r.met k es e in record { events = m.events; seen = m.seen; listed = m.listed; task_word = ap (λ l. get_or l (line_of (k + 2)) 0) also ∙ m.task_word };
          unmade = λ k more. let m = r.unmade k more in record { events = m.events; connected = m.connected; listed = m.listed; task_word = ap (λ l. get_or l (line_of k) 0) also ∙ m.task_word };
          zero_number = r.zero_number;
        },
        refl,
      )

  pub read_as : (g : Holding V) (n k at r : ℕ) (v : View V E) → at ≡ region_word k → v.holding ≡ g → v.number ≡ n → ((b : V) (ws : List ℕ) → v.holding ≡ Holds b ws → OutsideOtherFills v.number (K.tasks b) (at - line_words) → r ≡ get_or ws (at - line_words) 0) → LoadedWord K n k r g
  read_as Free n k at r v here e e' h = tt
  read_as (Holds b ws) n k at r v here e e' h = λ out. let back : k ≡ at - line_words = omega (arith, here) in
      h b ws e (subst (λ (p : ℕ × ℕ). OutsideOtherFills p.0 (K.tasks b) p.1) (λ i. (sym e' i, back i)) out) ∙ ap (λ i. get_or ws i 0) (sym back)

  -- the seat ends its stream
  pub clears_step : (slots id : ℕ) (me : M) (serial : ℕ) → 0 < me.0.number → me.0.holding ≡ Free → me.0.task ≡ Stream serial → Allows Rule slots id me (task_word size me.0.number) (λ _. 0) (λ _. clears_task_word K (step slots (task_word size me.0.number) 0 0 none) me 0)
  clears_step slots id me serial live free task s r _ at _ =
      let v : View V E = me.0 in
      let base : V = r.base in
      let n : ℕ = v.number in
      let i : ℕ = task_word size n in
      let ws : List ℕ = region size s.words in
      let ms : List ℕ = task_words s in
      let ms' : List ℕ = set ms (line_of n) 0 in
      let mine : SeatRule K size (word s) ws ms base r.registry v = r.each id v at (λ z. absurd (omega arith)) in
      let w : View V E = after_stream v in
      let ts = listed_for n (K.tasks base) in
      let ts_is : ts ≡ own n (Stream serial) v.blocks = listed_live n (Stream serial) v.blocks ts (subst (λ (t : Task). IsListed n t v.blocks ts) task mine.listed) (rest_or serial).0 in
      let now : get_or (set s.words i 0) 0 0 ≡ word s = get_or-set_other s.words i 0 0 0 (λ e. absurd (omega arith)) in
      let here : region size (set s.words i 0) ≡ ws = region_high size i 0 s.words (omega arith) in
      let also : task_words_of size (set s.words i 0) ≡ ms' = task_words_set size n 0 s.words in
      let Q : ℕ → List ℕ → List ℕ → View V E → Type 0 = λ y l ns z. SeatRule K size y l ns base r.registry z in
      let own_fits : Q (word s) ws ms' w = record {
        sized = mine.sized;
        numbered = mine.numbered;
        first = mine.first;
        unmet = mine.unmet;
        seen = mine.seen;
        was_sound = mine.was_sound;
        fixed = mine.fixed;
        events = mine.events;
        connected = mine.connected;
        listed = inr (refl, (serial, v.blocks, ts_is));
        task_word = zero_set ms (line_of n);
        word_set = λ _. refl;
        goes_on = λ e. absurd (true≢false (sym e));
        idle = λ k ne h. let q = mine.idle k ne h in (q.0, zero_stays ms (line_of n) (line_of k) q.1);
        none_found = mine.none_found;
        holding = mine.holding;
        content = subst (λ (g : Holding V). TaskRule K base ws g Rest [] []) (sym free) tt;
      } in
      let each' : (j : ℕ) (z : View V E) → get_elem? (set s.views id w) j ≡ some z → z.number ≢ 0 → Q (word s) ws ms' z =
      each_set (Q (word s) ws ms') s.views id w (λ _. own_fits)
      (λ j z other e alive. let f = r.each j z e alive in
      let apart : z.number ≢ n = λ same. other (r.apart j id z v e at same alive) in
      let off : line_of z.number ≢ line_of n = λ same. apart (omega arith) in
      other_words (word s) ws ms ms' base r.registry z f (get_or-set_other ms (line_of n) (line_of z.number) 0 0 off ∙ f.task_word) (λ k ne h. let q = f.idle k ne h in (q.0, zero_stays ms (line_of n) (line_of k) q.1))) in (
        w,
        keeps,
        tt,
        record {
          base = base;
          registry = r.registry;
          few = r.few;
          width = length-set s.words i 0 ∙ r.width;
          in_slot = λ z. let h = r.in_slot (sym now ∙ z) in (h.0, subst (λ (l : List ℕ). K.sound l base) (sym here) h.1);
          out_of_slot = λ up. away_set s r id v w at refl (λ z. up (now ∙ z)) (get_or (set s.words i 0) 0 0) now;
          was_sound = r.was_sound;
          apart = apart_set s.views id v w at (λ _. refl) r.apart;
          each = subst (λ (p : ℕ × List ℕ × List ℕ). (j : ℕ) (z : View V E) → get_elem? (set s.views id w) j ≡ some z → z.number ≢ 0 → Q p.0 p.1 p.2 z) (λ j. (sym now j, sym here j, sym also j)) each';
          met = λ k es e. let m = r.met k es e in record { events = m.events; seen = m.seen; listed = m.listed; task_word = ap (λ l. get_or l (line_of (k + 2)) 0) also ∙ zero_stays ms (line_of n) (line_of (k + 2)) m.task_word };
          unmade = λ k more. let m = r.unmade k more in record { events = m.events; connected = m.connected; listed = m.listed; task_word = ap (λ l. get_or l (line_of k) 0) also ∙ zero_stays ms (line_of n) (line_of k) m.task_word };
          zero_number = r.zero_number;
        },
        refl,
      )

  -- the holder sets its own task word
  pub sets_step : (slots id : ℕ) (me : M) (b : V) (us : List ℕ) → 0 < me.0.number → me.0.number ≤ 65 → me.0.holding ≡ Holds b us → Allows Rule slots id me (task_word size me.0.number) (λ _. 1) (λ _. sets_task_word K (step slots (task_word size me.0.number) 1 0 none) me 1)
  sets_step slots id me b us live few holds s r _ at _ =
      let v : View V E = me.0 in
      let base : V = r.base in
      let n : ℕ = v.number in
      let i : ℕ = task_word size n in
      let ws : List ℕ = region size s.words in
      let ms : List ℕ = task_words s in
      let ms' : List ℕ = set ms (line_of n) 1 in
      let mine : SeatRule K size (word s) ws ms base r.registry v = r.each id v at (λ z. absurd (omega arith)) in
      let g = holding_is (word s) ws us base b n v.holding holds mine.holding in
      let width = r.width in
      let w : View V E = with_word_set v true in
      let not_free : v.holding ≡ Free → ⊥ = λ e. holds_free b us (sym holds ∙ e) in
      let now : get_or (set s.words i 1) 0 0 ≡ word s = get_or-set_other s.words i 0 1 0 (λ e. absurd (omega arith)) in
      let here : region size (set s.words i 1) ≡ ws = region_high size i 1 s.words (omega arith) in
      let also : task_words_of size (set s.words i 1) ≡ ms' = task_words_set size n 1 s.words in
      let long : length ms ≡ length s.words - region_word size = length-drop (region_word size) s.words in
      let Q : ℕ → List ℕ → List ℕ → View V E → Type 0 = λ y l ns z. SeatRule K size y l ns base r.registry z in
      let own_fits : Q (word s) ws ms' w = record {
        sized = mine.sized;
        numbered = mine.numbered;
        first = mine.first;
        unmet = mine.unmet;
        seen = mine.seen;
        was_sound = mine.was_sound;
        fixed = mine.fixed;
        events = mine.events;
        connected = mine.connected;
        listed = mine.listed;
        task_word = get_or-set_same ms (line_of n) 1 0 (omega arith);
        word_set = λ e. absurd (not_free e);
        goes_on = λ _. refl;
        idle = λ k ne h. let q = mine.idle k ne h in let up : 0 < k = q.0 in let off : line_of k ≢ line_of n = λ same. ne (omega arith) in (up, get_or-set_other ms (line_of n) (line_of k) 1 0 off ∙ q.1);
        none_found = λ e. absurd (not_free e);
        holding = mine.holding;
        content = mine.content;
      } in
      let each' : (j : ℕ) (z : View V E) → get_elem? (set s.views id w) j ≡ some z → z.number ≢ 0 → Q (word s) ws ms' z =
      each_set (Q (word s) ws ms') s.views id w (λ _. own_fits)
      (λ j z other e alive. let f = r.each j z e alive in
      let apart : z.number ≢ n = λ same. other (r.apart j id z v e at same alive) in
      let off : line_of z.number ≢ line_of n = λ same. apart (omega arith) in
      let no_idle : z.found ≡ [] = f.none_found (idle_else (word s) z.number ws base z.holding (λ e. apart (e ∙ g.0)) f.holding) in
      other_words (word s) ws ms ms' base r.registry z f (get_or-set_other ms (line_of n) (line_of z.number) 1 0 off ∙ f.task_word) (λ k ne h. absurd (not_in_none k (subst (λ q. FoundIdle (idle_of q) k) no_idle h)))) in (
        w,
        keeps,
        tt,
        record {
          base = base;
          registry = r.registry;
          few = r.few;
          width = length-set s.words i 1 ∙ r.width;
          in_slot = λ z. let h = r.in_slot (sym now ∙ z) in (h.0, subst (λ (l : List ℕ). K.sound l base) (sym here) h.1);
          out_of_slot = λ up. away_set s r id v w at refl (λ z. up (now ∙ z)) (get_or (set s.words i 1) 0 0) now;
          was_sound = r.was_sound;
          apart = apart_set s.views id v w at (λ _. refl) r.apart;
          each = subst (λ (p : ℕ × List ℕ × List ℕ). (j : ℕ) (z : View V E) → get_elem? (set s.views id w) j ≡ some z → z.number ≢ 0 → Q p.0 p.1 p.2 z) (λ j. (sym now j, sym here j, sym also j)) each';
          met = λ k es e. let m = r.met k es e in
              let apart : k + 2 ≢ n = λ same. let front : 1 < n = omega arith in let back : n - 2 ≡ k = omega arith in
              let none_there : get_elem? r.registry k ≡ some None = subst (λ (i : ℕ). get_elem? r.registry i ≡ some None) back (mine.unmet front) in absurd (cc) in
              let off : line_of (k + 2) ≢ line_of n = λ same. apart (omega arith) in
              record { events = m.events; seen = m.seen; listed = m.listed; task_word = ap (λ l. get_or l (line_of (k + 2)) 0) also ∙ (get_or-set_other ms (line_of n) (line_of (k + 2)) 1 0 off ∙ m.task_word) };
          unmade = λ k more. let m = r.unmade k more in let small = mine.numbered in
              let off : line_of k ≢ line_of n = λ same. absurd (omega arith) in
              record { events = m.events; connected = m.connected; listed = m.listed; task_word = ap (λ l. get_or l (line_of k) 0) also ∙ (get_or-set_other ms (line_of n) (line_of k) 1 0 off ∙ m.task_word) };
          zero_number = r.zero_number;
        },
        refl,
      )

  -- the rule after the holder read a task word, which says what it found of the seats that it read so far
  found_on : (s : St) (r : Rule s) (i id : ℕ) (cs : List (ℕ × Option V)) (v : View V E) (f : FoundWord) → get_elem? s.views id ≡ some v → 0 < v.number → (v.holding ≡ Free → ⊥)
      → ((k : ℕ) → k ≢ v.number → FoundIdle (idle_of (f ∷ v.found)) k → (0 < k) × (get_or (task_words s) (line_of k) 0 ≡ 0)) → Rule (stepped s i (get_or s.words i 0) id cs (with_found v (f ∷ v.found)) keeps)
  found_on s r i id cs v f at live not_free idle =
      let mine = r.each id v at (λ z. absurd (omega arith)) in
      let w : View V E = with_found v (f ∷ v.found) in
      let Q : View V E → Type 0 = λ z. SeatRule K size (word s) (region size s.words) (task_words s) r.base r.registry z in
      let own_fits : Q w = record {
        sized = mine.sized;
        numbered = mine.numbered;
        first = mine.first;
        unmet = mine.unmet;
        seen = mine.seen;
        was_sound = mine.was_sound;
        fixed = mine.fixed;
        events = mine.events;
        connected = mine.connected;
        listed = mine.listed;
        task_word = mine.task_word;
        word_set = λ e. absurd (not_free e);
        goes_on = mine.goes_on;
        idle = idle;
        none_found = λ e. absurd (not_free e);
        holding = mine.holding;
        content = mine.content;
      } in
      view_on s r i id cs v w at refl own_fits

  -- the holder reads a task word
  pub reads_word_step : (slots id : ℕ) (me : M) (b : V) (us : List ℕ) (m : ℕ) → 0 < me.0.number → 0 < m → me.0.holding ≡ Holds b us → Allows Rule slots id me (task_word size m) (λ x. x) (reads_task_word K (step slots (task_word size m) 0 0 none) me)
  reads_word_step slots id me b us m live some_seat holds s r _ at _ =
      let v : View V E = me.0 in
      let ms : List ℕ = task_words s in
      let x : ℕ = get_or s.words (task_word size m) 0 in
      let mine : SeatRule K size (word s) (region size s.words) ms r.base r.registry v = r.each id v at (λ z. absurd (omega arith)) in
      let not_free : v.holding ≡ Free → ⊥ = λ e. holds_free b us (sym holds ∙ e) in
      let sized = mine.sized in
      let same : (n : ℕ) → task_word size m ≡ task_word v.size n → m ≡ n = λ n e. omega arith in
      let after : ℕ → Bool → M = λ n on. (with_found v (found_word n on ∷ v.found), me.1) in
      dite (ℕ_discrete x 0)
      (λ zero_there.
      let f : FoundWord = found_word m false in (
        with_found v (f ∷ v.found),
        keeps,
        tt,
        found_on s r (task_word size m) id me.1 v f at live not_free (λ k other h. dite (ℕ_discrete k m)
            (λ is. let up : 0 < k = omega arith in (up, ap (λ y. get_or ms (line_of y) 0) is ∙ (task_words_at size m s.words ∙ zero_there)))
            (λ ne. mine.idle k other (λ miss. h (ne, miss)))),
        λ n e. ((λ _. ap (λ (k : ℕ). after k false) (same n e)), (λ not. absurd (not zero_there))),
      ))
      (λ not.
      let f : FoundWord = found_word m true in
      (with_found v (f ∷ v.found), keeps, tt, found_on s r (task_word size m) id me.1 v f at live not_free mine.idle, λ n e. ((λ z. absurd (not z)), (λ _. ap (λ (k : ℕ). after k true) (same n e)))))

  -- what the holder knows after it read the task word of the seat n
  pub found_after : (r n : ℕ) (m m' : M) → (r ≡ 0 → m' ≡ (with_found m.0 (found_word n false ∷ m.0.found), m.1)) × (r ≢ 0 → m' ≡ (with_found m.0 (found_word n true ∷ m.0.found), m.1)) → m' ≡ (with_found m.0 (found_word n (not (eqb r 0)) ∷ m.0.found), m.1)
  found_after r n m m' h = dite (ℕ_discrete r 0)
      (λ e. subst (λ (b : Bool). m' ≡ (with_found m.0 (found_word n (not b) ∷ m.0.found), m.1)) (sym (eq-eqb r 0 e)) (h.0 e))
      (λ ne. subst (λ (b : Bool). m' ≡ (with_found m.0 (found_word n (not b) ∷ m.0.found), m.1)) (sym (ne_eqb r 0 ne)) (h.1 ne))

  sets_at : (slots id : ℕ) (me : M) (g : Holding V) → 0 < me.0.number → me.0.number ≤ 65 → me.0.holding ≡ g → HoldsTurn g → Allows Rule slots id me (task_word size me.0.number) (λ _. 1) (λ _. sets_task_word K (step slots (task_word size me.0.number) 1 0 none) me 1)
  sets_at slots id me Free live few e h = absurd h
  sets_at slots id me (Holds b us) live few e h = sets_step slots id me b us live few e

  pub sets_held : (slots id : ℕ) (me : M) → 0 < me.0.number → me.0.number ≤ 65 → HoldsTurn me.0.holding → Allows Rule slots id me (task_word size me.0.number) (λ _. 1) (λ _. sets_task_word K (step slots (task_word size me.0.number) 1 0 none) me 1)
  sets_held slots id me live few h = sets_at slots id me me.0.holding live few refl h

  reads_word_at : (slots id : ℕ) (me : M) (g : Holding V) (m : ℕ) → 0 < me.0.number → 0 < m → me.0.holding ≡ g → HoldsTurn g → Allows Rule slots id me (task_word size m) (λ x. x) (reads_task_word K (step slots (task_word size m) 0 0 none) me)
  reads_word_at slots id me Free m live up e h = absurd h
  reads_word_at slots id me (Holds b us) m live up e h = reads_word_step slots id me b us m live up e

  pub reads_word_held : (slots id : ℕ) (me : M) (m : ℕ) → 0 < me.0.number → 0 < m → HoldsTurn me.0.holding → Allows Rule slots id me (task_word size m) (λ x. x) (reads_task_word K (step slots (task_word size m) 0 0 none) me)
  reads_word_held slots id me m live up h = reads_word_at slots id me me.0.holding m live up refl h
