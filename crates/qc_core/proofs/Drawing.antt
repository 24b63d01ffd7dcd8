-- The blocks of a start, one after another.
use Rattle.std.proofs.Common.{◌≡◌, ℕ, zero, suc, ◌+◌, ◌<◌, ◌≤◌, eqb, eq-eqb, Bool, true, false, List, [], ◌∷◌, ◌++◌, map, length, take, drop, get_or, refl, sym, ap, subst, ◌∙◌, arith, append_assoc, append-nil, length-append}
use Rattle.std.specs.Prelude.{◌||◌, Option, Contains, Result, Ok, Err, IfOk}
use Rattle.std.specs.Result.{IfErr, IsErrAnd}
use Rattle.std.specs.List.{AllByRecursion}
use Rattle.std.proofs.lemmas.List.{map-append, take_all, take-append-drop}
use Rattle.qc_types.specs.declared.names.TableName.{TableName}
use Rattle.qc_types.specs.declared.options.Options.{Options}
use Rattle.qc_types.specs.Blocks.{least_block, raised}
use Rattle.qc_model.specs.declared.events.Event.{Event}
use Rattle.qc_model.specs.Journal.{Journal}
use Rattle.qc_model.specs.Licence.{LacksRoom, unit_words, words_of_bytes}
use Rattle.qc_model.specs.Needs.{is_need, PruneHasNeed}
use Rattle.qc_tiles.specs.declared.blocks.Block.{Block}
use Rattle.qc_tiles.specs.declared.blocks.NoTile.{NoTile}
use Rattle.qc_tiles.specs.Tiles.{largest_free}
use Rattle.qc_chain.specs.Chains.{AreHandedOut, after_release}
use Rattle.qc_dir.specs.declared.tables.TableBlock.{TableBlock}
use Rattle.qc_sound.proofs.Handed.{times, times_append}
use Rattle.qc_core.specs.declared.reserved_blocks.ReservedBlocks.{ReservedBlocks}
use Rattle.qc_core.specs.declared.start_blocks.Taken.{Taken}
use Rattle.qc_core.specs.declared.server_state.ServerState.{ServerState}
use Rattle.qc_core.specs.EntryRemoval.{table_blocks}
use Rattle.qc_core.specs.BlocksReserved.{IsInHand}
use Rattle.qc_core.specs.Eviction.{PrunesMany}
use Rattle.qc_core.specs.EntryStart.{TakesOne, Takes, needs_for}
use Rattle.qc_core.specs.Allocation.{holds, starts, next_of, IsStarting, KeepsRoom, MayTakeOne, PrunesSome, HasNone, TakesKeeping, GivesBlocks, MayTake, TakesTables, HaveSizes, TakesPair, TakesAll, Stops}
use Rattle.qc_core.proofs.FillTasks.{pruned_after}
use Rattle.qc_core.proofs.Handing.{hand_takes, hand_few}
use Rattle.qc_core.proofs.Keeping.{reheld}
use Rattle.qc_core.proofs.GivingBack.{held_out, given_whole}
use Rattle.qc_core.proofs.Leaving.{release_append}
use Rattle.qc_core.proofs.TheirBlocks.{push_only, gives_on}

-- ---- needs that a start has

pub unit_need : (o : Options) (key : List ℕ) → least_block ≤ unit_words o → is_need o key (unit_words o) ≡ true
unit_need o key least = by (eqb (unit_words o) least_block) (eqb (unit_words o) (raised (unit_words o))) (eq-eqb (unit_words o) (raised (unit_words o)) (omega (arith, least)))
  where
    by : (a b : Bool) → b ≡ true → ((a || b) || eqb (unit_words o) (raised (words_of_bytes (length key)))) ≡ true
    by true b h = refl
    by false b h = ap (λ c. c || eqb (unit_words o) (raised (words_of_bytes (length key)))) h

pub text_need : (o : Options) (key : List ℕ) → is_need o key (raised (words_of_bytes (length key))) ≡ true
text_need o key = by (eqb n least_block || eqb n (raised (unit_words o))) (eqb n n) (eq-eqb n n refl)
  where
    n : ℕ
    n = raised (words_of_bytes (length key))

    by : (a b : Bool) → b ≡ true → (a || b) ≡ true
    by true b h = refl
    by false b h = h

-- ---- needs joined

pub takes_join : (tables : List TableName) (xs ys : List ℕ) (s m t : ServerState) (bs cs : List Block) → Takes tables xs s bs m → Takes tables ys m cs t → Takes tables (xs ++ ys) s (bs ++ cs) t
takes_join tables [] ys s m t [] cs h k = subst (λ z. Takes tables ys z cs t) h k
takes_join tables [] ys s m t (b ∷ bs) cs h k = absurd h
takes_join tables (x ∷ xs) ys s m t [] cs h k = absurd h
takes_join tables (x ∷ xs) ys s m t (b ∷ bs) cs h k = (h.0, h.1, takes_join tables xs ys h.0 m t bs cs h.2 k)

pub takes_options : (tables : List TableName) (xs : List ℕ) (s t : ServerState) (bs : List Block) → Takes tables xs s bs t → t.options ≡ s.options
takes_options tables [] s t [] h = ap (λ (x : ServerState). x.options) h
takes_options tables [] s t (b ∷ bs) h = absurd h
takes_options tables (x ∷ xs) s t [] h = absurd h
takes_options tables (x ∷ xs) s t (b ∷ bs) h = takes_options tables xs h.0 t bs h.2 ∙ one_options tables x s b h.0 h.1
  where
    one_options : (tables : List TableName) (x : ℕ) (s : ServerState) (b : Block) (t : ServerState) → TakesOne tables x s b t → t.options ≡ s.options
    one_options tables x s b t o = ap (λ (x : ServerState). x.options) o.server ∙ (pruned_after tables x o.count s o.mid o.prunes).options

-- ---- places in a list

drop_at_place : {A : Type 0} (l : List A) (n : ℕ) (x : A) → n < length l → x ≡ get_or l n x → drop n l ≡ x ∷ drop (n + 1) l
drop_at_place [] n x h e = absurd (omega (arith, h))
drop_at_place (y ∷ l) zero x h e = let z : 0 + 1 ≡ suc 0 = omega arith in ap (λ w. w ∷ l) (sym e)
drop_at_place (y ∷ l) (suc n) x h e = let z : suc n + 1 ≡ suc (n + 1) = omega arith in drop_at_place l n x (omega (arith, h)) e ∙ ap (λ k. x ∷ drop k (y ∷ l)) (sym z)

take_at_place : {A : Type 0} (l : List A) (n : ℕ) (x : A) → n < length l → x ≡ get_or l n x → take (n + 1) l ≡ take n l ++ x ∷ []
take_at_place [] n x h e = absurd (omega (arith, h))
take_at_place (y ∷ l) zero x h e = let z : 0 + 1 ≡ suc 0 = omega arith in ap (λ k. take k (y ∷ l)) z ∙ (ap (λ k. y ∷ k) (none l) ∙ ap (λ w. w ∷ []) (sym e))
  where
    none : {A : Type 0} (l : List A) → take 0 l ≡ []
    none [] = refl
    none (x ∷ l) = refl
take_at_place (y ∷ l) (suc n) x h e = let z : suc n + 1 ≡ suc (n + 1) = omega arith in ap (λ k. take k (y ∷ l)) z ∙ ap (λ k. y ∷ k) (take_at_place l n x (omega (arith, h)) e)

drop_all : {A : Type 0} (n : ℕ) (l : List A) → length l ≤ n → drop n l ≡ []
drop_all zero [] h = refl
drop_all (suc n) [] h = refl
drop_all zero (x ∷ l) h = absurd (omega (arith, h))
drop_all (suc n) (x ∷ l) h = drop_all n l (omega (arith, h))

-- ---- a table

-- so many of the tables have got their blocks
pub record Drawing (next : Option Event) (words : List ℕ) (missing : List TableName) (n : ℕ) (before hand : ReservedBlocks) (old now : ServerState) : Type 0 where
  pub blocks : List Block
  pub takes : Takes before.tables (map (λ t. least_block) (take n missing)) old blocks now
  pub starting : IsStarting next words (drop n missing) [] hand now
  pub tables : hand.tables ≡ before.tables
  pub room : KeepsRoom old now
  pub gives : GivesBlocks (take n missing) blocks before hand old now

pub drawing_start : (missing : List TableName) (bytes : ℕ) (hand : ReservedBlocks) (s : ServerState) (u : MayTake missing bytes hand s) → Drawing (next_of missing bytes hand s u) u.words missing 0 hand hand s s
drawing_start missing bytes hand s u = record {
  blocks = [];
  takes = refl;
  starting = u.starting;
  tables = refl;
  room = λ k low. low;
  gives = record { given = []; named = refl; taken = refl; only = λ all h. subst (λ (ts : List TableBlock). AllByRecursion (Contains ts) (hand.fresh ++ s.dir.tables)) (sym (append-nil all)) h };
}

abbrev pub may_take_table : (next : Option Event) (words : List ℕ) (t : TableName) (rest : List TableName) (hand : ReservedBlocks) (s : ServerState) → IsStarting next words (t ∷ rest) [] hand s → PruneHasNeed s.options s.journal.events least_block next → MayTakeOne least_block hand s
may_take_table next words t rest hand s st needs = record { next = next; words = words; missing = t ∷ rest; others = []; starting = st; least = omega arith; needs = needs; few = omega arith; small = tt }

module _ (next : Option Event) (words : List ℕ) (t : TableName) (rest : List TableName) (hand : ReservedBlocks) (s : ServerState) (b : Block) (st : IsStarting next words (t ∷ rest) (b ∷ []) hand s) (low : b.words ≤ 127) where
  abbrev more : ReservedBlocks
  more = record { tables = hand.tables; fresh = hand.fresh ++ record { table = t; block = b } ∷ [] }

  in_hand : IsInHand more rest s.dir.tables
  in_hand = hand_takes hand.tables hand.fresh (record { table = t; block = b }) rest s.dir.tables (record { few = st.hand.few; one = st.hand.one; none = st.hand.none })

  pub push_room : length hand.fresh < 8
  push_room = let few = hand_few more rest s.dir.tables in_hand in omega (arith, few, length-append hand.fresh (record { table = t; block = b } ∷ []))

  pub table_in_hand : IsStarting next words rest [] more s
  table_in_hand =
      let held = table_blocks more.fresh ++ [] in
      record {
        names = st.names;
        whole = reheld (holds next (table_blocks hand.fresh ++ b ∷ [])) held st.names words s st.whole (λ c.
            omega (
              arith,
              times_append c (table_blocks more.fresh) [],
              ap (times c) (map-append (λ (t : TableBlock). t.block) hand.fresh (record { table = t; block = b } ∷ [])),
            ));
        hand = in_hand;
        small = all_push (λ (t : TableBlock). t.block.words ≤ 127) hand.fresh (record { table = t; block = b }) st.small low;
      }
    where
      all_push : (P : TableBlock → Type 0) (xs : List TableBlock) (b : TableBlock) → AllByRecursion P xs → P b → AllByRecursion P (xs ++ b ∷ [])
      all_push P [] b h k = (k, tt)
      all_push P (x ∷ xs) b h k = (h.0, all_push P xs b h.1 k)

-- ---- the tables, one after another

module _ (next : Option Event) (words : List ℕ) (missing : List TableName) (n : ℕ) (before hand : ReservedBlocks) (old now : ServerState) (d : Drawing next words missing n before hand old now) (t : TableName) (inside : n < length missing) (is : t ≡ get_or missing n t) where
  left_is : drop n missing ≡ t ∷ drop (n + 1) missing
  left_is = drop_at_place missing n t inside is

  pub next_table : IsStarting next words (t ∷ drop (n + 1) missing) [] hand now
  next_table = subst (λ l. IsStarting next words l [] hand now) left_is d.starting

  needs_join : map (λ t. least_block) (take (n + 1) missing) ≡ map (λ t. least_block) (take n missing) ++ least_block ∷ []
  needs_join = ap (map (λ t. least_block)) (take_at_place missing n t inside is) ∙ map-append (λ t. least_block) (take n missing) (t ∷ [])

  pub draws_on : (after : ReservedBlocks) (b : Block) (new : ServerState) → TakesKeeping least_block next words (t ∷ drop (n + 1) missing) [] hand after now b new → Drawing next words missing (n + 1) before (record { tables = after.tables; fresh = after.fresh ++ record { table = t; block = b } ∷ [] }) old new
  draws_on after b new k = record {
    blocks = d.blocks ++ b ∷ [];
    takes = subst (λ l. Takes before.tables l old (d.blocks ++ b ∷ []) new) (sym needs_join) (takes_join before.tables (map (λ t. least_block) (take n missing)) (least_block ∷ []) old now new d.blocks (b ∷ []) d.takes (new, subst (λ ts. TakesOne ts least_block now b new) d.tables k.takes, refl));
    starting = table_in_hand next words t (drop (n + 1) missing) after new b k.starting (omega (arith, k.small));
    tables = k.tables ∙ d.tables;
    room = λ j low. k.room j (d.room j low);
    gives =
        let x : TableBlock = record { table = t; block = b } in
        let g = d.gives in
        record {
          given = g.given ++ x ∷ [];
          named = map-append (λ (y : TableBlock). y.table) g.given (x ∷ []) ∙ (ap (λ l. l ++ t ∷ []) g.named ∙ sym (take_at_place missing n t inside is));
          taken = ap (λ l. l ++ b ∷ []) g.taken ∙ sym (map-append (λ (y : TableBlock). y.block) g.given (x ∷ []));
          only = λ all h. push_only all g.given x after.fresh new.dir.tables (k.keeps (all ++ g.given) (g.only all h));
        };
  }

  pub draw_room : (after : ReservedBlocks) (b : Block) (new : ServerState) → TakesKeeping least_block next words (t ∷ drop (n + 1) missing) [] hand after now b new → length after.fresh < 8
  draw_room after b new k = push_room next words t (drop (n + 1) missing) after new b k.starting (omega (arith, k.small))

  pub needs_split : map (λ t. least_block) missing ≡ map (λ t. least_block) (take n missing) ++ least_block ∷ map (λ t. least_block) (drop (n + 1) missing)
  needs_split = ap (map (λ t. least_block)) (sym (take-append-drop n missing)) ∙ (map-append (λ t. least_block) (take n missing) (drop n missing) ∙ ap (λ l. map (λ t. least_block) (take n missing) ++ map (λ t. least_block) l) left_is)

-- all are there
pub draws_all : (next : Option Event) (words : List ℕ) (missing : List TableName) (n : ℕ) (before hand : ReservedBlocks) (old now : ServerState) → n ≡ length missing → Drawing next words missing n before hand old now → TakesTables next words missing before hand old now
draws_all next words missing n before hand old now all d = record {
  blocks = d.blocks;
  takes = subst (λ l. Takes before.tables (map (λ t. least_block) l) old d.blocks now) (take_all n missing (omega (arith, all))) d.takes;
  starting = subst (λ l. IsStarting next words l [] hand now) (drop_all n missing (omega (arith, all))) d.starting;
  tables = d.tables;
  room = d.room;
  gives = subst (λ l. GivesBlocks l d.blocks before hand old now) (take_all n missing (omega (arith, all))) d.gives;
}

-- ---- a need gets none

module _ (done : List ℕ) (need : ℕ) (rest : List ℕ) (next : Option Event) (words : List ℕ) (missing : List TableName) (others : List Block) (before hand : ReservedBlocks) (tables : List TableName) (same : before.tables ≡ tables) (old mid last : ServerState) (blocks : List Block) (e : NoTile) (takes : Takes tables done old blocks mid) (some : PrunesSome need next words missing others before hand mid last) (none : HasNone need last e) (least : least_block ≤ need) (room : KeepsRoom old mid) where
  size_is : e ≡ record { need = need; largest = largest_free last.tiles }
  size_is = none.lacks.answer

  -- these blocks were given back, and others are held still
  pub stops : (given held : List Block) → ((b : Block) → times b (table_blocks hand.fresh ++ others) ≡ times b held + times b given) → Stops tables next words (done ++ need ∷ rest) held old (record last { tiles = after_release given last.tiles }) e
  stops given held split = record {
    short = record { done = done; need = need; rest = rest; split = refl; blocks = blocks; mid = mid; takes = takes; count = some.count; last = last; prunes = subst (λ ts. PrunesMany ts need some.count mid last) same some.prunes; lacks = none.lacks; given = given; server = refl };
    licensed = subst (λ (x : NoTile). LacksRoom last.options last.journal.events x.need x.largest) (sym size_is) none.licensed;
    least = subst (λ (x : NoTile). least_block ≤ x.need) (sym size_is) least;
    names = some.starting.names;
    whole = given_whole (holds next (table_blocks hand.fresh ++ others)) held given some.starting.names words last some.starting.whole split;
    room = λ k low. some.room k (room k low);
  }

  pub given_out : (given held : List Block) → ((b : Block) → times b (table_blocks hand.fresh ++ others) ≡ times b held + times b given) → AreHandedOut last.tiles given
  given_out given held split = held_out (holds next (table_blocks hand.fresh ++ others)) held given some.starting.names words last some.starting.whole split

-- blocks that are held still are given back
pub stops_more : (tables : List TableName) (next : Option Event) (words needs : List ℕ) (held : List Block) (old s : ServerState) (e : NoTile) → Stops tables next words needs held old s e → Stops tables next words needs [] old (record s { tiles = after_release held s.tiles }) e
stops_more tables next words needs held old s e h =
    let i = h.short in
    record {
      short = record {
        done = i.done;
        need = i.need;
        rest = i.rest;
        split = i.split;
        blocks = i.blocks;
        mid = i.mid;
        takes = i.takes;
        count = i.count;
        last = i.last;
        prunes = i.prunes;
        lacks = i.lacks;
        given = i.given ++ held;
        server = (λ j. record (i.server j) { tiles = after_release held (i.server j).tiles }) ∙ (λ j. record i.last { tiles = sym (release_append i.given held i.last.tiles) j });
      };
      licensed = h.licensed;
      least = h.least;
      names = h.names;
      whole = given_whole (holds next held) [] held h.names words s h.whole (λ b. omega arith);
      room = h.room;
    }

-- needs that stand in front of these got theirs
pub stops_after : (tables : List TableName) (next : Option Event) (words front needs : List ℕ) (held : List Block) (old mid s : ServerState) (blocks : List Block) (e : NoTile) → Takes tables front old blocks mid → KeepsRoom old mid → Stops tables next words needs held mid s e
    → Stops tables next words (front ++ needs) held old s e
stops_after tables next words front needs held old mid s blocks e takes room h =
    let i = h.short in
    record {
      short = record {
        done = front ++ i.done;
        need = i.need;
        rest = i.rest;
        split = ap (λ l. front ++ l) i.split ∙ sym (append_assoc front i.done (i.need ∷ i.rest));
        blocks = blocks ++ i.blocks;
        mid = i.mid;
        takes = takes_join tables front i.done old mid i.mid blocks i.blocks takes i.takes;
        count = i.count;
        last = i.last;
        prunes = i.prunes;
        lacks = i.lacks;
        given = i.given;
        server = i.server;
      };
      licensed = h.licensed;
      least = h.least;
      names = h.names;
      whole = h.whole;
      room = λ k low. h.room k (room k low);
    }

-- and none of those behind matters
pub stops_before : (tables : List TableName) (next : Option Event) (words needs more : List ℕ) (held : List Block) (old s : ServerState) (e : NoTile) → Stops tables next words needs held old s e → Stops tables next words (needs ++ more) held old s e
stops_before tables next words needs more held old s e h =
    let i = h.short in
    record {
      short = record {
        done = i.done;
        need = i.need;
        rest = i.rest ++ more;
        split = ap (λ l. l ++ more) i.split ∙ append_assoc i.done (i.need ∷ i.rest) more;
        blocks = i.blocks;
        mid = i.mid;
        takes = i.takes;
        count = i.count;
        last = i.last;
        prunes = i.prunes;
        lacks = i.lacks;
        given = i.given;
        server = i.server;
      };
      licensed = h.licensed;
      least = h.least;
      names = h.names;
      whole = h.whole;
      room = h.room;
    }

-- ---- the first block of the chain, and that of the key

module _ (bytes : ℕ) (hand : ReservedBlocks) (s : ServerState) (u : MayTake [] bytes hand s) where
  pub least_unit : least_block ≤ unit_words s.options
  least_unit = u.starting.whole.sound.rounded.least

  abbrev pub may_take_first : MayTakeOne (unit_words s.options) hand s
  may_take_first = record { next = next_of [] bytes hand s u; words = u.words; missing = []; others = []; starting = u.starting; least = least_unit; needs = unit_need s.options u.key least_unit; few = omega arith; small = tt }

  module _ (first : Block) (next_hand : ReservedBlocks) (mid : ServerState) (t : TakesKeeping (unit_words s.options) (next_of [] bytes hand s u) u.words [] [] hand next_hand s first mid) where
    pub mid_options : mid.options ≡ s.options
    mid_options = takes_options hand.tables (unit_words s.options ∷ []) s mid (first ∷ []) (mid, t.takes, refl)

    abbrev pub may_take_text : MayTakeOne (raised (words_of_bytes bytes)) next_hand mid
    may_take_text = record {
      next = next_of [] bytes hand s u;
      words = u.words;
      missing = [];
      others = first ∷ [];
      starting = t.starting;
      least = omega arith;
      needs = subst (λ n. is_need mid.options u.key (raised (words_of_bytes n)) ≡ true) u.long (text_need mid.options u.key);
      few = omega arith;
      small = (subst (λ (o : Options). first.words ≤ unit_words o + 63) (sym mid_options) (omega (arith, t.small, least_unit)), tt);
    }

    pub pair_so : (text : Block) (after : ReservedBlocks) (new : ServerState) → TakesKeeping (raised (words_of_bytes bytes)) (next_of [] bytes hand s u) u.words [] (first ∷ []) next_hand after mid text new
        → TakesPair (next_of [] bytes hand s u) u.words bytes hand after s (record { first = first; text = text }) new
    pair_so text after new q = record {
      takes = (mid, t.takes, (new, subst (λ ts. TakesOne ts (raised (words_of_bytes bytes)) mid text new) t.tables q.takes, refl));
      sizes = record { full = omega (arith, t.large, least_unit); small = omega (arith, t.small, least_unit); few = omega (arith, q.large); fits = omega (arith, q.small) };
      starting = q.starting;
      tables = q.tables ∙ t.tables;
      room = λ k low. q.room k (t.room k low);
      keeps = λ all h. q.keeps all (t.keeps all h);
    }

-- ---- all

abbrev pub may_take_pair : (missing : List TableName) (bytes : ℕ) (hand after : ReservedBlocks) (s new : ServerState) (u : MayTake missing bytes hand s) → TakesTables (next_of missing bytes hand s u) u.words missing hand after s new → MayTake [] bytes after new
may_take_pair missing bytes hand after s new u t = record {
  who = u.who;
  number = u.number;
  key = u.key;
  words = u.words;
  long = u.long;
  short = u.short;
  starting = subst (λ ts. IsStarting (starts u.who u.number u.key ts) u.words [] [] after new) (sym t.tables) t.starting;
}

pub all_so : (missing : List TableName) (bytes : ℕ) (hand after last : ReservedBlocks) (s mid new : ServerState) (u : MayTake missing bytes hand s) (t : TakesTables (next_of missing bytes hand s u) u.words missing hand after s mid) (taken : Taken)
    → TakesPair (next_of [] bytes after mid (may_take_pair missing bytes hand after s mid u t)) u.words bytes after last mid taken new → TakesAll (next_of missing bytes hand s u) u.words missing bytes hand last s taken new
all_so missing bytes hand after last s mid new u t taken q =
    let options = takes_options hand.tables (map (λ t. least_block) missing) s mid t.blocks t.takes in
    record {
      blocks = t.blocks;
      takes = takes_join hand.tables (map (λ t. least_block) missing) (unit_words s.options ∷ raised (words_of_bytes bytes) ∷ []) s mid new t.blocks (taken.first ∷ taken.text ∷ []) t.takes
          (subst (λ (p : List TableName × Options). Takes p.0 (unit_words p.1 ∷ raised (words_of_bytes bytes) ∷ []) mid (taken.first ∷ taken.text ∷ []) new) (λ i. (t.tables i, options i)) q.takes);
      sizes = subst (λ (o : Options). HaveSizes o bytes taken) options q.sizes;
      starting = subst (λ ts. IsStarting (starts u.who u.number u.key ts) u.words [] (taken.text ∷ taken.first ∷ []) last new) t.tables q.starting;
      tables = q.tables ∙ t.tables;
      room = λ k low. q.room k (t.room k low);
      gives = gives_on missing t.blocks hand after last s mid new t.gives q.keeps;
    }

-- ---- errors that are passed on

pub err_same : {T : Type 0} (r : Result T NoTile) (t : NoTile) (P : NoTile → Type 0) → IsErrAnd r (λ e. e ≡ t) → P t → IfErr r P
err_same (Ok b) t P h k = tt
err_same (Err e) t P h k = subst P (sym h) k

pub ok_weaker : {T : Type 0} (r : Result T NoTile) (P Q : T → Type 0) → ((x : T) → P x → Q x) → IfOk r P → IfOk r Q
ok_weaker (Ok x) P Q f h = f x h
ok_weaker (Err e) P Q f h = tt

pub err_weaker : {T : Type 0} (r : Result T NoTile) (P Q : NoTile → Type 0) → ((e : NoTile) → P e → Q e) → IfErr r P → IfErr r Q
err_weaker (Ok x) P Q f h = tt
err_weaker (Err e) P Q f h = f e h

-- the first block of the chain, or the key's, isn't found
pub all_stops : (missing : List TableName) (bytes : ℕ) (hand after : ReservedBlocks) (s mid new : ServerState) (u : MayTake missing bytes hand s) (t : TakesTables (next_of missing bytes hand s u) u.words missing hand after s mid) (held : List Block) (e : NoTile)
    → Stops after.tables (next_of [] bytes after mid (may_take_pair missing bytes hand after s mid u t)) u.words (unit_words mid.options ∷ raised (words_of_bytes bytes) ∷ []) held mid new e → Stops hand.tables (next_of missing bytes hand s u) u.words (needs_for s.options missing bytes) held s new e
all_stops missing bytes hand after s mid new u t held e h =
    let options = takes_options hand.tables (map (λ t. least_block) missing) s mid t.blocks t.takes in
    let same : Stops hand.tables (next_of missing bytes hand s u) u.words (unit_words s.options ∷ raised (words_of_bytes bytes) ∷ []) held mid new e =
    subst (λ (q : List TableName × Options). Stops q.0 (starts u.who u.number u.key q.0) u.words (unit_words q.1 ∷ raised (words_of_bytes bytes) ∷ []) held mid new e) (λ i. (t.tables i, options i)) h in
    stops_after hand.tables (next_of missing bytes hand s u) u.words (map (λ t. least_block) missing) (unit_words s.options ∷ raised (words_of_bytes bytes) ∷ []) held s mid new t.blocks e t.takes t.room same
