-- Entries leave one after another.
use Rattle.std.proofs.Common.{◌≡◌, ℕ, zero, suc, ◌+◌, ◌<◌, ◌≤◌, eqb, eq-eqb, eqb-true, Bool, true, false, cond, List, [], ◌∷◌, ◌++◌, map, length, drop, get_or, refl, sym, ap, subst, ◌∙◌, arith}
use Rattle.std.specs.Prelude.{not, ◌||◌, ◌==◌, Option, Some, None, slice_get, option_map, IsSomeAnd}
use Rattle.std.specs.List.{list_any, filter, AllByRecursion}
use Rattle.std.proofs.lemmas.Option.{none-some, same_Some}
use Rattle.qc_laws.specs.history.Runs.{are_distinct}
use Rattle.qc_laws.proofs.history.Serials.{both_true, opposite, neither}
use Rattle.qc_chain.specs.Chains.{Chained}
use Rattle.qc_chain.specs.Chains.{Chain as Kept}
use Rattle.qc_dir.specs.declared.entries.Entry.{Entry}
use Rattle.qc_dir.specs.declared.tables.TableBlock.{TableBlock}
use Rattle.qc_dir.specs.Directory.{IsDirectory, entry_at, has_serial, without}
use Rattle.qc_sound.specs.Moment.{Moment}
use Rattle.qc_sound.specs.steps.Leaving.{staying}
use Rattle.qc_core.specs.declared.server_state.ServerState.{ServerState}
use Rattle.qc_core.specs.Whole.{Named, stored}
use Rattle.qc_core.specs.EntryRemoval.{MayLeave, Leaves}
use Rattle.qc_core.specs.EntriesCut.{BlocksAreSound, HasSoundBlocks, LeavesAlone, LeaveInTurn, is_removed, IsCut}
use Rattle.qc_core.specs.Invalidation.{TakesOut}
use Rattle.qc_core.proofs.Emptying.{cut_none, cut_more, chain_of}
use Rattle.qc_core.proofs.Emptying.{may_leave as leaves}
use Rattle.qc_core.proofs.Seating.{none_other, found_less}

-- ---- in turn

pub in_turn : (ms ns : List ℕ) (old mid new : ServerState) → LeaveInTurn ns old mid → LeaveInTurn ms mid new → LeaveInTurn (ms ++ ns) old new
in_turn [] ns old mid new a b = subst (LeaveInTurn ns old) (sym b) a
in_turn (m ∷ ms) ns old mid new a b = (b.0, in_turn ms ns old mid b.0 a b.1, b.2)

pub turn_cut : (m : Moment) (before : List Named) (old : ServerState) → BlocksAreSound m before old → (serials : List ℕ) (new : ServerState) → LeaveInTurn serials old new → IsCut m before serials old new
turn_cut m before old h [] new same = subst (IsCut m before [] old) (sym same) (cut_none m before old h)
turn_cut m before old h (n ∷ ns) new l =
    let mid = l.0 in
    let one = l.2 in
    let k = turn_cut m before old h ns mid l.1 in
    let chain = chain_of m before ns old mid k n one.may.entry one.may.there in
    let same : one.may.held ≡ chain.0 = same_Some one.may.held chain.0 (sym one.may.begun ∙ chain.1) in
    cut_more m before ns old mid k n one.may.entry one.may.there new one.freed (subst (λ (x : Kept). Leaves n one.may.entry x one.freed mid new) same one.left) one.valid

-- an entry that is there may leave
pub may_drop : (n : ℕ) (s : ServerState) (e : Entry) → HasSoundBlocks s → entry_at n s.dir.entries ≡ Some e → MayLeave n s
may_drop n s e h there = leaves h.moment h.names [] s s (cut_none h.moment h.names s h.sound) n e there

pub one_left : (n : ℕ) (old new : ServerState) (u : MayLeave n old) → ((u : MayLeave n old) → (freed : List TableBlock) × Leaves n u.entry u.held freed old new) → IsDirectory new.dir → LeavesAlone n old new
one_left n old new u left valid = let l = left u in record { may = u; freed = l.0; left = l.1; valid = valid }

pub blocks_left : (serials : List ℕ) (old new : ServerState) → HasSoundBlocks old → LeaveInTurn serials old new → HasSoundBlocks new
blocks_left serials old new h l = let k = turn_cut h.moment h.names old h.sound serials new l in record { moment = h.moment; names = k.names; sound = k.blocks }

-- ---- the entries

pub filter_twice : {A : Type 0} (p q : A → Bool) (xs : List A) → filter (λ x. not (p x)) (filter (λ x. not (q x)) xs) ≡ filter (λ x. not (p x || q x)) xs
filter_twice p q [] = refl
filter_twice p q (x ∷ xs) =
    let rest = filter_twice p q xs in
    elim (q x) as (λ y. filter (λ z. not (p z)) (cond (not y) (x ∷ filter (λ z. not (q z)) xs) (filter (λ z. not (q z)) xs)) ≡ cond (not (p x || y)) (x ∷ filter (λ z. not (p z || q z)) xs) (filter (λ z. not (p z || q z)) xs)) [
      | true ↦ elim (p x) as (λ b. filter (λ z. not (p z)) (filter (λ z. not (q z)) xs) ≡ cond (not (b || true)) (x ∷ filter (λ z. not (p z || q z)) xs) (filter (λ z. not (p z || q z)) xs)) [ true ↦ rest | false ↦ rest ]
      | false ↦ elim (p x) as (λ b. cond (not b) (x ∷ filter (λ z. not (p z)) (filter (λ z. not (q z)) xs)) (filter (λ z. not (p z)) (filter (λ z. not (q z)) xs)) ≡ cond (not (b || false)) (x ∷ filter (λ z. not (p z || q z)) xs) (filter (λ z. not (p z || q z)) xs)) [ true ↦ rest | false ↦ ap (λ l. x ∷ l) rest ]
    ]

pub filter_all : {A : Type 0} (xs : List A) → filter (λ x. not false) xs ≡ xs
filter_all [] = refl
filter_all (x ∷ xs) = ap (λ l. x ∷ l) (filter_all xs)

pub filter_none : {A : Type 0} (p : A → Bool) (xs : List A) → list_any p xs ≡ false → filter (λ x. not (p x)) xs ≡ xs
filter_none p [] h = refl
filter_none p (x ∷ xs) h = let t = neither (p x) (list_any p xs) h in ap (λ b. cond (not b) (x ∷ filter (λ z. not (p z)) xs) (filter (λ z. not (p z)) xs)) t.0 ∙ ap (λ l. x ∷ l) (filter_none p xs t.1)

pub filter_same : {A : Type 0} (p q : A → Bool) (xs : List A) → AllByRecursion (λ x. p x ≡ q x) xs → filter (λ x. not (p x)) xs ≡ filter (λ x. not (q x)) xs
filter_same p q [] h = refl
filter_same p q (x ∷ xs) h = λ i. cond (not (h.0 i)) (x ∷ filter_same p q xs h.1 i) (filter_same p q xs h.1 i)

-- an entry with one of these serials
abbrev pub is_out : List ℕ → Entry → Bool
is_out serials e = list_any (λ n. has_serial n e) serials

pub left_entries : (serials : List ℕ) (old new : ServerState) → LeaveInTurn serials old new → new.dir.entries ≡ filter (λ e. not (is_out serials e)) old.dir.entries
left_entries [] old new same = ap (λ (s : ServerState). s.dir.entries) same ∙ sym (filter_all old.dir.entries)
left_entries (n ∷ ns) old new l =
    l.2.left.removed.entries ∙ (ap (without n) (left_entries ns old l.0 l.1) ∙ filter_twice (has_serial n) (is_out ns) old.dir.entries)

-- what is out of the plain server's entries
pub removed_stored : (serials : List ℕ) (cs : Chained) (es : List Entry) → staying (is_removed serials) (map (stored cs) es) ≡ map (stored cs) (filter (λ e. not (is_out serials e)) es)
removed_stored serials cs [] = refl
removed_stored serials cs (e ∷ es) = elim (is_out serials e) as (λ b. cond (not b) (stored cs e ∷ staying (is_removed serials) (map (stored cs) es)) (staying (is_removed serials) (map (stored cs) es)) ≡ map (stored cs) (cond (not b) (e ∷ filter (λ e. not (is_out serials e)) es) (filter (λ e. not (is_out serials e)) es))) [
  | true ↦ removed_stored serials cs es
  | false ↦ ap (λ l. stored cs e ∷ l) (removed_stored serials cs es)
]

-- an entry that passes goes, which the others don't count
pub without_passing : (p : Entry → Bool) (n : ℕ) (es : List Entry) (e : Entry) → are_distinct (map (λ e. e.serial) es) ≡ true → entry_at n es ≡ Some e → p e ≡ true → filter (λ x. not (p x)) (without n es) ≡ filter (λ x. not (p x)) es
without_passing p n [] e d there h = refl
without_passing p n (x ∷ es) e d there h =
    let parts = both_true (not (list_any (λ m. m == x.serial) (map (λ (e : Entry). e.serial) es))) (are_distinct (map (λ (e : Entry). e.serial) es)) d in
    elim (eqb x.serial n) as (λ b. eqb x.serial n ≡ b → cond b (Some x) (entry_at n es) ≡ Some e → filter (λ y. not (p y)) (cond (not b) (x ∷ without n es) (without n es)) ≡ cond (not (p x)) (x ∷ filter (λ y. not (p y)) es) (filter (λ y. not (p y)) es)) [
      | true ↦ λ q f.
          let none = none_other (λ (e : Entry). e.serial) n es (subst (λ k. list_any (λ m. m == k) (map (λ (e : Entry). e.serial) es) ≡ false) (eqb-true x.serial n q) (opposite _ parts.0)) in
          ap (filter (λ y. not (p y))) none ∙ sym (ap (λ b. cond (not b) (x ∷ filter (λ y. not (p y)) es) (filter (λ y. not (p y)) es)) (ap p (same_Some x e f) ∙ h))
      | false ↦ λ q f.
          let rest = without_passing p n es e parts.1 f h in
          elim (p x) as (λ b. cond (not b) (x ∷ filter (λ y. not (p y)) (without n es)) (filter (λ y. not (p y)) (without n es)) ≡ cond (not b) (x ∷ filter (λ y. not (p y)) es) (filter (λ y. not (p y)) es)) [ true ↦ rest | false ↦ ap (λ l. x ∷ l) rest ]
    ] refl there

pub fewer : (n : ℕ) (old new : ServerState) (e : Entry) → HasSoundBlocks old → entry_at n old.dir.entries ≡ Some e → LeavesAlone n old new → length new.dir.entries < length old.dir.entries
fewer n old new e h there l =
    let less : length new.dir.entries + 1 ≡ length old.dir.entries = ap (λ (es : List Entry). length es + 1) l.left.removed.entries ∙ found_less (λ (e : Entry). e.serial) n old.dir.entries e h.sound.serials there in
    omega (arith, less)

-- ---- the first entry

pub first_there : (es : List Entry) (n : ℕ) → option_map (λ (e : Entry). e.serial) (slice_get es 0) ≡ Some n → (e : Entry) × (entry_at n es ≡ Some e)
first_there [] n h = absurd (none-some n h)
first_there (e ∷ es) n h = (e, ap (λ b. cond b (Some e) (entry_at n es)) (same n (same_Some e.serial n h)))
  where
    same : (n : ℕ) → e.serial ≡ n → (e.serial == n) ≡ true
    same n is = subst (λ k. (e.serial == k) ≡ true) is (eq-eqb e.serial e.serial refl)

pub first_none : (es : List Entry) → option_map (λ (e : Entry). e.serial) (slice_get es 0) ≡ None → es ≡ []
first_none [] h = refl
first_none (e ∷ es) h = absurd (none-some e.serial (sym h))

-- the entry with the serial that a look-up gave
pub passing_there : (p : Entry → Bool) (o : Option Entry) → IsSomeAnd o (λ e. p e ≡ true) → (e : Entry) × (o ≡ Some e) × (p e ≡ true)
passing_there p None h = absurd h
passing_there p (Some e) h = (e, refl, h)

-- ---- what stays

pub turn_others : (serials : List ℕ) (old new : ServerState) → LeaveInTurn serials old new → new ≡ record old { dir = new.dir; chains = new.chains; tiles = new.tiles }
turn_others [] old new same = λ i. record (same i) { dir = new.dir; chains = new.chains; tiles = new.tiles }
turn_others (n ∷ ns) old new l =
    let server = l.2.left.server in
    server
    ∙ ((λ i. record l.0 { dir = new.dir; chains = (sym server i).chains; tiles = (sym server i).tiles })
    ∙ ap (λ (x : ServerState). record x { dir = new.dir; chains = new.chains; tiles = new.tiles }) (turn_others ns old l.0 l.1))

-- ---- loops

-- Entries left in turn. Those that pass the first test are still to leave, and with them all have left that passed the second.
pub record AreLeaving (rest all : Entry → Bool) (old now : ServerState) : Type 0 where
  pub blocks : HasSoundBlocks now
  pub serials : List ℕ
  pub left : LeaveInTurn serials old now
  pub stay : filter (λ e. not (rest e)) now.dir.entries ≡ filter (λ e. not (all e)) old.dir.entries

pub leaving_start : (p : Entry → Bool) (old : ServerState) → HasSoundBlocks old → AreLeaving p p old old
leaving_start p old h = record { blocks = h; serials = []; left = refl; stay = refl }

pub leaving_end : (rest all : Entry → Bool) (old now : ServerState) → AreLeaving rest all old now → list_any rest now.dir.entries ≡ false → TakesOut all old now
leaving_end rest all old now h none = record { serials = h.serials; left = h.left; entries = sym (filter_none rest now.dir.entries none) ∙ h.stay }

-- one more
pub leaving_one : (rest all : Entry → Bool) (old now new : ServerState) (n : ℕ) (e : Entry) → AreLeaving rest all old now → entry_at n now.dir.entries ≡ Some e → rest e ≡ true → LeavesAlone n now new → AreLeaving rest all old new
leaving_one rest all old now new n e h there passes one = record {
  blocks = blocks_left (n ∷ []) now new h.blocks (now, refl, one);
  serials = n ∷ h.serials;
  left = (now, h.left, one);
  stay = ap (filter (λ e. not (rest e))) one.left.removed.entries ∙ (without_passing rest n now.dir.entries e h.blocks.sound.serials there passes ∙ h.stay);
}

-- more of them
pub leaving_more : (p rest more all : Entry → Bool) (old now new : ServerState) → AreLeaving rest all old now → TakesOut p now new → HasSoundBlocks new → ((e : Entry) → (more e || p e) ≡ rest e) → AreLeaving more all old new
leaving_more p rest more all old now new h out blocks same = record {
  blocks = blocks;
  serials = out.serials ++ h.serials;
  left = in_turn out.serials h.serials old now new h.left out.left;
  stay = ap (filter (λ e. not (more e))) out.entries ∙ (filter_twice more p now.dir.entries ∙ ((λ i. filter (λ e. not (same e i)) now.dir.entries) ∙ h.stay));
}

pub item_got : {A : Type 0} (xs : List A) (k : ℕ) (x : A) → k < length xs → x ≡ get_or xs k x → slice_get xs k ≡ Some x
item_got [] k x h e = absurd (omega arith)
item_got (y ∷ xs) zero x h e = ap Some (sym e)
item_got (y ∷ xs) (suc k) x h e = item_got xs k x (omega arith) e

pub drop_item : {A : Type 0} (xs : List A) (k : ℕ) (x : A) → slice_get xs k ≡ Some x → drop k xs ≡ x ∷ drop (k + 1) xs
drop_item [] k x h = absurd (none-some x h)
drop_item (y ∷ xs) zero x h = let e : 0 + 1 ≡ suc 0 = omega arith in ap (λ z. z ∷ xs) (same_Some y x h)
drop_item (y ∷ xs) (suc k) x h = let e : suc k + 1 ≡ suc (k + 1) = omega arith in drop_item xs k x h ∙ ap (λ n. x ∷ drop n (y ∷ xs)) (sym e)

pub drop_end : {A : Type 0} (xs : List A) (k : ℕ) → length xs ≤ k → drop k xs ≡ []
drop_end [] zero h = refl
drop_end [] (suc k) h = refl
drop_end (x ∷ xs) zero h = absurd (omega arith)
drop_end (x ∷ xs) (suc k) h = drop_end xs k (omega arith)

or_turn : (a b : Bool) → (a || b) ≡ (b || a)
or_turn true true = refl
or_turn true false = refl
or_turn false true = refl
or_turn false false = refl

-- an entry passes one of the tests that items of a list make
abbrev pub any_of : {A : Type 0} → (A → Entry → Bool) → List A → Entry → Bool
any_of f xs e = list_any (λ x. f x e) xs

-- those that one more item tells
pub leaving_item : {A : Type 0} (f : A → Entry → Bool) (xs : List A) (k : ℕ) (x : A) (old now new : ServerState) → slice_get xs k ≡ Some x → AreLeaving (any_of f (drop k xs)) (any_of f xs) old now → TakesOut (f x) now new → HasSoundBlocks new → AreLeaving (any_of f (drop (k + 1) xs)) (any_of f xs) old new
leaving_item f xs k x old now new got h out blocks =
    leaving_more (f x) (any_of f (drop k xs)) (any_of f (drop (k + 1) xs)) (any_of f xs) old now new h out blocks
    (λ e. or_turn (any_of f (drop (k + 1) xs) e) (f x e) ∙ sym (ap (λ l. any_of f l e) (drop_item xs k x got)))

-- no item is left
pub leaving_items : {A : Type 0} (f : A → Entry → Bool) (xs : List A) (k : ℕ) (old now : ServerState) → length xs ≤ k → AreLeaving (any_of f (drop k xs)) (any_of f xs) old now → TakesOut (any_of f xs) old now
leaving_items f xs k old now end h = leaving_end (any_of f (drop k xs)) (any_of f xs) old now h (none now.dir.entries)
  where
    none : (es : List Entry) → list_any (any_of f (drop k xs)) es ≡ false
    none [] = refl
    none (e ∷ es) = ap (λ l. list_any (λ x. f x e) l || list_any (any_of f (drop k xs)) es) (drop_end xs k end) ∙ none es
