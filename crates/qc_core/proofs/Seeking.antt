-- An entry is sought by its key.
use Rattle.std.proofs.Common.{◌≡◌, ℕ, ◌+◌, ◌<◌, ◌≤◌, eqb, eq-eqb, eqb-true, Bool, true, false, cond, List, [], ◌∷◌, length, refl, sym, ap, subst, ◌∙◌, arith, true≢false, inl, inr, length-append, nat_lt}
use Rattle.std.specs.Prelude.{not, ◌&&◌, ◌||◌, ◌==◌, Option, Some, None, IsSomeAnd, find, option_map, bytes_eq}
use Rattle.std.specs.List.{list_any, list_all, AllByRecursion, AllZip}
use Rattle.std.proofs.lemmas.Bool.Decides.{nat_tests}
use Rattle.std.proofs.lemmas.Option.{none-some, same_Some}
use Rattle.std.proofs.lemmas.List.Sums.{count_by-le-length}
use Rattle.qc_sql.proofs.Untouched.{bytes_eq_self}
use Rattle.qc_key.specs.Hash.{hash}
use Rattle.qc_model.specs.declared.events.Event.{Event}
use Rattle.qc_model.specs.declared.events.Event.TheVariants as event
use Rattle.qc_model.specs.declared.events.How.TheVariants as how
use Rattle.qc_model.specs.Cache.{cache, entry_of, is_entry, is_run, is_start}
use Rattle.qc_model.specs.Cache.{Entry as Cached}
use Rattle.qc_model.specs.Choice.{has_key, answering, is_visible, is_stale, wrote}
use Rattle.qc_model.specs.Session.{State}
use Rattle.qc_model.specs.Licence.{IsComplete, words_of_bytes}
use Rattle.qc_laws.specs.history.Runs.{IsKept, are_apart, are_distinct, serials}
use Rattle.qc_laws.proofs.history.Starts.{start_number}
use Rattle.qc_laws.proofs.history.Stays.{answers_stay}
use Rattle.qc_laws.proofs.history.Apart.{keys_apart}
use Rattle.qc_laws.proofs.history.Serials.{serials_apart, both_true, opposite, neither}
use Rattle.qc_laws.proofs.history.Events.{found_all}
use Rattle.qc_dir.specs.declared.entries.Entry.{Entry}
use Rattle.qc_dir.specs.Directory.{entry_at}
use Rattle.qc_turn.specs.declared.task.ListedTask.{ListedTask}
use Rattle.qc_turn.specs.Blocks.{Misses}
use Rattle.qc_turn.specs.Tasks.{fill_places, listed_for, KeepsListed}
use Rattle.qc_turn.specs.Views.{idle_of}
use Rattle.qc_turn.specs.Seats.{Held, holder, words, MayRelease}
use Rattle.qc_sound.specs.PlainServer.{StoredEntry, listed_tasks}
use Rattle.qc_sound.specs.Moment.{Moment, at_rest}
use Rattle.qc_sound.specs.parts.Directory.{IsStoredAs}
use Rattle.qc_sound.specs.parts.Contents.{IsSpelled, text_of}
use Rattle.qc_sound.specs.PlainServer.{is_stored}
use Rattle.qc_sound.proofs.Lists.{zip_both}
use Rattle.qc_sound.proofs.Moved.{found_pair}
use Rattle.qc_sound.proofs.Frees.{text_free}
use Rattle.qc_core.specs.declared.server_state.ServerState.{ServerState}
use Rattle.qc_core.specs.contracts.server.ServerKept.TheImpl.{ghosts}
use Rattle.qc_core.specs.Whole.{Named, stored, plain, IsWhole, Sound}
use Rattle.qc_core.specs.KeptLaws.{tasks_same}
use Rattle.qc_core.specs.KeySpelling.{is_text, read, MayRead}
use Rattle.qc_core.proofs.Uses.{back, stored_at}
use Rattle.qc_core.proofs.Spelling.{text_is, is_text_of, text_fits}

-- ---- an entry of the directory and that of the cache

pub record Paired (m : Moment) (words : List ℕ) (names : List Named) (s : ServerState) (n : ℕ) : Type 0 where
  pub entry : Entry
  pub cached : Cached
  pub there : entry_at n s.dir.entries ≡ Some entry
  pub of : entry_of n (cache s.journal.events) ≡ Some cached
  pub is : IsStoredAs m.hash (stored s.chains entry) cached
  pub spelled : IsSpelled words (plain names s).chains s.journal.events (stored s.chains entry) cached

abbrev pub pair_of : (m : Moment) (words : List ℕ) (names : List Named) (s : ServerState) (n : ℕ) (y : Cached) → IsWhole m names words s → entry_of n (cache s.journal.events) ≡ Some y → (q : Paired m words names s n) × (q.cached ≡ y)
pair_of m words names s n y h of =
    let p = plain names s in
    let t = found_pair m (IsSpelled words p.chains p.journal) n p.entries (cache p.journal) y (zip_both (IsStoredAs m.hash) (IsSpelled words p.chains p.journal) p.entries (cache p.journal) h.sound.directory h.sound.contents) of in
    let e = back s.chains n s.dir.entries t.at t.found in
    let both = subst (λ x. IsStoredAs m.hash x y × IsSpelled words p.chains p.journal x y) (sym e.is) t.pair in
    (record { entry = e.entry; cached = y; there = e.there; of = of; is = both.0; spelled = both.1 }, refl)

pub other_pair : (m : Moment) (R : StoredEntry → Cached → Type 0) (n : ℕ) (es : List StoredEntry) (ys : List Cached) (x : StoredEntry) → AllZip (λ e y. IsStoredAs m.hash e y × R e y) es ys → find (is_stored n) es ≡ Some x → (y : Cached) × (entry_of n ys ≡ Some y) × IsStoredAs m.hash x y × R x y
other_pair m R n [] [] x h f = absurd (none-some x f)
other_pair m R n [] (y ∷ ys) x h f = absurd h
other_pair m R n (e ∷ es) [] x h f = absurd h
other_pair m R n (e ∷ es) (y ∷ ys) x h f =
    elim (eqb e.serial n) as (λ b. eqb e.serial n ≡ b → cond b (Some e) (find (is_stored n) es) ≡ Some x → (z : Cached) × (entry_of n (y ∷ ys) ≡ Some z) × IsStoredAs m.hash x z × R x z) [
      | true ↦ λ p g. let same : e ≡ x = same_Some e x g in let t = subst (λ w. IsStoredAs m.hash w y × R w y) same h.0 in (y, ap (λ b. cond b (Some y) (entry_of n ys)) (ap (λ k. eqb k n) (sym h.0.0.serial) ∙ p), t.0, t.1)
      | false ↦ λ p g. let t = other_pair m R n es ys x h.1 g in (t.0, ap (λ b. cond b (Some y) (entry_of n ys)) (ap (λ k. eqb k n) (sym h.0.0.serial) ∙ p) ∙ t.1, t.2, t.3)
    ] refl f

abbrev pub pair_at : (m : Moment) (words : List ℕ) (names : List Named) (s : ServerState) (n : ℕ) (e : Entry) → IsWhole m names words s → entry_at n s.dir.entries ≡ Some e → (q : Paired m words names s n) × (q.entry ≡ e)
pair_at m words names s n e h there =
    let p = plain names s in
    let t = other_pair m (IsSpelled words p.chains p.journal) n p.entries (cache p.journal) (stored s.chains e) (zip_both (IsStoredAs m.hash) (IsSpelled words p.chains p.journal) p.entries (cache p.journal) h.sound.directory h.sound.contents) (stored_at s.chains n s.dir.entries e there) in
    (record { entry = e; cached = t.0; there = there; of = t.1; is = t.2; spelled = t.3 }, refl)

-- ---- the text may be read

-- what is in no fill now was in no fill of others when the turn was taken
fills_before : (k : ℕ) (quiet : List ℕ) (m : ℕ) (old new : List ListedTask) → KeepsListed quiet m old new → Misses k (fill_places new) → Misses k (fill_places old)
fills_before k quiet m old new (inl same) h = subst (λ l. Misses k (fill_places l)) same h
fills_before k quiet m old new (inr t) h = subst (λ l. Misses k (fill_places l)) (sym t.1.2) tt

pub may_read : (h : Held ServerState Event ghosts) (n : ℕ) (e : Entry) → MayRelease h → entry_at n h.value.dir.entries ≡ Some e → MayRead h e.text e.text_bytes
may_read h n e stands there =
    let w = stands.sound.1 in
    let names = stands.sound.0 in
    let s = h.value in
    let q = (pair_at (at_rest hash) (words h) names s n e w there).0 in
    let free : (k : ℕ) → e.text.first ≤ k → k < e.text.first + e.text.words → (k < length (words h)) × ((m : ℕ) → Misses k (fill_places (listed_for m (listed_tasks (plain names s))))) = λ k low high. text_free (at_rest hash) (words h) (plain names s) n k (stored s.chains e) w.sound (stored_at s.chains n s.dir.entries e there) low high in
    record {
      few = text_fits (words h) e.text e.text_bytes q.cached.key q.spelled.key (sym q.is.text_bytes);
      free = λ k low high. (
        (free k low high).0,
        λ m ne. fills_before k (idle_of (holder h).found) m _ _ (stands.follows.tasks m ne) (subst (λ ts. Misses k (fill_places (listed_for m ts))) (sym (tasks_same names s w.named)) ((free k low high).1 m)),
      );
    }

-- ---- serials are small

pub serial_small : (words : List ℕ) (s : ServerState) (n : ℕ) (e : Entry) → Sound words s → entry_at n s.dir.entries ≡ Some e → n ≤ length s.journal.events
serial_small words s n e h there =
    let q = (pair_at (at_rest hash) words h.0 s n e h.1 there).0 in
    let lawful = h.1.sound.journal.lawful in
    let kept = found_all (IsKept s.journal.events) (is_entry n) (cache s.journal.events) q.cached (answers_stay s.options s.journal.events lawful) q.of in
    let t = kept.0.start in
    let number = start_number s.options s.journal.events q.cached.serial t lawful in
    let few = count_by-le-length (is_run is_start) t.earlier in
    let long = length-append t.earlier (event.Run t.who (how.Start q.cached.serial t.key t.tables) ∷ t.later) in
    omega (arith, number, few, long, ap (λ (l : List Event). length l) t.split, eqb-true q.cached.serial n kept.1)

-- ---- the search

bytes_are : (xs ys : List ℕ) → bytes_eq xs ys ≡ true → xs ≡ ys
bytes_are [] [] h = refl
bytes_are [] (y ∷ ys) h = absurd (true≢false (sym h))
bytes_are (x ∷ xs) [] h = absurd (true≢false (sym h))
bytes_are (x ∷ xs) (y ∷ ys) h = let t = both_true (eqb x y) (bytes_eq xs ys) h in λ i. eqb-true x y t.0 i ∷ bytes_are xs ys t.1 i

-- no entry with a serial below has the key
pub record IsSought (s : ServerState) (key : List ℕ) (from : ℕ) : Type 0 where
  pub none : (n : ℕ) (y : Cached) → n < from → entry_of n (cache s.journal.events) ≡ Some y → y.key ≡ key → ⊥

-- the candidate doesn't have it either
pub sought_more : (words : List ℕ) (s : ServerState) (key : List ℕ) (from n : ℕ) → Sound words s → IsSought s key from
    → ((k : ℕ) → from ≤ k → IsSomeAnd (entry_at k s.dir.entries) (λ e. e.hash ≡ hash key) → n ≤ k) → ((y : Cached) → entry_of n (cache s.journal.events) ≡ Some y → y.key ≡ key → ⊥) → IsSought s key (n + 1)
sought_more words s key from n h sought least other = record {
  none = λ k y below of same. elim (nat_lt k from) as (λ b. nat_lt k from ≡ b → ⊥) [
    | true ↦ λ e. sought.none k y (grind (arith, nat_tests)) of same
    | false ↦ λ e.
        let at : from ≤ k = grind (arith, nat_tests) in
        let q = pair_of (at_rest hash) words h.0 s k y h.1 of in
        let hashed : q.0.entry.hash ≡ hash key = q.0.is.hashed ∙ ap hash (ap (λ (z : Cached). z.key) q.1 ∙ same) in
        let low : n ≤ k = least k at (subst (λ (o : Option Entry). IsSomeAnd o (λ e. e.hash ≡ hash key)) (sym q.0.there) hashed) in
        let is : k ≡ n = omega (arith, low, below) in
        other y (subst (λ m. entry_of m (cache s.journal.events) ≡ Some y) is of) same
  ] refl;
}

-- of entries that are apart the one with the key is found
found_key : (key : List ℕ) (n : ℕ) (ys : List Cached) (y : Cached) → are_apart ys ≡ true → entry_of n ys ≡ Some y → y.key ≡ key → find (has_key key) ys ≡ Some y
found_key key n [] y apart of same = absurd (none-some y of)
found_key key n (z ∷ ys) y apart of same =
    let parts = both_true (not (list_any (has_key z.key) ys)) (are_apart ys) apart in
    elim (eqb z.serial n) as (λ b. cond b (Some z) (entry_of n ys) ≡ Some y → find (has_key key) (z ∷ ys) ≡ Some y) [
      | true ↦ λ f. let is : z ≡ y = same_Some z y f in ap (λ b. cond b (Some z) (find (has_key key) ys)) (ap (λ (x : Cached). bytes_eq x.key key) is ∙ (ap (λ k. bytes_eq k key) same ∙ bytes_eq_self key)) ∙ ap Some is
      | false ↦ λ f. elim (bytes_eq z.key key) as (λ b. bytes_eq z.key key ≡ b → cond b (Some z) (find (has_key key) ys) ≡ Some y) [
        | true ↦ λ e. absurd (true≢false (sym (any_at (has_key z.key) (is_entry n) ys y f (ap (λ k. bytes_eq k z.key) (same ∙ sym (bytes_are z.key key e)) ∙ bytes_eq_self z.key)) ∙ opposite _ parts.0))
        | false ↦ λ e. found_key key n ys y parts.1 f same
      ] refl
    ] of
  where
    any_at : (p q : Cached → Bool) (ys : List Cached) (y : Cached) → find q ys ≡ Some y → p y ≡ true → list_any p ys ≡ true
    any_at p q [] y f h = absurd (none-some y f)
    any_at p q (x ∷ ys) y f h = elim (q x) as (λ b. cond b (Some x) (find q ys) ≡ Some y → (p x || list_any p ys) ≡ true) [
      | true ↦ λ g. ap (λ b. b || list_any p ys) (ap p (same_Some x y g) ∙ h)
      | false ↦ λ g. or_last (p x) (list_any p ys) (any_at p q ys y g h)
    ] f
      where
        or_last : (a b : Bool) → b ≡ true → (a || b) ≡ true
        or_last true b h = refl
        or_last false b h = h

pub sought_found : (words : List ℕ) (s : ServerState) (key : List ℕ) (n : ℕ) (y : Cached) → Sound words s → entry_of n (cache s.journal.events) ≡ Some y → y.key ≡ key → Some n ≡ option_map (λ y. y.serial) (find (has_key key) (cache s.journal.events))
sought_found words s key n y h of same =
    sym (ap (option_map (λ (z : Cached). z.serial)) (found_key key n (cache s.journal.events) y (keys_apart s.options s.journal.events h.1.sound.journal.lawful) of same)
    ∙ ap Some (eqb-true y.serial n (found_all (λ _. Unit {0}) (is_entry n) (cache s.journal.events) y (all_unit (cache s.journal.events)) of).1))
  where
    all_unit : (ys : List Cached) → AllByRecursion (λ _. Unit {0}) ys
    all_unit [] = tt
    all_unit (y ∷ ys) = (tt, all_unit ys)

-- an entry that is found stands under its serial
pub own_serial : (p : Cached → Bool) (ys : List Cached) (y : Cached) → are_distinct (serials ys) ≡ true → find p ys ≡ Some y → (entry_of y.serial ys ≡ Some y) × (p y ≡ true)
own_serial p [] y d f = absurd (none-some y f)
own_serial p (x ∷ ys) y d f =
    let parts = both_true (not (list_any (λ m. m == x.serial) (serials ys))) (are_distinct (serials ys)) d in
    elim (p x) as (λ b. p x ≡ b → cond b (Some x) (find p ys) ≡ Some y → (entry_of y.serial (x ∷ ys) ≡ Some y) × (p y ≡ true)) [
      | true ↦ λ e g. let is : x ≡ y = same_Some x y g in subst (λ z. (entry_of z.serial (x ∷ ys) ≡ Some z) × (p z ≡ true)) is (ap (λ b. cond b (Some x) (entry_of x.serial ys)) (eq-eqb x.serial x.serial refl), e)
      | false ↦ λ e g.
          let t = own_serial p ys y parts.1 g in (
            elim (eqb x.serial y.serial) as (λ b. eqb x.serial y.serial ≡ b → cond b (Some x) (entry_of y.serial ys) ≡ Some y) [
              | true ↦ λ q. absurd (true≢false (sym (any_serial y.serial ys y t.0) ∙ subst (λ n. list_any (λ m. m == n) (serials ys) ≡ false) (eqb-true x.serial y.serial q) (opposite _ parts.0)))
              | false ↦ λ q. t.0
            ] refl,
            t.1,
          )
    ] refl f
  where
    any_serial : (n : ℕ) (ys : List Cached) (y : Cached) → entry_of n ys ≡ Some y → list_any (λ m. m == n) (serials ys) ≡ true
    any_serial n [] y f = absurd (none-some y f)
    any_serial n (x ∷ ys) y f = elim (eqb x.serial n) as (λ b. cond b (Some x) (entry_of n ys) ≡ Some y → (b || list_any (λ m. m == n) (serials ys)) ≡ true) [
      | true ↦ λ g. refl
      | false ↦ λ g. any_serial n ys y g
    ] f

pub sought_none : (words : List ℕ) (s : ServerState) (key : List ℕ) (from : ℕ) → Sound words s → IsSought s key from → ((k : ℕ) → from ≤ k → IsSomeAnd (entry_at k s.dir.entries) (λ e. e.hash ≡ hash key) → ⊥)
    → None ≡ option_map (λ y. y.serial) (find (has_key key) (cache s.journal.events))
sought_none words s key from h sought none = by (find (has_key key) (cache s.journal.events)) refl
  where
    by : (o : Option Cached) → find (has_key key) (cache s.journal.events) ≡ o → None ≡ option_map (λ (y : Cached). y.serial) o
    by None e = refl
    by (Some y) e =
        let t = own_serial (has_key key) (cache s.journal.events) y (serials_apart s.options s.journal.events h.1.sound.journal.lawful) e in
        let q = pair_of (at_rest hash) words h.0 s y.serial y h.1 t.0 in
        let same : y.key ≡ key = bytes_are y.key key t.1 in
        absurd (elim (nat_lt y.serial from) as (λ b. nat_lt y.serial from ≡ b → ⊥) [
          | true ↦ λ l. sought.none y.serial y (grind (arith, nat_tests)) t.0 same
          | false ↦ λ l. none y.serial (grind (arith, nat_tests)) (subst (λ (o : Option Entry). IsSomeAnd o (λ e. e.hash ≡ hash key)) (sym q.0.there) (q.0.is.hashed ∙ ap hash (ap (λ (z : Cached). z.key) q.1 ∙ same)))
        ] refl)

-- ---- a text against a key

pub text_yes : (words : List ℕ) (s : ServerState) (n : ℕ) (e : Entry) (key : List ℕ) → Sound words s → entry_at n s.dir.entries ≡ Some e → e.text_bytes ≡ length key → is_text (read words e.text.first (words_of_bytes (length key))) key ≡ true
    → (y : Cached) × (entry_of n (cache s.journal.events) ≡ Some y) × (y.key ≡ key)
text_yes words s n e key h there long is =
    let q = (pair_at (at_rest hash) words h.0 s n e h.1 there).0 in
    let few = text_fits words e.text e.text_bytes q.cached.key q.spelled.key (sym q.is.text_bytes) in
    (q.cached, q.of, sym q.spelled.key ∙ (ap (text_of words (e.text ∷ [])) long ∙ text_is words e.text key (subst (λ k. words_of_bytes k ≤ e.text.words) long few) is))

pub text_no : (words : List ℕ) (s : ServerState) (n : ℕ) (e : Entry) (key : List ℕ) → Sound words s → entry_at n s.dir.entries ≡ Some e → e.text_bytes ≡ length key → is_text (read words e.text.first (words_of_bytes (length key))) key ≡ false
    → (y : Cached) → entry_of n (cache s.journal.events) ≡ Some y → y.key ≡ key → ⊥
text_no words s n e key h there long is y of same =
    let q = (pair_at (at_rest hash) words h.0 s n e h.1 there).0 in
    let few = text_fits words e.text e.text_bytes q.cached.key q.spelled.key (sym q.is.text_bytes) in
    let one : q.cached ≡ y = same_Some q.cached y (sym q.of ∙ of) in
    true≢false (sym (is_text_of words e.text key (subst (λ k. words_of_bytes k ≤ e.text.words) long few) (ap (text_of words (e.text ∷ [])) (sym long) ∙ (q.spelled.key ∙ (ap (λ (z : Cached). z.key) one ∙ same)))) ∙ is)

pub length_no : (words : List ℕ) (s : ServerState) (n : ℕ) (e : Entry) (key : List ℕ) → Sound words s → entry_at n s.dir.entries ≡ Some e → (e.text_bytes ≡ length key → ⊥) → (y : Cached) → entry_of n (cache s.journal.events) ≡ Some y → y.key ≡ key → ⊥
length_no words s n e key h there other y of same =
    let q = (pair_at (at_rest hash) words h.0 s n e h.1 there).0 in
    let one : q.cached ≡ y = same_Some q.cached y (sym q.of ∙ of) in
    other (q.is.text_bytes ∙ ap (λ l. length l) (ap (λ (z : Cached). z.key) one ∙ same))

pub candidate_small : (words : List ℕ) (s : ServerState) (n h : ℕ) → Sound words s → IsSomeAnd (entry_at n s.dir.entries) (λ e. e.hash ≡ h) → n ≤ length s.journal.events
candidate_small words s n h sound there = by (entry_at n s.dir.entries) refl there
  where
    by : (o : Option Entry) → entry_at n s.dir.entries ≡ o → IsSomeAnd o (λ e. e.hash ≡ h) → n ≤ length s.journal.events
    by None e k = absurd k
    by (Some x) e k = serial_small words s n x sound e

-- ---- the entry that answers

module _ (key : List ℕ) (c v : Cached → Bool) where
  pub narrow_none : (ys : List Cached) → find (has_key key) ys ≡ None → find (λ z. c z && has_key key z && v z) ys ≡ None
  narrow_none [] h = refl
  narrow_none (z ∷ ys) h = elim (has_key key z) as (λ b. cond b (Some z) (find (has_key key) ys) ≡ None → cond (c z && b && v z) (Some z) (find (λ z. c z && has_key key z && v z) ys) ≡ None) [
    | true ↦ λ f. absurd (none-some z (sym f))
    | false ↦ λ f. ap (λ b. cond b (Some z) (find (λ z. c z && has_key key z && v z) ys)) (off (c z) (v z)) ∙ narrow_none ys f
  ] h
    where
      off : (a b : Bool) → (a && false && b) ≡ false
      off true b = refl
      off false b = refl

  pub narrow_yes : (ys : List Cached) (y : Cached) → find (has_key key) ys ≡ Some y → (c y && v y) ≡ true → find (λ z. c z && has_key key z && v z) ys ≡ Some y
  narrow_yes [] y h k = absurd (none-some y h)
  narrow_yes (z ∷ ys) y h k = elim (has_key key z) as (λ b. cond b (Some z) (find (has_key key) ys) ≡ Some y → cond (c z && b && v z) (Some z) (find (λ z. c z && has_key key z && v z) ys) ≡ Some y) [
    | true ↦ λ f. let is : z ≡ y = same_Some z y f in ap (λ b. cond b (Some z) (find (λ z. c z && has_key key z && v z) ys)) (on (c z) (v z) (subst (λ (x : Cached). (c x && v x) ≡ true) (sym is) k)) ∙ ap Some is
    | false ↦ λ f. ap (λ b. cond b (Some z) (find (λ z. c z && has_key key z && v z) ys)) (off (c z) (v z)) ∙ narrow_yes ys y f k
  ] h
    where
      off : (a b : Bool) → (a && false && b) ≡ false
      off true b = refl
      off false b = refl

      on : (a b : Bool) → (a && b) ≡ true → (a && true && b) ≡ true
      on true b h = h
      on false b h = h

  none_key : (ys : List Cached) → list_any (has_key key) ys ≡ false → find (has_key key) ys ≡ None
  none_key [] h = refl
  none_key (z ∷ ys) h = let t = neither (has_key key z) (list_any (has_key key) ys) h in ap (λ b. cond b (Some z) (find (has_key key) ys)) t.0 ∙ none_key ys t.1

  pub narrow_no : (ys : List Cached) (y : Cached) → are_apart ys ≡ true → find (has_key key) ys ≡ Some y → (c y && v y) ≡ false → find (λ z. c z && has_key key z && v z) ys ≡ None
  narrow_no [] y a h k = absurd (none-some y h)
  narrow_no (z ∷ ys) y a h k =
      let parts = both_true (not (list_any (has_key z.key) ys)) (are_apart ys) a in
      elim (has_key key z) as (λ b. has_key key z ≡ b → cond b (Some z) (find (has_key key) ys) ≡ Some y → cond (c z && b && v z) (Some z) (find (λ z. c z && has_key key z && v z) ys) ≡ None) [
        | true ↦ λ e f.
            let is : z ≡ y = same_Some z y f in
            let others = subst (λ (q : List ℕ). list_any (has_key q) ys ≡ false) (bytes_are z.key key e) (opposite _ parts.0) in
            ap (λ b. cond b (Some z) (find (λ z. c z && has_key key z && v z) ys)) (on (c z) (v z) (subst (λ (x : Cached). (c x && v x) ≡ false) (sym is) k)) ∙ narrow_none ys (none_key ys others)
        | false ↦ λ e f. ap (λ b. cond b (Some z) (find (λ z. c z && has_key key z && v z) ys)) (off (c z) (v z)) ∙ narrow_no ys y parts.1 f k
      ] refl h
    where
      off : (a b : Bool) → (a && false && b) ≡ false
      off true b = refl
      off false b = refl

      on : (a b : Bool) → (a && b) ≡ false → (a && true && b) ≡ false
      on true b h = h
      on false b h = h

-- the entry whose serial was found
pub record Found (s : ServerState) (key : List ℕ) (n : ℕ) : Type 0 where
  pub cached : Cached
  pub entry : Entry
  pub found : find (has_key key) (cache s.journal.events) ≡ Some cached
  pub of : entry_of n (cache s.journal.events) ≡ Some cached
  pub there : entry_at n s.dir.entries ≡ Some entry
  pub complete : entry.complete ≡ cached.complete
  pub tables : entry.tables ≡ cached.tables
  pub serial : cached.serial ≡ n

pub found_of : (words : List ℕ) (s : ServerState) (key : List ℕ) (n : ℕ) → Sound words s → Some n ≡ option_map (λ y. y.serial) (find (has_key key) (cache s.journal.events)) → Found s key n
found_of words s key n h is = by (find (has_key key) (cache s.journal.events)) refl is
  where
    by : (o : Option Cached) → find (has_key key) (cache s.journal.events) ≡ o → Some n ≡ option_map (λ (y : Cached). y.serial) o → Found s key n
    by None e k = absurd (none-some n (sym k))
    by (Some y) e k =
        let t = own_serial (has_key key) (cache s.journal.events) y (serials_apart s.options s.journal.events h.1.sound.journal.lawful) e in
        let serial : y.serial ≡ n = same_Some y.serial n (sym k) in
        let of = subst (λ m. entry_of m (cache s.journal.events) ≡ Some y) serial t.0 in
        let q = (pair_of (at_rest hash) words h.0 s n y h.1 of).0 in
        record { cached = y; entry = q.entry; found = e; of = of; there = q.there; complete = q.is.complete; tables = q.is.tables; serial = serial }

pub found_none : (s : ServerState) (state : State) (key : List ℕ) → None ≡ option_map (λ y. y.serial) (find (has_key key) (cache s.journal.events)) → None ≡ option_map (λ y. y.serial) (answering state s.journal.events key)
found_none s state key is = by (find (has_key key) (cache s.journal.events)) refl is
  where
    by : (o : Option Cached) → find (has_key key) (cache s.journal.events) ≡ o → None ≡ option_map (λ (y : Cached). y.serial) o → None ≡ option_map (λ (y : Cached). y.serial) (answering state s.journal.events key)
    by None e k = sym (ap (option_map (λ (y : Cached). y.serial)) (narrow_none key (λ y. y.complete) (is_visible state s.journal.events) (cache s.journal.events) e))
    by (Some y) e k = absurd (none-some y.serial k)

-- whether it may be sent
pub sendable : (s : ServerState) (state : State) (key : List ℕ) (n : ℕ) (b : Bool) (f : Found s key n) → b ≡ (f.entry.complete && list_all (λ t. not (wrote state t) && not (is_stale state s.journal.events t)) f.entry.tables) → b ≡ (f.cached.complete && is_visible state s.journal.events f.cached)
sendable s state key n b f is = is ∙ (λ i. f.complete i && list_all (λ t. not (wrote state t) && not (is_stale state s.journal.events t)) (f.tables i))

pub answer_no : (words : List ℕ) (s : ServerState) (state : State) (key : List ℕ) (n : ℕ) → Sound words s → (f : Found s key n) → (f.cached.complete && is_visible state s.journal.events f.cached) ≡ false → None ≡ option_map (λ y. y.serial) (answering state s.journal.events key)
answer_no words s state key n h f test =
    sym (ap (option_map (λ (y : Cached). y.serial)) (narrow_no key (λ y. y.complete) (is_visible state s.journal.events) (cache s.journal.events) f.cached (keys_apart s.options s.journal.events h.1.sound.journal.lawful) f.found test))

pub answer_yes : (s : ServerState) (state : State) (key : List ℕ) (n : ℕ) → (f : Found s key n) → (f.cached.complete && is_visible state s.journal.events f.cached) ≡ true → (Some n ≡ option_map (λ y. y.serial) (answering state s.journal.events key)) × IsComplete s.journal.events n
answer_yes s state key n f test = (
  sym (ap (option_map (λ (y : Cached). y.serial)) (narrow_yes key (λ y. y.complete) (is_visible state s.journal.events) (cache s.journal.events) f.cached f.found test) ∙ ap Some f.serial),
  subst (λ (o : Option Cached). IsSomeAnd o (λ y. y.complete ≡ true)) (sym f.of) (both_true f.cached.complete (is_visible state s.journal.events f.cached) test).0,
)

-- the entry of the cache for one of the directory
pub pair_there : (m : Moment) (words : List ℕ) (names : List Named) (s : ServerState) (n : ℕ) (e : Entry) → IsWhole m names words s → entry_at n s.dir.entries ≡ Some e → (y : Cached) × (entry_of n (cache s.journal.events) ≡ Some y) × IsStoredAs m.hash (stored s.chains e) y
pair_there m words names s n e h there = let q = (pair_at m words names s n e h there).0 in (q.cached, q.of, q.is)
