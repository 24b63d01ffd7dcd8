-- What is chosen may be done.
use Rattle.std.proofs.Common.{◌≡◌, ℕ, zero, suc, ◌+◌, ◌-◌, ◌*◌, ◌^◌, ◌<◌, Bool, true, false, List, [], length, refl, sym, ap, subst, ◌∙◌, true≢false, arith, eq-eqb}
use Rattle.std.specs.Prelude.{Option, Some, None, ◌==◌, ◌||◌, not, find, nat_lt, option_map}
use Rattle.std.proofs.lemmas.Option.{none-some, same_Some}
use Rattle.std.proofs.lemmas.Bool.Decides.{nat_tests}
use Rattle.qc_types.specs.declared.names.TableName.{TableName}
use Rattle.qc_types.specs.declared.options.Options.{Options}
use Rattle.qc_sql.specs.declared.session.Asked.{Asked}
use Rattle.qc_sql.specs.declared.statements.Select.{Select}
use Rattle.qc_sql.specs.Grammar.{trimmed}
use Rattle.qc_sql.specs.Rules.{select_tables, why_not}
use Rattle.qc_sql.specs.Words.{◌or_else◌, when}
use Rattle.qc_model.specs.declared.events.Who.{Who}
use Rattle.qc_model.specs.declared.events.Reason.{Reason}
use Rattle.qc_model.specs.declared.events.Reason.TheVariants as reason
use Rattle.qc_model.specs.Journal.{Journal, event_count, last_change}
use Rattle.qc_model.specs.Cache.{Entry}
use Rattle.qc_model.specs.Choice.{changed_since, is_asked, is_stale, plain_reason, rival, stale_reason, wrote}
use Rattle.qc_model.specs.Licence.{region_words}
use Rattle.qc_model.specs.Session.{State, key_of_text, snapshot_of}
use Rattle.qc_laws.proofs.history.Few.{tables_are_apart, tables_are_few}
use Rattle.qc_turn.specs.Tasks.{listed_for}
use Rattle.qc_trx.specs.SnapshotStates.{SnapshotState}
use Rattle.qc_core.specs.declared.server_state.ServerState.{ServerState}
use Rattle.qc_core.specs.Whole.{Sound, tasks_of}
use Rattle.qc_core.specs.PlainRun.{MayRunPlain}
use Rattle.qc_core.specs.EntryStart.{MayBegin}
use Rattle.qc_select.specs.Selects.{IsOfText, MayAsk, answering_asked, outside_by, reason_by, rule_by}
use Rattle.qc_select.proofs.Choosing.{asked_entry}
use Rattle.qc_select.proofs.Lengths.{key_short}
use Rattle.qc_select.proofs.Licensing.{may_start}
use Rattle.qc_select.proofs.NoReasons.{found_test, no_reason}
use Rattle.qc_select.proofs.Rivals.{is_rival}

-- ---- a plain run

first_of_two : (P : Reason → Type 0) (a b : Option Reason) (why : Reason) → ((x : Reason) → a ≡ Some x → P x) → ((x : Reason) → b ≡ Some x → P x) → (a or_else b) ≡ Some why → P why
first_of_two P (Some x) b why f g h = f why h
first_of_two P None b why f g h = g why h

when_is : (b : Bool) (x y : Reason) → when b x ≡ Some y → x ≡ y
when_is true x y h = same_Some x y h
when_is false x y h = absurd (none-some y h)

mapped : {A : Type 0} (P : Reason → Type 0) (f : A → Reason) (o : Option A) (x : Reason) → ((y : A) → o ≡ Some y → P (f y)) → option_map f o ≡ Some x → P x
mapped P f None x k h = absurd (none-some x h)
mapped P f (Some y) x k h = subst P (same_Some (f y) x h) (k y refl)

above : (n p : ℕ) → nat_lt p n ≡ true → p < n
above n p h = grind (arith, nat_tests)

-- the seat's session may have its next event
pub record MayGoOn (s : ServerState) (who : Who) : Type 0 where
  pub words : List ℕ
  pub sound : Sound words s
  pub seat : ℕ
  pub positive : 0 < seat
  pub session : who.session ≡ seat - 1
  pub number : who.number ≡ event_count s.journal.events who.session + 1
  pub free : listed_for seat (tasks_of s) ≡ []

module _ (s : ServerState) (who : Who) (go : MayGoOn s who) (x : State) where
  rule_may : (asked : Asked) (select : Select) (why : Reason) → rule_by s.options x asked select ≡ Some why → MayRunPlain s who why
  rule_may asked select why h =
      first_of_two (MayRunPlain s who) (when (s.options.size == 0 || x.kind == 0) reason.Off) _ why
      (λ y g. subst (MayRunPlain s who) (when_is (s.options.size == 0 || x.kind == 0) reason.Off y g) tt)
      (λ y g. first_of_two (MayRunPlain s who) (when (not (is_asked asked)) reason.NotAsked) (option_map reason.Rule (why_not x.db select)) y
      (λ z k. subst (MayRunPlain s who) (when_is (not (is_asked asked)) reason.NotAsked z k) tt)
      (λ z k. mapped (MayRunPlain s who) reason.Rule (why_not x.db select) z (λ w e. tt) k) g) h

  stale_may : (t : TableName) (p : Option ℕ) (why : Reason) → snapshot_of x ≡ p → is_stale x s.journal.events t ≡ true → stale_reason x s.journal.events (Some t) ≡ Some why → MayRunPlain s who why
  stale_may t None why is stale h = absurd (true≢false (sym stale ∙ ap (λ (o : Option ℕ). changed_since o (last_change s.journal.events t)) is))
  stale_may t (Some place) why is stale h =
      let J = s.journal.events in
      let named : stale_reason x J (Some t) ≡ Some (reason.NotVisible t (last_change J t) place) = rw is refl in
      let later : place < last_change J t = above (last_change J t) place (subst (λ (o : Option ℕ). changed_since o (last_change J t) ≡ true) is stale) in
      subst (MayRunPlain s who) (same_Some (reason.NotVisible t (last_change J t) place) why (sym named ∙ h)) (refl, later)

  unseen_may : (ts : List TableName) (why : Reason) → (option_map reason.Written (find (wrote x) ts) or_else stale_reason x s.journal.events (find (is_stale x s.journal.events) ts)) ≡ Some why → MayRunPlain s who why
  unseen_may ts why h =
      first_of_two (MayRunPlain s who) (option_map reason.Written (find (wrote x) ts)) (stale_reason x s.journal.events (find (is_stale x s.journal.events) ts)) why
      (λ y g. mapped (MayRunPlain s who) reason.Written (find (wrote x) ts) y (λ t e. tt) g)
      (λ y g. by (find (is_stale x s.journal.events) ts) y refl g) h
    where
      by : (o : Option TableName) (y : Reason) → find (is_stale x s.journal.events) ts ≡ o → stale_reason x s.journal.events o ≡ Some y → MayRunPlain s who y
      by None y e g = absurd (none-some y g)
      by (Some t) y e g = stale_may t (snapshot_of x) y refl (found_test (is_stale x s.journal.events) ts t e) g

  pub outside_may : (asked : Asked) (select : Select) (ts : List TableName) (key : List ℕ) (why : Reason) → outside_by s.options x asked select s.journal.events ts key ≡ Some why → MayRunPlain s who why
  outside_may asked select ts key why h =
      first_of_two (MayRunPlain s who) (rule_by s.options x asked select) _ why (λ y g. rule_may asked select y g)
      (λ y g. first_of_two (MayRunPlain s who) (option_map reason.Written (find (wrote x) ts) or_else stale_reason x s.journal.events (find (is_stale x s.journal.events) ts)) _ y (λ z k. unseen_may ts z k)
      (λ z k. mapped (MayRunPlain s who) (λ (entry : Entry). reason.Rival entry.serial) (rival s.journal.events key) z (λ e f. is_rival go.words s who go.seat key e go.sound go.positive go.session go.number go.free f) k) g) h

-- ---- as the text has it

pub asked_as : (options : Options) (J : Journal) (x : State) (key : List ℕ) (select : Select) (asked : Asked) (text : List ℕ) → IsOfText x key select asked text → answering_asked options asked x J key ≡ asked_entry options x text J
asked_as options J x key select asked text t = λ i. answering_asked options (t.asked_is i) x J (t.key_is i)

pub reason_as : (options : Options) (J : Journal) (x : State) (key : List ℕ) (select : Select) (asked : Asked) (text : List ℕ) → IsOfText x key select asked text → reason_by options x asked select J key ≡ plain_reason options x text select J
reason_as options J x key select asked text t = λ i. reason_by options x (t.asked_is i) select J (t.key_is i)

-- ---- a start

some_region : (options : Options) → options.size ≡ 8 * region_words options → (options.size == 0) ≡ false → 0 < region_words options
some_region options whole some = by (region_words options) refl
  where
    by : (n : ℕ) → region_words options ≡ n → 0 < n
    by zero e = absurd (true≢false (sym (eq-eqb options.size 0 (let none : options.size ≡ 8 * 0 = whole ∙ ap (λ k. 8 * k) e in omega (arith, none))) ∙ some))
    by (suc n) e = omega arith

pub may_begin : (words : List ℕ) (s : ServerState) (x : SnapshotState) (key : List ℕ) (select : Select) (asked : Asked) (text : List ℕ) → Sound words s → MayAsk s.journal.events x → IsOfText x.state key select asked text → length text < 2 ^ 32
    → answering_asked s.options asked x.state s.journal.events key ≡ None → reason_by s.options x.state asked select s.journal.events key ≡ None → MayBegin key (select_tables x.state.db select) s
may_begin words s x key select asked text sound ask t short none why =
    let J = s.journal.events in
    let is = sym (reason_as s.options J x.state key select asked text t) ∙ why in
    let no = no_reason s.options x.state text select J is in
    let start = may_start s.options J x.state text select sound.1.sound.journal.lawful (some_region s.options sound.1.sound.rounded.size no.size) ask.keyed ask.place t.means (sym (asked_as s.options J x.state key select asked text t) ∙ none) is in
    let own : MayBegin (key_of_text x.state text) (select_tables x.state.db select) s = record {
      may = start;
      few = tables_are_few (trimmed text) x.state.ansi select x.state.db t.means;
      once = tables_are_apart select x.state.db;
      short = key_short x.state text ask.keyed short;
    } in
    subst (λ (k : List ℕ). MayBegin k (select_tables x.state.db select) s) (sym t.key_is) own
