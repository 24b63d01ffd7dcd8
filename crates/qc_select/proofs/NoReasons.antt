-- The reasons of a plain run, before the place of its event is known and once it is.
use Rattle.std.proofs.Common.{◌≡◌, ℕ, Bool, true, false, cond, List, [], ◌∷◌, ◌++◌, refl, sym, ap, subst, ◌∙◌, true≢false}
use Rattle.std.specs.Prelude.{Option, Some, None, Result, Ok, Err, not, ◌&&◌, ◌||◌, ◌==◌, find, option_map}
use Rattle.std.specs.List.{list_all}
use Rattle.std.proofs.lemmas.Bool.{and_from}
use Rattle.std.proofs.lemmas.Option.{none-some, same_Some}
use Rattle.qc_types.specs.declared.names.TableName.{TableName}
use Rattle.qc_types.specs.declared.options.Options.{Options}
use Rattle.qc_types.specs.declared.sql_error.SqlError.{SqlError}
use Rattle.qc_sql.specs.declared.statements.Select.{Select}
use Rattle.qc_sql.specs.Grammar.{head_of, trimmed}
use Rattle.qc_sql.specs.Keys.{key_bytes}
use Rattle.qc_sql.specs.Rows.{Rows, rows}
use Rattle.qc_sql.specs.Rules.{asks, select_tables, why_not}
use Rattle.qc_sql.specs.Words.{◌or_else◌, when}
use Rattle.qc_model.specs.declared.events.Reason.{Reason}
use Rattle.qc_model.specs.declared.events.Reason.TheVariants as reason
use Rattle.qc_model.specs.Journal.{Journal, last_change}
use Rattle.qc_model.specs.Cache.{Entry}
use Rattle.qc_model.specs.Choice.{changed_since, is_asked, is_stale, is_visible, plain_reason, refusal_reason, rival, rule_reason, stale_reason, unseen_reason, wrote}
use Rattle.qc_model.specs.Session.{State, base, flags_of, key_of_text, snapshot_of}
use Rattle.qc_laws.specs.history.Seen.{is_current}
use Rattle.qc_select.proofs.Settling.{Settles}

-- ---- the same for both states

pub found_test : {A : Type 0} (p : A → Bool) (xs : List A) (x : A) → find p xs ≡ Some x → p x ≡ true
found_test p [] x h = absurd (none-some x h)
found_test {A} p (y ∷ xs) x h = elim (p y) as (λ b. p y ≡ b → cond b (Some y) (find p xs) ≡ Some x → p x ≡ true) [
  | true ↦ λ is g. subst (λ (z : A). p z ≡ true) (same_Some y x g) is
  | false ↦ λ is g. found_test p xs x g
] refl h

module _ (J q : Journal) (s o : State) (g : Settles J q s o) where
  stale_alike : (ts : List TableName) → stale_reason o (J ++ q) (find (is_stale o (J ++ q)) ts) ≡ stale_reason s J (find (is_stale s J) ts)
  stale_alike ts = (λ i. stale_reason o (J ++ q) (find (λ t. g.stale_is t i) ts)) ∙ by (find (is_stale s J) ts) refl
    where
      by : (x : Option TableName) → find (is_stale s J) ts ≡ x → stale_reason o (J ++ q) x ≡ stale_reason s J x
      by None is = refl
      by (Some t) is = g.reason_is t (found_test (is_stale s J) ts t is)

  pub unseen_alike : (ts : List TableName) → unseen_reason o (J ++ q) ts ≡ unseen_reason s J ts
  unseen_alike ts = λ i. option_map reason.Written (find (λ t. g.wrote_is t i) ts) or_else stale_alike ts i

  pub rule_alike : (options : Options) (text : List ℕ) (select : Select) → rule_reason options o text select ≡ rule_reason options s text select
  rule_alike options text select = λ i.
      when (options.size == 0 || g.kind_is i == 0) reason.Off
      or_else when (not (is_asked (asks (head_of (trimmed text)) (g.kind_is i)))) reason.NotAsked
      or_else option_map reason.Rule (why_not (g.db_is i) select)

  pub rows_alike : (select : Select) → rows select (base o (J ++ q)) o.db (flags_of o) o.session ≡ rows select (base s J) s.db (flags_of s) s.session
  rows_alike select = λ i. rows select (g.base_is i) (g.db_is i) (g.flags_are i) (g.session_is i)

  pub key_alike : (text : List ℕ) → key_of_text o text ≡ key_of_text s text
  key_alike text = λ i. key_bytes (g.flags_are i) (g.db_is i) (trimmed text)

  pub tables_alike : (select : Select) → select_tables o.db select ≡ select_tables s.db select
  tables_alike select = λ i. select_tables (g.db_is i) select

  pub visible_alike : (e : Entry) → is_visible o (J ++ q) e ≡ is_visible s J e
  visible_alike e = λ i. list_all (λ t. not (g.wrote_is t i) && not (g.stale_is t i)) e.tables

  pub asked_alike : (options : Options) (text : List ℕ) → (not (options.size == 0) && is_asked (asks (head_of (trimmed text)) o.kind)) ≡ (not (options.size == 0) && is_asked (asks (head_of (trimmed text)) s.kind))
  asked_alike options text = ap (λ k. not (options.size == 0) && is_asked (asks (head_of (trimmed text)) k)) g.kind_is

  pub plain_alike : (options : Options) (text : List ℕ) (select : Select) → rival (J ++ q) (key_of_text s text) ≡ rival J (key_of_text s text) → plain_reason options o text select (J ++ q) ≡ plain_reason options s text select J
  plain_alike options text select same =
      (λ i. refusal_reason (rows_alike select i) or_else rule_alike options text select i or_else unseen_reason o (J ++ q) (tables_alike select i) or_else option_map (λ (entry : Entry). reason.Rival entry.serial) (rival (J ++ q) (key_alike text i)))
      ∙ (λ i. refusal_reason (rows select (base s J) s.db (flags_of s) s.session) or_else rule_reason options s text select or_else unseen_alike (select_tables s.db select) i or_else option_map (λ (entry : Entry). reason.Rival entry.serial) (same i))

-- ---- none applies

neither_is : (a b : Option Reason) → (a or_else b) ≡ None → (a ≡ None) × (b ≡ None)
neither_is (Some x) b h = absurd (none-some x (sym h))
neither_is None b h = (refl, h)

when_not : (b : Bool) (x : Reason) → when b x ≡ None → b ≡ false
when_not true x h = absurd (none-some x (sym h))
when_not false x h = refl

unmapped : {A B : Type 0} (f : A → B) (o : Option A) → option_map f o ≡ None → o ≡ None
unmapped f None h = refl
unmapped f (Some x) h = absurd (none-some (f x) (sym h))

not_either : (a b : Bool) → (a || b) ≡ false → a ≡ false
not_either false b h = refl
not_either true b h = absurd (true≢false h)

not_not : (b : Bool) → not b ≡ false → b ≡ true
not_not true h = refl
not_not false h = absurd (true≢false h)

-- nothing keeps the select out: it has rows, the cache is asked and may keep it, the session sees its tables as they are, and no other session fills its entry
pub record NoReason (options : Options) (s : State) (text : List ℕ) (select : Select) (J : Journal) : Type 0 where
  pub r : Rows
  pub gives : rows select (base s J) s.db (flags_of s) s.session ≡ Ok r
  pub size : (options.size == 0) ≡ false
  pub asked : is_asked (asks (head_of (trimmed text)) s.kind) ≡ true
  pub kept : why_not s.db select ≡ None
  pub current : list_all (is_current s J) (select_tables s.db select) ≡ true
  pub alone : rival J (key_of_text s text) ≡ None

none_found : (p : TableName → Bool) (t : TableName) (ts : List TableName) → find p (t ∷ ts) ≡ None → (p t ≡ false) × (find p ts ≡ None)
none_found p t ts h = elim (p t) as (λ b. cond b (Some t) (find p ts) ≡ None → (b ≡ false) × (find p ts ≡ None)) [
  | true ↦ λ g. absurd (none-some t (sym g))
  | false ↦ λ g. (refl, g)
] h

stale_none : (s : State) (J : Journal) (p : Option ℕ) (t : TableName) → snapshot_of s ≡ p → is_stale s J t ≡ true → stale_reason s J (Some t) ≡ None → ⊥
stale_none s J None t is stale h = true≢false (sym stale ∙ ap (λ (o : Option ℕ). changed_since o (last_change J t)) is)
stale_none s J (Some n) t is stale h = let some : stale_reason s J (Some t) ≡ Some (reason.NotVisible t (last_change J t) n) = rw is refl in none-some _ (sym h ∙ some)

not_stale : (s : State) (J : Journal) (ts : List TableName) (o : Option TableName) → find (is_stale s J) ts ≡ o → stale_reason s J o ≡ None → find (is_stale s J) ts ≡ None
not_stale s J ts None is h = is
not_stale s J ts (Some t) is h = absurd (stale_none s J (snapshot_of s) t refl (found_test (is_stale s J) ts t is) h)

all_current : (s : State) (J : Journal) (ts : List TableName) → find (wrote s) ts ≡ None → find (is_stale s J) ts ≡ None → list_all (is_current s J) ts ≡ true
all_current s J [] h g = refl
all_current s J (t ∷ ts) h g =
    let a = none_found (wrote s) t ts h in
    let b = none_found (is_stale s J) t ts g in
    and_from (is_current s J t) (list_all (is_current s J) ts) (λ i. not (a.0 i) && not (b.0 i)) (all_current s J ts a.1 b.1)

seen_all : (s : State) (J : Journal) (ts : List TableName) → unseen_reason s J ts ≡ None → list_all (is_current s J) ts ≡ true
seen_all s J ts h =
    let parts = neither_is (option_map reason.Written (find (wrote s) ts)) (stale_reason s J (find (is_stale s J) ts)) h in
    all_current s J ts (unmapped reason.Written (find (wrote s) ts) parts.0) (not_stale s J ts (find (is_stale s J) ts) refl parts.1)

rows_there : (x : Result Rows SqlError) → refusal_reason x ≡ None → (r : Rows) × (x ≡ Ok r)
rows_there (Ok r) h = (r, refl)
rows_there (Err e) h = absurd (none-some (reason.Error e.code) (sym h))

pub no_reason : (options : Options) (s : State) (text : List ℕ) (select : Select) (J : Journal) → plain_reason options s text select J ≡ None → NoReason options s text select J
no_reason options s text select J h =
    let first = neither_is (refusal_reason (rows select (base s J) s.db (flags_of s) s.session)) _ h in
    let second = neither_is (rule_reason options s text select) _ first.1 in
    let third = neither_is (unseen_reason s J (select_tables s.db select)) _ second.1 in
    let there = rows_there (rows select (base s J) s.db (flags_of s) s.session) first.0 in
    let off = neither_is (when (options.size == 0 || s.kind == 0) reason.Off) _ second.0 in
    let unasked = neither_is (when (not (is_asked (asks (head_of (trimmed text)) s.kind))) reason.NotAsked) _ off.1 in
    record {
      r = there.0;
      gives = there.1;
      size = not_either (options.size == 0) (s.kind == 0) (when_not _ reason.Off off.0);
      asked = not_not (is_asked (asks (head_of (trimmed text)) s.kind)) (when_not _ reason.NotAsked unasked.0);
      kept = unmapped reason.Rule (why_not s.db select) unasked.1;
      current = seen_all s J (select_tables s.db select) third.0;
      alone = unmapped (λ (entry : Entry). reason.Rival entry.serial) (rival J (key_of_text s text)) third.1;
    }
