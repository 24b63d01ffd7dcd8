-- What a select may have as its event, once the place of the event is known.
use Rattle.std.proofs.Common.{◌≡◌, ◌⊎◌, inl, inr, ℕ, ◌+◌, Bool, true, false, List, [], ◌++◌, length, refl, sym, ap, subst, ◌∙◌, append-nil}
use Rattle.std.specs.Prelude.{Option, Some, None, not, ◌&&◌, ◌==◌, find, if◌then◌else◌, MatchOption}
use Rattle.std.specs.List.{list_all}
use Rattle.qc_types.specs.declared.options.Options.{Options}
use Rattle.qc_sql.specs.declared.statements.Select.{Select}
use Rattle.qc_sql.specs.Grammar.{head_of, trimmed}
use Rattle.qc_sql.specs.Rules.{asks, select_tables}
use Rattle.qc_model.specs.declared.events.How.{How}
use Rattle.qc_model.specs.declared.events.How.TheVariants as how
use Rattle.qc_model.specs.declared.events.Reason.{Reason}
use Rattle.qc_model.specs.Journal.{Journal}
use Rattle.qc_model.specs.Cache.{Entry, cache, is_prune}
use Rattle.qc_model.specs.Choice.{Allows, IsNoRoom, answering, has_key, is_asked, is_visible, plain_reason, rival, start_count}
use Rattle.qc_model.specs.Session.{State, key_of_text, snapshot_of}
use Rattle.qc_select.specs.Settled.{state_at}
use Rattle.qc_select.proofs.Pruned.{none_stays, starts_stay}
use Rattle.qc_select.proofs.NoReasons.{no_reason, plain_alike, key_alike, tables_alike, visible_alike, asked_alike}
use Rattle.qc_select.proofs.Settling.{IsReached, Settles, settles}

-- whether the cache is asked for a text
abbrev pub is_asked_for : Options → State → List ℕ → Bool
is_asked_for options s text = not (options.size == 0) && is_asked (asks (head_of (trimmed text)) s.kind)

-- the entry that answers, where the cache is asked
abbrev pub asked_entry : Options → State → List ℕ → Journal → Option Entry
asked_entry options s text J = if is_asked_for options s text then answering s J (key_of_text s text) else None

none_asked : (b : Bool) (x : Option Entry) → (b ≡ true → x ≡ None) → (if b then x else None) ≡ None
none_asked true x h = h refl
none_asked false x h = refl

module _ (options : Options) (J q : Journal) (s o : State) (text : List ℕ) (select : Select) (g : Settles J q s o) where
  -- the same entry answers, where it is found among the same entries
  entry_alike : ((p : Entry → Bool) → find p (cache (J ++ q)) ≡ find p (cache J)) → asked_entry options o text (J ++ q) ≡ asked_entry options s text J
  entry_alike same =
      (λ i. if asked_alike J q s o g options text i then find (λ e. e.complete && has_key (key_alike J q s o g text i) e && visible_alike J q s o g e i) (cache (J ++ q)) else None)
      ∙ ap (λ x. if is_asked_for options s text then x else None) (same (λ e. e.complete && has_key (key_of_text s text) e && is_visible s J e))

  entry_none : list_all is_prune q ≡ true → asked_entry options s text J ≡ None → asked_entry options o text (J ++ q) ≡ None
  entry_none h none =
      (λ i. if asked_alike J q s o g options text i then find (λ e. e.complete && has_key (key_alike J q s o g text i) e && visible_alike J q s o g e i) (cache (J ++ q)) else None)
      ∙ none_asked (is_asked_for options s text) _ (λ asked. none_stays (λ e. e.complete && has_key (key_of_text s text) e && is_visible s J e) J q h (sym (ap (λ b. if b then answering s J (key_of_text s text) else None) asked) ∙ none))

  allows_hit : (entry : Entry) (n : ℕ) → asked_entry options o text (J ++ q) ≡ Some entry → n ≡ entry.serial → Allows options o text select (J ++ q) (how.Hit n)
  allows_hit entry n is same = subst (λ x. MatchOption x
      (MatchOption (plain_reason options o text select (J ++ q)) ((how.Hit n ≡ how.Start (start_count (J ++ q) + 1) (key_of_text o text) (select_tables o.db select)) ⊎ IsNoRoom (how.Hit n)) (λ r. how.Hit n ≡ how.Plain r))
      (λ (e : Entry). how.Hit n ≡ how.Hit e.serial)) (sym is) (ap how.Hit same)

  allows_plain : (why : Reason) → asked_entry options o text (J ++ q) ≡ None → plain_reason options o text select (J ++ q) ≡ Some why → Allows options o text select (J ++ q) (how.Plain why)
  allows_plain why none is = subst (λ x. MatchOption x
      (MatchOption (plain_reason options o text select (J ++ q)) ((how.Plain why ≡ how.Start (start_count (J ++ q) + 1) (key_of_text o text) (select_tables o.db select)) ⊎ IsNoRoom (how.Plain why)) (λ r. how.Plain why ≡ how.Plain r))
      (λ (e : Entry). how.Plain why ≡ how.Hit e.serial)) (sym none)
      (subst (λ x. MatchOption x ((how.Plain why ≡ how.Start (start_count (J ++ q) + 1) (key_of_text o text) (select_tables o.db select)) ⊎ IsNoRoom (how.Plain why)) (λ r. how.Plain why ≡ how.Plain r)) (sym is) refl)

  allows_else : (h : How) → asked_entry options o text (J ++ q) ≡ None → plain_reason options o text select (J ++ q) ≡ None
      → (h ≡ how.Start (start_count (J ++ q) + 1) (key_of_text o text) (select_tables o.db select)) ⊎ IsNoRoom h → Allows options o text select (J ++ q) h
  allows_else h none is x = subst (λ y. MatchOption y
      (MatchOption (plain_reason options o text select (J ++ q)) ((h ≡ how.Start (start_count (J ++ q) + 1) (key_of_text o text) (select_tables o.db select)) ⊎ IsNoRoom h) (λ r. h ≡ how.Plain r))
      (λ (e : Entry). h ≡ how.Hit e.serial)) (sym none)
      (subst (λ y. MatchOption y ((h ≡ how.Start (start_count (J ++ q) + 1) (key_of_text o text) (select_tables o.db select)) ⊎ IsNoRoom h) (λ r. h ≡ how.Plain r)) (sym is) x)

-- ---- the event at its place

-- with no prune before it
abbrev pub state_next : Journal → Select → State → State
state_next J select s = state_at J (length (J ++ []) + 1) select s

same_found : (J : Journal) (p : Entry → Bool) → find p (cache (J ++ [])) ≡ find p (cache J)
same_found J p = ap (λ j. find p (cache j)) (append-nil J)

pub hit_allowed : (options : Options) (J : Journal) (s : State) (text : List ℕ) (select : Select) (entry : Entry) (n : ℕ) → IsReached J (snapshot_of s) → asked_entry options s text J ≡ Some entry → n ≡ entry.serial
    → Allows options (state_next J select s) text select (J ++ []) (how.Hit n)
hit_allowed options J s text select entry n r is same =
    let g = settles J [] select s refl r in
    let o = state_next J select s in
    allows_hit options J [] s o text select g entry n (entry_alike options J [] s o text select g (same_found J) ∙ is) same

pub plain_allowed : (options : Options) (J : Journal) (s : State) (text : List ℕ) (select : Select) (why : Reason) → IsReached J (snapshot_of s) → asked_entry options s text J ≡ None → plain_reason options s text select J ≡ Some why
    → Allows options (state_next J select s) text select (J ++ []) (how.Plain why)
plain_allowed options J s text select why r none is =
    let g = settles J [] select s refl r in
    let o = state_next J select s in
    allows_plain options J [] s o text select g why (entry_alike options J [] s o text select g (same_found J) ∙ none)
    (plain_alike J [] s o g options text select (ap (λ j. rival j (key_of_text s text)) (append-nil J)) ∙ is)

-- behind some prunes
pub else_allowed : (options : Options) (J q : Journal) (s : State) (text : List ℕ) (select : Select) (h : How) → list_all is_prune q ≡ true → IsReached J (snapshot_of s) → asked_entry options s text J ≡ None → plain_reason options s text select J ≡ None
    → (h ≡ how.Start (start_count J + 1) (key_of_text s text) (select_tables s.db select)) ⊎ IsNoRoom h → Allows options (state_at J (length (J ++ q) + 1) select s) text select (J ++ q) h
else_allowed options J q s text select h prunes r none is x =
    let g = settles J q select s prunes r in
    let o = state_at J (length (J ++ q) + 1) select s in
    let no = no_reason options s text select J is in
    let alone : rival (J ++ q) (key_of_text s text) ≡ None = none_stays (λ e. not e.complete && has_key (key_of_text s text) e) J q prunes no.alone in
    allows_else options J q s o text select g h (entry_none options J q s o text select g prunes none) (plain_alike J q s o g options text select (alone ∙ sym no.alone) ∙ is) (by h x)
  where
    by : (h : How) → (h ≡ how.Start (start_count J + 1) (key_of_text s text) (select_tables s.db select)) ⊎ IsNoRoom h
        → (h ≡ how.Start (start_count (J ++ q) + 1) (key_of_text (state_at J (length (J ++ q) + 1) select s) text) (select_tables (state_at J (length (J ++ q) + 1) select s).db select)) ⊎ IsNoRoom h
    by h (inr y) = inr y
    by h (inl y) =
        let g = settles J q select s prunes r in
        let o = state_at J (length (J ++ q) + 1) select s in
        inl (y ∙ λ i. how.Start (sym (starts_stay J q prunes) i + 1) (sym (key_alike J q s o g text) i) (sym (tables_alike J q s o g select) i))
