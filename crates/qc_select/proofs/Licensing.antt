-- What a select's event asks of the journal.
use Rattle.std.proofs.Common.{◌≡◌, ℕ, ◌+◌, ◌<◌, Bool, true, false, cond, List, [], ◌∷◌, refl, sym, ap, subst, ◌∙◌, true≢false}
use Rattle.std.specs.Prelude.{Some, None, not, ◌&&◌, ◌||◌, find, is_some, option_map, if◌then◌else◌}
use Rattle.std.specs.List.{list_all, list_any, AllByRecursion, concat}
use Rattle.std.proofs.lemmas.Option.{none-some}
use Rattle.std.proofs.lemmas.Slice.Eq.{bytes_eq-Decides}
use Rattle.qc_types.specs.declared.names.TableName.{TableName}
use Rattle.qc_types.specs.declared.options.Options.{Options}
use Rattle.qc_sql.specs.declared.statements.Select.{Select}
use Rattle.qc_sql.specs.declared.statements.Statement.TheVariants as statement
use Rattle.qc_sql.specs.Grammar.{meaning, trimmed}
use Rattle.qc_sql.specs.Rules.{select_tables}
use Rattle.std.specs.Prelude.{Ok}
use Rattle.qc_model.specs.Journal.{Journal}
use Rattle.qc_model.specs.Cache.{Entry, cache}
use Rattle.qc_model.specs.Choice.{answering, has_key, is_visible, plain_reason, start_count}
use Rattle.qc_model.specs.Licence.{IsLawful, MayStart, region_words, tables_of_key}
use Rattle.qc_model.specs.Session.{State, key_of_text, snapshot_of}
use Rattle.qc_laws.specs.history.Answers.{CanBeKeyed, IsKeyOfRows}
use Rattle.qc_laws.specs.history.Runs.{IsKept}
use Rattle.qc_laws.specs.history.Seen.{is_current, IsPlace}
use Rattle.qc_laws.proofs.history.Answers.{starts_answer}
use Rattle.qc_laws.proofs.history.Stays.{answers_stay}
use Rattle.qc_select.proofs.Choosing.{asked_entry}
use Rattle.qc_select.proofs.NoReasons.{no_reason}

-- ---- no entry has the key

-- an entry of the key that is complete would answer, and one that isn't would be a rival
none_has : (J : Journal) (s : State) (key : List ℕ) (ts : List TableName) (es : List Entry) → tables_of_key key ≡ ts → list_all (is_current s J) ts ≡ true → AllByRecursion (IsKept J) es
    → find (λ e. e.complete && has_key key e && is_visible s J e) es ≡ None → find (λ e. not e.complete && has_key key e) es ≡ None → list_any (has_key key) es ≡ false
none_has J s key ts [] named current all none alone = refl
none_has J s key ts (e ∷ es) named current all none alone = elim (has_key key e) as (λ b. has_key key e ≡ b → cond (e.complete && b && is_visible s J e) (Some e) (find (λ e. e.complete && has_key key e && is_visible s J e) es) ≡ None → cond (not e.complete && b) (Some e) (find (λ e. not e.complete && has_key key e) es) ≡ None → (b || list_any (has_key key) es) ≡ false) [
  | true ↦ λ is f g.
      let k = all.0 in
      let visible : is_visible s J e ≡ true = subst (λ (us : List TableName). list_all (is_current s J) us ≡ true) (sym (k.tables ∙ ap tables_of_key ((bytes_eq-Decides e.key key).0 is) ∙ named)) current in
      absurd (both e.complete (is_visible s J e) visible f g)
  | false ↦ λ is f g. none_has J s key ts es named current all.1 (later (e.complete) (is_visible s J e) f) (after (not e.complete) g)
] refl none alone
  where
    both : (c v : Bool) → v ≡ true → cond (c && true && v) (Some e) (find (λ e. e.complete && has_key key e && is_visible s J e) es) ≡ None → cond (not c && true) (Some e) (find (λ e. not e.complete && has_key key e) es) ≡ None → ⊥
    both true true h f g = none-some e (sym f)
    both true false h f g = true≢false (sym h)
    both false v h f g = none-some e (sym g)

    later : (c v : Bool) → cond (c && false && v) (Some e) (find (λ e. e.complete && has_key key e && is_visible s J e) es) ≡ None → find (λ e. e.complete && has_key key e && is_visible s J e) es ≡ None
    later true v f = f
    later false v f = f

    after : (c : Bool) → cond (c && false) (Some e) (find (λ e. not e.complete && has_key key e) es) ≡ None → find (λ e. not e.complete && has_key key e) es ≡ None
    after true g = g
    after false g = g

-- ---- a start

pub may_start : (options : Options) (J : Journal) (s : State) (text : List ℕ) (select : Select) → IsLawful options J → 0 < region_words options → CanBeKeyed s → IsPlace J (snapshot_of s)
    → meaning (trimmed text) s.ansi ≡ Ok (statement.Select select) → asked_entry options s text J ≡ None → plain_reason options s text select J ≡ None
    → MayStart options J (start_count J + 1) (key_of_text s text) (select_tables s.db select)
may_start options J s text select lawful region keyed place means none is =
    let no = no_reason options s text select J is in
    let key = key_of_text s text in
    let r : IsKeyOfRows s J text select no.r = starts_answer s J text select no.r keyed place means no.kept no.current no.gives in
    let unanswered : answering s J key ≡ None = sym (λ i. if not (no.size i) && no.asked i then answering s J key else None) ∙ none in
    record {
      next = refl;
      has_answer = ap is_some (ap (option_map concat) r.packets);
      of_select = sym r.tables;
      no_other = none_has J s key (select_tables s.db select) (cache J) r.tables no.current (answers_stay options J lawful) unanswered no.alone;
      has_region = region;
    }
