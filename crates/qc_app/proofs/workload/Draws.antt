-- What one draw of a session does, where the tables hold its rows between those of the others.
use Rattle.std.proofs.Common.{◌≡◌, ◌≢◌, ℕ, suc, ◌+◌, ◌*◌, ◌%◌, ◌≤◌, ◌<◌, Bool, true, false, not, cond, List, [], ◌∷◌, ◌++◌, map, length, refl, sym, ap, ◌∙◌, arith, filter, None, append_assoc, append-nil}
use Rattle.std.specs.Prelude.{◌==◌, codes, pos, ℤ}
use Rattle.qc_types.specs.declared.names.Value.{Value}
use Rattle.std.specs.List.{list_any}
use Rattle.std.specs.Ordering.{nat_cmp, int_cmp}
use Rattle.std.specs.BTreeMap.{insert_entry, is_at}
use Rattle.std.specs.Map.{lookup}
use Rattle.std.proofs.lemmas.List.Elements.{filter-append}
use lib.ListN.{length-map}
use Rattle.qc_types.specs.declared.options.Options.{Options}
use Rattle.qc_sql.specs.declared.commands.Command.TheVariants as command
use Rattle.qc_sql.specs.declared.replies.Reply.{Reply}
use Rattle.qc_sql.specs.declared.statements.Statement.TheVariants as statement
use Rattle.qc_sql.specs.declared.statements.Select.{Select}
use Rattle.qc_sql.specs.declared.tables.RowOp.{RowOp}
use Rattle.qc_sql.specs.declared.tables.RowOp.TheVariants as op
use Rattle.qc_sql.specs.Database.{apply, most_rows}
use Rattle.qc_sql.specs.Effects.{effect_of}
use Rattle.qc_model.specs.declared.events.Who.{Who}
use Rattle.qc_model.specs.declared.events.Event.{Event}
use Rattle.qc_model.specs.Journal.{Journal, present, operations}
use Rattle.qc_model.specs.Session.{State}
use Rattle.qc_model.specs.Machine.{Executes, committed, local}
use Rattle.qc_model.specs.ReportText.{Text}
use Rattle.qc_model.specs.Workload.{Tally, after_draw, all_set}
use Rattle.qc_script.specs.WorkloadScript as script
use Rattle.qc_app.specs.workload.Texts.{Means, insertion, setting, count_of_a, sum_of_b, greatest_of_a, first_of_b, row_of_a}
use Rattle.qc_app.specs.workload.Tables.{in_w, row, rows_of, database}
use Rattle.qc_app.proofs.workload.Maps.{Map, Below, Above, Rises, below_more, below_append, rises_above, insert_new, insert_last, set_all, others, put_all, put_own, none_below, none_above, all_between, any_other, some_other}
use Rattle.qc_app.proofs.workload.Changes.{put_a, put_b, absent, insert_a, insert_b, keeps_in, keeps_low, keeps_high, puts, update_a, apply_puts, kept, pair}
use Rattle.qc_app.proofs.workload.Inserted as inserted
use Rattle.qc_app.proofs.workload.Updated as updated
use Rattle.qc_app.proofs.workload.Selected as selected
use Rattle.qc_app.proofs.workload.Written as written
use Rattle.qc_sql.specs.Grammar.{meaning, trimmed}
use Rattle.qc_sql.specs.declared.statements.Statement.{Statement}
use Rattle.qc_app.proofs.workload.Fixed.{count, sum, greatest, first as first_five}
use Rattle.qc_app.proofs.workload.Steps.{working, means_no_local, commit_weight, select_weight, Changed, inserts, sets, Selected, selects}

-- the rows of the others on both sides of a session's own, in a table
abbrev pub among : Map → Map → Map → Map
among before after own = before ++ (own ++ after)

-- what a draw makes of a session's rows and counts
pub record Draws (e : Event) (next state : State) (low_a high_a low_b high_b : Map) (t u : Tally) : Type 0 where
  pub same : next ≡ state
  pub tables : apply (operations e) (database (among low_a high_a t.in_a) (among low_b high_b t.in_b)) ≡ database (among low_a high_a u.in_a) (among low_b high_b u.in_b)
  pub commits : t.commits + commit_weight e ≡ u.commits
  pub selects : t.selects + select_weight e ≡ u.selects

-- where a table's rows stand: those of the session, up to its next key, between those of the others
pub record Stands (first key : ℕ) (low high own : Map) : Type 0 where
  pub below : Below first low
  pub rises : Rises first own
  pub own_below : Below key own
  pub above : Above key high
  pub few : length (among low high own) < most_rows

module _ (first key : ℕ) (low high own : Map) (st : Stands first key low high own) (lt : first < key) where
  front : Below key (low ++ own)
  front = below_append key low own (below_more first key low (omega (arith, lt)) st.below) st.own_below

  turned : (xs : Map) → (low ++ own) ++ xs ≡ low ++ (own ++ xs)
  turned xs = append_assoc low own xs

  no_row : lookup (is_at (int_cmp (pos key))) (rows_of (among low high own)) ≡ None
  no_row = ap (λ (l : Map). lookup (is_at (int_cmp (pos key))) (rows_of l)) (sym (turned high)) ∙ absent key (low ++ own) high front st.above

  few_rows : length (rows_of (among low high own)) < most_rows
  few_rows = let e = length-map (among low high own) (λ (x : ℕ × ℕ). let y : ℤ × List Value = (pos x.0, row x.0 x.1) in y) in let f = st.few in omega (arith, e, f)

  put_in : (m : ℕ) → insert_entry nat_cmp (among low high own) key m ≡ among low high (insert_entry nat_cmp own key m)
  put_in m =
      ap (λ (l : Map). insert_entry nat_cmp l key m) (sym (turned high))
      ∙ (insert_new key m (low ++ own) high front st.above
      ∙ (turned ((key, m) ∷ high)
      ∙ ap (λ (l : Map). low ++ l) (sym (append_assoc own ((key, m) ∷ []) high) ∙ ap (λ (l : Map). l ++ high) (sym (insert_last key m own st.own_below)))))

  -- the condition of an update keeps the session's own rows
  own_kept : filter (kept first key) (among low high own) ≡ own
  own_kept =
      filter-append (kept first key) low (own ++ high)
      ∙ (ap (λ (l : Map). l ++ filter (kept first key) (own ++ high)) (none_below (kept first key) first low (λ e h. keeps_low first key e.0 e.1 h) st.below)
      ∙ (filter-append (kept first key) own high
      ∙ (ap (λ (l : Map). filter (kept first key) own ++ l) (none_above (kept first key) key high (λ e h. keeps_high first key e.0 e.1 (omega (arith, h, lt)) h) st.above)
      ∙ (append-nil (filter (kept first key) own)
      ∙ all_between (kept first key) first key own (λ e h g. keeps_in first key e.0 e.1 (omega (arith, h)) (omega (arith, g))) (rises_above first first own (omega arith) st.rises) st.own_below))))

  own_put : (m : ℕ) → put_all m (others m (filter (kept first key) (among low high own))) (among low high own) ≡ among low high (set_all m own)
  own_put m = ap (λ (l : Map). put_all m (others m l) (among low high own)) own_kept ∙ put_own m first low own high (below_more first (suc first) low (omega arith) st.below) st.rises

-- ---- by the event

operations_of : (who : Who) (ops : List RowOp) → operations (committed who ops) ≡ ops
operations_of who [] = refl
operations_of who (o ∷ os) = refl

selects_nothing : (who : Who) (ops : List RowOp) → select_weight (committed who ops) ≡ 0
selects_nothing who [] = refl
selects_nothing who (o ∷ os) = refl

-- an update is a commit where a value was another
weighs : (who : Who) (m : ℕ) (own : Map) → commit_weight (committed who (puts m (others m own))) ≡ cond (list_any (λ (e : ℕ × ℕ). not (e.1 == m)) own) 1 0
weighs who m own = by (list_any (λ (e : ℕ × ℕ). not (e.1 == m)) own) refl
  where
    some : (es : Map) → es ≢ [] → commit_weight (committed who (puts m es)) ≡ 1
    some [] h = absurd (h refl)
    some (e ∷ es) h = refl

    by : (t : Bool) → list_any (λ (e : ℕ × ℕ). not (e.1 == m)) own ≡ t → commit_weight (committed who (puts m (others m own))) ≡ cond t 1 0
    by true q = some (others m own) (some_other m own q)
    by false q = ap (λ (es : Map). commit_weight (committed who (puts m es))) (any_other m own q)

module _ (e : Event) (next state : State) (first key : ℕ) (low_a high_a low_b high_b : Map) (t : Tally)
    (st_a : Stands first key low_a high_a t.in_a) (st_b : Stands first key low_b high_b t.in_b) (lt : first < key) where
  abbrev all_a : Map
  all_a = among low_a high_a t.in_a

  abbrev all_b : Map
  all_b = among low_b high_b t.in_b

  put_in_a : (m : ℕ) → Changed e next state (op.Put (in_w (codes "a")) (row key m) ∷ [])
      → Draws e next state low_a high_a low_b high_b t (record { in_a = insert_entry nat_cmp t.in_a key m; in_b = t.in_b; commits = t.commits + 1; selects = t.selects })
  put_in_a m c = record {
    same = c.same;
    tables = ap (λ (x : Event). apply (operations x) (database all_a all_b)) c.event ∙ (put_a all_a all_b key m ∙ ap (λ (l : Map). database l all_b) (put_in first key low_a high_a t.in_a st_a lt m));
    commits = ap (λ (x : Event). t.commits + commit_weight x) c.event;
    selects = ap (λ (x : Event). t.selects + select_weight x) c.event ∙ omega arith;
  }

  put_in_b : (m : ℕ) → Changed e next state (op.Put (in_w (codes "b")) (row key m) ∷ [])
      → Draws e next state low_a high_a low_b high_b t (record { in_a = t.in_a; in_b = insert_entry nat_cmp t.in_b key m; commits = t.commits + 1; selects = t.selects })
  put_in_b m c = record {
    same = c.same;
    tables = ap (λ (x : Event). apply (operations x) (database all_a all_b)) c.event ∙ (put_b all_a all_b key m ∙ ap (λ (l : Map). database all_a l) (put_in first key low_b high_b t.in_b st_b lt m));
    commits = ap (λ (x : Event). t.commits + commit_weight x) c.event;
    selects = ap (λ (x : Event). t.selects + select_weight x) c.event ∙ omega arith;
  }

  set_own : (m : ℕ) → Changed e next state (puts m (others m (filter (kept first key) all_a))) → Draws e next state low_a high_a low_b high_b t (all_set m t)
  set_own m c =
      let es : Map = others m (filter (kept first key) all_a) in
      record {
        same = c.same;
        tables =
            ap (λ (x : Event). apply (operations x) (database all_a all_b)) c.event
            ∙ (ap (λ (l : List RowOp). apply l (database all_a all_b)) (operations_of c.who (puts m es))
            ∙ (apply_puts m es all_a all_b
            ∙ ap (λ (l : Map). database l all_b) (own_put first key low_a high_a t.in_a st_a lt m)));
        commits =
            ap (λ (x : Event). t.commits + commit_weight x) c.event
            ∙ (ap (λ (l : Map). t.commits + commit_weight (committed c.who (puts m (others m l)))) (own_kept first key low_a high_a t.in_a st_a lt)
            ∙ ap (λ n. t.commits + n) (weighs c.who m t.in_a));
        selects = ap (λ (x : Event). t.selects + select_weight x) c.event ∙ (ap (λ n. t.selects + n) (selects_nothing c.who (puts m es)) ∙ omega arith);
      }

  only_selects : Selected e next state → Draws e next state low_a high_a low_b high_b t (record { in_a = t.in_a; in_b = t.in_b; commits = t.commits; selects = t.selects + 1 })
  only_selects c = record {
    same = c.same;
    tables = ap (λ (x : Event). apply (operations x) (database all_a all_b)) c.event;
    commits = ap (λ (x : Event). t.commits + commit_weight x) c.event ∙ omega arith;
    selects = ap (λ (x : Event). t.selects + select_weight x) c.event ∙ ap (λ n. t.selects + n) c.one;
  }

-- ---- by the text

as_read : (x y : Text) (s : Statement) → x ≡ y → Means y s → Means x s
as_read x y s is h = ap (λ (t : Text). meaning (trimmed t) false) is ∙ h

-- what the texts mean, where their numbers fit
module _ (session k : ℕ) (few : k ≤ 2000) (four : session ≤ 4) where
  abbrev first_key : ℕ
  first_key = session * 1000000

  abbrev own_key : ℕ
  own_key = first_key + k

  into_a_means : (m : ℕ) → m < 1000 → Means (written.into_a own_key m) (insertion (codes "a") own_key m)
  into_a_means m h = as_read (written.into_a own_key m) (inserted.text true own_key m) _ (written.into_a_is own_key m) (inserted.inserted true own_key m (omega (arith, few, four)) (omega (arith, h)))

  into_b_means : (m : ℕ) → m < 1000 → Means (written.into_b own_key m) (insertion (codes "b") own_key m)
  into_b_means m h = as_read (written.into_b own_key m) (inserted.text false own_key m) _ (written.into_b_is own_key m) (inserted.inserted false own_key m (omega (arith, few, four)) (omega (arith, h)))

  set_means : (m : ℕ) → m < 1000 → Means (written.set first_key own_key m) (setting first_key own_key m)
  set_means m h = as_read (written.set first_key own_key m) (updated.text first_key own_key m) _ (written.set_is first_key own_key m) (updated.updated first_key own_key m (omega (arith, four)) (omega (arith, few, four)) (omega (arith, h)))

  wanted_means : (r : ℕ) → Means (selected.text (first_key + r % 2000)) (statement.Select (row_of_a (first_key + r % 2000)))
  wanted_means r = selected.selected (first_key + r % 2000) (omega (arith, four))

module _ (session kind : ℕ) where
  -- a query that has an event
  abbrev HasEvent : Text → Type 0
  HasEvent text = local (working session kind) (command.Query text) ≡ None

  either_has : (b : Bool) (x y : Text) → HasEvent x → HasEvent y → HasEvent (cond b x y)
  either_has true x y f g = f
  either_has false x y f g = g

  select_has : (text : Text) (s : Select) → Means text (statement.Select s) → HasEvent text
  select_has text s h = means_no_local session kind text (statement.Select s) h refl

  pub draw_has : (k : ℕ) → k ≤ 2000 → session ≤ 4 → (d : ℕ) → HasEvent (script.statement session k d)
  unfolding script.statement
  draw_has k few four d =
      let first : ℕ = session * 1000000 in
      let key : ℕ = first + k in
      let m : ℕ = d % 1000 in
      let small : m < 1000 = omega arith in
      either_has (d % 8 == 0) (written.into_a key m) _ (means_no_local session kind (written.into_a key m) (insertion (codes "a") key m) (into_a_means session k few four m small) refl)
      (either_has (d % 8 == 1) (written.into_b key m) _ (means_no_local session kind (written.into_b key m) (insertion (codes "b") key m) (into_b_means session k few four m small) refl)
      (either_has (d % 8 == 2) (written.set first key m) _ (means_no_local session kind (written.set first key m) (setting first key m) (set_means session k few four m small) refl)
      (either_has (d % 8 == 3) (codes "SELECT COUNT(*) FROM a") _ (select_has (codes "SELECT COUNT(*) FROM a") count_of_a count)
      (either_has (d % 8 == 4) (codes "SELECT SUM(v) FROM b") _ (select_has (codes "SELECT SUM(v) FROM b") sum_of_b sum)
      (either_has (d % 8 == 5) (selected.text (first + d % 2000)) _ (select_has (selected.text (first + d % 2000)) (row_of_a (first + d % 2000)) (wanted_means session k few four d))
      (either_has (d % 8 == 6) (codes "SELECT MAX(v) FROM a") (codes "SELECT * FROM b ORDER BY v LIMIT 5")
      (select_has (codes "SELECT MAX(v) FROM a") greatest_of_a greatest)
      (select_has (codes "SELECT * FROM b ORDER BY v LIMIT 5") first_of_b first_five)))))))

module _ (options : Options) (who : Who) (session kind k : ℕ) (journal : Journal) (e : Event) (r : Reply) (next : State) (low_a high_a low_b high_b : Map) (t : Tally)
    (now : present journal ≡ database (among low_a high_a t.in_a) (among low_b high_b t.in_b))
    (st_a : Stands (session * 1000000) (session * 1000000 + k) low_a high_a t.in_a) (st_b : Stands (session * 1000000) (session * 1000000 + k) low_b high_b t.in_b)
    (some : 1 ≤ k) (few : k ≤ 2000) (four : session ≤ 4) where
  -- the query makes this of the session's rows and counts
  abbrev Does : Text → Tally → Type 0
  Does text u = Executes options who (working session kind) (command.Query text) journal e r next → Draws e next (working session kind) low_a high_a low_b high_b t u

  either : (b : Bool) (x y : Text) (u v : Tally) → Does x u → Does y v → Does (cond b x y) (cond b u v)
  either true x y u v f g = f
  either false x y u v f g = g

  in_both : (b : Bool) (x y : Text) (u : Tally) → Does x u → Does y u → Does (cond b x y) u
  in_both true x y u f g = f
  in_both false x y u f g = g

  lt : session * 1000000 < session * 1000000 + k
  lt = omega (arith, some)

  selecting : (text : Text) (s : Select) → Means text (statement.Select s) → Does text (record { in_a = t.in_a; in_b = t.in_b; commits = t.commits; selects = t.selects + 1 })
  selecting text s h ex =
      only_selects e next (working session kind) (session * 1000000) (session * 1000000 + k) low_a high_a low_b high_b t st_a st_b lt (selects options who session kind text journal e r next s h ex)

  into_a : (m : ℕ) → m < 1000 → Does (written.into_a (session * 1000000 + k) m) (record { in_a = insert_entry nat_cmp t.in_a (session * 1000000 + k) m; in_b = t.in_b; commits = t.commits + 1; selects = t.selects })
  into_a m h ex =
      let first : ℕ = session * 1000000 in
      let key : ℕ = first + k in
      let a : Map = among low_a high_a t.in_a in
      let b : Map = among low_b high_b t.in_b in
      put_in_a e next (working session kind) first key low_a high_a low_b high_b t st_a st_b lt m
      (inserts options who session kind (written.into_a key m) journal (database a b) e r next (codes "a") key m (effect_of (op.Put (in_w (codes "a")) (row key m) ∷ []) 1) (into_a_means session k few four m h) now
      (insert_a a b key m session (no_row first key low_a high_a t.in_a st_a lt) (few_rows first key low_a high_a t.in_a st_a lt)) ex)

  into_b : (m : ℕ) → m < 1000 → Does (written.into_b (session * 1000000 + k) m) (record { in_a = t.in_a; in_b = insert_entry nat_cmp t.in_b (session * 1000000 + k) m; commits = t.commits + 1; selects = t.selects })
  into_b m h ex =
      let first : ℕ = session * 1000000 in
      let key : ℕ = first + k in
      let a : Map = among low_a high_a t.in_a in
      let b : Map = among low_b high_b t.in_b in
      put_in_b e next (working session kind) first key low_a high_a low_b high_b t st_a st_b lt m
      (inserts options who session kind (written.into_b key m) journal (database a b) e r next (codes "b") key m (effect_of (op.Put (in_w (codes "b")) (row key m) ∷ []) 1) (into_b_means session k few four m h) now
      (insert_b a b key m session (no_row first key low_b high_b t.in_b st_b lt) (few_rows first key low_b high_b t.in_b st_b lt)) ex)

  setting_own : (m : ℕ) → m < 1000 → Does (written.set (session * 1000000) (session * 1000000 + k) m) (all_set m t)
  setting_own m h ex =
      let first : ℕ = session * 1000000 in
      let key : ℕ = first + k in
      let a : Map = among low_a high_a t.in_a in
      let b : Map = among low_b high_b t.in_b in
      let es : Map = others m (filter (kept first key) a) in
      set_own e next (working session kind) first key low_a high_a low_b high_b t st_a st_b lt m
      (sets options who session kind (written.set first key m) journal (database a b) e r next first key m (effect_of (puts m es) (length (map (pair m) es))) (set_means session k few four m h) now
      (update_a a b first key m session) ex)

  pub draw_does : (d : ℕ) → Does (script.statement session k d) (after_draw (session * 1000000 + k) d t)
  unfolding script.statement
  draw_does d =
      let first : ℕ = session * 1000000 in
      let key : ℕ = first + k in
      let m : ℕ = d % 1000 in
      let small : m < 1000 = omega arith in
      let wanted : ℕ = first + d % 2000 in
      let shown : Tally = record { in_a = t.in_a; in_b = t.in_b; commits = t.commits; selects = t.selects + 1 } in
      either (d % 8 == 0) (written.into_a key m) _ _ _ (into_a m small)
      (either (d % 8 == 1) (written.into_b key m) _ _ _ (into_b m small)
      (either (d % 8 == 2) (written.set first key m) _ (all_set m t) _ (setting_own m small)
      (in_both (d % 8 == 3) (codes "SELECT COUNT(*) FROM a") _ shown (selecting (codes "SELECT COUNT(*) FROM a") count_of_a count)
      (in_both (d % 8 == 4) (codes "SELECT SUM(v) FROM b") _ shown (selecting (codes "SELECT SUM(v) FROM b") sum_of_b sum)
      (in_both (d % 8 == 5) (selected.text wanted) _ shown (selecting (selected.text wanted) (row_of_a wanted) (wanted_means session k few four d))
      (in_both (d % 8 == 6) (codes "SELECT MAX(v) FROM a") (codes "SELECT * FROM b ORDER BY v LIMIT 5") shown
      (selecting (codes "SELECT MAX(v) FROM a") greatest_of_a greatest)
      (selecting (codes "SELECT * FROM b ORDER BY v LIMIT 5") first_of_b first_five)))))))
