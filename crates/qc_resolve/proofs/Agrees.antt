-- A SELECT that is validated gives what `rows` says.
use Rattle.std.proofs.Common.{◌≡◌, ℕ, suc, ◌+◌, ◌*◌, ◌^◌, ◌≤◌, Bool, true, false, cond, List, [], ◌∷◌, ◌++◌, length, map, take, drop, filter, refl, ap, sym, ◌∙◌, subst, Result, Ok, Err, arith}
use Rattle.std.proofs.lemmas.Bool.Decides.{nat_tests}
use Rattle.std.specs.Prelude.{Option, Some, None, ◌&&◌, nat_lt, codes}
use Rattle.std.specs.List.{AllByRecursion, flat_map}
use Rattle.std.specs.declared.cmp.Ordering.{Ordering}
use Rattle.std.proofs.lemmas.List.{append-nil, length-map, length-append}
use Rattle.qc_types.specs.Answers.{Gives}
use Rattle.qc_types.specs.declared.memory.Or.{Or}
use Rattle.qc_types.specs.declared.memory.Or.TheVariants as or
use Rattle.qc_types.specs.declared.sql_error.SqlError.{SqlError}
use Rattle.qc_types.specs.declared.names.Value.{Value}
use Rattle.qc_sql.specs.declared.replies.ColumnDef.{ColumnDef}
use Rattle.qc_sql.specs.declared.session.Flags.{Flags}
use Rattle.qc_sql.specs.declared.statements.Limit.{Limit}
use Rattle.qc_sql.specs.declared.statements.Order.{Order}
use Rattle.qc_sql.specs.declared.statements.Select.{Select}
use Rattle.qc_sql.specs.Database.{Name, Database, Table}
use Rattle.qc_sql.specs.Errors.{not_supported, name_not_unique, too_many_combinations, too_many_columns}
use Rattle.qc_sql.specs.Rows as meant
use Rattle.qc_sql.specs.Rows.{Rows, Bound, Scope, Combination, Found, bind, combinations, combination_count, condition, cut, each, find_column, first_repeated, groups, has_aggregate, one_each, order_cmp, ordering, refuse_if, refuse_some, rows, rows_over, shown_items, sorted, insert_before_ties, ◌>>=◌}
use Rattle.qc_resolve.specs.declared.formula.Formula.{Formula}
use Rattle.qc_resolve.specs.declared.items.Shown.{Shown}
use Rattle.qc_resolve.specs.declared.resolved.Fold.{Fold}
use Rattle.qc_resolve.specs.declared.resolved.OrderKey.{OrderKey}
use Rattle.qc_resolve.specs.declared.resolved.Resolved.{Resolved}
use Rattle.qc_resolve.specs.declared.test.Test.{Test}
use Rattle.qc_resolve.specs.Fit.{IsSoundBound, IsFit, AreFit}
use Rattle.qc_resolve.specs.Validated.{none_shown, shown_validated, condition_validated, key_validated, order_validated, output_validated, offset_of, count_of, bounds_validated, parts_validated, validated_over}
use Rattle.qc_resolve.specs.Meaning.{all_combinations, row_value, keeps, keys_cmp, output_rows, resolved_rows, rows_of}
use Rattle.qc_resolve.proofs.Fits.{combinations_fit, all_filter, all_sorted}
use Rattle.qc_resolve.proofs.GroupAgrees.{worth}
use Rattle.qc_resolve.proofs.ItemAgrees.{IsShown, SameShown, shown_same}
use Rattle.qc_resolve.proofs.OrderAgrees.{SameOrder, order_same}
use Rattle.qc_resolve.proofs.Parts.{parts_are}
use Rattle.qc_resolve.proofs.TestAgrees.{SameCondition, condition_same, kept_same}

-- what a validated SELECT gives
abbrev pub given : Result Resolved SqlError → Result Rows SqlError
given r = r >>= λ x. Ok (rows_of x)

some_above : (n : ℕ) → nat_lt 0 (suc n) ≡ true
some_above n = grind (arith, nat_tests)

-- ---- combinations

pub combinations_same : (bs : List Bound) → combinations bs ≡ all_combinations (map (λ b. b.table) bs)
combinations_same [] = refl
combinations_same (b ∷ bs) = ap (λ cs. flat_map (λ entry. map (λ c. entry.1 ∷ c) cs) b.table.rows) (combinations_same bs)

-- ---- what a group gives, where it is one row

sorted_by_none : (cs : List Combination) → sorted (order_cmp []) cs ≡ cs
sorted_by_none [] = refl
sorted_by_none (c ∷ cs) = ap (insert_before_ties (order_cmp []) c) (sorted_by_none cs) ∙ first cs
  where
    first : (cs : List Combination) → insert_before_ties (order_cmp []) c cs ≡ c ∷ cs
    first [] = refl
    first (d ∷ ds) = refl

ones_same : (bs : List Bound) (f g : Combination → List Value) (cs : List Combination) → ((c : Combination) → IsFit bs c → f c ≡ g c) → AreFit bs cs → map f cs ≡ map g cs
ones_same bs f g [] h fit = refl
ones_same bs f g (c ∷ cs) h fit = λ i. h c fit.0 i ∷ ones_same bs f g cs h fit.1 i

one_each_map : (f : List Combination → List Value) (cs : List Combination) → map f (one_each cs) ≡ map (λ c. f (c ∷ [])) cs
one_each_map f [] = refl
one_each_map f (c ∷ cs) = ap (λ vs. f (c ∷ []) ∷ vs) (one_each_map f cs)

cut_same : (limit : Option Limit) (row_limit : ℕ) (xs : List (List Value)) → cut limit row_limit xs ≡ take (count_of limit row_limit) (drop (offset_of limit) xs)
cut_same None row_limit xs = refl
cut_same (Some l) row_limit xs = refl

module _ (flags : Flags) (scope : Scope) (sound : AllByRecursion IsSoundBound scope.bounds) where
  abbrev bounds : List Bound
  bounds = scope.bounds

  abbrev tables : List Table
  tables = map (λ b. b.table) bounds

  -- what each group of combinations gives
  abbrev all_rows : Bool → List meant.Shown → List Combination → List (List Value)
  all_rows aggregated ss kept = map (λ group. map (λ s. s.1 group) ss) (groups aggregated kept)

  abbrev kept_by : (Combination → Bool) → List Combination
  kept_by k = filter k (combinations bounds)

  kept_is : (k : Combination → Bool) (t : Option Test) → ((c : Combination) → IsFit bounds c → k c ≡ keeps t c) → kept_by k ≡ filter (keeps t) (all_combinations tables)
  kept_is k t h = kept_same bounds k (keeps t) (combinations bounds) h (combinations_fit bounds sound) ∙ ap (filter (keeps t)) (combinations_same bounds)

  kept_fit : (k : Combination → Bool) → AreFit bounds (kept_by k)
  kept_fit k = all_filter (IsFit bounds) k (combinations bounds) (combinations_fit bounds sound)

  order_is : (os : List (Bool × Found)) (ks : List OrderKey) → ((a b : Combination) → order_cmp os a b ≡ keys_cmp ks a b) → ◌≡◌ {A = Combination → Combination → Ordering} (order_cmp os) (keys_cmp ks)
  order_is os ks h = λ i a b. h a b i

  -- each combination gives a row
  each_row : (ss : List meant.Shown) (s : Shown) (os : List (Bool × Found)) (ks : List OrderKey) (k : Combination → Bool) (t : Option Test) → IsShown false bounds ss none_shown s
      → ((a b : Combination) → order_cmp os a b ≡ keys_cmp ks a b) → ((c : Combination) → IsFit bounds c → k c ≡ keeps t c)
      → all_rows false ss (sorted (order_cmp os) (kept_by k)) ≡ output_rows (output_validated false s ks) (filter (keeps t) (all_combinations tables))
  each_row ss s os ks k t shown order kept =
      one_each_map (λ group. map (λ s. s.1 group) ss) (sorted (order_cmp os) (kept_by k))
      ∙ ones_same bounds (λ c. map (λ s. s.1 (c ∷ [])) ss) (λ c. map (row_value c) s.formulas) (sorted (order_cmp os) (kept_by k))
      (λ c fit. shown.value c fit ∙ ap (map (row_value c)) (sym shown.formulas))
      (all_sorted (IsFit bounds) (order_cmp os) (kept_by k) (kept_fit k))
      ∙ (λ i. map (λ c. map (row_value c) s.formulas) (sorted (order_is os ks order i) (kept_is k t kept i)))

  -- all of them give one
  one_row : (ss : List meant.Shown) (s : Shown) (k : Combination → Bool) (t : Option Test) → IsShown true bounds ss none_shown s
      → ((c : Combination) → IsFit bounds c → k c ≡ keeps t c)
      → all_rows true ss (sorted (order_cmp []) (kept_by k)) ≡ output_rows (output_validated true s []) (filter (keeps t) (all_combinations tables))
  one_row ss s k t shown kept =
      ap (λ cs. map (λ s. s.1 cs) ss ∷ []) (sorted_by_none (kept_by k))
      ∙ ap (λ r. r ∷ []) (shown.value [] (kept_by k) (kept_fit k)
      ∙ (λ i. map (worth (kept_is k t kept i) (append-nil s.folds i)) (sym shown.formulas i)))

  columns_same : (aggregated : Bool) (ss : List meant.Shown) (s : Shown) → IsShown aggregated bounds ss none_shown s → map (λ x. x.0) ss ≡ s.columns
  columns_same true ss s h = sym h.columns
  columns_same false ss s h = sym h.columns

  -- ---- the steps, from the last one

  abbrev resolved : Bool → Option Limit → Option Test → Shown → List OrderKey → Resolved
  resolved aggregated limit t s order = record {
    columns = s.columns;
    tables = tables;
    test = t;
    output = output_validated aggregated s order;
    offset = offset_of limit;
    count = count_of limit flags.row_limit;
  }

  abbrev whole : Bool → Option Limit → (Combination → Bool) → List meant.Shown → List (Bool × Found) → Rows
  whole aggregated limit k ss order = record { columns = map (λ s. s.0) ss; rows = cut limit flags.row_limit (all_rows aggregated ss (sorted (order_cmp order) (kept_by k))) }

  whole_same : (aggregated : Bool) (limit : Option Limit) (k : Combination → Bool) (t : Option Test) (ss : List meant.Shown) (s : Shown) (os : List (Bool × Found)) (ks : List OrderKey) → IsShown aggregated bounds ss none_shown s
      → all_rows aggregated ss (sorted (order_cmp os) (kept_by k)) ≡ output_rows (output_validated aggregated s ks) (filter (keeps t) (all_combinations tables))
      → whole aggregated limit k ss os ≡ rows_of (resolved aggregated limit t s ks)
  whole_same aggregated limit k t ss s os ks h e = λ i. record {
    columns = columns_same aggregated ss s h i;
    rows = (ap (cut limit flags.row_limit) e ∙ cut_same limit flags.row_limit (output_rows (output_validated aggregated s ks) (filter (keeps t) (all_combinations tables)))) i;
  }

  order_case : (limit : Option Limit) (k : Combination → Bool) (t : Option Test) (ss : List meant.Shown) (s : Shown) (r : Result (List (Bool × Found)) SqlError) (w : Result (List OrderKey) SqlError) → IsShown false bounds ss none_shown s
      → ((c : Combination) → IsFit bounds c → k c ≡ keeps t c) → SameOrder r w
      → (r >>= λ order. Ok (whole false limit k ss order)) ≡ given (w >>= λ order. Ok (resolved false limit t s order))
  order_case limit k t ss s (Ok os) (Ok ks) shown kept h = ap Ok (whole_same false limit k t ss s os ks shown (each_row ss s os ks k t shown h kept))
  order_case limit k t ss s (Err e) (Err f) shown kept h = ap Err h
  order_case limit k t ss s (Ok os) (Err f) shown kept h = absurd h
  order_case limit k t ss s (Err e) (Ok ks) shown kept h = absurd h

  ordered_aggregate : SqlError
  ordered_aggregate = not_supported (codes "ordered aggregate")

  abbrev meant_key : Order → Result (Bool × Found) SqlError
  meant_key o = find_column scope.bounds o.column >>= λ f. Ok (o.desc, f)

  last_steps : (aggregated : Bool) (orders : List Order) (limit : Option Limit) (k : Combination → Bool) (t : Option Test) (ss : List meant.Shown) (s : Shown) → IsShown aggregated bounds ss none_shown s
      → ((c : Combination) → IsFit bounds c → k c ≡ keeps t c)
      → (refuse_if (aggregated && nat_lt 0 (length orders)) ordered_aggregate >>= λ _. each meant_key orders >>= λ order. Ok (whole aggregated limit k ss order))
      ≡ given (refuse_if (aggregated && nat_lt 0 (length orders)) ordered_aggregate >>= λ _. order_validated scope orders >>= λ order. Ok (resolved aggregated limit t s order))
  last_steps true [] limit k t ss s shown kept = ap Ok (whole_same true limit k t ss s [] [] shown (one_row ss s k t shown kept))
  last_steps true (o ∷ os) limit k t ss s shown kept =
      subst (λ b. (refuse_if b ordered_aggregate >>= λ _. each meant_key (o ∷ os) >>= λ order. Ok (whole true limit k ss order)) ≡ given (refuse_if b ordered_aggregate >>= λ _. order_validated scope (o ∷ os) >>= λ order. Ok (resolved true limit t s order)))
      (sym (some_above (length os))) refl
  last_steps false orders limit k t ss s shown kept = order_case limit k t ss s (each meant_key orders) (order_validated scope orders) shown kept (order_same scope orders)

  condition_case : (aggregated : Bool) (orders : List Order) (limit : Option Limit) (ss : List meant.Shown) (s : Shown) (r : Result (Combination → Bool) SqlError) (w : Result (Option Test) SqlError) → IsShown aggregated bounds ss none_shown s → SameCondition bounds r w
      → (r >>= λ k. refuse_if (aggregated && nat_lt 0 (length orders)) ordered_aggregate >>= λ _. each meant_key orders >>= λ order. Ok (whole aggregated limit k ss order))
      ≡ given (w >>= λ t. refuse_if (aggregated && nat_lt 0 (length orders)) ordered_aggregate >>= λ _. order_validated scope orders >>= λ order. Ok (resolved aggregated limit t s order))
  condition_case aggregated orders limit ss s (Ok k) (Ok t) shown h = last_steps aggregated orders limit k t ss s shown h
  condition_case aggregated orders limit ss s (Err e) (Err f) shown h = ap Err h
  condition_case aggregated orders limit ss s (Ok k) (Err f) shown h = absurd h
  condition_case aggregated orders limit ss s (Err e) (Ok t) shown h = absurd h

  refused_same : (b : Bool) (e : SqlError) (r : Result Rows SqlError) (w : Result Resolved SqlError) → r ≡ given w → (refuse_if b e >>= λ _. r) ≡ given (refuse_if b e >>= λ _. w)
  refused_same true e r w h = refl
  refused_same false e r w h = h

  length_same : (aggregated : Bool) (ss : List meant.Shown) (s : Shown) → IsShown aggregated bounds ss none_shown s → length ss ≡ length s.columns
  length_same aggregated ss s h = sym (length-map ss (λ (x : meant.Shown). x.0)) ∙ ap length (columns_same aggregated ss s h)

  shown_case : (aggregated : Bool) (select : Select) (r : Result (List meant.Shown) SqlError) (w : Result Shown SqlError) → SameShown aggregated bounds none_shown r w
      → (r >>= λ ss. refuse_if (nat_lt 64 (length ss)) too_many_columns >>= λ _. condition scope select.cond >>= λ k. refuse_if (aggregated && nat_lt 0 (length select.order)) ordered_aggregate >>= λ _. each meant_key select.order >>= λ order. Ok (whole aggregated select.limit k ss order))
      ≡ given (w >>= λ s. refuse_if (nat_lt 64 (length s.columns)) too_many_columns >>= λ _. condition_validated scope select.cond >>= λ t. refuse_if (aggregated && nat_lt 0 (length select.order)) ordered_aggregate >>= λ _. order_validated scope select.order >>= λ order. Ok (resolved aggregated select.limit t s order))
  shown_case aggregated select (Ok ss) (Ok s) h =
      ap (λ n. refuse_if (nat_lt 64 n) too_many_columns >>= λ _. condition scope select.cond >>= λ k. refuse_if (aggregated && nat_lt 0 (length select.order)) ordered_aggregate >>= λ _. each meant_key select.order >>= λ order. Ok (whole aggregated select.limit k ss order)) (length_same aggregated ss s h)
      ∙ refused_same (nat_lt 64 (length s.columns)) too_many_columns _ _ (condition_case aggregated select.order select.limit ss s (condition scope select.cond) (condition_validated scope select.cond) h (condition_same scope select.cond))
  shown_case aggregated select (Err e) (Err f) h = ap Err h
  shown_case aggregated select (Ok ss) (Err f) h = absurd h
  shown_case aggregated select (Err e) (Ok s) h = absurd h

  both_refusals : (o : Option Name) (f : Name → SqlError) (b : Bool) (e : SqlError) (r : Result Rows SqlError) (w : Result Resolved SqlError) → r ≡ given w
      → (refuse_some o f >>= λ _. refuse_if b e >>= λ _. r) ≡ given ((refuse_some o f >>= λ _. refuse_if b e) >>= λ _. w)
  both_refusals None f b e r w h = refused_same b e r w h
  both_refusals (Some n) f b e r w h = refl

  pub over_same : (select : Select) → rows_over select scope.db flags scope.session bounds ≡ given (validated_over select flags scope)
  unfolding rows_over validated_over ordered_aggregate
  over_same select =
      both_refusals (first_repeated [] (map (λ b. b.called) bounds)) name_not_unique (nat_lt (2 ^ 40) (combination_count bounds)) too_many_combinations _ _
      (shown_case (has_aggregate select) select (shown_items flags scope select) (shown_validated flags scope select) (shown_same flags scope select)
      ∙ ap given (sym (parts_are select flags scope)))

-- ---- the whole

gives_given : (r : Result Resolved (Or SqlError)) (m : Result Resolved SqlError) (n : Result Rows SqlError) → n ≡ given m → Gives (λ x. x) (λ e. e) r m → Gives rows_of (λ e. e) r n
gives_given (Ok x) m n h g = h ∙ ap given g
gives_given (Err or.Memory) m n h g = tt
gives_given (Err (or.Other e)) m n h g = h ∙ ap given g

pub whole_gives : (r : Result Resolved (Or SqlError)) (select : Select) (d : Database) (db : Name) (flags : Flags) (session : ℕ) (bounds : List Bound)
    → (select.lock && flags.in_trans) ≡ false → each (bind d db) select.from ≡ Ok bounds → AllByRecursion IsSoundBound bounds
    → Gives (λ x. x) (λ e. e) r (validated_over select flags (record { bounds = bounds; db = db; session = session }))
    → Gives rows_of (λ e. e) r (rows select d db flags session)
unfolding rows
whole_gives r select d db flags session bounds free bound sound g =
    gives_given r (validated_over select flags (record { bounds = bounds; db = db; session = session })) (rows select d db flags session)
    ((λ i. refuse_if (free i) (not_supported (codes "locking read")) >>= λ _. bound i >>= λ bounds. rows_over select db flags session bounds)
    ∙ over_same flags (record { bounds = bounds; db = db; session = session }) sound select)
    g

pub locked : (select : Select) (d : Database) (db : Name) (flags : Flags) (session : ℕ) → select.lock ≡ true → flags.in_trans ≡ true → rows select d db flags session ≡ Err (not_supported (codes "locking read"))
unfolding rows
locked select d db flags session h k = λ i. refuse_if (h i && k i) (not_supported (codes "locking read")) >>= λ _. each (bind d db) select.from >>= λ bounds. rows_over select db flags session bounds

pub not_bound : (select : Select) (d : Database) (db : Name) (flags : Flags) (session : ℕ) (e : SqlError) → (select.lock && flags.in_trans) ≡ false → each (bind d db) select.from ≡ Err e → rows select d db flags session ≡ Err e
unfolding rows
not_bound select d db flags session e free h = λ i. refuse_if (free i) (not_supported (codes "locking read")) >>= λ _. h i >>= λ bounds. rows_over select db flags session bounds

pub and_left : (a b : Bool) → a ≡ false → (a && b) ≡ false
and_left a b h = ap (λ c. c && b) h

pub and_right : (a b : Bool) → b ≡ false → (a && b) ≡ false
and_right true b h = h
and_right false b h = refl
