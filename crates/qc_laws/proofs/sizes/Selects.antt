-- What a select gives is of bounded size.
use Rattle.std.proofs.Common.{◌≡◌, ℕ, ◌<◌, ◌≤◌, Bool, true, false, cond, List, [], ◌∷◌, length, map, drop, refl, sym, arith, inl, inr, ◌∙◌, Option, Some, None, Ok}
use Rattle.std.specs.Prelude.{codes, ◌&&◌, ◌==◌, nat_le, nat_lt, ◌^◌, unwrap_or, filter}
use Rattle.std.specs.List.{list_all, AllByRecursion}
use Rattle.std.proofs.lemmas.List.{length-map}
use Rattle.std.proofs.lemmas.Bool.{and_parts, leb-true, ltb-true, ltb-false}
use Rattle.std.proofs.lemmas.Bool.Decides.{nat_tests}
use Rattle.qc_types.specs.declared.names.Value.{Value}
use Rattle.qc_sql.specs.declared.session.Flags.{Flags}
use Rattle.qc_sql.specs.declared.tables.Kind.{Kind}
use Rattle.qc_sql.specs.declared.tables.Kind.TheVariants as kind
use Rattle.qc_sql.specs.declared.statements.Item.{Item}
use Rattle.qc_sql.specs.declared.statements.Limit.{Limit}
use Rattle.qc_sql.specs.declared.statements.Select.{Select}
use Rattle.qc_sql.specs.Database.{Name, Database}
use Rattle.qc_sql.specs.Errors.{name_not_unique, too_many_combinations, too_many_columns, not_supported}
use Rattle.qc_sql.specs.Rows.{rows, rows_over, ◌>>=◌, each, refuse_if, Bound, Combination, bind, first_repeated, combinations, combination_count, Found, all_columns, Sort, Number, Words, Nothing, Scope, Origin, Computed, Summed, Itself, BestOf, at_first, has_aggregate, order_cmp, sorted, column_flags, number_def, words_def, kind_def, of_column, of_sort, definition_of, Shown, shown_item, shown_items, groups, one_each, cut}
use Rattle.qc_laws.specs.sizes.Names.{is_short, passes_if_there, is_short_value, is_short_cond, is_short_item, is_short_source, is_short_order, says_what, is_short_select}
use Rattle.qc_laws.specs.sizes.Replies.{is_bounded_kind, is_bounded_database, FitsColumn, FitsValue, FitsRow, FitsRows}
use Rattle.qc_laws.specs.sizes.Laws.{SelectErrorsFit, SelectRowsFit}
use Rattle.qc_laws.proofs.sizes.Each.{each_from_test, each_mapped, each_filtered, each_taken, each_left, each_sorted}
use Rattle.qc_laws.proofs.sizes.Answered.{name_not_unique_fits, too_many_combinations_fits, too_many_columns_fits, not_supported_fits, Answered, gives, after, weaker, unless, unless_some, each_answered, refusal_fits, given_has, short_few}
use Rattle.qc_laws.proofs.sizes.Tables.{Bounded, BoundedCombination, BoundedGroup, value_fits, BoundFits, bind_answers, repeated_short, combinations_bounded, FoundFits, all_columns_fit, some_columns}
use Rattle.qc_laws.proofs.sizes.Expressions.{OriginFits, first_bounded, check_answers, condition_answers, ordering_answers}

-- ---- columns of the result

number_fits : (flags : Flags) (size kind bits : ℕ) (name : List ℕ) → nat_lt size (2 ^ 32) ≡ true → nat_lt kind (2 ^ 8) ≡ true → bits < 2 ^ 16 → length name ≤ 255 → FitsColumn flags (number_def size kind bits name)
number_fits flags size kind bits name s k b n = record {
  schema = omega arith;
  table = omega arith;
  org_table = omega arith;
  name = n;
  org_name = omega arith;
  charset = inl refl;
  shown = ltb-true size (2 ^ 32) s;
  kind = ltb-true kind (2 ^ 8) k;
  bits = b;
  decimals = refl;
}

words_fit : (flags : Flags) (size bits : ℕ) (name : List ℕ) → size < 2 ^ 16 → bits < 2 ^ 16 → length name ≤ 255 → FitsColumn flags (words_def flags size bits name)
words_fit flags size bits name s b n = record {
  schema = omega arith;
  table = omega arith;
  org_table = omega arith;
  name = n;
  org_name = omega arith;
  charset = inr refl;
  shown = omega arith;
  kind = omega arith;
  bits = b;
  decimals = refl;
}

kind_fits : (flags : Flags) (k : Kind) (bits : ℕ) (name : List ℕ) → is_bounded_kind k ≡ true → bits < 2 ^ 16 → length name ≤ 255 → FitsColumn flags (kind_def flags k bits name)
kind_fits flags kind.Int bits name k b n = number_fits flags 20 8 bits name refl refl b n
kind_fits flags (kind.Str most) bits name k b n = words_fit flags most bits name (ltb-true most (2 ^ 16) k) b n

sort_fits : (flags : Flags) (s : Sort) (name : List ℕ) → length name ≤ 255 → FitsColumn flags (of_sort flags s name)
sort_fits flags Number name n = number_fits flags 20 8 0 name refl refl (omega arith) n
sort_fits flags Words name n = words_fit flags 65535 0 name (omega arith) (omega arith) n
sort_fits flags Nothing name n = words_fit flags 65535 0 name (omega arith) (omega arith) n

flags_few : (primary required : Bool) → cond primary 3 (cond required 1 0) < 2 ^ 16
flags_few true required = omega arith
flags_few false true = omega arith
flags_few false false = omega arith

column_fits : (flags : Flags) (f : Found) (name : List ℕ) → FoundFits f → length name ≤ 255 → FitsColumn flags (of_column flags f name)
column_fits flags f name h n =
    let parts = and_parts (is_short f.column.name) (is_bounded_kind f.column.kind) h.column in
    let base = kind_fits flags f.column.kind (column_flags f.column) name parts.1 (flags_few f.column.primary f.column.not_null) n in
    record {
      schema = short_few f.bound.name.db h.bound.db;
      table = short_few f.bound.called h.bound.called;
      org_table = short_few f.bound.name.name h.bound.name;
      name = n;
      org_name = short_few f.column.name parts.0;
      charset = base.charset;
      shown = base.shown;
      kind = base.kind;
      bits = base.bits;
      decimals = refl;
    }

shown_name : (n : Option Name) (m : List ℕ) → passes_if_there is_short n ≡ true → length m ≤ 255 → length (unwrap_or n m) ≤ 255
shown_name None m h g = g
shown_name (Some n) m h g = omega (arith, short_few n h)

own_name : (f : Found) → FoundFits f → length f.column.name ≤ 255
own_name f h = omega (arith, short_few f.column.name (and_parts (is_short f.column.name) (is_bounded_kind f.column.kind) h.column).0)

definition_fits : (flags : Flags) (i : Item) (s : Sort) (o : Origin) (v : List Combination → Value) → passes_if_there is_short i.name ≡ true → length i.words ≤ 255 → OriginFits o
    → FitsColumn flags (definition_of flags i (record { sort = s; origin = o; value_over = v }))
definition_fits flags i s Computed v n w h = sort_fits flags s (unwrap_or i.name i.words) (shown_name i.name i.words n w)
definition_fits flags i s Summed v n w h = number_fits flags 41 0xf6 0 (unwrap_or i.name i.words) refl refl (omega arith) (shown_name i.name i.words n w)
definition_fits flags i s (Itself f) v n w h = column_fits flags f (unwrap_or i.name f.column.name) h (shown_name i.name f.column.name n (own_name f h))
definition_fits flags i s (BestOf f) v n w h =
    kind_fits flags f.column.kind 0 (unwrap_or i.name i.words) (and_parts (is_short f.column.name) (is_bounded_kind f.column.kind) h.column).1 (omega arith) (shown_name i.name i.words n w)

record ShownFits (flags : Flags) (s : Shown) : Type 0 where
  column : FitsColumn flags s.0
  values : (group : List Combination) → BoundedGroup group → Bounded (s.1 group)

-- one at least
abbrev AllShownFit : Flags → List Shown → Type 0
AllShownFit flags shown = (1 ≤ length shown) × AllByRecursion (ShownFits flags) shown

-- a column of a table in place of *
abbrev itself : Flags → Found → Shown
itself flags f = (of_column flags f f.column.name, at_first f.value_in)

module _ (flags : Flags) (scope : Scope) (bounds : AllByRecursion BoundFits scope.bounds) (db : is_short scope.db ≡ true) where
  item_answers : (beside : Bool) (i : Item) → is_short_item i ≡ true → Answered (ShownFits flags) (shown_item flags scope beside i)
  item_answers beside i h =
      let parts = and_parts (is_short_value i.value) (passes_if_there is_short i.name && nat_le (length i.words) 255) h in
      let names = and_parts (passes_if_there is_short i.name) (nat_le (length i.words) 255) parts.1 in
      after _ (check_answers scope bounds db i.value beside parts.0) (λ x g.
      gives (record { column = definition_fits flags i x.sort x.origin x.value_over names.0 (leb-true (length i.words) 255 names.1) g.origin; values = g.values }))

  items_answer : (beside : Bool) (is : List Item) → 1 ≤ length is → list_all is_short_item is ≡ true → Answered (AllShownFit flags) (each (shown_item flags scope beside) is)
  items_answer beside is some h =
      weaker (λ shown g. (omega (arith, g.0), g.1)) (each_answered (λ i. is_short_item i ≡ true) (ShownFits flags) (shown_item flags scope beside) (item_answers beside) is (each_from_test is_short_item is h))

  star_fits : 1 ≤ length scope.bounds → AllShownFit flags (map (itself flags) (all_columns 0 scope.bounds))
  star_fits some =
      let many = some_columns scope.bounds bounds some in (
        omega (arith, length-map (all_columns 0 scope.bounds) (itself flags)),
        each_mapped FoundFits (ShownFits flags) (itself flags)
            (λ f h. record { column = column_fits flags f f.column.name h (own_name f h); values = first_bounded f.value_in h.values }) (all_columns 0 scope.bounds) (all_columns_fit 0 scope.bounds bounds),
      )

  shown_answers : (s : Select) → says_what s.star s.items ≡ true → list_all is_short_item s.items ≡ true → length scope.bounds ≡ length s.from → Answered (AllShownFit flags) (shown_items flags scope s)
  shown_answers s what items count = by s.star what
    where
      by : (star : Bool) → says_what star s.items ≡ true
          → Answered (AllShownFit flags) (cond star (refuse_if (length s.from == 0) (not_supported (codes "star")) >>= λ _.
          Ok (map (itself flags) (all_columns 0 scope.bounds))) (each (shown_item flags scope (has_aggregate s)) s.items))
      by true h = after _ (unless (length s.from == 0) (not_supported (codes "star")) (not_supported_fits (codes "star") refl)) (λ _ some. gives (star_fits (grind (arith, nat_tests))))
      by false h = items_answer (has_aggregate s) s.items (omega (arith, ltb-true 0 (length s.items) h)) items

-- ---- the whole

one_each_bounded : (cs : List Combination) → BoundedGroup cs → AllByRecursion BoundedGroup (one_each cs)
one_each_bounded cs h = each_mapped BoundedCombination BoundedGroup (λ c. c ∷ []) (λ c g. (g, tt)) cs h

groups_bounded : (aggregated : Bool) (kept : List Combination) → BoundedGroup kept → AllByRecursion BoundedGroup (groups aggregated kept)
groups_bounded true kept h = (h, tt)
groups_bounded false kept h = one_each_bounded kept h

row_fits : (flags : Flags) (shown : List Shown) → AllByRecursion (ShownFits flags) shown → (group : List Combination) → BoundedGroup group → FitsRow (length (map (λ s. s.0) shown)) (map (λ s. s.1 group) shown)
row_fits flags shown h group g = record {
  count = length-map shown (λ s. s.1 group) ∙ sym (length-map shown (λ s. s.0));
  values = each_mapped (ShownFits flags) FitsValue (λ s. s.1 group) (λ s f. value_fits (s.1 group) (f.values group g)) shown h;
}

cut_each : {A : Type 0} (P : A → Type 0) (limit : Option Limit) (most : ℕ) (xs : List A) → AllByRecursion P xs → AllByRecursion P (cut limit most xs)
cut_each P None most xs h = each_taken P most xs h
cut_each P (Some limit) most xs h = each_taken P limit.count (drop limit.offset xs) (each_left P limit.offset xs h)

over_answers : (s : Select) (db : Name) (flags : Flags) (session : ℕ) (bounds : List Bound) → is_short_select s ≡ true → is_short db ≡ true → length bounds ≡ length s.from → AllByRecursion BoundFits bounds
    → Answered (FitsRows flags) (rows_over s db flags session bounds)
unfolding rows_over
over_answers s db flags session bounds h d count fit =
    let scope : Scope = record { bounds = bounds; db = db; session = session } in
    let one = and_parts (says_what s.star s.items) _ h in
    let two = and_parts (list_all is_short_item s.items) _ one.1 in
    let three = and_parts (list_all is_short_source s.from) _ two.1 in
    let four = and_parts (passes_if_there is_short_cond s.cond) (list_all is_short_order s.order) three.1 in
    after _ (unless_some (first_repeated [] (map (λ b. b.called) bounds)) name_not_unique
    (repeated_short [] (map (λ b. b.called) bounds) (each_mapped BoundFits (λ n. is_short n ≡ true) (λ b. b.called) (λ b g. g.called) bounds fit)) name_not_unique_fits) (λ _ _.
    after _ (unless (nat_lt (2 ^ 40) (combination_count bounds)) too_many_combinations too_many_combinations_fits) (λ _ _.
    after _ (shown_answers flags scope fit d s one.0 two.0 count) (λ shown g.
    after _ (unless (nat_lt 64 (length shown)) too_many_columns too_many_columns_fits) (λ _ few.
    after _ (condition_answers scope fit d s.cond four.0) (λ keeps _.
    after _ (unless (has_aggregate s && nat_lt 0 (length s.order)) (not_supported (codes "ordered aggregate")) (not_supported_fits (codes "ordered aggregate") refl)) (λ _ _.
    after _ (ordering_answers scope fit d s four.1) (λ order _.
    let kept = sorted (order_cmp order) (filter keeps (combinations bounds)) in
    let bounded : BoundedGroup kept =
    each_sorted BoundedCombination (order_cmp order) (filter keeps (combinations bounds)) (each_filtered BoundedCombination keeps (combinations bounds) (combinations_bounded bounds fit)) in
    let columns = length-map shown (λ (x : Shown). x.0) in
    gives (record {
      some = omega (arith, g.0, columns);
      few = omega (arith, columns, ltb-false 64 (length shown) few);
      columns = each_mapped (ShownFits flags) (FitsColumn flags) (λ x. x.0) (λ x f. f.column) shown g.1;
      rows = cut_each (FitsRow (length (map (λ x. x.0) shown))) s.limit flags.row_limit _
          (each_mapped BoundedGroup (FitsRow (length (map (λ x. x.0) shown))) (λ group. map (λ x. x.1 group) shown) (row_fits flags shown g.1) (groups (has_aggregate s) kept) (groups_bounded (has_aggregate s) kept bounded));
    }))))))))

pub rows_answer : (s : Select) (d : Database) (db : Name) (flags : Flags) (session : ℕ) → is_short_select s ≡ true → is_bounded_database d ≡ true → is_short db ≡ true → Answered (FitsRows flags) (rows s d db flags session)
unfolding rows
rows_answer s d db flags session h g f =
    let one = and_parts (says_what s.star s.items) _ h in
    let two = and_parts (list_all is_short_item s.items) _ one.1 in
    let three = and_parts (list_all is_short_source s.from) _ two.1 in
    after _ (unless (s.lock && flags.in_trans) (not_supported (codes "locking read")) (not_supported_fits (codes "locking read") refl)) (λ _ _.
    after _ (each_answered (λ x. is_short_source x ≡ true) BoundFits (bind d db) (bind_answers d db g f) s.from (each_from_test is_short_source s.from three.0)) (λ bounds e.
    over_answers s db flags session bounds h f e.0 e.1))

pub select_errors_fit : SelectErrorsFit
select_errors_fit s d db flags session e h g f same = refusal_fits (FitsRows flags) (rows s d db flags session) e (rows_answer s d db flags session h g f) same

pub select_rows_fit : SelectRowsFit
select_rows_fit s d db flags session r h g f same = given_has (FitsRows flags) (rows s d db flags session) r (rows_answer s d db flags session h g f) same
