-- What stays true of a session's state.
use Rattle.std.proofs.Common.{◌≡◌, ℕ, zero, suc, ◌+◌, ◌-◌, ◌<◌, ◌≤◌, true, List, [], ◌∷◌, ◌++◌, length, take, drop, refl, sym, ap, ◌∙◌, subst, arith, Option, Some, None, length-append, take_all, true≢false}
use Rattle.std.specs.Prelude.{◌&&◌, ◌==◌, Bool, false, IfSome, is_some, slice_get, unwrap_or, option_map}
use Rattle.std.specs.List.{list_all}
use Rattle.std.proofs.lemmas.Bool.{and_parts, and_from}
use Rattle.std.proofs.lemmas.List.Folds.{list_all-append}
use lib.Seq.{take-append-le}
use Rattle.qc_types.specs.declared.options.Options.{Options}
use Rattle.qc_sql.specs.declared.tables.RowOp.{RowOp}
use Rattle.qc_sql.specs.Database.{Name, Database, apply, apply_one, empty_database}
use Rattle.qc_model.specs.declared.events.Event.{Event}
use Rattle.qc_model.specs.declared.events.Event.TheVariants as event
use Rattle.qc_model.specs.Journal.{Journal, operations, database_after, present, before}
use Rattle.qc_model.specs.Session.{State, Transaction, snapshot_of, opened, snapshot_taken, at_snapshot, base, own_operations, with_transaction}
use Rattle.qc_model.specs.Licence.{IsLawful, IsLawfulAfter, IsLicensed, ops_fit, op_fits, is_within_rows}
use Rattle.qc_laws.specs.sizes.Names.{is_short}
use Rattle.qc_laws.specs.fits.Sound.{IsNoChangeAt, is_row_op}
use Rattle.qc_trx.specs.SnapshotStates.{SnapshotState, origin_taken, seen_on, after_begin, after_end, with_operations, added, in_database}
use Rattle.qc_trx.specs.Endings.{IsOriginIn, StandsIn}
use Rattle.qc_statements.specs.Sound.{IsSound, IsOrderly, MayFollow, AreOwn, HasSnapshot, IsFitAt, IsFitTransaction, IsFitIn, IsFitState, IsPast, arrived_snapshot_state}
use Rattle.qc_laws.specs.sizes.Operations.{is_small_event, is_small_operation}
use Rattle.qc_laws.proofs.history.Events.{present_push}
use Rattle.qc_statements.proofs.Sounds.{stays_orderly}

-- ---- the database at a place of the journal

append_nil : {X : Type 0} (xs : List X) → xs ++ [] ≡ xs
append_nil [] = refl
append_nil (x ∷ xs) = ap (λ ys. x ∷ ys) (append_nil xs)

append_more : {X : Type 0} (xs : List X) (y : X) (ys : List X) → (xs ++ y ∷ []) ++ ys ≡ xs ++ y ∷ ys
append_more [] y ys = refl
append_more (x ∷ xs) y ys = ap (λ zs. x ∷ zs) (append_more xs y ys)

lawful_front : (options : Options) (earlier xs ys : Journal) → IsLawfulAfter options earlier (xs ++ ys) → IsLawfulAfter options earlier xs
lawful_front options earlier [] ys h = tt
lawful_front options earlier (x ∷ xs) ys h = (h.0, lawful_front options (earlier ++ x ∷ []) xs ys h.1)

front_small : (xs ys : Journal) → list_all is_small_event (xs ++ ys) ≡ true → list_all is_small_event xs ≡ true
front_small [] ys h = refl
front_small (x ∷ xs) ys h =
    let p = and_parts (is_small_event x) (list_all is_small_event (xs ++ ys)) h in
    and_from (is_small_event x) (list_all is_small_event xs) p.0 (front_small xs ys p.1)

orderly_next : (o : Options) (J : Journal) (e : Event) → is_small_event e ≡ true → IsLicensed o J e → IsOrderly (present J) → IsOrderly (apply (operations e) (present J))
orderly_next o J (event.Commit who ops) h l ok = let may = l.1 in stays_orderly ops (present J) ok h may.fit may.not_full
orderly_next o J (event.Run who how) h l ok = ok
orderly_next o J (event.Done serial) h l ok = ok
orderly_next o J (event.Gone serial why) h l ok = ok
orderly_next o J (event.Prune serial need largest) h l ok = ok
orderly_next o J (event.Reset who) h l ok = ok
orderly_next o J (event.Flush who) h l ok = ok

orderly_from : (o : Options) (earlier es : Journal) → list_all is_small_event es ≡ true → IsLawfulAfter o earlier es → IsOrderly (present earlier) → IsOrderly (present (earlier ++ es))
orderly_from o earlier [] h l ok = subst (λ (j : Journal). IsOrderly (present j)) (sym (append_nil earlier)) ok
orderly_from o earlier (e ∷ es) h l ok =
    let p = and_parts (is_small_event e) (list_all is_small_event es) h in
    let next : IsOrderly (present (earlier ++ e ∷ [])) = subst IsOrderly (sym (present_push earlier e)) (orderly_next o earlier e p.0 l.0 ok) in
    subst (λ (j : Journal). IsOrderly (present j)) (append_more earlier e es) (orderly_from o (earlier ++ e ∷ []) es p.1 l.1 next)

pub orderly_start : IsOrderly empty_database
orderly_start = record { sound = record { apart = tt; each = tt }; within = refl; bounded = refl; short = refl }

split_at : {X : Type 0} (n : ℕ) (xs : List X) → take n xs ++ drop n xs ≡ xs
split_at zero xs = refl
split_at (suc n) [] = refl
split_at (suc n) (x ∷ xs) = ap (λ ys. x ∷ ys) (split_at n xs)

-- the database is orderly at each place
pub orderly_before : {o : Options} (J : Journal) (d : Database) (place : ℕ) → IsSound o J d → IsOrderly (present (before place J))
orderly_before {o} J d place s =
    let n = place - 1 in
    let whole : take n J ++ drop n J ≡ J = split_at n J in
    let small = front_small (take n J) (drop n J) (subst (λ (j : Journal). list_all is_small_event j ≡ true) (sym whole) s.small) in
    let lawful = lawful_front o [] (take n J) (drop n J) (subst (λ (j : Journal). IsLawful o j) (sym whole) s.lawful) in
    orderly_from o [] (take n J) small lawful orderly_start

-- ---- what a statement sees

seen_by : (J : Journal) (p : Option ℕ) (ops : List RowOp) (origin : Option Database) → IsFitAt J origin p ops
    → apply ops (unwrap_or origin (present J)) ≡ apply ops (at_snapshot p J)
seen_by J None ops origin h = ap (λ (o : Option Database). apply ops (unwrap_or o (present J))) h.0
seen_by J (Some place) ops origin h = ap (λ (o : Option Database). apply ops (unwrap_or o (present J))) h.is

seen_with : (J : Journal) (s : State) (t : Option Transaction) (origin : Option Database) → IsFitIn J origin t
    → apply (own_operations (with_transaction s t)) (unwrap_or origin (present J)) ≡ base (with_transaction s t) J
seen_with J s None origin h = ap (λ (o : Option Database). unwrap_or o (present J)) h
seen_with J s (Some t) origin h = seen_by J t.snapshot t.operations origin h

-- the database that a session's state shows is the one on which its statements are validated
pub base_is : (J : Journal) (x : SnapshotState) → IsFitState J x → seen_on (present J) x ≡ base x.state J
base_is J x f = seen_with J x.state x.state.transaction x.origin f.transaction

orderly_by : {o : Options} (J : Journal) (d : Database) (p : Option ℕ) (ops : List RowOp) (origin : Option Database) → IsSound o J d → IsFitAt J origin p ops
    → IsOrderly (apply ops (at_snapshot p J))
orderly_by J d None ops origin s h = subst (λ (os : List RowOp). IsOrderly (apply os (present J))) (sym h.1) (subst IsOrderly s.database s.orderly)
orderly_by J d (Some place) ops origin s h = let own = h.own in let f = own.follow in stays_orderly ops (present (before place J)) (orderly_before J d place s) f.small f.fit f.within

orderly_with : {o : Options} (J : Journal) (d : Database) (s : State) (t : Option Transaction) (origin : Option Database) → IsSound o J d → IsFitIn J origin t → IsOrderly (base (with_transaction s t) J)
orderly_with J d s None origin sound h = subst IsOrderly sound.database sound.orderly
orderly_with J d s (Some t) origin sound h = orderly_by J d t.snapshot t.operations origin sound h

pub orderly_base : {o : Options} (J : Journal) (d : Database) (x : SnapshotState) → IsSound o J d → IsFitState J x → IsOrderly (base x.state J)
orderly_base J d x s f = orderly_with J d x.state x.state.transaction x.origin s f.transaction

-- ---- an event more

quiet_more : (es : Journal) (k : ℕ) (e : Event) → operations e ≡ [] → IfSome (slice_get es k) (λ x. operations x ≡ []) → IfSome (slice_get (es ++ e ∷ []) k) (λ x. operations x ≡ [])
quiet_more [] zero e h g = h
quiet_more [] (suc k) e h g = tt
quiet_more (x ∷ es) zero e h g = g
quiet_more (x ∷ es) (suc k) e h g = quiet_more es k e h g

before_more : (J : Journal) (place : ℕ) (e : Event) → place ≤ length J + 1 → before place (J ++ e ∷ []) ≡ before place J
before_more J place e h = take-append-le (place - 1) J (e ∷ []) (omega (arith, h))

fit_by : (J : Journal) (p : Option ℕ) (ops : List RowOp) (origin : Option Database) (e : Event) → operations e ≡ [] → IsFitAt J origin p ops
    → IsFitAt (J ++ e ∷ []) origin p ops
fit_by J None ops origin e h f = f
fit_by J (Some place) ops origin e h f =
    let long : length (J ++ e ∷ []) ≡ length J + 1 = length-append J (e ∷ []) in
    let same : before place J ≡ before place (J ++ e ∷ []) = sym (before_more J place e f.most) in
    record {
      least = f.least;
      most = omega (arith, long, f.most);
      quiet = quiet_more J (place - 1) e h f.quiet;
      is = subst (λ (j : Journal). origin ≡ Some (present j)) same f.is;
      own = subst (λ (j : Journal). AreOwn ops (present j)) same f.own;
    }

fit_with : (J : Journal) (t : Option Transaction) (origin : Option Database) (e : Event) → operations e ≡ [] → IsFitIn J origin t → IsFitIn (J ++ e ∷ []) origin t
fit_with J None origin e h f = f
fit_with J (Some t) origin e h f = fit_by J t.snapshot t.operations origin e h f

pub fit_more : (J : Journal) (e : Event) (x : SnapshotState) → operations e ≡ [] → IsFitState J x → IsFitState (J ++ e ∷ []) x
fit_more J e x h f = record { db = f.db; charset = f.charset; transaction = fit_with J x.state.transaction x.origin e h f.transaction }

-- ---- what the calls make of it

pub fit_ended : (J K : Journal) (x : SnapshotState) → IsFitState J x → IsFitState K (after_end x)
fit_ended J K x f = record { db = f.db; charset = f.charset; transaction = refl }

pub fit_begun : (J : Journal) (x : SnapshotState) → IsFitState J x → x.origin ≡ None → IsFitState J (after_begin x)
fit_begun J x f h = record { db = f.db; charset = f.charset; transaction = (h, refl) }

pub fit_in_database : (J : Journal) (name : Name) (x : SnapshotState) → is_short name ≡ true → IsFitState J x → IsFitState J (in_database name x)
fit_in_database J name x h f = record { db = h; charset = f.charset; transaction = f.transaction }

-- ---- a statement on rows arrives

pub quiet_end : (J : Journal) → IsNoChangeAt (length J + 1) J
quiet_end J = let at : length J + 1 - 1 ≡ length J = omega arith in subst (λ n. IfSome (slice_get J n) (λ x. operations x ≡ [])) (sym at) (at_end J)
  where
    at_end : (es : Journal) → IfSome (slice_get es (length es)) (λ x. operations x ≡ [])
    at_end [] = tt
    at_end (e ∷ es) = at_end es

whole_before : (J : Journal) → before (length J + 1) J ≡ J
whole_before J = ap (λ n. take n J) (omega arith) ∙ take_all (length J) J (omega arith)

no_own : (d : Database) → is_within_rows d ≡ true → AreOwn [] d
no_own d h = record { rows = refl; follow = record { small = refl; fit = refl; within = h } }

sight_by : {o : Options} (J : Journal) (d : Database) (p : Option ℕ) (ops : List RowOp) (origin : Option Database) → IsSound o J d → IsFitAt J origin p ops
    → IsFitTransaction J (origin_taken (Some (record { snapshot = p; operations = ops })) d origin) (snapshot_taken (length J + 1) (record { snapshot = p; operations = ops }))
sight_by J d None ops origin s h =
    let whole : d ≡ present (before (length J + 1) J) = s.database ∙ ap present (sym (whole_before J)) in
    let o = s.orderly in
    record {
      least = omega arith;
      most = omega arith;
      quiet = quiet_end J;
      is = ap (λ (x : Database). Some x) whole;
      own = subst (λ (os : List RowOp). AreOwn os (present (before (length J + 1) J))) (sym h.1) (no_own _ (subst (λ (x : Database). is_within_rows x ≡ true) whole o.within));
    }
sight_by J d (Some place) ops origin s h = h

sight_with : {o : Options} (J : Journal) (d : Database) (t : Option Transaction) (origin : Option Database) → IsSound o J d → IsFitIn J origin t
    → IsFitIn J (origin_taken t d origin) (option_map (snapshot_taken (length J + 1)) t)
sight_with J d None origin s h = h
sight_with J d (Some t) origin s h = sight_by J d t.snapshot t.operations origin s h

opened_with : (J : Journal) (autocommit : Bool) (s : State) (t : Option Transaction) (origin : Option Database) → IsFitIn J origin t → IsFitIn J origin (opened (record s { autocommit = autocommit; transaction = t }))
opened_with J autocommit s (Some t) origin h = h
opened_with J true s None origin h = h
opened_with J false s None origin h = (h, refl)

pub fit_arrived : {o : Options} (J : Journal) (d : Database) (x : SnapshotState) → IsSound o J d → IsFitState J x → IsFitState J (arrived_snapshot_state (length J + 1) d x)
fit_arrived J d x s f = record {
  db = f.db;
  charset = f.charset;
  transaction = sight_with J d (opened x.state) x.origin s (opened_with J x.state.autocommit x.state x.state.transaction x.origin f.transaction);
}

-- ---- more operations of its own

rows_more : (p : RowOp → Bool) (xs ys : List RowOp) → list_all p xs ≡ true → list_all p ys ≡ true → list_all p (xs ++ ys) ≡ true
rows_more p xs ys h g = list_all-append p xs ys ∙ rw (h, g) refl

pub apply_more : (xs ys : List RowOp) (d : Database) → apply (xs ++ ys) d ≡ apply ys (apply xs d)
apply_more [] ys d = refl
apply_more (x ∷ xs) ys d = apply_more xs ys (apply_one x d)

pub fit_both : (xs ys : List RowOp) (d : Database) → ops_fit xs d ≡ true → ops_fit ys (apply xs d) ≡ true → ops_fit (xs ++ ys) d ≡ true
fit_both [] ys d h g = g
fit_both (x ∷ xs) ys d h g =
    let p = and_parts (op_fits x d) (ops_fit xs (apply_one x d)) h in
    and_from (op_fits x d) (ops_fit (xs ++ ys) (apply_one x d)) p.0 (fit_both xs ys (apply_one x d) p.1 g)

pub follow_more : (own ops : List RowOp) (d : Database) → MayFollow own d → MayFollow ops (apply own d) → MayFollow (own ++ ops) d
follow_more own ops d a b = record {
  small = rows_more is_small_operation own ops a.small b.small;
  fit = fit_both own ops d a.fit b.fit;
  within = subst (λ (x : Database). is_within_rows x ≡ true) (sym (apply_more own ops d)) b.within;
}

pub own_more : (own ops : List RowOp) (d : Database) → AreOwn own d → AreOwn ops (apply own d) → AreOwn (own ++ ops) d
own_more own ops d a b = record { rows = rows_more is_row_op own ops a.rows b.rows; follow = follow_more own ops d a.follow b.follow }

added_by : (J : Journal) (p : Option ℕ) (own ops : List RowOp) (origin : Option Database) → is_some origin ≡ true → IsFitAt J origin p own → AreOwn ops (apply own (at_snapshot p J))
    → IsFitAt J origin p (own ++ ops)
added_by J None own ops origin there f a = absurd (true≢false (sym there ∙ ap is_some f.0))
added_by J (Some place) own ops origin there f a = record { least = f.least; most = f.most; quiet = f.quiet; is = f.is; own = own_more own ops (present (before place J)) f.own a }

added_with : (J : Journal) (s : State) (t : Option Transaction) (ops : List RowOp) (origin : Option Database) → is_some origin ≡ true → IsFitIn J origin t → AreOwn ops (base (with_transaction s t) J)
    → IsFitIn J origin (option_map (with_operations ops) t)
added_with J s None ops origin there f a = f
added_with J s (Some t) ops origin there f a = added_by J t.snapshot t.operations ops origin there f a

pub fit_added : (J : Journal) (x : SnapshotState) (ops : List RowOp) → IsFitState J x → is_some x.origin ≡ true → AreOwn ops (base x.state J) → IsFitState J (added ops x)
fit_added J x ops f there a = record { db = f.db; charset = f.charset; transaction = added_with J x.state x.state.transaction ops x.origin there f.transaction a }

-- ---- before it has a snapshot, all journals are alike

none_some : {P : Type 0} (d : Database) (o : Option Database) → o ≡ None → o ≡ Some d → P
none_some d o e h = absurd (true≢false (sym (ap is_some h) ∙ ap is_some e))

unseen_by : (J K : Journal) (p : Option ℕ) (own : List RowOp) (origin : Option Database) → origin ≡ None → IsFitAt J origin p own → IsFitAt K origin p own
unseen_by J K None own origin e f = f
unseen_by J K (Some place) own origin e f = none_some (present (before place J)) origin e f.is

unseen_with : (J K : Journal) (t : Option Transaction) (origin : Option Database) → origin ≡ None → IsFitIn J origin t → IsFitIn K origin t
unseen_with J K None origin e f = f
unseen_with J K (Some t) origin e f = unseen_by J K t.snapshot t.operations origin e f

pub fit_unseen : (J K : Journal) (x : SnapshotState) → x.origin ≡ None → IsFitState J x → IsFitState K x
fit_unseen J K x e f = record { db = f.db; charset = f.charset; transaction = unseen_with J K x.state.transaction x.origin e f.transaction }

-- ---- the database at its snapshot is one of this journal

quiet_take : (d : Database) (es : Journal) (k : ℕ) → IfSome (slice_get es k) (λ x. operations x ≡ []) → database_after d (take (suc k) es) ≡ database_after d (take k es)
quiet_take d [] zero h = refl
quiet_take d [] (suc k) h = refl
quiet_take d (e ∷ es) zero h = ap (λ (ops : List RowOp). apply ops d) h
quiet_take d (e ∷ es) (suc k) h = quiet_take (apply (operations e) d) es k h

stands_at : (J : Journal) (place : ℕ) (origin : Option Database) (own : List RowOp) → HasSnapshot J place origin own → IsOriginIn J place origin
stands_at J place origin own f =
    let next : suc (place - 1) ≡ place = omega (arith, f.least) in
    record {
      least = f.least;
      most = f.most;
      is = f.is;
      quiet = subst (λ n. present (take n J) ≡ present (before place J)) next (quiet_take empty_database J (place - 1) f.quiet);
    }

stands_by : (J : Journal) (p : Option ℕ) (own : List RowOp) (origin : Option Database) → IsFitAt J origin p own → IfSome p (λ place. IsOriginIn J place origin)
stands_by J None own origin f = tt
stands_by J (Some place) own origin f = stands_at J place origin own f

stands_with : (J : Journal) (s : State) (t : Option Transaction) (origin : Option Database) → IsFitIn J origin t → IfSome (snapshot_of (with_transaction s t)) (λ place. IsOriginIn J place origin)
stands_with J s None origin f = tt
stands_with J s (Some t) origin f = stands_by J t.snapshot t.operations origin f

pub stands_in : (J : Journal) (x : SnapshotState) → IsFitState J x → StandsIn J x
stands_in J x f = stands_with J x.state x.state.transaction x.origin f.transaction

-- ---- with a snapshot the present plays no role

unwrap_there : (o : Option Database) (a b : Database) → is_some o ≡ true → unwrap_or o a ≡ unwrap_or o b
unwrap_there (Some d) a b h = refl
unwrap_there None a b h = absurd (true≢false (sym h))

pub seen_there : (a b : Database) (x : SnapshotState) → is_some x.origin ≡ true → seen_on a x ≡ seen_on b x
seen_there a b x h = ap (apply (own_operations x.state)) (unwrap_there x.origin a b h)

-- ---- a journal that goes on

there_more : (es more : Journal) (k : ℕ) → k < length es → IfSome (slice_get es k) (λ x. operations x ≡ []) → IfSome (slice_get (es ++ more) k) (λ x. operations x ≡ [])
there_more [] more k h g = absurd (omega (arith, h))
there_more (x ∷ es) more zero h g = g
there_more (x ∷ es) more (suc k) h g = there_more es more k (omega (arith, h)) g

on_by : (J more : Journal) (p : Option ℕ) (ops : List RowOp) (origin : Option Database) → IsPast J p → IsFitAt J origin p ops → IsFitAt (J ++ more) origin p ops
on_by J more None ops origin past f = f
on_by J more (Some place) ops origin past f =
    let long : length (J ++ more) ≡ length J + length more = length-append J more in
    let least : 1 ≤ place = f.least in
    let same : before place J ≡ before place (J ++ more) = sym (take-append-le (place - 1) J more (omega (arith, past))) in
    record {
      least = least;
      most = omega (arith, long, past);
      quiet = there_more J more (place - 1) (omega (arith, least, past)) f.quiet;
      is = subst (λ (j : Journal). origin ≡ Some (present j)) same f.is;
      own = subst (λ (j : Journal). AreOwn ops (present j)) same f.own;
    }

on_with : (J more : Journal) (s : State) (t : Option Transaction) (origin : Option Database) → IsPast J (snapshot_of (with_transaction s t)) → IsFitIn J origin t → IsFitIn (J ++ more) origin t
on_with J more s None origin past f = f
on_with J more s (Some t) origin past f = on_by J more t.snapshot t.operations origin past f

-- a state that fits what its session had seen fits whatever the others did then
pub fit_on : (J more : Journal) (x : SnapshotState) → IsPast J (snapshot_of x.state) → IsFitState J x → IsFitState (J ++ more) x
fit_on J more x past f = record { db = f.db; charset = f.charset; transaction = on_with J more x.state x.state.transaction x.origin past f.transaction }

-- ---- the server's journal and database

pub sound_of : (o : Options) (J : Journal) (d : Database) → list_all is_small_event J ≡ true → IsLawful o J → d ≡ present J → IsSound o J d
sound_of o J d small lawful is = record { small = small; lawful = lawful; database = is; orderly = subst IsOrderly (sym is) (orderly_from o [] J small lawful orderly_start) }
