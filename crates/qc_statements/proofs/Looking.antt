-- What a select sees when it has arrived, and its key.
use Rattle.std.proofs.Common.{◌≡◌, ◌≤◌, ◌<◌, ◌+◌, ◌^◌, ℕ, Bool, true, false, cond, List, [], ◌∷◌, length, refl, sym, ap, subst, ◌∙◌, arith}
use Rattle.std.specs.Prelude.{◌&&◌, ◌||◌, not, Option, Some, None, is_some, nat_lt, option_map}
use Rattle.std.proofs.lemmas.Bool.{and_from}
use Rattle.std.proofs.lemmas.Bool.Decides.{nat_tests}
use Rattle.qc_types.specs.declared.names.TableName.{TableName}
use Rattle.qc_sql.specs.declared.session.Flags.{Flags}
use Rattle.qc_sql.specs.declared.tables.RowOp.{RowOp}
use Rattle.qc_sql.specs.Keys as keys
use Rattle.qc_model.specs.declared.events.Event.{Event}
use Rattle.qc_model.specs.Journal.{Journal, last_change, last_number, touches_table}
use Rattle.qc_model.specs.Choice.{changed_since, is_stale, wrote}
use Rattle.qc_model.specs.Session.{State, Transaction, flags_of, opened, snapshot_of, snapshot_taken, with_transaction}
use Rattle.qc_laws.specs.history.Answers.{CanBeKeyed}
use Rattle.qc_laws.specs.history.Seen.{IsPlace}
use Rattle.qc_trx.specs.SnapshotStates.{SnapshotState}
use Rattle.qc_statements.specs.Selects.{arrived_at}
use Rattle.qc_statements.specs.Sound.{IsFitAt, IsFitIn, IsFitState}
use Rattle.qc_statements.proofs.States.{quiet_end}

-- ---- the state in which a select is validated

in_trans_at : (autocommit : Bool) (place : ℕ) (state : State) (t : Option Transaction) → is_some (option_map (snapshot_taken place) (opened (record state { autocommit = autocommit; transaction = t }))) ≡ (is_some t || not autocommit)
in_trans_at autocommit place state (Some t) = refl
in_trans_at true place state None = refl
in_trans_at false place state None = refl

pub flags_at : (place : ℕ) (state : State) (f : Flags) → f ≡ flags_of state → flags_of (arrived_at place state) ≡ record f { in_trans = f.in_trans || not f.autocommit }
flags_at place state f is =
    let at : flags_of (arrived_at place state) ≡ record (flags_of state) { in_trans = is_some state.transaction || not state.autocommit } =
    ap (λ b. record (flags_of state) { in_trans = b }) (in_trans_at state.autocommit place state state.transaction) in
    at ∙ ap (λ (g : Flags). record g { in_trans = g.in_trans || not g.autocommit }) (sym is)

wrote_at : (t : TableName) (autocommit : Bool) (place : ℕ) (state : State) (o : Option Transaction)
    → wrote (with_transaction state (option_map (snapshot_taken place) (opened (record state { autocommit = autocommit; transaction = o })))) t ≡ wrote (record state { transaction = o }) t
wrote_at t autocommit place state (Some x) = by x x.snapshot refl
  where
    by : (x : Transaction) (p : Option ℕ) → x.snapshot ≡ p → wrote (with_transaction state (Some (snapshot_taken place x))) t ≡ wrote (record state { transaction = Some x }) t
    by x (Some n) is = rw is refl
    by x None is = rw is refl
wrote_at t true place state None = refl
wrote_at t false place state None = refl

pub same_wrote : (place : ℕ) (state : State) (t : TableName) → wrote (arrived_at place state) t ≡ wrote state t
same_wrote place state t = wrote_at t state.autocommit place state state.transaction

-- ---- tables that have changed

found_within : (test : Event → Bool) (found n : ℕ) (es : Journal) → found + 1 ≤ n → last_number test found n es + 1 ≤ n + length es
found_within test found n [] h = omega (arith, h)
found_within test found n (e ∷ es) h = elim (test e) as (λ b. last_number test (cond b n found) (n + 1) es + 1 ≤ n + length (e ∷ es)) [
  | true ↦ let rest = found_within test n (n + 1) es (omega arith) in omega (arith, rest)
  | false ↦ let rest = found_within test found (n + 1) es (omega (arith, h)) in omega (arith, rest)
]

not_above : (n p : ℕ) → n ≤ p → nat_lt p n ≡ false
not_above n p h = grind (arith, nat_tests)

never_later : (J : Journal) (t : TableName) → changed_since (Some (length J + 1)) (last_change J t) ≡ false
never_later J t = let within = found_within (touches_table t) 0 1 J (omega arith) in not_above (last_change J t) (length J + 1) (omega (arith, within))

stale_with : (t : TableName) (J : Journal) (autocommit : Bool) (state : State) (o : Option Transaction)
    → is_stale (with_transaction state (option_map (snapshot_taken (length J + 1)) (opened (record state { autocommit = autocommit; transaction = o })))) J t ≡ changed_since (snapshot_of (record state { transaction = o })) (last_change J t)
stale_with t J autocommit state (Some x) = by x x.snapshot refl
  where
    by : (x : Transaction) (p : Option ℕ) → x.snapshot ≡ p → is_stale (with_transaction state (Some (snapshot_taken (length J + 1) x))) J t ≡ changed_since (snapshot_of (record state { transaction = Some x })) (last_change J t)
    by x (Some n) is = rw is refl
    by x None is = rw is (never_later J t)
stale_with t J true state None = refl
stale_with t J false state None = never_later J t

-- it is stale where it has changed since the session's own snapshot
pub stale_at : (J : Journal) (state : State) (t : TableName) → is_stale (arrived_at (length J + 1) state) J t ≡ changed_since (snapshot_of state) (last_change J t)
stale_at J state t = stale_with t J state.autocommit state state.transaction

-- ---- its key

-- its flags and its database can stand in a key, whatever they say of a transaction
keyed_now : (J : Journal) (x : SnapshotState) → IsFitState J x → keys.can_be_keyed (flags_of x.state) x.state.db ≡ true
keyed_now J x fit = and_from _ _ (and_from _ _ (and_from _ _ fit.db fit.charset) refl) refl

pub keyed_by : (J : Journal) (x : SnapshotState) (f : Flags) → IsFitState J x → f ≡ flags_of x.state → (b : Bool) → keys.can_be_keyed (record f { in_trans = b }) x.state.db ≡ true
keyed_by J x f fit is b = subst (λ (g : Flags). keys.can_be_keyed (record g { in_trans = b }) x.state.db ≡ true) (sym is) (keyed_now J x fit)

pub can_be_keyed : (J : Journal) (place : ℕ) (x : SnapshotState) → IsFitState J x → x.state.row_limit < 2 ^ 64 → CanBeKeyed (arrived_at place x.state)
can_be_keyed J place x fit limit = record { values = keyed_now J x fit; limit = limit }

-- ---- its snapshot

place_by : (J : Journal) (origin p : _) (ops : List RowOp) → IsFitAt J origin p ops → IsPlace J p
place_by J origin None ops f = tt
place_by J origin (Some n) ops f = (f.least, f.quiet)

place_at_end : (J : Journal) → IsPlace J (Some (length J + 1))
place_at_end J = (omega arith, quiet_end J)

place_with : (J : Journal) (origin : _) (autocommit : Bool) (state : State) (o : Option Transaction) → IsFitIn J origin o
    → IsPlace J (snapshot_of (with_transaction state (option_map (snapshot_taken (length J + 1)) (opened (record state { autocommit = autocommit; transaction = o })))))
place_with J origin autocommit state (Some x) f = by x x.snapshot refl (place_by J origin x.snapshot x.operations f)
  where
    by : (x : Transaction) (p : Option ℕ) → x.snapshot ≡ p → IsPlace J p → IsPlace J (snapshot_of (with_transaction state (Some (snapshot_taken (length J + 1) x))))
    by x (Some n) is h = rw is h
    by x None is h = rw is (place_at_end J)
place_with J origin true state None f = tt
place_with J origin false state None f = place_at_end J

pub place_at : (J : Journal) (x : SnapshotState) → IsFitState J x → IsPlace J (snapshot_of (arrived_at (length J + 1) x.state))
place_at J x fit = let state = x.state in place_with J x.origin state.autocommit state state.transaction fit.transaction

pub place_by_fit : (J : Journal) (x : SnapshotState) → IsFitState J x → IsPlace J (snapshot_of x.state)
place_by_fit J x fit = let state = x.state in in_transaction state.transaction fit.transaction
  where
    in_transaction : (o : Option Transaction) → IsFitIn J x.origin o → IsPlace J (snapshot_of (with_transaction x.state o))
    in_transaction None f = tt
    in_transaction (Some t) f = place_by J x.origin t.snapshot t.operations f
