-- What a select sees is the same before the place of its event is known and once it is.
use Rattle.std.proofs.Common.{◌≡◌, ℕ, ◌+◌, ◌-◌, ◌≤◌, Bool, true, false, cond, [], ◌∷◌, ◌++◌, take, length, refl, sym, ap, subst, ◌∙◌, true≢false, arith}
use Rattle.std.specs.Prelude.{Option, Some, None, nat_lt, option_map, IfSome}
use Rattle.std.specs.List.{list_all}
use Rattle.std.proofs.lemmas.List.{take-append-le}
use Rattle.std.proofs.lemmas.Bool.Decides.{nat_tests}
use Rattle.qc_types.specs.declared.names.TableName.{TableName}
use Rattle.qc_sql.specs.declared.statements.Select.{Select}
use Rattle.qc_sql.specs.declared.statements.Statement.TheVariants as statement
use Rattle.qc_sql.specs.Database.{apply}
use Rattle.qc_model.specs.declared.events.Event.{Event}
use Rattle.qc_model.specs.declared.events.Reason.TheVariants as reason
use Rattle.qc_model.specs.Journal.{Journal, present, before, last_change, last_number, touches_table}
use Rattle.qc_model.specs.Cache.{is_prune}
use Rattle.qc_model.specs.Choice.{changed_since, is_stale, stale_reason, wrote}
use Rattle.qc_model.specs.Session.{State, Transaction, at_snapshot, base, flags_of, snapshot_of, uses_rows, with_transaction}
use Rattle.qc_select.specs.Settled.{settled, settled_place, state_at}
use Rattle.qc_select.proofs.Pruned.{change_stays, present_stays}

-- ---- no change is above the end of a journal

found_within : (test : Event → Bool) (found n : ℕ) (es : Journal) → found + 1 ≤ n → last_number test found n es + 1 ≤ n + length es
found_within test found n [] h = omega (arith, h)
found_within test found n (e ∷ es) h = elim (test e) as (λ b. last_number test (cond b n found) (n + 1) es + 1 ≤ n + length (e ∷ es)) [
  | true ↦ let rest = found_within test n (n + 1) es (omega arith) in omega (arith, rest)
  | false ↦ let rest = found_within test found (n + 1) es (omega (arith, h)) in omega (arith, rest)
]

not_above : (n p : ℕ) → n ≤ p → nat_lt p n ≡ false
not_above n p h = grind (arith, nat_tests)

never_later : (J : Journal) (t : TableName) (p : ℕ) → length J ≤ p → changed_since (Some p) (last_change J t) ≡ false
never_later J t p h = let within = found_within (touches_table t) 0 1 J (omega arith) in not_above (last_change J t) p (omega (arith, within, h))

-- ---- a snapshot and the one that stands for it

-- the place of a snapshot is in the journal, or the next one
abbrev pub IsReached : Journal → Option ℕ → Type 0
IsReached J p = IfSome p (λ n. n ≤ length J + 1)

pub record SeesAlike (J q : Journal) (p o : Option ℕ) : Type 0 where
  pub stale : (t : TableName) → changed_since o (last_change (J ++ q) t) ≡ changed_since p (last_change J t)
  pub named : (t : TableName) (n : ℕ) → p ≡ Some n → changed_since p (last_change J t) ≡ true → o ≡ Some n
  pub seen : at_snapshot o (J ++ q) ≡ at_snapshot p J

kept : (J q : Journal) (p : Option ℕ) → list_all is_prune q ≡ true → IsReached J p → SeesAlike J q p p
kept J q p h r = record { stale = λ t. ap (changed_since p) (change_stays J q t h); named = λ t n is g. is; seen = by p r }
  where
    by : (p : Option ℕ) → IsReached J p → at_snapshot p (J ++ q) ≡ at_snapshot p J
    by None r = present_stays J q h
    by (Some n) r = ap present (take-append-le (n - 1) J q (omega (arith, r)))

whole : (J : Journal) (n : ℕ) → n ≡ length J + 1 → before n J ≡ J
whole J n is = by (n - 1) J (omega (arith, is))
  where
    by : (k : ℕ) (J : Journal) → k ≡ length J → take k J ≡ J
    by k J e = ap (λ i. take i J) e ∙ all J
      where
        all : (J : Journal) → take (length J) J ≡ J
        all [] = refl
        all (x ∷ xs) = ap (λ l. x ∷ l) (all xs)

-- the snapshot is taken behind the prunes
taken : (J q : Journal) (p : Option ℕ) → list_all is_prune q ≡ true → IsReached J p → SeesAlike J q p (Some (settled_place (length J) (length (J ++ q) + 1) p))
taken J q None h r = record {
  stale = λ t. never_later (J ++ q) t (length (J ++ q) + 1) (omega arith);
  named = λ t n is g. absurd (true≢false (sym g));
  seen = ap present (whole (J ++ q) (length (J ++ q) + 1) refl) ∙ present_stays J q h;
}
taken J q (Some n) h r = elim (nat_lt (length J) n) as (λ b. nat_lt (length J) n ≡ b → SeesAlike J q (Some n) (Some (cond b (length (J ++ q) + 1) n))) [
  | true ↦ λ e.
      let last : n ≡ length J + 1 = grind (arith, nat_tests) in
      let never : (t : TableName) → changed_since (Some n) (last_change J t) ≡ false = λ t. never_later J t n (omega (arith, last)) in
      record {
        stale = λ t. never_later (J ++ q) t (length (J ++ q) + 1) (omega arith) ∙ sym (never t);
        named = λ t m is g. absurd (true≢false (sym g ∙ never t));
        seen = ap present (whole (J ++ q) (length (J ++ q) + 1) refl) ∙ present_stays J q h ∙ sym (ap present (whole J n last));
      }
  | false ↦ λ e. kept J q (Some n) h r
] refl

-- ---- a state and the one that stands for it

pub record Settles (J q : Journal) (s o : State) : Type 0 where
  pub wrote_is : (t : TableName) → wrote o t ≡ wrote s t
  pub stale_is : (t : TableName) → is_stale o (J ++ q) t ≡ is_stale s J t
  pub reason_is : (t : TableName) → is_stale s J t ≡ true → stale_reason o (J ++ q) (Some t) ≡ stale_reason s J (Some t)
  pub base_is : base o (J ++ q) ≡ base s J
  pub flags_are : flags_of o ≡ flags_of s
  pub db_is : o.db ≡ s.db
  pub kind_is : o.kind ≡ s.kind
  pub session_is : o.session ≡ s.session

-- the reason that a stale table gives
reason_alike : (J q : Journal) (s o : State) (t : TableName) (p : Option ℕ) → snapshot_of s ≡ p → SeesAlike J q (snapshot_of s) (snapshot_of o) → list_all is_prune q ≡ true → is_stale s J t ≡ true
    → stale_reason o (J ++ q) (Some t) ≡ stale_reason s J (Some t)
reason_alike J q s o t None is a h g = absurd (true≢false (sym g ∙ ap (λ x. changed_since x (last_change J t)) is))
reason_alike J q s o t (Some n) is a h g =
    let other : snapshot_of o ≡ Some n = a.named t n is g in
    let right : stale_reason s J (Some t) ≡ Some (reason.NotVisible t (last_change J t) n) = rw is refl in
    let left : stale_reason o (J ++ q) (Some t) ≡ Some (reason.NotVisible t (last_change (J ++ q) t) n) = rw other refl in
    left ∙ ap (λ m. Some (reason.NotVisible t m n)) (change_stays J q t h) ∙ sym right

settles_by : (J q : Journal) (s : State) (o : Option Transaction) (f : Transaction → Transaction) → list_all is_prune q ≡ true → ((x : Transaction) → o ≡ Some x → ((f x).operations ≡ x.operations) × SeesAlike J q x.snapshot (f x).snapshot)
    → Settles J q (with_transaction s o) (with_transaction s (option_map f o))
settles_by J q s None f h a = let k = kept J q None h tt in record {
  wrote_is = λ t. refl;
  stale_is = k.stale;
  reason_is = λ t g. absurd (true≢false (sym g));
  base_is = present_stays J q h;
  flags_are = refl;
  db_is = refl;
  kind_is = refl;
  session_is = refl;
}
settles_by J q s (Some x) f h a = let both = a x refl in let k = both.1 in record {
  wrote_is = λ t. ap (λ ops. wrote (with_transaction s (Some (record { snapshot = None; operations = ops }))) t) both.0;
  stale_is = k.stale;
  reason_is = λ t g. reason_alike J q (with_transaction s (Some x)) (with_transaction s (Some (f x))) t x.snapshot refl k h g;
  base_is = λ i. apply (both.0 i) (k.seen i);
  flags_are = refl;
  db_is = refl;
  kind_is = refl;
  session_is = refl;
}

same_option : (o : Option Transaction) → option_map (λ t. t) o ≡ o
same_option None = refl
same_option (Some x) = refl

reached_at : (J : Journal) (s : State) (o : Option Transaction) (x : Transaction) → IsReached J (snapshot_of (with_transaction s o)) → o ≡ Some x → IsReached J x.snapshot
reached_at J s o x r is = subst (λ p. IsReached J (snapshot_of (with_transaction s p))) is r

pub settles : (J q : Journal) (select : Select) (s : State) → list_all is_prune q ≡ true → IsReached J (snapshot_of s) → Settles J q s (state_at J (length (J ++ q) + 1) select s)
settles J q select s h r = elim (uses_rows (statement.Select select)) as (λ b. Settles J q s (cond b (with_transaction s (option_map (settled (length J) (length (J ++ q) + 1)) s.transaction)) s)) [
  | true ↦ settles_by J q s s.transaction (settled (length J) (length (J ++ q) + 1)) h (λ x is. (refl, taken J q x.snapshot h (reached_at J s s.transaction x r is)))
  | false ↦ subst (λ o. Settles J q s (with_transaction s o)) (same_option s.transaction) (settles_by J q s s.transaction (λ t. t) h (λ x is. (refl, kept J q x.snapshot h (reached_at J s s.transaction x r is))))
]
