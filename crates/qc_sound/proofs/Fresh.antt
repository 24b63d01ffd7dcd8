-- The serial of the next start stands nowhere yet.
use Rattle.std.proofs.Common.{◌≡◌, ◌≢◌, ℕ, ◌+◌, ◌%◌, ◌<◌, ◌≤◌, eqb, eqb-true, ne_eqb, Bool, true, false, cond, List, [], ◌∷◌, ◌++◌, map, length, refl, sym, ap, subst, ◌∙◌, arith, true≢false, length-append}
use Rattle.std.specs.Prelude.{◌||◌, Option, Some, None, Ok, IsSomeAnd, is_some, is_none, unwrap_or, option_map, count_by, ◌==◌}
use Rattle.std.specs.Prelude.{Result}
use Rattle.std.specs.List.{list_any, concat, AllByRecursion, AllZip}
use Rattle.std.proofs.lemmas.List.Sums.{sum_by-append, sum_by-cons}
use Rattle.std.proofs.lemmas.List.Concat.{concat_is, flat_map-cons}
use Rattle.qc_types.specs.declared.names.Why.{Why}
use Rattle.qc_types.specs.declared.options.Options.{Options}
use Rattle.qc_types.specs.declared.sql_error.SqlError.{SqlError}
use Rattle.qc_sql.specs.declared.statements.Statement.{Statement}
use Rattle.qc_sql.specs.declared.statements.Statement.TheVariants as statement
use Rattle.qc_sql.specs.Database.{Database}
use Rattle.qc_sql.specs.Grammar.{meaning, ParseFault}
use Rattle.qc_sql.specs.Rows.{Rows, rows}
use Rattle.qc_sql.specs.Rules.{why_not}
use Rattle.qc_sql.specs.Packets.{packet, numbered, payloads}
use Rattle.qc_model.specs.declared.events.Event.{Event}
use Rattle.qc_model.specs.declared.events.Event.TheVariants as event
use Rattle.qc_model.specs.declared.events.How.TheVariants as how
use Rattle.qc_model.specs.Journal.{Journal, last_event, present}
use Rattle.qc_model.specs.Cache.{Entry, cache, entry_of, is_entry, is_run, is_start}
use Rattle.qc_model.specs.Choice.{start_count}
use Rattle.qc_model.specs.Session.{KeyParts, rows_reply, parts_of, is_key_of, packets_unless, kept_packets, answer_packets, answer}
use Rattle.qc_model.specs.Licence.{IsLicensed, IsLawful, IsLawfulAfter}
use Rattle.qc_laws.specs.history.Runs.{IsStarted, IsKept}
use Rattle.qc_laws.proofs.history.Events.{lawful_prefix, lawful_back, found_all}
use Rattle.qc_laws.proofs.history.Starts.{start_number}
use Rattle.qc_laws.proofs.history.Stays.{answers_stay}
use Rattle.qc_turn.specs.declared.task.Task.{Task}
use Rattle.qc_turn.specs.declared.task.Task.TheVariants as task
use Rattle.qc_sound.specs.PlainServer.{PlainServer, StoredEntry, EntryChain, SeatTask, session_of, serial_of, is_task_on, is_stored, has_serial}
use Rattle.qc_sound.specs.Moment.{Moment}
use Rattle.qc_sound.specs.Ended.{ends_fill, is_ended}
use Rattle.qc_sound.specs.parts.Directory.{IsStoredAs}
use Rattle.qc_sound.specs.parts.Memory.{ChainFits}
use Rattle.qc_sound.specs.parts.Tasks.{TaskIsSound, SeatTaskIsSound}
use Rattle.qc_sound.specs.Sound.{IsSound}
use Rattle.qc_sound.proofs.Laws.{start_of, hit_ended}

-- ---- what was started has a number of the starts

starts_more : (xs ys : Journal) → start_count xs ≤ start_count (xs ++ ys)
starts_more xs ys = let sum = sum_by-append (λ (e : Event). cond (is_run is_start e) 1 0) xs ys in omega (arith, sum)

pub start_below : (o : Options) (j : Journal) (n : ℕ) → IsLawful o j → IsStarted j n → n ≤ start_count j
start_below o j n lawful s =
    let e = event.Run s.who (how.Start n s.key s.tables) in
    let number = start_number o j n s lawful in
    let whole : start_count j ≡ start_count (s.earlier ++ e ∷ s.later) = ap start_count s.split in
    let sum = sum_by-append (λ (e : Event). cond (is_run is_start e) 1 0) s.earlier (e ∷ s.later) in
    let first = sum_by-cons (λ (e : Event). cond (is_run is_start e) 1 0) e s.later in
    omega (arith, number, whole, sum, first)

-- ---- and so has what has ended

record Parted (p : Event → Bool) (j : Journal) : Type 0 where
  pub earlier : Journal
  pub at : Event
  pub later : Journal
  pub split : j ≡ earlier ++ at ∷ later
  pub passes : p at ≡ true

parted : (p : Event → Bool) (j : Journal) → list_any p j ≡ true → Parted p j
parted p [] h = absurd (true≢false (sym h))
parted p (e ∷ j) h = elim (p e) as (λ b. p e ≡ b → (b || list_any p j) ≡ true → Parted p (e ∷ j)) [
  | true ↦ λ t k. record { earlier = []; at = e; later = j; split = refl; passes = t }
  | false ↦ λ t k. let r = parted p j k in record { earlier = e ∷ r.earlier; at = r.at; later = r.later; split = ap (λ l. e ∷ l) r.split; passes = r.passes }
] refl h

held_below : (o : Options) (j : Journal) (n : ℕ) (P : Entry → Type 0) (f : Option Entry) → IsLawful o j → entry_of n (cache j) ≡ f → IsSomeAnd f P → n ≤ start_count j
held_below o j n P None lawful e h = absurd h
held_below o j n P (Some y) lawful e h =
    let k = found_all (IsKept j) (is_entry n) (cache j) y (answers_stay o j lawful) e in
    subst (λ i. i ≤ start_count j) (eqb-true y.serial n k.1) (start_below o j y.serial lawful k.0.start)

ends_below : (o : Options) (j : Journal) (n : ℕ) (e : Event) → IsLawful o j → IsLicensed o j e → ends_fill n e ≡ true → n ≤ start_count j
ends_below o j n (event.Done k) lawful may h = subst (λ i. i ≤ start_count j) (eqb-true k n h) (held_below o j k _ (entry_of k (cache j)) lawful refl may)
ends_below o j n (event.Gone k why) lawful may h = subst (λ i. i ≤ start_count j) (eqb-true k n h) (held_below o j k _ (entry_of k (cache j)) lawful refl may.0)
ends_below o j n e lawful may h = absurd (true≢false (sym h))

pub ended_below : (o : Options) (j : Journal) (n : ℕ) → IsLawful o j → is_ended n j ≡ true → n ≤ start_count j
ended_below o j n lawful h =
    let r = parted (ends_fill n) j h in
    let here : IsLawful o (r.earlier ++ r.at ∷ r.later) = subst (IsLawful o) r.split lawful in
    let before : IsLawful o r.earlier = lawful_prefix o [] r.earlier (r.at ∷ r.later) here in
    let may : IsLawfulAfter o r.earlier (r.at ∷ r.later) = lawful_back o [] r.earlier (r.at ∷ r.later) here in
    let low = ends_below o r.earlier n r.at before may.0 r.passes in
    let whole : start_count j ≡ start_count (r.earlier ++ r.at ∷ r.later) = ap start_count r.split in
    omega (arith, low, whole, starts_more r.earlier (r.at ∷ r.later))

-- ---- a number above them

pub not_ended : (o : Options) (j : Journal) (n : ℕ) → IsLawful o j → start_count j < n → is_ended n j ≡ false
not_ended o j n lawful new = by (is_ended n j) refl
  where
    by : (b : Bool) → is_ended n j ≡ b → b ≡ false
    by true e = let low = ended_below o j n lawful e in absurd (omega (arith, low, new))
    by false e = refl

above : (n m : ℕ) → m < n → eqb m n ≡ false
above n m h = ne_eqb m n (λ e. absurd (omega (arith, h, e)))

pub no_chain : (o : Options) (j : Journal) (n : ℕ) (cs : List EntryChain) → IsLawful o j → start_count j < n → AllByRecursion (ChainFits o j) cs → list_any (has_serial n) cs ≡ false
no_chain o j n [] lawful new h = refl
no_chain o j n (c ∷ cs) lawful new h =
    let low = start_below o j c.serial lawful h.0.start in
    ap (λ b. b || list_any (has_serial n) cs) (above n c.serial (omega (arith, low, new))) ∙ no_chain o j n cs lawful new h.1

pub no_entry : (moment : Moment) (o : Options) (j : Journal) (n : ℕ) (es : List StoredEntry) (ys : List Entry) → IsLawful o j → start_count j < n → AllZip (IsStoredAs moment.hash) es ys → AllByRecursion (IsKept j) ys → AllByRecursion (λ e. eqb e.serial n ≡ false) es
no_entry moment o j n [] [] lawful new h k = tt
no_entry moment o j n [] (y ∷ ys) lawful new h k = tt
no_entry moment o j n (e ∷ es) [] lawful new h k = absurd h
no_entry moment o j n (e ∷ es) (y ∷ ys) lawful new h k =
    let low = start_below o j y.serial lawful k.0.start in
    let same : e.serial ≡ y.serial = h.0.serial in
    (above n e.serial (omega (arith, low, new, same)), no_entry moment o j n es ys lawful new h.1 k.1)

task_below : (o : Options) (j : Journal) (seat : ℕ) (t : Task) (m : ℕ) → IsLawful o j → TaskIsSound j seat t → serial_of t ≡ Some m → m ≤ start_count j
task_below o j seat task.Rest m lawful h e = absurd h
task_below o j seat (task.Stream k) m lawful h e = let same : k ≡ m = cc in subst (λ i. i ≤ start_count j) same (ended_below o j k lawful (hit_ended o j k (session_of seat) _ lawful refl h))
task_below o j seat (task.Fill k) m lawful h e = let same : k ≡ m = cc in subst (λ i. i ≤ start_count j) same (start_below o j k lawful (start_of j k (session_of seat) _ refl h.0).0)

pub no_task : (o : Options) (j : Journal) (cs : List EntryChain) (n : ℕ) (ws : List SeatTask) → IsLawful o j → start_count j < n → AllByRecursion (SeatTaskIsSound j cs) ws → AllByRecursion (λ w. is_task_on n w ≡ false) ws
no_task o j cs n [] lawful new h = tt
no_task o j cs n (w ∷ ws) lawful new h = (by (serial_of w.task) refl, no_task o j cs n ws lawful new h.1)
  where
    by : (f : Option ℕ) → serial_of w.task ≡ f → unwrap_or (option_map (λ m. eqb m n) f) false ≡ false
    by None e = refl
    by (Some m) e = let low = task_below o j w.seat w.task m lawful h.0.task e in above n m (omega (arith, low, new))

-- ---- an answer has a byte

first_packet : (n : ℕ) (p : List ℕ) → 0 < length (packet n p)
unfolding packet
first_packet n p = omega (arith, length-append {A = ℕ})

some_bytes : (ps : List (List ℕ)) (p : List ℕ) (n : ℕ) → 0 < length (concat (packet n p ∷ ps))
some_bytes ps p n =
    let whole : concat (packet n p ∷ ps) ≡ packet n p ++ concat ps = concat_is (packet n p ∷ ps) ∙ (flat_map-cons (λ x. x) (packet n p) ps ∙ ap (λ l. packet n p ++ l) (sym (concat_is ps))) in
    let first = first_packet n p in
    let long = length-append (packet n p) (concat ps) in
    subst (λ l. 0 < length l) (sym whole) (omega (arith, first, long))

numbered_byte : (ps : List (List ℕ)) → 0 < length ps → 0 < length (concat (numbered 1 ps))
numbered_byte [] h = absurd (omega (arith, h))
numbered_byte (p ∷ ps) h = some_bytes (numbered ((1 + 1) % 256) ps) p 1

abbrev HasByte : Option (List (List ℕ)) → Type 0
HasByte o = is_some (option_map concat o) ≡ true → 0 < length (unwrap_or (option_map concat o) [])

unless_byte : (parts : KeyParts) (w : Option Why) (r : Result Rows SqlError) → HasByte (packets_unless parts w r)
unless_byte parts None (Ok r) h = numbered_byte (payloads (rows_reply parts.flags r)) (omega arith)
unless_byte parts w r h = absurd (true≢false (sym h))

kept_byte : (parts : KeyParts) (d : Database) (m : Result Statement ParseFault) → HasByte (kept_packets parts d m)
kept_byte parts d (Ok (statement.Select s)) h = unless_byte parts (why_not parts.db s) (rows s d parts.db parts.flags 0) h
kept_byte parts d m h = absurd (true≢false (sym h))

pub answer_byte : (key : List ℕ) (d : Database) → is_some (answer key d) ≡ true → 0 < length (unwrap_or (answer key d) [])
unfolding answer_packets
answer_byte key d h = by (is_key_of (parts_of key) key) h
  where
    by : (b : Bool) → HasByte (cond b (kept_packets (parts_of key) d (meaning (parts_of key).text (parts_of key).flags.ansi)) None)
    by true h = kept_byte (parts_of key) d (meaning (parts_of key).text (parts_of key).flags.ansi) h
    by false h = absurd (true≢false (sym h))
