-- The line that a report's reader refuses is the first bad one.
use Rattle.std.proofs.Common.{◌≡◌, ℕ, zero, suc, ◌+◌, ◌^◌, ◌<◌, Bool, true, false, ◌⊎◌, inl, inr, List, [], ◌∷◌, ◌++◌, map, length, length-append, Result, Ok, Err, refl, sym, ap, subst, ◌∙◌, append-nil, arith}
use Rattle.std.specs.Prelude.{◌==◌, codes, decimal, IfErr, if◌then◌else◌}
use Rattle.std.specs.List.{AllByRecursion, flat_map}
use Rattle.std.proofs.lemmas.Bool.{ne_eqb}
use Rattle.std.proofs.lemmas.List.Concat.{flat_map-append}
use Rattle.qc_types.specs.Answers.{Gives}
use Rattle.qc_types.specs.declared.memory.Or.{Or}
use Rattle.qc_types.specs.declared.memory.Or.TheVariants as or
use Rattle.qc_types.specs.declared.options.Options.{Options}
use Rattle.qc_model.specs.declared.events.Event.{Event}
use Rattle.qc_model.specs.declared.events.Event.TheVariants as event
use Rattle.qc_model.specs.declared.events.Counters.{Counters}
use Rattle.qc_model.specs.declared.reports.Word.TheVariants as word
use Rattle.qc_model.specs.declared.reports.Ending.TheVariants as ending
use Rattle.qc_model.specs.declared.reports.ReportLine.{ReportLine}
use Rattle.qc_model.specs.declared.reports.SessionReport.{SessionReport}
use Rattle.qc_model.specs.declared.reports.Report.{Report}
use Rattle.qc_model.specs.ReportText.{Text, text_of_report, lines, fields, option_fields, counter_fields, event_fields, event_lines, line_text, session_lines}
use Rattle.qc_script.specs.declared.reading.misspelt.Misspelt.{Misspelt}
use Rattle.qc_script.specs.declared.reports.sessions.Head.{Head}
use Rattle.qc_script.specs.ReportParts.{head_fields, sessions_part, journal_part}
use Rattle.qc_script.specs.Told.{Told, nothing, ◌>>=◌, front, number_told, behind_word, one_line, options_in, options_line, counters_in, counters_line, count_line, head_in, head_line, command_in, command_line, event_told, event_line, KindsMade, Unread, line_at, at_number, told_at, behind_line, times, command_at, session_at, sessions_at, Behind, behind_event, event_at, events_at, journal_at, ended, report_told}
use Rattle.qc_script.specs.Tellable.{IsU64, TellsEvent, TellEvents, made_by_event, IsLine, IsSession, AreOptions, AreCounters, IsTellable}
use Rattle.qc_script.specs.BadLine.{IsOneLine, Begins, IsFirstBad, Blames}
use Rattle.qc_script.proofs.Cuts.{Lacks, AllLack}
use Rattle.qc_script.proofs.Tells.{EventRead, IsHead, options_ok, counters_ok, count_ok, head_ok, command_ok, event_line_ok}
use Rattle.qc_script.proofs.Whole.{at, first_line, report_again}
use Rattle.qc_script.proofs.Stops.{Took, Stopped, Reads, with_rest, lines_both, given, after, like, on_from, spelt_is, held, line_reads, certain_reads, times_reads, some_many}

-- ---- lines

options_spell : (line : Text) (x : Options) → options_line line ≡ Ok x → AreOptions x × (line ≡ lines (fields (option_fields x) ∷ []))
unfolding options_line
options_spell line x e = (held (options_line line) x (options_ok line) e, spelt_is line (λ o. one_line (option_fields o)) (options_in (behind_word line)) x e)

counters_spell : (line : Text) (x : Counters) → counters_line line ≡ Ok x → AreCounters x × (line ≡ lines (fields (counter_fields x) ∷ []))
unfolding counters_line
counters_spell line x e = (held (counters_line line) x (counters_ok line) e, spelt_is line (λ c. one_line (counter_fields c)) (counters_in (behind_word line)) x e)

count_spells : (w line : Text) (x : ℕ) → count_line w line ≡ Ok x → IsU64 x × (line ≡ lines (fields (w ∷ decimal x ∷ []) ∷ []))
unfolding count_line
count_spells w line x e = (held (count_line w line) x (count_ok w line) e, spelt_is line (λ n. one_line (w ∷ decimal n ∷ [])) (number_told (behind_word line)) x e)

head_spells : (line : Text) (x : Head) → head_line line ≡ Ok x → IsHead x × (line ≡ lines (fields (codes "session" ∷ head_fields x) ∷ []))
unfolding head_line
head_spells line x e = (held (head_line line) x (head_ok line) e, spelt_is line (λ h. one_line (codes "session" ∷ head_fields h)) (head_in (behind_word line)) x e)

command_spells : (line : Text) (x : ReportLine) → command_line line ≡ Ok x → IsLine x × (line ≡ lines (line_text x ∷ []))
unfolding command_line
command_spells line x e = (held (command_line line) x (command_ok line) e, spelt_is line (λ c. lines (line_text c ∷ [])) (command_in (front 10 line)) x e)

event_spells : (made : KindsMade) (j : ℕ) (line : Text) (x : Event × KindsMade) → event_line made j line ≡ Ok x → EventRead made x × (line ≡ lines (fields (decimal j ∷ event_fields x.0) ∷ []))
unfolding event_line
event_spells made j line x e =
    (held (event_line made j line) x (event_line_ok made j line) e, spelt_is line (λ (p : Event × KindsMade). one_line (decimal j ∷ event_fields p.0)) (event_told made (behind_word line)) x e)

-- ---- sessions

small : 0 < 2 ^ 64
small = omega arith

no_options : Options
no_options = record { size = 0; limit = 0; unit = 0; kind = 0 }

no_options_are : AreOptions no_options
unfolding no_options
no_options_are = record { size = omega arith; limit = omega arith; unit = omega arith; kind = omega arith }

no_counters : Counters
no_counters = record { com_select = 0; hits = 0; inserts = 0; not_cached = 0; lowmem_prunes = 0; queries_in_cache = 0 }

no_counters_are : AreCounters no_counters
unfolding no_counters
no_counters_are = record { com_select = small; hits = small; inserts = small; not_cached = small; lowmem_prunes = small; queries_in_cache = small }

a_line : ReportLine
a_line = record { place = 0; how = word.Other; reply = [] }

a_line_is : IsLine a_line
unfolding a_line
a_line_is = record { place = small; reply = tt }

a_head : Head
a_head = record { session = 0; commands = 0; ending = ending.Quit }

a_head_is : IsHead a_head
unfolding a_head
a_head_is = record { session = omega arith; commands = small; ending = tt }

a_session : SessionReport
a_session = record { session = 0; lines = []; ending = ending.Quit }

a_session_is : IsSession a_session
unfolding a_session
a_session_is = record { session = omega arith; count = small; each = tt; ending = tt }

command_reads : (k : ℕ) (t : Text) → Reads with_rest (λ (c : ReportLine). line_text c ∷ []) IsLine k (λ s. command_at (at k s)) t
command_reads k t = line_reads command_line line_text IsLine command_spells a_line a_line_is k t

each_line : (cs : List ReportLine) → flat_map (λ (c : ReportLine). line_text c ∷ []) cs ≡ map line_text cs
each_line [] = refl
each_line (c ∷ cs) = ap (λ (ls : List Text). line_text c ∷ ls) (each_line cs)

abbrev session_of : Head → List ReportLine → SessionReport
session_of h cs = record { session = h.session; lines = cs; ending = h.ending }

abbrev HasLines : Head → List ReportLine → Type 0
HasLines h cs = AllByRecursion IsLine cs × (length cs ≡ h.commands)

session_joins : (h : Head) (cs : List ReportLine) → IsHead h → HasLines h cs
    → IsSession (session_of h cs) × (session_lines (session_of h cs) ≡ (fields (codes "session" ∷ head_fields h) ∷ []) ++ flat_map (λ (c : ReportLine). line_text c ∷ []) cs)
session_joins h cs is has = (
  record { session = is.session; count = subst IsU64 (sym has.1) is.commands; each = has.0; ending = is.ending },
  ap (λ (n : ℕ). fields (codes "session" ∷ head_fields (record { session = h.session; commands = n; ending = h.ending })) ∷ map line_text cs) has.1
      ∙ ap (λ (ls : List Text). fields (codes "session" ∷ head_fields h) ∷ ls) (sym (each_line cs)),
)

session_reads : (k : ℕ) (t : Text) → Reads with_rest session_lines IsSession k (λ s. session_at (at k s)) t
unfolding session_at
session_reads k t =
    on_from with_rest (λ (h : Head). fields (codes "session" ∷ head_fields h) ∷ []) IsHead (λ (h : Head) (cs : List ReportLine). flat_map (λ (c : ReportLine). line_text c ∷ []) cs) HasLines
    with_rest session_lines IsSession session_of k (λ s. told_at head_line (at k s))
    (λ head. times command_at head.0.commands head.1 >>= λ commands. Ok (record { session = head.0.session; lines = commands.0; ending = head.0.ending }, commands.1)) t
    (λ h is. some_many command_at (λ (c : ReportLine). line_text c ∷ []) IsLine a_line a_line_is command_reads h.commands)
    session_joins
    (λ h is n u. after with_rest (λ (cs : List ReportLine). flat_map (λ (c : ReportLine). line_text c ∷ []) cs) (HasLines h) n (λ s. times command_at h.commands (at n s)) (λ (r : List ReportLine × Unread). (session_of h r.0, r.1)) u
    (times_reads command_at (λ (c : ReportLine). line_text c ∷ []) IsLine a_line a_line_is command_reads h.commands n u))
    (line_reads head_line (λ h. fields (codes "session" ∷ head_fields h)) IsHead head_spells a_head a_head_is k t)

abbrev Sessions : List SessionReport → Type 0
Sessions ss = AllByRecursion IsSession ss × IsU64 (length ss)

abbrev count_of : Text → ℕ → List Text
count_of w n = fields (w ∷ decimal n ∷ []) ∷ []

sessions_read : (k : ℕ) (t : Text) → Reads with_rest sessions_part Sessions k (λ s. sessions_at (at k s)) t
unfolding sessions_at
sessions_read k t =
    on_from with_rest (count_of (codes "sessions")) IsU64 (λ (n : ℕ) (ss : List SessionReport). flat_map session_lines ss) (λ n ss. AllByRecursion IsSession ss × (length ss ≡ n))
    with_rest sessions_part Sessions (λ n ss. ss) k (λ s. told_at (count_line (codes "sessions")) (at k s))
    (λ count. times session_at count.0 count.1) t
    (λ n is. some_many session_at session_lines IsSession a_session a_session_is session_reads n)
    (λ n ss is has. ((has.0, subst IsU64 (sym has.1) is), ap (λ (m : ℕ). fields (codes "sessions" ∷ decimal m ∷ []) ∷ flat_map session_lines ss) has.1))
    (λ n is m u. times_reads session_at session_lines IsSession a_session a_session_is session_reads n m u)
    (line_reads (count_line (codes "sessions")) (λ n. fields (codes "sessions" ∷ decimal n ∷ [])) IsU64 (count_spells (codes "sessions")) 0 small k t)

-- ---- the journal

a_reset : Event
a_reset = event.Reset (record { session = 0; number = 0 })

a_reset_tells : (made : KindsMade) → TellsEvent made a_reset × (made_by_event a_reset made ≡ made)
unfolding a_reset
a_reset_tells made = (record { session = omega arith; number = small }, refl)

a_reset_read : (made : KindsMade) → EventRead made (a_reset, made)
a_reset_read made = let is = a_reset_tells made in record { tells = is.0; after = sym is.1 }

abbrev event_given : ℕ → Event × KindsMade → ℕ → Text → Event × Behind
event_given j p n u = (p.0, behind_event (j + 1) p.1 (at n u))

abbrev event_seen : ℕ → (Event × KindsMade) × Unread → Event × Behind
event_seen j r = (r.0.0, behind_event (j + 1) r.0.1 r.1)

event_is : (j : ℕ) (made : KindsMade) (u : Unread) → event_at (behind_event j made u) ≡ (told_at (event_line made (j + 1)) u >>= λ r. Ok (event_seen j r))
unfolding event_at
event_is j made u = by_line (line_at u)
  where
    by_event : (v : Unread) (q : Result (Event × KindsMade) ℕ) → ◌≡◌ {A = Result (Event × Behind) ℕ} (q >>= λ e. Ok (e.0, behind_event (j + 1) e.1 v)) ((q >>= λ x. Ok (x, v)) >>= λ r. Ok (event_seen j r))
    by_event v (Ok e) = refl
    by_event v (Err n) = refl

    by_line : (r : Result (Text × Unread) ℕ) → ◌≡◌ {A = Result (Event × Behind) ℕ} (r >>= λ line. at_number u.number (event_line made (j + 1) line.0) >>= λ e. Ok (e.0, behind_event (j + 1) e.1 line.1))
        ((r >>= λ line. at_number u.number (event_line made (j + 1) line.0) >>= λ x. Ok (x, line.1)) >>= λ r. Ok (event_seen j r))
    by_line (Ok line) = by_event line.1 (at_number u.number (event_line made (j + 1) line.0))
    by_line (Err n) = refl

abbrev event_lines_of : ℕ → Event × KindsMade → List Text
event_lines_of j p = fields (decimal (j + 1) ∷ event_fields p.0) ∷ []

event_reads : (j : ℕ) (made : KindsMade) (k : ℕ) (t : Text) → Reads (event_given j) (event_lines_of j) (EventRead made) k (λ s. event_at (behind_event j made (at k s))) t
event_reads j made k t =
    like (event_given j) (event_lines_of j) (EventRead made) k (λ s. told_at (event_line made (j + 1)) (at k s) >>= λ r. Ok (event_seen j r)) (λ s. event_at (behind_event j made (at k s)))
    (λ s. event_is j made (at k s)) t
    (after with_rest (event_lines_of j) (EventRead made) k (λ s. told_at (event_line made (j + 1)) (at k s)) (event_seen j) t
    (line_reads (event_line made (j + 1)) (λ p. fields (decimal (j + 1) ∷ event_fields p.0)) (EventRead made) (event_spells made (j + 1)) (a_reset, made) (a_reset_read made) k t))

-- events, and what is known behind them
pub record Events : Type 0 where
  pub all : List Event
  pub number : ℕ
  pub made : KindsMade

abbrev events_given : Events → ℕ → Text → List Event × Behind
events_given es n u = (es.all, behind_event es.number es.made (at n u))

abbrev TellSoMany : KindsMade → ℕ → Events → Type 0
TellSoMany made n es = TellEvents made es.all × (length es.all ≡ n)

some_events : (n j : ℕ) (made : KindsMade) → (es : Events) × TellSoMany made n es
some_events zero j made = (record { all = []; number = j; made = made }, (tt, refl))
some_events (suc n) j made =
    let later = some_events n j made in
    let is = a_reset_tells made in
    (record { all = a_reset ∷ later.0.all; number = j; made = made }, ((is.0, subst (λ m. TellEvents m later.0.all) (sym is.1) later.1.0), ap suc later.1.1))

abbrev event_and_events : Event × KindsMade → Events → Events
event_and_events p es = record { all = p.0 ∷ es.all; number = es.number; made = es.made }

events_join : (n j : ℕ) (made : KindsMade) (p : Event × KindsMade) (es : Events) → EventRead made p → TellSoMany p.1 n es
    → TellSoMany made (suc n) (event_and_events p es) × (event_lines (j + 1) (p.0 ∷ es.all) ≡ event_lines_of j p ++ event_lines (j + 1 + 1) es.all)
events_join n j made p es is tell = (((is.tells, subst (λ m. TellEvents m es.all) is.after tell.0), ap suc tell.1), refl)

events_read : (n j : ℕ) (made : KindsMade) (k : ℕ) (t : Text) → Reads events_given (λ es. event_lines (j + 1) es.all) (TellSoMany made n) k (λ s. times event_at n (behind_event j made (at k s))) t
unfolding times
events_read zero j made k t = given events_given (λ es. event_lines (j + 1) es.all) (TellSoMany made zero) k (record { all = []; number = j; made = made }) (tt, refl) refl t
events_read (suc n) j made k t =
    on_from (event_given j) (event_lines_of j) (EventRead made) (λ (p : Event × KindsMade) (es : Events). event_lines (j + 1 + 1) es.all) (λ p es. TellSoMany p.1 n es)
    events_given (λ es. event_lines (j + 1) es.all) (TellSoMany made (suc n)) event_and_events k (λ s. event_at (behind_event j made (at k s)))
    (λ first. times event_at n first.1 >>= λ others. Ok (first.0 ∷ others.0, others.1)) t
    (λ p is. some_events n j p.1)
    (events_join n j made)
    (λ p is m u. after events_given (λ es. event_lines (j + 1 + 1) es.all) (TellSoMany p.1 n) m (λ s. times event_at n (behind_event (j + 1) p.1 (at m s))) (λ (r : List Event × Behind). (p.0 ∷ r.0, r.1)) u
    (events_read n (j + 1) p.1 m u))
    (event_reads j made k t)

abbrev Journal : List Event → Type 0
Journal es = TellEvents [] es × IsU64 (length es)

journal_reads : (k : ℕ) (t : Text) → Reads with_rest journal_part Journal k (λ s. journal_at (at k s)) t
unfolding journal_at events_at
journal_reads k t =
    on_from with_rest (count_of (codes "journal")) IsU64 (λ (n : ℕ) (es : Events). event_lines 1 es.all) (λ n es. TellSoMany [] n es)
    with_rest journal_part Journal (λ n es. es.all) k (λ s. told_at (count_line (codes "journal")) (at k s))
    (λ count. times event_at count.0 (behind_event 0 [] count.1) >>= λ events. Ok (events.0, events.1.unread)) t
    (λ n is. some_events n 0 [])
    (λ n es is tell. ((tell.0, subst IsU64 (sym tell.1) is), ap (λ (m : ℕ). fields (codes "journal" ∷ decimal m ∷ []) ∷ event_lines 1 es.all) tell.1))
    (λ n is m u. after events_given (λ es. event_lines 1 es.all) (TellSoMany [] n) m (λ s. times event_at n (behind_event 0 [] (at m s))) (λ (r : List Event × Behind). (r.0, r.1.unread)) u (events_read n 0 [] m u))
    (line_reads (count_line (codes "journal")) (λ n. fields (codes "journal" ∷ decimal n ∷ [])) IsU64 (count_spells (codes "journal")) 0 small k t)

-- ---- the whole, but for what may stand behind its last line

abbrev report_of : Options → List SessionReport → List Event → Counters → Report
report_of o ss es c = record { options = o; sessions = ss; journal = es; counters = c }

abbrev lines_of_end : List Text
lines_of_end = codes "end" ∷ []

abbrev lines_of_counters : Report → List Text
lines_of_counters r = fields (counter_fields r.counters) ∷ lines_of_end

abbrev lines_of_journal : Report → List Text
lines_of_journal r = journal_part r.journal ++ lines_of_counters r

abbrev lines_of_sessions : Report → List Text
lines_of_sessions r = sessions_part r.sessions ++ lines_of_journal r

abbrev lines_of_options : Report → List Text
lines_of_options r = fields (option_fields r.options) ∷ lines_of_sessions r

abbrev lines_of : Report → List Text
lines_of r = codes "qcache report 1" ∷ lines_of_options r

abbrev IsOf4 : Options → List SessionReport → List Event → Report → Type 0
IsOf4 o ss es r = (c : Counters) × AreCounters c × (r ≡ report_of o ss es c)

abbrev IsOf3 : Options → List SessionReport → Report → Type 0
IsOf3 o ss r = (es : List Event) × Journal es × IsOf4 o ss es r

abbrev IsOf2 : Options → Report → Type 0
IsOf2 o r = (ss : List SessionReport) × Sessions ss × IsOf3 o ss r

abbrev IsOf1 : Report → Type 0
IsOf1 r = (o : Options) × AreOptions o × IsOf2 o r

end_reads : (r : Report) (k : ℕ) (t : Text) → Reads with_rest (λ (q : Report). lines_of_end) (λ q. q ≡ r) k (λ s. behind_line (codes "end\n") (at k s) >>= λ last. Ok (r, last)) t
end_reads r k t =
    on_from (λ (x : Unit {0}) n u. at n u) (λ x. lines_of_end) (λ x. Unit {0}) (λ (x : Unit {0}) (q : Report). []) (λ x q. q ≡ r)
    with_rest (λ (q : Report). lines_of_end) (λ q. q ≡ r) (λ x q. q) k (λ s. behind_line (codes "end\n") (at k s)) (λ last. Ok (r, last)) t
    (λ x y. (r, refl))
    (λ x q y e. (e, refl))
    (λ x y n u. given with_rest (λ (q : Report). []) (λ q. q ≡ r) n r refl refl u)
    (certain_reads (codes "end") k t)

counters_read : (o : Options) (ss : List SessionReport) (es : List Event) (k : ℕ) (t : Text)
    → Reads with_rest lines_of_counters (IsOf4 o ss es) k (λ s. told_at counters_line (at k s) >>= λ counters. behind_line (codes "end\n") counters.1 >>= λ last. Ok (report_of o ss es counters.0, last)) t
counters_read o ss es k t =
    on_from with_rest (λ (c : Counters). fields (counter_fields c) ∷ []) AreCounters (λ (c : Counters) (r : Report). lines_of_end) (λ c r. r ≡ report_of o ss es c)
    with_rest lines_of_counters (IsOf4 o ss es) (λ c r. r) k (λ s. told_at counters_line (at k s)) (λ counters. behind_line (codes "end\n") counters.1 >>= λ last. Ok (report_of o ss es counters.0, last)) t
    (λ c is. (report_of o ss es c, refl))
    (λ c r is e. ((c, is, e), ap lines_of_counters e))
    (λ c is n u. end_reads (report_of o ss es c) n u)
    (line_reads counters_line (λ c. fields (counter_fields c)) AreCounters counters_spell no_counters no_counters_are k t)

rest_from_journal : (o : Options) (ss : List SessionReport) (k : ℕ) (t : Text)
    → Reads with_rest lines_of_journal (IsOf3 o ss) k (λ s. journal_at (at k s) >>= λ journal. told_at counters_line journal.1 >>= λ counters. behind_line (codes "end\n") counters.1
    >>= λ last. Ok (report_of o ss journal.0 counters.0, last)) t
rest_from_journal o ss k t =
    on_from with_rest journal_part Journal (λ (es : List Event) (r : Report). lines_of_counters r) (λ es r. IsOf4 o ss es r)
    with_rest lines_of_journal (IsOf3 o ss) (λ es r. r) k (λ s. journal_at (at k s))
    (λ journal. told_at counters_line journal.1 >>= λ counters. behind_line (codes "end\n") counters.1 >>= λ last. Ok (report_of o ss journal.0 counters.0, last)) t
    (λ es is. (report_of o ss es no_counters, (no_counters, no_counters_are, refl)))
    (λ es r is known. ((es, is, known), ap (λ (q : Report). journal_part q.journal ++ lines_of_counters r) known.2))
    (λ es is n u. counters_read o ss es n u)
    (journal_reads k t)

rest_from_sessions : (o : Options) (k : ℕ) (t : Text)
    → Reads with_rest lines_of_sessions (IsOf2 o) k (λ s. sessions_at (at k s) >>= λ sessions. journal_at sessions.1 >>= λ journal. told_at counters_line journal.1 >>= λ counters. behind_line (codes "end\n") counters.1
    >>= λ last. Ok (report_of o sessions.0 journal.0 counters.0, last)) t
rest_from_sessions o k t =
    on_from with_rest sessions_part Sessions (λ (ss : List SessionReport) (r : Report). lines_of_journal r) (λ ss r. IsOf3 o ss r)
    with_rest lines_of_sessions (IsOf2 o) (λ ss r. r) k (λ s. sessions_at (at k s))
    (λ sessions. journal_at sessions.1 >>= λ journal. told_at counters_line journal.1 >>= λ counters. behind_line (codes "end\n") counters.1 >>= λ last. Ok (report_of o sessions.0 journal.0 counters.0, last)) t
    (λ ss is. (report_of o ss [] no_counters, ([], (tt, small), (no_counters, no_counters_are, refl))))
    (λ ss r is known. ((ss, is, known), ap (λ (q : Report). sessions_part q.sessions ++ lines_of_journal r) known.2.2))
    (λ ss is n u. rest_from_journal o ss n u)
    (sessions_read k t)

rest_from_options : (k : ℕ) (t : Text)
    → Reads with_rest lines_of_options IsOf1 k (λ s. told_at options_line (at k s) >>= λ options. sessions_at options.1 >>= λ sessions. journal_at sessions.1 >>= λ journal. told_at counters_line journal.1
    >>= λ counters. behind_line (codes "end\n") counters.1 >>= λ last. Ok (report_of options.0 sessions.0 journal.0 counters.0, last)) t
rest_from_options k t =
    on_from with_rest (λ (o : Options). fields (option_fields o) ∷ []) AreOptions (λ (o : Options) (r : Report). lines_of_sessions r) (λ o r. IsOf2 o r)
    with_rest lines_of_options IsOf1 (λ o r. r) k (λ s. told_at options_line (at k s))
    (λ options. sessions_at options.1 >>= λ sessions. journal_at sessions.1 >>= λ journal. told_at counters_line journal.1 >>= λ counters. behind_line (codes "end\n") counters.1
    >>= λ last. Ok (report_of options.0 sessions.0 journal.0 counters.0, last)) t
    (λ o is. (report_of o [] [] no_counters, ([], (tt, small), ([], (tt, small), (no_counters, no_counters_are, refl)))))
    (λ o r is known. ((o, is, known), ap (λ (q : Report). fields (option_fields q.options) ∷ lines_of_sessions r) known.2.2.2))
    (λ o is n u. rest_from_sessions o n u)
    (line_reads options_line (λ o. fields (option_fields o)) AreOptions options_spell no_options no_options_are k t)

abbrev report_parts : Unread → Result (Report × Unread) ℕ
report_parts u =
    behind_line (codes "qcache report 1\n") u >>= λ first. told_at options_line first >>= λ options. sessions_at options.1 >>= λ sessions. journal_at sessions.1 >>= λ journal. told_at counters_line journal.1
    >>= λ counters. behind_line (codes "end\n") counters.1 >>= λ last. Ok (report_of options.0 sessions.0 journal.0 counters.0, last)

tellable : (r : Report) → IsOf1 r → IsTellable r
tellable r known =
    let sessions = known.2 in
    let journal = sessions.2 in
    let counters = journal.2 in
    subst IsTellable (sym counters.2)
    (record { options = known.1; session_count = sessions.1.1; sessions = sessions.1.0; event_count = journal.1.1; journal = journal.1.0; counters = counters.1 })

parts_read : (k : ℕ) (t : Text) → Reads with_rest lines_of IsTellable k (λ s. report_parts (at k s)) t
parts_read k t =
    on_from (λ (x : Unit {0}) n u. at n u) (λ x. codes "qcache report 1" ∷ []) (λ x. Unit {0}) (λ (x : Unit {0}) (r : Report). lines_of_options r) (λ x r. IsOf1 r)
    with_rest lines_of IsTellable (λ x r. r) k (λ s. behind_line (codes "qcache report 1\n") (at k s))
    (λ first. told_at options_line first >>= λ options. sessions_at options.1 >>= λ sessions. journal_at sessions.1 >>= λ journal. told_at counters_line journal.1 >>= λ counters. behind_line (codes "end\n") counters.1
    >>= λ last. Ok (report_of options.0 sessions.0 journal.0 counters.0, last)) t
    (λ x y. (report_of no_options [] [] no_counters, (no_options, no_options_are, ([], (tt, small), ([], (tt, small), (no_counters, no_counters_are, refl))))))
    (λ x r y known. (tellable r known, refl))
    (λ x y n u. rest_from_options n u)
    (certain_reads (codes "qcache report 1") k t)

-- ---- the whole

abbrev closed : Report × Unread → Result Report ℕ
closed p = ended p.1 >>= λ none. Ok p.0

regroup : {A B C : Type 0} (r : Result A ℕ) (f : A → Result B ℕ) (g : B → Result C ℕ) (h : A → Result C ℕ) → ((x : A) → h x ≡ (f x >>= g)) → (r >>= h) ≡ ((r >>= f) >>= g)
regroup (Ok x) f g h e = e x
regroup (Err n) f g h e = refl

told_by_parts : (u : Unread) → report_told u ≡ (report_parts u >>= closed)
unfolding report_told
told_by_parts u =
    regroup (behind_line (codes "qcache report 1\n") u) _ closed _ (λ first.
    regroup (told_at options_line first) _ closed _ (λ options.
    regroup (sessions_at options.1) _ closed _ (λ sessions.
    regroup (journal_at sessions.1) _ closed _ (λ journal.
    regroup (told_at counters_line journal.1) _ closed _ (λ counters.
    regroup (behind_line (codes "end\n") counters.1) _ closed _ (λ last. refl))))))

err_is_no_ok : {A E : Type 0} (e : E) (x : A) → ◌≡◌ {A = Result A E} (Err e) (Ok x) → ⊥
err_is_no_ok e x p = absurd cc

err_is : {A E : Type 0} (x y : E) → ◌≡◌ {A = Result A E} (Err x) (Err y) → x ≡ y
err_is x y p = cc

end_refused : (k : ℕ) (r : Report) (t : Text) (n : ℕ) → closed (r, at k t) ≡ Err n → n ≡ k
end_refused k r t n e = tested (length t == 0) e
  where
    tested : (b : Bool) → ◌≡◌ {A = Result Report ℕ} ((if b then Ok t else Err k) >>= λ none. Ok r) (Err n) → n ≡ k
    tested true told = absurd (err_is_no_ok n r (sym told))
    tested false told = sym (err_is {A = Report} k n told)

more_refused : (k : ℕ) (r : Report) (line more : Text) → closed (r, at k (line ++ 10 ∷ more)) ≡ Err k
more_refused k r line more =
    let some : (length (line ++ 10 ∷ more) == 0) ≡ false = ne_eqb (length (line ++ 10 ∷ more)) 0 (λ e. omega (arith, e, length-append line (10 ∷ more))) in
    rw some refl

whole_text : (r : Report) → text_of_report r ≡ lines (lines_of r)
unfolding text_of_report
whole_text r = refl

not_begun : (front : List Text) (line : Text) (k : ℕ) → ((u : Text) → report_told (at 1 (lines (front ++ line ∷ []) ++ u)) ≡ Err k) → Begins (lines (front ++ line ∷ [])) → ⊥
not_begun front line k refused begun =
    err_is_no_ok k begun.0 (sym (refused begun.2) ∙ ap (λ (t : Text). report_told (at 1 t)) (sym begun.3) ∙ report_again begun.0 begun.1)

no_report : (t : Text) (n : ℕ) → report_told (at 1 t) ≡ Err n → (r : Report) → IsTellable r → t ≡ text_of_report r → ⊥
no_report t n e r is whole = err_is_no_ok n r (sym e ∙ ap (λ (u : Text). report_told (at 1 u)) whole ∙ report_again r is)

bad_in_parts : (t : Text) (n : ℕ) → report_told (at 1 t) ≡ Err n → Stopped lines_of IsTellable 1 (λ s. report_parts (at 1 s)) t → IsFirstBad t n
bad_in_parts t n e s =
    let close : Result (Report × Unread) ℕ → Result Report ℕ = λ r. r >>= closed in
    let same : 1 + length s.front ≡ n = err_is {A = Report} (1 + length s.front) n (sym (told_by_parts (at 1 t) ∙ ap close s.refused) ∙ e) in
    record {
      front = s.front;
      rest = s.rest;
      each = s.each;
      parts = s.parts;
      number = omega (arith, same);
      none = no_report t n e;
      begins = (s.whole, s.holds, lines s.behind, whole_text s.whole ∙ ap lines s.goes_on ∙ flat_map-append (λ l. l ++ 10 ∷ []) s.front s.behind);
      stops = λ line more lacks is. not_begun s.front line (1 + length s.front) (λ u. told_by_parts (at 1 (lines (s.front ++ line ∷ []) ++ u)) ∙ ap close (s.same line more u lacks is));
    }

bad_behind : (t : Text) (n : ℕ) → report_told (at 1 t) ≡ Err n → Took with_rest lines_of IsTellable 1 (λ s. report_parts (at 1 s)) t → IsFirstBad t n
bad_behind t n e a =
    let close : Result (Report × Unread) ℕ → Result Report ℕ = λ r. r >>= closed in
    let front : List Text = lines_of a.value in
    let k : ℕ = 1 + length front in
    let told : report_told (at 1 t) ≡ closed (a.value, at k a.rest) = told_by_parts (at 1 t) ∙ ap (λ (s : Text). close (report_parts (at 1 s))) a.parts ∙ ap close (a.same a.rest) in
    let same : n ≡ k = end_refused k a.value a.rest n (sym told ∙ e) in
    record {
      front = front;
      rest = a.rest;
      each = a.each;
      parts = a.parts;
      number = omega (arith, same);
      none = no_report t n e;
      begins = (a.value, a.holds, [], whole_text a.value ∙ sym (append-nil (lines front)));
      stops = λ line more lacks is. not_begun front line k (λ u. told_by_parts (at 1 (lines (front ++ line ∷ []) ++ u)) ∙ ap (λ (s : Text). close (report_parts (at 1 s))) (lines_both front (line ∷ []) u)
          ∙ ap close (a.same (lines (line ∷ []) ++ u)) ∙ ap (λ (s : Text). closed (a.value, at k s)) (first_line line [] u) ∙ more_refused k a.value line u);
    }

bad_by : (t : Text) (n : ℕ) → report_told (at 1 t) ≡ Err n → Reads with_rest lines_of IsTellable 1 (λ s. report_parts (at 1 s)) t → IsFirstBad t n
bad_by t n e (inl a) = bad_behind t n e a
bad_by t n e (inr s) = bad_in_parts t n e s

pub first_bad : (t : Text) (n : ℕ) → report_told (at 1 t) ≡ Err n → IsFirstBad t n
first_bad t n e = bad_by t n e (parts_read 1 t)

-- a call that answers what is told blames the first bad line
pub blames : (t : Text) (result : Result Report (Or ℕ)) → Gives (λ r. r) (λ n. n) result (report_told (at 1 t)) → IfErr result (Blames t)
blames t (Ok r) h = tt
blames t (Err or.Memory) h = tt
blames t (Err (or.Other n)) h = first_bad t n h
