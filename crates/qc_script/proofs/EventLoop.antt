-- The events of a journal, as a loop reads them, and the parts of a report, one after another.
use Rattle.std.proofs.Common.{◌≡◌, ℕ, List, [], Ok, refl}
use Rattle.std.specs.Prelude.{codes}
use Rattle.qc_types.specs.declared.memory.Or.{Or}
use Rattle.qc_types.specs.declared.memory.Or.TheVariants as or
use Rattle.qc_types.specs.declared.options.Options.{Options}
use Rattle.qc_model.specs.declared.events.Event.{Event}
use Rattle.qc_model.specs.declared.events.Counters.{Counters}
use Rattle.qc_model.specs.declared.reports.SessionReport.{SessionReport}
use Rattle.qc_model.specs.ReportText.{Text}
use Rattle.qc_script.specs.Told.{Unread, Behind, behind_event, times, event_at, events_at, told_at, behind_line, options_line, sessions_at, journal_at, counters_line, ended, report_told}
use Rattle.qc_script.proofs.Loops.{Fails}

pub events_done : (count : ℕ) (u : Unread) (es : List Event) (s : Behind) → times event_at count (behind_event 0 [] u) ≡ Ok (es, s) → events_at count u ≡ Ok (es, s.unread)
unfolding events_at
events_done count u es s e = rw e refl

pub events_fail : (e : Or ℕ) (count : ℕ) (u : Unread) → Fails e (times event_at count (behind_event 0 [] u)) → Fails e (events_at count u)
unfolding events_at
events_fail or.Memory count u h = tt
events_fail (or.Other n) count u h = rw h refl

-- ---- the parts of a report

module _ (u u1 u2 u3 u4 u5 u6 : Unread) (o : Options) (ss : List SessionReport) (es : List Event) (c : Counters) where
  pub counters_fail : (e : Or ℕ) → behind_line (codes "qcache report 1\n") u ≡ Ok u1 → told_at options_line u1 ≡ Ok (o, u2) → sessions_at u2 ≡ Ok (ss, u3) → journal_at u3 ≡ Ok (es, u4)
      → Fails e (told_at counters_line u4) → Fails e (report_told u)
  unfolding report_told
  counters_fail or.Memory a b d f h = tt
  counters_fail (or.Other n) a b d f h = rw (a, b, d, f, h) refl

  pub end_fails : (e : Or ℕ) → behind_line (codes "qcache report 1\n") u ≡ Ok u1 → told_at options_line u1 ≡ Ok (o, u2) → sessions_at u2 ≡ Ok (ss, u3) → journal_at u3 ≡ Ok (es, u4)
      → told_at counters_line u4 ≡ Ok (c, u5) → Fails e (behind_line (codes "end\n") u5) → Fails e (report_told u)
  unfolding report_told
  end_fails or.Memory a b d f g h = tt
  end_fails (or.Other n) a b d f g h = rw (a, b, d, f, g, h) refl

  pub rest_fails : (e : Or ℕ) → behind_line (codes "qcache report 1\n") u ≡ Ok u1 → told_at options_line u1 ≡ Ok (o, u2) → sessions_at u2 ≡ Ok (ss, u3) → journal_at u3 ≡ Ok (es, u4)
      → told_at counters_line u4 ≡ Ok (c, u5) → behind_line (codes "end\n") u5 ≡ Ok u6 → Fails e (ended u6) → Fails e (report_told u)
  unfolding report_told
  rest_fails or.Memory a b d f g i h = tt
  rest_fails (or.Other n) a b d f g i h = rw (a, b, d, f, g, i, h) refl

  pub parts_told : (t : Text) → behind_line (codes "qcache report 1\n") u ≡ Ok u1 → told_at options_line u1 ≡ Ok (o, u2) → sessions_at u2 ≡ Ok (ss, u3) → journal_at u3 ≡ Ok (es, u4)
      → told_at counters_line u4 ≡ Ok (c, u5) → behind_line (codes "end\n") u5 ≡ Ok u6 → ended u6 ≡ Ok t
      → report_told u ≡ Ok (record { options = o; sessions = ss; journal = es; counters = c })
  unfolding report_told
  parts_told t a b d f g i h = rw (a, b, d, f, g, i, h) refl
