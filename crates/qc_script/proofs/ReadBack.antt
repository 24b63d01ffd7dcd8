-- Texts that are read from their front, part by part.
use Rattle.std.proofs.Common.{◌≡◌, ℕ, ◌+◌, List, [], ◌∷◌, ◌++◌, map, length, refl, ap, sym, ◌∙◌, append_assoc, append-nil, arith}
use Rattle.std.specs.Prelude.{codes, decimal}
use Rattle.std.specs.List.{flat_map}
use Rattle.std.proofs.lemmas.List.{map-append}
use Rattle.std.proofs.lemmas.List.Concat.{flat_map-append}
use Rattle.qc_model.specs.declared.events.Event.{Event}
use Rattle.qc_model.specs.declared.reports.Report.{Report}
use Rattle.qc_model.specs.declared.reports.ReportLine.{ReportLine}
use Rattle.qc_model.specs.declared.reports.SessionReport.{SessionReport}
use Rattle.qc_model.specs.ReportText.{Text, text_of_report, lines, fields, line_text, session_lines, option_fields, counter_fields, event_lines, event_fields}
use Rattle.qc_script.specs.ReportParts.{sessions_part, journal_part}
use Rattle.qc_script.proofs.Joined.{event_lines-push, report_parts}

-- a piece more is read
pub next : (start before piece left behind : Text) → start ≡ before ++ left → left ≡ piece ++ behind → start ≡ (before ++ piece) ++ behind
next start before piece left behind so_far cut = so_far ∙ ap (λ (t : Text). before ++ t) cut ∙ sym (append_assoc before piece behind)

-- lines more are read
pub lines_more : (start left behind : Text) (ls more : List Text) → start ≡ lines ls ++ left → left ≡ lines more ++ behind → start ≡ lines (ls ++ more) ++ behind
lines_more start left behind ls more so_far cut =
    next start (lines ls) (lines more) left behind so_far cut ∙ ap (λ (t : Text). t ++ behind) (sym (flat_map-append (λ t. t ++ 10 ∷ []) ls more))

-- ---- lists that a line counts

pub counted : (start middle behind x : Text) (ls : List Text) → start ≡ lines (x ∷ []) ++ middle → middle ≡ lines ls ++ behind → start ≡ lines (x ∷ ls) ++ behind
counted start middle behind x ls so_far cut = lines_more start middle behind (x ∷ []) ls so_far cut

pub command_more : (start left line behind : Text) (cs : List ReportLine) (c : ReportLine) → start ≡ lines (map line_text cs) ++ left → left ≡ line ++ behind → line ≡ lines (line_text c ∷ [])
    → start ≡ lines (map line_text (cs ++ c ∷ [])) ++ behind
command_more start left line behind cs c so_far cut is =
    lines_more start left behind (map line_text cs) (line_text c ∷ []) so_far (cut ∙ ap (λ (t : Text). t ++ behind) is)
    ∙ ap (λ (ls : List Text). lines ls ++ behind) (sym (map-append line_text cs (c ∷ [])))

pub session_more : (start left behind : Text) (ss : List SessionReport) (s : SessionReport) → start ≡ lines (flat_map session_lines ss) ++ left → left ≡ lines (session_lines s) ++ behind
    → start ≡ lines (flat_map session_lines (ss ++ s ∷ [])) ++ behind
session_more start left behind ss s so_far cut =
    lines_more start left behind (flat_map session_lines ss) (session_lines s) so_far cut
    ∙ ap (λ (ls : List Text). lines ls ++ behind) (ap (λ (ls : List Text). flat_map session_lines ss ++ ls) (sym (append-nil (session_lines s))) ∙ sym (flat_map-append session_lines ss (s ∷ [])))

pub event_more : (start left behind : Text) (es : List Event) (e : Event) (n : ℕ) → start ≡ lines (event_lines 1 es) ++ left
    → left ≡ lines (fields (decimal (n + 1) ∷ event_fields e) ∷ []) ++ behind → length es ≡ n → start ≡ lines (event_lines 1 (es ++ e ∷ [])) ++ behind
event_more start left behind es e n so_far cut count =
    let number : n + 1 ≡ 1 + length es = omega (arith, count) in
    let told : left ≡ lines (fields (decimal (1 + length es) ∷ event_fields e) ∷ []) ++ behind =
    cut ∙ ap (λ (k : ℕ). lines (fields (decimal k ∷ event_fields e) ∷ []) ++ behind) number in
    lines_more start left behind (event_lines 1 es) (fields (decimal (1 + length es) ∷ event_fields e) ∷ []) so_far told
    ∙ ap (λ (ls : List Text). lines ls ++ behind) (sym (event_lines-push 1 es e))

-- ---- the whole

pub report_read : (r : Report) (start l1 l2 l3 l4 l5 l6 : Text) → start ≡ codes "qcache report 1\n" ++ l1 → l1 ≡ lines (fields (option_fields r.options) ∷ []) ++ l2
    → l2 ≡ lines (sessions_part r.sessions) ++ l3 → l3 ≡ lines (journal_part r.journal) ++ l4 → l4 ≡ lines (fields (counter_fields r.counters) ∷ []) ++ l5
    → l5 ≡ codes "end\n" ++ l6 → l6 ≡ [] → start ≡ text_of_report r
report_read r start l1 l2 l3 l4 l5 l6 e1 e2 e3 e4 e5 e6 done =
    let a : Text = codes "qcache report 1\n" in
    let o : Text = lines (fields (option_fields r.options) ∷ []) in
    let s : Text = lines (sessions_part r.sessions) in
    let j : Text = lines (journal_part r.journal) in
    let c : Text = lines (fields (counter_fields r.counters) ∷ []) in
    let e : Text = codes "end\n" in
    let n2 = next start a o l1 l2 e1 e2 in
    let n3 = next start (a ++ o) s l2 l3 n2 e3 in
    let n4 = next start ((a ++ o) ++ s) j l3 l4 n3 e4 in
    let n5 = next start (((a ++ o) ++ s) ++ j) c l4 l5 n4 e5 in
    let n6 = next start ((((a ++ o) ++ s) ++ j) ++ c) e l5 l6 n5 e6 in
    let whole : Text = (((((a ++ o) ++ s) ++ j) ++ c) ++ e) in
    n6 ∙ ap (λ (t : Text). whole ++ t) done ∙ append-nil whole
    ∙ report_parts r a (a ++ o) ((a ++ o) ++ s) (((a ++ o) ++ s) ++ j) ((((a ++ o) ++ s) ++ j) ++ c) whole refl refl refl refl refl refl
