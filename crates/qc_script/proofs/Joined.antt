-- Texts that are joined, one after another.
use Rattle.std.proofs.Common.{◌≡◌, ℕ, ◌+◌, ◌<◌, List, [], ◌∷◌, ◌++◌, map, take, get_or, length, ap, sym, ◌∙◌, append_assoc, append-nil, add-zero, suc, arith}
use Rattle.std.specs.Prelude.{codes, decimal}
use Rattle.std.specs.List.{join_with_byte}
use Rattle.std.proofs.lemmas.List.{take_more, length-take-le}
use Rattle.std.proofs.lemmas.List.Concat.{flat_map-append}
use Rattle.qc_model.specs.declared.events.Event.{Event}
use Rattle.qc_model.specs.declared.reports.Report.{Report}
use Rattle.qc_model.specs.ReportText.{Text, text_of_report, lines, fields, option_fields, counter_fields, event_lines, event_fields}
use Rattle.qc_script.specs.ReportParts.{each_after, spaced, sessions_part, journal_part}

-- a joined list is its first text, and then each other one with the byte before it
pub joined : (c : ℕ) (t : Text) (ts : List Text) → join_with_byte c (t ∷ ts) ≡ t ++ each_after c ts
joined c t [] = sym (append-nil t)
joined c t (u ∷ us) = ap (λ rest. t ++ (c ∷ rest)) (joined c u us)

-- the same of a list that is known by its first member and the others
pub joined_parts : {X : Type 0} (f : X → Text) (c : ℕ) (x : X) (xs ys : List X) → ys ≡ x ∷ xs → join_with_byte c (map f ys) ≡ f x ++ each_after c (map f xs)
joined_parts f c x xs ys e = rw e (joined c (f x) (map f xs))

-- fields that are put behind others
pub more_fields : (before : Text) (xs ys : List Text) → (before ++ spaced xs) ++ spaced ys ≡ before ++ spaced (xs ++ ys)
more_fields before xs ys = append_assoc before (spaced xs) (spaced ys) ∙ sym (ap (λ (t : Text). before ++ t) (flat_map-append (λ t. 32 ∷ t) xs ys))

pub event_lines-push : (n : ℕ) (es : List Event) (e : Event) → event_lines n (es ++ e ∷ []) ≡ event_lines n es ++ fields (decimal (n + length es) ∷ event_fields e) ∷ []
event_lines-push n [] e = rw add-zero
event_lines-push n (x ∷ es) e =
    let after : n + 1 + length es ≡ n + suc (length es) = omega arith in
    ap (λ (ls : List Text). fields (decimal n ∷ event_fields x) ∷ ls) (rw after at (event_lines-push (n + 1) es e))

-- the line of one event more
event_line_more : (es : List Event) (i : ℕ) (e : Event) → i < length es → e ≡ get_or es i e → lines (event_lines 1 (take (i + 1) es)) ≡ lines (event_lines 1 (take i es)) ++ lines (fields (decimal (i + 1) ∷ event_fields e) ∷ [])
event_line_more es i e h is =
    let earlier = take i es in
    let taken : take (i + 1) es ≡ earlier ++ e ∷ [] = take_more es i e h ∙ ap (λ x. earlier ++ x ∷ []) (sym is) in
    let numbered : 1 + length earlier ≡ i + 1 = omega (arith, length-take-le i es) in
    ap (λ x. lines (event_lines 1 x)) taken ∙ ap lines (rw numbered at (event_lines-push 1 earlier e)) ∙ flat_map-append (λ t. t ++ 10 ∷ []) (event_lines 1 earlier) _

-- the lines of a journal, one more put behind them
pub journal_more : (old before after : Text) (es : List Event) (i : ℕ) (e : Event) → before ≡ old ++ lines (event_lines 1 (take i es)) → i < length es → e ≡ get_or es i e → after ≡ before ++ lines (fields (decimal (i + 1) ∷ event_fields e) ∷ []) → after ≡ old ++ lines (event_lines 1 (take (i + 1) es))
journal_more old before after es i e was h is put =
    let line = event_line_more es i e h is in
    put ∙ rw (was, line) (append_assoc old (lines (event_lines 1 (take i es))) (lines (fields (decimal (i + 1) ∷ event_fields e) ∷ [])))

-- six parts, put one after another
all_lines : (a b c d e f : List Text) → ((((lines a ++ lines b) ++ lines c) ++ lines d) ++ lines e) ++ lines f ≡ lines (a ++ (b ++ (c ++ (d ++ (e ++ f)))))
all_lines a b c d e f = simp (flat_map-append, append_assoc)

-- the text of a report, put part by part
pub report_parts : (r : Report) (a b c d e f : Text) → a ≡ codes "qcache report 1\n" → b ≡ a ++ lines (fields (option_fields r.options) ∷ []) → c ≡ b ++ lines (sessions_part r.sessions) → d ≡ c ++ lines (journal_part r.journal) → e ≡ d ++ lines (fields (counter_fields r.counters) ∷ []) → f ≡ e ++ codes "end\n" → f ≡ text_of_report r
unfolding text_of_report
report_parts r a b c d e f a_is b_is c_is d_is e_is f_is =
    let whole = all_lines (codes "qcache report 1" ∷ []) (fields (option_fields r.options) ∷ []) (sessions_part r.sessions) (journal_part r.journal) (fields (counter_fields r.counters) ∷ []) (codes "end" ∷ []) in
    rw (f_is, e_is, d_is, c_is, b_is, a_is) whole
