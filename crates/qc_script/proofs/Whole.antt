-- The text of a report is read as that report.
use Rattle.std.proofs.Common.{◌≡◌, ℕ, zero, suc, ◌+◌, ◌^◌, ◌<◌, true, List, [], ◌∷◌, ◌++◌, map, length, take, drop, Result, Ok, Err, refl, sym, ap, ◌∙◌, append_assoc, append-nil, arith}
use Rattle.std.specs.Prelude.{codes, decimal}
use Rattle.std.specs.List.{AllByRecursion, flat_map}
use Rattle.std.proofs.lemmas.List.Concat.{flat_map-append}
use Rattle.std.proofs.lemmas.Slice.Eq.{bytes_eq-Decides}
use Rattle.qc_types.specs.declared.names.TableName.{TableName}
use Rattle.qc_types.specs.declared.names.Why.{Why}
use Rattle.qc_types.specs.declared.names.Why.TheVariants as why
use Rattle.qc_types.specs.declared.options.Options.{Options}
use Rattle.qc_model.specs.declared.events.Who.{Who}
use Rattle.qc_model.specs.declared.events.How.{How}
use Rattle.qc_model.specs.declared.events.How.TheVariants as how
use Rattle.qc_model.specs.declared.events.Reason.{Reason}
use Rattle.qc_model.specs.declared.events.Reason.TheVariants as reason
use Rattle.qc_model.specs.declared.events.GoneWhy.{GoneWhy}
use Rattle.qc_model.specs.declared.events.GoneWhy.TheVariants as gone
use Rattle.qc_model.specs.declared.events.Event.{Event}
use Rattle.qc_model.specs.declared.events.Event.TheVariants as event
use Rattle.qc_model.specs.declared.events.Counters.{Counters}
use Rattle.qc_model.specs.declared.reports.Word.{Word}
use Rattle.qc_model.specs.declared.reports.Word.TheVariants as word
use Rattle.qc_model.specs.declared.reports.Ending.{Ending}
use Rattle.qc_model.specs.declared.reports.Ending.TheVariants as ending
use Rattle.qc_model.specs.declared.reports.ReportLine.{ReportLine}
use Rattle.qc_model.specs.declared.reports.SessionReport.{SessionReport}
use Rattle.qc_model.specs.declared.reports.Report.{Report}
use Rattle.qc_model.specs.ReportText.{Text, text_of_report, lines, fields, listed, hex, table_text, op_text, key_text, who_fields, why_fields, reason_fields, how_fields, gone_fields, event_fields, event_lines, word_text, ending_fields, line_text, session_lines, option_fields, counter_fields}
use Rattle.qc_script.specs.declared.reports.sessions.Head.{Head}
use Rattle.qc_script.specs.ReportParts.{head_fields}
use Rattle.qc_script.specs.Told.{Told, ◌>>=◌, front, behind, number_told, number_below, bytes_told, KindsMade, event_told, behind_word, spelt, one_line, options_in, options_line, counters_in, counters_line, count_line, ending_told, head_in, head_line, word_told, command_in, command_line, event_line, Unread, line_to, line_at, told_at, behind_line, times, command_at, session_at, sessions_at, Behind, behind_event, event_at, events_at, journal_at, ended, report_told}
use Rattle.qc_script.specs.Tellable.{AreBytes, IsName, IsWho, IsWhy, IsReason, IsHow, IsGoneWhy, TellsEvent, made_by_event, TellEvents, IsEnding, IsLine, IsSession, AreOptions, AreCounters, IsTellable, IsU64}
use Rattle.qc_script.proofs.Cuts.{Lacks, AllLack, ArePlain, are_plain, lacks_both, lacks_joined, position_at, position_none, front_at, plain_any, plain_word, plain_lacks_low, plain_decimal, plain_hex}
use Rattle.qc_script.proofs.Numbers.{number_again, below_again, bytes_again}
use Rattle.qc_script.proofs.Rereads.{Cut, lacks_cut, word_cut, number_cut, table_lacks, tables_lack, key_plain}
use Rattle.qc_script.proofs.Events.{event_again, ops_lack}

-- ---- lines

abbrev pub at : ℕ → Text → Unread
at n left = record { number = n; left = left }

take_past : (t more : Text) → take (length t + 1) (t ++ 10 ∷ more) ≡ t ++ 10 ∷ []
take_past [] more = refl
take_past (b ∷ t) more =
    let e : suc (length t) + 1 ≡ suc (length t + 1) = omega arith in
    rw e (ap (λ (u : Text). b ∷ u) (take_past t more))

drop_past : (t more : Text) → drop (length t + 1) (t ++ 10 ∷ more) ≡ more
drop_past [] more = refl
drop_past (b ∷ t) more =
    let e : suc (length t) + 1 ≡ suc (length t + 1) = omega arith in
    rw e (drop_past t more)

pub line_again : (n : ℕ) (t more : Text) → Lacks 10 t → line_at (at n (t ++ 10 ∷ more)) ≡ Ok (t ++ 10 ∷ [], at (n + 1) more)
unfolding line_at
line_again n t more lacks =
    ap (line_to (at n (t ++ 10 ∷ more))) (position_at 10 t more lacks)
    ∙ ap (λ (p : Text × Text). Ok (p.0, at (n + 1) p.1)) (pair (take_past t more) (drop_past t more))
  where
    pair : {x x2 y y2 : Text} → x ≡ x2 → y ≡ y2 → ◌≡◌ {A = Text × Text} (x, y) (x2, y2)
    pair e f = rw (e, f) refl

-- a text without LF has no line
pub line_lacks : (n : ℕ) (t : Text) → Lacks 10 t → line_at (at n t) ≡ Err n
unfolding line_at
line_lacks n t lacks = ap (line_to (at n t)) (position_none 10 t lacks)

pub told_from : {A : Type 0} (tells : Text → Told A) (n : ℕ) (t more : Text) (x : A) → Lacks 10 t → tells (t ++ 10 ∷ []) ≡ Ok x → told_at tells (at n (t ++ 10 ∷ more)) ≡ Ok (x, at (n + 1) more)
told_from tells n t more x lacks e = rw (line_again n t more lacks, e) refl

certain_again : (n : ℕ) (t more : Text) → Lacks 10 t → behind_line (t ++ 10 ∷ []) (at n (t ++ 10 ∷ more)) ≡ Ok (at (n + 1) more)
unfolding behind_line
certain_again n t more lacks = rw (line_again n t more lacks, (bytes_eq-Decides (t ++ 10 ∷ []) (t ++ 10 ∷ [])).1 refl) refl

spelt_again : {A : Type 0} (line : Text) (text : A → Text) (x : A) → line ≡ text x → spelt line text x ≡ Ok x
spelt_again line text x e = rw ((bytes_eq-Decides line (text x)).1 e) refl

-- a line of fields, of which the ones behind the first tell x
line_from : {A : Type 0} (inner : Text → Told A) (text : A → List Text) (w : Text) (ts : List Text) (x : A) → text x ≡ w ∷ ts → Lacks 32 w → AllLack 10 (w ∷ ts) → inner (fields ts) ≡ Ok x
    → (inner (behind_word (fields (w ∷ ts) ++ 10 ∷ [])) >>= spelt (fields (w ∷ ts) ++ 10 ∷ []) (λ y. one_line (text y))) ≡ Ok x
line_from {A} inner text w ts x is lacks all tells =
    let line : Text = fields (w ∷ ts) ++ 10 ∷ [] in
    let whole : front 10 line ≡ fields (w ∷ ts) = front_at 10 (fields (w ∷ ts)) [] (lacks_joined 10 32 (w ∷ ts) refl all) in
    let cut : behind_word line ≡ fields ts = ap (behind 32) whole ∙ (lacks_cut w ts lacks).behind in
    let same : line ≡ one_line (text x) = sym (ap one_line is ∙ append-nil line) in
    ap (λ (t : Text). inner t >>= spelt line (λ y. one_line (text y))) cut
    ∙ ap (λ (r : Told A). r >>= spelt line (λ y. one_line (text y))) tells
    ∙ spelt_again line (λ y. one_line (text y)) x same

-- ---- fields without LF

plain_lf : (t : Text) → ArePlain t → Lacks 10 t
plain_lf t plain = plain_lacks_low 10 (omega arith) t plain

word_lf : (t : Text) → are_plain t ≡ true → Lacks 10 t
word_lf t plain = plain_lf t (plain_word t plain)

number_lf : (n : ℕ) → IsU64 n → Lacks 10 (decimal n)
number_lf n lt = plain_lf (decimal n) (plain_decimal n lt)

number32_lf : (n : ℕ) → n < 2 ^ 32 → Lacks 10 (decimal n)
number32_lf n lt = number_lf n (omega arith)

hex_lf : (t : Text) → AreBytes t → Lacks 10 (hex t)
hex_lf t all = plain_lf (hex t) (plain_hex t all)

table_lf : (t : TableName) → IsName t → Lacks 10 (table_text t)
table_lf t is = table_lacks 10 (omega arith) t is

pub all_both : (xs ys : List Text) → AllLack 10 xs → AllLack 10 ys → AllLack 10 (xs ++ ys)
all_both [] ys hx hy = hy
all_both (x ∷ xs) ys hx hy = (hx.0, all_both xs ys hx.1 hy)

who_lf : (w : Who) → IsWho w → AllLack 10 (who_fields w)
who_lf w is = (number_lf w.session (omega (arith, is.session)), (number_lf w.number is.number, tt))

why_lf : (y : Why) → IsWhy y → AllLack 10 (why_fields y)
why_lf why.Locking is = (word_lf (codes "locking") refl, tt)
why_lf why.NoTables is = (word_lf (codes "notables") refl, tt)
why_lf (why.SystemTable t) is = (word_lf (codes "systemtable") refl, (table_lf t is, tt))
why_lf (why.Function name) is = (word_lf (codes "function") refl, (hex_lf name is, tt))

reason_lf : (y : Reason) → IsReason y → AllLack 10 (reason_fields y)
reason_lf (reason.Error code) is = (word_lf (codes "error") refl, (number_lf code (omega (arith, is)), tt))
reason_lf reason.Off is = (word_lf (codes "off") refl, tt)
reason_lf reason.NotAsked is = (word_lf (codes "notasked") refl, tt)
reason_lf (reason.Rule y) is = why_lf y is
reason_lf (reason.Written t) is = (word_lf (codes "written") refl, (table_lf t is, tt))
reason_lf (reason.NotVisible t changed snapshot) is = (word_lf (codes "notvisible") refl, (table_lf t is.0, (number_lf changed is.1, (number_lf snapshot is.2, tt))))
reason_lf (reason.Rival serial) is = (word_lf (codes "rival") refl, (number_lf serial is, tt))
reason_lf (reason.NoRoom need largest) is = (word_lf (codes "noroom") refl, (number32_lf need is.0, (number32_lf largest is.1, tt)))

how_lf : (h : How) → IsHow h → AllLack 10 (how_fields h)
how_lf (how.Hit serial) is = (word_lf (codes "hit") refl, (number_lf serial is, tt))
how_lf (how.Start serial key tables) is =
    (word_lf (codes "start") refl, (number_lf serial is.0, (hex_lf key is.1, (lacks_joined 10 44 (map table_text tables) refl (tables_lack 10 (omega arith) tables is.2), tt))))
how_lf (how.Plain y) is = (word_lf (codes "plain") refl, reason_lf y is)
how_lf how.Other is = (word_lf (codes "other") refl, tt)
how_lf (how.Status x) is =
    (word_lf (codes "status") refl, (number32_lf x.blocks is.blocks, (number32_lf x.free_blocks is.free_blocks, (number_lf _ (omega (arith, is.free_words)), tt))))
how_lf (how.Conflict t key by) is = (word_lf (codes "conflict") refl, (table_lf t is.0, (plain_lf (key_text key) (key_plain key is.1), (number_lf by is.2, tt))))

gone_lf : (y : GoneWhy) → IsGoneWhy y → AllLack 10 (gone_fields y)
gone_lf (gone.TooLarge size limit) is = (word_lf (codes "toolarge") refl, (number_lf size is.0, (number32_lf limit is.1, tt)))
gone_lf (gone.NoRoom need largest) is = (word_lf (codes "noroom") refl, (number32_lf need is.0, (number32_lf largest is.1, tt)))
gone_lf gone.Ended is = (word_lf (codes "ended") refl, tt)

event_lf : (made : KindsMade) (e : Event) → TellsEvent made e → AllLack 10 (event_fields e)
event_lf made (event.Run w h) is = (word_lf (codes "run") refl, all_both (who_fields w) (how_fields h) (who_lf w is.0) (how_lf h is.1))
event_lf made (event.Commit w os) is = (
  word_lf (codes "commit") refl,
  all_both (who_fields w) (decimal (length os) ∷ listed (map op_text os) ∷ []) (who_lf w is.0)
      (plain_lf (decimal (length os)) (plain_any (length os)), (lacks_joined 10 44 (map op_text os) refl (ops_lack 10 (omega arith) made os is.1), tt)),
)
event_lf made (event.Done serial) is = (word_lf (codes "done") refl, (number_lf serial is, tt))
event_lf made (event.Gone serial y) is = (word_lf (codes "gone") refl, (number_lf serial is.0, gone_lf y is.1))
event_lf made (event.Prune serial need largest) is = (word_lf (codes "prune") refl, (number_lf serial is.0, (number32_lf need is.1, (number32_lf largest is.2, tt))))
event_lf made (event.Reset w) is = (word_lf (codes "reset") refl, who_lf w is)
event_lf made (event.Flush w) is = (word_lf (codes "flush") refl, who_lf w is)

ending_lf : (e : Ending) → IsEnding e → AllLack 10 (ending_fields e)
ending_lf ending.Quit is = (word_lf (codes "quit") refl, tt)
ending_lf ending.Input is = (word_lf (codes "input") refl, tt)
ending_lf (ending.Cut size) is = (word_lf (codes "cut") refl, (number32_lf size is, tt))
ending_lf (ending.TooLong size) is = (word_lf (codes "toolong") refl, (number32_lf size is, tt))
ending_lf (ending.BadSequence found wanted) is = (word_lf (codes "badsequence") refl, (number_lf found (omega (arith, is.0)), (number_lf wanted (omega (arith, is.1)), tt)))

below_32 : (n : ℕ) → n < 2 ^ 32 → number_below (2 ^ 32) (decimal n) ≡ Ok n
below_32 n lt = below_again (2 ^ 32) n (omega arith) lt

below_8 : (n : ℕ) → n < 2 ^ 8 → number_below (2 ^ 8) (decimal n) ≡ Ok n
below_8 n lt = below_again (2 ^ 8) n (omega arith) lt

narrow : (n : ℕ) → n < 2 ^ 32 → IsU64 n
narrow n lt = omega arith

-- ---- options, counters and counts

options_from : (t a u b v c w : Text) (o : Options) → Cut t a u → Cut u b v → Cut v c w → number_below (2 ^ 32) a ≡ Ok o.size → number_below (2 ^ 32) b ≡ Ok o.limit → number_below (2 ^ 32) c ≡ Ok o.unit
    → number_below (2 ^ 8) w ≡ Ok o.kind → options_in t ≡ Ok o
unfolding options_in
options_from t a u b v c w o p q r d e f g = rw (p.front, p.behind, q.front, q.behind, r.front, r.behind, d, e, f, g) refl

options_inside : (o : Options) → AreOptions o → options_in (fields (decimal o.size ∷ decimal o.limit ∷ decimal o.unit ∷ decimal o.kind ∷ [])) ≡ Ok o
options_inside o is =
    options_from _ _ _ _ _ _ _ o (number_cut o.size (decimal o.limit ∷ decimal o.unit ∷ decimal o.kind ∷ []) (narrow o.size is.size)) (number_cut o.limit (decimal o.unit ∷ decimal o.kind ∷ []) (narrow o.limit is.limit))
    (number_cut o.unit (decimal o.kind ∷ []) (narrow o.unit is.unit)) (below_32 o.size is.size) (below_32 o.limit is.limit) (below_32 o.unit is.unit) (below_8 o.kind is.kind)

options_again : (n : ℕ) (o : Options) (more : Text) → AreOptions o → told_at options_line (at n (fields (option_fields o) ++ 10 ∷ more)) ≡ Ok (o, at (n + 1) more)
unfolding options_line
options_again n o more is =
    let ts : List Text = decimal o.size ∷ decimal o.limit ∷ decimal o.unit ∷ decimal o.kind ∷ [] in
    let all : AllLack 10 (option_fields o) = (word_lf (codes "options") refl, (number32_lf o.size is.size, (number32_lf o.limit is.limit, (number32_lf o.unit is.unit, (number_lf o.kind (omega (arith, is.kind)), tt))))) in
    told_from options_line n (fields (option_fields o)) more o (lacks_joined 10 32 (option_fields o) refl all)
    (line_from options_in option_fields (codes "options") ts o refl (plain_lacks_low 32 (omega arith) (codes "options") (plain_word (codes "options") refl)) all (options_inside o is))

counters_from : (t a u b v c w d x e y : Text) (o : Counters) → Cut t a u → Cut u b v → Cut v c w → Cut w d x → Cut x e y → number_told a ≡ Ok o.com_select → number_told b ≡ Ok o.hits → number_told c ≡ Ok o.inserts
    → number_told d ≡ Ok o.not_cached → number_told e ≡ Ok o.lowmem_prunes → number_told y ≡ Ok o.queries_in_cache → counters_in t ≡ Ok o
unfolding counters_in
counters_from t a u b v c w d x e y o p q r s k f g h i j l =
    rw (p.front, p.behind, q.front, q.behind, r.front, r.behind, s.front, s.behind, k.front, k.behind, f, g, h, i, j, l) refl

counters_again : (n : ℕ) (o : Counters) (more : Text) → AreCounters o → told_at counters_line (at n (fields (counter_fields o) ++ 10 ∷ more)) ≡ Ok (o, at (n + 1) more)
unfolding counters_line
counters_again n o more is =
    let t5 : List Text = decimal o.queries_in_cache ∷ [] in
    let t4 : List Text = decimal o.lowmem_prunes ∷ t5 in
    let t3 : List Text = decimal o.not_cached ∷ t4 in
    let t2 : List Text = decimal o.inserts ∷ t3 in
    let t1 : List Text = decimal o.hits ∷ t2 in
    let ts : List Text = decimal o.com_select ∷ t1 in
    let all : AllLack 10 (counter_fields o) = (word_lf (codes "counters") refl, (number_lf o.com_select is.com_select, (number_lf o.hits is.hits, (number_lf o.inserts is.inserts, (number_lf o.not_cached is.not_cached, (number_lf o.lowmem_prunes is.lowmem_prunes, (number_lf o.queries_in_cache is.queries_in_cache, tt))))))) in
    told_from counters_line n (fields (counter_fields o)) more o (lacks_joined 10 32 (counter_fields o) refl all)
    (line_from counters_in counter_fields (codes "counters") ts o refl (plain_lacks_low 32 (omega arith) (codes "counters") (plain_word (codes "counters") refl)) all
    (counters_from _ _ _ _ _ _ _ _ _ _ _ o (number_cut o.com_select t1 is.com_select) (number_cut o.hits t2 is.hits) (number_cut o.inserts t3 is.inserts) (number_cut o.not_cached t4 is.not_cached) (number_cut o.lowmem_prunes t5 is.lowmem_prunes)
    (number_again o.com_select is.com_select) (number_again o.hits is.hits) (number_again o.inserts is.inserts) (number_again o.not_cached is.not_cached) (number_again o.lowmem_prunes is.lowmem_prunes) (number_again o.queries_in_cache is.queries_in_cache)))

count_again : (w : Text) (n count : ℕ) (more : Text) → are_plain w ≡ true → IsU64 count → told_at (count_line w) (at n (fields (w ∷ decimal count ∷ []) ++ 10 ∷ more)) ≡ Ok (count, at (n + 1) more)
unfolding count_line
count_again w n count more plain is =
    let all : AllLack 10 (w ∷ decimal count ∷ []) = (word_lf w plain, (number_lf count is, tt)) in
    told_from (count_line w) n (fields (w ∷ decimal count ∷ [])) more count (lacks_joined 10 32 (w ∷ decimal count ∷ []) refl all)
    (line_from number_told (λ k. w ∷ decimal k ∷ []) w (decimal count ∷ []) count refl (plain_lacks_low 32 (omega arith) w (plain_word w plain)) all (number_again count is))

-- ---- sessions

times_more : {A S : Type 0} (read : S → Result (A × S) ℕ) (k : ℕ) (s next last : S) (x : A) (xs : List A) → read s ≡ Ok (x, next) → times read k next ≡ Ok (xs, last) → times read (suc k) s ≡ Ok (x ∷ xs, last)
unfolding times
times_more read k s next last x xs e f = rw (e, f) refl

times_none : {A S : Type 0} (read : S → Result (A × S) ℕ) (s : S) → times read zero s ≡ Ok ([], s)
unfolding times
times_none read s = refl

-- a first line, and those behind it
pub first_line : (t : Text) (ls : List Text) (more : Text) → lines (t ∷ ls) ++ more ≡ t ++ 10 ∷ (lines ls ++ more)
first_line t ls more = append_assoc (t ++ 10 ∷ []) (lines ls) more ∙ append_assoc t (10 ∷ []) (lines ls ++ more)

word_again : (w : Word) → word_told (word_text w) ≡ Ok w
unfolding word_told
word_again word.Hit = refl
word_again word.Start = refl
word_again word.Plain = refl
word_again word.Other = refl
word_again word.Local = refl

word_plain : (w : Word) → are_plain (word_text w) ≡ true
word_plain word.Hit = refl
word_plain word.Start = refl
word_plain word.Plain = refl
word_plain word.Other = refl
word_plain word.Local = refl

command_from : (t a u b v : Text) (c : ReportLine) → Cut t a u → Cut u b v → number_told a ≡ Ok c.place → word_told b ≡ Ok c.how → bytes_told v ≡ Ok c.reply → command_in t ≡ Ok c
unfolding command_in
command_from t a u b v c p q d e f = rw (p.front, p.behind, q.front, q.behind, d, e, f) refl

command_told : (c : ReportLine) (line : Text) → front 10 line ≡ line_text c → command_in (line_text c) ≡ Ok c → line ≡ lines (line_text c ∷ []) → command_line line ≡ Ok c
unfolding command_line
command_told c line whole inside same =
    ap (λ (t : Text). command_in t >>= spelt line (λ d. lines (line_text d ∷ []))) whole
    ∙ ap (λ (r : Told ReportLine). r >>= spelt line (λ d. lines (line_text d ∷ []))) inside
    ∙ spelt_again line (λ d. lines (line_text d ∷ [])) c same

command_again : (n : ℕ) (c : ReportLine) (more : Text) → IsLine c → command_at (at n (line_text c ++ 10 ∷ more)) ≡ Ok (c, at (n + 1) more)
command_again n c more is =
    let t2 : List Text = hex c.reply ∷ [] in
    let t1 : List Text = word_text c.how ∷ t2 in
    let line : Text = line_text c ++ 10 ∷ [] in
    let all : AllLack 10 (decimal c.place ∷ t1) = (number_lf c.place is.place, (word_lf (word_text c.how) (word_plain c.how), (hex_lf c.reply is.reply, tt))) in
    let lacks : Lacks 10 (line_text c) = lacks_joined 10 32 (decimal c.place ∷ t1) refl all in
    let whole : front 10 line ≡ line_text c = front_at 10 (line_text c) [] lacks in
    let inside : command_in (line_text c) ≡ Ok c =
    command_from _ _ _ _ _ c (number_cut c.place t1 is.place) (word_cut (word_text c.how) t2 (word_plain c.how)) (number_again c.place is.place) (word_again c.how) (bytes_again c.reply is.reply) in
    let same : line ≡ lines (line_text c ∷ []) = sym (append-nil line) in
    told_from command_line n (line_text c) more c lacks (command_told c line whole inside same)

commands_again : (cs : List ReportLine) (n : ℕ) (more : Text) → AllByRecursion IsLine cs → (m : ℕ) × (times command_at (length cs) (at n (lines (map line_text cs) ++ more)) ≡ Ok (cs, at m more))
commands_again [] n more all = (n, times_none command_at (at n more))
commands_again (c ∷ cs) n more all =
    let later = commands_again cs (n + 1) more all.1 in
    let rest : Text = lines (map line_text cs) ++ more in (
      later.0,
      ap (λ (t : Text). times command_at (suc (length cs)) (at n t)) (first_line (line_text c) (map line_text cs) more)
          ∙ times_more command_at (length cs) (at n (line_text c ++ 10 ∷ rest)) (at (n + 1) rest) (at later.0 more) c cs (command_again n c rest all.0) later.1,
    )

module _ (t u : Text) where
  quit_from : Cut t (codes "quit") u → ending_told t ≡ Ok ending.Quit
  unfolding ending_told
  quit_from c = rw c.front refl

  input_from : Cut t (codes "input") u → ending_told t ≡ Ok ending.Input
  unfolding ending_told
  input_from c = rw c.front refl

  cut_from : (n : ℕ) → Cut t (codes "cut") u → number_below (2 ^ 32) u ≡ Ok n → ending_told t ≡ Ok (ending.Cut n)
  unfolding ending_told
  cut_from n c e = rw (c.front, c.behind, e) refl

  toolong_from : (n : ℕ) → Cut t (codes "toolong") u → number_below (2 ^ 32) u ≡ Ok n → ending_told t ≡ Ok (ending.TooLong n)
  unfolding ending_told
  toolong_from n c e = rw (c.front, c.behind, e) refl

  badsequence_from : (a v : Text) (n m : ℕ) → Cut t (codes "badsequence") u → Cut u a v → number_below (2 ^ 8) a ≡ Ok n → number_below (2 ^ 8) v ≡ Ok m → ending_told t ≡ Ok (ending.BadSequence n m)
  unfolding ending_told
  badsequence_from a v n m c d e f = rw (c.front, c.behind, d.front, d.behind, e, f) refl

ending_again : (e : Ending) → IsEnding e → ending_told (fields (ending_fields e)) ≡ Ok e
ending_again ending.Quit is = quit_from _ _ (word_cut (codes "quit") [] refl)
ending_again ending.Input is = input_from _ _ (word_cut (codes "input") [] refl)
ending_again (ending.Cut size) is = cut_from _ _ size (word_cut (codes "cut") (decimal size ∷ []) refl) (below_32 size is)
ending_again (ending.TooLong size) is = toolong_from _ _ size (word_cut (codes "toolong") (decimal size ∷ []) refl) (below_32 size is)
ending_again (ending.BadSequence found wanted) is =
    badsequence_from _ _ _ _ found wanted (word_cut (codes "badsequence") (decimal found ∷ decimal wanted ∷ []) refl) (number_cut found (decimal wanted ∷ []) (omega (arith, is.0))) (below_8 found is.0) (below_8 wanted is.1)

abbrev head_of : SessionReport → Head
head_of s = record { session = s.session; commands = length s.lines; ending = s.ending }

head_from : (t a u b v c w d x : Text) (h : Head) → Cut t a u → Cut u b v → Cut v c w → Cut w d x → number_below (2 ^ 8) a ≡ Ok h.session → number_told c ≡ Ok h.commands → ending_told x ≡ Ok h.ending → head_in t ≡ Ok h
unfolding head_in
head_from t a u b v c w d x h p q r s e f g = rw (p.front, p.behind, q.behind, r.front, r.behind, s.behind, e, f, g) refl

head_again : (n : ℕ) (s : SessionReport) (more : Text) → IsSession s → told_at head_line (at n (fields (codes "session" ∷ head_fields (head_of s)) ++ 10 ∷ more)) ≡ Ok (head_of s, at (n + 1) more)
unfolding head_line
head_again n s more is =
    let h : Head = head_of s in
    let t4 : List Text = ending_fields s.ending in
    let t3 : List Text = codes "end" ∷ t4 in
    let t2 : List Text = decimal (length s.lines) ∷ t3 in
    let t1 : List Text = codes "commands" ∷ t2 in
    let wide : IsU64 s.session = omega (arith, is.session) in
    let all : AllLack 10 (codes "session" ∷ head_fields h) = (word_lf (codes "session") refl, (number_lf s.session wide, (word_lf (codes "commands") refl, (number_lf (length s.lines) is.count, (word_lf (codes "end") refl, ending_lf s.ending is.ending))))) in
    told_from head_line n (fields (codes "session" ∷ head_fields h)) more h (lacks_joined 10 32 (codes "session" ∷ head_fields h) refl all)
    (line_from head_in (λ x. codes "session" ∷ head_fields x) (codes "session") (head_fields h) h refl (plain_lacks_low 32 (omega arith) (codes "session") (plain_word (codes "session") refl)) all
    (head_from _ _ _ _ _ _ _ _ _ h (number_cut s.session t1 wide) (word_cut (codes "commands") t2 refl) (number_cut (length s.lines) t3 is.count) (word_cut (codes "end") t4 refl)
    (below_8 s.session is.session) (number_again (length s.lines) is.count) (ending_again s.ending is.ending)))

session_from : (u u1 u2 : Unread) (s : SessionReport) → told_at head_line u ≡ Ok (head_of s, u1) → times command_at (length s.lines) u1 ≡ Ok (s.lines, u2) → session_at u ≡ Ok (s, u2)
unfolding session_at
session_from u u1 u2 s e f = rw (e, f) refl

session_again : (s : SessionReport) (n : ℕ) (more : Text) → IsSession s → (m : ℕ) × (session_at (at n (lines (session_lines s) ++ more)) ≡ Ok (s, at m more))
session_again s n more is =
    let commands = commands_again s.lines (n + 1) more is.each in
    let head : Text = fields (codes "session" ∷ head_fields (head_of s)) in
    let rest : Text = lines (map line_text s.lines) ++ more in (
      commands.0,
      ap (λ (t : Text). session_at (at n t)) (first_line head (map line_text s.lines) more)
          ∙ session_from (at n (head ++ 10 ∷ rest)) (at (n + 1) rest) (at commands.0 more) s (head_again n s rest is) commands.1,
    )

more_lines : (ls ks : List Text) (more : Text) → lines (ls ++ ks) ++ more ≡ lines ls ++ (lines ks ++ more)
more_lines ls ks more = ap (λ (t : Text). t ++ more) (flat_map-append (λ t. t ++ 10 ∷ []) ls ks) ∙ append_assoc (lines ls) (lines ks) more

sessions_read : (ss : List SessionReport) (n : ℕ) (more : Text) → AllByRecursion IsSession ss → (m : ℕ) × (times session_at (length ss) (at n (lines (flat_map session_lines ss) ++ more)) ≡ Ok (ss, at m more))
sessions_read [] n more all = (n, times_none session_at (at n more))
sessions_read (s ∷ ss) n more all =
    let rest : Text = lines (flat_map session_lines ss) ++ more in
    let first = session_again s n rest all.0 in
    let later = sessions_read ss first.0 more all.1 in (
      later.0,
      ap (λ (t : Text). times session_at (suc (length ss)) (at n t)) (more_lines (session_lines s) (flat_map session_lines ss) more)
          ∙ times_more session_at (length ss) (at n (lines (session_lines s) ++ rest)) (at first.0 rest) (at later.0 more) s ss first.1 later.1,
    )

sessions_from : (u u1 u2 : Unread) (ss : List SessionReport) → told_at (count_line (codes "sessions")) u ≡ Ok (length ss, u1) → times session_at (length ss) u1 ≡ Ok (ss, u2) → sessions_at u ≡ Ok (ss, u2)
unfolding sessions_at
sessions_from u u1 u2 ss e f = rw (e, f) refl

abbrev counted_line : Text → ℕ → Text
counted_line w count = fields (w ∷ decimal count ∷ [])

sessions_again : (ss : List SessionReport) (n : ℕ) (more : Text) → IsU64 (length ss) → AllByRecursion IsSession ss
    → (m : ℕ) × (sessions_at (at n (counted_line (codes "sessions") (length ss) ++ 10 ∷ (lines (flat_map session_lines ss) ++ more))) ≡ Ok (ss, at m more))
sessions_again ss n more count all =
    let rest : Text = lines (flat_map session_lines ss) ++ more in
    let read = sessions_read ss (n + 1) more all in
    (read.0, sessions_from (at n (counted_line (codes "sessions") (length ss) ++ 10 ∷ rest)) (at (n + 1) rest) (at read.0 more) ss (count_again (codes "sessions") n (length ss) rest refl count) read.1)

-- ---- the journal

event_from : (made after : KindsMade) (k n : ℕ) (t more : Text) (e : Event) → Lacks 10 t → event_line made (k + 1) (t ++ 10 ∷ []) ≡ Ok (e, after)
    → event_at (behind_event k made (at n (t ++ 10 ∷ more))) ≡ Ok (e, behind_event (k + 1) after (at (n + 1) more))
unfolding event_at
event_from made after k n t more e lacks h = rw (line_again n t more lacks, h) refl

event_line_told : (made : KindsMade) (k : ℕ) (e : Event) → TellsEvent made e → k + 1 < 2 ^ 64 → AllLack 10 (decimal (k + 1) ∷ event_fields e)
    → event_line made (k + 1) (fields (decimal (k + 1) ∷ event_fields e) ++ 10 ∷ []) ≡ Ok (e, made_by_event e made)
unfolding event_line
event_line_told made k e is lt all =
    line_from (event_told made) (λ (p : Event × KindsMade). decimal (k + 1) ∷ event_fields p.0) (decimal (k + 1)) (event_fields e) (e, made_by_event e made) refl
    (plain_lacks_low 32 (omega arith) (decimal (k + 1)) (plain_decimal (k + 1) lt)) all (event_again made e is)

event_read : (made : KindsMade) (k n : ℕ) (e : Event) (more : Text) → TellsEvent made e → k + 1 < 2 ^ 64
    → event_at (behind_event k made (at n (fields (decimal (k + 1) ∷ event_fields e) ++ 10 ∷ more))) ≡ Ok (e, behind_event (k + 1) (made_by_event e made) (at (n + 1) more))
event_read made k n e more is lt =
    let w : Text = decimal (k + 1) in
    let all : AllLack 10 (w ∷ event_fields e) = (number_lf (k + 1) lt, event_lf made e is) in
    event_from made (made_by_event e made) k n (fields (w ∷ event_fields e)) more e (lacks_joined 10 32 (w ∷ event_fields e) refl all) (event_line_told made k e is lt all)

events_read : (es : List Event) (made : KindsMade) (k n : ℕ) (more : Text) → k + length es < 2 ^ 64 → TellEvents made es
    → (s : Behind) × (times event_at (length es) (behind_event k made (at n (lines (event_lines (k + 1) es) ++ more))) ≡ Ok (es, s)) × (m : ℕ) × (s.unread ≡ at m more)
events_read [] made k n more lt all = (behind_event k made (at n more), times_none event_at (behind_event k made (at n more)), n, refl)
events_read (e ∷ es) made k n more lt all =
    let after : KindsMade = made_by_event e made in
    let rest : Text = lines (event_lines (k + 1 + 1) es) ++ more in
    let line : Text = fields (decimal (k + 1) ∷ event_fields e) in
    let later = events_read es after (k + 1) (n + 1) more (omega (arith, lt)) all.1 in (
      later.0,
      ap (λ (t : Text). times event_at (suc (length es)) (behind_event k made (at n t))) (first_line line (event_lines (k + 1 + 1) es) more)
          ∙ times_more event_at (length es) (behind_event k made (at n (line ++ 10 ∷ rest))) (behind_event (k + 1) after (at (n + 1) rest)) later.0 e es (event_read made k n e rest all.0 (omega (arith, lt))) later.1,
      later.2,
      later.3,
    )

journal_from : (u u1 u2 : Unread) (es : List Event) (s : Behind) → told_at (count_line (codes "journal")) u ≡ Ok (length es, u1) → times event_at (length es) (behind_event 0 [] u1) ≡ Ok (es, s) → s.unread ≡ u2 → journal_at u ≡ Ok (es, u2)
unfolding journal_at events_at
journal_from u u1 u2 es s e f g = rw (e, f, g) refl

journal_again : (es : List Event) (n : ℕ) (more : Text) → IsU64 (length es) → TellEvents [] es
    → (m : ℕ) × (journal_at (at n (counted_line (codes "journal") (length es) ++ 10 ∷ (lines (event_lines 1 es) ++ more))) ≡ Ok (es, at m more))
journal_again es n more count all =
    let rest : Text = lines (event_lines 1 es) ++ more in
    let read = events_read es [] 0 (n + 1) more (omega (arith, count)) all in
    (read.2, journal_from (at n (counted_line (codes "journal") (length es) ++ 10 ∷ rest)) (at (n + 1) rest) (at read.2 more) es read.0 (count_again (codes "journal") n (length es) rest refl count) read.1 read.3)

-- ---- the whole

report_from : (u u1 u2 u3 u4 u5 u6 : Unread) (r : Report) → behind_line (codes "qcache report 1\n") u ≡ Ok u1 → told_at options_line u1 ≡ Ok (r.options, u2) → sessions_at u2 ≡ Ok (r.sessions, u3) → journal_at u3 ≡ Ok (r.journal, u4)
    → told_at counters_line u4 ≡ Ok (r.counters, u5) → behind_line (codes "end\n") u5 ≡ Ok u6 → ended u6 ≡ Ok [] → report_told u ≡ Ok r
unfolding report_told
report_from u u1 u2 u3 u4 u5 u6 r a b c d e f g = rw (a, b, c, d, e, f, g) refl

-- the text of a report, line by line
text_by_lines : (r : Report) → text_of_report r ≡ codes "qcache report 1" ++ 10 ∷ (fields (option_fields r.options) ++ 10 ∷ (counted_line (codes "sessions") (length r.sessions) ++ 10 ∷ (lines (flat_map session_lines r.sessions)
    ++ (counted_line (codes "journal") (length r.journal) ++ 10 ∷ (lines (event_lines 1 r.journal) ++ (fields (counter_fields r.counters) ++ 10 ∷ (codes "end" ++ 10 ∷ [])))))))
unfolding text_of_report
text_by_lines r =
    let a : Text = codes "qcache report 1" in
    let o : Text = fields (option_fields r.options) in
    let s : Text = counted_line (codes "sessions") (length r.sessions) in
    let j : Text = counted_line (codes "journal") (length r.journal) in
    let c : Text = fields (counter_fields r.counters) in
    let ls : List Text = flat_map session_lines r.sessions in
    let es : List Text = event_lines 1 r.journal in
    let last : List Text = c ∷ codes "end" ∷ [] in
    let one : (t : Text) (ks : List Text) → lines (t ∷ ks) ≡ t ++ 10 ∷ lines ks = λ t ks. append_assoc t (10 ∷ []) (lines ks) in
    let both : (ks ms : List Text) → lines (ks ++ ms) ≡ lines ks ++ lines ms = λ ks ms. flat_map-append (λ t. t ++ 10 ∷ []) ks ms in
    let e4 : lines last ≡ c ++ 10 ∷ (codes "end" ++ 10 ∷ []) = one c (codes "end" ∷ []) in
    let e3 : lines (j ∷ (es ++ last)) ≡ j ++ 10 ∷ (lines es ++ (c ++ 10 ∷ (codes "end" ++ 10 ∷ []))) = one j (es ++ last) ∙ ap (λ (t : Text). j ++ 10 ∷ t) (both es last ∙ ap (λ (t : Text). lines es ++ t) e4) in
    let e2 : lines (s ∷ (ls ++ j ∷ (es ++ last))) ≡ s ++ 10 ∷ (lines ls ++ (j ++ 10 ∷ (lines es ++ (c ++ 10 ∷ (codes "end" ++ 10 ∷ []))))) =
    one s (ls ++ j ∷ (es ++ last)) ∙ ap (λ (t : Text). s ++ 10 ∷ t) (both ls (j ∷ (es ++ last)) ∙ ap (λ (t : Text). lines ls ++ t) e3) in
    one a (o ∷ s ∷ (ls ++ j ∷ (es ++ last))) ∙ ap (λ (t : Text). a ++ 10 ∷ t) (one o (s ∷ (ls ++ j ∷ (es ++ last))) ∙ ap (λ (t : Text). o ++ 10 ∷ t) e2)

first_word_lf : Lacks 10 (codes "qcache report 1")
first_word_lf = lacks_both 10 (codes "qcache") (codes " report 1") (word_lf (codes "qcache") refl) (refl, lacks_both 10 (codes "report") (codes " 1") (word_lf (codes "report") refl) (refl, (refl, tt)))

pub report_again : (r : Report) → IsTellable r → report_told (at 1 (text_of_report r)) ≡ Ok r
report_again r is =
    let t6 : Text = codes "end" ++ 10 ∷ [] in
    let t5 : Text = fields (counter_fields r.counters) ++ 10 ∷ t6 in
    let t4 : Text = counted_line (codes "journal") (length r.journal) ++ 10 ∷ (lines (event_lines 1 r.journal) ++ t5) in
    let t3 : Text = counted_line (codes "sessions") (length r.sessions) ++ 10 ∷ (lines (flat_map session_lines r.sessions) ++ t4) in
    let t2 : Text = fields (option_fields r.options) ++ 10 ∷ t3 in
    let sessions = sessions_again r.sessions 3 t4 is.session_count is.sessions in
    let journal = journal_again r.journal sessions.0 t5 is.event_count is.journal in
    ap (λ (t : Text). report_told (at 1 t)) (text_by_lines r)
    ∙ report_from (at 1 (codes "qcache report 1" ++ 10 ∷ t2)) (at 2 t2) (at 3 t3) (at sessions.0 t4) (at journal.0 t5) (at (journal.0 + 1) t6) (at (journal.0 + 1 + 1) []) r
    (certain_again 1 (codes "qcache report 1") t2 first_word_lf) (options_again 2 r.options t3 is.options) sessions.1 journal.1 (counters_again journal.0 r.counters t6 is.counters)
    (certain_again (journal.0 + 1) (codes "end") [] (word_lf (codes "end") refl)) refl
