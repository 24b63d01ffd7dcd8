-- Where clap names no kind of fault for words, it takes them: of a command without subcommands, in which no argument has a rule on another.
use Rattle.std.proofs.Common.{◌≡◌, ◌∙◌, ◌&&◌, ◌||◌, ◌==◌, ℕ, Bool, cond, true, false, not, zero, suc, refl, sym, ap, arith, List, [], ◌∷◌, length, drop, Option, Some, None, is_some, nat_le, nat_lt}
use Rattle.std.specs.Prelude.{encode_utf8, slice_get, codes}
use Rattle.std.specs.List.{list_all}
use Rattle.std.specs.Option.{option_map_or}
use Rattle.std.specs.Str.{bytes_eq, chars}
use Rattle.std.proofs.lemmas.Bool.{true≢false, and_from, eqb-true, le-leb, ltb-false}
use Rattle.clap.specs.Lexer.{long_of, short_of}
use Rattle.clap.specs.ValueTests.{accepts}
use Rattle.clap.specs.Facts.{parser_of_value, unwrap_or_range}
use Rattle.clap.specs.Kinds.{Kinds, or_else, range_kinds, values_kinds}
use Rattle.clap.specs.Walk.{Held, Names, Row, Rule, Step, Text, Waiting, Walk, action_of, arg_by_id, arg_by_index, arg_by_long, arg_by_short, attached_value, finished, has_row, is_pending, most_values, next, nothing_held, reacted, settled, subcommand, subcommand_met, takes_several, takes_values, trailing, value, values_or_missing, walk, walk_from, walked, word_met}
use Rattle.clap.specs.Simple.{Shape, built, entered}
use Rattle.clap.specs.Faults.{action_fault, bundle_fault, bundle_step_fault, fault_of, flag_word_fault, flags_fault, level_fault, long_fault, option_fault, other_fault, positional_fault, react_fault, settle_fault, short_fault, step_fault, stray_fault, turn_fault, use_fault, values_fault, walk_fault, word_fault}
use Rattle.clap.specs.Takes.{action_passes, built_takes, bundle_passes, bundle_step_passes, default_passes, entered_passes, flag_word_passes, flags_pass, is_valid, level_passes, long_passes, option_passes, other_passes, positional_passes, react_passes, settle_passes, short_passes, step_passes, takes, turn_passes, use_passes, values_pass, walk_passes, word_passes}
use Rattle.clap.specs.declared.builder.action.ArgAction.{ArgAction}
use Rattle.clap.specs.declared.builder.action.ArgAction.TheVariants as action
use Rattle.clap.specs.declared.builder.value_parser.ValueParser.{ValueParser}
use Rattle.clap.specs.declared.error.kind.ErrorKind.{ErrorKind}
use Rattle.clap.proofs.FaultLemmas.{leaf_fault}
use Rattle.qc_app.specs.Arguments.{run_command}

-- ---- no kind

abbrev has_kind : Kinds → Bool
has_kind [] = false
has_kind (k ∷ ks) = true

no_kind : (k : ErrorKind) (ks : Kinds) → k ∷ ks ≡ [] → ⊥
no_kind k ks e = true≢false (ap has_kind e)

neither : (a b : Kinds) → or_else a b ≡ [] → (a ≡ []) × (b ≡ [])
neither [] b e = (refl, e)
neither (k ∷ ks) b e = absurd (no_kind k ks e)

-- a test that passes, else a kind
test_passes : (b : Bool) (k : ErrorKind) → cond b [] (k ∷ []) ≡ [] → b ≡ true
test_passes true k e = refl
test_passes false k e = absurd (no_kind k [] e)

or_passes : (b : Bool) (ks : Kinds) (y : Bool) → (ks ≡ [] → y ≡ true) → cond b [] ks ≡ [] → (b || y) ≡ true
or_passes true ks y f e = refl
or_passes false ks y f e = f e

unless_passes : (b : Bool) (k : ErrorKind) (ks : Kinds) (y : Bool) → (ks ≡ [] → y ≡ true) → cond b (k ∷ []) ks ≡ [] → (not b && y) ≡ true
unless_passes true k ks y f e = absurd (no_kind k [] e)
unless_passes false k ks y f e = f e

if_passes : (b : Bool) (ks ls : Kinds) (x y : Bool) → (ks ≡ [] → x ≡ true) → (ls ≡ [] → y ≡ true) → cond b ks ls ≡ [] → cond b x y ≡ true
if_passes true ks ls x y f g e = f e
if_passes false ks ls x y f g e = g e

both_pass : (a b : Kinds) (x y : Bool) → (a ≡ [] → x ≡ true) → (b ≡ [] → y ≡ true) → or_else a b ≡ [] → (x && y) ≡ true
both_pass a b x y f g e =
    let parts = neither a b e in
    and_from x y (f parts.0) (g parts.1)

-- ---- values

values_accepted : (i : Bool) (p : ValueParser) (vs : List Text) → values_kinds i p vs ≡ [] → list_all (accepts i p) vs ≡ true
values_accepted i p [] e = refl
values_accepted i p (v ∷ vs) e = both_pass _ _ _ _ (test_passes (accepts i p v) _) (values_accepted i p vs) e

all_accepted : (a : Rule) (vs : List Text) → values_fault a vs ≡ [] → values_pass a vs ≡ true
all_accepted a vs e = values_accepted a.ignore_case (parser_of_value a.parser) vs e

not_repeated : (b again : Bool) (k : ErrorKind) → cond (b && not again) (k ∷ []) [] ≡ [] → (not b || again) ≡ true
not_repeated true true k e = refl
not_repeated true false k e = absurd (no_kind k [] e)
not_repeated false again k e = refl

set_once : (again : Bool) (a : Rule) (vs : List Text) (rows : List Row) → action_fault action.Set again a vs rows ≡ [] → action_passes action.Set again a vs rows ≡ true
set_once again a vs rows e = both_pass _ _ _ _ (not_repeated (has_row a.id rows) again _) (all_accepted a vs) e

action_takes : (x : ArgAction) (again : Bool) (a : Rule) (vs : List Text) (rows : List Row) → action_fault x again a vs rows ≡ [] → action_passes x again a vs rows ≡ true
action_takes action.Set again a vs rows e = set_once again a vs rows e
action_takes action.SetTrue again a vs rows e = set_once again a vs rows e
action_takes action.SetFalse again a vs rows e = set_once again a vs rows e
action_takes action.Append again a vs rows e = all_accepted a vs e
action_takes action.Count again a [] rows e = test_passes _ _ e
action_takes action.Count again a (v ∷ vs) rows e = all_accepted a (v ∷ vs) e
action_takes action.Help again a vs rows e = absurd (no_kind _ _ e)
action_takes action.HelpShort again a vs rows e = absurd (no_kind _ _ e)
action_takes action.HelpLong again a vs rows e = absurd (no_kind _ _ e)
action_takes action.Version again a vs rows e = absurd (no_kind _ _ e)

abbrev Lies : ℕ → ℕ → ℕ → Type 0
Lies least most n = (nat_le least n ≡ true) × (nat_le n most ≡ true)

in_range : (least most n : ℕ) → range_kinds least most n ≡ [] → Lies least most n
in_range least most n e = wanting _ _ _ _ (nat_lt 0 least && n == 0) e
  where
    above : (b : Bool) (k : ErrorKind) → nat_lt n least ≡ false → nat_lt most n ≡ b → cond b (k ∷ []) [] ≡ [] → Lies least most n
    above true k low is e = absurd (no_kind _ _ e)
    above false k low is e = (le-leb least n (ltb-false n least low), le-leb n most (ltb-false most n is))

    below : (b : Bool) (k l : ErrorKind) → nat_lt n least ≡ b → cond b (k ∷ []) (cond (nat_lt most n) (l ∷ []) []) ≡ [] → Lies least most n
    below true k l is e = absurd (no_kind _ _ e)
    below false k l is e = above (nat_lt most n) l is refl e

    exact : (b : Bool) (k : ErrorKind) → (least == most) ≡ true → (least == n) ≡ b → cond b [] (k ∷ []) ≡ [] → Lies least most n
    exact true k one is e =
        let same : least ≡ n = eqb-true least n is in
        let ends : least ≡ most = eqb-true least most one in
        (le-leb least n (omega (arith, same)), le-leb n most (omega (arith, same, ends)))
    exact false k one is e = absurd (no_kind _ _ e)

    ends : (b : Bool) (k l m : ErrorKind) → (least == most) ≡ b → cond b (cond (least == n) [] (k ∷ [])) (cond (nat_lt n least) (l ∷ []) (cond (nat_lt most n) (m ∷ []) [])) ≡ []
        → Lies least most n
    ends true k l m is e = exact (least == n) k is refl e
    ends false k l m is e = below (nat_lt n least) l m refl e

    wanting : (j k l m : ErrorKind) (b : Bool)
        → cond b (j ∷ []) (cond (least == most) (cond (least == n) [] (k ∷ [])) (cond (nat_lt n least) (l ∷ []) (cond (nat_lt most n) (m ∷ []) []))) ≡ [] → Lies least most n
    wanting j k l m true e = absurd (no_kind _ _ e)
    wanting j k l m false e = ends (least == most) k l m refl e

use_takes : (again : Bool) (a : Rule) (vs : List Text) (rows : List Row) → use_fault again a vs rows ≡ [] → use_passes again a vs rows ≡ true
use_takes again a vs rows e =
    let parts = neither _ _ e in
    let range = in_range (unwrap_or_range a.range).start_inclusive (most_values a) (length vs) parts.0 in
    and_from _ _ range.0 (and_from _ _ range.1 (action_takes (action_of a) again a (values_or_missing a vs) rows parts.1))

-- ---- the walk

settle_takes : (c : List Rule) (again : Bool) (h : Held) → settle_fault c again h ≡ [] → settle_passes c again h ≡ true
settle_takes c again h e = pending h.pending e
  where
    one : (o : Option Rule) (vs : List Text) → option_map_or (λ a. use_fault again a vs h.rows) o [] ≡ [] → option_map_or (λ a. use_passes again a vs h.rows) o true ≡ true
    one None vs e = refl
    one (Some a) vs e = use_takes again a vs h.rows e

    pending : (o : Option (Text × List Text)) → option_map_or (λ p. option_map_or (λ a. use_fault again a p.1 h.rows) (arg_by_id c p.0) []) o [] ≡ []
        → option_map_or (λ p. option_map_or (λ a. use_passes again a p.1 h.rows) (arg_by_id c p.0) true) o true ≡ true
    pending None e = refl
    pending (Some p) e = one (arg_by_id c p.0) p.1 e

react_takes : (c : List Rule) (again : Bool) (a : Rule) (vs : List Text) (h : Held) → react_fault c again a vs h ≡ [] → react_passes c again a vs h ≡ true
react_takes c again a vs h e = both_pass _ _ _ _ (settle_takes c again h) (use_takes again a vs (settled c h).rows) e

option_takes : (c : List Rule) (again : Bool) (a : Rule) (v : Option Text) (h : Held) → option_fault c again a v h ≡ [] → option_passes c again a v h ≡ true
option_takes c again a (Some v) h e = react_takes c again a (v ∷ []) h e
option_takes c again a None h e = settle_takes c again h e

long_takes : (c : List Rule) (again : Bool) (o : Option Rule) (v : Option Text) (h : Held) → long_fault c again o v h ≡ [] → long_passes c again o v h ≡ true
long_takes c again None v h e = absurd (no_kind _ _ e)
long_takes c again (Some a) v h e =
    if_passes (takes_values a) _ _ _ _ (option_takes c again a v h) (unless_passes (is_some v) _ _ _ (react_takes c again a [] h)) e

short_takes : (c : List Rule) (again : Bool) (o : Option Rule) (rest : Text) (h : Held) (fault : Held → Kinds) (passes : Held → Bool)
    → ((h : Held) → fault h ≡ [] → passes h ≡ true) → short_fault c again o rest h fault ≡ [] → short_passes c again o rest h passes ≡ true
short_takes c again None rest h fault passes after e = absurd (no_kind _ _ e)
short_takes c again (Some a) rest h fault passes after e =
    if_passes (takes_values a) _ _ _ _ (option_takes c again a (attached_value rest) h)
    (both_pass _ _ _ _ (react_takes c again a [] h) (after (reacted c a [] h))) e

step_of_bundle : (c : List Rule) (again : Bool) (fault : Text → ℕ → Held → Kinds) (passes : Text → ℕ → Held → Bool)
    → ((flags : Text) (skip : ℕ) (h : Held) → fault flags skip h ≡ [] → passes flags skip h ≡ true) → (x : Option ℕ) (flags : Text) (skip : ℕ) (h : Held)
    → bundle_step_fault c again x flags skip h fault ≡ [] → bundle_step_passes c again x flags skip h passes ≡ true
step_of_bundle c again fault passes after None flags skip h e = refl
step_of_bundle c again fault passes after (Some x) flags zero h e =
    short_takes c again (arg_by_short c x) _ h (fault (drop (length (encode_utf8 x)) flags) 0) (passes (drop (length (encode_utf8 x)) flags) 0)
    (after (drop (length (encode_utf8 x)) flags) 0) e
step_of_bundle c again fault passes after (Some x) flags (suc skip) h e = after (drop (length (encode_utf8 x)) flags) skip h e

flags_take : (c : List Rule) (again : Bool) (k : ℕ) (flags : Text) (skip : ℕ) (h : Held) → flags_fault c again k flags skip h ≡ [] → flags_pass c again k flags skip h ≡ true
unfolding flags_fault flags_pass
flags_take c again zero flags skip h e = refl
flags_take c again (suc k) flags skip h e =
    step_of_bundle c again (flags_fault c again k) (flags_pass c again k) (flags_take c again k) (slice_get (chars flags) 0) flags skip h e

flag_word_takes : (c : List Rule) (again : Bool) (o : Option (Text × Option Text)) (word : Text) (h : Held) → flag_word_fault c again o word h ≡ []
    → flag_word_passes c again o word h ≡ true
flag_word_takes c again (Some p) word h e = long_takes c again (arg_by_long c p.0) p.1 h e
flag_word_takes c again None word h e = bundle (short_of word) e
  where
    bundle : (o : Option Text) → option_map_or (λ flags. bundle_fault c again flags h) o [] ≡ [] → option_map_or (λ flags. bundle_passes c again flags h) o true ≡ true
    bundle None e = refl
    bundle (Some flags) e = flags_take c again (length flags) flags h.skip (record h { skip = 0 }) e

other_takes : (s : Shape) (o : Option Text) (word : Text) (h : Held) → other_fault s o word h ≡ [] → other_passes s o word h ≡ true
other_takes s (Some name) word h e = help (bytes_eq name (codes "help")) s.disable_help_subcommand _ _ e
  where
    help : (b d : Bool) (k : ErrorKind) (ks : Kinds) → cond (b && not d) (k ∷ ks) [] ≡ [] → (not b || d) ≡ true
    help true true k ks e = refl
    help true false k ks e = absurd (no_kind k ks e)
    help false d k ks e = refl
other_takes s None word h e =
    or_passes (bytes_eq word (45 ∷ 45 ∷ [])) _ _ (flag_word_takes s.rules s.args_override_self (long_of word) word h) e

word_takes : (s : Shape) (names : Names) (is_trailing : Bool) (waiting : Waiting) (word : Text) (h : Held) → word_fault s names is_trailing waiting word h ≡ []
    → word_passes s names is_trailing waiting word h ≡ true
word_takes s names is_trailing waiting word h e = or_passes is_trailing _ _ (other_takes s (subcommand_met names waiting word) word h) e

step_takes : (s : Shape) (position : ℕ) (h : Held) (step : Step) → step_fault s position h step ≡ [] → step_passes s position h step ≡ true
step_takes s position h (next waiting) e = refl
step_takes s position h (trailing p) e = refl
step_takes s position h (subcommand name) e = refl
step_takes s position h value e = positional (arg_by_index s.rules position) e
  where
    stray : (leaf : Bool) (k : ErrorKind) (ks ls : Kinds) → cond leaf (k ∷ ks) (k ∷ ls) ≡ [] → ⊥
    stray true k ks ls e = no_kind k ks e
    stray false k ks ls e = no_kind k ls e

    positional : (o : Option Rule) → option_map_or (λ a. positional_fault s.rules s.args_override_self a h) o (stray_fault s) ≡ []
        → option_map_or (λ a. positional_passes s.rules s.args_override_self a h) o false ≡ true
    positional None e = absurd (stray s.is_leaf _ _ _ e)
    positional (Some a) e = or_passes (is_pending a h.pending && takes_several a) _ _ (settle_takes s.rules s.args_override_self h) e

turn_takes : (s : Shape) (names : Names) (w : Walk) (word : Text) → turn_fault s names w word ≡ [] → turn_passes s names w word ≡ true
turn_takes s names w word e =
    let met = word_met s.rules names w.is_trailing w.waiting w.position word w.held in
    or_passes (is_some w.stopped) _ _
    (both_pass _ _ _ _ (word_takes s names w.is_trailing w.waiting word w.held) (step_takes s w.position met.0 met.1)) e

walk_takes : (s : Shape) (names : Names) (w : Walk) (words : List Text) → walk_fault s names w words ≡ [] → walk_passes s names w words ≡ true
unfolding walk_fault walk_passes
walk_takes s names w [] e = refl
walk_takes s names w (word ∷ rest) e = both_pass _ _ _ _ (turn_takes s names w word) (walk_takes s names (walked s.rules names w word) rest) e

-- ---- the whole

module _ (s : Shape) (h : Held) (words : List Text) (defaults : list_all default_passes s.rules ≡ true) (valid : (rows : List Row) → is_valid s rows false ≡ true) where
  level_takes : level_fault s [] h words false [] ≡ [] → level_passes s [] h words false ≡ true
  level_takes e =
      let first = neither _ _ e in
      let last = neither _ _ first.1 in
      and_from _ _ (walk_takes s [] (walk_from h) words first.0)
      (and_from _ _ (settle_takes s.rules s.args_override_self (walk s.rules [] h words).held last.0) (and_from _ _ defaults (valid (finished s.rules (walk s.rules [] h words).held))))

  leaf_takes : level_fault s [] h words false [] ≡ [] → built_takes (record { top = s; subs = [] }) h words ≡ true
  leaf_takes e = stopped (walk s.rules [] h words).stopped
    where
      stopped : (stop : Option (Text × List Text))
          → (entered_passes (record { top = s; subs = [] }) stop && level_passes s [] h words (is_some (entered (record { top = s; subs = [] }) stop))) ≡ true
      stopped None = level_takes e
      stopped (Some p) = level_takes e

-- where no kind of fault comes, the words are taken
pub run_takes : (words : List Text) → fault_of run_command words ≡ [] → takes run_command words ≡ true
run_takes words e =
    leaf_takes (built run_command).top nothing_held (drop 1 words) refl (λ rows. refl) (sym (leaf_fault (built run_command) nothing_held (drop 1 words) refl) ∙ e)
