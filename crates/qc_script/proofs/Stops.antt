-- A reader takes the lines of what it gives, or stops at the first line with which the lines of nothing that it gives go on.
use Rattle.std.proofs.Common.{◌≡◌, ℕ, zero, suc, ◌+◌, ◌^◌, ◌<◌, Bool, true, false, cond, ◌⊎◌, inl, inr, List, [], ◌∷◌, ◌++◌, map, length, length-append, Result, Ok, Err, refl, sym, ap, subst, ◌∙◌, append_assoc, append-nil, arith}
use Rattle.std.specs.Prelude.{◌==◌, bytes_eq, codes, decimal, IfOk, if◌then◌else◌}
use Rattle.std.specs.List.{AllByRecursion, flat_map}
use Rattle.std.proofs.lemmas.Bool.{eqb-true, ne_eqb}
use Rattle.std.proofs.lemmas.List.{append_cancel_right}
use Rattle.std.proofs.lemmas.List.Concat.{flat_map-append}
use Rattle.std.proofs.lemmas.Slice.Eq.{bytes_eq-Decides}
use Rattle.qc_model.specs.ReportText.{Text, lines}
use Rattle.qc_script.specs.declared.reading.misspelt.Misspelt.{Misspelt}
use Rattle.qc_script.specs.Told.{Told, nothing, ◌>>=◌, front, spelt, Unread, line_at, at_number, told_at, behind_line, times}
use Rattle.qc_script.proofs.Cuts.{is_byte, Lacks, AllLack, front_at}
use Rattle.qc_script.proofs.Tells.{Holds}
use Rattle.qc_script.proofs.Whole.{at, first_line, line_again, line_lacks, told_from, all_both}

-- ---- what a reader does with a text that begins with line k

-- It gives a value, and takes the value's lines. So it does whatever stands behind them.
pub record Took {A R : Type 0} (give : A → ℕ → Text → R) (told : A → List Text) (P : A → Type 0) (k : ℕ) (read : Text → Result R ℕ) (t : Text) : Type 0 where
  pub value : A
  pub holds : P value
  pub each : AllLack 10 (told value)
  pub rest : Text
  pub parts : t ≡ lines (told value) ++ rest
  pub same : (u : Text) → read (lines (told value) ++ u) ≡ Ok (give value (k + length (told value)) u)

-- It is refused by a line's number. The lines in front of that line are the first ones of some value; and whatever stands behind that line, it is refused so.
pub record Stopped {A R : Type 0} (told : A → List Text) (P : A → Type 0) (k : ℕ) (read : Text → Result R ℕ) (t : Text) : Type 0 where
  pub front : List Text
  pub rest : Text
  pub each : AllLack 10 front
  pub parts : t ≡ lines front ++ rest
  pub whole : A
  pub holds : P whole
  pub behind : List Text
  pub goes_on : told whole ≡ front ++ behind
  pub refused : read t ≡ Err (k + length front)
  pub same : (line more u : Text) → Lacks 10 line → rest ≡ line ++ 10 ∷ more → read (lines (front ++ line ∷ []) ++ u) ≡ Err (k + length front)

abbrev pub Reads : {A R : Type 0} → (A → ℕ → Text → R) → (A → List Text) → (A → Type 0) → ℕ → (Text → Result R ℕ) → Text → Type 0
Reads give told P k read t = Took give told P k read t ⊎ Stopped told P k read t

-- a value, and the lines behind its own
abbrev pub with_rest : {A : Type 0} → A → ℕ → Text → A × Unread
with_rest x n u = (x, at n u)

pub lines_both : (ks ms : List Text) (u : Text) → lines (ks ++ ms) ++ u ≡ lines ks ++ (lines ms ++ u)
lines_both ks ms u = ap (λ (t : Text). t ++ u) (flat_map-append (λ t. t ++ 10 ∷ []) ks ms) ∙ append_assoc (lines ks) (lines ms) u

-- ---- one after another

-- a value is given, and no line is taken
pub given : {A R : Type 0} (give : A → ℕ → Text → R) (told : A → List Text) (P : A → Type 0) (k : ℕ) (x : A) → P x → told x ≡ [] → (t : Text) → Reads give told P k (λ s. Ok (give x k s)) t
given {A} {R} give told P k x holds none t = inl (record {
  value = x;
  holds = holds;
  each = subst (AllLack 10) (sym none) tt;
  rest = t;
  parts = ap (λ (ls : List Text). lines ls ++ t) (sym none);
  same = λ u. subst (λ (ls : List Text). ◌≡◌ {A = Result R ℕ} (Ok (give x k (lines ls ++ u))) (Ok (give x (k + length ls) u))) (sym none) (ap (λ (n : ℕ). Ok (give x n u)) (unmoved k));
})
  where
    unmoved : (n : ℕ) → n ≡ n + 0
    unmoved n = omega arith

-- what is given is seen otherwise
pub after : {A R Q : Type 0} (give : A → ℕ → Text → R) (told : A → List Text) (P : A → Type 0) (k : ℕ) (read : Text → Result R ℕ) (h : R → Q) (t : Text)
    → Reads give told P k read t → Reads (λ x n u. h (give x n u)) told P k (λ s. read s >>= λ r. Ok (h r)) t
after {A} {R} {Q} give told P k read h t (inl a) = inl (record {
  value = a.value;
  holds = a.holds;
  each = a.each;
  rest = a.rest;
  parts = a.parts;
  same = λ u. ap (λ (r : Result R ℕ). r >>= λ x. Ok (h x)) (a.same u);
})
after {A} {R} {Q} give told P k read h t (inr s) = inr (record {
  front = s.front;
  rest = s.rest;
  each = s.each;
  parts = s.parts;
  whole = s.whole;
  holds = s.holds;
  behind = s.behind;
  goes_on = s.goes_on;
  refused = ap (λ (r : Result R ℕ). r >>= λ x. Ok (h x)) s.refused;
  same = λ line more u lacks is. ap (λ (r : Result R ℕ). r >>= λ x. Ok (h x)) (s.same line more u lacks is);
})

-- another reader that does the same
pub like : {A R : Type 0} (give : A → ℕ → Text → R) (told : A → List Text) (P : A → Type 0) (k : ℕ) (read other : Text → Result R ℕ) → ((s : Text) → other s ≡ read s) → (t : Text)
    → Reads give told P k read t → Reads give told P k other t
like give told P k read other e t (inl a) = inl (record {
  value = a.value;
  holds = a.holds;
  each = a.each;
  rest = a.rest;
  parts = a.parts;
  same = λ u. e (lines (told a.value) ++ u) ∙ a.same u;
})
like give told P k read other e t (inr s) = inr (record {
  front = s.front;
  rest = s.rest;
  each = s.each;
  parts = s.parts;
  whole = s.whole;
  holds = s.holds;
  behind = s.behind;
  goes_on = s.goes_on;
  refused = e t ∙ s.refused;
  same = λ line more u lacks is. e (lines (s.front ++ line ∷ []) ++ u) ∙ s.same line more u lacks is;
})

further : (k : ℕ) (xs ys : List Text) → k + length xs + length ys ≡ k + length (xs ++ ys)
further k xs ys = omega (arith, length-append xs ys)

-- a reader, and one that goes on from what it gives
module _ {A B C R Q : Type 0} (give_first : A → ℕ → Text → R) (told_first : A → List Text) (First : A → Type 0) (told_later : A → B → List Text) (Later : A → B → Type 0)
    (give : C → ℕ → Text → Q) (told : C → List Text) (P : C → Type 0) (both : A → B → C) (k : ℕ) (read : Text → Result R ℕ) (go : R → Result Q ℕ) where
  abbrev LaterReads : A → ℕ → Text → Type 0
  LaterReads x n u = Reads (λ (y : B). give (both x y)) (told_later x) (Later x) n (λ s. go (give_first x n s)) u

  abbrev Joins : Type 0
  Joins = (x : A) (y : B) → First x → Later x y → P (both x y) × (told (both x y) ≡ told_first x ++ told_later x y)

  abbrev step : Text → Result Q ℕ
  step s = read s >>= go

  later_took : (t : Text) → Joins → (a : Took give_first told_first First k read t)
      → Took (λ (y : B). give (both a.value y)) (told_later a.value) (Later a.value) (k + length (told_first a.value)) (λ s. go (give_first a.value (k + length (told_first a.value)) s)) a.rest
      → Took give told P k step t
  later_took t joins a b =
      let x : A = a.value in
      let y : B = b.value in
      let xs : List Text = told_first x in
      let ys : List Text = told_later x y in
      let joined = joins x y a.holds b.holds in
      let number : k + length xs + length ys ≡ k + length (told (both x y)) = further k xs ys ∙ ap (λ (ls : List Text). k + length ls) (sym joined.1) in
      record {
        value = both x y;
        holds = joined.0;
        each = subst (AllLack 10) (sym joined.1) (all_both xs ys a.each b.each);
        rest = b.rest;
        parts = a.parts ∙ ap (λ (u : Text). lines xs ++ u) b.parts ∙ sym (lines_both xs ys b.rest) ∙ ap (λ (ls : List Text). lines ls ++ b.rest) (sym joined.1);
        same = λ u. ap (λ (ls : List Text). step (lines ls ++ u)) joined.1 ∙ ap step (lines_both xs ys u) ∙ ap (λ (r : Result R ℕ). r >>= go) (a.same (lines ys ++ u)) ∙ b.same u ∙ ap (λ (n : ℕ). Ok (give (both x y) n u)) number;
      }

  later_stopped : (t : Text) → Joins → (a : Took give_first told_first First k read t)
      → Stopped (told_later a.value) (Later a.value) (k + length (told_first a.value)) (λ s. go (give_first a.value (k + length (told_first a.value)) s)) a.rest
      → Stopped told P k step t
  later_stopped t joins a b =
      let x : A = a.value in
      let xs : List Text = told_first x in
      let joined = joins x b.whole a.holds b.holds in
      let number : ◌≡◌ {A = Result Q ℕ} (Err (k + length xs + length b.front)) (Err (k + length (xs ++ b.front))) = ap (λ (n : ℕ). Err n) (further k xs b.front) in
      record {
        front = xs ++ b.front;
        rest = b.rest;
        each = all_both xs b.front a.each b.each;
        parts = a.parts ∙ ap (λ (u : Text). lines xs ++ u) b.parts ∙ sym (lines_both xs b.front b.rest);
        whole = both x b.whole;
        holds = joined.0;
        behind = b.behind;
        goes_on = joined.1 ∙ ap (λ (ls : List Text). xs ++ ls) b.goes_on ∙ sym (append_assoc xs b.front b.behind);
        refused = ap step a.parts ∙ ap (λ (r : Result R ℕ). r >>= go) (a.same a.rest) ∙ b.refused ∙ number;
        same = λ line more u lacks is. ap (λ (ls : List Text). step (lines ls ++ u)) (append_assoc xs b.front (line ∷ [])) ∙ ap step (lines_both xs (b.front ++ line ∷ []) u)
            ∙ ap (λ (r : Result R ℕ). r >>= go) (a.same (lines (b.front ++ line ∷ []) ++ u)) ∙ b.same line more u lacks is ∙ number;
      }

  first_stopped : (t : Text) → ((x : A) → First x → (y : B) × Later x y) → Joins → Stopped told_first First k read t → Stopped told P k step t
  first_stopped t some joins s =
      let y = some s.whole s.holds in
      let joined = joins s.whole y.0 s.holds y.1 in
      let ys : List Text = told_later s.whole y.0 in
      record {
        front = s.front;
        rest = s.rest;
        each = s.each;
        parts = s.parts;
        whole = both s.whole y.0;
        holds = joined.0;
        behind = s.behind ++ ys;
        goes_on = joined.1 ∙ ap (λ (ls : List Text). ls ++ ys) s.goes_on ∙ append_assoc s.front s.behind ys;
        refused = ap (λ (r : Result R ℕ). r >>= go) s.refused;
        same = λ line more u lacks is. ap (λ (r : Result R ℕ). r >>= go) (s.same line more u lacks is);
      }

  went_on : (t : Text) → Joins → (a : Took give_first told_first First k read t) → LaterReads a.value (k + length (told_first a.value)) a.rest → Reads give told P k step t
  went_on t joins a (inl b) = inl (later_took t joins a b)
  went_on t joins a (inr b) = inr (later_stopped t joins a b)

  pub on_from : (t : Text) → ((x : A) → First x → (y : B) × Later x y) → Joins → ((x : A) → First x → (n : ℕ) (u : Text) → LaterReads x n u) → Reads give_first told_first First k read t
      → Reads give told P k (λ s. read s >>= go) t
  on_from t some joins later (inl a) = went_on t joins a (later a.value a.holds (k + length (told_first a.value)) a.rest)
  on_from t some joins later (inr s) = inr (first_stopped t some joins s)

-- ---- a line

pub record Split (t : Text) : Type 0 where
  pub line : Text
  pub rest : Text
  pub lacks : Lacks 10 line
  pub parts : t ≡ line ++ 10 ∷ rest

split_on : (b : ℕ) (t : Text) (test : Bool) → is_byte 10 b ≡ test → Lacks 10 t ⊎ Split t → Lacks 10 (b ∷ t) ⊎ Split (b ∷ t)
split_on b t true e later = inr (record { line = []; rest = t; lacks = tt; parts = ap (λ (c : ℕ). c ∷ t) (eqb-true b 10 e) })
split_on b t false e (inl all) = inl (e, all)
split_on b t false e (inr s) = inr (record { line = b ∷ s.line; rest = s.rest; lacks = (e, s.lacks); parts = ap (λ (u : Text). b ∷ u) s.parts })

split : (t : Text) → Lacks 10 t ⊎ Split t
split [] = inl tt
split (b ∷ t) = split_on b t (is_byte 10 b) refl (split t)

no_line : (l more : Text) → Lacks 10 (l ++ 10 ∷ more) → ⊥
no_line [] more lacks = absurd (apart lacks.0)
  where
    apart : true ≡ false → ⊥
    apart e = absurd cc
no_line (b ∷ l) more lacks = no_line l more lacks.1

pub one_cut : (l more m rest : Text) → Lacks 10 l → Lacks 10 m → l ++ 10 ∷ more ≡ m ++ 10 ∷ rest → l ≡ m
one_cut l more m rest hl hm e = sym (front_at 10 l more hl) ∙ ap (front 10) e ∙ front_at 10 m rest hm

err_is_no_ok : {A E : Type 0} (e : E) (x : A) → ◌≡◌ {A = Result A E} (Err e) (Ok x) → ⊥
err_is_no_ok e x p = absurd cc

ok_is : {A E : Type 0} (x y : A) → ◌≡◌ {A = Result A E} (Ok x) (Ok y) → x ≡ y
ok_is x y p = cc

-- what is told is spelt so
pub spelt_is : {A : Type 0} (line : Text) (text : A → Text) (r : Told A) (x : A) → (r >>= spelt line text) ≡ Ok x → line ≡ text x
spelt_is {A} line text (Ok y) x e = tested (bytes_eq line (text y)) refl e
  where
    tested : (b : Bool) → bytes_eq line (text y) ≡ b → ◌≡◌ {A = Told A} (if b then Ok y else nothing) (Ok x) → line ≡ text x
    tested true same told = (bytes_eq-Decides line (text y)).0 same ∙ ap text (ok_is y x told)
    tested false same told = absurd (err_is_no_ok _ x told)
spelt_is {A} line text (Err m) x e = absurd (err_is_no_ok m x e)

pub held : {A : Type 0} {P : A → Type 0} (r : Told A) (x : A) → Holds r P → r ≡ Ok x → P x
held {A} {P} r x h e = subst (λ (q : Told A). IfOk q P) e h.of

told_fails : {A : Type 0} (tells : Text → Told A) (n : ℕ) (t more : Text) (m : Misspelt) → Lacks 10 t → tells (t ++ 10 ∷ []) ≡ Err m → told_at tells (at n (t ++ 10 ∷ more)) ≡ Err n
told_fails tells n t more m lacks e = rw (line_again n t more lacks, e) refl

no_line_told : {A : Type 0} (tells : Text → Told A) (n : ℕ) (t : Text) → Lacks 10 t → told_at tells (at n t) ≡ Err n
no_line_told tells n t lacks = rw (line_lacks n t lacks) refl

module _ {A : Type 0} (tells : Text → Told A) (text : A → Text) (P : A → Type 0) (spells : (line : Text) (x : A) → tells line ≡ Ok x → P x × (line ≡ lines (text x ∷ []))) (x0 : A) (p0 : P x0) (k : ℕ) (t : Text) where
  unmoved : ◌≡◌ {A = Result (A × Unread) ℕ} (Err k) (Err (k + length {A = Text} []))
  unmoved = ap (λ (n : ℕ). Err n) (omega arith)

  no_line_stops : Lacks 10 t → Stopped (λ (x : A). text x ∷ []) P k (λ s. told_at tells (at k s)) t
  no_line_stops lacks = record {
    front = [];
    rest = t;
    each = tt;
    parts = refl;
    whole = x0;
    holds = p0;
    behind = text x0 ∷ [];
    goes_on = refl;
    refused = no_line_told tells k t lacks ∙ unmoved;
    same = λ line more u l is. absurd (no_line line more (subst (Lacks 10) is lacks));
  }

  line_took : (s : Split t) (x : A) → tells (s.line ++ 10 ∷ []) ≡ Ok x → Took with_rest (λ (x : A). text x ∷ []) P k (λ s. told_at tells (at k s)) t
  line_took s x told =
      let is = spells (s.line ++ 10 ∷ []) x told in
      let same_line : s.line ≡ text x = append_cancel_right s.line (text x) (10 ∷ []) (is.1 ∙ append-nil (text x ++ 10 ∷ [])) in
      let lacks : Lacks 10 (text x) = subst (Lacks 10) same_line s.lacks in
      let tells_x : tells (text x ++ 10 ∷ []) ≡ Ok x = ap (λ (l : Text). tells (l ++ 10 ∷ [])) (sym same_line) ∙ told in
      record {
        value = x;
        holds = is.0;
        each = (lacks, tt);
        rest = s.rest;
        parts = s.parts ∙ ap (λ (l : Text). l ++ 10 ∷ s.rest) same_line ∙ sym (first_line (text x) [] s.rest);
        same = λ u. ap (λ (v : Text). told_at tells (at k v)) (first_line (text x) [] u) ∙ told_from tells k (text x) u x lacks tells_x;
      }

  line_stops : (s : Split t) (m : Misspelt) → tells (s.line ++ 10 ∷ []) ≡ Err m → Stopped (λ (x : A). text x ∷ []) P k (λ s. told_at tells (at k s)) t
  line_stops s m told = record {
    front = [];
    rest = t;
    each = tt;
    parts = refl;
    whole = x0;
    holds = p0;
    behind = text x0 ∷ [];
    goes_on = refl;
    refused = ap (λ (v : Text). told_at tells (at k v)) s.parts ∙ told_fails tells k s.line s.rest m s.lacks told ∙ unmoved;
    same = λ line more u lacks is. ap (λ (v : Text). told_at tells (at k v)) (first_line line [] u)
        ∙ told_fails tells k line u m lacks (ap (λ (l : Text). tells (l ++ 10 ∷ [])) (one_cut line more s.line s.rest lacks s.lacks (sym is ∙ s.parts)) ∙ told) ∙ unmoved;
  }

  line_by : (s : Split t) (r : Told A) → tells (s.line ++ 10 ∷ []) ≡ r → Reads with_rest (λ (x : A). text x ∷ []) P k (λ s. told_at tells (at k s)) t
  line_by s (Ok x) told = inl (line_took s x told)
  line_by s (Err m) told = inr (line_stops s m told)

  line_split : Lacks 10 t ⊎ Split t → Reads with_rest (λ (x : A). text x ∷ []) P k (λ s. told_at tells (at k s)) t
  line_split (inl lacks) = inr (no_line_stops lacks)
  line_split (inr s) = line_by s (tells (s.line ++ 10 ∷ [])) refl

  -- a line that tells a value is spelt as the value's line
  pub line_reads : Reads with_rest (λ (x : A). text x ∷ []) P k (λ s. told_at tells (at k s)) t
  line_reads = line_split (split t)

-- ---- a certain line

certain_told : Text → Text → Told (Unit {0})
certain_told expected line = if bytes_eq line expected then Ok tt else nothing

abbrev with_line : Unread → Unit {0} → Result (Unit {0} × Unread) ℕ
with_line v x = Ok (x, v)

abbrev behind_it : Unit {0} × Unread → Result Unread ℕ
behind_it r = Ok r.1

certain_is : (expected : Text) (u : Unread) → behind_line expected u ≡ (told_at (certain_told expected) u >>= behind_it)
unfolding behind_line certain_told
certain_is expected u = by_line (line_at u)
  where
    tested : (b : Bool) (v : Unread) → ◌≡◌ {A = Result Unread ℕ} (if b then Ok v else Err u.number) ((at_number u.number (if b then Ok tt else nothing) >>= with_line v) >>= behind_it)
    tested true v = refl
    tested false v = refl

    by_line : (r : Result (Text × Unread) ℕ) → ◌≡◌ {A = Result Unread ℕ} (r >>= λ line. if bytes_eq line.0 expected then Ok line.1 else Err u.number)
        ((r >>= λ line. at_number u.number (if bytes_eq line.0 expected then Ok tt else nothing) >>= with_line line.1) >>= behind_it)
    by_line (Ok line) = tested (bytes_eq line.0 expected) line.1
    by_line (Err n) = refl

certain_spells : (l line : Text) (x : Unit {0}) → certain_told (l ++ 10 ∷ []) line ≡ Ok x → Unit {0} × (line ≡ lines (l ∷ []))
unfolding certain_told
certain_spells l line x told = (tt, tested (bytes_eq line (l ++ 10 ∷ [])) refl told)
  where
    tested : (b : Bool) → bytes_eq line (l ++ 10 ∷ []) ≡ b → ◌≡◌ {A = Told (Unit {0})} (if b then Ok tt else nothing) (Ok x) → line ≡ lines (l ∷ [])
    tested true same e = (bytes_eq-Decides line (l ++ 10 ∷ [])).0 same ∙ sym (append-nil (l ++ 10 ∷ []))
    tested false same e = absurd (err_is_no_ok _ x e)

pub certain_reads : (l : Text) (k : ℕ) (t : Text) → Reads (λ (x : Unit {0}) n u. at n u) (λ x. l ∷ []) (λ x. Unit {0}) k (λ s. behind_line (l ++ 10 ∷ []) (at k s)) t
certain_reads l k t =
    like (λ (x : Unit {0}) n u. at n u) (λ x. l ∷ []) (λ x. Unit {0}) k (λ s. told_at (certain_told (l ++ 10 ∷ [])) (at k s) >>= λ r. Ok r.1) (λ s. behind_line (l ++ 10 ∷ []) (at k s))
    (λ s. certain_is (l ++ 10 ∷ []) (at k s)) t
    (after with_rest (λ (x : Unit {0}). l ∷ []) (λ x. Unit {0}) k (λ s. told_at (certain_told (l ++ 10 ∷ [])) (at k s)) (λ (r : Unit {0} × Unread). r.1) t
    (line_reads (certain_told (l ++ 10 ∷ [])) (λ x. l) (λ x. Unit {0}) (certain_spells l) tt tt k t))

-- ---- so many, one after another

module _ {A : Type 0} (read : Unread → Result (A × Unread) ℕ) (told : A → List Text) (P : A → Type 0) (x0 : A) (p0 : P x0)
    (reads : (k : ℕ) (t : Text) → Reads with_rest told P k (λ s. read (at k s)) t) where
  abbrev pub Many : ℕ → List A → Type 0
  Many n xs = AllByRecursion P xs × (length xs ≡ n)

  pub some_many : (n : ℕ) → (xs : List A) × Many n xs
  some_many zero = ([], (tt, refl))
  some_many (suc n) = let later = some_many n in (x0 ∷ later.0, ((p0, later.1.0), ap suc later.1.1))

  pub times_reads : (n k : ℕ) (t : Text) → Reads with_rest (λ (xs : List A). flat_map told xs) (Many n) k (λ s. times read n (at k s)) t
  unfolding times
  times_reads zero k t = given with_rest (λ (xs : List A). flat_map told xs) (Many zero) k [] (tt, refl) refl t
  times_reads (suc n) k t =
      on_from with_rest told P (λ (x : A) (xs : List A). flat_map told xs) (λ x xs. Many n xs) with_rest (λ (xs : List A). flat_map told xs) (Many (suc n)) (λ x xs. x ∷ xs) k (λ s. read (at k s))
      (λ first. times read n first.1 >>= λ others. Ok (first.0 ∷ others.0, others.1)) t
      (λ x p. some_many n)
      (λ x xs p ps. (((p, ps.0), ap suc ps.1), refl))
      (λ x p m u. after with_rest (λ (xs : List A). flat_map told xs) (Many n) m (λ s. times read n (at m s)) (λ (r : List A × Unread). (x ∷ r.0, r.1)) u (times_reads n m u))
      (reads k t)
