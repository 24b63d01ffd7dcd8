-- Texts that are joined, and how long they are together.
use Rattle.std.proofs.Common.{◌≡◌, ℕ, ◌+◌, ◌-◌, ◌<◌, ◌≤◌, Bool, true, false, List, [], ◌∷◌, ◌++◌, length, map, take, drop, get_or, Option, Some, None, refl, sym, ap, ◌∙◌, arith, length-append, append_assoc, if◌then◌else◌, add-one, append-nil}
use borrow.Author.Tests.{lt-ltb, le-ltb, ltb-true}
use Rattle.std.proofs.lemmas.Bool.{lt-leb, le-leb, leb-false, leb-true}
use Rattle.std.proofs.lemmas.List.{take-append-le}
use Rattle.std.proofs.Math.Seq.{take-append_seam}
use Rattle.std.specs.Fmt.{digits}
use Rattle.std.proofs.lemmas.List.{take-append-drop, take_more, map-append}
use Rattle.qc_resolve.specs.Meaning.{present_value}
use Rattle.qc_sql.specs.Rows.{length_value}
use Rattle.qc_table.specs.Views.{text_value}
use Rattle.qc_eval.specs.Buffered.{Buffered}
use Rattle.qc_eval.specs.Texts.{size_value, present_size, fits, Puts, HasPut}
use Rattle.std.specs.Prelude.{option_map, option_and_then, unwrap_or, nat_lt, nat_le}
use Rattle.std.proofs.Math.Seq.{drop-cons}
use Rattle.qc_types.specs.declared.names.Value.{Value}
use Rattle.qc_types.specs.declared.names.Value.TheVariants as value
use Rattle.qc_sql.specs.Rows.{text_of, concat_texts, concat_value}
use Rattle.qc_eval.specs.Texts.{text_size}

-- what two texts are together, where both are there
abbrev pub both_texts : Option (List ℕ) → Option (List ℕ) → Option (List ℕ)
both_texts a b = option_and_then (λ t. option_map (λ ts. t ++ ts) b) a

regroup : (a b c : Option (List ℕ)) → both_texts a (both_texts b c) ≡ both_texts (both_texts a b) c
regroup None b c = refl
regroup (Some a) None c = refl
regroup (Some a) (Some b) None = refl
regroup (Some a) (Some b) (Some c) = ap Some (sym (append_assoc a b c))

pub concat-append : (xs ys : List Value) → concat_texts (xs ++ ys) ≡ both_texts (concat_texts xs) (concat_texts ys)
concat-append [] ys = one (concat_texts ys)
  where
    one : (t : Option (List ℕ)) → t ≡ both_texts (Some []) t
    one None = refl
    one (Some t) = refl
concat-append (x ∷ xs) ys = ap (both_texts (text_of x)) (concat-append xs ys) ∙ regroup (text_of x) (concat_texts xs) (concat_texts ys)

-- of texts together that are there, each is, and none is longer
together : (a b : Option (List ℕ)) (n : ℕ) → option_map length a ≡ Some n → 65535 < n → text_size (concat_value (both_texts a b)) ≡ None
together None b n e long = absurd cc
together (Some a) None n e long = refl
together (Some a) (Some b) n e long =
    let is : length a ≡ n = cc in
    let over : nat_lt 65535 (length (a ++ b)) ≡ true = lt-ltb 65535 (length (a ++ b)) (omega (arith, length-append a b)) in rw over refl

pub size_more : (xs : List Value) (v : Value) (n m : ℕ) → option_map length (concat_texts xs) ≡ Some n → text_size v ≡ Some m → option_map length (concat_texts (xs ++ v ∷ [])) ≡ Some (n + m)
size_more xs v n m e f = rw (concat-append xs (v ∷ [])) (one (concat_texts xs) (text_of v) e f)
  where
    one : (a b : Option (List ℕ)) → option_map length a ≡ Some n → option_map length b ≡ Some m → option_map length (both_texts a (both_texts b (Some []))) ≡ Some (n + m)
    one None b e f = absurd cc
    one (Some a) None e f = absurd cc
    one (Some a) (Some b) e f = let p : length a ≡ n = cc in let q : length b ≡ m = cc in ap Some (length-append a (b ++ []) ∙ (λ i. p i + length (b ++ [])) ∙ ap (λ k. n + k) (length-append b [] ∙ omega (arith, q)))

pub size_none : (xs : List Value) (v : Value) (ys : List Value) → text_size v ≡ None → text_size (concat_value (concat_texts (xs ++ v ∷ ys))) ≡ None
size_none xs v ys e = rw (concat-append xs (v ∷ ys)) (one (concat_texts xs) (text_of v) e)
  where
    one : (a b : Option (List ℕ)) → option_map length b ≡ None → text_size (concat_value (both_texts a (both_texts b (concat_texts ys)))) ≡ None
    one None b e = refl
    one (Some a) None e = refl
    one (Some a) (Some b) e = absurd cc

pub size_over : (xs : List Value) (v : Value) (ys : List Value) (n m : ℕ) → option_map length (concat_texts xs) ≡ Some n → text_size v ≡ Some m → 65535 < n + m → text_size (concat_value (concat_texts (xs ++ v ∷ ys))) ≡ None
size_over xs v ys n m e f long =
    rw (← append_assoc xs (v ∷ []) ys) (rw (concat-append (xs ++ v ∷ []) ys) (together (concat_texts (xs ++ v ∷ [])) (concat_texts ys) (n + m) (size_more xs v n m e f) long))

pub size_all : (t : Option (List ℕ)) (n : ℕ) → option_map length t ≡ Some n → n ≤ 65535 → text_size (concat_value t) ≡ Some n
size_all None n e short = absurd cc
size_all (Some t) n e short = let is : length t ≡ n = cc in let no : nat_lt 65535 (length t) ≡ false = le-ltb 65535 (length t) (omega arith) in rw no (ap Some is)

-- ---- one part after another

module _ {X : Type 0} (f : X → Value) where
  before_and_at : (xs : List X) (i : ℕ) (x : X) → i < length xs → x ≡ get_or xs i x → map f xs ≡ map f (take i xs) ++ f x ∷ map f (drop (i + 1) xs)
  before_and_at xs i x h is =
      ap (map f) (sym (take-append-drop i xs)) ∙ map-append f (take i xs) (drop i xs)
      ∙ ap (λ rest. map f (take i xs) ++ map f rest) (drop-cons xs i x h ∙ (λ k. sym is k ∷ drop (sym (add-one i) k) xs))

  pub part_more : (xs : List X) (i : ℕ) (x : X) (n m : ℕ) → i < length xs → x ≡ get_or xs i x → option_map length (concat_texts (map f (take i xs))) ≡ Some n → text_size (f x) ≡ Some m
      → option_map length (concat_texts (map f (take (i + 1) xs))) ≡ Some (n + m)
  part_more xs i x n m h is e s = rw (take_more xs i x h, ← is, map-append f (take i xs) (x ∷ [])) (size_more (map f (take i xs)) (f x) n m e s)

  pub part_none : (xs : List X) (i : ℕ) (x : X) → i < length xs → x ≡ get_or xs i x → text_size (f x) ≡ None → text_size (concat_value (concat_texts (map f xs))) ≡ None
  part_none xs i x h is s = rw (before_and_at xs i x h is) (size_none (map f (take i xs)) (f x) (map f (drop (i + 1) xs)) s)

  pub part_over : (xs : List X) (i : ℕ) (x : X) (n m : ℕ) → i < length xs → x ≡ get_or xs i x → option_map length (concat_texts (map f (take i xs))) ≡ Some n → text_size (f x) ≡ Some m → 65535 < n + m
      → text_size (concat_value (concat_texts (map f xs))) ≡ None
  part_over xs i x n m h is e s long = rw (before_and_at xs i x h is) (size_over (map f (take i xs)) (f x) (map f (drop (i + 1) xs)) n m e s long)

-- whether a value is there has one digit
pub present_size_is : (v : Value) → text_size (present_value v) ≡ Some 1
unfolding digits
present_size_is value.Null = refl
present_size_is (value.Int n) = refl
present_size_is (value.Str t) = refl

pub present_by_size : (v : Value) → present_size (text_size v) ≡ present_value v
present_by_size value.Null = refl
present_by_size (value.Int n) = refl
present_by_size (value.Str t) = refl

pub length_by_size : (t : Option (List ℕ)) → size_value (option_map length t) ≡ length_value t
length_by_size None = refl
length_by_size (Some t) = refl

-- ---- texts that are put one behind the other

-- a joined text is there where the texts of its parts are and are short enough together
pub puts_joined : (t : Option (List ℕ)) (room : ℕ) (put : Bool) (old new : Buffered) → room ≤ 65535 → Puts t room put old new → Puts (text_of (concat_value t)) room put old new
puts_joined None room put old new h p = p
puts_joined (Some t) room put old new h p = by_size (nat_lt 65535 (length t)) refl
  where
    by_size : (long : Bool) → nat_lt 65535 (length t) ≡ long → Puts (text_of (concat_value (Some t))) room put old new
    by_size false e = rw e p
    by_size true e =
        let over : nat_le (length t) room ≡ false = lt-leb (length t) room (omega (arith, ltb-true 65535 (length t) e)) in
        let no : put ≡ false = p.answer ∙ over in
        rw e (record { answer = no; whole = λ yes. absurd (let both : true ≡ false = sym yes ∙ no in cc); prefix = p.prefix; within = p.within; capacity = p.capacity })

module _ {X : Type 0} (f : X → Value) where
  -- the texts of the first parts, and that of the next
  pub texts_more : (xs : List X) (i : ℕ) (x : X) → i < length xs → x ≡ get_or xs i x → concat_texts (map f (take (i + 1) xs)) ≡ both_texts (concat_texts (map f (take i xs))) (text_of (f x))
  texts_more xs i x h is = rw (take_more xs i x h, ← is, map-append f (take i xs) (x ∷ []), concat-append (map f (take i xs)) (f x ∷ [])) (ap (both_texts (concat_texts (map f (take i xs)))) (alone (text_of (f x))))
    where
      alone : (t : Option (List ℕ)) → both_texts t (Some []) ≡ t
      alone None = refl
      alone (Some t) = ap Some (append-nil t)

  -- all texts, by the first parts, the next one and the others
  pub texts_around : (xs : List X) (i : ℕ) (x : X) → i < length xs → x ≡ get_or xs i x → concat_texts (map f xs) ≡ both_texts (both_texts (concat_texts (map f (take i xs))) (text_of (f x))) (concat_texts (map f (drop (i + 1) xs)))
  texts_around xs i x h is =
      ap concat_texts (before_and_at f xs i x h is) ∙ concat-append (map f (take i xs)) (f x ∷ map f (drop (i + 1) xs)) ∙ regroup (concat_texts (map f (take i xs))) (text_of (f x)) (concat_texts (map f (drop (i + 1) xs)))

-- nothing is put yet
pub nothing_put : (room : ℕ) (old : Buffered) → HasPut (Some []) room room old old
nothing_put room old = record { text = []; is = refl; behind = sym (append-nil old.bytes); left_over = omega arith; capacity = omega arith }

-- what is there, of a text that fits
fitting : (room : ℕ) (t : Option (List ℕ)) → true ≡ fits room t → (u : List ℕ) × (t ≡ Some u) × (length u ≤ room)
fitting room None e = absurd cc
fitting room (Some t) e = (t, refl, leb-true (length t) room (sym e))

pub put_more : (a b : Option (List ℕ)) (room left : ℕ) (old now new : Buffered) → HasPut a room left old now → Puts b left true now new → HasPut (both_texts a b) room (left - (length new.bytes - length now.bytes)) old new
put_more a b room left old now new h p =
    let u = fitting left b p.answer in
    let new_is : new.bytes ≡ now.bytes ++ u.0 = p.whole refl ∙ ap (λ t. now.bytes ++ unwrap_or t []) u.1 in
    let size : length new.bytes ≡ length now.bytes + length u.0 = ap length new_is ∙ length-append now.bytes u.0 in
    record {
      text = h.text ++ u.0;
      is = (λ i. both_texts (h.is i) (u.1 i));
      behind = new_is ∙ ap (λ t. t ++ u.0) h.behind ∙ append_assoc old.bytes h.text u.0;
      left_over = rw (length-append h.text u.0) (let l = h.left_over in let s = u.2 in omega (arith, size));
      capacity = let k = h.capacity in let m = p.capacity in omega arith;
    }

pub put_all : (a : Option (List ℕ)) (room left : ℕ) (old now : Buffered) → HasPut a room left old now → Puts a room true old now
put_all a room left old now h =
    let l = h.left_over in
    record {
      answer = rw h.is (sym (le-leb (length h.text) room (omega arith)));
      whole = λ e. rw h.is h.behind;
      prefix = rw h.behind (take-append_seam old.bytes h.text);
      within = rw (h.behind, length-append old.bytes h.text) (omega arith);
      capacity = h.capacity;
    }

not_fitting : (a : List ℕ) (b c : Option (List ℕ)) (room left : ℕ) → left + length a ≡ room → false ≡ fits left b → fits room (both_texts (both_texts (Some a) b) c) ≡ false
not_fitting a None c room left e f = refl
not_fitting a (Some b) None room left e f = refl
not_fitting a (Some b) (Some c) room left e f =
    let long : left < length b = leb-false (length b) left (sym f) in
    rw (length-append (a ++ b) c, length-append a b) (lt-leb (length a + length b + length c) room (omega arith))

pub put_not : (a b c : Option (List ℕ)) (room left : ℕ) (old now new : Buffered) → HasPut a room left old now → Puts b left false now new → Puts (both_texts (both_texts a b) c) room false old new
put_not a b c room left old now new h p =
    let l = h.left_over in
    let long : length now.bytes ≡ length old.bytes + length h.text = ap length h.behind ∙ length-append old.bytes h.text in
    record {
      answer = sym (rw h.is (not_fitting h.text b c room left h.left_over p.answer));
      whole = λ e. absurd (let no : false ≡ true = e in cc);
      prefix = prefix_of_prefix;
      within = let w = p.within in omega (arith, long);
      capacity = let k = h.capacity in let m = p.capacity in omega arith;
    }
  where
    prefix_of_prefix : take (length old.bytes) new.bytes ≡ old.bytes
    prefix_of_prefix =
        let now_long : length now.bytes ≡ length old.bytes + length h.text = ap length h.behind ∙ length-append old.bytes h.text in
        ap (take (length old.bytes)) (sym (take-append-drop (length now.bytes) new.bytes)) ∙ ap (λ t. take (length old.bytes) (t ++ drop (length now.bytes) new.bytes)) p.prefix
        ∙ take-append-le (length old.bytes) now.bytes (drop (length now.bytes) new.bytes) (omega (arith, now_long))
        ∙ ap (take (length old.bytes)) h.behind ∙ take-append_seam old.bytes h.text

-- a joined text is a text or NULL
pub text_again : (t : Option (List ℕ)) → text_value (text_of (concat_value t)) ≡ concat_value t
text_again None = refl
text_again (Some t) = one (nat_lt 65535 (length t))
  where
    one : (long : Bool) → text_value (text_of (if long then value.Null else value.Str t)) ≡ (if long then value.Null else value.Str t)
    one true = refl
    one false = refl

pub ruleset sizes_tell = (present_by_size, length_by_size)
