-- What is read of the key of a select's text is what it was made of.
use Rattle.std.proofs.Common.{◌≡◌, ◌<◌, ◌^◌, ℕ, Bool, true, false, List, [], ◌∷◌, ◌++◌, length, take, drop, refl, sym, ap, subst, ◌∙◌, append_assoc}
use Rattle.std.specs.Prelude.{◌==◌}
use Rattle.std.proofs.lemmas.Bool.{and_from}
use Rattle.std.proofs.lemmas.List.{take_at}
use Rattle.std.proofs.lemmas.Nat.{from_le_bytes-to_le_bytes_2, from_le_bytes-to_le_bytes_8}
use Rattle.qc_sql.specs.declared.session.Flags.{Flags}
use Rattle.qc_sql.specs.Keys.{flag_byte, flag_bytes, key_bytes}
use Rattle.qc_sql.specs.Grammar.{trimmed}
use Rattle.qc_sql.proofs.Keys.{charset_fits}
use Rattle.qc_sql.proofs.Untouched.{bytes_eq_self}
use Rattle.qc_model.specs.Session.{State, KeyParts, flags_from, flags_of, is_key_of, key_of_text, parts_of}
use Rattle.qc_laws.specs.history.Answers.{CanBeKeyed}

bit_again : (b : Bool) → (flag_byte b == 1) ≡ b
bit_again true = refl
bit_again false = refl

flags_again : (f : Flags) → f.charset < 2 ^ 16 → f.row_limit < 2 ^ 64 → flags_from (flag_bytes f) ≡ f
flags_again f c l = λ i. record {
  in_trans = bit_again f.in_trans i;
  autocommit = bit_again f.autocommit i;
  charset = from_le_bytes-to_le_bytes_2 f.charset c i;
  ansi = bit_again f.ansi i;
  row_limit = from_le_bytes-to_le_bytes_8 f.row_limit l i;
  protocol_form = f.protocol_form;
  row_form = f.row_form;
}

drop_prefix : (xs ys : List ℕ) → drop (length xs) (xs ++ ys) ≡ ys
drop_prefix [] ys = refl
drop_prefix (x ∷ xs) ys = drop_prefix xs ys

key_parts : (f : Flags) (db text : List ℕ) → f.charset < 2 ^ 16 → f.row_limit < 2 ^ 64 → parts_of (key_bytes f db text) ≡ record { flags = f; db = db; text = text }
key_parts f db text c l =
    let n = length db in
    let rest : db ++ flag_bytes f ++ text ≡ db ++ (flag_bytes f ++ text) = append_assoc db (flag_bytes f) text in
    let name : take n (db ++ flag_bytes f ++ text) ≡ db = ap (take n) rest ∙ take_at db (flag_bytes f ++ text) n refl in
    let left : drop n (db ++ flag_bytes f ++ text) ≡ flag_bytes f ++ text = ap (drop n) rest ∙ drop_prefix db (flag_bytes f ++ text) in
    let flags : flags_from (take 15 (drop n (db ++ flag_bytes f ++ text))) ≡ f = ap (λ bytes. flags_from (take 15 bytes)) left ∙ flags_again f c l in
    let end : drop 15 (drop n (db ++ flag_bytes f ++ text)) ≡ text = ap (drop 15) left in
    λ i. record { flags = flags i; db = name i; text = end i }

parts_are : State → List ℕ → KeyParts
parts_are state text = record { flags = flags_of state; db = state.db; text = trimmed text }

pub parts_is : (state : State) (text : List ℕ) → CanBeKeyed state → parts_of (key_of_text state text) ≡ record { flags = flags_of state; db = state.db; text = trimmed text }
parts_is state text k = key_parts (flags_of state) state.db (trimmed text) (charset_fits (flags_of state) state.db k.values) k.limit

-- and its bytes are those of a key
pub is_key : (state : State) (text : List ℕ) → CanBeKeyed state → is_key_of (parts_of (key_of_text state text)) (key_of_text state text) ≡ true
is_key state text k =
    let key = key_of_text state text in
    subst (λ (p : KeyParts). is_key_of p key ≡ true) (sym (parts_is state text k))
    (and_from _ _ k.values (bytes_eq_self key))
