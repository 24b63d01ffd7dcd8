-- Packets one behind the other.
use Rattle.std.proofs.Common.{◌≡◌, ℕ, ◌+◌, ◌%◌, List, [], ◌∷◌, ◌++◌, length, map, refl, sym, ap, ◌∙◌}
use Rattle.std.specs.List.{concat}
use Rattle.std.proofs.lemmas.List.{append_assoc, append-nil}
use mathlib.Core.List.{map-map}
use Rattle.qc_types.specs.declared.names.Value.{Value}
use Rattle.qc_sql.specs.declared.replies.ColumnDef.{ColumnDef}
use Rattle.qc_sql.specs.declared.replies.Reply.TheVariants as reply
use Rattle.qc_sql.specs.Packets.{packet, packet_list, numbered, count_payload, column_payload, row_payload, eof_payload}
use Rattle.qc_sql.specs.Rows.{text_of}
use Rattle.qc_statements.specs.Answers.{Appends, head_payloads, tail_payloads, value_payload}

-- one packet more
pub one_more : (n : ℕ) (p : List ℕ) (old new : List ℕ) → new ≡ old ++ packet n p → Appends (p ∷ []) n old ((n + 1) % 256) new
one_more n p old new e behind = sym (append_assoc old (packet n p) (concat (numbered ((n + 1) % 256) behind))) ∙ ap (λ (x : List ℕ). x ++ concat (numbered ((n + 1) % 256) behind)) (sym e)

pub none_more : (n : ℕ) (old : List ℕ) → Appends [] n old n old
none_more n old behind = refl

-- some packets more, and then others
pub then_more : (ps qs : List (List ℕ)) (n m k : ℕ) (a b c : List ℕ) → Appends ps n a m b → Appends qs m b k c → Appends (ps ++ qs) n a k c
then_more ps qs n m k a b c f g behind = ap (λ (l : List (List ℕ)). a ++ concat (numbered n l)) (append_assoc ps qs behind) ∙ f (qs ++ behind) ∙ g behind

-- the last packets
pub all_put : (ps : List (List ℕ)) (n m : ℕ) (old new : List ℕ) → Appends ps n old m new → new ≡ old ++ concat (numbered n ps)
all_put ps n m old new f = sym (append-nil new) ∙ sym (f []) ∙ ap (λ (l : List (List ℕ)). old ++ concat (numbered n l)) (append-nil ps)

-- the whole reply, of what stands in front of the rows and of the rest
pub whole_is : (columns : List ColumnDef) (rows : List (List Value)) (status : ℕ)
    → numbered 1 (head_payloads columns status ++ tail_payloads rows status) ≡ packet_list (reply.Rows columns (map (map text_of) rows) status)
whole_is columns rows status =
    let eof = eof_payload status in
    let texts : map value_payload rows ≡ map row_payload (map (map text_of) rows) = sym (map-map row_payload (map text_of) rows) in
    ap (λ (l : List (List ℕ)). numbered 1 (count_payload (length columns) ∷ l))
    (append_assoc (map column_payload columns) (eof ∷ []) (map value_payload rows ++ eof ∷ []) ∙ ap (λ (l : List (List ℕ)). map column_payload columns ++ eof ∷ (l ++ eof ∷ [])) texts)
