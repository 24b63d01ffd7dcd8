-- A piece is put behind the others.
use Rattle.std.proofs.Common.{◌≡◌, ℕ, ◌+◌, List, [], ◌∷◌, ◌++◌, length, take, drop, sym, subst, ap, ◌∙◌, arith, length-append}
use Rattle.std.proofs.lemmas.List.{take_all, drop_all, take-append-drop, take-append-le, drop-append-le}
use Rattle.qc_serve.specs.Sent.{piece, bytes_of}
use Rattle.qc_app.specs.declared.reply_buffer.PieceEnd.{PieceEnd}
use Rattle.qc_app.specs.ReplyBuffer.{pieces_of, AreCuts}

pub cuts_more : (bytes more : List ℕ) (cuts : List PieceEnd) (c : PieceEnd) → AreCuts bytes cuts → c.bytes ≡ length more → AreCuts (bytes ++ more) (cuts ++ c ∷ [])
cuts_more bytes more [] c are long =
    let is : bytes ++ more ≡ more = ap (λ l. l ++ more) are in
    let all = ap length is in
    (omega (arith, long, all), ap (drop c.bytes) is ∙ drop_all c.bytes more (omega (arith, long)))
cuts_more bytes more (d ∷ cuts) c are long =
    let both = length-append bytes more in
    let within = are.0 in
    (omega (arith, both, within), subst (λ l. AreCuts l (cuts ++ c ∷ [])) (sym (drop-append-le d.bytes bytes more within)) (cuts_more (drop d.bytes bytes) more cuts c are.1 long))

pub pieces_more : (bytes more : List ℕ) (cuts : List PieceEnd) (c : PieceEnd) → AreCuts bytes cuts → c.bytes ≡ length more → pieces_of (bytes ++ more) (cuts ++ c ∷ []) ≡ pieces_of bytes cuts ++ piece more c.task ∷ []
pieces_more bytes more [] c are long =
    let is : bytes ++ more ≡ more = ap (λ l. l ++ more) are in
    let front : take c.bytes (bytes ++ more) ≡ more = ap (take c.bytes) is ∙ take_all c.bytes more (omega (arith, long)) in
    ap (λ l. piece l c.task ∷ []) front
pieces_more bytes more (d ∷ cuts) c are long =
    let rest = pieces_more (drop d.bytes bytes) more cuts c are.1 long in
    let front = take-append-le d.bytes bytes more are.0 in
    let behind = drop-append-le d.bytes bytes more are.0 in
    (λ i. piece (front i) d.task ∷ pieces_of (behind i) (cuts ++ c ∷ [])) ∙ ap (λ l. piece (take d.bytes bytes) d.task ∷ l) rest

pub bytes_are : (bytes : List ℕ) (cuts : List PieceEnd) → AreCuts bytes cuts → bytes_of (pieces_of bytes cuts) ≡ bytes
bytes_are bytes [] are = sym are
bytes_are bytes (d ∷ cuts) are = ap (λ l. take d.bytes bytes ++ l) (bytes_are (drop d.bytes bytes) cuts are.1) ∙ take-append-drop d.bytes bytes
