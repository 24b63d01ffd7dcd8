-- Pieces go out one after another, while the seat has a task.
use Rattle.std.proofs.Common.{◌≡◌, ℕ, ◌+◌, ◌-◌, ◌<◌, ◌≤◌, Bool, true, false, List, [], ◌∷◌, ◌++◌, length, take, drop, refl, sym, ap, ◌∙◌, subst, arith, append-nil, append_assoc, length-drop, Option, Some, None, inl, inr}
use Rattle.std.specs.Prelude.{OnErr, Result, Ok, Err, min, nat_lt}
use Rattle.std.proofs.lemmas.Bool.Decides.{nat_tests}
use Rattle.std.proofs.lemmas.Grind.{flat_map-append}
use Rattle.std.proofs.lemmas.List.{drop_all, drop-drop, take-append-drop}
use Rattle.std.proofs.lemmas.List.Elements.{All-append, All-cons, All-nil}
use Rattle.qc_types.specs.declared.streams.PutStep.{PutStep}
use Rattle.qc_types.specs.declared.streams.PutStep.TheVariants as put
use Rattle.qc_types.specs.Streams.{BeginsWith}
use Rattle.qc_statements.specs.RowPackets.{GivesPacket}
use Rattle.qc_turn.specs.declared.task.Task.{Task}
use Rattle.qc_serve.specs.declared.ending.End.{End}
use Rattle.qc_serve.specs.declared.ending.End.TheVariants as end
use Rattle.qc_serve.specs.declared.sinks.Piece.{Piece}
use Rattle.qc_serve.specs.Executed.{AllAt, MayFail}
use Rattle.qc_serve.specs.Sent.{Adds, IsPartOf, PutsPart, PutsPiece, Sends, SendsFrontOf, bytes_of, piece}
use Rattle.qc_serve.specs.SentAt.{SendsAt, SendsFrontAt}

-- ---- what was added, and then more

pub adds_both : (a b c : Option (List Piece)) (P Q R : List Piece → Type 0) → Adds a b P → Adds b c Q → ((x y : List Piece) → P x → Q y → R (x ++ y)) → Adds a c R
adds_both None b c P Q R h g f = subst (λ (o : Option (List Piece)). Adds o c Q) h g
adds_both (Some held) b c P Q R (more, is, p) g f =
    let then = subst (λ (o : Option (List Piece)). Adds o c Q) is g in (
      more ++ then.0,
      then.1 ∙ ap (λ (ps : List Piece). Some ps) (append_assoc held more then.0),
      f more then.0 p then.2,
    )

pub adds_none : (held : Option (List Piece)) (P : List Piece → Type 0) → P [] → Adds held held P
adds_none None P p = refl
adds_none (Some held) P p = ([], ap (λ (ps : List Piece). Some ps) (sym (append-nil held)), p)

pub adds_so : (a b : Option (List Piece)) (P Q : List Piece → Type 0) → ((x : List Piece) → P x → Q x) → Adds a b P → Adds a b Q
adds_so None b P Q f h = h
adds_so (Some held) b P Q f (more, is, p) = (more, is, f more p)

-- ---- their bytes

pub bytes_both : (x y : List Piece) → bytes_of (x ++ y) ≡ bytes_of x ++ bytes_of y
bytes_both x y = flat_map-append (λ (p : Piece). p.bytes) x y

pub one_bytes : (bytes : List ℕ) (at : Task) → bytes_of (piece bytes at ∷ []) ≡ bytes
one_bytes bytes at = append-nil bytes

-- these bytes went out behind others, and some are left
pub bytes_on : (x y : List Piece) (next rest all : List ℕ) → bytes_of x ++ (next ++ rest) ≡ all → bytes_of y ≡ next → bytes_of (x ++ y) ++ rest ≡ all
bytes_on x y next rest all before is =
    ap (λ (bs : List ℕ). bs ++ rest) (bytes_both x y ∙ ap (λ (bs : List ℕ). bytes_of x ++ bs) is) ∙ (append_assoc (bytes_of x) next rest ∙ before)

-- a front of the next ones did
pub front_on : (x y : List Piece) (next rest all : List ℕ) → bytes_of x ++ (next ++ rest) ≡ all → BeginsWith next (bytes_of y) → BeginsWith all (bytes_of (x ++ y))
front_on x y next rest all before (r, is) = (
  r ++ rest,
  sym before ∙ (ap (λ (bs : List ℕ). bytes_of x ++ (bs ++ rest)) is
      ∙ (ap (λ (bs : List ℕ). bytes_of x ++ bs) (append_assoc (bytes_of y) r rest)
      ∙ (sym (append_assoc (bytes_of x) (bytes_of y) (r ++ rest)) ∙ ap (λ (bs : List ℕ). bs ++ (r ++ rest)) (sym (bytes_both x y))))),
)

-- what went out so far is a front
pub front_now : (x : List Piece) (rest all : List ℕ) → bytes_of x ++ rest ≡ all → BeginsWith all (bytes_of x)
front_now x rest all is = (rest, sym is)

-- ---- a put that didn't succeed

part_of : (held : List Piece) (out : Option (List Piece)) (bytes : List ℕ) (at : Task) → PutsPart held out bytes at → Adds (Some held) out (IsPartOf bytes at)
part_of held out bytes at (inl is) = ([], is ∙ ap (λ (ps : List Piece). Some ps) (sym (append-nil held)), inl refl)
part_of held out bytes at (inr (prefix, begins, is)) = (piece prefix at ∷ [], is, inr (prefix, begins, refl))

pub part_failed : (held out : Option (List Piece)) (bytes : List ℕ) (at : Task) → PutsPiece put.Failed held out bytes at → Adds held out (IsPartOf bytes at)
part_failed None out bytes at puts = puts
part_failed (Some held) out bytes at puts = part_of held out bytes at puts

pub part_lacking : (held out : Option (List Piece)) (bytes : List ℕ) (at : Task) → PutsPiece put.Memory held out bytes at → Adds held out (IsPartOf bytes at)
part_lacking None out bytes at puts = puts
part_lacking (Some held) out bytes at puts = part_of held out bytes at puts

pub part_bytes : (bytes : List ℕ) (at : Task) (more : List Piece) → IsPartOf bytes at more → BeginsWith bytes (bytes_of more)
part_bytes bytes at more (inl is) = subst (λ (ps : List Piece). BeginsWith bytes (bytes_of ps)) (sym is) (bytes, refl)
part_bytes bytes at more (inr (prefix, begins, is)) = subst (λ (ps : List Piece). BeginsWith bytes (bytes_of ps)) (sym is) (subst (BeginsWith bytes) (sym (one_bytes prefix at)) begins)

-- ---- what went out so far

-- of these bytes only the rest is left
abbrev pub Went : (all rest : List ℕ) (before held : Option (List Piece)) → Type 0
Went all rest before held = Adds before held (λ more. bytes_of more ++ rest ≡ all)

pub went_none : (held : Option (List Piece)) (all : List ℕ) → Went all all held held
went_none held all = adds_none held (λ more. bytes_of more ++ all ≡ all) refl

-- one piece more
pub went_more : (before held out : Option (List Piece)) (all next rest : List ℕ) (at : Task) → Went all (next ++ rest) before held → Adds held out (λ more. more ≡ piece next at ∷ []) → Went all rest before out
went_more before held out all next rest at went puts =
    adds_both before held out (λ more. bytes_of more ++ (next ++ rest) ≡ all) (λ more. more ≡ piece next at ∷ []) (λ more. bytes_of more ++ rest ≡ all) went puts
    (λ x y p q. bytes_on x y next rest all p (ap bytes_of q ∙ one_bytes next at))

-- a front of it
pub went_front : (before held out : Option (List Piece)) (all next rest : List ℕ) (at : Task) → Went all (next ++ rest) before held → Adds held out (IsPartOf next at) → SendsFrontOf before out all
went_front before held out all next rest at went puts =
    adds_both before held out (λ more. bytes_of more ++ (next ++ rest) ≡ all) (IsPartOf next at) (λ more. BeginsWith all (bytes_of more)) went puts
    (λ x y p q. front_on x y next rest all p (part_bytes next at y q))

-- the rest in two parts
pub went_split : (before held : Option (List Piece)) (all rest next behind : List ℕ) (n : ℕ) → next ≡ take n rest → behind ≡ drop n rest → Went all rest before held → Went all (next ++ behind) before held
went_split before held all rest next behind n front back went = subst (λ (l : List ℕ). Went all l before held) (sym ((λ i. front i ++ back i) ∙ take-append-drop n rest)) went

-- no more
pub went_part : (before held : Option (List Piece)) (all rest : List ℕ) → Went all rest before held → SendsFrontOf before held all
went_part before held all rest went = adds_so before held (λ more. bytes_of more ++ rest ≡ all) (λ more. BeginsWith all (bytes_of more)) (λ x p. front_now x rest all p) went

-- all
pub went_all : (before held : Option (List Piece)) (all : List ℕ) → Went all [] before held → Sends before held all
went_all before held all went = adds_so before held (λ more. bytes_of more ++ [] ≡ all) (λ more. bytes_of more ≡ all) (λ x p. sym (append-nil (bytes_of x)) ∙ p) went

-- ---- the seat's task

pub one_at : (bytes : List ℕ) (at t : Task) → at ≡ t → AllAt t (piece bytes at ∷ [])
one_at bytes at t is = All-cons (λ (p : Piece). p.task ≡ t) (piece bytes at) [] is (All-nil (λ (p : Piece). p.task ≡ t))

pub none_at : (t : Task) → AllAt t []
none_at t = All-nil (λ (p : Piece). p.task ≡ t)

pub both_at : (t : Task) (x y : List Piece) → AllAt t x → AllAt t y → AllAt t (x ++ y)
both_at t x y h k = All-append (λ (p : Piece). p.task ≡ t) x y h k

pub part_at : (bytes : List ℕ) (at t : Task) (more : List Piece) → at ≡ t → IsPartOf bytes at more → AllAt t more
part_at bytes at t more same (inl is) = subst (AllAt t) (sym is) (none_at t)
part_at bytes at t more same (inr (prefix, begins, is)) = subst (AllAt t) (sym is) (one_at prefix at t same)

-- of these bytes only the rest is left, and the seat had the task at each piece
abbrev pub Gone : Task → (all rest : List ℕ) (before held : Option (List Piece)) → Type 0
Gone t all rest before held = Adds before held (λ more. (bytes_of more ++ rest ≡ all) × AllAt t more)

pub gone_none : (t : Task) (held : Option (List Piece)) (all : List ℕ) → Gone t all all held held
gone_none t held all = adds_none held (λ more. (bytes_of more ++ all ≡ all) × AllAt t more) (refl, none_at t)

-- one piece more
pub gone_more : (before held out : Option (List Piece)) (all next rest : List ℕ) (at t : Task) → at ≡ t → Gone t all (next ++ rest) before held → Adds held out (λ more. more ≡ piece next at ∷ []) → Gone t all rest before out
gone_more before held out all next rest at t is went puts =
    adds_both before held out (λ more. (bytes_of more ++ (next ++ rest) ≡ all) × AllAt t more) (λ more. more ≡ piece next at ∷ []) (λ more. (bytes_of more ++ rest ≡ all) × AllAt t more) went puts
    (λ x y p q. (
      bytes_on x y next rest all p.0 (ap bytes_of q ∙ one_bytes next at),
      both_at t x y p.1 (subst (AllAt t) (sym q) (one_at next at t is)),
    ))

-- a front of it
pub gone_front : (before held out : Option (List Piece)) (all next rest : List ℕ) (at t : Task) → at ≡ t → Gone t all (next ++ rest) before held → Adds held out (IsPartOf next at) → SendsFrontAt t before out all
gone_front before held out all next rest at t is went puts =
    adds_both before held out (λ more. (bytes_of more ++ (next ++ rest) ≡ all) × AllAt t more) (IsPartOf next at) (λ more. BeginsWith all (bytes_of more) × AllAt t more) went puts
    (λ x y p q. (front_on x y next rest all p.0 (part_bytes next at y q), both_at t x y p.1 (part_at next at t y is q)))

pub front_plain : (t : Task) (held out : Option (List Piece)) (bytes : List ℕ) → SendsFrontAt t held out bytes → SendsFrontOf held out bytes
front_plain t held out bytes front = adds_so held out (λ more. BeginsWith bytes (bytes_of more) × AllAt t more) (λ more. BeginsWith bytes (bytes_of more)) (λ x p. p.0) front

pub gone_went : (t : Task) (all rest : List ℕ) (before held : Option (List Piece)) → Gone t all rest before held → Went all rest before held
gone_went t all rest before held gone = adds_so before held (λ more. (bytes_of more ++ rest ≡ all) × AllAt t more) (λ more. bytes_of more ++ rest ≡ all) (λ x p. p.0) gone

pub gone_all : (t : Task) (all : List ℕ) (before held : Option (List Piece)) → Gone t all [] before held → SendsAt t before held all
gone_all t all before held gone = adds_so before held (λ more. (bytes_of more ++ [] ≡ all) × AllAt t more) (λ more. (bytes_of more ≡ all) × AllAt t more) (λ x p. (sym (append-nil (bytes_of x)) ∙ p.0, p.1)) gone

-- ---- packets that come one after another

pub gave : (more : Bool) (old new : List (List ℕ)) (out : List ℕ) → more ≡ true → GivesPacket more old new out → old ≡ out ∷ new
gave true old new out is gives = gives
gave false old new out is gives = absurd cc

-- ---- an error

pub on_err : {T E : Type 0} (r : Result T E) (P : Type 0) → P → OnErr r P
on_err (Ok x) P p = tt
on_err (Err e) P p = p

-- ---- faults

pub fails_later : (a b c d : ℕ) (e : End) → a ≤ b → c ≤ d → MayFail b c e → MayFail a d e
fails_later a b c d end.WriteFault h k m = omega (arith, h, k, m)
fails_later a b c d end.Memory h k m = tt
fails_later a b c d end.Quit h k m = m
fails_later a b c d end.EndOfInput h k m = m
fails_later a b c d (end.Cut n) h k m = m
fails_later a b c d (end.TooLong n) h k m = m
fails_later a b c d (end.BadSequence found wanted) h k m = m
fails_later a b c d end.ReadFault h k m = m

-- ---- the pieces of a stream

module _ (bytes sent count : ℕ) (all out : List ℕ) (within : length all ≤ bytes) (count_is : count ≡ min 512 (bytes - sent)) (same : take count out ≡ take 512 (drop sent all)) where
  few : nat_lt (bytes - sent) 512 ≡ true → drop (sent + count) all ≡ drop 512 (drop sent all)
  few h =
      let less : bytes - sent < 512 = grind (arith, nat_tests) in
      let cut = length-drop sent all in
      drop_all (sent + count) all (omega (arith, within, count_is, less)) ∙ sym (drop_all 512 (drop sent all) (omega (arith, within, cut, less)))

  many : nat_lt (bytes - sent) 512 ≡ false → drop (sent + count) all ≡ drop 512 (drop sent all)
  many h =
      let more : 512 ≤ bytes - sent = grind (arith, nat_tests) in
      let whole : count ≡ 512 = omega (arith, count_is, more) in
      ap (λ (n : ℕ). drop (sent + n) all) whole ∙ sym (drop-drop 512 sent all)

  rest_is : drop (sent + count) all ≡ drop 512 (drop sent all)
  rest_is = by (nat_lt (bytes - sent) 512) refl
    where
      by : (b : Bool) → nat_lt (bytes - sent) 512 ≡ b → drop (sent + count) all ≡ drop 512 (drop sent all)
      by true h = few h
      by false h = many h

  -- a piece, and what is left behind it
  pub piece_next : take count out ++ drop (sent + count) all ≡ drop sent all
  piece_next = (λ i. same i ++ rest_is i) ∙ take-append-drop 512 (drop sent all)

  -- none is left where no piece came
  pub none_left : count ≡ 0 → drop sent all ≡ []
  none_left none = drop_all sent all (omega (arith, within, count_is, none))
