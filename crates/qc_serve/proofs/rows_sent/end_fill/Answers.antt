use Rattle.std.proofs.Common.{◌≡◌, ℕ, List, [], subst, Option}
use Rattle.qc_flow.specs.declared.fills.Fill.{Fill}
use Rattle.qc_serve.specs.Filling.{Fills, IsGoing}
use Rattle.qc_serve.proofs.Fillings.{whole_stored}
use Rattle.qc_serve.proofs.rows_sent.end_fill.Goals as goal

pub end-requires-clause-whole : goal.end-requires-clause-whole
end-requires-clause-whole g c =
    let seat = c.args.seat.now in
    let f = c.requires.fills in
    let none : f.1.0 ≡ [] = f.1.2 c.if-is_whole.true in
    let going : IsGoing f.0 f.1.0 c.in-Some.fill seat = subst (λ (o : Option Fill). Fills f.0 f.1.0 o seat) c.in-Some.is f.1.1 in
    whole_stored f.0 c.in-Some.fill seat (subst (λ (l : List (List ℕ)). IsGoing f.0 l c.in-Some.fill seat) none going)
