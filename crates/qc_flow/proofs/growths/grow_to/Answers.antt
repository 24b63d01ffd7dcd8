use Rattle.std.proofs.Common.{◌≡◌, ℕ, suc, Result, Ok, Err, ◌-◌, ◌*◌, ◌<◌, ◌∷◌, ◌++◌, [], inl, inr, false, refl, ap, sym, subst, ◌∙◌, arith}
use Rattle.std.specs.Prelude.{nat_le, IfErr}
use Rattle.std.specs.Result.{IsErrAnd}
use Rattle.std.proofs.lemmas.Bool.Decides.{nat_tests}
use Rattle.qc_model.specs.declared.events.Event.{Event}
use Rattle.qc_chain.specs.Words.{words_of}
use Rattle.qc_turn.specs.Seats.{Held, words, holder, MayRelease}
use Rattle.qc_turn.specs.Tasks.{listed_for, own}
use Rattle.qc_turn.specs.declared.task.Task.TheVariants as task
use Rattle.qc_core.specs.Whole.{tasks_of}
use Rattle.qc_core.specs.contracts.server.ServerKept.TheImpl.{ghosts}
use Rattle.qc_core.specs.declared.fill_growth.Short.{Short}
use Rattle.qc_core.specs.declared.server_state.ServerState.{ServerState}
use Rattle.qc_flow.specs.Growths.{HoldFewer, GrowFor, Continues, FillsFor, GrowsShort, AsksBlock, WasShort}
use Rattle.qc_flow.proofs.Holdings.{continues_same, continues_both, grew, grew_block, grew_none, grown_front, grew_more, grew_short, fills_on, asks_more, asked_block, number_on}
use Rattle.qc_flow.proofs.growths.grow_to.Goals as goal

pub loop-held-init : goal.loop-held-init
loop-held-init c =
    let h = c.args.held.now in
    record { stands = c.requires.stands; goes_on = continues_same h; words = refl; blocks = inl refl; fills = c.requires.fills; grown = (0, (refl, refl)) }

pub grow-requires-clause-stands : goal.grow-requires-clause-stands
grow-requires-clause-stands c = subst MayRelease (sym c.holds.ensures.same) c.loop-held.invariant.stands

pub grow-requires-clause-fills : goal.grow-requires-clause-fills
grow-requires-clause-fills c =
    let k = c.loop-held.held in
    let n = c.args.serial in
    let f = subst (FillsFor n c.args.total) (sym c.holds.ensures.same) c.loop-held.invariant.fills in
    let more : nat_le c.args.total (8 * words_of k.ranges.blocks) ≡ false = sym c.holds.ensures.holds ∙ c.loop-held-test.true in
    asks_more n c.args.total c.holds.new.held f (subst (λ (z : Held ServerState Event ghosts). nat_le c.args.total (8 * words_of z.ranges.blocks) ≡ false) (sym c.holds.ensures.same) more)

pub loop-held-preserved : goal.loop-held-preserved
loop-held-preserved c =
    let i = c.loop-held.invariant in
    let k = c.loop-held.held in
    let q = c.holds.new.held in
    let m = c.grow.new.held in
    let n = c.args.serial in
    let e = c.grow.ensures in
    let b = c.in_ok-grow.field-0 in
    let goes = subst (λ (z : Held ServerState Event ghosts). Continues z m) c.holds.ensures.same (grew n q m c.grow.result e.found) in
    let behind = subst (λ (z : Held ServerState Event ghosts). m.ranges.blocks ≡ z.ranges.blocks ++ b ∷ []) c.holds.ensures.same (grew_block n q m c.grow.result b c.in_ok-grow.was e.found) in
    let listed = subst (λ (z : Held ServerState Event ghosts). listed_for (holder z).number (tasks_of m.value) ≡ own (holder z).number (task.Fill n) m.ranges.blocks) c.holds.ensures.same e.listed in
    let lacks : nat_le c.args.total (8 * words_of k.ranges.blocks) ≡ false = sym c.holds.ensures.holds ∙ c.loop-held-test.true in
    let over : 8 * words_of k.ranges.blocks < c.args.total = grind (arith, nat_tests, lacks) in
    record {
      stands = e.stands;
      goes_on = continues_both c.args.held.now k m i.goes_on goes;
      words = e.words ∙ (ap (λ (z : Held ServerState Event ghosts). words z) c.holds.ensures.same ∙ i.words);
      blocks = inr (k.ranges.blocks, b, behind, grown_front c.args.total c.args.held.now.ranges.blocks k.ranges.blocks i.blocks, over);
      fills = fills_on n c.args.total k m i.fills goes listed;
      grown =
          let seat = (holder c.args.held.now).number in
          let number : seat ≡ (holder q).number = sym (ap (λ (z : Held ServerState Event ghosts). (holder z).number) c.holds.ensures.same ∙ number_on c.args.held.now k i.goes_on) in
          let asked = subst (λ (z : Held ServerState Event ghosts). AsksBlock seat n z.value z.ranges m.value m.ranges (Ok b)) c.holds.ensures.same (asked_block seat n q m c.grow.result (Ok b) c.in_ok-grow.was number e.found) in
          (suc i.grown.0, (k.value, k.ranges, i.grown.1, (b, asked)));
    }

pub loop-held-smaller : goal.loop-held-smaller
loop-held-smaller c =
    let k = c.loop-held.held in
    let q = c.holds.new.held in
    let m = c.grow.new.held in
    let stands = subst MayRelease (sym c.holds.ensures.same) c.loop-held.invariant.stands in
    let longer = grew_more c.args.serial q m c.grow.result c.in_ok-grow.field-0 c.in_ok-grow.was stands c.grow.ensures.found in
    let more : words_of k.ranges.blocks < words_of m.ranges.blocks = subst (λ (z : Held ServerState Event ghosts). words_of z.ranges.blocks < words_of m.ranges.blocks) c.holds.ensures.same longer in
    let lacks : nat_le c.args.total (8 * words_of k.ranges.blocks) ≡ false = sym c.holds.ensures.holds ∙ c.loop-held-test.true in
    let over : 8 * words_of k.ranges.blocks < c.args.total = grind (arith, nat_tests, lacks) in
    less_left c.args.total (words_of k.ranges.blocks) (words_of m.ranges.blocks) more over
  where
    less_left : (total old new : ℕ) → old < new → 8 * old < total → total - 8 * new < total - 8 * old
    less_left total old new a b = omega (arith, a, b)

pub returns-in_err-grow-clause-stands : goal.returns-in_err-grow-clause-stands
returns-in_err-grow-clause-stands c =
    let i = c.loop-held.invariant in
    let k = c.loop-held.held in
    let m = c.grow.new.held in
    let goes = subst (λ (z : Held ServerState Event ghosts). Continues z m) c.holds.ensures.same (grew c.args.serial c.holds.new.held m c.grow.result c.grow.ensures.found) in
    (c.grow.ensures.stands, continues_both c.args.held.now k m i.goes_on goes)

pub returns-in_err-grow-clause-fills : goal.returns-in_err-grow-clause-fills
returns-in_err-grow-clause-fills c =
    let i = c.loop-held.invariant in
    let k = c.loop-held.held in
    let m = c.grow.new.held in
    let n = c.args.serial in
    let goes = subst (λ (z : Held ServerState Event ghosts). Continues z m) c.holds.ensures.same (grew n c.holds.new.held m c.grow.result c.grow.ensures.found) in
    let listed = subst (λ (z : Held ServerState Event ghosts). listed_for (holder z).number (tasks_of m.value) ≡ own (holder z).number (task.Fill n) m.ranges.blocks) c.holds.ensures.same c.grow.ensures.listed in
    fills_on n c.args.total k m i.fills goes listed

pub returns-in_err-grow-clause-blocks : goal.returns-in_err-grow-clause-blocks
returns-in_err-grow-clause-blocks c =
    let k = c.loop-held.held in
    let m = c.grow.new.held in
    let same = subst (λ (z : Held ServerState Event ghosts). m.ranges.blocks ≡ z.ranges.blocks) c.holds.ensures.same (grew_none c.args.serial c.holds.new.held m c.grow.result c.in_err-grow.field-0.0 c.in_err-grow.was c.grow.ensures.found) in
    subst (GrowFor c.args.total c.args.held.now.ranges.blocks) (sym same) c.loop-held.invariant.blocks

-- the error that is handed on
handed_on : {A : Type 0} (r : Result A Short) (e : Short) (P : Short → Type 0) → IsErrAnd r (λ x. x ≡ e) → P e → IfErr r P
handed_on (Ok x) e P h p = tt
handed_on (Err x) e P h p = subst P (sym h) p

pub returns-in_err-grow-clause-err : goal.returns-in_err-grow-clause-err
returns-in_err-grow-clause-err c =
    let k = c.loop-held.held in
    let m = c.grow.new.held in
    let n = c.args.serial in
    let e = c.in_err-grow.field-0.0 in
    let short = grew_short n c.holds.new.held m c.grow.result e c.in_err-grow.was c.grow.ensures.stands c.grow.ensures.found in
    let same = subst (λ (z : Held ServerState Event ghosts). m.ranges.blocks ≡ z.ranges.blocks) c.holds.ensures.same (grew_none n c.holds.new.held m c.grow.result e c.in_err-grow.was c.grow.ensures.found) in
    let lacks : nat_le c.args.total (8 * words_of k.ranges.blocks) ≡ false = sym c.holds.ensures.holds ∙ c.loop-held-test.true in
    let over : 8 * words_of k.ranges.blocks < c.args.total = grind (arith, nat_tests, lacks) in
    handed_on c.from_residual.result e (λ x. WasShort n m.value x × HoldFewer m.ranges.blocks c.args.total) c.from_residual.ensures.1 (short, subst (λ bs. HoldFewer bs c.args.total) (sym same) over)

pub returns-in_err-grow-clause-grown : goal.returns-in_err-grow-clause-grown
returns-in_err-grow-clause-grown c =
    let i = c.loop-held.invariant in
    let k = c.loop-held.held in
    let q = c.holds.new.held in
    let m = c.grow.new.held in
    let n = c.args.serial in
    let e = c.in_err-grow.field-0.0 in
    let s = c.args.held.now in
    let seat = (holder s).number in
    let number : seat ≡ (holder q).number = sym (ap (λ (z : Held ServerState Event ghosts). (holder z).number) c.holds.ensures.same ∙ number_on s k i.goes_on) in
    let asked = subst (λ (z : Held ServerState Event ghosts). AsksBlock seat n z.value z.ranges m.value m.ranges (Err e)) c.holds.ensures.same (asked_block seat n q m c.grow.result (Err e) c.in_err-grow.was number c.grow.ensures.found) in
    handed_on c.from_residual.result e (GrowsShort seat n s.value s.ranges m.value m.ranges) c.from_residual.ensures.1
    (record { count = i.grown.0; server = k.value; ranges = k.ranges; grown = i.grown.1; last = asked })
