use Rattle.std.proofs.Common.{◌≡◌, ◌≤◌, ℕ, subst}
use Rattle.std.specs.Option.{IfSome, IsSomeAnd}
use Rattle.qc_dir.specs.Directory.{Directory, IsDirectory, entry_at}
use Rattle.qc_dir.specs.Uses.{entries_of}
use Rattle.qc_dir.proofs.DirSteps.{directory}
use Rattle.qc_dir.proofs.Serials.{least-none, least-more, least_some, least_least}
use Rattle.qc_dir.proofs.dir.Dir.candidate_from.Goals as goal

pub loop-serial-init : goal.loop-serial-init
loop-serial-init c = least-none c.args.from c.candidates-serials.result

pub loop-serial-preserved : goal.loop-serial-preserved
loop-serial-preserved c = rw c.least_from-least.ensures (least-more c.args.from c.in-Some.serial c.next.new.self c.candidates-serials.result c.loop-serial.least (rw (c.in-Some.ensures {u = tt}) at c.loop-serial.invariant))

pub returns-clause-some : goal.returns-clause-some
returns-clause-some c =
    let i = c.self.inside in
    subst (λ (d : Directory). IfSome c.loop-serial.least (λ n. (c.args.from ≤ n) × IsSomeAnd (entry_at n d.entries) (λ e. e.hash ≡ c.args.hash))) c.self.view_is
    (least_some c.args.hash c.args.from (entries_of i.entries) c.loop-serial.serials c.candidates-serials.result c.loop-serial.least c.self.invariant.serials c.candidates-serials.ensures c.loop-serial.invariant)

pub returns-clause-least : goal.returns-clause-least
returns-clause-least c =
    let i = c.self.inside in
    subst (λ (d : Directory). (n : ℕ) → c.args.from ≤ n → IsSomeAnd (entry_at n d.entries) (λ e. e.hash ≡ c.args.hash) → IsSomeAnd c.loop-serial.least (λ k. k ≤ n)) c.self.view_is
    (least_least c.args.hash c.args.from (entries_of i.entries) c.loop-serial.serials c.candidates-serials.result c.loop-serial.least c.candidates-serials.ensures c.loop-serial.invariant (c.in_default.ensures {u = tt}).0)

pub returns-clause-valid : goal.returns-clause-valid
returns-clause-valid c = subst (λ (d : Directory). IsDirectory d) c.self.view_is (directory _ _ _ _ _ c.self.invariant)
