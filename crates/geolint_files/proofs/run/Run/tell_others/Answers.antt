use Rattle.geolint_files.proofs.Common.{arith, ◌≡◌, ℕ, sym, subst, TellsLines}
use Rattle.std.proofs.lemmas.Result.{on_ok_weaker}
use Rattle.geolint_files.specs.Listed.{others_of}
use Rattle.geolint_files.proofs.Runs.ListedFiles.{TellsLines-none, others_of-some}
use Rattle.geolint_files.proofs.Runs.ToldFiles.{on_ok}
use Rattle.geolint_files.proofs.run.Run.tell_others.Goals as goal

pub returns-then-count-eq0 : goal.returns-then-count-eq0
returns-then-count-eq0 g c =
    let old = c.args.self.now in
    let none : 0 ≡ c.args.count = omega (arith, c.if-count-eq0.true) in
    on_ok c.show.result (subst (λ (n : ℕ). TellsLines g.W.Write.contents (others_of c.args.name.now n) old c.show.new.self) none
    (TellsLines-none g.W.Write.contents old c.show.new.self
    (record { same = c.show.ensures.same; log = c.show.ensures.log; line = c.show.ensures.line; out = c.show.ensures.out })))

pub returns-else-count-eq0 : goal.returns-else-count-eq0
returns-else-count-eq0 g c =
    let old = c.args.self.now in
    let name = c.args.name.now in
    let new = c.tell_more.new.self in
    on_ok_weaker c.tell_more.result (λ told.
    subst (λ lines. TellsLines g.W.Write.contents lines old new) (sym (others_of-some name c.args.count (omega (arith, c.if-count-eq0.false)))) told)
    c.tell_more.ensures
