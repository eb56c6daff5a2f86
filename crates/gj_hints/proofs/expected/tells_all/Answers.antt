use Rattle.std.proofs.Common.{ℕ}
use borrow.Author.Count.{below_more}
use Rattle.gj_hints.specs.Expected.{IsToldOf}
use Rattle.gj_hints.proofs.expected.tells_all.Goals as goal

pub loop-byte-preserved : goal.loop-byte-preserved
loop-byte-preserved c = λ bytes after.
    below_more (λ (k : ℕ). IsToldOf bytes c.args.named.now k) c.loop-byte.byte (c.loop-byte.invariant bytes after)
    (c.tells.ensures c.if-not-tells.false bytes after)
