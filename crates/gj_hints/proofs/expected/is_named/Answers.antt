use Rattle.std.proofs.Common.{◌≡◌, ◌<◌, true, false, length, drop, sym, ◌∙◌, arith}
use Rattle.gj_hints.specs.Expected.{is_named_in}
use Rattle.gj_hints.specs.declared.choice.TheConstants.{CHOICES}
use Rattle.gj_hints.proofs.NamedBytes.{named-next}
use Rattle.gj_hints.proofs.expected.is_named.Goals as goal

pub returns-then-names : goal.returns-then-names
returns-then-names c =
    let named = c.args.named.now in
    let there : c.loop-i.i < length named = omega arith in
    let e : is_named_in c.args.byte (drop c.loop-i.i CHOICES) (drop c.loop-i.i named) ≡ true =
    named-next c.args.byte CHOICES named c.loop-i.i c.loop-i-test.true there true (sym c.if-names.true ∙ c.names.ensures) in
    sym (c.loop-i.invariant ∙ e)

pub loop-i-preserved : goal.loop-i-preserved
loop-i-preserved c =
    let named = c.args.named.now in
    let there : c.loop-i.i < length named = omega arith in
    c.loop-i.invariant
    ∙ named-next c.args.byte CHOICES named c.loop-i.i c.loop-i-test.true there false (sym c.if-names.false ∙ c.names.ensures)
