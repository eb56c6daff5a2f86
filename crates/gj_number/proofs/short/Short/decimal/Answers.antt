use Rattle.gj_number.proofs.Common.{arith, ints, sym, ◌∙◌}
use Rattle.gj_number.proofs.Shorts.ShortDecimals.{short_zero, short_made}
use Rattle.gj_number.proofs.short.Short.decimal.Goals as goal

pub returns-then-self-eq0 : goal.returns-then-self-eq0
returns-then-self-eq0 c = c.zero.ensures ∙ (rw (c.if-self-eq0.true) (sym (short_zero c.args.self.negative c.args.self.places)))

pub returns : goal.returns
returns c = let s = c.args.self in let z = c.without_zeros-digits in c.new.ensures
    ∙ short_made s.negative s.digits s.places z.result.0 z.result.1 _ c.if-self-eq0.false s.small z.ensures.all z.ensures.last (omega (arith, ints))
