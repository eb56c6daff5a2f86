use Rattle.std.proofs.Common.{◌≡◌, drop}
use Rattle.gj_hints.specs.Expected.{is_named_in}
use Rattle.gj_hints.specs.declared.choice.TheConstants.{CHOICES}
use Rattle.gj_hints.proofs.expected.is_named.Given as goal

-- the choices so far do not name the byte
abbrev pub invariant-loop-i : goal.invariant-loop-i
invariant-loop-i l = is_named_in l.byte CHOICES l.named ≡ is_named_in l.byte (drop l.i CHOICES) (drop l.i l.named)
