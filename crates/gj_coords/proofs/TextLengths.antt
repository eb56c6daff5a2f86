-- Lemmas on how long a text is.
use Rattle.std.proofs.Common.{◌≤◌, length, arith}
use Rattle.gj_coords.specs.declared.fault.Rule.{Rule}
use Rattle.gj_coords.specs.declared.kind.Kind.{Kind}
use Rattle.gj_coords.specs.Texts.{rule_text, kind_text}

pub rule_short : (rule : Rule) → length (rule_text rule) ≤ 37
unfolding rule_text
rule_short Rule.G1 = omega arith
rule_short _ = omega arith

pub kind_short : (kind : Kind) → length (kind_text kind) ≤ 37
unfolding kind_text
kind_short Kind.W1 = omega arith
kind_short _ = omega arith
