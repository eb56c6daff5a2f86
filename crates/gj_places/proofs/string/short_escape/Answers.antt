use Rattle.std.proofs.Common.{arith, refl}
use Rattle.json.specs.Text.{short_escape}
use Rattle.gj_places.proofs.Spelling.{short}
use Rattle.gj_places.proofs.string.short_escape.Goals as goal

pub returns-in-34-clause-some : goal.returns-in-34-clause-some
unfolding short_escape
returns-in-34-clause-some c = short _ 34 34 c.in-34.is refl (omega arith) (omega arith, omega arith)

pub returns-in-92-clause-some : goal.returns-in-92-clause-some
unfolding short_escape
returns-in-92-clause-some c = short _ 92 92 c.in-92.is refl (omega arith) (omega arith, omega arith)

pub returns-in-8-clause-some : goal.returns-in-8-clause-some
unfolding short_escape
returns-in-8-clause-some c = short _ 8 98 c.in-8.is refl (omega arith) (omega arith, omega arith)

pub returns-in-9-clause-some : goal.returns-in-9-clause-some
unfolding short_escape
returns-in-9-clause-some c = short _ 9 116 c.in-9.is refl (omega arith) (omega arith, omega arith)

pub returns-in-10-clause-some : goal.returns-in-10-clause-some
unfolding short_escape
returns-in-10-clause-some c = short _ 10 110 c.in-10.is refl (omega arith) (omega arith, omega arith)

pub returns-in-12-clause-some : goal.returns-in-12-clause-some
unfolding short_escape
returns-in-12-clause-some c = short _ 12 102 c.in-12.is refl (omega arith) (omega arith, omega arith)

pub returns-in-13-clause-some : goal.returns-in-13-clause-some
unfolding short_escape
returns-in-13-clause-some c = short _ 13 114 c.in-13.is refl (omega arith) (omega arith, omega arith)
