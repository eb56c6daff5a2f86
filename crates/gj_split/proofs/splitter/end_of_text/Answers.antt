use Rattle.gj_split.proofs.Common.{ap, arith, bytes_between, false, if◌then◌else◌, length, line_feed, ne_eqb, rules, sym, true, ◌+◌, ◌-◌, ◌∙◌, ◌≡◌}
use Rattle.gj_split.proofs.Common.{◌≤◌}
use Rattle.std.proofs.Common.{get_or, nat_eq}
use Rattle.std.proofs.lemmas.Bool.{eq-eqb}
use Rattle.gj_split.proofs.RecordTexts.{read_text}
use Rattle.gj_split.proofs.splitter.end_of_text.Goals as goal

pub returns-then-byte-eq10 : goal.returns-then-byte-eq10
returns-then-byte-eq10 g c = λ bytes k.
    let one : length c.read_at.new.piece ≡ 1 = search rules in
    let end : c.args.found.now.end ≡ c.args.found.now.end - 1 + 1 = omega (arith, c.if-found.false) in
    let from : c.args.found.now.place ≤ c.args.found.now.end - 1 = omega (arith, c.if-found.false) in
    let is : nat_eq (get_or c.read_at.new.piece 0 0) line_feed ≡ true = eq-eqb _ _ c.if-byte-eq10.true in
    sym (read_text _ g.R.Ranges.text c.args.found.now.place (c.args.found.now.end - 1) c.args.found.now.end c.in-Ok._count c.read_at.new.piece bytes
    c.in-Ok.ensures.bytes k c.in-Ok._count-test.1 one end from
    ∙ ap (λ t. if t then bytes_between c.args.found.now.place (c.args.found.now.end - 1) bytes
    else bytes_between c.args.found.now.place c.args.found.now.end bytes) is)

pub returns-else-byte-eq10 : goal.returns-else-byte-eq10
returns-else-byte-eq10 g c = λ bytes k.
    let one : length c.read_at.new.piece ≡ 1 = search rules in
    let end : c.args.found.now.end ≡ c.args.found.now.end - 1 + 1 = omega (arith, c.if-found.false) in
    let from : c.args.found.now.place ≤ c.args.found.now.end - 1 = omega (arith, c.if-found.false) in
    let is : nat_eq (get_or c.read_at.new.piece 0 0) line_feed ≡ false = ne_eqb _ _ c.if-byte-eq10.false in
    sym (read_text _ g.R.Ranges.text c.args.found.now.place (c.args.found.now.end - 1) c.args.found.now.end c.in-Ok._count c.read_at.new.piece bytes
    c.in-Ok.ensures.bytes k c.in-Ok._count-test.1 one end from
    ∙ ap (λ t. if t then bytes_between c.args.found.now.place (c.args.found.now.end - 1) bytes
    else bytes_between c.args.found.now.place c.args.found.now.end bytes) is)
