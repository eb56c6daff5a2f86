use Rattle.std.proofs.Common.{rules, ◌≡◌, ◌∙◌, false, nat_eq}
use Rattle.std.proofs.lemmas.Bool.{ne_eqb}
use Rattle.geolint_report.proofs.GivenNames.{with-nul, after-nul, no-room, with-room}
use Rattle.geolint_report.proofs.name_lists.names.add_byte.Goals.{else-not-has_nul-via-then-not-has_nul+else-len-lt-LONGEST_NAME, else-not-has_nul-via-else-not-has_nul}
use Rattle.geolint_report.proofs.name_lists.names.add_byte.Goals as goal

pub returns-then-byte-eq0 : goal.returns-then-byte-eq0
returns-then-byte-eq0 c = λ begun is nul. with-nul _ begun _ c.if-byte-eq0.true is

pub returns-in_ok-push : goal.returns-in_ok-push
returns-in_ok-push c = λ begun is nul.
    let other : nat_eq c.args.byte 0 ≡ false = ne_eqb c.args.byte 0 c.if-byte-eq0.false in
    let (more, same) = with-room c.args.name.now.items begun c.args.has_nul.now c.args.byte c.if-not-has_nul.true other
    (search (rules, c.if-len-lt-LONGEST_NAME.true, c.len.ensures)) is nul in
    (c.in_ok-push.ensures.items ∙ more, same)

pub returns-else-not-has_nul : goal.returns-else-not-has_nul
returns-else-not-has_nul c = λ begun is nul.
    let other : nat_eq c.args.byte 0 ≡ false = ne_eqb c.args.byte 0 c.if-byte-eq0.false in
    elim c.else-not-has_nul.branch [
      | else-not-has_nul-via-then-not-has_nul+else-len-lt-LONGEST_NAME w ↦ no-room c.args.name.now.items begun c.args.has_nul.now c.args.byte
          w.if-not-has_nul.true other (search (rules, w.if-len-lt-LONGEST_NAME.false, w.len.ensures)) is nul
      | else-not-has_nul-via-else-not-has_nul w ↦ after-nul _ begun _ _ w.if-not-has_nul.false is nul
    ]
