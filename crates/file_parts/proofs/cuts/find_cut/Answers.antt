use Rattle.std.proofs.Common.{arith, ◌≡◌, ◌<◌, ◌≤◌, ◌+◌, ◌-◌, ◌∙◌, ℕ, List, ap, subst, min, length, take, get_or}
use Rattle.std.specs.Prelude.{Option, nat_eq}
use Rattle.std.specs.Option.{SomeIff}
use Rattle.geolint_report.specs.Every.{GaveBy}
use Rattle.file_parts.proofs.SearchedBytes.{search_found, search_more}
use Rattle.file_parts.proofs.cuts.find_cut.Goals as goal

pub returns-in-Some-clause-cut : goal.returns-in-Some-clause-cut
returns-in-Some-clause-cut g c =
    let known = g.S.Source.text c.args.source.now in
    let place = c.loop-place.place in
    let count = c.in_ok-count.count in
    let piece = c.read_from.new.piece in
    let at = place + c.in-Some.index in
    let gave = subst (λ (text : Option (List ℕ)). GaveBy text place count piece) c.loop-place.invariant.text c.in_ok-count.ensures.bytes in
    let capped : c.lesser-until.result ≡ min c.args.until c.args.limits.bytes =
    c.lesser-until.ensures ∙ ap (λ (n : ℕ). min c.args.until n) c.bytes.ensures.value in
    let is = subst (λ (n : ℕ). SomeIff c.before-in-Some.result (at < n) at) capped c.before-in-Some.ensures in
    search_found known c.args.framing c.args.limits c.args.from place count c.args.until c.in-Some.index piece c.loop-place.follows_separator
    c.before-in-Some.result
    c.requires c.loop-place.invariant.from gave c.in-Some.ensures is c.loop-place.invariant.searched

pub loop-place-preserved : goal.loop-place-preserved
loop-place-preserved g c =
    let known = g.S.Source.text c.args.source.now in
    let place = c.loop-place.place in
    let count = c.in_ok-count.count in
    let piece = c.read_from.new.piece in
    let gave = subst (λ (text : Option (List ℕ)). GaveBy text place count piece) c.loop-place.invariant.text c.in_ok-count.ensures.bytes in
    let bound : count ≤ length piece = c.in_ok-count.ensures.bound.0 in
    record {
      from = omega (arith, c.loop-place.invariant.from);
      text = c.read_from.ensures.text ∙ c.loop-place.invariant.text;
      unfailed = c.in_ok-count.ensures.failed ∙ c.loop-place.invariant.unfailed;
      searched = search_more known c.args.framing c.args.limits c.args.from place count piece c.loop-place.follows_separator _
          (omega (arith, c.requires, c.loop-place.invariant.from)) gave (omega (arith, c.if-count-eq0.false)) bound c.in_default.ensures
          (ap (nat_eq (get_or (take count piece) (count - 1) 0)) c.separator-separator.ensures)
          c.loop-place.invariant.searched;
    }
