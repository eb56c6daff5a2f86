use Rattle.std.proofs.Common.{◌≡◌, ◌∙◌, sym, ap, get_or}
use Rattle.std.specs.Prelude.{nat_eq}
use Rattle.gj_join.specs.Parts.{separates}
use Rattle.file_parts.proofs.SearchedBytes.{no_begin_by, follows_next}
use Rattle.file_parts.proofs.cuts.first_begin.Goals as goal

pub loop-i-preserved : goal.loop-i-preserved
loop-i-preserved c =
    let framing = c.args.framing in
    let piece = c.args.piece.now in
    let i = c.loop-i.i in
    let follows = c.args.follows_separator in
    let before = c.loop-i.invariant in
    let here : nat_eq (get_or piece i 0) c.separator-separator.result ≡ separates framing (get_or piece i 0) =
    ap (nat_eq (get_or piece i 0)) c.separator-separator.ensures in
    record {
      follows = here ∙ follows_next framing follows piece i;
      none = no_begin_by framing follows c.loop-i.follows (nat_eq (get_or piece i 0) c.separator-separator.result) piece i before.none before.follows here
          (sym c.may_begin.ensures ∙ c.if-may_begin.false);
    }
