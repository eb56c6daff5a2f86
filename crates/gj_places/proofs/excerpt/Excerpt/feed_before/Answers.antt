use Rattle.std.proofs.Common.{arith, ◌≡◌, ◌≤◌, ap, sym, ◌∙◌, length, ◌++◌, ℕ, List}
use Rattle.std.specs.Prelude.{Result, Ok, Err, OnOk}
use Rattle.std.specs.Result.{IsOk}
use Rattle.gj_places.specs.Lines.{last_line}
use Rattle.gj_places.specs.Excerpts.{last_of}
use Rattle.gj_places.proofs.KeptLines.{recent, last_line-short, last_of-all, length-last_of}
use Rattle.gj_places.proofs.excerpt.Excerpt.feed_before.Goals as goal

given : {T E : Type 0} (outcome : Result T E) (P : Type 0) → IsOk outcome → OnOk outcome P → P
given (Ok x) P is it = it
given (Err e) P is it = absurd (cc)

pub returns-else-piece-lt-MOST_BYTES : goal.returns-else-piece-lt-MOST_BYTES
returns-else-piece-lt-MOST_BYTES c = λ before keeps.
    let piece = c.args.piece.now in
    let tail = last_of 256 piece in
    let line : c.line_end.result.now ≡ last_line tail = c.line_end.ensures ∙ ap last_line c.last_bytes.ensures in
    let few : length (last_line tail) ≤ 256 = omega (arith, last_line-short tail, length-last_of 256 piece c.if-piece-lt-MOST_BYTES.false) in
    let none = ap length c.clear.ensures in
    let fits = c.try_extend_from_slice-fits.ensures.variant.1 (omega (arith, none, ap length line, few)) in
    let kept = given c.try_extend_from_slice-fits.result _ fits c.try_extend_from_slice-fits.ensures.ok in
    record {
      front = kept ∙ ap (λ (bytes : List ℕ). bytes ++ c.line_end.result.now) c.clear.ensures ∙ line
          ∙ sym (last_of-all 256 (last_line tail) few) ∙ sym (recent 256 before piece c.if-piece-lt-MOST_BYTES.false);
      rest = keeps.rest;
      whole = keeps.whole;
      goes_on = keeps.goes_on;
    }
