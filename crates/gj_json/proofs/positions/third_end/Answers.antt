-- A comma, a number and the closing bracket.
use Rattle.gj_json.proofs.Common.{AllByRecursion, IsItem, IsWhite, List, Numbered, Some, StartsWithNumber, ap, arith, bool_byte, cut, exact_of, inr, length}
use Rattle.gj_json.proofs.Common.{refl, subst, sym, ℕ, [], ◌+◌, ◌-◌, ◌∙◌, ◌≡◌}
use Rattle.gj_json.proofs.Common.{get_or}
use Rattle.gj_json.specs.Bytes.{comma}
use Rattle.gj_json.proofs.Grammar.SeparatedArrays.{byte_in, cut_in}
use Rattle.gj_json.proofs.Grammar.SpelledFlats.{item_cut, end_cut, more_cut}
use Rattle.gj_json.proofs.Grammar.SpelledPairs.{none_cut, valued_cut}
use Rattle.gj_json.proofs.Pieces.PieceRests.{rest_of}
use Rattle.gj_json.proofs.positions.third_end.Goals as goal

pub returns-clause-ends : goal.returns-clause-ends
returns-clause-ends c =
    let piece = c.args.piece.now in
    let at = c.args.at in
    let bytes = c.args.third.now.separator.bytes.now in
    let inner = c.requires.separator in
    let room = inner.room in
    let there = c.stands.ensures c.if-not-stands.false in
    let size = c.count.ensures in
    let first = at + c.count.result in
    let count = c.read_short-count.result in
    let value = c.read_short-count.new.number in
    let last = first + count in
    let W : List ℕ → Type 0 = λ xs. AllByRecursion IsWhite xs in
    let P : List ℕ → Type 0 = λ xs. StartsWithNumber xs (exact_of value) count in
    let R : ℕ → Type 0 = λ n. W (cut piece (at + 1) (at + n)) in
    let read = subst P (rest_of piece first) (c.read_short-count.ensures.number (omega arith)) in
    let within = read.within in
    let unsigned : length bytes - bool_byte c.args.third.now.negative ≡ length bytes =
    ap (λ b. length bytes - bool_byte b) c.requires.unsigned ∙ omega arith in
    let white : W (cut piece (at + 1) first) =
    subst R (sym size)
    (subst W (sym (cut_in piece bytes at there 1 (length bytes) (omega arith) (omega arith))) (subst (λ (n : ℕ). W (cut bytes 1 n)) unsigned inner.white)) in
    let is_comma = byte_in piece bytes at there 0 (omega arith) ∙ inner.comma in
    let comma_there : get_or piece at 0 ≡ comma = ap (λ n. get_or piece n 0) {x = at} {y = at + 0} (omega arith) ∙ is_comma in
    record {
      on = omega arith;
      after = inr comma_there;
      closes = λ start close on inside behind bracket.
          let number : Numbered = record { value = value; place = start + first } in
          let item : IsItem number (start + (at + 1)) (cut piece (at + 1) close) =
          item_cut piece start number (at + 1) first last close (omega arith) (omega arith) on (omega arith) white refl
          (valued_cut piece first count value read) behind in
          let closing = end_cut piece start close inside bracket in
          record {
            third = Some number;
            last = at;
            on = omega arith;
            before = omega arith;
            white = none_cut piece at;
            more = more_cut piece start number [] (start + close) at close (close + 1) comma_there (omega arith) (omega arith) (omega arith) item closing;
            few = omega arith;
            place = omega arith;
          };
    }
