-- The brackets and the comma, and the white space around them.
use Rattle.gj_json.proofs.Common.{AllByRecursion, Bool, IsWhite, List, ap, arith, bool_byte, cut, drop, false, length, refl, subst, sym, true, ℕ}
use Rattle.gj_json.proofs.Common.{◌+◌, ◌-◌, ◌∙◌, ◌≡◌, ◌≤◌}
use Rattle.std.proofs.Common.{IsTrue, take}
use Rattle.std.proofs.lemmas.List.{drop-drop, drop-take}
use Rattle.gj_json.proofs.Grammar.SeparatedArrays.{byte_of, cut_of, size_of}
use Rattle.gj_json.proofs.separators.Outer.around.Goals as goal

-- the last bytes of those taken out of a piece
end_of : (piece : List ℕ) (from mid to : ℕ) → from ≤ mid → mid ≤ to → cut piece mid to ≡ drop (mid - from) (cut piece from to)
end_of piece from mid to low high =
    let k : to - from ≡ mid - from + (to - mid) = omega arith in
    sym (ap (λ n. drop (mid - from) (take n (drop from piece))) k ∙ drop-take (mid - from) (to - mid) (drop from piece)
    ∙ ap (take (to - mid)) (drop-drop (mid - from) from piece ∙ ap (λ n. drop n piece) {x = from + (mid - from)} {y = mid} (omega arith)))

pub returns-clause-outer : goal.returns-clause-outer
returns-clause-outer c =
    let piece = c.args.piece.now in
    let last = c.before_white-last.result in
    let close = c.after_white-close.result in
    let open_at = c.after_white-open.result in
    let number = c.after_white-number.result in
    let negative = c.has_byte-negative.result in
    let end = number + bool_byte negative in
    let sep = c.in_ok-separator.separator.bytes.now in
    let head = cut piece open_at end in
    let a = c.after_white-close.ensures.on in
    let b = c.after_white-open.ensures.on in
    let d = c.after_white-number.ensures.on in
    let within = c.in_ok-separator.ensures.within in
    let order = c.in_ok-separator.ensures.order in
    let head_order : open_at ≤ end = omega arith in
    let is = c.in_ok-separator.ensures.bytes in
    let head_is : head ≡ cut piece open_at end = refl in
    let size = size_of piece sep last end is order within in
    let head_size = size_of piece head open_at end head_is head_order within in
    let W : List ℕ → Type 0 = λ xs. AllByRecursion IsWhite xs in
    record {
      before = subst W (sym (cut_of piece sep last end is order within last close 0 (close - last) (omega arith) a (omega arith) (omega arith) (omega arith)))
          c.after_white-close.ensures.white;
      bracket = byte_of piece sep last end is order within close (close - last) (omega arith) (omega arith) ∙ c.has_byte.ensures.there c.if-not-has_byte.false;
      comma = byte_of piece sep last end is order within (close + 1) (close - last + 1) (omega arith) (omega arith)
          ∙ c.has_byte-else-not-has_byte.ensures.there c.if-not-has_byte-2.false;
      on = omega arith;
      between = subst W (sym (cut_of piece sep last end is order within (close + 2) open_at (close - last + 2) (open_at - last) (omega arith) b (omega arith)
          (omega arith) (omega arith))) c.after_white-open.ensures.white;
      head = head_is ∙ end_of piece last open_at end (omega arith) head_order ∙ ap (drop (open_at - last)) (sym is);
      room = omega arith;
      opens = byte_of piece head open_at end head_is head_order within open_at 0 (omega arith) (omega arith) ∙ c.has_byte-else-open-next.ensures.there c.if-not-has_byte-3.false;
      white = subst W (sym (cut_of piece head open_at end head_is head_order within (open_at + 1) number 1 (length head - bool_byte negative) (omega arith) d
          (omega arith) (omega arith) (omega arith))) c.after_white-number.ensures.white;
      sign = λ minus. byte_of piece head open_at end head_is head_order within number (length head - 1)
          (let e = is_one negative minus in omega arith) (let e = is_one negative minus in omega arith) ∙ c.has_byte-negative.ensures.there minus;
    }
  where
    is_one : (b : Bool) → IsTrue b → bool_byte b ≡ 1
    is_one true t = refl
    is_one false t = (cc)
