use Rattle.report_forms.proofs.Common.{append_assoc, ℕ, List, ◌++◌, ◌∙◌, ◌≡◌, ap, sym, subst}
use Rattle.std.specs.Prelude.{OnOk}
use Rattle.report_forms.specs.Forms.Lines.{record_detail, times_detail, byte_detail, path_detail, details, in_parentheses}
use Rattle.report_forms.proofs.DetailsInParentheses.{four_details}
use Rattle.report_forms.proofs.formats.lines.put_details.Goals as goal

pub returns : goal.returns
returns c =
    let start = c.args.line.now.items in
    let records : List (List ℕ) = record_detail c.record.result in
    let times : List (List ℕ) = times_detail c.args.count in
    let bytes : List (List ℕ) = byte_detail c.args.told.now.place c.spot.result in
    let paths : List (List ℕ) = path_detail c.path.result in
    let same : records ++ (times ++ (bytes ++ paths)) ≡ details c.args.report.now c.args.told.now c.args.count =
    λ i. record_detail (c.record.ensures i) ++ (times ++ (byte_detail c.args.told.now.place (c.spot.ensures i) ++ path_detail (c.path.ensures i))) in
    let all = four_details records times bytes paths c.in_ok-with_record.with_record c.in_ok-with_times.with_times c.in_ok-with_byte.with_byte
    c.in_ok-with_path.with_path
    c.in_ok-with_record.ensures.begun c.in_ok-with_times.ensures.begun c.in_ok-with_byte.ensures.begun c.in_ok-with_path.ensures.begun in
    subst (λ (ys : List ℕ). OnOk c.put_end.result (c.put_end.new.line.items ≡ start ++ ys))
    (sym all ∙ ap (λ (items : List (List ℕ)). in_parentheses items) same)
    (simp (append_assoc, c.in_ok-with_record.ensures.bytes, c.in_ok-with_times.ensures.bytes, c.in_ok-with_byte.ensures.bytes, c.in_ok-with_path.ensures.bytes)
    at c.put_end.ensures)
