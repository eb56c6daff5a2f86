-- The linter took all bytes of the record.
use Rattle.gj_rules.proofs.Common.{Allowed, List, ap, judged_at, subst, sym, take, take-length, ◌++◌, ◌∙◌}
use Rattle.std.proofs.Common.{ℕ}
use Rattle.gj_json.specs.Text.{IsTextWithin}
use Rattle.gj_rules.specs.Linter.{limits_of}
use Rattle.gj_rules.proofs.Sequences.OpenRecords.{all_taken}
use Rattle.gj_rules.proofs.records.open_record.OpenRecord.judged.Goals as goal

pub returns : goal.returns
returns c = λ bytes rest text h live t.
    let linter = c.args.self.now.linter in
    let e = all_taken c.bytes_taken.ensures.«open» linter bytes h.linter live in
    let L : Allowed → Type 0 = λ l. IsTextWithin l.depth text (bytes ++ rest) in
    let P : ℕ → Type 0 = λ n. IsTextWithin (limits_of linter).depth text (take n bytes ++ rest) in
    let Q : List ℕ → Type 0 = λ bs. IsTextWithin (limits_of linter).depth text (bs ++ rest) in
    c.judged.ensures.«open» bytes rest text h.linter (subst P (sym e) (subst Q (sym (take-length bytes)) (subst L (sym h.under) t)))
    ∙ ap (λ n. judged_at n text) e
