-- The linter took all bytes of the record.
use Rattle.gj_rules.proofs.Common.{IsText, List, ap, open_at, subst, sym, take, take-length, ◌++◌, ◌∙◌}
use Rattle.std.proofs.Common.{ℕ}
use Rattle.gj_rules.proofs.Sequences.OpenRecords.{all_taken}
use Rattle.gj_rules.proofs.records.open_record.OpenRecord.levels.Goals as goal

pub returns : goal.returns
returns c = λ bytes rest text h live t.
    let linter = c.args.self.now.linter in
    let e = all_taken c.bytes_taken.ensures.«open» linter bytes h.linter live in
    let P : ℕ → Type 0 = λ n. IsText text (take n bytes ++ rest) in
    let Q : List ℕ → Type 0 = λ bs. IsText text (bs ++ rest) in
    c.levels.ensures.«open» bytes rest text h.linter (subst P (sym e) (subst Q (sym (take-length bytes)) t)) ∙ ap (λ n. open_at n text) e
