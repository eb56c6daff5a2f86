-- What is read of the text of a written line.
use Rattle.part_lines.proofs.Common.{◌≡◌, ◌∙◌, ℕ, List, ◌++◌, Some, sym, subst, codes, Data, PartLine}
use Rattle.std.specs.Prelude.{Result, Ok, Err, IfOk}
use Rattle.std.proofs.lemmas.List.{append_cancel_right}
use Rattle.serde_json.specs.Read.{read}
use Rattle.part_lines.specs.Agreed.{Agree}
use Rattle.part_lines.specs.LineObject.{IsLineIn}
use Rattle.part_lines.specs.LineText.{line_text}
use Rattle.part_lines.specs.Sealed.{body_in, object_in, sealed}
use Rattle.part_lines.specs.Writable.{IsWritable}

-- a written line is the text of such an object
abbrev WritesObject : PartLine → Type 0
WritesObject line = (text : List ℕ) × (it : Data) × (line_text line ≡ text ++ codes "\n") × (text ≡ sealed (body_in text)) × (read (object_in text) ≡ Some it)
    × IsLineIn it line

back : (text : List ℕ) (it : Data) (line written : PartLine) → read (object_in text) ≡ Some it → IsLineIn it line → WritesObject written
    → ((it : Data) (one other : PartLine) → IsLineIn it one → IsLineIn it other → Agree one other) → line_text written ≡ text ++ codes "\n" → Agree written line
back text it line written is says (bytes, that, ends, right, found, said) alike whole =
    let same : bytes ≡ text = append_cancel_right bytes text (codes "\n") (sym ends ∙ whole) in
    let both : Some that ≡ Some it = sym (subst (λ (l : List ℕ). read (object_in l) ≡ Some that) same found) ∙ is in
    let one : that ≡ it = cc in
    alike it written line (subst (λ (d : Data). IsLineIn d written) one said) says

pub read-back : {E : Type 0} (text object : List ℕ) (r : Result PartLine E) → object ≡ object_in text
    → IfOk r (λ line. (it : Data) × (read object ≡ Some it) × IsLineIn it line)
    → ((line : PartLine) → IsWritable line
    → (text : List ℕ) × (it : Data) × (line_text line ≡ text ++ codes "\n") × (text ≡ sealed (body_in text)) × (read (object_in text) ≡ Some it)
    × IsLineIn it line)
    → ((it : Data) (one other : PartLine) → IsLineIn it one → IsLineIn it other → Agree one other)
    → IfOk r (λ line. (written : PartLine) → IsWritable written → line_text written ≡ text ++ codes "\n" → Agree written line)
read-back text object (Ok line) same (it, is, says) writes alike = λ written fits whole.
    back text it line written (subst (λ (l : List ℕ). read l ≡ Some it) same is) says (writes written fits) alike whole
read-back text object (Err error) same says writes alike = says
