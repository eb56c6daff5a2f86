use Rattle.std.proofs.Common.{◌≡◌, ◌∙◌, ◌++◌, [], ◌∷◌, List, ℕ, codes, ap, sym, append_assoc, append-nil}
use Rattle.std.specs.Fmt.{decimal}
use Rattle.json.specs.Print.{escape_byte}
use Rattle.part_lines.specs.LineText.{Named, num, file_members, settings_members, verdict_members, listed_members_if, head_members, more_text, body_text}
use Rattle.part_lines.specs.Lines.{line_base}
use Rattle.part_lines.proofs.WrittenItems.{then, ends, more-append}
use Rattle.part_lines.proofs.writing.put_body.Goals as goal

grouped : (a b c d e f g h i j k l : List ℕ)
    → ((((((((((a ++ b) ++ c) ++ d) ++ e) ++ f) ++ g) ++ h) ++ i) ++ j) ++ k) ++ l
    ≡ (a ++ b) ++ ((c ++ d) ++ ((e ++ (f ++ ((g ++ h) ++ ((i ++ j) ++ [])))) ++ (k ++ l)))
grouped a b c d e f g h i j k l = simp (append_assoc, append-nil)

-- the members of the file and the settings, the two after them, and the others
all-text : (file settings two verdict listed : List Named)
    → (more_text file ++ (more_text settings ++ more_text two)) ++ (more_text verdict ++ more_text listed)
    ≡ more_text ((file ++ (settings ++ two)) ++ (verdict ++ listed))
all-text file settings two verdict listed =
    sym (more-append (file ++ (settings ++ two)) (verdict ++ listed)
    ∙ (ap (λ (l : List ℕ). l ++ more_text (verdict ++ listed))
    (more-append file (settings ++ two) ∙ ap (λ (l : List ℕ). more_text file ++ l) (more-append settings two))
    ∙ ap (λ (l : List ℕ). (more_text file ++ (more_text settings ++ more_text two)) ++ l) (more-append verdict listed)))

pub returns : goal.returns
unfolding body_text head_members escape_byte
returns c =
    let s : List ℕ = c.args.out.now.items in
    let line = c.args.line.now in
    let start : List ℕ = codes "{\"geolint_part\":2,\"part\":" in
    let part : List ℕ = decimal line.share.number in
    let parts : List ℕ = decimal line.share.parts in
    let file : List Named = file_members line.file in
    let settings : List Named = settings_members line.settings in
    let begin : List ℕ = decimal line.checked.begin in
    let end : List ℕ = decimal line.checked.end in
    let two : List Named = (codes "begin", num line.checked.begin) ∷ (codes "end", num line.checked.end) ∷ [] in
    let verdict : List Named = verdict_members (line_base line) line.checked.verdict in
    let listed : List Named = listed_members_if (line_base line) line.listed in
    ends c.put_listed_if.result s _ _ _ (more_text listed) (body_text line)
    (then s _ _ _ (more_text verdict) (then s _ _ _ end (then s _ _ _ (codes ",\"end\":") (then s _ _ _ begin (then s _ _ _ (codes ",\"begin\":")
    (then s _ _ _ (more_text settings) (then s _ _ _ (more_text file) (then s _ _ _ parts (then s _ _ _ (codes ",\"parts\":")
    (then s _ _ start part c.in_ok-put.ensures c.in_ok-put_number.ensures) c.in_ok-put-2.ensures) c.in_ok-put_number-2.ensures)
    c.in_ok-put_file.ensures) c.in_ok-put_settings.ensures) c.in_ok-put-3.ensures) c.in_ok-put_number-3.ensures) c.in_ok-put-4.ensures)
    c.in_ok-put_number-4.ensures) (rw (c.base_of-base.ensures) at c.in_ok-put_verdict.ensures)) (rw (c.base_of-base.ensures) at c.put_listed_if.ensures)
    (grouped start part (codes ",\"parts\":") parts (more_text file) (more_text settings) (codes ",\"begin\":") begin (codes ",\"end\":") end
    (more_text verdict) (more_text listed)
    ∙ ap (λ (l : List ℕ). (start ++ part) ++ ((codes ",\"parts\":" ++ parts) ++ l)) (all-text file settings two verdict listed))
