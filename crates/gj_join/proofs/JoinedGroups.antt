-- Three parts give the same, whichever two are joined first.
use Rattle.gj_join.proofs.Common.{List, SequenceJudgement, Warning, ap, arith, joined_judgement, map, map-append, refl, shifted_by, sym, ℕ, ◌++◌, ◌+◌}
use Rattle.gj_join.proofs.Common.{◌∙◌, ◌≡◌}
use Rattle.std.proofs.Common.{add_comm, append_assoc}
use Rattle.gj_rules.specs.Sequence.{all_valid, failing}
use Rattle.gj_rules.specs.SequenceJudgement.{shifted_judgement}
use Rattle.gj_join.proofs.JoinedParts.{warnings-twice, judgement-twice}

pub grouped : (end more : ℕ) (one two three : SequenceJudgement)
    → joined_judgement (end + more) (joined_judgement end one two) three ≡ joined_judgement end one (joined_judgement more two three)
grouped end more (failing number judgement) two three = refl
grouped end more (all_valid a ws) (failing number judgement) three = refl
grouped end more (all_valid a ws) (all_valid b vs) (all_valid c us) =
    let count : a + b + c ≡ a + (b + c) = omega arith in
    let last : map (shifted_by (end + more)) us ≡ map (shifted_by end) (map (shifted_by more) us) =
    ap (λ (n : ℕ). map (shifted_by n) us) (add_comm end more) ∙ warnings-twice more end us in
    let all : (ws ++ map (shifted_by end) vs) ++ map (shifted_by (end + more)) us ≡ ws ++ map (shifted_by end) (vs ++ map (shifted_by more) us) =
    append_assoc ws (map (shifted_by end) vs) (map (shifted_by (end + more)) us)
    ∙ ap (λ (l : List Warning). ws ++ l)
    (ap (λ (l : List Warning). map (shifted_by end) vs ++ l) last ∙ sym (map-append (shifted_by end) vs (map (shifted_by more) us))) in
    ap (λ (n : ℕ). all_valid n ((ws ++ map (shifted_by end) vs) ++ map (shifted_by (end + more)) us)) count ∙ ap (all_valid (a + (b + c))) all
grouped end more (all_valid a ws) (all_valid b vs) (failing number judgement) =
    let count : a + b + number ≡ a + (b + number) = omega arith in
    let further : shifted_judgement (end + more) judgement ≡ shifted_judgement end (shifted_judgement more judgement) =
    ap (λ (n : ℕ). shifted_judgement n judgement) (add_comm end more) ∙ judgement-twice more end judgement in
    ap (λ (n : ℕ). failing n (shifted_judgement (end + more) judgement)) count ∙ ap (failing (a + (b + number))) further
