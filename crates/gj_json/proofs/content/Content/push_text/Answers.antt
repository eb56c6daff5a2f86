-- A few ASCII bytes are kept; others are no known name and no type.
use Rattle.gj_json.proofs.Common.{arith, inl, inr}
use Rattle.gj_json.proofs.Grammar.Utf8Characters.{few_holds, other_text}
use Rattle.gj_json.proofs.content.Content.push_text.Goals as goal
use Rattle.gj_json.proofs.content.Content.push_text.Goals.{else-text-le-MOST_LETTERS-via-then-text-le-MOST_LETTERS+else-is_ascii}
use Rattle.gj_json.proofs.content.Content.push_text.Goals.{else-text-le-MOST_LETTERS-via-else-text-le-MOST_LETTERS}

pub returns-then-is_ascii : goal.returns-then-is_ascii
returns-then-is_ascii c =
    λ so_far utf8 h. few_holds c.args.text.now c.push_run.new.self so_far utf8 c.if-is_ascii.ensures.cases (λ a. c.push_run.ensures so_far a h)

pub returns-else-text-le-MOST_LETTERS : goal.returns-else-text-le-MOST_LETTERS
returns-else-text-le-MOST_LETTERS c = λ so_far utf8 h. elim c.else-text-le-MOST_LETTERS.branch [
  | else-text-le-MOST_LETTERS-via-then-text-le-MOST_LETTERS+else-is_ascii w ↦ other_text c.args.text.now so_far utf8 (inr w.if-is_ascii.ensures.cases)
  | else-text-le-MOST_LETTERS-via-else-text-le-MOST_LETTERS w ↦ other_text c.args.text.now so_far utf8 (inl (omega (arith, w.if-text-le-MOST_LETTERS)))
]
