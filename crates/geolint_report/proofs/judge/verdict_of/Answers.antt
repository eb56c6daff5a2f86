use Rattle.geolint_report.proofs.Common.{◌≡◌, ◌++◌, [], List, ℕ, append-nil, subst, ◌∙◌, Allowed, IsVerdict}
use Rattle.gj_json.specs.Refusal.{IsRefusal}
use Rattle.gj_rules.specs.Linter.{limits_of, Answers}
use Rattle.gj_rules.specs.declared.linter.Progress.{Progress}
use Rattle.geolint_report.proofs.judge.verdict_of.Goals as goal

pub returns-in-Refused : goal.returns-in-Refused
returns-in-Refused c = λ bytes stands.
    let limits = limits_of c.args.linter.now in
    let same : (bytes ++ []) ++ [] ≡ bytes = append-nil (bytes ++ []) ∙ append-nil bytes in
    let answer = subst (λ (p : Progress). Answers limits (bytes ++ []) p) c.in-Refused.is (c.feed.ensures.answer bytes stands) in
    subst (λ (l : List ℕ). IsRefusal limits l c.in-Refused.fault) same (answer [])

pub returns-in-Open : goal.returns-in-Open
returns-in-Open c = λ bytes stands.
    subst (λ (a : Allowed). IsVerdict a bytes c.finish_and_begin.result) c.feed.ensures.limits
    (subst (λ (l : List ℕ). IsVerdict (limits_of c.feed.new.self) l c.finish_and_begin.result) (append-nil bytes)
    (c.finish_and_begin.ensures.verdict (bytes ++ []) (c.feed.ensures.stands bytes stands)))
