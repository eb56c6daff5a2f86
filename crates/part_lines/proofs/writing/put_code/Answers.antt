use Rattle.std.proofs.Common.{◌++◌, List, ℕ, codes, ap, sym}
use Rattle.geolint_report.specs.Texts.{code_name}
use Rattle.json.specs.Print.{quoted}
use Rattle.part_lines.proofs.NamesRead.{code-back}
use Rattle.part_lines.proofs.WrittenItems.{then, ends}
use Rattle.part_lines.proofs.writing.put_code.Goals as goal

pub returns : goal.returns
returns c =
    let s : List ℕ = c.args.out.now.items in
    ends c.put-2.result s _ _ _ _ (quoted (code_name c.args.code)) (then s _ _ _ _ c.in_ok-put.ensures c.in_ok-put_name.ensures) c.put-2.ensures
    (ap (λ (l : List ℕ). codes "\"" ++ (l ++ codes "\"")) (sym (code-back c.args.code).0))
