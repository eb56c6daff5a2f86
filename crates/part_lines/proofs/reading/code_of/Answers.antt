use Rattle.std.proofs.Common.{◌≡◌, ◌∙◌, ap, sym}
use Rattle.std.proofs.lemmas.Slice.Eq.{bytes_eq-Decides}
use Rattle.geolint_report.specs.Texts.{code_name}
use Rattle.part_lines.proofs.NamesRead.{found-by-name}
use Rattle.part_lines.proofs.reading.code_of.Goals as goal

pub returns-in-Some-clause-all : goal.returns-in-Some-clause-all
returns-in-Some-clause-all c = λ code listed is.
    let found = found-by-name c.args.name.now code listed is in let named = c.code_named.ensures in let here = c.in-Some.is in cc

pub returns-in_default-clause-all : goal.returns-in_default-clause-all
returns-in_default-clause-all c = λ code listed is.
    let same : c.in-Some.code ≡ code =
    (let found = found-by-name c.args.name.now code listed is in let named = c.code_named.ensures in let here = c.in-Some.is in cc) in
    let told = (bytes_eq-Decides c.name.result.now c.args.name.now).1 (c.name.ensures ∙ (ap code_name same ∙ sym is)) in
    let equal = c.eq.ensures in let other = c.if-eq.false in cc

pub returns-in_default-2-clause-all : goal.returns-in_default-2-clause-all
returns-in_default-2-clause-all c = λ code listed is.
    let found = found-by-name c.args.name.now code listed is in let named = c.code_named.ensures in let none = c.in_default.is in cc
