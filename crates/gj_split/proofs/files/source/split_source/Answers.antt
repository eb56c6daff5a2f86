use Rattle.std.proofs.Common.{◌≡◌, ℕ, List, Option, Result, Ok, Err, IfOk, sym, subst}
use Rattle.gj_json.specs.Limits.{Allowed}
use Rattle.gj_rules.specs.declared.records.framing.Framing.{Framing}
use Rattle.gj_rules.specs.declared.verdict.Verdict.{Verdict}
use Rattle.gj_split.specs.Holding.{AreKnown}
use Rattle.gj_split.specs.declared.records.Input.{Input}
use Rattle.gj_split.specs.declared.files.source.Whole.{Whole}
use Rattle.gj_split.specs.SplitSources.{IsSplit, IsWhole, as_text, as_records}
use Rattle.gj_split.proofs.files.source.split_source.Goals as goal

-- what is said of the first is said of the last, where that is an answer
of_text : {E : Type 0} (first : Result Verdict E) (second last : Result Whole E) (P : Verdict → Type 0) (Q : Whole → Type 0) → IfOk first P
    → second ≡ as_text first → IfOk last (λ whole. second ≡ Ok whole) → ((verdict : Verdict) → P verdict → Q (Whole.Text verdict)) → IfOk last Q
of_text (Ok v) second (Ok w) P Q p e h f = let same : Whole.Text v ≡ w = cc in subst Q same (f v p)
of_text (Err x) second (Ok w) P Q p e h f = cc
of_text first second (Err y) P Q p e h f = tt

of_records : {E : Type 0} (first : Result Input E) (second last : Result Whole E) (P : Input → Type 0) (Q : Whole → Type 0) → IfOk first P
    → second ≡ as_records first → IfOk last (λ whole. second ≡ Ok whole) → ((input : Input) → P input → Q (Whole.Records input)) → IfOk last Q
of_records (Ok v) second (Ok w) P Q p e h f = let same : Whole.Records v ≡ w = cc in subst Q same (f v p)
of_records (Err x) second (Ok w) P Q p e h f = cc
of_records first second (Err y) P Q p e h f = tt

if_both : {T E : Type 0} (outcome : Result T E) (P Q : T → Type 0) → IfOk outcome P → IfOk outcome Q → IfOk outcome (λ v. P v × Q v)
if_both (Ok v) P Q p q = (p, q)
if_both (Err x) P Q p q = tt

pub returns-in-None-clause-whole : goal.returns-in-None-clause-whole
returns-in-None-clause-whole g c =
    of_text c.split.result.outcome c.of_text.result.outcome c.checked.result.outcome _ _ c.split.ensures.verdict c.of_text.ensures.outcome
    c.checked.ensures.outcome (λ verdict h bytes k.
    subst (λ (f : Option Framing). IsWhole f c.args.limits bytes (Whole.Text verdict)) (sym c.in-None.is)
    (h bytes (subst (λ w. AreKnown g.R.Ranges.text (g.V.Write.contents w) (g.B.Write.contents c.args.outputs.broken) bytes)
    (sym c.new-valid.ensures.out) k)))

pub returns-in-None-clause-parts : goal.returns-in-None-clause-parts
returns-in-None-clause-parts g c =
    of_text c.split.result.outcome c.of_text.result.outcome c.checked.result.outcome _ _ c.split.ensures.apart c.of_text.ensures.outcome
    c.checked.ensures.outcome (λ verdict h bytes k.
    rw (c.checked.ensures.valid, c.checked.ensures.broken, c.checked.ensures.counts, c.of_text.ensures.outputs, c.of_text.ensures.counts)
    (subst (λ (f : Option Framing). IsSplit f c.args.limits bytes (g.V.Write.contents c.split.result.outputs.valid.out)
    (g.B.Write.contents c.split.result.outputs.broken) c.split.result.counts) (sym c.in-None.is)
    (λ text a. h bytes text
    (subst (λ w. AreKnown g.R.Ranges.text (g.V.Write.contents w) (g.B.Write.contents c.args.outputs.broken) bytes)
    (sym c.new-valid.ensures.out) k) a)))

pub returns-in-Some-clause-whole : goal.returns-in-Some-clause-whole
returns-in-Some-clause-whole g c =
    let both = if_both c.split_records.result.outcome _ _ c.split_records.ensures.verdict c.split_records.ensures.cut in
    of_records c.split_records.result.outcome c.of_records.result.outcome c.checked-in-Some.result.outcome _ _ both c.of_records.ensures.outcome
    c.checked-in-Some.ensures.outcome (λ input h bytes k.
    let known = subst (λ w. AreKnown g.R.Ranges.text (g.V.Write.contents w) (g.B.Write.contents c.args.outputs.broken) bytes)
    (sym c.new-valid.ensures.out) k in
    subst (λ (f : Option Framing). IsWhole f c.args.limits bytes (Whole.Records input)) (sym c.in-Some.is) (h.0 bytes known, h.1 bytes known))

pub returns-in-Some-clause-parts : goal.returns-in-Some-clause-parts
returns-in-Some-clause-parts g c =
    of_records c.split_records.result.outcome c.of_records.result.outcome c.checked-in-Some.result.outcome _ _ c.split_records.ensures.apart
    c.of_records.ensures.outcome c.checked-in-Some.ensures.outcome (λ input h bytes k.
    rw (
      c.checked-in-Some.ensures.valid,
      c.checked-in-Some.ensures.broken,
      c.checked-in-Some.ensures.counts,
      c.of_records.ensures.outputs,
      c.of_records.ensures.counts,
    )
    (subst (λ (f : Option Framing). IsSplit f c.args.limits bytes (g.V.Write.contents c.split_records.result.outputs.valid.out)
    (g.B.Write.contents c.split_records.result.outputs.broken) c.split_records.result.counts) (sym c.in-Some.is)
    (λ found a. h bytes found
    (subst (λ w. AreKnown g.R.Ranges.text (g.V.Write.contents w) (g.B.Write.contents c.args.outputs.broken) bytes)
    (sym c.new-valid.ensures.out) k) a)))
