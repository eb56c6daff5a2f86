use Rattle.std.proofs.Common.{◌≡◌, ◌++◌, ◌∙◌, List, ℕ, refl, ap, sym, append_assoc, append-nil}
use Rattle.std.specs.Prelude.{map}
use Rattle.std.proofs.lemmas.Result.{on_ok_weaker}
use Rattle.report_forms.specs.declared.options.Every.{Every}
use Rattle.report_forms.specs.Items.{items_summary}
use Rattle.report_forms.specs.Summary.{summary_of}
use Rattle.geolint_files.specs.Run.{ToldFile, finding_in, tallies_in, items_in}
use Rattle.geolint_files.proofs.run.put_summary.Goals as goal

pub returns-in-Nothing : goal.returns-in-Nothing
returns-in-Nothing c = λ files counts tally.
    let start = c.args.line.now.items in
    let summary : List ℕ = summary_of (map finding_in files) in
    c.in_ok-put.ensures (map finding_in files) counts
    ∙ ap (λ (ys : List ℕ). start ++ ys) (sym (append-nil summary) ∙ ap (λ (every : Every). summary ++ items_in every files) (sym c.in-Nothing.is))

-- features are told
items-are : (every : Every) (files : List ToldFile) → (every ≡ Every.Nothing → ⊥) → items_in every files ≡ items_summary (tallies_in files)
items-are Every.Nothing files asked = absurd (asked refl)
items-are Every.Faults files asked = refl
items-are Every.Warnings files asked = refl

pub returns-in_default : goal.returns-in_default
returns-in_default c = λ files counts tally.
    let start = c.args.line.now.items in
    let summary : List ℕ = summary_of (map finding_in files) in
    let items : List ℕ = items_summary (tallies_in files) in
    on_ok_weaker c.put_items.result (λ told.
    told ∙ (ap (λ (ys : List ℕ). ys ++ items) (c.in_ok-put.ensures (map finding_in files) counts)
    ∙ (append_assoc start summary items ∙ ap (λ (ys : List ℕ). start ++ (summary ++ ys)) (sym (items-are c.args.every files c.in_default.not-Nothing)))))
    (c.put_items.ensures (tallies_in files) tally)
