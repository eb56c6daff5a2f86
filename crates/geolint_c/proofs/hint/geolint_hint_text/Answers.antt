-- The two parts are those before the place and from it on.
use Rattle.std.proofs.Common.{◌≡◌, ℕ, ◌∙◌, List, take, drop, ap, subst}
use Rattle.geolint_c.specs.Hints.{place_of, AreClues, AreOpen, hint_by}
use Rattle.geolint_c.proofs.hint.geolint_hint_text.Goals as goal

pub returns-clause-within : goal.returns-clause-within
returns-clause-within c = λ within.
    let report = c.args.report.now in
    let bytes = c.args.bytes.now in
    let front : c.split_at.result.0.now ≡ take (place_of report) bytes = c.split_at.ensures.front ∙ ap (λ n. take n bytes) c.place_of-place.ensures in
    let back : c.split_at.result.1.now ≡ drop (place_of report) bytes = c.split_at.ensures.back ∙ ap (λ n. drop n bytes) c.place_of-place.ensures in
    let clues = c.hint_by.ensures in
    record {
      levels = c.levels_before.result;
      levels_open = λ later. subst (λ (before : List ℕ). AreOpen before c.levels_before.result) front (c.levels_before.ensures later);
      text_is = (
        c.hint_by.result,
        (
          clues.0,
          subst (λ (before : List ℕ). AreClues bytes before (drop (place_of report) bytes) clues.0) front
              (subst (λ (after : List ℕ). AreClues bytes c.split_at.result.0.now after clues.0) back clues.1),
          clues.2 ∙ ap (λ wrong. hint_by wrong clues.0) c.wrong_of-wrong.ensures,
        ),
        c.hint_text-2.ensures,
      );
    }
