-- What a hint goes by, of a report in plain numbers and of the bytes around its place; and its text.
use Rattle.std.specs.Prelude.{◌≡◌, ℕ, ◌-◌, Bool, ◌&&◌, List, [], ◌++◌, length, take, drop, get_or, Option, Some, None, IsTrue, nat_eq, nat_lt, if◌then◌else◌}
use Rattle.gj_json.specs.Limits.{most}
use Rattle.gj_json.specs.Open.{open_at}
use Rattle.gj_json.specs.Refusal.{IsAdmitted}
use Rattle.gj_json.specs.Tree.{Text}
use Rattle.gj_hints.specs.declared.clues.Clues.{Clues}
use Rattle.gj_hints.specs.declared.clues.Wrong.{Wrong}
use Rattle.gj_hints.specs.declared.kind.Hint.{Hint}
use Rattle.gj_hints.specs.Hints.{hint_of}
use Rattle.gj_hints.specs.Texts.{text_of}
use Rattle.geolint_c.specs.declared.report.Report.{Report}
use Rattle.geolint_c.specs.declared.report.Warned.{Warned}
use Rattle.geolint_c.specs.Report.{no_warning}
use Rattle.geolint_c.specs.Texts.{with_zero}

-- ---- what is wrong, and where

-- of the kind W5, a position out of range
abbrev pub out_of_range : Report → Warned
out_of_range report = get_or report.warnings 4 no_warning

-- a byte that cannot stand there is refused, and not the first one
abbrev pub is_later_syntax : Report → Bool
is_later_syntax report = nat_eq report.verdict 3 && (nat_eq report.cause 1 && nat_lt 0 report.place)

-- bytes follow a text where no array and no object is open before them
abbrev pub wrong_if_refused : Report → ℕ → Wrong
wrong_if_refused report levels = if is_later_syntax report && nat_eq levels 0 then Wrong.TextFollows else Wrong.Refused

abbrev pub wrong_by_rule : ℕ → Option Wrong
wrong_by_rule rule =
    if nat_eq rule 1 then Some Wrong.NoObject
    else (if nat_eq rule 2 then Some Wrong.NoType
    else (if nat_eq rule 3 then Some Wrong.OtherType
    else (if nat_eq rule 11 then Some Wrong.OtherShape
    else (if nat_eq rule 16 then Some Wrong.BeyondProfile else None))))

abbrev pub wrong_if_valid : Report → Option Wrong
wrong_if_valid report = if nat_lt 0 (out_of_range report).count then Some Wrong.OutOfRange else None

-- with an input of this report, where so many arrays and objects are open before its place
abbrev pub wrong_of : Report → ℕ → Option Wrong
wrong_of report levels =
    if nat_eq report.verdict 3 then Some (wrong_if_refused report levels)
    else (if nat_eq report.verdict 2 then wrong_by_rule report.rule
    else (if nat_eq report.verdict 1 then wrong_if_valid report else None))

-- the place that shows it: of a valid text that of the first position out of range
abbrev pub place_of : Report → ℕ
place_of report = if nat_eq report.verdict 1 then (out_of_range report).first else report.place

-- ---- the bytes that count

-- how many of the first bytes of the input, and how many before the place and from it on
abbrev pub most_of_head : ℕ
most_of_head = 512

abbrev pub most_around : ℕ
most_around = 256

-- the first of the input, the last before the place, and those from it on
pub record AreClues (head before after : List ℕ) (clues : Clues) : Type 0 where
  pub head_is : clues.head.now ≡ take most_of_head head
  pub before_is : clues.before.now ≡ drop (length before - most_around) before
  pub after_is : clues.after.now ≡ take most_around after

abbrev pub hint_by : Option Wrong → Clues → Option Hint
hint_by None clues = None
hint_by (Some wrong) clues = hint_of wrong clues

abbrev pub IsHint : Option Wrong → List ℕ → List ℕ → List ℕ → Option Hint → Type 0
IsHint wrong head before after hint = (clues : Clues) × AreClues head before after clues × (hint ≡ hint_by wrong clues)

-- ---- its text

abbrev pub hint_text : Option Hint → List ℕ
hint_text None = with_zero []
hint_text (Some hint) = with_zero (text_of hint)

abbrev pub IsHintText : Option Wrong → List ℕ → List ℕ → List ℕ → List ℕ → Type 0
IsHintText wrong head before after told = (hint : Option Hint) × IsHint wrong head before after hint × (told ≡ hint_text hint)

-- ---- of a whole text in memory

-- so many arrays and objects are open after these bytes, in each text that goes on from them
abbrev pub AreOpen : List ℕ → ℕ → Type 0
AreOpen before levels = (text : Text) (rest : List ℕ) → IsAdmitted most text (before ++ rest) → levels ≡ open_at (length before) text

-- how many are open counts only where a byte is refused that cannot stand there
pub record IsHintIn (report : Report) (bytes told : List ℕ) : Type 0 where
  pub levels : ℕ
  pub levels_open : IsTrue (is_later_syntax report) → AreOpen (take (place_of report) bytes) levels
  pub text_is : IsHintText (wrong_of report levels) bytes (take (place_of report) bytes) (drop (place_of report) bytes) told
