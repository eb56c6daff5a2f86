-- What is said of a hint: its text, where the name of the file stands in its commands.
use Rattle.std.specs.Prelude.{ℕ, zero, suc, Bool, not, ◌&&◌, ◌||◌, List, [], ◌∷◌, ◌++◌, Option, Some, None, codes, if◌then◌else◌, nat_eq}
use Rattle.std.specs.Char.{is_ascii_alphanumeric}
use Rattle.std.specs.Cmp.Lexicographic.{pointwise}
use Rattle.std.specs.List.{flat_map, list_all, list_any, starts_with}
use Rattle.gj_coords.specs.declared.kind.Kind.{Kind}
use Rattle.gj_hints.specs.declared.kind.Hint.{Hint}
use Rattle.gj_hints.specs.Texts.{text_of}
use Rattle.geolint_report.specs.declared.texts.Code.{Code}
use Rattle.report_forms.specs.Names.{shown_name}

-- ---- a name as a word of a POSIX shell

abbrev pub is_plain_in_word : ℕ → Bool
is_plain_in_word byte = is_ascii_alphanumeric byte || list_any (λ other. nat_eq other byte) (codes "/-._")

abbrev pub in_quotes : ℕ → List ℕ
in_quotes byte = if nat_eq byte 39 then codes "'\\''" else byte ∷ []

unfoldable pub quoted : List ℕ → List ℕ
quoted name = codes "'" ++ (flat_map in_quotes name ++ codes "'")

abbrev pub shell_word : List ℕ → List ℕ
shell_word name = if list_all is_plain_in_word name then name else quoted name

-- it is not that of standard input, would be no option, and is shown as it is
abbrev pub has_word : List ℕ → Bool
has_word name = not (starts_with nat_eq name (codes "-")) && pointwise nat_eq name (shown_name name)

abbrev pub file_word : List ℕ → List ℕ
file_word name = if has_word name then shell_word name else codes "IN"

-- ---- the text

-- the word stands for each IN after a space; so many bytes are passed over
abbrev pub named : List ℕ → ℕ → List ℕ → List ℕ
named word skipped [] = []
named word (suc skipped) (byte ∷ more) = named word skipped more
named word zero (byte ∷ more) =
    if starts_with nat_eq (byte ∷ more) (codes " IN") then (codes " " ++ word) ++ named word 2 more else byte ∷ named word 0 more

-- of a file of this name
abbrev pub hint_text : List ℕ → Hint → List ℕ
hint_text name hint = named (file_word name) 0 (text_of hint)

-- ---- in a message

-- a hint is on the fault or, where there is none, on the positions out of range
abbrev pub hint_on : Code → Option Hint → Option Hint
hint_on (Code.Kind Kind.W5) hint = hint
hint_on (Code.Kind kind) hint = None
hint_on code hint = hint

unfoldable pub some_hint : List ℕ → Hint → List ℕ
some_hint name hint = codes "; hint: " ++ hint_text name hint

abbrev pub and_hint : List ℕ → Option Hint → List ℕ
and_hint name (Some hint) = some_hint name hint
and_hint name None = []
