-- The lines of a summary about rules, kinds of warning and causes, and the calls that explain them: one for each that is counted.
use Rattle.std.specs.Prelude.{◌≡◌, ◌<◌, ℕ, ◌-◌, Bool, ◌||◌, List, [], ◌∷◌, ◌++◌, length, take, codes, if◌then◌else◌, nat_eq, nat_lt, get_or}
use Rattle.std.specs.Fmt.{decimal}
use Rattle.std.specs.List.{flat_map}
use Rattle.geolint_report.specs.declared.texts.Code.{Code}
use Rattle.geolint_report.specs.declared.texts.TheConstants.{ALL, CODES}
use Rattle.geolint_report.specs.Slots.{slot_of}
use Rattle.geolint_report.specs.Texts.{code_name, code_text}

-- ---- the line of a code

-- spaces before a number of so many digits
abbrev pub spaces_before : ℕ → List ℕ
spaces_before digits = take (8 - digits) (codes "        ")

unfoldable pub in_eight_places : ℕ → List ℕ
in_eight_places number = spaces_before (length (decimal number)) ++ decimal number

unfoldable pub count_line : Code → ℕ → List ℕ
count_line code count = in_eight_places count ++ (codes " " ++ (code_name code ++ (codes ": " ++ (code_text code ++ codes "\n"))))

-- nothing where none is reported
abbrev pub count_line_if : Code → ℕ → List ℕ
count_line_if code count = if nat_eq count 0 then [] else count_line code count

-- ---- the lines of all codes, by the count of each

abbrev pub code_line : (Code → ℕ) → Code → List ℕ
code_line count code = count_line_if code (count code)

unfoldable pub code_lines : (Code → ℕ) → List ℕ
code_lines count = flat_map (code_line count) ALL

-- the counts lie in the slots of their codes
abbrev pub AreCounts : List ℕ → (Code → ℕ) → Type 0
AreCounts counts count = (code : Code) → slot_of code < CODES → get_or counts (slot_of code) 0 ≡ count code

-- ---- the calls that explain codes

unfoldable pub call_line : Code → List ℕ
call_line code = codes "geolint-files --explain " ++ (code_name code ++ codes "\n")

abbrev pub call_line_if : Bool → Code → List ℕ
call_line_if is_told code = if is_told then call_line code else []

-- by its counts of files, and of features and records
abbrev pub call_of : (Code → ℕ) → (Code → ℕ) → Code → List ℕ
call_of of_files of_items code = call_line_if (nat_lt 0 (of_files code) || nat_lt 0 (of_items code)) code

unfoldable pub call_lines : (Code → ℕ) → (Code → ℕ) → List ℕ
call_lines of_files of_items = flat_map (call_of of_files of_items) ALL
