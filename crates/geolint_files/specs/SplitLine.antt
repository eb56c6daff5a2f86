-- The line on standard error about a file that was split.
use Rattle.std.specs.Prelude.{ℕ, List, ◌++◌, codes, if◌then◌else◌}
use Rattle.std.specs.Fmt.{decimal}
use Rattle.gj_rules.specs.declared.verdict.Verdict.{Verdict}
use Rattle.report_forms.specs.Names.{shown_name}
use Rattle.gj_split.specs.Parts.{ending_of}
use Rattle.gj_split.specs.declared.files.part_file.Part.{Part}
use Rattle.gj_split.specs.declared.files.source.Whole.{Whole}
use Rattle.gj_split.specs.declared.files.writing.Written.{Written}

unfoldable pub part_name : List ℕ → Part → List ℕ
part_name prefix part = shown_name prefix ++ ending_of part

-- how many a part has
unfoldable pub count_in : List ℕ → ℕ → List ℕ → Part → List ℕ
count_in before count prefix part = before ++ (decimal count ++ (codes " in " ++ part_name prefix part))

unfoldable pub only_before : List ℕ → List ℕ → List ℕ → List ℕ
only_before what path why = codes "; these are the " ++ (what ++ (codes " before the place where " ++ (shown_name path ++ why)))

-- whether some are missing
abbrev pub missing : Whole → List ℕ → List ℕ
missing (Whole.Text (Verdict.NotJson fault)) path = only_before (codes "features") path (codes " is not JSON\n")
missing (Whole.Text (Verdict.Broken fault)) path = codes "\n"
missing (Whole.Text (Verdict.Valid warnings)) path = codes "\n"
missing (Whole.Records input) path = if input.is_cut then only_before (codes "records") path (codes " is too long\n") else codes "\n"

unfoldable pub written_line : Written → List ℕ → List ℕ → List ℕ
written_line written prefix path =
    count_in (codes "geolint-files: ") written.counts.valid prefix Part.Valid
    ++ (count_in (codes ", ") written.counts.broken prefix Part.Broken ++ missing written.whole path)
