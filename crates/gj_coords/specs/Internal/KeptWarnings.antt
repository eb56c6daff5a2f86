-- What a `Warnings` keeps of a list of warnings, and how two of them are joined. The laws of `warnings_of`, `joined` and
-- `added` are in `WarningLaws`: cite those, and unfold none of the three.
use Rattle.std.specs.Prelude.{ℕ, ◌+◌, min, ◌==◌, Bool, ◌&&◌, if◌then◌else◌, List, Option, Some, None, unwrap_or}
use Rattle.std.specs.List.{list_all}
use Rattle.gj_coords.specs.declared.kind.Kind.{Kind}
use Rattle.gj_coords.specs.declared.kind_warnings.KindWarnings.{KindWarnings}
use Rattle.gj_coords.specs.declared.warnings.Warnings.{Warnings}
use Rattle.gj_coords.specs.Internal.ByKind.{each, of_kind}
use Rattle.gj_coords.specs.Warnings.{Warning, kinds, same_kind, greatest_count, count_of, first_of}

abbrev pub noted_as : ℕ → ℕ → KindWarnings
noted_as count first = record { count = count; first = first }

-- what is kept of the warnings of one kind: how many, and the least place, which is 0 where there are none
abbrev pub noted_of : Kind → List Warning → KindWarnings
noted_of kind warnings = noted_as (count_of kind warnings) (unwrap_or (first_of kind warnings) 0)

abbrev pub nothing_noted : KindWarnings
nothing_noted = noted_as 0 0

abbrev pub is_nothing : KindWarnings → Bool
is_nothing noted = noted.count == 0 && noted.first == 0

-- counts are added, and the lesser place is kept
abbrev pub joined_noted : KindWarnings → KindWarnings → KindWarnings
joined_noted a b =
    if is_nothing a then b
    else (if is_nothing b then a
    else noted_as (min (a.count + b.count) greatest_count) (min a.first b.first))

-- the place is so many bytes further on, where there is one
abbrev pub shifted_noted : ℕ → KindWarnings → KindWarnings
shifted_noted by a = noted_as a.count (if a.count == 0 then a.first else a.first + by)

-- what is kept of each kind, side by side
abbrev pub by_kind : (Kind → KindWarnings) → Warnings
by_kind noted = record {
  firsts = each (λ kind. (noted kind).first);
  counts = each (λ kind. (noted kind).count);
}

-- of a kind
abbrev pub kept : Warnings → Kind → KindWarnings
kept warnings kind = noted_as (of_kind warnings.counts kind) (of_kind warnings.firsts kind)

-- how many of a kind there are, and the least place, as they are reported
abbrev pub count_in : Kind → Warnings → ℕ
count_in kind warnings = (kept warnings kind).count

abbrev pub first_in : Kind → Warnings → Option ℕ
first_in kind warnings = if (kept warnings kind).count == 0 then None else Some (kept warnings kind).first

-- what is kept of a list of warnings
unfoldable pub warnings_of : List Warning → Warnings
warnings_of warnings = by_kind (λ kind. noted_of kind warnings)

-- what is kept of no warning
unfoldable pub no_warnings : Warnings
no_warnings = by_kind (λ kind. nothing_noted)

-- what is kept of both, kind by kind
unfoldable pub joined : Warnings → Warnings → Warnings
joined a b = by_kind (λ kind. joined_noted (kept a kind) (kept b kind))

-- each place so many bytes further on
unfoldable pub shifted : Warnings → ℕ → Warnings
shifted a by = by_kind (λ kind. shifted_noted by (kept a kind))

-- one kind replaced
unfoldable pub replaced : Warnings → Kind → KindWarnings → Warnings
replaced warnings kind noted = by_kind (λ other. if same_kind kind other then noted else kept warnings other)

-- some warnings of a kind more
unfoldable pub with_noted : Warnings → Kind → KindWarnings → Warnings
with_noted warnings kind noted = replaced warnings kind (joined_noted (kept warnings kind) noted)

-- one warning more
unfoldable pub added : Warnings → Kind → ℕ → Warnings
added warnings kind place =
    by_kind (λ other. if same_kind kind other then joined_noted (kept warnings other) (noted_as 1 place) else kept warnings other)

-- no kind has a count
abbrev pub none_in : Warnings → Bool
none_in warnings = list_all (λ kind. of_kind warnings.counts kind == 0) kinds
