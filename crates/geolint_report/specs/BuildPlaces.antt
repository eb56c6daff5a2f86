-- Where the text on a program's build stands in the bytes of its file.
use Rattle.std.specs.Prelude.{◌≡◌, ℕ, ◌+◌, ◌≤◌, Bool, true, ◌&&◌, nat_eq, get_or, List, length, drop, Option, None, Some, MatchOption, ⊤}
use Rattle.memchr.specs.Find.{FindsLastNeedle, IsFirstByte, is_byte}
use Rattle.geolint_report.specs.declared.own_build.place.BuildPlace.{BuildPlace}
use Rattle.geolint_report.specs.declared.own_build.place.TheConstants.{MARK}

-- what follows a mark at this place
abbrev pub after : List ℕ → ℕ → List ℕ
after file mark = drop (mark + length MARK) file

-- an LF, and the first letter of `commit`
abbrev pub is_text : List ℕ → Bool
is_text rest = nat_eq (get_or rest 0 0) 10 && nat_eq (get_or rest 1 0) 99

-- after a mark at this place: the text has a line feed before it and a NUL after it
abbrev pub IsPlaceAfter : List ℕ → ℕ → Option BuildPlace → Type 0
IsPlaceAfter file mark None = is_text (after file mark) ≡ true → IsFirstByte (is_byte 0) (after file mark) None
IsPlaceAfter file mark (Some place) = (is_text (after file mark) ≡ true) × (count : ℕ)
    × IsFirstByte (is_byte 0) (after file mark) (Some count) × (place.start ≡ mark + length MARK + 1) × (place.end ≡ mark + length MARK + count)

abbrev pub IsBuildPlace : List ℕ → Option BuildPlace → Type 0
IsBuildPlace file result = (mark : Option ℕ) × FindsLastNeedle file MARK mark × MatchOption mark (result ≡ None) (λ at. IsPlaceAfter file at result)

-- so that the file can be cut there
abbrev pub IsWithin : List ℕ → Option BuildPlace → Type 0
IsWithin file None = ⊤
IsWithin file (Some place) = (place.start ≤ place.end) × (place.end ≤ length file)
