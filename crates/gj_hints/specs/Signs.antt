-- Which signs are seen, by the first bytes of a file and those around a place; `src/signs.rt` has the tables of what they mean.
use Rattle.std.specs.Prelude.{ℕ, Bool, false, not, ◌||◌, ◌&&◌, List, [], ◌∷◌, length, Option, Some, None, codes, nat_eq, if◌then◌else◌}
use Rattle.std.specs.Char.{is_ascii_alphabetic}
use Rattle.gj_hints.specs.Bytes.{begins, holds, first_byte, second_byte, last_byte, without_mark, without_white, without_white_behind, without_last}
use Rattle.gj_hints.specs.Bytes.{is_in, has_one_of, until}
use Rattle.gj_hints.specs.Encodings.{is_other_encoding}
use Rattle.gj_hints.specs.declared.clues.Clues.{Clues}
use Rattle.gj_hints.specs.declared.kind.Hint.{Hint}
use Rattle.gj_hints.specs.declared.sign.Gap.{Gap}
use Rattle.gj_hints.specs.declared.sign.Sign.{Sign}

abbrev pub is_letter : Option ℕ → Bool
is_letter (Some byte) = is_ascii_alphabetic byte
is_letter None = false

abbrev pub begins_with_letter : List ℕ → Bool
begins_with_letter bytes = is_letter (first_byte bytes)

abbrev pub is_markup : List ℕ → Bool
is_markup head = begins (without_white (without_mark head)) (codes "<")

-- ---- a table

-- names in a line, with one of the set between them; no brackets, and no comma as in a sentence
abbrev pub is_header : List ℕ → List ℕ → Bool
is_header set line =
    (begins_with_letter line || begins line (codes "\""))
    && (has_one_of line set && (not (has_one_of line (codes "{}[]()")) && not (holds line (codes ", "))))

-- the first line of a file is one, and its end is among the bytes
abbrev pub are_columns : List ℕ → List ℕ → Bool
are_columns set head = holds head (codes "\n") && is_header set (until (without_mark head) (codes "\n"))

-- ---- the bytes around a place

-- any byte, and none, will do for an empty set
abbrev pub fits : List ℕ → Option ℕ → Bool
fits set byte = nat_eq (length set) 0 || is_in set byte

abbrev pub without_gap : Gap → List ℕ → List ℕ
without_gap Gap.None before = before
without_gap Gap.White before = without_white_behind before

-- the last two bytes are of the sets
abbrev pub is_behind : Gap → List ℕ → List ℕ → List ℕ → Bool
is_behind gap second last before =
    fits last (last_byte (without_gap gap before))
    && fits second (last_byte (without_gap gap (without_last (without_gap gap before))))

-- the first two are
abbrev pub is_ahead : List ℕ → List ℕ → List ℕ → Bool
is_ahead first next after = fits first (first_byte after) && fits next (second_byte after)

abbrev pub are_around : Gap → List ℕ → List ℕ → List ℕ → List ℕ → Clues → Bool
are_around gap second last first next clues = is_behind gap second last clues.before.now && is_ahead first next clues.after.now

-- the hint of the first row of sets that they are of
unfoldable pub first_around : List (Gap × List ℕ × List ℕ × List ℕ × List ℕ × Hint) → Clues → Option Hint
first_around [] clues = None
first_around (row ∷ rows) clues =
    if are_around row.0 row.1 row.2 row.3 row.4 clues then Some row.5 else first_around rows clues

-- ---- signs

abbrev pub is_seen : Sign → List ℕ → Clues → Bool
is_seen Sign.Begins text clues = begins clues.head.now text
is_seen Sign.Markup text clues = is_markup clues.head.now && holds clues.head.now text
is_seen Sign.Lettered text clues = begins_with_letter clues.head.now && holds clues.head.now text
is_seen Sign.Titled text clues = begins clues.head.now (codes " ") && holds clues.head.now text
is_seen Sign.Columns text clues = are_columns text clues.head.now
is_seen Sign.Start text clues = nat_eq (length clues.before.now) 0 && begins clues.after.now text
is_seen Sign.OtherEncoding text clues = is_other_encoding clues.before.now clues.after.now
is_seen Sign.At text clues = begins clues.after.now text
is_seen Sign.Quoted text clues = begins clues.after.now (codes "'") && holds clues.after.now text
is_seen Sign.OtherWord text clues = begins_with_letter clues.head.now && not (is_in (codes "fnt") (first_byte clues.head.now))

-- the hint of the first row that is seen
unfoldable pub first_seen : List (Sign × List ℕ × Hint) → Clues → Option Hint
first_seen [] clues = None
first_seen (row ∷ rows) clues = if is_seen row.0 row.1 clues then Some row.2 else first_seen rows clues
