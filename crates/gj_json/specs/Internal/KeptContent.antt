-- What is kept of the characters of a string or a name.
use Rattle.std.specs.Prelude.{◌≡◌, ℕ, ◌≤◌, ◌<◌, Bool, true, false, if◌then◌else◌, List, length, take}
use Rattle.std.specs.List.{AllByRecursion}
use Rattle.gj_json.specs.declared.content.Content.{Content}
use Rattle.gj_json.specs.declared.names.Known.{Known}
use Rattle.gj_json.specs.declared.names.Word.{Word}
use Rattle.gj_json.specs.Names.{known_of, word_of}
use Rattle.gj_json.specs.Internal.ContentWords.{Words}

abbrev pub IsAscii : ℕ → Type 0
IsAscii c = c < 128

-- no name and no type that has a meaning, and no beginning of one: too many characters, or one that is not ASCII
abbrev pub IsOther : List ℕ → Type 0
IsOther characters = AllByRecursion IsAscii characters → length characters ≤ 18 → ⊥

abbrev pub letters_in : Content → List ℕ
letters_in c = take c.count c.letters

abbrev pub HoldsBy : Bool → Content → List ℕ → Type 0
HoldsBy true c characters = IsOther characters
HoldsBy false c characters = letters_in c ≡ characters

-- these are the characters so far
abbrev pub Holds : Content → List ℕ → Type 0
Holds c characters = HoldsBy c.other c characters

abbrev pub known_in : Content → Known
known_in c = if c.other then Known.Other else known_of (letters_in c)

abbrev pub word_in : Content → Word
word_in c = if c.other then Word.Other else word_of (letters_in c)

abbrev pub words_in : Content → Words
words_in c = record { known = known_in c; word = word_in c }
