-- Texts, and what can still become one (RFC 8259, section 2; a byte order mark may stand before it, which section 8.1 allows a reader to pass over).
use Rattle.std.specs.Prelude.{ℕ, ◌≤◌, List, [], ◌++◌, Bool, if◌then◌else◌}
use Rattle.gj_json.specs.Bytes.{mark_bytes}
use Rattle.gj_json.specs.Tree.{Text, depth}
use Rattle.gj_json.specs.Grammar.{Then, White, Exactly, Spells}

-- a byte order mark, where the text has one
abbrev pub SpellsMark : Bool → ℕ → List ℕ → Type 0
SpellsMark marked = Exactly (if marked then mark_bytes else [])

-- these bytes are this text
abbrev pub IsText : Text → List ℕ → Type 0
IsText text bytes = Then (SpellsMark text.marked) (Then White (Then (Spells text.value) White)) 0 bytes

-- and its arrays and objects nest no deeper than `levels`
abbrev pub IsTextWithin : ℕ → Text → List ℕ → Type 0
IsTextWithin levels text bytes = IsText text bytes × (depth text.value ≤ levels)

-- some bytes more make it a text
abbrev pub IsViable : List ℕ → Type 0
IsViable bytes = (rest : List ℕ) × (text : Text) × IsText text (bytes ++ rest)

abbrev pub IsViableWithin : ℕ → List ℕ → Type 0
IsViableWithin levels bytes = (rest : List ℕ) × (text : Text) × IsTextWithin levels text (bytes ++ rest)
