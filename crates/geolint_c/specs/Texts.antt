-- The texts of rules, causes and kinds of warning, by the numbers in their names. They are those of the program's report.
use Rattle.std.specs.Prelude.{ℕ, List, [], ◌∷◌, ◌++◌, map, codes, slice_index_or}
use Rattle.gj_coords.specs.Texts.{rule_texts, kind_texts}
use Rattle.gj_json.specs.declared.fault.Cause.TheVariants.{Syntax, Truncated, Depth, Length}
use Rattle.gj_json.specs.Texts.{cause_text as text_of_cause}

-- as C reads a text, up to a byte 0
abbrev pub with_zero : List ℕ → List ℕ
with_zero text = text ++ (0 ∷ [])

-- of the rules, in the order of their numbers, after an empty one; no text for another number
abbrev pub rule_text : ℕ → List ℕ
rule_text number = slice_index_or ([] ∷ rule_texts) number []

-- of the causes, in the order of their numbers, after an empty one; no text for another number
abbrev pub cause_texts : List (List ℕ)
cause_texts = [] ∷ map text_of_cause (Syntax ∷ Truncated ∷ Depth ∷ Length ∷ [])

abbrev pub cause_text : ℕ → List ℕ
cause_text number = slice_index_or cause_texts number []

abbrev pub kind_text : ℕ → List ℕ
kind_text number = slice_index_or ([] ∷ kind_texts) number []

abbrev pub version_text : List ℕ
version_text = codes "0.1.0"
