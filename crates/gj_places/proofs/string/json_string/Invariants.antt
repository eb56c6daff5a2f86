use Rattle.std.proofs.Common.{◌≡◌, ◌∷◌, ℕ, List, encode_utf8_all, string_bytes}
use Rattle.gj_places.specs.Internal.Spelling.{SpellsInside}
use Rattle.gj_places.proofs.string.json_string.Given as goal

abbrev pub invariant-loop-c : goal.invariant-loop-c
invariant-loop-c l = (body : List ℕ) × (string_bytes l.spelled ≡ 34 ∷ body) × SpellsInside (encode_utf8_all l.yielded) body
