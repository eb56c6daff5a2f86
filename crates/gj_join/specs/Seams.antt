-- Where a feature seems to have ended, and another to follow.
use Rattle.std.specs.Prelude.{ℕ, suc, Bool, true, false, ◌&&◌, nat_eq, if◌then◌else◌, List, [], ◌∷◌, Option, Some, None, option_map}
use Rattle.std.specs.Char.{is_ascii_whitespace}
use Rattle.gj_json.specs.Bytes.{comma, open_brace, close_brace, quote}

-- the bytes after white space and this byte
abbrev pub after_byte : ℕ → List ℕ → Option (List ℕ)
after_byte byte [] = None
after_byte byte (first ∷ more) =
    if nat_eq first byte then Some more else (if is_ascii_whitespace first then after_byte byte more else None)

-- these signs are the first of the bytes, with white space or none before each
abbrev pub begin_with : List ℕ → Option (List ℕ) → Bool
begin_with signs None = false
begin_with [] (Some bytes) = true
begin_with (sign ∷ more) (Some bytes) = begin_with more (after_byte sign bytes)

-- a comma and the beginning of an object
abbrev pub begins_object : List ℕ → Bool
begins_object bytes = begin_with (comma ∷ open_brace ∷ quote ∷ []) (Some bytes)

-- a closing brace, and then these
abbrev pub is_seam : List ℕ → Bool
is_seam [] = false
is_seam (first ∷ more) = nat_eq first close_brace && begins_object more

-- how many bytes end with the first closing brace that is followed so
abbrev pub seam : List ℕ → Option ℕ
seam [] = None
seam (first ∷ more) = if is_seam (first ∷ more) then Some 1 else option_map suc (seam more)
