-- A line with its checksum, by which a change of any byte is seen: the SHA-256 of the bytes before it, as its last member.
use Rattle.std.specs.Prelude.{ℕ, ◌-◌, List, ◌++◌, length, take, codes}
use Rattle.hex.specs.Hex.{encode_lower}
use Rattle.sha2.specs.Sha256.{sha256}

abbrev pub seal_of : List ℕ → List ℕ
seal_of body = codes ",\"sha256\":\"" ++ (encode_lower (sha256 body) ++ codes "\"}")

abbrev pub sealed : List ℕ → List ℕ
sealed body = body ++ seal_of body

-- what stands before the checksum, which has a fixed length
abbrev pub body_in : List ℕ → List ℕ
body_in text = take (length text - 77) text

-- the object of such a line without its checksum
abbrev pub object_in : List ℕ → List ℕ
object_in text = body_in text ++ codes "}"
