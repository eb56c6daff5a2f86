-- Where the checksum of a line begins.
use Rattle.part_lines.proofs.Common.{arith, ◌≡◌, ℕ, ap, ◌∙◌, List, ◌++◌, codes, length, take}
use Rattle.std.proofs.Common.{◌-◌}
use Rattle.std.proofs.Math.Seq.{take-append_seam}
use Rattle.std.proofs.lemmas.List.{length-append}
use Rattle.hex.specs.Hex.{encode_lower, lower_digits}
use Rattle.hex.proofs.HexLemmas.{length-encode_with}
use Rattle.sha2.specs.Sha256.{sha256}
use Rattle.sha2.proofs.Facts256.{length-sha256}
use Rattle.part_lines.specs.Sealed.{body_in, seal_of, sealed}

seal-length : (body : List ℕ) → length (seal_of body) ≡ 77
seal-length body =
    let digits = encode_lower (sha256 body) in
    let hashed = length-sha256 body in
    let written = length-encode_with lower_digits (sha256 body) in
    let ended = length-append digits (codes "\"}") in
    let whole = length-append (codes ",\"sha256\":\"") (digits ++ codes "\"}") in
    omega (arith, hashed, written, ended, whole)

pub body-there : (body : List ℕ) → body_in (sealed body) ≡ body
body-there body =
    let both = length-append body (seal_of body) in
    let seal = seal-length body in
    let less : length (sealed body) - 77 ≡ length body = omega (arith, both, seal) in
    ap (λ (n : ℕ). take n (sealed body)) less ∙ take-append_seam body (seal_of body)
