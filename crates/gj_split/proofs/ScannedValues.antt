-- How far a value reaches that is no array and no object.
use Rattle.gj_split.proofs.Common.{List, Scan, StandsAt, ap, drop, inl, inr, is_running, length, refl, scan_length, sym, true, ℕ, ◌++◌, ◌+◌, ◌∙◌, ◌≡◌}
use Rattle.gj_split.proofs.Common.{◌⊎◌}
use Rattle.std.proofs.Common.{add_assoc}
use Rattle.gj_split.specs.Internal.ScannedValues.{rest_length}
use Rattle.gj_split.proofs.ReadParts.{read_and_rest}

pub running_rest : (scan : Scan) (rest : List ℕ) → is_running scan ≡ true → rest_length scan rest ≡ scan_length scan rest
running_rest Scan.Start rest e = refl
running_rest Scan.Word rest e = refl
running_rest Scan.Text rest e = refl
running_rest Scan.Escape rest e = refl
running_rest other rest e = cc

pub ended_rest : (scan : Scan) (rest : List ℕ) → (scan ≡ Scan.Closed) ⊎ (scan ≡ Scan.Past) → rest_length scan rest ≡ 0
ended_rest scan rest (inl e) = ap (λ s. rest_length s rest) e
ended_rest scan rest (inr e) = ap (λ s. rest_length s rest) e

pub not_ended : (scan : Scan) → (scan ≡ Scan.Closed → ⊥) → (scan ≡ Scan.Past → ⊥) → is_running scan ≡ true
not_ended Scan.Start h k = refl
not_ended Scan.Word h k = refl
not_ended Scan.Text h k = refl
not_ended Scan.Escape h k = refl
not_ended Scan.Closed h k = absurd (h refl)
not_ended Scan.Past h k = absurd (k refl)

-- after a part that stands at the place, of which so many bytes are the value's
pub length_on : (place at count : ℕ) (first scan next : Scan) (part bytes : List ℕ) → StandsAt bytes at part
    → place + scan_length first (drop place bytes) ≡ at + scan_length scan (drop at bytes)
    → ((rest : List ℕ) → scan_length scan (part ++ rest) ≡ count + rest_length next rest)
    → place + scan_length first (drop place bytes) ≡ at + count + rest_length next (drop (at + length part) bytes)
length_on place at count first scan next part bytes h e f =
    e ∙ (ap (λ xs. at + scan_length scan xs) (read_and_rest at part bytes h)
    ∙ (ap (λ n. at + n) (f (drop (at + length part) bytes)) ∙ sym (add_assoc at count (rest_length next (drop (at + length part) bytes)))))
