-- A piece that starts with known bytes: what follows from these alone.
use Rattle.gj_json.proofs.Common.{List, Plain, ap, bytes_eq, drop, is_unescaped_ascii, prefix_len, subst, sym, take-append-drop, true, ℕ, ◌++◌, ◌∙◌}
use Rattle.gj_json.proofs.Common.{◌≡◌}
use Rattle.std.proofs.Common.{take}
use Rattle.std.proofs.lemmas.Slice.Eq.{bytes_eq-Decides}
use Rattle.gj_json.specs.Internal.QuietBytes.{Reads}
use Rattle.gj_json.proofs.Pieces.QuietModes

pub same_bytes : (xs ys : List ℕ) → true ≡ bytes_eq xs ys → xs ≡ ys
same_bytes xs ys same = (bytes_eq-Decides xs ys).0 (sym same)

pub by_first : (P : List ℕ → Type 0) (n : ℕ) (piece told first : List ℕ) → true ≡ bytes_eq (take n piece) told → told ≡ first → P (first ++ drop n piece)
    → P piece
by_first P n piece told first same e h =
    let f : first ≡ take n piece = sym ((bytes_eq-Decides (take n piece) told).0 (sym same) ∙ e) in
    subst P (ap (λ xs. xs ++ drop n piece) f ∙ take-append-drop n piece) h

-- plain characters, read as they stand
pub plain : (xs : List ℕ) → Reads Plain (take (prefix_len is_unescaped_ascii xs) xs) (take (prefix_len is_unescaped_ascii xs) xs) Plain
plain xs = (QuietModes.plain_run xs).0
