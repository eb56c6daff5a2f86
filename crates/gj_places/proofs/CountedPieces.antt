-- Lines and characters of bytes behind others, and of one byte behind others.
use Rattle.std.proofs.Common.{arith, ◌≡◌, ◌<◌, ◌≤◌, ◌∙◌, ℕ, suc, ◌+◌, ◌*◌, ◌++◌, ◌∷◌, [], List, ap, sym, refl, length, take, drop}
use Rattle.std.proofs.Common.{get_or, append_assoc, length-drop}
use Rattle.std.proofs.lemmas.List.{take_more, get_or-drop, take-append-drop}
use Rattle.std.specs.Simd.{first_chunks}
use Rattle.std.specs.Prelude.{Bool, true, false, if◌then◌else◌}
use Rattle.std.proofs.lemmas.Bool.{or_parts, false_from_ne_true}
use Rattle.gj_places.specs.Lines.{is_line_feed, begins_character, line_feeds, characters, has_line_feed, last_line, line_of, column_of}
use Rattle.gj_places.proofs.Blocks.{next_block, blocks_and_rest}
use Rattle.gj_places.proofs.KeptLines.{has-one, last_line-behind, last_line-longer}

-- what a byte adds to a count, by whether it counts
abbrev pub counted : Bool → ℕ
counted b = if b then 1 else 0

pub line_feeds-append : (xs ys : List ℕ) → line_feeds (xs ++ ys) ≡ line_feeds xs + line_feeds ys
line_feeds-append [] ys = omega arith
line_feeds-append (x ∷ xs) ys = let rest = line_feeds-append xs ys in omega (arith, rest)

pub characters-append : (xs ys : List ℕ) → characters (xs ++ ys) ≡ characters xs + characters ys
characters-append [] ys = omega arith
characters-append (x ∷ xs) ys = let rest = characters-append xs ys in omega (arith, rest)

line_feeds-more : (bytes : List ℕ) (byte : ℕ) → line_feeds (bytes ++ byte ∷ []) ≡ line_feeds bytes + (if is_line_feed byte then 1 else 0)
line_feeds-more bytes byte = omega (arith, line_feeds-append bytes (byte ∷ []))

characters-more : (bytes : List ℕ) (byte : ℕ) → characters (bytes ++ byte ∷ []) ≡ characters bytes + (if begins_character byte then 1 else 0)
characters-more bytes byte = omega (arith, characters-append bytes (byte ∷ []))

pub last_line-feed : (bytes : List ℕ) (byte : ℕ) → is_line_feed byte ≡ true → last_line (bytes ++ byte ∷ []) ≡ []
last_line-feed bytes byte is = last_line-behind bytes (byte ∷ []) (has-one byte true is) ∙ rw is refl

column_of-feed : (bytes : List ℕ) (byte : ℕ) → is_line_feed byte ≡ true → column_of (bytes ++ byte ∷ []) ≡ 1
column_of-feed bytes byte is = ap (λ (line : List ℕ). characters line + 1) (last_line-feed bytes byte is)

at-most-by : (counts : Bool) (some all : ℕ) → some ≤ all → counted counts + some ≤ suc all
at-most-by true some all within = omega (arith, within)
at-most-by false some all within = omega (arith, within)

-- a list has no more lines and characters than bytes
pub line_feeds-at-most : (xs : List ℕ) → line_feeds xs ≤ length xs
line_feeds-at-most [] = omega arith
line_feeds-at-most (x ∷ xs) = at-most-by (is_line_feed x) (line_feeds xs) (length xs) (line_feeds-at-most xs)

pub characters-at-most : (xs : List ℕ) → characters xs ≤ length xs
characters-at-most [] = omega arith
characters-at-most (x ∷ xs) = at-most-by (begins_character x) (characters xs) (length xs) (characters-at-most xs)

-- a count of what the bytes of a list add, block by block: with one block more, and with the bytes that fill none
module _ (count : List ℕ → ℕ) (adds : (xs ys : List ℕ) → count (xs ++ ys) ≡ count xs + count ys) (n i k : ℕ) (bytes : List ℕ) (so_far here : ℕ)
    (before : so_far ≡ count (take (i * n) bytes)) where
  pub block_counted : (blocks : List (List ℕ)) → blocks ≡ first_chunks n k bytes → i < k → here ≡ count (get_or blocks i [])
      → so_far + here ≡ count (take ((i + 1) * n) bytes)
  block_counted blocks front less is =
      let next = ap count (next_block n i k bytes blocks front less) in
      omega (arith, next, adds (take (i * n) bytes) (get_or blocks i []), before, is)

  pub rest_counted : (rest : List ℕ) → rest ≡ drop (k * n) bytes → i ≡ k → here ≡ count rest → so_far + here ≡ count bytes
  rest_counted rest back end is =
      let parts = ap count (blocks_and_rest n i k bytes rest back end) in
      omega (arith, parts, adds (take (i * n) bytes) rest, before, is)

pub line_feeds-take : (xs : List ℕ) (i : ℕ) → i < length xs →
    line_feeds (take (i + 1) xs) ≡ line_feeds (take i xs) + (if is_line_feed (get_or xs i 0) then 1 else 0)
line_feeds-take xs i within = ap line_feeds (take_more xs i 0 within) ∙ line_feeds-more (take i xs) (get_or xs i 0)

pub characters-take : (xs : List ℕ) (i : ℕ) → i < length xs →
    characters (take (i + 1) xs) ≡ characters (take i xs) + (if begins_character (get_or xs i 0) then 1 else 0)
characters-take xs i within = ap characters (take_more xs i 0 within) ∙ characters-more (take i xs) (get_or xs i 0)

none_ends : (xs : List ℕ) → has_line_feed xs ≡ false → line_feeds xs ≡ 0
none_ends [] none = refl
none_ends (x ∷ xs) none = let both = or_parts (is_line_feed x) (has_line_feed xs) none in
    let here = ap (λ (b : Bool). counted b) both.0 in
    omega (arith, here, none_ends xs both.1)

-- bytes without LF
pub line_of-on : (bytes rest : List ℕ) → has_line_feed rest ≡ false → line_of (bytes ++ rest) ≡ line_of bytes
line_of-on bytes rest none = omega (arith, line_feeds-append bytes rest, none_ends rest none)

pub column_of-on : (bytes rest : List ℕ) → has_line_feed rest ≡ false → column_of (bytes ++ rest) ≡ column_of bytes + characters rest
column_of-on bytes rest none =
    let same = ap (λ (line : List ℕ). characters line + 1) (last_line-longer bytes rest none) in
    omega (arith, same, characters-append (last_line bytes) rest)

-- bytes and an LF
pub line_of-end : (bytes lines : List ℕ) (byte : ℕ) → is_line_feed byte ≡ true → line_of (bytes ++ (lines ++ byte ∷ [])) ≡ line_of bytes + line_feeds lines + 1
line_of-end bytes lines byte is =
    let one = ap counted is in
    omega (arith, line_feeds-append bytes (lines ++ byte ∷ []), line_feeds-more lines byte, one)

pub column_of-end : (bytes lines : List ℕ) (byte : ℕ) → is_line_feed byte ≡ true → column_of (bytes ++ (lines ++ byte ∷ [])) ≡ 1
column_of-end bytes lines byte is = ap column_of (sym (append_assoc bytes lines (byte ∷ []))) ∙ column_of-feed (bytes ++ lines) byte is

-- bytes of which none is LF have none
pub none-has : (xs : List ℕ) → ((k : ℕ) → k < length xs → is_line_feed (get_or xs k 0) ≡ false) → has_line_feed xs ≡ false
none-has [] none = refl
none-has (x ∷ xs) none =
    let here : is_line_feed x ≡ false = none 0 (omega arith) in
    let more : (k : ℕ) → k < length xs → is_line_feed (get_or xs k 0) ≡ false =
    λ k within. (let next : is_line_feed (get_or (x ∷ xs) (suc k) 0) ≡ false = none (suc k) (omega arith) in next) in
    rw here (none-has xs more)

-- the bytes from one on, where no LF is after it
pub rest_has : (xs : List ℕ) (from : ℕ) → ((k : ℕ) → from ≤ k → k < length xs → is_line_feed (get_or xs k 0) ≡ true → ⊥) → has_line_feed (drop from xs) ≡ false
rest_has xs from none = none-has (drop from xs) (λ k within.
    let at : get_or (drop from xs) k 0 ≡ get_or xs (from + k) 0 = get_or-drop from xs k 0 in
    rw at (false_from_ne_true (is_line_feed (get_or xs (from + k) 0)) (none (from + k) (omega arith) (omega (arith, within, length-drop from xs)))))

-- the lines and what comes after the last LF
pub parted : (xs : List ℕ) (last byte : ℕ) → last < length xs → get_or xs last 0 ≡ byte → (take last xs ++ byte ∷ []) ++ drop (last + 1) xs ≡ xs
parted xs last byte within is =
    let front : take last xs ++ byte ∷ [] ≡ take (last + 1) xs = ap (λ b. take last xs ++ b ∷ []) (sym is) ∙ sym (take_more xs last 0 within) in
    ap (λ ys. ys ++ drop (last + 1) xs) front ∙ take-append-drop (last + 1) xs
