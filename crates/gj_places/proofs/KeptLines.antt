-- What is kept of a line with more bytes.
use Rattle.std.proofs.Common.{arith, refl, ◌≡◌, ◌≤◌, ◌<◌, ℕ, ◌+◌, ◌-◌, ◌++◌, ◌∷◌, [], List, length, take, drop, ap, sym, ◌∙◌}
use Rattle.std.proofs.Common.{append_assoc, append-nil, length-append, length-drop}
use Rattle.std.specs.Prelude.{Bool, true, false, ◌||◌, if◌then◌else◌, get_or, encode_utf8, encode_utf8_all, codes, min, nat_lt}
use Rattle.std.proofs.lemmas.Grind.{common_steps}
use Rattle.std.proofs.lemmas.List.{length-take, take-append-drop, take_more, take_all, take-append-le, drop-append-le, drop-drop, drop_at}
use Rattle.std.proofs.lemmas.Str.{encodes-append}
use Rattle.std.proofs.lemmas.Bool.{or_right, false≢true, true≢false}
use Rattle.gj_places.specs.Lines.{is_line_feed, has_line_feed, last_line}
use Rattle.gj_places.specs.Excerpts.{last_of, first_line, cut_back}

-- ---- LF in two lists, one behind the other

pub has-behind : (xs ys : List ℕ) → has_line_feed ys ≡ true → has_line_feed (xs ++ ys) ≡ true
has-behind [] ys is = is
has-behind (x ∷ xs) ys is = or_right (is_line_feed x) (has_line_feed (xs ++ ys)) (has-behind xs ys is)

or_left : (a b c : Bool) → (b ≡ true → c ≡ true) → (a || b) ≡ true → (a || c) ≡ true
or_left true b c more is = refl
or_left false b c more is = more is

pub has-before : (xs ys : List ℕ) → has_line_feed xs ≡ true → has_line_feed (xs ++ ys) ≡ true
has-before [] ys is = absurd (false≢true is)
has-before (x ∷ xs) ys is = or_left (is_line_feed x) (has_line_feed xs) (has_line_feed (xs ++ ys)) (has-before xs ys) is

pub has-neither : (xs ys : List ℕ) → has_line_feed ys ≡ false → has_line_feed (xs ++ ys) ≡ has_line_feed xs
has-neither [] ys lacks = lacks
has-neither (x ∷ xs) ys lacks = ap (λ (b : Bool). is_line_feed x || b) (has-neither xs ys lacks)

-- ---- the last line

pub last_line-behind : (xs ys : List ℕ) → has_line_feed ys ≡ true → last_line (xs ++ ys) ≡ last_line ys
last_line-behind [] ys is = refl
last_line-behind (x ∷ xs) ys is = rw (has-behind (x ∷ xs) ys is) (last_line-behind xs ys is)

pub last_line-none : (ys : List ℕ) → has_line_feed ys ≡ false → last_line ys ≡ ys
last_line-none [] lacks = refl
last_line-none (y ∷ ys) lacks = rw lacks refl

last_line-longer-by : (has : Bool) (x : ℕ) (xs ys : List ℕ) → last_line (xs ++ ys) ≡ last_line xs ++ ys
    → (if has then last_line (xs ++ ys) else x ∷ (xs ++ ys)) ≡ (if has then last_line xs else x ∷ xs) ++ ys
last_line-longer-by true x xs ys rest = rest
last_line-longer-by false x xs ys rest = refl

pub last_line-longer : (xs ys : List ℕ) → has_line_feed ys ≡ false → last_line (xs ++ ys) ≡ last_line xs ++ ys
last_line-longer [] ys lacks = last_line-none ys lacks
last_line-longer (x ∷ xs) ys lacks =
    rw (has-neither (x ∷ xs) ys lacks) (last_line-longer-by (has_line_feed (x ∷ xs)) x xs ys (last_line-longer xs ys lacks))

last_line-short-by : (has : Bool) (x : ℕ) (xs : List ℕ) → length (last_line xs) ≤ length xs
    → length (if has then last_line xs else x ∷ xs) ≤ length (x ∷ xs)
last_line-short-by true x xs rest = omega (arith, rest)
last_line-short-by false x xs rest = omega arith

pub last_line-short : (xs : List ℕ) → length (last_line xs) ≤ length xs
last_line-short [] = omega arith
last_line-short (x ∷ xs) = last_line-short-by (has_line_feed (x ∷ xs)) x xs (last_line-short xs)

-- ---- the last of a list

-- where there are n of them behind the others
last_of-behind : (n : ℕ) (xs ys : List ℕ) → length ys ≡ n → last_of n (xs ++ ys) ≡ ys
last_of-behind n xs ys long =
    let sum = length-append xs ys in
    let front : length (xs ++ ys) - n ≡ length xs = omega (arith, sum, long) in
    ap (λ (k : ℕ). drop k (xs ++ ys)) front ∙ drop_at xs ys (length xs) refl

pub last_of-all : (n : ℕ) (xs : List ℕ) → length xs ≤ n → last_of n xs ≡ xs
last_of-all n xs few = let none : length xs - n ≡ 0 = omega (arith, few) in ap (λ (k : ℕ). drop k xs) none

pub length-last_of : (n : ℕ) (xs : List ℕ) → n ≤ length xs → length (last_of n xs) ≡ n
length-last_of n xs many = let long = length-drop (length xs - n) xs in omega (arith, long, many)

-- with room for one more
pub last_of-room : (n : ℕ) (xs : List ℕ) (x : ℕ) → length (last_of n xs) < n → last_of n (xs ++ x ∷ []) ≡ last_of n xs ++ x ∷ []
last_of-room n xs x room =
    let long = length-drop (length xs - n) xs in
    let few : length xs < n = omega (arith, long, room) in
    let sum = length-append xs (x ∷ []) in
    last_of-all n (xs ++ x ∷ []) (omega (arith, sum, few)) ∙ ap (λ (ys : List ℕ). ys ++ x ∷ []) (sym (last_of-all n xs (omega (arith, few))))

-- with none, the first of them goes
pub last_of-full : (n : ℕ) (xs : List ℕ) (x : ℕ) → 0 < n → n ≤ length (last_of n xs) → last_of n (xs ++ x ∷ []) ≡ drop 1 (last_of n xs) ++ x ∷ []
last_of-full n xs x some full =
    let long = length-drop (length xs - n) xs in
    let many : n ≤ length xs = omega (arith, long, full) in
    let sum = length-append xs (x ∷ []) in
    let less : length (xs ++ x ∷ []) - n ≡ (length xs - n) + 1 = omega (arith, sum, many) in
    ap (λ (k : ℕ). drop k (xs ++ x ∷ [])) less ∙ drop-append-le ((length xs - n) + 1) xs (x ∷ []) (omega (arith, many, some))
    ∙ ap (λ (ys : List ℕ). ys ++ x ∷ []) (sym (drop-drop 1 (length xs - n) xs))

-- ---- the end of a line that is known by its last bytes alone

recent-by : (n : ℕ) (xs ys : List ℕ) (has : Bool) → has_line_feed ys ≡ has → length ys ≡ n → last_of n (last_line (xs ++ ys)) ≡ last_of n (last_line ys)
recent-by n xs ys true is long = ap (last_of n) (last_line-behind xs ys is)
recent-by n xs ys false lacks long =
    ap (last_of n) (last_line-longer xs ys lacks) ∙ last_of-behind n (last_line xs) ys long
    ∙ sym (ap (last_of n) (last_line-none ys lacks) ∙ last_of-all n ys (omega (arith, long)))

pub recent : (n : ℕ) (before piece : List ℕ) → n ≤ length piece → last_of n (last_line (before ++ piece)) ≡ last_of n (last_line (last_of n piece))
recent n before piece many =
    let front = take (length piece - n) piece in
    let ys = last_of n piece in
    let parts : piece ≡ front ++ ys = sym (take-append-drop (length piece - n) piece) in
    ap (λ (p : List ℕ). last_of n (last_line (before ++ p))) parts ∙ ap (λ (p : List ℕ). last_of n (last_line p)) (sym (append_assoc before front ys))
    ∙ recent-by n (before ++ front) ys (has_line_feed ys) refl (length-last_of n piece many)

-- ---- the first line

ended-by : (b : Bool) (x : ℕ) (more : Bool) (xs ys : List ℕ) → (b || more) ≡ true → (more ≡ true → xs ≡ ys) →
    (if b then [] else x ∷ xs) ≡ (if b then [] else x ∷ ys)
ended-by true x more xs ys is same = refl
ended-by false x more xs ys is same = ap (λ (zs : List ℕ). x ∷ zs) (same is)

open-by : (b : Bool) (x : ℕ) (more : Bool) (xs ys : List ℕ) → (b || more) ≡ false → (more ≡ false → xs ≡ ys) → (if b then [] else x ∷ xs) ≡ x ∷ ys
open-by true x more xs ys is same = absurd (true≢false is)
open-by false x more xs ys is same = ap (λ (zs : List ℕ). x ∷ zs) (same is)

-- one that has ended stays as it is
pub first_line-ended : (xs ys : List ℕ) → has_line_feed xs ≡ true → first_line (xs ++ ys) ≡ first_line xs
first_line-ended [] ys is = absurd (false≢true is)
first_line-ended (x ∷ xs) ys is = ended-by (is_line_feed x) x _ _ _ is (first_line-ended xs ys)

pub first_line-open : (xs ys : List ℕ) → has_line_feed xs ≡ false → first_line (xs ++ ys) ≡ xs ++ first_line ys
first_line-open [] ys lacks = refl
first_line-open (x ∷ xs) ys lacks = open-by (is_line_feed x) x _ _ _ lacks (first_line-open xs ys)

pub first_line-none : (xs : List ℕ) → has_line_feed xs ≡ false → first_line xs ≡ xs
first_line-none xs lacks = ap first_line (sym (append-nil xs)) ∙ first_line-open xs [] lacks ∙ append-nil xs

-- as many of its bytes as there is room for stay as they are
first-by : (n : ℕ) (xs ys : List ℕ) (has : Bool) → has_line_feed xs ≡ has → n ≤ length (take n (first_line xs)) →
    take n (first_line (xs ++ ys)) ≡ take n (first_line xs)
first-by n xs ys true is full = ap (take n) (first_line-ended xs ys is)
first-by n xs ys false lacks full =
    let long : n ≤ length (take n xs) = rw (first_line-none xs lacks) at full in
    ap (take n) (first_line-open xs ys lacks) ∙ take-append-le n xs (first_line ys) (longer n xs long) ∙ ap (take n) (sym (first_line-none xs lacks))
  where
    longer : (k : ℕ) (zs : List ℕ) → k ≤ length (take k zs) → k ≤ length zs
    longer k zs h = let l = length-take k zs in omega (arith, l, h)

pub first-full : (n : ℕ) (xs ys : List ℕ) → n ≤ length (take n (first_line xs)) → take n (first_line (xs ++ ys)) ≡ take n (first_line xs)
first-full n xs ys full = first-by n xs ys (has_line_feed xs) refl full

-- with room for one more byte of a line that has not ended
pub first-room : (n : ℕ) (xs : List ℕ) (x : ℕ) → has_line_feed xs ≡ false → is_line_feed x ≡ false → length (take n (first_line xs)) < n
    → take n (first_line (xs ++ x ∷ [])) ≡ take n (first_line xs) ++ x ∷ []
first-room n xs x lacks other room =
    let same = first_line-none xs lacks in
    let here : length (take n xs) < n = rw same at room in
    let long = length-take n xs in
    let sum = length-append xs (x ∷ []) in
    let one : first_line (x ∷ []) ≡ x ∷ [] = rw other refl in
    ap (take n) (first_line-open xs (x ∷ []) lacks ∙ ap (λ (ys : List ℕ). xs ++ ys) one) ∙ take_all n (xs ++ x ∷ []) (omega (arith, long, here, sum))
    ∙ ap (λ (ys : List ℕ). ys ++ x ∷ []) (sym (ap (take n) same ∙ take_all n xs (omega (arith, long, here))))

-- a byte that ends it is not of it
pub first-feed : (xs : List ℕ) (x : ℕ) → has_line_feed xs ≡ false → is_line_feed x ≡ true → first_line (xs ++ x ∷ []) ≡ first_line xs
first-feed xs x lacks is =
    let one : first_line (x ∷ []) ≡ [] = rw is refl in
    first_line-open xs (x ∷ []) lacks ∙ ap (λ (ys : List ℕ). xs ++ ys) one ∙ append-nil xs ∙ sym (first_line-none xs lacks)

pub has-one : (x : ℕ) (b : Bool) → is_line_feed x ≡ b → has_line_feed (x ∷ []) ≡ b
has-one x true is = rw is refl
has-one x false is = rw is refl

-- ---- characters, one more

pub encodes-more : (xs : List ℕ) (i c : ℕ) → i < length xs → c ≡ get_or xs i c →
    encode_utf8_all (take (i + 1) xs) ≡ encode_utf8_all (take i xs) ++ encode_utf8 c
encodes-more xs i c within is =
    ap encode_utf8_all (take_more xs i c within) ∙ encodes-append (take i xs) (get_or xs i c ∷ [])
    ∙ ap (λ (ys : List ℕ). encode_utf8_all (take i xs) ++ ys) (append-nil (encode_utf8 (get_or xs i c)))
    ∙ ap (λ (d : ℕ). encode_utf8_all (take i xs) ++ encode_utf8 d) (sym is)

-- ---- of more than 50 characters the first

dots : encode_utf8_all (codes "...") ≡ codes "..."
unfolding lib.Utf8.encode
dots = refl

pub cut_back-more : (shown : List ℕ) (most : ℕ) → most ≡ min (length shown) 50 → most < length shown
    → encode_utf8_all (cut_back shown) ≡ encode_utf8_all (take most shown) ++ codes "..."
cut_back-more shown most is fewer =
    let all : most ≡ 50 = omega (arith, is, fewer) in
    let many : nat_lt 50 (length shown) ≡ true = grind (arith, common_steps) in
    rw (many, all) (encodes-append (take 50 shown) (codes "...") ∙ ap (λ (ys : List ℕ). encode_utf8_all (take 50 shown) ++ ys) dots)

pub cut_back-all : (shown : List ℕ) (most : ℕ) → most ≡ min (length shown) 50 → length shown ≤ most →
    encode_utf8_all (cut_back shown) ≡ encode_utf8_all (take most shown)
cut_back-all shown most is all =
    let few : nat_lt 50 (length shown) ≡ false = grind (arith, common_steps) in
    rw few (ap encode_utf8_all (sym (take_all most shown all)))
