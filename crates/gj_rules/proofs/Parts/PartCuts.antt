-- How an input is cut into parts, as it goes on.
use Rattle.gj_rules.proofs.Common.{Allowed, Bool, Framing, Input, Limit, Lines, List, Part, RecordEnd, Separator, ap, arith, false, get_or, has_byte}
use Rattle.gj_rules.proofs.Common.{if◌then◌else◌, is_too_long, length, nat_eq, nat_tests, part_at, parts_from, refl, separator_of, suc, sym, take}
use Rattle.gj_rules.proofs.Common.{true, zero, [], ◌&&◌, ◌++◌, ◌+◌, ◌<◌, ◌||◌, ◌∙◌, ◌∷◌, ◌≤◌}
use Rattle.std.proofs.Common.{◌≡◌, ℕ}
use Rattle.gj_rules.specs.declared.records.framing.Framing.TheVariants.{Sequence}
use Rattle.gj_rules.specs.RecordFindings.{but_last, whole_parts}
use Rattle.gj_rules.specs.Records.{with_first, parts_of, is_blank, are_blank, is_void}

-- ---- bytes without a separator

-- the first is none, nor is any after it
first_other : (wanted byte : ℕ) (more : List ℕ) → has_byte wanted (byte ∷ more) ≡ false → nat_eq byte wanted ≡ false
first_other wanted byte more h = by_test (nat_eq byte wanted) refl h
  where
    by_test : (t : Bool) → nat_eq byte wanted ≡ t → (t || has_byte wanted more) ≡ false → nat_eq byte wanted ≡ false
    by_test true e k = cc
    by_test false e k = e

rest_other : (wanted byte : ℕ) (more : List ℕ) → has_byte wanted (byte ∷ more) ≡ false → has_byte wanted more ≡ false
rest_other wanted byte more h = by_test (nat_eq byte wanted) h
  where
    by_test : (t : Bool) → (t || has_byte wanted more) ≡ false → has_byte wanted more ≡ false
    by_test true k = cc
    by_test false k = k

pub other-append : (wanted : ℕ) (xs ys : List ℕ) → has_byte wanted xs ≡ false → has_byte wanted ys ≡ false → has_byte wanted (xs ++ ys) ≡ false
other-append wanted [] ys h k = k
other-append wanted (x ∷ xs) ys h k =
    ap (λ t. t || has_byte wanted (xs ++ ys)) (first_other wanted x xs h) ∙ other-append wanted xs ys (rest_other wanted x xs h) k

-- ---- parts

same_byte : (n : ℕ) → nat_eq n n ≡ true
same_byte n = grind (arith, nat_tests)

-- a byte that parts nothing
on_by : (framing : Framing) (last : RecordEnd) (place byte : ℕ) (more : List ℕ) → nat_eq byte (separator_of framing) ≡ false
    → parts_from framing last place (byte ∷ more) ≡ with_first place byte (parts_from framing last (place + 1) more)
on_by framing last place byte more e =
    ap (λ t. if t then part_at place [] Separator ∷ parts_from framing last (place + 1) more else with_first place byte
    (parts_from framing last (place + 1) more)) e

parted_by : (framing : Framing) (last : RecordEnd) (place : ℕ) (more : List ℕ)
    → parts_from framing last place (separator_of framing ∷ more) ≡ part_at place [] Separator ∷ parts_from framing last (place + 1) more
parted_by framing last place more =
    ap (λ t. if t then part_at place [] Separator ∷ parts_from framing last (place + 1) more else with_first place (separator_of framing)
    (parts_from framing last (place + 1) more))
    (same_byte (separator_of framing))

-- bytes without a separator are one part
pub one_part : (framing : Framing) (last : RecordEnd) (place : ℕ) (given : List ℕ) → has_byte (separator_of framing) given ≡ false
    → parts_from framing last place given ≡ part_at place given last ∷ []
one_part framing last place [] h = refl
one_part framing last place (byte ∷ more) h =
    on_by framing last place byte more (first_other (separator_of framing) byte more h)
    ∙ ap (with_first place byte) (one_part framing last (place + 1) more (rest_other (separator_of framing) byte more h))

-- and the first one, where a separator follows them
pub first_part : (framing : Framing) (last : RecordEnd) (place next : ℕ) (given more : List ℕ) → has_byte (separator_of framing) given ≡ false
    → next ≡ place + length given + 1
    → parts_from framing last place (given ++ separator_of framing ∷ more) ≡ part_at place given Separator ∷ parts_from framing last next more
first_part framing last place next [] more h e =
    parted_by framing last place more ∙ ap (λ n. part_at place [] Separator ∷ parts_from framing last n more) (next_is place next e)
  where
    next_is : (n m : ℕ) → m ≡ n + 0 + 1 → n + 1 ≡ m
    next_is n m f = omega (arith, f)
first_part framing last place next (byte ∷ given) more h e =
    on_by framing last place byte (given ++ separator_of framing ∷ more) (first_other (separator_of framing) byte given h)
    ∙ ap (with_first place byte)
    (first_part framing last (place + 1) next given more (rest_other (separator_of framing) byte given h) (next_is place next (length given) e))
  where
    next_is : (n m k : ℕ) → m ≡ n + suc k + 1 → m ≡ n + 1 + k + 1
    next_is n m k f = omega (arith, f)

-- ---- bytes that are passed over

blank-append : (xs ys : List ℕ) → are_blank (xs ++ ys) ≡ (are_blank xs && are_blank ys)
blank-append [] ys = refl
blank-append (x ∷ xs) ys = ap (λ t. is_blank x && t) (blank-append xs ys) ∙ and_assoc (is_blank x) (are_blank xs) (are_blank ys)
  where
    and_assoc : (a b c : Bool) → (a && (b && c)) ≡ ((a && b) && c)
    and_assoc true b c = refl
    and_assoc false b c = refl

pub void-append : (framing : Framing) (xs ys : List ℕ) → is_void framing (xs ++ ys) ≡ (is_void framing xs && is_void framing ys)
void-append Lines xs ys = blank-append xs ys
void-append Sequence [] ys = refl
void-append Sequence (x ∷ xs) ys = refl

pub no_bytes_void : (framing : Framing) → is_void framing [] ≡ true
no_bytes_void Lines = refl
no_bytes_void Sequence = refl

-- ---- the last part

pub but_last-append : (parts : List Part) (last : Part) → but_last (parts ++ last ∷ []) ≡ parts
but_last-append [] last = refl
but_last-append (part ∷ []) last = refl
but_last-append (part ∷ next ∷ more) last = ap (λ ps. part ∷ ps) (but_last-append (next ∷ more) last)

-- ---- the input under its limit

pub within_limit : (limits : Allowed) (bytes : List ℕ) → length bytes ≤ limits.bytes → is_too_long limits bytes ≡ false
within_limit limits bytes l = grind (arith, nat_tests)

pub beyond_limit : (limits : Allowed) (bytes : List ℕ) → limits.bytes < length bytes → is_too_long limits bytes ≡ true
beyond_limit limits bytes l = grind (arith, nat_tests)

pub short_parts : (framing : Framing) (limits : Allowed) (bytes : List ℕ) → length bytes ≤ limits.bytes
    → parts_of framing limits bytes ≡ parts_from framing Input 0 bytes
short_parts framing limits bytes l =
    ap (λ t. if t then parts_from framing Limit 0 (take limits.bytes bytes) else parts_from framing Input 0 bytes) (within_limit limits bytes l)

pub long_parts : (framing : Framing) (limits : Allowed) (bytes : List ℕ) → limits.bytes < length bytes
    → parts_of framing limits bytes ≡ parts_from framing Limit 0 (take limits.bytes bytes)
long_parts framing limits bytes l =
    ap (λ t. if t then parts_from framing Limit 0 (take limits.bytes bytes) else parts_from framing Input 0 bytes) (beyond_limit limits bytes l)

pub short_whole : (framing : Framing) (limits : Allowed) (bytes : List ℕ) → length bytes ≤ limits.bytes
    → whole_parts framing limits bytes ≡ but_last (parts_from framing Input 0 bytes)
short_whole framing limits bytes l =
    ap (λ t. if t then parts_from framing Limit 0 (take limits.bytes bytes) else but_last (parts_from framing Input 0 bytes)) (within_limit limits bytes l)

pub long_whole : (framing : Framing) (limits : Allowed) (bytes : List ℕ) → limits.bytes < length bytes
    → whole_parts framing limits bytes ≡ parts_of framing limits bytes
long_whole framing limits bytes l =
    ap (λ t. if t then parts_from framing Limit 0 (take limits.bytes bytes) else but_last (parts_from framing Input 0 bytes)) (beyond_limit limits bytes l)
    ∙ sym (long_parts framing limits bytes l)

-- ---- bytes of a piece

pub take_one : (rest : List ℕ) → 0 < length rest → take 1 rest ≡ get_or rest 0 0 ∷ []
take_one [] l = absurd (omega (arith, l))
take_one (byte ∷ more) l = refl

pub plain_take : (wanted n : ℕ) (bytes : List ℕ) → has_byte wanted bytes ≡ false → has_byte wanted (take n bytes) ≡ false
plain_take wanted zero bytes h = refl
plain_take wanted (suc n) [] h = refl
plain_take wanted (suc n) (byte ∷ more) h =
    ap (λ t. t || has_byte wanted (take n more)) (first_other wanted byte more h) ∙ plain_take wanted n more (rest_other wanted byte more h)

abbrev pub Begins : List Part → ℕ → List ℕ → Type 0
Begins parts place given = (rest : List ℕ) × (end : RecordEnd) × (others : List Part) × (parts ≡ part_at place (given ++ rest) end ∷ others)

some_part : (framing : Framing) (last : RecordEnd) (place : ℕ) (bytes : List ℕ) → Begins (parts_from framing last place bytes) place []
some_part framing last place [] = ([], last, [], refl)
some_part framing last place (byte ∷ more) = by_test (nat_eq byte (separator_of framing)) (some_part framing last (place + 1) more)
  where
    by_test : (t : Bool) → Begins (parts_from framing last (place + 1) more) (place + 1) []
        → Begins (if t then part_at place [] Separator ∷ parts_from framing last (place + 1) more else with_first place byte
        (parts_from framing last (place + 1) more)) place []
    by_test true h = ([], Separator, parts_from framing last (place + 1) more, refl)
    by_test false (rest, end, others, e) = (byte ∷ rest, end, others, ap (with_first place byte) e)

-- the first part begins with them
pub part_on : (framing : Framing) (last : RecordEnd) (place : ℕ) (given more : List ℕ) → has_byte (separator_of framing) given ≡ false
    → Begins (parts_from framing last place (given ++ more)) place given
part_on framing last place [] more h = some_part framing last place more
part_on framing last place (byte ∷ given) more h =
    let (rest, end, others, e) = part_on framing last (place + 1) given more (rest_other (separator_of framing) byte given h) in (
      rest,
      end,
      others,
      on_by framing last place byte (given ++ more) (first_other (separator_of framing) byte given h) ∙ ap (with_first place byte) e,
    )
