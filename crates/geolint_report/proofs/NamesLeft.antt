-- Which names are left when a byte of a list comes, or none.
use Rattle.std.proofs.Common.{arith, ◌≡◌, ◌-◌, ◌+◌, ℕ, suc, refl, ap, sym, ◌∙◌, List, [], ◌∷◌, ◌++◌, length, true, false, Bool, nat_eq, append-nil}
use Rattle.std.proofs.Common.{append_assoc, Option, Some, None}
use Rattle.std.specs.Prelude.{◌==◌, Ok}
use Rattle.std.proofs.lemmas.Bool.{true≢false, false≢true, eqb-true}
use Rattle.geolint_report.specs.declared.name_lists.listed.NameEnd.{NameEnd}
use Rattle.geolint_report.specs.Internal.Begun.{HasBegun, names_from, with_prefix}
use Rattle.geolint_report.specs.Left.{Takes, NextIn, NextOf}
use Rattle.geolint_report.specs.Listed.{end_byte, parts_of, some_of, with_first, names_in, given, has_nul, listed_by}
use Rattle.geolint_report.proofs.GivenNames.{given-empty, given-nothing, nul-empty}

-- the name that has begun, if any has, before others
abbrev with_begun : List ℕ → List (List ℕ) → List (List ℕ)
with_begun [] names = names
with_begun (byte ∷ bytes) names = (byte ∷ bytes) ∷ names

begun-first : (begun : List ℕ) (more : List (List ℕ)) → some_of ((begun ++ []) ∷ more) ≡ with_begun begun (some_of more)
unfolding some_of
begun-first [] more = refl
begun-first (byte ∷ bytes) more = ap (λ (l : List ℕ). some_of (l ∷ more)) (append-nil (byte ∷ bytes))

no-prefix : (parts : List (List ℕ)) → some_of (with_prefix [] parts) ≡ some_of parts
unfolding some_of
no-prefix [] = refl
no-prefix (part ∷ more) = refl

longer-prefix : (begun : List ℕ) (byte : ℕ) (parts : List (List ℕ)) → with_prefix begun (with_first byte parts) ≡ with_prefix (begun ++ byte ∷ []) parts
longer-prefix begun byte [] = refl
longer-prefix begun byte (part ∷ more) = ap (λ (l : List ℕ). l ∷ more) (sym (append_assoc begun (byte ∷ []) part))

names-byte : (end : ℕ) (begun : List ℕ) (byte : ℕ) (rest : List ℕ) → nat_eq byte end ≡ false
    → names_from end begun (byte ∷ rest) ≡ names_from end (begun ++ byte ∷ []) rest
unfolding names_from parts_of
names-byte end begun byte rest other = rw other (ap some_of (longer-prefix begun byte (parts_of end rest)))

names-end : (end : ℕ) (begun : List ℕ) (byte : ℕ) (rest : List ℕ) → nat_eq byte end ≡ true
    → names_from end begun (byte ∷ rest) ≡ with_begun begun (names_from end [] rest)
unfolding names_from parts_of
names-end end begun byte rest ends = rw ends (begun-first begun (parts_of end rest) ∙ ap (with_begun begun) (sym (no-prefix (parts_of end rest))))

names-none : (end : ℕ) (begun : List ℕ) → names_from end begun [] ≡ with_begun begun []
unfolding names_from parts_of some_of
names-none end begun = begun-first begun []

names_in-from : (end : NameEnd) (bytes : List ℕ) → names_in end bytes ≡ names_from (end_byte end) [] bytes
unfolding names_in names_from
names_in-from end bytes = sym (no-prefix (parts_of (end_byte end) bytes))

pub HasBegun-start : (end : NameEnd) (known : Option (List ℕ)) → HasBegun end [] 0 known known
HasBegun-start end None = tt
HasBegun-start end (Some all) = (names_in-from end all, omega arith)

-- a byte that ends no name
pub HasBegun-byte : (E : Type 0) (end : NameEnd) (begun : List ℕ) (count byte : ℕ) (old before after : Option (List ℕ)) → HasBegun end begun count old before
    → Takes {E = E} before after (Ok (Some byte)) → nat_eq byte (end_byte end) ≡ false → HasBegun end (begun ++ byte ∷ []) (count + 1) old after
HasBegun-byte E end begun count byte None before after has took other = tt
HasBegun-byte E end begun count byte (Some all) None after has took other = absurd has
HasBegun-byte E end begun count byte (Some all) (Some rest) None has took other = absurd took
HasBegun-byte E end begun count byte (Some all) (Some rest) (Some left) (names, long) took other =
    let here : names_from (end_byte end) begun rest ≡ names_from (end_byte end) (begun ++ byte ∷ []) left =
    rw took (names-byte (end_byte end) begun byte left other) in
    let shorter : length rest ≡ suc (length left) = ap (λ (l : List ℕ). length l) took in
    (names ∙ here, omega (arith, long, shorter))

-- a byte that ends a name, where none has begun
pub HasBegun-end : (E : Type 0) (end : NameEnd) (begun : List ℕ) (count byte : ℕ) (old before after : Option (List ℕ)) → HasBegun end begun count old before
    → Takes {E = E} before after (Ok (Some byte)) → nat_eq byte (end_byte end) ≡ true → begun ≡ [] → HasBegun end [] (count + 1) old after
HasBegun-end E end begun count byte None before after has took ends none = tt
HasBegun-end E end begun count byte (Some all) None after has took ends none = absurd has
HasBegun-end E end begun count byte (Some all) (Some rest) None has took ends none = absurd took
HasBegun-end E end begun count byte (Some all) (Some rest) (Some left) (names, long) took ends none =
    let here : names_from (end_byte end) begun rest ≡ names_from (end_byte end) [] left = rw none (rw took (names-end (end_byte end) [] byte left ends)) in
    let shorter : length rest ≡ suc (length left) = ap (λ (l : List ℕ). length l) took in
    (names ∙ here, omega (arith, long, shorter))

NextIn-end : (end : NameEnd) (all rest name : List ℕ) (has is_empty : Bool) → has ≡ false → is_empty ≡ true → names_in end all ≡ [] → names_in end rest ≡ []
    → name ≡ []
    → NextIn end all rest (listed_by has is_empty) name
NextIn-end end all rest name true is_empty unset empty over after is = absurd (true≢false unset)
NextIn-end end all rest name false false unset empty over after is = absurd (false≢true empty)
NextIn-end end all rest name false true unset empty over after is = (over, after, is)

some-cons : (byte : ℕ) (bytes : List ℕ) → byte ∷ bytes ≡ [] → ⊥
some-cons byte bytes same = let long : suc (length bytes) ≡ 0 = ap (λ (l : List ℕ). length l) same in absurd (omega (arith, long))

-- a name that has begun is the next
named : (end : NameEnd) (all rest begun name : List ℕ) (byte : ℕ) (has is_empty : Bool) → names_in end all ≡ (byte ∷ begun) ∷ names_in end rest
    → name ≡ given (byte ∷ begun) → has ≡ has_nul (byte ∷ begun) → is_empty ≡ (length name == 0) → NextIn end all rest (listed_by has is_empty) name
named end all rest begun name byte true is_empty names is nul empty = (byte ∷ begun, names, is, sym nul)
named end all rest begun name byte false false names is nul empty = (byte ∷ begun, names, is, sym nul)
named end all rest begun name byte false true names is nul empty =
    let short : length (given (byte ∷ begun)) ≡ 0 = sym (ap (λ (l : List ℕ). length l) is) ∙ eqb-true _ _ (sym empty) in
    absurd (some-cons byte begun (given-nothing (byte ∷ begun) (sym nul) short))

-- the list is over
pub NextOf-over : (E : Type 0) (end : NameEnd) (begun name : List ℕ) (count : ℕ) (has is_empty : Bool) (old before after : Option (List ℕ))
    → HasBegun end begun count old before
    → Takes {E = E} before after (Ok None) → name ≡ given begun → has ≡ has_nul begun → is_empty ≡ (length name == 0)
    → NextOf {E = E} old after end (Ok (listed_by has is_empty)) name
NextOf-over E end begun name count has is_empty None before after begins took is nul empty = tt
NextOf-over E end begun name count has is_empty (Some all) None after begins took is nul empty = absurd begins
NextOf-over E end begun name count has is_empty (Some all) (Some rest) None begins took is nul empty = absurd took
NextOf-over E end [] name count has is_empty (Some all) (Some rest) (Some left) (names, long) (nothing, none) is nul empty = λ few.
    let here : names_from (end_byte end) [] rest ≡ [] = rw nothing (names-none (end_byte end) []) in
    let over : names_in end all ≡ [] = names ∙ here in
    let after : names_in end left ≡ [] = rw none (names_in-from end [] ∙ names-none (end_byte end) []) in
    let empty_left : length left ≡ 0 = ap (λ (l : List ℕ). length l) none in
    (omega (arith, empty_left), NextIn-end end all left name has is_empty (nul ∙ nul-empty) (empty ∙ ap (λ (l : List ℕ). length l == 0) (is ∙ given-empty)) over after (is ∙ given-empty))
NextOf-over E end (byte ∷ begun) name count has is_empty (Some all) (Some rest) (Some left) (names, long) (nothing, none) is nul empty = λ few.
    let here : names_from (end_byte end) (byte ∷ begun) rest ≡ (byte ∷ begun) ∷ [] = rw nothing (names-none (end_byte end) (byte ∷ begun)) in
    let after : names_in end left ≡ [] = rw none (names_in-from end [] ∙ names-none (end_byte end) []) in
    let empty_left : length left ≡ 0 = ap (λ (l : List ℕ). length l) none in
    (omega (arith, empty_left), named end all left begun name byte has is_empty (names ∙ (here ∙ ap (λ (l : List (List ℕ)). (byte ∷ begun) ∷ l) (sym after))) is nul empty)

-- a byte ends the name
pub NextOf-ended : (E : Type 0) (end : NameEnd) (begun name : List ℕ) (count byte : ℕ) (has is_empty : Bool) (old before after : Option (List ℕ))
    → HasBegun end begun count old before
    → Takes {E = E} before after (Ok (Some byte)) → nat_eq byte (end_byte end) ≡ true → (begun ≡ [] → ⊥) → name ≡ given begun → has ≡ has_nul begun
    → is_empty ≡ (length name == 0) → NextOf {E = E} old after end (Ok (listed_by has is_empty)) name
NextOf-ended E end begun name count byte has is_empty None before after begins took ends some is nul empty = tt
NextOf-ended E end begun name count byte has is_empty (Some all) None after begins took ends some is nul empty = absurd begins
NextOf-ended E end begun name count byte has is_empty (Some all) (Some rest) None begins took ends some is nul empty = absurd took
NextOf-ended E end [] name count byte has is_empty (Some all) (Some rest) (Some left) begins took ends some is nul empty = absurd (some refl)
NextOf-ended E end (first ∷ begun) name count byte has is_empty (Some all) (Some rest) (Some left) (names, long) took ends some is nul empty = λ few.
    let here : names_from (end_byte end) (first ∷ begun) rest ≡ (first ∷ begun) ∷ names_from (end_byte end) [] left =
    rw took (names-end (end_byte end) (first ∷ begun) byte left ends) in
    let shorter : length rest ≡ suc (length left) = ap (λ (l : List ℕ). length l) took in (
      omega (arith, long, shorter),
      named end all left begun name first has is_empty
          (names ∙ (here ∙ ap (λ (l : List (List ℕ)). (first ∷ begun) ∷ l) (sym (names_in-from end left)))) is nul empty,
    )
