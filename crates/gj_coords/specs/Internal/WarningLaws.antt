-- Laws of `joined` and `warnings_of`, for whoever joins warnings: they can be taken in any grouping and order.
use Rattle.std.specs.Prelude.{◌≡◌, ℕ, Bool, true, false, if◌then◌else◌, List, [], ◌∷◌, ◌++◌, refl}
use Rattle.std.proofs.Common.{sym, ◌∙◌, ap}
use Rattle.gj_coords.specs.declared.kind.Kind.{Kind}
use Rattle.gj_coords.specs.declared.kind_warnings.KindWarnings.{KindWarnings}
use Rattle.gj_coords.specs.declared.warnings.Warnings.{Warnings}
use Rattle.gj_coords.specs.Warnings.{Warning, warning_at, same_kind}
use Rattle.gj_coords.specs.Internal.KeptWarnings.{noted_as, noted_of, nothing_noted, joined_noted, by_kind, kept, warnings_of, no_warnings, joined, added}
use Rattle.gj_coords.specs.Internal.KeptWarnings.{replaced}
use Rattle.gj_coords.specs.Internal.ByKind.{each, of_kind, with_value, of_each, one_kind}
use Rattle.gj_coords.specs.Internal.KeptWarningLaws.{joined_noted_none, joined_noted_assoc, joined_noted_comm, noted_of-append}

-- what is kept by kind
pub kept_by_kind : (noted : Kind → KindWarnings) (kind : Kind) → kept (by_kind noted) kind ≡ noted kind
kept_by_kind noted kind =
    ap (λ count. noted_as count (of_kind (each (λ k. (noted k).first)) kind)) (of_each (λ k. (noted k).count) kind)
    ∙ ap (λ first. noted_as (noted kind).count first) (of_each (λ k. (noted k).first) kind)

pub by_kind_alike : (f g : Kind → KindWarnings) → ((kind : Kind) → f kind ≡ g kind) → by_kind f ≡ by_kind g
by_kind_alike f g h = λ i. by_kind (λ kind. h kind i)

-- none change nothing, on either side
pub joined_none_first : (a : Warnings) → joined no_warnings a ≡ a
unfolding joined no_warnings
joined_none_first a = refl

pub joined_none_last : (a : Warnings) → joined a no_warnings ≡ a
unfolding joined no_warnings
joined_none_last a =
    by_kind_alike (λ kind. joined_noted (kept a kind) (kept no_warnings kind)) (kept a)
    (λ kind. ap (joined_noted (kept a kind)) (kept_by_kind (λ _. nothing_noted) kind) ∙ joined_noted_none (kept a kind))

pub joined_assoc : (a b c : Warnings) → joined (joined a b) c ≡ joined a (joined b c)
unfolding joined
joined_assoc a b c =
    by_kind_alike (λ kind. joined_noted (kept (joined a b) kind) (kept c kind)) (λ kind. joined_noted (kept a kind) (kept (joined b c) kind))
    (λ kind. ap (λ x. joined_noted x (kept c kind)) (kept_by_kind (λ k. joined_noted (kept a k) (kept b k)) kind)
    ∙ (joined_noted_assoc (kept a kind) (kept b kind) (kept c kind)
    ∙ sym (ap (λ x. joined_noted (kept a kind) x) (kept_by_kind (λ k. joined_noted (kept b k) (kept c k)) kind))))

pub joined_comm : (a b : Warnings) → joined a b ≡ joined b a
unfolding joined
joined_comm a b =
    by_kind_alike (λ kind. joined_noted (kept a kind) (kept b kind)) (λ kind. joined_noted (kept b kind) (kept a kind))
    (λ kind. joined_noted_comm (kept a kind) (kept b kind))

pub warnings_of_none : warnings_of [] ≡ no_warnings
unfolding no_warnings warnings_of
warnings_of_none = refl

pub warnings_of-append : (xs ys : List Warning) → warnings_of (xs ++ ys) ≡ joined (warnings_of xs) (warnings_of ys)
unfolding joined warnings_of
warnings_of-append xs ys =
    by_kind_alike (λ kind. noted_of kind (xs ++ ys)) (λ kind. joined_noted (noted_of kind xs) (noted_of kind ys)) (λ kind. noted_of-append kind xs ys)

-- what is written for one kind
pub replaced_is : (a new : Warnings) (kind : Kind) (noted : KindWarnings) → new.firsts ≡ with_value a.firsts kind noted.first →
    new.counts ≡ with_value a.counts kind noted.count → new ≡ replaced a kind noted
unfolding replaced
replaced_is a new kind noted f c = λ i. record {
  firsts = (f ∙ λ j. each (λ other. first_of_test (same_kind kind other) (kept a other) j)) i;
  counts = (c ∙ λ j. each (λ other. count_of_test (same_kind kind other) (kept a other) j)) i;
}
  where
    first_of_test : (t : Bool) (b : KindWarnings) → (if t then noted.first else b.first) ≡ (if t then noted else b).first
    first_of_test true b = refl
    first_of_test false b = refl

    count_of_test : (t : Bool) (b : KindWarnings) → (if t then noted.count else b.count) ≡ (if t then noted else b).count
    count_of_test true b = refl
    count_of_test false b = refl

-- one warning more is what is kept of it alone, joined
noted_of_one : (place : ℕ) (kind other : Kind) (t : Bool) → same_kind kind other ≡ t →
    noted_of other (warning_at place kind ∷ []) ≡ (if t then noted_as 1 place else nothing_noted)
noted_of_one place kind other true h = simp h
noted_of_one place kind other false h = simp h

one_more : (place : ℕ) (kind other : Kind) (a : KindWarnings) (t : Bool) → same_kind kind other ≡ t →
    (if t then joined_noted a (noted_as 1 place) else a) ≡ joined_noted a (noted_of other (warning_at place kind ∷ []))
one_more place kind other a true h = sym (ap (joined_noted a) (noted_of_one place kind other true h))
one_more place kind other a false h = sym (ap (joined_noted a) (noted_of_one place kind other false h) ∙ joined_noted_none a)

pub added_is : (a : Warnings) (kind : Kind) (place : ℕ) → added a kind place ≡ joined a (warnings_of (warning_at place kind ∷ []))
unfolding added joined warnings_of
added_is a kind place =
    by_kind_alike (λ other. if same_kind kind other then joined_noted (kept a other) (noted_as 1 place) else kept a other)
    (λ other. joined_noted (kept a other) (kept (warnings_of (warning_at place kind ∷ [])) other))
    (λ other. one_more place kind other (kept a other) (same_kind kind other) refl
    ∙ sym (ap (joined_noted (kept a other)) (kept_by_kind (λ k. noted_of k (warning_at place kind ∷ [])) other)))

-- some warnings more and then the rest
pub joined_step : (a x : Warnings) (xs ys : List Warning) (total : Warnings) →
    total ≡ joined (joined a x) (warnings_of ys) → x ≡ warnings_of xs → total ≡ joined a (warnings_of (xs ++ ys))
joined_step a x xs ys total h k =
    h ∙ (joined_assoc a x (warnings_of ys)
    ∙ (ap (λ z. joined a (joined z (warnings_of ys))) k ∙ sym (ap (joined a) (warnings_of-append xs ys))))

-- a kind that is replaced by itself changes nothing
pub replaced_by_itself : (warnings : Warnings) (kind : Kind) → replaced warnings kind (kept warnings kind) ≡ warnings
unfolding replaced
replaced_by_itself warnings kind =
    by_kind_alike (λ other. if same_kind kind other then kept warnings kind else kept warnings other) (kept warnings)
    (λ other. by_test other (same_kind kind other) refl)
  where
    by_test : (other : Kind) (t : Bool) → same_kind kind other ≡ t → (if t then kept warnings kind else kept warnings other) ≡ kept warnings other
    by_test other true t = ap (kept warnings) (one_kind kind other t)
    by_test other false t = refl
