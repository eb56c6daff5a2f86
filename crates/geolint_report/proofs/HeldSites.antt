-- Lemmas on a reading that begins behind bytes that are not known.
use Rattle.geolint_report.proofs.Common.{arith, inl, inr, ◌≡◌, ◌≤◌, ◌<◌, ◌+◌, ◌++◌, [], ℕ, List, length, get_or, sym, subst, ap, ◌∙◌, append-nil}
use Rattle.geolint_report.proofs.Common.{length-append, u64_saturate, IsNonDecreasing, Site}
use Rattle.std.proofs.lemmas.List.{nil_from_length, take_all}
use Rattle.gj_places.specs.Keeping.{Keeps}
use Rattle.gj_places.specs.Recalling.{IsKept}
use Rattle.gj_places.specs.declared.recent.Kept.{Kept}
use Rattle.geolint_report.specs.declared.sites.Finder.{Finder}
use Rattle.geolint_report.specs.declared.sites.Sites.{Sites}
use Rattle.geolint_report.specs.Held.{IsFar}
use Rattle.geolint_report.specs.Sites.{sought}
use Rattle.geolint_report.specs.Internal.SecondReading.{Seeks, Shows}
use Rattle.geolint_report.proofs.SoughtPlaces.{sought-at, sought-first, sought-within}

pub none-before : (before : List ℕ) → u64_saturate (length before) ≡ 0 → before ≡ []
none-before before none = nil_from_length before (omega (arith, none))

kept-length : (kept : Kept) (text : List ℕ) → (is : IsKept kept text) → length text ≡ length is.before + (length kept.older.now + length kept.newer.now)
kept-length kept text is =
    ap length is.all ∙ (length-append is.before (kept.older.now ++ kept.newer.now)
    ∙ ap (λ (n : ℕ). length is.before + n) (length-append kept.older.now kept.newer.now))

-- no byte is before those that are kept of a text that is so short
pub all-kept : (kept : Kept) (text : List ℕ) → (is : IsKept kept text) → length text ≤ 48896 → is.before ≡ []
all-kept kept text is short = elim is.most [
  | inl none ↦ none
  | inr many ↦ nil_from_length is.before (omega (arith, many, short, kept-length kept text is))
]

-- the first place that is sought is before the bytes that are kept
pub far-before : (kept : Kept) (text : List ℕ) (sites : Sites) (first : Site) → IsKept kept text → 0 < sites.count → 0 < length sites.sites
    → first ≡ get_or sites.sites 0 first → first.place < kept.passed → IsFar text sites
far-before kept text sites first is some stored here before = (
  first.place,
  (0, sought-within sites 0 some stored, sought-at sites 0 first.place first some stored ∙ sym (ap (λ (s : Site). s.place) here)),
  elim is.most [
    | inl none ↦ absurd (omega (arith, ap length none, passed, before))
    | inr many ↦ omega (arith, many, kept-length kept text is, passed, before)
  ],
)
  where
    passed : kept.passed ≡ u64_saturate (length is.before)
    passed = is.passed

-- no place that is sought is
pub Seeks-behind : (finder : Finder) (sites : Sites) (passed : ℕ) (first : Site) → finder.next ≡ 0 → IsNonDecreasing (sought sites)
    → (0 < sites.count → u64_saturate passed ≤ (get_or sites.sites 0 first).place) → Seeks finder sites passed
Seeks-behind finder sites passed first none ordered from = record {
  found = λ k other before within. absurd (omega (arith, before, none));
  ahead = λ k e after within below.
      let stored = sought-first sites 0 k (omega arith) within in
      let is = sought-at sites 0 e first stored.0 stored.1 in
      let least = ordered 0 k e (omega arith) within in
      omega (arith, is, least, below, from stored.0);
}

pub Shows-behind : (finder : Finder) (sites : Sites) (before : List ℕ) → finder.next ≡ 0 → sites.count ≤ length sites.sites → Keeps sites.excerpt before []
    → Shows finder sites before []
Shows-behind finder sites before none stored keeps = record {
  stored = stored;
  before = λ fewer. subst (λ (bytes : List ℕ). Keeps sites.excerpt bytes [])
      (sym (ap (λ (ys : List ℕ). before ++ ys) (take_all finder.counted [] (omega arith)) ∙ append-nil before)) keeps;
  behind = λ other some reached. absurd (omega (arith, none, some, reached));
}
