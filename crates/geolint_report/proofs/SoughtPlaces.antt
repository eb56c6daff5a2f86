-- Lemmas on the places that a second reading seeks.
use Rattle.geolint_report.proofs.Common.{arith, refl, ◌≡◌, ◌≤◌, ◌<◌, ◌⊎◌, inl, inr, ℕ, ◌+◌, ◌-◌, ◌^◌, ◌++◌, ◌∷◌, [], List, length, take, get_or, ap, sym}
use Rattle.geolint_report.proofs.Common.{◌∙◌, subst, true, false, append-nil, Option, Some, None, IsNonDecreasing, cases_lt, Site}
use Rattle.std.proofs.Common.{min, zero, suc, add-one, map, set}
use Rattle.std.specs.Io.KnownBytes.{Consumes, IsAtEnd}
use Rattle.std.specs.List.{Contains, list_any}
use Rattle.std.proofs.lemmas.Bool.Decides.{nat_tests}
use Rattle.std.proofs.lemmas.List.{get_or-take, get_or-map, length-take, length-map, length-set, get_or-set_same, get_or-set_other}
use Rattle.std.proofs.lemmas.List.Folds.{list_any_at}
use Rattle.std.proofs.Math.Seq.{map-set_same}
use Rattle.geolint_report.specs.declared.sites.Finder.{Finder}
use Rattle.geolint_report.specs.declared.sites.Sites.{Sites}
use Rattle.geolint_report.specs.Sites.{sought, is_found_at, AllFound, FoundBy}
use Rattle.geolint_report.specs.Internal.SecondReading.{Seeks, Settles}

pub no_site : Site
no_site = record { place = 0; spot = record { line = 0; column = 0 }; path = None; is_found = false }

pub sought-at : (sites : Sites) (i e : ℕ) (other : Site) → i < sites.count → i < length sites.sites
    → get_or (sought sites) i e ≡ (get_or sites.sites i other).place
sought-at sites i e other counted within =
    get_or-take sites.count (map (λ (s : Site). s.place) sites.sites) i e counted ∙ get_or-map (λ (s : Site). s.place) sites.sites i other e within

pub sought-length : (sites : Sites) → length (sought sites) ≡ min sites.count (length sites.sites)
sought-length sites =
    length-take sites.count (map (λ (s : Site). s.place) sites.sites) ∙ ap (λ (n : ℕ). min sites.count n) (length-map sites.sites (λ (s : Site). s.place))

pub sought-counted : (sites : Sites) (i : ℕ) → i < length (sought sites) → i < sites.count
sought-counted sites i within = omega (arith, within, sought-length sites)

pub sought-stored : (sites : Sites) (i : ℕ) → i < length (sought sites) → i < length sites.sites
sought-stored sites i within = omega (arith, within, sought-length sites)

pub sought-within : (sites : Sites) (i : ℕ) → i < sites.count → i < length sites.sites → i < length (sought sites)
sought-within sites i counted within = omega (arith, counted, within, sought-length sites)

pub sought-first : (sites : Sites) (i k : ℕ) → i ≤ k → k < length (sought sites) → (i < sites.count) × (i < length sites.sites)
sought-first sites i k before within =
    (sought-counted sites i (omega (arith, before, within)), sought-stored sites i (omega (arith, before, within)))

place-more : (sites : List Site) (n : ℕ) (site : Site) → n < length sites
    → take (suc n) (map (λ (s : Site). s.place) (set sites n site)) ≡ take n (map (λ (s : Site). s.place) sites) ++ site.place ∷ []
place-more [] n site within = absurd (omega (arith, within))
place-more (s ∷ ss) zero site within = refl
place-more (s ∷ ss) (suc n) site within = ap (λ (places : List ℕ). s.place ∷ places) (place-more ss n site (omega (arith, within)))

-- a place more
pub sought-more : (sites : Sites) (site : Site) (place : ℕ) → sites.count < length sites.sites → site.place ≡ place
    → sought (record { sites = set sites.sites sites.count site; excerpt = sites.excerpt; count = sites.count + 1 }) ≡ sought sites ++ place ∷ []
sought-more sites site place room is =
    ap (λ (n : ℕ). take n (map (λ (s : Site). s.place) (set sites.sites sites.count site))) (add-one sites.count)
    ∙ (place-more sites.sites sites.count site room ∙ ap (λ (n : ℕ). take sites.count (map (λ (s : Site). s.place) sites.sites) ++ n ∷ []) is)

-- ---- one place is settled

found-set : (sites : List Site) (i k : ℕ) (site other : Site) → site.is_found ≡ true → k < length sites → (get_or sites k other).is_found ≡ true
    → (get_or (set sites i site) k other).is_found ≡ true
found-set sites i k site other found within before = elim (cases_lt k i) [
  | inl less ↦ rw (get_or-set_other sites i k site other (omega (arith, less))) before
  | inr more ↦ elim (cases_lt i k) [
    | inl less ↦ rw (get_or-set_other sites i k site other (omega (arith, less))) before
    | inr same ↦ (let e : k ≡ i = omega (arith, more, same) in
        subst (λ (n : ℕ). (get_or (set sites i site) n other).is_found ≡ true) (sym e)
        (ap (λ (s : Site). s.is_found) (get_or-set_same sites i site other (omega (arith, e, within))) ∙ found))
  ]
]

pub Settles-set : (old : Sites) (i : ℕ) (site other : Site) → site.place ≡ (get_or old.sites i other).place → site.is_found ≡ true
    → Settles old (record { sites = set old.sites i site; excerpt = old.excerpt; count = old.count }) i
Settles-set old i site other same found = record {
  count = refl;
  places = map-set_same (λ (s : Site). s.place) old.sites i site other same;
  here = λ d within. let stored : i < length old.sites = omega (arith, within, length-set old.sites i site) in
      ap (λ (s : Site). s.is_found) (get_or-set_same old.sites i site d stored) ∙ found;
  kept = λ k d within before. let stored : k < length old.sites =
      omega (arith, within, length-set old.sites i site) in found-set old.sites i k site d found stored before;
}

pub sought-settled : (old new : Sites) (i : ℕ) → Settles old new i → sought new ≡ sought old
sought-settled old new i settles =
    ap (λ (n : ℕ). take n (map (λ (s : Site). s.place) new.sites)) settles.count ∙ ap (λ (places : List ℕ). take old.count places) settles.places

pub settled-length : (old new : Sites) (i : ℕ) → Settles old new i → length new.sites ≡ length old.sites
settled-length old new i settles =
    sym (length-map new.sites (λ (s : Site). s.place)) ∙ (ap (λ (places : List ℕ). length places) settles.places ∙ length-map old.sites (λ (s : Site). s.place))

-- the next place is found, and the later ones are not before it
pub Seeks-settled : (finder new : Finder) (old sites : Sites) (passed now : ℕ) → Seeks finder old passed → Settles old sites finder.next
    → new.next ≡ finder.next + 1
    → ((k e : ℕ) → finder.next < k → k < length (sought old) → now ≤ get_or (sought old) k e) → Seeks new sites now
Seeks-settled finder new old sites passed now seeks settles next behind = record {
  found = λ k other before within. elim (cases_lt k finder.next) [
    | inl less ↦ settles.kept k other within (seeks.found k other less (omega (arith, within, long)))
    | inr more ↦ (let e : k ≡ finder.next = omega (arith, before, next, more) in
        subst (λ (n : ℕ). (get_or sites.sites n other).is_found ≡ true) (sym e) (settles.here other (omega (arith, e, within))))
  ];
  ahead = λ k e after within below. subst (λ (places : List ℕ). now ≤ get_or places k e) (sym same)
      (behind k e (omega (arith, next, after)) (subst (λ (places : List ℕ). k < length places) same within));
}
  where
    same : sought sites ≡ sought old
    same = sought-settled old sites finder.next settles

    long : length sites.sites ≡ length old.sites
    long = settled-length old sites finder.next settles

-- where the next place is behind so many bytes, each later one is
pub Seeks-passed : (finder : Finder) (sites : Sites) (passed now : ℕ) (other : Site) → IsNonDecreasing (sought sites) → Seeks finder sites passed
    → ((get_or sites.sites finder.next other).place < 2 ^ 64 - 1 → passed ≤ (get_or sites.sites finder.next other).place
    → now ≤ (get_or sites.sites finder.next other).place)
    → Seeks finder sites now
Seeks-passed finder sites passed now other ordered seeks next = record {
  found = seeks.found;
  ahead = λ k e after within below.
      let first : finder.next < length (sought sites) = omega (arith, after, within) in
      let is = sought-at sites finder.next e other (sought-counted sites finder.next first) (sought-stored sites finder.next first) in
      let least : get_or (sought sites) finder.next e ≤ get_or (sought sites) k e = ordered finder.next k e after within in
      let small : get_or (sought sites) finder.next e < 2 ^ 64 - 1 = omega (arith, least, below) in
      let reached = seeks.ahead finder.next e (omega arith) first small in
      let behind = next (omega (arith, is, small)) (omega (arith, is, reached)) in
      omega (arith, is, least, behind);
}

-- ---- all places are found

pub Seeks-begins : (finder : Finder) (sites : Sites) → finder.next ≡ 0 → Seeks finder sites 0
Seeks-begins finder sites none = record {
  found = λ k other before within. absurd (omega (arith, before, none));
  ahead = λ k e after within below. omega arith;
}

is-found : (sites : List Site) (i : ℕ) (other : Site) (place : ℕ) → i < length sites → (get_or sites i other).is_found ≡ true
    → (get_or sites i other).place ≡ place → list_any (is_found_at place) sites ≡ true
is-found sites i other place within found here = list_any_at (is_found_at place) sites i other within (grind (arith, nat_tests, found, here))

found-sought : (finder : Finder) (sites : Sites) (passed place k : ℕ) → Seeks finder sites passed → k < length (sought sites)
    → get_or (sought sites) k place ≡ place → k < finder.next
    → list_any (is_found_at place) sites.sites ≡ true
found-sought finder sites passed place k seeks within is before =
    let stored = sought-stored sites k within in
    is-found sites.sites k no_site place stored (seeks.found k no_site before stored)
    (sym (sought-at sites k place no_site (sought-counted sites k within) stored) ∙ is)

pub found-before : (finder : Finder) (sites : Sites) (passed place : ℕ) → Seeks finder sites passed → Contains (sought sites) place → place < passed
    → place < 2 ^ 64 - 1
    → list_any (is_found_at place) sites.sites ≡ true
found-before finder sites passed place seeks (k, within, is) before small = elim (cases_lt k finder.next) [
  | inl less ↦ found-sought finder sites passed place k seeks within is less
  | inr more ↦ (let ahead = seeks.ahead k place more within (omega (arith, is, small)) in absurd (omega (arith, ahead, is, before)))
]

pub AllFound-reached : (finder : Finder) (sites : Sites) (passed : ℕ) (text : List ℕ) → Seeks finder sites passed → sites.count ≤ finder.next
    → AllFound text sites
AllFound-reached finder sites passed text seeks reached = λ place (k, within, is) in_text small.
    found-sought finder sites passed place k seeks within is (omega (arith, reached, sought-counted sites k within))

pub AllFound-stored : (finder : Finder) (sites : Sites) (passed : ℕ) (text : List ℕ) → Seeks finder sites passed → length sites.sites ≤ finder.next
    → AllFound text sites
AllFound-stored finder sites passed text seeks stored = λ place (k, within, is) in_text small.
    found-sought finder sites passed place k seeks within is (omega (arith, stored, sought-stored sites k within))

pub AllFound-unstored : (finder : Finder) (old sites : Sites) (passed : ℕ) (text : List ℕ) → Seeks finder old passed → Settles old sites finder.next
    → length old.sites ≤ finder.next → AllFound text sites
AllFound-unstored finder old sites passed text seeks settles stored = λ place (k, within, is) in_text small.
    let kept : k < length sites.sites = sought-stored sites k within in
    let before : k < length old.sites = omega (arith, kept, settled-length old sites finder.next settles) in
    is-found sites.sites k no_site place kept (settles.kept k no_site kept (seeks.found k no_site (omega (arith, before, stored)) before))
    (sym (sought-at sites k place no_site (sought-counted sites k within) kept) ∙ is)

pub AllFound-passed : (finder : Finder) (sites : Sites) (text : List ℕ) (passed : ℕ) → Seeks finder sites passed → length text < passed → AllFound text sites
AllFound-passed finder sites text passed seeks long =
    λ place contained within small. found-before finder sites passed place seeks contained (omega (arith, within, long)) small

pub AllFound-long : (finder : Finder) (sites : Sites) (text : List ℕ) → Seeks finder sites (length text) → 2 ^ 64 - 1 ≤ length text → AllFound text sites
AllFound-long finder sites text seeks long =
    λ place contained within small. found-before finder sites (length text) place seeks contained (omega (arith, small, long)) small

-- the next place is the end of the text
pub AllFound-settled : (finder : Finder) (old sites : Sites) (text : List ℕ) (other : Site) → IsNonDecreasing (sought old) → Seeks finder old (length text)
    → Settles old sites finder.next
    → finder.next < old.count → finder.next < length old.sites → (get_or old.sites finder.next other).place ≡ length text → AllFound text sites
AllFound-settled finder old sites text other ordered seeks settles counted stored here = λ place contained within small. elim (cases_lt place (length text)) [
  | inl before ↦ found-before more sites (length text) place after contained before small
  | inr end ↦ is-found sites.sites finder.next other place still (settles.here other still) (omega (arith, same, here, within, end))
]
  where
    more : Finder
    more = record finder { next = finder.next + 1 }

    first : finder.next < length (sought old)
    first = sought-within old finder.next counted stored

    after : Seeks more sites (length text)
    after = Seeks-settled finder more old sites (length text) (length text) seeks settles refl
        (λ k e later within. omega (arith, here, sought-at old finder.next e other counted stored, ordered finder.next k e (omega (arith, later)) within))

    still : finder.next < length sites.sites
    still = omega (arith, stored, settled-length old sites finder.next settles)

    same : (get_or sites.sites finder.next other).place ≡ (get_or old.sites finder.next other).place
    same = sym (get_or-map (λ (s : Site). s.place) sites.sites finder.next other 0 still)
        ∙ (ap (λ (places : List ℕ). get_or places finder.next 0) settles.places ∙ get_or-map (λ (s : Site). s.place) old.sites finder.next other 0 stored)

-- ---- where the reader told its bytes

pub FoundBy-reached : (a : Option (List ℕ)) (finder : Finder) (sites : Sites) (passed : ℕ) → Seeks finder sites passed → sites.count ≤ finder.next
    → FoundBy a sites
FoundBy-reached None finder sites passed seeks reached = tt
FoundBy-reached (Some text) finder sites passed seeks reached = AllFound-reached finder sites passed text seeks reached

-- at the end, or behind as many bytes as a u64 counts
pub FoundBy-read : (a b : Option (List ℕ)) (read : List ℕ) (sites : Sites) → Consumes a b read → IsAtEnd b ⊎ (2 ^ 64 - 1 ≤ length read) → AllFound read sites
    → FoundBy a sites
FoundBy-read None b read sites took ended found = tt
FoundBy-read (Some all) None read sites took ended found = absurd took
FoundBy-read (Some all) (Some rest) read sites took (inl ended) found =
    subst (λ (text : List ℕ). AllFound text sites) (sym (took ∙ ap (λ (ys : List ℕ). read ++ ys) ended ∙ append-nil read)) found
FoundBy-read (Some all) (Some rest) read sites took (inr long) found = λ place contained within small. found place contained (omega (arith, small, long)) small
