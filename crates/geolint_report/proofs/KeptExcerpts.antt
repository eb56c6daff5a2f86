-- Lemmas on the excerpt that a second reading keeps.
use Rattle.geolint_report.proofs.Common.{arith, inl, inr, ◌≡◌, ◌≤◌, ◌<◌, ◌⊎◌, ℕ, ◌+◌, ◌-◌, ◌^◌, ◌++◌, ◌∷◌, [], List, length, take, drop, get_or, ap}
use Rattle.geolint_report.proofs.Common.{sym, ◌∙◌, subst, append-nil, length-append, Option, Some, None, cases_lt, Site}
use Rattle.std.specs.Io.KnownBytes.{Consumes, IsAtEnd}
use Rattle.std.proofs.lemmas.List.{take_all, drop_all, take-append-le, drop-append-le, get_or-map}
use Rattle.std.proofs.Math.Seq.{get_or-append_seam}
use Rattle.gj_places.specs.Keeping.{Keeps as KeepsLine}
use Rattle.gj_places.specs.declared.excerpt.Excerpt.{Excerpt}
use Rattle.geolint_report.specs.declared.sites.Finder.{Finder}
use Rattle.geolint_report.specs.declared.sites.Sites.{Sites}
use Rattle.geolint_report.specs.Sites.{sought, IsUnread, IsExcerpt, ExcerptBy}
use Rattle.geolint_report.specs.Internal.SecondReading.{IsAt, Shows, Seeks, Settles}
use Rattle.geolint_report.proofs.SoughtPlaces.{sought-at, sought-length, settled-length, no_site}

-- ---- an excerpt

IsAt-here : (excerpt : Excerpt) (place : ℕ) (bytes : List ℕ) → place ≡ length bytes → KeepsLine excerpt bytes [] → IsAt excerpt place bytes
IsAt-here excerpt place bytes here keeps = record {
  within = omega (arith, here);
  keeps = subst (λ (before : List ℕ). KeepsLine excerpt before (drop place bytes)) (sym (take_all place bytes (omega (arith, here))))
      (subst (λ (after : List ℕ). KeepsLine excerpt bytes after) (sym (drop_all place bytes (omega (arith, here)))) keeps);
}

pub IsAt-more : (old new : Excerpt) (place : ℕ) (bytes more : List ℕ) → IsAt old place bytes
    → ((before after : List ℕ) → KeepsLine old before after → KeepsLine new before (after ++ more)) → IsAt new place (bytes ++ more)
IsAt-more old new place bytes more is fed =
    let within = is.within in
    record {
      within = omega (arith, within, length-append bytes more);
      keeps = subst (λ (before : List ℕ). KeepsLine new before (drop place (bytes ++ more))) (sym (take-append-le place bytes more within))
          (subst (λ (after : List ℕ). KeepsLine new (take place bytes) after) (sym (drop-append-le place bytes more within))
          (fed (take place bytes) (drop place bytes) is.keeps));
    }

-- ---- the last place

sought-last : (sites : Sites) (before : List ℕ) (place e : ℕ) → sought sites ≡ before ++ place ∷ [] → get_or (sought sites) (length before) e ≡ place
sought-last sites before place e last = ap (λ (places : List ℕ). get_or places (length before) e) last ∙ get_or-append_seam before place [] e

sought-long : (sites : Sites) (before : List ℕ) (place : ℕ) → sought sites ≡ before ++ place ∷ [] → length (sought sites) ≡ length before + 1
sought-long sites before place last = ap (λ (places : List ℕ). length places) last ∙ length-append before (place ∷ [])

counted-last : (sites : Sites) (before : List ℕ) (place : ℕ) → sites.count ≤ length sites.sites → sought sites ≡ before ++ place ∷ []
    → sites.count ≡ length before + 1
counted-last sites before place stored last = omega (arith, stored, sought-long sites before place last, sought-length sites)

place-last : (sites : Sites) (before : List ℕ) (place : ℕ) → sites.count ≤ length sites.sites → sought sites ≡ before ++ place ∷ []
    → (get_or sites.sites (sites.count - 1) no_site).place ≡ place
place-last sites before place stored last =
    let counted = counted-last sites before place stored last in
    let index : sites.count - 1 ≡ length before = omega (arith, counted) in
    ap (λ (k : ℕ). (get_or sites.sites k no_site).place) index
    ∙ (sym (sought-at sites (length before) place no_site (omega (arith, counted)) (omega (arith, counted, stored)))
    ∙ sought-last sites before place place last)

settled-place : (old new : Sites) (i k : ℕ) (other : Site) → Settles old new i → k < length new.sites
    → (get_or new.sites k other).place ≡ (get_or old.sites k other).place
settled-place old new i k other settles within =
    sym (get_or-map (λ (s : Site). s.place) new.sites k other 0 within)
    ∙ (ap (λ (places : List ℕ). get_or places k 0) settles.places
    ∙ get_or-map (λ (s : Site). s.place) old.sites k other 0 (omega (arith, within, settled-length old new i settles)))

-- ---- steps of a reading

pub Shows-begins : (finder : Finder) (sites : Sites) → IsUnread sites → finder.next ≡ 0 → Shows finder sites [] []
Shows-begins finder sites (keeps, stored) none = record {
  stored = stored;
  before = λ fewer. subst (λ (bytes : List ℕ). KeepsLine sites.excerpt bytes []) (sym (take_all finder.counted [] (omega arith))) keeps;
  behind = λ other some reached. absurd (omega (arith, none, some, reached));
}

pub Shows-piece : (finder : Finder) (sites : Sites) (text piece : List ℕ) → finder.counted ≡ 0 → Shows finder sites text [] → Shows finder sites text piece
Shows-piece finder sites text piece none shows =
    let same : take finder.counted [] ≡ take finder.counted piece = ap (λ (n : ℕ). take n []) none ∙ sym (ap (λ (n : ℕ). take n piece) none) in
    record {
      stored = shows.stored;
      before = λ fewer. subst (λ (ys : List ℕ). KeepsLine sites.excerpt (text ++ ys) []) same (shows.before fewer);
      behind = λ other some reached. subst (λ (ys : List ℕ). IsAt sites.excerpt (get_or sites.sites (sites.count - 1) other).place (text ++ ys)) same
          (shows.behind other some reached);
    }

-- the next place is found
pub Shows-settled : (finder new : Finder) (old sites : Sites) (text piece : List ℕ) (other : Site) → Shows finder old text piece → Settles old sites finder.next
    → new.next ≡ finder.next + 1
    → finder.next < old.count → (get_or old.sites finder.next other).place ≡ length (text ++ take new.counted piece)
    → KeepsLine sites.excerpt (text ++ take new.counted piece) []
    → Shows new sites text piece
Shows-settled finder new old sites text piece other shows settles next counted here keeps = record {
  stored = omega (arith, stored, long, settles.count);
  before = λ fewer. keeps;
  behind = λ d some reached.
      let index : sites.count - 1 ≡ finder.next = omega (arith, settles.count, next, counted, reached) in
      let within : finder.next < length sites.sites = omega (arith, stored, long, counted) in
      let place : (get_or sites.sites (sites.count - 1) d).place ≡ length (text ++ take new.counted piece) =
      ap (λ (k : ℕ). (get_or sites.sites k d).place) index
      ∙ (sym (get_or-map (λ (s : Site). s.place) sites.sites finder.next d 0 within)
      ∙ (get_or-map (λ (s : Site). s.place) sites.sites finder.next other 0 within
      ∙ (settled-place old sites finder.next finder.next other settles within ∙ here))) in
      IsAt-here sites.excerpt _ _ place keeps;
}
  where
    stored : old.count ≤ length old.sites
    stored = shows.stored

    long : length sites.sites ≡ length old.sites
    long = settled-length old sites finder.next settles

-- ---- at the end

-- behind the last place, whatever follows
excerpt-behind : (finder : Finder) (sites : Sites) (text more : List ℕ) → Shows finder sites text [] → sites.count ≤ finder.next
    → ((before after : List ℕ) → KeepsLine sites.excerpt before after → KeepsLine sites.excerpt before (after ++ more)) → IsExcerpt (text ++ more) sites
excerpt-behind finder sites text more shows reached whole = λ before place last within short.
    let counted = counted-last sites before place shows.stored last in
    let is = shows.behind no_site (omega (arith, counted)) reached in
    let bytes : text ++ take finder.counted [] ≡ text = ap (λ (ys : List ℕ). text ++ ys) (take_all finder.counted [] (omega arith)) ∙ append-nil text in
    let at : IsAt sites.excerpt place text =
    subst (λ (n : ℕ). IsAt sites.excerpt n text) (place-last sites before place shows.stored last)
    (subst (λ (ys : List ℕ). IsAt sites.excerpt (get_or sites.sites (sites.count - 1) no_site).place ys) bytes is) in
    let longer = IsAt-more sites.excerpt sites.excerpt place text more at whole in
    longer.keeps

-- the last place is not before the end
excerpt-before : (finder : Finder) (sites : Sites) (text : List ℕ) → Shows finder sites text [] → Seeks finder sites (length text) → finder.next < sites.count
    → IsExcerpt text sites
excerpt-before finder sites text shows seeks fewer = λ before place last within short.
    let counted = counted-last sites before place shows.stored last in
    let long = sought-long sites before place last in
    let here = sought-last sites before place place last in
    let ahead = seeks.ahead (length before) place (omega (arith, counted, fewer)) (omega (arith, long)) (omega (arith, here, within, short)) in
    let bytes : text ++ take finder.counted [] ≡ text = ap (λ (ys : List ℕ). text ++ ys) (take_all finder.counted [] (omega arith)) ∙ append-nil text in
    let is = IsAt-here sites.excerpt place text (omega (arith, ahead, here, within))
    (subst (λ (ys : List ℕ). KeepsLine sites.excerpt ys []) bytes (shows.before fewer)) in
    is.keeps

pub excerpt-end : (finder : Finder) (sites : Sites) (text : List ℕ) → Shows finder sites text [] → Seeks finder sites (length text) → IsExcerpt text sites
excerpt-end finder sites text shows seeks = elim (cases_lt finder.next sites.count) [
  | inl fewer ↦ excerpt-before finder sites text shows seeks fewer
  | inr reached ↦ subst (λ (bytes : List ℕ). IsExcerpt bytes sites) (append-nil text)
      (excerpt-behind finder sites text [] shows reached
      (λ before after keeps. subst (λ (ys : List ℕ). KeepsLine sites.excerpt before ys) (sym (append-nil after)) keeps))
]

-- where nothing but the found changes
pub excerpt-same : (old new : Sites) (text : List ℕ) → new.excerpt ≡ old.excerpt → sought new ≡ sought old → IsExcerpt text old → IsExcerpt text new
excerpt-same old new text excerpt same around = λ before place last within short.
    subst (λ (e : Excerpt). KeepsLine e (take place text) (drop place text)) (sym excerpt) (around before place (sym same ∙ last) within short)

-- ---- where the reader told its bytes

pub ExcerptBy-whole : (a b : Option (List ℕ)) (read : List ℕ) (finder : Finder) (sites : Sites) → Consumes a b read → Shows finder sites read []
    → sites.count ≤ finder.next
    → ((before after more : List ℕ) → KeepsLine sites.excerpt before after → KeepsLine sites.excerpt before (after ++ more)) → ExcerptBy a sites
ExcerptBy-whole None b read finder sites took shows reached whole = tt
ExcerptBy-whole (Some all) None read finder sites took shows reached whole = absurd took
ExcerptBy-whole (Some all) (Some rest) read finder sites took shows reached whole =
    subst (λ (bytes : List ℕ). IsExcerpt bytes sites) (sym took)
    (excerpt-behind finder sites read rest shows reached (λ before after keeps. whole before after rest keeps))

-- at the end, or behind as many bytes as a u64 counts
pub ExcerptBy-read : (a b : Option (List ℕ)) (read : List ℕ) (sites : Sites) → Consumes a b read → IsAtEnd b ⊎ (2 ^ 64 - 1 ≤ length read) → IsExcerpt read sites
    → ExcerptBy a sites
ExcerptBy-read None b read sites took ended around = tt
ExcerptBy-read (Some all) None read sites took ended around = absurd took
ExcerptBy-read (Some all) (Some rest) read sites took (inl ended) around =
    subst (λ (text : List ℕ). IsExcerpt text sites) (sym (took ∙ ap (λ (ys : List ℕ). read ++ ys) ended ∙ append-nil read)) around
ExcerptBy-read (Some all) (Some rest) read sites took (inr long) around = λ before place last within short.
    let whole : length all ≡ length read + length rest = ap (λ (ys : List ℕ). length ys) took ∙ length-append read rest in
    absurd (omega (arith, whole, long, short))
