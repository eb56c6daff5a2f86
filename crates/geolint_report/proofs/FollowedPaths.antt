-- Lemmas on the paths that a second reading finds.
use Rattle.geolint_report.proofs.Common.{arith, refl, ◌≡◌, ◌<◌, ◌≤◌, ℕ, ◌+◌, ◌++◌, ◌∷◌, [], List, length, take, drop, get_or, ap, sym, ◌∙◌, subst, true}
use Rattle.geolint_report.proofs.Common.{false, append_assoc, append-nil, length-append, Option, Some, None, Consumes, Framing, Site}
use Rattle.std.proofs.Common.{suc, ◌||◌, Bool, length-drop, length-take-le, if◌then◌else◌, IfSome}
use Rattle.std.proofs.lemmas.List.{take-append-le, take_at, take_more, get_or-drop, take-append-drop}
use Rattle.std.proofs.lemmas.Bool.{or_parts, false_from_ne_true}
use Rattle.std.proofs.Math.Bool.{or-true, or-false}
use Rattle.std.proofs.lemmas.List.Recursion.{or_push}
use Rattle.gj_json.specs.declared.path.Path.{Path}
use Rattle.geolint_report.specs.declared.sites.Finder.{Finder}
use Rattle.geolint_report.specs.declared.sites.Sites.{Sites}
use Rattle.geolint_report.specs.Sites.{is_separator, has_separator, last_record, text_of, IsPathOf, LeadsTo, ArePaths, PathsBy}
use Rattle.geolint_report.specs.Internal.SecondReading.{Follows}
use Rattle.geolint_report.specs.Internal.TextPaths.{StandsIn}

module _ (framing : Framing) where
  -- ---- records, byte by byte

  has_separator-more : (bytes : List ℕ) (byte : ℕ) → has_separator framing (bytes ++ byte ∷ []) ≡ (has_separator framing bytes || is_separator framing byte)
  has_separator-more = or_push (has_separator framing) (is_separator framing) refl (λ x xs. refl)

  pub has_separator-here : (bytes : List ℕ) (byte : ℕ) → is_separator framing byte ≡ true → has_separator framing (bytes ++ byte ∷ []) ≡ true
  has_separator-here bytes byte is =
      has_separator-more bytes byte ∙ (ap (λ (b : Bool). has_separator framing bytes || b) is ∙ or-true (has_separator framing bytes))

  pub has_separator-other : (bytes : List ℕ) (byte : ℕ) → is_separator framing byte ≡ false
      → has_separator framing (bytes ++ byte ∷ []) ≡ has_separator framing bytes
  has_separator-other bytes byte is =
      has_separator-more bytes byte ∙ (ap (λ (b : Bool). has_separator framing bytes || b) is ∙ or-false (has_separator framing bytes))

  pub last_record-begun : (bytes : List ℕ) (byte : ℕ) → is_separator framing byte ≡ true → last_record framing (bytes ++ byte ∷ []) ≡ []
  last_record-begun [] byte is = rw (has_separator-here [] byte is) refl
  last_record-begun (first ∷ more) byte is = rw (has_separator-here (first ∷ more) byte is) (last_record-begun more byte is)

  last_record-by : (has : Bool) (first : ℕ) (more : List ℕ) (byte : ℕ) → last_record framing (more ++ byte ∷ []) ≡ last_record framing more ++ byte ∷ []
      → (if has then last_record framing (more ++ byte ∷ []) else first ∷ (more ++ byte ∷ [])) ≡ (if has then last_record framing more else first ∷ more)
      ++ byte ∷ []
  last_record-by true first more byte rest = rest
  last_record-by false first more byte rest = refl

  pub last_record-more : (bytes : List ℕ) (byte : ℕ) → is_separator framing byte ≡ false
      → last_record framing (bytes ++ byte ∷ []) ≡ last_record framing bytes ++ byte ∷ []
  last_record-more [] byte is = rw (has_separator-other [] byte is) refl
  last_record-more (first ∷ more) byte is =
      rw (has_separator-other (first ∷ more) byte is) (last_record-by (has_separator framing (first ∷ more)) first more byte (last_record-more more byte is))

  -- ---- records, by the last separator of some bytes

  pub last_record-longer : (xs ys : List ℕ) → has_separator framing ys ≡ false → last_record framing (xs ++ ys) ≡ last_record framing xs ++ ys
  last_record-longer xs [] none = ap (last_record framing) (append-nil xs) ∙ sym (append-nil (last_record framing xs))
  last_record-longer xs (y ∷ ys) none =
      let both = or_parts (is_separator framing y) (has_separator framing ys) none in
      ap (last_record framing) (sym (append_assoc xs (y ∷ []) ys)) ∙ last_record-longer (xs ++ y ∷ []) ys both.1
      ∙ ap (λ (zs : List ℕ). zs ++ ys) (last_record-more xs y both.0) ∙ append_assoc (last_record framing xs) (y ∷ []) ys

  pub has_separator-longer : (xs ys : List ℕ) → has_separator framing ys ≡ false → has_separator framing (xs ++ ys) ≡ has_separator framing xs
  has_separator-longer xs [] none = ap (has_separator framing) (append-nil xs)
  has_separator-longer xs (y ∷ ys) none =
      let both = or_parts (is_separator framing y) (has_separator framing ys) none in
      ap (has_separator framing) (sym (append_assoc xs (y ∷ []) ys)) ∙ has_separator-longer (xs ++ y ∷ []) ys both.1 ∙ has_separator-other xs y both.0

  none-separates : (xs : List ℕ) → ((k : ℕ) → k < length xs → is_separator framing (get_or xs k 0) ≡ false) → has_separator framing xs ≡ false
  none-separates [] none = refl
  none-separates (x ∷ xs) none =
      let here : is_separator framing x ≡ false = none 0 (omega arith) in
      let more : (k : ℕ) → k < length xs → is_separator framing (get_or xs k 0) ≡ false =
      λ k within. (let next : is_separator framing (get_or (x ∷ xs) (suc k) 0) ≡ false = none (suc k) (omega arith) in next) in
      rw here (none-separates xs more)

  -- the bytes from one on, where no separator is after it
  pub rest-separates : (xs : List ℕ) (from : ℕ) → ((k : ℕ) → from ≤ k → k < length xs → is_separator framing (get_or xs k 0) ≡ true → ⊥)
      → has_separator framing (drop from xs) ≡ false
  rest-separates xs from none = none-separates (drop from xs) (λ k within.
      let at : get_or (drop from xs) k 0 ≡ get_or xs (from + k) 0 = get_or-drop from xs k 0 in
      rw at (false_from_ne_true (is_separator framing (get_or xs (from + k) 0)) (none (from + k) (omega arith) (omega (arith, within, length-drop from xs)))))

  -- what comes after the last separator is the record
  pub last_record-parted : (text bytes : List ℕ) (last : ℕ) → last < length bytes → is_separator framing (get_or bytes last 0) ≡ true
      → has_separator framing (drop (last + 1) bytes) ≡ false → last_record framing (text ++ bytes) ≡ drop (last + 1) bytes
  last_record-parted text bytes last within is none =
      let front = text ++ take last bytes in
      let byte = get_or bytes last 0 in
      let rest = drop (last + 1) bytes in
      let upto : take last bytes ++ byte ∷ [] ≡ take (last + 1) bytes = sym (take_more bytes last 0 within) in
      let parted : (front ++ byte ∷ []) ++ rest ≡ text ++ bytes =
      ap (λ (ys : List ℕ). ys ++ rest) (append_assoc text (take last bytes) (byte ∷ []) ∙ ap (λ (ys : List ℕ). text ++ ys) upto)
      ∙ append_assoc text (take (last + 1) bytes) rest ∙ ap (λ (ys : List ℕ). text ++ ys) (take-append-drop (last + 1) bytes) in
      ap (last_record framing) (sym parted) ∙ last_record-longer (front ++ byte ∷ []) rest none
      ∙ ap (λ (ys : List ℕ). ys ++ rest) (last_record-begun front byte is)

-- a text that is no record goes on with the bytes
pub text_of-more : (framing : Option Framing) (text bytes : List ℕ) → framing ≡ None → text_of framing (text ++ bytes) ≡ text_of framing text ++ bytes
text_of-more framing text bytes plain =
    ap (λ (f : Option Framing). text_of f (text ++ bytes)) plain ∙ ap (λ (f : Option Framing). text_of f text ++ bytes) (sym plain)

-- ---- a path in a longer file

LeadsTo-longer : (framing : Option Framing) (text more : List ℕ) (place : ℕ) (path : Option Path) → LeadsTo framing text place path
    → LeadsTo framing (text ++ more) place path
LeadsTo-longer framing text more place None leads = tt
LeadsTo-longer framing text more place (Some path) (within, is) =
    let sum = length-append text more in (
      omega (arith, within, sum),
      subst (λ (front : List ℕ). IsPathOf (text_of framing front) path)
          (sym (take-append-le (place + 1) text more (omega (arith, within)))) is,
    )

pub ArePaths-longer : (framing : Option Framing) (text more : List ℕ) (sites : List Site) → ArePaths framing text sites → ArePaths framing (text ++ more) sites
ArePaths-longer framing text more sites are = λ i other within found. LeadsTo-longer framing text more _ _ (are i other within found)

-- the bytes up to a place in the next piece
pub take-here : (text piece : List ℕ) (at place : ℕ) → at < length piece → place ≡ length text + at
    → take (place + 1) (text ++ piece) ≡ text ++ take (at + 1) piece
take-here text piece at place within here =
    let front = text ++ take (at + 1) piece in
    let long : length front ≡ place + 1 =
    omega (arith, length-append text (take (at + 1) piece), length-take-le (at + 1) piece (omega (arith, within)), here) in
    let whole : front ++ drop (at + 1) piece ≡ text ++ piece =
    append_assoc text (take (at + 1) piece) (drop (at + 1) piece) ∙ ap (λ (ys : List ℕ). text ++ ys) (take-append-drop (at + 1) piece) in
    subst (λ (bytes : List ℕ). take (place + 1) bytes ≡ front) whole (take_at front (drop (at + 1) piece) (place + 1) long)

-- behind the byte at the place
pub LeadsTo-here : (framing : Option Framing) (text piece : List ℕ) (at place : ℕ) (path : Option Path) → at < length piece → place ≡ length text + at
    → IfSome path (λ (p : Path). IsPathOf (text_of framing (text ++ take (at + 1) piece)) p) → LeadsTo framing (text ++ piece) place path
LeadsTo-here framing text piece at place None within here is = tt
LeadsTo-here framing text piece at place (Some path) within here is =
    let sum = length-append text piece in
    (omega (arith, sum, within, here), subst (λ (bytes : List ℕ). IsPathOf (text_of framing bytes) path) (sym (take-here text piece at place within here)) is)

-- ---- the sites

-- before the first of a piece
pub Follows-piece : (framing : Option Framing) (finder : Finder) (sites : Sites) (text piece : List ℕ) → Follows framing finder sites text []
    → Follows framing finder sites text piece
Follows-piece framing finder sites text piece follows =
    let located = follows.located in
    let none : finder.located ≡ 0 = omega (arith, located) in
    let same : take finder.located [] ≡ take finder.located piece = ap (λ (n : ℕ). take n []) none ∙ sym (ap (λ (n : ℕ). take n piece) none) in
    record {
      kind = follows.kind;
      located = omega (arith, none);
      near = follows.near;
      stands = λ fewer. subst (λ (ys : List ℕ). StandsIn finder.text_path (text ++ ys)) same (follows.stands fewer);
      paths = ArePaths-longer framing text piece sites.sites (subst (λ (bytes : List ℕ). ArePaths framing bytes sites.sites) (append-nil text) follows.paths);
    }

-- behind the bytes that a reader gave, of those that it told
pub PathsBy-read : (framing : Option Framing) (a b : Option (List ℕ)) (read : List ℕ) (sites : List Site) → Consumes a b read → ArePaths framing read sites
    → PathsBy framing a sites
PathsBy-read framing None b read sites took are = tt
PathsBy-read framing (Some all) None read sites took are = absurd took
PathsBy-read framing (Some all) (Some rest) read sites took are =
    subst (λ (bytes : List ℕ). ArePaths framing bytes sites) (sym took) (ArePaths-longer framing read rest sites are)

pub paths-followed : (framing : Option Framing) (finder : Finder) (sites : Sites) (read : List ℕ) → Follows framing finder sites read []
    → ArePaths framing read sites.sites
paths-followed framing finder sites read follows = subst (λ (bytes : List ℕ). ArePaths framing bytes sites.sites) (append-nil read) follows.paths

pub PathsBy-reached : (framing : Option Framing) (a b : Option (List ℕ)) (read : List ℕ) (finder : Finder) (sites : Sites) → Consumes a b read
    → Follows framing finder sites read []
    → PathsBy framing a sites.sites
PathsBy-reached framing a b read finder sites took follows = PathsBy-read framing a b read sites.sites took (paths-followed framing finder sites read follows)
