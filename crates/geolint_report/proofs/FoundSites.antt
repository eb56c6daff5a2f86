-- Lemmas on what a second reading finds.
use Rattle.geolint_report.proofs.Common.{arith, rules, refl, ◌≡◌, ◌≤◌, ◌<◌, ℕ, ◌+◌, ◌-◌, ◌++◌, ◌∷◌, [], List, length, take, drop, get_or, ap, sym, ◌∙◌}
use Rattle.geolint_report.proofs.Common.{subst, true, false, append-nil, length-append, Option, Some, None, u64_saturate, Consumes, StandsFor, Site}
use Rattle.std.proofs.Common.{zero, suc, set}
use Rattle.std.proofs.lemmas.List.{take_all, take-append-le, take_at}
use Rattle.gj_places.specs.Lines.{line_of, column_of}
use Rattle.gj_places.specs.declared.lines.Lines.{Lines}
use Rattle.geolint_report.specs.declared.sites.Spot.{Spot}
use Rattle.geolint_report.specs.declared.sites.Finder.{Finder}
use Rattle.geolint_report.specs.declared.sites.Sites.{Sites}
use Rattle.geolint_report.specs.Sites.{IsSpot, AreRight, RightBy}
use Rattle.geolint_report.specs.Internal.SecondReading.{Reaches}

pub each-set : (P : Site → Type 0) (sites : List Site) (i : ℕ) (site : Site) → ((k : ℕ) (other : Site) → k < length sites → P (get_or sites k other)) → P site
    → (k : ℕ) (other : Site) → k < length (set sites i site) → P (get_or (set sites i site) k other)
each-set P [] i site all is k other within = all k other within
each-set P (s ∷ ss) zero site all is zero other within = is
each-set P (s ∷ ss) zero site all is (suc k) other within = all (suc k) other within
each-set P (s ∷ ss) (suc i) site all is zero other within = all zero other (omega arith)
each-set P (s ∷ ss) (suc i) site all is (suc k) other within =
    each-set P ss i site (λ j o w. all (suc j) o (omega (arith, w))) is k other (omega (arith, within))

pub right-sought : (text : List ℕ) (sites : List Site) (i : ℕ) (site : Site) → AreRight text sites → site.is_found ≡ false → AreRight text (set sites i site)
right-sought text sites i site right sought =
    each-set (λ (s : Site). s.is_found ≡ true → IsSpot text s.place s.spot) sites i site right (λ found. search (rules, sought, found))

-- a place in a text is the same place in a longer one
pub IsSpot-longer : (text more : List ℕ) (place : ℕ) (spot : Spot) → IsSpot text place spot → IsSpot (text ++ more) place spot
IsSpot-longer text more place spot is =
    let sum = length-append text more in
    let within = is.within in
    let same = take-append-le place text more is.within in
    record {
      within = omega (arith, sum, within);
      line = is.line ∙ ap (λ (ys : List ℕ). u64_saturate (line_of ys)) (sym same);
      column = is.column ∙ ap (λ (ys : List ℕ). u64_saturate (column_of ys)) (sym same);
    }

pub AreRight-longer : (text more : List ℕ) (sites : List Site) → AreRight text sites → AreRight (text ++ more) sites
AreRight-longer text more sites right = λ i other within found. IsSpot-longer text more _ _ (right i other within found)

-- the place behind the bytes that are counted
pub IsSpot-counted : (text counted rest : List ℕ) (place : ℕ) (lines : Lines) (spot : Spot) → place ≡ length (text ++ counted)
    → StandsFor lines (text ++ counted)
    → spot.line ≡ lines.line → spot.column ≡ lines.column → IsSpot ((text ++ counted) ++ rest) place spot
IsSpot-counted text counted rest place lines spot here stands line column =
    let sum = length-append (text ++ counted) rest in
    let same : take place ((text ++ counted) ++ rest) ≡ text ++ counted = take_at (text ++ counted) rest place (sym here) in
    record {
      within = omega (arith, sum, here);
      line = line ∙ stands.line ∙ ap (λ (ys : List ℕ). u64_saturate (line_of ys)) (sym same);
      column = column ∙ stands.column ∙ ap (λ (ys : List ℕ). u64_saturate (column_of ys)) (sym same);
    }

pub Spot-is : (text counted : List ℕ) (n place : ℕ) (lines : Lines) (spot : Spot) (rest : List ℕ) → length counted ≡ n → place ≡ length text + n
    → StandsFor lines (text ++ counted)
    → spot.line ≡ lines.line → spot.column ≡ lines.column → IsSpot ((text ++ counted) ++ rest) place spot
Spot-is text counted n place lines spot rest long here stands line column =
    let sum = length-append text counted in
    IsSpot-counted text counted rest place lines spot (omega (arith, sum, long, here)) stands line column

pub IsSpot-end : (text : List ℕ) (place : ℕ) (lines : Lines) (spot : Spot) → place ≡ length text → StandsFor lines text → spot.line ≡ lines.line
    → spot.column ≡ lines.column → IsSpot text place spot
IsSpot-end text place lines spot here stands line column =
    let same : take place text ≡ text = take_all place text (omega (arith, here)) in
    record {
      within = omega (arith, here);
      line = line ∙ stands.line ∙ ap (λ (ys : List ℕ). u64_saturate (line_of ys)) (sym same);
      column = column ∙ stands.column ∙ ap (λ (ys : List ℕ). u64_saturate (column_of ys)) (sym same);
    }

nothing : (m n : ℕ) (ys : List ℕ) → length ys ≡ 0 → take m ys ≡ take n ys
nothing m n ys none = take_all m ys (omega (arith, none)) ∙ sym (take_all n ys (omega (arith, none)))

-- the bytes between two indexes
pub take-joined : (from to : ℕ) (bytes : List ℕ) → from ≤ to → take from bytes ++ take (to - from) (drop from bytes) ≡ take to bytes
take-joined zero to bytes ordered = ap (λ (n : ℕ). take n bytes) (omega arith)
take-joined (suc from) to [] ordered = nothing (to - suc from) to [] refl
take-joined (suc from) zero (byte ∷ more) ordered = absurd (omega (arith, ordered))
take-joined (suc from) (suc to) (byte ∷ more) ordered =
    ap (λ (ys : List ℕ). byte ∷ ys) (ap (λ (n : ℕ). take from more ++ take n (drop from more)) same ∙ take-joined from to more (omega (arith, ordered)))
  where
    same : suc to - suc from ≡ to - from
    same = omega arith

-- before the first of a piece
pub Reaches-piece : (finder : Finder) (sites : Sites) (text piece : List ℕ) → Reaches finder sites text [] → Reaches finder sites text piece
Reaches-piece finder sites text piece reaches =
    let counted = reaches.counted in
    let none : finder.counted ≡ 0 = omega (arith, counted) in
    let same : take finder.counted [] ≡ take finder.counted piece = ap (λ (n : ℕ). take n []) none ∙ sym (ap (λ (n : ℕ). take n piece) none) in
    record {
      offset = reaches.offset;
      counted = omega (arith, none);
      lines = λ fewer. subst (λ (ys : List ℕ). StandsFor finder.lines (text ++ ys)) same (reaches.lines fewer);
      right = AreRight-longer text piece sites.sites (subst (λ (bytes : List ℕ). AreRight bytes sites.sites) (append-nil text) reaches.right);
    }

-- behind the bytes that a reader gave, of those that it told
pub RightBy-read : (a b : Option (List ℕ)) (read : List ℕ) (sites : List Site) → Consumes a b read → AreRight read sites → RightBy a sites
RightBy-read None b read sites took right = tt
RightBy-read (Some all) None read sites took right = absurd took
RightBy-read (Some all) (Some rest) read sites took right = subst (λ (bytes : List ℕ). AreRight bytes sites) (sym took) (AreRight-longer read rest sites right)

pub RightBy-reached : (a b : Option (List ℕ)) (read : List ℕ) (finder : Finder) (sites : Sites) → Consumes a b read → Reaches finder sites read []
    → RightBy a sites.sites
RightBy-reached a b read finder sites took reaches =
    RightBy-read a b read sites.sites took (subst (λ (bytes : List ℕ). AreRight bytes sites.sites) (append-nil read) reaches.right)
