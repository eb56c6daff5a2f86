-- Lemmas on the places whose path a second reading tells.
use Rattle.geolint_report.proofs.Common.{arith, refl, ◌≡◌, ◌<◌, ℕ, ◌+◌, ◌++◌, ◌∷◌, [], List, length, take, ap, sym, ◌∙◌, subst, true, false, append_assoc}
use Rattle.geolint_report.proofs.Common.{append-nil, length-append, Option, Some, None, Allowed, Framing, Site}
use Rattle.std.proofs.Common.{set}
use Rattle.std.specs.Prelude.{IsSome, Result, Ok, Err, is_err}
use Rattle.std.specs.Io.KnownBytes.{Consumes, IsAtEnd}
use Rattle.std.proofs.lemmas.List.{take-append-le}
use Rattle.gj_json.specs.declared.fault.Cause.{Cause}
use Rattle.gj_json.specs.declared.fault.Cause.TheVariants.{Syntax, Truncated, Depth, Length}
use Rattle.gj_json.specs.declared.fault.JsonFault.{JsonFault}
use Rattle.gj_json.specs.declared.path.Path.{Path}
use Rattle.gj_json.specs.Reader.{Answers}
use Rattle.gj_json.specs.Refusal.{Stops, RefusedFor}
use Rattle.gj_json.specs.Text.{IsTextWithin, IsViableWithin}
use Rattle.geolint_report.specs.declared.sites.Finder.{Finder}
use Rattle.geolint_report.specs.declared.sites.Sites.{Sites}
use Rattle.geolint_report.specs.Sites.{AreRight, ArePaths, text_of, text_limits, CanGoOn, has_begun, IsUnderWay, IsTold, AreTold, ToldBy, NoneFound}
use Rattle.geolint_report.specs.declared.every.text_path.TextPath.{TextPath}
use Rattle.geolint_report.specs.Internal.SecondReading.{AreWithin, Tells}
use Rattle.geolint_report.specs.Internal.TextPaths.{Keeps, KeepsIn}
use Rattle.geolint_report.proofs.FollowedPaths.{take-here}
use Rattle.geolint_report.proofs.FoundSites.{each-set}
use Rattle.gj_rules.proofs.Sequences.OpenRecords.{stop_short}

-- ---- no byte of a text that can go on is refused

pub CanGoOn-front : (limits : Allowed) (bytes more : List ℕ) → CanGoOn limits (bytes ++ more) → CanGoOn limits bytes
CanGoOn-front limits bytes more ((rest, text, is), fits) = (
  (more ++ rest, text, subst (λ (ys : List ℕ). IsTextWithin limits.depth text ys) (append_assoc bytes more rest) is),
  omega
      (arith, length-append bytes more, fits),
)

-- what begins with bytes that can become a text begins with these, the refused one among them
viable-stop : (limits : Allowed) (bytes : List ℕ) (place levels : ℕ) (stop : Stops limits bytes place) → IsViableWithin levels bytes
    → IsViableWithin levels (stop.good ++ stop.byte ∷ [])
viable-stop limits bytes place levels stop (rest, text, is) = (stop.rest ++ rest, text, subst (λ (ys : List ℕ). IsTextWithin levels text ys) joined is)
  where
    joined : bytes ++ rest ≡ (stop.good ++ stop.byte ∷ []) ++ (stop.rest ++ rest)
    joined = ap (λ (ys : List ℕ). ys ++ rest) stop.split
        ∙ (append_assoc stop.good (stop.byte ∷ stop.rest) rest ∙ sym (append_assoc stop.good (stop.byte ∷ []) (stop.rest ++ rest)))

never-refused : (cause : Cause) (limits : Allowed) (bytes : List ℕ) (place : ℕ) → RefusedFor cause limits bytes place
    → ((more : List ℕ) → RefusedFor cause limits (bytes ++ more) place)
    → CanGoOn limits bytes → ⊥
never-refused Syntax limits bytes place (stop, before, never) lasting (viable, fits) =
    let (rest, text, is) = viable-stop limits bytes place limits.depth stop viable in never (rest, text, is.0)
never-refused Depth limits bytes place (stop, before, some, never) lasting (viable, fits) = never (viable-stop limits bytes place limits.depth stop viable)
never-refused Length limits bytes place (stop, here) lasting (viable, fits) = omega (arith, stop_short limits bytes place stop, here, fits)
never-refused Truncated limits bytes place refused lasting ((rest, text, is), fits) = let (here, allowed, viable, never) = lasting rest in never text is

pub never-err : (A : Type 0) (limits : Allowed) (bytes : List ℕ) (result : Result A JsonFault) → Answers limits bytes result → CanGoOn limits bytes
    → is_err result ≡ false
never-err A limits bytes (Ok done) answers goes = refl
never-err A limits bytes (Err fault) (refused, lasting) goes = absurd (never-refused fault.cause limits bytes fault.place refused lasting goes)

-- bytes that begin no record
pub KeepsIn-more : (old new : TextPath) (text bytes : List ℕ) → new.framing ≡ old.framing → new.limits ≡ old.limits
    → text_of old.framing (text ++ bytes) ≡ text_of old.framing text ++ bytes → has_begun old.framing (text ++ bytes) ≡ has_begun old.framing text
    → (Keeps (text_limits old.framing old.limits) old (text_of old.framing text)
    → Keeps (text_limits old.framing old.limits) new (text_of old.framing text ++ bytes))
    → KeepsIn old text → KeepsIn new (text ++ bytes)
KeepsIn-more old new text bytes kind limits joined same step keeps = λ (begun, goes).
    let here : CanGoOn (text_limits old.framing old.limits) (text_of old.framing (text ++ bytes)) =
    subst (λ (f : Option Framing). CanGoOn (text_limits f old.limits) (text_of f (text ++ bytes))) kind
    (subst (λ (l : Allowed). CanGoOn (text_limits new.framing l) (text_of new.framing (text ++ bytes))) limits goes) in
    let can : CanGoOn (text_limits old.framing old.limits) (text_of old.framing text ++ bytes) =
    subst (λ (ys : List ℕ). CanGoOn (text_limits old.framing old.limits) ys) joined here in
    let was : has_begun old.framing text ≡ true = sym same ∙ (ap (λ (f : Option Framing). has_begun f (text ++ bytes)) (sym kind) ∙ begun) in
    let (live, under) = step (λ front. keeps (was, front)) can in
    (live, under ∙ (ap (λ (f : Option Framing). text_limits f old.limits) (sym kind) ∙ ap (λ (l : Allowed). text_limits new.framing l) (sym limits)))

-- ---- in a longer file

AreWithin-longer : (text more : List ℕ) (sites : List Site) → AreWithin text sites → AreWithin (text ++ more) sites
AreWithin-longer text more sites within = λ i other stored found.
    let before = within i other stored found in
    omega (arith, before, length-append text more)

IsTold-longer : (limits : Allowed) (framing : Option Framing) (text more : List ℕ) (place : ℕ) (path : Option Path) → place < length text
    → IsTold limits framing text place path
    → IsTold limits framing (text ++ more) place path
IsTold-longer limits framing text more place path within told = λ longer under.
    told within (subst (λ (front : List ℕ). IsUnderWay limits framing front) (take-append-le (place + 1) text more (omega (arith, within))) under)

AreTold-longer : (limits : Allowed) (framing : Option Framing) (text more : List ℕ) (sites : List Site) → AreWithin text sites
    → AreTold limits framing text sites
    → AreTold limits framing (text ++ more) sites
AreTold-longer limits framing text more sites within told = λ i other stored found.
    IsTold-longer limits framing text more _ _ (within i other stored found) (told i other stored found)

-- behind the byte at the place
pub IsTold-here : (limits : Allowed) (framing : Option Framing) (text piece : List ℕ) (at place : ℕ) (path : Option Path) → at < length piece
    → place ≡ length text + at
    → (IsUnderWay limits framing (text ++ take (at + 1) piece) → IsSome path) → IsTold limits framing (text ++ piece) place path
IsTold-here limits framing text piece at place path within here is = λ longer under.
    is (subst (λ (front : List ℕ). IsUnderWay limits framing front) (take-here text piece at place within here) under)

-- ---- the sites

pub unfound-set : (sites : List Site) (i : ℕ) (site : Site) → NoneFound sites → site.is_found ≡ false → NoneFound (set sites i site)
unfound-set sites i site none sought = each-set (λ (s : Site). s.is_found ≡ false) sites i site none sought

-- of what was not found, all is right
pub unfound-right : (text : List ℕ) (sites : List Site) → NoneFound sites → AreRight text sites
unfound-right text sites none = λ i other stored found. let sought = none i other stored in absurd (cc)

pub unfound-paths : (framing : Option Framing) (text : List ℕ) (sites : List Site) → NoneFound sites → ArePaths framing text sites
unfound-paths framing text sites none = λ i other stored found. let sought = none i other stored in absurd (cc)

-- before the first of a piece
pub Tells-piece : (limits : Allowed) (framing : Option Framing) (finder : Finder) (sites : Sites) (text piece : List ℕ) → finder.located ≡ 0
    → Tells limits framing finder sites text []
    → Tells limits framing finder sites text piece
Tells-piece limits framing finder sites text piece none tells =
    let same : take finder.located [] ≡ take finder.located piece = ap (λ (n : ℕ). take n []) none ∙ sym (ap (λ (n : ℕ). take n piece) none) in
    let within = subst (λ (bytes : List ℕ). AreWithin bytes sites.sites) (append-nil text) tells.within in
    record {
      under = tells.under;
      keeps = λ fewer. subst (λ (ys : List ℕ). KeepsIn finder.text_path (text ++ ys)) same (tells.keeps fewer);
      within = AreWithin-longer text piece sites.sites within;
      told = AreTold-longer limits framing text piece sites.sites within
          (subst (λ (bytes : List ℕ). AreTold limits framing bytes sites.sites) (append-nil text) tells.told);
    }

-- ---- where the reader told its bytes

ToldBy-read : (limits : Allowed) (framing : Option Framing) (a b : Option (List ℕ)) (read : List ℕ) (sites : List Site) → Consumes a b read
    → AreWithin read sites → AreTold limits framing read sites
    → ToldBy limits framing a sites
ToldBy-read limits framing None b read sites took within are = tt
ToldBy-read limits framing (Some all) None read sites took within are = absurd took
ToldBy-read limits framing (Some all) (Some rest) read sites took within are =
    subst (λ (bytes : List ℕ). AreTold limits framing bytes sites) (sym took) (AreTold-longer limits framing read rest sites within are)

pub told-now : (limits : Allowed) (framing : Option Framing) (finder : Finder) (sites : Sites) (read : List ℕ) → Tells limits framing finder sites read []
    → AreTold limits framing read sites.sites
told-now limits framing finder sites read tells = subst (λ (bytes : List ℕ). AreTold limits framing bytes sites.sites) (append-nil read) tells.told

pub ToldBy-reached : (limits : Allowed) (framing : Option Framing) (a b : Option (List ℕ)) (read : List ℕ) (finder : Finder) (sites : Sites) → Consumes a b read
    → Tells limits framing finder sites read []
    → ToldBy limits framing a sites.sites
ToldBy-reached limits framing a b read finder sites took tells =
    ToldBy-read limits framing a b read sites.sites took (subst (λ (bytes : List ℕ). AreWithin bytes sites.sites) (append-nil read) tells.within)
    (told-now limits framing finder sites read tells)

-- at the end
pub ToldBy-end : (limits : Allowed) (framing : Option Framing) (a b : Option (List ℕ)) (read : List ℕ) (sites : List Site) → Consumes a b read → IsAtEnd b
    → AreTold limits framing read sites
    → ToldBy limits framing a sites
ToldBy-end limits framing None b read sites took ended are = tt
ToldBy-end limits framing (Some all) None read sites took ended are = absurd took
ToldBy-end limits framing (Some all) (Some rest) read sites took ended are =
    subst (λ (bytes : List ℕ). AreTold limits framing bytes sites) (sym (took ∙ ap (λ (ys : List ℕ). read ++ ys) ended ∙ append-nil read)) are
