-- What is said of the places of notes while a source is read once.
use Rattle.geolint_files.proofs.Common.{◌≡◌, sym, subst, ℕ, List, [], ◌∷◌, Bool, Option, Some, None, Finding, Reading, Report}
use Rattle.std.proofs.Common.{true, false}
use Rattle.std.specs.Borrow.{Bor}
use Rattle.std.specs.Prelude.{IsSomeAnd}
use Rattle.gj_json.specs.Limits.{Allowed}
use Rattle.std.specs.Io.KnownBytes.{Consumes}
use Rattle.geolint_report.specs.declared.every.cursor.Mark.{Mark}
use Rattle.geolint_report.specs.declared.every.listing.Note.{Note}
use Rattle.geolint_report.specs.declared.every.spots.Spots.{Spots}
use Rattle.geolint_report.specs.declared.sites.Sites.{Sites}
use Rattle.geolint_report.specs.Held.{AreHeld, AreHeldBy}
use Rattle.geolint_report.specs.Judged.{Finds}
use Rattle.geolint_report.specs.Sites.{IsSpot, LeadsTo}
use Rattle.geolint_report.specs.Spots.{AreSpots, SaysSpot, FollowedFrom}
use Rattle.geolint_files.specs.Listed.{AreEntriesOf, AreLinesOf, IsMarkedBy, IsSpotBy}
use Rattle.geolint_files.specs.Run.{FeatureLine, feature_line, others_line}
use Rattle.geolint_files.specs.Told.{HasHeldIf, IsFoundOnce}

-- what is said by the bytes that were read holds of all that the source had
spot-by : (had left : Option (List ℕ)) (read : List ℕ) (spots : Spots) (note : Note) (mark : Option Mark) → Consumes had left read → AreSpots spots read
    → SaysSpot spots note mark → IsSpotBy had note mark
spot-by had left read spots note None took are says = tt
spot-by None left read spots note (Some mark) took are (place, path, spot) = (place, path)
spot-by (Some text) None read spots note (Some mark) took are says = absurd took
spot-by (Some text) (Some rest) read spots note (Some mark) took are (place, path, spot) =
    let there : IsSpot text mark.place mark.spot = subst (λ (bytes : List ℕ). IsSpot bytes mark.place mark.spot) (sym took) (spot read rest are) in
    ((place, subst (λ (p : ℕ). IsSpot text p mark.spot) place there, subst (LeadsTo None text note.told.place) (sym path) tt), path)

entries-by : (had left : Option (List ℕ)) (read : List ℕ) (spots : Spots) (name : List ℕ) (notes : List Note) (lines : List FeatureLine)
    → Consumes had left read → AreSpots spots read
    → AreEntriesOf (IsMarkedBy (SaysSpot spots)) name notes lines → AreEntriesOf (IsMarkedBy (IsSpotBy had)) name notes lines
entries-by had left read spots name [] [] took kept are = tt
entries-by had left read spots name [] (line ∷ lines) took kept are = absurd are
entries-by had left read spots name (note ∷ notes) [] took kept are = absurd are
entries-by had left read spots name (note ∷ notes) (others_line told count ∷ lines) took kept are = absurd are.0
entries-by had left read spots name (note ∷ notes) (feature_line entry ∷ lines) took kept ((named, noted, (says, id)), are) =
    ((named, noted, (spot-by had left read spots entry.note entry.mark took kept says, id)), entries-by had left read spots name notes lines took kept are)

-- so it is of all lines
pub lines-by : (had left : Option (List ℕ)) (spots : Spots) (name : List ℕ) (notes : List Note) (count : ℕ) (lines : List FeatureLine)
    → FollowedFrom had left (AreSpots spots) → AreLinesOf (IsMarkedBy (SaysSpot spots)) name notes count lines
    → AreLinesOf (IsMarkedBy (IsSpotBy had)) name notes count lines
lines-by had left spots name notes count lines (read, took, kept) are =
    record { entries = are.entries; are = entries-by had left read spots name notes are.entries took kept are.are; all = are.all }

-- ---- the places of what is found

weaker : (sites : Option (Bor Sites)) (Are Were : Sites → Type 0) → ((s : Sites) → Were s → Are s) → IsSomeAnd sites (λ s. Were s.now)
    → IsSomeAnd sites (λ s. Are s.now)
weaker None Are Were by is = is
weaker (Some s) Are Were by is = by s.now is

-- what is found in the bytes that came is found in those that were read
held-by : (shown : Bool) (finding : Finding) (reading : Reading) (limits : Allowed) (had left : Option (List ℕ)) (spots : Spots) (report : Report)
    → FollowedFrom had left (AreSpots spots) → HasHeldIf shown (AreHeldBy spots finding reading limits) report
    → HasHeldIf shown (AreHeld finding reading limits had left) report
held-by false finding reading limits had left spots report followed none = none
held-by true finding reading limits had left spots report (read, took, kept) are =
    weaker report.sites (AreHeld finding reading limits had left) (AreHeldBy spots finding reading limits)
    (λ sites held. (held.0, (read, took, held.1 read kept))) are

pub found-once : (Shows : Finding → Bool) (reading : Reading) (limits : Allowed) (had left : Option (List ℕ)) (spots : Spots) (finding : Finding)
    (report : Report) → report.finding ≡ finding → Finds reading limits had left finding → FollowedFrom had left (AreSpots spots)
    → HasHeldIf (Shows finding) (AreHeldBy spots finding reading limits) report → IsFoundOnce Shows reading limits had report
found-once Shows reading limits had left spots finding report same found followed held =
    let here = subst (λ (f : Finding). Finds reading limits had left f × HasHeldIf (Shows f) (AreHeld f reading limits had left) report) (sym same)
    (found, held-by (Shows finding) finding reading limits had left spots report followed held) in
    (left, here.0, here.1)
