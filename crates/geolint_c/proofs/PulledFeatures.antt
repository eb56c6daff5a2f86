-- Which features are ready, as more bytes come.
use Rattle.std.proofs.Common.{◌≡◌, ℕ, zero, suc, ◌+◌, ◌-◌, ◌%◌, ◌<◌, ◌≤◌, ◌^◌, nat_le, Bool, true, false, if◌then◌else◌, List, [], ◌∷◌, ◌++◌, length}
use Rattle.std.proofs.Common.{length-append, take, slice_get, append_assoc, Option, Some, None, IfSome, IsSomeAnd, refl, ap, sym, subst, ◌∙◌, arith}
use Rattle.std.proofs.lemmas.Bool.Decides.{nat_tests}
use Rattle.std.proofs.lemmas.List.{take_all, take-append-le, length-take-le}
use Rattle.std.proofs.lemmas.List.Sums.{sum_by-take-le}
use Rattle.std.proofs.lemmas.Option.{slice_get_past}
use Rattle.gj_json.specs.Limits.{Allowed}
use Rattle.gj_json.specs.Text.{IsText, IsTextWithin}
use Rattle.gj_json.specs.Tree.{Tree, Text}
use Rattle.gj_json.specs.declared.fault.JsonFault.{JsonFault}
use Rattle.gj_rules.specs.FeatureFindings.{FeatureFinding, complete_at, complete_in, features_of, findings_by, commas}
use Rattle.gj_rules.specs.FeatureLinter.{refusal_of, offset_of, sink_of}
use Rattle.gj_rules.specs.FeaturesTold.{SaysFinding, SayFindings, TellFindings}
use Rattle.gj_rules.specs.declared.feature.Feature.{Feature}
use Rattle.geolint_c.specs.declared.latest.LatestFeatures.{LatestFeatures}
use Rattle.geolint_c.specs.declared.latest.TheConstants.{ROOM}
use Rattle.geolint_c.specs.declared.finding.Finding.{Finding}
use Rattle.geolint_c.specs.Finding.{IsFeature}
use Rattle.geolint_c.specs.Features.{Judging, OfFeatures, HasRoom, Judges, IsNextOf, tells_more, ready_by}
use Rattle.geolint_c.specs.Internal.Pulling.{Counted, HasRoomFor, most_in}
use Rattle.geolint_c.specs.Latest.{Keeps}
use Rattle.gj_rules.proofs.Features.FeaturesInTime.{as_many}
use Rattle.gj_rules.proofs.Features.FeaturesByCommas.{one_if}
use Rattle.gj_rules.proofs.Texts.LinterEvents.{take_both}

-- ---- what is told and what is found

pub said_length : (told : List Feature) (found : List FeatureFinding) → SayFindings told found → length told ≡ length found
said_length [] [] h = refl
said_length [] (f ∷ fs) h = absurd h
said_length (t ∷ ts) [] h = absurd h
said_length (t ∷ ts) (f ∷ fs) h = ap suc (said_length ts fs h.1)

-- of so many as were told, each says the finding at its place
pub said_at : (told : List Feature) (found : List FeatureFinding) (i : ℕ) (finding : FeatureFinding) → SayFindings told found → slice_get found i ≡ Some finding
    → (feature : Feature) × (slice_get told i ≡ Some feature) × SaysFinding feature finding
said_at [] [] zero finding h e = absurd (let f : None ≡ Some finding = e in cc)
said_at [] [] (suc i) finding h e = absurd (let f : None ≡ Some finding = e in cc)
said_at [] (f ∷ fs) i finding h e = absurd h
said_at (t ∷ ts) [] i finding h e = absurd h
said_at (t ∷ ts) (f ∷ fs) zero finding h e = (t, refl, (let same : Some f ≡ Some finding = e in let g : f ≡ finding = cc in subst (SaysFinding t) g h.0))
said_at (t ∷ ts) (f ∷ fs) (suc i) finding h e = said_at ts fs i finding h.1 e

some_at : (found : List FeatureFinding) (i : ℕ) → i < length found → (finding : FeatureFinding) × (slice_get found i ≡ Some finding)
some_at [] i l = absurd (omega (arith, l))
some_at (f ∷ fs) zero l = (f, refl)
some_at (f ∷ fs) (suc i) l = some_at fs i (omega (arith, l))

-- the feature that is kept at a place is the next of those that were found
pub next_found : (latest : LatestFeatures) (found : List FeatureFinding) (pulled : ℕ) (feature : Feature) (told : Finding) → length found < 2 ^ 64
    → TellFindings (Keeps latest) found
    → pulled < length found → length found ≤ pulled + ROOM → slice_get latest.features (pulled % ROOM) ≡ Some feature
    → ((finding : FeatureFinding) → SaysFinding feature finding → IsFeature finding told) → IsNextOf (slice_get found pulled) true told
next_found latest found pulled feature told few h more room at says_so =
    let (features, keeps, says) = h in
    let e = said_length features found says in
    let kept = keeps (omega (arith, few, e)) in
    let (finding, is) = some_at found pulled more in
    let (one, there, said) = said_at features found pulled finding says is in
    let here : Some one ≡ Some feature = sym (kept.kept pulled one there (omega (arith, room, e))) ∙ at in
    let same : one ≡ feature = cc in
    subst (λ (o : Option FeatureFinding). IsNextOf o true told) (sym is) (refl, says_so finding (subst (λ (f : Feature). SaysFinding f finding) same said))

-- where no more were told than were pulled, there is none
pub none_next : (o : Option Judging) (pulled : ℕ) (ready : Bool) (told : Finding) (limits : Allowed) (bytes : List ℕ) → ready ≡ false
    → ready_by o pulled ≡ false
    → IfSome o Counted → IsSomeAnd o (λ linter. Judges linter pulled limits bytes)
    → IsSomeAnd o (λ linter. OfFeatures linter limits bytes (λ found. IsNextOf (slice_get found pulled) ready told))
none_next None pulled ready told limits bytes e r counts j = absurd j
none_next (Some linter) pulled ready told limits bytes e r counts j = λ text rest t few.
    let n = counts limits bytes j.stands j.under text rest t few in
    let l : (sink_of linter).told ≤ pulled = grind (arith, nat_tests) in
    subst (λ (o : Option FeatureFinding). IsNextOf o ready told) (sym (slice_get_past (findings_by (offset_of linter) text) pulled (omega (arith, n, l)))) e

-- one more was pulled
pub pulled_on : (linter : Judging) (pulled : ℕ) (limits : Allowed) (bytes : List ℕ) → tells_more linter pulled ≡ true → Counted linter
    → Judges linter pulled limits bytes → Judges linter (pulled + 1) limits bytes
pulled_on linter pulled limits bytes more counts j = record {
  stands = j.stands;
  under = j.under;
  room = λ text rest t few.
      let n = counts limits bytes j.stands j.under text rest t few in
      let room = j.room text rest t few in
      let l : pulled < (sink_of linter).told = grind (arith, nat_tests) in
      (omega (arith, n, l), omega (arith, room.1));
}

-- where no more were told than were pulled, there is room for as many as are kept
pub room_for : (linter : Judging) (pulled : ℕ) (limits : Allowed) (bytes run : List ℕ) → tells_more linter pulled ≡ false → Counted linter
    → Judges linter pulled limits bytes → most_in run ≤ ROOM
    → OfFeatures linter limits bytes (HasRoomFor (most_in run) pulled)
room_for linter pulled limits bytes run none counts j short = λ text rest t few.
    let n = counts limits bytes j.stands j.under text rest t few in
    let room = j.room text rest t few in
    let l : (sink_of linter).told ≤ pulled = grind (arith, nat_tests) in
    (room.0, omega (arith, n, l, short))

-- how many were told
pub counted : (latest : LatestFeatures) (found : List FeatureFinding) → length found < 2 ^ 64 → TellFindings (Keeps latest) found → latest.told ≡ length found
counted latest found few h =
    let (features, keeps, says) = h in
    let e = said_length features found says in
    (keeps (omega (arith, few, e))).told ∙ e

-- ---- how many there are, as more bytes come

grows : (n m : ℕ) (vs : List Tree) → n ≤ m → length (complete_in n vs) ≤ length (complete_in m vs)
grows n m [] l = omega arith
grows n m (v ∷ vs) l = cut (nat_le (complete_at v) n) refl (grows n m vs l)
  where
    cut : (t : Bool) → nat_le (complete_at v) n ≡ t → length (complete_in n vs) ≤ length (complete_in m vs)
        → length (if t then v ∷ complete_in n vs else []) ≤ length (complete_in m (v ∷ vs))
    cut true e on =
        let i : complete_at v ≤ n = grind (arith, nat_tests) in
        let j : nat_le (complete_at v) m ≡ true = grind (arith, nat_tests) in
        rw j (omega (arith, on))
    cut false e on = omega arith

found_more : (n m : ℕ) (text : Text) → n ≤ m → length (findings_by n text) ≤ length (findings_by m text)
found_more n m text l =
    let vs = features_of text.value in
    omega (arith, grows n m vs l, as_many 0 (complete_in n vs), as_many 0 (complete_in m vs))

-- no more than so many bytes complete
abbrev pub InTime : Type 0
InTime = (text : Text) (bytes : List ℕ) (m n : ℕ) → IsText text bytes → m ≤ n → length (findings_by n text) ≤ length (findings_by m text) + (n - m)

-- and than so many commas, and one
abbrev pub ByCommas : Type 0
ByCommas = (text : Text) (before run after : List ℕ) → IsText text (before ++ run ++ after)
    → length (findings_by (length before + length run) text) ≤ length (findings_by (length before) text) + commas run + 1

pub room_on : InTime → ByCommas → (old new : Judging) (pulled : ℕ) (limits : Allowed) (bytes chunk : List ℕ) → offset_of old ≤ offset_of new
    → offset_of old ≤ length bytes
    → offset_of new ≤ length (bytes ++ chunk) → (refusal_of old ≡ None → offset_of old ≡ length bytes)
    → ((fault : JsonFault) → refusal_of old ≡ Some fault → new ≡ old)
    → OfFeatures old limits bytes (HasRoom pulled) → OfFeatures old limits bytes (HasRoomFor (most_in chunk) pulled)
    → OfFeatures new limits (bytes ++ chunk) (HasRoom pulled)
room_on in_time by_commas old new pulled limits bytes chunk on within taken all same room more = by_refusal (refusal_of old) refl
  where
    by_refusal : (o : Option JsonFault) → refusal_of old ≡ o → OfFeatures new limits (bytes ++ chunk) (HasRoom pulled)
    by_refusal (Some fault) e =
        subst (λ (j : Judging). OfFeatures j limits (bytes ++ chunk) (HasRoom pulled)) (sym (same fault e))
        (λ text rest t few. room text rest
        (subst (λ bs. IsTextWithin limits.depth text (bs ++ rest)) (take-append-le (offset_of old) bytes chunk within) t) few)
    by_refusal None e = λ text rest t few.
        let n = offset_of old in
        let m = offset_of new in
        let full : n ≡ length bytes = all e in
        let part = take (m - length bytes) chunk in
        let at : take m (bytes ++ chunk) ≡ bytes ++ part = take_both bytes chunk m (omega (arith, on, full)) in
        let start : take n bytes ≡ bytes = take_all n bytes (omega (arith, full)) in
        let same : take m (bytes ++ chunk) ++ rest ≡ take n bytes ++ (part ++ rest) =
        ap (λ bs. bs ++ rest) at ∙ (append_assoc bytes part rest ∙ ap (λ bs. bs ++ (part ++ rest)) (sym start)) in
        let old_found = more text (part ++ rest) (subst (λ bs. IsTextWithin limits.depth text bs) same t) few in
        let late = in_time text _ n m t.0 on in
        let spaced = by_commas text bytes part rest (subst (λ bs. IsText text bs) (ap (λ bs. bs ++ rest) at) t.0) in
        let longer = length-append bytes chunk in
        let long : length part ≡ m - length bytes = length-take-le (m - length bytes) chunk (omega (arith, taken, longer)) in
        let end : length bytes + length part ≡ m = omega (arith, long, on, full) in
        let at_end = ap (λ k. length (findings_by k text)) end in
        let at_start = ap (λ k. length (findings_by k text)) full in
        let part_of : commas part ≤ commas chunk = sum_by-take-le one_if chunk (m - length bytes) in
        (omega (arith, old_found.0, found_more n m text on), omega (arith, old_found.1, late, spaced, at_end, at_start, part_of, taken, longer, full))
