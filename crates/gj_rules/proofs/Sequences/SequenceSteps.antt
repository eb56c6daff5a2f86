-- What a sequence stands for, from step to step.
use Rattle.gj_rules.proofs.Common.{Allowed, Bool, HaveToldIf, IsSequenceVerdict, IsSettled, IsUndecided, IsVerdict, IsViableWithin, JsonFault, List, Part}
use Rattle.gj_rules.proofs.Common.{Record, SeqVerdict, SequenceRecord, Syntax, Verdict, ap, append_assoc, arith, drop, false, first_number, get_or, if◌then◌else◌, is_decided}
use Rattle.gj_rules.proofs.Common.{is_some, length, not, not_json, number_from, records_of, refl, subst, suc, sym, take, take_all, true, whole_of, zero, []}
use Rattle.gj_rules.proofs.Common.{◌++◌, ◌+◌, ◌<◌, ◌||◌, ◌∙◌, ◌∷◌}
use Rattle.std.proofs.Common.{◌≡◌, ℕ, length-append, append-nil, Option, Some, None, unwrap_or}
use Rattle.std.proofs.lemmas.List.{take-append-drop, take-append-le}
use Rattle.gj_rules.specs.declared.records.Records.{Records}
use Rattle.gj_rules.specs.declared.records.framing.Framing.TheVariants as Framings
use Rattle.gj_rules.specs.declared.records.framing.Framing.{Framing}
use Rattle.gj_rules.specs.declared.sequence.SeqProgress.TheVariants as Progress
use Rattle.gj_rules.specs.declared.sequence.SeqProgress.{SeqProgress}
use Rattle.gj_rules.specs.declared.sequence.Sequence.{Sequence}
use Rattle.gj_rules.specs.Internal.OpenParts.{IsOpen}
use Rattle.gj_rules.specs.Internal.OpenRecord.{progress_of, refused_from, refused_in, refused_part}
use Rattle.gj_rules.specs.Linter.{Answers as LinterAnswers, refusal_of}
use Rattle.gj_rules.specs.RecordFindings.{AreAllFindings, IsWholeVerdict}
use Rattle.gj_rules.specs.Records.{are_none, is_counted, is_void, number_after}
use Rattle.gj_rules.specs.RecordsStand.{StandsFor as RecordsStandFor}
use Rattle.gj_rules.specs.Sequence.{IsDecidedAt, is_valid_sequence}
use Rattle.gj_rules.specs.SequenceStands.{IsLive, HasDecided, StandsBy, StandsFor, says_decided, Answers}
use Rattle.gj_rules.proofs.Parts.PartCuts.{take_one}
use Rattle.gj_rules.proofs.Parts.RecordSteps.{open_of, over_of, over_where}
use Rattle.gj_rules.proofs.Parts.SequencesByRecords.{record_at, kept, sequence_by_records}
use Rattle.gj_rules.proofs.Sequences.RefusedRecords.{settled_refused}
use Rattle.gj_rules.proofs.Sequences.UndecidedSequences.{Cut, cut_whole, none_begun, some_begun, snoc_last, undecided, undecided_valid, settled_last}
use Rattle.gj_rules.proofs.Sequences.UndecidedSequences.{settled_stray}

-- what the records of a sequence make it
pub judged : (r : Records) (bytes : List ℕ) (verdict : SeqVerdict) → r.framing ≡ Framings.Sequence → IsWholeVerdict r.framing r.limits bytes verdict
    → IsSequenceVerdict r.limits bytes verdict
judged r bytes verdict framing (found, are, is) =
    let F : Framing → Type 0 = λ f. AreAllFindings f r.limits bytes found in
    let W : SeqVerdict → Type 0 = λ v. IsSequenceVerdict r.limits bytes v in
    subst W (sym is) (sequence_by_records r.limits bytes found r.some_byte (subst F framing are))

-- ---- while no byte has decided

not_true : (b : Bool) → not b ≡ true → b ≡ false
not_true true e = cc
not_true false e = refl

pub not_over : (s : Sequence) → s.decided ≡ None → s.records.is_over ≡ false
not_over s e = not_true s.records.is_over (sym (ap (λ o. is_some o || not s.records.is_over) e) ∙ s.live)

pub or_live : (b over : Bool) → over ≡ false → (b || not over) ≡ true
or_live true over e = refl
or_live false over e = ap not e

pub live_of : (s : Sequence) (bytes : List ℕ) → s.decided ≡ None → StandsFor s bytes → IsLive s bytes
live_of s bytes e h = let P : Option ℕ → Type 0 = λ o. StandsBy o s bytes in subst P e h

pub open_live : (s : Sequence) (bytes : List ℕ) → s.decided ≡ None → (h : IsLive s bytes) → IsOpen s.records bytes h.found
open_live s bytes e h = open_of s.records bytes h.found (not_over s e) h.stands

pub unrefused : (number : ℕ) (void : Bool) (start : ℕ) (refusal : Option JsonFault) → refused_part number void (refused_from start refusal) ≡ None
    → (number ≡ 0 → void ≡ true) × (refusal ≡ None)
unrefused zero false start refusal e = absurd (cc)
unrefused zero true start None e = (λ _. refl, refl)
unrefused zero true start (Some fault) e = absurd (cc)
unrefused (suc n) void start None e = (λ z. absurd (omega (arith, z)), refl)
unrefused (suc n) void start (Some fault) e = absurd (cc)

-- the number of the open part, where none has ended
none_number : (r : Records) (bytes : List ℕ) (found : List Record) (k : IsOpen r bytes found) → r.framing ≡ Framings.Sequence → k.done ≡ [] → r.number ≡ 0
none_number r bytes found k framing e = k.number ∙ (ap (number_from r.framing (first_number r.framing)) e ∙ ap first_number framing)

pub live_undecided : (s : Sequence) (bytes : List ℕ) → s.decided ≡ None → IsLive s bytes → IsUndecided s.records.limits bytes
live_undecided s bytes e h =
    let r = s.records in
    let k = open_live s bytes e h in
    let (void, live) = unrefused r.number r.is_void r.record.start (refusal_of r.record.linter) h.refused in
    let A : Option JsonFault → Type 0 = λ o. LinterAnswers r.record.limits k.given (progress_of o) in
    let V : ℕ → Type 0 = λ d. IsViableWithin d k.given in
    undecided r.limits bytes k.done r.record.start k.given h.found (cut_whole r bytes h.found k s.framing) h.valid
    (λ none. sym (k.void ∙ ap (λ f. is_void f k.given) s.framing) ∙ void (none_number r bytes h.found k s.framing none))
    (subst V k.depth (subst A live k.stands.answers).0)

-- ---- once a byte has decided

settled_more : (limits : Allowed) (bytes more : List ℕ) (place : ℕ) (verdict : SeqVerdict) → IsSettled limits bytes place verdict
    → IsSettled limits (bytes ++ more) place verdict
settled_more limits bytes more place verdict h =
    let U : List ℕ → Type 0 = λ bs. IsUndecided limits bs in
    let W : List ℕ → Type 0 = λ bs. IsSequenceVerdict limits bs verdict in
    let within = h.at.within in
    record {
      at = record {
        within = omega (arith, within, length-append bytes more);
        before = subst U (sym (take-append-le place bytes more (omega (arith, within)))) h.at.before;
        decides = λ u. h.at.decides (subst U (take-append-le (place + 1) bytes more (omega (arith, within))) u);
      };
      fails = h.fails;
      lasting = λ rest. subst W (sym (append_assoc bytes more rest)) (h.lasting (more ++ rest));
    }

pub settled_of : (s : Sequence) (bytes : List ℕ) (place : ℕ) (h : HasDecided s bytes place) → IsSettled s.records.limits bytes place h.verdict
settled_of s bytes place h =
    let P : List ℕ → Type 0 = λ bs. IsSettled s.records.limits bs place h.verdict in
    subst P (sym h.split) (settled_more s.records.limits h.taken h.rest place h.verdict h.settled)

-- no more is taken
pub decided_more : (s : Sequence) (bytes more : List ℕ) → is_decided s ≡ true → StandsFor s bytes → StandsFor s (bytes ++ more)
decided_more s bytes more e h = by_option s.decided e h
  where
    by_option : (o : Option ℕ) → is_some o ≡ true → StandsBy o s bytes → StandsBy o s (bytes ++ more)
    by_option None f k = cc
    by_option (Some place) f k = record {
      taken = k.taken;
      rest = k.rest ++ more;
      split = ap (λ bs. bs ++ more) k.split ∙ append_assoc k.taken k.rest more;
      found = k.found;
      stands = k.stands;
      verdict = k.verdict;
      settled = k.settled;
    }

pub rest_fed : (s : Sequence) (bytes piece : List ℕ) (n : ℕ) → is_decided s ≡ true → StandsFor s (bytes ++ take n piece) → StandsFor s (bytes ++ piece)
rest_fed s bytes piece n settled h =
    let P : List ℕ → Type 0 = λ bs. StandsFor s bs in
    subst P (append_assoc bytes (take n piece) (drop n piece) ∙ ap (λ xs. bytes ++ xs) (take-append-drop n piece))
    (decided_more s (bytes ++ take n piece) (drop n piece) settled h)

-- ---- what is answered

pub fed_answers : (s : Sequence) (limits : Allowed) (bytes : List ℕ) (progress : SeqProgress) → s.records.limits ≡ limits
    → says_decided progress ≡ is_decided s
    → StandsFor s bytes → Answers limits bytes progress
fed_answers s limits bytes progress e f h = by_option s.decided refl progress f h
  where
    by_option : (o : Option ℕ) → s.decided ≡ o → (p : SeqProgress) → says_decided p ≡ is_some o → StandsBy o s bytes → Answers limits bytes p
    by_option None d Progress.Open g k = let P : Allowed → Type 0 = λ l. IsUndecided l bytes in subst P e (live_undecided s bytes d k)
    by_option None d Progress.Decided g k = absurd (cc)
    by_option (Some place) d Progress.Open g k = absurd (cc)
    by_option (Some place) d Progress.Decided g k =
        let P : Allowed → Type 0 = λ l. IsSettled l bytes place k.verdict in (place, k.verdict, subst P e (settled_of s bytes place k))

-- the place of the byte that has decided, or how many were taken
pub decided_place : (s : Sequence) (bytes : List ℕ) (offset : ℕ) → is_decided s ≡ true → StandsFor s bytes
    → IsDecidedAt s.records.limits bytes (unwrap_or s.decided offset)
decided_place s bytes offset e h = by_option s.decided e h
  where
    by_option : (o : Option ℕ) → is_some o ≡ true → StandsBy o s bytes → IsDecidedAt s.records.limits bytes (unwrap_or o offset)
    by_option None f k = cc
    by_option (Some place) f k = (settled_of s bytes place k).at

pub live_place : (s : Sequence) (bytes : List ℕ) (offset : ℕ) → s.decided ≡ None → IsLive s bytes
    → ((found : List Record) → RecordsStandFor s.records bytes found → offset ≡ length (take s.records.limits.bytes bytes)) → offset ≡ length bytes
live_place s bytes offset e h taken =
    taken h.found h.stands ∙ ap length (take_all s.records.limits.bytes bytes (open_live s bytes e h).fits)

-- the end of the input
pub ends : ((limits : Allowed) (bytes : List ℕ) (first second : SeqVerdict) → IsSequenceVerdict limits bytes first → IsSequenceVerdict limits bytes second
    → first ≡ second)
    → (s : Sequence) (bytes : List ℕ) (verdict : SeqVerdict) → StandsFor s bytes
    → ((taken : List ℕ) (found : List Record) → RecordsStandFor s.records taken found → IsSequenceVerdict s.records.limits taken verdict)
    → IsSequenceVerdict s.records.limits bytes verdict
ends one s bytes verdict h ended = by_option s.decided h
  where
    by_option : (o : Option ℕ) → StandsBy o s bytes → IsSequenceVerdict s.records.limits bytes verdict
    by_option None k = ended bytes k.found k.stands
    by_option (Some place) k =
        let W : List ℕ → Type 0 = λ bs. IsSequenceVerdict s.records.limits bs k.verdict in
        let V : SeqVerdict → Type 0 = λ v. IsSequenceVerdict s.records.limits bytes v in
        let here = subst W (append-nil k.taken) (k.settled.lasting []) in
        subst V (one s.records.limits k.taken k.verdict verdict here (ended k.taken k.found k.stands)) (subst W (sym k.split) (k.settled.lasting k.rest))

-- ---- steps

has_decided : (new : Sequence) (bytes : List ℕ) (found : List Record) (place : ℕ) (verdict : SeqVerdict) → RecordsStandFor new.records bytes found
    → IsSettled new.records.limits bytes place verdict → HasDecided new bytes place
has_decided new bytes found place verdict stands settled =
    record { taken = bytes; rest = []; split = sym (append-nil bytes); found = found; stands = stands; verdict = verdict; settled = settled }

pub stands_as : (new : Sequence) (bytes : List ℕ) (decided : Option ℕ) → new.decided ≡ decided → StandsBy decided new bytes → StandsFor new bytes
stands_as new bytes decided e h = let P : Option ℕ → Type 0 = λ o. StandsBy o new bytes in subst P (sym e) h

-- a record that is not valid has ended
pub ended_stands : ((limits : Allowed) (bytes : List ℕ) (first second : Verdict) → IsVerdict limits bytes first → IsVerdict limits bytes second
    → first ≡ second)
    → (s new : Sequence) (bytes rest : List ℕ) (count place : ℕ) (told : Bool) (heard : List Record → Type 0) → s.decided ≡ None → (h : IsLive s bytes)
    → new.records.limits ≡ s.records.limits → place ≡ length bytes → 0 < length rest → (told ≡ true → count ≡ 1)
    → (k : HaveToldIf told heard new.records (bytes ++ take count rest) [] h.found)
    → is_valid_sequence (whole_of (h.found ++ k.have.more)) ≡ false
    → ((more : List ℕ) → IsWholeVerdict new.records.framing new.records.limits ((bytes ++ take count rest) ++ more) (whole_of (h.found ++ k.have.more)))
    → HasDecided new (bytes ++ take count rest) place
ended_stands one s new bytes rest count place told heard e h limits at some single k fails lasting =
    let r = new.records in
    let all = h.found ++ k.have.more in
    let is : take count rest ≡ get_or rest 0 0 ∷ [] = ap (λ n. take n rest) (single (was_told told k.have.more k.one_or_none fails)) ∙ take_one rest some in
    let S : List ℕ → Type 0 = λ bs. IsSettled r.limits (bytes ++ bs) (length bytes) (whole_of all) in
    let P : ℕ → Type 0 = λ n. IsSettled r.limits (bytes ++ take count rest) n (whole_of all) in
    let U : Allowed → Type 0 = λ l. IsUndecided l bytes in
    let N : List ℕ → Type 0 = λ bs. IsUndecided r.limits (bytes ++ bs) in
    let L : List ℕ → Type 0 = λ bs. (more : List ℕ) → IsSequenceVerdict r.limits ((bytes ++ bs) ++ more) (whole_of all) in
    has_decided new (bytes ++ take count rest) all place (whole_of all) k.have.stands
    (subst P (sym at) (subst S (sym is)
    (settled_last r.limits bytes (get_or rest 0 0) (whole_of all) (subst U (sym limits) (live_undecided s bytes e h))
    (λ u. never r (bytes ++ take count rest) all new.framing k.have.stands fails (subst N (sym is) u))
    fails
    (subst L is (λ more. judged r ((bytes ++ take count rest) ++ more) (whole_of all) new.framing (lasting more))))))
  where
    was_told : (b : Bool) (more : List Record) → length more ≡ (if b then 1 else 0) → is_valid_sequence (whole_of (h.found ++ more)) ≡ false → b ≡ true
    was_told true more l f = refl
    was_told false [] l f = let g : true ≡ false = sym h.valid ∙ (ap (λ rs. is_valid_sequence (whole_of rs)) (sym (append-nil h.found)) ∙ f) in cc
    was_told false (found ∷ more) l f = absurd (omega (arith, l))

    never : (r : Records) (all_bytes : List ℕ) (all : List Record) → r.framing ≡ Framings.Sequence → RecordsStandFor r all_bytes all
        → is_valid_sequence (whole_of all) ≡ false → IsUndecided r.limits all_bytes → ⊥
    never r all_bytes all framing stands f u = by_test r.is_over refl
      where
        by_test : (b : Bool) → r.is_over ≡ b → ⊥
        by_test true o = let l = over_where r all_bytes all stands o in let fits = u.fits in absurd (omega (arith, l, fits))
        by_test false o =
            let open_now = open_of r all_bytes all o stands in
            let valid = undecided_valid one r.limits all_bytes open_now.done r.record.start open_now.given all (cut_whole r all_bytes all open_now framing) u in
            let g : true ≡ false = sym valid ∙ f in cc

-- none has, and the open one may be refused
some_after : (b : Bool) (n : ℕ) → 0 < number_after b n
some_after true n = omega arith
some_after false zero = omega arith
some_after false (suc n) = omega arith

from_some : (framing : Framing) (n : ℕ) (parts : List Part) → 0 < n → 0 < number_from framing n parts
from_some framing n [] some = some
from_some framing n (part ∷ parts) some =
    from_some framing (number_after (is_counted framing n part) n) parts (some_after (is_counted framing n part) n)

pub none_done : (r : Records) (bytes : List ℕ) (found : List Record) (k : IsOpen r bytes found) → r.framing ≡ Framings.Sequence → r.number ≡ 0 → k.done ≡ []
none_done r bytes found k framing none = by_done k.done k.number
  where
    by_done : (done : List Part) → r.number ≡ number_from r.framing (first_number r.framing) done → done ≡ []
    by_done [] e = refl
    by_done (part ∷ done) e =
        let b = is_counted r.framing (first_number r.framing) part in
        let some = from_some r.framing (number_after b (first_number r.framing)) done (some_after b (first_number r.framing)) in
        absurd (omega (arith, some, e, none))

is_refused : ((limits : Allowed) (bytes : List ℕ) → (verdict : Verdict) × IsVerdict limits bytes verdict)
    → (r : Records) (bytes : List ℕ) (found : List Record) (k : IsOpen r bytes found) (place : ℕ) → r.framing ≡ Framings.Sequence
    → is_valid_sequence (whole_of found) ≡ true → refused_part r.number r.is_void (refused_in r.record) ≡ Some place
    → (verdict : SeqVerdict) × IsSettled r.limits bytes place verdict
is_refused some r bytes found k place framing valid e = by_part r.number r.is_void refl refl e
  where
    by_fault : (o : Option JsonFault) → refusal_of r.record.linter ≡ o → refused_from r.record.start o ≡ Some place → (r.number ≡ 0 → r.is_void ≡ true)
        → (verdict : SeqVerdict) × IsSettled r.limits bytes place verdict
    by_fault None f g void = absurd (cc)
    by_fault (Some fault) f g void =
        let same : r.record.start + fault.place ≡ place = cc in
        let verdict = SeqVerdict.Record r.number (not_json (fault.place + r.record.start) fault.cause) in
        let P : ℕ → Type 0 = λ n. IsSettled r.limits bytes n verdict in
        (verdict, subst P same (settled_refused some r bytes found k fault framing (λ more v. judged r (bytes ++ more) v framing) valid void f))

    by_part : (number : ℕ) (void : Bool) → r.number ≡ number → r.is_void ≡ void → refused_part number void (refused_in r.record) ≡ Some place
        → (verdict : SeqVerdict) × IsSettled r.limits bytes place verdict
    by_part zero true n v g = by_fault (refusal_of r.record.linter) refl g (λ _. v)
    by_part (suc m) void n v g = by_fault (refusal_of r.record.linter) refl g (λ z. absurd (omega (arith, z, n)))
    by_part zero false n v g =
        let same : 0 ≡ place = cc in
        let verdict = SeqVerdict.Record 0 (not_json 0 Syntax) in
        let P : ℕ → Type 0 = λ m. IsSettled r.limits bytes m verdict in
        let C : List Part → Type 0 = λ ps. Cut r.limits bytes ps r.record.start k.given found in
        let c = subst C (none_done r bytes found k framing n) (cut_whole r bytes found k framing) in
        let none : are_none k.given ≡ false = sym (k.void ∙ ap (λ f. is_void f k.given) framing) ∙ v in
        (verdict, subst P same (settled_stray r.limits bytes ((none_begun r.limits bytes r.record.start k.given found c).1 ∙ ap not none)))

-- where no byte has come, none is refused, nor beyond the limit
pub none_over : (r : Records) → RecordsStandFor r [] [] → r.is_over ≡ false
none_over r stands = by_test r.is_over refl
  where
    by_test : (b : Bool) → r.is_over ≡ b → r.is_over ≡ false
    by_test true e = let beyond = over_where r [] [] stands e in absurd (omega (arith, beyond))
    by_test false e = e

pub none_refused : ((limits : Allowed) (bytes : List ℕ) → (verdict : Verdict) × IsVerdict limits bytes verdict)
    → (r : Records) → r.framing ≡ Framings.Sequence → RecordsStandFor r [] []
    → refused_part r.number r.is_void (refused_in r.record) ≡ None
none_refused some r framing stands = by_place (refused_part r.number r.is_void (refused_in r.record)) refl
  where
    by_place : (o : Option ℕ) → refused_part r.number r.is_void (refused_in r.record) ≡ o → o ≡ None
    by_place None is = refl
    by_place (Some place) is =
        let within = (is_refused some r [] [] (open_of r [] [] (none_over r stands) stands) place framing refl is).1.at.within in absurd (omega (arith, within))

pub open_stands : ((limits : Allowed) (bytes : List ℕ) → (verdict : Verdict) × IsVerdict limits bytes verdict)
    → (new : Sequence) (bytes : List ℕ) (found : List Record) → new.decided ≡ refused_part new.records.number new.records.is_void (refused_in new.records.record)
    → RecordsStandFor new.records bytes found → is_valid_sequence (whole_of found) ≡ true → StandsFor new bytes
open_stands some new bytes found e stands valid =
    let r = new.records in
    let place = refused_part r.number r.is_void (refused_in r.record) in stands_as new bytes place e (by_place place refl)
  where
    by_test : (b : Bool) → new.records.is_over ≡ b → IsOpen new.records bytes found
    by_test true o =
        let k = over_of new.records bytes found o stands in
        let f : true ≡ false = sym valid ∙ (ap is_valid_sequence (sym k.whole) ∙ k.fails) in absurd (cc)
    by_test false o = open_of new.records bytes found o stands

    by_place : (o : Option ℕ) → refused_part new.records.number new.records.is_void (refused_in new.records.record) ≡ o → StandsBy o new bytes
    by_place None is = record { found = found; stands = stands; valid = valid; refused = is }
    by_place (Some place) is =
        let settled = is_refused some new.records bytes found (by_test new.records.is_over refl) place new.framing valid is in
        has_decided new bytes found place settled.0 stands settled.1

-- ---- the open record

not_none : (xs : List SequenceRecord) (x : SequenceRecord) → xs ++ x ∷ [] ≡ [] → ⊥
not_none [] x e = cc
not_none (y ∷ xs) x e = cc

by_cut : (limits : Allowed) (bytes : List ℕ) (done : List Part) (start : ℕ) (given : List ℕ) (found : List Record) → Cut limits bytes done start given found
    → (before : List SequenceRecord) (last : SequenceRecord) → records_of limits bytes ≡ before ++ last ∷ [] → (given ≡ last.bytes) × (done ≡ [] → ⊥)
by_cut limits bytes [] start given found c before last e = absurd (not_none before last (sym e ∙ (none_begun limits bytes start given found c).0))
by_cut limits bytes (first ∷ done) start given found c before last e = (
  ap (λ r. r.bytes)
      (snoc_last (kept done) before (record_at start given false) last (sym (some_begun limits bytes first done start given found c).0 ∙ e)).0,
  λ f. cc,
)

none_cut : (limits : Allowed) (bytes : List ℕ) (done : List Part) (start : ℕ) (given : List ℕ) (found : List Record) → Cut limits bytes done start given found
    → records_of limits bytes ≡ [] → done ≡ []
none_cut limits bytes [] start given found c e = refl
none_cut limits bytes (first ∷ done) start given found c e =
    absurd (not_none (kept done) (record_at start given false) (sym (some_begun limits bytes first done start given found c).0 ∙ e))

module _ (s : Sequence) (bytes : List ℕ) (h : IsLive s bytes) (k : IsOpen s.records bytes h.found) where
  -- the last record
  pub last_given : (before : List SequenceRecord) (last : SequenceRecord) → records_of s.records.limits bytes ≡ before ++ last ∷ [] → k.given ≡ last.bytes
  last_given before last f =
      (by_cut s.records.limits bytes k.done s.records.record.start k.given h.found (cut_whole s.records bytes h.found k s.framing) before last f).0

  pub has_number : (before : List SequenceRecord) (last : SequenceRecord) → records_of s.records.limits bytes ≡ before ++ last ∷ [] → s.records.number ≡ 0 → ⊥
  has_number before last f none =
      (by_cut s.records.limits bytes k.done s.records.record.start k.given h.found (cut_whole s.records bytes h.found k s.framing) before last f).1
      (none_done s.records bytes h.found k s.framing none)

  pub has_none : records_of s.records.limits bytes ≡ [] → s.records.number ≡ 0
  has_none f =
      none_number s.records bytes h.found k s.framing
      (none_cut s.records.limits bytes k.done s.records.record.start k.given h.found (cut_whole s.records bytes h.found k s.framing) f)

  -- the linter has refused nothing
  pub not_refused : refusal_of s.records.record.linter ≡ None
  not_refused =
      (unrefused s.records.number s.records.is_void s.records.record.start (refusal_of s.records.record.linter) h.refused).1
