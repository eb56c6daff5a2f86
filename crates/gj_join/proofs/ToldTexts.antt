-- What was reported to the sink of a linter, as one text has it.
use Rattle.std.proofs.Common.{◌≡◌, ℕ, ◌<◌, ◌≤◌, ◌^◌, List, [], ◌++◌, length, take, Option, Some, None, refl, sym, ap, subst, ◌∙◌, arith}
use Rattle.std.proofs.lemmas.List.{append-nil, length-append}
use Rattle.std.proofs.Math.Seq.{take-append_seam}
use Rattle.gj_json.specs.declared.fault.JsonFault.{JsonFault}
use Rattle.gj_json.specs.declared.reader.Reader.{Reader}
use Rattle.gj_json.specs.Events.{all_events}
use Rattle.gj_json.specs.Internal.OpenLevels.{levels_in}
use Rattle.gj_json.specs.Internal.ReaderState.{StandsWell, StandsRefused}
use Rattle.gj_json.specs.Reader.{StandsFor as ReaderStandsFor}
use Rattle.gj_json.specs.Text.{IsTextWithin}
use Rattle.gj_json.specs.Tree.{Text}
use Rattle.gj_json.proofs.Events.EventCount
use Rattle.gj_json.proofs.Readers.ReadBytes.{well_of}
use Rattle.gj_rules.specs.declared.feature.Feature.{Feature}
use Rattle.gj_rules.specs.declared.feature_linter.FeatureLinter.{FeatureLinter}
use Rattle.gj_rules.specs.FeatureFindings.{findings_by}
use Rattle.gj_rules.specs.FeatureLinter.{StandsFor, limits_of, offset_of, sink_of}
use Rattle.gj_rules.specs.FeaturesTold.{TellFindings}
use Rattle.gj_join.proofs.ShortEndings.{short_text}

-- the bytes that a reader took
abbrev WellRead : Reader → List ℕ → Type 0
WellRead reader taken = StandsWell reader.limits reader.mode (levels_in reader.levels) reader.start reader.offset taken

pub well_read : (reader : Reader) (bytes : List ℕ) → ReaderStandsFor reader bytes → WellRead reader (take reader.offset bytes)
well_read reader bytes h = go reader.fault refl
  where
    all : (taken rest : List ℕ) → bytes ≡ taken ++ rest → WellRead reader taken → WellRead reader (take reader.offset bytes)
    all taken rest e w = subst (WellRead reader) (sym (ap (λ n. take n bytes) w.at ∙ ap (take (length taken)) e ∙ take-append_seam taken rest)) w

    go : (o : Option JsonFault) → reader.fault ≡ o → WellRead reader (take reader.offset bytes)
    go None e = let w = well_of reader bytes e h in all bytes [] (sym (append-nil bytes)) w
    go (Some fault) e =
        let r : StandsRefused reader.limits fault reader.mode (levels_in reader.levels) reader.start reader.offset bytes = rw e at h in
        all r.taken r.rest r.split r.well

-- what the sink says of each text that goes on from there
abbrev pub SinkTells : {S : Type 0} → (S → List Feature → Type 0) → FeatureLinter S → List ℕ → Type 0
SinkTells Told linter bytes =
    (rest : List ℕ) (text : Text) → IsTextWithin (limits_of linter).depth text (take (offset_of linter) bytes ++ rest)
    → length (all_events text) < 2 ^ 63 → TellFindings (Told (sink_of linter)) (findings_by (offset_of linter) text)

-- by the value of the sink that a call returned
pub sink_tells : {S : Type 0} (Told : S → List Feature → Type 0) (linter : FeatureLinter S) (bytes : List ℕ) (sink : S) → sink ≡ sink_of linter
    → ((rest : List ℕ) (text : Text) → StandsFor Told linter bytes → IsTextWithin (limits_of linter).depth text (take (offset_of linter) bytes ++ rest)
    → length (all_events text) < 2 ^ 63 → TellFindings (Told sink) (findings_by (offset_of linter) text))
    → StandsFor Told linter bytes → SinkTells Told linter bytes
sink_tells Told linter bytes sink e told h rest text t few =
    subst (λ s. TellFindings (Told s) (findings_by (offset_of linter) text)) e (told rest text h t few)

-- and of one of them, which there is
pub record ToldText {S : Type 0} (Told : S → List Feature → Type 0) (linter : FeatureLinter S) (bytes : List ℕ) : Type 0 where
  pub at : offset_of linter ≡ length (take (offset_of linter) bytes)
  pub within : offset_of linter ≤ (limits_of linter).bytes
  pub rest : List ℕ
  pub text : Text
  pub text_of : IsTextWithin (limits_of linter).depth text (take (offset_of linter) bytes ++ rest)
  pub tells : TellFindings (Told (sink_of linter)) (findings_by (offset_of linter) text)

pub told_text : {S : Type 0} (Told : S → List Feature → Type 0) (linter : FeatureLinter S) (bytes : List ℕ) → StandsFor Told linter bytes
    → SinkTells Told linter bytes → ToldText Told linter bytes
unfolding StandsFor
told_text Told linter bytes h tells =
    let taken = take (offset_of linter) bytes in
    let reader = linter.reader in
    let w = well_read reader bytes h.0 in
    let k = short_text reader.limits reader.mode (levels_in reader.levels) reader.start reader.offset taken w in
    let few : length (all_events k.text) ≤ length (taken ++ k.rest) = EventCount.text_few k.text (taken ++ k.rest) k.text_of.0 in
    record {
      at = w.at;
      within = w.within;
      rest = k.rest;
      text = k.text;
      text_of = k.text_of;
      tells = tells k.rest k.text k.text_of (omega (arith, few, length-append taken k.rest, w.at, w.within, k.few, linter.short, linter.shallow));
    }
