-- The sum of the longest run without a fault that a linter took.
use Rattle.std.proofs.Common.{◌≡◌, ◌↔◌, ℕ, Bool, not, IsTrue, IsSome, ◌+◌, ◌-◌, ◌≤◌, ◌<◌, ◌^◌, true, false, if◌then◌else◌, List, [], ◌∷◌, ◌++◌, length, take, drop, Option, Some, None, nat_le, refl, sym, ap, subst, ◌∙◌, arith, append_assoc, append-nil}
use Rattle.std.specs.List.{AllByRecursion}
use Rattle.std.specs.Option.{unwrap_or}
use Rattle.std.proofs.lemmas.Bool.Decides.{nat_tests}
use Rattle.std.proofs.lemmas.List.{length-append, length-take, take_all, take-append-drop, take-append-le}
use Rattle.std.proofs.Math.Seq.{take-append-add, take-append_seam}
use Rattle.gj_json.specs.declared.fault.JsonFault.{JsonFault}
use Rattle.gj_json.specs.declared.reader.Reader.{Reader}
use Rattle.gj_json.specs.Events.{all_events}
use Rattle.gj_json.specs.Internal.OpenLevels.{levels_in}
use Rattle.gj_json.specs.Internal.ReaderState.{StandsRefused}
use Rattle.gj_json.specs.Reader.{StandsFor as ReaderStandsFor}
use Rattle.gj_json.specs.Text.{IsText, IsTextWithin, IsViableWithin}
use Rattle.gj_json.specs.Tree.{Tree, element, Text}
use Rattle.gj_json.proofs.Machine.LongestPrefixes.{refused_longest}
use Rattle.gj_json.proofs.Readers.ReadBytes.{well_of}
use Rattle.gj_coords.specs.declared.fault.Rule.TheVariants.{G2}
use Rattle.gj_coords.specs.declared.fault.Fault.{Fault}
use Rattle.gj_coords.specs.Fault.{comes_first, fault_at, lesser}
use Rattle.gj_coords.specs.Internal.KeptWarnings.{warnings_of}
use Rattle.gj_coords.specs.Internal.WarningLaws.{joined_none_first}
use Rattle.gj_coords.specs.Items.{items}
use Rattle.gj_rules.specs.declared.feature.Feature.{Feature}
use Rattle.gj_rules.specs.declared.feature_linter.FeatureLinter.{FeatureLinter}
use Rattle.gj_rules.specs.FeatureFindings.{closing_of, least_found, complete_at, complete_in, end_of, features_of, finding_of, findings_by, findings_from}
use Rattle.gj_rules.specs.FeatureLinter.{StandsFor as LinterStandsFor, limits_of, offset_of, sink_of}
use Rattle.gj_rules.specs.FeaturesTold.{SayFindings, TellFindings}
use Rattle.gj_rules.proofs.Features.FeaturesInTime.{as_many}
use Rattle.gj_join.specs.Runs.{AreFindingsOf, IsLongestSum, IsRun, IsSumOf, spaces, stand_at}
use Rattle.gj_join.specs.Internal.Totals.{IsTotalOf, none_yet, with_feature, with_features}
use Rattle.gj_join.specs.declared.sum.FeatureSum.{FeatureSum}
use Rattle.gj_join.specs.declared.totals.Totals.{Totals}
use Rattle.gj_join.proofs.ClosedTexts.{closed_features, text_closing}
use Rattle.gj_join.proofs.ElementRuns.{Within, last_of}
use Rattle.gj_join.proofs.RunsRead.{run_read, stand_around, stand_length, stand_stands, stood}
use Rattle.gj_join.proofs.RunSums.{found_there, is_run, reads_one, run_to, stand_element, stand_ends}
use Rattle.gj_join.proofs.RunTotals.{Counted, bracket_complete, close_after, close_is, complete_all, complete_first, complete_sound, counted, fault_of, fewer}
use Rattle.gj_join.proofs.RunTotals.{Stops, is_none, sound_closes}
use Rattle.gj_join.proofs.SoundElements.{Sound, least_without, sound_trees, warned, warned_trees}
use Rattle.gj_join.proofs.ToldTexts.{SinkTells, told_text, well_read}
use Rattle.gj_join.proofs.WholeVerdicts.{found_in}

-- ---- what was taken

-- a reader takes what can become a text within the limits
took : (reader : Reader) (front back : List ℕ) → ReaderStandsFor reader (front ++ back) → IsViableWithin reader.limits.depth front
    → length front ≤ reader.limits.bytes → length front ≤ reader.offset
took reader front back h v room = go reader.fault refl
  where
    go : (o : Option JsonFault) → reader.fault ≡ o → length front ≤ reader.offset
    go None e = let w = well_of reader (front ++ back) e h in omega (arith, w.at, length-append front back)
    go (Some fault) e =
        let bytes = front ++ back in
        let r : StandsRefused reader.limits fault reader.mode (levels_in reader.levels) reader.start reader.offset bytes = rw e at h in
        let k = refused_longest reader.limits bytes fault.cause fault.place r.refusal in
        let l = k.longest (length front) (omega (arith, length-append front back)) room
        (subst (IsViableWithin reader.limits.depth) (sym (take-append_seam front back)) v) in
        omega (arith, r.place, l)

-- the shorter of two prefixes is one of the other
shorter : (xs us ys vs : List ℕ) → xs ++ us ≡ ys ++ vs → length xs ≤ length ys → (zs : List ℕ) × (ys ≡ xs ++ zs)
shorter [] us ys vs e l = (ys, refl)
shorter (x ∷ xs) us [] vs e l = absurd (omega arith)
shorter (x ∷ xs) us (y ∷ ys) vs e l =
    let i : x ≡ y = cc in
    let j : xs ++ us ≡ ys ++ vs = cc in
    let g = shorter xs us ys vs j (omega arith) in
    (g.0, ap (λ zs. y ∷ zs) g.1 ∙ ap (λ z. z ∷ (xs ++ g.0)) (sym i))

same_rest : {t v : Tree} {xs ys : List Tree} → t ∷ xs ≡ v ∷ ys → xs ≡ ys
same_rest e = cc

-- ---- the features of a text that begins with the stand

first_there : (begin : ℕ) (tail : List ℕ) (text : Text) → 15 ≤ begin → IsText text (stand_at begin ++ tail)
    → (vs : List Tree) × (features_of text.value ≡ stand_element begin ∷ vs)
first_there begin tail text room h =
    let g = text_closing false stand_around (stand_at begin) tail begin (stand_length begin room) (stand_stands begin) text h in
    let c = g.0 in (
      items c.more,
      ap (λ (x : Text). features_of x.value) g.1 ∙ closed_features stand_around (element (stand_element begin) c.more) c.close c.others c.end,
    )

stand_fault : (n : ℕ) → fault_of (stood n) ≡ Some (fault_at n G2)
stand_fault n = refl

-- the first feature is passed over
all_counted : (n : ℕ) (ws : List Tree) (totals : Totals) (features : List Feature) → IsTotalOf totals features
    → SayFindings features (finding_of 0 (stood n) ∷ findings_from 1 ws) → Counted none_yet ws totals
all_counted n ws totals [] e h = absurd h
all_counted n ws totals (first ∷ more) e h =
    let says = h.0 in
    let fault : first.fault ≡ Some (fault_at n G2) = says.4 ∙ stand_fault n in
    let same : with_feature none_yet first ≡ none_yet = rw (fault, says.0) refl in
    subst (Counted none_yet ws) (sym (e ∙ ap (λ t. with_features t more) same)) (counted 0 ws more none_yet refl refl h.1)

last_within : (n : ℕ) (t : Tree) (us others : List Tree) → end_of t ≤ n → Sound us → AllByRecursion (λ v. complete_at v ≤ n) (us ++ others)
    → end_of (last_of t us) ≤ n
last_within n t [] others l s a = l
last_within n t (u ∷ us) others l s a =
    last_within n u us others (let e = bracket_complete u (sound_closes u s.0) in omega (arith, a.0)) s.1 a.1

within_more : (m n : ℕ) (vs : List Tree) → m ≤ n → Within m vs → Within n vs
within_more m n [] l w = tt
within_more m n (v ∷ vs) l w = ((λ c. omega (arith, w.0 c)), within_more m n vs l w.1)

sound_found : (i : ℕ) (us : List Tree) → Sound us → AllByRecursion (λ finding. finding.fault ≡ None) (findings_from i us)
sound_found i [] s = tt
sound_found i (u ∷ us) s = (s.0, sound_found (i + 1) us s.1)

-- whether one of them has a fault
fault_among : (i : ℕ) (us others : List Tree) → Sound us → Stops others
    → IsTrue (not (is_none others)) ↔ IsSome (least_found (findings_from i (us ++ others)))
fault_among i us others s stop = rw (least_without i i [] us others s) (go others stop)
  where
    either : (t : Bool) (a b : Fault) → IsSome (if t then Some a else Some b)
    either true a b = refl
    either false a b = refl

    some : (a : Fault) (o : Option Fault) → IsSome (lesser (Some a) o)
    some a None = refl
    some a (Some b) = either (comes_first a b) a b

    first : (o : Option Fault) (p : Option Fault) → (o ≡ None → ⊥) → IsSome (lesser o p)
    first None p never = absurd (never refl)
    first (Some a) p never = some a p

    go : (ys : List Tree) → Stops ys → IsTrue (not (is_none ys)) ↔ IsSome (least_found (findings_from i ys))
    go [] never = ((λ h. cc), (λ h. cc))
    go (y ∷ ys) never = ((λ h. first (fault_of y) (least_found (findings_from (i + 1) ys)) never), (λ h. refl))

-- where the sum ends
abbrev pub EndsAs : Totals → ℕ → ℕ → Type 0
EndsAs totals begin end = (totals.features ≡ 0 → end ≡ begin) × (0 < totals.features → totals.close + 1 < 2 ^ 64 → end ≡ totals.close + 1)

-- ---- the sum

module _ (linter : FeatureLinter Totals) (begin : ℕ) (bytes : List ℕ) (room : 15 ≤ begin) (stood_there : begin ≤ offset_of linter)
    (stands : LinterStandsFor IsTotalOf linter (stand_at begin ++ bytes)) (tells_all : SinkTells IsTotalOf linter (stand_at begin ++ bytes)) where
  -- of a text that goes on so
  record Counts (n : ℕ) (text : Text) : Type 0 where
    vs : List Tree
    features : features_of text.value ≡ stand_element begin ∷ vs
    found : findings_by n text ≡ finding_of 0 (stand_element begin) ∷ findings_from 1 (complete_in n vs)
    counts : Counted none_yet (complete_in n vs) (sink_of linter)

  counts_of : (n : ℕ) (tail : List ℕ) (text : Text) → begin ≤ n → IsText text (stand_at begin ++ tail)
      → TellFindings (IsTotalOf (sink_of linter)) (findings_by n text) → Counts n text
  counts_of n tail text l h told =
      let f = first_there begin tail text room h in
      let t = stand_element begin in
      let there : nat_le (end_of t) n ≡ true = (let e = stand_ends begin room in grind (arith, nat_tests)) in
      let all : complete_in n (features_of text.value) ≡ t ∷ complete_in n f.0 = ap (complete_in n) f.1 ∙ rw there refl in
      record {
        vs = f.0;
        features = f.1;
        found = ap (findings_from 0) all;
        counts =
            all_counted (13 + length (spaces (begin - 15))) (complete_in n f.0) (sink_of linter) told.0 told.1
            (subst (λ vs. SayFindings told.0 (findings_from 0 vs)) all told.2);
      }

  record Taken : Type 0 where
    more : List ℕ
    back : List ℕ
    split : bytes ≡ more ++ back
    at : begin + length more ≡ offset_of linter
    within : offset_of linter ≤ (limits_of linter).bytes
    rest : List ℕ
    text : Text
    text_of : IsTextWithin (limits_of linter).depth text (stand_at begin ++ (more ++ rest))
    all : Counts (offset_of linter) text

  taken : Taken
  taken =
      let n = offset_of linter in
      let k = told_text IsTotalOf linter (stand_at begin ++ bytes) stands tells_all in
      let long = stand_length begin room in
      let m = n - begin in
      let more = take m bytes in
      let same : take n (stand_at begin ++ bytes) ≡ stand_at begin ++ more =
      ap (λ i. take i (stand_at begin ++ bytes)) (let e : n ≡ length (stand_at begin) + m = omega (arith, long) in e)
      ∙ take-append-add (stand_at begin) bytes m in
      let text_of : IsTextWithin (limits_of linter).depth k.text (stand_at begin ++ (more ++ k.rest)) =
      (subst (IsText k.text) (ap (λ xs. xs ++ k.rest) same ∙ append_assoc (stand_at begin) more k.rest) k.text_of.0, k.text_of.1) in
      record {
        more = more;
        back = drop m bytes;
        split = sym (take-append-drop m bytes);
        at = omega (arith, long, k.at, ap length same, length-append (stand_at begin) more);
        within = k.within;
        rest = k.rest;
        text = k.text;
        text_of = text_of;
        all = counts_of n (more ++ k.rest) k.text stood_there text_of.0 k.tells;
      }

  -- whether a feature with a fault has ended
  pub ended_is : (rest : List ℕ) (text : Text) → IsTextWithin (limits_of linter).depth text (stand_at begin ++ (bytes ++ rest))
      → begin + length bytes ≤ (limits_of linter).bytes → length (all_events text) < 2 ^ 63
      → (result : Bool) → result ≡ not (sink_of linter).is_sound → IsTrue result ↔ IsSome (least_found (drop 1 (findings_by (begin + length bytes) text)))
  unfolding LinterStandsFor
  ended_is rest text h fits few result e =
      let n = offset_of linter in
      let all = stand_at begin ++ bytes in
      let size : length all ≡ begin + length bytes = omega (arith, length-append (stand_at begin) bytes, stand_length begin room) in
      let t : IsText text (all ++ rest) = subst (IsText text) (sym (append_assoc (stand_at begin) bytes rest)) h.0 in
      let had : length all ≤ n =
      took linter.reader all [] (subst (ReaderStandsFor linter.reader) (sym (append-nil all)) stands.0) (rest, text, (t, h.1)) (omega (arith, size, fits)) in
      let whole : take n all ≡ all = take_all n all had in
      let at : n ≡ begin + length bytes = (well_read linter.reader all stands.0).at ∙ ap length whole ∙ size in
      let told = tells_all rest text (subst (IsText text) (ap (λ xs. xs ++ rest) (sym whole)) t, h.1) few in
      let k = counts_of n (bytes ++ rest) text stood_there h.0 told in
      let c = k.counts in
      let found : drop 1 (findings_by (begin + length bytes) text) ≡ findings_from 1 (c.us ++ c.others) =
      ap (λ m. drop 1 (findings_by m text)) (sym at) ∙ ap (drop 1) k.found ∙ ap (findings_from 1) c.split in
      let f : result ≡ not (is_none c.others) = e ∙ ap not c.sound_is in
      rw (found, f) (fault_among 1 c.us c.others c.sound c.stops)

  module _ (sum : FeatureSum) (begins : sum.begin ≡ begin) (features : sum.features ≡ (sink_of linter).features)
      (warnings : sum.warnings ≡ (sink_of linter).warnings) (ends : EndsAs (sink_of linter) begin sum.end) (short : (limits_of linter).bytes ≤ 2 ^ 60) where
    -- where the last of them ends
    end_is : (us : List Tree) → (sink_of linter).features ≡ 0 + length us → (sink_of linter).close ≡ close_after 0 us → Sound us
        → end_of (last_of (stand_element begin) us) ≤ offset_of linter → offset_of linter ≤ (limits_of linter).bytes
        → sum.end ≡ end_of (last_of (stand_element begin) us)
    end_is [] f c s l w = omega (arith, ends.0 (omega arith), stand_ends begin room)
    end_is (u ∷ us) f c s l w =
        let t = stand_element begin in
        let k : close_after 0 (u ∷ us) + 1 ≡ end_of (last_of u us) = (close_is t (u ∷ us) (unwrap_or (closing_of t) 0) refl refl s).0 in
        omega (arith, ends.1 (omega arith) (omega (arith, k)), k)

    pub longest_sum : IsLongestSum (limits_of linter) begin bytes sum
    unfolding LinterStandsFor
    longest_sum =
        let n = offset_of linter in
        let limits = limits_of linter in
        let t = stand_element begin in
        let k = taken in
        let c = k.all.counts in
        let vs = k.all.vs in
        let g = complete_first n vs in
        let later = c.others ++ g.0 in
        let split : vs ≡ c.us ++ later = g.1 ∙ ap (λ xs. xs ++ g.0) c.split ∙ append_assoc c.us c.others g.0 in
        let are : features_of k.text.value ≡ t ∷ (c.us ++ later) = k.all.features ∙ ap (λ xs. t ∷ xs) split in
        let last : end_of (last_of t c.us) ≤ n =
        last_within n t c.us c.others (omega (arith, stand_ends begin room)) c.sound
        (subst (λ xs. AllByRecursion (λ v. complete_at v ≤ n) xs) c.split (complete_all n vs)) in
        let end : sum.end ≡ end_of (last_of t c.us) = end_is c.us c.features c.close c.sound last k.within in
        let closes = (close_is t c.us (unwrap_or (closing_of t) 0) refl refl c.sound).1 in
        let r = run_to begin (k.more ++ k.rest) k.text c.us later room k.text_of.0 are closes in
        let runs : IsRun limits.depth begin r.run = is_run limits.depth begin (k.more ++ k.rest) k.text c.us later room k.text_of are closes r in
        let found = findings_from 1 c.us in
        let long : length (k.more) + begin ≡ n = omega (arith, k.at) in
        let size : sum.end - begin ≡ length r.run = omega (arith, end, r.ends) in
        let few : length r.run ≤ length k.more = omega (arith, r.ends, last, long) in
        let run_is : take (sum.end - begin) bytes ≡ r.run =
        ap (λ m. take m bytes) size ∙ ap (take (length r.run)) k.split ∙ take-append-le (length r.run) k.more k.back few
        ∙ sym (take-append-le (length r.run) k.more k.rest few) ∙ ap (take (length r.run)) r.joined ∙ take-append_seam r.run r.back in
        let is_sum : IsSumOf limits.depth r.run sum = record {
          is_run = subst (λ b. IsRun limits.depth b r.run) (sym begins) runs;
          end = omega (arith, end, r.ends, begins);
          found = found;
          findings = subst (λ b. AreFindingsOf b r.run found) (sym begins) (found_there begin r.run c.us room r.reads);
          features = features ∙ c.features ∙ (let l : 0 + length c.us ≡ length found = omega (arith, as_many 1 c.us) in l);
          sound = sound_found 1 c.us c.sound;
          warnings =
              warnings ∙ c.warned_are ∙ joined_none_first (warnings_of (warned c.us)) ∙ ap warnings_of (sym (warned_trees 1 c.us));
        } in
        record {
          begins = begins;
          within = omega (arith, end, last, long, ap length k.split, length-append k.more k.back);
          is_sum = subst (λ xs. IsSumOf limits.depth xs sum) (sym run_is) is_sum;
          longest = λ m other fits other_begins o.
              (let run = take m bytes in
              let runs : IsRun limits.depth begin run = subst (λ b. IsRun limits.depth b run) other_begins o.is_run in
              let whole : (stand_at begin ++ run) ++ drop m bytes ≡ stand_at begin ++ bytes =
              append_assoc (stand_at begin) run (drop m bytes) ∙ ap (λ xs. stand_at begin ++ xs) (take-append-drop m bytes) in
              let size : length (stand_at begin ++ run) ≡ begin + length run = omega (arith, length-append (stand_at begin) run, stand_length begin room) in
              let limit : length run ≤ m = omega (arith, length-take m bytes) in
              let had : length (stand_at begin ++ run) ≤ n =
              took linter.reader (stand_at begin ++ run) (drop m bytes) (subst (ReaderStandsFor linter.reader) (sym whole) stands.0) runs.ends.viable
              (omega (arith, size, limit, fits)) in
              let z = shorter run (drop m bytes) k.more k.back (take-append-drop m bytes ∙ k.split) (omega (arith, had, size, long)) in
              let tail : k.more ++ k.rest ≡ run ++ (z.0 ++ k.rest) = ap (λ xs. xs ++ k.rest) z.1 ∙ append_assoc run z.0 k.rest in
              let text_of : IsText k.text (stand_at begin ++ (run ++ (z.0 ++ k.rest))) = subst (λ xs. IsText k.text (stand_at begin ++ xs)) tail k.text_of.0 in
              let ended = runs.ends.ends (z.0 ++ k.rest) k.text (subst (IsText k.text) (sym (append_assoc (stand_at begin) run (z.0 ++ k.rest))) text_of) in
              let r2 = run_read begin run (z.0 ++ k.rest) k.text room text_of ended in
              let f = found_in limits.depth begin run o.found runs (subst (λ b. AreFindingsOf b run o.found) other_begins o.findings) in
              let same : f.trees ≡ r2.found = reads_one begin run f.trees r2.found f.reads r2.reads in
              let sound : Sound r2.found =
              subst Sound same (sound_trees 1 f.trees (subst (λ fs. AllByRecursion (λ finding. finding.fault ≡ None) fs) f.are o.sound)) in
              let same_vs : vs ≡ r2.found ++ items r2.later = same_rest (sym k.all.features ∙ r2.split) in
              let early : Within n r2.found = within_more (begin + length run) n r2.found (omega (arith, had, size)) r2.within in
              let complete : r2.found ++ complete_in n (items r2.later) ≡ c.us ++ c.others =
              sym (complete_sound n r2.found (items r2.later) sound early) ∙ ap (complete_in n) (sym same_vs) ∙ c.split in
              let fewer_there = fewer r2.found (complete_in n (items r2.later)) c.us c.others complete sound c.stops in
              omega (arith, o.features, ap length f.are, as_many 1 f.trees, ap length same, fewer_there, features, c.features));
        }
