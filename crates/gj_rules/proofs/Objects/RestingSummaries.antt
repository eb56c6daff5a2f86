-- Where no value that a summary takes is due.
use Rattle.gj_rules.proofs.Common.{Coordinates, Core, Done, Due, Findings, Frame, FramedRules, Geometry, Holds, HoldsIn, List, Mode, Names}
use Rattle.gj_rules.proofs.Common.{Properties, Role, RootDue, TypeName, What, Word, arith, core_of, core_step, false, is_feeding, names_step, refl}
use Rattle.gj_rules.proofs.Common.{suc, top_of, zero, [], ◌<◌}
use Rattle.std.proofs.Common.{◌≡◌, ℕ}
use Rattle.gj_json.specs.declared.names.Known.TheVariants.{Bbox}
use Rattle.gj_coords.specs.declared.coordinates.Coordinates as C
use Rattle.gj_coords.specs.declared.bbox.Bbox as B
use Rattle.gj_rules.specs.declared.mode.Mode.TheVariants.{Elements}
use Rattle.gj_rules.specs.Internal.EventSteps.{pushed, begun, due_step, skip}

holds : (k : ℕ) (m : Mode) (c : C.Coordinates) (b : B.Bbox) → is_feeding 0 m ≡ false → HoldsIn k m c b []
holds (suc k) m c b e = tt
holds zero RootDue c b e = tt
holds zero Names c b e = tt
holds zero (Due Coordinates) c b e = cc
holds zero (Due Bbox) c b e = cc
holds zero other c b e = tt

pub rests : {frames : ℕ} (rules : FramedRules frames) → is_feeding 0 rules.mode ≡ false → Holds rules []
rests rules e = holds rules.skipped rules.mode rules.coordinates rules.bbox e

skip_at : (k : ℕ) (what : What) (place : ℕ) (m : Mode) (f : Frame) (o : List Frame) (a : Findings) (s : Core)
    → s ≡ record { skipped = k; mode = m; top = f; outer = o; answer = a } → 0 < k
    → record s { skipped = skip what k } ≡ core_step (record { place = place; what = what }) s
skip_at zero what place m f o a s e h = absurd (omega arith)
skip_at (suc k) what place m f o a s e h = rw e refl

pub skips : {frames : ℕ} (rules : FramedRules frames) (what : What) (place : ℕ) → 0 < rules.skipped
    → record (core_of rules) { skipped = skip what rules.skipped } ≡ core_step (record { place = place; what = what }) (core_of rules)
skips rules what place h = skip_at rules.skipped what place rules.mode (top_of rules) (core_of rules).outer (core_of rules).answer (core_of rules) refl h

-- where a name or the end of an object is due
named_at : (k : ℕ) (m : Mode) (what : What) (place : ℕ) (f : Frame) (o : List Frame) (a : Findings) (s : Core)
    → s ≡ record { skipped = k; mode = m; top = f; outer = o; answer = a } → k ≡ 0 → m ≡ Names
    → names_step what place s ≡ core_step (record { place = place; what = what }) s
named_at k m what place f o a s e p q = rw (e, p, q) refl

pub names : {frames : ℕ} (rules : FramedRules frames) (what : What) (place : ℕ) → rules.skipped ≡ 0 → rules.mode ≡ Names
    → names_step what place (core_of rules) ≡ core_step (record { place = place; what = what }) (core_of rules)
names rules what place p q =
    named_at rules.skipped rules.mode what place (top_of rules) (core_of rules).outer (core_of rules).answer (core_of rules) refl p q

-- where a geometry or a feature may open
geometry_at : (k : ℕ) (m : Mode) (place : ℕ) (f : Frame) (o : List Frame) (a : Findings) (s : Core)
    → s ≡ record { skipped = k; mode = m; top = f; outer = o; answer = a } → k ≡ 0 → m ≡ Due Geometry
    → pushed Role.Geometry place s ≡ core_step (record { place = place; what = What.OpenObject }) s
geometry_at k m place f o a s e p q = rw (e, p, q) refl

pub opens_geometry : {frames : ℕ} (rules : FramedRules frames) (place : ℕ) → rules.skipped ≡ 0 → rules.mode ≡ Due Geometry
    → pushed Role.Geometry place (core_of rules) ≡ core_step (record { place = place; what = What.OpenObject }) (core_of rules)
opens_geometry rules place p q =
    geometry_at rules.skipped rules.mode place (top_of rules) (core_of rules).outer (core_of rules).answer (core_of rules) refl p q

feature_at : (k : ℕ) (m : Mode) (place : ℕ) (f : Frame) (o : List Frame) (a : Findings) (s : Core)
    → s ≡ record { skipped = k; mode = m; top = f; outer = o; answer = a } → k ≡ 0 → m ≡ Elements Role.Feature
    → pushed Role.Feature place s ≡ core_step (record { place = place; what = What.OpenObject }) s
feature_at k m place f o a s e p q = rw (e, p, q) refl

pub opens_feature : {frames : ℕ} (rules : FramedRules frames) (place : ℕ) → rules.skipped ≡ 0 → rules.mode ≡ Elements Role.Feature
    → pushed Role.Feature place (core_of rules) ≡ core_step (record { place = place; what = What.OpenObject }) (core_of rules)
opens_feature rules place p q =
    feature_at rules.skipped rules.mode place (top_of rules) (core_of rules).outer (core_of rules).answer (core_of rules) refl p q

-- where an object of properties may open
properties_at : (k : ℕ) (m : Mode) (place : ℕ) (f : Frame) (o : List Frame) (a : Findings) (s : Core)
    → s ≡ record { skipped = k; mode = m; top = f; outer = o; answer = a } → k ≡ 0 → m ≡ Due Properties
    → begun Properties What.OpenObject place s ≡ core_step (record { place = place; what = What.OpenObject }) s
properties_at k m place f o a s e p q = rw (e, p, q) refl

pub opens_properties : {frames : ℕ} (rules : FramedRules frames) (place : ℕ) → rules.skipped ≡ 0 → rules.mode ≡ Due Properties
    → begun Properties What.OpenObject place (core_of rules) ≡ core_step (record { place = place; what = What.OpenObject }) (core_of rules)
opens_properties rules place p q =
    properties_at rules.skipped rules.mode place (top_of rules) (core_of rules).outer (core_of rules).answer (core_of rules) refl p q

-- where the value of a type is due
type_at : (k : ℕ) (m : Mode) (word : Word) (place : ℕ) (f : Frame) (o : List Frame) (a : Findings) (s : Core)
    → s ≡ record { skipped = k; mode = m; top = f; outer = o; answer = a } → k ≡ 0 → m ≡ Due TypeName
    → due_step TypeName (What.Text word) place s ≡ core_step (record { place = place; what = What.Text word }) s
type_at k m word place f o a s e p q = rw (e, p, q) refl

pub types : {frames : ℕ} (rules : FramedRules frames) (word : Word) (place : ℕ) → rules.skipped ≡ 0 → rules.mode ≡ Due TypeName
    → due_step TypeName (What.Text word) place (core_of rules) ≡ core_step (record { place = place; what = What.Text word }) (core_of rules)
types rules word place p q =
    type_at rules.skipped rules.mode word place (top_of rules) (core_of rules).outer (core_of rules).answer (core_of rules) refl p q
