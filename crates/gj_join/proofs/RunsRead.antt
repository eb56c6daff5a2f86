-- Spaces and runs of features, read after a feature.
use Rattle.std.proofs.Common.{◌≡◌, ◌↔◌, ℕ, zero, suc, ◌+◌, ◌-◌, ◌≤◌, inl, inr, Bool, true, false, List, [], ◌∷◌, ◌++◌, length, Some, refl, sym, ap, subst, ◌∙◌, arith, append_assoc, codes}
use Rattle.std.proofs.lemmas.List.{append_cancel_left, length-append, length-replicate}
use Rattle.std.specs.List.{AllByRecursion}
use Rattle.gj_json.specs.Broken.{Partial, Frame, back_elements, begun, text_due, in_array, in_object, value_done, array_opened, object_opened}
use Rattle.gj_json.specs.Bytes.{space, IsWhite}
use Rattle.gj_json.specs.declared.class.Class.TheVariants.{White as white_class}
use Rattle.gj_json.specs.declared.fault.JsonFault.{JsonFault}
use Rattle.gj_json.specs.declared.names.Known.TheVariants.{Features}
use Rattle.gj_json.specs.Grammar.{Then, White, SpellsMoreElements}
use Rattle.gj_json.specs.Internal.ByteClasses.{class_of}
use Rattle.gj_json.specs.Internal.ReaderState.{FitsLeaf}
use Rattle.gj_json.specs.Internal.TextMachine.{run, run_from, plain_step}
use Rattle.gj_json.specs.Limits.{Allowed}
use Rattle.gj_json.specs.Names.{known_of}
use Rattle.gj_json.specs.Refusal.{IsRefusal}
use Rattle.gj_json.specs.Text.{IsText, IsViableWithin}
use Rattle.gj_json.specs.Tree.{Tree, object, Elements, element, end_of_array, end_of_object, Text, depth}
use Rattle.gj_json.proofs.Grammar.ClassOfBytes.{class_is}
use Rattle.gj_json.proofs.Grammar.SpelledForms
use Rattle.gj_json.proofs.Machine.ValuePaths.{Leads, at, leads_none, leads_byte, leads_on, run_from-append, white_leads, array_white, over_steps}
use Rattle.gj_json.proofs.Readers.ReadBytes.{well_viable}
use Rattle.gj_coords.specs.Items.{items}
use Rattle.gj_rules.specs.FeatureFindings.{feature_findings, features_of, findings_from}
use Rattle.gj_rules.specs.Members.{same}
use Rattle.gj_join.specs.Runs.{OneEnds, StandsAfterFeature, IsRun, spaces, stand_at}
use Rattle.gj_join.proofs.ClosedTexts.{back_items, closed_features, text_closing, fits, within_alike}
use Rattle.gj_join.proofs.ElementRuns.{ItEnds, OneOf, Within, and_more_items, done_after, last_of, chain}
use Rattle.gj_join.proofs.EqualPrefixes.{refused_alike}
use Rattle.gj_join.proofs.FeatureStates.{Stands, one_of, same_front, feature_stands}
use Rattle.gj_join.proofs.ReachedFeatures.{Around, open_in, after_feature}

-- ---- bytes that lead from one element to another

-- these elements are found in them
pub record Reads (n : ℕ) (bytes : List ℕ) (found : List Tree) : Type 0 where
  pub leads : (stack : List Frame) (place : ℕ) (done : List Tree) (t : Tree)
      → Leads (at (in_array place done ∷ stack) (value_done t)) n bytes (at (in_array place (done_after done t found) ∷ stack) (value_done (last_of t found)))

abbrev pub read_on : {marked : Bool} {a : Around} {before bytes : List ℕ} {found : List Tree} → Stands marked a before → Reads (length before) bytes found
    → Stands marked a (before ++ bytes)
read_on {marked} {a} {before} {bytes} {found} s r = record {
  done = done_after s.done s.value found;
  value = last_of s.value found;
  is = run_from-append before bytes (Some text_due) 0 ∙ ap (λ o. run_from o (0 + length before) bytes) s.is
      ∙ subst (λ m. run_from (Some (begun marked (after_feature a s.done s.value))) m bytes
      ≡ Some (begun marked (after_feature a (done_after s.done s.value found) (last_of s.value found)))) (omega arith) ((r.leads _ a.place s.done s.value).goes marked);
}

pub all_white : (n : ℕ) → AllByRecursion IsWhite (spaces n)
all_white zero = tt
all_white (suc n) = (inl refl, all_white n)

pub spaces_read : (n k : ℕ) → Reads n (spaces k) []
spaces_read n k = record {
  leads = λ stack place done t.
      (let s = at (in_array place done ∷ stack) (value_done t) in
      white_leads s (λ m b w. over_steps (in_array place done ∷ stack) t m (value_done t) b white_class s (inl refl) (class_is white_class b w (λ e. cc)) refl)
      (spaces k) n (all_white k));
}

-- ---- the stand

pub is_named : same Features (known_of (codes "features")) ≡ true
unfolding known_of
is_named = refl

abbrev pub stand_around : Around
stand_around = record {
  place = 12;
  root = 0;
  members = [];
  name_place = 1;
  name = codes "features";
  name_end = 11;
  named = is_named;
  fresh = tt;
}

abbrev pub opening : List ℕ
opening = codes "{\"features\":["

abbrev pub opened : Partial
opened = at (in_object 0 [] 1 (codes "features") 11 ∷ []) (array_opened 12)

pub opens : run opening ≡ Some (begun false opened)
unfolding class_of plain_step
opens = refl

abbrev pub stood : ℕ → Tree
stood n = object n end_of_object (n + 1)

pub empty_object : (n : ℕ) → Leads opened n (codes "{}") (after_feature stand_around [] (stood n))
unfolding class_of
empty_object n =
    leads_byte {t = at (open_in stand_around []) (object_opened n)} refl
    (leads_byte {t = after_feature stand_around [] (stood n)} refl (leads_none (after_feature stand_around [] (stood n)) (n + 1 + 1)))

abbrev pub stand_stands : (begin : ℕ) → Stands false stand_around (stand_at begin)
stand_stands begin =
    let white = spaces (begin - 15) in
    let n = 13 + length white in
    let rest = white ++ codes "{}" in
    let l : Leads opened 13 rest (after_feature stand_around [] (stood n)) =
    leads_on white (codes "{}") refl
    (white_leads opened (array_white (in_object 0 [] 1 (codes "features") 11 ∷ []) 12) white 13 (all_white (begin - 15))) (empty_object n) in
    record {
      done = [];
      value = stood n;
      is = run_from-append opening rest (Some text_due) 0 ∙ ap (λ o. run_from o 13 rest) opens ∙ l.goes false;
    }

pub stand_length : (begin : ℕ) → 15 ≤ begin → length (stand_at begin) ≡ begin
stand_length begin room = omega (arith, length-append (spaces (begin - 15)) (codes "{}"), length-replicate (begin - 15) space)

-- ---- a run

none_long : (xs : List ℕ) → length xs ≡ 0 → xs ≡ []
none_long [] e = refl
none_long (x ∷ xs) e = cc

-- in a text that begins with the stand and the run
pub record RunRead (begin : ℕ) (more rest : List ℕ) (text : Text) : Type 0 where
  pub found : List Tree
  pub reads : Reads begin more found
  pub ended : (t : Tree) → ItEnds begin t → ItEnds (begin + length more) (last_of t found)
  pub within : Within (begin + length more) found
  pub later : Elements
  pub split : features_of text.value ≡ stood (13 + length (spaces (begin - 15))) ∷ (found ++ items later)
  pub close : ℕ
  pub end : ℕ
  pub back : List ℕ
  pub last : List ℕ
  pub joined : rest ≡ back ++ last
  pub after : Then White (SpellsMoreElements later close) end back

pub run_read : (begin : ℕ) (more rest : List ℕ) (text : Text) → 15 ≤ begin → IsText text (stand_at begin ++ (more ++ rest))
    → OneEnds (length (stand_at begin ++ more)) (feature_findings text) → RunRead begin more rest text
run_read begin more rest text room h ends =
    let end = length (stand_at begin ++ more) in
    let l = stand_length begin room in
    let n = 13 + length (spaces (begin - 15)) in
    let m : end ≡ begin + length more = omega (arith, length-append (stand_at begin) more) in
    let g = text_closing false stand_around (stand_at begin) (more ++ rest) begin l (stand_stands begin) text h in
    let c = g.0 in
    let f : features_of text.value ≡ stood n ∷ items c.more =
    ap (λ (x : Text). features_of x.value) g.1 ∙ closed_features stand_around (element (stood n) c.more) c.close c.others c.end in
    let one : OneOf end (stood n ∷ items c.more) = subst (OneOf end) f (one_of end 0 (features_of text.value) ends) in
    let w = SpelledForms.then_right c.spelled in
    elim one [
      | inl i ↦ (let k : more ≡ [] = none_long more (omega (arith, i.1, length-replicate (begin - 15) space)) in
          let none : Reads begin [] [] = record { leads = λ stack place done t. leads_none (at (in_array place done ∷ stack) (value_done t)) begin } in
          record {
            found = [];
            reads = subst (λ xs. Reads begin xs []) (sym k) none;
            ended = λ t e. (e.0, (let j : length more ≡ 0 = ap length k in omega (arith, e.1, j)));
            within = tt;
            later = c.more;
            split = f;
            close = c.close;
            end = begin;
            back = w.first;
            last = w.rest;
            joined = ap (λ xs. xs ++ rest) (sym k) ∙ w.joined;
            after = w.before;
          })
      | inr later ↦ (let r = chain end c.more c.close begin w.first w.before later in
          let j : more ++ rest ≡ r.front ++ (r.back ++ w.rest) = w.joined ∙ ap (λ xs. xs ++ w.rest) r.joined ∙ append_assoc r.front r.back w.rest in
          let k : more ≡ r.front = same_front more rest r.front (r.back ++ w.rest) j (omega (arith, m, r.ends)) in
          let all : Reads begin r.front r.found = record { leads = λ stack place done t. r.leads stack place done t (value_done t) (inl refl) } in
          record {
            found = r.found;
            reads = subst (λ xs. Reads begin xs r.found) (sym k) all;
            ended = λ t e. ((r.last t).0, (r.last t).1 ∙ m);
            within = subst (λ k. Within k r.found) m r.within;
            later = r.later;
            split = f ∙ ap (λ es. stood n ∷ items es) r.split ∙ ap (λ vs. stood n ∷ vs) (and_more_items r.found r.later);
            close = c.close;
            end = end;
            back = r.back;
            last = w.rest;
            joined = append_cancel_left more rest (r.back ++ w.rest) (j ∙ ap (λ xs. xs ++ (r.back ++ w.rest)) (sym k));
            after = r.after;
          })
    ]

-- ---- how deep the elements nest

abbrev Shallow : ℕ → List Tree → Type 0
Shallow d ts = AllByRecursion (λ t. depth t + 2 ≤ d) ts

apart : (d : ℕ) (done : List Tree) (t : Tree) (found : List Tree) → depth (last_of t found) + 2 ≤ d → Shallow d (done_after done t found)
    → Shallow d (t ∷ done) × Shallow d found
apart d done t [] l h = ((l, h), tt)
apart d done t (v ∷ vs) l h = let g = apart d (t ∷ done) v vs l h in (g.0.1, (g.0.0, g.1))

joined : (d : ℕ) (done : List Tree) (t : Tree) (found : List Tree) → Shallow d (t ∷ done) → Shallow d found
    → (depth (last_of t found) + 2 ≤ d) × Shallow d (done_after done t found)
joined d done t [] h k = h
joined d done t (v ∷ vs) h k = joined d (t ∷ done) v vs (k.0, h) k.1

read_fits : (d : ℕ) (a b : Around) (done other : List Tree) (t u : Tree) (found : List Tree) → FitsLeaf d (open_in a done) (value_done t)
    → FitsLeaf d (open_in b (done_after other u found)) (value_done (last_of u found))
    → FitsLeaf d (open_in a (done_after done t found)) (value_done (last_of t found))
read_fits d a b done other t u found f k =
    let g = joined d done t found (f.0, f.1.1) (apart d other u found k.0 k.1.1).1 in
    (g.0, (f.1.0, g.1, f.1.2))

-- ---- spaces in the place of a run

pub record Both (d : ℕ) (before more : List ℕ) (found : List Tree) : Type 0 where
  pub marked : Bool
  pub around : Around
  pub stands : Stands marked around before
  pub last : ItEnds (length before) stands.value
  pub reads : Reads (length before) more found
  pub white_viable : IsViableWithin d (before ++ spaces (length more))
  pub run_viable : IsViableWithin d (before ++ more)
  pub same : length (before ++ spaces (length more)) ≡ length (before ++ more)

abbrev pub white_of : {d : ℕ} {before more : List ℕ} {found : List Tree} → (k : Both d before more found)
    → Stands k.marked k.around (before ++ spaces (length more))
white_of {before = before} {more} k = read_on k.stands (spaces_read (length before) (length more))

abbrev pub run_of : {d : ℕ} {before more : List ℕ} {found : List Tree} → (k : Both d before more found) → Stands k.marked k.around (before ++ more)
run_of k = read_on k.stands k.reads

pub both : (d : ℕ) (before more : List ℕ) (found : List Tree) → StandsAfterFeature d before → IsRun d (length before) more → Reads (length before) more found
    → Both d before more found
both d before more found b r reads =
    let n = length before in
    let h = feature_stands d before b in
    let s = h.stands in
    let f = fits h.marked h.around d before s b.viable in
    let of_stand : Reads (length (stand_at n)) more found = subst (λ m. Reads m more found) (sym (stand_length n r.room)) reads in
    let k = fits false stand_around d (stand_at n ++ more) (read_on (stand_stands n) of_stand) r.ends.viable in
    record {
      marked = h.marked;
      around = h.around;
      stands = s;
      last = h.last;
      reads = reads;
      white_viable = well_viable d (before ++ spaces (length more)) (begun h.marked (after_feature h.around s.done s.value))
          (read_on s (spaces_read n (length more))).is f;
      run_viable = well_viable d (before ++ more) (begun h.marked (after_feature h.around (done_after s.done s.value found) (last_of s.value found)))
          (read_on s reads).is (read_fits d h.around stand_around s.done [] s.value (stood (13 + length (spaces (n - 15)))) found f k);
      same = omega (arith, length-append before (spaces (length more)), length-append before more, length-replicate (length more) space);
    }

-- as the run is read in some text
pub record SomeRead (begin : ℕ) (more : List ℕ) : Type 0 where
  pub found : List Tree
  pub reads : Reads begin more found
  pub ended : (t : Tree) → ItEnds begin t → ItEnds (begin + length more) (last_of t found)

pub some_read : (d begin : ℕ) (more : List ℕ) → IsRun d begin more → SomeRead begin more
some_read d begin more r =
    let v = r.ends.viable in
    let t : IsText v.1 (stand_at begin ++ (more ++ v.0)) = rw (append_assoc (stand_at begin) more v.0) at v.2.0 in
    let g = run_read begin more v.0 v.1 r.room t (r.ends.ends v.0 v.1 v.2.0) in
    record { found = g.found; reads = g.reads; ended = g.ended }

pub as_viable : (d : ℕ) (before more after : List ℕ) → StandsAfterFeature d before → IsRun d (length before) more
    → IsViableWithin d (before ++ (spaces (length more) ++ after)) ↔ IsViableWithin d (before ++ (more ++ after))
as_viable d before more after b r =
    let white = spaces (length more) in
    let g = some_read d (length before) more r in
    let k = both d before more g.found b r g.reads in
    let e = append_assoc before white after in
    let f = append_assoc before more after in (
      λ v. subst (IsViableWithin d) f
          (within_alike k.marked k.around d (before ++ white) (before ++ more) after (white_of k) (run_of k) k.same k.run_viable
          (subst (IsViableWithin d) (sym e) v)),
      λ v. subst (IsViableWithin d) e
          (within_alike k.marked k.around d (before ++ more) (before ++ white) after (run_of k) (white_of k) (sym k.same) k.white_viable
          (subst (IsViableWithin d) (sym f) v)),
    )

pub as_refused : (limits : Allowed) (before more after : List ℕ) (fault : JsonFault) → StandsAfterFeature limits.depth before
    → IsRun limits.depth (length before) more → length (before ++ more) ≤ limits.bytes
    → IsRefusal limits (before ++ (spaces (length more) ++ after)) fault → IsRefusal limits (before ++ (more ++ after)) fault
as_refused limits before more after fault b r room x =
    let white = spaces (length more) in
    let g = some_read limits.depth (length before) more r in
    let k = both limits.depth before more g.found b r g.reads in
    subst (λ xs. IsRefusal limits xs fault) (append_assoc before more after)
    (refused_alike k.marked k.around limits (before ++ white) (before ++ more) after (white_of k) (run_of k) k.white_viable k.run_viable k.same
    fault.cause fault.place (omega (arith, room, k.same)) (subst (λ xs. IsRefusal limits xs fault) (sym (append_assoc before white after)) x))

-- ---- another run

one_among : (place : ℕ) (xs : List Tree) (v : Tree) (ys : List Tree) → ItEnds place v → OneOf place (xs ++ v ∷ ys)
one_among place [] v ys i = inl i
one_among place (x ∷ xs) v ys i = inr (one_among place xs v ys i)

pub one_ends : (place i : ℕ) (vs : List Tree) → OneOf place vs → OneEnds place (findings_from i vs)
one_ends place i [] h = absurd h
one_ends place i (v ∷ vs) (inl h) = inl h
one_ends place i (v ∷ vs) (inr h) = inr (one_ends place (i + 1) vs h)

pub stands_after : (levels : ℕ) (marked : Bool) (a : Around) (bytes : List ℕ) (s : Stands marked a bytes) → ItEnds (length bytes) s.value
    → IsViableWithin levels bytes → StandsAfterFeature levels bytes
stands_after levels marked a bytes s i v = record {
  viable = v;
  ends = λ rest text h.
      (let g = text_closing marked a bytes rest (length bytes) refl s text h in
      let c = g.0 in
      let e : features_of text.value ≡ items (back_elements s.done end_of_array) ++ s.value ∷ items c.more =
      ap (λ (x : Text). features_of x.value) g.1 ∙ closed_features a (back_elements s.done (element s.value c.more)) c.close c.others c.end
      ∙ back_items s.done (element s.value c.more) in
      one_ends (length bytes) 0 (features_of text.value)
      (subst (OneOf (length bytes)) (sym e) (one_among (length bytes) (items (back_elements s.done end_of_array)) s.value (items c.more) i)));
}

pub run_after : (d : ℕ) (before more : List ℕ) → StandsAfterFeature d before → IsRun d (length before) more → StandsAfterFeature d (before ++ more)
run_after d before more b r =
    let g = some_read d (length before) more r in
    let k = both d before more g.found b r g.reads in
    let i = g.ended k.stands.value k.last in
    stands_after d k.marked k.around (before ++ more) (run_of k) (i.0, i.1 ∙ sym (length-append before more)) k.run_viable
