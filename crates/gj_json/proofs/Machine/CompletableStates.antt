-- Each state completes, and no deeper than it is: what is under way is ended, and what is open is closed.
use Rattle.gj_json.proofs.Common.{AllByRecursion, Any, Bounds, Constant, Elements, Exactly, FitsBroken, FitsLeaf}
use Rattle.gj_json.proofs.Common.{FitsName, IsViableWithin, List, Members, None, Null, Option, Some, StringState, Text, Tree, ap, arith, array}
use Rattle.gj_json.proofs.Common.{close_brace, close_bracket, constant, depth, element, elements_depth, end_of_array, end_of_object, false, length}
use Rattle.gj_json.proofs.Common.{letters_after, low_of, mark_second, mark_third, member, object, refl, run, string, string_goes, string_next, suc}
use Rattle.gj_json.proofs.Common.{true, under_leaf, under_of, within, zero, ℕ, [], ◌%◌, ◌*◌, ◌++◌, ◌+◌, ◌∷◌, ◌≡◌, ◌≤◌}
use Rattle.gj_json.specs.Bytes.{colon as colon_byte, line_feed, quote as quote_byte, zero_digit as zero_byte}
use Rattle.gj_json.specs.Internal.NamedBytes.{letter_n}
use Rattle.gj_json.specs.Tree.{number}
use Rattle.gj_json.specs.Tree.{members_depth}
use Rattle.gj_json.specs.Grammar.{Then, Ends}
use Rattle.gj_json.specs.declared.class.Class.TheVariants.{Colon as colon, Quote as quote, Letter as letter}
use Rattle.gj_json.proofs.Grammar.SpelledForms
use Rattle.gj_json.proofs.Machine.CompletionsOfSteps
use Rattle.gj_json.specs.Internal.ReaderState.{Fits}
use Rattle.gj_json.proofs.Machine.MachineTexts.{text_goes_on, text_from}
use Rattle.gj_json.specs.declared.mode.StringState.TheVariants.{Plain as plain, Escape as escape, HexDue as hex_due, HexOne as hex_one, HexTwo as hex_two}
use Rattle.gj_json.specs.declared.mode.StringState.TheVariants.{HexThree as hex_three, InCharacter as in_character}
use Rattle.gj_json.specs.Characters.{escape_of, hex_of}
use Rattle.gj_json.specs.Internal.TextMachine.{Broken, text_due, mark_one, mark_two, begun, Frame, in_array, in_object, Member, Leaf, value_due, value_done}
use Rattle.gj_json.specs.Internal.TextMachine.{array_opened, object_opened, constant_on, number_on, string_on, name_due, name_on, colon_due, back_elements}
use Rattle.gj_json.specs.Internal.TextMachine.{back_members}
use Rattle.gj_json.proofs.Machine.BytesUnderWay.{IsBegun, run_begun}
use Rattle.gj_json.proofs.Machine.Completions.{TextFrom, After, AfterName, Completes, Goes, StringRest, StringOn}

-- ---- what is open, within a limit of the depth

pub levels_fit : (d : ℕ) (stack : List Frame) → Fits d stack → length stack ≤ d
levels_fit d [] h = omega arith
levels_fit d (in_array place done ∷ stack) h = omega arith
levels_fit d (in_object place done np name ne ∷ stack) h = omega arith

elements_apart : (d k : ℕ) (done : List Tree) (more : Elements) → elements_depth (back_elements done more) + k ≤ d → AllByRecursion (λ t. depth t + k ≤ d) done
    × (elements_depth more + k ≤ d)
elements_apart d k [] more h = (tt, h)
elements_apart d k (t ∷ done) more h = let g = elements_apart d k done (element t more) h in ((omega (arith, g.1), g.0), omega (arith, g.1))

pub elements_joined : (d k : ℕ) (done : List Tree) (more : Elements) → AllByRecursion (λ t. depth t + k ≤ d) done → elements_depth more + k ≤ d
    → elements_depth (back_elements done more) + k ≤ d
elements_joined d k [] more a h = h
elements_joined d k (t ∷ done) more a h = elements_joined d k done (element t more) a.1 (omega (arith, a.0))

members_apart : (d k : ℕ) (done : List Member) (more : Members) → members_depth (back_members done more) + k ≤ d
    → AllByRecursion (λ m. depth m.value + k ≤ d) done × (members_depth more + k ≤ d)
members_apart d k [] more h = (tt, h)
members_apart d k (m ∷ done) more h = let g =
    members_apart d k done (member m.place m.name m.end m.value more) h in ((omega (arith, g.1), g.0), omega (arith, g.1))

pub members_joined : (d k : ℕ) (done : List Member) (more : Members) → AllByRecursion (λ m. depth m.value + k ≤ d) done → members_depth more + k ≤ d
    → members_depth (back_members done more) + k ≤ d
members_joined d k [] more a h = h
members_joined d k (m ∷ done) more a h = members_joined d k done (member m.place m.name m.end m.value more) a.1 (omega (arith, a.0))

-- a tree within the limit has what is open within it
pub after_fits : (d : ℕ) (stack : List Frame) (t T : Tree) (n : ℕ) (bytes : List ℕ) → After stack t T n bytes → depth T ≤ d → (depth t + length stack ≤ d)
    × Fits d stack
after_fits d [] t T n bytes h l = (let e : depth T ≡ depth t = ap depth h.1 in omega arith, tt)
after_fits d (in_array place done ∷ stack) t T n bytes h l =
    let g = after_fits d stack (array place (back_elements done (element t h.0)) h.1) T _ _ h.2.after.after l in
    let k = elements_apart d (length stack + 1) done (element t h.0) (omega (arith, g.0)) in
    (omega (arith, k.1), (omega (arith, g.0), k.0, g.1))
after_fits d (in_object place done np name ne ∷ stack) t T n bytes h l =
    let g = after_fits d stack (object place (back_members done (member np name ne t h.0)) h.1) T _ _ h.2.after.after l in
    let k = members_apart d (length stack + 1) done (member np name ne t h.0) (omega (arith, g.0)) in
    (omega (arith, k.1), (omega (arith, g.0), k.0, g.1))

name_fits : (d : ℕ) (stack : List Frame) (place : ℕ) (done : List Member) (np : ℕ) (name : List ℕ) (ne : ℕ) (T : Tree) (n : ℕ) (bytes : List ℕ)
    → AfterName stack place done np name ne T n bytes → depth T ≤ d → FitsName d stack done
name_fits d stack place done np name ne T n bytes h l = (after_fits d (in_object place done np name ne ∷ stack) h.0 T _ _ h.1.after.after.after.after l).1

pub leaf_fits : (d : ℕ) (stack : List Frame) (leaf : Leaf) (T : Tree) (n : ℕ) (bytes : List ℕ) → Completes stack leaf T n bytes → depth T ≤ d
    → FitsLeaf d stack leaf
leaf_fits d stack value_due T n bytes h l = (after_fits d stack h.0 T _ _ h.1.after.after l).1
leaf_fits d stack (value_done t) T n bytes h l = after_fits d stack t T n bytes h l
leaf_fits d stack (array_opened place) T n bytes h l = let g = after_fits d stack (array place h.0 h.1) T _ _ h.2.after.after l in (omega (arith, g.0), g.1)
leaf_fits d stack (object_opened place) T n bytes h l = let g = after_fits d stack (object place h.0 h.1) T _ _ h.2.after.after l in (omega (arith, g.0), g.1)
leaf_fits d stack (constant_on which place left) T n bytes h l = (after_fits d stack (constant which place) T _ _ h.after l).1
leaf_fits d stack (number_on place so_far) T n bytes h l = (after_fits d stack (number place (so_far ++ h.0) h.1) T _ _ h.3.after.after l).1
leaf_fits d stack (string_on place so_far state) T n bytes h l = (after_fits d stack (string place (so_far ++ h.0) h.1) T _ _ h.2.after l).1
leaf_fits d stack (name_due place done) T n bytes h l = name_fits d stack place done h.0 h.1 h.2 T _ _ h.3.after.after l
leaf_fits d stack (name_on place done np so_far state) T n bytes h l = name_fits d stack place done np (so_far ++ h.0) h.1 T _ _ h.2.after l
leaf_fits d stack (colon_due place done np name ne) T n bytes h l = name_fits d stack place done np name ne T n bytes h l

-- ---- some bytes end what is under way

abbrev pub Ending : ℕ → List Frame → Leaf → ℕ → Type 0
Ending d stack leaf n = (T : Tree) × (rest : List ℕ) × Completes stack leaf T n rest × (depth T ≤ d)

pub after_ending : (d : ℕ) (stack : List Frame) (t : Tree) (n : ℕ) → depth t + length stack ≤ d → Fits d stack → (T : Tree) × (rest : List ℕ)
    × After stack t T n rest × (depth T ≤ d)
after_ending d [] t n l f = (t, [], (tt, refl), omega arith)
after_ending d (in_array place done ∷ stack) t n l f =
    let e = elements_joined d (length stack + 1) done (element t end_of_array) f.1 (omega arith) in
    let g = after_ending d stack (array place (back_elements done (element t end_of_array)) n) (n + 1) (omega (arith, e)) f.2 in
    (g.0, close_bracket ∷ g.1, (end_of_array, n, SpelledForms.white_none (SpelledForms.closes_more refl g.2)), g.3)
after_ending d (in_object place done np name ne ∷ stack) t n l f =
    let e = members_joined d (length stack + 1) done (member np name ne t end_of_object) f.1 (omega arith) in
    let g = after_ending d stack (object place (back_members done (member np name ne t end_of_object)) n) (n + 1) (omega (arith, e)) f.2 in
    (g.0, close_brace ∷ g.1, (end_of_object, n, SpelledForms.white_none (SpelledForms.closes_more refl g.2)), g.3)

exactly_all : {K : ℕ → List ℕ → Type 0} {n : ℕ} (letters rest : List ℕ) → K (n + length letters) rest → Then (Exactly letters) K n (letters ++ rest)
exactly_all letters rest k = SpelledForms.joins letters rest refl refl k

constant_ending : (d : ℕ) (stack : List Frame) (which : Constant) (place : ℕ) (left : List ℕ) (n : ℕ) → Fits d stack
    → Ending d stack (constant_on which place left) n
constant_ending d stack which place left n f =
    let g = after_ending d stack (constant which place) (n + length left) (let l : length stack ≤ d = levels_fit d stack f in omega arith) f in
    (g.0, left ++ g.1, exactly_all left g.1 g.2, g.3)

due_ending : (d : ℕ) (stack : List Frame) (n : ℕ) → Fits d stack → Ending d stack value_due n
due_ending d stack n f =
    let g = constant_ending d stack Null n (letters_after Null) (n + 1) f in
    (g.0, letter_n ∷ g.1, CompletionsOfSteps.back_value_due stack g.0 n letter_n g.1 (letter Null) refl g.2, g.3)

escape_n : string_next escape letter_n ≡ string_goes (line_feed ∷ []) plain
unfolding escape_of
escape_n = refl

zero_hex : hex_of zero_byte ≡ Some 0
unfolding hex_of
zero_hex = refl

three_on : (v : ℕ) → (content : List ℕ) × (bytes : List ℕ) × StringRest (hex_three v) content bytes
three_on v = ((v * 16 + 0) ∷ [], zero_byte ∷ [], ((v * 16 + 0) ∷ [], plain, [], rw zero_hex refl, refl, (refl, refl)))

two_on : (v : ℕ) → (content : List ℕ) × (bytes : List ℕ) × StringRest (hex_two v) content bytes
two_on v = let g = three_on (v * 16 + 0) in (g.0, zero_byte ∷ g.1, ([], hex_three (v * 16 + 0), g.0, rw zero_hex refl, refl, g.2))

bounds_low : (bounds : Bounds) → within bounds (low_of bounds) ≡ true
bounds_low Any = refl
bounds_low other = refl

character_ending : (more : ℕ) (bounds : Bounds) (value : ℕ) → (content : List ℕ) × (bytes : List ℕ) × StringRest (in_character more bounds value) content bytes
character_ending zero bounds value = let c =
    value * 64 + low_of bounds % 64 in (c ∷ [], low_of bounds ∷ [], (c ∷ [], plain, [], rw (bounds_low bounds) refl, refl, (refl, refl)))
character_ending (suc more) bounds value =
    let g = character_ending more Any (value * 64 + low_of bounds % 64) in
    (g.0, low_of bounds ∷ g.1, ([], in_character more Any (value * 64 + low_of bounds % 64), g.0, rw (bounds_low bounds) refl, refl, g.2))

-- a text under way can end
string_ending : (state : StringState) → (content : List ℕ) × (bytes : List ℕ) × StringRest state content bytes
string_ending plain = ([], [], (refl, refl))
string_ending escape = (line_feed ∷ [], letter_n ∷ [], (line_feed ∷ [], plain, [], escape_n, refl, (refl, refl)))
string_ending hex_due = let g = two_on (0 * 16 + 0) in
    (g.0, zero_byte ∷ zero_byte ∷ g.1, ([], hex_one 0, g.0, rw zero_hex refl, refl, ([], hex_two (0 * 16 + 0), g.0, rw zero_hex refl, refl, g.2)))
string_ending (hex_one v) = let g = two_on (v * 16 + 0) in (g.0, zero_byte ∷ g.1, ([], hex_two (v * 16 + 0), g.0, rw zero_hex refl, refl, g.2))
string_ending (hex_two v) = two_on v
string_ending (hex_three v) = three_on v
string_ending (in_character more bounds value) = character_ending more bounds value

quoted_ending : {K : ℕ → List ℕ → Type 0} {n : ℕ} (state : StringState) (content bytes rest : List ℕ) → StringRest state content bytes
    → K (n + length bytes + 1) rest → Then (StringOn state content (n + length bytes + 1)) K n (bytes ++ quote_byte ∷ rest)
quoted_ending {K} {n} state content bytes rest t k =
    let tail : Then (Then (Exactly (quote_byte ∷ [])) (Ends (n + length bytes + 1))) K (n + length bytes) (quote_byte ∷ rest) =
    SpelledForms.then_right (SpelledForms.byte_more refl (SpelledForms.ends_here k)) in
    SpelledForms.then_right (SpelledForms.joins bytes (quote_byte ∷ rest) refl t tail)

colon_ending : (d : ℕ) (stack : List Frame) (place : ℕ) (done : List Member) (np : ℕ) (name : List ℕ) (ne n : ℕ) → FitsName d stack done
    → Ending d stack (colon_due place done np name ne) n
colon_ending d stack place done np name ne n f =
    let g = due_ending d (in_object place done np name ne ∷ stack) (n + 1) f in
    (g.0, colon_byte ∷ g.1, CompletionsOfSteps.back_colon_due stack place done np name ne g.0 n colon_byte g.1 colon refl g.2, g.3)

name_ending : (d : ℕ) (stack : List Frame) (place : ℕ) (done : List Member) (np : ℕ) (so_far : List ℕ) (state : StringState) (n : ℕ) → FitsName d stack done
    → Ending d stack (name_on place done np so_far state) n
name_ending d stack place done np so_far state n f =
    let t = string_ending state in
    let e = n + length t.1 + 1 in
    let g = colon_ending d stack place done np (so_far ++ t.0) e e f in
    (g.0, t.1 ++ quote_byte ∷ g.1, (t.0, e, quoted_ending state t.0 t.1 g.1 t.2 g.2), g.3)

leaf_ending : (d : ℕ) (stack : List Frame) (leaf : Leaf) (n : ℕ) → FitsLeaf d stack leaf → IsBegun (under_leaf leaf) → Ending d stack leaf n
leaf_ending d stack value_due n f u = due_ending d stack n f
leaf_ending d stack (value_done t) n f u = after_ending d stack t n f.0 f.1
leaf_ending d stack (array_opened place) n f u =
    let g = after_ending d stack (array place end_of_array n) (n + 1) (omega (arith, f.0)) f.1 in
    (g.0, close_bracket ∷ g.1, (end_of_array, n, SpelledForms.white_none (SpelledForms.closes_more refl g.2)), g.3)
leaf_ending d stack (object_opened place) n f u =
    let g = after_ending d stack (object place end_of_object n) (n + 1) (omega (arith, f.0)) f.1 in
    (g.0, close_brace ∷ g.1, (end_of_object, n, SpelledForms.white_none (SpelledForms.closes_more refl g.2)), g.3)
leaf_ending d stack (constant_on which place left) n f u = constant_ending d stack which place left n f
leaf_ending d stack (number_on place so_far) n f u =
    let g = after_ending d stack (number place (so_far ++ u.0) (n + length u.0)) (n + length u.0)
    (let l : length stack ≤ d = levels_fit d stack f in omega arith) f in
    (g.0, u.0 ++ g.1, (u.0, n + length u.0, u.1, exactly_all u.0 g.1 (SpelledForms.ends_here g.2)), g.3)
leaf_ending d stack (string_on place so_far state) n f u =
    let t = string_ending state in
    let e = n + length t.1 + 1 in
    let g = after_ending d stack (string place (so_far ++ t.0) e) e (let l : length stack ≤ d = levels_fit d stack f in omega arith) f in
    (g.0, t.1 ++ quote_byte ∷ g.1, (t.0, e, quoted_ending state t.0 t.1 g.1 t.2 g.2), g.3)
leaf_ending d stack (name_due place done) n f u =
    let g = name_ending d stack place done n [] plain (n + 1) f in
    (g.0, quote_byte ∷ g.1, CompletionsOfSteps.back_name_due stack place done g.0 n quote_byte g.1 quote refl g.2, g.3)
leaf_ending d stack (name_on place done np so_far state) n f u = name_ending d stack place done np so_far state n f
leaf_ending d stack (colon_due place done np name ne) n f u = colon_ending d stack place done np name ne n f

-- ---- a whole text

text_fits : (d : ℕ) (s : Broken) (T : Text) (n : ℕ) (bytes : List ℕ) → TextFrom T n bytes s → depth T.value ≤ d → FitsBroken d s
text_fits d text_due T n bytes h l = tt
text_fits d mark_one T n bytes h l = tt
text_fits d mark_two T n bytes h l = tt
text_fits d (begun marked s) T n bytes h l = leaf_fits d s.stack s.leaf T.value n bytes h.1 l

abbrev pub TextEnding : ℕ → Broken → ℕ → Type 0
TextEnding d s n = (T : Text) × (rest : List ℕ) × TextFrom T n rest s × (depth T.value ≤ d)

text_ending : (d : ℕ) (s : Broken) (n : ℕ) → FitsBroken d s → IsBegun (under_of s) → TextEnding d s n
text_ending d text_due n f u = let g = due_ending d [] n tt in (record { marked = false; value = g.0 }, g.1, SpelledForms.exactly_none g.2, g.3)
text_ending d mark_one n f u =
    let g = due_ending d [] (n + 2) tt in
    (record { marked = true; value = g.0 }, mark_second ∷ mark_third ∷ g.1, (refl, exactly_all (mark_second ∷ mark_third ∷ []) g.1 g.2), g.3)
text_ending d mark_two n f u =
    let g = due_ending d [] (n + 1) tt in
    (record { marked = true; value = g.0 }, mark_third ∷ g.1, (refl, exactly_all (mark_third ∷ []) g.1 g.2), g.3)
text_ending d (begun marked s) n f u = let g = leaf_ending d s.stack s.leaf n f u in (record { marked = marked; value = g.0 }, g.1, (refl, g.2), g.3)

-- ---- what can still become a text

abbrev pub FitsRun : ℕ → Option Broken → Type 0
FitsRun d None = ⊥
FitsRun d (Some s) = FitsBroken d s

pub viable_fits : (d : ℕ) (bytes : List ℕ) → IsViableWithin d bytes → FitsRun d (run bytes)
viable_fits d bytes h = go (run bytes) (text_goes_on h.1 bytes h.0 h.2.0)
  where
    go : (o : Option Broken) → Goes (TextFrom h.1 (length bytes) h.0) o → FitsRun d o
    go None k = k
    go (Some s) k = text_fits d s h.1 (length bytes) h.0 k h.2.1

pub fits_viable : (d : ℕ) (bytes : List ℕ) → FitsRun d (run bytes) → IsViableWithin d bytes
fits_viable d bytes h = go (run bytes) refl h
  where
    go : (o : Option Broken) → run bytes ≡ o → FitsRun d o → IsViableWithin d bytes
    go None e k = absurd k
    go (Some s) e k =
        let g = text_ending d s (length bytes) k (run_begun bytes text_due s 0 tt e) in
        (g.1, g.0, (text_from g.0 bytes g.1 (rw e g.2), g.3))
