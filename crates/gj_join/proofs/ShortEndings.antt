-- What a reader took is made a text by few bytes more.
use Rattle.std.proofs.Common.{◌≡◌, ℕ, zero, suc, ◌+◌, ◌*◌, ◌%◌, ◌≤◌, Bool, true, false, List, [], ◌∷◌, ◌++◌, length, Option, Some, None, is_some, refl, sym, ap, subst, ◌∙◌, arith}
use Rattle.std.proofs.lemmas.Bool.Decides.{nat_tests}
use Rattle.std.proofs.lemmas.List.{length-append, length-drop}
use Rattle.gj_number.specs.Bytes.{zero_digit}
use Rattle.gj_number.specs.DecidedNumbers.{is_number, begins_number, may_end_at}
use Rattle.gj_number.specs.Grammar.{IsNumber, BeginsNumber}
use Rattle.gj_number.specs.Internal.NumberMachine as N
use Rattle.gj_number.specs.declared.state.State.{State}
use Rattle.gj_number.specs.declared.state.State.TheVariants.{Start, AfterZero, InNatural, InFraction, InExponent}
use Rattle.gj_number.proofs.Grammar.DecidedNumbers.{begins, number as numbers}
use Rattle.gj_json.specs.Bytes.{close_brace, close_bracket, colon, line_feed, quote}
use Rattle.gj_json.specs.Broken.{Broken, text_due, mark_one, mark_two, begun, Frame, in_array, in_object, Member, Leaf, value_due, value_done, array_opened}
use Rattle.gj_json.specs.Broken.{object_opened, constant_on, number_on, string_on, name_due, name_on, colon_due, back_elements, back_members}
use Rattle.gj_json.specs.Characters.{escape_of, hex_of}
use Rattle.gj_json.specs.Grammar.{letters_of}
use Rattle.gj_json.specs.Internal.ByteClasses.{class_of}
use Rattle.gj_json.specs.Internal.NamedBytes.{letter_n, after_n, mark_second, mark_third}
use Rattle.gj_json.specs.Internal.ReaderState.{Fits, FitsLeaf, FitsBroken, StandsAs, StandsWell}
use Rattle.gj_json.specs.Internal.TextMachine.{string_goes, string_next, plain_step}
use Rattle.gj_json.specs.Internal.TextMachine.{within, run_from, step}
use Rattle.gj_json.specs.Internal.UnderWay.{Under, under_of, ComesFrom}
use Rattle.gj_json.specs.Internal.UnderWay as U
use Rattle.gj_json.specs.Text.{IsTextWithin}
use Rattle.gj_json.specs.Tree.{Text, Tree, constant, array, object, end_of_array, element, end_of_object, member, depth}
use Rattle.gj_json.specs.Utf8Bytes.{Lead, lead_of, low_of}
use Rattle.gj_json.specs.declared.constant.Constant.{Constant}
use Rattle.gj_json.specs.declared.constant.Constant.TheVariants.{Null, True, False}
use Rattle.gj_json.specs.declared.levels.Level.{Level}
use Rattle.gj_json.specs.declared.mode.Bounds.{Bounds}
use Rattle.gj_json.specs.declared.mode.Bounds.TheVariants.{Any}
use Rattle.gj_json.specs.declared.mode.Mode.{Mode}
use Rattle.gj_json.specs.declared.mode.StringState.{StringState}
use Rattle.gj_json.specs.declared.mode.StringState.TheVariants.{Plain, Escape, HexDue, HexOne, HexTwo, HexThree, InCharacter}
use Rattle.gj_json.specs.Limits.{Allowed}
use Rattle.gj_json.proofs.Grammar.SpelledForms
use Rattle.gj_json.proofs.Machine.BytesUnderWay.{CameTo, IsBegun, run_begun, run_none, step_came}
use Rattle.gj_json.proofs.Machine.CompletableStates.{elements_joined, members_joined, levels_fit}
use Rattle.gj_json.proofs.Machine.Completions.{TextFrom}
use Rattle.gj_json.proofs.Machine.CompletionsOfSteps.{backward}
use Rattle.gj_json.proofs.Machine.MachineTexts.{text_from}
use Rattle.gj_json.proofs.Machine.ValuePaths.{at}

-- ---- a number under way

state_on : (o : Option State) (xs ys : List ℕ) → N.state_after o (xs ++ ys) ≡ N.state_after (N.state_after o xs) ys
state_on o [] ys = refl
state_on None (x ∷ xs) [] = refl
state_on None (x ∷ xs) (y ∷ ys) = refl
state_on (Some s) (x ∷ xs) ys = state_on (N.next_of s (N.class_of x)) xs ys

-- it may end there, or after a zero
number_by : (s : State) → (more : List ℕ) × (may_end_at (N.state_after (Some s) more) ≡ true) × (length more ≤ 1)
unfolding N.class_of
number_by AfterZero = ([], refl, omega arith)
number_by InNatural = ([], refl, omega arith)
number_by InFraction = ([], refl, omega arith)
number_by InExponent = ([], refl, omega arith)
number_by other = (zero_digit ∷ [], refl, omega arith)

number_ending : (so_far : List ℕ) → BeginsNumber so_far → (more : List ℕ) × IsNumber (so_far ++ more) × (length more ≤ 1)
unfolding begins_number is_number
number_ending so_far h = go (N.state_after (Some Start) so_far) refl ((begins so_far).1 h)
  where
    go : (o : Option State) → N.state_after (Some Start) so_far ≡ o → is_some o ≡ true → (more : List ℕ) × IsNumber (so_far ++ more) × (length more ≤ 1)
    go None e k = cc
    go (Some s) e k =
        let g = number_by s in
        (g.0, (numbers (so_far ++ g.0)).0 (ap may_end_at (state_on (Some Start) so_far g.0 ∙ ap (λ o. N.state_after o g.0) e) ∙ g.1), g.2)

-- ---- a string under way

-- how many bytes follow the next in the character under way
abbrev pub left_in : StringState → ℕ
left_in (InCharacter more bounds value) = more
left_in _ = 0

lead_few : (b : ℕ) (first : Lead) → lead_of b ≡ Some first → first.more ≤ 2
unfolding lead_of
lead_few b first e = grind (arith, nat_tests)

few_next : (old : StringState) (b : ℕ) (more : List ℕ) (next : StringState) → left_in old ≤ 2 → string_next old b ≡ string_goes more next → left_in next ≤ 2
unfolding plain_step
few_next Plain b more next l e = grind (arith, nat_tests, lead_few)
few_next (InCharacter zero bounds value) b more next l e = grind (arith, nat_tests)
few_next (InCharacter (suc left) bounds value) b more next l e = grind (arith, nat_tests)
few_next other b more next l e = grind (arith, nat_tests)

abbrev FewUnder : Under → Type 0
FewUnder (U.text so_far state) = left_in state ≤ 2
FewUnder _ = Unit {0}

few_on : (before : Under) (b : ℕ) (u : Under) → FewUnder before → ComesFrom before b u → FewUnder u
few_on before b U.nothing f h = tt
few_on before b (U.number so_far) f h = tt
few_on U.nothing b (U.text so_far state) f h = (let e : left_in state ≡ 0 = ap left_in h.1 in omega arith)
few_on (U.number old) b (U.text so_far state) f h = absurd h
few_on (U.text old state) b (U.text so_far next) f h = few_next state b h.0 next f h.2

run_few : (bytes : List ℕ) (s last : Broken) (n : ℕ) → FewUnder (under_of s) → run_from (Some s) n bytes ≡ Some last → FewUnder (under_of last)
run_few [] s last n u e = let f : s ≡ last = cc in let P : Broken → Type 0 = λ x. FewUnder (under_of x) in subst P f u
run_few (b ∷ bytes) s last n u e = go (λ next. run_few bytes next last (n + 1)) (step s n b) (step_came s n b) e
  where
    go : ((next : Broken) → FewUnder (under_of next) → run_from (Some next) (n + 1) bytes ≡ Some last → FewUnder (under_of last)) → (o : Option Broken)
        → CameTo (under_of s) b o → run_from o (n + 1) bytes ≡ Some last → FewUnder (under_of last)
    go on None c f = let g = sym (run_none bytes (n + 1)) ∙ f in cc
    go on (Some next) c f = on next (few_on (under_of s) b (under_of next) u c) f

-- ---- a state of the machine

-- it becomes a text within the depth by so many bytes at the most
record Short (d : ℕ) (s : Broken) (n most : ℕ) : Type 0 where
  pub text : Text
  pub rest : List ℕ
  pub goes : TextFrom text n rest s
  pub within : depth text.value ≤ d
  pub few : length rest ≤ most

longer : {d n k most : ℕ} {s : Broken} → Short d s n k → k ≤ most → Short d s n most
longer h l = record { text = h.text; rest = h.rest; goes = h.goes; within = h.within; few = omega (arith, h.few) }

by_byte : {d n k most : ℕ} {s next : Broken} (b : ℕ) → step s n b ≡ Some next → Short d next (n + 1) k → k + 1 ≤ most → Short d s n most
by_byte {n = n} {s = s} b e h l =
    record { text = h.text; rest = b ∷ h.rest; goes = backward s h.text n b h.rest (rw e h.goes); within = h.within; few = omega (arith, h.few) }

abbrev stand : Bool → List Frame → Leaf → Broken
stand marked stack leaf = begun marked (at stack leaf)

bounds_low : (bounds : Bounds) → within bounds (low_of bounds) ≡ true
bounds_low Any = refl
bounds_low other = refl

-- a string or a name under way, which may end where no character is
module _ (d k : ℕ) (under : List ℕ → StringState → Broken)
    (on : (so_far : List ℕ) (state : StringState) (n b : ℕ) (more : List ℕ) (next : StringState) → string_next state b ≡ string_goes more next
    → step (under so_far state) n b ≡ Some (under (so_far ++ more) next))
    (ended : (so_far : List ℕ) (n : ℕ) → Short d (under so_far Plain) n k) where
  by_character : (so_far : List ℕ) (state : StringState) (n most b : ℕ) (more : List ℕ) (next : StringState) → string_next state b ≡ string_goes more next
      → ((so_far : List ℕ) (n : ℕ) → Short d (under so_far next) n most) → Short d (under so_far state) n (most + 1)
  by_character so_far state n most b more next e h = by_byte b (on so_far state n b more next e) (h (so_far ++ more) (n + 1)) (omega arith)

  character_short : (more : ℕ) (bounds : Bounds) (value : ℕ) (so_far : List ℕ) (n : ℕ) → Short d (under so_far (InCharacter more bounds value)) n (more + 1 + k)
  character_short zero bounds value so_far n =
      let c = value * 64 + low_of bounds % 64 in
      longer (by_character so_far (InCharacter zero bounds value) n k (low_of bounds) (c ∷ []) Plain (rw (bounds_low bounds) refl) ended) (omega arith)
  character_short (suc more) bounds value so_far n =
      let c = value * 64 + low_of bounds % 64 in
      longer (by_character so_far (InCharacter (suc more) bounds value) n (more + 1 + k) (low_of bounds) [] (InCharacter more Any c)
      (rw (bounds_low bounds) refl) (character_short more Any c)) (omega arith)

  digits_short : (v : ℕ) (so_far : List ℕ) (n : ℕ) → Short d (under so_far (HexThree v)) n (k + 1) × Short d (under so_far (HexTwo v)) n (k + 1 + 1)
      × Short d (under so_far (HexOne v)) n (k + 1 + 1 + 1)
  unfolding hex_of
  digits_short v so_far n =
      let three = λ (v : ℕ) (so_far : List ℕ) (n : ℕ). by_character so_far (HexThree v) n k zero_digit ((v * 16 + 0) ∷ []) Plain refl ended in
      let two = λ (v : ℕ) (so_far : List ℕ) (n : ℕ). by_character so_far (HexTwo v) n (k + 1) zero_digit [] (HexThree (v * 16 + 0)) refl (three (v * 16 + 0)) in (
        three v so_far n,
        two v so_far n,
        by_character so_far (HexOne v) n (k + 1 + 1) zero_digit [] (HexTwo (v * 16 + 0)) refl (two (v * 16 + 0)),
      )

  text_short : (state : StringState) (so_far : List ℕ) (n : ℕ) → left_in state ≤ 2 → Short d (under so_far state) n (4 + k)
  unfolding escape_of hex_of
  text_short Plain so_far n l = longer (ended so_far n) (omega arith)
  text_short Escape so_far n l = longer (by_character so_far Escape n k letter_n (line_feed ∷ []) Plain refl ended) (omega arith)
  text_short HexDue so_far n l =
      longer (by_character so_far HexDue n (k + 1 + 1 + 1) zero_digit [] (HexOne 0) refl (λ before m. (digits_short 0 before m).2)) (omega arith)
  text_short (HexOne v) so_far n l = longer (digits_short v so_far n).2 (omega arith)
  text_short (HexTwo v) so_far n l = longer (digits_short v so_far n).1 (omega arith)
  text_short (HexThree v) so_far n l = longer (digits_short v so_far n).0 (omega arith)
  text_short (InCharacter more bounds value) so_far n l = longer (character_short more bounds value so_far n) (omega arith)

few_letters : (which : Constant) → length (letters_of which) ≤ 5
few_letters Null = omega arith
few_letters True = omega arith
few_letters False = omega arith

module _ (d : ℕ) (marked : Bool) where
  -- a value that has ended: what is open is closed
  closed : (stack : List Frame) (t : Tree) (n : ℕ) → depth t + length stack ≤ d → Fits d stack → Short d (stand marked stack (value_done t)) n (length stack)
  unfolding class_of
  closed [] t n l f = record { text = record { marked = marked; value = t }; rest = []; goes = (refl, (tt, refl)); within = omega arith; few = omega arith }
  closed (in_array place done ∷ stack) t n l f =
      let v = array place (back_elements done (element t end_of_array)) n in
      let e = elements_joined d (length stack + 1) done (element t end_of_array) f.1 (omega arith) in
      by_byte {next = stand marked stack (value_done v)} close_bracket refl (closed stack v (n + 1) (omega (arith, e)) f.2) (omega arith)
  closed (in_object place done np name ne ∷ stack) t n l f =
      let v = object place (back_members done (member np name ne t end_of_object)) n in
      let e = members_joined d (length stack + 1) done (member np name ne t end_of_object) f.1 (omega arith) in
      by_byte {next = stand marked stack (value_done v)} close_brace refl (closed stack v (n + 1) (omega (arith, e)) f.2) (omega arith)

  done : (stack : List Frame) (t : Tree) (n : ℕ) → depth t + length stack ≤ d → Fits d stack → Short d (stand marked stack (value_done t)) n d
  done stack t n l f =
      let h = closed stack t n l f in
      record { text = h.text; rest = h.rest; goes = h.goes; within = h.within; few = omega (arith, h.few, levels_fit d stack f) }

  constant_short : (stack : List Frame) (which : Constant) (place : ℕ) (left : List ℕ) (n : ℕ) → Fits d stack
      → Short d (stand marked stack (constant_on which place left)) n (length left + d)
  constant_short stack which place left n f =
      let h = done stack (constant which place) (n + length left) (let l = levels_fit d stack f in omega arith) f in
      record {
        text = h.text;
        rest = left ++ h.rest;
        goes = (h.goes.0, SpelledForms.joins left h.rest refl refl h.goes.1);
        within = h.within;
        few = omega (arith, h.few, length-append left h.rest);
      }

  due : (stack : List Frame) (n : ℕ) → Fits d stack → Short d (stand marked stack value_due) n (4 + d)
  unfolding class_of
  due stack n f =
      by_byte {next = stand marked stack (constant_on Null n after_n)} letter_n refl (constant_short stack Null n after_n (n + 1) f) (omega arith)

  number_short : (stack : List Frame) (place : ℕ) (so_far : List ℕ) (n : ℕ) → Fits d stack → BeginsNumber so_far
      → Short d (stand marked stack (number_on place so_far)) n (1 + d)
  number_short stack place so_far n f u =
      let g = number_ending so_far u in
      let h = done stack (Tree.number place (so_far ++ g.0) (n + length g.0)) (n + length g.0) (let l = levels_fit d stack f in omega arith) f in
      record {
        text = h.text;
        rest = g.0 ++ h.rest;
        goes = (h.goes.0, (g.0, n + length g.0, g.1, SpelledForms.joins g.0 h.rest refl refl (SpelledForms.ends_here h.goes.1)));
        within = h.within;
        few = omega (arith, h.few, g.2, length-append g.0 h.rest);
      }

  string_short : (stack : List Frame) (place : ℕ) (so_far : List ℕ) (state : StringState) (n : ℕ) → Fits d stack → left_in state ≤ 2
      → Short d (stand marked stack (string_on place so_far state)) n (5 + d)
  unfolding plain_step
  string_short stack place so_far state n f l =
      longer (text_short d (d + 1) (λ before at. stand marked stack (string_on place before at)) (λ before at m b more next e. rw e refl)
      (λ before m. by_byte {next = stand marked stack (value_done (Tree.string place before (m + 1)))} quote refl
      (done stack (Tree.string place before (m + 1)) (m + 1) (let l = levels_fit d stack f in omega arith) f) (omega arith)) state so_far n l) (omega arith)

  module _ (stack : List Frame) (place : ℕ) (done : List Member) (np : ℕ) where
    colon_short : (name : List ℕ) (ne n : ℕ) → FitsLeaf d stack (colon_due place done np name ne)
        → Short d (stand marked stack (colon_due place done np name ne)) n (5 + d)
    unfolding class_of
    colon_short name ne n f =
        let inner = in_object place done np name ne ∷ stack in
        by_byte {next = stand marked inner value_due} colon refl (due inner (n + 1) f) (omega arith)

    name_short : (so_far : List ℕ) (state : StringState) (n : ℕ) → FitsLeaf d stack (name_on place done np so_far state) → left_in state ≤ 2
        → Short d (stand marked stack (name_on place done np so_far state)) n (10 + d)
    unfolding plain_step
    name_short so_far state n f l =
        longer (text_short d (6 + d) (λ before at. stand marked stack (name_on place done np before at)) (λ before at m b more next e. rw e refl)
        (λ before m. by_byte {next = stand marked stack (colon_due place done np before (m + 1))} quote refl
        (colon_short before (m + 1) (m + 1) f) (omega arith)) state so_far n l) (omega arith)

  begun_short : (stack : List Frame) (leaf : Leaf) (n : ℕ) (mode : Mode) (levels : List Level) → FitsLeaf d stack leaf
      → StandsAs (stand marked stack leaf) mode levels → IsBegun (under_of (stand marked stack leaf)) → FewUnder (under_of (stand marked stack leaf))
      → Short d (stand marked stack leaf) n (12 + d)
  unfolding class_of
  begun_short stack value_due n mode levels f a u w = longer (due stack n f) (omega arith)
  begun_short stack (value_done t) n mode levels f a u w = longer (done stack t n f.0 f.1) (omega arith)
  begun_short stack (array_opened place) n mode levels f a u w =
      let v = array place end_of_array n in
      by_byte {next = stand marked stack (value_done v)} close_bracket refl (done stack v (n + 1) (omega (arith, f.0)) f.1) (omega arith)
  begun_short stack (object_opened place) n mode levels f a u w =
      let v = object place end_of_object n in
      by_byte {next = stand marked stack (value_done v)} close_brace refl (done stack v (n + 1) (omega (arith, f.0)) f.1) (omega arith)
  begun_short stack (constant_on which place left) n mode levels f a u w =
      longer (constant_short stack which place left n f)
      (let l : length left ≤ length (letters_of which) = (let e = ap length a.0.2 in omega (arith, e, length-drop a.0.0 (letters_of which))) in
      omega (arith, l, few_letters which))
  begun_short stack (number_on place so_far) n mode levels f a u w = longer (number_short stack place so_far n f u) (omega arith)
  begun_short stack (string_on place so_far state) n mode levels f a u w = longer (string_short stack place so_far state n f w) (omega arith)
  begun_short stack (name_due place done) n mode levels f a u w =
      by_byte {next = stand marked stack (name_on place done n [] Plain)} quote refl (name_short stack place done n [] Plain (n + 1) f (omega arith)) (omega arith)
  begun_short stack (name_on place done np so_far state) n mode levels f a u w = longer (name_short stack place done np so_far state n f w) (omega arith)
  begun_short stack (colon_due place done np name ne) n mode levels f a u w = longer (colon_short stack place done np name ne n f) (omega arith)

state_short : (d : ℕ) (s : Broken) (n : ℕ) (mode : Mode) (levels : List Level) → FitsBroken d s → StandsAs s mode levels → IsBegun (under_of s)
    → FewUnder (under_of s) → Short d s n (12 + d)
unfolding class_of
state_short d text_due n mode levels f a u w =
    by_byte {next = stand false [] (constant_on Null n after_n)} letter_n refl (constant_short d false [] Null n after_n (n + 1) tt) (omega arith)
state_short d mark_one n mode levels f a u w =
    by_byte {k = 5 + d} {next = mark_two} mark_second refl (by_byte {next = stand true [] value_due} mark_third refl (due d true [] (n + 1 + 1) tt) (omega arith)) (omega arith)
state_short d mark_two n mode levels f a u w = by_byte {next = stand true [] value_due} mark_third refl (due d true [] (n + 1) tt) (omega arith)
state_short d (begun marked s) n mode levels f a u w = begun_short d marked s.stack s.leaf n mode levels f a u w

-- ---- a reader

-- what it took is completed within the depth
pub record ShortText (d : ℕ) (taken : List ℕ) : Type 0 where
  pub rest : List ℕ
  pub text : Text
  pub text_of : IsTextWithin d text (taken ++ rest)
  pub few : length rest ≤ 12 + d

pub short_text : (limits : Allowed) (mode : Mode) (levels : List Level) (start offset : ℕ) (taken : List ℕ)
    → StandsWell limits mode levels start offset taken → ShortText limits.depth taken
short_text limits mode levels start offset taken h =
    let s = h.state in
    let k = state_short limits.depth s (length taken) mode levels h.fits h.kept (run_begun taken text_due s 0 tt h.runs) (run_few taken text_due s 0 tt h.runs) in
    record { rest = k.rest; text = k.text; text_of = (text_from k.text taken k.rest (rw (h.runs) k.goes), k.within); few = k.few }
