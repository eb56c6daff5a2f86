-- A machine that reads a text byte by byte into a tree under way. What a reader stands for is said by it.
use Rattle.std.specs.Prelude.{zero, suc, ◌%◌, ◌*◌, ℕ, ◌+◌, ◌==◌, ◌&&◌, Bool, true, false, if◌then◌else◌, List, [], ◌∷◌, ◌++◌, Option, Some, None, nat_le}
pub use Rattle.gj_json.specs.Broken.{Member, Frame, in_array, in_object, Leaf, value_due, value_done, array_opened, object_opened, constant_on, number_on}
pub use Rattle.gj_json.specs.Broken.{string_on, name_due, name_on, colon_due, Partial, Broken, text_due, mark_one, mark_two, begun, back_elements, member_of}
pub use Rattle.gj_json.specs.Broken.{back_members}
pub use Rattle.gj_number.specs.DecidedNumbers.{is_number, begins_number}
use Rattle.gj_json.specs.declared.constant.Constant.{Constant}
use Rattle.gj_json.specs.declared.constant.Constant.TheVariants.{Null, True, False}
use Rattle.gj_json.specs.declared.mode.Bounds.{Bounds}
use Rattle.gj_json.specs.declared.mode.Bounds.TheVariants.{Any}
use Rattle.gj_json.specs.Characters.{escape_of, hex_of}
use Rattle.gj_json.specs.Utf8Bytes.{Lead, lead_of, low_of, high_of}
use Rattle.gj_json.specs.Bytes.{space, backslash, quote as quote_byte, letter_u}
use Rattle.gj_json.specs.Internal.NamedBytes.{mark_first, mark_second, mark_third, after_n, after_t, after_f}
use Rattle.gj_json.specs.Tree.{Text, Tree, constant, number, string, array, object, end_of_array, element, end_of_object, member}
use Rattle.gj_json.specs.declared.class.Class.{Class}
use Rattle.gj_json.specs.declared.class.Class.TheVariants.{White as white, OpenArray as open_array, CloseArray as close_array, OpenObject as open_object}
use Rattle.gj_json.specs.declared.class.Class.TheVariants.{CloseObject as close_object, Comma as comma, Colon as colon, Quote as quote}
use Rattle.gj_json.specs.declared.class.Class.TheVariants.{NumberStart as number_start, Letter as letter, Other as other}
use Rattle.gj_json.specs.Internal.ByteClasses.{class_of}
use Rattle.gj_json.specs.declared.mode.StringState.{StringState}
use Rattle.gj_json.specs.declared.mode.StringState.TheVariants.{Plain as plain, Escape as escape, HexDue as hex_due, HexOne as hex_one, HexTwo as hex_two}
use Rattle.gj_json.specs.declared.mode.StringState.TheVariants.{HexThree as hex_three, InCharacter as in_character}

abbrev pub to : List Frame → Leaf → Option Partial
to stack leaf = Some (record { stack = stack; leaf = leaf })

abbrev pub letters_after : Constant → List ℕ
letters_after Null = after_n
letters_after True = after_t
letters_after False = after_f

-- ---- strings

-- what a byte does to a string under way
pub data StringStep : Type 0 where
  string_ends : StringStep
  string_goes : (more : List ℕ) → (state : StringState) → StringStep
  string_refuses : StringStep

abbrev pub escape_step : Option ℕ → StringStep
escape_step (Some c) = string_goes (c ∷ []) plain
escape_step None = string_refuses

abbrev pub hex_step : (ℕ → StringStep) → Option ℕ → StringStep
hex_step goes (Some d) = goes d
hex_step goes None = string_refuses

abbrev pub hex_end : ℕ → StringStep
hex_end c = string_goes (c ∷ []) plain

abbrev pub lead_step : Option Lead → StringStep
lead_step (Some first) = string_goes [] (in_character first.more first.bounds first.value)
lead_step None = string_refuses

abbrev pub within : Bounds → ℕ → Bool
within bounds b = nat_le (low_of bounds) b && nat_le b (high_of bounds)

abbrev pub tail_step : ℕ → ℕ → StringStep
tail_step zero c = string_goes (c ∷ []) plain
tail_step (suc more) value = string_goes [] (in_character more Any value)

unfoldable pub plain_step : ℕ → StringStep
plain_step b = if b == quote_byte then string_ends else
    (if b == backslash then string_goes [] escape else (if nat_le space b && nat_le b 0x7F then string_goes (b ∷ []) plain else lead_step (lead_of b)))

abbrev pub string_next : StringState → ℕ → StringStep
string_next plain b = plain_step b
string_next escape b = if b == letter_u then string_goes [] hex_due else escape_step (escape_of b)
string_next hex_due b = hex_step (λ d. string_goes [] (hex_one d)) (hex_of b)
string_next (hex_one v) b = hex_step (λ d. string_goes [] (hex_two (v * 16 + d))) (hex_of b)
string_next (hex_two v) b = hex_step (λ d. string_goes [] (hex_three (v * 16 + d))) (hex_of b)
string_next (hex_three v) b = hex_step (λ d. hex_end (v * 16 + d)) (hex_of b)
string_next (in_character more bounds value) b = if within bounds b then tail_step more (value * 64 + b % 64) else string_refuses

-- ---- a byte

abbrev pub begin_value : List Frame → ℕ → ℕ → Class → Option Partial
begin_value stack n b open_array = to stack (array_opened n)
begin_value stack n b open_object = to stack (object_opened n)
begin_value stack n b quote = to stack (string_on n [] plain)
begin_value stack n b number_start = to stack (number_on n (b ∷ []))
begin_value stack n b (letter which) = to stack (constant_on which n (letters_after which))
begin_value stack n b white = None
begin_value stack n b close_array = None
begin_value stack n b close_object = None
begin_value stack n b comma = None
begin_value stack n b colon = None
begin_value stack n b other = None

abbrev pub step_value_due : List Frame → ℕ → ℕ → Class → Option Partial
step_value_due stack n b white = to stack value_due
step_value_due stack n b c = begin_value stack n b c

abbrev pub step_array_opened : List Frame → ℕ → ℕ → ℕ → Class → Option Partial
step_array_opened stack place n b white = to stack (array_opened place)
step_array_opened stack place n b close_array = to stack (value_done (array place end_of_array n))
step_array_opened stack place n b c = begin_value (in_array place [] ∷ stack) n b c

abbrev pub begin_name : List Frame → ℕ → List Member → ℕ → Class → Option Partial
begin_name stack place done n quote = to stack (name_on place done n [] plain)
begin_name stack place done n _ = None

abbrev pub step_object_opened : List Frame → ℕ → ℕ → Class → Option Partial
step_object_opened stack place n white = to stack (object_opened place)
step_object_opened stack place n close_object = to stack (value_done (object place end_of_object n))
step_object_opened stack place n c = begin_name stack place [] n c

abbrev pub step_name_due : List Frame → ℕ → List Member → ℕ → Class → Option Partial
step_name_due stack place done n white = to stack (name_due place done)
step_name_due stack place done n c = begin_name stack place done n c

abbrev pub step_colon_due : List Frame → ℕ → List Member → ℕ → List ℕ → ℕ → Class → Option Partial
step_colon_due stack place done np name ne white = to stack (colon_due place done np name ne)
step_colon_due stack place done np name ne colon = to (in_object place done np name ne ∷ stack) value_due
step_colon_due stack place done np name ne _ = None

abbrev pub after_value : List Frame → Tree → ℕ → Class → Option Partial
after_value stack t n white = to stack (value_done t)
after_value (in_array place done ∷ stack) t n comma = to (in_array place (t ∷ done) ∷ stack) value_due
after_value (in_array place done ∷ stack) t n close_array = to stack (value_done (array place (back_elements done (element t end_of_array)) n))
after_value (in_object place done np name ne ∷ stack) t n comma = to stack (name_due place (record { place = np; name = name; end = ne; value = t } ∷ done))
after_value (in_object place done np name ne ∷ stack) t n close_object =
    to stack (value_done (object place (back_members done (member np name ne t end_of_object)) n))
after_value _ t n _ = None

abbrev pub step_constant : List Frame → Constant → ℕ → List ℕ → ℕ → ℕ → Option Partial
step_constant stack which place [] n b = after_value stack (constant which place) n (class_of b)
step_constant stack which place (a ∷ []) n b = if b == a then to stack (value_done (constant which place)) else None
step_constant stack which place (a ∷ c ∷ left) n b = if b == a then to stack (constant_on which place (c ∷ left)) else None

abbrev pub step_number : List Frame → ℕ → List ℕ → ℕ → Bool → Option Partial → Option Partial
step_number stack place so_far b true ended = to stack (number_on place (so_far ++ b ∷ []))
step_number stack place so_far b false ended = ended

abbrev pub step_string : List Frame → ℕ → List ℕ → ℕ → StringStep → Option Partial
step_string stack place so_far n string_ends = to stack (value_done (string place so_far (n + 1)))
step_string stack place so_far n (string_goes more state) = to stack (string_on place (so_far ++ more) state)
step_string stack place so_far n string_refuses = None

abbrev pub step_name : List Frame → ℕ → List Member → ℕ → List ℕ → ℕ → StringStep → Option Partial
step_name stack place done np so_far n string_ends = to stack (colon_due place done np so_far (n + 1))
step_name stack place done np so_far n (string_goes more state) = to stack (name_on place done np (so_far ++ more) state)
step_name stack place done np so_far n string_refuses = None

abbrev pub step_leaf : List Frame → Leaf → ℕ → ℕ → Option Partial
step_leaf stack value_due n b = step_value_due stack n b (class_of b)
step_leaf stack (value_done t) n b = after_value stack t n (class_of b)
step_leaf stack (array_opened place) n b = step_array_opened stack place n b (class_of b)
step_leaf stack (object_opened place) n b = step_object_opened stack place n (class_of b)
step_leaf stack (constant_on which place left) n b = step_constant stack which place left n b
step_leaf stack (number_on place so_far) n b =
    step_number stack place so_far b (begins_number (so_far ++ b ∷ []))
    (if is_number so_far then after_value stack (number place so_far n) n (class_of b) else None)
step_leaf stack (string_on place so_far state) n b = step_string stack place so_far n (string_next state b)
step_leaf stack (name_due place done) n b = step_name_due stack place done n (class_of b)
step_leaf stack (name_on place done np so_far state) n b = step_name stack place done np so_far n (string_next state b)
step_leaf stack (colon_due place done np name ne) n b = step_colon_due stack place done np name ne (class_of b)

abbrev pub with_mark : Bool → Option Partial → Option Broken
with_mark marked (Some s) = Some (begun marked s)
with_mark marked None = None

-- the byte b at the place n
abbrev pub step : Broken → ℕ → ℕ → Option Broken
step text_due n b = if b == mark_first then Some mark_one else with_mark false (step_value_due [] n b (class_of b))
step mark_one n b = if b == mark_second then Some mark_two else None
step mark_two n b = if b == mark_third then Some (begun true (record { stack = []; leaf = value_due })) else None
step (begun marked s) n b = with_mark marked (step_leaf s.stack s.leaf n b)

abbrev pub run_from : Option Broken → ℕ → List ℕ → Option Broken
run_from s n [] = s
run_from None n (b ∷ bytes) = None
run_from (Some s) n (b ∷ bytes) = run_from (step s n b) (n + 1) bytes

-- what these bytes are the beginning of
abbrev pub run : List ℕ → Option Broken
run bytes = run_from (Some text_due) 0 bytes

-- the value, where it may end here
abbrev pub finish_leaf : List Frame → Leaf → ℕ → Option Tree
finish_leaf [] (value_done t) n = Some t
finish_leaf [] (constant_on which place []) n = Some (constant which place)
finish_leaf [] (number_on place so_far) n = if is_number so_far then Some (number place so_far n) else None
finish_leaf _ _ n = None

abbrev pub text_with : Bool → Option Tree → Option Text
text_with marked (Some t) = Some (record { marked = marked; value = t })
text_with marked None = None

abbrev pub finish : Broken → ℕ → Option Text
finish (begun marked s) n = text_with marked (finish_leaf s.stack s.leaf n)
finish _ n = None
