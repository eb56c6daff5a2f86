-- What a byte does, from what the reader keeps alone.
use Rattle.std.specs.Prelude.{ℕ, ◌+◌, ◌==◌, ◌<◌, ◌-◌, if◌then◌else◌, Option, Some, length, slice_index, [], ◌∷◌}
use Rattle.gj_json.specs.declared.class.Class.{Class}
use Rattle.gj_json.specs.declared.class.Class.TheVariants.{White, OpenArray, CloseArray, OpenObject, CloseObject, Comma, Colon, Quote, NumberStart, Letter}
use Rattle.gj_json.specs.declared.constant.Constant.{Constant}
use Rattle.gj_json.specs.Internal.ToldEvents.{NumberTurn}
use Rattle.gj_json.specs.declared.mode.StringState.{StringState}
use Rattle.gj_json.specs.declared.mode.StringState.TheVariants.{Plain, Escape, HexDue, HexOne, HexTwo, HexThree, InCharacter}
use Rattle.gj_json.specs.declared.mode.StringMove.{StringMove}
use Rattle.gj_json.specs.declared.mode.StringMove.TheVariants.{Ends, Goes, Reads, Refuses}
use Rattle.gj_json.specs.declared.levels.Level.{Level}
use Rattle.gj_json.specs.declared.levels.Level.TheVariants.{Array, Object}
use Rattle.gj_json.specs.declared.mode.Mode.{Mode}
use Rattle.gj_json.specs.declared.mode.Mode.TheVariants.{ValueDue, ValueDone, ArrayOpened, ObjectOpened, ConstantOn, NumberOn, StringOn, NameDue, NameOn}
use Rattle.gj_json.specs.declared.mode.Mode.TheVariants.{ColonDue, TextDue, MarkOne, MarkTwo}
use Rattle.gj_json.specs.declared.mode.Ending.TheVariants.{Nothing, Mark, Literal, Text, Name, Item}
use Rattle.gj_json.specs.Internal.ContentWords.{Words}
use Rattle.gj_json.specs.declared.mode.Move.{Move}
use Rattle.gj_json.specs.declared.mode.Move.TheVariants.{Refuse, Go, Open, Close}
use Rattle.gj_json.specs.Internal.NamedBytes.{mark_first, mark_second, mark_third}
use Rattle.gj_json.specs.Internal.ByteClasses.{class_of}
use Rattle.gj_json.specs.Grammar.{letters_of}
use Rattle.gj_json.specs.Internal.TextMachine.{StringStep, string_ends, string_goes, string_refuses, string_next}

abbrev pub string_move : StringStep → StringMove
string_move string_ends = Ends
string_move (string_goes [] state) = Goes state
-- a character has ended, and none is under way
string_move (string_goes (c ∷ more) state) = Reads c
string_move string_refuses = Refuses

abbrev pub begin_move : Class → Move
begin_move OpenArray = Open Array
begin_move OpenObject = Open Object
begin_move Quote = Go (StringOn Plain) Nothing
begin_move NumberStart = Go NumberOn Nothing
begin_move (Letter which) = Go (ConstantOn which 1) Nothing
begin_move _ = Refuse

abbrev pub due_move : Class → Move
due_move White = Go ValueDue Nothing
due_move c = begin_move c

abbrev pub array_move : Class → Move
array_move White = Go ArrayOpened Nothing
array_move CloseArray = Close Array
array_move c = begin_move c

abbrev pub name_move : Class → Move
name_move Quote = Go (NameOn Plain) Nothing
name_move _ = Refuse

abbrev pub object_move : Class → Move
object_move White = Go ObjectOpened Nothing
object_move CloseObject = Close Object
object_move c = name_move c

abbrev pub name_due_move : Class → Move
name_due_move White = Go NameDue Nothing
name_due_move c = name_move c

abbrev pub colon_move : Class → Move
colon_move White = Go ColonDue Nothing
colon_move Colon = Go ValueDue Nothing
colon_move _ = Refuse

abbrev pub after_move : Option Level → Class → Move
after_move inner White = Go ValueDone Nothing
after_move (Some Array) Comma = Go ValueDue Item
after_move (Some Array) CloseArray = Close Array
after_move (Some Object) Comma = Go NameDue Item
after_move (Some Object) CloseObject = Close Object
after_move _ _ = Refuse

abbrev pub constant_move : Constant → ℕ → ℕ → Move
constant_move which count b =
    if b == slice_index (letters_of which) count
    then (if count + 1 == length (letters_of which) then Go ValueDone (Literal which) else Go (ConstantOn which (count + 1)) Nothing)
    else Refuse

abbrev pub number_move : NumberTurn → Move → Move
number_move NumberTurn.Goes after = Go NumberOn Nothing
number_move NumberTurn.Ends after = after
number_move NumberTurn.Refuses after = Refuse

-- where these say which type or name the string or the name under way is
abbrev pub value_string_move : Words → StringMove → Move
value_string_move words Ends = Go ValueDone (Text words.word)
value_string_move words (Goes state) = Go (StringOn state) Nothing
value_string_move words (Reads c) = Go (StringOn Plain) Nothing
value_string_move words Refuses = Refuse

abbrev pub name_string_move : Words → StringMove → Move
name_string_move words Ends = Go ColonDue (Name words.known)
name_string_move words (Goes state) = Go (NameOn state) Nothing
name_string_move words (Reads c) = Go (NameOn Plain) Nothing
name_string_move words Refuses = Refuse

-- what the byte does to a number under way counts in that mode alone
abbrev pub move_of : Mode → NumberTurn → Option Level → Words → ℕ → Move
move_of TextDue turn inner words b = if b == mark_first then Go MarkOne Nothing else due_move (class_of b)
move_of MarkOne turn inner words b = if b == mark_second then Go MarkTwo Nothing else Refuse
move_of MarkTwo turn inner words b = if b == mark_third then Go ValueDue Mark else Refuse
move_of ValueDue turn inner words b = due_move (class_of b)
move_of ValueDone turn inner words b = after_move inner (class_of b)
move_of ArrayOpened turn inner words b = array_move (class_of b)
move_of ObjectOpened turn inner words b = object_move (class_of b)
move_of (ConstantOn which count) turn inner words b = constant_move which count b
move_of NumberOn turn inner words b = number_move turn (after_move inner (class_of b))
move_of (StringOn state) turn inner words b = value_string_move words (string_move (string_next state b))
move_of NameDue turn inner words b = name_due_move (class_of b)
move_of (NameOn state) turn inner words b = name_string_move words (string_move (string_next state b))
move_of ColonDue turn inner words b = colon_move (class_of b)

-- ---- which states the reader keeps, said by a number that is not 0

-- what the bits of a character stay below, where so many bytes follow the next
abbrev pub value_limit : ℕ → ℕ
value_limit more = if more == 0 then 65536 else (if more == 1 then 1024 else (if more == 2 then 16 else 0))

abbrev pub room : StringState → ℕ
room Plain = 1
room Escape = 1
room HexDue = 1
room (HexOne value) = 16 - value
room (HexTwo value) = 256 - value
room (HexThree value) = 4096 - value
room (InCharacter more bounds value) = value_limit more - value

abbrev pub IsStringState : StringState → Type 0
IsStringState state = 0 < room state

abbrev pub IsStringMove : StringMove → Type 0
IsStringMove Ends = Unit {0}
IsStringMove (Goes state) = IsStringState state
IsStringMove (Reads c) = Unit {0}
IsStringMove Refuses = Unit {0}

-- how much room the numbers of a mode leave: the letters of a literal name that are to come, the room of a string's state
abbrev pub letters_left : Mode → ℕ
letters_left (StringOn state) = room state
letters_left (NameOn state) = room state
letters_left (ConstantOn which count) = length (letters_of which) - count
letters_left _ = 1

abbrev pub IsMode : Mode → Type 0
IsMode mode = 0 < letters_left mode

abbrev pub IsMove : Move → Type 0
IsMove Refuse = Unit {0}
IsMove (Go mode ending) = IsMode mode
IsMove (Open level) = Unit {0}
IsMove (Close level) = Unit {0}
