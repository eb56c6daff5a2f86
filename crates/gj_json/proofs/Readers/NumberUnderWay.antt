-- What the literal that is kept says of the number under way.
use Rattle.gj_json.proofs.Common.{ComesFrom, Content, Exact, HasValue, HasWords, IsNumber, Keeps, List, Literal, None, NumberTurn, Option, Reader}
use Rattle.gj_json.proofs.Common.{Refuses, Some, StringState, Turns, Under, Words, false, in_number, refl, string_goes, string_next, sym, text_state}
use Rattle.gj_json.proofs.Common.{true, turn_of, value_of, words_in, words_of, ℕ, [], ◌++◌, ◌∙◌, ◌∷◌, ◌≡◌}
use Rattle.std.proofs.lemmas.Bool.{false_from_ne_true}
use Rattle.gj_number.specs.DecidedNumbers.{is_number, begins_number}
use Rattle.gj_number.proofs.Grammar.DecidedNumbers.{number as decided_number, begins}
use Rattle.gj_json.specs.Internal.ToldEvents.{Goes, Ends}
use Rattle.gj_json.specs.Internal.UnderWay.{nothing, number, text, TurnSays, LiteralSays, LiteralGoes}
use Rattle.gj_json.specs.Internal.UnderWay.{ContentGoes}
use Rattle.gj_json.proofs.Machine.BytesUnderWay.{has_number, state_under}
use Rattle.gj_json.proofs.Readers.ContentLetters.{holds_words}

turn_is : (xs : List ℕ) (b : ℕ) (turn : NumberTurn) → TurnSays turn xs b → turn ≡ turn_of (begins_number (xs ++ b ∷ [])) (is_number xs)
turn_is xs b Goes h = rw ((begins (xs ++ b ∷ [])).1 h) refl
turn_is xs b Ends h = rw (false_from_ne_true (begins_number (xs ++ b ∷ [])) (λ e. h.0 ((begins (xs ++ b ∷ [])).0 e)), (decided_number xs).1 h.1) refl
turn_is xs b Refuses h =
    rw (
      false_from_ne_true (begins_number (xs ++ b ∷ [])) (λ e. h.0 ((begins (xs ++ b ∷ [])).0 e)),
      false_from_ne_true (is_number xs)
          (λ e. h.1 ((decided_number xs).0 e)),
    ) refl

ended : (bytes : List ℕ) (b : ℕ) (turn : NumberTurn) → TurnSays turn bytes b → turn ≡ Ends → IsNumber bytes
ended bytes b Goes h e = cc
ended bytes b Ends h e = h.1
ended bytes b Refuses h e = cc

pub turns_by : (u : Under) (reader : Reader) (b : ℕ) (turn : NumberTurn) (value : Option Exact) → LiteralSays reader b turn value
    → Keeps u reader.literal reader.content → in_number reader.mode ≡ has_number u → Turns u b turn × HasValue u turn value
turns_by nothing reader b turn value h k m = (tt, tt)
turns_by (text so_far state) reader b turn value h k m = (tt, tt)
turns_by (number so_far) reader b turn value h k m = (
  turn_is so_far b turn (h.turns so_far m k),
  λ f. h.values f so_far m k (ended so_far b turn (h.turns so_far m k) f),
)

-- what a byte does to a state, and the value of the number
abbrev pub own_turn : Under → ℕ → NumberTurn
own_turn (number so_far) b = turn_of (begins_number (so_far ++ b ∷ [])) (is_number so_far)
own_turn _ b = Goes

pub own_turns : (u : Under) (b : ℕ) → Turns u b (own_turn u b)
own_turns nothing b = tt
own_turns (text so_far state) b = tt
own_turns (number so_far) b = refl

abbrev pub own_value : Under → Option Exact
own_value (number so_far) = value_of so_far
own_value _ = None

pub own_has : (u : Under) (turn : NumberTurn) → HasValue u turn (own_value u)
own_has nothing turn = tt
own_has (text so_far state) turn = tt
own_has (number so_far) turn = λ e. refl

-- where a number is under way after a byte of a number
pub came_number : (so_far : List ℕ) (b : ℕ) (u : Under) → has_number u ≡ true → ComesFrom (number so_far) b u → u ≡ number (so_far ++ b ∷ [])
came_number so_far b nothing e c = cc
came_number so_far b (text xs st) e c = cc
came_number so_far b (number xs) e c = rw (c.0) refl

-- where a string is under way after a byte of a string
pub came_text : (so_far more : List ℕ) (state next : StringState) (b : ℕ) → string_next state b ≡ string_goes more next → (u : Under)
    → state_under u ≡ Some next → ComesFrom (text so_far state) b u → u ≡ text (so_far ++ more) next
came_text so_far more state next b n nothing e c = cc
came_text so_far more state next b n (number xs) e c = cc
came_text so_far more state next b n (text xs st) e c =
    let f : c.0 ≡ more = (let g = sym c.2 ∙ n in cc) in
    let g : st ≡ next = cc in
    rw (c.1, f, g) refl

-- where no number is under way, nothing is kept
pub keeps_none : (u : Under) (literal : Literal) (content : Content) → has_number u ≡ false → state_under u ≡ None → Keeps u literal content
keeps_none nothing literal content e f = tt
keeps_none (text so_far state) literal content e f = cc
keeps_none (number so_far) literal content e f = cc

-- what is kept after the byte
pub keeps_on : (before after : Under) (old new : Reader) (b : ℕ) (turn : NumberTurn) → ComesFrom before b after → Keeps before old.literal old.content
    → Turns before b turn → LiteralGoes old new b turn → ContentGoes old new b
    → in_number old.mode ≡ has_number before → in_number new.mode ≡ has_number after → text_state old.mode ≡ state_under before
    → text_state new.mode ≡ state_under after → Keeps after new.literal new.content
keeps_on before nothing old new b turn c k t g w m n p q = tt
keeps_on nothing (text so_far state) old new b turn c k t g w m n p q = rw (c.0) (w.begins state m p q)
keeps_on (number xs) (text so_far state) old new b turn c k t g w m n p q = absurd c
keeps_on (text xs st) (text so_far state) old new b turn c k t g w m n p q = rw (c.1) (w.goes st state c.0 xs p c.2 k)
keeps_on nothing (number so_far) old new b turn c k t g w m n p q = rw (c.0) (g.begins m p n (rw (c.0) at c.1))
keeps_on (number xs) (number so_far) old new b turn c k t g w m n p q =
    let e : begins_number (xs ++ b ∷ []) ≡ true = (begins (xs ++ b ∷ [])).1 (rw (c.0) at c.1) in
    rw (c.0) (g.goes (t ∙ rw e refl) xs m n k)
keeps_on (text xs st) (number so_far) old new b turn c k t g w m n p q = absurd c

-- which name or type the string under way is
pub words_by : (u : Under) (literal : Literal) (content : Content) → Keeps u literal content → HasWords u (words_in content)
words_by nothing literal content k = tt
words_by (number so_far) literal content k = tt
words_by (text so_far state) literal content k = holds_words content so_far k

abbrev pub own_words : Under → Words
own_words (text so_far state) = words_of so_far
own_words _ = words_of []

pub own_has_words : (u : Under) → HasWords u (own_words u)
own_has_words nothing = tt
own_has_words (number so_far) = tt
own_has_words (text so_far state) = refl
