-- A byte of a string ends one character at the most.
use Rattle.gj_json.proofs.Common.{Bool, Lead, None, Option, Plain, Some, StringState, StringStep, backslash, false, if◌then◌else◌, letter_u, nat_le}
use Rattle.gj_json.proofs.Common.{refl, space, string_ends, string_goes, string_move, string_next, string_refuses, suc, true, within, zero, ℕ, []}
use Rattle.gj_json.proofs.Common.{◌%◌, ◌&&◌, ◌*◌, ◌+◌, ◌==◌, ◌∷◌, ◌≡◌}
use Rattle.gj_json.specs.Bytes.{quote}
use Rattle.gj_json.specs.Characters.{escape_of, hex_of}
use Rattle.gj_json.specs.Utf8Bytes.{lead_of}
use Rattle.gj_json.specs.declared.mode.StringState.TheVariants.{Escape, HexDue, HexOne, HexTwo, HexThree, InCharacter}
use Rattle.gj_json.specs.declared.mode.StringMove.TheVariants.{Goes, Reads}
use Rattle.gj_json.specs.Internal.TextMachine.{plain_step, escape_step, hex_step, hex_end}
use Rattle.gj_json.specs.Internal.TextMachine.{lead_step, tail_step}

-- where a character ends, none is under way
abbrev pub OneCharacter : StringStep → Type 0
OneCharacter (string_goes [] state) = Unit {0}
OneCharacter (string_goes (c ∷ []) state) = state ≡ Plain
OneCharacter (string_goes (c ∷ d ∷ more) state) = ⊥
OneCharacter _ = Unit {0}

escaped_one : (o : Option ℕ) → OneCharacter (escape_step o)
escaped_one None = tt
escaped_one (Some c) = refl

hex_one : (goes : ℕ → StringStep) → ((d : ℕ) → OneCharacter (goes d)) → (o : Option ℕ) → OneCharacter (hex_step goes o)
hex_one goes h None = tt
hex_one goes h (Some d) = h d

lead_one : (o : Option Lead) → OneCharacter (lead_step o)
lead_one None = tt
lead_one (Some first) = tt

tail_one : (more value : ℕ) → OneCharacter (tail_step more value)
tail_one zero value = refl
tail_one (suc more) value = tt

plain_one : (b : ℕ) → OneCharacter (plain_step b)
unfolding plain_step
plain_one b = go (b == quote)
  where
    third : (t : Bool) → OneCharacter (if t then string_goes (b ∷ []) Plain else lead_step (lead_of b))
    third true = refl
    third false = lead_one (lead_of b)

    second : (t : Bool) → OneCharacter
        (if t then string_goes [] Escape else (if nat_le space b && nat_le b 0x7F then string_goes (b ∷ []) Plain else lead_step (lead_of b)))
    second true = tt
    second false = third (nat_le space b && nat_le b 0x7F)

    go : (t : Bool) → OneCharacter
        (if t then string_ends else
        (if b == backslash then string_goes [] Escape else (if nat_le space b && nat_le b 0x7F then string_goes (b ∷ []) Plain else lead_step (lead_of b))))
    go true = tt
    go false = second (b == backslash)

pub one_character : (state : StringState) (b : ℕ) → OneCharacter (string_next state b)
one_character Plain b = plain_one b
one_character Escape b = go (b == letter_u)
  where
    go : (t : Bool) → OneCharacter (if t then string_goes [] HexDue else escape_step (escape_of b))
    go true = tt
    go false = escaped_one (escape_of b)
one_character HexDue b = hex_one (λ d. string_goes [] (HexOne d)) (λ d. tt) (hex_of b)
one_character (HexOne v) b = hex_one (λ d. string_goes [] (HexTwo (v * 16 + d))) (λ d. tt) (hex_of b)
one_character (HexTwo v) b = hex_one (λ d. string_goes [] (HexThree (v * 16 + d))) (λ d. tt) (hex_of b)
one_character (HexThree v) b = hex_one (λ d. hex_end (v * 16 + d)) (λ d. refl) (hex_of b)
one_character (InCharacter more bounds value) b = go (within bounds b)
  where
    go : (t : Bool) → OneCharacter (if t then tail_step more (value * 64 + b % 64) else string_refuses)
    go true = tail_one more (value * 64 + b % 64)
    go false = tt

-- what the code says of a step
pub goes_is : (s : StringStep) (next : StringState) → string_move s ≡ Goes next → s ≡ string_goes [] next
goes_is string_ends next e = cc
goes_is (string_goes [] state) next e = let f : state ≡ next = cc in rw f refl
goes_is other next e = cc

pub reads_is : (s : StringStep) (c : ℕ) → OneCharacter s → string_move s ≡ Reads c → s ≡ string_goes (c ∷ []) Plain
reads_is string_ends c o e = cc
reads_is (string_goes [] state) c o e = cc
reads_is (string_goes (d ∷ []) state) c o e = let f : d ≡ c = cc in rw (f, o) refl
reads_is (string_goes (d ∷ x ∷ more) state) c o e = absurd o
reads_is string_refuses c o e = cc
