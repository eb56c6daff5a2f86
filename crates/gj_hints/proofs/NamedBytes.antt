-- The choices that are named, one after another.
use Rattle.std.proofs.Common.{◌≡◌, ℕ, ◌+◌, ◌<◌, Bool, true, false, ◌&&◌, ◌||◌, List, length, drop, get_or, refl, add-one, drop-cons}
use Rattle.std.proofs.Math.Bool.{beq}
use Rattle.gj_hints.specs.Choices.{has}
use Rattle.gj_hints.specs.Expected.{is_named_in}
use Rattle.gj_hints.specs.declared.choice.Choice.{Choice}
use Rattle.gj_hints.specs.declared.choice.Choice.TheVariants.{ValueOrMark}

-- the choice at an index, and those after it
pub named-next : (byte : ℕ) (choices : List Choice) (named : List Bool) (i : ℕ) → i < length choices → i < length named → (x : Bool)
    → x ≡ (get_or named i false && has (get_or choices i ValueOrMark) byte)
    → is_named_in byte (drop i choices) (drop i named) ≡ (x || is_named_in byte (drop (i + 1) choices) (drop (i + 1) named))
named-next byte choices named i here there x e = rw (add-one, e, drop-cons choices i ValueOrMark here, drop-cons named i false there) refl

pub same-answer : (a b : Bool) → beq a b ≡ true → a ≡ b
same-answer true true e = refl
same-answer false false e = refl
same-answer true false e = cc
same-answer false true e = cc
