use Rattle.gj_number.proofs.Common.{AfterLetter, AfterMinus, AfterPoint, AfterSign, AfterZero, InExponent, InFraction, InNatural, Scan, Some, Start}
use Rattle.gj_number.proofs.Common.{State, arith, next_of, refl, taken, ℕ, ◌≡◌}
use Rattle.gj_number.specs.Internal.NumberMachine.{class_of}
use Rattle.gj_number.specs.Literal.{KeepsScan}
use Rattle.gj_number.specs.declared.literal.Literal.{Literal}
use Rattle.gj_number.proofs.Grammar.StateMoves.{digit_into, before_fraction_from}
use Rattle.gj_number.proofs.literal.Literal.take.Goals as goal

pub overflow_sub-byte : goal.overflow_sub-byte
overflow_sub-byte c = let d = digit_into c.args.self.now.state InNatural c.args.byte refl (rw c.in-InNatural.is at c.requires) in d.0

pub push_natural-requires : goal.push_natural-requires
push_natural-requires c = let d = digit_into c.args.self.now.state InNatural c.args.byte refl (rw c.in-InNatural.is at c.requires) in omega arith

pub overflow_sub-byte-in-InFraction : goal.overflow_sub-byte-in-InFraction
overflow_sub-byte-in-InFraction c = let d = digit_into c.args.self.now.state InFraction c.args.byte refl (rw c.in-InFraction.is at c.requires) in d.0

pub push_fraction-requires : goal.push_fraction-requires
push_fraction-requires c = let d = digit_into c.args.self.now.state InFraction c.args.byte refl (rw c.in-InFraction.is at c.requires) in omega arith

pub overflow_sub-byte-in-InExponent : goal.overflow_sub-byte-in-InExponent
overflow_sub-byte-in-InExponent c = let d = digit_into c.args.self.now.state InExponent c.args.byte refl (rw c.in-InExponent.is at c.requires) in d.0

pub push-requires : goal.push-requires
push-requires c = let d = digit_into c.args.self.now.state InExponent c.args.byte refl (rw c.in-InExponent.is at c.requires) in omega arith

pub returns-in-InNatural : goal.returns-in-InNatural
returns-in-InNatural c scan k =
    let before = before_fraction_from scan.state InNatural (class_of c.args.byte) (rw (k.state, c.in-InNatural.is) at c.requires) refl in
    let none = k.before_fraction before in
    let old = rw none at k.digits in
    rw (c.in-InNatural.is) (record {
      state = refl;
      negative = k.negative;
      digits = rw none (c.push_natural.ensures scan.whole old);
      exponent_negative = k.exponent_negative;
      exponent = k.exponent;
      before_fraction = (λ _. none);
    })

pub returns-in-InFraction : goal.returns-in-InFraction
returns-in-InFraction c scan k =
    rw (c.in-InFraction.is) (record {
      state = refl;
      negative = k.negative;
      digits = c.push_fraction.ensures scan.whole scan.fraction k.digits;
      exponent_negative = k.exponent_negative;
      exponent = k.exponent;
      before_fraction = (λ e. cc);
    })

-- a byte that no part of the number keeps
other : (literal : Literal) (state : State) (byte : ℕ) (scan : Scan) → next_of literal.state (class_of byte) ≡ Some state → (state ≡ AfterMinus → ⊥)
    → (state ≡ InNatural → ⊥) → (state ≡ InFraction → ⊥) → (state ≡ AfterSign → ⊥) → (state ≡ InExponent → ⊥)
    → KeepsScan literal scan
    → KeepsScan (record { digits = literal.digits; exponent = literal.exponent; state = state; negative = literal.negative }) (taken state byte scan)
other literal AfterMinus byte scan e a b d f g k = absurd (a refl)
other literal InNatural byte scan e a b d f g k = absurd (b refl)
other literal InFraction byte scan e a b d f g k = absurd (d refl)
other literal AfterSign byte scan e a b d f g k = absurd (f refl)
other literal InExponent byte scan e a b d f g k = absurd (g refl)
other literal Start byte scan e a b d f g k =
    record {
      state = refl;
      negative = k.negative;
      digits = k.digits;
      exponent_negative = k.exponent_negative;
      exponent = k.exponent;
      before_fraction =
          λ t. k.before_fraction (before_fraction_from scan.state Start (class_of byte) (rw (k.state) at e) t);
    }
other literal AfterZero byte scan e a b d f g k =
    record {
      state = refl;
      negative = k.negative;
      digits = k.digits;
      exponent_negative = k.exponent_negative;
      exponent = k.exponent;
      before_fraction =
          λ t. k.before_fraction (before_fraction_from scan.state AfterZero (class_of byte) (rw (k.state) at e) t);
    }
other literal AfterPoint byte scan e a b d f g k =
    record {
      state = refl;
      negative = k.negative;
      digits = k.digits;
      exponent_negative = k.exponent_negative;
      exponent = k.exponent;
      before_fraction =
          λ t. k.before_fraction (before_fraction_from scan.state AfterPoint (class_of byte) (rw (k.state) at e) t);
    }
other literal AfterLetter byte scan e a b d f g k =
    record {
      state = refl;
      negative = k.negative;
      digits = k.digits;
      exponent_negative = k.exponent_negative;
      exponent = k.exponent;
      before_fraction =
          λ t. k.before_fraction (before_fraction_from scan.state AfterLetter (class_of byte) (rw (k.state) at e) t);
    }

pub returns-in_default : goal.returns-in_default
returns-in_default c scan k =
    other c.args.self.now c.args.state c.args.byte scan c.requires c.in_default.not-AfterMinus c.in_default.not-InNatural c.in_default.not-InFraction
    c.in_default.not-AfterSign c.in_default.not-InExponent k
