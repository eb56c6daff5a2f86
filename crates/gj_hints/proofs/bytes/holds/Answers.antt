use Rattle.std.proofs.Common.{arith, ◌≡◌, ℕ, ◌||◌, true, false, List, [], ◌∷◌, ap, refl, sym, ◌∙◌, subst, length}
use Rattle.gj_hints.specs.Bytes.{begins, holds}
use Rattle.gj_hints.proofs.bytes.holds.Goals as goal

here : (bytes part : List ℕ) → begins bytes part ≡ true → holds bytes part ≡ true
unfolding holds
here [] part begun = begun
here (byte ∷ bytes) part begun = ap (λ t. t || holds bytes part) begun

later : (byte : ℕ) (bytes part : List ℕ) → begins (byte ∷ bytes) part ≡ false → holds (byte ∷ bytes) part ≡ holds bytes part
unfolding holds
later byte bytes part begun = ap (λ t. t || holds bytes part) begun

later-of : (rest : List ℕ) (byte : ℕ) (bytes part : List ℕ) → rest ≡ byte ∷ bytes → begins rest part ≡ false → holds rest part ≡ holds bytes part
later-of rest byte bytes part is begun =
    ap (λ (l : List ℕ). holds l part) is ∙ later byte bytes part (subst (λ (l : List ℕ). begins l part ≡ false) is begun)

at-end : (rest part : List ℕ) → length rest ≡ 0 → holds rest part ≡ begins rest part
unfolding holds
at-end [] part none = refl
at-end (byte ∷ rest) part none = absurd (omega (arith, none))

pub loop-more-init : goal.loop-more-init
loop-more-init c = refl

pub returns-then-begins : goal.returns-then-begins
returns-then-begins c =
    sym (c.loop-more.invariant ∙ here c.loop-more.rest.now c.args.part.now (sym c.begins.ensures ∙ c.if-begins.true))

pub loop-more-smaller : goal.loop-more-smaller
loop-more-smaller c = omega (arith, ap (λ (l : List ℕ). length l) c.in-Some.ensures.cases.0)

pub loop-more-preserved : goal.loop-more-preserved
loop-more-preserved c =
    c.loop-more.invariant ∙ later-of c.loop-more.rest.now c.in-Some.field-0-0.now c.in-Some.more.now c.args.part.now c.in-Some.ensures.cases.0
    (sym c.begins.ensures ∙ c.if-begins.false)

pub returns : goal.returns
returns c = c.begins-2.ensures ∙ (sym (at-end c.loop-more.rest.now c.args.part.now c.in_default.ensures.cases) ∙ sym c.loop-more.invariant)
