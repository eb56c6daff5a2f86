-- A text is what the machine reads from its start to its end.
use Rattle.gj_json.proofs.Common.{IsText, List, None, Option, Some, Spells, SpellsMark, Text, Tree, arith, finish, length, refl, run, run_from, step}
use Rattle.gj_json.proofs.Common.{subst, sym, ℕ, [], ◌++◌, ◌+◌, ◌∷◌, ◌≡◌}
use Rattle.std.proofs.lemmas.List.{append-nil}
use Rattle.gj_json.specs.Grammar.{Then, White}
use Rattle.gj_json.proofs.Grammar.SpelledForms
use Rattle.gj_json.specs.Internal.TextMachine.{Broken, text_due}
use Rattle.gj_json.proofs.Machine.Completions.{After, TextFrom, Goes, Due}
use Rattle.gj_json.proofs.Machine.StepsOfCompletions.{forward}
use Rattle.gj_json.proofs.Machine.CompletionsOfSteps.{backward}
use Rattle.gj_json.proofs.Machine.CompletedEnds.{finish_iff}

pub through : (bytes rest : List ℕ) (T : Text) (s : Broken) (n : ℕ) → TextFrom T n (bytes ++ rest) s
    → Goes (TextFrom T (n + length bytes) rest) (run_from (Some s) n bytes)
through [] rest T s n h = SpelledForms.moved (λ m bs. TextFrom T m bs s) (omega arith) refl h
through (b ∷ bytes) rest T s n h = go (λ t k. through bytes rest T t (n + 1) k) (step s n b) (forward s T n b (bytes ++ rest) h)
  where
    go : ((t : Broken) → TextFrom T (n + 1) (bytes ++ rest) t → Goes (TextFrom T (n + 1 + length bytes) rest) (run_from (Some t) (n + 1) bytes))
        → (o : Option Broken) → Goes (TextFrom T (n + 1) (bytes ++ rest)) o → Goes (TextFrom T (n + length (b ∷ bytes)) rest) (run_from o (n + 1) bytes)
    go ih None k = absurd k
    go ih (Some t) k = let e : n + 1 + length bytes ≡ n + length (b ∷ bytes) = omega arith in rw (← e) (ih t k)

pub back : (bytes rest : List ℕ) (T : Text) (s : Broken) (n : ℕ) → Goes (TextFrom T (n + length bytes) rest) (run_from (Some s) n bytes)
    → TextFrom T n (bytes ++ rest) s
back [] rest T s n h = SpelledForms.moved (λ m bs. TextFrom T m bs s) (omega arith) refl h
back (b ∷ bytes) rest T s n h = backward s T n b (bytes ++ rest) (go (λ t k. back bytes rest T t (n + 1) k) (step s n b) h)
  where
    go : ((t : Broken) → Goes (TextFrom T (n + 1 + length bytes) rest) (run_from (Some t) (n + 1) bytes) → TextFrom T (n + 1) (bytes ++ rest) t)
        → (o : Option Broken) → Goes (TextFrom T (n + length (b ∷ bytes)) rest) (run_from o (n + 1) bytes) → Goes (TextFrom T (n + 1) (bytes ++ rest)) o
    go ih None k = none bytes k
      where
        none : (bs : List ℕ) → Goes (TextFrom T (n + length (b ∷ bytes)) rest) (run_from None (n + 1) bs) → ⊥
        none [] k = k
        none (c ∷ bs) k = k
    go ih (Some t) k = let e : n + length (b ∷ bytes) ≡ n + 1 + length bytes = omega arith in ih t (rw (← e) k)

-- a text, and what the machine is to complete from its start
pub text_start : (T : Text) (bytes : List ℕ) → IsText T bytes → TextFrom T 0 bytes text_due
text_start T bytes h =
    SpelledForms.then_map {A = SpellsMark T.marked} {B = Then White (Then (Spells T.value) White)} {C = Due [] T.value}
    (λ m r k. (T.value, SpelledForms.behind (λ p q w. (w, refl)) k)) h

pub start_text : (T : Text) (bytes : List ℕ) → TextFrom T 0 bytes text_due → IsText T bytes
start_text T bytes h =
    let g : Then (SpellsMark T.marked) (Due [] T.value) 0 bytes = h in
    let k : Due [] T.value (0 + length g.first) g.rest = g.after in
    let w : Then White (Then (Spells k.0) (After [] k.0 T.value)) (0 + length g.first) g.rest = k.1 in
    let e : T.value ≡ k.0 = w.after.after.1 in
    let P : Tree → Type 0 = λ t. Then (SpellsMark T.marked) (Then White (Then (Spells t) White)) 0 bytes in
    subst P (sym e) (SpelledForms.joins g.first g.rest g.joined g.before (SpelledForms.rebuilt w w.after.after.0))

-- The main lemma: a text goes on from the state that its prefix leads to.
pub text_goes_on : (T : Text) (bytes rest : List ℕ) → IsText T (bytes ++ rest) → Goes (TextFrom T (length bytes) rest) (run bytes)
text_goes_on T bytes rest h =
    let e : 0 + length bytes ≡ length bytes = omega arith in
    rw (← e) (through bytes rest T text_due 0 (text_start T (bytes ++ rest) h))

pub text_from : (T : Text) (bytes rest : List ℕ) → Goes (TextFrom T (length bytes) rest) (run bytes) → IsText T (bytes ++ rest)
text_from T bytes rest h =
    let e : length bytes ≡ 0 + length bytes = omega arith in
    start_text T (bytes ++ rest) (back bytes rest T text_due 0 (rw (← e) h))

-- what a run that went well finishes with
abbrev pub Finishes : Text → ℕ → Option Broken → Type 0
Finishes T n None = ⊥
Finishes T n (Some s) = finish s n ≡ Some T

pub text_finishes : (T : Text) (bytes : List ℕ) → IsText T bytes → Finishes T (length bytes) (run bytes)
text_finishes T bytes h = go (run bytes) (text_goes_on T bytes [] (rw append-nil h))
  where
    go : (o : Option Broken) → Goes (TextFrom T (length bytes) []) o → Finishes T (length bytes) o
    go None k = k
    go (Some s) k = (finish_iff s T (length bytes)).0 k

pub finishes_text : (T : Text) (bytes : List ℕ) → Finishes T (length bytes) (run bytes) → IsText T bytes
finishes_text T bytes h = let g : IsText T (bytes ++ []) = text_from T bytes [] (go (run bytes) h) in rw (append-nil bytes) at g
  where
    go : (o : Option Broken) → Finishes T (length bytes) o → Goes (TextFrom T (length bytes) []) o
    go None k = k
    go (Some s) k = (finish_iff s T (length bytes)).1 k

-- bytes are the text of at most one tree
pub one_text : (T U : Text) (bytes : List ℕ) → IsText T bytes → IsText U bytes → T ≡ U
one_text T U bytes h k = go (run bytes) (text_finishes T bytes h) (text_finishes U bytes k)
  where
    go : (o : Option Broken) → Finishes T (length bytes) o → Finishes U (length bytes) o → T ≡ U
    go None a b = absurd a
    go (Some s) a b = cc
