-- What is viable is a text broken off, in one way.
use Rattle.gj_json.proofs.Common.{IsText, IsViable, IsViableWithin, List, None, Option, Some, SpellsBroken, Text, broken_depth, length, refl, run}
use Rattle.gj_json.proofs.Common.{sym, ℕ, ◌++◌, ◌↔◌, ◌∙◌, ◌≡◌, ◌≤◌}
use Rattle.gj_json.specs.Broken.{Broken, Extends}
use Rattle.gj_json.proofs.Machine.Completions.{Goes, TextFrom}
use Rattle.gj_json.proofs.Machine.MachineTexts.{text_goes_on}
use Rattle.gj_json.proofs.Machine.CompletableStates.{FitsRun, viable_fits}
use Rattle.gj_json.proofs.Readers.ReadBytes.{some_viable, well_viable}
use Rattle.gj_json.proofs.Machine.ReachedStates.{reached}
use Rattle.gj_json.proofs.Machine.StateDepths.{broken_fits, fit_broken}
use Rattle.gj_json.proofs.Machine.LeftParts.{run_extends}
use Rattle.gj_json.proofs.Machine.SpelledSteps.{spelled}
use Rattle.gj_json.proofs.Machine.ReadBrokenTexts.{broken_run}

pub viable_within : (levels : ℕ) (bytes : List ℕ)
    → IsViableWithin levels bytes ↔ ((broken : Broken) × SpellsBroken broken bytes × (broken_depth broken ≤ levels))
viable_within levels bytes = (
  λ v. go (run bytes) refl (viable_fits levels bytes v),
  λ b. well_viable levels bytes b.0 (broken_run b.0 bytes b.1) (fit_broken levels b.0 b.2),
)
  where
    go : (o : Option Broken) → run bytes ≡ o → FitsRun levels o → (broken : Broken) × SpellsBroken broken bytes × (broken_depth broken ≤ levels)
    go None e f = absurd f
    go (Some s) e f = (s, spelled bytes s e, broken_fits levels s f)

pub viable : (bytes : List ℕ) → IsViable bytes ↔ ((broken : Broken) × SpellsBroken broken bytes)
viable bytes = (
  λ v. go (run bytes) refl v.1 v.0 (text_goes_on v.1 bytes v.0 v.2),
  λ b. let e = broken_run b.0 bytes b.1 in let r = reached bytes b.0 e in some_viable _ bytes b.0 e (r.fits 0),
)
  where
    go : (o : Option Broken) → run bytes ≡ o → (T : Text) (rest : List ℕ) → Goes (TextFrom T (length bytes) rest) o → (broken : Broken)
        × SpellsBroken broken bytes
    go None e T rest h = absurd h
    go (Some s) e T rest h = (s, spelled bytes s e)

pub one_broken : (first second : Broken) (bytes : List ℕ) → SpellsBroken first bytes → SpellsBroken second bytes → first ≡ second
one_broken first second bytes h k = let e : Some first ≡ Some second = sym (broken_run first bytes h) ∙ broken_run second bytes k in cc

pub extends : (broken : Broken) (text : Text) (bytes rest : List ℕ) → SpellsBroken broken bytes → IsText text (bytes ++ rest) → Extends broken text
extends broken text bytes rest h t = run_extends bytes rest text broken (broken_run broken bytes h) t
