-- What a call of C asks and gives at a pointer to a handle, where the pointer may be null.
use Rattle.std.specs.Ptr.{Ptr, block_ptr, null_ptr, lies_at, room_at, if_non_null}
use base.Fraction.{full_share}
use base.Logic.{SProp, sep, ex}
use contract.Monad.{fact}
use denote.RattleType.{RattleType}
use denote.RawPtr.{Testable}
use seplogic.Ra.Ura.{Ura}
use types.Logic.{Logic, sem}

module _ {M : Type 1} {𝓤 : Ura M} (𝓛 : Logic 𝓤) (R : RattleType) where
  -- there is room for a handle
  abbrev pub HasRoom : Ptr → SProp 𝓤
  HasRoom at = sep 𝓤 (fact 𝓤 (Testable at)) (sem 𝓛 (if_non_null at (room_at R at)))

  -- this handle lies there
  abbrev pub Holds : Ptr → R.Denot → SProp 𝓤
  Holds at held = sep 𝓤 (fact 𝓤 (Testable at)) (sem 𝓛 (if_non_null at (lies_at R full_share at held)))

  -- the first at null; elsewhere the other, of the handle that then lies there
  abbrev pub Leaves : Ptr → Type 0 → (R.Denot → Type 0) → SProp 𝓤
  Leaves (block_ptr b o) at_null elsewhere = ex 𝓤 (λ (new : R.Denot). sep 𝓤 (sem 𝓛 (lies_at R full_share (block_ptr b o) new)) (fact 𝓤 (elsewhere new)))
  Leaves null_ptr at_null elsewhere = fact 𝓤 at_null
