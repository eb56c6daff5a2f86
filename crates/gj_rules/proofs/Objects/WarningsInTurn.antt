-- Warnings that are joined one after another.
use Rattle.gj_rules.proofs.Common.{Kind, Warnings, added, added_is, ap, joined_assoc, joined_none_first, joined_none_last, sym, ◌∙◌}
use Rattle.std.specs.Prelude.{◌≡◌, ℕ}
use Rattle.gj_coords.specs.Internal.KeptWarnings.{no_warnings, joined}

-- to none
pub to_none : (w : Warnings) → joined no_warnings w ≡ w
to_none w = joined_none_first w

-- none
pub with_none : (w : Warnings) → joined w no_warnings ≡ w
with_none w = joined_none_last w

-- some and one more
pub and_one : (a b : Warnings) (kind : Kind) (place : ℕ) → added (joined a b) kind place ≡ joined a (added b kind place)
and_one a b kind place = added_is (joined a b) kind place ∙ (joined_assoc a b _ ∙ ap (joined a) (sym (added_is b kind place)))
