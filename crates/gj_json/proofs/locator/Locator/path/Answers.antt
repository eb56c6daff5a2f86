-- The steps that are kept are the path.
use Rattle.gj_json.proofs.Common.{refl, sym, ◌∙◌}
use Rattle.gj_json.proofs.Paths.LocatorSteps.{path_told, path_taken, path_refused}
use Rattle.gj_json.proofs.locator.Locator.path.Goals as goal

pub returns-then-not-begins_value-clause-path : goal.returns-then-not-begins_value-clause-path
returns-then-not-begins_value-clause-path c =
    path_told c.args.self.now c.close.new.self (rw (sym c.begins_value.ensures ∙ c.if-not-begins_value.true) c.close.ensures)

pub returns-then-not-begins_value-clause-taken : goal.returns-then-not-begins_value-clause-taken
returns-then-not-begins_value-clause-taken c =
    path_taken c.args.self.now c.close.new.self (rw (sym c.begins_value.ensures ∙ c.if-not-begins_value.true) c.close.ensures)

pub returns-else-not-begins_value-clause-path : goal.returns-else-not-begins_value-clause-path
returns-else-not-begins_value-clause-path c =
    path_told c.args.self.now c.args.self.now.trail (rw (sym c.begins_value.ensures ∙ c.if-not-begins_value.false) refl)

pub returns-else-not-begins_value-clause-taken : goal.returns-else-not-begins_value-clause-taken
returns-else-not-begins_value-clause-taken c =
    path_taken c.args.self.now c.args.self.now.trail (rw (sym c.begins_value.ensures ∙ c.if-not-begins_value.false) refl)

pub returns-then-not-begins_value-clause-refused : goal.returns-then-not-begins_value-clause-refused
returns-then-not-begins_value-clause-refused c =
    path_refused c.args.self.now c.close.new.self (rw (sym c.begins_value.ensures ∙ c.if-not-begins_value.true) c.close.ensures)

pub returns-else-not-begins_value-clause-refused : goal.returns-else-not-begins_value-clause-refused
returns-else-not-begins_value-clause-refused c =
    path_refused c.args.self.now c.args.self.now.trail (rw (sym c.begins_value.ensures ∙ c.if-not-begins_value.false) refl)
