-- What is kept is found in the record that is told last.
use Rattle.std.proofs.Common.{◌≡◌, true, false, refl, sym, subst, ◌∙◌}
use Rattle.geolint_c.specs.declared.finding.Finding.{Finding}
use Rattle.geolint_c.specs.Finding.{IsRecord}
use Rattle.geolint_c.proofs.records.RecordHandle.next.Goals as goal

pub returns : goal.returns
returns c = record {
  stands = λ framing limits bytes found s. s;
  finding = λ r earlier one last. subst (λ (it : Finding). IsRecord one it) (sym c.get.ensures) (last earlier one refl);
  pulled = refl;
  none = λ e. (let f : true ≡ false = sym c.if-not-self.false ∙ e in cc);
}
