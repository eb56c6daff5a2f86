use Rattle.geolint_report.proofs.Common.{◌++◌, ◌∷◌, [], ◌∙◌, subst, sym, Option, Asked}
use Rattle.gj_coords.specs.declared.fault.Fault.{Fault}
use Rattle.geolint_report.specs.declared.every.listing.Item.{Item}
use Rattle.geolint_report.specs.Every.{Keeps, notes_by, fault_note, warning_notes}
use Rattle.geolint_report.proofs.KeptNotes.{KeepsNotes-more}
use Rattle.geolint_report.proofs.every.listing.ListingFeatureSink.tell_feature.Goals as goal

pub returns-in-Some : goal.returns-in-Some
returns-in-Some c = λ features keeps.
    let old = c.args.self.now in
    let new = c.add_fault.new.self in
    let feature = c.args.feature.now in
    KeepsNotes-more old new features feature (c.add_fault.ensures.asked ∙ c.add_item.ensures.asked) (c.add_fault.ensures.items ∙ c.add_item.ensures.items)
    (λ all kept. subst (λ (fault : Option Fault). Keeps new (all ++ notes_by old.asked.with_warnings feature fault)) (sym c.in-Some.is)
    (subst (λ (item : Item). Keeps new (all ++ fault_note item c.in-Some.fault ∷ [])) c.item_of-item.ensures
    (c.add_fault.ensures.keeps all (c.add_item.ensures.keeps all kept)))) keeps

pub returns-in-None : goal.returns-in-None
returns-in-None c = λ features keeps.
    let old = c.args.self.now in
    let new = c.add_warnings.new.self in
    let feature = c.args.feature.now in
    KeepsNotes-more old new features feature (c.add_warnings.ensures.asked ∙ c.add_item.ensures.asked) (c.add_warnings.ensures.items ∙ c.add_item.ensures.items)
    (λ all kept. subst (λ (fault : Option Fault). Keeps new (all ++ notes_by old.asked.with_warnings feature fault)) (sym c.in-None.is)
    (subst (λ (item : Item). Keeps new (all ++ warning_notes old.asked.with_warnings item feature.warnings)) c.item_of-item.ensures
    (subst (λ (a : Asked). Keeps new (all ++ warning_notes a.with_warnings c.item_of-item.result feature.warnings)) c.add_item.ensures.asked
    (c.add_warnings.ensures.keeps all (c.add_item.ensures.keeps all kept))))) keeps
