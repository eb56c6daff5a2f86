use Rattle.std.proofs.Common.{arith, refl, sym, ap, ◌≡◌, ◌<◌, ◌∙◌, ℕ, Bool, true, get_or, length, set}
use Rattle.geolint_report.specs.Slots.{more}
use Rattle.geolint_report.specs.Slots.{slot_of}
use Rattle.geolint_report.proofs.CodeSlots.{counted-at, same-none}
use Rattle.report_forms.proofs.summary.Summary.count.Goals as goal

pub returns-then-slot-lt-CODES : goal.returns-then-slot-lt-CODES
returns-then-slot-lt-CODES c =
    let counts = c.args.self.now.counts in
    let slot = c.slot-slot.ensures in
    let within : slot_of c.args.code < length counts = omega (arith, slot, c.if-slot-lt-CODES.true) in
    let one : c.saturating_add.result ≡ more true (get_or counts (slot_of c.args.code) 0) =
    c.saturating_add.ensures ∙ ap (λ (n : ℕ). more true (get_or counts n 0)) slot in
    record {
      valid_is = refl;
      warned_is = refl;
      broken_is = refl;
      refused_is = refl;
      not_valid_is = refl;
      unread_is = refl;
      codes_are = λ code small. ap (λ (n : ℕ). get_or (set counts n c.saturating_add.result) (slot_of code) 0) slot
          ∙ counted-at counts code c.args.code c.saturating_add.result small within one;
    }

pub returns-else-slot-lt-CODES : goal.returns-else-slot-lt-CODES
returns-else-slot-lt-CODES c = record {
  valid_is = refl;
  warned_is = refl;
  broken_is = refl;
  refused_is = refl;
  not_valid_is = refl;
  unread_is = refl;
  codes_are = λ code small. ap (λ (t : Bool). more t (get_or c.args.self.now.counts (slot_of code) 0))
      (sym (same-none code c.args.code small (omega (arith, c.slot-slot.ensures, c.if-slot-lt-CODES.false))));
}
