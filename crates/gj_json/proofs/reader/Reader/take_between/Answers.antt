-- A byte while nothing but a literal name is under way: a number or a string may begin with it.
use Rattle.gj_json.proofs.Common.{inl, inr, refl, sym, ◌∙◌}
use Rattle.gj_json.proofs.Readers.StepsAlike
use Rattle.gj_json.proofs.Pieces.QuietModes.{other_mode, no_text}
use Rattle.gj_json.proofs.reader.Reader.take_between.Goals as goal

pub returns-in-Err : goal.returns-in-Err
returns-in-Err g c =
    StepsAlike.between_refused c.args.self.now c.take_other.new.self c.args.byte c.in-Err.fault c.requires.number
    (rw (c.in-Err.is) at c.take_other.ensures.applied) (λ events h. let t = c.take_other.ensures.heard events h in rw (c.in-Err.is) at t)

pub returns-in-NumberOn : goal.returns-in-NumberOn
returns-in-NumberOn g c =
    StepsAlike.between c.args.self.now c.take_other.new.self _ c.args.byte c.in-Ok.made c.requires.number c.requires.text
    (rw (c.in-Ok.is) at c.take_other.ensures.applied)
    (record { limits = refl; fault = refl; start = refl; offset = refl; mode = refl; levels = refl })
    (λ events h. let t = c.take_other.ensures.heard events h in rw (c.in-Ok.is) at t)
    (λ e i. c.literal_of-self.ensures i)
    (λ state e. let x = rw (c.in-NumberOn.is) at e in cc)

pub returns-in-StringOn : goal.returns-in-StringOn
returns-in-StringOn g c =
    StepsAlike.between c.args.self.now c.take_other.new.self _ c.args.byte c.in-Ok.made c.requires.number c.requires.text
    (rw (c.in-Ok.is) at c.take_other.ensures.applied)
    (record { limits = refl; fault = refl; start = refl; offset = refl; mode = refl; levels = refl })
    (λ events h. let t = c.take_other.ensures.heard events h in rw (c.in-Ok.is) at t)
    (λ e i. elim c.in-StringOn.is [ inl v ↦ (let x = rw (v.1) at e in cc) | inr v ↦ (let x = rw (v.1) at e in cc) ])
    (λ state e. c.clear.ensures)

pub returns-in_default : goal.returns-in_default
returns-in_default g c =
    let mode = c.take_other.new.self.mode in
    let number = other_mode mode c.in_default.not-NumberOn in
    let text = no_text mode c.in_default.not-StringOn c.in_default.not-NameOn in
    StepsAlike.between c.args.self.now c.take_other.new.self c.take_other.new.self c.args.byte c.in-Ok.made c.requires.number c.requires.text
    (rw (c.in-Ok.is) at c.take_other.ensures.applied)
    (record { limits = refl; fault = refl; start = refl; offset = refl; mode = refl; levels = refl })
    (λ events h. let t = c.take_other.ensures.heard events h in rw (c.in-Ok.is) at t)
    (λ e i. let x = sym e ∙ number in cc)
    (λ state e. let x = sym e ∙ text in cc)
