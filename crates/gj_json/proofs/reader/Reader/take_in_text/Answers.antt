-- A byte while a string or a name is under way: a character ends with it, or none does.
use Rattle.gj_json.proofs.Common.{None, Plain, refl, string_next, sym, [], ◌∙◌, ◌∷◌, ◌≡◌}
use Rattle.std.proofs.Common.{append-nil}
use Rattle.gj_json.specs.Internal.ToldEvents.{Ends}
use Rattle.gj_json.proofs.Readers.StepsAlike
use Rattle.gj_json.proofs.Grammar.OneCharacter.{one_character, reads_is}
use Rattle.gj_json.proofs.reader.Reader.take_in_text.Goals as goal

pub returns-in-Reads : goal.returns-in-Reads
returns-in-Reads g c =
    let old = c.args.self.now in
    let from = StepsAlike.first_text old.mode c.args.between c.args.state Plain c.requires.text in
    let move = sym c.next_string.ensures.value ∙ c.in-Reads.is in
    let step = reads_is (string_next c.args.state c.args.byte) c.in-Reads.character (one_character c.args.state c.args.byte) move in
    StepsAlike.in_text old c.go.new.self c.args.byte _ c.args.state from
    (StepsAlike.reads old _ c.go.new.self c.args.between c.args.state Ends c.args.byte c.in-Reads.character c.requires.text move
    (record { limits = refl; fault = refl; start = refl; offset = refl; mode = refl; levels = refl }) c.go.ensures.passes)
    (λ events h. let e = StepsAlike.reads_tells old c.args.between c.args.state Ends None c.args.byte c.in-Reads.character c.requires.text move in
    rw (e, append-nil) h)
    (λ more so_far next f k. let e : more ≡ c.in-Reads.character ∷ [] = (let x = sym f ∙ step in cc) in
    rw (c.go.ensures.content, e) (c.push.ensures so_far k))

pub returns-in_default : goal.returns-in_default
returns-in_default g c =
    let old = c.args.self.now in
    let from = StepsAlike.first_text old.mode c.args.between c.args.state Plain c.requires.text in
    StepsAlike.in_text old c.take_other.new.self c.args.byte _ c.args.state from c.take_other.ensures.applied
    (λ events h. rw (StepsAlike.other_tells old Ends None c.args.byte from.number) (c.take_other.ensures.heard events h))
    (λ more so_far next f k. let e : more ≡ [] = StepsAlike.no_more (string_next c.args.state c.args.byte) more next f
    (λ d r. c.in_default.not-Reads d (c.next_string.ensures.value ∙ r)) in
    rw (c.take_other.ensures.content, e, append-nil) k)
