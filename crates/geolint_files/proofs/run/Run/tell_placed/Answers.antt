use Rattle.geolint_files.proofs.Common.{subst, sym, ◌≡◌, List, ℕ, length, Option, StandBy, framing_in}
use Rattle.std.proofs.Common.{rules, ◌<◌, ◌^◌}
use Rattle.std.proofs.lemmas.Result.{on_ok_weaker}
use Rattle.gj_rules.specs.declared.records.framing.Framing.{Framing}
use Rattle.geolint_report.specs.declared.every.listing.Note.{Note}
use Rattle.geolint_files.specs.Internal.RunState.{TellsLines, ToldFurther}
use Rattle.geolint_files.specs.Listed.{AreEntriesOf, IsPlaced, most_of, others_of}
use Rattle.geolint_files.proofs.Runs.ListedFiles.{all-placed}
use Rattle.geolint_files.proofs.run.Run.tell_placed.Goals as goal

pub returns : goal.returns
returns g c =
    let contents = g.W.Write.contents in
    let text = g.S.Source.text c.args.source.now in
    let reading = c.args.reading in
    let framing = framing_in reading in
    let name = c.args.name.now in
    let held : List Note = c.args.notes.now.notes.items in
    let count = c.args.notes.now.count in
    let begun = subst (λ (f : Option Framing). StandBy f text c.new-cursors.result) c.framing.ensures (c.new-cursors.ensures text) in
    let same = c.tell_notes.ensures.text in
    let stand = subst (λ (t : Option (List ℕ)). StandBy framing t c.tell_notes.new.cursors) (sym same) (c.tell_notes.ensures.stand framing begun) in
    let (first, are, tells) = c.in_ok-tell_notes.ensures.told framing begun in
    let first_are = subst (λ (ns : List Note). AreEntriesOf (IsPlaced framing text) name ns first) c.as_slice.ensures.value are in
    let long : c.len-held.result ≡ length held = search rules in
    let told = c.in_ok-told.told in
    let middle = c.tell_notes.new.self in
    let last = c.tell_further.new.self in
    let further = subst (λ (n : ℕ). ToldFurther contents reading c.args.asked (most_of c.args.most) c.args.limits name text n told middle last) long
    (subst (λ (n : ℕ). ToldFurther contents reading c.args.asked n c.args.limits name text c.len-held.result told middle last) c.most_of.ensures
    (subst (λ (t : Option (List ℕ)). ToldFurther contents reading c.args.asked c.most_of.result c.args.limits name t c.len-held.result told middle last) same
    (c.in_ok-told.ensures stand))) in
    let small : count < 2 ^ 64 = c.others.ensures.small in
    on_ok_weaker c.tell_others.result (λ others.
    all-placed contents reading c.args.asked c.args.most c.args.limits name text held count told c.args.self.now middle last c.tell_others.new.self small
    (first, first_are, tells) further
    (subst (λ (n : ℕ). TellsLines contents (others_of name n) last c.tell_others.new.self) c.others.ensures.left others)) c.tell_others.ensures
