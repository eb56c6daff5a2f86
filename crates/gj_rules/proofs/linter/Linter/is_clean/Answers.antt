-- A text in which nothing is found.
use Rattle.gj_rules.proofs.Common.{Event, Findings, IsVerdict, List, ap, subst, sym, text_warnings, verdict_of, warnings_of_none, []}
use Rattle.std.proofs.Common.{◌≡◌, None, append-nil}
use Rattle.gj_coords.specs.Internal.GatheredWarnings.{all_in}
use Rattle.gj_coords.proofs.Lists.ListsStoodFor.{empty_is}
use Rattle.gj_rules.specs.Linter.{StandsFor, limits_of}
use Rattle.gj_rules.specs.Rules.{StandsFor as RulesStandFor}
use Rattle.gj_rules.proofs.Texts.LinterEvents
use Rattle.gj_rules.proofs.Texts.OneEventMore.{answered}
use Rattle.gj_rules.proofs.linter.Linter.is_clean.Goals as goal

pub returns-then-is_whole : goal.returns-then-is_whole
unfolding StandsFor
returns-then-is_whole c = λ bytes h clean.
    let self = c.args.self.now in
    let live = c.is_whole.ensures.live c.if-is_whole.true in
    let f = c.is_whole.ensures.answer bytes h.0 c.if-is_whole.true in
    let k = LinterEvents.taken_all (RulesStandFor self.rules) bytes _ (c.bytes_taken.ensures.«open» self.reader bytes h.0 live) h.1 in
    let P : List Event → Type 0 = λ events. RulesStandFor self.rules events in
    let found = self.rules.answer in
    let v : IsVerdict (limits_of self) bytes (verdict_of found.fault (all_in found.warned)) =
    LinterEvents.end_verdict _ bytes (RulesStandFor self.rules) self.rules None found.fault (all_in found.warned) self.shallow self.short k f
    (λ events s. subst P (sym (append-nil events)) s)
    (λ text d s. ap (λ (x : Findings). x.fault) (answered self.rules text d s))
    (λ text d s. ap (λ (x : Findings). x.warned) (answered self.rules text d s)) c.few_events.ensures c.kept_warnings.ensures.short in
    let w = rw (c.is_clean.ensures.fault clean) at v in
    let none : text_warnings w.0 ≡ [] = (empty_is (all_in found.warned) (text_warnings w.0) w.3).0 (c.is_clean.ensures.warned clean) in
    (w.0, w.1, w.2, rw none (sym warnings_of_none))
