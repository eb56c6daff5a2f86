use Rattle.geolint_report.proofs.Common.{ℕ, List, ◌≡◌, ◌++◌, ap, sym, subst, ◌∙◌, Option, None, Framing}
use Rattle.geolint_report.specs.Sites.{text_of, text_limits, has_begun}
use Rattle.geolint_report.specs.Internal.TextPaths.{Follows}
use Rattle.geolint_report.proofs.ToldPaths.{KeepsIn-more}
use Rattle.geolint_report.proofs.every.text_path.TextPath.feed.Goals as goal
use Rattle.geolint_report.proofs.FollowedPaths.{text_of-more}

pub returns-in-Some-clause-stands : goal.returns-in-Some-clause-stands
returns-in-Some-clause-stands c = λ text stands. c.feed_record.ensures.stands text c.in-Some.is stands

pub returns-in-Some-clause-keeps : goal.returns-in-Some-clause-keeps
returns-in-Some-clause-keeps c = λ text stands keeps. c.feed_record.ensures.keeps text c.in-Some.is stands keeps

begun : (framing : Option Framing) (text bytes : List ℕ) → framing ≡ None → has_begun framing (text ++ bytes) ≡ has_begun framing text
begun framing text bytes plain = ap (λ (f : Option Framing). has_begun f (text ++ bytes)) plain ∙ ap (λ (f : Option Framing). has_begun f text) (sym plain)

pub returns-in-None-clause-stands : goal.returns-in-None-clause-stands
returns-in-None-clause-stands c = λ text stands.
    let old = c.args.self.now in
    let bytes = c.args.bytes.now in
    let kind = ap (λ (f : Option Framing). text_of f (text ++ bytes)) c.feed_text.ensures.fed.kind in
    subst (Follows c.feed_text.new.self) (sym (kind ∙ text_of-more old.framing text bytes c.in-None.is))
    (c.feed_text.ensures.follows (text_of old.framing text) stands)

pub returns-in-None-clause-keeps : goal.returns-in-None-clause-keeps
returns-in-None-clause-keeps c = λ text stands keeps.
    let old = c.args.self.now in
    let bytes = c.args.bytes.now in
    let plain = c.in-None.is in
    KeepsIn-more old c.feed_text.new.self text bytes c.feed_text.ensures.fed.kind c.feed_text.ensures.fed.limits
    (text_of-more old.framing text bytes plain)
    (begun old.framing text bytes plain) (c.feed_text.ensures.keeps (text_limits old.framing old.limits) (text_of old.framing text) stands) keeps
