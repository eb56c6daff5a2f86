use Rattle.geolint_report.proofs.Common.{refl, ◌≡◌, ◌+◌, ◌++◌, [], ℕ, List, true, false, ap, sym, subst, ◌∙◌, drop, get_or, Option, Some, Allowed, Framing}
use Rattle.std.proofs.Common.{nat_eq}
use Rattle.std.proofs.lemmas.List.{take_rest}
use Rattle.gj_rules.specs.declared.records.framing.Framing.TheVariants.{Sequence, Lines}
use Rattle.geolint_report.specs.Sites.{is_separator, has_separator, CanGoOn, has_begun, text_of, text_limits}
use Rattle.geolint_report.specs.Internal.TextPaths.{Follows}
use Rattle.geolint_report.proofs.FollowedPaths.{last_record-longer, has_separator-longer, rest-separates, last_record-parted}
use Rattle.geolint_report.proofs.ToldPaths.{KeepsIn-more}
use Rattle.geolint_report.proofs.every.text_path.TextPath.feed_record.Goals as goal

-- ---- the bytes have a separator

none-after : (c : goal.After-feed_text) → has_separator c.args.framing (drop (c.in-Some.last + 1) c.args.bytes.now) ≡ false
none-after c =
    rest-separates c.args.framing c.args.bytes.now (c.in-Some.last + 1)
    (λ k from within is. c.in-Some.ensures.0.after k from within (ap (nat_eq (get_or c.args.bytes.now k 0)) c.separator.ensures ∙ is))

record-is : (c : goal.After-feed_text) (text : List ℕ) → c.args.self.now.framing ≡ Some c.args.framing
    → text_of c.args.self.now.framing (text ++ c.args.bytes.now) ≡ drop (c.in-Some.last + 1) c.args.bytes.now
record-is c text kind =
    let byte = get_or c.args.bytes.now c.in-Some.last 0 in
    let is : is_separator c.args.framing byte ≡ true = sym (ap (nat_eq byte) c.separator.ensures) ∙ c.in-Some.ensures.1 in
    ap (λ (f : Option Framing). text_of f (text ++ c.args.bytes.now)) kind
    ∙ last_record-parted c.args.framing text c.args.bytes.now c.in-Some.last c.in-Some.ensures.0.high is (none-after c)

pub returns-in-Some-clause-stands : goal.returns-in-Some-clause-stands
returns-in-Some-clause-stands c = λ text kind stands.
    let after = c.feed_text.ensures.follows [] (λ live. (c.new-self.ensures.stands, c.new-self.ensures.open)) in
    let same = ap (λ (f : Option Framing). text_of f (text ++ c.args.bytes.now)) (sym c.feed_text.ensures.fed.kind) in
    subst (Follows c.feed_text.new.self) (take_rest c.args.bytes.now (c.in-Some.last + 1) ∙ sym (record-is c text kind) ∙ same) after

pub returns-in-Some-clause-keeps : goal.returns-in-Some-clause-keeps
returns-in-Some-clause-keeps c = λ text kind stands keeps under.
    let bytes = c.args.bytes.now in
    let new = c.feed_text.new.self in
    let limits = text_limits (Some c.args.framing) c.args.self.now.limits in
    let lim : text_limits new.framing new.limits ≡ limits =
    ap (λ (f : Option Framing). text_limits f new.limits) (c.feed_text.ensures.fed.kind ∙ kind)
    ∙ ap (λ (l : Allowed). text_limits (Some c.args.framing) l) c.feed_text.ensures.fed.limits in
    let is = ap (λ (f : Option Framing). text_of f (text ++ bytes)) c.feed_text.ensures.fed.kind ∙ record-is c text kind
    ∙ sym (take_rest bytes (c.in-Some.last + 1)) in
    let here = subst (λ (l : Allowed). CanGoOn l (text_of new.framing (text ++ bytes))) lim under.1 in
    let goes = subst (λ (ys : List ℕ). CanGoOn limits ys) is here in
    let after = c.feed_text.ensures.keeps limits [] (λ live. (c.new-self.ensures.stands, c.new-self.ensures.open))
    (λ none. (refl, c.new-self.ensures.limits ∙ c.record_limits.ensures c.args.framing)) goes in
    (after.0, after.1 ∙ sym lim)

-- ---- they have none

none-in : (c : goal.After-feed_text-in-None) → has_separator c.args.framing c.args.bytes.now ≡ false
none-in c =
    rest-separates c.args.framing c.args.bytes.now 0
    (λ k from within is. c.in-None.ensures k from within (ap (nat_eq (get_or c.args.bytes.now k 0)) c.separator.ensures ∙ is))

joined : (c : goal.After-feed_text-in-None) (text : List ℕ) → c.args.self.now.framing ≡ Some c.args.framing
    → text_of c.args.self.now.framing (text ++ c.args.bytes.now) ≡ text_of c.args.self.now.framing text ++ c.args.bytes.now
joined c text kind =
    let bytes = c.args.bytes.now in
    ap (λ (f : Option Framing). text_of f (text ++ bytes)) kind
    ∙ (last_record-longer c.args.framing text bytes (none-in c) ∙ ap (λ (f : Option Framing). text_of f text ++ bytes) (sym kind))

begun-by : (framing : Framing) (text bytes : List ℕ) → has_separator framing bytes ≡ false
    → has_begun (Some framing) (text ++ bytes) ≡ has_begun (Some framing) text
begun-by Sequence text bytes none = has_separator-longer Sequence text bytes none
begun-by Lines text bytes none = refl

begun : (c : goal.After-feed_text-in-None) (text : List ℕ) → c.args.self.now.framing ≡ Some c.args.framing
    → has_begun c.args.self.now.framing (text ++ c.args.bytes.now) ≡ has_begun c.args.self.now.framing text
begun c text kind =
    let bytes = c.args.bytes.now in
    ap (λ (f : Option Framing). has_begun f (text ++ bytes)) kind
    ∙ (begun-by c.args.framing text bytes (none-in c) ∙ ap (λ (f : Option Framing). has_begun f text) (sym kind))

pub returns-in-None-clause-stands : goal.returns-in-None-clause-stands
returns-in-None-clause-stands c = λ text kind stands.
    let same = ap (λ (f : Option Framing). text_of f (text ++ c.args.bytes.now)) c.feed_text-in-None.ensures.fed.kind in
    subst (Follows c.feed_text-in-None.new.self) (sym (same ∙ joined c text kind))
    (c.feed_text-in-None.ensures.follows (text_of c.args.self.now.framing text) stands)

pub returns-in-None-clause-keeps : goal.returns-in-None-clause-keeps
returns-in-None-clause-keeps c = λ text kind stands keeps.
    let old = c.args.self.now in
    KeepsIn-more old c.feed_text-in-None.new.self text c.args.bytes.now c.feed_text-in-None.ensures.fed.kind
    c.feed_text-in-None.ensures.fed.limits
    (joined c text kind) (begun c text kind)
    (c.feed_text-in-None.ensures.keeps (text_limits old.framing old.limits) (text_of old.framing text) stands) keeps
