use Rattle.gj_split.proofs.Common.{List, Record, StandsAt, ap, arith, drop, length, refl, rules, subst, sym, take, take-append-drop, ℕ, [], ◌++◌, ◌+◌}
use Rattle.gj_split.proofs.Common.{◌<◌, ◌∙◌, ◌≡◌, ◌≤◌}
use Rattle.std.proofs.Common.{IsTrue}
use Rattle.std.proofs.lemmas.List.{take_all}
use Rattle.gj_rules.specs.declared.records.Records.{Records}
use Rattle.gj_rules.specs.RecordsStand.{StandsFor, HaveTold}
use Rattle.gj_split.specs.Internal.HeldOfRecords.{AreRead}
use Rattle.gj_split.proofs.ReadParts.{part_read, ended_there, fed_more, within_more}
use Rattle.gj_split.proofs.records.feed_records.Goals as goal

pub loop-turn-init : goal.loop-turn-init
loop-turn-init g c = record { framing = refl; limits = refl; read = λ bytes e s t. (omega arith, record { found = []; stands = s; heard = t }) }

pub returns-in-Ok-eq0-clause-read : goal.returns-in-Ok-eq0-clause-read
returns-in-Ok-eq0-clause-read g c = λ e bytes k s t.
    let room : 0 < length c.read_at.new.piece = search rules in
    let over : length bytes ≤ c.loop-turn.at =
    ended_there _ g.R.Ranges.text c.loop-turn.at c.in-Ok-eq0.field-0 c.read_at.new.piece bytes c.in-Ok-eq0.ensures.bytes k c.in-Ok-eq0.field-0-test room in
    subst (λ xs. AreRead (g.S.RecordSink.told c.loop-turn.sink) c.loop-turn.records xs) (take_all c.loop-turn.at bytes over)
    (c.loop-turn.invariant.read bytes k s t).1

-- what is fed after the bytes before it
read_more : (told : List Record → Type 0) (records : Records) (before part both : List ℕ) (found : List Record)
    → HaveTold told records (before ++ part) [] found
    → before ++ part ≡ both → AreRead told records both
read_more told records before part both found h e =
    record { found = found ++ h.more; stands = subst (λ xs. StandsFor records xs (found ++ h.more)) e h.stands; heard = h.heard }

-- once no further byte matters, all are read
read_all : (told : List Record → Type 0) (records : Records) (n : ℕ) (bytes : List ℕ)
    → ((some more : List ℕ) (found : List Record) → StandsFor records some found → StandsFor records (some ++ more) found)
    → AreRead told records (take n bytes) → AreRead told records bytes
read_all told records n bytes lasting h =
    record {
      found = h.found;
      stands = subst (λ xs. StandsFor records xs h.found) (take-append-drop n bytes) (lasting (take n bytes) (drop n bytes) h.found h.stands);
      heard = h.heard;
    }

pub returns-then-is_over-clause-read : goal.returns-then-is_over-clause-read
returns-then-is_over-clause-read g c = λ e bytes k s t.
    let next : c.in-Some.next ≡ c.loop-turn.at + c.in-Ok.count = c.in-Some.ensures.1 in
    let part : StandsAt bytes c.loop-turn.at (take c.in-Ok.count c.read_at.new.piece) =
    part_read _ g.R.Ranges.text c.loop-turn.at c.in-Ok.count c.read_at.new.piece bytes c.in-Ok.ensures.bytes k in
    let fed = fed_more c.loop-turn.at c.in-Ok.count c.read_at.new.piece bytes c.in-Ok.ensures.bound.0 part ∙ ap (λ n. take n bytes) (sym next) in
    let before = (c.loop-turn.invariant.read bytes k s t).1 in
    let over : IsTrue c.is_over.result = search rules in
    read_all _ c.feed.new.self c.in-Some.next bytes (λ some more found h. c.is_over.ensures.lasting some more found h over)
    (read_more _ c.feed.new.self (take c.loop-turn.at bytes) _ _ before.found
    (c.feed.ensures.told (take c.loop-turn.at bytes) [] before.found before.stands before.heard) fed)

pub loop-turn-preserved : goal.loop-turn-preserved
loop-turn-preserved g c =
    let next : c.in-Some.next ≡ c.loop-turn.at + c.in-Ok.count = c.in-Some.ensures.1 in
    record {
      framing = c.feed.ensures.framing ∙ c.loop-turn.invariant.framing;
      limits = c.feed.ensures.limits ∙ c.loop-turn.invariant.limits;
      read = λ bytes k s t.
          let part : StandsAt bytes c.loop-turn.at (take c.in-Ok.count c.read_at.new.piece) =
          part_read _ g.R.Ranges.text c.loop-turn.at c.in-Ok.count c.read_at.new.piece bytes c.in-Ok.ensures.bytes k in
          let fed = fed_more c.loop-turn.at c.in-Ok.count c.read_at.new.piece bytes c.in-Ok.ensures.bound.0 part ∙ ap (λ n. take n bytes) (sym next) in
          let before = c.loop-turn.invariant.read bytes k s t in (
            subst (λ n. n ≤ length bytes) (sym next) (within_more c.loop-turn.at c.in-Ok.count c.read_at.new.piece bytes before.0 c.in-Ok.ensures.bound.0 part),
            read_more _ c.feed.new.self (take c.loop-turn.at bytes) _ _ before.1.found
                (c.feed.ensures.told (take c.loop-turn.at bytes) [] before.1.found before.1.stands before.1.heard) fed,
          );
    }
