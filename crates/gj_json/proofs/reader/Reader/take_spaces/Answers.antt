-- Spaces leave the mode as it is, and complete nothing.
use Rattle.gj_json.proofs.Common.{AllByRecursion, Completed, IsQuiet, Mode, Skips, arith, length, refl, space, subst, suc, sym, true, zero, ℕ, [], ◌+◌, ◌++◌, ◌∙◌, ◌≡◌, ◌≤◌}
use Rattle.std.proofs.Common.{replicate, List, None, Option, Some}
use Rattle.std.proofs.lemmas.List.{length-replicate}
use Rattle.gj_json.specs.Internal.QuietBytes.{awaits_token}
use Rattle.gj_json.proofs.Events.FinishedTexts.{none_is}
use Rattle.gj_json.proofs.Pieces.QuietModes.{awaits_other, awaits_no_text, quiet_leads, quiet_white}
use Rattle.gj_json.proofs.Pieces.SkippedRuns.{leads_skips}
use Rattle.gj_json.proofs.Pieces.StringRuns.{skipped_stands, skipped_silent}
use Rattle.gj_json.specs.BetweenTokens.{IsBetweenTokens, NoneUnderWay}
use Rattle.gj_json.specs.Broken.{Broken, Leaf, SpellsBroken, value_due, value_done, array_opened, object_opened, constant_on, number_on, string_on, name_due}
use Rattle.gj_json.specs.Broken.{name_on, colon_due, begun, text_due, mark_one, mark_two}
use Rattle.gj_json.specs.declared.fault.JsonFault.{JsonFault}
use Rattle.gj_json.specs.declared.reader.Reader.{Reader}
use Rattle.gj_json.specs.Internal.OpenLevels.{levels_in}
use Rattle.gj_json.specs.Internal.ReaderState.{LeafAs, Stands, StandsAs, StandsWell}
use Rattle.gj_json.specs.Reader.{StandsFor}
use Rattle.gj_json.proofs.Machine.ReadBrokenTexts.{broken_run}
use Rattle.gj_json.proofs.reader.Reader.take_spaces.Goals as goal
use Rattle.gj_json.proofs.reader.Reader.take_spaces.Goals.{then-is_some-via-then-is_some, then-is_some-via-else-is_some+then-not-is_between_tokens}

quiet_spaces : (mode : Mode) → awaits_token mode ≡ true → (n : ℕ) → AllByRecursion (IsQuiet mode) (replicate n space)
quiet_spaces mode due zero = tt
quiet_spaces mode due (suc n) = (quiet_white mode due space refl, quiet_spaces mode due n)

skips : (c : goal.After-skip) → Skips c.args.self.now c.skip.new.self (replicate c.args.count space)
skips c =
    let mode = c.args.self.now.mode in
    let due : awaits_token mode ≡ true = grind arith in
    leads_skips c.args.self.now c.skip.new.self (replicate c.args.count space) c.args.count mode (length-replicate c.args.count space) c.skip.ensures.passed
    (quiet_leads mode (replicate c.args.count space) (quiet_spaces mode due c.args.count)) (awaits_other mode due) (awaits_no_text mode due)

room : (c : goal.After-skip) → c.args.self.now.offset + length (replicate c.args.count space) ≤ c.args.self.now.limits.bytes
room c = rw (length-replicate c.args.count space) (omega (arith, c.args.self.now.within))

pub returns-clause-stands : goal.returns-clause-stands
returns-clause-stands c = λ bytes taken h.
    let live = none_is c.args.self.now.fault (sym c.is_some.ensures ∙ c.if-is_some.false) in
    skipped_stands c.args.self.now c.skip.new.self (replicate c.args.count space) bytes live (room c) (skips c) h

pub returns-clause-silent : goal.returns-clause-silent
returns-clause-silent c = λ bytes taken h.
    let live = none_is c.args.self.now.fault (sym c.is_some.ensures ∙ c.if-is_some.false) in
    let P : ℕ → Type 0 = λ k. Completed (length bytes) (length bytes + k) (bytes ++ replicate c.args.count space) [] in
    subst P (length-replicate c.args.count space)
    (skipped_silent c.args.self.now c.skip.new.self (replicate c.args.count space) bytes live (room c) (skips c) h)

-- ---- where spaces are taken

leaf_awaits : (leaf : Leaf) (mode : Mode) → NoneUnderWay leaf → LeafAs leaf mode → awaits_token mode ≡ true
leaf_awaits value_due mode h e = rw e refl
leaf_awaits (value_done t) mode h e = rw e refl
leaf_awaits (array_opened place) mode h e = rw e refl
leaf_awaits (object_opened place) mode h e = rw e refl
leaf_awaits (constant_on which place left) mode h e = absurd h
leaf_awaits (number_on place so_far) mode h e = absurd h
leaf_awaits (string_on place so_far state) mode h e = absurd h
leaf_awaits (name_due place done) mode h e = rw e refl
leaf_awaits (name_on place done np so_far state) mode h e = absurd h
leaf_awaits (colon_due place done np name ne) mode h e = rw e refl

well : (self : Reader) (bytes : List ℕ) (fault : Option JsonFault) → fault ≡ None
    → Stands self.limits fault self.mode (levels_in self.levels) self.literal self.content self.start self.offset bytes
    → StandsWell self.limits self.mode (levels_in self.levels) self.start self.offset bytes
well self bytes None live h = h.well
well self bytes (Some fault) live h = cc

awaits : (self : Reader) (bytes : List ℕ) (broken : Broken) → StandsFor self bytes → self.fault ≡ None → SpellsBroken broken bytes → IsBetweenTokens broken
    → (awaits_token self.mode ≡ true) × (self.offset ≡ length bytes)
awaits self bytes broken h live spelled between =
    let w = well self bytes self.fault live h in
    let e : Some w.state ≡ Some broken = sym w.runs ∙ broken_run broken bytes spelled in
    let f : w.state ≡ broken = cc in
    (go broken between (subst (λ s. StandsAs s self.mode (levels_in self.levels)) f w.kept), w.at)
  where
    go : (broken : Broken) → IsBetweenTokens broken → StandsAs broken self.mode (levels_in self.levels) → awaits_token self.mode ≡ true
    go text_due b k = absurd b
    go mark_one b k = absurd b
    go mark_two b k = absurd b
    go (begun marked s) b k = leaf_awaits s.leaf self.mode b k.0

pub returns-then-is_some-clause-taken : goal.returns-then-is_some-clause-taken
returns-then-is_some-clause-taken c = λ bytes broken h live spelled between room.
    let a = awaits c.args.self.now bytes broken h live spelled between in
    let due : awaits_token c.args.self.now.mode ≡ true = a.0 in
    elim c.then-is_some.branch [
      | then-is_some-via-then-is_some w ↦ grind arith
      | then-is_some-via-else-is_some+then-not-is_between_tokens w ↦ grind arith
    ]

pub returns-then-count-bytes-clause-taken : goal.returns-then-count-bytes-clause-taken
returns-then-count-bytes-clause-taken c = λ bytes broken h live spelled between room.
    let a = awaits c.args.self.now bytes broken h live spelled between in
    let at : c.args.self.now.offset ≡ length bytes = a.1 in
    grind arith
