-- The run is passed over where a byte of a character may follow what was taken, and nowhere else.
use Rattle.gj_json.proofs.Common.{Completed, Skips, arith, length, length-take-le, min, plain_run_of, refl, subst, sym, ℕ, [], ◌++◌, ◌+◌, ◌-◌, ◌∙◌}
use Rattle.gj_json.proofs.Common.{◌≡◌, ◌≤◌}
use Rattle.std.proofs.Common.{take}
use Rattle.gj_json.proofs.Pieces.StringRuns.{viable_between, not_viable_elsewhere, run_skips, skipped_stands, skipped_silent}
use Rattle.gj_json.proofs.Grammar.Utf8Characters.{front_utf8, front_unescaped, front_within, allowed_within}
use Rattle.gj_json.proofs.reader.Reader.skip_run.Goals as goal
use Rattle.gj_json.proofs.Events.FinishedTexts.{none_is}

pub returns-then-not-is_between-clause-longest : goal.returns-then-not-is_between-clause-longest
returns-then-not-is_between-clause-longest c =
    λ bytes live h viable. absurd (not_viable_elsewhere c.args.self.now bytes live h (sym c.is_between.ensures ∙ c.if-not-is_between.true) viable)

pub returns-clause-elsewhere : goal.returns-clause-elsewhere
returns-clause-elsewhere c =
    λ bytes live h never. absurd (never (viable_between c.args.self.now bytes live h (sym c.is_between.ensures ∙ c.if-not-is_between.false)))

skips : (c : goal.After-skip) → Skips c.args.self.now c.skip.new.self (take c.skip.result c.args.piece.now)
skips c =
    let old = c.args.self.now in
    let piece = c.args.piece.now in
    let n = c.allowed_characters-count.result in
    let m = min (plain_run_of piece) (old.limits.bytes - old.offset) in
    let longest = c.allowed_characters-count.ensures.longest in
    let utf8 = front_utf8 piece m n (omega arith) longest in
    rw (c.skip.ensures.count) (run_skips old _ c.skip.new.self (take n piece) n old.mode refl (sym c.is_between.ensures ∙ c.if-not-is_between.false)
    (length-take-le n piece (front_within piece m n (omega arith) longest))
    (record { limits = refl; fault = refl; levels = refl; start = refl; offset = refl; mode = refl }) c.skip.ensures.passed utf8
    (front_unescaped piece m n (omega arith) longest)
    (λ so_far h. c.push_text.ensures so_far utf8 h))

room : (c : goal.After-skip) → c.args.self.now.offset + length (take c.skip.result c.args.piece.now) ≤ c.args.self.now.limits.bytes
room c =
    let old = c.args.self.now in
    let w = allowed_within c.args.piece.now (old.limits.bytes - old.offset) c.allowed_characters-count.result c.allowed_characters-count.ensures.longest in
    rw (c.skip.ensures.count) (omega (arith, w, old.within))

pub returns-clause-stands : goal.returns-clause-stands
returns-clause-stands c = λ bytes h.
    let live = none_is c.args.self.now.fault (sym c.is_some.ensures ∙ c.if-is_some.false) in
    skipped_stands c.args.self.now c.skip.new.self (take c.skip.result c.args.piece.now) bytes live (room c) (skips c) h

pub returns-clause-silent : goal.returns-clause-silent
returns-clause-silent c = λ bytes live h.
    let old = c.args.self.now in
    let given = take c.skip.result c.args.piece.now in
    let m = min (plain_run_of c.args.piece.now) (old.limits.bytes - old.offset) in
    let n : length given ≡ c.skip.result =
    rw (c.skip.ensures.count)
    (length-take-le c.allowed_characters-count.result c.args.piece.now
    (front_within c.args.piece.now m c.allowed_characters-count.result (omega arith) c.allowed_characters-count.ensures.longest)) in
    let P : ℕ → Type 0 = λ k. Completed (length bytes) (length bytes + k) (bytes ++ given) [] in
    subst P n (skipped_silent old c.skip.new.self given bytes live (room c) (skips c) h)
