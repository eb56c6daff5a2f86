use Rattle.std.proofs.Common.{◌≡◌, ◌+◌, ◌-◌, ◌<◌, ◌≤◌, ℕ, suc, Bool, true, false, if◌then◌else◌, refl, sym, ◌∙◌, arith, rules}
use Rattle.file_parts.specs.declared.collections.runs.ReadRun.{ReadRun}
use Rattle.file_parts.proofs.TrueSums.{reading_none, reading_more, reads_to, sum_known}
use Rattle.file_parts.proofs.collections.runs.read_run.Goals as goal

pub loop-is_open-init : goal.loop-is_open-init
loop-is_open-init g c = record {
  ordered = omega arith;
  within = λ less. absurd (omega (arith, less));
  text = refl;
  unfailed = refl;
  under = c.in-Some.ensures.limits;
  reading = reading_none c.args.limits c.in-Some.linter c.args.begin c.args.enough c.sum.result (c.in-Some.ensures.some.0 refl) c.in-Some.ensures.limits
      c.in-Some.ensures.stands c.sum.ensures (g.S.Source.text c.args.source.now);
}

pub loop-is_open-preserved : goal.loop-is_open-preserved
loop-is_open-preserved g c =
    let before = c.loop-is_open.invariant in
    let taken = c.min-taken.result in
    let after : ReadRun =
    record { sum = c.sum-in-loop-is_open.result; reached = c.loop-is_open.run.reached + taken; progress = c.feed-progress.result } in
    let under = c.feed-progress.ensures.limits ∙ before.under in
    record {
      ordered = omega (arith, before.ordered);
      within = λ less. omega (arith, c.min-taken.ensures, c.if-run-end.true);
      text = c.read_from.ensures.text ∙ before.text;
      unfailed = c.in_ok-count.ensures.failed ∙ before.unfailed;
      under = under;
      reading = reading_more c.args.limits c.loop-is_open.linter c.feed-progress.new.self c.args.begin c.args.enough c.in_ok-count.count taken
          c.read_from.new.piece c.loop-is_open.run after c.loop-is_open.is_open c.goes_on-is_open.result c.has_ended.result
          c.in_ok-count.ensures.bound.0 (omega (arith, c.min-taken.ensures)) refl before.under under c.feed-progress.ensures.stands
          c.feed-progress.ensures.answer c.feed-progress.ensures.over c.sum-in-loop-is_open.ensures c.has_ended.ensures.over c.goes_on-is_open.ensures.stops
          (λ none. omega (arith, none, c.min-taken.ensures, c.if-run-end.true)) (search rules) (g.S.Source.text c.args.source.now)
          (g.S.Source.text c.loop-is_open.source) before.text c.in_ok-count.ensures.bytes before.reading;
    }

fewer : (was is : Bool) (end place taken : ℕ) → was ≡ true → (is ≡ true → 0 < taken) → taken ≤ end - place
    → (if is then suc (end - (place + taken)) else 0) < (if was then suc (end - place) else 0)
fewer true true end place taken e some fits = omega (arith, some refl, fits)
fewer true false end place taken e some fits = omega arith
fewer false is end place taken e some fits = absurd cc

pub loop-is_open-smaller : goal.loop-is_open-smaller
loop-is_open-smaller g c =
    fewer c.loop-is_open.is_open c.goes_on-is_open.result c.args.end c.loop-is_open.run.reached c.min-taken.result c.loop-is_open-test.true
    c.goes_on-is_open.ensures.some (omega (arith, c.min-taken.ensures))

pub returns-else-run-end-clause-sum : goal.returns-else-run-end-clause-sum
returns-else-run-end-clause-sum g c =
    sum_known c.args.limits c.loop-is_open.linter c.args.begin c.args.end c.args.enough c.loop-is_open.run (g.S.Source.text c.args.source.now)
    c.loop-is_open.is_open c.loop-is_open.invariant.reading

pub returns-else-run-end-clause-read : goal.returns-else-run-end-clause-read
returns-else-run-end-clause-read g c =
    let before = c.loop-is_open.invariant in
    reads_to c.args.limits c.loop-is_open.linter c.args.begin c.args.end c.args.enough c.loop-is_open.run (g.S.Source.text c.args.source.now)
    c.loop-is_open.is_open before.reading (c.in-Some.ensures.some.0 refl) before.within (λ is. c.if-run-end.false)

pub returns-after-loop-is_open-clause-sum : goal.returns-after-loop-is_open-clause-sum
returns-after-loop-is_open-clause-sum g c =
    sum_known c.args.limits c.loop-is_open.linter c.args.begin c.args.end c.args.enough c.loop-is_open.run (g.S.Source.text c.args.source.now)
    c.loop-is_open.is_open c.loop-is_open.invariant.reading

pub returns-after-loop-is_open-clause-read : goal.returns-after-loop-is_open-clause-read
returns-after-loop-is_open-clause-read g c =
    let before = c.loop-is_open.invariant in
    reads_to c.args.limits c.loop-is_open.linter c.args.begin c.args.end c.args.enough c.loop-is_open.run (g.S.Source.text c.args.source.now)
    c.loop-is_open.is_open before.reading (c.in-Some.ensures.some.0 refl) before.within
    (λ is. (let never : false ≡ true = sym c.loop-is_open-test.false ∙ is in cc))
