use Rattle.std.proofs.Common.{◌≡◌, ◌++◌, ◌+◌, ◌-◌, ◌∙◌, refl, sym, ap, arith, length, drop, reverse, ℕ, Vec, Global, get_or}
use Rattle.std.proofs.lemmas.List.{map-append}
use Rattle.geolint_files.specs.Walk.{entries_in, entry_name, named_in}
use Rattle.geolint_files.proofs.Walks.WalkedEntries.{entries_step, joined, no_entries}
use Rattle.geolint_files.proofs.walk.Walk.push_entries.Goals as goal

pub loop-i-init : goal.loop-i-init
loop-i-init c = (sym (no_entries (named_in c.args.self.now.pending.items) c.args.folder.now c.args.entries.now), refl)

pub returns-in_err-entry_name-clause-entered : goal.returns-in_err-entry_name-clause-entered
returns-in_err-entry_name-clause-entered c = c.loop-i.invariant.1

pub returns-in_err-push-clause-entered : goal.returns-in_err-push-clause-entered
returns-in_err-push-clause-entered c = c.loop-i.invariant.1

pub loop-i-preserved : goal.loop-i-preserved
loop-i-preserved c =
    let entries = c.args.entries.now in
    let d = c.index-entries-entries.result in
    let at : length entries - 1 - c.loop-i.i ≡ length entries - (c.loop-i.i + 1) = omega arith in
    let entry : d ≡ get_or entries (length entries - (c.loop-i.i + 1)) d = c.index-entries-entries.is ∙ ap (λ (i : ℕ). get_or entries i d) at in
    let name = c.in_ok-entry_name.ensures ∙ ap (entry_name c.args.folder.now) (c.as_slice.ensures.value ∙ ap (λ (entry : Vec ℕ Global). entry.items) entry) in
    let pushed = ap named_in c.in_ok-push.ensures.items ∙ map-append _ c.loop-i.self.pending.items _ in (
      pushed ∙ joined _ (named_in c.args.self.now.pending.items) _ _ _ c.loop-i.invariant.0 name
          ∙ ap (λ more. named_in c.args.self.now.pending.items ++ more)
          (sym (entries_step c.args.folder.now entries c.loop-i.i d c.loop-i-test.true)),
      c.loop-i.invariant.1,
    )

pub returns-clause-pending : goal.returns-clause-pending
returns-clause-pending c =
    let all : length c.args.entries.now - c.loop-i.i ≡ 0 = omega (arith, c.loop-i-test.false) in
    c.loop-i.invariant.0
    ∙ ap (λ (from : ℕ). named_in c.args.self.now.pending.items ++ reverse (entries_in c.args.folder.now (drop from c.args.entries.now))) all

pub returns-clause-entered : goal.returns-clause-entered
returns-clause-entered c = c.loop-i.invariant.1
