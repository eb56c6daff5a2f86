use Rattle.std.proofs.Common.{◌≡◌, ◌++◌, ◌-◌, reverse, length, drop}
use Rattle.geolint_files.specs.Walk.{entries_in, named_in}
use Rattle.geolint_files.proofs.walk.Walk.push_entries.Given as goal

abbrev pub invariant-loop-i : goal.invariant-loop-i
invariant-loop-i l =
    (named_in l.self.pending.items ≡ named_in l.initial.self.pending.items ++ reverse (entries_in l.fn.folder (drop (length l.fn.entries - l.i) l.fn.entries)))
    ×
    (l.self.entered ≡ l.initial.self.entered)
