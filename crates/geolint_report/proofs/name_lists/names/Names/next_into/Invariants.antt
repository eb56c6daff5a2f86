use Rattle.std.proofs.Common.{◌≡◌, ℕ, List}
use Rattle.geolint_report.specs.Listed.{given, has_nul}
use Rattle.geolint_report.specs.Internal.Begun.{HasBegun}
use Rattle.geolint_report.specs.Left.{left_of}
use Rattle.geolint_report.proofs.name_lists.names.Names.next_into.Given as goal

abbrev pub invariant-loop : goal.invariant-loop
invariant-loop g l = record {
  begun : (begun : List ℕ) × HasBegun l.fn.self.name_end begun l.counter (left_of g.R.Read.remaining l.initial.self) (left_of g.R.Read.remaining l.self)
      × (l.name.items ≡ given begun) × (l.has_nul ≡ has_nul begun);
  end : l.self.name_end ≡ l.fn.self.name_end;
}
