use Rattle.gj_number.proofs.Common.{IsDigit, take, with_digit, ◌*◌, ◌+◌, ◌-◌, ◌^◌, ◌≡◌, ◌≤◌}
use Rattle.std.proofs.Common.{fold, All}
use Rattle.gj_number.proofs.short.prefix.first_run.Given as goal

-- the bytes before this one are digits, and taken
abbrev pub invariant-loop-count : goal.invariant-loop-count
invariant-loop-count l = record {
  digits : All IsDigit (take l.count l.piece);
  value_is : l.value ≡ fold with_digit l.before (take l.count l.piece);
  room : (l.value + 1) * 10 ^ (l.most - l.count) ≤ 10 ^ 18;
}
