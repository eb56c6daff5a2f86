use Rattle.gj_number.proofs.Common.{◌*◌, ◌-◌, ◌<◌, ◌^◌, ◌≡◌}
use Rattle.gj_number.proofs.short.without_zeros.Given as goal

-- so many zeros are apart
abbrev pub invariant-loop-digits : goal.invariant-loop-digits
invariant-loop-digits l = record {
  some : 0 < l.digits;
  all : l.all ≡ l.digits * 10 ^ l.zeros;
  few : l.zeros < 18;
  bounded : l.digits < 10 ^ (18 - l.zeros);
}

abbrev pub decreases-loop-digits : goal.decreases-loop-digits
decreases-loop-digits l = l.digits
