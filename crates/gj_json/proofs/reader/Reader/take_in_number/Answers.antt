-- A byte while a number is under way: the number goes on with it, or it has ended before it, or neither.
use Rattle.gj_json.proofs.Common.{Err, None, Refuses, move_by, refl}
use Rattle.std.proofs.Common.{append-nil}
use Rattle.gj_json.proofs.Readers.StepsAlike
use Rattle.gj_json.specs.Internal.ToldEvents.{Goes, Ends}
use Rattle.gj_json.proofs.reader.Reader.take_in_number.Goals as goal

pub returns-in-Goes : goal.returns-in-Goes
returns-in-Goes g c = record {
  turn = Goes;
  value = None;
  says = record {
    turns = λ bytes m k. c.push.ensures.begins bytes k c.in-Goes.is;
    values = λ e bytes m k n. cc;
  };
  goes = λ made e. (
    record {
      goes = λ t bytes m n k. rw (c.go.ensures.literal) (c.push.ensures.stands bytes k c.in-Goes.is);
      begins = λ m t n f. let x = rw (c.requires.number) at m in cc;
    },
    record {
      goes = λ state next more so_far t f k. let x = rw (c.requires.number) at t in cc;
      begins = λ state t f h. let x = rw (c.requires.number) at t in cc;
    },
  );
  applied = StepsAlike.goes c.args.self.now _ c.go.new.self c.args.byte c.requires.number
      (record { limits = refl; fault = refl; start = refl; offset = refl; mode = refl; levels = refl }) c.go.ensures.passes;
  told = λ events h. (let e = StepsAlike.goes_tells c.args.self.now None c.args.byte c.requires.number in rw (e, append-nil) h);
}

pub returns-then-may_end : goal.returns-then-may_end
returns-then-may_end g c = record {
  turn = Ends;
  value = c.value-value.result;
  says = record {
    turns = λ bytes m k.
        (λ f. c.push.ensures.refused bytes k c.in-Ends.is f, (c.may_end.ensures.number bytes (rw (c.push.ensures.kept c.in-Ends.is) k)).0 c.if-may_end.true);
    values = λ e bytes m k n. c.value-value.ensures.value bytes (rw (c.push.ensures.kept c.in-Ends.is) k) n;
  };
  goes = λ made e. (
    record {
      goes = λ t bytes m n k. cc;
      begins = λ m t n f. let x = rw (c.requires.number) at m in cc;
    },
    record {
      goes = λ state next more so_far t f k. let x = rw (c.requires.number) at t in cc;
      begins = λ state t f h. let x = rw (c.requires.number) at t in cc;
    },
  );
  applied = StepsAlike.applied c.args.self.now _ c.take_after_number.new.self (move_by c.args.self.now Ends c.args.byte) c.take_after_number.result
      (record { limits = refl; fault = refl; start = refl; offset = refl; mode = refl; levels = refl }) c.take_after_number.ensures.applied;
  told = λ events h. rw (StepsAlike.ends_tells c.args.self.now c.value-value.result c.args.byte c.requires.number) (c.take_after_number.ensures.heard events h);
}

pub returns-else-may_end : goal.returns-else-may_end
returns-else-may_end g c = record {
  turn = Refuses;
  value = None;
  says = record {
    turns = λ bytes m k.
        (λ f. c.push.ensures.refused bytes k c.in-Ends.is f, λ n. let t = (c.may_end.ensures.number bytes (rw (c.push.ensures.kept c.in-Ends.is) k)).1 n in cc);
    values = λ e bytes m k n. cc;
  };
  goes = λ made e. cc;
  applied = StepsAlike.refused c.args.self.now _ c.refuse.new.self c.args.byte (Err c.refuse.result) c.requires.number
      (record { limits = refl; fault = refl; start = refl; offset = refl; mode = refl; levels = refl })
      (record { fault = c.refuse.result; answer = refl; refused = c.refuse.ensures.refused });
  told = λ events h. rw append-nil h;
}
