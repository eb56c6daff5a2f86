use Rattle.gj_number.proofs.Common.{List, StartsWithNumber, drop, length, replicate, subst, ℕ, ◌++◌}
use Rattle.gj_number.specs.Short.{exact_of}
use Rattle.gj_number.proofs.Shorts.CopiedNumbers.{number_there}
use Rattle.gj_number.proofs.short.prefix.read_copied.Goals as goal

pub returns : goal.returns
returns c = record {
  number = λ some.
      let piece = c.args.piece.now in
      let P : List ℕ → Type 0 =
      λ xs. StartsWithNumber (xs ++ drop (length piece) (replicate 40 0)) (exact_of c.read_there-count.new.number) c.read_there-count.result in
      number_there piece _ _ _ c.if-count-piece.false (subst P c.copy_from_slice.ensures.after (c.read_there-count.ensures.number some));
}
