-- The bytes of a character, by how many it has.
use Rattle.gj_json.proofs.Common.{arith}
use Rattle.gj_json.proofs.Grammar.SpelledCharacters.{two_taken, three_taken, four_taken}
use Rattle.gj_json.proofs.characters.wide_character.Goals as goal

pub returns-then-first-le223-clause-character : goal.returns-then-first-le223-clause-character
returns-then-first-le223-clause-character c = λ some. two_taken c.args.piece.now (omega arith) (omega arith) (omega arith) (omega arith) (omega arith)

pub returns-then-second-ge160-clause-character : goal.returns-then-second-ge160-clause-character
returns-then-second-ge160-clause-character c =
    λ some. three_taken c.args.piece.now (omega arith) (omega arith) (omega arith) (omega arith) (omega arith) (omega arith) (omega arith) (λ e. omega arith)
    (λ e. omega arith)

pub returns-then-second-le159-clause-character : goal.returns-then-second-le159-clause-character
returns-then-second-le159-clause-character c =
    λ some. three_taken c.args.piece.now (omega arith) (omega arith) (omega arith) (omega arith) (omega arith) (omega arith) (omega arith) (λ e. omega arith)
    (λ e. omega arith)

pub returns-else-first-2-clause-character : goal.returns-else-first-2-clause-character
returns-else-first-2-clause-character c =
    λ some. three_taken c.args.piece.now (omega arith) (omega arith) (omega arith) (omega arith) (omega arith) (omega arith) (omega arith) (λ e. omega arith)
    (λ e. omega arith)

pub returns-then-second-ge144-clause-character : goal.returns-then-second-ge144-clause-character
returns-then-second-ge144-clause-character c =
    λ some. four_taken c.args.piece.now (omega arith) (omega arith) (omega arith) (omega arith) (omega arith) (omega arith) (omega arith) (omega arith)
    (omega arith) (λ e. omega arith) (λ e. omega arith)

pub returns-then-second-le143-clause-character : goal.returns-then-second-le143-clause-character
returns-then-second-le143-clause-character c =
    λ some. four_taken c.args.piece.now (omega arith) (omega arith) (omega arith) (omega arith) (omega arith) (omega arith) (omega arith) (omega arith)
    (omega arith) (λ e. omega arith) (λ e. omega arith)

pub returns-else-first-4-clause-character : goal.returns-else-first-4-clause-character
returns-else-first-4-clause-character c =
    λ some. four_taken c.args.piece.now (omega arith) (omega arith) (omega arith) (omega arith) (omega arith) (omega arith) (omega arith) (omega arith)
    (omega arith) (λ e. omega arith) (λ e. omega arith)
