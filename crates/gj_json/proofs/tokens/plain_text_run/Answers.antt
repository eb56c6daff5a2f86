-- Plain characters are characters.
use Rattle.gj_json.proofs.Common.{is_unescaped_ascii, prefix_len-le-length}
use Rattle.gj_json.proofs.Grammar.SpelledCharacters.{plain_characters}
use Rattle.gj_json.proofs.tokens.plain_text_run.Goals as goal

pub returns-clause-within : goal.returns-clause-within
returns-clause-within c = rw (c.run.ensures) (prefix_len-le-length is_unescaped_ascii c.args.piece.now)

pub returns-clause-characters : goal.returns-clause-characters
returns-clause-characters c = plain_characters c.args.piece.now c.run.result c.run.ensures
