-- Which name and which type a content is.
use Rattle.std.specs.Prelude.{ℕ, List}
use Rattle.gj_json.specs.declared.names.Known.{Known}
use Rattle.gj_json.specs.declared.names.Word.{Word}
use Rattle.gj_json.specs.Names.{known_of, word_of}

pub record Words : Type 0 where
  pub known : Known
  pub word : Word

abbrev pub words_of : List ℕ → Words
words_of content = record { known = known_of content; word = word_of content }
