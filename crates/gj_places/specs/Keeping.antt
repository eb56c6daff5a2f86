-- Which bytes before a place and after it an excerpt stands for, however they came.
use Rattle.std.specs.Prelude.{◌≡◌, ◌<◌, ℕ, List, length, take, true, false}
use Rattle.gj_places.specs.Lines.{last_line, has_line_feed}
use Rattle.gj_places.specs.Excerpts.{last_of, first_line}
use Rattle.gj_places.specs.declared.excerpt.Excerpt.{Excerpt}

-- of the line the last 256 bytes before the place, and the first 256 from it on
pub record Keeps (excerpt : Excerpt) (before after : List ℕ) : Type 0 where
  pub front : excerpt.before.items ≡ last_of 256 (last_line before)
  pub rest : excerpt.after.items ≡ take 256 (first_line after)
  pub whole : excerpt.is_whole ≡ true → has_line_feed after ≡ true
  -- with room left, the line has not ended
  pub goes_on : excerpt.is_whole ≡ false → length excerpt.after.items < 256 → has_line_feed after ≡ false
