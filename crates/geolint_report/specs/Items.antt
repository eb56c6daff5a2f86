-- What a feature or a record is called, and its number.
use Rattle.std.specs.Prelude.{ℕ, List, codes}
use Rattle.geolint_report.specs.declared.every.listing.Item.{Item}

abbrev pub item_word : Item → List ℕ
item_word (Item.Feature index id) = codes "feature"
item_word (Item.Record number) = codes "record"

-- a feature is counted from 0, and a record from 1
abbrev pub item_number : Item → ℕ
item_number (Item.Feature index id) = index
item_number (Item.Record number) = number
