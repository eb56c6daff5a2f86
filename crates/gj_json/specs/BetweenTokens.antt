-- Where white space may stand freely in a text that is broken off: between two tokens, and after a value that has ended.
use Rattle.gj_json.specs.Broken.{Leaf, value_due, value_done, array_opened, object_opened, name_due, colon_due, Broken, begun}

-- no literal name, number, string or name is under way
abbrev pub NoneUnderWay : Leaf → Type 0
NoneUnderWay value_due = Unit {0}
NoneUnderWay (value_done value) = Unit {0}
NoneUnderWay (array_opened place) = Unit {0}
NoneUnderWay (object_opened place) = Unit {0}
NoneUnderWay (name_due place done) = Unit {0}
NoneUnderWay (colon_due place done name_place name name_end) = Unit {0}
NoneUnderWay _ = ⊥

-- something has come, and no mark is under way
abbrev pub IsBetweenTokens : Broken → Type 0
IsBetweenTokens (begun marked s) = NoneUnderWay s.leaf
IsBetweenTokens _ = ⊥
