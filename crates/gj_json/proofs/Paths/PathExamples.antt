-- Rows of the paths that prefixes of texts lead to.
use Rattle.gj_json.proofs.Common.{Index, Text, Tree, array, codes, element, end_of_array, end_of_object, false, member, object, path_at, refl, string}
use Rattle.gj_json.proofs.Common.{[], ◌∷◌, ◌≡◌}
use Rattle.gj_json.specs.declared.names.Known.{Known}
use Rattle.gj_json.specs.declared.path.PathStep.TheVariants.{Member}
use Rattle.gj_json.specs.Tree.{number}
use Rattle.gj_json.specs.Names.{known_of}

unmarked : Tree → Text
unmarked value = record { marked = false; value = value }

-- [10,2]
numbers : Text
numbers = unmarked (array 0 (element (number 1 (codes "10") 3) (element (number 4 (codes "2") 5) end_of_array)) 5)

-- {"x":[1,{}]}
nested : Text
nested = unmarked (object 0
    (member 1 (codes "x") 4 (array 5 (element (number 6 (codes "1") 7) (element (object 8 end_of_object 9) end_of_array)) 10) end_of_object) 11)

-- {"id":"a"}
named : Text
named = unmarked (object 0 (member 1 (codes "id") 5 (string 6 (codes "a") 9) end_of_object) 9)

array_opens : path_at 1 numbers ≡ []
unfolding numbers unmarked
array_opens = refl

first_begins : path_at 2 numbers ≡ Index 0 ∷ []
unfolding numbers unmarked
first_begins = refl

first_goes_on : path_at 3 numbers ≡ []
unfolding numbers unmarked
first_goes_on = refl

second_begins : path_at 5 numbers ≡ Index 1 ∷ []
unfolding numbers unmarked
second_begins = refl

array_closes : path_at 6 numbers ≡ []
unfolding numbers unmarked
array_closes = refl

name_begins : path_at 2 nested ≡ []
unfolding nested unmarked
name_begins = refl

comma_in_array : path_at 8 nested ≡ Member Known.Other ∷ []
unfolding nested unmarked known_of
comma_in_array = refl

object_opens : path_at 9 nested ≡ Member Known.Other ∷ Index 1 ∷ []
unfolding nested unmarked known_of
object_opens = refl

object_closes : path_at 10 nested ≡ Member Known.Other ∷ []
unfolding nested unmarked known_of
object_closes = refl

string_begins : path_at 7 named ≡ Member Known.Id ∷ []
unfolding named unmarked known_of
string_begins = refl

string_ends : path_at 9 named ≡ []
unfolding named unmarked
string_ends = refl
