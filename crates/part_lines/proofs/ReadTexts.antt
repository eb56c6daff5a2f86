-- What is read of the text of a value.
use Rattle.std.proofs.Common.{arith, ◌≡◌, ◌<◌, ◌≤◌, ◌^◌, ℕ, suc, refl, ap, sym, ◌∙◌, Bool, Some}
use Rattle.std.proofs.Common.{List, [], ◌∷◌, ◌++◌, append-nil, flat_map, map}
use Rattle.std.specs.Prelude.{option_and_then, option_map}
use Rattle.json.specs.Json as json
use Rattle.json.specs.Lex.{tokens}
use Rattle.json.specs.Tree as tree
use Rattle.json.proofs.Printed.Decimals.{IsNumber-decimal}
use Rattle.json.proofs.Printed.Tokens.{tokens-print}
use Rattle.json.proofs.Printed.Trees.{value-json_tokens, ArePrintable-json_tokens}
use Rattle.serde_json.proofs.Numbers.{number_of-decimal}
use Rattle.serde_json.proofs.Texts.{print-outline}
use Rattle.serde_json.specs.Data.{Data, null, boolean, number, string, array, object, Items, no_items, item, Members, no_members, member, put}
use Rattle.serde_json.specs.Read.{of_json, of_items, of_members, read}
use Rattle.serde_json.specs.View.{items_of}
use Rattle.serde_json.specs.Written.{outline, items_outline, members_outline, compact_text}
use Rattle.part_lines.specs.LineText.{Named, num, members_of, object_of, array_of}

-- the members of each object in the order of their names
abbrev mutual
  pub settled : Data → Data
  settled null = null
  settled (boolean b) = boolean b
  settled (number n) = number n
  settled (string s) = string s
  settled (array ds) = array (settled_items ds)
  settled (object ms) = object (settled_members ms no_members)

  pub settled_items : Items → Items
  settled_items no_items = no_items
  settled_items (item d ds) = item (settled d) (settled_items ds)

  pub settled_members : Members → Members → Members
  settled_members no_members found = found
  settled_members (member k d ms) found = settled_members ms (put k (settled d) found)

pub settled-items : (ds : List Data) → settled_items (items_of ds) ≡ items_of (map settled ds)
settled-items [] = refl
settled-items (d ∷ ds) = ap (item (settled d)) (settled-items ds)

-- its text is read as it is, and nests no deeper than this
pub record IsReadable (levels : ℕ) (d : Data) : Type 0 where
  pub is : of_json (outline d) ≡ Some (settled d)
  pub numbers : tree.HasNumbers (outline d)
  pub nests : tree.depth (outline d) ≤ levels

abbrev pub AreReadable : ℕ → List Data → Type 0
AreReadable levels [] = Unit {0}
AreReadable levels (d ∷ ds) = IsReadable levels d × AreReadable levels ds

abbrev pub AreNamed : ℕ → List Named → Type 0
AreNamed levels [] = Unit {0}
AreNamed levels (m ∷ ms) = IsReadable levels m.1 × AreNamed levels ms

pub read-text : (levels : ℕ) (d : Data) → levels ≤ 127 → IsReadable levels d → read (compact_text d) ≡ Some (settled d)
read-text levels d shallow h =
    let ts = tree.json_tokens (outline d) in
    let same : tokens (compact_text d) ≡ ts = ap tokens (sym (print-outline d)) ∙ tokens-print ts (ArePrintable-json_tokens (outline d) h.numbers) in
    ap (λ o. option_and_then of_json (option_and_then (λ p. json.if_last p.0 p.1) o))
    (ap (json.value 127) (same ∙ sym (append-nil ts)) ∙ value-json_tokens (outline d) 127 [] (omega (arith, h.nests, shallow)))
    ∙ h.is

pub reads-number : (levels n : ℕ) → n < 2 ^ 64 → IsReadable levels (num n)
reads-number levels n small = record { is = ap (option_map _) (number_of-decimal n small); numbers = IsNumber-decimal n small; nests = omega arith }

pub reads-string : (levels : ℕ) (s : List ℕ) → IsReadable levels (string s)
reads-string levels s = record { is = refl; numbers = tt; nests = omega arith }

pub reads-boolean : (levels : ℕ) (b : Bool) → IsReadable levels (boolean b)
reads-boolean levels b = record { is = refl; numbers = tt; nests = omega arith }

pub reads-append : (levels : ℕ) (ds others : List Data) → AreReadable levels ds → AreReadable levels others → AreReadable levels (ds ++ others)
reads-append levels [] others h k = k
reads-append levels (d ∷ ds) others h k = (h.0, reads-append levels ds others h.1 k)

pub reads-flat : {X : Type 0} (levels : ℕ) (f : X → List Data) → ((x : X) → AreReadable levels (f x)) → (xs : List X) → AreReadable levels (flat_map f xs)
reads-flat levels f each [] = tt
reads-flat levels f each (x ∷ xs) = reads-append levels (f x) (flat_map f xs) (each x) (reads-flat levels f each xs)

pub named-append : (levels : ℕ) (ms others : List Named) → AreNamed levels ms → AreNamed levels others → AreNamed levels (ms ++ others)
named-append levels [] others h k = k
named-append levels (m ∷ ms) others h k = (h.0, named-append levels ms others h.1 k)

items-read : (levels : ℕ) (ds : List Data) → AreReadable levels ds → (of_items (items_outline (items_of ds)) ≡ Some (settled_items (items_of ds)))
    × tree.ItemsHaveNumbers (items_outline (items_of ds)) × (tree.items_depth (items_outline (items_of ds)) ≤ levels)
items-read levels [] h = (refl, tt, omega arith)
items-read levels (d ∷ ds) h =
    let (is, numbers, nests) = items-read levels ds h.1 in (
      ap (λ o. option_and_then (λ e. option_map (item e) (of_items (items_outline (items_of ds)))) o) h.0.is ∙ ap (option_map (item (settled d))) is,
      (h.0.numbers, numbers),
      omega (arith, h.0.nests, nests),
    )

pub reads-array : (levels : ℕ) (ds : List Data) → AreReadable levels ds → IsReadable (suc levels) (array_of ds)
reads-array levels ds h =
    let (is, numbers, nests) = items-read levels ds h in
    record { is = ap (option_map array) is; numbers = numbers; nests = omega (arith, nests) }

members-read : (levels : ℕ) (ms : List Named) (found : Members) → AreNamed levels ms
    → (of_members (members_outline (members_of ms)) found ≡ Some (settled_members (members_of ms) found))
    × tree.MembersHaveNumbers (members_outline (members_of ms)) × (tree.members_depth (members_outline (members_of ms)) ≤ levels)
members-read levels [] found h = (refl, tt, omega arith)
members-read levels (m ∷ ms) found h =
    let (is, numbers, nests) = members-read levels ms (put m.0 (settled m.1) found) h.1 in (
      ap (λ o. option_and_then (λ e. of_members (members_outline (members_of ms)) (put m.0 e found)) o) h.0.is ∙ is,
      (h.0.numbers, numbers),
      omega (arith, h.0.nests, nests),
    )

pub reads-object : (levels : ℕ) (ms : List Named) → AreNamed levels ms → IsReadable (suc levels) (object_of ms)
reads-object levels ms h =
    let (is, numbers, nests) = members-read levels ms no_members h in
    record { is = ap (option_map object) is; numbers = numbers; nests = omega (arith, nests) }
