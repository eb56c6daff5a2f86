-- What stands in a string of JSON is read back.
use Rattle.std.proofs.Common.{◌≡◌, ◌≢◌, ℕ, suc, ◌+◌, ◌*◌, ◌/◌, ◌%◌, ◌<◌, ◌≤◌, inl, inr, Bool, true, false, cond, List, [], ◌∷◌, ◌++◌, length, get_or, Option, Some, None, refl, sym, ap, ap₂, ◌∙◌, subst, arith, append_assoc, append-nil, encode_utf8}
use Rattle.std.proofs.lemmas.Bool.{cases_lt, ne_eqb, le-ltb, lt-ltb}
use Rattle.std.proofs.lemmas.Bool.Decides.{nat_tests}
use Rattle.std.proofs.lemmas.Str.{inside_one, encode_ascii, digit_value-digit_char, NoCharPasses-nil, NoCharPasses-append, encodes-append}
use Rattle.std.specs.Prelude.{encode_utf8_all, nat_lt, option_and_then}
use Rattle.std.specs.Str.Lossy.{utf8_lossy}
use Rattle.std.specs.Char.{digit_value}
use Rattle.std.specs.Int.{IsInRange}
use Rattle.std.specs.List.{AllByRecursion}
use Rattle.std.specs.Str.{NoCharPasses}
use Rattle.json.specs.Lex.{Mode, lex, lex_byte, in_string, operator, space, other, Lexeme, token, fresh, string_token, punctuate}
use Rattle.json.specs.Json.{value, if_last}
use Rattle.json.specs.Text.{content, plain, prepend, code_unit, short_escape, is_high_surrogate, is_low_surrogate}
use Rattle.json.specs.Word.{is_operator, is_space}
use Rattle.serde_json.specs.Data.{Data, string}
use Rattle.serde_json.specs.Read.{of_json, max_depth}
use Rattle.gj_places.specs.Excerpts.{is_harmful}
use Rattle.gj_places.specs.Strings.{SpellsString}
use Rattle.gj_places.specs.Internal.Spelling.{SpellsInside, code_escape, hex_digit}

-- as `SpellsInside`, but for what is harmful
record ReadsInside (text spelled : List ℕ) : Type 0 where
  reads : (rest : List ℕ) → content plain (spelled ++ rest) ≡ prepend text (content plain rest)
  goes_on : (rest : List ℕ) → lex in_string (spelled ++ rest) ≡ lex in_string rest

spells_inside : (text spelled : List ℕ) → ReadsInside text spelled → NoCharPasses is_harmful spelled → SpellsInside text spelled
spells_inside text spelled them harmless = record { reads = them.reads; goes_on = them.goes_on; harmless = harmless }

-- the byte stands for itself
abbrev IsPlain : ℕ → Type 0
IsPlain x = (x ≢ 34) × (x ≢ 92) × (32 ≤ x)

prepend-nil : (o : Option (List ℕ)) → o ≡ prepend [] o
prepend-nil None = refl
prepend-nil (Some s) = refl

prepend-append : (xs ys : List ℕ) (o : Option (List ℕ)) → prepend xs (prepend ys o) ≡ prepend (xs ++ ys) o
prepend-append xs ys None = refl
prepend-append xs ys (Some s) = ap Some (sym (append_assoc xs ys s))

reads_both : (a b x y : List ℕ) → ReadsInside a x → ReadsInside b y → ReadsInside (a ++ b) (x ++ y)
reads_both a b x y first next = record {
  reads = λ rest. rw append_assoc (first.reads (y ++ rest) ∙ ap (prepend a) (next.reads rest) ∙ prepend-append a b (content plain rest));
  goes_on = λ rest. rw append_assoc (first.goes_on (y ++ rest) ∙ next.goes_on rest);
}

stays_inside : (o s : Bool) (x : ℕ) (r : List ℕ) (k : Mode → List Lexeme)
    → lex_byte in_string (cond o operator (cond s space other)) x r k ≡ k in_string
stays_inside true s x r k = refl
stays_inside false true x r k = refl
stays_inside false false x r k = refl

reads_byte : (x : ℕ) → IsPlain x → ReadsInside (x ∷ []) (x ∷ [])
unfolding content lex
reads_byte x is = record {
  reads = λ rest. rw (ne_eqb x 34 is.0, ne_eqb x 92 is.1, le-ltb x 32 is.2);
  goes_on = λ rest. rw (ne_eqb x 34 is.0, ne_eqb x 92 is.1) (stays_inside (is_operator x) (is_space x) x rest (λ m. lex m rest));
}

reads_plain : (xs : List ℕ) → ((k : ℕ) → k < length xs → IsPlain (get_or xs k 0)) → ReadsInside xs xs
reads_plain [] each = record { reads = λ rest. prepend-nil (content plain rest); goes_on = λ rest. refl }
reads_plain (x ∷ xs) each =
    reads_both (x ∷ []) xs (x ∷ []) xs (reads_byte x (each 0 (omega arith))) (reads_plain xs (λ k within. each (suc k) (omega arith)))

plain_char : (c : ℕ) → IsPlain c → (k : ℕ) → k < length (encode_utf8 c) → IsPlain (get_or (encode_utf8 c) k 0)
plain_char c is k within = elim (cases_lt (get_or (encode_utf8 c) k 0) 128) [
  | inl low ↦ subst IsPlain (inside_one c [] (encode_utf8 c) k (sym (append-nil _)) within low) is
  | inr high ↦ (λ e. omega arith, λ e. omega arith, omega arith)
]

not_control : (c : ℕ) → is_harmful c ≡ false → 32 ≤ c
not_control c harmless = grind (arith, nat_tests)

pub as_it_is : (c : ℕ) → c ≢ 34 → c ≢ 92 → is_harmful c ≡ false → SpellsInside (encode_utf8 c) (encode_utf8 c)
as_it_is c quote backslash harmless =
    spells_inside _ _ (reads_plain (encode_utf8 c) (plain_char c (quote, backslash, not_control c harmless))) (c ∷ [], append-nil _, (harmless, tt))

-- ---- escapes

shown : (x : ℕ) → IsInRange 32 126 x → is_harmful x ≡ false
shown x within = grind (arith, nat_tests)

harmless_ascii : (xs : List ℕ) → AllByRecursion (IsInRange 32 126) xs → NoCharPasses is_harmful xs
harmless_ascii [] each = NoCharPasses-nil is_harmful
harmless_ascii (x ∷ xs) each =
    NoCharPasses-append is_harmful (x ∷ []) xs (x ∷ [], append-nil _ ∙ encode_ascii x (omega arith), (shown x each.0, tt)) (harmless_ascii xs each.1)

pub short : (c n letter : ℕ) → c ≡ n → short_escape letter ≡ Some n → n < 128 → IsInRange 32 116 letter
    → SpellsInside (encode_utf8 c) (92 ∷ letter ∷ [])
unfolding content lex
short c n letter same is low within = record {
  reads = λ rest. rw (ne_eqb letter 117 (λ e. omega arith), is, same, encode_ascii n low);
  goes_on = λ rest. refl;
  harmless = harmless_ascii (92 ∷ letter ∷ []) ((omega arith, omega arith), ((omega arith, omega arith), tt));
}

digit : (n : ℕ) → IsPlain (hex_digit n) × IsInRange 32 126 (hex_digit n)
digit n = let small : n % 16 < 16 = omega arith in grind (arith, nat_tests)

code_unit-digits : (u : ℕ) → u < 65536
    → code_unit (hex_digit (u / 4096)) (hex_digit (u / 256)) (hex_digit (u / 16)) (hex_digit u) ≡ Some u
unfolding code_unit
code_unit-digits u small =
    let value : (n : ℕ) → digit_value (hex_digit n) ≡ n % 16 = λ n. digit_value-digit_char (n % 16) (omega arith) in
    let less : (n : ℕ) → nat_lt (n % 16) 16 ≡ true = λ n. lt-ltb (n % 16) 16 (omega arith) in
    let whole : u / 4096 % 16 * 4096 + u / 256 % 16 * 256 + u / 16 % 16 * 16 + u % 16 ≡ u = omega arith in
    rw (value (u / 4096), value (u / 256), value (u / 16), value u, less (u / 4096), less (u / 256), less (u / 16), less u) (ap Some whole)

few : (c : ℕ) → is_harmful c ≡ true → (c < 65536) × (is_high_surrogate c ≡ false) × (is_low_surrogate c ≡ false)
few c harmful = grind (arith, nat_tests)

pub by_code : (c : ℕ) → is_harmful c ≡ true → SpellsInside (encode_utf8 c) (code_escape c)
unfolding content lex
by_code c harmful =
    let (small, high, low) = few c harmful in
    let one = digit (c / 4096) in
    let two = digit (c / 256) in
    let three = digit (c / 16) in
    let four = digit c in
    record {
      reads = λ rest. rw (code_unit-digits c small, high, low) refl;
      goes_on = λ rest. (reads_byte _ one.0).goes_on _ ∙ (reads_byte _ two.0).goes_on _ ∙ (reads_byte _ three.0).goes_on _
          ∙ (reads_byte _ four.0).goes_on rest;
      harmless = harmless_ascii (code_escape c)
          ((omega arith, omega arith), ((omega arith, omega arith), (one.1, (two.1, (three.1, (four.1, tt))))));
    }

-- ---- a string

reads_of : {text spelled : List ℕ} → SpellsInside text spelled → ReadsInside text spelled
reads_of them = record { reads = them.reads; goes_on = them.goes_on }

pub spells_more : (cs body added : List ℕ) (c : ℕ) → SpellsInside (encode_utf8_all cs) body → SpellsInside (encode_utf8 c) added
    → SpellsInside (encode_utf8_all (cs ++ c ∷ [])) (body ++ added)
spells_more cs body added c so_far next =
    let both = reads_both (encode_utf8_all cs) (encode_utf8 c) body added (reads_of so_far) (reads_of next) in
    rw (encodes-append, append-nil) (spells_inside _ _ both (NoCharPasses-append is_harmful body added so_far.harmless next.harmless))

read_tokens : Option (List ℕ) → List Lexeme → Option Data
read_tokens found rest = option_and_then of_json
    (option_and_then (λ p. if_last p.0 p.1) (value max_depth (punctuate fresh (token (string_token found) ∷ rest))))

pub spells_string : (bytes text body : List ℕ) → text ≡ utf8_lossy bytes → SpellsInside text body → SpellsString bytes (34 ∷ (body ++ 34 ∷ []))
unfolding read_tokens content lex punctuate value
spells_string bytes text body same them =
    let quote = harmless_ascii (34 ∷ []) ((omega arith, omega arith), tt) in
    record {
      reads = ap₂ read_tokens (them.reads (34 ∷ [])) (them.goes_on (34 ∷ []))
          ∙ ap (λ (found : List ℕ). Some (string found)) (append-nil text ∙ same);
      harmless = NoCharPasses-append is_harmful (34 ∷ []) (body ++ 34 ∷ []) quote
          (NoCharPasses-append is_harmful body (34 ∷ []) them.harmless quote);
    }
