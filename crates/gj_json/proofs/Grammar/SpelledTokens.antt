-- Which bytes of a piece a token has.
use Rattle.gj_json.proofs.Common.{AllByRecursion, ColonDue, IsQuoted, IsWhite, List, Mode, Plain, ValueDue, ap, arith, cut, drop, get_or}
use Rattle.gj_json.proofs.Common.{is_unescaped_ascii, is_white, length, prefix_len, refl, subst, sym, ℕ, [], ◌++◌, ◌+◌, ◌-◌, ◌<◌, ◌∙◌, ◌∷◌, ◌≡◌, ◌≤◌}
use Rattle.std.proofs.Common.{take}
use Rattle.gj_json.specs.Bytes.{quote, colon as colon_byte}
use Rattle.gj_json.specs.declared.class.Class.TheVariants.{Colon as colon_class}
use Rattle.gj_json.specs.Internal.QuietBytes.{LeadsBy, Leads, Reads}
use Rattle.gj_json.proofs.Grammar.ClassOfBytes.{class_is}
use Rattle.gj_json.proofs.Pieces.PieceCuts.{cut_joins, cut_byte}
use Rattle.gj_json.proofs.Pieces.TakenFlats.{all_quiet}
use Rattle.gj_json.proofs.Pieces.QuietModes
use Rattle.gj_json.proofs.Pieces.QuietModes.{quiet_leads}

one_cut : (piece : List ℕ) (a : ℕ) → a < length piece → cut piece a (a + 1) ≡ get_or piece a 0 ∷ []
one_cut piece a w = let z : a + 1 - (a + 1) ≡ 0 =
    omega arith in cut_byte piece a (a + 1) w (omega arith) ∙ ap (λ n. get_or piece a 0 ∷ take n (drop (a + 1) piece)) z

-- a byte, and the bytes after it
byte_cut : (piece : List ℕ) (a c : ℕ) → a < c → c ≤ length piece → take c piece ≡ take a piece ++ get_or piece a 0 ∷ cut piece (a + 1) c
byte_cut piece a c v w =
    let e : c ≡ c - 0 = omega arith in
    let f : a - 0 ≡ a = omega arith in
    ap (λ n. take n piece) e ∙ cut_joins piece 0 a c (omega arith) (omega arith) ∙ ap (λ n. take n piece ++ cut piece a c) f
    ∙ ap (λ xs. take a piece ++ xs) (cut_byte piece a c (omega arith) v)

pub quoted_cut : (piece : List ℕ) (n : ℕ) → n + 1 < length piece → get_or piece 0 0 ≡ quote → get_or piece (n + 1) 0 ≡ quote
    → n ≡ prefix_len is_unescaped_ascii (drop 1 piece) → IsQuoted (cut piece 1 (n + 2 - 1)) (take (n + 2) piece)
quoted_cut piece n w first last plain =
    let z : n + 2 - 1 ≡ n + 1 = omega arith in
    let m : n + 1 - 1 ≡ n = omega arith in
    let y : n + 2 ≡ n + 1 + 1 = omega arith in
    let P : ℕ → Type 0 = λ k. Reads Plain (take k (drop 1 piece)) (take k (drop 1 piece)) Plain in
    let joined : cut piece 1 (n + 2) ≡ cut piece 1 (n + 1) ++ quote ∷ [] =
    cut_joins piece 1 (n + 1) (n + 2) (omega arith) (omega arith)
    ∙ ap (λ xs. cut piece 1 (n + 1) ++ xs) (ap (λ k. cut piece (n + 1) k) y ∙ one_cut piece (n + 1) w ∙ ap (λ b. b ∷ []) last) in
    rw z (record {
      spelled = byte_cut piece 0 (n + 2) (omega arith) (omega arith) ∙ ap (λ b. b ∷ cut piece 1 (n + 2)) first ∙ ap (λ xs. quote ∷ xs) joined;
      reads = subst P (sym (m ∙ plain)) (QuietModes.plain_run (drop 1 piece)).0;
    })

leads_joined : (a b c : Mode) (xs ys : List ℕ) → Leads a xs b → Leads b ys c → Leads a (xs ++ ys) c
leads_joined a b c [] ys h g = let P : Mode → Type 0 = λ m. Leads m ys c in subst P (sym h) g
leads_joined a b c (x ∷ xs) ys h g = (h.0, h.1, leads_joined h.0 b c xs ys h.2 g)

pub colon_by : LeadsBy ColonDue colon_byte ValueDue
colon_by = record { moves = λ turn inner words. rw (class_is colon_class colon_byte refl (λ e. cc)) refl; on = refl }

-- a colon, and white space around it
pub colon_cut : (piece : List ℕ) (a c : ℕ) → a ≡ prefix_len is_white piece → a < length piece → get_or piece a 0 ≡ colon_byte → a + 1 ≤ c → c ≤ length piece
    → AllByRecursion IsWhite (cut piece (a + 1) c) → Leads ColonDue (take c piece) ValueDue
colon_cut piece a c white w is on within after =
    let P : ℕ → Type 0 = λ n. Leads ColonDue (take n piece) ColonDue in
    let before : P a = subst P (sym white) (quiet_leads ColonDue (take (prefix_len is_white piece) piece) (QuietModes.white_run ColonDue refl piece)) in
    let behind : Leads ValueDue (cut piece (a + 1) c) ValueDue = quiet_leads ValueDue (cut piece (a + 1) c) (all_quiet (cut piece (a + 1) c) after) in
    rw (byte_cut piece a c (omega (arith, on)) within, is)
    (leads_joined ColonDue ColonDue ValueDue (take a piece) (colon_byte ∷ cut piece (a + 1) c) before (ValueDue, colon_by, behind))

pub first_colon_cut : (piece : List ℕ) (c : ℕ) → 0 < length piece → get_or piece 0 0 ≡ colon_byte → 1 ≤ c → c ≤ length piece
    → AllByRecursion IsWhite (cut piece 1 c) → Leads ColonDue (take c piece) ValueDue
first_colon_cut piece c w is on within after =
    let behind : Leads ValueDue (cut piece 1 c) ValueDue = quiet_leads ValueDue (cut piece 1 c) (all_quiet (cut piece 1 c) after) in
    rw (byte_cut piece 0 c (omega (arith, on)) within, is) (ValueDue, colon_by, behind)
