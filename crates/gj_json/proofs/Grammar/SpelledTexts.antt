-- Texts, a byte at a time.
use Rattle.gj_json.proofs.Common.{AfterE0, AfterED, AfterF0, AfterF4, Any, BeginsCharacter, Bool, Bounds, Exactly, IsPlain, Lead, List, None, Option}
use Rattle.gj_json.proofs.Common.{Some, SpellsCharacter, SpellsContent, StringState, StringStep, ap, append_assoc, arith, backslash, false, high_of}
use Rattle.gj_json.proofs.Common.{if◌then◌else◌, inl, inr, length, letter_u, low_of, nat_le, nat_tests, refl, space, string_ends, string_goes}
use Rattle.gj_json.proofs.Common.{string_next, string_refuses, subst, suc, sym, true, within, zero, ℕ, [], ◌%◌, ◌&&◌, ◌*◌, ◌++◌, ◌+◌, ◌-◌, ◌<◌, ◌==◌}
use Rattle.gj_json.proofs.Common.{◌∷◌, ◌≡◌, ◌≢◌, ◌≤◌, ◌⊎◌}
use Rattle.gj_json.specs.Bytes.{quote as quote_byte}
use Rattle.gj_json.specs.Grammar.{Then, Ends}
use Rattle.gj_json.specs.Characters.{IsUnicode, escape_of, hex_of}
use Rattle.gj_json.specs.Broken.{BeginsTail}
use Rattle.gj_json.specs.Utf8Bytes.{lead, lead_of}
use Rattle.gj_json.proofs.Grammar.Utf8Tables.{IsTail, IsWide, of_bytes, by_bytes}
use Rattle.gj_json.proofs.Grammar.SpelledForms
use Rattle.gj_json.specs.declared.mode.StringState.TheVariants.{Plain as plain, Escape as escape, HexDue as hex_due, HexOne as hex_one, HexTwo as hex_two}
use Rattle.gj_json.specs.declared.mode.StringState.TheVariants.{HexThree as hex_three, InCharacter as in_character}
use Rattle.gj_json.specs.Internal.TextMachine.{plain_step, escape_step, hex_step, hex_end}
use Rattle.gj_json.specs.Internal.TextMachine.{lead_step, tail_step}
use Rattle.gj_json.proofs.Machine.Completions.{StringRest, StringOn}

pub quote_on : (b : ℕ) → b ≡ quote_byte → string_next plain b ≡ string_ends
unfolding plain_step
quote_on b h = rw h refl

pub plain_on : (b : ℕ) → IsPlain b → plain_step b ≡ string_goes (b ∷ []) plain
unfolding plain_step
plain_on b h =
    let e : (b == quote_byte) ≡ false = grind (arith, nat_tests) in
    let f : (nat_le space b && nat_le b 127) ≡ true = grind (arith, nat_tests) in
    let g : (b == backslash) ≡ false = grind (arith, nat_tests) in
    rw (e, g, f) refl

-- what a step from a character's end says of its byte
abbrev pub SaidPlain : ℕ → StringStep → Type 0
SaidPlain b string_ends = b ≡ quote_byte
SaidPlain b (string_goes more next) = (IsPlain b × (more ≡ b ∷ []) × (next ≡ plain)) ⊎ ((b ≡ backslash) × (more ≡ []) × (next ≡ escape))
    ⊎ ((first : Lead) × (lead_of b ≡ Some first) × (more ≡ []) × (next ≡ in_character first.more first.bounds first.value))
SaidPlain b string_refuses = Unit {0}

pub said_plain : (b : ℕ) → SaidPlain b (plain_step b)
unfolding plain_step
said_plain b = first (b == quote_byte) refl
  where
    fourth : (o : Option Lead) → lead_of b ≡ o → SaidPlain b (lead_step o)
    fourth (Some first) e = inr (inr (first, e, refl, refl))
    fourth None e = tt

    third : (b ≢ quote_byte) → (b ≢ backslash) → (t : Bool) → (nat_le space b && nat_le b 127) ≡ t
        → SaidPlain b (if t then string_goes (b ∷ []) plain else lead_step (lead_of b))
    third d r true e = inl (((grind (arith, nat_tests)), (grind (arith, nat_tests)), d, r), refl, refl)
    third d r false e = fourth (lead_of b) refl

    second : (b ≢ quote_byte) → (t : Bool) → (b == backslash) ≡ t
        → SaidPlain b (if t then string_goes [] escape else (if nat_le space b && nat_le b 127 then string_goes (b ∷ []) plain else lead_step (lead_of b)))
    second d true e = inr (inl ((grind (arith, nat_tests)), refl, refl))
    second d false e = third d (grind (arith, nat_tests)) (nat_le space b && nat_le b 127) refl

    first : (t : Bool) → (b == quote_byte) ≡ t
        → SaidPlain b (if t then string_ends else
        (if b == backslash then string_goes [] escape else (if nat_le space b && nat_le b 127 then string_goes (b ∷ []) plain else lead_step (lead_of b))))
    first true e = grind (arith, nat_tests)
    first false e = second (grind (arith, nat_tests)) (b == backslash) refl

-- the last byte of a character, or one before it
tail_ends : (more : ℕ) (bounds last_bounds : Bounds) (value last_value b : ℕ) (bytes : List ℕ)
    → BeginsTail more bounds value (in_character zero last_bounds last_value) bytes → low_of last_bounds ≤ b → b ≤ high_of last_bounds
    → IsTail more bounds value (last_value * 64 + b % 64) (bytes ++ b ∷ [])
tail_ends zero bounds lb value lv b [] h l u = let e : lb ≡ bounds = cc in let f : lv ≡ value =
    cc in (b, refl, rw (← e) l, rw (← e) u, ap (λ x. x * 64 + b % 64) f)
tail_ends (suc more) bounds lb value lv b [] h l u = cc
tail_ends zero bounds lb value lv b (c ∷ bytes) h l u = absurd h
tail_ends (suc more) bounds lb value lv b (c ∷ bytes) h l u =
    (c, bytes ++ b ∷ [], refl, h.0, h.1, tail_ends more Any lb (value * 64 + c % 64) lv b bytes h.2 l u)

tail_goes : (more : ℕ) (bounds last_bounds : Bounds) (value last_value left b : ℕ) (bytes : List ℕ)
    → BeginsTail more bounds value (in_character (suc left) last_bounds last_value) bytes → low_of last_bounds ≤ b → b ≤ high_of last_bounds
    → BeginsTail more bounds value (in_character left Any (last_value * 64 + b % 64)) (bytes ++ b ∷ [])
tail_goes zero bounds lb value lv left b [] h l u = cc
tail_goes (suc more) bounds lb value lv left b [] h l u =
    let e : lb ≡ bounds = cc in
    let f : lv ≡ value = cc in
    let g : left ≡ more = cc in
    (rw (← e) l, rw (← e) u, rw (f, g) refl)
tail_goes zero bounds lb value lv left b (c ∷ bytes) h l u = absurd h
tail_goes (suc more) bounds lb value lv left b (c ∷ bytes) h l u = (h.0, h.1, tail_goes more Any lb (value * 64 + c % 64) lv left b bytes h.2 l u)

-- what the machine's step by b says, after these bytes of a character
abbrev pub Begun : List ℕ → ℕ → StringStep → Type 0
Begun bytes b string_ends = (bytes ≡ []) × (b ≡ quote_byte)
Begun bytes b (string_goes [] next) = BeginsCharacter next (bytes ++ b ∷ [])
Begun bytes b (string_goes (c ∷ []) next) = (next ≡ plain) × SpellsCharacter c (bytes ++ b ∷ [])
Begun bytes b (string_goes (c ∷ d ∷ more) next) = ⊥
Begun bytes b string_refuses = Unit {0}

begun_plain : (b : ℕ) (s : StringStep) → SaidPlain b s → Begun [] b s
begun_plain b string_ends h = (refl, h)
begun_plain b (string_goes more next) h = elim h [
  | inl g ↦ rw (g.1, g.2) (refl, inl (g.0, refl))
  | inr k ↦ elim k [
    | inl g ↦ rw (g.1, g.2, g.0) refl
    | inr g ↦ rw (g.2, g.3) (b, [], g.0, refl, g.1, refl)
  ]
]
begun_plain b string_refuses h = tt

pub begun : (bytes : List ℕ) (state : StringState) (b : ℕ) → BeginsCharacter state bytes → Begun bytes b (string_next state b)
begun bytes plain b h = rw h (begun_plain b (plain_step b) (said_plain b))
begun bytes escape b h = rw h (first (b == letter_u) refl)
  where
    second : (o : Option ℕ) → escape_of b ≡ o → Begun (backslash ∷ []) b (escape_step o)
    second (Some c) e = (refl, inr (inl (b, refl, e)))
    second None e = tt

    first : (t : Bool) → (b == letter_u) ≡ t → Begun (backslash ∷ []) b (if t then string_goes [] hex_due else escape_step (escape_of b))
    first true e = let f : b ≡ letter_u = grind (arith, nat_tests) in rw f refl
    first false e = second (escape_of b) refl
begun bytes hex_due b h = rw h (go (hex_of b) refl)
  where
    go : (o : Option ℕ) → hex_of b ≡ o → Begun (backslash ∷ letter_u ∷ []) b (hex_step (λ d. string_goes [] (hex_one d)) o)
    go (Some d) e = (b, refl, e)
    go None e = tt
begun bytes (hex_one v) b h = go (hex_of b) refl
  where
    go : (o : Option ℕ) → hex_of b ≡ o → Begun bytes b (hex_step (λ d. string_goes [] (hex_two (v * 16 + d))) o)
    go (Some d) e = (h.0, b, v, d, ap (λ xs. xs ++ b ∷ []) h.1, h.2, e, refl)
    go None e = tt
begun bytes (hex_two v) b h = go (hex_of b) refl
  where
    go : (o : Option ℕ) → hex_of b ≡ o → Begun bytes b (hex_step (λ d. string_goes [] (hex_three (v * 16 + d))) o)
    go (Some d) e = (h.0, h.1, b, h.2, h.3, d, ap (λ xs. xs ++ b ∷ []) h.4, h.5, h.6, e, ap (λ w. w * 16 + d) h.7)
    go None e = tt
begun bytes (hex_three v) b h = go (hex_of b) refl
  where
    go : (o : Option ℕ) → hex_of b ≡ o → Begun bytes b (hex_step (λ d. hex_end (v * 16 + d)) o)
    go (Some d) e = (refl, inr (inr (inl (h.0, h.1, h.2, b, h.3, h.4, h.5, d, ap (λ xs. xs ++ b ∷ []) h.6, h.7, h.8, h.9, e, ap (λ w. w * 16 + d) h.10))))
    go None e = tt
begun bytes (in_character more bounds value) b h = go (within bounds b) refl
  where
    inner : low_of bounds ≤ b → b ≤ high_of bounds → (k : ℕ) → more ≡ k → Begun bytes b (tail_step k (value * 64 + b % 64))
    inner l u zero e =
        let t : BeginsTail h.2.more h.2.bounds h.2.value (in_character zero bounds value) h.1 = rw e at h.5 in (
          refl,
          inr (inr (inr
              (of_bytes (value * 64 + b % 64) (bytes ++ b ∷ [])
              (h.0, h.1 ++ b ∷ [], h.2, ap (λ xs. xs ++ b ∷ []) h.3, h.4, tail_ends h.2.more h.2.bounds bounds h.2.value value b h.1 t l u)))),
        )
    inner l u (suc k) e =
        let t : BeginsTail h.2.more h.2.bounds h.2.value (in_character (suc k) bounds value) h.1 = rw e at h.5 in
        (h.0, h.1 ++ b ∷ [], h.2, ap (λ xs. xs ++ b ∷ []) h.3, h.4, tail_goes h.2.more h.2.bounds bounds h.2.value value k b h.1 t l u)

    go : (t : Bool) → (within bounds b) ≡ t → Begun bytes b (if t then tail_step more (value * 64 + b % 64) else string_refuses)
    go true e = inner (grind (arith, nat_tests)) (grind (arith, nat_tests)) more refl
    go false e = tt

-- what begins by the bytes of a character under way
pub content_from : (bytes before content : List ℕ) (state : StringState) → BeginsCharacter state before → StringRest state content bytes
    → SpellsContent content (before ++ bytes)
content_from [] before content state l h =
    let e : before ≡ [] = (let P : StringState → Type 0 = λ s. BeginsCharacter s before in let k : BeginsCharacter plain before = subst P h.1 l in k) in
    rw (h.0, e) refl
content_from (b ∷ bytes) before content state l h =
    let P : StringStep → Type 0 = λ s. Begun before b s in
    go (λ first rest s k r. content_from bytes first rest s k r) h.0 h.1 h.2 h.4 (subst P h.3 (begun before state b l)) h.5
  where
    go : ((first rest : List ℕ) (s : StringState) → BeginsCharacter s first → StringRest s rest bytes → SpellsContent rest (first ++ bytes))
        → (more : List ℕ) (next : StringState) (later : List ℕ)
        → content ≡ more ++ later → Begun before b (string_goes more next) → StringRest next later bytes → SpellsContent content (before ++ b ∷ bytes)
    go ih [] next later f d r = rw f (rw (← append_assoc before (b ∷ []) bytes) (ih (before ++ b ∷ []) later next d r))
    go ih (c ∷ []) next later f d r =
        let Q : StringState → Type 0 = λ s. StringRest s later bytes in
        rw f (before ++ b ∷ [], bytes, sym (append_assoc before (b ∷ []) bytes), d.1, ih [] later plain refl (subst Q d.0 r))
    go ih (c ∷ x ∷ more) next later f d r = absurd d

pub content_back : (bytes content : List ℕ) → StringRest plain content bytes → SpellsContent content bytes
content_back bytes content h = content_from bytes [] content plain refl h

pub backslash_on : plain_step backslash ≡ string_goes [] escape
unfolding plain_step
backslash_on = refl

-- no short escape is that of a number
never_u : (e c : ℕ) → escape_of e ≡ Some c → e ≢ letter_u
unfolding escape_of
never_u e c h = λ k. let f : escape_of letter_u ≡ Some c = rw k at h in cc

escape_on : (e c : ℕ) → escape_of e ≡ Some c → string_next escape e ≡ string_goes (c ∷ []) plain
escape_on e c h = let d : e ≢ letter_u = never_u e c h in let f : (e == letter_u) ≡ false = grind (arith, nat_tests) in rw (f, h) refl

unicode_on : (c : ℕ) (first rest content : List ℕ) → IsUnicode c first → StringRest plain content rest → StringRest plain (c ∷ content) (first ++ rest)
unicode_on c first rest content (b0, b1, b2, b3, d0, d1, d2, d3, e, h0, h1, h2, h3, v) r =
    rw e (
      [],
      escape,
      c ∷ content,
      backslash_on,
      refl,
      (
        [],
        hex_due,
        c ∷ content,
        refl,
        refl,
        (
          [],
          hex_one d0,
          c ∷ content,
          rw h0 refl,
          refl,
          (
            [],
            hex_two (d0 * 16 + d1),
            c ∷ content,
            rw h1 refl,
            refl,
            (
              [],
              hex_three ((d0 * 16 + d1) * 16 + d2),
              c ∷ content,
              rw h2 refl,
              refl,
              (c ∷ [], plain, content, rw (h3, v) refl, refl, r),
            ),
          ),
        ),
      ),
    )

lead_large : (b : ℕ) (first : Lead) → lead_of b ≡ Some first → 0xC1 < b
unfolding lead_of
lead_large b first e = go (nat_le b 0xC1) refl e
  where
    go : (t : Bool) → nat_le b 0xC1 ≡ t
        → (if t then None else
        (if nat_le b 0xDF then lead 0 Any (b - 0xC0) else if b == 0xE0 then lead 1 AfterE0 0 else if nat_le b 0xEC then lead 1 Any
        (b - 0xE0) else if b == 0xED then lead 1 AfterED 13 else if nat_le b 0xEF then lead 1 Any
        (b - 0xE0) else if b == 0xF0 then lead 2 AfterF0 0 else if nat_le b 0xF3 then lead 2 Any
        (b - 0xF0) else if b == 0xF4 then lead 2 AfterF4 4 else None)) ≡ Some first → 0xC1 < b
    go true f e = cc
    go false f e = grind (arith, nat_tests)

pub lead_on : (b : ℕ) (first : Lead) → lead_of b ≡ Some first → plain_step b ≡ string_goes [] (in_character first.more first.bounds first.value)
unfolding plain_step
lead_on b first e =
    let l : 0xC1 < b = lead_large b first e in
    let f : (b == quote_byte) ≡ false = grind (arith, nat_tests) in
    let g : (b == backslash) ≡ false = grind (arith, nat_tests) in
    let h : (nat_le space b && nat_le b 127) ≡ false = grind (arith, nat_tests) in
    rw (f, g, h, e) refl

tail_on : (more : ℕ) (bounds : Bounds) (value c : ℕ) (bytes rest content : List ℕ) → IsTail more bounds value c bytes → StringRest plain content rest
    → StringRest (in_character more bounds value) (c ∷ content) (bytes ++ rest)
tail_on zero bounds value c bytes rest content h r =
    let e : within bounds h.0 ≡ true = (let p : low_of bounds ≤ h.0 = h.2 in let q : h.0 ≤ high_of bounds = h.3 in grind (arith, nat_tests)) in
    rw (h.1) (c ∷ [], plain, content, rw (e, h.4) refl, refl, r)
tail_on (suc more) bounds value c bytes rest content h r =
    let e : within bounds h.0 ≡ true = (let p : low_of bounds ≤ h.0 = h.3 in let q : h.0 ≤ high_of bounds = h.4 in grind (arith, nat_tests)) in
    rw (h.2) (
      [],
      in_character more Any (value * 64 + h.0 % 64),
      c ∷ content,
      rw e refl,
      refl,
      tail_on more Any
          (value * 64 + h.0 % 64) c h.1 rest content h.5 r,
    )

wide_on : (c : ℕ) (first rest content : List ℕ) → IsWide c first → StringRest plain content rest → StringRest plain (c ∷ content) (first ++ rest)
wide_on c first rest content h r =
    rw (h.3) (
      [],
      in_character h.2.more h.2.bounds h.2.value,
      c ∷ content,
      lead_on h.0 h.2 h.4,
      refl,
      tail_on h.2.more h.2.bounds h.2.value c h.1 rest content
          h.5 r,
    )

character_on : (c : ℕ) (first rest content : List ℕ) → SpellsCharacter c first → StringRest plain content rest → StringRest plain (c ∷ content) (first ++ rest)
character_on c first rest content h r = elim h [
  | inl g ↦ rw (g.1) (c ∷ [], plain, content, plain_on c g.0, refl, r)
  | inr k ↦ elim k [
    | inl g ↦ rw (g.1) ([], escape, c ∷ content, backslash_on, refl, (c ∷ [], plain, content, escape_on g.0 c g.2, refl, r))
    | inr j ↦ elim j [
      | inl g ↦ unicode_on c first rest content g r
      | inr g ↦ wide_on c first rest content (by_bytes c first g) r
    ]
  ]
]

pub content_on : (bytes content : List ℕ) → SpellsContent content bytes → StringRest plain content bytes
content_on bytes [] h = rw h (refl, refl)
content_on bytes (c ∷ content) h = rw (h.2) (character_on c h.0 h.1 content h.3 (content_on h.1 content h.4))

-- ---- the same, with what follows

-- the next byte ends a text, or goes on in it
pub string_on_step : {state : StringState} {content : List ℕ} {end : ℕ} {K : ℕ → List ℕ → Type 0} {n b : ℕ} {rest : List ℕ}
    → Then (StringOn state content end) K n (b ∷ rest)
    → ((string_next state b ≡ string_ends) × (content ≡ []) × (end ≡ n + 1) × K (n + 1) rest)
    ⊎ ((more : List ℕ) × (next : StringState) × (later : List ℕ) × (string_next state b ≡ string_goes more next) × (content ≡ more ++ later)
    × Then (StringOn next later end) K (n + 1) rest)
string_on_step {state} {content} {end} {K} {n} {b} {rest} h = go g.first g.joined g.before g.after
  where
    Tail : ℕ → List ℕ → Type 0
    Tail = Then (Then (Exactly (quote_byte ∷ [])) (Ends end)) K

    g : Then (λ here inner. StringRest state content inner) (Then (Then (Exactly (quote_byte ∷ [])) (Ends end)) K) n (b ∷ rest)
    g = SpelledForms.then_left h

    go : (inner : List ℕ) → b ∷ rest ≡ inner ++ g.rest → StringRest state content inner
        → Then (Then (Exactly (quote_byte ∷ [])) (Ends end)) K (n + length inner) g.rest
        → ((string_next state b ≡ string_ends) × (content ≡ []) × (end ≡ n + 1) × K (n + 1) rest)
        ⊎ ((more : List ℕ) × (next : StringState) × (later : List ℕ) × (string_next state b ≡ string_goes more next) × (content ≡ more ++ later)
        × Then (StringOn next later end) K (n + 1) rest)
    go [] e t k =
        let k2 : Then (Then (Exactly (quote_byte ∷ [])) (Ends end)) K n (b ∷ rest) =
        SpelledForms.moved (Then (Then (Exactly (quote_byte ∷ [])) (Ends end)) K) (omega arith) (sym e) k in
        let j = SpelledForms.byte_on (SpelledForms.then_left k2) in
        let i = SpelledForms.ends_on j.1 in
        inl (rw t.1 (quote_on b j.0), t.0, i.0, i.1)
    go (c ∷ inner) e t k =
        let f : b ≡ c = cc in
        let next : string_next state b ≡ string_goes t.0 t.1 = rw f t.3 in
        inr (
          t.0,
          t.1,
          t.2,
          next,
          t.4,
          SpelledForms.then_right
              (SpelledForms.joins inner g.rest (cc) t.5 (SpelledForms.moved (Then (Then (Exactly (quote_byte ∷ [])) (Ends end)) K) (omega arith) refl k)),
        )

escape_never : (t : Bool) (o : Option ℕ) → (if t then string_goes [] hex_due else escape_step o) ≡ string_ends → ⊥
escape_never true o e = cc
escape_never false (Some c) e = cc
escape_never false None e = cc

tail_never : (t : Bool) (more value : ℕ) → (if t then tail_step more value else string_refuses) ≡ string_ends → ⊥
tail_never true zero value e = cc
tail_never other another value e = cc

hex_never : (goes : ℕ → StringStep) → ((d : ℕ) → goes d ≡ string_ends → ⊥) → (o : Option ℕ) → hex_step goes o ≡ string_ends → ⊥
hex_never goes h (Some d) e = h d e
hex_never goes h None e = cc

pub ended_plain : (state : StringState) (b : ℕ) → string_next state b ≡ string_ends → (state ≡ plain) × (b ≡ quote_byte)
ended_plain plain b e = (refl, let P : StringStep → Type 0 = λ t. SaidPlain b t in subst P e (said_plain b))
ended_plain escape b e = absurd (escape_never (b == letter_u) (escape_of b) e)
ended_plain hex_due b e = absurd (hex_never _ (λ d k. cc) (hex_of b) e)
ended_plain (hex_one v) b e = absurd (hex_never _ (λ d k. cc) (hex_of b) e)
ended_plain (hex_two v) b e = absurd (hex_never _ (λ d k. cc) (hex_of b) e)
ended_plain (hex_three v) b e = absurd (hex_never _ (λ d k. cc) (hex_of b) e)
ended_plain (in_character more bounds value) b e = absurd (tail_never (within bounds b) more (value * 64 + b % 64) e)

pub string_back_end : {state : StringState} {K : ℕ → List ℕ → Type 0} {n b : ℕ} {rest : List ℕ} → string_next state b ≡ string_ends → K (n + 1) rest
    → Then (StringOn state [] (n + 1)) K n (b ∷ rest)
string_back_end {state} {K} {n} {b} {rest} e k =
    let p = ended_plain state b e in
    let tail : Then (Then (Exactly (quote_byte ∷ [])) (Ends (n + 1))) K n (b ∷ rest) =
    SpelledForms.then_right (SpelledForms.byte_more p.1 (SpelledForms.ends_here k)) in
    SpelledForms.then_right
    (SpelledForms.joins [] (b ∷ rest) refl (refl, p.0)
    (SpelledForms.moved (Then (Then (Exactly (quote_byte ∷ [])) (Ends (n + 1))) K) (omega arith) refl tail))

pub string_back_more : {state next : StringState} {more later : List ℕ} {end : ℕ} {K : ℕ → List ℕ → Type 0} {n b : ℕ} {rest : List ℕ}
    → string_next state b ≡ string_goes more next → Then (StringOn next later end) K (n + 1) rest
    → Then (StringOn state (more ++ later) end) K n (b ∷ rest)
string_back_more {state} {next} {more} {later} {end} {K} {n} {b} {rest} e h =
    let g : Then (λ here inner. StringRest next later inner) (Then (Then (Exactly (quote_byte ∷ [])) (Ends end)) K) (n + 1) rest = SpelledForms.then_left h in
    SpelledForms.then_right
    (SpelledForms.joins (b ∷ g.first) g.rest (ap (λ xs. b ∷ xs) g.joined) (more, next, later, e, refl, g.before)
    (SpelledForms.moved (Then (Then (Exactly (quote_byte ∷ [])) (Ends end)) K) (omega arith) refl g.after))
