-- The first bytes of a character: where they lead.
use Rattle.gj_json.proofs.Common.{Any, BeginsCharacter, Bounds, List, SpellsCharacter, SpellsContent, StringState, append_assoc, arith, high_of}
use Rattle.gj_json.proofs.Common.{low_of, nat_tests, refl, string_goes, string_next, suc, sym, true, within, zero, ℕ, [], ◌%◌, ◌*◌, ◌++◌, ◌+◌, ◌∷◌}
use Rattle.gj_json.proofs.Common.{◌≡◌, ◌≤◌}
use Rattle.std.proofs.Common.{append-nil}
use Rattle.gj_json.specs.declared.mode.StringState.TheVariants.{Plain as plain, Escape as escape, HexDue as hex_due, HexOne as hex_one, HexTwo as hex_two}
use Rattle.gj_json.specs.declared.mode.StringState.TheVariants.{HexThree as hex_three, InCharacter as in_character}
use Rattle.gj_json.specs.Broken.{BeginsTail}
use Rattle.gj_json.proofs.Machine.Completions.{StringRest}
use Rattle.gj_json.proofs.Grammar.SpelledTexts.{backslash_on, lead_on, content_on}

-- one character more
pub content_push : (content : List ℕ) (bytes : List ℕ) (c : ℕ) (last : List ℕ) → SpellsContent content bytes → SpellsCharacter c last
    → SpellsContent (content ++ c ∷ []) (bytes ++ last)
content_push [] bytes c last h k = rw h (last, [], simp append-nil, k, refl)
content_push (d ∷ content) bytes c last h k = (h.0, h.1 ++ last, rw (h.2) (simp append_assoc), h.3, content_push content h.1 c last h.4 k)

-- ---- where bytes lead

-- from one state to another, by this content
abbrev pub StringTo : StringState → List ℕ → List ℕ → StringState → Type 0
StringTo state content [] last = (content ≡ []) × (state ≡ last)
StringTo state content (b ∷ bytes) last =
    (more : List ℕ) × (next : StringState) × (later : List ℕ) × (string_next state b ≡ string_goes more next) × (content ≡ more ++ later)
    × StringTo next later bytes last

rest_to : (state : StringState) (content bytes : List ℕ) → StringRest state content bytes → StringTo state content bytes plain
rest_to state content [] h = h
rest_to state content (b ∷ bytes) h = (h.0, h.1, h.2, h.3, h.4, rest_to h.1 h.2 bytes h.5)

pub content_to : (content bytes : List ℕ) → SpellsContent content bytes → StringTo plain content bytes plain
content_to content bytes h = rest_to plain content bytes (content_on bytes content h)

tail_to : (more : ℕ) (bounds : Bounds) (value : ℕ) (state : StringState) (bytes : List ℕ) → BeginsTail more bounds value state bytes
    → StringTo (in_character more bounds value) [] bytes state
tail_to more bounds value state [] h = (refl, sym h)
tail_to zero bounds value state (b ∷ bytes) h = absurd h
tail_to (suc more) bounds value state (b ∷ bytes) h =
    let e : within bounds b ≡ true = (let l : low_of bounds ≤ b = h.0 in let u : b ≤ high_of bounds = h.1 in grind (arith, nat_tests)) in
    ([], in_character more Any (value * 64 + b % 64), [], rw e refl, refl, tail_to more Any (value * 64 + b % 64) state bytes h.2)

pub character_to : (state : StringState) (bytes : List ℕ) → BeginsCharacter state bytes → StringTo plain [] bytes state
character_to plain bytes h = rw h (refl, refl)
character_to escape bytes h = rw h ([], escape, [], backslash_on, refl, (refl, refl))
character_to hex_due bytes h = rw h ([], escape, [], backslash_on, refl, ([], hex_due, [], refl, refl, (refl, refl)))
character_to (hex_one v) bytes h =
    rw (h.1) ([], escape, [], backslash_on, refl, ([], hex_due, [], refl, refl, ([], hex_one v, [], rw (h.2) refl, refl, (refl, refl))))
character_to (hex_two v) bytes (b0, b1, d0, d1, e, h0, h1, w) =
    rw (e, w) (
      [],
      escape,
      [],
      backslash_on,
      refl,
      ([], hex_due, [], refl, refl, ([], hex_one d0, [], rw h0 refl, refl, ([], hex_two (d0 * 16 + d1), [], rw h1 refl, refl, (refl, refl)))),
    )
character_to (hex_three v) bytes (b0, b1, b2, d0, d1, d2, e, h0, h1, h2, w) =
    rw (e, w) (
      [],
      escape,
      [],
      backslash_on,
      refl,
      (
        [],
        hex_due,
        [],
        refl,
        refl,
        (
          [],
          hex_one d0,
          [],
          rw h0 refl,
          refl,
          ([], hex_two (d0 * 16 + d1), [], rw h1 refl, refl, ([], hex_three ((d0 * 16 + d1) * 16 + d2), [], rw h2 refl, refl, (refl, refl))),
        ),
      ),
    )
character_to (in_character more bounds value) bytes h =
    rw (h.3) (
      [],
      in_character h.2.more h.2.bounds h.2.value,
      [],
      lead_on h.0 h.2 h.4,
      refl,
      tail_to h.2.more h.2.bounds h.2.value
          (in_character more bounds value) h.1 h.5,
    )
