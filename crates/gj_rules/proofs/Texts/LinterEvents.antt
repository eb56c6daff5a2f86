-- What was reported of the bytes of a linter, from call to call.
use Rattle.gj_rules.proofs.Common.{Allowed, Event, Fault, FramedRules, IsAdmitted, IsText, IsVerdict, JsonFault, List, Simple, Text, Tree, Warnings}
use Rattle.gj_rules.proofs.Common.{all_events, ap, append_assoc, arith, coordinates_kept, coordinates_warnings, depth, events, events_by, least}
use Rattle.gj_rules.proofs.Common.{length, length-map, levels_within, mark_events, option_to_list, refl, subst, sym, take, take-append-add}
use Rattle.gj_rules.proofs.Common.{take-length, text_events, text_faults, text_kept, text_warnings, value_events, verdict_of, warnings_of, [], ◌++◌}
use Rattle.gj_rules.proofs.Common.{◌+◌, ◌-◌, ◌<◌, ◌^◌, ◌∙◌, ◌≤◌}
use Rattle.std.proofs.Common.{◌≡◌, ℕ, Option, Some, None, Result}
use Rattle.std.proofs.Common.{Ok, Err, append-nil, length-append}
use Rattle.std.proofs.lemmas.List.{take-append-le}
use Rattle.gj_json.specs.declared.reader.Reader.{Reader}
use Rattle.gj_json.specs.Reader.{StandsFor as ReaderStandsFor, refusal_of, offset_of, Hears}
use Rattle.gj_rules.specs.Linter.{AreToldOf}
use Rattle.gj_rules.specs.Rules.{StandsFor as RulesStandFor}
use Rattle.gj_rules.proofs.Objects.WarningsKept.{text_is}
use Rattle.gj_coords.proofs.Readers.LeastOfSome.{least_none}

-- ---- a piece

-- the events of more bytes were reported
more_told : (Old New : List Event → Type 0) (bytes more taken : List ℕ) (m : ℕ) (k : AreToldOf Old bytes (length bytes))
    → Hears New k.events (length bytes) m taken → taken ≡ bytes ++ more → AreToldOf New taken m
more_told Old New bytes more taken m k h e = record {
  events = k.events ++ h.0;
  told = h.1;
  complete = λ text rest t.
      let u : IsText text ((bytes ++ more) ++ rest) = rw e at t in
      let v : IsText text (bytes ++ (more ++ rest)) = rw append_assoc at u in
      h.2 text rest t ∙ ap (λ xs. xs ++ h.0) (k.complete text (more ++ rest) v);
}

-- of a reader that took all its bytes
pub taken_all : (Told : List Event → Type 0) (bytes : List ℕ) (n : ℕ) → n ≡ length bytes → AreToldOf Told (take n bytes) n → AreToldOf Told bytes (length bytes)
taken_all Told bytes n e k = let j : AreToldOf Told (take (length bytes) bytes) (length bytes) = rw e at k in rw (take-length bytes) at j

told_all : (Told : List Event → Type 0) (bytes : List ℕ) (n : ℕ) → n ≡ length bytes → AreToldOf Told bytes (length bytes) → AreToldOf Told (take n bytes) n
told_all Told bytes n e k = let j : AreToldOf Told (take (length bytes) bytes) (length bytes) = rw (take-length bytes) k in rw e j

-- where this holds of the events, and so that
pub told_so : (Old New : List Event → Type 0) (taken : List ℕ) (n : ℕ) → ((events : List Event) → Old events → New events) → AreToldOf Old taken n
    → AreToldOf New taken n
told_so Old New taken n so k = record { events = k.events; told = so k.events k.told; complete = k.complete }

-- the prefix of a piece after the bytes before it
pub take_both : (bytes given : List ℕ) (p : ℕ) → length bytes ≤ p → take p (bytes ++ given) ≡ bytes ++ take (p - length bytes) given
take_both bytes given p l = let e : p ≡ length bytes + (p - length bytes) =
    omega arith in ap (λ n. take n (bytes ++ given)) e ∙ take-append-add bytes given (p - length bytes)

module _ (live_at : (reader : Reader) (bytes : List ℕ) → ReaderStandsFor reader bytes → refusal_of reader ≡ None → offset_of reader ≡ length bytes)
    (refused : (reader : Reader) (bytes : List ℕ) (fault : JsonFault) → ReaderStandsFor reader bytes → refusal_of reader ≡ Some fault
    → offset_of reader ≡ fault.place)
    (within : (reader : Reader) (bytes : List ℕ) → ReaderStandsFor reader bytes → offset_of reader ≤ length bytes) where
  -- no byte was refused
  pub fed_ok : (old new : Reader) (Old New : List Event → Type 0) (bytes given : List ℕ) → ReaderStandsFor old bytes → ReaderStandsFor new (bytes ++ given)
      → refusal_of old ≡ None → refusal_of new ≡ None → AreToldOf Old (take (offset_of old) bytes) (offset_of old)
      → ((events : List Event) → Old events → Hears New events (length bytes) (length (bytes ++ given)) (bytes ++ given))
      → AreToldOf New (take (offset_of new) (bytes ++ given)) (offset_of new)
  fed_ok old new Old New bytes given s t live on k hears =
      let j = taken_all Old bytes (offset_of old) (live_at old bytes s live) k in
      told_all New (bytes ++ given) (offset_of new) (live_at new (bytes ++ given) t on)
      (more_told Old New bytes given (bytes ++ given) (length (bytes ++ given)) j (hears j.events j.told) refl)

  -- a byte was
  pub fed_err : (old new : Reader) (Old New : List Event → Type 0) (bytes given : List ℕ) (fault : JsonFault) → ReaderStandsFor old bytes
      → ReaderStandsFor new (bytes ++ given) → refusal_of old ≡ None → refusal_of new ≡ Some fault → offset_of old ≤ offset_of new
      → AreToldOf Old (take (offset_of old) bytes) (offset_of old)
      → ((events : List Event) → Old events → Hears New events (length bytes) fault.place (take fault.place (bytes ++ given)))
      → AreToldOf New (take (offset_of new) (bytes ++ given)) (offset_of new)
  fed_err old new Old New bytes given fault s t live on l k hears =
      let e = live_at old bytes s live in
      let p = refused new (bytes ++ given) fault t on in
      let j = taken_all Old bytes (offset_of old) e k in
      let m = more_told Old New bytes (take (fault.place - length bytes) given) (take fault.place (bytes ++ given)) fault.place j (hears j.events j.told)
      (take_both bytes given fault.place (omega (arith, e, p, l))) in
      rw p m

  -- one was before
  pub fed_again : (reader : Reader) (Told : List Event → Type 0) (bytes given : List ℕ) → ReaderStandsFor reader bytes
      → AreToldOf Told (take (offset_of reader) bytes) (offset_of reader) → AreToldOf Told (take (offset_of reader) (bytes ++ given)) (offset_of reader)
  fed_again reader Told bytes given s k = rw (take-append-le (offset_of reader) bytes given (within reader bytes s)) k

-- a reader that took a piece had refused none
pub was_live : {A : Type 0} (reader : Reader) (result : Result A JsonFault) (x : A)
    → ((fault : JsonFault) → refusal_of reader ≡ Some fault → result ≡ Err fault) → result ≡ Ok x → refusal_of reader ≡ None
was_live reader result x again e = go (refusal_of reader) refl
  where
    go : (o : Option JsonFault) → refusal_of reader ≡ o → refusal_of reader ≡ None
    go None f = f
    go (Some fault) f = let g = sym (again fault f) ∙ e in cc

-- ---- the end

pub text_verdict : (limits : Allowed) (bytes : List ℕ) (text : Text) → IsAdmitted limits text bytes → (o : Option Fault) (w : Warnings)
    → o ≡ least (text_faults text) → w ≡ warnings_of (text_warnings text)
    → IsVerdict limits bytes (verdict_of o w)
text_verdict limits bytes text a None w e f = (text, a, (least_none (text_faults text)).0 (sym e), f)
text_verdict limits bytes text a (Some fault) w e f = (text, a, sym e)

-- without that of a byte order mark
pub fewer_of_value : (text : Text) → length (value_events text.value) ≤ length (all_events text)
fewer_of_value text =
    rw (
      length-map (text_events text) (λ x. x.event),
      length-map (events text.value) (λ x. x.event),
      length-append (mark_events text.marked)
          (events text.value),
    ) (omega arith)

-- the verdict of an admitted text whose events were reported
pub end_verdict : {frames : ℕ} (limits : Allowed) (bytes : List ℕ) (Told : List Event → Type 0) (after : FramedRules frames) (last : Option Event)
    (o : Option Fault) (w : Warnings) → limits.depth ≤ levels_within frames → limits.bytes ≤ 2 ^ 60 → AreToldOf Told bytes (length bytes)
    → (f : (text : Text) × IsAdmitted limits text bytes × (all_events text ≡ events_by (length bytes) text ++ option_to_list last))
    → ((events : List Event) → Told events → RulesStandFor after (events ++ option_to_list last))
    → ((text : Text) → depth text.value ≤ levels_within frames → RulesStandFor after (all_events text) → o ≡ least (text_faults text))
    → ((text : Text) → depth text.value ≤ levels_within frames → RulesStandFor after (all_events text) → w ≡ text_kept text)
    → ((text : Text) (bytes : List ℕ) → IsText text bytes → length (all_events text) ≤ length bytes)
    → ((simple : Simple) (value : Tree) → length (value_events value) < 2 ^ 64
    → coordinates_kept simple value ≡ warnings_of (coordinates_warnings simple value))
    → IsVerdict limits bytes (verdict_of o w)
end_verdict {frames} limits bytes Told after last o w shallow short k f told fault warned few law =
    let text = f.0 in
    let t : IsText text (bytes ++ []) = (let x = f.1.0.0 in rw (append-nil bytes) x) in
    let e : all_events text ≡ k.events ++ option_to_list last = f.2 ∙ ap (λ xs. xs ++ option_to_list last) (k.complete text [] t) in
    let P : List Event → Type 0 = λ xs. RulesStandFor after xs in
    let heard = subst P (sym e) (told k.events k.told) in
    let deep : depth text.value ≤ levels_within frames = omega (arith, f.1.0.1) in
    let small : length (value_events text.value) < 2 ^ 64 = omega (arith, few text bytes f.1.0.0, fewer_of_value text, f.1.1) in
    text_verdict limits bytes text f.1 o w (fault text deep heard) (warned text deep heard ∙ text_is (2 ^ 64) law text small)

pub new_told : (reader : Reader) (Told : List Event → Type 0) → offset_of reader ≡ 0 → Told []
    → ((text : Text) (rest : List ℕ) → IsText text rest → events_by 0 text ≡ []) → AreToldOf Told (take (offset_of reader) []) (offset_of reader)
new_told reader Told e h none = rw e (record { events = []; told = h; complete = none })

-- what a refused piece leaves, whether a byte of it was refused or one before it
pub fed_refused : ((reader : Reader) (bytes : List ℕ) → ReaderStandsFor reader bytes → refusal_of reader ≡ None → offset_of reader ≡ length bytes)
    → ((reader : Reader) (bytes : List ℕ) (fault : JsonFault) → ReaderStandsFor reader bytes → refusal_of reader ≡ Some fault → offset_of reader ≡ fault.place)
    → ((reader : Reader) (bytes : List ℕ) → ReaderStandsFor reader bytes → offset_of reader ≤ length bytes)
    → (old new : Reader) (Old New : List Event → Type 0) (bytes given : List ℕ) (fault : JsonFault) → ReaderStandsFor old bytes
    → ReaderStandsFor new (bytes ++ given) → refusal_of new ≡ Some fault → offset_of old ≤ offset_of new
    → AreToldOf Old (take (offset_of old) bytes) (offset_of old)
    → ((events : List Event) → refusal_of old ≡ None → Old events → Hears New events (length bytes) fault.place (take fault.place (bytes ++ given)))
    → ((other : JsonFault) → refusal_of old ≡ Some other → (new ≡ old) × ((events : List Event) → Old events → New events))
    → AreToldOf New (take (offset_of new) (bytes ++ given)) (offset_of new)
fed_refused live_at refused within old new Old New bytes given fault s t on l k hears again = go (refusal_of old) refl
  where
    go : (o : Option JsonFault) → refusal_of old ≡ o → AreToldOf New (take (offset_of new) (bytes ++ given)) (offset_of new)
    go None e = fed_err live_at refused within old new Old New bytes given fault s t e on l k (λ events h. hears events e h)
    go (Some other) e =
        let a = again other e in
        let P : Reader → Type 0 = λ reader. AreToldOf New (take (offset_of reader) (bytes ++ given)) (offset_of reader) in
        subst P (sym a.0) (told_so Old New _ _ a.1 (fed_again live_at refused within old Old bytes given s k))
