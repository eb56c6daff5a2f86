-- What a byte does to a reader does not depend on its literal and its content.
use Rattle.gj_json.proofs.Common.{Allowed, Applied, BeginsNumber, Cause, Close, Depth, Err, Event, Exact, Go, GoesOn, Holds, JsonFault, Level, List}
use Rattle.gj_json.proofs.Common.{Mode, Move, None, Nothing, NumberOn, NumberTurn, Ok, Open, Option, PassesTo, Plain, Reader, Refuse, Refuses}
use Rattle.gj_json.proofs.Common.{RefusesWith, Result, Some, StringState, StringStep, Syntax, Takes, ValueDone, What, Words, ap, arith, event_at}
use Rattle.gj_json.proofs.Common.{false, in_number, inl, inner_of, inr, length, move_by, move_of, number_events, opened, option_to_list, outer_of}
use Rattle.gj_json.proofs.Common.{refl, string_goes, string_move, string_next, subst, sym, text_state, told_by, told_on, true, words_in, ℕ, [], ◌++◌}
use Rattle.gj_json.proofs.Common.{◌∙◌, ◌∷◌, ◌≡◌}
use Rattle.gj_json.specs.declared.levels.Levels.{Levels}
use Rattle.gj_json.specs.declared.mode.StringMove.TheVariants.{Reads}
use Rattle.gj_json.specs.Internal.OpenLevels.{levels_in}
use Rattle.gj_json.specs.Internal.ReaderStep.{Passes, IsRefusedWith, made_by}
use Rattle.gj_number.specs.Literal.{StandsFor as LiteralStandsFor}
use Rattle.gj_json.specs.Internal.ToldEvents.{move_event, Goes, Ends}

-- where no number is under way, none has ended
pub no_number : (mode : Mode) (turn : NumberTurn) (value : Option Exact) (start : ℕ) → in_number mode ≡ false → number_events mode turn value start ≡ []
no_number NumberOn turn value start e = cc
no_number _ turn value start e = refl

-- two readers that differ in the literal and the content at the most
pub record Alike (a b : Reader) : Type 0 where
  pub limits : a.limits ≡ b.limits
  pub fault : a.fault ≡ b.fault
  pub start : a.start ≡ b.start
  pub offset : a.offset ≡ b.offset
  pub mode : a.mode ≡ b.mode
  pub levels : a.levels ≡ b.levels

inner_alike : (old mid : Reader) → Alike mid old → levels_in mid.levels ≡ levels_in old.levels
inner_alike old mid a = ap (λ (l : Levels). levels_in l) a.levels

passes_alike : (old mid new : Reader) (mode : Mode) (levels : List Level) → Alike mid old → Passes mode levels mid new → Passes mode levels old new
passes_alike old mid new mode levels a p = record {
  limits = p.limits ∙ a.limits;
  fault = p.fault ∙ a.fault;
  start = rw (← a.mode, ← a.start, ← a.offset) p.start;
  offset = rw (← a.offset) p.offset;
  mode_is = p.mode_is;
  levels_are = p.levels_are;
}

refused_alike : (old mid new : Reader) (cause : Cause) (fault : JsonFault) → Alike mid old → IsRefusedWith cause mid new fault
    → IsRefusedWith cause old new fault
refused_alike old mid new cause fault a r = record {
  place = r.place ∙ a.offset;
  cause_is = r.cause_is;
  kept = r.kept;
  limits = r.limits ∙ a.limits;
  start = r.start ∙ a.start;
  offset = r.offset ∙ a.offset;
  mode_is = r.mode_is ∙ a.mode;
  levels_are = r.levels_are ∙ a.levels;
}

passes_to : (old mid new : Reader) (made : Move) (mode : Mode) (levels : List Level) (result : Result Move JsonFault) → Alike mid old
    → PassesTo made mode levels mid new result → PassesTo made mode levels old new result
passes_to old mid new made mode levels result a p = record { answer = p.answer; passes = passes_alike old mid new mode levels a p.passes }

refuses : (old mid new : Reader) (cause : Cause) (result : Result Move JsonFault) → Alike mid old → RefusesWith cause mid new result
    → RefusesWith cause old new result
refuses old mid new cause result a r = record { fault = r.fault; answer = r.answer; refused = refused_alike old mid new cause r.fault a r.refused }

pub applied : (old mid new : Reader) (made : Move) (result : Result Move JsonFault) → Alike mid old → Applied made mid new result → Applied made old new result
applied old mid new Refuse result a w = refuses old mid new Syntax result a w
applied old mid new (Go mode ending) result a w =
    let P : List Level → Type 0 = λ levels. PassesTo (Go mode ending) mode levels old new result in
    subst P (inner_alike old mid a) (passes_to old mid new (Go mode ending) mode (levels_in mid.levels) result a w)
applied old mid new (Open level) result a w =
    let P : List Level → Type 0 = λ levels. PassesTo (Open level) (opened level) (level ∷ levels) old new result in
    let e = inner_alike old mid a in
    let d : mid.limits.depth ≡ old.limits.depth = ap (λ (l : Allowed). l.depth) a.limits in (
      λ f. refuses old mid new Depth result a (w.0 (ap (λ (xs : List Level). length xs) e ∙ f ∙ sym d)),
      λ f. subst P e (passes_to old mid new (Open level) (opened level) (level ∷ levels_in mid.levels) result a
          (w.1 (omega (arith, ap (λ (xs : List Level). length xs) e, d)))),
    )
applied old mid new (Close level) result a w =
    let P : List Level → Type 0 = λ levels. PassesTo (Close level) ValueDone (outer_of levels) old new result in
    subst P (inner_alike old mid a) (passes_to old mid new (Close level) ValueDone (outer_of (levels_in mid.levels)) result a w)

-- ---- while a number is under way

in_number_move : (mode : Mode) (inner : Option Level) (words : Words) (b : ℕ) → mode ≡ NumberOn → (move_of mode Goes inner words b ≡ Go NumberOn Nothing)
    × (move_of mode Refuses inner words b ≡ Refuse)
in_number_move mode inner words b e = rw e (refl, refl)

pub goes : (old mid new : Reader) (b : ℕ) → old.mode ≡ NumberOn → Alike mid old → Passes NumberOn (levels_in old.levels) mid new
    → Applied (move_by old Goes b) old new (Ok (Go NumberOn Nothing))
goes old mid new b e a p =
    let P : Move → Type 0 = λ made. Applied made old new (Ok (Go NumberOn Nothing)) in
    subst P (sym (in_number_move old.mode (inner_of (levels_in old.levels)) (words_in old.content) b e).0)
    (record { answer = refl; passes = passes_alike old mid new NumberOn (levels_in old.levels) a p })

pub refused : (old mid new : Reader) (b : ℕ) (result : Result Move JsonFault) → old.mode ≡ NumberOn → Alike mid old → RefusesWith Syntax mid new result
    → Applied (move_by old Refuses b) old new result
refused old mid new b result e a r =
    let P : Move → Type 0 = λ made. Applied made old new result in
    subst P (sym (in_number_move old.mode (inner_of (levels_in old.levels)) (words_in old.content) b e).1) (refuses old mid new Syntax result a r)

pub goes_tells : (old : Reader) (value : Option Exact) (b : ℕ) → old.mode ≡ NumberOn → told_by old Goes value b ≡ []
goes_tells old value b e = rw e refl

-- the events of the byte after a number
pub ends_tells : (old : Reader) (value : Option Exact) (b : ℕ) → old.mode ≡ NumberOn
    → told_by old Ends value b ≡ event_at old.start (What.Number value) ∷ made_by old Ends b
ends_tells old value b e = ap (λ xs. xs ++ made_by old Ends b) (first old.mode e)
  where
    first : (mode : Mode) → mode ≡ NumberOn → number_events mode Ends value old.start ≡ event_at old.start (What.Number value) ∷ []
    first mode e = rw e refl

-- and of one that no number is under way before
pub other_tells : (old : Reader) (turn : NumberTurn) (value : Option Exact) (b : ℕ) → in_number old.mode ≡ false → told_by old turn value b ≡ made_by old turn b
other_tells old turn value b e = ap (λ xs. xs ++ made_by old turn b) (no_number old.mode turn value old.start e)

-- ---- what is left after a byte

passes_after : (old mid new : Reader) (mode : Mode) (levels : List Level) → Alike new mid → Passes mode levels old mid → Passes mode levels old new
passes_after old mid new mode levels a p = record {
  limits = a.limits ∙ p.limits;
  fault = a.fault ∙ p.fault;
  start = a.start ∙ p.start;
  offset = a.offset ∙ p.offset;
  mode_is = a.mode ∙ p.mode_is;
  levels_are = inner_alike mid new a ∙ p.levels_are;
}

passed_to : (old mid new : Reader) (made : Move) (mode : Mode) (levels : List Level) (result : Result Move JsonFault) → Alike new mid
    → PassesTo made mode levels old mid result → PassesTo made mode levels old new result
passed_to old mid new made mode levels result a p = record { answer = p.answer; passes = passes_after old mid new mode levels a p.passes }

-- a byte that was taken
pub after : (old mid new : Reader) (made taken : Move) → Alike new mid → Applied made old mid (Ok taken) → Applied made old new (Ok taken)
after old mid new Refuse taken a w = let e = w.answer in cc
after old mid new (Go mode ending) taken a w = passed_to old mid new (Go mode ending) mode (levels_in old.levels) (Ok taken) a w
after old mid new (Open level) taken a w = (
  λ f. let r = w.0 f in let e = r.answer in cc,
  λ f. passed_to old mid new (Open level) (opened level) (level ∷ levels_in old.levels) (Ok taken) a (w.1 f),
)
after old mid new (Close level) taken a w = passed_to old mid new (Close level) ValueDone (outer_of (levels_in old.levels)) (Ok taken) a w

-- ---- while a string or a name is under way

-- what the modes of a string or a name are not
pub record IsText (mode : Mode) (state : StringState) : Type 0 where
  pub number : in_number mode ≡ false
  pub text : text_state mode ≡ Some state

pub first_text : (mode next : Mode) (first last : StringState) → GoesOn mode first next last → IsText mode first
first_text mode next first last (inl m) = let e = m.0 in record { number = rw e refl; text = rw e refl }
first_text mode next first last (inr m) = let e = m.0 in record { number = rw e refl; text = rw e refl }

reads_move : (mode between : Mode) (state : StringState) (turn : NumberTurn) (inner : Option Level) (words : Words) (b c : ℕ) → GoesOn mode state between Plain
    → string_move (string_next state b) ≡ Reads c → move_of mode turn inner words b ≡ Go between Nothing
reads_move mode between state turn inner words b c (inl m) e = rw (m.0, m.1, e) refl
reads_move mode between state turn inner words b c (inr m) e = rw (m.0, m.1, e) refl

reads_by : (old : Reader) (between : Mode) (state : StringState) (turn : NumberTurn) (b c : ℕ) → GoesOn old.mode state between Plain
    → string_move (string_next state b) ≡ Reads c → move_by old turn b ≡ Go between Nothing
reads_by old between state turn b c m e = reads_move old.mode between state turn (inner_of (levels_in old.levels)) (words_in old.content) b c m e

pub reads : (old mid new : Reader) (between : Mode) (state : StringState) (turn : NumberTurn) (b c : ℕ) → GoesOn old.mode state between Plain
    → string_move (string_next state b) ≡ Reads c → Alike mid old → Passes between (levels_in old.levels) mid new
    → Applied (move_by old turn b) old new (Ok (Go between Nothing))
reads old mid new between state turn b c m e a p =
    let P : Move → Type 0 = λ made. Applied made old new (Ok (Go between Nothing)) in
    subst P (sym (reads_by old between state turn b c m e)) (record { answer = refl; passes = passes_alike old mid new between (levels_in old.levels) a p })

pub reads_tells : (old : Reader) (between : Mode) (state : StringState) (turn : NumberTurn) (value : Option Exact) (b c : ℕ)
    → GoesOn old.mode state between Plain → string_move (string_next state b) ≡ Reads c → told_by old turn value b ≡ []
reads_tells old between state turn value b c m e =
    other_tells old turn value b (first_text old.mode between state Plain m).number
    ∙ ap (λ made. option_to_list (move_event made old.start old.offset)) (reads_by old between state turn b c m e)

-- a byte of a string that ends no character adds none
pub no_more : (s : StringStep) (more : List ℕ) (next : StringState) → s ≡ string_goes more next → ((c : ℕ) → string_move s ≡ Reads c → ⊥) → more ≡ []
no_more s [] next e h = refl
no_more s (c ∷ more) next e h = absurd (h c (rw e refl))

-- a byte of a string or a name, by the characters that it completes
pub in_text : {before heard : List Event → Type 0} (old new : Reader) (b : ℕ) (result : Result Move JsonFault) (state : StringState) → IsText old.mode state
    → Applied (move_by old Ends b) old new result
    → ((events : List Event) → before events → heard (events ++ told_on result (told_by old Ends None b)))
    → ((more so_far : List ℕ) (next : StringState) → string_next state b ≡ string_goes more next → Holds old.content so_far
    → Holds new.content (so_far ++ more))
    → Takes before heard old new b result
in_text old new b result state from w h holds = record {
  turn = Ends;
  value = None;
  says = record {
    turns = λ bytes m k. let x = sym m ∙ from.number in cc;
    values = λ e bytes m k n. let x = sym m ∙ from.number in cc;
  };
  goes = λ made e. (
    record {
      goes = λ t bytes m n k. let x = sym m ∙ from.number in cc;
      begins = λ m t n f. let x = sym t ∙ from.text in cc;
    },
    record {
      goes = λ last next more so_far t f k.
          let same : last ≡ state = (let x = sym t ∙ from.text in cc) in
          let P : StringState → Type 0 = λ s. string_next s b ≡ string_goes more next in
          holds more so_far next (subst P same f) k;
      begins = λ last m t f. let x = sym t ∙ from.text in cc;
    },
  );
  applied = w;
  told = h;
}

-- ---- while neither is under way

pub between : {before heard : List Event → Type 0} (old mid new : Reader) (b : ℕ) (made : Move) → in_number old.mode ≡ false → text_state old.mode ≡ None
    → Applied (move_by old Ends b) old mid (Ok made) → Alike new mid
    → ((events : List Event) → before events → heard (events ++ made_by old Ends b))
    → (in_number new.mode ≡ true → BeginsNumber (b ∷ []) → LiteralStandsFor new.literal (b ∷ []))
    → ((state : StringState) → text_state new.mode ≡ Some state → Holds new.content []) → Takes before heard old new b (Ok made)
between old mid new b made m t w a h n x = record {
  turn = Ends;
  value = None;
  says = record {
    turns = λ bytes k l. let y = sym k ∙ m in cc;
    values = λ e bytes k l i. let y = sym k ∙ m in cc;
  };
  goes = λ taken e. (
    record {
      goes = λ f bytes k l i. let y = sym k ∙ m in cc;
      begins = λ k f l i. n l i;
    },
    record {
      goes = λ state next more so_far k f l. let y = sym k ∙ t in cc;
      begins = λ state k l f. x state f;
    },
  );
  applied = after old mid new (move_by old Ends b) made a w;
  told = λ events k. rw (other_tells old Ends None b m) (h events k);
}

pub between_refused : {before heard : List Event → Type 0} (old new : Reader) (b : ℕ) (fault : JsonFault) → in_number old.mode ≡ false
    → Applied (move_by old Ends b) old new (Err fault)
    → ((events : List Event) → before events → heard (events ++ [])) → Takes before heard old new b (Err fault)
between_refused old new b fault m w h = record {
  turn = Ends;
  value = None;
  says = record {
    turns = λ bytes k l. let y = sym k ∙ m in cc;
    values = λ e bytes k l i. let y = sym k ∙ m in cc;
  };
  goes = λ taken e. cc;
  applied = w;
  told = h;
}
