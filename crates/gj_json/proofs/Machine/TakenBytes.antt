-- A byte that the machine takes: the bytes with it are spelled as the state after it.
use Rattle.gj_json.proofs.Common.{Elements, Exactly, IsWhite, List, Members, Named, Opened, Spells, SpellsElements, SpellsMembers, Tree, ap}
use Rattle.gj_json.proofs.Common.{append_assoc, arith, array, close_brace, close_bracket, constant, element, end_of_array, end_of_object, length}
use Rattle.gj_json.proofs.Common.{member, object, open_brace, open_bracket, refl, sym, ℕ, [], ◌++◌, ◌+◌, ◌∙◌, ◌∷◌, ◌≡◌, ◌≢◌}
use Rattle.std.proofs.Common.{append-nil}
use Rattle.std.proofs.lemmas.List.{length-append}
use Rattle.gj_json.specs.Tree.{number}
use Rattle.gj_json.specs.Grammar.{Then, White, Closes}
use Rattle.gj_json.specs.Broken.{Member, Frame, in_array, in_object, back_elements, back_members, ElementsSoFar, MembersSoFar, ArrayOpened, ObjectOpened}
use Rattle.gj_json.specs.Broken.{Behind}
use Rattle.gj_json.proofs.Grammar.SpelledForms

-- ---- what stands at the end of a form

-- bytes up to the place n that are K's are L's with the tail after them
pub record Adds (n : ℕ) (tail : List ℕ) (K L : ℕ → List ℕ → Type 0) : Type 0 where
  pub on : (m : ℕ) (bytes : List ℕ) → m + length bytes ≡ n → K m bytes → L m (bytes ++ tail)

pub then_adds : {A K L : ℕ → List ℕ → Type 0} {n : ℕ} {tail : List ℕ} → Adds n tail K L → Adds n tail (Then A K) (Then A L)
then_adds {A} {K} {L} {n} {tail} a = record {
  on = λ m bytes e h.
      let l : length bytes ≡ length (h.first ++ h.rest) = ap length h.joined in
      SpelledForms.joins h.first (h.rest ++ tail) (ap (λ xs. xs ++ tail) h.joined ∙ append_assoc h.first h.rest tail) h.before
      (a.on (m + length h.first) h.rest (omega (arith, length-append h.first h.rest)) h.after);
}

elements_add : {n : ℕ} {tail : List ℕ} (done : List Tree) {K L : ℕ → List ℕ → Type 0} → Adds n tail K L
    → Adds n tail (ElementsSoFar done K) (ElementsSoFar done L)
elements_add [] a = a
elements_add (t ∷ done) a = elements_add done (then_adds (then_adds (then_adds (then_adds a))))

pub named_adds : {K L : ℕ → List ℕ → Type 0} {n : ℕ} {tail : List ℕ} (place : ℕ) (name : List ℕ) (end : ℕ) → Adds n tail K L
    → Adds n tail (Named place name end K) (Named place name end L)
named_adds place name end a = then_adds (then_adds (then_adds (then_adds a)))

members_add : {n : ℕ} {tail : List ℕ} (done : List Member) {K L : ℕ → List ℕ → Type 0} → Adds n tail K L
    → Adds n tail (MembersSoFar done K) (MembersSoFar done L)
members_add [] a = a
members_add (m ∷ done) a = members_add done (named_adds m.place m.name m.end (then_adds (then_adds (then_adds (then_adds a)))))

pub array_adds : {K L : ℕ → List ℕ → Type 0} {n : ℕ} {tail : List ℕ} (place : ℕ) (done : List Tree) → Adds n tail K L
    → Adds n tail (ArrayOpened place done K) (ArrayOpened place done L)
array_adds {K} {L} {n} {tail} place done a =
    let g : Adds n tail (Then (Exactly (open_bracket ∷ [])) (ElementsSoFar done K)) (Then (Exactly (open_bracket ∷ [])) (ElementsSoFar done L)) =
    then_adds (elements_add done a) in
    record { on = λ m bytes e h. (h.0, g.on m bytes e h.1) }

pub object_adds : {K L : ℕ → List ℕ → Type 0} {n : ℕ} {tail : List ℕ} (place : ℕ) (done : List Member) → Adds n tail K L
    → Adds n tail (ObjectOpened place done K) (ObjectOpened place done L)
object_adds {K} {L} {n} {tail} place done a =
    let g : Adds n tail (Then (Exactly (open_brace ∷ [])) (MembersSoFar done K)) (Then (Exactly (open_brace ∷ [])) (MembersSoFar done L)) =
    then_adds (members_add done a) in
    record { on = λ m bytes e h. (h.0, g.on m bytes e h.1) }

pub opened_adds : {n : ℕ} {tail : List ℕ} (stack : List Frame) {K L : ℕ → List ℕ → Type 0} → Adds n tail K L → Adds n tail (Opened stack K) (Opened stack L)
opened_adds [] a = a
opened_adds (in_array place done ∷ stack) a = opened_adds stack (then_adds (array_adds place done a))
opened_adds (in_object place done np name ne ∷ stack) a = opened_adds stack (then_adds (object_adds place done (named_adds np name ne a)))

-- ---- at the end

whites : (bytes : List ℕ) (m b : ℕ) → IsWhite b → White m bytes → White m (bytes ++ b ∷ [])
whites [] m b w h = (w, tt)
whites (c ∷ bytes) m b w h = (h.0, whites bytes m b w h.1)

pub white_adds : {n b : ℕ} → IsWhite b → Adds n (b ∷ []) White White
white_adds {n} {b} w = record { on = λ m bytes e h. whites bytes m b w h }

-- white space, and after it what L says of the tail
pub follows : {L : ℕ → List ℕ → Type 0} {n : ℕ} {tail : List ℕ} → L n tail → Adds n tail White (Then White L)
follows {L} {n} {tail} l = record { on = λ m bytes e h. SpelledForms.joins bytes tail refl h (SpelledForms.moved L (sym e) refl l) }

-- a value, and no white space after it
pub alone : {K L : ℕ → List ℕ → Type 0} {n : ℕ} {tail : List ℕ} → Adds n tail K L → Adds n tail K (Then L White)
alone {K} {L} {n} {tail} a = record { on = λ m bytes e h. SpelledForms.joins (bytes ++ tail) [] (sym (append-nil (bytes ++ tail))) (a.on m bytes e h) tt }

-- a value that has ended has white space after it
pub ended_white : {A : ℕ → List ℕ → Type 0} (t : Tree) {n : ℕ} → Adds n [] (Then A (Then (Spells t) (Behind t))) (Then A (Then (Spells t) White))
ended_white t {n} = then_adds (then_adds (record { on = λ m bytes e h. (let k = white_behind t m bytes h in rw (append-nil bytes) k) }))
  where
    white_behind : (v : Tree) (m : ℕ) (bytes : List ℕ) → Behind v m bytes → White m bytes
    white_behind (number place literal end) m bytes h = h.0
    white_behind other m bytes h = h

pub some_push : (bytes : List ℕ) (b : ℕ) → (bytes ++ b ∷ []) ≢ []
some_push [] b e = cc
some_push (c ∷ bytes) b e = cc

pub behind_adds : {n b : ℕ} (t : Tree) → IsWhite b → Adds n (b ∷ []) White (Behind t)
behind_adds {n} {b} (number place literal end) w = record { on = λ m bytes e h. (whites bytes m b w h, some_push bytes b) }
behind_adds (constant which place) w = white_adds w
behind_adds other w = white_adds w

-- ---- what has ended in a container, and what comes last

gathered : (done : List Tree) (v : Tree) (more : Elements) (close m : ℕ) (bytes : List ℕ)
    → ElementsSoFar done (Then White (SpellsElements (element v more) close)) m bytes
    → Then White (SpellsElements (back_elements done (element v more)) close) m bytes
gathered [] v more close m bytes h = h
gathered (t ∷ done) v more close m bytes h = gathered done t (element v more) close m bytes h

gathered_members : (done : List Member) (place : ℕ) (name : List ℕ) (end : ℕ) (v : Tree) (more : Members) (close m : ℕ) (bytes : List ℕ)
    → MembersSoFar done (Then White (SpellsMembers (member place name end v more) close)) m bytes
    → Then White (SpellsMembers (back_members done (member place name end v more)) close) m bytes
gathered_members [] place name end v more close m bytes h = h
gathered_members (d ∷ done) place name end v more close m bytes h =
    gathered_members done d.place d.name d.end d.value (member place name end v more) close m bytes h

closes : {n b a : ℕ} → b ≡ a → Closes (a ∷ []) n n (b ∷ [])
closes e = (ap (λ x. x ∷ []) e, refl)

pub array_closes : {n b : ℕ} (place : ℕ) (done : List Tree) (t : Tree) → b ≡ close_bracket
    → Adds n (b ∷ []) (ArrayOpened place done (Then White (Then (Spells t) White))) (Spells (array place (back_elements done (element t end_of_array)) n))
array_closes {n} {b} place done t w =
    let last : Adds n (b ∷ []) (Then White (Then (Spells t) White)) (Then White (Then (Spells t) (Then White (Closes (close_bracket ∷ []) n)))) =
    then_adds (then_adds (follows (closes w))) in
    let g : Adds n (b ∷ []) (ArrayOpened place done (Then White (Then (Spells t) White)))
    (ArrayOpened place done (Then White (SpellsElements (element t end_of_array) n))) = array_adds place done last in
    record {
      on = λ m bytes e h.
          let k = g.on m bytes e h in (
            k.0,
            SpelledForms.then_map {C = Then White (SpellsElements (back_elements done (element t end_of_array)) n)}
                (λ p xs j. gathered done t end_of_array n p xs j) k.1,
          );
    }

pub object_closes : {n b : ℕ} (place : ℕ) (done : List Member) (np : ℕ) (name : List ℕ) (ne : ℕ) (t : Tree) → b ≡ close_brace
    → Adds n (b ∷ []) (ObjectOpened place done (Named np name ne (Then White (Then (Spells t) White))))
    (Spells (object place (back_members done (member np name ne t end_of_object)) n))
object_closes {n} {b} place done np name ne t w =
    let last : Adds n (b ∷ []) (Named np name ne (Then White (Then (Spells t) White)))
    (Named np name ne (Then White (Then (Spells t) (Then White (Closes (close_brace ∷ []) n))))) =
    named_adds np name ne (then_adds (then_adds (follows (closes w)))) in
    let g : Adds n (b ∷ []) (ObjectOpened place done (Named np name ne (Then White (Then (Spells t) White))))
    (ObjectOpened place done (Then White (SpellsMembers (member np name ne t end_of_object) n))) = object_adds place done last in
    record {
      on = λ m bytes e h.
          let k = g.on m bytes e h in (
            k.0,
            SpelledForms.then_map {C = Then White (SpellsMembers (back_members done (member np name ne t end_of_object)) n)}
                (λ p xs j. gathered_members done np name ne t end_of_object n p xs j) k.1,
          );
    }

pub empty_array : {n b : ℕ} (place : ℕ) → b ≡ close_bracket → Adds n (b ∷ []) (ArrayOpened place [] White) (Spells (array place end_of_array n))
empty_array {n} {b} place w =
    let g : Adds n (b ∷ []) (ArrayOpened place [] White) (ArrayOpened place [] (Then White (Closes (close_bracket ∷ []) n))) =
    array_adds place [] (follows (closes w)) in
    record { on = λ m bytes e h. g.on m bytes e h }

pub empty_object : {n b : ℕ} (place : ℕ) → b ≡ close_brace → Adds n (b ∷ []) (ObjectOpened place [] White) (Spells (object place end_of_object n))
empty_object {n} {b} place w =
    let g : Adds n (b ∷ []) (ObjectOpened place [] White) (ObjectOpened place [] (Then White (Closes (close_brace ∷ []) n))) =
    object_adds place [] (follows (closes w)) in
    record { on = λ m bytes e h. g.on m bytes e h }
