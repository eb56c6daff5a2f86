-- A machine that stands after some events of a value has the rest of them to read.
use Rattle.gj_coords.proofs.Common.{Elements, Event, Gathering, IsCountable, Tree, append-nil, append_assoc, arith, depth, element, elements_sent}
use Rattle.gj_coords.proofs.Common.{end_of_array, gathered, items, run, sent, sym, value_events, ◌∙◌}
use Rattle.std.proofs.Common.{◌≡◌, ◌↔◌, ℕ, ◌<◌, List, [], ◌∷◌, ◌++◌, IsTrue, refl}
use Rattle.std.proofs.Math.Nat.{le-max_left, le-max_right}
use Rattle.gj_json.specs.Tree.{elements_depth}
use Rattle.gj_coords.specs.Internal.ValueMachine.{Machine, Reads, ReadsOn}
use Rattle.gj_coords.proofs.Readers.SentLaws.{value_sent}

pub left : {S A : Type 0} (m : Machine S A) (s : S) (es rest : List Event) (a : A) → Reads m s (es ++ rest) a → Reads m (run m.after s es) rest a
left m s [] rest a h = h
left m s (e ∷ es) rest a h = left m (m.after s e) es rest a h.1

ended_or_not : {S A : Type 0} (m : Machine S A) (s : S) (rest : List Event) (a : A) → Reads m s rest a → IsTrue (m.ended s) ↔ (rest ≡ [])
ended_or_not m s [] a h = (λ _. refl, λ _. h.0)
ended_or_not m s (e ∷ es) a h = (λ t. cc, λ q. cc)

-- ---- a machine that stands after some events of each value that begins so

pub reads_on_none : {S A : Type 0} (m : Machine S A) (meaning : Tree → A) (s : S) →
    ((v : Tree) → IsCountable v → Reads m s (sent v) (meaning v)) → ReadsOn m meaning s []
reads_on_none m meaning s law v rest e room = rw (e ∙ value_sent v) (law v room)

pub reads_on_more : {S A : Type 0} (m : Machine S A) (meaning : Tree → A) (s : S) (es : List Event) (e : Event) →
    ReadsOn m meaning s es → ReadsOn m meaning (m.after s e) (es ++ e ∷ [])
reads_on_more m meaning s es e k v rest p room = (k v (e ∷ rest) (sym (append_assoc es (e ∷ []) rest) ∙ p) room).1

pub reads_on_ended : {S A : Type 0} (m : Machine S A) (meaning : Tree → A) (s : S) (v : Tree) (es rest : List Event) →
    ReadsOn m meaning s es → es ++ rest ≡ value_events v → IsCountable v → IsTrue (m.ended s) ↔ (rest ≡ [])
reads_on_ended m meaning s v es rest k e room = ended_or_not m s rest (meaning v) (k v rest e room)

pub reads_on_answers : {S A : Type 0} (m : Machine S A) (meaning : Tree → A) (s : S) (v : Tree) →
    ReadsOn m meaning s (value_events v) → IsCountable v → m.answered s ≡ meaning v
reads_on_answers m meaning s v k room = (k v [] (append-nil (value_events v)) room).1

-- ---- the elements of an array

-- a value that is less deep than this leads on so, by what is known of it
abbrev pub LeadsOn : {S A B : Type 0} → Machine S B → ℕ → (Tree → A) → S → (A → S) → Type 0
LeadsOn {B = B} m most meaning s next =
    (v : Tree) → depth v < most → (rest : List Event) (b : B) → Reads m (next (meaning v)) rest b → Reads m s (sent v ++ rest) b

pub elements_lead : {S G A B C : Type 0} (m : Machine S C) (most : ℕ) (r : Gathering G A B) (meaning : Tree → A) (at : G → S) →
    ((g : G) → LeadsOn m most meaning (at g) (λ a. at (r.added g a))) →
    (es : Elements) → elements_depth es < most → (g : G) (rest : List Event) (c : C) →
    Reads m (at (gathered r meaning g (items es))) rest c → Reads m (at g) (elements_sent es ++ rest) c
elements_lead m most r meaning at each end_of_array room g rest c k = k
elements_lead m most r meaning at each (element v more) room g rest c k =
    rw (append_assoc (sent v) (elements_sent more) rest)
    (each g v (omega (arith, le-max_left (depth v) (elements_depth more))) (elements_sent more ++ rest) c
    (elements_lead m most r meaning at each more (omega (arith, le-max_right (depth v) (elements_depth more))) (r.added g (meaning v)) rest c k))
