-- The functions that decide which bytes are a number, or begin one, say what the grammar says.
use Rattle.gj_number.proofs.Common.{BeginsNumber, Class, IsDigit, IsNumber, IsNumberByte, List, Means, Minus, NonZero, None, Option, Other, Reaches}
use Rattle.gj_number.proofs.Common.{Scan, Some, Start, State, Zero, ap, arith, false, inl, inr, may_end_in, minus_sign, next_of, refl, start, sym}
use Rattle.gj_number.proofs.Common.{taken, true, ℕ, [], ◌++◌, ◌↔◌, ◌∙◌, ◌∷◌, ◌≡◌, ◌⊎◌}
use Rattle.std.proofs.Common.{is_some}
use Rattle.gj_number.specs.DecidedNumbers.{is_number, begins_number, may_end_at}
use Rattle.gj_number.specs.Internal.NumberMachine.{class_of, state_after}
use Rattle.gj_number.proofs.Grammar.ByteClasses.{means, class_is, digit_class, number_byte}
use Rattle.gj_number.proofs.Grammar.ScanPaths.{state-taken, reaches_part}
use Rattle.gj_number.proofs.Grammar.StateMoves.{other_ends}
use Rattle.gj_number.proofs.Literals.LiteralBytes.{begins as scan_begins, number_scan, may_end_is}

pub none_after : (bytes : List ℕ) → state_after None bytes ≡ None
none_after [] = refl
none_after (b ∷ bytes) = refl

-- the state after the bytes is the one of the scan that they lead to
scanned : (bytes : List ℕ) (s t : Scan) → Reaches s bytes t → state_after (Some s.state) bytes ≡ Some t.state
scanned [] s t h = ap (λ u. Some u.state) h
scanned (b ∷ bytes) s t h =
    rw (h.1, ← state-taken h.0 b s) (scanned bytes (taken h.0 b s) t h.2)

scan_of : (bytes : List ℕ) (s : Scan) (last : State) → state_after (Some s.state) bytes ≡ Some last → (t : Scan) × Reaches s bytes t × (t.state ≡ last)
scan_of [] s last e = (s, refl, cc)
scan_of (b ∷ bytes) s last e = go (λ state k. scan_of bytes (taken state b s) last k) (next_of s.state (class_of b)) refl e
  where
    go : ((state : State) → state_after (Some (taken state b s).state) bytes ≡ Some last → (t : Scan) × Reaches (taken state b s) bytes t × (t.state ≡ last))
        → (o : Option State) → next_of s.state (class_of b) ≡ o → state_after o bytes ≡ Some last → (t : Scan) × Reaches s (b ∷ bytes) t × (t.state ≡ last)
    go on None n k = let f = sym (none_after bytes) ∙ k in cc
    go on (Some state) n k = let g = on state (rw (state-taken state b s) k) in (g.0, (state, n, g.1), g.2)

pub begins : (bytes : List ℕ) → (begins_number bytes ≡ true) ↔ BeginsNumber bytes
unfolding begins_number
begins bytes = (
  λ e. go (state_after (Some Start) bytes) refl e,
  λ h. (let k = number_scan (bytes ++ h.0) h.1 in
      let p = reaches_part start k.0 bytes h.0 k.1 in
      ap is_some (scanned bytes start p.0 p.1)),
)
  where
    go : (o : Option State) → state_after (Some Start) bytes ≡ o → is_some o ≡ true → BeginsNumber bytes
    go None f e = cc
    go (Some last) f e = let k = scan_of bytes start last f in scan_begins bytes k.0 k.1

pub number : (bytes : List ℕ) → (is_number bytes ≡ true) ↔ IsNumber bytes
unfolding is_number
number bytes = (
  λ e. go (state_after (Some Start) bytes) refl e,
  λ h. (let k = number_scan bytes h in ap may_end_at (scanned bytes start k.0 k.1) ∙ k.2),
)
  where
    go : (o : Option State) → state_after (Some Start) bytes ≡ o → may_end_at o ≡ true → IsNumber bytes
    go None f e = cc
    go (Some last) f e =
        let k = scan_of bytes start last f in (may_end_is bytes k.0 k.1).0 (ap may_end_in k.2 ∙ e)

pub no_number : IsNumber [] → ⊥
unfolding is_number
no_number h = let e : false ≡ true = (number []).1 h in cc

-- the last byte leads from some state to another
last_state : (bytes : List ℕ) (b : ℕ) → BeginsNumber (bytes ++ b ∷ []) → (s : Scan) × (next : State) × Reaches start bytes s
    × (next_of s.state (class_of b) ≡ Some next)
last_state bytes b h =
    let k = number_scan ((bytes ++ b ∷ []) ++ h.0) h.1 in
    let p = reaches_part start k.0 (bytes ++ b ∷ []) h.0 k.1 in
    let q = reaches_part start p.0 bytes (b ∷ []) p.1 in
    (q.0, q.2.0, q.1, q.2.1)

pub last : (bytes : List ℕ) (b : ℕ) → BeginsNumber (bytes ++ b ∷ []) → IsNumberByte b
last bytes b h = let k =
    last_state bytes b h in number_byte b (λ e. (let f : next_of k.0.state Other ≡ Some k.1 = rw e at k.3 in let g = sym (other_ends k.0.state) ∙ f in cc))

first_of_class : (c : Class) (b : ℕ) (next : State) → Means c b → next_of Start c ≡ Some next → (b ≡ minus_sign) ⊎ IsDigit b
first_of_class Minus b next m e = inl m
first_of_class Zero b next m e = inr (omega arith, omega arith)
first_of_class NonZero b next m e = inr (omega arith, omega arith)
first_of_class _ b next m e = cc

pub first : (b : ℕ) → BeginsNumber (b ∷ []) ↔ ((b ≡ minus_sign) ⊎ IsDigit b)
unfolding begins_number
first b = (
  λ h. (let k = last_state [] b h in let f : next_of Start (class_of b) ≡ Some k.1 = rw (← k.2) at k.3 in first_of_class (class_of b) b k.1 (means b) f),
  λ h. (begins (b ∷ [])).0 (elim h [
    | inl e ↦ by Minus (class_is Minus b e (λ n. cc)) refl
    | inr d ↦ elim (digit_class b d) [ inl e ↦ by Zero e refl | inr e ↦ by NonZero e refl ]
  ]),
)
  where
    by : (c : Class) → class_of b ≡ c → is_some (next_of Start c) ≡ true → begins_number (b ∷ []) ≡ true
    by c e s = rw e s
