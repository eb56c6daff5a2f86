-- The bits of an object meet what is asked of its members where nothing is wrong with them, and only there.
use Rattle.gj_rules.proofs.Common.{Bool, Fault, IsTrue, MemberRules, Word, ap, arith, asked_fault, bit_and, false, if◌then◌else◌, lesser, nat_eq}
use Rattle.gj_rules.proofs.Common.{nat_tests, refl, rules_of, slots_in, sym, true, ◌&&◌, ◌<◌, ◌∙◌}
use borrow.Author.Count.{below_none, below_more}
use Rattle.std.proofs.Common.{◌≡◌, ◌↔◌, ℕ, min, Option, Some, None, is_none}
use Rattle.std.specs.Int.{bit_at}
use Rattle.std.proofs.lemmas.Nat.{and_le_r}
use Rattle.std.proofs.lemmas.Nat.Bits.{bit_at_and, bit_at-zero, bit_at-lt, same_from_bits_below}
use Rattle.gj_coords.specs.Internal.RingLaws.{is_some_lesser}
use Rattle.gj_rules.specs.declared.member_slots.MemberSlots as D
use Rattle.gj_rules.specs.Internal.FrameReading.{slot_in}
use Rattle.gj_rules.specs.Internal.OpenMembers.{members_fault}

-- ---- no fault

pub none_lesser : (a b : Option Fault) → is_none (lesser a b) ≡ (is_none a && is_none b)
none_lesser None b = refl
none_lesser (Some a) b = is_some_lesser a b

pub none_by : (b : Bool) (o : Option Fault) → b ≡ is_none o → IsTrue b → o ≡ None
none_by b None e h = refl
none_by b (Some x) e h = cc

pub same_none : (b : Bool) (o : Option Fault) → (b ≡ true) ↔ (o ≡ None) → b ≡ is_none o
same_none true o h = sym (ap is_none (h.0 refl))
same_none false None h = h.1 refl
same_none false (Some x) h = refl

neither : (a b : Option Fault) → lesser a b ≡ None → (a ≡ None) × (b ≡ None)
neither None b e = (refl, e)
neither (Some a) b e = (let l : true ≡ false = sym (ap is_none e) ∙ is_some_lesser a b in cc)

none_of : (a b c d e f g : Option Fault) → a ≡ None → b ≡ None → c ≡ None → d ≡ None → e ≡ None → f ≡ None → g ≡ None
    → lesser a (lesser b (lesser c (lesser d (lesser e (lesser f g))))) ≡ None
none_of a b c d e f g p q r s t u v = rw (p, q, r, s, t, u, v) refl

each_none : (a b c d e f g : Option Fault) → lesser a (lesser b (lesser c (lesser d (lesser e (lesser f g))))) ≡ None
    → (a ≡ None) × ((b ≡ None) × ((c ≡ None) × ((d ≡ None) × ((e ≡ None) × ((f ≡ None) × (g ≡ None))))))
each_none a b c d e f g h = grind (arith, neither)

-- ---- one name

-- p and q are its bits of those that are present and of those that are faulty, d, u and b those of the rules
record Met (p q d u b : ℕ) : Type 0 where
  pub due : min p d ≡ d
  pub forbidden : min p b ≡ 0
  pub used : min (min p q) u ≡ 0

met : (p q d u b name_at : ℕ) (x fault : Fault) → p < 2 → q < 2 → d < 2 → u < 2 → b < 2
    → Met p q d u b ↔ (asked_fault (nat_eq d 1) (nat_eq u 1) (nat_eq b 1) fault
    (if nat_eq p 1 then Some (record { name_at = name_at; fault = if nat_eq q 1 then Some x else None }) else None) ≡ None)
met p q d u b name_at x fault ph qh dh uh bh = grind (arith, nat_tests)

-- ---- all names

-- the names are in a byte, and the type is not among them
record OfNames (names : ℕ) : Type 0 where
  pub small : names < 256
  pub no_type : bit_at names 0 ≡ 0

record OfRules (rules : MemberRules) : Type 0 where
  pub due : OfNames rules.due
  pub used : OfNames rules.used
  pub forbidden : OfNames rules.forbidden

of_rules : (word : Word) → OfRules (rules_of word)
of_rules Word.Point = grind arith
of_rules _ = grind arith

abbrev MetAt : D.MemberSlots → MemberRules → ℕ → Type 0
MetAt x rules i = Met (bit_at x.present i) (bit_at x.faulty i) (bit_at rules.due i) (bit_at rules.used i) (bit_at rules.forbidden i)

met_at : (x : D.MemberSlots) (rules : MemberRules) (i : ℕ) (fault : Fault) → MetAt x rules i
    ↔ (asked_fault (nat_eq (bit_at rules.due i) 1) (nat_eq (bit_at rules.used i) 1) (nat_eq (bit_at rules.forbidden i) 1) fault
    (slot_in x.present x.faulty x.names_at x.faults i) ≡ None)
unfolding slot_in
met_at x rules i fault =
    met (bit_at x.present i) (bit_at x.faulty i) (bit_at rules.due i) (bit_at rules.used i) (bit_at rules.forbidden i) _ _ fault
    (bit_at-lt x.present i) (bit_at-lt x.faulty i) (bit_at-lt rules.due i) (bit_at-lt rules.used i) (bit_at-lt rules.forbidden i)

pub record MetBytes (x : D.MemberSlots) (rules : MemberRules) : Type 0 where
  pub due : bit_and x.present rules.due ≡ rules.due
  pub forbidden : bit_and x.present rules.forbidden ≡ 0
  pub used : bit_and (bit_and x.present x.faulty) rules.used ≡ 0

bits_met : (x : D.MemberSlots) (rules : MemberRules) → MetBytes x rules → (i : ℕ) → MetAt x rules i
bits_met x rules m i =
    let bit : ℕ → ℕ = λ n. bit_at n i in
    record {
      due = sym (bit_at_and x.present rules.due i) ∙ ap bit m.due;
      forbidden = sym (bit_at_and x.present rules.forbidden i) ∙ (ap bit m.forbidden ∙ bit_at-zero i);
      used = rw (← bit_at_and x.present x.faulty i) (sym (bit_at_and (bit_and x.present x.faulty) rules.used i) ∙ (ap bit m.used ∙ bit_at-zero i));
    }

same_bits : (a b c : ℕ) → b < 256 → c < 256 → ((i : ℕ) → i < 8 → min (bit_at a i) (bit_at b i) ≡ bit_at c i) → bit_and a b ≡ c
same_bits a b c m n h = same_from_bits_below 8 (bit_and a b) c (omega (arith, and_le_r a b)) n (λ i l. bit_at_and a b i ∙ h i l)

bytes_met : (x : D.MemberSlots) (rules : MemberRules) → OfRules rules → ((i : ℕ) → i < 8 → MetAt x rules i) → MetBytes x rules
bytes_met x rules n h = record {
  due = same_bits x.present rules.due rules.due n.due.small n.due.small (λ i l. (h i l).due);
  forbidden = same_bits x.present rules.forbidden 0 n.forbidden.small (omega arith) (λ i l. (h i l).forbidden ∙ sym (bit_at-zero i));
  used = same_bits (bit_and x.present x.faulty) rules.used 0 n.used.small (omega arith)
      (λ i l. rw (bit_at_and x.present x.faulty i) (h i l).used ∙ sym (bit_at-zero i));
}

-- the type is not asked for, whatever it is
type_met : (x : D.MemberSlots) (rules : MemberRules) → OfRules rules → MetAt x rules 0
type_met x rules n = rw (n.due.no_type, n.used.no_type, n.forbidden.no_type) record { due = omega arith; forbidden = omega arith; used = omega arith }

pub meets_is : (x : D.MemberSlots) (rules : MemberRules) (word : Word) → rules ≡ rules_of word
    → MetBytes x rules ↔ (members_fault rules (slots_in x) ≡ None)
unfolding members_fault
meets_is x rules word same = (there, back)
  where
    known : OfRules rules
    known = rw same (of_rules word)

    there : MetBytes x rules → members_fault rules (slots_in x) ≡ None
    there m =
        let at = λ (i : ℕ) (fault : Fault). (met_at x rules i fault).0 (bits_met x rules m i) in
        none_of _ _ _ _ _ _ _ (at 6 _) (at 1 _) (at 2 _) (at 3 _) (at 4 _) (at 5 _) (at 7 _)

    back : members_fault rules (slots_in x) ≡ None → MetBytes x rules
    back e =
        let h = each_none _ _ _ _ _ _ _ e in
        let P : ℕ → Type 0 = MetAt x rules in
        let at = λ (i : ℕ) (fault : Fault). (met_at x rules i fault).1 in
        bytes_met x rules known (below_more P 7 (below_more P 6 (below_more P 5 (below_more P 4 (below_more P 3 (below_more P 2 (below_more P 1
        (below_more P 0 (below_none P) (type_met x rules known)) (at 1 _ h.1.0)) (at 2 _ h.1.1.0)) (at 3 _ h.1.1.1.0)) (at 4 _ h.1.1.1.1.0))
        (at 5 _ h.1.1.1.1.1.0)) (at 6 _ h.0)) (at 7 _ h.1.1.1.1.1.1))
