use Rattle.std.proofs.Common.{refl, ap, sym, subst, ◌∙◌, ◌≡◌, ℕ, List, [], ◌∷◌, ◌++◌, length, Ok, true, false, nat_eq}
use Rattle.std.specs.Prelude.{◌==◌, Vec}
use Rattle.std.specs.declared.alloc.Global.{Global}
use Rattle.std.proofs.lemmas.Bool.{ne_eqb, eq-eqb, eqb-true, true≢false}
use Rattle.geolint_report.specs.Listed.{end_byte, given, has_nul}
use Rattle.geolint_report.specs.Left.{left_of, NextOf}
use Rattle.geolint_report.proofs.GivenNames.{given-empty, given-nothing, nul-empty}
use Rattle.geolint_report.proofs.NamesLeft.{HasBegun-start, HasBegun-byte, HasBegun-end, NextOf-over, NextOf-ended}
use Rattle.geolint_report.proofs.name_lists.names.Names.next_into.Goals.{then-byte+in_ok-add_byte-in-Some, else-byte+else-has_nul+else-not-is_empty}
use Rattle.geolint_report.proofs.name_lists.names.Names.next_into.Goals.{then-has_nul-via-then-has_nul, then-has_nul-via-else-has_nul+then-not-is_empty}
use Rattle.geolint_report.proofs.name_lists.names.Names.next_into.Goals as goal

pub loop-init : goal.loop-init
loop-init g c = record {
  begun = ([], HasBegun-start _ _, c.clear.ensures.items ∙ sym given-empty, sym nul-empty);
  end = refl;
}

pub returns-in-None-clause-next : goal.returns-in-None-clause-next
returns-in-None-clause-next g c =
    let (begun, has, is, nul) = c.loop.invariant.begun in
    let took = rw c.in-None.is at c.in_ok-next_byte.ensures.takes in
    let empty : c.is_empty.result ≡ (length c.loop.name.items == 0) = c.is_empty.ensures ∙ ap (λ (n : ℕ). n == 0) c.loop.name.ok.0 in
    subst (λ listed. NextOf (left_of g.R.Read.remaining c.args.self.now) (left_of g.R.Read.remaining c.next_byte.new.self) c.args.self.now.name_end
    (Ok listed) c.loop.name.items) (sym c.of.ensures)
    (NextOf-over _ _ begun _ _ _ _ _ _ _ has took is nul empty)

pub returns-then-has_nul-clause-next : goal.returns-then-has_nul-clause-next
returns-then-has_nul-clause-next g c =
    let (begun, has, is, nul) = c.loop.invariant.begun in
    let took = rw c.in-Some.is at c.in_ok-next_byte.ensures.takes in
    let ends : nat_eq c.in-Some.byte (end_byte c.args.self.now.name_end) ≡ true =
    eq-eqb _ _ (c.if-byte.false ∙ (c.byte.ensures ∙ ap end_byte (c.in_ok-next_byte.ensures.end ∙ c.loop.invariant.end))) in
    let empty : c.is_empty-then-has_nul.result ≡ (length c.loop.name.items == 0) = c.is_empty-then-has_nul.ensures ∙ ap (λ (n : ℕ). n == 0) c.loop.name.ok.0 in
    let some : begun ≡ [] → ⊥ = λ none. elim c.then-has_nul.branch [
      | then-has_nul-via-then-has_nul w ↦ true≢false (sym w.if-has_nul.true ∙ (nul ∙ (ap has_nul none ∙ nul-empty)))
      | then-has_nul-via-else-has_nul+then-not-is_empty w ↦
          let nothing : c.loop.name.len ≡ 0 = c.loop.name.ok.0 ∙ ap (λ (l : List ℕ). length l) (is ∙ (ap given none ∙ given-empty)) in
          true≢false (sym (w.is_empty-else-has_nul.ensures ∙ ap (λ (n : ℕ). n == 0) nothing) ∙ w.if-not-is_empty.true)
    ] in
    subst (λ listed. NextOf (left_of g.R.Read.remaining c.args.self.now) (left_of g.R.Read.remaining c.next_byte.new.self) c.args.self.now.name_end
    (Ok listed) c.loop.name.items) (sym c.of-then-has_nul.ensures)
    (NextOf-ended _ _ begun _ _ _ _ _ _ _ _ has took ends some is nul empty)

pub loop-preserved : goal.loop-preserved
loop-preserved g c =
    let (begun, has, is, nul) = c.loop.invariant.begun in
    let took = rw c.in-Some.is at c.in_ok-next_byte.ensures.takes in
    let same = c.in_ok-next_byte.ensures.end ∙ c.loop.invariant.end in
    elim c.if-byte.branch [
      | then-byte+in_ok-add_byte-in-Some w ↦
          let (more, nul_more) = w.in_ok-add_byte-in-Some.ensures begun is nul in
          let other : nat_eq c.in-Some.byte (end_byte c.args.self.now.name_end) ≡ false =
          ne_eqb _ _ (λ ends. w.if-byte.true (ends ∙ sym (c.byte.ensures ∙ ap end_byte same))) in
          record {
            begun = (
              begun ++ c.in-Some.byte ∷ [],
              HasBegun-byte _ _ begun _ _ _ _ _ has took other,
              ap (λ (name : Vec ℕ Global). name.items) w.name-is
                  ∙ more,
              w.has_nul-is ∙ nul_more,
            );
            end = same;
          }
      | else-byte+else-has_nul+else-not-is_empty w ↦
          let short : length (given begun) ≡ 0 =
          sym (ap (λ (l : List ℕ). length l) is) ∙ (sym c.loop.name.ok.0 ∙ eqb-true _ _ (sym w.is_empty-else-has_nul.ensures ∙ w.if-not-is_empty.false)) in
          let none : begun ≡ [] = given-nothing begun (sym nul ∙ w.if-has_nul.false) short in
          record {
            begun = (
              [],
              HasBegun-end _ _ begun _ _ _ _ _ has took (eq-eqb _ _ (w.if-byte.false ∙ (c.byte.ensures ∙ ap end_byte same))) none,
              ap
                  (λ (name : Vec ℕ Global). name.items) w.name-is ∙ (is ∙ ap given none),
              w.has_nul-is ∙ (nul ∙ ap has_nul none),
            );
            end = same;
          }
    ]
