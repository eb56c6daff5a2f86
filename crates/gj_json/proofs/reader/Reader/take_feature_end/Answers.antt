-- The end of a feature right after its last member, and the beginning of the next.
use Rattle.gj_json.proofs.Common.{Event, List, append_assoc, arith, outer_of, refl, subst, [], ◌++◌, ◌∷◌, ◌≡◌}
use Rattle.gj_json.specs.Internal.OpenLevels.{levels_in}
use Rattle.gj_json.proofs.Pieces.TakenHeads.{following_taken}
use Rattle.gj_json.proofs.Pieces.TakenTokens.{pushed_lands}
use Rattle.gj_json.proofs.Readers.CallsInTurn.{of_prefix}
use Rattle.gj_json.proofs.reader.Reader.take_feature_end.Goals as goal

four : (xs : List Event) (a b c d : Event) → (xs ++ a ∷ []) ++ (b ∷ c ∷ d ∷ []) ≡ xs ++ (a ∷ b ∷ c ∷ d ∷ [])
four xs a b c d = simp append_assoc

pub returns : goal.returns
returns g c =
    let next = c.following_typed-next.result in
    let found = c.following_typed-next.ensures in
    let inside = c.is_in_element.ensures c.if-not-is_in_element.false in
    let H : List Event → Type 0 = λ es. g.S.EventSink.heard c.tell_head.new.self es in
    rw (c.skip.ensures.count) (of_prefix (found.within (omega arith))
    (following_taken c.args.self.now c.skip.new.self c.args.piece.now next (outer_of (outer_of (levels_in c.args.self.now.levels)))
    c.requires.takes.0 c.requires.done c.requires.takes.1 (found.within (omega arith)) inside (found.follows (omega arith))
    (pushed_lands c.args.self.now c.skip.ensures.passed refl refl refl inside)
    (λ events h. subst H (four events _ _ _ _) (c.tell_head.ensures _ (c.tell.ensures events h)))))
