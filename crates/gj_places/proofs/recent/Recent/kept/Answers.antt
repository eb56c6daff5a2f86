use Rattle.std.proofs.Common.{arith, rules, inl, inr, ◌∙◌, ◌++◌, [], ℕ, List, length, ap, sym, take, ◌+◌}
use Rattle.std.specs.Io.Iter.{u64_saturate}
use Rattle.std.proofs.lemmas.List.{take-append-drop}
use Rattle.gj_places.specs.Recalling.{held, KeepsMost}
use Rattle.gj_places.proofs.Recalled.{IsLead, kept-is}
use Rattle.gj_places.proofs.recent.Recent.kept.Goals as goal
use Rattle.gj_places.proofs.recent.Recent.kept.Goals.{then-self-eq0, else-self-eq0}

lead : (c : goal.After-bytes) → KeepsMost c.args.self.now → IsLead c.args.self.now.passed (length c.split_at.result.0.now) (length (held c.args.self.now.older))
lead c most = elim c.if-self-eq0.branch [
  | then-self-eq0 w ↦ record { either = inl (search rules, c.split_at.ensures.front_len ∙ w.count-is) }
  | else-self-eq0 w ↦ elim most.older [
    | inl none ↦ (absurd (omega (arith, none, w.if-self-eq0.false)))
    | inr many ↦ record { either = inr (omega (arith, many, w.count-is, c.split_at.ensures.front_len, w.min-count.ensures, ap length c.bytes-older.ensures), many) }
  ]
]

pub returns : goal.returns
returns c = λ bytes recalls most.
    let front = c.split_at.result.0.now in
    kept-is c.args.self.now bytes front _ recalls (lead c most)
    (ap (λ (ys : List ℕ). ys ++ c.split_at.result.1.now) c.split_at.ensures.front ∙ (ap (λ (ys : List ℕ). take c.if-self-eq0.count c.bytes-older.result.now ++ ys) c.split_at.ensures.back ∙ (take-append-drop c.if-self-eq0.count c.bytes-older.result.now ∙ c.bytes-older.ensures)))
    c.bytes.ensures (c.saturating_add.ensures ∙ ap (λ (n : ℕ). u64_saturate (c.args.self.now.passed + n)) (sym c.split_at.ensures.front_len)) (c.after.ensures recalls.before recalls.at_older) (c.feed_before.ensures [] c.new-excerpt.ensures)
