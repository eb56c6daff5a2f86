use Rattle.std.proofs.Common.{arith, ap, sym, ◌∙◌, ◌≡◌, ◌++◌, ℕ, List, length, append_assoc, append-nil}
use Rattle.std.specs.List.{flat_map}
use Rattle.std.specs.Str.Chunks.{utf8_chunks_rest}
use Rattle.report_forms.specs.Names.{by_number, shown_text, shown_bytes, shown_within}
use Rattle.report_forms.proofs.ShownNames.{shown_chunk, shown_nothing}
use Rattle.report_forms.proofs.texts.put_bytes.Goals as goal

pub loop-chunk-init : goal.loop-chunk-init
unfolding shown_bytes
loop-chunk-init c =
    let name = c.args.name.now in
    let all : utf8_chunks_rest c.into_iter-chunk-iterator.result ≡ name =
    ap utf8_chunks_rest c.into_iter-chunk-iterator.ensures.into_iter_gives ∙ c.utf8_chunks-chunk-items.ensures.rest in
    record {
      most = length name;
      enough = omega (arith, ap (λ (bytes : List ℕ). length bytes) all);
      done = ap (λ (bytes : List ℕ). c.args.line.now.items ++ shown_within (length name) bytes) all;
    }

-- what is behind two more parts
joined : (old middle new text numbers rest all start shown : List ℕ) → middle ≡ old ++ text → new ≡ middle ++ numbers → all ≡ text ++ (numbers ++ rest)
    → old ++ all ≡ start ++ shown
    → new ++ rest ≡ start ++ shown
joined old middle new text numbers rest all start shown first second parts before =
    ap (λ (ys : List ℕ). ys ++ rest) (second ∙ ap (λ (ys : List ℕ). ys ++ numbers) first)
    ∙ (append_assoc (old ++ text) numbers rest ∙ (append_assoc old text (numbers ++ rest) ∙ (ap (λ (ys : List ℕ). old ++ ys) (sym parts) ∙ before)))

pub loop-chunk-preserved : goal.loop-chunk-preserved
loop-chunk-preserved c =
    let steps = c.in-Some.ensures.steps in
    let more = shown_chunk c.loop-chunk.invariant.most _ _ _ _ steps.0 steps.3.0 steps.3.1 steps.1 c.loop-chunk.invariant.enough in
    record {
      most = more.0;
      enough = more.1;
      done = joined _ _ _ _ _ _ _ c.args.line.now.items (shown_bytes c.args.name.now)
          (c.in_ok-put_text.ensures ∙ ap (λ (text : List ℕ). c.loop-chunk.line.items ++ shown_text text) c.valid.ensures)
          (c.in_ok-put_numbers.ensures ∙ ap (λ (bytes : List ℕ). c.put_text.new.line.items ++ flat_map by_number bytes) c.invalid.ensures)
          more.2 c.loop-chunk.invariant.done;
    }

pub returns : goal.returns
returns c = sym (append-nil _)
    ∙ (ap (λ (bytes : List ℕ). c.loop-chunk.line.items ++ bytes) (sym (shown_nothing c.loop-chunk.invariant.most _ c.in-None.ensures.steps.0))
    ∙ c.loop-chunk.invariant.done)
