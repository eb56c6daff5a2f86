-- A few bytes, by one comparison of vectors.
use Rattle.gj_json.proofs.Common.{drop, length, rules, sym, ◌-◌, ◌∙◌, ◌≡◌, ◌≤◌}
use Rattle.std.proofs.Common.{take}
use Rattle.std.proofs.lemmas.Slice.Eq.{bytes_eq-Decides}
use Rattle.gj_json.proofs.Pieces.PieceCuts.{cut_front}
use Rattle.gj_json.proofs.separators.Separator.stands.Goals as goal

pub returns : goal.returns
returns g c = λ same.
    let n = length c.args.self.now.bytes.now in
    let piece = c.args.piece.now in
    let front = take n (take (length piece - c.args.at) (drop c.args.at piece)) in
    let e : front ≡ take n c.args.self.now.word = (bytes_eq-Decides front (take n c.args.self.now.word)).0 (sym c.begins.ensures ∙ same) in
    let few : n ≤ 16 = search rules in
    cut_front piece c.args.at n ∙ e ∙ c.args.self.now.same few
