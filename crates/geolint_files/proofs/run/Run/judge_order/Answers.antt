use Rattle.geolint_files.proofs.Common.{◌≡◌, ◌++◌, ◌∷◌, [], List, ℕ, length, Bool, Option, None, Vec, Global, refl, ap, sym, subst, ◌∙◌}
use Rattle.std.proofs.Common.{◌<◌, ◌≤◌, ◌+◌, take, get_or, true, append-nil}
use Rattle.std.proofs.lemmas.List.{map-append, take_more, take_all}
use Rattle.std.proofs.lemmas.Result.{on_ok_weaker}
use Rattle.geolint_files.specs.Named.{AreOf, AreOfList, AreOfSome, none_named, given_in}
use Rattle.geolint_files.proofs.Runs.NamedFiles.{AreOf-then}
use Rattle.geolint_files.proofs.Runs.ToldFiles.{TellsFiles-none, TellsFiles-then}
use Rattle.geolint_files.proofs.run.Run.judge_order.Goals as goal

pub loop-path-init : goal.loop-path-init
loop-path-init g c = ([], none_named, TellsFiles-none g.W.Write.contents c.args.self.now c.expect.new.self c.expect.ensures)

pub loop-path-preserved : goal.loop-path-preserved
loop-path-preserved g c =
    let endings = c.args.order.now.endings.items in
    let paths = c.args.order.now.paths.items in
    let i = c.loop-path.path-index in
    let path = c.path-item.result in
    let (told, are, tells) = c.loop-path.invariant in
    let (more, then, more_tells) = c.in_ok-judge_path.ensures in
    let within : i < length paths =
    subst (λ (all : List (Vec ℕ Global)). i < length all) c.deref-path-items.ensures.value c.loop-path-test.true in
    let at : path ≡ get_or paths i path =
    c.path-item.is ∙ ap (λ (all : List (Vec ℕ Global)). get_or all i path) c.deref-path-items.ensures.value in
    let longer : given_in (take (i + 1) paths) ≡ given_in (take i paths) ++ (path.items, true) ∷ [] =
    ap given_in (take_more paths i path within)
    ∙ (map-append (λ (one : Vec ℕ Global). (one.items, true)) (take i paths) (get_or paths i path ∷ [])
    ∙ ap (λ (one : Vec ℕ Global). given_in (take i paths) ++ (one.items, true) ∷ []) (sym at)) in
    let next : AreOf endings ((path.items, true) ∷ []) more =
    subst (λ (given : List (Vec ℕ Global)). AreOf given ((path.items, true) ∷ []) more) c.as_slice-endings.ensures.value
    (subst (λ (name : List ℕ). AreOf c.as_slice-endings.result.now ((name, true) ∷ []) more) c.as_slice.ensures.value then) in (
      told ++ more,
      subst (λ (names : List (List ℕ × Bool)). AreOf endings names (told ++ more)) (sym longer)
          (AreOf-then endings ((path.items, true) ∷ []) more are next),
      TellsFiles-then g.W.Write.contents told more c.args.self.now c.loop-path.self c.judge_path.new.self tells more_tells,
    )

pub returns-in-Some : goal.returns-in-Some
returns-in-Some g c =
    let order = c.args.order.now in
    let endings = order.endings.items in
    let (told, are, tells) = c.loop-path.invariant in
    let all = take_all c.loop-path.path-index order.paths.items
    (subst (λ (all : List (Vec ℕ Global)). length all ≤ c.loop-path.path-index) c.deref-path-items.ensures.value c.loop-path-test.false) in
    on_ok_weaker c.judge_list.result (λ (of_list, listed, more). (
      told ++ of_list,
      (
        told,
        of_list,
        refl,
        subst (λ (paths : List (Vec ℕ Global)). AreOf endings (given_in paths) told) all are,
        subst (λ (list : Option (Vec ℕ Global)). AreOfSome endings list order.name_end of_list) (sym c.in-Some.is)
            (subst (λ (name : List ℕ). AreOfList endings name order.name_end None of_list) c.as_slice-in-Some.ensures.value
            (subst (λ (given : List (Vec ℕ Global)). AreOfList given c.as_slice-in-Some.result.now order.name_end None of_list)
            c.as_slice-endings.ensures.value listed)),
      ),
      TellsFiles-then g.W.Write.contents told of_list c.args.self.now c.loop-path.self c.judge_list.new.self tells more,
    )) c.judge_list.ensures

pub returns-in-None : goal.returns-in-None
returns-in-None g c =
    let order = c.args.order.now in
    let endings = order.endings.items in
    let (told, are, tells) = c.loop-path.invariant in
    let all = take_all c.loop-path.path-index order.paths.items
    (subst (λ (all : List (Vec ℕ Global)). length all ≤ c.loop-path.path-index) c.deref-path-items.ensures.value c.loop-path-test.false) in (
      told,
      (
        told,
        [],
        sym (append-nil told),
        subst (λ (paths : List (Vec ℕ Global)). AreOf endings (given_in paths) told) all are,
        subst (λ (list : Option (Vec ℕ Global)). AreOfSome endings list order.name_end []) (sym c.in-None.is) refl,
      ),
      tells,
    )
