-- Lemmas on a search that takes a part of each piece.
use Rattle.std.proofs.Common.{◌≡◌, ◌<◌, ◌≤◌, ◌+◌, ◌-◌, ℕ, List, ◌++◌, inr, Some, None, length, take, drop, sym, ap, ◌∙◌, subst, arith}
use Rattle.std.proofs.Common.{append_assoc, length-append, take-append-drop}
use Rattle.std.specs.Prelude.{Option}
use Rattle.std.specs.Io.KnownBytes.{Consumes}
use Rattle.std.proofs.Math.Seq.{take-append-add}
use Rattle.std.proofs.lemmas.List.{take-append-le, length-take-le}
use Rattle.gj_json.specs.declared.fault.JsonFault.{JsonFault}
use Rattle.gj_json.specs.Limits.{Allowed}
use Rattle.gj_json.specs.Refusal.{IsRefusal}
use Rattle.gj_json.specs.Text.{IsText, IsViableWithin}
use Rattle.gj_json.specs.Tree.{Text}
use Rattle.gj_json.specs.declared.path.Path.{Path}
use Rattle.gj_json.specs.Path.{steps_of, path_at}
use Rattle.geolint.specs.Located.{up_to, Locates}

-- ---- what was found, where so many bytes of the last piece were taken

taken_front : (read piece rest : List ℕ) (wanted place : ℕ) → length read + wanted ≡ place + 1 → wanted ≤ length piece
    → up_to place ((read ++ piece) ++ rest) ≡ read ++ take wanted piece
taken_front read piece rest wanted place long within =
    ap (λ (n : ℕ). take n ((read ++ piece) ++ rest)) (sym long)
    ∙ (ap (λ (xs : List ℕ). take (length read + wanted) xs) (append_assoc read piece rest)
    ∙ (take-append-add read (piece ++ rest) wanted ∙ ap (λ (xs : List ℕ). read ++ xs) (take-append-le wanted piece rest within)))

pub path_found : (limits : Allowed) (place : ℕ) (old new : Option (List ℕ)) (read piece : List ℕ) (wanted : ℕ) (path : Path)
    → Consumes old new (read ++ piece) → length read + wanted ≡ place + 1 → wanted ≤ length piece → place < limits.bytes
    → IsViableWithin limits.depth (read ++ take wanted piece)
    → ((text : Text) (rest : List ℕ) → IsText text ((read ++ take wanted piece) ++ rest) → steps_of path ≡ path_at (place + 1) text)
    → Locates limits place old new (Some path)
path_found limits place None new read piece wanted path took long within small viable leads = ((read ++ piece, took), tt)
path_found limits place (Some all) None read piece wanted path took long within small viable leads = absurd took
path_found limits place (Some all) (Some rest) read piece wanted path took long within small viable leads =
    let front : up_to place all ≡ read ++ take wanted piece = ap (up_to place) took ∙ taken_front read piece rest wanted place long within in
    let total : length all ≡ length read + length piece + length rest = ap length took ∙ simp length-append in (
      (read ++ piece, took),
      (
        omega arith,
        small,
        subst (IsViableWithin limits.depth) (sym front) viable,
        λ text more h. leads text more (subst (λ (xs : List ℕ). IsText text (xs ++ more)) front h),
      ),
    )

-- the bytes up to a place begin with fewer of them
longer_front : (place : ℕ) (front rest : List ℕ) → length front ≤ place + 1 → up_to place (front ++ rest) ≡ front ++ take (place + 1 - length front) rest
longer_front place front rest short =
    ap (λ (n : ℕ). take n (front ++ rest)) (omega arith) ∙ take-append-add front rest (place + 1 - length front)

pub path_refused : (limits : Allowed) (place : ℕ) (old new : Option (List ℕ)) (read piece : List ℕ) (wanted : ℕ) (fault : JsonFault)
    → Consumes old new (read ++ piece) → length read + wanted ≤ place + 1 → wanted ≤ length piece
    → ((more : List ℕ) → IsRefusal limits ((read ++ take wanted piece) ++ more) fault)
    → Locates limits place old new None
path_refused limits place None new read piece wanted fault took long within refused = ((read ++ piece, took), tt)
path_refused limits place (Some all) None read piece wanted fault took long within refused = absurd took
path_refused limits place (Some all) (Some rest) read piece wanted fault took long within refused =
    let front : List ℕ = read ++ take wanted piece in
    let behind : List ℕ = drop wanted piece ++ rest in
    let split : all ≡ front ++ behind =
    took ∙ (ap (λ (xs : List ℕ). (read ++ xs) ++ rest) (sym (take-append-drop wanted piece))
    ∙ (ap (λ (xs : List ℕ). xs ++ rest) (sym (append_assoc read (take wanted piece) (drop wanted piece))) ∙ append_assoc front (drop wanted piece) rest)) in
    let few : length front ≤ place + 1 =
    (let l : length front ≡ length read + length (take wanted piece) = length-append read (take wanted piece) in let k =
    length-take-le wanted piece within in omega arith) in
    let begins : up_to place all ≡ front ++ take (place + 1 - length front) behind = ap (up_to place) split ∙ longer_front place front behind few in (
      (read ++ piece, took),
      inr (
        fault,
        λ more.
            subst (λ (xs : List ℕ). IsRefusal limits (xs ++ more) fault) (sym begins)
            (subst (λ (xs : List ℕ). IsRefusal limits xs fault) (sym (append_assoc front (take (place + 1 - length front) behind) more))
            (refused (take (place + 1 - length front) behind ++ more))),
      ),
    )
