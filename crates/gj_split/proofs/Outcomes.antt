-- What a result that is some value says.
use Rattle.gj_split.proofs.Common.{Ok, subst, ◌≡◌}
use Rattle.std.proofs.Common.{Result, Err, IfOk, OnOk}

abbrev ok_of : (T E : Type 0) → T → Result T E
ok_of T E value = Ok value

pub ok_gives : {T E : Type 0} (outcome : Result T E) (given : T) (N : Type 0) (P : T → Type 0) → IfOk outcome (λ v. N × (ok_of T E given ≡ ok_of T E v))
    → P given → IfOk outcome P
ok_gives {T} {E} (Ok v) given N P h p = subst P (same given v h.1) p
  where
    same : (a b : T) → ok_of T E a ≡ ok_of T E b → a ≡ b
    same a b e = cc
ok_gives (Err x) given N P h p = tt

pub on_map : {T E : Type 0} (outcome : Result T E) (X Y : Type 0) → OnOk outcome X → (X → Y) → OnOk outcome Y
on_map (Ok v) X Y h f = f h
on_map (Err x) X Y h f = tt

pub ok_both : {T E F : Type 0} (outcome : Result T E) (P : T → Type 0) (R : F → Type 0) (Q : F → T → Type 0) (Z : T → Type 0) → IfOk outcome P
    → ((f : F) → R f → IfOk outcome (Q f))
    → ((v : T) → P v → ((f : F) → R f → Q f v) → Z v) → IfOk outcome Z
ok_both (Ok v) P R Q Z p q z = z v p q
ok_both (Err x) P R Q Z p q z = tt

pub if_map : {T E : Type 0} (outcome : Result T E) (P Q : T → Type 0) → IfOk outcome P → ((v : T) → P v → Q v) → IfOk outcome Q
if_map (Ok v) P Q h f = f v h
if_map (Err x) P Q h f = tt

pub ok_on_both : {T E : Type 0} (outcome : Result T E) (given : T) (N M X : Type 0) → IfOk outcome (λ v. N × (ok_of T E given ≡ ok_of T E v))
    → OnOk outcome M → (N → M → X) → OnOk outcome X
ok_on_both (Ok v) given N M X h k f = f h.0 k
ok_on_both (Err x) given N M X h k f = tt
