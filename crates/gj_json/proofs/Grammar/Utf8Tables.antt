-- The characters of several bytes are those whose first byte leads to the others.
use Rattle.gj_json.proofs.Common.{AfterE0, AfterED, AfterF0, AfterF4, Any, Bool, Bounds, Lead, List, None, Option, Some, arith, cases_lt, false}
use Rattle.gj_json.proofs.Common.{high_of, if◌then◌else◌, inl, inr, le-leb, low_of, nat_le, nat_tests, refl, subst, suc, sym, true, zero, ℕ, [], ◌%◌}
use Rattle.gj_json.proofs.Common.{◌*◌, ◌+◌, ◌-◌, ◌/◌, ◌<◌, ◌==◌, ◌∷◌, ◌≡◌, ◌≢◌, ◌≤◌, ◌⊎◌}
use Rattle.std.proofs.lemmas.Bool.{lt-leb, lt-ltb, le-ltb}
use lib.Utf8.{scalar, encode, next, scalar_cases, low_scalar}
use Rattle.gj_json.specs.Characters.{IsUtf8}
use Rattle.gj_json.specs.Utf8Bytes.{lead, lead_of}

-- the bytes of a character after its first, of which so many follow the next, which lies within the bounds
abbrev pub IsTail : ℕ → Bounds → ℕ → ℕ → List ℕ → Type 0
IsTail zero bounds value c bytes = (b : ℕ) × (bytes ≡ b ∷ []) × (low_of bounds ≤ b) × (b ≤ high_of bounds) × (c ≡ value * 64 + b % 64)
IsTail (suc more) bounds value c bytes =
    (b : ℕ) × (rest : List ℕ) × (bytes ≡ b ∷ rest) × (low_of bounds ≤ b) × (b ≤ high_of bounds) × IsTail more Any (value * 64 + b % 64) c rest

abbrev pub IsWide : ℕ → List ℕ → Type 0
IsWide c bytes = (b : ℕ) × (rest : List ℕ) × (first : Lead) × (bytes ≡ b ∷ rest) × (lead_of b ≡ Some first) × IsTail first.more first.bounds first.value c rest

-- ---- the first byte of a character

pub lead_two : (b : ℕ) → 0xC1 < b → b ≤ 0xDF → lead_of b ≡ lead 0 Any (b - 0xC0)
unfolding lead_of
lead_two b l u = rw (lt-leb b 0xC1 l, le-leb b 0xDF u) refl

pub lead_e0 : (b : ℕ) → b ≡ 0xE0 → lead_of b ≡ lead 1 AfterE0 0
unfolding lead_of
lead_e0 b e = rw e refl

eq_no : (a b : ℕ) → (a ≡ b → ⊥) → (a == b) ≡ false
eq_no a b h = grind (arith, nat_tests)

pub lead_low : (b : ℕ) → 0xE0 < b → b ≤ 0xEC → lead_of b ≡ lead 1 Any (b - 0xE0)
unfolding lead_of
lead_low b l u = rw (lt-leb b 0xC1 (omega arith), lt-leb b 0xDF (omega arith), eq_no b 0xE0 (λ e. omega arith), le-leb b 0xEC u) refl

pub lead_ed : (b : ℕ) → b ≡ 0xED → lead_of b ≡ lead 1 AfterED 13
unfolding lead_of
lead_ed b e = rw e refl

pub lead_high : (b : ℕ) → 0xED < b → b ≤ 0xEF → lead_of b ≡ lead 1 Any (b - 0xE0)
unfolding lead_of
lead_high b l u = rw (
  lt-leb b 0xC1 (omega arith),
  lt-leb b 0xDF (omega arith),
  eq_no b 0xE0 (λ e. omega arith),
  lt-leb b 0xEC (omega arith),
  eq_no b 0xED
      (λ e. omega arith),
  le-leb b 0xEF u,
) refl

pub lead_f0 : (b : ℕ) → b ≡ 0xF0 → lead_of b ≡ lead 2 AfterF0 0
unfolding lead_of
lead_f0 b e = rw e refl

pub lead_four : (b : ℕ) → 0xF0 < b → b ≤ 0xF3 → lead_of b ≡ lead 2 Any (b - 0xF0)
unfolding lead_of
lead_four b l u =
    rw (
      lt-leb b 0xC1 (omega arith),
      lt-leb b 0xDF (omega arith),
      eq_no b 0xE0 (λ e. omega arith),
      lt-leb b 0xEC (omega arith),
      eq_no b 0xED
          (λ e. omega arith),
      lt-leb b 0xEF (omega arith),
      eq_no b 0xF0 (λ e. omega arith),
      le-leb b 0xF3 u,
    ) refl

pub lead_f4 : (b : ℕ) → b ≡ 0xF4 → lead_of b ≡ lead 2 AfterF4 4
unfolding lead_of
lead_f4 b e = rw e refl

-- ---- a character

pub encode_one : (c : ℕ) → c < 128 → encode c ≡ c ∷ []
unfolding encode
encode_one c u = rw (lt-ltb c 128 u) refl

pub encode_two : (c : ℕ) → 128 ≤ c → c < 2048 → encode c ≡ (192 + c / 64) ∷ next c ∷ []
unfolding encode
encode_two c l u = rw (le-ltb c 128 l, lt-ltb c 2048 u) refl

pub encode_three : (c : ℕ) → 2048 ≤ c → c < 65536 → encode c ≡ (224 + c / 4096) ∷ next (c / 64) ∷ next c ∷ []
unfolding encode
encode_three c l u = rw (le-ltb c 128 (omega arith), le-ltb c 2048 l, lt-ltb c 65536 u) refl

pub encode_four : (c : ℕ) → 65536 ≤ c → encode c ≡ (240 + c / 262144) ∷ next (c / 4096) ∷ next (c / 64) ∷ next c ∷ []
unfolding encode
encode_four c l = rw (le-ltb c 128 (omega arith), le-ltb c 2048 (omega arith), le-ltb c 65536 l) refl

two : (c : ℕ) → 128 ≤ c → c < 2048 → IsWide c ((192 + c / 64) ∷ next c ∷ [])
two c l u = (192 + c / 64, next c ∷ [], _, refl, lead_two (192 + c / 64) (omega arith) (omega arith), (next c, refl, omega arith, omega arith, omega arith))

three : (c : ℕ) → 2048 ≤ c → c < 65536 → ((c < 55296) ⊎ (57344 ≤ c)) → IsWide c ((224 + c / 4096) ∷ next (c / 64) ∷ next c ∷ [])
three c l u s = elim (cases_lt c 4096) [
  | inl a ↦ (
    224 + c / 4096,
    next (c / 64) ∷ next c ∷ [],
    _,
    refl,
    lead_e0 (224 + c / 4096) (omega arith),
    (next (c / 64), next c ∷ [], refl, omega arith, omega arith, (next c, refl, omega arith, omega arith, omega arith)),
  )
  | inr b ↦ elim (cases_lt c 53248) [
    | inl a ↦ (
      224 + c / 4096,
      next (c / 64) ∷ next c ∷ [],
      _,
      refl,
      lead_low (224 + c / 4096) (omega arith) (omega arith),
      (next (c / 64), next c ∷ [], refl, omega arith, omega arith, (next c, refl, omega arith, omega arith, omega arith)),
    )
    | inr d ↦ elim s [
      | inl a ↦ (
        224 + c / 4096,
        next (c / 64) ∷ next c ∷ [],
        _,
        refl,
        lead_ed (224 + c / 4096) (omega arith),
        (next (c / 64), next c ∷ [], refl, omega arith, omega arith, (next c, refl, omega arith, omega arith, omega arith)),
      )
      | inr a ↦ (
        224 + c / 4096,
        next (c / 64) ∷ next c ∷ [],
        _,
        refl,
        lead_high (224 + c / 4096) (omega arith) (omega arith),
        (next (c / 64), next c ∷ [], refl, omega arith, omega arith, (next c, refl, omega arith, omega arith, omega arith)),
      )
    ]
  ]
]

four : (c : ℕ) → 65536 ≤ c → c < 1114112 → IsWide c ((240 + c / 262144) ∷ next (c / 4096) ∷ next (c / 64) ∷ next c ∷ [])
four c l u = elim (cases_lt c 262144) [
  | inl a ↦ (
    240 + c / 262144,
    next (c / 4096) ∷ next (c / 64) ∷ next c ∷ [],
    _,
    refl,
    lead_f0 (240 + c / 262144) (omega arith),
    (
      next (c / 4096),
      next (c / 64) ∷ next c ∷ [],
      refl,
      omega arith,
      omega arith,
      (next (c / 64), next c ∷ [], refl, omega arith, omega arith, (next c, refl, omega arith, omega arith, omega arith)),
    ),
  )
  | inr b ↦ elim (cases_lt c 1048576) [
    | inl a ↦ (
      240 + c / 262144,
      next (c / 4096) ∷ next (c / 64) ∷ next c ∷ [],
      _,
      refl,
      lead_four (240 + c / 262144) (omega arith) (omega arith),
      (
        next (c / 4096),
        next (c / 64) ∷ next c ∷ [],
        refl,
        omega arith,
        omega arith,
        (next (c / 64), next c ∷ [], refl, omega arith, omega arith, (next c, refl, omega arith, omega arith, omega arith)),
      ),
    )
    | inr a ↦ (
      240 + c / 262144,
      next (c / 4096) ∷ next (c / 64) ∷ next c ∷ [],
      _,
      refl,
      lead_f4 (240 + c / 262144) (omega arith),
      (
        next (c / 4096),
        next (c / 64) ∷ next c ∷ [],
        refl,
        omega arith,
        omega arith,
        (next (c / 64), next c ∷ [], refl, omega arith, omega arith, (next c, refl, omega arith, omega arith, omega arith)),
      ),
    )
  ]
]

pub by_bytes : (c : ℕ) (bytes : List ℕ) → IsUtf8 c bytes → IsWide c bytes
by_bytes c bytes (s, l, e) = subst (IsWide c) (sym e) (elim (cases_lt c 2048) [
  | inl u ↦ subst (IsWide c) (sym (encode_two c l u)) (two c l u)
  | inr m ↦ elim (cases_lt c 65536) [
    | inl u ↦ subst (IsWide c) (sym (encode_three c m u)) (three c m u (elim (scalar_cases c s) [ inl a ↦ inl a | inr a ↦ inr a.0 ]))
    | inr n ↦ subst (IsWide c) (sym (encode_four c n)) (four c n (elim (scalar_cases c s) [ inl a ↦ omega arith | inr a ↦ a.1 ]))
  ]
])

-- ---- and back

high_scalar : (c : ℕ) → 57344 ≤ c → c < 1114112 → scalar c ≡ true
high_scalar c l u = rw (le-ltb c 55296 (omega arith), le-leb 57344 c l, lt-ltb c 1114112 u) refl

of_two : (b c : ℕ) (rest : List ℕ) → 0xC1 < b → b ≤ 0xDF → IsTail 0 Any (b - 0xC0) c rest → IsUtf8 c (b ∷ rest)
of_two b c rest l u (x, e, m, w, v) =
    let low : 128 ≤ c = omega arith in
    let few : c < 2048 = omega arith in
    let f : b ≡ 192 + c / 64 = omega arith in
    let g : x ≡ next c = omega arith in
    let k = encode_two c low few in
    (low_scalar c (omega arith), low, cc)

of_three : (b v c x y : ℕ) → b ≡ 224 + v → v < 16 → 128 ≤ x → x ≤ 191 → 128 ≤ y → y ≤ 191 → c ≡ (v * 64 + x % 64) * 64 + y % 64 → 2048 ≤ c → scalar c ≡ true
    → IsUtf8 c (b ∷ x ∷ y ∷ [])
of_three b v c x y e small lx ux ly uy w low s =
    let few : c < 65536 = omega arith in
    let f : b ≡ 224 + c / 4096 = omega arith in
    let g : x ≡ next (c / 64) = omega arith in
    let h : y ≡ next c = omega arith in
    let k = encode_three c low few in
    (s, omega arith, cc)

of_four : (b v c x y z : ℕ) → b ≡ 240 + v → 128 ≤ x → x ≤ 191 → 128 ≤ y → y ≤ 191 → 128 ≤ z → z ≤ 191 → c ≡ ((v * 64 + x % 64) * 64 + y % 64) * 64 + z % 64
    → 65536 ≤ c → c < 1114112
    → IsUtf8 c (b ∷ x ∷ y ∷ z ∷ [])
of_four b v c x y z e lx ux ly uy lz uz w low few =
    let f : b ≡ 240 + c / 262144 = omega arith in
    let g : x ≡ next (c / 4096) = omega arith in
    let h : y ≡ next (c / 64) = omega arith in
    let i : z ≡ next c = omega arith in
    let k = encode_four c low in
    (high_scalar c (omega arith) few, omega arith, cc)

after_three : (b v c : ℕ) (bounds : Bounds) (rest : List ℕ) → b ≡ 224 + v → v < 16 → 128 ≤ low_of bounds → high_of bounds ≤ 191 → IsTail 1 bounds v c rest
    → ((x y : ℕ) → low_of bounds ≤ x → x ≤ high_of bounds → 128 ≤ y → y ≤ 191 → c ≡ (v * 64 + x % 64) * 64 + y % 64 → (2048 ≤ c) × (scalar c ≡ true))
    → IsUtf8 c (b ∷ rest)
after_three b v c bounds rest e small least most (x, r, f, lx, ux, (y, g, ly, uy, w)) right =
    let s = right x y lx ux ly uy w in
    rw (f, g) (of_three b v c x y e small (omega arith) (omega arith) ly uy w s.0 s.1)

after_four : (b v c : ℕ) (bounds : Bounds) (rest : List ℕ) → b ≡ 240 + v → 128 ≤ low_of bounds → high_of bounds ≤ 191 → IsTail 2 bounds v c rest
    → ((x y z : ℕ) → low_of bounds ≤ x → x ≤ high_of bounds → 128 ≤ y → y ≤ 191 → 128 ≤ z → z ≤ 191 → c ≡ ((v * 64 + x % 64) * 64 + y % 64) * 64 + z % 64
    → (65536 ≤ c) × (c < 1114112))
    → IsUtf8 c (b ∷ rest)
after_four b v c bounds rest e least most (x, r, f, lx, ux, (y, r2, g, ly, uy, (z, h, lz, uz, w))) right =
    let s = right x y z lx ux ly uy lz uz w in
    rw (f, g, h) (of_four b v c x y z e (omega arith) (omega arith) ly uy lz uz w s.0 s.1)

-- the row of a first byte that this one is
row : (t : Bool) (one other : Option Lead) (first : Lead) → (if t then one else other) ≡ Some first → ((t ≡ true) × (one ≡ Some first))
    ⊎ ((t ≡ false) × (other ≡ Some first))
row true one other first e = inl (refl, e)
row false one other first e = inr (refl, e)

tail_by : (more : ℕ) (bounds : Bounds) (value c : ℕ) (rest : List ℕ) (first : Lead) → lead more bounds value ≡ Some first
    → IsTail first.more first.bounds first.value c rest → IsTail more bounds value c rest
tail_by more bounds value c rest first e t =
    let f : first ≡ record { more = more; bounds = bounds; value = value } = cc in
    let P : Lead → Type 0 = λ l. IsTail l.more l.bounds l.value c rest in
    subst P f t

by_first : (c b : ℕ) (rest : List ℕ) (first : Lead) → lead_of b ≡ Some first → IsTail first.more first.bounds first.value c rest → IsUtf8 c (b ∷ rest)
unfolding lead_of
by_first c b rest first h t = elim (row (nat_le b 0xC1) None _ first h) [
  | inl p ↦ absurd (cc)
  | inr p1 ↦ elim (row (nat_le b 0xDF) (lead 0 Any (b - 0xC0)) _ first p1.1) [
    | inl p ↦ of_two b c rest (over 0xC1 p1.0) (under 0xDF p.0) (tail_by 0 Any (b - 0xC0) c rest first p.1 t)
    | inr p2 ↦ elim (row (b == 0xE0) (lead 1 AfterE0 0) _ first p2.1) [
      | inl p ↦ after_three b 0 c AfterE0 rest (here 0xE0 p.0) (omega arith) (omega arith) (omega arith) (tail_by 1 AfterE0 0 c rest first p.1 t)
          (λ x y lx ux ly uy w. (omega arith, low_scalar c (omega arith)))
      | inr p3 ↦ elim (row (nat_le b 0xEC) (lead 1 Any (b - 0xE0)) _ first p3.1) [
        | inl p ↦ (
            let l : 0xDF < b = over 0xDF p2.0 in
            let n : b ≢ 0xE0 = apart 0xE0 p3.0 in
            let u : b ≤ 0xEC = under 0xEC p.0 in
            after_three b (b - 0xE0) c Any rest (omega arith) (omega arith) (omega arith) (omega arith) (tail_by 1 Any (b - 0xE0) c rest first p.1 t)
            (λ x y lx ux ly uy w. (omega arith, low_scalar c (omega arith)))
            )
        | inr p4 ↦ elim (row (b == 0xED) (lead 1 AfterED 13) _ first p4.1) [
          | inl p ↦ after_three b 13 c AfterED rest (here 0xED p.0) (omega arith) (omega arith) (omega arith) (tail_by 1 AfterED 13 c rest first p.1 t)
              (λ x y lx ux ly uy w. (omega arith, low_scalar c (omega arith)))
          | inr p5 ↦ elim (row (nat_le b 0xEF) (lead 1 Any (b - 0xE0)) _ first p5.1) [
            | inl p ↦ (
                let l : 0xEC < b = over 0xEC p4.0 in
                let n : b ≢ 0xED = apart 0xED p5.0 in
                let u : b ≤ 0xEF = under 0xEF p.0 in
                after_three b (b - 0xE0) c Any rest (omega arith) (omega arith) (omega arith) (omega arith) (tail_by 1 Any (b - 0xE0) c rest first p.1 t)
                (λ x y lx ux ly uy w. (omega arith, high_scalar c (omega arith) (omega arith)))
                )
            | inr p6 ↦ elim (row (b == 0xF0) (lead 2 AfterF0 0) _ first p6.1) [
              | inl p ↦ after_four b 0 c AfterF0 rest (here 0xF0 p.0) (omega arith) (omega arith) (tail_by 2 AfterF0 0 c rest first p.1 t)
                  (λ x y z lx ux ly uy lz uz w. (omega arith, omega arith))
              | inr p7 ↦ elim (row (nat_le b 0xF3) (lead 2 Any (b - 0xF0)) _ first p7.1) [
                | inl p ↦ (
                    let l : 0xEF < b = over 0xEF p6.0 in
                    let n : b ≢ 0xF0 = apart 0xF0 p7.0 in
                    let u : b ≤ 0xF3 = under 0xF3 p.0 in
                    after_four b (b - 0xF0) c Any rest (omega arith) (omega arith) (omega arith) (tail_by 2 Any (b - 0xF0) c rest first p.1 t)
                    (λ x y z lx ux ly uy lz uz w. (omega arith, omega arith))
                    )
                | inr p8 ↦ elim (row (b == 0xF4) (lead 2 AfterF4 4) None first p8.1) [
                  | inl p ↦ after_four b 4 c AfterF4 rest (here 0xF4 p.0) (omega arith) (omega arith) (tail_by 2 AfterF4 4 c rest first p.1 t)
                      (λ x y z lx ux ly uy lz uz w. (omega arith, omega arith))
                  | inr p ↦ absurd (cc)
                ]
              ]
            ]
          ]
        ]
      ]
    ]
  ]
]
  where
    under : (n : ℕ) → nat_le b n ≡ true → b ≤ n
    under n e = grind (arith, nat_tests)

    over : (n : ℕ) → nat_le b n ≡ false → n < b
    over n e = grind (arith, nat_tests)

    here : (n : ℕ) → (b == n) ≡ true → b ≡ n
    here n e = grind (arith, nat_tests)

    apart : (n : ℕ) → (b == n) ≡ false → b ≢ n
    apart n e = grind (arith, nat_tests)

pub of_bytes : (c : ℕ) (bytes : List ℕ) → IsWide c bytes → IsUtf8 c bytes
of_bytes c bytes (b, rest, first, e, h, t) = rw e (by_first c b rest first h t)
