-- The entries of a clock vector: what an edit at the place of a replica does to each tick.
use Rattle.std.proofs.Math.Seq.{drop-cons}
use Rattle.std.proofs.Common.{drop, add-one, get_or, zero, ◌==◌, ◌&&◌, ◌≡◌, ◌≢◌, ◌⊎◌, ℕ, suc, ◌+◌, ◌<◌, ◌≤◌, ◌^◌, if◌then◌else◌, nat_eq, [], ◌∷◌, length, set, refl, sym, ap, subst, inl, inr, arith, ◌∙◌, max}
use Rattle.std.specs.List.{insert, remove}
use Rattle.std.proofs.lemmas.Bool.Decides.{nat_tests}
use Rattle.std.specs.Bool.{Decides}
use Rattle.std.proofs.lemmas.Bool.{eq-eqb, ne_eqb, lt-ltb, le-ltb, cases_lt, cases_eq}
use Rattle.sfx_ids.specs.Tick.{IsTick}
use Rattle.sfx_vector.specs.Clocks.{Clocks, AreFrom, AreClocks, ChangesOnly, tick_of}
use Rattle.sfx_vector.specs.Places.{entry_place}

-- ---- one step

-- the tick of the first entry's replica, and of another
pub tick-here : (c : ℕ × ℕ) (cs : Clocks) (r : ℕ) → c.0 ≡ r → tick_of (c ∷ cs) r ≡ c.1
tick-here c cs r same = ap (λ t. if t then c.1 else tick_of cs r) (eq-eqb c.0 r same)

pub tick-past : (c : ℕ × ℕ) (cs : Clocks) (r : ℕ) → c.0 ≢ r → tick_of (c ∷ cs) r ≡ tick_of cs r
tick-past c cs r other = ap (λ t. if t then c.1 else tick_of cs r) (ne_eqb c.0 r other)

pub place-past : (c : ℕ × ℕ) (cs : Clocks) (r : ℕ) → c.0 < r → entry_place (c ∷ cs) r ≡ suc (entry_place cs r)
place-past c cs r less = ap (λ t. if t then suc (entry_place cs r) else 0) (lt-ltb c.0 r less)

pub place-here : (c : ℕ × ℕ) (cs : Clocks) (r : ℕ) → r ≤ c.0 → entry_place (c ∷ cs) r ≡ 0
place-here c cs r le = ap (λ t. if t then suc (entry_place cs r) else 0) (le-ltb c.0 r le)

-- ---- what ascends

pub AreFrom-lower : (low high : ℕ) (cs : Clocks) → low ≤ high → AreFrom high cs → AreFrom low cs
AreFrom-lower low high [] le from = tt
AreFrom-lower low high (c ∷ cs) le from = (omega arith, from.1, from.2, from.3)

-- a replica below all entries has no tick
pub absent : (low r : ℕ) (cs : Clocks) → r < low → AreFrom low cs → tick_of cs r ≡ 0
absent low r [] below from = refl
absent low r (c ∷ cs) below from =
    tick-past c cs r (λ same. omega arith) ∙ absent (c.0 + 1) r cs (omega arith) from.3

-- ---- two vectors with the same ticks

abbrev pub pair : ℕ → ℕ → ℕ × ℕ
pair a b = (a, b)

pub same_pair : (c d : ℕ × ℕ) → c.0 ≡ d.0 → c.1 ≡ d.1 → c ≡ d
same_pair c d first second =
    let same : pair c.0 c.1 ≡ pair d.0 d.1 = rw (first, second) refl in
    same

not_below : (c : ℕ × ℕ) (cs : Clocks) (d : ℕ × ℕ) (ds : Clocks) (low : ℕ) → AreFrom low (c ∷ cs) → AreFrom low (d ∷ ds) → tick_of (c ∷ cs) c.0 ≡ tick_of (d ∷ ds) c.0 → d.0 ≤ c.0
not_below c cs d ds low from from' same = elim (cases_lt c.0 d.0) [
  | inr le ↦ le
  | inl less ↦
      let some : tick_of (c ∷ cs) c.0 ≡ c.1 = tick-here c cs c.0 refl in
      let lacks : tick_of (d ∷ ds) c.0 ≡ 0 = absent d.0 c.0 (d ∷ ds) less (omega arith, from'.1, from'.2, from'.3) in
      absurd (omega (arith, some, lacks, same, from.2.least))
]

pub same_ticks : (low : ℕ) (a b : Clocks) → AreFrom low a → AreFrom low b → ((r : ℕ) → tick_of a r ≡ tick_of b r) → a ≡ b
same_ticks low [] [] from from' same = refl
same_ticks low [] (d ∷ ds) from from' same =
    absurd (omega (arith, tick-here d ds d.0 refl, same d.0, from'.2.least))
same_ticks low (c ∷ cs) [] from from' same =
    absurd (omega (arith, tick-here c cs c.0 refl, same c.0, from.2.least))
same_ticks low (c ∷ cs) (d ∷ ds) from from' same =
    let first : c.0 ≡ d.0 = omega (arith, not_below c cs d ds low from from' (same c.0), not_below d ds c cs low from' from (sym (same d.0))) in
    let second : c.1 ≡ d.1 = sym (tick-here c cs c.0 refl) ∙ same c.0 ∙ tick-here d ds c.0 (sym first) in
    let rest : (r : ℕ) → tick_of cs r ≡ tick_of ds r = λ r. elim (cases_eq c.0 r) [
      | inl is ↦ absent (c.0 + 1) r cs (omega arith) from.3 ∙ sym (absent (d.0 + 1) r ds (omega arith) from'.3)
      | inr other ↦ sym (tick-past c cs r other) ∙ same r ∙ tick-past d ds r (λ is. other (first ∙ is))
    ] in
    let tails : cs ≡ ds = same_ticks (c.0 + 1) cs ds from.3 (subst (λ n. AreFrom (n + 1) ds) (sym first) from'.3) rest in
    rw (same_pair c d first second, tails) refl

-- ---- the place of a replica

pub place-within : (cs : Clocks) (r : ℕ) → entry_place cs r ≤ length cs
place-within [] r = omega arith
place-within (c ∷ cs) r = elim (cases_lt c.0 r) [
  | inl less ↦ rw place-past (omega (arith, place-within cs r))
  | inr above ↦ rw place-here (omega arith)
]

-- a replica with a tick stands at its place
pub place-taken : (cs : Clocks) (r : ℕ) → 0 < tick_of cs r → entry_place cs r < length cs
place-taken [] r some = absurd (omega arith)
place-taken (c ∷ cs) r some = elim (cases_lt c.0 r) [
  | inl less ↦ rw place-past
      (let rest = place-taken cs r (omega (arith, tick-past c cs r (λ same. omega arith))) in omega arith)
  | inr above ↦ rw place-here (omega arith)
]

-- ---- a new entry there

pub AreFrom-insert : (low r t : ℕ) (cs : Clocks) → low ≤ r → r < 2 ^ 128 → IsTick t → AreFrom low cs → tick_of cs r ≡ 0 → AreFrom low (insert cs (entry_place cs r) (r, t))
AreFrom-insert low r t [] le fits valid from none = (le, fits, valid, tt)
AreFrom-insert low r t (c ∷ cs) le fits valid from none = elim (cases_lt c.0 r) [
  | inl less ↦ rw place-past
      (from.0, from.1, from.2, AreFrom-insert (c.0 + 1) r t cs (omega arith) fits valid from.3 (sym (tick-past c cs r (λ same. omega arith)) ∙ none))
  | inr above ↦ rw place-here
      (let other : c.0 ≢ r = λ same. omega (arith, tick-here c cs r same, from.2.least) in
      (le, fits, valid, (omega arith, from.1, from.2, from.3)))
]

pub tick-insert : (r t : ℕ) (cs : Clocks) (q : ℕ) → tick_of (insert cs (entry_place cs r) (r, t)) q ≡ (if nat_eq r q then t else tick_of cs q)
tick-insert r t [] q = refl
tick-insert r t (c ∷ cs) q = elim (cases_lt c.0 r) [
  | inl less ↦ rw place-past (elim (cases_eq c.0 q) [
    | inl is ↦
        tick-here c (insert cs (entry_place cs r) (r, t)) q is
        ∙ sym (tick-here c cs q is)
        ∙ ap (λ b. if b then t else tick_of (c ∷ cs) q) (sym (ne_eqb r q (λ same. omega arith)))
    | inr other ↦
        tick-past c (insert cs (entry_place cs r) (r, t)) q other
        ∙ tick-insert r t cs q
        ∙ ap (λ n. if nat_eq r q then t else n) (sym (tick-past c cs q other))
  ])
  | inr above ↦ rw place-here refl
]

-- ---- another tick there

-- an entry with a tick that is not below the first is the first
is_first : (low r : ℕ) (c : ℕ × ℕ) (cs : Clocks) → AreFrom low (c ∷ cs) → r ≤ c.0 → 0 < tick_of (c ∷ cs) r → c.0 ≡ r
is_first low r c cs from above some = elim (cases_lt r c.0) [
  | inr le ↦ omega arith
  | inl less ↦ absurd (omega (arith, absent c.0 r (c ∷ cs) less (omega arith, from.1, from.2, from.3)))
]

pub AreFrom-set : (low r t : ℕ) (cs : Clocks) → IsTick t → AreFrom low cs → 0 < tick_of cs r → AreFrom low (set cs (entry_place cs r) (r, t))
AreFrom-set low r t [] valid from some = absurd (omega arith)
AreFrom-set low r t (c ∷ cs) valid from some = elim (cases_lt c.0 r) [
  | inl less ↦ rw place-past
      (from.0, from.1, from.2, AreFrom-set (c.0 + 1) r t cs valid from.3 (omega (arith, tick-past c cs r (λ same. omega arith))))
  | inr above ↦ rw place-here
      (let is : c.0 ≡ r = is_first low r c cs from above some in
      (omega arith, omega (arith, from.1), valid, subst (λ n. AreFrom (n + 1) cs) is from.3))
]

pub tick-set : (low r t : ℕ) (cs : Clocks) (q : ℕ) → AreFrom low cs → 0 < tick_of cs r → tick_of (set cs (entry_place cs r) (r, t)) q ≡ (if nat_eq r q then t else tick_of cs q)
tick-set low r t [] q from some = absurd (omega arith)
tick-set low r t (c ∷ cs) q from some = elim (cases_lt c.0 r) [
  | inl less ↦ rw place-past (elim (cases_eq c.0 q) [
    | inl is ↦
        tick-here c (set cs (entry_place cs r) (r, t)) q is
        ∙ sym (tick-here c cs q is)
        ∙ ap (λ b. if b then t else tick_of (c ∷ cs) q) (sym (ne_eqb r q (λ same. omega arith)))
    | inr other ↦
        tick-past c (set cs (entry_place cs r) (r, t)) q other
        ∙ tick-set (c.0 + 1) r t cs q from.3 (omega (arith, tick-past c cs r (λ same. omega arith)))
        ∙ ap (λ n. if nat_eq r q then t else n) (sym (tick-past c cs q other))
  ])
  | inr above ↦ rw place-here
      (let is : c.0 ≡ r = is_first low r c cs from above some in
      elim (cases_eq r q) [
        | inl same ↦ tick-here (r, t) cs q same ∙ ap (λ b. if b then t else tick_of (c ∷ cs) q) (sym (eq-eqb r q same))
        | inr other ↦
            tick-past (r, t) cs q other
            ∙ sym (tick-past c cs q (λ same. other (sym is ∙ same)))
            ∙ ap (λ b. if b then t else tick_of (c ∷ cs) q) (sym (ne_eqb r q other))
      ])
]

-- ---- no entry there any more

pub AreFrom-remove : (low r : ℕ) (cs : Clocks) → AreFrom low cs → 0 < tick_of cs r → AreFrom low (remove cs (entry_place cs r))
AreFrom-remove low r [] from some = absurd (omega arith)
AreFrom-remove low r (c ∷ cs) from some = elim (cases_lt c.0 r) [
  | inl less ↦ rw place-past
      (from.0, from.1, from.2, AreFrom-remove (c.0 + 1) r cs from.3 (omega (arith, tick-past c cs r (λ same. omega arith))))
  | inr above ↦ rw place-here (AreFrom-lower low (c.0 + 1) cs (omega arith) from.3)
]

pub tick-remove : (low r : ℕ) (cs : Clocks) (q : ℕ) → AreFrom low cs → 0 < tick_of cs r → tick_of (remove cs (entry_place cs r)) q ≡ (if nat_eq r q then 0 else tick_of cs q)
tick-remove low r [] q from some = absurd (omega arith)
tick-remove low r (c ∷ cs) q from some = elim (cases_lt c.0 r) [
  | inl less ↦ rw place-past (elim (cases_eq c.0 q) [
    | inl is ↦
        tick-here c (remove cs (entry_place cs r)) q is
        ∙ sym (tick-here c cs q is)
        ∙ ap (λ b. if b then 0 else tick_of (c ∷ cs) q) (sym (ne_eqb r q (λ same. omega arith)))
    | inr other ↦
        tick-past c (remove cs (entry_place cs r)) q other
        ∙ tick-remove (c.0 + 1) r cs q from.3 (omega (arith, tick-past c cs r (λ same. omega arith)))
        ∙ ap (λ n. if nat_eq r q then 0 else n) (sym (tick-past c cs q other))
  ])
  | inr above ↦ rw place-here
      (let is : c.0 ≡ r = is_first low r c cs from above some in
      elim (cases_eq r q) [
        | inl same ↦
            absent (c.0 + 1) q cs (omega arith) from.3
            ∙ ap (λ b. if b then 0 else tick_of (c ∷ cs) q) (sym (eq-eqb r q same))
        | inr other ↦
            sym (tick-past c cs q (λ same. other (sym is ∙ same)))
            ∙ ap (λ b. if b then 0 else tick_of (c ∷ cs) q) (sym (ne_eqb r q other))
      ])
]

-- ---- changes of one tick

-- a vector whose ticks are these changes the one tick
pub changes : (old new : Clocks) (r t : ℕ) → ((q : ℕ) → tick_of new q ≡ (if nat_eq r q then t else tick_of old q)) → ChangesOnly old new r t
changes old new r t ticks = record {
  changed = ticks r ∙ ap (λ b. if b then t else tick_of old r) (eq-eqb r r refl);
  others = λ q other. ticks q ∙ ap (λ b. if b then t else tick_of old q) (ne_eqb r q (λ same. other (sym same)));
}

-- a tick that is greater than the one before is the greater of both
pub raised : (old new : Clocks) (r t : ℕ) → tick_of old r < t → ((q : ℕ) → tick_of new q ≡ (if nat_eq r q then t else tick_of old q)) → ChangesOnly old new r (max (tick_of old r) t)
raised old new r t less ticks =
    let greater : t ≡ max (tick_of old r) t = omega arith in
    subst (λ n. ChangesOnly old new r n) greater (changes old new r t ticks)

-- ---- equal entries

pub pair-Decides : (a b : ℕ × ℕ) → Decides ((a.0 == b.0) && (a.1 == b.1)) (a ≡ b)
pair-Decides a b = (
  λ equal. same_pair a b (grind (arith, nat_tests)) (grind (arith, nat_tests)),
  λ same.
      let first : a.0 ≡ b.0 = ap (λ c. c.0) same in
      let second : a.1 ≡ b.1 = ap (λ c. c.1) same in
      grind (arith, nat_tests),
)

-- ---- an entry by its index

pub AreFrom-drop : (low i : ℕ) (cs : Clocks) → AreFrom low cs → AreFrom low (drop i cs)
AreFrom-drop low zero cs from = from
AreFrom-drop low (suc i) [] from = tt
AreFrom-drop low (suc i) (c ∷ cs) from = AreFrom-lower low (c.0 + 1) (drop i cs) (omega arith) (AreFrom-drop (c.0 + 1) i cs from.3)

drop_item : (i : ℕ) (cs : Clocks) (c : ℕ × ℕ) → i < length cs → c ≡ get_or cs i c → drop i cs ≡ c ∷ drop (i + 1) cs
drop_item i cs c within is =
    let here : drop i cs ≡ get_or cs i c ∷ drop (i + 1) cs = rw (add-one, drop-cons cs i c) refl in
    here ∙ ap (λ d. d ∷ drop (i + 1) cs) (sym is)

-- the vector has the tick of each entry for the entry's replica
pub tick-item : (low i : ℕ) (cs : Clocks) (c : ℕ × ℕ) → AreFrom low cs → i < length cs → c ≡ get_or cs i c → (low ≤ c.0) × (tick_of cs c.0 ≡ c.1)
tick-item low i [] c from within is = absurd (omega arith)
tick-item low zero (x ∷ xs) c from within is =
    subst (λ d. (low ≤ d.0) × (tick_of (x ∷ xs) d.0 ≡ d.1)) (sym is) (from.0, tick-here x xs x.0 refl)
tick-item low (suc i) (x ∷ xs) c from within is =
    let rest = tick-item (x.0 + 1) i xs c from.3 (omega arith) is in
    (omega (arith, rest.0), tick-past x xs c.0 (λ same. omega (arith, rest.0)) ∙ rest.1)

-- ---- joining and comparing, entry by entry

-- the join of what is left goes on with the first entry raised
pub join_step : (low : ℕ) (old new : Clocks) (c : ℕ × ℕ) (cs : Clocks) → AreFrom low (c ∷ cs) → ChangesOnly old new c.0 (max (tick_of old c.0) c.1) → (r : ℕ) → max (tick_of new r) (tick_of cs r) ≡ max (tick_of old r) (tick_of (c ∷ cs) r)
join_step low old new c cs from raised r = elim (cases_eq c.0 r) [
  | inl is ↦
      subst (λ q. max (tick_of new q) (tick_of cs q) ≡ max (tick_of old q) (tick_of (c ∷ cs) q)) is
      (let here : tick_of (c ∷ cs) c.0 ≡ c.1 = tick-here c cs c.0 refl in
      let gone : tick_of cs c.0 ≡ 0 = absent (c.0 + 1) c.0 cs (omega arith) from.3 in
      let changed = raised.changed in
      omega (arith, here, gone, changed))
  | inr other ↦
      let past : tick_of (c ∷ cs) r ≡ tick_of cs r = tick-past c cs r other in
      let kept : tick_of new r ≡ tick_of old r = raised.others r (λ same. other (sym same)) in
      omega (arith, past, kept)
]

-- where the first entry is not greater, all is within the other where what is left is
pub within_step : (c : ℕ × ℕ) (cs other : Clocks) → c.1 ≤ tick_of other c.0 → ((r : ℕ) → tick_of cs r ≤ tick_of other r) → (r : ℕ) → tick_of (c ∷ cs) r ≤ tick_of other r
within_step c cs other first rest r = elim (cases_eq c.0 r) [
  | inl is ↦ subst (λ q. tick_of (c ∷ cs) q ≤ tick_of other q) is (omega (arith, tick-here c cs c.0 refl))
  | inr not ↦ omega (arith, tick-past c cs r not, rest r)
]

-- the same at an index, where the join so far and what is left give what `whole` says
pub join_at : (all old new : Clocks) (whole : ℕ → ℕ) (i : ℕ) (c : ℕ × ℕ) → AreClocks all → i < length all → c ≡ get_or all i c → ChangesOnly old new c.0 (max (tick_of old c.0) c.1) → ((r : ℕ) → max (tick_of old r) (tick_of (drop i all) r) ≡ whole r) → (r : ℕ) → max (tick_of new r) (tick_of (drop (i + 1) all) r) ≡ whole r
join_at all old new whole i c from within is changed so_far r =
    let split = drop_item i all c within is in
    let left = subst (AreFrom 0) split (AreFrom-drop 0 i all from) in
    join_step 0 old new c (drop (i + 1) all) left changed r
    ∙ ap (λ cs. max (tick_of old r) (tick_of cs r)) (sym split)
    ∙ so_far r

-- ---- one vector within another

-- an entry that is within the other vector, and the entries behind it
pub within_more : (other items : Clocks) (entry : ℕ × ℕ) (i : ℕ) →
    i < length items → entry ≡ get_or items i entry → entry.1 ≤ tick_of other entry.0 →
    ((r : ℕ) → tick_of (drop (i + 1) items) r ≤ tick_of other r) → (r : ℕ) → tick_of (drop i items) r ≤ tick_of other r
within_more other items entry i inside is below behind r = rw ahead (by_test (cases_eq entry.0 r))
  where
    ahead : drop i items ≡ entry ∷ drop (i + 1) items
    ahead = drop-cons items i entry inside ∙ rw (add-one, ← is) refl

    by_test : (entry.0 ≡ r) ⊎ (entry.0 ≢ r) → tick_of (entry ∷ drop (i + 1) items) r ≤ tick_of other r
    by_test (inl same) = rw (tick-here entry (drop (i + 1) items) r same) (subst (λ q. entry.1 ≤ tick_of other q) same below)
    by_test (inr apart) = rw (tick-past entry (drop (i + 1) items) r apart) (behind r)
