use Rattle.std.proofs.Common.{◌≡◌, ◌≢◌, ℕ, ◌≤◌, inl, inr, ◌∙◌, sym, ap, refl, subst, true, false, if◌then◌else◌, nat_eq, List, [], ◌∷◌, arith, lit<}
use Rattle.sfx_ids.specs.declared.version.Version.{Version}
use Rattle.sfx_model.specs.world.Sets.{Has}
use Rattle.sfx_model.specs.world.World.{Written, Record, Precedes, IsLatest, WellFormed, empty_world}
use Rattle.sfx_model.specs.world.Events.{UnitsLegal}
use Rattle.sfx_model.specs.members.Examples.{example_item, example_version, example_record, edited_records, edited_again, deleted, example_world, run_world}

pub other_tick : (a b : ℕ) → a ≢ b → example_version a ≢ example_version b
other_tick a b other e = other (ap (λ (v : Version). v.tick) e)

pub empty_well_formed : WellFormed empty_world
empty_well_formed = record {
  counted = λ s has. absurd has;
  distinct = tt;
  history = tt;
  records = λ r has. absurd has;
  sound = λ s has. absurd has;
  own = λ r s has. absurd has;
}

-- the second version is known, and not the first, which its maker knew
pub gap_refused : WellFormed (example_world edited_records 2 (example_version 2 ∷ []) true 0) → ⊥
gap_refused ok =
    let item = ok.sound _ (inl refl) example_item in
    let has =
    (item.cells 0).closed (example_version 2) (example_record 2 (Written (98 ∷ [])) (example_version 1 ∷ [])) (inl refl)
    (inl refl) (record { item = refl; unit = refl; version = refl }) (example_version 1) (inl refl)
    in
    elim has [ inl e ↦ other_tick 1 2 (omega arith) e | inr none ↦ none ]

-- the versions 2 and 3 were made without knowing each other, so that neither is the latest

abbrev pub forked : List Record
forked = edited_again (example_version 1 ∷ [])

abbrev pub all_three : List Version
all_three = example_version 3 ∷ example_version 2 ∷ example_version 1 ∷ []

pub knew_first : (r : Record) (x : Version) → Has r forked → Has x r.made_knowing → x ≡ example_version 1
knew_first r x has knew = elim has [
  | inl e ↦ only (subst (λ (q : Record). Has x q.made_knowing) e knew)
  | inr rest ↦ elim rest [
    | inl e ↦ only (subst (λ (q : Record). Has x q.made_knowing) e knew)
    | inr last ↦ elim last [
      | inl e ↦ absurd (subst (λ (q : Record). Has x q.made_knowing) e knew)
      | inr none ↦ absurd none
    ]
  ]
]
  where
    only : Has x (example_version 1 ∷ []) → x ≡ example_version 1
    only h = elim h [ inl e ↦ e | inr none ↦ absurd none ]

pub none_latest : (v : Version) → IsLatest forked example_item 0 all_three v → ⊥
none_latest v latest =
    let third : example_version 3 ≡ v = same 3 (omega arith) (latest.1 (example_version 3) (inl refl)) in
    let second : example_version 2 ≡ v = same 2 (omega arith) (latest.1 (example_version 2) (inr (inl refl))) in
    other_tick 3 2 (omega arith) (third ∙ sym second)
  where
    same : (tick : ℕ) → tick ≢ 1 → Precedes forked example_item 0 (example_version tick) v → example_version tick ≡ v
    same tick other below = elim below [
      | inl e ↦ e
      | inr p ↦ absurd (other_tick tick 1 other (knew_first p.0 (example_version tick) p.1 p.3))
    ]

pub fork_refused : WellFormed (example_world forked 3 all_three true 0) → ⊥
fork_refused ok =
    let item = ok.sound _ (inl refl) example_item in
    elim (item.held refl) [
      | inl live ↦ let latest = live 0 (lit< tt) in none_latest latest.0 latest.1
      | inr dead ↦ none_latest dead.0 (dead.1 0 (lit< tt)).0
    ]

-- the item is gone, and its deletion is not forgotten
pub lost_refused : WellFormed (example_world deleted 2 (example_version 2 ∷ example_version 1 ∷ []) false 0) → ⊥
lost_refused ok =
    let item = ok.sound _ (inl refl) example_item in
    let gone = item.cleaned refl 0 (example_version 1) (inr (inl refl)) in
    elim gone.1 [
      | inl e ↦ not_yet 2 (omega arith) gone.0 e gone.4
      | inr rest ↦ elim rest [ inl e ↦ not_yet 1 (omega arith) gone.0 e gone.4 | inr none ↦ none ]
    ]
  where
    not_yet : (tick : ℕ) → 1 ≤ tick → (v : Version) → v ≡ example_version tick → v.tick ≤ (if nat_eq v.replica 1 then 0 else 0) → ⊥
    not_yet tick some v e small =
        let bad : tick ≤ 0 = subst (λ (x : Version). x.tick ≤ (if nat_eq x.replica 1 then 0 else 0)) e small in
        omega arith

-- one version was made twice at one cell
pub twice_refused :
    WellFormed
    (example_world (example_record 1 (Written (98 ∷ [])) [] ∷ example_record 1 (Written (97 ∷ [])) [] ∷ []) 1
    (example_version 1 ∷ []) true 0)
    → ⊥
twice_refused ok =
    ok.history.0.first (
      example_record 1 (Written (97 ∷ [])) [],
      inl refl,
      record { item = refl; unit = refl; version = refl },
    )

-- the unit count is 2 and not 4
pub other_count : UnitsLegal run_world 4 → ⊥
other_count legal = elim legal.said [
  | inl unsaid ↦ let bad : 2 ≡ 0 = unsaid.0 in cc
  | inr same ↦ let bad : 2 ≡ 4 = same in cc
]

-- 3 is no unit count
pub three_units : UnitsLegal empty_world 3 → ⊥
three_units legal = elim legal.count [
  | inl is ↦ let bad : 3 ≡ 1 = is in cc
  | inr more ↦ elim more [
    | inl is ↦ let bad : 3 ≡ 2 = is in cc
    | inr last ↦ elim last [ inl is ↦ let bad : 3 ≡ 4 = is in cc | inr is ↦ let bad : 3 ≡ 8 = is in cc ]
  ]
]
