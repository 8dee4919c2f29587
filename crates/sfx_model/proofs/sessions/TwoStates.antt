-- Two states in one world.
use Rattle.std.proofs.Common.{◌≡◌, ◌≢◌, ℕ, Bool, if◌then◌else◌, List, [], ◌∷◌, ◌++◌, map, codes, Some, None, inl, inr, refl, sym, ◌∙◌, ap, subst, arith, lit≤, lit<}
use Rattle.std.proofs.lemmas.Bool.{cases_Bool}
use Rattle.std.specs.Fmt.{digits}
use Rattle.std.specs.Fmt.Cut.{floor_char_boundary}
use Rattle.sfx_ids.specs.declared.item_id.ItemId.{ItemId}
use Rattle.sfx_item.specs.Decided.{is_clash}
use Rattle.sfx_item.specs.Item.{ItemState, ItemData}
use Rattle.sfx_item.specs.Renamed.{renamed}
use Rattle.sfx_model.specs.declared.clash_rule.ClashRule.TheVariants as clash_rules
use Rattle.sfx_model.specs.declared.keep.Keep.TheVariants.{Skip}
use Rattle.sfx_model.specs.world.Sets.{Has}
use Rattle.sfx_model.specs.world.World.{World, Site, WellFormed}
use Rattle.sfx_model.specs.world.Events.{Event, Units, Join, Make, same_item, after, new_site, AreLegalDeeds, IsNewId}
use Rattle.sfx_model.specs.members.Members.{Community, Member, NamedMember, state_of}
use Rattle.sfx_model.specs.members.StandsIn.{IsWhole, StateStandsIn, together}
use Rattle.sfx_model.specs.members.States.{ChangesMember, Continues, created_contents, edited_contents}
use Rattle.sfx_model.specs.members.Consistent.{AreApart}
use Rattle.sfx_model.specs.sessions.Acts.{DeedsContinue, IsOrderly}
use Rattle.sfx_model.specs.sessions.Batch.{batch_from}
use Rattle.sfx_model.specs.sessions.Class.{class_of, absent_class_of}
use Rattle.sfx_model.specs.sessions.CutRun.{cut_world}
use Rattle.sfx_model.specs.sessions.Deeds.{session_deeds, others_deeds, go_deeds, deeds_from}
use Rattle.sfx_model.specs.sessions.Entry.{task_plan, change_others, changed_by, after_task, entry_of}
use Rattle.sfx_model.specs.sessions.NewName.{first_free}
use Rattle.sfx_model.specs.sessions.Session.{tasks_of, after_range, go, session_from, session_of}
use Rattle.sfx_model.specs.sessions.SessionExamples.{alone, created_of, nth_item, rules_of, nth_version}
use Rattle.sfx_model.specs.sessions.TwoStates.{author, first_state, reader, second_deeds, second_state, two_world}
use Rattle.sfx_model.proofs.world.SetsLemmas.{has_either, has_left, has_right}
use Rattle.sfx_model.proofs.world.SiteLemmas.{found}
use Rattle.sfx_model.proofs.world.StepKeepsWorld.{same_item_is}
use Rattle.sfx_model.proofs.members.StateStands.{counted}
use Rattle.sfx_model.proofs.sessions.DueBatch.{has_map}
use Rattle.sfx_model.proofs.members.StatesPart.{split_state}
use Rattle.sfx_model.proofs.members.StateContinues.{creation_continues, edit_continues, join_state, units_state}
use Rattle.sfx_model.proofs.sessions.SessionsAct.{session_state}
use Rattle.sfx_model.proofs.sessions.CutRun.{alone_orderly, cut_acts, reader_orderly}
use Rattle.sfx_model.proofs.members.ShortRun.{new_state}

-- ---- the replicas

-- Names of one item do not clash.
one_apart : (x : ItemData) → AreApart (x ∷ [])
one_apart x i j s t a b differ at_i at_j named_i named_j clashes = differ (is_it i s at_i ∙ sym (is_it j t at_j))
  where
    is_it : (k : ItemId) (q : ItemState) → state_of (x ∷ []) k ≡ Some q → k ≡ x.id
    is_it k q at = elim (cases_Bool (same_item x.id k)) [
      | inl same ↦ sym (same_item_is x.id k same)
      | inr other ↦ let gone = subst (λ (b : Bool). (if b then Some x.state else None) ≡ Some q) other at in absurd (cc)
    ]

author_orderly : IsOrderly 2 author
author_orderly = alone_orderly 12 2 author.items (lit< tt) (lit≤ tt) (λ y has. absurd has, tt) (one_apart _)

abbrev beginner : Member
beginner = alone 12 1 (created_of 1 12 (codes "n1") ∷ [])

abbrev named_a : Member → NamedMember
named_a m = record { name = codes "A"; member = m }

abbrev named_b : Member → NamedMember
named_b m = record { name = codes "B"; member = m }

-- ---- the first state with more and more of the second

abbrev with_members : List NamedMember → Community
with_members ms = record { units = 2; members = first_state.members ++ ms }

abbrev with_two : Member → Member → Community
with_two m k = with_members (named_a m ∷ named_b k ∷ [])

author_changes : (m n : Member) → ChangesMember m n (with_two m reader) (with_two n reader)
author_changes m n = record {
  front = first_state.members;
  name = codes "A";
  back = named_b reader ∷ [];
  units = refl;
  before = refl;
  now = refl;
}

reader_changes : (n : Member) → ChangesMember reader n (with_two author reader) (with_two author n)
reader_changes n = record {
  front = first_state.members ++ named_a author ∷ [];
  name = codes "B";
  back = [];
  units = refl;
  before = refl;
  now = refl;
}

abbrev w1 : World
w1 = after cut_world (Units 2)

abbrev w2 : World
w2 = after w1 (Join 12)

abbrev w3 : World
w3 = after w2 (Join 13)

abbrev creating : Event
creating = Make 12 (nth_item 1 12) (nth_version 1 12) (created_contents (codes "n1" ∷ codes "x" ∷ []))

abbrev editing : Event
editing = Make 12 (nth_item 1 12) (nth_version 2 12) (edited_contents 1 (codes "y"))

abbrev w4 : World
w4 = after w3 creating

abbrev w5 : World
w5 = after w4 editing

cut_ids : map (λ (s : Site). s.id) cut_world.sites ≡ 10 ∷ 11 ∷ []
unfolding is_clash batch_from class_of absent_class_of task_plan change_others changed_by after_task entry_of renamed first_free floor_char_boundary digits tasks_of after_range go session_from session_of others_deeds go_deeds deeds_from
cut_ids = refl

-- The ids 12 and 13 are new before they join.
cut_new : (id : ℕ) → 10 ≢ id → 11 ≢ id → IsNewId cut_world id
cut_new id not_a not_b s has same =
    elim (subst (λ (ids : List ℕ). Has s.id ids) cut_ids (has_map (λ (x : Site). x.id) s cut_world.sites has)) [
      | inl is ↦ not_a (sym is ∙ same)
      | inr more ↦ elim more [ inl is ↦ not_b (sym is ∙ same) | inr none ↦ none ]
    ]

new_13 : IsNewId w2 13
new_13 s has same = elim (has_either s cut_world.sites (new_site 12 ∷ []) has) [
  | inl old ↦ cut_new 13 (λ e. omega (arith, e)) (λ e. omega (arith, e)) s old same
  | inr there ↦ elim there [
    | inl is ↦ let bad : 12 ≡ 13 = ap (λ (x : Site). x.id) (sym is) ∙ same in omega (arith, bad)
    | inr none ↦ none
  ]
]

-- ---- what happens on the second machine

said : Continues cut_world (Units 2) (with_members [])
said =
    units_state cut_world first_state 2 cut_acts.well_formed cut_acts.stands (inr (inl refl))
    (inr (sym (counted cut_world first_state _ cut_acts.stands (inl refl))))

join_12 : Continues w1 (Join 12) (with_members (named_a (alone 12 0 []) ∷ []))
join_12 =
    join_state w1 (with_members []) (codes "A") 12 (alone 12 0 []) said.well_formed said.stands (lit≤ tt)
    (cut_new 12 (λ e. omega (arith, e)) (λ e. omega (arith, e))) (new_state 12)

join_13 : Continues w2 (Join 13) (with_two (alone 12 0 []) reader)
join_13 =
    join_state w2 (with_members (named_a (alone 12 0 []) ∷ [])) (codes "B") 13 reader join_12.well_formed join_12.stands
    (lit≤ tt) new_13 (new_state 13)

created : Continues w3 creating (with_two beginner reader)
created =
    creation_continues w3 (with_two (alone 12 0 []) reader) (with_two beginner reader) (alone 12 0 []) beginner
    (codes "n1" ∷ codes "x" ∷ []) join_13.well_formed join_13.stands (author_changes (alone 12 0 []) beginner) (lit< tt) refl
    (record { id = refl; clock = refl; knowledge = λ place u r inside small other. refl; forgotten = refl; holds = refl })

edited : Continues w4 editing (with_two author reader)
edited =
    edit_continues w4 (with_two beginner reader) (with_two author reader) beginner author (nth_item 1 12) 1 (codes "y") _
    created.well_formed created.stands (author_changes beginner author) (lit< tt) (lit< tt) refl
    (record { id = refl; clock = refl; knowledge = λ place u r inside small other. refl; forgotten = refl; holds = refl })

-- The reader as the session leaves it, and what happens then, where items have so many units.
abbrev read : ℕ → Member
read units = (session_of units author reader (rules_of Skip clash_rules.Skip) 100 None).course.member

session : DeedsContinue w5 (session_deeds 2 author reader (rules_of Skip clash_rules.Skip) 100 None) (together first_state second_state)
session =
    let count : 2 ≡ w5.units = counted w5 (with_two author reader) _ edited.stands (inl refl) in
    subst (λ (n : ℕ). DeedsContinue w5 (session_deeds n author reader (rules_of Skip clash_rules.Skip) 100 None) (with_two author (read n)))
    (sym count)
    (session_state w5 (with_two author reader) (with_two author (read w5.units)) author reader (rules_of Skip clash_rules.Skip) 100 None
    edited.well_formed edited.stands (λ e. omega (arith, e)) (named_a author, inr (inr (inl refl)), refl) (reader_changes (read w5.units))
    (subst (λ (n : ℕ). IsOrderly n author) count author_orderly)
    (subst (λ (n : ℕ). IsOrderly n reader) count (reader_orderly 13 (lit< tt))) (lit≤ tt))

pub second_legal : AreLegalDeeds cut_world second_deeds
second_legal = (said.legal, (join_12.legal, (join_13.legal, (created.legal, (edited.legal, session.legal)))))

-- ---- both states

pub two_well_formed : WellFormed two_world
two_well_formed = session.well_formed

pub both_stand : StateStandsIn two_world (together first_state second_state)
both_stand = session.stands

pub first_stands : StateStandsIn two_world first_state
first_stands =
    split_state two_world (together first_state second_state) first_state both_stand refl
    (λ m has. has_left m first_state.members second_state.members has) cut_acts.stands.apart

pub second_stands : StateStandsIn two_world second_state
second_stands =
    split_state two_world (together first_state second_state) second_state both_stand refl
    (λ m has. has_right m first_state.members second_state.members has) both_stand.apart.1.1

-- The replica 12 has no member in the first state.
pub not_whole : IsWhole two_world first_state → ⊥
not_whole whole =
    let (s, at, rep) = (second_stands.members (named_a author) (inl refl)).represents in
    let site = found two_world.sites 12 s at in
    let (m, has, same) = whole s site.0 in
    let is_12 : m.member.id ≡ 12 = same ∙ site.1 in
    elim has [
      | inl is ↦ both_stand.apart.0 (named_a author) (inr (inl refl)) (sym is_12 ∙ ap (λ (x : NamedMember). x.member.id) is)
      | inr more ↦ elim more [
        | inl is ↦ both_stand.apart.1.0 (named_a author) (inl refl) (sym is_12 ∙ ap (λ (x : NamedMember). x.member.id) is)
        | inr none ↦ none
      ]
    ]
