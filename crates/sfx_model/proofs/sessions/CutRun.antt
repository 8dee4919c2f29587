-- The run with a session that is cut.
use Rattle.std.proofs.Common.{◌≡◌, ◌≢◌, ℕ, ◌+◌, ◌<◌, ◌≤◌, ◌^◌, inl, inr, sym, ap, refl, subst, ◌∙◌, Bool, true, false, List, [], ◌∷◌, codes, Some, None, arith, lit≤, lit<}
use Rattle.sfx_ids.specs.declared.cut.Cut.TheVariants.{At}
use Rattle.sfx_ids.specs.declared.item_id.ItemId.{ItemId}
use Rattle.sfx_ids.specs.Tick.{max_tick}
use Rattle.sfx_knowledge.proofs.ForgottenLemmas.{nothing_form}
use Rattle.sfx_knowledge.proofs.KnowledgeLemmas.{IsKnowledge-nothing}
use Rattle.sfx_item.specs.Decided.{is_clash}
use Rattle.sfx_model.specs.sessions.Acts.{DeedsContinue, IsOrderly}
use Rattle.sfx_model.specs.members.Consistent.{AreApart, live_name}
use Rattle.sfx_model.specs.sessions.CutRun.{before_cut, creation, cut_community, cut_deeds, cut_member, world_before}
use Rattle.sfx_model.specs.declared.clash_rule.ClashRule.TheVariants as clash_rules
use Rattle.sfx_model.specs.declared.keep.Keep.TheVariants.{Skip}
use Rattle.sfx_model.specs.world.Events.{AllLegal, IsNewId, Join, Units, after}
use Rattle.sfx_model.specs.members.Headline.{HaveEqualKnowledge}
use Rattle.sfx_item.specs.Item.{ItemState, ItemData}
use Rattle.sfx_model.specs.members.Members.{Community, AreAscending, shown, vector_at}
use Rattle.sfx_model.specs.members.Readings.{clashing_with}
use Rattle.sfx_model.specs.sessions.SessionExamples.{alone, created_of, five, nth_item, new, rules_of}
use Rattle.sfx_model.specs.world.Sets.{Has}
use Rattle.sfx_model.specs.members.StandsIn.{StateStandsIn}
use Rattle.sfx_model.specs.members.States.{Continues, next_created, with_item}
use Rattle.sfx_model.specs.world.World.{Site, World, WellFormed, empty_world}
use Rattle.sfx_model.specs.sessions.Batch.{batch_from}
use Rattle.sfx_model.specs.sessions.Class.{class_of, absent_class_of}
use Rattle.sfx_model.specs.sessions.Entry.{task_plan, change_others, changed_by, after_task, entry_of}
use Rattle.sfx_item.specs.Renamed.{renamed}
use Rattle.sfx_model.specs.sessions.NewName.{first_free}
use Rattle.std.specs.Fmt.{digits}
use Rattle.std.specs.Fmt.Cut.{floor_char_boundary}
use Rattle.sfx_model.specs.sessions.Session.{tasks_of, after_range, go, session_from, session_of}
use Rattle.sfx_model.proofs.sessions.SessionsAct.{session_state}
use Rattle.sfx_model.proofs.sessions.DueBatch.{state_has}
use Rattle.sfx_model.proofs.sessions.ClashesLemmas.{IsNamed, clash_lists, tests_apart}
use Rattle.sfx_model.proofs.members.StatesLemmas.{with_ascending}
use Rattle.sfx_model.proofs.world.WrongWorldsRefused.{empty_well_formed}
use Rattle.sfx_model.proofs.members.StateContinues.{creation_continues, empty_stands, join_state, units_state}
use Rattle.sfx_model.proofs.members.AscendingItems.{item_with}
use Rattle.sfx_model.proofs.members.ShortRun.{new_state}

-- The members as A creates item after item, and then with B.
abbrev a_with : ℕ → List ItemData → Community
a_with clock items = record { units = 2; members = record { name = codes "A"; member = alone 10 clock items } ∷ [] }

-- A creates one more item.
one_more :
    (w : World) (clock tick : ℕ) (items more : List ItemData) (name : List ℕ)
    → WellFormed w → StateStandsIn w (a_with clock items) → clock < max_tick
    → with_item (next_created (alone 10 clock items) (name ∷ codes "x" ∷ [])) items ≡ more
    → tick ≡ clock + 1
    → Continues w (creation tick name) (a_with tick more)
one_more w clock tick items more name ok stands room are is =
    subst (λ (t : ℕ). Continues w (creation t name) (a_with t more)) (sym is)
    (creation_continues w (a_with clock items) (a_with (clock + 1) more) (alone 10 clock items) (alone 10 (clock + 1) more) (name ∷ codes "x" ∷ [])
    ok stands
    (record { front = []; name = codes "A"; back = []; units = refl; before = refl; now = refl })
    room refl
    (record { id = refl; clock = refl; knowledge = λ place u r inside small other. refl; forgotten = refl; holds = sym are }))

abbrev item : ℕ → List ℕ → ItemData
item tick name = created_of tick 10 name

-- ---- what happens before the session

abbrev nobody : Community
nobody = record { units = 2; members = [] }

abbrev both : Community
both = record { units = 2; members = record { name = codes "A"; member = five } ∷ record { name = codes "B"; member = new } ∷ [] }

abbrev after_units : World
after_units = after empty_world (Units 2)

abbrev after_join : World
after_join = after after_units (Join 10)

abbrev after_1 : World
after_1 = after after_join (creation 1 (codes "n1"))

abbrev after_2 : World
after_2 = after after_1 (creation 2 (codes "n2"))

abbrev after_3 : World
after_3 = after after_2 (creation 3 (codes "n3"))

abbrev after_4 : World
after_4 = after after_3 (creation 4 (codes "n4"))

abbrev after_5 : World
after_5 = after after_4 (creation 5 (codes "n5"))

step_units : Continues empty_world (Units 2) nobody
step_units = units_state empty_world (record { units = 0; members = [] }) 2 empty_well_formed (empty_stands empty_world) (inr (inl refl)) (inl refl)

step_join : Continues after_units (Join 10) (a_with 0 [])
step_join =
    join_state after_units nobody (codes "A") 10 (alone 10 0 []) step_units.well_formed step_units.stands (lit≤ tt)
    (λ m has. absurd has) (new_state 10)

abbrev one_item : List ItemData
one_item = item 1 (codes "n1") ∷ []

abbrev two_items : List ItemData
two_items = item 1 (codes "n1") ∷ item 2 (codes "n2") ∷ []

abbrev three_items : List ItemData
three_items = item 1 (codes "n1") ∷ item 2 (codes "n2") ∷ item 3 (codes "n3") ∷ []

abbrev four_items : List ItemData
four_items = item 1 (codes "n1") ∷ item 2 (codes "n2") ∷ item 3 (codes "n3") ∷ item 4 (codes "n4") ∷ []

step_1 : Continues after_join (creation 1 (codes "n1")) (a_with 1 one_item)
step_1 = one_more after_join 0 1 [] one_item (codes "n1") step_join.well_formed step_join.stands (lit< tt) refl refl

step_2 : Continues after_1 (creation 2 (codes "n2")) (a_with 2 two_items)
step_2 = one_more after_1 1 2 one_item two_items (codes "n2") step_1.well_formed step_1.stands (lit< tt) refl refl

step_3 : Continues after_2 (creation 3 (codes "n3")) (a_with 3 three_items)
step_3 = one_more after_2 2 3 two_items three_items (codes "n3") step_2.well_formed step_2.stands (lit< tt) refl refl

step_4 : Continues after_3 (creation 4 (codes "n4")) (a_with 4 four_items)
step_4 = one_more after_3 3 4 three_items four_items (codes "n4") step_3.well_formed step_3.stands (lit< tt) refl refl

step_5 : Continues after_4 (creation 5 (codes "n5")) (a_with 5 five.items)
step_5 = one_more after_4 4 5 four_items five.items (codes "n5") step_4.well_formed step_4.stands (lit< tt) refl refl

-- The one site then is that of A.
b_new : IsNewId after_5 11
b_new s has e = elim has [
  | inl is ↦ let bad : 10 ≡ 11 = ap (λ (x : Site). x.id) (sym is) ∙ e in absurd (omega (arith, bad))
  | inr none ↦ none
]

step_b : Continues after_5 (Join 11) both
step_b =
    join_state after_5 (a_with 5 five.items) (codes "B") 11 new step_5.well_formed step_5.stands (lit≤ tt)
    b_new (new_state 11)

pub before_legal : AllLegal empty_world before_cut
before_legal = (
  step_units.legal,
  (step_join.legal, (step_1.legal, (step_2.legal, (step_3.legal, (step_4.legal, (step_5.legal, (step_b.legal, tt))))))),
)

-- ---- both members are orderly

five_ascending : AreAscending five.items
five_ascending =
    with_ascending (item 5 (codes "n5")) four_items
    (with_ascending (item 4 (codes "n4")) three_items
    (with_ascending (item 3 (codes "n3")) two_items
    (with_ascending (item 2 (codes "n2")) one_item (with_ascending (item 1 (codes "n1")) [] tt refl) refl) refl) refl) refl

named_as : (x : ItemData) (name : List ℕ) (j : ItemId) (state : ItemState) (a : List ℕ)
    → item_with j state ≡ x → live_name x.state ≡ Some name → live_name state ≡ Some a
    → clashing_with name (Some x.id) five.items ≡ [] → clashing_with a (Some j) five.items ≡ []
named_as x name j state a is named own none =
    let there : live_name x.state ≡ Some a = ap (λ (y : ItemData). live_name y.state) (sym is) ∙ own in
    let same : name ≡ a = cc in
    let id : x.id ≡ j = ap (λ (y : ItemData). y.id) (sym is) in
    subst (λ (n : List ℕ). clashing_with n (Some j) five.items ≡ []) same
    (subst (λ (i : ItemId). clashing_with name (Some i) five.items ≡ []) id none)

none_clashes : (j : ItemId) (a : List ℕ) → IsNamed five.items j a → clashing_with a (Some j) five.items ≡ []
unfolding is_clash
none_clashes j a named = elim (state_has five.items j named.state named.there) [
  | inl is ↦ named_as (item 1 (codes "n1")) (codes "n1") j named.state a is refl named.live refl
  | inr more ↦ elim more [
    | inl is ↦ named_as (item 2 (codes "n2")) (codes "n2") j named.state a is refl named.live refl
    | inr more ↦ elim more [
      | inl is ↦ named_as (item 3 (codes "n3")) (codes "n3") j named.state a is refl named.live refl
      | inr more ↦ elim more [
        | inl is ↦ named_as (item 4 (codes "n4")) (codes "n4") j named.state a is refl named.live refl
        | inr more ↦ elim more [
          | inl is ↦ named_as (item 5 (codes "n5")) (codes "n5") j named.state a is refl named.live refl
          | inr none ↦ absurd none
        ]
      ]
    ]
  ]
]

five_apart : AreApart five.items
five_apart = tests_apart five.items tests where
  tests : (j k : ItemId) (a b : List ℕ) → j ≢ k → IsNamed five.items j a → IsNamed five.items k b → is_clash a b ≡ false
  tests j k a b other first second = by_test (is_clash a b) refl where
    by_test : (c : Bool) → is_clash a b ≡ c → c ≡ false
    by_test false e = refl
    by_test true e = absurd (subst (λ (ids : List ItemId). Has k ids) (none_clashes j a first) (clash_lists five.items j a k b (λ same. other (sym same)) second e))

-- A member that knows nothing of others has its lists in order where its items are.
pub alone_orderly : (id clock : ℕ) (items : List ItemData) → id < 2 ^ 128 → clock ≤ max_tick → AreAscending items → AreApart items → IsOrderly 2 (alone id clock items)
alone_orderly id clock items fits low ascending names = record {
  some = lit≤ tt;
  id = fits;
  clock = low;
  knowledge = IsKnowledge-nothing 2;
  forgotten = nothing_form;
  ascending = ascending;
  names = names;
}

five_orderly : IsOrderly 2 five
five_orderly = alone_orderly 10 5 five.items (lit< tt) (lit≤ tt) five_ascending five_apart

none_apart : AreApart []
none_apart i j x y a b differ at_i at_j named_i named_j clashes = let bad : None ≡ Some x = at_i in cc

pub reader_orderly : (id : ℕ) → id < 2 ^ 128 → IsOrderly 2 (alone id 0 [])
reader_orderly id small = alone_orderly id 0 [] small (lit≤ tt) tt none_apart

-- ---- the session

pub cut_acts : DeedsContinue world_before cut_deeds cut_community
cut_acts =
    session_state world_before both cut_community five new (rules_of Skip clash_rules.Skip) 100 (Some 2)
    step_b.well_formed step_b.stands (λ e. absurd (omega (arith, e)))
    (record { name = codes "A"; member = five }, inl refl, refl)
    (record {
      front = record { name = codes "A"; member = five } ∷ [];
      name = codes "B";
      back = [];
      units = refl;
      before = refl;
      now = refl;
    })
    five_orderly (reader_orderly 11 (lit< tt)) (lit≤ tt)

five_there : vector_at five (At (nth_item 3 10)) 0 10 ≡ 5
five_there = refl

none_here : vector_at cut_member (At (nth_item 3 10)) 0 10 ≡ 0
unfolding is_clash batch_from class_of absent_class_of task_plan change_others changed_by after_task entry_of renamed first_free floor_char_boundary digits tasks_of after_range go session_from session_of
none_here = refl

apart_ticks : (a b : ℕ) → a ≡ 5 → a ≡ b → b ≡ 0 → ⊥
apart_ticks a b five same none = omega (arith, five, same, none)

pub cut_differ : ¬ HaveEqualKnowledge 2 (shown five) (shown cut_member)
cut_differ same =
    apart_ticks (vector_at five (At (nth_item 3 10)) 0 10) (vector_at cut_member (At (nth_item 3 10)) 0 10)
    five_there (same (At (nth_item 3 10)) 0 10 tt (lit< tt)) none_here
