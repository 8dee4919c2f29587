-- What comparing pieces of knowledge tells of an item: the tests of the classes say what they should.
use Rattle.std.proofs.Common.{◌≡◌, ℕ, ◌<◌, ◌≤◌, not, nat_le, Bool, true, false, true≢false, List, Option, Some, arith, refl, sym, ◌∙◌, subst}
use Rattle.std.specs.Option.{option_map_or}
use Rattle.std.proofs.lemmas.Bool.Decides.{nat_tests}
use Rattle.sfx_ids.specs.declared.cut.Cut.{Cut}
use Rattle.sfx_ids.specs.declared.cut.Cut.TheVariants.{At}
use Rattle.sfx_ids.specs.declared.item_id.ItemId.{ItemId}
use Rattle.sfx_ids.specs.declared.version.Version.{Version}
use Rattle.sfx_ids.specs.ItemId.{creation_of}
use Rattle.sfx_vector.specs.Clocks.{tick_of}
use Rattle.sfx_knowledge.specs.Knowledge.{Known, HasTicks, IsKnowledge, tick_at}
use Rattle.sfx_knowledge.specs.Forgotten.{Forgets, fvec}
use Rattle.sfx_knowledge.proofs.FormsLemmas.{ticks-with_own, IsKnowledge-with_own}
use Rattle.sfx_model.specs.world.World.{Record, Holding, IsContained}
use Rattle.sfx_model.specs.sessions.Acts.{IsInForm, IsOrderly}
use Rattle.sfx_model.specs.sessions.Class.{is_forgotten_within}
use Rattle.sfx_item.specs.Item.{version_at, ItemData, ItemState, Live, Dead}
use Rattle.sfx_model.specs.sessions.MemberKnowledge.{laid_known}
use Rattle.sfx_model.specs.members.Members.{Member, ItemRepresents, vector_at}
use Rattle.sfx_model.specs.members.Readings.{knows_version, is_unseen_at, is_unseen}
use Rattle.sfx_model.specs.members.Snapshots.{HasContained, AreWithin}
use Rattle.sfx_model.proofs.members.FactsHold.{cell_there}
use Rattle.sfx_model.proofs.sessions.MemberKnowledgeLemmas.{forgotten_within_decided}
use Rattle.sfx_model.proofs.world.UnitsLemmas.{none_at}

-- A member whose lists are in order is in its form.
pub in_form : (units : ℕ) (m : Member) → IsOrderly units m → IsInForm units m
in_form units m orderly = record {
  id = orderly.id;
  clock = orderly.clock;
  knowledge = orderly.knowledge;
  forgotten = orderly.forgotten;
  ascending = orderly.ascending;
}

-- What a member knows, as a list with its own clock laid over it.
pub laid_has : (units : ℕ) (m : Member) → IsInForm units m → HasTicks units (laid_known units m) (vector_at m)
laid_has units m form = ticks-with_own units m.id m.clock m.knowledge form.knowledge form.clock form.id

pub laid_form : (units : ℕ) (m : Member) → IsInForm units m → IsKnowledge units (laid_known units m)
laid_form units m form = IsKnowledge-with_own units m.id m.clock m.knowledge form.knowledge form.clock form.id

-- Knowledge that contains a version, as a fact.
le_is : (a b : ℕ) → nat_le a b ≡ true → a ≤ b
le_is a b test = grind (arith, nat_tests)

is_le : (a b : ℕ) → a ≤ b → nat_le a b ≡ true
is_le a b le = grind (arith, nat_tests)

not_not : (b : Bool) → not b ≡ false → b ≡ true
not_not true e = refl
not_not false e = absurd (true≢false e)

-- A version that is not unseen is contained.
pub seen_contained :
    (known : Known) (i : ItemId) (state : ItemState) (u : ℕ) (v : Version)
    → is_unseen_at known i state u ≡ false → version_at state u ≡ Some v → v.tick ≤ tick_at known (At i) u v.replica
seen_contained known i state u v seen is =
    let test : not (knows_version known i u v) ≡ false =
    subst (λ (o : Option Version). option_map_or (λ x. not (knows_version known i u x)) o false ≡ false) is seen in
    le_is v.tick (tick_at known (At i) u v.replica) (not_not (knows_version known i u v) test)

-- A state that represents a site's has a version of each unit.
pub has_version :
    (units : ℕ) (rs : List Record) (i : ItemId) (h : Holding) (state : ItemState) (u : ℕ)
    → ItemRepresents units rs i h (Some state) → u < units → (v : Version) × (version_at state u ≡ Some v)
has_version units rs i h (Live cells) u held small =
    let (c, is) = cell_there cells u (omega (arith, held.latest.whole)) in (c.version, rw is refl)
has_version units rs i h (Dead v) u held small = (v, refl)

-- A unit that is not unseen has its version contained, by ticks that the knowledge has.
pub unit_contained :
    (units : ℕ) (known : Known) (ticks : Cut → ℕ → ℕ → ℕ) (rs : List Record) (i : ItemId) (h : Holding) (state : ItemState) (u : ℕ)
    → HasTicks units known ticks → ItemRepresents units rs i h (Some state) → u < units
    → is_unseen_at known i state u ≡ false → HasContained state u (ticks (At i) u)
unit_contained units known ticks rs i h state u has held small seen =
    let (v, is) = has_version units rs i h state u held small in
    (v, is, subst (λ (t : ℕ). v.tick ≤ t) (has (At i) u v.replica tt small) (seen_contained known i state u v seen is))

-- An item that is not unseen is not so at any unit.
pub item_seen :
    (units : ℕ) (known : Known) (x : ItemData) (u : ℕ)
    → is_unseen units known x ≡ false → u < units → is_unseen_at known x.id x.state u ≡ false
item_seen units known x u seen small = none_at (is_unseen_at known x.id x.state) units u seen small

-- A creation that is not known is not contained.
pub creation_lacks :
    (units : ℕ) (known : Known) (ticks : Cut → ℕ → ℕ → ℕ) (i : ItemId)
    → HasTicks units known ticks → 1 ≤ units → knows_version known i 0 (creation_of i) ≡ false
    → IsContained (ticks (At i) 0) (creation_of i) → ⊥
creation_lacks units known ticks i has some lacks contained =
    let low : (creation_of i).tick ≤ tick_at known (At i) 0 (creation_of i).replica =
    subst (λ (t : ℕ). (creation_of i).tick ≤ t) (sym (has (At i) 0 (creation_of i).replica tt some)) contained in
    true≢false (sym (is_le (creation_of i).tick (tick_at known (At i) 0 (creation_of i).replica) low) ∙ lacks)

-- Forgotten deletions that are within knowledge of an item by the test are so.
pub forgotten_within :
    (units : ℕ) (forgotten : Forgets) (known : Known) (ticks : Cut → ℕ → ℕ → ℕ) (i : ItemId)
    → HasTicks units known ticks → is_forgotten_within units forgotten known i ≡ true
    → AreWithin units i (λ place r. tick_of (fvec forgotten place) r) ticks
forgotten_within units forgotten known ticks i has test u r small =
    subst (λ (t : ℕ). tick_of (fvec forgotten (At i)) r ≤ t) (has (At i) u r tt small)
    ((forgotten_within_decided units forgotten known i).0 test u r small)
