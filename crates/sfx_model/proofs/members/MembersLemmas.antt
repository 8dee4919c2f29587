-- The own clock laid over vectors, and what a change of one item leaves of the others.
use Rattle.std.proofs.Common.{◌≡◌, ◌≢◌, ℕ, ◌<◌, ◌≤◌, max, ◌⊎◌, ◌↔◌, ◌∙◌, Bool, true, false, List, ◌++◌, Option, Some, None, inl, inr, refl, sym, subst, arith}
use Rattle.std.proofs.lemmas.Option.{slice_get_within}
use Rattle.std.proofs.lemmas.Bool.{cases_lt, eq-eqb, ne_eqb}
use Rattle.sfx_ids.specs.declared.cut.Cut.{Cut}
use Rattle.sfx_ids.specs.declared.item_id.ItemId.{ItemId}
use Rattle.sfx_ids.specs.declared.version.Version.{Version}
use Rattle.sfx_segments.specs.Segments.{IsPlace}
use Rattle.sfx_item.specs.declared.cell.Cell.{Cell}
use Rattle.sfx_knowledge.specs.Knowledge.{laid_over}
use Rattle.sfx_model.specs.world.Sets.{Has}
use Rattle.sfx_model.specs.world.World.{Record, Site, Holding, holding}
use Rattle.sfx_model.specs.world.Events.{same_item}
use Rattle.sfx_item.specs.Item.{ItemState, Live, Dead}
use Rattle.sfx_model.specs.members.Members.{Shown, ItemRepresents, IsLatestState, IsLatestCell, state_of}
use Rattle.sfx_model.specs.members.Results.{SameVectors, KeepsOthers}
use Rattle.sfx_model.proofs.world.Step.{AreSame, Grows}
use Rattle.sfx_model.proofs.world.SetsLemmas.{has_left, has_right, has_either}
use Rattle.sfx_model.proofs.world.WorldLemmas.{latest_stays, dead_at_stays}
use Rattle.sfx_model.proofs.world.StepKeepsWorld.{same_item_is}
use Rattle.sfx_model.proofs.members.OthersStand.{item_on}

-- The own entry of knowledge with the own clock laid over it.
pub own_entry :
    (units : ℕ) (m : Shown) (vectors : Cut → ℕ → ℕ → ℕ) (own : ℕ) (place : Cut) (u : ℕ)
    → SameVectors units m.vector_at (laid_over m.id m.clock vectors) → own ≡ m.id → IsPlace place → u < units
    → m.vector_at place u own ≡ m.clock
own_entry units m vectors own place u same is there small = same place u own there small ∙ (rw (eq-eqb own m.id is) refl)

-- Every other entry is as it was.
pub other_entry :
    (units : ℕ) (m : Shown) (vectors : Cut → ℕ → ℕ → ℕ) (place : Cut) (u r : ℕ)
    → SameVectors units m.vector_at (laid_over m.id m.clock vectors) → r ≢ m.id → IsPlace place → u < units
    → m.vector_at place u r ≡ vectors place u r
other_entry units m vectors place u r same other there small = same place u r there small ∙ (rw (ne_eqb r m.id other) refl)

-- Whether a member has an item as a site has it depends on what the site knows of it and on its presence.
pub item_as :
    (units : ℕ) (rs : List Record) (i : ItemId) (h k : Holding) (o : Option ItemState)
    → k.known ≡ h.known → k.present ≡ h.present → ItemRepresents units rs i h o → ItemRepresents units rs i k o
item_as units rs i h k None known present is = present ∙ is
item_as units rs i h k (Some state) known present is = record {
  is_present = present ∙ is.is_present;
  latest = subst (λ (vs : ℕ → List Version). IsLatestState units rs i vs state) (sym known) is.latest;
}

-- Where one item changed and the site has each other one as before, the member has all of them.
pub items_after :
    (units : ℕ) (rs qs : List Record) (i : ItemId) (s new : Site) (m n : Shown)
    → Grows rs qs → ((j : ItemId) → ItemRepresents units rs j (holding s j) (state_of m.items j)) → KeepsOthers i m n
    → ((j : ItemId) → same_item j i ≡ false → (new.known j ≡ s.known j) × (new.present j ≡ s.present j))
    → ItemRepresents units qs i (holding new i) (state_of n.items i) → (j : ItemId)
    → ItemRepresents units qs j (holding new j) (state_of n.items j)
items_after units rs qs i s new m n g before keeps as_before here j = by_test (same_item j i) refl
  where
    by_test : (b : Bool) → same_item j i ≡ b → ItemRepresents units qs j (holding new j) (state_of n.items j)
    by_test true e = subst (λ (k : ItemId). ItemRepresents units qs k (holding new k) (state_of n.items k))
        (sym (same_item_is j i e)) here
    by_test false e =
        let stays : ItemRepresents units qs j (holding s j) (state_of m.items j) =
        item_on units rs qs j (holding s j) (state_of m.items j) g (before j) in
        let (known, present) = as_before j e in
        item_as units qs j (holding s j) (holding new j) (state_of n.items j) known present
        (subst (λ (o : Option ItemState). ItemRepresents units qs j (holding s j) o) (sym (keeps j e)) stays)

-- A cell stays the latest among the same known versions while records only come.
pub cell_same :
    (rs qs : List Record) (i : ItemId) (u : ℕ) (vs ws : List Version) (c : Cell)
    → Grows rs qs → AreSame vs ws → IsLatestCell rs i u vs c → IsLatestCell qs i u ws c
cell_same rs qs i u vs ws c g same is = record {
  latest = latest_stays rs qs i u vs ws c.version g same is.latest;
  value = (is.value.0, g.kept is.value.0 is.value.1, is.value.2, is.value.3);
}

-- A member has an item as before where the same versions of its units are known, it is present as before,
-- and records only come.
pub item_same :
    (units : ℕ) (rs qs : List Record) (i : ItemId) (h k : Holding) (o : Option ItemState)
    → Grows rs qs → ((u : ℕ) → u < units → AreSame (h.known u) (k.known u)) → k.present ≡ h.present
    → ItemRepresents units rs i h o → ItemRepresents units qs i k o
item_same units rs qs i h k None g same present is = present ∙ is
item_same units rs qs i h k (Some (Live cells)) g same present is = record {
  is_present = present ∙ is.is_present;
  latest = record {
    whole = is.latest.whole;
    each = λ u c here. cell_same rs qs i u (h.known u) (k.known u) c g
        (same u (omega (arith, slice_get_within cells u c here, is.latest.whole))) (is.latest.each u c here);
  };
}
item_same units rs qs i h k (Some (Dead v)) g same present is = record {
  is_present = present ∙ is.is_present;
  latest = dead_at_stays rs qs i units h.known k.known v g same is.latest;
}

-- A joined tick contains what one of both contains.
pub contained_joined : (t a b : ℕ) → (t ≤ max a b) ↔ ((t ≤ a) ⊎ (t ≤ b))
contained_joined t a b = (
  (λ h. elim (cases_lt a t) [ inl less ↦ inr (omega arith) | inr low ↦ inl low ]),
  (λ h. elim h [ inl low ↦ omega arith | inr low ↦ omega arith ]),
)

-- A join of knowledge is exact for a joined list, where each is exact for its own.
pub exact_joined :
    (v : Version) (a b : ℕ) (here seen : List Version)
    → ((v.tick ≤ a) ↔ Has v here) → ((v.tick ≤ b) ↔ Has v seen) → (v.tick ≤ max a b) ↔ Has v (here ++ seen)
exact_joined v a b here seen exact_a exact_b = (
  (λ h. elim ((contained_joined v.tick a b).0 h)
      [ inl low ↦ has_left v here seen (exact_a.0 low) | inr low ↦ has_right v here seen (exact_b.0 low) ]),
  (λ h. (contained_joined v.tick a b).1
      (elim (has_either v here seen h) [ inl l ↦ inl (exact_a.1 l) | inr r ↦ inr (exact_b.1 r) ])),
)
