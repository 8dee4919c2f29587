-- What a line of a script does to a state: a unit count said, a replica added, an item created, edited or
-- deleted.
use Rattle.std.proofs.Common.{◌≡◌, ℕ, ◌<◌, ◌≤◌, List, [], ◌∷◌, length, Some, inl, inr, refl, sym, ◌∙◌, ap, subst, arith}
use Rattle.std.proofs.lemmas.Bool.{eq-eqb, ne_eqb, cases_eq}
use Rattle.sfx_ids.specs.declared.item_id.ItemId.{ItemId}
use Rattle.sfx_ids.specs.Tick.{max_tick}
use Rattle.sfx_item.specs.declared.cell.Cell.{Cell}
use Rattle.sfx_model.specs.world.Sets.{Has}
use Rattle.sfx_model.specs.world.World.{World, Site, WellFormed}
use Rattle.sfx_model.specs.world.Events.{Event, Units, Join, Make, after, Legal, IsNewId}
use Rattle.sfx_item.specs.Item.{Live, Dead}
use Rattle.sfx_model.specs.members.Members.{Member, NamedMember, Community, AreAscending, shown, state_of}
use Rattle.sfx_model.specs.members.Replica.{IsNewMember, IsOfOthers, RepresentsReplica, ActsIn}
use Rattle.sfx_model.specs.members.StandsIn.{HasNoOtherUnits, StandsIn, StateStandsIn}
use Rattle.sfx_model.specs.members.States.{with_added, Continues, ChangesMember, IsOf, Rises, with_item, with_state, next_created, cells_with, IsNewState, next_version, next_item, created_contents, edited_contents, deleted_contents}
use Rattle.sfx_model.specs.world.Units.{IsUnitCount}
use Rattle.sfx_model.proofs.world.EventsKeepWorld.{event_keeps}
use Rattle.sfx_model.proofs.world.SetsLemmas.{has_either}
use Rattle.sfx_model.proofs.world.SiteLemmas.{found}
use Rattle.sfx_model.proofs.members.ReplicasStand.{others_stand, joined_stands}
use Rattle.sfx_model.proofs.members.StateStands.{changing_has, changing_stands, counted, event_state}
use Rattle.sfx_model.proofs.members.StatesPart.{apart_append}
use Rattle.sfx_model.proofs.members.EditsAct.{created_acts, edited_acts, deleted_acts}

-- The state before anything is said stands in every world.
pub empty_stands : (w : World) → StateStandsIn w (record { units = 0; members = [] })
empty_stands w = record { units = inr (refl, refl); apart = tt; members = λ m has. absurd has }

-- A well-formed world without units has no sites.
no_sites : (w : World) (ss : List Site) → ((s : Site) → Has s ss → 1 ≤ w.units) → w.units ≡ 0 → ss ≡ []
no_sites w [] counted unsaid = refl
no_sites w (s ∷ ss) counted unsaid = let some = counted s (inl refl) in absurd (omega (arith, unsaid))

-- A member stands on through an event of others.
pub stands_on : (w : World) (e : Event) (m : Member) → WellFormed w → Legal w e → IsOfOthers e m.id → StandsIn w m → StandsIn (after w e) m
stands_on w e m ok legal other stands = record {
  represents = others_stand w e m.id (shown m) ok legal other stands.represents;
  ascending = stands.ascending;
}

-- The unit count is said, or said again.
pub units_state :
    (w : World) (c : Community) (units : ℕ)
    → WellFormed w → StateStandsIn w c → IsUnitCount units → HasNoOtherUnits w units
    → Continues w (Units units) (record { units = units; members = c.members })
units_state w c units ok stands count fits =
    let legal : Legal w (Units units) = record {
      count = count;
      said = elim fits [
        | inl unsaid ↦ inl (unsaid, no_sites w w.sites ok.counted unsaid)
        | inr same ↦ inr same
      ];
    } in
    record {
      legal = legal;
      well_formed = event_keeps w (Units units) ok legal;
      stands = record {
        units = inl refl;
        apart = stands.apart;
        members = λ m has. stands_on w (Units units) m.member ok legal tt (stands.members m has);
      };
    }

-- What a new state shows.
new_shown : (units id : ℕ) (m : Member) → IsNewState units id m → IsNewMember units id (shown m)
new_shown units id m new = record {
  id_is = new.id_is;
  clock = new.clock;
  vectors = λ place u r there small. elim (cases_eq r m.id) [
    | inl own ↦ rw (eq-eqb r m.id own) new.clock
    | inr other ↦ rw (ne_eqb r m.id other) (new.knowledge place u r there small (λ e. other (e ∙ sym new.id_is)))
  ];
  forgotten = new.forgotten;
  items = new.items;
}

-- A replica is added.
pub join_state :
    (w : World) (c : Community) (name : List ℕ) (id : ℕ) (m : Member)
    → WellFormed w → StateStandsIn w c → 1 ≤ c.units → IsNewId w id → IsNewState c.units id m
    → Continues w (Join id) (with_added name m c)
join_state w c name id m ok stands said new_id new =
    let count : c.units ≡ w.units = elim stands.units [
      | inl same ↦ same
      | inr none ↦ let zero = none.0 in absurd (omega arith)
    ] in
    let legal : Legal w (Join id) = record { said = omega (arith, count); new_id = new_id } in
    let added : StandsIn (after w (Join id)) m = record {
      represents = subst (λ (r : ℕ). RepresentsReplica (after w (Join id)) r (shown m)) (sym new.id_is)
          (joined_stands w id (shown m) ok legal
          (new_shown w.units id m (subst (λ (x : ℕ). IsNewState x id m) count new)));
      ascending = subst AreAscending (sym new.items) tt;
    } in
    record {
      legal = legal;
      well_formed = event_keeps w (Join id) ok legal;
      stands = record {
        units = inl count;
        apart = apart_append c.members (record { name = name; member = m } ∷ []) stands.apart (λ x has. absurd has, tt)
            (λ x y has there same. elim there [
              | inl is ↦
                  let (s, at, rep) = (stands.members x has).represents in
                  let site = found w.sites x.member.id s at in
                  new_id s site.0 (site.1 ∙ sym same ∙ ap (λ (z : NamedMember). z.member.id) is ∙ new.id_is)
              | inr none ↦ none
            ]);
        members = λ x has. elim (has_either x c.members (record { name = name; member = m } ∷ []) has) [
          | inl old ↦ stands_on w (Join id) x.member ok legal tt (stands.members x old)
          | inr there ↦ elim there [
            | inl is ↦ subst (λ (z : NamedMember). StandsIn (after w (Join id)) z.member) (sym is) added
            | inr none ↦ absurd none
          ]
        ];
      };
    }

-- What a replica did at its own site, as a change of the state.
acts_state :
    (w : World) (e : Event) (c d : Community) (m n : Member)
    → WellFormed w → StateStandsIn w c → ChangesMember m n c d → IsOf e m.id → ActsIn w e m.id n
    → Continues w e d
acts_state w e c d m n ok stands changes is acts = record {
  legal = acts.legal;
  well_formed = acts.well_formed;
  stands = event_state w e c d m n ok stands acts.legal is changes acts.ascending acts.represents;
}

-- A state of which a member changes has the unit count of its world.
pub changing_count : (w : World) (c d : Community) (m n : Member) → StateStandsIn w c → ChangesMember m n c d → c.units ≡ w.units
changing_count w c d m n stands changes =
    counted w c (record { name = changes.name; member = m }) stands (changing_has c d m n changes)

-- A creation, an edit and a deletion, by the lists of items.
pub creation_continues :
    (w : World) (c d : Community) (m n : Member) (values : List (List ℕ))
    → WellFormed w → StateStandsIn w c → ChangesMember m n c d → m.clock < max_tick → length values ≡ c.units
    → Rises c.units m n (with_item (next_created m values) m.items)
    → Continues w (Make m.id (next_item m) (next_version m) (created_contents values)) d
creation_continues w c d m n values ok stands changes room whole rises =
    let count = changing_count w c d m n stands changes in
    let here = changing_stands w c d m n stands changes in
    acts_state w (Make m.id (next_item m) (next_version m) (created_contents values)) c d m n ok stands changes refl
    (created_acts w m n values ok here.represents here.ascending room (whole ∙ count)
    (subst (λ (x : ℕ). Rises x m n (with_item (next_created m values) m.items)) count rises))

pub edit_continues :
    (w : World) (c d : Community) (m n : Member) (i : ItemId) (unit : ℕ) (value : List ℕ) (cells : List Cell)
    → WellFormed w → StateStandsIn w c → ChangesMember m n c d → m.clock < max_tick → unit < c.units
    → state_of m.items i ≡ Some (Live cells) → Rises c.units m n (with_state i (Live (cells_with m cells unit value)) m.items)
    → Continues w (Make m.id i (next_version m) (edited_contents unit value)) d
edit_continues w c d m n i unit value cells ok stands changes room small live rises =
    let count = changing_count w c d m n stands changes in
    let here = changing_stands w c d m n stands changes in
    acts_state w (Make m.id i (next_version m) (edited_contents unit value)) c d m n ok stands changes refl
    (edited_acts w m n i unit value cells ok here.represents here.ascending room
    (subst (λ (x : ℕ). unit < x) count small) live
    (subst (λ (x : ℕ). Rises x m n (with_state i (Live (cells_with m cells unit value)) m.items)) count rises))

pub deletion_continues :
    (w : World) (c d : Community) (m n : Member) (i : ItemId) (cells : List Cell)
    → WellFormed w → StateStandsIn w c → ChangesMember m n c d → m.clock < max_tick
    → state_of m.items i ≡ Some (Live cells) → Rises c.units m n (with_state i (Dead (next_version m)) m.items)
    → Continues w (Make m.id i (next_version m) (deleted_contents c.units)) d
deletion_continues w c d m n i cells ok stands changes room live rises =
    let count = changing_count w c d m n stands changes in
    let here = changing_stands w c d m n stands changes in
    acts_state w (Make m.id i (next_version m) (deleted_contents c.units)) c d m n ok stands changes refl
    (subst (λ (x : ℕ). ActsIn w (Make m.id i (next_version m) (deleted_contents x)) m.id n) (sym count)
    (deleted_acts w m n i cells ok here.represents here.ascending room live
    (subst (λ (x : ℕ). Rises x m n (with_state i (Dead (next_version m)) m.items)) count rises)))
