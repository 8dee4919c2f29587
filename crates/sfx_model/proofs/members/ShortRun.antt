-- A short run from the empty world, and replicas that are new.
use Rattle.std.proofs.Common.{◌≡◌, ◌≢◌, ℕ, Bool, true, false, if◌then◌else◌, [], ◌∷◌, inl, inr, refl, sym, lit≤, lit<}
use Rattle.std.proofs.lemmas.Bool.{ne_eqb}
use Rattle.sfx_ids.specs.declared.cut.Cut.TheVariants.{Start}
use Rattle.sfx_ids.specs.Cut.{cut_le}
use Rattle.sfx_vector.specs.Clocks.{tick_of}
use Rattle.sfx_knowledge.specs.Row.{row_at}
use Rattle.sfx_knowledge.specs.Knowledge.{no_row}
use Rattle.sfx_knowledge.proofs.ForgottenLemmas.{none_forgotten}
use Rattle.sfx_item.specs.declared.cell.Cell.{Cell}
use Rattle.sfx_item.specs.Item.{Live}
use Rattle.sfx_model.specs.world.World.{World, WellFormed, empty_world}
use Rattle.sfx_model.specs.world.Events.{Event, Units, Join, Make, AllLegal, after}
use Rattle.sfx_model.specs.members.Members.{Community, Member}
use Rattle.sfx_model.specs.members.StandsIn.{StateStandsIn}
use Rattle.sfx_model.specs.members.States.{ChangesMember, Continues, IsNewState, created_contents, edited_contents}
use Rattle.sfx_model.specs.members.Examples.{fresh_member, run_item, run_version, run_records, run_events, run_world, run_community}
use Rattle.sfx_model.proofs.world.WrongWorldsRefused.{empty_well_formed}
use Rattle.sfx_model.proofs.members.StateContinues.{creation_continues, edit_continues, empty_stands, join_state, units_state}

-- ---- a replica that is new

nothing_known : (b : Bool) (u r : ℕ) → tick_of (row_at (if b then (record { base = []; others = [] }) else no_row) u) r ≡ 0
nothing_known true u r = refl
nothing_known false u r = refl

pub new_state : (id : ℕ) → IsNewState 2 id (fresh_member id)
new_state id = record {
  id_is = refl;
  clock = refl;
  knowledge = λ place u r inside small other. nothing_known (cut_le Start place) u r;
  forgotten = λ place r inside. none_forgotten place r;
  items = refl;
}

-- ---- the run

pub run_records_are : run_world.records ≡ run_records
run_records_are = refl

abbrev name_cell : Cell
name_cell = record { version = run_version 1; value = 110 ∷ 49 ∷ [] }

abbrev first_cell : Cell
first_cell = record { version = run_version 1; value = 120 ∷ [] }

-- The replica with its item as it was created, and afterwards.
abbrev creator : Member
creator = record (fresh_member 10) { clock = 1; items = record { id = run_item; state = Live (name_cell ∷ first_cell ∷ []) } ∷ [] }

abbrev editor : Member
editor = record (fresh_member 10) {
  clock = 2;
  knowledge = (Start, record { base = (10, 2) ∷ []; others = [] }) ∷ [];
  items =
      record {
        id = run_item;
        state = Live (name_cell ∷ record { version = run_version 2; value = 121 ∷ [] } ∷ []);
      }
      ∷ [];
}

abbrev run_state : Member → Community
run_state m = record { units = 2; members = record { name = 65 ∷ []; member = m } ∷ [] }

changes : (m n : Member) → ChangesMember m n (run_state m) (run_state n)
changes m n = record { front = []; name = 65 ∷ []; back = []; units = refl; before = refl; now = refl }

-- Its own entry is all that it stores.
own_entry :
    (b : Bool) (u r : ℕ) → r ≢ 10
    → tick_of (row_at (if b then (record { base = (10, 2) ∷ []; others = [] }) else no_row) u) r
    ≡ tick_of (row_at (if b then (record { base = []; others = [] }) else no_row) u) r
own_entry true u r other = rw (ne_eqb 10 r (λ e. other (sym e))) refl
own_entry false u r other = refl

abbrev said : World
said = after empty_world (Units 2)

abbrev joined : World
joined = after said (Join 10)

abbrev creating : Event
creating = Make 10 run_item (run_version 1) (created_contents ((110 ∷ 49 ∷ []) ∷ (120 ∷ []) ∷ []))

says : Continues empty_world (Units 2) (record { units = 2; members = [] })
says = units_state empty_world (record { units = 0; members = [] }) 2 empty_well_formed (empty_stands empty_world) (inr (inl refl)) (inl refl)

joins : Continues said (Join 10) (run_state (fresh_member 10))
joins =
    join_state said (record { units = 2; members = [] }) (65 ∷ []) 10 (fresh_member 10) says.well_formed says.stands (lit≤ tt)
    (λ s has. absurd has) (new_state 10)

creates : Continues joined creating (run_state creator)
creates =
    creation_continues joined (run_state (fresh_member 10)) (run_state creator) (fresh_member 10) creator ((110 ∷ 49 ∷ []) ∷ (120 ∷ []) ∷ [])
    joins.well_formed joins.stands (changes (fresh_member 10) creator) (lit< tt) refl
    (record { id = refl; clock = refl; knowledge = λ place u r inside small other. refl; forgotten = refl; holds = refl })

edits : Continues (after joined creating) (Make 10 run_item (run_version 2) (edited_contents 1 (121 ∷ []))) run_community
edits =
    edit_continues (after joined creating) (run_state creator) run_community creator editor run_item 1 (121 ∷ []) (name_cell ∷ first_cell ∷ [])
    creates.well_formed creates.stands (changes creator editor) (lit< tt) (lit< tt) refl
    (record {
      id = refl;
      clock = refl;
      knowledge = λ place u r inside small other. own_entry (cut_le Start place) u r other;
      forgotten = refl;
      holds = refl;
    })

pub run_legal : AllLegal empty_world run_events
run_legal = (says.legal, (joins.legal, (creates.legal, (edits.legal, tt))))

pub run_well_formed : WellFormed run_world
run_well_formed = edits.well_formed

pub run_stands : StateStandsIn run_world run_community
run_stands = edits.stands
