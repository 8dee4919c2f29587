-- What a script does in the world.
use Rattle.std.specs.Prelude.{◌≡◌, ◌≢◌, ℕ, Bool, true, false, List, [], ◌∷◌}
use Rattle.std.specs.List.{list_any}
use Rattle.sfx_model.specs.sessions.Acts.{IsOrderly}
use Rattle.sfx_model.specs.world.Events.{Event, Units, Join, Deed, Own, after_deed, after_deeds, event_of, AreLegalDeeds, IsNewId}
use Rattle.sfx_model.specs.members.Headline.{FactsHold}
use Rattle.sfx_model.specs.members.Members.{Community, NamedMember}
use Rattle.sfx_model.specs.members.StandsIn.{AreDisjoint, HasNoOtherUnits, IsWhole, StateStandsIn}
use Rattle.sfx_model.specs.world.Sets.{Has}
use Rattle.sfx_model.specs.world.World.{World, WellFormed}
use Rattle.sfx_session.specs.declared.session_fault.SessionFault.TheVariants.{Ahead}
use Rattle.sfx_reply.specs.declared.reason.Reason.TheVariants.{Session}
use Rattle.sfx_reply.specs.declared.reply.Reply.{Reply}
use Rattle.sfx_reply.specs.declared.reply.Reply.TheVariants.{Synced, Refused}
use Rattle.sfx_community.specs.State.{State, community_of}
use Rattle.sfx_community.specs.Turn.{Turns}

-- The lists of each member of the state are in order, as those of the program's replicas are at any time.
abbrev pub AreOrderly : Community → Type 0
AreOrderly c = (m : NamedMember) → Has m c.members → IsOrderly c.units m.member

-- The reply tells what a session did.
abbrev pub is_of_session : Reply → Bool
is_of_session (Synced text end) = true
is_of_session reply = false

-- Some line ran a session.
abbrev pub has_session : List Reply → Bool
has_session replies = list_any is_of_session replies

-- The reply does not refuse a session because its source is ahead of its destination.
abbrev pub IsNotAhead : Reply → Type 0
IsNotAhead reply = (tick clock : ℕ) → reply ≢ Refused (Session (Ahead tick clock))

-- None of the replies does.
abbrev pub AreNotAhead : List Reply → Type 0
AreNotAhead replies = (reply : Reply) → Has reply replies → IsNotAhead reply

-- What the event says of the whole community fits the world: a unit count is the world's, where it has one,
-- and a replica joins under an id that no other has.
abbrev pub Fits : World → Event → Type 0
Fits w (Units units) = HasNoOtherUnits w units
Fits w (Join id) = IsNewId w id
Fits w event = Unit {0}

-- So does what the deed says.
abbrev pub DeedFits : World → Deed → Type 0
DeedFits w (Own event) = Fits w event
DeedFits w deed = Unit {0}

-- Each deed fits the world in which its turn comes.
abbrev pub AllFit : World → List Deed → Type 0
AllFit w [] = Unit {0}
AllFit w (d ∷ ds) = DeedFits w d × AllFit (after_deed w (event_of w d)) ds

-- The state is all of the world: each replica has a member, and the unit counts are the same.
pub record IsAllOf (w : World) (c : Community) : Type 0 where
  pub whole : IsWhole w c
  pub units : c.units ≡ w.units

-- What a script did from this state happened in the world. Its deeds were legal, one after another; the
-- world after them is well-formed, and the state afterwards stands there. Each state that stood in the world
-- and shares no replica with this one, as that of another machine, stands on. The three facts hold before
-- and afterwards: knowledge is exact, equal knowledge means equal items, and deletions are respected.
pub record HasHappened (w : World) (s : State) (t : Turns) : Type 0 where
  pub legal : AreLegalDeeds w t.deeds
  pub well_formed : WellFormed (after_deeds w t.deeds)
  pub stands : StateStandsIn (after_deeds w t.deeds) (community_of t.state)
  pub elsewhere : (c : Community) → StateStandsIn w c → AreDisjoint c (community_of s)
      → StateStandsIn (after_deeds w t.deeds) c
  pub facts_before : FactsHold w (community_of s)
  pub facts_afterwards : FactsHold (after_deeds w t.deeds) (community_of t.state)
