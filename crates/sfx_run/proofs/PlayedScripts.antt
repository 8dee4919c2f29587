-- A script that is played from the beginning.
use Rattle.std.proofs.Common.{ℕ, List, take, inl, refl}
use Rattle.sfx_model.proofs.world.WrongWorldsRefused.{empty_well_formed}
use Rattle.sfx_model.proofs.members.StateContinues.{empty_stands}
use Rattle.sfx_model.specs.world.World.{World, WellFormed, empty_world}
use Rattle.sfx_script.specs.Script.{lines_of}
use Rattle.sfx_community.proofs.TurnsHappen.{turns_fit, turns_happen_lem, turns_not_ahead}
use Rattle.sfx_community.specs.History.{AllFit, AreNotAhead, AreOrderly, HasHappened, IsAllOf}
use Rattle.sfx_community.specs.State.{community_of}
use Rattle.sfx_community.specs.Turn.{empty_state}
use Rattle.sfx_run.specs.Run.{played, played_to}

-- the state at the start has no members
none_orderly : AreOrderly (community_of empty_state)
none_orderly m has = absurd has

-- what its lines do happens in every world which they fit
pub played_happens : (w : World) (count : ℕ) (script : List ℕ) → WellFormed w → AllFit w (played_to count script).deeds → HasHappened w empty_state (played_to count script)
played_happens w count script ok fit = turns_happen_lem w empty_state (take count (lines_of script)) ok (empty_stands w) none_orderly fit

-- they fit each world of which the state at the start is all, as the empty one,
pub played_fits : (w : World) (count : ℕ) (script : List ℕ) → WellFormed w → IsAllOf w (community_of empty_state) → AllFit w (played_to count script).deeds
played_fits w count script ok all = turns_fit w empty_state (take count (lines_of script)) ok (empty_stands w) all (inl none_orderly)

-- so that none of its sessions is refused because its source is ahead
pub played_not_ahead : (script : List ℕ) → AreNotAhead (played script).replies
played_not_ahead script =
    turns_not_ahead empty_world empty_state (lines_of script) empty_well_formed (empty_stands empty_world) none_orderly
    (turns_fit empty_world empty_state (lines_of script) empty_well_formed (empty_stands empty_world)
    (record { whole = λ s has. absurd has; units = refl }) (inl none_orderly))
