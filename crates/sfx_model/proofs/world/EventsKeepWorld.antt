use Rattle.std.proofs.Common.{List, [], ◌∷◌, Option, Some, None, IsSomeAnd, refl}
use Rattle.sfx_model.specs.world.World.{World, WellFormed}
use Rattle.sfx_model.specs.world.Events.{Event, Units, Widen, Join, Make, Clean, Forget, Apply, Learn, after, Legal, after_all, AllLegal, Deed, event_of, after_deed, after_deeds, AreLegalDeeds}
use Rattle.sfx_model.proofs.world.LearnKeepsWorld.{join_keeps, units_keeps}
use Rattle.sfx_model.proofs.world.ActsAreSteps.{acting_keeps}
use Rattle.sfx_model.proofs.world.WidenKeepsWorld.{widen_keeps}

pub event_keeps : (w : World) (e : Event) → WellFormed w → Legal w e → WellFormed (after w e)
event_keeps w (Units units) ok legal = units_keeps w units ok legal
event_keeps w (Widen more) ok legal = widen_keeps w more ok legal
event_keeps w (Join id) ok legal = join_keeps w id ok legal
event_keeps w (Make r i v contents) ok legal = acting_keeps w (Make r i v contents) r ok legal refl
event_keeps w (Clean r i v lo hi) ok legal = acting_keeps w (Clean r i v lo hi) r ok legal refl
event_keeps w (Forget r snapshot lo hi) ok legal = acting_keeps w (Forget r snapshot lo hi) r ok legal refl
event_keeps w (Apply r snapshot i v marks) ok legal = acting_keeps w (Apply r snapshot i v marks) r ok legal refl
event_keeps w (Learn r snapshot lo hi left) ok legal = acting_keeps w (Learn r snapshot lo hi left) r ok legal refl

pub events_keep : (w : World) (es : List Event) → WellFormed w → AllLegal w es → WellFormed (after_all w es)
events_keep w [] ok legal = ok
events_keep w (e ∷ es) ok legal = events_keep (after w e) es (event_keeps w e ok legal.0) legal.1

pub deed_keeps : (w : World) (o : Option Event) → WellFormed w → IsSomeAnd o (λ e. Legal w e) → WellFormed (after_deed w o)
deed_keeps w None ok legal = absurd legal
deed_keeps w (Some e) ok legal = event_keeps w e ok legal

pub deeds_keep : (w : World) (ds : List Deed) → WellFormed w → AreLegalDeeds w ds → WellFormed (after_deeds w ds)
deeds_keep w [] ok legal = ok
deeds_keep w (d ∷ ds) ok legal =
    deeds_keep (after_deed w (event_of w d)) ds (deed_keeps w (event_of w d) ok legal.0) legal.1
