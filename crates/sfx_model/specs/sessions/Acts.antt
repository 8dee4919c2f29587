-- What is asked of a member that takes part in sessions, and what is said of events that it does one after
-- another.
use Rattle.std.specs.Prelude.{◌≡◌, ◌≢◌, ◌⊎◌, ℕ, ◌<◌, ◌≤◌, ◌^◌, true, false, List, IsSomeAnd}
use Rattle.sfx_ids.specs.declared.cut.Cut.{Cut}
use Rattle.sfx_ids.specs.declared.cut.Cut.TheVariants.{Start, At, End}
use Rattle.sfx_ids.specs.declared.item_id.ItemId.{ItemId}
use Rattle.sfx_ids.specs.Cut.{is_between}
use Rattle.sfx_ids.specs.Tick.{max_tick}
use Rattle.sfx_segments.specs.Segments.{IsPlace}
use Rattle.sfx_vector.specs.Clocks.{tick_of}
use Rattle.sfx_knowledge.specs.Knowledge.{IsKnowledge}
use Rattle.sfx_knowledge.specs.Forgotten.{AreForgets, fvec}
use Rattle.sfx_knowledge.specs.Skips.{is_skipped}
use Rattle.sfx_model.specs.declared.mode.Mode.TheVariants.{Normal, Recover}
use Rattle.sfx_model.specs.declared.mark.Mark.TheVariants.{Stays}
use Rattle.sfx_model.specs.world.Sets.{Has, IsPart}
use Rattle.sfx_model.specs.sessions.Batch.{BatchData, batch_from}
use Rattle.sfx_model.specs.members.Consistent.{AreApart}
use Rattle.sfx_model.specs.sessions.Deeds.{events_with, range_deeds, task_deeds}
use Rattle.sfx_model.specs.sessions.Draft.{DraftData, is_left}
use Rattle.sfx_model.specs.sessions.Entry.{Task, after_task, lacks, task_plan}
use Rattle.sfx_model.specs.world.Events.{Event, AllLegal, after_all, Deed, AreLegalDeeds, after_deeds, is_in, site_of, IsKnownHere}
use Rattle.sfx_model.specs.sessions.MemberKnowledge.{laid_known}
use Rattle.sfx_model.specs.members.Members.{Community, Member, NamedMember, AreAscending, shown, vector_at}
use Rattle.sfx_model.specs.members.Replica.{RepresentsReplica}
use Rattle.sfx_model.specs.members.Results.{BacksForgotten}
use Rattle.sfx_model.specs.sessions.Rules.{RulesData}
use Rattle.sfx_model.specs.sessions.Session.{after_range}
use Rattle.sfx_model.specs.members.StandsIn.{StateStandsIn}
use Rattle.sfx_model.specs.members.States.{IsDeedOf}
use Rattle.sfx_model.specs.world.Units.{at_unit}
use Rattle.sfx_model.specs.world.World.{Site, Snapshot, World, WellFormed}

-- The member is in its form: id and clock are in range, what it knows and has forgotten stands in its one
-- form, and its items are in order of their ids. Its live names may clash.
pub record IsInForm (units : ℕ) (m : Member) : Type 0 where
  pub id : m.id < 2 ^ 128
  pub clock : m.clock ≤ max_tick
  pub knowledge : IsKnowledge units m.knowledge
  pub forgotten : AreForgets m.forgotten
  pub ascending : AreAscending m.items

-- The lists of the member are in order: id and clock are in range, what it knows and has forgotten stands
-- in its one form, its items are in order of their ids, and its live names do not clash.
pub record IsOrderly (units : ℕ) (m : Member) : Type 0 where
  pub some : 1 ≤ units
  pub id : m.id < 2 ^ 128
  pub clock : m.clock ≤ max_tick
  pub knowledge : IsKnowledge units m.knowledge
  pub forgotten : AreForgets m.forgotten
  pub ascending : AreAscending m.items
  pub names : AreApart m.items

-- What comes with a batch beside its items: made-with knowledge in its one form, and the snapshot's
-- forgotten deletions in theirs.
pub record Supplies (w : World) (snapshot : Snapshot) (b : BatchData) : Type 0 where
  pub made_with : IsKnowledge w.units b.made_with
  pub forgotten : AreForgets b.forgotten
  pub same : BacksForgotten w snapshot Start End (λ place r. tick_of (fvec b.forgotten place) r)

-- The events may happen one after another in the world, and the world after them is well-formed; there the
-- replica with this id has a site that the member represents, and the member's lists are in order.
pub record AllActIn (w : World) (events : List Event) (r : ℕ) (m : Member) : Type 0 where
  pub legal : AllLegal w events
  pub well_formed : WellFormed (after_all w events)
  pub represents : RepresentsReplica (after_all w events) r (shown m)
  pub orderly : IsOrderly w.units m

-- The item is gone from both sides, no unit of it is left out, and what the snapshot has forgotten of it is
-- forgotten here, or will be, since the batch is one of a recovery.
pub record IsGone (s : Site) (snapshot : Snapshot) (b : BatchData) (left : List (ItemId × ℕ)) (i : ItemId) : Type 0 where
  pub here : s.present i ≡ false
  pub there : snapshot.present i ≡ false
  pub whole : (u : ℕ) → is_skipped left i u ≡ false
  pub forgotten : (b.mode ≡ Recover) ⊎ ((r : ℕ) → snapshot.forgotten (At i) r ≤ s.forgotten (At i) r)

-- The batch's range may be learned at the site, but for these units: each item of it is known here, or is
-- gone from both sides.
abbrev pub RangeFits : Site → Snapshot → BatchData → List (ItemId × ℕ) → Type 0
RangeFits s snapshot b left =
    (i : ItemId) → is_in b.from b.to i ≡ true → IsKnownHere s snapshot (is_skipped left) i ⊎ IsGone s snapshot b left i

-- The task's entry acts in the world: its deeds, with this snapshot, may happen, and the destination after it
-- represents its site.
abbrev pub EntryActs : World → Snapshot → BatchData → RulesData → Member → Task → Type 0
EntryActs w snapshot b rules m t =
    AllActIn w (events_with snapshot (task_deeds w.units b t (task_plan w.units rules b m t) m)) m.id
    (after_task w.units b t (task_plan w.units rules b m t) m)

-- The batch's range acts in the world so, but for these units.
abbrev pub RangeActs : World → Snapshot → BatchData → List (ItemId × ℕ) → Member → Type 0
RangeActs w snapshot b left m =
    AllActIn w (events_with snapshot (range_deeds b left m)) m.id (after_range w.units b left m)

-- Enough ticks are left for the task.
abbrev pub HasTicksLeft : World → BatchData → RulesData → Member → Task → Type 0
HasTicksLeft w b rules m t = lacks (task_plan w.units rules b m t) m.clock ≡ false

-- The site of the replica knows what the snapshot knows of the task's item, but for the units that the plan
-- leaves alone.
abbrev pub LearnsItem : World → ℕ → Snapshot → ItemId → DraftData → Type 0
LearnsItem w r snapshot i draft =
    IsSomeAnd (site_of w.sites r)
    (λ s. (u : ℕ) → is_left (at_unit draft.marks u Stays) ≡ false → IsPart (snapshot.known i u) (s.known i u))

-- The batch is the one that is due from the source to this destination, from its place on, in its mode, for
-- so many changes.
abbrev pub IsDue : ℕ → Member → Member → ℕ → BatchData → Type 0
IsDue units source m size b = b ≡ batch_from units source b.mode size (laid_known units m) b.from

-- In mode Normal the destination knows the batch's forgotten deletions at every place of the range and every
-- unit.
abbrev pub KnowsForgotten : ℕ → BatchData → Member → Type 0
KnowsForgotten units b m =
    (place : Cut) (u r : ℕ) → b.mode ≡ Normal → IsPlace place → is_between b.from b.to place ≡ true → u < units →
    tick_of (fvec b.forgotten place) r ≤ vector_at m place u r

-- The deeds may happen one after another in the world, each at the site of the replica with this id, and the
-- world after them is well-formed; there the source still represents its site, and so does the member at the
-- site of that replica, with its lists in order.
pub record DeedsActIn (w : World) (deeds : List Deed) (source : Member) (r : ℕ) (m : Member) : Type 0 where
  pub legal : AreLegalDeeds w deeds
  pub own : (d : Deed) → Has d deeds → IsDeedOf d r
  pub well_formed : WellFormed (after_deeds w deeds)
  pub stays : RepresentsReplica (after_deeds w deeds) source.id (shown source)
  pub represents : RepresentsReplica (after_deeds w deeds) r (shown m)
  pub orderly : IsOrderly w.units m

-- The same of a state: it stands in the world after the deeds.
pub record DeedsContinue (w : World) (deeds : List Deed) (c : Community) : Type 0 where
  pub legal : AreLegalDeeds w deeds
  pub well_formed : WellFormed (after_deeds w deeds)
  pub stands : StateStandsIn (after_deeds w deeds) c

-- The member is one of the state's.
abbrev pub IsMemberOf : Community → Member → Type 0
IsMemberOf c m = (x : NamedMember) × Has x c.members × (x.member ≡ m)

-- Source and destination take part in the well-formed world, whose items have this many units: they are two
-- of its replicas, and each represents its site.
pub record TakePart (w : World) (units : ℕ) (source m : Member) : Type 0 where
  pub units_are : w.units ≡ units
  pub well_formed : WellFormed w
  pub apart : source.id ≢ m.id
  pub source_stands : RepresentsReplica w source.id (shown source)
  pub stands : RepresentsReplica w m.id (shown m)

-- The batch brings to the destination what is due from the source, both of which take part in the world. In
-- mode Normal the destination knows the deletions that the batch has forgotten.
pub record Brings (w : World) (units : ℕ) (source m : Member) (b : BatchData) : Type 0 where
  pub part : TakePart w units source m
  pub form : IsInForm units source
  pub size : ℕ
  pub some : 1 ≤ size
  pub due : IsDue units source m size b
  pub knows : KnowsForgotten units b m
