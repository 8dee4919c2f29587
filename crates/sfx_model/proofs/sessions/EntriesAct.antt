-- What entries and ranges do, in the words of the laws.
use Rattle.std.proofs.Common.{◌≡◌, ℕ, false, true≢false, List, [], ◌∷◌, ◌++◌, Option, Some, None, IsSomeAnd, inr, refl, sym, subst}
use Rattle.std.proofs.lemmas.List.{map-append}
use Rattle.sfx_ids.specs.declared.item_id.ItemId.{ItemId}
use Rattle.sfx_ids.specs.declared.version.Version.{Version}
use Rattle.sfx_knowledge.specs.Knowledge.{tick_at}
use Rattle.sfx_model.specs.declared.clash_rule.ClashRule.{ClashRule}
use Rattle.sfx_model.specs.declared.mark.Mark.{Mark}
use Rattle.sfx_model.specs.declared.mark.Mark.TheVariants.{Stays, Taken, Stamped, Left, Gone}
use Rattle.sfx_model.specs.declared.mode.Mode.{Mode}
use Rattle.sfx_model.specs.declared.mode.Mode.TheVariants.{Normal, Recover}
use Rattle.sfx_model.specs.world.Sets.{Has, IsPart}
use Rattle.sfx_model.specs.world.World.{Content, World, Site, Snapshot, WellFormed, IsSound}
use Rattle.sfx_model.specs.world.Events.{Event, Deed, Apply, ApplyFrom, AllLegal, after, after_all, site_of, site_applied, applied, known_with, known_by, content_of, seen_by}
use Rattle.sfx_model.specs.sessions.Acts.{IsOrderly, Supplies, AllActIn, RangeFits, EntryActs, RangeActs, HasTicksLeft, LearnsItem}
use Rattle.sfx_model.specs.sessions.Batch.{BatchData}
use Rattle.sfx_model.specs.sessions.Deeds.{mark_with, marks_in, content_in, others_deeds, forget_deeds, changed_first, task_deeds, events_with, range_deeds}
use Rattle.sfx_model.specs.sessions.Draft.{DraftData, is_left}
use Rattle.sfx_model.specs.sessions.Entry.{Task, Unlisted, Change, Changing, change_other, task_item, task_plan}
use Rattle.sfx_model.specs.sessions.Clashes.{Plan}
use Rattle.sfx_item.specs.Item.{ItemData, ItemState}
use Rattle.sfx_model.specs.members.Members.{Member, shown, state_of}
use Rattle.sfx_model.specs.members.Replica.{RepresentsReplica}
use Rattle.sfx_model.specs.members.Results.{BacksRange}
use Rattle.sfx_model.specs.sessions.Rules.{RulesData}
use Rattle.sfx_model.specs.members.Snapshots.{Carried}
use Rattle.sfx_model.specs.members.States.{next_version}
use Rattle.sfx_model.specs.world.Units.{at_unit}
use Rattle.sfx_model.proofs.world.SetsLemmas.{has_right}
use Rattle.sfx_model.proofs.world.StepKeepsWorld.{same_item_self}
use Rattle.sfx_model.proofs.members.ReplicasStand.{own_found}
use Rattle.sfx_model.proofs.members.OwnEvents.{AllOf, of_append, after_append, all_leave, event_leaves}
use Rattle.sfx_model.proofs.sessions.TaskActs.{TaskActs, task_acts}
use Rattle.sfx_model.proofs.sessions.RangeActs.{range_acts}

-- The events of a task or a range, in the words of the laws.
pub all_act : (w : World) (es : List Event) (m n : Member) → WellFormed w → TaskActs w es m n → AllActIn w es m.id n
all_act w es m n ok acts = record {
  legal = acts.legal;
  well_formed = (all_leave w es m.id ok acts.legal acts.of).ok;
  represents = acts.stands;
  orderly = acts.orderly;
}

pub change_acts :
    (w : World) (snapshot : Snapshot) (b : BatchData) (rules : RulesData) (m : Member) (item : ItemData)
    → WellFormed w → RepresentsReplica w m.id (shown m) → IsOrderly w.units m → Supplies w snapshot b
    → Carried w snapshot item.id (tick_at b.made_with) (Some item.state) → HasTicksLeft w b rules m (Change item)
    → EntryActs w snapshot b rules m (Change item)
change_acts w snapshot b rules m item ok stands orderly supplies carried enough =
    all_act w (events_with snapshot (task_deeds w.units b (Change item) (task_plan w.units rules b m (Change item)) m)) m _ ok
    (task_acts w snapshot b rules m (Change item) ok stands orderly supplies carried enough)

pub unlisted_acts :
    (w : World) (snapshot : Snapshot) (b : BatchData) (rules : RulesData) (m : Member) (i : ItemId) (local : ItemState)
    → WellFormed w → RepresentsReplica w m.id (shown m) → IsOrderly w.units m → Supplies w snapshot b
    → Carried w snapshot i (tick_at b.made_with) None → b.mode ≡ Recover → state_of m.items i ≡ Some local
    → HasTicksLeft w b rules m (Unlisted i) → EntryActs w snapshot b rules m (Unlisted i)
unlisted_acts w snapshot b rules m i local ok stands orderly supplies carried mode is enough =
    all_act w (events_with snapshot (task_deeds w.units b (Unlisted i) (task_plan w.units rules b m (Unlisted i)) m)) m _ ok
    (task_acts w snapshot b rules m (Unlisted i) ok stands orderly supplies (carried, mode, local, is) enough)

pub learned_range_acts :
    (w : World) (snapshot : Snapshot) (b : BatchData) (left : List (ItemId × ℕ)) (m : Member)
    → WellFormed w → RepresentsReplica w m.id (shown m) → IsOrderly w.units m → Supplies w snapshot b
    → IsSound w snapshot → BacksRange w snapshot b.from b.to (tick_at b.made_with)
    → IsSomeAnd (site_of w.sites m.id) (λ s. RangeFits s snapshot b left) → RangeActs w snapshot b left m
learned_range_acts w snapshot b left m ok (s, at, rep) orderly supplies sound backs fits =
    all_act w (events_with snapshot (range_deeds b left m)) m _ ok
    (range_acts w s snapshot b left m ok at rep orderly supplies sound backs
    (subst (λ (o : Option Site). IsSomeAnd o (λ t. RangeFits t snapshot b left)) at fits))

-- ---- what an entry learns

legal_parts : (w : World) (es fs : List Event) → AllLegal w (es ++ fs) → AllLegal w es × AllLegal (after_all w es) fs
legal_parts w [] fs legal = (tt, legal)
legal_parts w (e ∷ es) fs legal = let (first, rest) = legal_parts (after w e) es fs legal.1 in ((legal.0, first), rest)

of_parts : (es fs : List Event) (r : ℕ) → AllOf (es ++ fs) r → AllOf es r × AllOf fs r
of_parts [] fs r of = (tt, of)
of_parts (e ∷ es) fs r of = let (first, rest) = of_parts es fs r of.1 in ((of.0, first), rest)

-- A unit that is not left alone is learned.
mark_learns :
    (k : Mark) (c : Content) (v x : Version) (seen here : List Version)
    → is_left k ≡ false → Has x seen → Has x (known_with v (known_by (mark_with k c) seen here) (content_of (mark_with k c)))
mark_learns Stays c v x seen here e has = has_right x here seen has
mark_learns Taken c v x seen here e has = has_right x here seen has
mark_learns Stamped c v x seen here e has = inr (has_right x here seen has)
mark_learns Left c v x seen here e has = absurd (true≢false e)
mark_learns Gone c v x seen here e has = has_right x here seen has

applied_learns :
    (w : World) (r : ℕ) (s : Site) (snapshot : Snapshot) (i : ItemId) (v : Version) (d : DraftData)
    → site_of w.sites r ≡ Some s
    → (t : Site) × (site_of (after w (Apply r snapshot i v (marks_in d))).sites r ≡ Some t)
    × ((u : ℕ) → is_left (at_unit d.marks u Stays) ≡ false → IsPart (snapshot.known i u) (t.known i u))
applied_learns w r s snapshot i v d at = (
  site_applied w.units s snapshot i v (marks_in d),
  subst (λ (x : World). site_of x.sites r ≡ Some (site_applied w.units s snapshot i v (marks_in d))) (sym is)
      (own_found w r s (site_applied w.units s snapshot i v (marks_in d)) at refl),
  λ u e x has.
      rw (same_item_self i) (mark_learns (at_unit d.marks u Stays) (content_in d.values u) v x (snapshot.known i u) (s.known i u) e has),
)
  where
    is : after w (Apply r snapshot i v (marks_in d)) ≡ applied w s snapshot i v (marks_in d)
    is = rw at refl

-- The site that is found after such events knows what the entry learned.
pub events_learn :
    (w : World) (fs gs : List Event) (r : ℕ) (snapshot : Snapshot) (i : ItemId) (v : Version) (d : DraftData)
    → WellFormed w → AllLegal w (fs ++ (Apply r snapshot i v (marks_in d) ∷ gs)) → AllOf (fs ++ (Apply r snapshot i v (marks_in d) ∷ gs)) r
    → (s : Site) → site_of w.sites r ≡ Some s
    → LearnsItem (after_all w (fs ++ (Apply r snapshot i v (marks_in d) ∷ gs))) r snapshot i d
events_learn w fs gs r snapshot i v d ok legal of s at =
    let e : Event = Apply r snapshot i v (marks_in d) in
    let (legal_first, legal_rest) = legal_parts w fs (Apply r snapshot i v (marks_in d) ∷ gs) legal in
    let (of_first, of_rest) = of_parts fs (Apply r snapshot i v (marks_in d) ∷ gs) r of in
    let first = all_leave w fs r ok legal_first of_first in
    let (t, at_t, more) = first.knows.grows s at in
    let (q, at_q, learns) = applied_learns (after_all w fs) r t snapshot i v d at_t in
    let step = event_leaves (after_all w fs) (Apply r snapshot i v (marks_in d)) r first.ok legal_rest.0 of_rest.0 in
    let rest = all_leave (after (after_all w fs) (Apply r snapshot i v (marks_in d))) gs r step.ok legal_rest.1 of_rest.1 in
    let (z, at_z, most) = rest.knows.grows q at_q in
    subst (λ (x : World). LearnsItem x r snapshot i d) (sym (after_append w fs (Apply r snapshot i v (marks_in d) ∷ gs)))
    (subst (λ (o : Option Site). IsSomeAnd o (λ y. (u : ℕ) → is_left (at_unit d.marks u Stays) ≡ false → IsPart (snapshot.known i u) (y.known i u)))
    (sym at_z) (λ u e x has. most i u x (learns u e x has)))

-- The events of a task are of the destination.
forget_of : (mode : Mode) (snapshot : Snapshot) (r source : ℕ) → AllOf (events_with snapshot (forget_deeds mode r source)) r
forget_of Normal snapshot r source = tt
forget_of Recover snapshot r source = (refl, tt)

others_of : (units : ℕ) (snapshot : Snapshot) (r : ℕ) (rule : Option ClashRule) (c : Changing) (js : List ItemId) → AllOf (events_with snapshot (others_deeds units r rule c js)) r
unfolding others_deeds
others_of units snapshot r rule c [] = tt
others_of units snapshot r rule c (j ∷ js) = (refl, others_of units snapshot r rule (change_other r rule j c) js)

pub task_learns :
    (w : World) (snapshot : Snapshot) (units : ℕ) (b : BatchData) (t : Task) (p : Plan) (m : Member) (s : Site)
    → WellFormed w → AllLegal w (events_with snapshot (task_deeds units b t p m)) → site_of w.sites m.id ≡ Some s
    → LearnsItem (after_all w (events_with snapshot (task_deeds units b t p m))) m.id snapshot (task_item t) p.draft
task_learns w snapshot units b t p m s ok legal at =
    let others : List Deed = others_deeds units m.id p.acts (changed_first units t p m) p.others in
    let fs : List Event = events_with snapshot (forget_deeds b.mode m.id b.source) in
    let gs : List Event = events_with snapshot (others_deeds units m.id p.acts (changed_first units t p m) p.others) in
    let entry : List Event = Apply m.id snapshot (task_item t) (next_version m) (marks_in p.draft)
    ∷ events_with snapshot (others_deeds units m.id p.acts (changed_first units t p m) p.others) in
    let whole : events_with snapshot (task_deeds units b t p m)
    ≡ events_with snapshot (forget_deeds b.mode m.id b.source)
    ++ (Apply m.id snapshot (task_item t) (next_version m) (marks_in p.draft) ∷ events_with snapshot (others_deeds units m.id p.acts (changed_first units t p m) p.others)) =
    map-append (seen_by snapshot) (forget_deeds b.mode m.id b.source)
    (ApplyFrom m.id b.source (task_item t) (next_version m) (marks_in p.draft) ∷ others_deeds units m.id p.acts (changed_first units t p m) p.others) in
    rw whole
    (events_learn w (events_with snapshot (forget_deeds b.mode m.id b.source))
    (events_with snapshot (others_deeds units m.id p.acts (changed_first units t p m) p.others)) m.id snapshot (task_item t) (next_version m) p.draft ok
    (subst (λ (es : List Event). AllLegal w es) whole legal)
    (of_append (events_with snapshot (forget_deeds b.mode m.id b.source))
    (Apply m.id snapshot (task_item t) (next_version m) (marks_in p.draft) ∷ events_with snapshot (others_deeds units m.id p.acts (changed_first units t p m) p.others))
    m.id (forget_of b.mode snapshot m.id b.source)
    (refl, others_of units snapshot m.id p.acts (changed_first units t p m) p.others)) s at)

pub entry_learns :
    (w : World) (snapshot : Snapshot) (b : BatchData) (rules : RulesData) (m : Member) (t : Task)
    → WellFormed w → RepresentsReplica w m.id (shown m) → EntryActs w snapshot b rules m t
    → LearnsItem (after_all w (events_with snapshot (task_deeds w.units b t (task_plan w.units rules b m t) m))) m.id snapshot (task_item t)
    (task_plan w.units rules b m t).draft
entry_learns w snapshot b rules m t ok (s, at, rep) acts =
    task_learns w snapshot w.units b t (task_plan w.units rules b m t) m s ok acts.legal at
