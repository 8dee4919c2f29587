-- Deeds that name their source are events with its site as their snapshot.
use Rattle.std.proofs.Common.{◌≡◌, ◌≢◌, ℕ, zero, suc, List, [], ◌∷◌, ◌++◌, Option, Some, None, IsSomeAnd, refl, sym, ◌∙◌, ap, subst}
use Rattle.std.specs.Option.{option_map}
use Rattle.sfx_ids.specs.declared.cut.Cut.{Cut}
use Rattle.sfx_ids.specs.declared.item_id.ItemId.{ItemId}
use Rattle.sfx_model.specs.declared.apply_end.ApplyEnd.{ApplyEnd}
use Rattle.sfx_model.specs.declared.clash_rule.ClashRule.{ClashRule}
use Rattle.sfx_model.specs.declared.mode.Mode.{Mode}
use Rattle.sfx_model.specs.declared.mode.Mode.TheVariants.{Normal, Recover}
use Rattle.sfx_model.specs.declared.session_end.SessionEnd.{SessionEnd}
use Rattle.sfx_model.specs.world.World.{World, Site, WellFormed}
use Rattle.sfx_model.specs.world.Events.{Event, Forget, Apply, Learn, Deed, Own, ForgetFrom, ApplyFrom, LearnFrom, Legal, AllLegal, after, after_all, site_of, event_of, after_deed, after_deeds, AreLegalDeeds, seen_by}
use Rattle.sfx_model.specs.sessions.Batch.{BatchData, batch_from}
use Rattle.sfx_model.specs.sessions.Clashes.{Plan}
use Rattle.sfx_model.specs.sessions.Deeds.{forget_deeds, others_deeds, changed_first, task_deeds, range_deeds, deeds_or, go_deeds, batch_deeds, deeds_unless, deeds_from, events_with}
use Rattle.sfx_model.specs.sessions.Entry.{Task, Changing, change_other, task_plan}
use Rattle.sfx_model.specs.sessions.MemberKnowledge.{laid_known}
use Rattle.sfx_model.specs.members.Members.{Member}
use Rattle.sfx_model.specs.sessions.Rules.{RulesData}
use Rattle.sfx_model.specs.sessions.Session.{Progress, Course, outcome_of, begin, ending, is_more, lefts, stop_before, tasks_of, with_batch, with_entry}
use Rattle.sfx_model.proofs.members.OwnEvents.{AllOf, event_leaves}

-- The deed names this source, if it names one.
abbrev pub NamesSource : ℕ → Deed → Type 0
NamesSource source (Own event) = Unit {0}
NamesSource source (ForgetFrom r from lo hi) = from ≡ source
NamesSource source (ApplyFrom r from i v marks) = from ≡ source
NamesSource source (LearnFrom r from lo hi left) = from ≡ source

abbrev pub AllName : ℕ → List Deed → Type 0
AllName source [] = Unit {0}
AllName source (d ∷ ds) = NamesSource source d × AllName source ds

pub name_append : (source : ℕ) (ds fs : List Deed) → AllName source ds → AllName source fs → AllName source (ds ++ fs)
name_append source [] fs first second = second
name_append source (d ∷ ds) fs first second = (first.0, name_append source ds fs first.1 second)

-- The event that such a deed is.
deed_is :
    (w : World) (source : ℕ) (snapshot : Site) (d : Deed)
    → site_of w.sites source ≡ Some snapshot → NamesSource source d → event_of w d ≡ Some (seen_by snapshot d)
deed_is w source snapshot (Own event) at named = refl
deed_is w source snapshot (ForgetFrom r from lo hi) at named =
    ap (λ (n : ℕ). option_map (λ (s : Site). Forget r s lo hi) (site_of w.sites n)) named ∙ ap (option_map (λ (s : Site). Forget r s lo hi)) at
deed_is w source snapshot (ApplyFrom r from i v marks) at named =
    ap (λ (n : ℕ). option_map (λ (s : Site). Apply r s i v marks) (site_of w.sites n)) named ∙ ap (option_map (λ (s : Site). Apply r s i v marks)) at
deed_is w source snapshot (LearnFrom r from lo hi left) at named =
    ap (λ (n : ℕ). option_map (λ (s : Site). Learn r s lo hi left) (site_of w.sites n)) named ∙ ap (option_map (λ (s : Site). Learn r s lo hi left)) at

-- Deeds that name a source whose site stays are its events.
pub record AreEvents (w : World) (ds : List Deed) (es : List Event) : Type 0 where
  pub legal : AreLegalDeeds w ds
  pub after : after_deeds w ds ≡ after_all w es

pub deeds_are :
    (w : World) (source r : ℕ) (snapshot : Site) (ds : List Deed)
    → r ≢ source → WellFormed w → site_of w.sites source ≡ Some snapshot → AllName source ds
    → AllLegal w (events_with snapshot ds) → AllOf (events_with snapshot ds) r → AreEvents w ds (events_with snapshot ds)
deeds_are w source r snapshot [] other ok at named legal of = record { legal = tt; after = refl }
deeds_are w source r snapshot (d ∷ ds) other ok at named legal of =
    let is : event_of w d ≡ Some (seen_by snapshot d) = deed_is w source snapshot d at named.0 in
    let leaves = event_leaves w (seen_by snapshot d) r ok legal.0 of.0 in
    let next : after_deed w (event_of w d) ≡ after w (seen_by snapshot d) = ap (after_deed w) is in
    let rest = deeds_are (after w (seen_by snapshot d)) source r snapshot ds other leaves.ok (leaves.sites source other ∙ at) named.1 legal.1 of.1 in
    record {
      legal = (
        subst (λ (o : Option Event). IsSomeAnd o (λ event. Legal w event)) (sym is) legal.0,
        subst (λ (x : World). AreLegalDeeds x ds) (sym next) rest.legal,
      );
      after = ap (λ (x : World). after_deeds x ds) next ∙ rest.after;
    }

-- ---- the deeds of a session name its source

forget_names : (mode : Mode) (own source : ℕ) (id : ℕ) → source ≡ id → AllName id (forget_deeds mode own source)
forget_names Normal own source id same = tt
forget_names Recover own source id same = (same, tt)

others_name : (units own : ℕ) (rule : Option ClashRule) (c : Changing) (js : List ItemId) (id : ℕ) → AllName id (others_deeds units own rule c js)
unfolding others_deeds
others_name units own rule c [] id = tt
others_name units own rule c (j ∷ js) id = (tt, others_name units own rule (change_other own rule j c) js id)

task_names : (units : ℕ) (b : BatchData) (t : Task) (p : Plan) (m : Member) (id : ℕ) → b.source ≡ id → AllName id (task_deeds units b t p m)
task_names units b t p m id same =
    name_append id (forget_deeds b.mode m.id b.source) _ (forget_names b.mode m.id b.source id same)
    (same, others_name units m.id p.acts (changed_first units t p m) p.others id)

range_names : (b : BatchData) (left : List (ItemId × ℕ)) (m : Member) (id : ℕ) → b.source ≡ id → AllName id (range_deeds b left m)
range_names b left m id same =
    name_append id (forget_deeds b.mode m.id b.source) _ (forget_names b.mode m.id b.source id same) (same, tt)

or_names : (end : Option ApplyEnd) (ds : List Deed) (id : ℕ) → AllName id ds → AllName id (deeds_or end ds)
or_names (Some end) ds id named = tt
or_names None ds id named = named

pub go_names : (units : ℕ) (b : BatchData) (rules : RulesData) (p : Progress) (ts : List Task) (id : ℕ) → b.source ≡ id → AllName id (go_deeds units b rules p ts)
unfolding go_deeds
go_names units b rules p [] id same = range_names b (lefts p.entries) p.member id same
go_names units b rules p (t ∷ ts) id same =
    or_names (stop_before p.budget (task_plan units rules b p.member t) p.member)
    (task_deeds units b t (task_plan units rules b p.member t) p.member
    ++ go_deeds units b rules (with_entry units b t (is_more ts) (task_plan units rules b p.member t) p) ts) id
    (name_append id (task_deeds units b t (task_plan units rules b p.member t) p.member)
    (go_deeds units b rules (with_entry units b t (is_more ts) (task_plan units rules b p.member t) p) ts)
    (task_names units b t (task_plan units rules b p.member t) p.member id same)
    (go_names units b rules (with_entry units b t (is_more ts) (task_plan units rules b p.member t) p) ts id same))

pub batch_names : (units : ℕ) (b : BatchData) (rules : RulesData) (budget : Option ℕ) (m : Member) (id : ℕ) → b.source ≡ id → AllName id (batch_deeds units b rules budget m)
batch_names units b rules budget m id same = go_names units b rules (begin budget m) (tasks_of units b m) id same

unless_names : (end : Option SessionEnd) (ds : List Deed) (id : ℕ) → AllName id ds → AllName id (deeds_unless end ds)
unless_names (Some end) ds id named = tt
unless_names None ds id named = named

due_source_is : (units : ℕ) (source : Member) (mode : Mode) (size : ℕ) (m : Member) (from : Cut) → (batch_from units source mode size (laid_known units m) from).source ≡ source.id
unfolding batch_from
due_source_is units source mode size m from = refl

pub session_names :
    (bound units : ℕ) (source : Member) (mode : Mode) (rules : RulesData) (size : ℕ) (c : Course) (from : Cut)
    → AllName source.id (deeds_from bound units source mode rules size c from)
unfolding deeds_from
session_names zero units source mode rules size c from = tt
session_names (suc bound) units source mode rules size c from =
    name_append source.id (batch_deeds units b rules c.budget c.member) _
    (batch_names units b rules c.budget c.member source.id (due_source_is units source mode size c.member from))
    (unless_names (ending b.to (outcome_of units b rules c.budget c.member).end (with_batch b (outcome_of units b rules c.budget c.member) c).budget) _ source.id
    (session_names bound units source mode rules size (with_batch b (outcome_of units b rules c.budget c.member) c) b.to))
  where
    b : BatchData
    b = batch_from units source mode size (laid_known units c.member) from
