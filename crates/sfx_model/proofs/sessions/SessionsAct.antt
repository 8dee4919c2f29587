-- What batches and sessions do, in the words of the laws.
use Rattle.std.proofs.Common.{◌≡◌, ◌≢◌, ℕ, ◌+◌, ◌≤◌, true, List, [], ◌∷◌, length, Option, Some, inl, inr, refl, sym, ◌∙◌, ap, subst}
use Rattle.sfx_ids.specs.declared.cut.Cut.TheVariants.{Start, At}
use Rattle.sfx_vector.specs.Clocks.{tick_of}
use Rattle.sfx_knowledge.specs.Forgotten.{fvec}
use Rattle.sfx_model.specs.declared.mode.Mode.{Mode}
use Rattle.sfx_model.specs.declared.mode.Mode.TheVariants.{Normal, Recover}
use Rattle.sfx_model.specs.world.World.{World, Site, WellFormed}
use Rattle.sfx_model.specs.world.Sets.{Has}
use Rattle.sfx_model.specs.world.Events.{Deed, after_deeds, site_of, is_in}
use Rattle.sfx_model.specs.sessions.Acts.{IsInForm, IsOrderly, IsDue, KnowsForgotten, DeedsActIn, DeedsContinue, IsMemberOf}
use Rattle.sfx_model.specs.sessions.Batch.{BatchData, mode_of}
use Rattle.sfx_model.specs.sessions.Deeds.{batch_deeds, session_deeds, events_with}
use Rattle.sfx_model.specs.sessions.MemberKnowledge.{laid_known}
use Rattle.sfx_model.specs.members.Members.{Member, Community, Represents, shown, vector_at}
use Rattle.sfx_model.specs.members.Replica.{RepresentsReplica}
use Rattle.sfx_model.specs.sessions.Rules.{RulesData}
use Rattle.sfx_model.specs.sessions.Session.{outcome_of, session_of, set_out}
use Rattle.sfx_model.specs.members.StandsIn.{StandsIn, StateStandsIn}
use Rattle.sfx_model.specs.members.States.{ChangesMember, IsDeedOf}
use Rattle.sfx_model.proofs.sessions.BatchActs.{GoesOn}
use Rattle.sfx_model.proofs.sessions.DueBatchBegins.{ForgottenKnown}
use Rattle.sfx_model.proofs.members.StateStands.{changed_stands, changing_stands}
use Rattle.sfx_model.proofs.sessions.ClassTests.{in_form}
use Rattle.sfx_model.proofs.members.DeedsLemmas.{deeds_leave, of_any}
use Rattle.sfx_model.proofs.sessions.DueBatch.{due_batch, due_from}
use Rattle.sfx_model.proofs.sessions.SessionActs.{due_acts, mode_known, session_acts}
use Rattle.sfx_model.proofs.sessions.DeedsAreEvents.{AllName, deeds_are, batch_names, session_names}
use Rattle.sfx_model.proofs.sessions.SourceBacks.{Ready, ready_on}
use Rattle.sfx_model.proofs.members.OwnEvents.{AllOf}

-- Both members represent their sites at the start.
both_ready :
    (w : World) (source m : Member) (snapshot : Site)
    → WellFormed w → site_of w.sites source.id ≡ Some snapshot → RepresentsReplica w source.id (shown source)
    → RepresentsReplica w m.id (shown m) → IsOrderly w.units m → Ready w w.units source m snapshot
both_ready w source m snapshot ok at (s, at_s, rep) stands orderly =
    let same : s ≡ snapshot = let both : Some s ≡ Some snapshot = sym at_s ∙ at in cc in
    record {
      ok = ok;
      count = refl;
      at = at;
      theirs = subst (λ (x : Site). Represents w x (shown source)) same rep;
      stands = stands;
      orderly = orderly;
    }

all_of : (snapshot : Site) (ds : List Deed) (r : ℕ) → AllOf (events_with snapshot ds) r → (d : Deed) → Has d ds → IsDeedOf d r
all_of snapshot [] r of d has = absurd has
all_of snapshot (e ∷ es) r of d has = elim has [
  | inl is ↦ subst (λ (x : Deed). IsDeedOf x r) (sym is) (λ seen. of_any snapshot seen e r of.0)
  | inr there ↦ all_of snapshot es r of.1 d there
]

-- What goes on in events goes on in deeds.
deeds_act :
    (w : World) (source m n : Member) (snapshot : Site) (ds : List Deed)
    → source.id ≢ m.id → Ready w w.units source m snapshot → AllName source.id ds
    → GoesOn w w.units (events_with snapshot ds) m n → DeedsActIn w ds source m.id n
deeds_act w source m n snapshot ds apart ready named goes =
    let are = deeds_are w source.id m.id snapshot ds (λ e. apart (sym e)) ready.ok ready.at named goes.acts.legal goes.acts.of in
    let next = ready_on w w.units source m n snapshot (events_with snapshot ds) apart ready goes.acts goes.id in
    record {
      legal = are.legal;
      own = all_of snapshot ds m.id goes.acts.of;
      well_formed = subst WellFormed (sym are.after) next.ok;
      stays = subst (λ (x : World). RepresentsReplica x source.id (shown source)) (sym are.after) (snapshot, next.at, next.theirs);
      represents = subst (λ (x : World). RepresentsReplica x m.id (shown n)) (sym are.after) goes.acts.stands;
      orderly = goes.acts.orderly;
    }

-- ---- a batch

forgotten_in :
    (units : ℕ) (source m : Member) (b : BatchData) (mode : Mode)
    → b.mode ≡ mode → b.forgotten ≡ source.forgotten → KnowsForgotten units b m
    → ForgottenKnown units mode source m (λ i. is_in b.from b.to i ≡ true)
forgotten_in units source m b Normal is same known =
    λ i within u r small. subst (λ f. tick_of (fvec f (At i)) r ≤ vector_at m (At i) u r) same (known (At i) u r is tt within small)
forgotten_in units source m b Recover is same known = tt

pub batch_acts :
    (w : World) (source m : Member) (b : BatchData) (rules : RulesData) (size : ℕ) (budget : Option ℕ)
    → WellFormed w → source.id ≢ m.id → RepresentsReplica w source.id (shown source) → RepresentsReplica w m.id (shown m)
    → IsInForm w.units source → IsOrderly w.units m → 1 ≤ size → IsDue w.units source m size b → KnowsForgotten w.units b m
    → DeedsActIn w (batch_deeds w.units b rules budget m) source m.id (outcome_of w.units b rules budget m).member
batch_acts w source m b rules size budget ok apart (snapshot, at, rep) stands theirs ours some due known =
    let ready = both_ready w source m snapshot ok at (snapshot, at, rep) stands ours in
    let from = due_from w.units source b.mode size m b.from in
    let forgotten : b.forgotten ≡ source.forgotten = ap (λ (x : BatchData). x.forgotten) due ∙ from.forgotten in
    let named : b.source ≡ source.id = ap (λ (x : BatchData). x.source) due ∙ from.source_is in
    let in_range : ForgottenKnown w.units b.mode source m
    (λ i. is_in (due_batch w.units source b.mode size m b.from).from (due_batch w.units source b.mode size m b.from).to i ≡ true) =
    subst (λ (x : BatchData). ForgottenKnown w.units b.mode source m (λ i. is_in x.from x.to i ≡ true)) due
    (forgotten_in w.units source m b b.mode refl forgotten known) in
    let goes : GoesOn w w.units (events_with snapshot (batch_deeds w.units b rules budget m)) m (outcome_of w.units b rules budget m).member =
    subst (λ (x : BatchData). GoesOn w w.units (events_with snapshot (batch_deeds w.units x rules budget m)) m (outcome_of w.units x rules budget m).member) (sym due)
    (due_acts w w.units source snapshot b.mode rules size budget m b.from some apart ready theirs in_range) in
    deeds_act w source m (outcome_of w.units b rules budget m).member snapshot (batch_deeds w.units b rules budget m) apart ready
    (batch_names w.units b rules budget m source.id named) goes

-- ---- a session

pub whole_session_acts :
    (w : World) (source m : Member) (rules : RulesData) (size : ℕ) (cut : Option ℕ)
    → WellFormed w → source.id ≢ m.id → RepresentsReplica w source.id (shown source) → RepresentsReplica w m.id (shown m)
    → IsOrderly w.units source → IsOrderly w.units m → 1 ≤ size
    → DeedsActIn w (session_deeds w.units source m rules size cut) source m.id (session_of w.units source m rules size cut).course.member
unfolding session_of
whole_session_acts w source m rules size cut ok apart (snapshot, at, rep) stands theirs ours some =
    let ready = both_ready w source m snapshot ok at (snapshot, at, rep) stands ours in
    let form = in_form w.units source theirs in
    let mode = mode_of w.units source.forgotten (laid_known w.units m) in
    let bound = length source.items + 1 in
    deeds_act w source m (session_of w.units source m rules size cut).course.member snapshot (session_deeds w.units source m rules size cut) apart ready
    (session_names bound w.units source mode rules size (set_out cut m) Start)
    (session_acts bound w w.units source snapshot mode rules size (set_out cut m) Start some apart ready form (mode_known w.units source m form ready.orderly))

-- ---- a state

pub member_stands : (w : World) (c : Community) (m : Member) → StateStandsIn w c → IsMemberOf c m → StandsIn w m
member_stands w c m stands (x, has, is) = subst (λ (y : Member). StandsIn w y) is (stands.members x has)

pub session_state :
    (w : World) (c d : Community) (source m : Member) (rules : RulesData) (size : ℕ) (cut : Option ℕ)
    → WellFormed w → StateStandsIn w c → source.id ≢ m.id → IsMemberOf c source
    → ChangesMember m (session_of w.units source m rules size cut).course.member c d
    → IsOrderly w.units source → IsOrderly w.units m → 1 ≤ size
    → DeedsContinue w (session_deeds w.units source m rules size cut) d
session_state w c d source m rules size cut ok stands apart there changes theirs ours some =
    let n = (session_of w.units source m rules size cut).course.member in
    let ds = session_deeds w.units source m rules size cut in
    let acts = whole_session_acts w source m rules size cut ok apart (member_stands w c source stands there).represents
    (changing_stands w c d m n stands changes).represents theirs ours some in
    record {
      legal = acts.legal;
      well_formed = acts.well_formed;
      stands = changed_stands w (after_deeds w ds) c d m n (deeds_leave w ds m.id ok acts.legal acts.own) stands changes
          acts.orderly.ascending acts.represents;
    }
