-- A batch that is due, and a whole session of such batches.
use Rattle.std.proofs.Common.{◌≡◌, ◌≢◌, ℕ, zero, suc, ◌<◌, ◌≤◌, ◌&&◌, Bool, true, false, if◌then◌else◌, List, [], ◌∷◌, ◌++◌, map, Option, Some, None, slice_get, inl, inr, refl, sym, ◌∙◌, ap, subst, le_trans}
use Rattle.std.proofs.lemmas.Bool.{and_parts}
use Rattle.std.proofs.lemmas.List.{map-append}
use Rattle.sfx_ids.specs.declared.cut.Cut.{Cut}
use Rattle.sfx_ids.specs.declared.cut.Cut.TheVariants.{At}
use Rattle.sfx_ids.specs.declared.item_id.ItemId.{ItemId}
use Rattle.sfx_ids.proofs.CutLemmas.{le_or_lt, lt-le, le-self}
use Rattle.sfx_vector.specs.Clocks.{Clocks, tick_of}
use Rattle.sfx_segments.specs.Segments.{IsPlace, segment_at, AreSegments}
use Rattle.sfx_knowledge.specs.Row.{UnitRowData, row_at}
use Rattle.sfx_knowledge.specs.Knowledge.{Known, no_row, tick_at}
use Rattle.sfx_knowledge.specs.Forgotten.{Forgets, fvec}
use Rattle.sfx_knowledge.specs.Forms.{starts_of}
use Rattle.sfx_knowledge.proofs.SegmentStarts.{Found, segment_found}
use Rattle.sfx_model.specs.declared.mode.Mode.{Mode}
use Rattle.sfx_model.specs.declared.mode.Mode.TheVariants.{Normal, Recover}
use Rattle.sfx_model.specs.declared.session_end.SessionEnd.{SessionEnd}
use Rattle.sfx_model.specs.world.Sets.{Has}
use Rattle.sfx_model.specs.world.World.{World, Site, Snapshot}
use Rattle.sfx_model.specs.world.Events.{Event, Deed, after_all, is_in, seen_by}
use Rattle.sfx_model.specs.sessions.Acts.{IsInForm, IsOrderly}
use Rattle.sfx_model.specs.sessions.Batch.{BatchData, mode_of, is_forgotten_everywhere}
use Rattle.sfx_model.specs.sessions.Class.{is_within}
use Rattle.sfx_model.specs.sessions.Deeds.{batch_deeds, deeds_unless, deeds_from, events_with}
use Rattle.sfx_model.specs.sessions.MemberKnowledge.{laid_known, forgets_starts}
use Rattle.sfx_model.specs.members.Members.{Member, vector_at}
use Rattle.sfx_model.specs.sessions.Rules.{RulesData}
use Rattle.sfx_model.specs.sessions.Session.{Outcome, Course, begin, outcome_of, tasks_of, with_batch, ending, ended, session_from}
use Rattle.sfx_model.proofs.sessions.BatchActs.{GoesOn, KnowsMore, more_self, more_on, acts_none, acts_on, go_acts}
use Rattle.sfx_model.proofs.sessions.DueBatchBegins.{ForgottenKnown, due_so_far}
use Rattle.sfx_model.proofs.sessions.ClassTests.{in_form, laid_has, laid_form}
use Rattle.sfx_model.proofs.sessions.DueBatch.{due_batch, due_from, due_fit}
use Rattle.sfx_model.specs.world.Units.{every_unit}
use Rattle.sfx_model.proofs.sessions.MemberKnowledgeLemmas.{every_is, within_is}
use Rattle.sfx_model.proofs.sessions.SourceBacks.{Ready, ready_on}
use Rattle.sfx_model.proofs.members.OwnEvents.{all_leave}
use Rattle.sfx_model.proofs.sessions.TaskActs.{TaskActs}

-- ---- a batch

pub due_acts :
    (w : World) (units : ℕ) (source : Member) (snapshot : Site) (mode : Mode) (rules : RulesData) (size : ℕ) (budget : Option ℕ) (m : Member) (from : Cut)
    → 1 ≤ size → source.id ≢ m.id → Ready w units source m snapshot → IsInForm units source
    → ForgottenKnown units mode source m (λ i. is_in (due_batch units source mode size m from).from (due_batch units source mode size m from).to i ≡ true)
    → GoesOn w units (events_with snapshot (batch_deeds units (due_batch units source mode size m from) rules budget m)) m
    (outcome_of units (due_batch units source mode size m from) rules budget m).member
due_acts w units source snapshot mode rules size budget m from some apart ready theirs forgotten =
    go_acts w units source snapshot (due_batch units source mode size m from) rules (begin budget m)
    (tasks_of units (due_batch units source mode size m from) m) apart ready theirs
    (due_from units source mode size m from) (due_fit units source mode size m from theirs ready.orderly)
    (due_so_far w units source mode size m snapshot from some ready theirs forgotten)

-- ---- the mode of a session

-- In mode Normal the source's forgotten deletions are known at every place and unit.
abbrev pub ForgottenEverywhere : ℕ → Mode → Member → Member → Type 0
ForgottenEverywhere units Normal source m =
    (place : Cut) (u r : ℕ) → IsPlace place → u < units → tick_of (fvec source.forgotten place) r ≤ vector_at m place u r
ForgottenEverywhere units Recover source m = Unit {0}

everywhere_on : (units : ℕ) (mode : Mode) (source m n : Member) → KnowsMore units m n → ForgottenEverywhere units mode source m → ForgottenEverywhere units mode source n
everywhere_on units Normal source m n more known = λ place u r at small. le_trans (known place u r at small) (more place u r at small)
everywhere_on units Recover source m n more known = tt

everywhere_in :
    (units : ℕ) (mode : Mode) (source m : Member) (InRange : ItemId → Type 0)
    → ForgottenEverywhere units mode source m → ForgottenKnown units mode source m InRange
everywhere_in units Normal source m InRange known = λ i within u r small. known (At i) u r tt small
everywhere_in units Recover source m InRange known = tt

within_at :
    (units : ℕ) (forgotten : Forgets) (known : Known) (cs : List Cut) (c : Cut) (u r : ℕ)
    → is_forgotten_everywhere units forgotten known cs ≡ true → Has c cs → u < units
    → tick_of (fvec forgotten c) r ≤ tick_at known c u r
within_at units forgotten known [] c u r all has small = absurd has
within_at units forgotten known (d ∷ cs) c u r all has small =
    let parts = and_parts (every_unit (is_within (fvec forgotten d) known d) units) (is_forgotten_everywhere units forgotten known cs) all in
    elim has [
      | inl is ↦
          subst (λ (x : Cut). tick_of (fvec forgotten x) r ≤ tick_at known x u r) (sym is)
          (within_is (fvec forgotten d) known d u (every_is (is_within (fvec forgotten d) known d) units parts.0 u small) r)
      | inr there ↦ within_at units forgotten known cs c u r parts.1 there small
    ]

has_start : {A : Type 0} (xs : List (Cut × A)) (k : ℕ) (p : Cut × A) → slice_get xs k ≡ Some p → Has p.0 (map (λ s. s.0) xs)
has_start [] k p is = absurd (cc)
has_start {A} (x ∷ xs) zero p is = let same : x ≡ p = let both : Some x ≡ Some p = is in cc in inl (ap (λ (s : Cut × A). s.0) (sym same))
has_start (x ∷ xs) (suc k) p is = inr (has_start xs k p is)

-- Deletions that are known wherever either list begins a segment are known at every place.
starts_within :
    (units : ℕ) (forgotten : Forgets) (known : Known) (place : Cut) (u r : ℕ)
    → AreSegments forgotten → AreSegments known
    → is_forgotten_everywhere units forgotten known (forgets_starts forgotten) ≡ true
    → is_forgotten_everywhere units forgotten known (starts_of known) ≡ true → u < units
    → tick_of (fvec forgotten place) r ≤ tick_at known place u r
starts_within units forgotten known place u r form_f form_k at_f at_k small =
    let f : Found [] forgotten place = segment_found [] forgotten place form_f in
    let k : Found no_row known place = segment_found no_row known place form_k in
    elim (le_or_lt f.segment.0 k.segment.0) [
      | inl le ↦
          moved k.segment.0
          (f.has k.segment.0 le k.le ∙ sym (f.has place f.le (le-self place)))
          (k.has k.segment.0 (le-self k.segment.0) k.le ∙ sym (k.has place k.le (le-self place)))
          (within_at units forgotten known (starts_of known) k.segment.0 u r at_k (has_start known k.index k.segment k.at) small)
      | inr lt ↦
          moved f.segment.0
          (f.has f.segment.0 (le-self f.segment.0) f.le ∙ sym (f.has place f.le (le-self place)))
          (k.has f.segment.0 (lt-le k.segment.0 f.segment.0 lt) f.le ∙ sym (k.has place k.le (le-self place)))
          (within_at units forgotten known (forgets_starts forgotten) f.segment.0 u r at_f (has_start forgotten f.index f.segment f.at) small)
    ]
  where
    moved :
        (c : Cut)
        → segment_at [] forgotten c ≡ segment_at [] forgotten place → segment_at no_row known c ≡ segment_at no_row known place
        → tick_of (fvec forgotten c) r ≤ tick_at known c u r → tick_of (fvec forgotten place) r ≤ tick_at known place u r
    moved c same_f same_k le =
        subst (λ (cs : Clocks). tick_of cs r ≤ tick_at known place u r) same_f
        (subst (λ (row : UnitRowData). tick_of (fvec forgotten c) r ≤ tick_of (row_at row u) r) same_k le)

-- A session's mode is as its start asks.
pub mode_known :
    (units : ℕ) (source m : Member)
    → IsInForm units source → IsOrderly units m
    → ForgottenEverywhere units (mode_of units source.forgotten (laid_known units m)) source m
mode_known units source m theirs ours =
    by_tests (is_forgotten_everywhere units source.forgotten (laid_known units m) (forgets_starts source.forgotten))
    (is_forgotten_everywhere units source.forgotten (laid_known units m) (starts_of (laid_known units m))) refl refl
  where
    by_tests :
        (a b : Bool)
        → is_forgotten_everywhere units source.forgotten (laid_known units m) (forgets_starts source.forgotten) ≡ a
        → is_forgotten_everywhere units source.forgotten (laid_known units m) (starts_of (laid_known units m)) ≡ b
        → ForgottenEverywhere units (if a && b then Normal else Recover) source m
    by_tests true true at_f at_k = λ place u r at small.
        subst (λ (t : ℕ). tick_of (fvec source.forgotten place) r ≤ t) (laid_has units m (in_form units m ours) place u r at small)
        (starts_within units source.forgotten (laid_known units m) place u r theirs.forgotten.segments
        (laid_form units m (in_form units m ours)).segments at_f at_k small)
    by_tests true false at_f at_k = tt
    by_tests false b at_f at_k = tt

-- ---- a session

-- A part of a session, and then the rest.
goes_on :
    (w : World) (units : ℕ) (source : Member) (snapshot : Snapshot) (ds fs : List Deed) (m n o : Member)
    → Ready w units source m snapshot → GoesOn w units (events_with snapshot ds) m n
    → GoesOn (after_all w (events_with snapshot ds)) units (events_with snapshot fs) n o
    → GoesOn w units (events_with snapshot (ds ++ fs)) m o
goes_on w units source snapshot ds fs m n o ready first rest =
    let leaves = all_leave w (events_with snapshot ds) m.id ready.ok first.acts.legal first.acts.of in
    record {
      acts = subst (λ (es : List Event). TaskActs w es m o) (sym (map-append (seen_by snapshot) ds fs))
          (acts_on w (events_with snapshot ds) (events_with snapshot fs) m n o first.acts rest.acts first.id leaves.count);
      id = rest.id ∙ first.id;
      more = more_on units m n o first.more rest.more;
    }

nothing_goes : (w : World) (units : ℕ) (source m : Member) (snapshot : Site) → Ready w units source m snapshot → GoesOn w units [] m m
nothing_goes w units source m snapshot ready =
    record { acts = acts_none w units source m snapshot ready; id = refl; more = more_self units m }

pub session_acts :
    (bound : ℕ) (w : World) (units : ℕ) (source : Member) (snapshot : Site) (mode : Mode) (rules : RulesData) (size : ℕ) (c : Course) (from : Cut)
    → 1 ≤ size → source.id ≢ c.member.id → Ready w units source c.member snapshot → IsInForm units source
    → ForgottenEverywhere units mode source c.member
    → GoesOn w units (events_with snapshot (deeds_from bound units source mode rules size c from)) c.member
    (session_from bound units source mode rules size c from).course.member
unfolding session_from deeds_from
session_acts zero w units source snapshot mode rules size c from some apart ready theirs known =
    nothing_goes w units source c.member snapshot ready
session_acts (suc bound) w units source snapshot mode rules size c from some apart ready theirs known =
    let first = due_acts w units source snapshot mode rules size c.budget c.member from some apart ready theirs
    (everywhere_in units mode source c.member
    (λ i. is_in (due_batch units source mode size c.member from).from (due_batch units source mode size c.member from).to i ≡ true) known) in
    let next = ready_on w units source c.member (outcome_of units (due_batch units source mode size c.member from) rules c.budget c.member).member snapshot
    (events_with snapshot (batch_deeds units (due_batch units source mode size c.member from) rules c.budget c.member)) apart ready first.acts first.id in
    goes_on w units source snapshot (batch_deeds units (due_batch units source mode size c.member from) rules c.budget c.member)
    (deeds_unless (ending (due_batch units source mode size c.member from).to (outcome_of units (due_batch units source mode size c.member from) rules c.budget c.member).end
    (with_batch (due_batch units source mode size c.member from) (outcome_of units (due_batch units source mode size c.member from) rules c.budget c.member) c).budget)
    (deeds_from bound units source mode rules size
    (with_batch (due_batch units source mode size c.member from) (outcome_of units (due_batch units source mode size c.member from) rules c.budget c.member) c)
    (due_batch units source mode size c.member from).to))
    c.member (outcome_of units (due_batch units source mode size c.member from) rules c.budget c.member).member
    (ended (with_batch (due_batch units source mode size c.member from) (outcome_of units (due_batch units source mode size c.member from) rules c.budget c.member) c)
    (ending (due_batch units source mode size c.member from).to (outcome_of units (due_batch units source mode size c.member from) rules c.budget c.member).end
    (with_batch (due_batch units source mode size c.member from) (outcome_of units (due_batch units source mode size c.member from) rules c.budget c.member) c).budget)
    (session_from bound units source mode rules size
    (with_batch (due_batch units source mode size c.member from) (outcome_of units (due_batch units source mode size c.member from) rules c.budget c.member) c)
    (due_batch units source mode size c.member from).to)).course.member
    ready first
    (by_end
    (session_acts bound
    (after_all w (events_with snapshot (batch_deeds units (due_batch units source mode size c.member from) rules c.budget c.member)))
    units source snapshot mode rules size
    (with_batch (due_batch units source mode size c.member from) (outcome_of units (due_batch units source mode size c.member from) rules c.budget c.member) c)
    (due_batch units source mode size c.member from).to some (λ e. apart (e ∙ first.id)) next theirs
    (everywhere_on units mode source c.member (outcome_of units (due_batch units source mode size c.member from) rules c.budget c.member).member first.more known))
    next
    (ending (due_batch units source mode size c.member from).to (outcome_of units (due_batch units source mode size c.member from) rules c.budget c.member).end
    (with_batch (due_batch units source mode size c.member from) (outcome_of units (due_batch units source mode size c.member from) rules c.budget c.member) c).budget))
  where
    bt : BatchData
    bt = due_batch units source mode size c.member from

    out : Outcome
    out = outcome_of units bt rules c.budget c.member

    course : Course
    course = with_batch bt out c

    x : World
    x = after_all w (events_with snapshot (batch_deeds units bt rules c.budget c.member))

    by_end :
        GoesOn x units (events_with snapshot (deeds_from bound units source mode rules size course bt.to)) out.member
        (session_from bound units source mode rules size course bt.to).course.member
        → Ready x units source out.member snapshot → (e : Option SessionEnd)
        → GoesOn x units (events_with snapshot (deeds_unless e (deeds_from bound units source mode rules size course bt.to))) out.member
        (ended course e (session_from bound units source mode rules size course bt.to)).course.member
    by_end rest ready_x None = rest
    by_end rest ready_x (Some end) = nothing_goes x units source out.member snapshot ready_x
