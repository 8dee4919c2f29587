-- A session under way, batch by batch.
use Rattle.std.proofs.Common.{◌≡◌, ℕ, zero, suc, ◌≤◌, true, false, true≢false, not, inl, inr, arith, refl, sym, ap, subst, ◌∙◌, List, [], ◌∷◌, ◌++◌, map, length, append_assoc, add-one, Option, Some, None}
use Rattle.std.specs.List.{filter}
use Rattle.std.proofs.lemmas.List.{append-nil, map-append}
use Rattle.std.proofs.lemmas.List.Elements.{filter-append}
use Rattle.std.proofs.lemmas.List.Filters.{length-filter_both}
use Rattle.sfx_ids.specs.declared.cut.Cut.{Cut}
use Rattle.sfx_ids.specs.declared.cut.Cut.TheVariants.{Start, At, After, End}
use Rattle.sfx_ids.specs.Cut.{cut_le}
use Rattle.sfx_segments.specs.Segments.{IsPlace}
use Rattle.sfx_model.specs.declared.mode.Mode.{Mode}
use Rattle.sfx_model.specs.declared.session_end.SessionEnd.{SessionEnd}
use Rattle.sfx_model.specs.declared.apply_end.ApplyEnd.{ApplyEnd}
use Rattle.sfx_model.specs.world.Sets.{Has}
use Rattle.sfx_model.specs.sessions.Batch.{BatchData}
use Rattle.sfx_model.specs.sessions.Entry.{Task, task_plan}
use Rattle.sfx_item.specs.Item.{ItemData}
use Rattle.sfx_model.specs.members.Members.{Member}
use Rattle.sfx_model.specs.sessions.Moments.{Moment, Learned, Stopped, state_at, committed, is_stop, stops}
use Rattle.sfx_model.specs.sessions.Batch.{mode_of}
use Rattle.sfx_model.specs.sessions.MemberKnowledge.{laid_known}
use Rattle.sfx_model.specs.members.Readings.{items_from}
use Rattle.sfx_model.specs.sessions.Rules.{RulesData}
use Rattle.sfx_model.specs.sessions.Session.{AppliedData, Course, Outcome, Progress, SessionResult, applied_data, ended, finished, go, is_end, is_more, reduced, session_from, session_of, stop_before, stop_or, with_entry}
use Rattle.sfx_model.proofs.world.SetsLemmas.{has_left, has_right}
use Rattle.sfx_model.proofs.sessions.SessionsEnd.{less, open_end, next_batch, next_course, next_end, next_outcome, session_step}
use Rattle.sfx_provider.specs.Leaves.{Arrives, BreaksOff}
use Rattle.sfx_provider.proofs.LeavesLemmas.{arrives_on, breaks_on}
use Rattle.sfx_session.specs.Travel.{TravelData, arrival, departure, due_batch, due_outcome, next_arrival, next_travel, travelled}

-- ---- moments that follow others

pub committed-append : (group : ℕ) (xs ys : List Moment) → committed group (xs ++ ys) ≡ committed group xs ++ committed group ys
committed-append group xs ys = rw (filter-append, map-append) refl

pub stops-append : (group : ℕ) (first : Member) (xs ys : List Moment) → stops group first (xs ++ ys) ≡ stops group first xs ++ map state_at (filter (is_stop group) ys)
stops-append group first xs ys = rw (filter-append, map-append) refl

-- ---- the moments of a session only grow

-- the session's moments are these and further ones
pub record Grows (before : List Moment) (now : List Moment) : Type 0 where
  pub further : List Moment
  pub all : now ≡ before ++ further

ended_grows : (c next : Course) (end : Option SessionEnd) (rest : SessionResult) (moments : List Moment)
    → next.moments ≡ c.moments ++ moments → Grows next.moments rest.course.moments → Grows c.moments (ended next end rest).course.moments
ended_grows c next (Some end) rest moments more grows = record { further = moments; all = more }
ended_grows c next None rest moments more grows = record {
  further = moments ++ grows.further;
  all = grows.all ∙ ap (λ (ms : List Moment). ms ++ grows.further) more ∙ append_assoc c.moments moments grows.further;
}

pub session_grows : (bound units : ℕ) (source : Member) (mode : Mode) (rules : RulesData) (size : ℕ) (c : Course) (from : Cut)
    → Grows c.moments (session_from bound units source mode rules size c from).course.moments
unfolding session_from
session_grows zero units source mode rules size c from = record { further = []; all = sym (append-nil c.moments) }
session_grows (suc bound) units source mode rules size c from =
    ended_grows c (next_course units source mode rules size c from) (next_end units source mode rules size c from)
    (session_from bound units source mode rules size (next_course units source mode rules size c from) (next_batch units source mode size c from).to)
    (next_outcome units source mode rules size c from).moments refl
    (session_grows bound units source mode rules size (next_course units source mode rules size c from) (next_batch units source mode size c from).to)

-- ---- where a batch leaves the destination

-- the member is one that a storage that fails may be left at after these moments
abbrev pub IsStop : ℕ → Member → List Moment → Type 0
IsStop group m moments = Has m (map state_at (filter (is_stop group) moments))

is_stop_last : (group : ℕ) (moments : List Moment) (last : Moment) → is_stop group last ≡ true → IsStop group (state_at last) (moments ++ last ∷ [])
is_stop_last group moments last stops =
    let here : Has (state_at last) (map state_at (filter (is_stop group) (last ∷ []))) = rw stops (inl refl) in
    rw (filter-append, map-append) (has_right (state_at last) (map state_at (filter (is_stop group) moments)) (map state_at (filter (is_stop group) (last ∷ []))) here)

pub go_stops : (group units : ℕ) (b : BatchData) (rules : RulesData) (p : Progress) (ts : List Task)
    → IsStop group (go units b rules p ts).member (go units b rules p ts).moments
unfolding go
go_stops group units b rules p [] = is_stop_last group p.moments (Learned (finished units b p).member) refl
go_stops group units b rules p (t ∷ ts) =
    by_stop (stop_before p.budget (task_plan units rules b p.member t) p.member)
    (go units b rules (with_entry units b t (is_more ts) (task_plan units rules b p.member t) p) ts)
    (go_stops group units b rules (with_entry units b t (is_more ts) (task_plan units rules b p.member t) p) ts) where
      by_stop : (stop : Option ApplyEnd) (next : Outcome) → IsStop group next.member next.moments → IsStop group (stop_or stop p next).member (stop_or stop p next).moments
      by_stop (Some end) next rest = is_stop_last group p.moments (Stopped (length p.entries) p.member) refl
      by_stop None next rest = rest

-- ---- a session under way

-- its course, with the destination as it is now and the moments so far
abbrev pub course_of : Member → List Moment → TravelData → Course
course_of now moments t = record { member = now; steps = t.steps; moments = moments; budget = t.budget }

-- It goes on to this result, within its bound; the destination came by what the moments so far commit, and
-- is now one of the states that a storage may have been left at.
pub record Travels (Came : List Member → Type 0) (units : ℕ) (source : Member) (mode : Mode) (rules : RulesData) (size group : ℕ) (first : Member) (out : SessionResult) (now : Member) (t : TravelData) : Type 0 where
  pub bound : ℕ
  pub moments : List Moment
  pub goes : session_from (suc bound) units source mode rules size (course_of now moments t) t.from ≡ out
  pub enough : length (items_from t.from source.items) ≤ bound
  pub came : Came (committed group moments)
  pub stands : Has now (stops group first moments)

-- what the due batch leads to
abbrev pub next_course_of : ℕ → Member → Mode → RulesData → ℕ → Member → List Moment → TravelData → Course
next_course_of units source mode rules size now moments t =
    let o = due_outcome units source mode rules size now t in
    course_of o.member (moments ++ o.moments) (travelled (due_batch units source mode size now t) (applied_data o) t)

pub step_is : (bound units : ℕ) (source : Member) (mode : Mode) (rules : RulesData) (size : ℕ) (now : Member) (moments : List Moment) (t : TravelData)
    → session_from (suc bound) units source mode rules size (course_of now moments t) t.from
    ≡ ended (next_course_of units source mode rules size now moments t)
    (arrival (due_batch units source mode size now t) (applied_data (due_outcome units source mode rules size now t)) t)
    (session_from bound units source mode rules size (next_course_of units source mode rules size now moments t) (due_batch units source mode size now t).to)
step_is bound units source mode rules size now moments t = session_step bound units source mode rules size (course_of now moments t) t.from

-- the session ends with the due batch
pub travel_off : (Came : List Member → Type 0) (units : ℕ) (source : Member) (mode : Mode) (rules : RulesData) (size group : ℕ) (first : Member) (out : SessionResult) (now : Member) (t : TravelData) (end : SessionEnd)
    → (travels : Travels Came units source mode rules size group first out now t)
    → arrival (due_batch units source mode size now t) (applied_data (due_outcome units source mode rules size now t)) t ≡ Some end
    → out ≡ record { course = next_course_of units source mode rules size now travels.moments t; end = end }
travel_off Came units source mode rules size group first out now t end travels ends =
    sym travels.goes ∙ step_is travels.bound units source mode rules size now travels.moments t
    ∙ ap (λ (e : Option SessionEnd). ended (next_course_of units source mode rules size now travels.moments t) e
    (session_from travels.bound units source mode rules size (next_course_of units source mode rules size now travels.moments t) (due_batch units source mode size now t).to)) ends

-- what is said of it then: the destination has come to the session's own end
pub record Ended (Next : List Member → Member → Type 0) (group : ℕ) (out : SessionResult) (t : TravelData) (end : SessionEnd) : Type 0 where
  pub steps : t.steps ≡ out.course.steps
  pub end_is : end ≡ out.end
  pub came : Next (committed group out.course.moments) out.course.member

pub travel_ends : (Came : List Member → Type 0) (Next : List Member → Member → Type 0) (units : ℕ) (source : Member) (mode : Mode) (rules : RulesData) (size group : ℕ) (first : Member) (out : SessionResult) (now : Member) (t : TravelData) (end : SessionEnd)
    → Travels Came units source mode rules size group first out now t
    → next_arrival units source mode rules size now t ≡ Some end
    → ((xs : List Member) → Came xs → Next (xs ++ committed group (due_outcome units source mode rules size now t).moments) (due_outcome units source mode rules size now t).member)
    → Ended Next group out (next_travel units source mode rules size now t) end
travel_ends Came Next units source mode rules size group first out now t end travels ends comes =
    let is = travel_off Came units source mode rules size group first out now t end travels ends in record {
      steps = ap (λ (r : SessionResult). r.course.steps) (sym is);
      end_is = ap (λ (r : SessionResult). r.end) (sym is);
      came = subst (λ (r : SessionResult). Next (committed group r.course.moments) r.course.member) (sym is)
          (rw (committed-append group travels.moments (due_outcome units source mode rules size now t).moments) (comes (committed group travels.moments) travels.came));
    }

-- the states of the due batch stand among those of the session
pub travel_grows : (Came : List Member → Type 0) (units : ℕ) (source : Member) (mode : Mode) (rules : RulesData) (size group : ℕ) (first : Member) (out : SessionResult) (now : Member) (t : TravelData)
    → (travels : Travels Came units source mode rules size group first out now t)
    → Grows (travels.moments ++ (due_outcome units source mode rules size now t).moments) out.course.moments
travel_grows Came units source mode rules size group first out now t travels =
    subst (λ (r : SessionResult). Grows (travels.moments ++ (due_outcome units source mode rules size now t).moments) r.course.moments)
    (sym (step_is travels.bound units source mode rules size now travels.moments t) ∙ travels.goes)
    (by_end (arrival (due_batch units source mode size now t) (applied_data (due_outcome units source mode rules size now t)) t)) where
      by_end : (end : Option SessionEnd) → Grows (travels.moments ++ (due_outcome units source mode rules size now t).moments)
          (ended (next_course_of units source mode rules size now travels.moments t) end
          (session_from travels.bound units source mode rules size (next_course_of units source mode rules size now travels.moments t) (due_batch units source mode size now t).to)).course.moments
      by_end (Some end) = record { further = []; all = sym (append-nil (travels.moments ++ (due_outcome units source mode rules size now t).moments)) }
      by_end None = session_grows travels.bound units source mode rules size (next_course_of units source mode rules size now travels.moments t) (due_batch units source mode size now t).to

-- the destination after a batch is one of the states that a storage may have been left at
pub stands_on : (group : ℕ) (first now next : Member) (moments more : List Moment) → IsStop group next more → Has next (stops group first (moments ++ more))
stands_on group first now next moments more there =
    subst (λ (xs : List Member). Has next xs) (sym (stops-append group first moments more))
    (has_right next (stops group first moments) (map state_at (filter (is_stop group) more)) there)

-- the session goes on behind the due batch
pub travel_on : (Came Next : List Member → Type 0) (units : ℕ) (source : Member) (mode : Mode) (rules : RulesData) (size group : ℕ) (first : Member) (out : SessionResult) (now : Member) (t : TravelData)
    → Travels Came units source mode rules size group first out now t
    → arrival (due_batch units source mode size now t) (applied_data (due_outcome units source mode rules size now t)) t ≡ None
    → ((xs : List Member) → Came xs → Next (xs ++ committed group (due_outcome units source mode rules size now t).moments))
    → Travels Next units source mode rules size group first out (due_outcome units source mode rules size now t).member
    (travelled (due_batch units source mode size now t) (applied_data (due_outcome units source mode rules size now t)) t)
travel_on Came Next units source mode rules size group first out now t travels goes comes =
    by_bound travels.bound travels.goes travels.enough where
      by_bound : (bound : ℕ) → session_from (suc bound) units source mode rules size (course_of now travels.moments t) t.from ≡ out
          → length (items_from t.from source.items) ≤ bound
          → Travels Next units source mode rules size group first out (due_outcome units source mode rules size now t).member
          (travelled (due_batch units source mode size now t) (applied_data (due_outcome units source mode rules size now t)) t)
      by_bound zero is enough = absurd (omega (arith, enough, less units source mode size _ t.from _ _ goes))
      by_bound (suc bound) is enough = record {
        bound = bound;
        moments = travels.moments ++ (due_outcome units source mode rules size now t).moments;
        goes = ap (λ (e : Option SessionEnd). ended (next_course_of units source mode rules size now travels.moments t) e
            (session_from (suc bound) units source mode rules size (next_course_of units source mode rules size now travels.moments t) (due_batch units source mode size now t).to)) (sym goes)
            ∙ sym (step_is (suc bound) units source mode rules size now travels.moments t) ∙ is;
        enough = (let fewer = less units source mode size _ t.from _ _ goes in omega (arith, enough, fewer));
        came = rw (committed-append group travels.moments (due_outcome units source mode rules size now t).moments) (comes (committed group travels.moments) travels.came);
        stands = stands_on group first now (due_outcome units source mode rules size now t).member travels.moments (due_outcome units source mode rules size now t).moments
            (go_stops group units (due_batch units source mode size now t) rules _ _);
      }

-- all items are from the start on
pub from_start : (items : List ItemData) → length (items_from Start items) ≤ length items
from_start items =
    let kept = length-filter_both (λ x. cut_le Start (At x.id)) (λ x. not (cut_le Start (At x.id))) (λ x. refl) items in
    omega (arith, kept)

-- a session sets out
pub travel_begins : (Came : List Member → Type 0) (units : ℕ) (source first : Member) (mode : Mode) (rules : RulesData) (size group : ℕ) (cut : Option ℕ)
    → mode ≡ mode_of units source.forgotten (laid_known units first) → Came []
    → Travels Came units source mode rules size group first (session_of units source first rules size cut) first (departure cut)
unfolding session_of
travel_begins Came units source first mode rules size group cut is came = record {
  bound = length source.items;
  moments = [];
  goes = rw (is, add-one) refl;
  enough = from_start source.items;
  came = came;
  stands = inl refl;
}

-- ---- what a fault leaves

-- the committed states of a stretch and of what follows it stand in front of all
pub committed_prefix : (group : ℕ) (before more all : List Moment) (grows : Grows (before ++ more) all)
    → committed group before ++ (committed group more ++ committed group grows.further) ≡ committed group all
committed_prefix group before more all grows =
    sym (ap (committed group) grows.all ∙ committed-append group (before ++ more) grows.further
    ∙ ap (λ l. l ++ committed group grows.further) (committed-append group before more)
    ∙ append_assoc (committed group before) (committed group more) (committed group grows.further))

-- a state that a storage may be left at in a batch is one of those of the session
pub stop_on : (group : ℕ) (first now m : Member) (before more all : List Moment) → Grows (before ++ more) all
    → Has now (stops group first before) → Has m (stops group now more) → Has m (stops group first all)
stop_on group first now m before more all grows stands there =
    subst (λ (ms : List Moment). Has m (stops group first ms)) (sym grows.all)
    (subst (λ (xs : List Member). Has m xs) (sym (stops-append group first (before ++ more) grows.further))
    (has_left m (stops group first (before ++ more)) (map state_at (filter (is_stop group) grows.further)) (elim there [
      | inl is ↦ subst (λ (xs : List Member). Has m xs) (sym (stops-append group first before more))
          (has_left m (stops group first before) (map state_at (filter (is_stop group) more)) (subst (λ (x : Member). Has x (stops group first before)) (sym is) stands))
      | inr later ↦ stands_on group first now m before more later
    ])))

-- the destination after a batch is one of the states that a storage may be left at in it
pub outcome_stops : (group units : ℕ) (source : Member) (mode : Mode) (rules : RulesData) (size : ℕ) (now : Member) (t : TravelData)
    → Has (due_outcome units source mode rules size now t).member (stops group now (due_outcome units source mode rules size now t).moments)
outcome_stops group units source mode rules size now t = inr (go_stops group units (due_batch units source mode size now t) rules _ _)

-- ---- at the exits of the loop

-- where a session goes on, its next batch begins at a place
pub goes_to_place : (b : BatchData) (a : AppliedData) (t : TravelData) → arrival b a t ≡ None → IsPlace b.to
goes_to_place b a t goes = by_cut b.to (open_end b.to a.end (reduced t.budget (length a.entries)) goes)
  where
    by_cut : (to : Cut) → is_end to ≡ false → IsPlace to
    by_cut Start more = tt
    by_cut (At i) more = tt
    by_cut (After i) more = tt
    by_cut End more = absurd (true≢false more)

-- ---- a provider under way: it has come so far by what the moments so far commit

module _ {P : Type 0} {state : P → Member} {kept : P → Option Member} {settled : P → Type 0} {came : P → P → List Member → Type 0}
    (units : ℕ) (source : Member) (mode : Mode) (rules : RulesData) (size group : ℕ) (first : Member) (out : SessionResult) (now : Member) (t : TravelData)
    (seen : Member) where
  -- where one batch was applied and the session ends with it, as it was answered, all of the session is done
  pub batch_ends : {p q r : P} (later : TravelData) (answer : Option SessionEnd) (end : SessionEnd)
      → ((a b c : P) (m n : List Member) → came a b m → came b c n → came a c (m ++ n))
      → Travels (λ xs. Arrives state kept settled came p q xs now) units source mode rules size group first out now t
      → seen ≡ source
      → answer ≡ next_arrival units seen mode rules size now t → answer ≡ Some end
      → later ≡ next_travel units seen mode rules size now t
      → Arrives state kept settled came q r (committed group (due_outcome units seen mode rules size now t).moments) (due_outcome units seen mode rules size now t).member
      → Ended (Arrives state kept settled came p r) group out later end
  batch_ends {p = p} {q = q} {r = r} later answer end on travels same answered is travel comes =
      let ends : next_arrival units source mode rules size now t ≡ Some end = rw same at (sym answered ∙ is) in
      let all = travel_ends (λ xs. Arrives state kept settled came p q xs now) (Arrives state kept settled came p r)
      units source mode rules size group first out now t end travels ends (λ xs before. arrives_on on before (rw same at comes)) in record {
        steps = ap (λ (x : TravelData). x.steps) (rw same at travel) ∙ all.steps;
        end_is = all.end_is;
        came = all.came;
      }

  -- where it goes on, the session is further under way
  pub batch_goes : {p q r : P} (later : TravelData)
      → ((a b c : P) (m n : List Member) → came a b m → came b c n → came a c (m ++ n))
      → Travels (λ xs. Arrives state kept settled came p q xs now) units source mode rules size group first out now t
      → seen ≡ source
      → next_arrival units source mode rules size now t ≡ None
      → later ≡ next_travel units seen mode rules size now t
      → Arrives state kept settled came q r (committed group (due_outcome units seen mode rules size now t).moments) (due_outcome units seen mode rules size now t).member
      → Travels (λ xs. Arrives state kept settled came p r xs (state r)) units source mode rules size group first out (state r) later
  batch_goes {p = p} {q = q} {r = r} later on travels same goes travel comes =
      let done : Arrives state kept settled came q r (committed group (due_outcome units source mode rules size now t).moments) (due_outcome units source mode rules size now t).member =
      rw same at comes in
      let next = travel_on (λ xs. Arrives state kept settled came p q xs now)
      (λ xs. Arrives state kept settled came p r xs (due_outcome units source mode rules size now t).member)
      units source mode rules size group first out now t travels goes (λ xs before. arrives_on on before done) in
      rw (travel, same, done.at) next

  -- a fault in a batch breaks off the session
  pub batch_breaks : {broke : P → P → Member → Type 0} {p q r : P}
      → ((a b c : P) (m n : List Member) → came a b m → came b c n → came a c (m ++ n))
      → Travels (λ xs. Arrives state kept settled came p q xs now) units source mode rules size group first out now t
      → seen ≡ source
      → BreaksOff kept came broke q r (committed group (due_outcome units seen mode rules size now t).moments) (stops group now (due_outcome units seen mode rules size now t).moments)
      → BreaksOff kept came broke p r (committed group out.course.moments) (stops group first out.course.moments)
  batch_breaks {p = p} {q = q} on travels same breaks =
      let moments = (due_outcome units source mode rules size now t).moments in
      let grows = travel_grows (λ xs. Arrives state kept settled came p q xs now) units source mode rules size group first out now t travels in
      breaks_on (committed group travels.moments) (committed group moments) (committed group grows.further) (committed group out.course.moments)
      (stops group first out.course.moments) on travels.came (rw same at breaks)
      (committed_prefix group travels.moments moments out.course.moments grows)
      (λ m there. stop_on group first now m travels.moments moments out.course.moments grows travels.stands there)
