-- A session leaves the destination as it was committed last.
use Rattle.std.proofs.Common.{◌≡◌, ℕ, zero, suc, ◌+◌, Bool, true, false, Option, Some, None, List, [], ◌∷◌, ◌++◌, length, map, refl, sym, ap, ◌∙◌}
use Rattle.std.proofs.lemmas.List.{length-append, map-append}
use Rattle.std.proofs.lemmas.List.Elements.{filter-append}
use Rattle.sfx_ids.specs.declared.cut.Cut.{Cut}
use Rattle.sfx_ids.specs.declared.cut.Cut.TheVariants.{Start}
use Rattle.sfx_model.specs.declared.apply_end.ApplyEnd.{ApplyEnd}
use Rattle.sfx_model.specs.declared.mode.Mode.{Mode}
use Rattle.sfx_model.specs.declared.session_end.SessionEnd.{SessionEnd}
use Rattle.sfx_model.specs.sessions.Batch.{BatchData, batch_from, mode_of}
use Rattle.sfx_model.specs.sessions.Clashes.{Plan}
use Rattle.sfx_model.specs.sessions.Entry.{Task, after_task, entry_of, task_plan}
use Rattle.sfx_model.specs.sessions.MemberKnowledge.{laid_known}
use Rattle.sfx_model.specs.members.Members.{Member}
use Rattle.sfx_model.specs.sessions.Moments.{Moment, Applied, Learned, Stopped, committed, divides}
use Rattle.sfx_model.specs.sessions.Rules.{RulesData}
use Rattle.sfx_model.specs.sessions.Session.{Course, Progress, SessionResult, after_range, outcome_of, begin, ended, ending, go, is_more, lefts, session_from, session_of, set_out, stop_before, stop_or, stopped, tasks_of, with_batch, with_entry}
use Rattle.sfx_community.specs.Turn.{last_or}

pub last_or-append : {A : Type 0} (x : A) (xs ys : List A) → last_or x (xs ++ ys) ≡ last_or (last_or x xs) ys
last_or-append x [] ys = refl
last_or-append x (y ∷ xs) ys = last_or-append y xs ys

pub last_or-map : {A B : Type 0} (f : A → B) (x : A) (xs : List A) → last_or (f x) (map f xs) ≡ f (last_or x xs)
last_or-map f x [] = refl
last_or-map f x (y ∷ xs) = last_or-map f y xs

committed-append : (group : ℕ) (xs ys : List Moment) → committed group (xs ++ ys) ≡ committed group xs ++ committed group ys
committed-append group xs ys = rw (filter-append, map-append) refl

-- the last state that is committed, and that before the first where none is
abbrev pub last_committed : ℕ → Member → List Moment → Member
last_committed group first moments = last_or first (committed group moments)

last_committed-append : (group : ℕ) (m : Member) (xs ys : List Moment)
    → last_committed group m (xs ++ ys) ≡ last_committed group (last_committed group m xs) ys
last_committed-append group m xs ys =
    ap (λ (ms : List Member). last_or m ms) (committed-append group xs ys) ∙ last_or-append m (committed group xs) (committed group ys)

-- after whole groups the last state is committed, where others follow
abbrev IsAtGroup : ℕ → Member → Progress → Type 0
IsAtGroup group m p = divides group (length p.entries) ≡ true → last_committed group m p.moments ≡ p.member

-- one more moment, which is committed
one_more : (group : ℕ) (m n : Member) (moments : List Moment) (moment : Moment) → committed group (moment ∷ []) ≡ n ∷ []
    → last_committed group m (moments ++ moment ∷ []) ≡ n
one_more group m n moments moment is =
    last_committed-append group m moments (moment ∷ []) ∙ ap (λ (ms : List Member). last_or (last_committed group m moments) ms) is

-- one more moment, which is not
none_more : (group : ℕ) (m : Member) (moments : List Moment) (moment : Moment) → committed group (moment ∷ []) ≡ []
    → last_committed group m (moments ++ moment ∷ []) ≡ last_committed group m moments
none_more group m moments moment is =
    last_committed-append group m moments (moment ∷ []) ∙ ap (λ (ms : List Member). last_or (last_committed group m moments) ms) is

stop_ends : (group : ℕ) (m : Member) (end : ApplyEnd) (p : Progress) → IsAtGroup group m p
    → last_committed group m (stopped end p).moments ≡ (stopped end p).member
stop_ends group m end p at = by_group (divides group (length p.entries)) refl where
  by_group : (b : Bool) → divides group (length p.entries) ≡ b
      → last_committed group m (p.moments ++ Stopped (length p.entries) p.member ∷ []) ≡ p.member
  by_group true whole =
      none_more group m p.moments (Stopped (length p.entries) p.member) (rw whole refl) ∙ at whole
  by_group false part = one_more group m p.member p.moments (Stopped (length p.entries) p.member) (rw part refl)

entry_ends : (group : ℕ) (m : Member) (units : ℕ) (b : BatchData) (t : Task) (plan : Plan) (p : Progress)
    → IsAtGroup group m (with_entry units b t true plan p)
entry_ends group m units b t plan p whole =
    let n = after_task units b t plan p.member in
    let count : length (p.entries ++ entry_of units t plan p.member ∷ []) ≡ length p.entries + 1 = length-append p.entries (entry_of units t plan p.member ∷ []) in
    let here : divides group (length p.entries + 1) ≡ true = ap (divides group) (sym count) ∙ whole in
    one_more group m n p.moments (Applied (length p.entries + 1) true n) (rw here refl)

-- a batch
go_ends : (group : ℕ) (m : Member) (units : ℕ) (b : BatchData) (rules : RulesData) (p : Progress) (ts : List Task)
    → (is_more ts ≡ true → IsAtGroup group m p)
    → last_committed group m (go units b rules p ts).moments ≡ (go units b rules p ts).member
unfolding go
go_ends group m units b rules p [] at =
    let n = after_range units b (lefts p.entries) p.member in
    one_more group m n p.moments (Learned n) refl
go_ends group m units b rules p (t ∷ ts) at =
    by_stop (stop_before p.budget (task_plan units rules b p.member t) p.member)
    (go_ends group m units b rules (with_entry units b t (is_more ts) (task_plan units rules b p.member t) p) ts
    (λ others. goes_on (is_more ts) others)) where
      goes_on : (more : Bool) → more ≡ true → IsAtGroup group m (with_entry units b t more (task_plan units rules b p.member t) p)
      goes_on true others = entry_ends group m units b t (task_plan units rules b p.member t) p
      goes_on false others = let bad : false ≡ true = others in absurd (cc)

      by_stop : (stop : Option ApplyEnd)
          → last_committed group m (go units b rules (with_entry units b t (is_more ts) (task_plan units rules b p.member t) p) ts).moments
          ≡ (go units b rules (with_entry units b t (is_more ts) (task_plan units rules b p.member t) p) ts).member
          → last_committed group m (stop_or stop p (go units b rules (with_entry units b t (is_more ts) (task_plan units rules b p.member t) p) ts)).moments
          ≡ (stop_or stop p (go units b rules (with_entry units b t (is_more ts) (task_plan units rules b p.member t) p) ts)).member
      by_stop (Some end) rest = stop_ends group m end p (at refl)
      by_stop None rest = rest

batch_ends : (group : ℕ) (units : ℕ) (b : BatchData) (rules : RulesData) (budget : Option ℕ) (m : Member)
    → last_committed group m (outcome_of units b rules budget m).moments ≡ (outcome_of units b rules budget m).member
batch_ends group units b rules budget m = go_ends group m units b rules (begin budget m) (tasks_of units b m) (λ more whole. refl)

-- a session
end_or : (group : ℕ) (m : Member) (c : Course) (end : Option SessionEnd) (next : SessionResult)
    → last_committed group m c.moments ≡ c.member → last_committed group m next.course.moments ≡ next.course.member
    → last_committed group m (ended c end next).course.moments ≡ (ended c end next).course.member
end_or group m c (Some end) next here there = here
end_or group m c None next here there = there

session_ends : (bound group : ℕ) (m : Member) (units : ℕ) (source : Member) (mode : Mode) (rules : RulesData) (size : ℕ) (c : Course) (from : Cut)
    → last_committed group m c.moments ≡ c.member
    → last_committed group m (session_from bound units source mode rules size c from).course.moments
    ≡ (session_from bound units source mode rules size c from).course.member
unfolding session_from
session_ends zero group m units source mode rules size c from at = at
session_ends (suc bound) group m units source mode rules size c from at =
    let b = batch_from units source mode size (laid_known units c.member) from in
    let o = outcome_of units b rules c.budget c.member in
    let d = with_batch b o c in
    let here : last_committed group m d.moments ≡ d.member =
    last_committed-append group m c.moments o.moments ∙ (ap (λ (n : Member). last_committed group n o.moments) at ∙ batch_ends group units b rules c.budget c.member) in
    end_or group m d (ending b.to o.end d.budget) (session_from bound units source mode rules size d b.to) here
    (session_ends bound group m units source mode rules size d b.to here)

-- the whole of it
pub session_commits : (group units : ℕ) (source m : Member) (rules : RulesData) (size : ℕ) (cut : Option ℕ)
    → last_committed group m (session_of units source m rules size cut).course.moments ≡ (session_of units source m rules size cut).course.member
unfolding session_of
session_commits group units source m rules size cut =
    session_ends (length source.items + 1) group m units source (mode_of units source.forgotten (laid_known units m)) rules size (set_out cut m) Start refl
