-- The moments of a batch, and the states among them that are committed.
use Rattle.std.proofs.Common.{◌≡◌, ℕ, Bool, true, false, ◌&&◌, if◌then◌else◌, List, [], ◌∷◌, ◌++◌, append_assoc, map, Option, Some, None, inl, inr, refl, sym, ◌∙◌, ap}
use Rattle.std.specs.List.{filter}
use Rattle.std.proofs.lemmas.List.{map-append}
use Rattle.std.proofs.lemmas.List.Elements.{filter-append}
use Rattle.sfx_model.specs.declared.apply_end.ApplyEnd.{ApplyEnd}
use Rattle.sfx_model.specs.sessions.Batch.{BatchData}
use Rattle.sfx_model.specs.sessions.Entry.{Task, task_plan}
use Rattle.sfx_model.specs.members.Members.{Member}
use Rattle.sfx_model.specs.sessions.Moments.{Moment, Applied, Learned, Stopped, committed, divides, is_committed, is_stop, state_at, stops}
use Rattle.sfx_model.specs.sessions.Rules.{RulesData}
use Rattle.sfx_model.specs.sessions.Session.{Progress, finished, go, is_more, stop_before, stop_or, stopped, with_entry}
use Rattle.sfx_model.specs.world.Sets.{Has}

pub committed_append : (group : ℕ) (xs ys : List Moment) → committed group (xs ++ ys) ≡ committed group xs ++ committed group ys
committed_append group xs ys = rw (filter-append, map-append) refl

-- Where the batch does not end before a task, that is applied and the others follow.
pub go_on :
    (units : ℕ) (b : BatchData) (rules : RulesData) (p : Progress) (t : Task) (ts : List Task)
    → stop_before p.budget (task_plan units rules b p.member t) p.member ≡ None
    → go units b rules p (t ∷ ts) ≡ go units b rules (with_entry units b t (is_more ts) (task_plan units rules b p.member t) p) ts
unfolding go
go_on units b rules p t ts none =
    ap (λ (o : Option ApplyEnd). stop_or o p (go units b rules (with_entry units b t (is_more ts) (task_plan units rules b p.member t) p) ts)) none

-- Where it ends before the task, that is all.
pub go_off :
    (units : ℕ) (b : BatchData) (rules : RulesData) (p : Progress) (t : Task) (ts : List Task) (end : ApplyEnd)
    → stop_before p.budget (task_plan units rules b p.member t) p.member ≡ Some end
    → go units b rules p (t ∷ ts) ≡ stopped end p
unfolding go
go_off units b rules p t ts end is =
    ap (λ (o : Option ApplyEnd). stop_or o p (go units b rules (with_entry units b t (is_more ts) (task_plan units rules b p.member t) p) ts)) is

pub go_out : (units : ℕ) (b : BatchData) (rules : RulesData) (p : Progress) → go units b rules p [] ≡ finished units b p
unfolding go
go_out units b rules p = refl

-- The moments only grow.
pub record Begins (first all : List Moment) : Type 0 where
  pub rest : List Moment
  pub grows : first ++ rest ≡ all

begins_on : (first : List Moment) (x : Moment) (all : List Moment) → Begins (first ++ x ∷ []) all → Begins first all
begins_on first x all b = record { rest = x ∷ b.rest; grows = sym append_assoc' ∙ b.grows }
  where
    append_assoc' : (first ++ x ∷ []) ++ b.rest ≡ first ++ x ∷ b.rest
    append_assoc' = append_assoc first (x ∷ []) b.rest

pub go_prefix :
    (units : ℕ) (b : BatchData) (rules : RulesData) (p : Progress) (ts : List Task)
    → Begins p.moments (go units b rules p ts).moments
unfolding go
go_prefix units b rules p [] = record { rest = _; grows = refl }
go_prefix units b rules p (t ∷ ts) =
    by_end (stop_before p.budget (task_plan units rules b p.member t) p.member)
    (begins_on p.moments _ _ (go_prefix units b rules (with_entry units b t (is_more ts) (task_plan units rules b p.member t) p) ts))
  where
    by_end :
        (o : Option ApplyEnd)
        → Begins p.moments (go units b rules (with_entry units b t (is_more ts) (task_plan units rules b p.member t) p) ts).moments
        → Begins p.moments (stop_or o p (go units b rules (with_entry units b t (is_more ts) (task_plan units rules b p.member t) p) ts)).moments
    by_end None rest = rest
    by_end (Some end) rest = record { rest = _; grows = refl }

-- So what is committed so far is the front of all that is.
pub committed_prefix :
    (group : ℕ) (first all : List Moment) (b : Begins first all)
    → committed group first ++ committed group b.rest ≡ committed group all
committed_prefix group first all b = sym (committed_append group first b.rest) ∙ ap (committed group) b.grows

-- A state that is committed is one that a storage may be left at.
committed_stop : (group : ℕ) (x : Moment) → is_committed group x ≡ true → is_stop group x ≡ true
committed_stop group (Applied n more m) is = by_more more is
  where
    by_more : (b : Bool) → (b && divides group n) ≡ true → divides group n ≡ true
    by_more true e = e
    by_more false e = absurd (cc)
committed_stop group (Learned m) is = refl
committed_stop group (Stopped n m) is = refl

pub among_stops :
    (group : ℕ) (k first : Member) (ms : List Moment)
    → Has k (first ∷ committed group ms) → Has k (stops group first ms)
among_stops group k first ms (inl is) = inl is
among_stops group k first ms (inr has) = inr (later ms has)
  where
    later : (xs : List Moment) → Has k (committed group xs) → Has k (map state_at (filter (is_stop group) xs))
    later [] has = has
    later (x ∷ xs) has = by_tests (later xs) (is_committed group x) refl (is_stop group x) refl has
      where
        by_tests :
            (Has k (committed group xs) → Has k (map state_at (filter (is_stop group) xs)))
            → (c : Bool) → is_committed group x ≡ c → (s : Bool) → is_stop group x ≡ s
            → Has k (map state_at (if c then x ∷ filter (is_committed group) xs else filter (is_committed group) xs))
            → Has k (map state_at (if s then x ∷ filter (is_stop group) xs else filter (is_stop group) xs))
        by_tests rest true e true f has = elim has [ inl is ↦ inl is | inr there ↦ inr (rest there) ]
        by_tests rest true e false f has = let bad : is_stop group x ≡ true = committed_stop group x e in absurd (cc)
        by_tests rest false e true f has = inr (rest has)
        by_tests rest false e false f has = rest has
