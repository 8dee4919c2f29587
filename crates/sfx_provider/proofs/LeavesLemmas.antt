-- Stretches that follow each other, by what each leaves of a provider.
use Rattle.std.proofs.Common.{◌≡◌, ◌∙◌, List, [], ◌∷◌, ◌++◌, Option, Some, None, append_assoc, ap, inl, inr, refl, sym, subst}
use Rattle.std.proofs.lemmas.List.{append-nil}
use Rattle.std.specs.Prelude.{IfSome, is_some}
use Rattle.sfx_model.specs.members.Members.{Member}
use Rattle.sfx_model.specs.world.Sets.{Has, IsPart}
use Rattle.sfx_provider.specs.Course.{CameInPart}
use Rattle.sfx_provider.specs.Leaves.{Arrives, BreaksOff, Rests}

-- ---- Rests

pub rests_self :
    {P : Type 0} {state : P → Member} {kept : P → Option Member} {settled : P → Type 0} {came : P → P → List Member → Type 0}
    → ((p : P) → came p p []) → (p : P) → Rests state kept settled came p p
rests_self none p = record { same = refl; stored = refl; by = none p; settles = λ so. so }

pub rests_on :
    {P : Type 0} {state : P → Member} {kept : P → Option Member} {settled : P → Type 0} {came : P → P → List Member → Type 0} {p q r : P}
    → ((a b c : P) (xs : List Member) → came a b [] → came b c xs → came a c xs)
    → Rests state kept settled came p q → Rests state kept settled came q r → Rests state kept settled came p r
rests_on {p = p} {q = q} {r = r} read first next = record {
  same = next.same ∙ first.same;
  stored = next.stored ∙ first.stored;
  by = read p q r [] first.by next.by;
  settles = λ so. next.settles (first.settles so);
}

-- ---- Arrives

pub arrives_later :
    {P : Type 0} {state : P → Member} {kept : P → Option Member} {settled : P → Type 0} {came : P → P → List Member → Type 0} {p q r : P}
    {made : List Member} {last : Member}
    → ((a b c : P) (xs : List Member) → came a b [] → came b c xs → came a c xs)
    → Rests state kept settled came p q → Arrives state kept settled came q r made last
    → Arrives state kept settled came p r made last
arrives_later {p = p} {q = q} {r = r} {made = made} read rests arrives = record {
  at = arrives.at;
  settles = arrives.settles;
  by = read p q r made rests.by arrives.by;
  tells = arrives.tells ∙ ap is_some rests.stored;
}

-- a provider that rests has come by no state to the one that it had
pub arrives_still :
    {P : Type 0} {state : P → Member} {kept : P → Option Member} {settled : P → Type 0} {came : P → P → List Member → Type 0} {p q : P}
    → settled p → Rests state kept settled came p q → Arrives state kept settled came p q [] (state p)
arrives_still so rests = record { at = rests.same; settles = rests.settles so; by = rests.by; tells = ap is_some rests.stored }

pub arrives_on :
    {P : Type 0} {state : P → Member} {kept : P → Option Member} {settled : P → Type 0} {came : P → P → List Member → Type 0} {p q r : P}
    {made more : List Member} {middle last : Member}
    → ((a b c : P) (xs ys : List Member) → came a b xs → came b c ys → came a c (xs ++ ys))
    → Arrives state kept settled came p q made middle → Arrives state kept settled came q r more last
    → Arrives state kept settled came p r (made ++ more) last
arrives_on {p = p} {q = q} {r = r} {made = made} {more = more} on first next = record {
  at = next.at;
  settles = next.settles;
  by = on p q r made more first.by next.by;
  tells = next.tells ∙ first.tells;
}

-- ---- BreaksOff

-- a part of what follows a stretch is a part of all
pub part_on :
    {P : Type 0} (came : P → P → List Member → Type 0) (broke : P → P → Member → Type 0) (p q r : P) (before step after all : List Member)
    → ((a b c : P) (xs ys : List Member) → came a b xs → came b c ys → came a c (xs ++ ys))
    → came p q before → CameInPart came broke q r step → before ++ (step ++ after) ≡ all → CameInPart came broke p r all
part_on came broke p q r before step after all on first part joins = elim part [
  | inl made ↦ inl (before ++ made.0, made.1 ++ after, rejoin made.0 made.1 made.2, on p q r before made.0 first made.3)
  | inr broken ↦ inr (broken.0, before ++ broken.1, broken.2, broken.3 ++ after, rejoin broken.1 (broken.2 ∷ broken.3) broken.4, on p q broken.0 before broken.1 first broken.5, broken.6)
]
  where
    rejoin : (made left : List Member) → made ++ left ≡ step → (before ++ made) ++ (left ++ after) ≡ all
    rejoin made left is =
        append_assoc before made (left ++ after)
        ∙ ap (λ l. before ++ l) (sym (append_assoc made left after) ∙ ap (λ l. l ++ after) is) ∙ joins

-- what is kept is among more states where these are
pub stored_among :
    (kept : Option Member) (some all : List Member)
    → IsPart some all → IfSome kept (λ k. Has k some) → IfSome kept (λ k. Has k all)
stored_among None some all part there = tt
stored_among (Some k) some all part there = part k there

-- a state that is kept is one of these where that is
pub stored_there :
    (kept : Option Member) (m : Member) (all : List Member)
    → IfSome kept (λ k. k ≡ m) → Has m all → IfSome kept (λ k. Has k all)
stored_there None m all told there = tt
stored_there (Some k) m all told there = subst (λ (x : Member). Has x all) (sym told) there

pub breaks_later :
    {P : Type 0} {state : P → Member} {kept : P → Option Member} {settled : P → Type 0} {came : P → P → List Member → Type 0}
    {broke : P → P → Member → Type 0} {p q r : P} {made stops : List Member}
    → ((a b c : P) (xs ys : List Member) → came a b xs → came b c ys → came a c (xs ++ ys))
    → Rests state kept settled came p q → BreaksOff kept came broke q r made stops → BreaksOff kept came broke p r made stops
breaks_later {came = came} {broke = broke} {p = p} {q = q} {r = r} {made = made} on rests breaks = record {
  part = part_on came broke p q r [] made [] made on rests.by breaks.part (append-nil made);
  stored = breaks.stored;
  tells = breaks.tells ∙ ap is_some rests.stored;
}

-- what breaks off behind a stretch breaks off in all
pub breaks_on :
    {P : Type 0} {state : P → Member} {kept : P → Option Member} {settled : P → Type 0} {came : P → P → List Member → Type 0}
    {broke : P → P → Member → Type 0} {p q r : P} {middle : Member} {stops : List Member} (before step after all every : List Member)
    → ((a b c : P) (xs ys : List Member) → came a b xs → came b c ys → came a c (xs ++ ys))
    → Arrives state kept settled came p q before middle → BreaksOff kept came broke q r step stops
    → before ++ (step ++ after) ≡ all → IsPart stops every → BreaksOff kept came broke p r all every
breaks_on {kept = kept} {came = came} {broke = broke} {p = p} {q = q} {r = r} {stops = stops} before step after all every on arrives breaks joins among = record {
  part = part_on came broke p q r before step after all on arrives.by breaks.part joins;
  stored = stored_among (kept r) stops every among breaks.stored;
  tells = breaks.tells ∙ arrives.tells;
}

-- a provider that rests has broken off before the first of any states
pub breaks_still :
    {P : Type 0} {state : P → Member} {kept : P → Option Member} {settled : P → Type 0} {came : P → P → List Member → Type 0}
    {broke : P → P → Member → Type 0} {p q : P} (made stops : List Member)
    → ((a : P) → settled a → IfSome (kept a) (λ k. k ≡ state a))
    → settled p → Rests state kept settled came p q → Has (state p) stops → BreaksOff kept came broke p q made stops
breaks_still {state = state} {kept = kept} {p = p} {q = q} made stops is_kept so rests there = record {
  part = inl ([], made, refl, rests.by);
  stored = stored_there (kept q) (state p) stops (rw rests.same at (is_kept q (rests.settles so))) there;
  tells = ap is_some rests.stored;
}

-- nor has one that came by the first of them and failed behind the last of these
pub breaks_behind :
    {P : Type 0} {state : P → Member} {kept : P → Option Member} {settled : P → Type 0} {came : P → P → List Member → Type 0}
    {broke : P → P → Member → Type 0} {p q : P} {made : List Member} {last : Member} (left all stops : List Member)
    → ((a : P) → settled a → IfSome (kept a) (λ k. k ≡ state a))
    → Arrives state kept settled came p q made last → made ++ left ≡ all → Has last stops
    → BreaksOff kept came broke p q all stops
breaks_behind {state = state} {kept = kept} {q = q} {made = made} {last = last} left all stops is_kept arrives joins there = record {
  part = inl (made, left, joins, arrives.by);
  stored = stored_there (kept q) last stops (rw arrives.at at (is_kept q arrives.settles)) there;
  tells = arrives.tells;
}
