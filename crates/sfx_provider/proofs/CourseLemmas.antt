-- Commits that are made one after another, of which the first are made and some are left.
use Rattle.std.proofs.Common.{◌≡◌, ℕ, ◌+◌, ◌<◌, List, [], ◌∷◌, ◌++◌, Option, length, drop, get_or, append_assoc, add-one, inl, inr, refl, sym, subst}
use Rattle.std.proofs.Math.Seq.{drop-cons}
use Rattle.std.proofs.lemmas.List.{append-nil}
use Rattle.sfx_model.specs.members.Members.{Member}
use Rattle.sfx_model.specs.world.Sets.{Has, IsPart}
use Rattle.sfx_model.proofs.world.SetsLemmas.{has_left, has_right}
use Rattle.sfx_provider.specs.Commit.{CommitData, after_commit}
use Rattle.sfx_provider.specs.Course.{CommitsFit, after_commits, states_after}
use Rattle.sfx_provider.specs.Leaves.{Arrives, BreaksOff}
use Rattle.sfx_provider.proofs.LeavesLemmas.{breaks_on}

-- The provider came by the states of the commits that were made, and the state takes those that are left,
-- which end where all of them do.
pub record Stands (units : ℕ) (all : List CommitData) (Came : List Member → Type 0) (first : Member) (left : List CommitData) (now : Member) : Type 0 where
  pub made : List Member
  pub came : Came made
  pub states : made ++ states_after units left now ≡ states_after units all first
  pub end : after_commits units left now ≡ after_commits units all first
  pub fit : CommitsFit units left now
  pub among : Has now (first ∷ made)

-- A list from one of its elements on.
pub opened :
    {A : Type 0} (xs : List A) (i : ℕ) (x : A)
    → x ≡ get_or xs i x → i < length xs → drop i xs ≡ x ∷ drop (i + 1) xs
opened xs i x is inside = rw (add-one, drop-cons xs i x inside, ← is) refl

-- One more commit is made.
pub stands_on :
    (units : ℕ) (all : List CommitData) (Came Next : List Member → Type 0) (first now new : Member)
    (left rest : List CommitData) (c : CommitData)
    → Stands units all Came first left now → left ≡ c ∷ rest → new ≡ after_commit units c now
    → ((made : List Member) → Came made → Next (made ++ new ∷ [])) → Stands units all Next first rest new
stands_on units all Came Next first now new left rest c stands is after on =
    let fit : CommitsFit units (c ∷ rest) now = rw is at stands.fit in
    let states : stands.made ++ states_after units (c ∷ rest) now ≡ states_after units all first = rw is at stands.states in
    let end : after_commits units (c ∷ rest) now ≡ after_commits units all first = rw is at stands.end in record {
      made = stands.made ++ new ∷ [];
      came = on stands.made stands.came;
      states = rw (append_assoc, after) states;
      end = rw after end;
      fit = rw after fit.1;
      among = inr (has_right new stands.made (new ∷ []) (inl refl));
    }

-- All commits are made.
pub stands_out :
    {P : Type 0} {state : P → Member} {kept : P → Option Member} {settled : P → Type 0} {came : P → P → List Member → Type 0} {p q : P}
    (units : ℕ) (all : List CommitData) (first : Member)
    → Stands units all (λ made. Arrives state kept settled came p q made (state q)) first [] (state q)
    → Arrives state kept settled came p q (states_after units all first) (after_commits units all first)
stands_out {state = state} {kept = kept} {settled = settled} {came = came} {p = p} {q = q} units all first stands =
    let states : stands.made ≡ states_after units all first = rw append-nil at stands.states in
    subst (λ (xs : List Member). Arrives state kept settled came p q xs (after_commits units all first)) states
    (subst (λ (m : Member). Arrives state kept settled came p q stands.made m) stands.end stands.came)

-- The next commit breaks off.
pub stands_off :
    {P : Type 0} {state : P → Member} {kept : P → Option Member} {settled : P → Type 0} {came : P → P → List Member → Type 0}
    {broke : P → P → Member → Type 0} {p q r : P} (units : ℕ) (all left rest : List CommitData) (c : CommitData) (first now : Member)
    → ((a b c : P) (xs ys : List Member) → came a b xs → came b c ys → came a c (xs ++ ys))
    → Stands units all (λ made. Arrives state kept settled came p q made now) first left now → left ≡ c ∷ rest
    → BreaksOff kept came broke q r (after_commit units c now ∷ []) (now ∷ after_commit units c now ∷ [])
    → BreaksOff kept came broke p r (states_after units all first) (first ∷ states_after units all first)
stands_off units all left rest c first now on stands is breaks =
    breaks_on stands.made (next ∷ []) after (states_after units all first) (first ∷ states_after units all first)
    on stands.came breaks states within
  where
    next : Member
    next = after_commit units c now

    after : List Member
    after = states_after units rest next

    states : stands.made ++ next ∷ after ≡ states_after units all first
    states = rw is at stands.states

    within : IsPart (now ∷ next ∷ []) (first ∷ states_after units all first)
    within x (inl same) =
        subst (λ (xs : List Member). Has x (first ∷ xs)) states
        (has_left x (first ∷ stands.made) (next ∷ after) (subst (λ (m : Member). Has m (first ∷ stands.made)) (sym same) stands.among))
    within x (inr (inl same)) =
        subst (λ (xs : List Member). Has x (first ∷ xs)) states
        (inr (has_right x stands.made (next ∷ after) (inl same)))
    within x (inr (inr none)) = absurd none
