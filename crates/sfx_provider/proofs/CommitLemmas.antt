-- What a commit does to a replica's state, and that the state stays consistent.
use Rattle.std.proofs.Common.{◌≡◌, ◌⊎◌, ℕ, ◌<◌, Bool, true, false, if◌then◌else◌, nat_eq, List, [], ◌∷◌, Option, Some, None, inl, inr, refl, sym, ◌∙◌, ap, subst, arith}
use Rattle.std.proofs.lemmas.Bool.{eqb-true, eq-eqb}
use Rattle.sfx_ids.specs.declared.cut.Cut.{Cut}
use Rattle.sfx_ids.specs.declared.cut.Cut.TheVariants.{At}
use Rattle.sfx_ids.specs.declared.item_id.ItemId.{ItemId}
use Rattle.sfx_ids.specs.declared.version.Version.{Version}
use Rattle.sfx_ids.specs.ItemId.{creation_of}
use Rattle.sfx_segments.specs.Segments.{IsPlace}
use Rattle.sfx_knowledge.specs.Knowledge.{IsKnowledge, HasTicks, laid_over, tick_at}
use Rattle.sfx_knowledge.specs.Forms.{with_own}
use Rattle.sfx_knowledge.proofs.FormsLemmas.{IsKnowledge-with_own, ticks-with_own}
use Rattle.sfx_model.specs.members.Consistent.{IsConsistent, IsOwned}
use Rattle.sfx_item.specs.Item.{ItemState}
use Rattle.sfx_model.specs.members.Members.{Member, state_of, vector_at}
use Rattle.sfx_model.specs.world.Sets.{Has}
use Rattle.sfx_model.specs.world.World.{IsContained}
use Rattle.sfx_model.proofs.members.AscendingItems.{before_differs, ids_compared}
use Rattle.sfx_model.specs.members.ItemLists.{put_all}
use Rattle.sfx_provider.specs.Commit.{CommitData, after_commit}
use Rattle.sfx_provider.specs.Exact.{Commits}
use Rattle.sfx_provider.specs.Fits.{FitsMember, IsKnownItem}
use Rattle.sfx_items.proofs.ItemListLemmas.{drops_gone, drops_others, drops_ascending, puts_found, puts_others, puts_ascending}

-- The knowledge that is stored is in its form, and its ticks are those of the commit, but for the replica's
-- own.
pub record IsStored (units : ℕ) (c : CommitData) (m : Member) : Type 0 where
  pub form : IsKnowledge units (with_own units m.id 0 c.knowledge)
  pub ticks : HasTicks units (with_own units m.id 0 c.knowledge) (laid_over m.id 0 (tick_at c.knowledge))

pub stored :
    (units : ℕ) (c : CommitData) (m : Member)
    → IsConsistent units m → IsKnowledge units c.knowledge → IsStored units c m
stored units c m good form = record {
  form = IsKnowledge-with_own units m.id 0 c.knowledge form (omega arith) good.id;
  ticks = ticks-with_own units m.id 0 c.knowledge form (omega arith) good.id;
}

-- The vectors afterwards are those of the commit.
vectors :
    (units : ℕ) (c : CommitData) (m : Member)
    → IsStored units c m → FitsMember units c m
    → (place : Cut) (u r : ℕ) → IsPlace place → u < units
    → vector_at (after_commit units c m) place u r ≡ tick_at c.knowledge place u r
vectors units c m known fits place u r is small = by_test (nat_eq r m.id) refl
  where
    by_test :
        (b : Bool) → nat_eq r m.id ≡ b
        → (if b then c.clock else tick_at (after_commit units c m).knowledge place u r) ≡ tick_at c.knowledge place u r
    by_test true own =
        subst (λ (x : ℕ). c.clock ≡ tick_at c.knowledge place u x) (sym (eqb-true r m.id own))
        (sym (fits.own place u is small))
    by_test false other =
        let ticks : tick_at (after_commit units c m).knowledge place u r ≡ laid_over m.id 0 (tick_at c.knowledge) place u r =
        known.ticks place u r is small in
        ticks ∙ ap (λ (b : Bool). if b then 0 else tick_at c.knowledge place u r) other

pub commits_exact :
    (units : ℕ) (c : CommitData) (m : Member)
    → IsConsistent units m → IsStored units c m → FitsMember units c m → Commits units c m (after_commit units c m)
commits_exact units c m good known fits = record {
  id = refl;
  clock = refl;
  knowledge = vectors units c m known fits;
  forgotten = refl;
  put = λ i state is.
      drops_others c.drops (put_all c.puts m.items) i
      (λ has. let bad : Some state ≡ None = sym is ∙ fits.apart i has in cc)
      ∙ puts_found c.puts m.items i state fits.puts is;
  dropped = λ i has. drops_gone c.drops (put_all c.puts m.items) i (puts_ascending c.puts m.items good.ascending) has;
  others = λ i none not.
      drops_others c.drops (put_all c.puts m.items) i not ∙ puts_others c.puts m.items i none;
}

-- An id is listed, or it is not.
listed : (i : ItemId) (is : List ItemId) → Has i is ⊎ (¬ Has i is)
listed i [] = inr (λ has. has)
listed i (j ∷ js) =
    elim (ids_compared i j) [
      | inl same ↦ inl (inl same)
      | inr apart ↦ elim (listed i js) [
        | inl there ↦ inl (inr there)
        | inr not ↦ inr (λ has. elim has [
          | inl same ↦ elim apart [
            | inl below ↦ before_differs i j below same
            | inr above ↦ before_differs j i above (sym same)
          ]
          | inr there ↦ not there
        ])
      ]
    ]

-- An item that is there afterwards is one that was put, or one that was there before.
pub origin :
    (units : ℕ) (c : CommitData) (m n : Member) (i : ItemId) (state : ItemState)
    → Commits units c m n → state_of n.items i ≡ Some state
    → (state_of c.puts i ≡ Some state) ⊎ (state_of m.items i ≡ Some state)
origin units c m n i state commits is = by_put (state_of c.puts i) refl
  where
    by_put :
        (o : Option ItemState) → state_of c.puts i ≡ o
        → (state_of c.puts i ≡ Some state) ⊎ (state_of m.items i ≡ Some state)
    by_put (Some put) e = inl (e ∙ sym (commits.put i put e) ∙ is)
    by_put None e =
        elim (listed i c.drops) [
          | inl has ↦ let bad : None ≡ Some state = sym (commits.dropped i has) ∙ is in absurd (cc)
          | inr not ↦ inr (sym (commits.others i e not) ∙ is)
        ]

-- What is known of an item that is put is known afterwards, and so is what was known of one that stays.
put_owned :
    (units : ℕ) (c : CommitData) (m n : Member) (i : ItemId) (state : ItemState)
    → Commits units c m n → IsKnownItem units c.knowledge i state → IsOwned units n i state
put_owned units c m n i state commits known = record {
  whole = known.whole;
  creation = λ u small.
      rw (commits.knowledge (At i) u (creation_of i).replica tt small) (known.creation u small);
  versions = λ u v small is. rw (commits.knowledge (At i) u v.replica tt small) (known.versions u v small is);
}

kept_owned :
    (units : ℕ) (c : CommitData) (m n : Member) (i : ItemId) (state : ItemState)
    → Commits units c m n → FitsMember units c m → IsOwned units m i state → IsOwned units n i state
kept_owned units c m n i state commits fits owned = record {
  whole = owned.whole;
  creation = λ u small. higher u (creation_of i) small (owned.creation u small);
  versions = λ u v small is. higher u v small (owned.versions u v small is);
}
  where
    higher :
        (u : ℕ) (v : Version) → u < units → IsContained (vector_at m (At i) u) v
        → IsContained (vector_at n (At i) u) v
    higher u v small low =
        let more = fits.knowledge (At i) u v.replica tt small in
        let same = commits.knowledge (At i) u v.replica tt small in
        omega (arith, low, more, same)

-- The state after a commit is consistent.
pub commits_consistent :
    (units : ℕ) (c : CommitData) (m : Member)
    → IsConsistent units m → IsStored units c m → FitsMember units c m
    → IsConsistent units (after_commit units c m)
commits_consistent units c m good known fits =
    let exact = commits_exact units c m good known fits in record {
      some = good.some;
      id = good.id;
      clock = fits.most;
      knowledge = known.form;
      unstored = λ place u is small.
          known.ticks place u m.id is small ∙ own_tick m.id (tick_at c.knowledge place u m.id);
      forgets = fits.forgets;
      forgotten = fits.made;
      ascending = drops_ascending c.drops (put_all c.puts m.items) (puts_ascending c.puts m.items good.ascending);
      items = λ i state is.
          elim (origin units c m (after_commit units c m) i state exact is) [
            | inl put ↦
                put_owned units c m (after_commit units c m) i state exact (fits.items i state put)
            | inr was ↦
                kept_owned units c m (after_commit units c m) i state exact fits (good.items i state was)
          ];
      names = fits.names;
    }
  where
    own_tick : (r tick : ℕ) → (if nat_eq r r then 0 else tick) ≡ 0
    own_tick r tick = rw (eq-eqb r r refl) refl
