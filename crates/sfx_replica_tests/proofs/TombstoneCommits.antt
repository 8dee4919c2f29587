-- A commit that puts a tombstone in the place of a present item.
use Rattle.std.proofs.Common.{◌≡◌, ℕ, ◌<◌, Bool, true, false, List, [], ◌∷◌, ◌++◌, Some, None, refl, sym, ◌∙◌, ap, subst, arith}
use Rattle.sfx_ids.specs.declared.cut.Cut.TheVariants.{At}
use Rattle.sfx_ids.specs.declared.item_id.ItemId.{ItemId}
use Rattle.sfx_ids.specs.declared.version.Version.{Version}
use Rattle.sfx_ids.specs.ItemId.{creation_of}
use Rattle.sfx_knowledge.specs.Knowledge.{KnowsVersion}
use Rattle.sfx_model.specs.members.Consistent.{IsConsistent, live_name}
use Rattle.sfx_model.specs.world.Events.{same_item}
use Rattle.sfx_item.specs.Item.{ItemState, Dead, ItemData}
use Rattle.sfx_model.specs.members.Members.{Member, state_of}
use Rattle.std.specs.Prelude.{IsSome}
use Rattle.sfx_model.specs.members.ItemLists.{put_item}
use Rattle.sfx_provider.specs.Commit.{CommitData, commit_of}
use Rattle.sfx_provider.specs.Course.{CommitsFit}
use Rattle.sfx_provider.specs.Fits.{FitsMember, IsKnownItem}
use Rattle.sfx_provider.specs.Head.{head_of}
use Rattle.sfx_provider.proofs.HeadLemmas.{drop_fits, head_ticks, put_fits, unchanged_fits, unchanged_same}
use Rattle.sfx_items.proofs.ItemListLemmas.{puts_found, puts_others}

abbrev pub tombstone : ItemId → ItemData
tombstone i = record { id = i; state = Dead (creation_of i) }

known :
    (units : ℕ) (m : Member) (i : ItemId) (state : ItemState)
    → IsConsistent units m → state_of m.items i ≡ Some state
    → IsKnownItem units (head_of units m).knowledge i (Dead (creation_of i))
known units m i state good there = record {
  whole = tt;
  creation = created;
  versions = λ u v small is.
      let same : creation_of i ≡ v = cc in
      subst (λ (w : Version). KnowsVersion (head_of units m).knowledge i u w) same (created u small);
}
  where
    created : (u : ℕ) → u < units → KnowsVersion (head_of units m).knowledge i u (creation_of i)
    created u small =
        let same = head_ticks units m good (At i) u (creation_of i).replica tt small in
        let low = (good.items i state there).creation u small in
        omega (arith, same, low)

-- A live item that is there afterwards was there before.
live_before :
    (i : ItemId) (xs : List ItemData) (j : ItemId) (x : ItemState) (a : List ℕ)
    → state_of (put_item (tombstone i) xs) j ≡ Some x → live_name x ≡ Some a → state_of xs j ≡ Some x
live_before i xs j x a there live = by_test (same_item i j) refl
  where
    by_test : (b : Bool) → same_item i j ≡ b → state_of xs j ≡ Some x
    by_test true same =
        let dead : state_of (put_item (tombstone i) xs) j ≡ Some (Dead (creation_of i)) =
        puts_found (tombstone i ∷ []) xs j (Dead (creation_of i)) ((λ y has. absurd has), tt) (rw same refl) in
        let is : Dead (creation_of i) ≡ x = cc in
        let bad : None ≡ Some a = ap live_name is ∙ live in
        absurd (cc)
    by_test false other = sym (puts_others (tombstone i ∷ []) xs j (rw other refl)) ∙ there

pub burying_fits :
    (units : ℕ) (m : Member) (i : ItemId) (state : ItemState)
    → IsConsistent units m → state_of m.items i ≡ Some state
    → FitsMember units (record (commit_of (head_of units m)) { puts = tombstone i ∷ [] }) m
burying_fits units m i state good there =
    put_fits units m (tombstone i) good (known units m i state good there)
    (λ j k x y a b apart at_j at_k name_j name_k.
    good.names j k x y a b apart (live_before i m.items j x a at_j name_j) (live_before i m.items k y b at_k name_k) name_j name_k)

-- The same of a commit that is the head's but for one tombstone put, or for one item dropped.
pub burying_fits_by :
    (units : ℕ) (m : Member) (i : ItemId) (state : ItemState) (c : CommitData) (puts : List ItemData)
    → IsConsistent units m → Some state ≡ state_of m.items i → c ≡ commit_of (head_of units m)
    → puts ≡ c.puts ++ tombstone i ∷ [] → FitsMember units (record c { puts = puts }) m
burying_fits_by units m i state c puts good there is put =
    rw (put, is) (burying_fits units m i state good (sym there))

pub dropping_fits_by :
    (units : ℕ) (m : Member) (i : ItemId) (state : ItemState) (c : CommitData) (drops : List ItemId)
    → IsConsistent units m → Some state ≡ state_of m.items i → c ≡ commit_of (head_of units m)
    → drops ≡ c.drops ++ i ∷ [] → FitsMember units (record c { drops = drops }) m
dropping_fits_by units m i state c drops good there is drop =
    rw (drop, is) (drop_fits units m i good (subst IsSome there refl))

-- A commit that changes nothing, and then one that fits.
pub both_fit :
    (units : ℕ) (m : Member) (c d : CommitData) (all : List CommitData)
    → IsConsistent units m → c ≡ commit_of (head_of units m) → FitsMember units d m
    → all ≡ c ∷ d ∷ [] → CommitsFit units all m
both_fit units m c d all good is fits made =
    let second = subst (λ (x : Member). FitsMember units d x) (sym (unchanged_same units m good)) fits in
    rw (made, is) (unchanged_fits units m good, (second, tt))
