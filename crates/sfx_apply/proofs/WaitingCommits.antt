-- What waits to be after_commit goes on waiting: the replica's state takes it.
use Rattle.std.proofs.Common.{◌≡◌, ℕ, ◌<◌, ◌≤◌, max, Bool, true, false, not, ◌&&◌, if◌then◌else◌, List, [], Some, None, inl, inr, refl, sym, ◌∙◌, ap, subst, arith}
use Rattle.std.specs.Option.{option_or}
use Rattle.sfx_ids.specs.declared.cut.Cut.{Cut}
use Rattle.sfx_ids.specs.declared.cut.Cut.TheVariants.{At, After}
use Rattle.sfx_ids.specs.declared.item_id.ItemId.{ItemId}
use Rattle.sfx_ids.specs.declared.version.Version.{Version}
use Rattle.sfx_ids.specs.Cut.{is_between}
use Rattle.sfx_ids.specs.ItemId.{creation_of}
use Rattle.sfx_segments.specs.Segments.{IsPlace}
use Rattle.sfx_knowledge.specs.Knowledge.{Known, KnowsVersion, IsKnowledge, learned_ticks, tick_at}
use Rattle.sfx_knowledge.specs.Skips.{is_skipped, is_skipped_at}
use Rattle.sfx_knowledge.proofs.FormsLemmas.{IsKnowledge-with_own}
use Rattle.sfx_model.specs.declared.mark.Mark.{Mark}
use Rattle.sfx_model.specs.declared.mark.Mark.TheVariants.{Stays}
use Rattle.sfx_model.specs.sessions.Batch.{BatchData, IsBatch, IsSent}
use Rattle.sfx_model.specs.sessions.Clashes.{Plan}
use Rattle.sfx_model.specs.members.Consistent.{IsConsistent, IsOwned, AreApart}
use Rattle.sfx_model.specs.sessions.Draft.{is_left}
use Rattle.sfx_model.specs.sessions.Entry.{left_from}
use Rattle.sfx_model.specs.world.Events.{same_item}
use Rattle.sfx_model.specs.sessions.MemberKnowledge.{learned_known}
use Rattle.sfx_item.specs.Item.{ItemState, ItemData}
use Rattle.sfx_model.specs.members.Members.{Member, state_of, vector_at}
use Rattle.sfx_model.specs.members.ItemLists.{drop_all, put_all, put_item}
use Rattle.sfx_model.specs.world.Sets.{Has}
use Rattle.sfx_model.specs.world.Units.{at_unit}
use Rattle.sfx_model.proofs.sessions.LearnedKnowledge.{place_alone}
use Rattle.sfx_model.proofs.world.StepKeepsWorld.{same_item_is, same_item_self}
use Rattle.sfx_model.proofs.sessions.StoredKnowledge.{learned_form, learned_has}
use Rattle.sfx_provider.specs.Commit.{CommitData, commit_of, after_commit}
use Rattle.sfx_provider.specs.Fits.{HasOwnClock, IsKnownItem}
use Rattle.sfx_provider.proofs.CommitLemmas.{commits_consistent, commits_exact, stored}
use Rattle.sfx_provider.proofs.HeadLemmas.{unchanged_fits}
use Rattle.sfx_provider.specs.Head.{HeadData, head_of}
use Rattle.sfx_apply.specs.Work.{KnowsNoMore, Waits, cleared, put_taken, taken_state, with_marks, with_range}
use Rattle.sfx_apply.proofs.ClashLookups.{put_apart}
use Rattle.sfx_apply.proofs.SkippingDrafts.{Brings}
use Rattle.sfx_items.proofs.ItemListLemmas.{look_up_one, put_on}
use Rattle.sfx_model.proofs.members.ItemListsLemmas.{put_ascending}
use Rattle.sfx_apply.proofs.LeftUnits.{left_is}
use Rattle.sfx_apply.proofs.SkippingPlans.{IsFree, SkipsAll}

-- A commit that changes nothing is taken.
pub none_waits : (units : ℕ) (m : Member) → IsConsistent units m → Waits units (commit_of (head_of units m)) m
none_waits units m good = record {
  fits = unchanged_fits units m good;
  form = IsKnowledge-with_own units m.id m.clock m.knowledge good.knowledge good.clock good.id;
  keeps = refl;
}

-- So is that of a head that is read.
pub head_waits :
    (units : ℕ) (m n : Member) (h : HeadData) (c : CommitData)
    → IsConsistent units m → h ≡ head_of units m → n ≡ m → c ≡ commit_of h → Waits units c n
head_waits units m n h c good head same is =
    subst (λ (x : Member). Waits units c x) (sym same) (subst (λ (x : CommitData). Waits units x m) (sym (is ∙ ap commit_of head)) (none_waits units m good))

-- More is known, but no more of the replica itself.
abbrev knowing : Known → CommitData → CommitData
knowing k c = record { clock = c.clock; knowledge = k; forgotten = c.forgotten; puts = c.puts; drops = c.drops }

known_higher :
    (units : ℕ) (k l : Known) (i : ItemId) (u : ℕ) (v : Version)
    → ((place : Cut) (x r : ℕ) → IsPlace place → x < units → tick_at k place x r ≤ tick_at l place x r)
    → u < units → KnowsVersion k i u v → KnowsVersion l i u v
known_higher units k l i u v more small low = let high = more (At i) u v.replica tt small in omega (arith, low, high)

more_known :
    (units : ℕ) (c : CommitData) (k : Known) (m : Member)
    → Waits units c m → IsKnowledge units k
    → ((place : Cut) (u r : ℕ) → IsPlace place → u < units → tick_at c.knowledge place u r ≤ tick_at k place u r)
    → HasOwnClock units m.id c.clock k → Waits units (knowing k c) m
more_known units c k m waits form more own = record {
  fits = record {
    clock = waits.fits.clock;
    knowledge = λ place u r is inside.
        let low = waits.fits.knowledge place u r is inside in
        let high = more place u r is inside in
        omega (arith, low, high);
    forgets = waits.fits.forgets;
    forgotten = waits.fits.forgotten;
    most = waits.fits.most;
    own = own;
    made = waits.fits.made;
    puts = waits.fits.puts;
    items = λ i state is. let known = waits.fits.items i state is in record {
      whole = known.whole;
      creation = λ u small. known_higher units c.knowledge k i u (creation_of i) more small (known.creation u small);
      versions = λ u v small at. known_higher units c.knowledge k i u v more small (known.versions u v small at);
    };
    drops = waits.fits.drops;
    present = waits.fits.present;
    apart = waits.fits.apart;
    names = waits.fits.names;
  };
  form = form;
  keeps = waits.keeps;
}

-- One more item is put.
abbrev putting : ItemData → CommitData → CommitData
putting x c = record { clock = c.clock; knowledge = c.knowledge; forgotten = c.forgotten; puts = put_item x c.puts; drops = c.drops }

nothing_dropped : {A : Type 0} (c : CommitData) (i : ItemId) → c.drops ≡ [] → Has i c.drops → A
nothing_dropped c i none has = absurd (subst (λ (is : List ItemId). Has i is) none has)

items_putting :
    (units : ℕ) (x : ItemData) (c : CommitData) (m : Member)
    → IsConsistent units m → Waits units c m
    → (after_commit units (putting x c) m).items ≡ put_item x (after_commit units c m).items
items_putting units x c m good waits =
    ap (λ (is : List ItemId). drop_all is (put_all (put_item x c.puts) m.items)) waits.keeps
    ∙ put_on x c.puts m.items waits.fits.puts good.ascending
    ∙ ap (λ (is : List ItemId). put_item x (drop_all is (put_all c.puts m.items))) (sym waits.keeps)

one_more :
    (units : ℕ) (x : ItemData) (c : CommitData) (m : Member)
    → IsConsistent units m → Waits units c m → IsKnownItem units c.knowledge x.id x.state
    → IsFree (after_commit units c m).items x.id x.state → Waits units (putting x c) m
one_more units x c m good waits known free = record {
  fits = record {
    clock = waits.fits.clock;
    knowledge = waits.fits.knowledge;
    forgets = waits.fits.forgets;
    forgotten = waits.fits.forgotten;
    most = waits.fits.most;
    own = waits.fits.own;
    made = waits.fits.made;
    puts = put_ascending x c.puts waits.fits.puts;
    items = λ i state is. by_id i state (same_item x.id i) refl (sym (look_up_one x c.puts i) ∙ is);
    drops = waits.fits.drops;
    present = waits.fits.present;
    apart = λ i has. nothing_dropped c i waits.keeps has;
    names = subst AreApart (sym (items_putting units x c m good waits))
        (put_apart x (after_commit units c m).items waits.fits.names free);
  };
  form = waits.form;
  keeps = waits.keeps;
}
  where
    by_id :
        (i : ItemId) (state : ItemState) (b : Bool)
        → same_item x.id i ≡ b → option_or (if b then Some x.state else None) (state_of c.puts i) ≡ Some state
        → IsKnownItem units c.knowledge i state
    by_id i state true e is =
        let same : x.state ≡ state = cc in
        subst (λ (j : ItemId). IsKnownItem units c.knowledge j state) (same_item_is x.id i e)
        (subst (λ (s : ItemState). IsKnownItem units c.knowledge x.id s) same known)
    by_id i state false e is = waits.fits.items i state is

-- What is learned_ticks is not less, and of the replica itself it is the clock.
learned_more :
    (lo hi : Cut) (skipped : List (ItemId × ℕ)) (here there : Cut → ℕ → ℕ → ℕ) (place : Cut) (u r : ℕ)
    → here place u r ≤ learned_ticks lo hi skipped here there place u r
learned_more lo hi skipped here there place u r = by_test (is_between lo hi place && not (is_skipped_at skipped place u))
  where
    by_test : (b : Bool) → here place u r ≤ (if b then max (here place u r) (there place u r) else here place u r)
    by_test true = omega arith
    by_test false = omega arith

learned_own :
    (lo hi : Cut) (skipped : List (ItemId × ℕ)) (here there : Cut → ℕ → ℕ → ℕ) (place : Cut) (u r clock : ℕ)
    → here place u r ≡ clock → there place u r ≤ clock → learned_ticks lo hi skipped here there place u r ≡ clock
learned_own lo hi skipped here there place u r clock is low = by_test (is_between lo hi place && not (is_skipped_at skipped place u))
  where
    by_test : (b : Bool) → (if b then max (here place u r) (there place u r) else here place u r) ≡ clock
    by_test true = omega arith
    by_test false = is

learned_waits :
    (units : ℕ) (b : BatchData) (lo hi : Cut) (left : List (ItemId × ℕ)) (c : CommitData) (m : Member)
    → IsConsistent units m → Waits units c m → IsBatch units b → KnowsNoMore units m b
    → Waits units (knowing (learned_known units lo hi left c.knowledge b.made_with) c) m
learned_waits units b lo hi left c m good waits batch no_more =
    let k : Known = learned_known units lo hi left c.knowledge b.made_with in
    more_known units c k m waits (learned_form units lo hi left c.knowledge b.made_with good.some waits.form batch.made_with)
    (λ place u r is inside.
    let has = learned_has units lo hi left c.knowledge b.made_with waits.form batch.made_with place u r is inside in
    let low = learned_more lo hi left (tick_at c.knowledge) (tick_at b.made_with) place u r in
    omega (arith, has, low))
    (λ place u is inside.
    learned_has units lo hi left c.knowledge b.made_with waits.form batch.made_with place u m.id is inside
    ∙ (let own = waits.fits.own place u is inside in
    let most = no_more.known place u is inside in
    let rises = waits.fits.clock in
    learned_own lo hi left (tick_at c.knowledge) (tick_at b.made_with) place u m.id c.clock own (omega (arith, most, rises))))

pub range_waits :
    (units : ℕ) (b : BatchData) (left : List (ItemId × ℕ)) (c : CommitData) (m : Member)
    → IsConsistent units m → Waits units c m → IsBatch units b → KnowsNoMore units m b
    → Waits units (with_range units b left c) m
range_waits units b left c m good waits batch no_more = learned_waits units b b.from b.to left c m good waits batch no_more

-- What is known of a unit that is not left alone.
learned_unit :
    (i : ItemId) (marks : List Mark) (here there : Cut → ℕ → ℕ → ℕ) (u r : ℕ)
    → is_left (at_unit marks u Stays) ≡ false
    → there (At i) u r ≤ learned_ticks (At i) (After i) (left_from i 0 marks) here there (At i) u r
learned_unit i marks here there u r kept =
    let between : is_between (At i) (After i) (At i) ≡ true = place_alone i (At i) ∙ same_item_self i in
    let not_skipped : is_skipped (left_from i 0 marks) i u ≡ false = left_is i u marks ∙ kept in
    let all : learned_ticks (At i) (After i) (left_from i 0 marks) here there (At i) u r ≡ max (here (At i) u r) (there (At i) u r) =
    rw (between, not_skipped) refl in
    omega (arith, all)

-- The item as it becomes is known.
becomes_known :
    (units : ℕ) (b : BatchData) (change : ItemData) (p : Plan) (c : CommitData) (m : Member)
    → IsConsistent units m → Waits units c m → IsBatch units b → IsSent units b change.id change.state
    → Brings units change.state (state_of (after_commit units c m).items change.id) p.draft
    → IsKnownItem units (learned_known units (At change.id) (After change.id) (left_from change.id 0 p.draft.marks) c.knowledge b.made_with)
    change.id (taken_state units p.draft.marks change.state (state_of (after_commit units c m).items change.id))
becomes_known units b change p c m good waits batch sent brings = record {
  whole = brings.whole;
  creation = λ u small. by_left u small (is_left (at_unit p.draft.marks u Stays)) refl;
  versions = λ u v small is. elim (brings.versions u v small is) [
    | inl (taken, seen) ↦
        let kept : is_left (at_unit p.draft.marks u Stays) ≡ false = ap is_left taken in
        from_there u v small kept (sent.versions u v small seen)
    | inr (own, here, held) ↦ from_here u v small ((owned own here).versions u v small held)
  ];
}
  where
    owned :
        (own : ItemState) → state_of (after_commit units c m).items change.id ≡ Some own
        → IsOwned units (after_commit units c m) change.id own
    owned own here = (commits_consistent units c m good (stored units c m good waits.form) waits.fits).items change.id own here

    from_there :
        (u : ℕ) (v : Version) → u < units → is_left (at_unit p.draft.marks u Stays) ≡ false
        → KnowsVersion b.made_with change.id u v
        → KnowsVersion (learned_known units (At change.id) (After change.id) (left_from change.id 0 p.draft.marks) c.knowledge b.made_with) change.id u v
    from_there u v small kept low =
        let has = learned_has units (At change.id) (After change.id) (left_from change.id 0 p.draft.marks) c.knowledge b.made_with waits.form batch.made_with (At change.id) u v.replica tt small in
        let more = learned_unit change.id p.draft.marks (tick_at c.knowledge) (tick_at b.made_with) u v.replica kept in
        omega (arith, low, has, more)

    from_here :
        (u : ℕ) (v : Version) → u < units → v.tick ≤ vector_at (after_commit units c m) (At change.id) u v.replica
        → KnowsVersion (learned_known units (At change.id) (After change.id) (left_from change.id 0 p.draft.marks) c.knowledge b.made_with) change.id u v
    from_here u v small low =
        let same = (commits_exact units c m good (stored units c m good waits.form) waits.fits).knowledge (At change.id) u v.replica tt small in
        let has = learned_has units (At change.id) (After change.id) (left_from change.id 0 p.draft.marks) c.knowledge b.made_with waits.form batch.made_with (At change.id) u v.replica tt small in
        let more = learned_more (At change.id) (After change.id) (left_from change.id 0 p.draft.marks) (tick_at c.knowledge) (tick_at b.made_with) (At change.id) u v.replica in
        omega (arith, low, same, has, more)

    by_left :
        (u : ℕ) → u < units → (left : Bool) → is_left (at_unit p.draft.marks u Stays) ≡ left
        → KnowsVersion (learned_known units (At change.id) (After change.id) (left_from change.id 0 p.draft.marks) c.knowledge b.made_with) change.id u (creation_of change.id)
    by_left u small true e =
        let (own, here) = brings.left u small e in
        from_here u (creation_of change.id) small ((owned own here).creation u small)
    by_left u small false e = from_there u (creation_of change.id) small e (sent.creation u small)

-- One more change is taken.
pub change_waits :
    (units : ℕ) (b : BatchData) (change : ItemData) (p : Plan) (c : CommitData) (m : Member)
    → IsConsistent units m → Waits units c m → IsBatch units b → KnowsNoMore units m b → IsSent units b change.id change.state
    → SkipsAll units change.id change.state (state_of (after_commit units c m).items change.id) (after_commit units c m).items p
    → Waits units (with_marks units b change p.draft.marks (state_of (after_commit units c m).items change.id) c) m
change_waits units b change p c m good waits batch no_more sent skips =
    elim skips.result [
      | inl none ↦
          let puts : put_taken units p.draft.marks change (state_of (after_commit units c m).items change.id) c.puts ≡ c.puts = rw none refl in
          subst (λ (xs : List ItemData). Waits units (with_puts xs) m) (sym puts) known
      | inr (brings, free) ↦
          let new : ItemData = record { id = change.id; state = taken_state units p.draft.marks change.state (state_of (after_commit units c m).items change.id) } in
          let puts : put_taken units p.draft.marks change (state_of (after_commit units c m).items change.id) c.puts ≡ put_item new c.puts = rw brings.taken refl in
          subst (λ (xs : List ItemData). Waits units (with_puts xs) m) (sym puts)
          (one_more units new (with_puts c.puts) m good known (becomes_known units b change p c m good waits batch sent brings) free)
    ]
  where
    with_puts : List ItemData → CommitData
    with_puts xs = record {
      clock = c.clock;
      knowledge = learned_known units (At change.id) (After change.id) (left_from change.id 0 p.draft.marks) c.knowledge b.made_with;
      forgotten = c.forgotten;
      puts = xs;
      drops = c.drops;
    }

    known : Waits units (with_puts c.puts) m
    known = learned_waits units b (At change.id) (After change.id) (left_from change.id 0 p.draft.marks) c m good waits batch no_more

-- Once it is made, nothing waits.
pub made_waits :
    (units : ℕ) (c : CommitData) (m : Member)
    → IsConsistent units m → Waits units c m → Waits units (cleared c) (after_commit units c m)
made_waits units c m good waits =
    let exact = commits_exact units c m good (stored units c m good waits.form) waits.fits in
    let later = commits_consistent units c m good (stored units c m good waits.form) waits.fits in record {
      fits = record {
        clock = omega arith;
        knowledge = λ place u r is inside. let same = exact.knowledge place u r is inside in omega (arith, same);
        forgets = waits.fits.forgets;
        forgotten = λ place r is. omega arith;
        most = waits.fits.most;
        own = waits.fits.own;
        made = waits.fits.made;
        puts = tt;
        items = λ i state is. absurd (cc);
        drops = tt;
        present = λ i has. absurd has;
        apart = λ i has. absurd has;
        names = later.names;
      };
      form = waits.form;
      keeps = refl;
    }

pub made_laid : (units : ℕ) (c : CommitData) (m : Member) → after_commit units (cleared c) (after_commit units c m) ≡ after_commit units c m
made_laid units c m = refl
