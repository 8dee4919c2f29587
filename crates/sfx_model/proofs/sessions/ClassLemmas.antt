-- What the comparison of a member's knowledge with a snapshot's gives for the marks of an entry.
use Rattle.std.proofs.Common.{◌≡◌, ℕ, ◌<◌, ◌≤◌, Bool, false, List, Option, Some, None, inl, inr, refl, sym, ◌∙◌, subst, arith, le_trans}
use Rattle.std.proofs.lemmas.Bool.{cases_lt}
use Rattle.sfx_ids.specs.declared.cut.Cut.{Cut}
use Rattle.sfx_ids.specs.declared.cut.Cut.TheVariants.{At}
use Rattle.sfx_ids.specs.declared.item_id.ItemId.{ItemId}
use Rattle.sfx_ids.specs.declared.version.Version.{Version}
use Rattle.sfx_ids.specs.ItemId.{creation_of}
use Rattle.sfx_model.specs.world.Sets.{Has, IsPart}
use Rattle.sfx_model.specs.world.World.{World, Site, Snapshot, WellFormed, IsSound, IsSoundItem, IsClosed, IsLatest, IsContained, Made, holding}
use Rattle.sfx_model.specs.world.Events.{IsFresh, TakeLegal, StampLegal, DropLegal, IsKnownHere}
use Rattle.sfx_item.specs.Item.{version_at, ItemState, Live, Dead}
use Rattle.sfx_model.specs.members.Members.{Shown, Represents, ItemRepresents, state_of}
use Rattle.sfx_model.specs.members.Snapshots.{Meets, HasContained, AreWithin}
use Rattle.sfx_model.proofs.world.WorldLemmas.{above}
use Rattle.sfx_model.proofs.world.CausalOrder.{before_known}
use Rattle.sfx_model.proofs.members.FactsHold.{cell_there}

-- The version that a state has of a unit is the latest that the site knows.
state_latest :
    (w : World) (s : Site) (i : ItemId) (state : ItemState) (u : ℕ) (v : Version)
    → u < w.units → ItemRepresents w.units w.records i (holding s i) (Some state) → version_at state u ≡ Some v
    → IsLatest w.records i u (s.known i u) v
state_latest w s i (Live cells) u v small held is =
    let (c, here) = cell_there cells u (omega (arith, held.latest.whole)) in
    let found : version_at (Live cells) u ≡ Some c.version = rw here refl in
    let same : c.version ≡ v = let both : Some c.version ≡ Some v = sym found ∙ is in cc in
    subst (λ (x : Version). IsLatest w.records i u (s.known i u) x) same (held.latest.each u c here).latest
state_latest w s i (Dead d) u v small held is =
    let same : d ≡ v = cc in
    subst (λ (x : Version). IsLatest w.records i u (s.known i u) x) same (held.latest u small).0

-- Where one side knows the other's latest version of a unit, it knows all that the other knows of it.
latest_part :
    (w : World) (i : ItemId) (u : ℕ) (theirs ours : List Version) (v : Version)
    → IsClosed w.records i u ours → IsLatest w.records i u theirs v → Has v ours → IsPart theirs ours
latest_part w i u theirs ours v closed latest has x there =
    before_known w.records i u ours x v closed has (latest.1 x there)

-- A unit whose seen version is contained here may be kept.
pub known_here :
    (w : World) (s : Site) (m : Shown) (snapshot : Snapshot) (i : ItemId) (made_with : Cut → ℕ → ℕ → ℕ)
    (state : ItemState) (u : ℕ)
    → WellFormed w → Meets w s m snapshot i made_with (Some state) → u < w.units
    → HasContained state u (m.vector_at (At i) u) → IsPart (snapshot.known i u) (s.known i u)
known_here w s m snapshot i made_with state u ok meets small (v, is, contained) =
    let latest = state_latest w snapshot i state u v small meets.carried.state is in
    let made = ((meets.carried.sound i).cells u).made v latest.0 in
    latest_part w i u (snapshot.known i u) (s.known i u) v ((ok.sound s meets.here i).cells u) latest
    ((meets.represents.exact i u v made).0 contained)

-- A unit whose version here is contained in the made-with knowledge is known there.
pub known_there :
    (w : World) (s : Site) (m : Shown) (snapshot : Snapshot) (i : ItemId) (made_with : Cut → ℕ → ℕ → ℕ)
    (seen : Option ItemState) (state : ItemState) (u : ℕ)
    → WellFormed w → Meets w s m snapshot i made_with seen → state_of m.items i ≡ Some state → u < w.units
    → HasContained state u (made_with (At i) u) → IsPart (s.known i u) (snapshot.known i u)
known_there w s m snapshot i made_with seen state u ok meets at small (v, is, contained) =
    let held : ItemRepresents w.units w.records i (holding s i) (Some state) =
    subst (λ (o : Option ItemState). ItemRepresents w.units w.records i (holding s i) o) at
    (meets.represents.items i) in
    let latest = state_latest w s i state u v small held is in
    let made = ((ok.sound s meets.here i).cells u).made v latest.0 in
    latest_part w i u (s.known i u) (snapshot.known i u) v ((meets.carried.sound i).cells u) latest
    ((meets.carried.backs.exact u v made).0 contained)

-- So it may be taken, where the snapshot has the item.
pub newer_taken :
    (w : World) (s : Site) (m : Shown) (snapshot : Snapshot) (i : ItemId) (made_with : Cut → ℕ → ℕ → ℕ)
    (state local : ItemState) (u : ℕ)
    → WellFormed w → Meets w s m snapshot i made_with (Some state) → state_of m.items i ≡ Some local → u < w.units
    → HasContained local u (made_with (At i) u) → TakeLegal s snapshot i u
newer_taken w s m snapshot i made_with state local u ok meets at small has = record {
  known = known_there w s m snapshot i made_with (Some state) local u ok meets at small has;
  present = meets.carried.state.is_present;
}

-- A version that is known makes the item's creation known at unit 0.
creation_known :
    (w : World) (s : Site) (i : ItemId) (u : ℕ) (v : Version)
    → 1 ≤ w.units → IsSoundItem w.units w.records i (holding s i) → Has v (s.known i u)
    → Has (creation_of i) (s.known i 0)
creation_known w s i u v counted sound has = sound.creation u v has 0 counted

-- An item whose creation is not contained here is not known here at all.
pub none_known :
    (w : World) (s : Site) (m : Shown) (i : ItemId) (u : ℕ) (v : Version)
    → WellFormed w → Has s w.sites → Represents w s m → (IsContained (m.vector_at (At i) 0) (creation_of i) → ⊥)
    → Has v (s.known i u) → ⊥
none_known w s m i u v ok there rep lacks has =
    let sound = ok.sound s there i in
    let creation = creation_known w s i u v (ok.counted s there) sound has in
    lacks ((rep.exact i 0 (creation_of i) ((sound.cells 0).made (creation_of i) creation)).1 creation)

-- So each unit of it may be taken.
pub new_taken :
    (w : World) (s : Site) (m : Shown) (snapshot : Snapshot) (i : ItemId) (made_with : Cut → ℕ → ℕ → ℕ)
    (state : ItemState) (u : ℕ)
    → WellFormed w → Meets w s m snapshot i made_with (Some state)
    → (IsContained (m.vector_at (At i) 0) (creation_of i) → ⊥) → TakeLegal s snapshot i u
new_taken w s m snapshot i made_with state u ok meets lacks = record {
  known = λ v has. absurd (none_known w s m i u v ok meets.here meets.represents lacks has);
  present = meets.carried.state.is_present;
}

-- An item that is gone, with forgotten deletions within the knowledge of another list, is known there.
gone_part :
    (w : World) (i : ItemId) (u : ℕ) (s : Site) (theirs : List Version) (clocks : ℕ → ℕ)
    → IsSoundItem w.units w.records i (holding s i) → s.present i ≡ false → IsClosed w.records i u theirs
    → ((v : Version) → Made w.records i u v → IsContained clocks v → Has v theirs)
    → ((r : ℕ) → s.forgotten (At i) r ≤ clocks r) → IsPart (s.known i u) theirs
gone_part w i u s theirs clocks sound gone closed knows within v has =
    let (d, has_d, before, deletes, forgotten) = sound.cleaned gone u v has in
    before_known w.records i u theirs v d closed
    (knows d (deletes.0, deletes.1, deletes.2) (le_trans forgotten (within d.replica))) before

-- An item that was cleaned away here, within what the snapshot knows, may be taken.
pub cleaned_taken :
    (w : World) (s : Site) (m : Shown) (snapshot : Snapshot) (i : ItemId) (made_with : Cut → ℕ → ℕ → ℕ)
    (state : ItemState) (u : ℕ)
    → WellFormed w → Meets w s m snapshot i made_with (Some state) → state_of m.items i ≡ None → u < w.units
    → AreWithin w.units i m.forgotten made_with → TakeLegal s snapshot i u
cleaned_taken w s m snapshot i made_with state u ok meets gone small within = record {
  known = gone_part w i u s (snapshot.known i u) (made_with (At i) u) (ok.sound s meets.here i)
      (subst (λ (o : Option ItemState). ItemRepresents w.units w.records i (holding s i) o) gone
      (meets.represents.items i)) ((meets.carried.sound i).cells u)
      (λ v made contained. (meets.carried.backs.exact u v made).0 contained)
      (λ r. subst (λ (t : ℕ). t ≤ made_with (At i) u r) (meets.represents.header.forgotten (At i) r tt)
      (within u r small));
  present = meets.carried.state.is_present;
}

-- A state that is there has a known version of its first unit.
first_known :
    (w : World) (x : Site) (i : ItemId) (state : ItemState)
    → 1 ≤ w.units → ItemRepresents w.units w.records i (holding x i) (Some state) → (v : Version) × Has v (x.known i 0)
first_known w x i (Live cells) some held =
    let (c, is) = cell_there cells 0 (omega (arith, held.latest.whole, some)) in (c.version, (held.latest.each 0 c is).latest.0)
first_known w x i (Dead d) some held = (d, (held.latest 0 some).0.0)

-- Where either side has the item, a fresh version may be stamped.
pub stamp_known :
    (w : World) (s : Site) (m : Shown) (snapshot : Snapshot) (i : ItemId) (made_with : Cut → ℕ → ℕ → ℕ)
    (state : ItemState) (v : Version)
    → WellFormed w → Meets w s m snapshot i made_with (Some state) → IsFresh s v → StampLegal s snapshot i v
stamp_known w s m snapshot i made_with state v ok meets fresh =
    let (x, has) = first_known w snapshot i state (ok.counted s meets.here) meets.carried.state in
    record { fresh = fresh; known = inr (0, x, has) }

pub stamp_held :
    (w : World) (s : Site) (m : Shown) (snapshot : Snapshot) (i : ItemId) (made_with : Cut → ℕ → ℕ → ℕ)
    (seen : Option ItemState) (state : ItemState) (v : Version)
    → WellFormed w → Meets w s m snapshot i made_with seen → state_of m.items i ≡ Some state → IsFresh s v
    → StampLegal s snapshot i v
stamp_held w s m snapshot i made_with seen state v ok meets at fresh =
    let held = subst (λ (o : Option ItemState). ItemRepresents w.units w.records i (holding s i) o) at (meets.represents.items i) in
    let (x, has) = first_known w s i state (ok.counted s meets.here) held in
    record { fresh = fresh; known = inl (0, x, has) }

-- An item that the snapshot lacks, whose version here is contained in the made-with knowledge, may be
-- dropped once what the snapshot forgot is forgotten here.
pub dropped_legal :
    (w : World) (s : Site) (m : Shown) (snapshot : Snapshot) (i : ItemId) (made_with : Cut → ℕ → ℕ → ℕ)
    (state : ItemState) (u : ℕ)
    → WellFormed w → Meets w s m snapshot i made_with None → state_of m.items i ≡ Some state → u < w.units
    → HasContained state u (made_with (At i) u) → ((r : ℕ) → snapshot.forgotten (At i) r ≤ m.forgotten (At i) r)
    → DropLegal w s snapshot i u
dropped_legal w s m snapshot i made_with state u ok meets at small has forgotten = record {
  absent = meets.carried.state;
  known = known_there w s m snapshot i made_with None state u ok meets at small has;
  forgotten = λ x there.
      let (d, has_d, before, deletes, contained) = (meets.carried.sound i).cleaned meets.carried.state u x there in (
        d,
        has_d,
        before,
        deletes,
        le_trans contained
            (subst (λ (t : ℕ). snapshot.forgotten (At i) d.replica ≤ t)
            (meets.represents.header.forgotten (At i) d.replica tt) (forgotten d.replica)),
      );
}

-- Beyond the units nothing is known.
beyond :
    (w : World) (snapshot : Snapshot) (i : ItemId) (u : ℕ) (vs : List Version)
    → WellFormed w → IsSound w snapshot → w.units ≤ u → IsPart (snapshot.known i u) vs
beyond w snapshot i u vs ok sound big v has =
    absurd (above w i u (snapshot.known i u) v ok ((sound i).cells u) big has)

-- What the snapshot knows of an item of a learned range is known here: where the version of each unit
-- that is not left out is contained here; where the snapshot lacks the item, and what it forgot is
-- contained here; and where the made-with knowledge lacks the item's creation.
pub range_listed :
    (w : World) (s : Site) (m : Shown) (snapshot : Snapshot) (i : ItemId) (made_with : Cut → ℕ → ℕ → ℕ)
    (state : ItemState) (left : ItemId → ℕ → Bool)
    → WellFormed w → Meets w s m snapshot i made_with (Some state)
    → ((u : ℕ) → u < w.units → left i u ≡ false → HasContained state u (m.vector_at (At i) u))
    → IsKnownHere s snapshot left i
range_listed w s m snapshot i made_with state left ok meets each u learned =
    elim (cases_lt u w.units) [
      | inl small ↦ known_here w s m snapshot i made_with state u ok meets small (each u small learned)
      | inr big ↦ beyond w snapshot i u (s.known i u) ok meets.carried.sound big
    ]

pub range_cleaned :
    (w : World) (s : Site) (m : Shown) (snapshot : Snapshot) (i : ItemId) (made_with : Cut → ℕ → ℕ → ℕ)
    (left : ItemId → ℕ → Bool)
    → WellFormed w → Meets w s m snapshot i made_with None → AreWithin w.units i snapshot.forgotten m.vector_at
    → IsKnownHere s snapshot left i
range_cleaned w s m snapshot i made_with left ok meets within u learned =
    elim (cases_lt u w.units) [
      | inl small ↦ gone_part w i u snapshot (s.known i u) (m.vector_at (At i) u) (meets.carried.sound i)
          meets.carried.state ((ok.sound s meets.here i).cells u)
          (λ v made contained. (meets.represents.exact i u v made).0 contained) (λ r. within u r small)
      | inr big ↦ beyond w snapshot i u (s.known i u) ok meets.carried.sound big
    ]

pub range_unknown :
    (w : World) (s : Site) (m : Shown) (snapshot : Snapshot) (i : ItemId) (made_with : Cut → ℕ → ℕ → ℕ)
    (seen : Option ItemState) (left : ItemId → ℕ → Bool)
    → WellFormed w → Meets w s m snapshot i made_with seen → (IsContained (made_with (At i) 0) (creation_of i) → ⊥)
    → IsKnownHere s snapshot left i
range_unknown w s m snapshot i made_with seen left ok meets lacks u learned v has =
    let creation = creation_known w snapshot i u v (ok.counted s meets.here) (meets.carried.sound i) has in
    absurd (lacks ((meets.carried.backs.exact 0 (creation_of i)
    (((meets.carried.sound i).cells 0).made (creation_of i) creation)).1 creation))
