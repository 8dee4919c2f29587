use Rattle.std.proofs.Common.{◌≡◌, ℕ, ◌<◌, ◌≤◌, inl, inr, ◌∙◌, List, ◌++◌, arith, le_trans}
use Rattle.sfx_ids.specs.declared.item_id.ItemId.{ItemId}
use Rattle.sfx_ids.specs.declared.version.Version.{Version}
use Rattle.sfx_ids.specs.ItemId.{creation_of}
use Rattle.sfx_model.specs.world.Sets.{Has}
use Rattle.sfx_model.specs.world.World.{Record, World, Holding, Made, IsDeletion, Precedes, IsLatest, HasLiveLatest, IsLive, IsDeadAt, IsForgotten, IsClosed, IsSoundItem, WellFormed}
use Rattle.sfx_model.proofs.world.Step.{AreSame, Grows}
use Rattle.sfx_model.proofs.world.SetsLemmas.{has_left, has_right, has_either}

pub grows_self : (rs : List Record) → Grows rs rs
grows_self rs = record { kept = λ r h. h; was = λ r i u v h at made. h }

pub made_stays : (rs qs : List Record) (i : ItemId) (u : ℕ) (v : Version) → Grows rs qs → Made rs i u v → Made qs i u v
made_stays rs qs i u v g made = (made.0, g.kept made.0 made.1, made.2)

pub precedes_stays : (rs qs : List Record) (i : ItemId) (u : ℕ) (a b : Version) → Grows rs qs → Precedes rs i u a b → Precedes qs i u a b
precedes_stays rs qs i u a b g below =
    elim below [ inl e ↦ inl e | inr p ↦ inr (p.0, g.kept p.0 p.1, p.2, p.3) ]

pub deletion_stays : (rs qs : List Record) (i : ItemId) (u : ℕ) (v : Version) → Grows rs qs → IsDeletion rs i u v → IsDeletion qs i u v
deletion_stays rs qs i u v g d = (d.0, g.kept d.0 d.1, d.2, d.3)

-- a version that was made before does not come to delete
pub deletion_was : (rs qs : List Record) (i : ItemId) (u : ℕ) (v : Version) → Grows rs qs → Made rs i u v → IsDeletion qs i u v → IsDeletion rs i u v
deletion_was rs qs i u v g made d = (d.0, g.was d.0 i u v d.1 d.2 made, d.2, d.3)

pub latest_stays :
    (rs qs : List Record) (i : ItemId) (u : ℕ) (vs ws : List Version) (latest : Version)
    → Grows rs qs → AreSame vs ws → IsLatest rs i u vs latest → IsLatest qs i u ws latest
latest_stays rs qs i u vs ws latest g same is =
    (same.there latest is.0, λ v has. precedes_stays rs qs i u v latest g (is.1 v (same.back v has)))

pub live_latest_stays :
    (rs qs : List Record) (i : ItemId) (u : ℕ) (vs ws : List Version)
    → Grows rs qs → AreSame vs ws → IsClosed rs i u vs → HasLiveLatest rs i u vs → HasLiveLatest qs i u ws
live_latest_stays rs qs i u vs ws g same closed is = (
  is.0,
  latest_stays rs qs i u vs ws is.0 g same is.1,
  λ d. is.2 (deletion_was rs qs i u is.0 g (closed.made is.0 is.1.0) d),
)

pub closed_stays :
    (rs qs : List Record) (i : ItemId) (u : ℕ) (vs ws : List Version)
    → Grows rs qs → AreSame vs ws → IsClosed rs i u vs → IsClosed qs i u ws
closed_stays rs qs i u vs ws g same closed = record {
  made = λ v has. made_stays rs qs i u v g (closed.made v (same.back v has));
  closed = λ v r has there at x knew.
      let old = same.back v has in
      same.there x (closed.closed v r old (g.was r i u v there at (closed.made v old)) at x knew);
}

pub live_stays :
    (rs qs : List Record) (i : ItemId) (units : ℕ) (known now : ℕ → List Version)
    → Grows rs qs → ((u : ℕ) → u < units → AreSame (known u) (now u)) → ((u : ℕ) → IsClosed rs i u (known u))
    → IsLive units rs i known → IsLive units qs i now
live_stays rs qs i units known now g same closed live =
    λ u small. live_latest_stays rs qs i u (known u) (now u) g (same u small) (closed u) (live u small)

pub dead_at_stays :
    (rs qs : List Record) (i : ItemId) (units : ℕ) (known now : ℕ → List Version) (v : Version)
    → Grows rs qs → ((u : ℕ) → u < units → AreSame (known u) (now u))
    → IsDeadAt units rs i known v → IsDeadAt units qs i now v
dead_at_stays rs qs i units known now v g same dead =
    λ u small. (
      latest_stays rs qs i u (known u) (now u) v g (same u small) (dead u small).0,
      deletion_stays rs qs i u v g (dead u small).1,
    )

pub forgotten_stays :
    (rs qs : List Record) (i : ItemId) (u : ℕ) (vs ws : List Version) (clocks now : ℕ → ℕ) (v : Version)
    → Grows rs qs → AreSame vs ws → ((r : ℕ) → clocks r ≤ now r)
    → IsForgotten rs i u vs clocks v → IsForgotten qs i u ws now v
forgotten_stays rs qs i u vs ws clocks now v g same up is = (
  is.0,
  same.there is.0 is.1,
  precedes_stays rs qs i u v is.0 g is.2,
  deletion_stays rs qs i u is.0 g is.3,
  le_trans is.4 (up is.0.replica),
)

-- an item stays sound while records only come, its known versions are the same, its presence stays and
-- what is forgotten only grows
pub item_stays :
    (units : ℕ) (rs qs : List Record) (i : ItemId) (h k : Holding)
    → Grows rs qs → ((u : ℕ) → AreSame (h.known u) (k.known u)) → h.present ≡ k.present → ((r : ℕ) → h.forgotten r ≤ k.forgotten r)
    → IsSoundItem units rs i h → IsSoundItem units qs i k
item_stays units rs qs i h k g same present up ok = record {
  cells = λ u. closed_stays rs qs i u (h.known u) (k.known u) g (same u) (ok.cells u);
  held = λ is.
      elim (ok.held (present ∙ is)) [
        | inl live ↦ inl (live_stays rs qs i units h.known k.known g (λ u small. same u) ok.cells live)
        | inr dead ↦ inr (dead.0, dead_at_stays rs qs i units h.known k.known dead.0 g (λ u small. same u) dead.1)
      ];
  cleaned = λ is u v has.
      forgotten_stays rs qs i u (h.known u) (k.known u) h.forgotten k.forgotten v g (same u) up
      (ok.cleaned (present ∙ is) u v ((same u).back v has));
  creation = λ u v has x small. (same x).there (creation_of i) (ok.creation u v ((same u).back v has) x small);
}

pub closed_union :
    (rs : List Record) (i : ItemId) (u : ℕ) (xs ys : List Version)
    → IsClosed rs i u xs → IsClosed rs i u ys → IsClosed rs i u (xs ++ ys)
closed_union rs i u xs ys a b = record {
  made = λ v has. elim (has_either v xs ys has) [ inl l ↦ a.made v l | inr r ↦ b.made v r ];
  closed = λ v r has there at x knew.
      elim (has_either v xs ys has) [
        | inl l ↦ has_left x xs ys (a.closed v r l there at x knew)
        | inr t ↦ has_right x xs ys (b.closed v r t there at x knew)
      ];
}

-- at units beyond the count nothing is known
pub above :
    (w : World) (i : ItemId) (u : ℕ) (vs : List Version) (v : Version)
    → WellFormed w → IsClosed w.records i u vs → w.units ≤ u → Has v vs → ⊥
above w i u vs v ok closed big has =
    let made = closed.made v has in
    let small = (ok.records made.0 made.1).unit in
    let here = made.2.unit in
    omega arith
