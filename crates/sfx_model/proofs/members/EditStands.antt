-- A member that creates, edits or deletes an item goes on representing its site.
use Rattle.std.proofs.Common.{◌≡◌, ◌≢◌, ℕ, ◌<◌, ◌≤◌, ◌↔◌, List, ◌∷◌, Option, Some, None, Bool, true, false, if◌then◌else◌, inl, inr, refl, sym, ◌∙◌, ap, subst, arith}
use Rattle.std.proofs.lemmas.Option.{slice_get_within}
use Rattle.sfx_ids.specs.declared.cut.Cut.TheVariants.{At}
use Rattle.sfx_ids.specs.declared.item_id.ItemId.{ItemId}
use Rattle.sfx_ids.specs.declared.version.Version.{Version}
use Rattle.sfx_item.specs.declared.cell.Cell.{Cell}
use Rattle.sfx_model.specs.world.Sets.{Has}
use Rattle.sfx_model.specs.world.World.{Record, Content, Written, Deleted, World, Site, Holding, WellFormed, holding, IsDeletion, IsLatest}
use Rattle.sfx_model.specs.world.Events.{Keeps, Takes, Stamps, Leaves, Drops, same_item, recorded, known_with, site_made, made, MakeLegal}
use Rattle.sfx_item.specs.Item.{ItemState, Live, Dead}
use Rattle.sfx_model.specs.members.Members.{Shown, Represents, ItemRepresents, IsLatestCell, state_of, clock_among}
use Rattle.sfx_model.specs.members.Results.{StateResult, Unchanged, AsSeen, Removed, DeadNow, LiveNow, CellResult, EditResult, edit_mark, cell_at}
use Rattle.sfx_model.proofs.world.Step.{Grows, Moves}
use Rattle.sfx_model.proofs.members.OthersStand.{cell_on, item_on, moved_stands}
use Rattle.sfx_model.proofs.members.MembersLemmas.{own_entry, other_entry, items_after}
use Rattle.sfx_model.proofs.world.StepKeepsWorld.{same_item_is, same_item_self}
use Rattle.sfx_model.proofs.world.RecordedLemmas.{record_of, recorded_new, made_latest, made_deletes}
use Rattle.sfx_model.proofs.world.SiteLemmas.{site_there}
use Rattle.sfx_model.proofs.world.MakeKeepsWorld.{make_step}
use Rattle.sfx_model.proofs.members.FactsHold.{made_below}

-- The cell of a unit after an edit, by what the edit has for the unit: the cell as it was, or the new one.
cell_made :
    (rs qs : List Record) (i : ItemId) (v : Version) (knew : ℕ → List Version) (contents : ℕ → Option Content)
    (units u : ℕ) (c : Cell) (before : Option ItemState) (o : Option Content)
    → Grows rs qs → qs ≡ recorded i v knew contents units rs → u < units → contents u ≡ o
    → ((d : Cell) → cell_at before u ≡ Some d → IsLatestCell rs i u (knew u) d)
    → CellResult v (edit_mark o) (cell_at before u) (cell_at None u) c → IsLatestCell qs i u (known_with v (knew u) o) c
cell_made rs qs i v knew contents units u c before None g all small is old result =
    cell_on rs qs i u (knew u) c g (old c result)
cell_made rs qs i v knew contents units u c before (Some Deleted) g all small is old result = absurd result
cell_made rs qs i v knew contents units u c before (Some (Written bytes)) g all small is old result = record {
  latest = subst (λ (x : Version). IsLatest qs i u (v ∷ knew u) x) (sym result.version)
      (rw all (made_latest rs i v knew contents units u (Written bytes) small is));
  value = (
    record_of i u v (knew u) (Written bytes),
    rw all (recorded_new i v knew contents units rs u (Written bytes) small is),
    record { item = refl; unit = refl; version = sym result.version },
    ap Written (sym result.bytes),
  );
}

-- No unit of an edit is skipped, taken or dropped.
not_edited : (o : Option Content) → (edit_mark o ≢ Takes) × (edit_mark o ≢ Leaves) × (edit_mark o ≢ Drops)
not_edited None = (λ e. cc, λ e. cc, λ e. cc)
not_edited (Some c) = (λ e. cc, λ e. cc, λ e. cc)

kept_mark : (o : Option Content) → edit_mark o ≡ Keeps → o ≡ None
kept_mark None e = refl
kept_mark (Some c) e = absurd (cc)

stamped_mark : (o : Option Content) (c : Content) → edit_mark o ≡ Stamps c → o ≡ Some c
stamped_mark None c e = absurd (cc)
stamped_mark (Some d) c e = let same : d ≡ c = cc in cc

-- The cell of a live item, as it was before.
pub held_cell :
    (w : World) (s : Site) (i : ItemId) (o : Option ItemState) (u : ℕ) (d : Cell)
    → ItemRepresents w.units w.records i (holding s i) o → cell_at o u ≡ Some d
    → IsLatestCell w.records i u (s.known i u) d
held_cell w s i None u d held is = absurd (cc)
held_cell w s i (Some (Live cells)) u d held is = held.latest.each u d is
held_cell w s i (Some (Dead v)) u d held is = absurd (cc)

-- What is known of an item where nothing was made is what was known.
known_as_before : (v : Version) (knew : List Version) (o : Option Content) → o ≡ None → known_with v knew o ≡ knew
known_as_before v knew o e = rw e refl

-- A tombstone stays one where nothing was made.
same_known :
    (w : World) (s : Site) (i : ItemId) (v : Version) (contents : ℕ → Option Content) (o : Option ItemState)
    (qs : List Record)
    → Grows w.records qs → ((u : ℕ) → u < w.units → contents u ≡ None) → s.present i ≡ true
    → ItemRepresents w.units w.records i (holding s i) o
    → ItemRepresents w.units qs i
    (record {
      known = λ u. known_with v (s.known i u) (contents u);
      present = true;
      forgotten =
          s.forgotten (At i);
    }) o
same_known w s i v contents None qs g none present held = let bad : true ≡ false = sym present ∙ held in absurd (cc)
same_known w s i v contents (Some (Live cells)) qs g none present held = record {
  is_present = refl;
  latest = record {
    whole = held.latest.whole;
    each = λ u c is.
        let small : u < w.units = omega (arith, slice_get_within cells u c is, held.latest.whole) in
        subst (λ (vs : List Version). IsLatestCell qs i u vs c)
        (sym (known_as_before v (s.known i u) (contents u) (none u small)))
        (cell_on w.records qs i u (s.known i u) c g (held.latest.each u c is));
  };
}
same_known w s i v contents (Some (Dead d)) qs g none present held = record {
  is_present = refl;
  latest = λ u small.
      let stays = (item_on w.units w.records qs i (holding s i) (Some (Dead d)) g held).latest u small in
      subst (λ (vs : List Version). IsLatest qs i u vs d × IsDeletion qs i u d)
      (sym (known_as_before v (s.known i u) (contents u) (none u small))) stays;
}

-- An item that may be made or changed is present, or the edit has a content for its first unit.
present_before :
    (w : World) (s : Site) (i : ItemId) (v : Version) (contents : ℕ → Option Content)
    → 1 ≤ w.units → MakeLegal w s i v contents → ((u : ℕ) → u < w.units → contents u ≡ None) → s.present i ≡ true
present_before w s i v contents counted legal none =
    elim legal.what [
      | inl creates ↦ let (c, is, writes) = creates.whole 0 counted in let bad : None ≡ Some c =
          sym (none 0 counted) ∙ is in absurd (cc)
      | inr live ↦ live.is_present
    ]

-- The item after an edit is at the member as the site has it.
item_made :
    (w : World) (s : Site) (i : ItemId) (v : Version) (contents : ℕ → Option Content)
    (before after : Option ItemState)
    → 1 ≤ w.units → MakeLegal w s i v contents → Grows w.records (recorded i v (s.known i) contents w.units w.records)
    → ItemRepresents w.units w.records i (holding s i) before
    → StateResult w.units v (λ u. edit_mark (contents u)) before None after
    → ItemRepresents w.units (recorded i v (s.known i) contents w.units w.records) i
    (record {
      known = λ u. known_with v (s.known i u) (contents u);
      present = true;
      forgotten =
          s.forgotten (At i);
    }) after
item_made w s i v contents before after counted legal g held (Unchanged marks is) =
    elim marks [
      | inl keeps ↦
          let none : (u : ℕ) → u < w.units → contents u ≡ None = λ u small. kept_mark (contents u) (keeps u small) in
          let qs = recorded i v (s.known i) contents w.units w.records in
          subst (λ (o : Option ItemState). ItemRepresents w.units qs i
          (record {
            known = λ u. known_with v (s.known i u) (contents u);
            present = true;
            forgotten =
                s.forgotten (At i);
          }) o) (sym is)
          (same_known w s i v contents before qs g none (present_before w s i v contents counted legal none) held)
      | inr skips ↦ absurd ((not_edited (contents 0)).1 (skips 0 counted))
    ]
item_made w s i v contents before after counted legal g held (AsSeen takes is) =
    absurd ((not_edited (contents 0)).0 (takes 0 counted))
item_made w s i v contents before after counted legal g held (Removed drops is) =
    absurd ((not_edited (contents 0)).2 (drops 0 counted))
item_made w s i v contents before after counted legal g held (DeadNow stamps is) = rw is (record {
  is_present = refl;
  latest = λ u small.
      let (c, mark, deletes) = stamps u small in
      let content : contents u ≡ Some Deleted =
      stamped_mark (contents u) c mark ∙ ap {B = Option Content} Some deletes in (
        subst (λ (o : Option Content). IsLatest (recorded i v (s.known i) contents w.units w.records) i u
            (known_with v (s.known i u) o) v) (sym content)
            (made_latest w.records i v (s.known i) contents w.units u Deleted small content),
        made_deletes w.records i v (s.known i) contents w.units u small content,
      );
})
item_made w s i v contents before after counted legal g held (LiveNow cells is result) = rw is (record {
  is_present = refl;
  latest = record {
    whole = result.whole;
    each = λ u c here.
        let small : u < w.units = omega (arith, slice_get_within cells u c here, result.whole) in
        cell_made w.records (recorded i v (s.known i) contents w.units w.records) i v (s.known i) contents w.units u c
        before (contents u) g refl small refl (λ d there. held_cell w s i before u d held there)
        (result.each u c here);
  };
})

-- What an edit leaves known of versions of other replicas.
known_of_others :
    (v x : Version) (knew : List Version) (o : Option Content)
    → x.replica ≢ v.replica → Has x (known_with v knew o) ↔ Has x knew
known_of_others v x knew None other = (λ h. h, λ h. h)
known_of_others v x knew (Some c) other =
    (λ h. elim h [ inl is ↦ absurd (other (ap (λ (y : Version). y.replica) is)) | inr there ↦ there ], λ h. inr h)

-- An edit moves the member as the world moves its site.
edit_moves :
    (w : World) (s : Site) (i : ItemId) (v : Version) (contents : ℕ → Option Content) (m n : Shown)
    → WellFormed w → Has s w.sites → MakeLegal w s i v contents → Represents w s m
    → EditResult w.units i v contents m n → Grows w.records (recorded i v (s.known i) contents w.units w.records)
    → Moves w s (site_made s i v (s.known i) contents) (recorded i v (s.known i) contents w.units w.records) n
edit_moves w s i v contents m n ok has legal rep result g = record {
  id = own;
  clock = result.clock;
  own = λ place u there small. own_entry w.units n m.vector_at s.id place u result.vectors (sym own) there small
      ∙ result.clock;
  others = λ j u x made other.
      let entry : n.vector_at (At j) u x.replica ≡ m.vector_at (At j) u x.replica =
      other_entry w.units n m.vector_at (At j) u x.replica result.vectors (λ same. other (same ∙ own)) tt
      (made_below w j u x ok made) in
      let exact = rep.exact j u x made in
      let known = known_after j u x (λ same. other (same ∙ legal.fresh.replica)) in (
        (λ contains. known.1 (exact.0 (subst (λ (t : ℕ). x.tick ≤ t) entry contains))),
        (λ there. subst (λ (t : ℕ). x.tick ≤ t) (sym entry) (exact.1 (known.0 there))),
      );
  items = items_after w.units w.records qs i s (site_made s i v (s.known i) contents) m n g rep.items result.others
      (λ j other. (rw other refl, rw other refl))
      (subst (λ (h : Holding). ItemRepresents w.units qs i h (state_of n.items i)) (sym held)
      (item_made w s i v contents (state_of m.items i) (state_of n.items i) (ok.counted s has) legal g
      (rep.items i) result.item));
  forgotten = λ place r there. result.forgotten place r there ∙ rep.header.forgotten place r there;
  bounded = λ place u r there small other. subst (λ (t : ℕ). t ≤ clock_among w.sites r)
      (sym (other_entry w.units n m.vector_at place u r result.vectors (λ same. other (same ∙ own)) there small))
      (rep.bounded.vectors place u r there small);
  forgotten_bounded = λ place r there. subst (λ (t : ℕ). t ≤ clock_among w.sites r) (sym (result.forgotten place r there))
      (rep.bounded.forgotten place r there);
}
  where
    qs : List Record
    qs = recorded i v (s.known i) contents w.units w.records

    own : n.id ≡ s.id
    own = result.id ∙ rep.header.id

    held :
        holding (site_made s i v (s.known i) contents) i ≡ record
        { known = λ u. known_with v (s.known i u) (contents u); present = true; forgotten = s.forgotten (At i) }
    held = rw (same_item_self i) refl

    known_after :
        (j : ItemId) (u : ℕ) (x : Version)
        → x.replica ≢ v.replica → Has x ((site_made s i v (s.known i) contents).known j u) ↔ Has x (s.known j u)
    known_after j u x other = by_test (same_item j i) refl
      where
        by_test :
            (b : Bool)
            → same_item j i ≡ b
            → Has x ((if b then (λ (y : ℕ). known_with v (s.known i y) (contents y)) else s.known j) u) ↔ Has x
            (s.known j u)
        by_test true e = subst (λ (k : ItemId). Has x (known_with v (s.known i u) (contents u)) ↔ Has x (s.known k u))
            (sym (same_item_is j i e)) (known_of_others v x (s.known i u) (contents u) other)
        by_test false e = (λ h. h, λ h. h)

-- A member that creates, edits or deletes an item represents its site afterwards.
pub edit_stands :
    (w : World) (s : Site) (i : ItemId) (v : Version) (contents : ℕ → Option Content) (m n : Shown)
    → WellFormed w → Has s w.sites → MakeLegal w s i v contents → Represents w s m
    → EditResult w.units i v contents m n
    → Represents (made w s i v contents) (site_made s i v (s.known i) contents) n
edit_stands w s i v contents m n ok has legal rep result =
    let step = make_step w s i v contents ok has legal in
    moved_stands w s (site_made s i v (s.known i) contents) (recorded i v (s.known i) contents w.units w.records) n
    (site_there w.sites s ok.distinct has) ok step
    (edit_moves w s i v contents m n ok has legal rep result step.grows)
