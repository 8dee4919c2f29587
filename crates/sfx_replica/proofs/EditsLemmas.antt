-- What a write to one unit of a replica's item makes of its items.
use Rattle.std.proofs.Common.{◌≡◌, ℕ, ◌<◌, Bool, true, List, Some, None, if◌then◌else◌, nat_eq, get_or, set, slice_set, refl, subst, sym, ap, ◌∙◌}
use Rattle.std.proofs.lemmas.List.{set-get_or}
use Rattle.std.specs.Option.{option_or}
use Rattle.std.specs.List.{position_from}
use Rattle.sfx_ids.specs.declared.item_id.ItemId.{ItemId}
use Rattle.sfx_ids.specs.Tick.{max_tick}
use Rattle.sfx_ids.specs.declared.version.Version.{Version}
use Rattle.sfx_item.specs.declared.cell.Cell.{Cell}
use Rattle.sfx_item.specs.Name.{IsName}
use Rattle.sfx_item.specs.Item.{ItemState, Live, Dead, ItemData}
use Rattle.sfx_model.specs.members.Members.{Member, state_of}
use Rattle.sfx_model.specs.members.States.{cells_with, next_version, with_state}
use Rattle.sfx_replica.specs.Items.{IsLiveAt, IsTarget}
use Rattle.sfx_replica.specs.Refusals.{full_clock, name_refusal}
use Rattle.sfx_replica.proofs.EditsKeepConsistency.{MayWrite, can_rise, may_write_unit}
use Rattle.sfx_items.specs.Places.{has_id}
use Rattle.sfx_items.proofs.ItemListLemmas.{IsPlace, at_place, id_there, state_there}

-- an item put back with other cells has another state in its place
pub edited_view : (xs : List ItemData) (i : ItemId) (k : ℕ) (old y : ItemData) (cells : List Cell)
    → IsPlace xs i k → old ≡ get_or xs k old → y.id ≡ old.id → y.state ≡ Live cells
    → (set xs k y) ≡ with_state i (Live cells) xs
edited_view xs i k old y cells place is same live =
    place.put y (same ∙ id_there xs i k old place is) ∙ ap (λ (s : ItemState). with_state i s xs) live

-- a cell put in the place of one of the unit's, and nothing put
pub written_view : (xs : List ItemData) (i : ItemId) (k unit : ℕ) (old : ItemData) (row after cells : List Cell) (cell : Cell) (done : Bool)
    → position_from (has_id i) 0 xs ≡ Some k → old ≡ get_or xs k old → old.state ≡ Live row
    → state_of xs i ≡ Some (Live cells)
    → after ≡ (if done then slice_set row unit cell else row) → done ≡ true
    → (set xs k (record { id = old.id; state = Live after })) ≡ with_state i (Live (slice_set cells unit cell)) xs
written_view xs i k unit old row after cells cell done found is state live put made =
    let place = at_place xs xs i k (Some k) refl (sym found) refl in
    let both : Some (Live row) ≡ Some (Live cells) =
    ap (λ (s : ItemState). Some s) (sym state) ∙ (sym (state_there xs i k old place is) ∙ live) in
    let rows : row ≡ cells = cc in
    let new : after ≡ slice_set cells unit cell = rw (made, rows) at put in
    edited_view xs i k old (record { id = old.id; state = Live after }) (slice_set cells unit cell) place is refl
    (ap (λ (c : List Cell). Live c) new)

-- a tombstone in the place of an item
pub buried_view : (xs : List ItemData) (i : ItemId) (k : ℕ) (old : ItemData) (v : Version)
    → position_from (has_id i) 0 xs ≡ Some k → old ≡ get_or xs k old
    → set xs k (record { id = old.id; state = Dead v }) ≡ with_state i (Dead v) xs
buried_view xs i k old v found is =
    let place = at_place xs xs i k (Some k) refl (sym found) refl in
    place.put (record { id = old.id; state = Dead v }) (id_there xs i k old place is)

-- The items are those of the replica after a live one was deleted.
pub record IsBuried (m : Member) (i : ItemId) (items : List ItemData) : Type 0 where
  pub cells : List Cell
  pub live : state_of m.items i ≡ Some (Live cells)
  pub room : m.clock < max_tick
  pub holds : items ≡ with_state i (Dead (next_version m)) m.items

pub buried : (m n : Member) (xs ys after : List ItemData) (i : ItemId) (place : ℕ) (made : Version)
    → m ≡ n → xs ≡ m.items → ys ≡ xs → IsLiveAt ys i place → full_clock n ≡ None → made ≡ next_version n
    → ((j : ItemId) → position_from (has_id j) 0 xs ≡ Some place → after ≡ with_state j (Dead made) xs)
    → IsBuried m i after
buried m n xs ys after i place made view view_items same at free is put =
    let found : position_from (has_id i) 0 xs ≡ Some place = subst (λ (zs : List ItemData). position_from (has_id i) 0 zs ≡ Some place) same at.found in
    let there : state_of xs i ≡ Some (Live at.live.0) =
    subst (λ (zs : List ItemData). state_of zs i ≡ Some (Live at.live.0)) same at.live.1 in
    let new : made ≡ next_version m = subst (λ (x : Member). made ≡ next_version x) (sym view) is in
    record {
      cells = at.live.0;
      live = rw view_items at there;
      room = can_rise m (subst (λ (x : Member). full_clock x ≡ None) (sym view) free);
      holds = rw (new, view_items) at (put i found);
    }

pub unwritten : (xs : List ItemData) (k : ℕ) (old : ItemData) (row after : List Cell)
    → old ≡ get_or xs k old → old.state ≡ Live row → after ≡ row
    → set xs k (record { id = old.id; state = Live after }) ≡ xs
unwritten xs k old row after is state same =
    let back : Live after ≡ old.state = ap (λ (c : List Cell). Live c) same ∙ sym state in
    ap (λ (s : ItemState). set xs k (record { id = old.id; state = s })) back
    ∙ (ap (λ (x : ItemData). set xs k x) is ∙ set-get_or xs k old)

-- no tombstone is live
pub none_dead : {P : Type 0} (xs : List ItemData) (i : ItemId) (k : ℕ) (old : ItemData) (v : Version) (cells : List Cell)
    → position_from (has_id i) 0 xs ≡ Some k → old ≡ get_or xs k old → old.state ≡ Dead v
    → state_of xs i ≡ Some (Live cells) → P
none_dead xs i k old v cells found is state live =
    let place = at_place xs xs i k (Some k) refl (sym found) refl in
    let both : Some (Dead v) ≡ Some (Live cells) =
    ap (λ (s : ItemState). Some s) (sym state) ∙ (sym (state_there xs i k old place is) ∙ live) in
    absurd (cc)

-- The items are those of the replica after a value that may be written was written to a unit of a live one.
pub record IsWritten (units : ℕ) (m : Member) (i : ItemId) (k : ℕ) (value : List ℕ) (items : List ItemData) : Type 0 where
  pub cells : List Cell
  pub live : state_of m.items i ≡ Some (Live cells)
  pub may : MayWrite units m i k value
  pub holds : items ≡ with_state i (Live (cells_with m cells k value)) m.items

pub written :
    (U : ℕ) (m n : Member) (xs ys after : List ItemData) (i : ItemId) (k place unit : ℕ) (value : List ℕ) (cell : Cell)
    → m ≡ n → xs ≡ m.items → ys ≡ xs → IsTarget U ys i k place unit
    → option_or (if nat_eq k 0 then name_refusal n (Some i) value else None) (full_clock n) ≡ None
    → cell ≡ record { version = next_version n; value = value }
    → ((j : ItemId) (cells : List Cell) → position_from (has_id j) 0 xs ≡ Some place → state_of xs j ≡ Some (Live cells)
    → (unit ≡ 0 → IsName cell.value) → after ≡ with_state j (Live (slice_set cells unit cell)) xs)
    → IsWritten U m i k value after
written U m n xs ys after i k place unit value cell view view_items same target free made wrote =
    let found : position_from (has_id i) 0 xs ≡ Some place = subst (λ (zs : List ItemData). position_from (has_id i) 0 zs ≡ Some place) same target.found in
    let cells = target.live.0 in
    let there : state_of xs i ≡ Some (Live cells) =
    subst (λ (zs : List ItemData). state_of zs i ≡ Some (Live cells)) same target.live.1 in
    let may : MayWrite U m i k value = subst (λ (x : Member). MayWrite U x i k value) (sym view) (may_write_unit U n i k value target.inside free) in
    let new : cell ≡ record { version = next_version m; value = value } =
    subst (λ (x : Member). cell ≡ record { version = next_version x; value = value }) (sym view) made in
    let all = wrote i cells found there (λ zeroth. subst (λ (x : Cell). IsName x.value) (sym new) (may.named (sym target.same ∙ zeroth)).0) in
    record { cells = cells; live = rw view_items at there; may = may; holds = rw (target.same, new, view_items) at all }
