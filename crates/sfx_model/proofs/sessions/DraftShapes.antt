-- The shapes that drafts have, and that each class gives a draft of such a shape whose units may have
-- their marks.
use Rattle.std.proofs.Common.{◌≡◌, ◌⊎◌, ℕ, ◌<◌, Bool, true, false, List, [], length, map, Option, Some, None, slice_get, arith, inl, inr, refl, sym, ◌∙◌, ap, subst}
use Rattle.std.specs.Option.{option_map, option_map_or, option_or}
use Rattle.std.proofs.lemmas.List.{length-map, length-replicate}
use Rattle.std.proofs.lemmas.Option.{slice_get-map}
use Rattle.sfx_ids.specs.declared.item_id.ItemId.{ItemId}
use Rattle.sfx_item.specs.declared.cell.Cell.{Cell}
use Rattle.sfx_model.specs.declared.keep.Keep.{Keep}
use Rattle.sfx_model.specs.declared.keep.Keep.TheVariants.{Source, Destination, Merge, Skip}
use Rattle.sfx_model.specs.declared.mark.Mark.{Mark}
use Rattle.sfx_model.specs.declared.mark.Mark.TheVariants.{Stays, Taken, Stamped, Left, Gone}
use Rattle.sfx_model.specs.world.Sets.{IsPart}
use Rattle.sfx_model.specs.world.World.{World, Site, Snapshot, Record, Holding}
use Rattle.sfx_model.specs.world.Events.{TakeLegal, DropLegal}
use Rattle.sfx_item.specs.Item.{ItemState, Live, Dead}
use Rattle.sfx_model.specs.members.Members.{ItemRepresents}
use Rattle.sfx_model.specs.members.Results.{cell_at}
use Rattle.sfx_model.specs.sessions.Draft.{DraftData, all_marked, values_of, value_in, whole_draft}
use Rattle.sfx_model.specs.sessions.Entry.{is_gone}
use Rattle.sfx_model.specs.world.Units.{at_unit}
use Rattle.sfx_model.proofs.world.UnitsLemmas.{at_get, at_replicate}
use Rattle.sfx_model.proofs.members.FactsHold.{cell_there}

-- Each unit has this mark.
abbrev pub HaveMark : ℕ → DraftData → Mark → Type 0
HaveMark units d k = (u : ℕ) → u < units → at_unit d.marks u Stays ≡ k

-- The mark and value of a unit of a live result agree with the cell seen or held.
abbrev pub IsLiveUnit : Mark → List ℕ → Option Cell → Option Cell → Type 0
IsLiveUnit Stays value seen here = (c : Cell) × (here ≡ Some c) × (c.value ≡ value)
IsLiveUnit Taken value seen here = (c : Cell) × (seen ≡ Some c) × (c.value ≡ value)
IsLiveUnit Stamped value seen here = Unit {0}
IsLiveUnit Left value seen here = (c : Cell) × (here ≡ Some c) × (c.value ≡ value)
IsLiveUnit Gone value seen here = ⊥

pub live_not_gone : (k : Mark) (value : List ℕ) (a b : Option Cell) → IsLiveUnit k value a b → is_gone k ≡ false
live_not_gone Stays value a b is = refl
live_not_gone Taken value a b is = refl
live_not_gone Stamped value a b is = refl
live_not_gone Left value a b is = refl
live_not_gone Gone value a b is = absurd is

-- The state is there and live.
abbrev pub IsLiveOne : Option ItemState → Type 0
IsLiveOne o = (cells : List Cell) × (o ≡ Some (Live cells))

-- The mark brings its unit.
abbrev pub brings_unit : Mark → Bool
brings_unit Stays = false
brings_unit Taken = true
brings_unit Stamped = true
brings_unit Left = false
brings_unit Gone = false

-- Each unit is brought.
abbrev pub BringAll : ℕ → DraftData → Type 0
BringAll units d = (u : ℕ) → u < units → brings_unit (at_unit d.marks u Stays) ≡ true

-- How the marks of a live result go together: the source's item is live, and the local one too, unless
-- each unit is brought; or each unit is stamped.
abbrev pub GoTogether : ℕ → Option ItemState → Option ItemState → DraftData → Type 0
GoTogether units seen here d = (IsLiveOne seen × (IsLiveOne here ⊎ BringAll units d)) ⊎ HaveMark units d Stamped

-- A draft of a live result with these values.
pub record IsLiveDraft (units : ℕ) (seen here : Option ItemState) (d : DraftData) (values : List (List ℕ)) : Type 0 where
  pub are : d.values ≡ Some values
  pub whole : length values ≡ units
  pub each : (u : ℕ) → u < units → IsLiveUnit (at_unit d.marks u Stays) (at_unit values u []) (cell_at seen u) (cell_at here u)
  pub together : GoTogether units seen here d

-- The shapes of drafts.
pub data Shape (units : ℕ) (seen here : Option ItemState) (d : DraftData) : Type 0 where
  KeepsAll : HaveMark units d Stays → d.values ≡ None → Shape units seen here d
  LeavesAll : HaveMark units d Left → d.values ≡ None → Shape units seen here d
  DropsAll : HaveMark units d Gone → d.values ≡ None → Shape units seen here d
  DeletesAll : HaveMark units d Stamped → d.values ≡ None → Shape units seen here d
  TakesDead : (deletion : _) → seen ≡ Some (Dead deletion) → HaveMark units d Taken → d.values ≡ None → Shape units seen here d
  MakesLive : (values : List (List ℕ)) → IsLiveDraft units seen here d values → Shape units seen here d

-- A draft with a mark for each unit, of one of the shapes.
pub record IsShaped (units : ℕ) (seen here : Option ItemState) (d : DraftData) : Type 0 where
  pub long : length d.marks ≡ units
  pub shape : Shape units seen here d

-- What is asked of a unit with the mark, but that a stamp is fresh.
abbrev pub MarkFits : World → Site → Snapshot → ItemId → ℕ → Mark → Type 0
MarkFits w s snapshot i u Stays = IsPart (snapshot.known i u) (s.known i u)
MarkFits w s snapshot i u Taken = TakeLegal s snapshot i u
MarkFits w s snapshot i u Stamped = Unit {0}
MarkFits w s snapshot i u Left = Unit {0}
MarkFits w s snapshot i u Gone = DropLegal w s snapshot i u

-- Each unit may have its mark.
abbrev pub DraftFits : World → Site → Snapshot → ItemId → DraftData → Type 0
DraftFits w s snapshot i d = (u : ℕ) → u < w.units → MarkFits w s snapshot i u (at_unit d.marks u Stays)

-- A live state has a cell for each unit, any other none.
abbrev pub HasCells : ℕ → Option ItemState → Type 0
HasCells units None = Unit {0}
HasCells units (Some (Live cells)) = length cells ≡ units
HasCells units (Some (Dead v)) = Unit {0}

pub cells_held :
    (units : ℕ) (rs : List Record) (i : ItemId) (h : Holding) (o : Option ItemState)
    → ItemRepresents units rs i h o → HasCells units o
cells_held units rs i h None held = tt
cells_held units rs i h (Some (Live cells)) held = held.latest.whole
cells_held units rs i h (Some (Dead v)) held = tt

-- ---- one mark for all units

pub marked_long : (units : ℕ) (k : Mark) (values : Option (List (List ℕ))) → length (all_marked units k values).marks ≡ units
marked_long units k values = length-replicate units k

pub marked_have : (units : ℕ) (k : Mark) (values : Option (List (List ℕ))) → HaveMark units (all_marked units k values) k
marked_have units k values u small = at_replicate units u k Stays small

-- The value of a cell.
pub value_there : (cells : List Cell) (u : ℕ) (c : Cell) → slice_get cells u ≡ Some c → value_in cells u ≡ c.value
value_there cells u c is = ap (λ (o : Option Cell). option_map_or (λ (x : Cell). x.value) o []) is

abbrev cell_values : List Cell → List (List ℕ)
cell_values cells = map (λ c. c.value) cells

listed_value : (cells : List Cell) (u : ℕ) (c : Cell) → slice_get cells u ≡ Some c → at_unit (cell_values cells) u [] ≡ c.value
listed_value cells u c is =
    at_get (map (λ (x : Cell). x.value) cells) u c.value []
    (slice_get-map (λ (x : Cell). x.value) cells u ∙ ap (option_map (λ (x : Cell). x.value)) is)

-- Every unit is stamped with its value.
stamped_shape :
    (units : ℕ) (seen here : Option ItemState) (values : List (List ℕ))
    → length values ≡ units → IsShaped units seen here (all_marked units Stamped (Some values))
stamped_shape units seen here values whole = record {
  long = marked_long units Stamped (Some values);
  shape = MakesLive values (record {
    are = refl;
    whole = whole;
    each = λ u small. subst (λ (k : Mark). IsLiveUnit k (at_unit values u []) (cell_at seen u) (cell_at here u))
        (sym (marked_have units Stamped (Some values) u small)) tt;
    together = inr (marked_have units Stamped (Some values));
  });
}

-- Every unit is stamped with a deletion, or left alone.
pub deleted_shape : (units : ℕ) (seen here : Option ItemState) → IsShaped units seen here (all_marked units Stamped None)
deleted_shape units seen here =
    record { long = marked_long units Stamped None; shape = DeletesAll (marked_have units Stamped None) refl }

pub left_shape : (units : ℕ) (seen here : Option ItemState) → IsShaped units seen here (all_marked units Left None)
left_shape units seen here =
    record { long = marked_long units Left None; shape = LeavesAll (marked_have units Left None) refl }

-- The content of one side is stamped.
side_shape :
    (units : ℕ) (seen here side : Option ItemState)
    → HasCells units side → IsShaped units seen here (all_marked units Stamped (values_of side))
side_shape units seen here None has = deleted_shape units seen here
side_shape units seen here (Some (Dead v)) has = deleted_shape units seen here
side_shape units seen here (Some (Live cells)) has =
    stamped_shape units seen here (cell_values cells) (length-map cells (λ (c : Cell). c.value) ∙ has)

-- The live side is stamped.
merged_shape :
    (units : ℕ) (seen here a b : Option ItemState)
    → HasCells units a → HasCells units b
    → IsShaped units seen here (all_marked units Stamped (option_or (values_of a) (values_of b)))
merged_shape units seen here None b has_a has_b = side_shape units seen here b has_b
merged_shape units seen here (Some (Dead v)) b has_a has_b = side_shape units seen here b has_b
merged_shape units seen here (Some (Live cells)) b has_a has_b = side_shape units seen here (Some (Live cells)) has_a

-- A conflict of all units.
pub whole_shape :
    (units : ℕ) (keep : Keep) (seen here : Option ItemState)
    → HasCells units seen → HasCells units here → IsShaped units seen here (whole_draft units keep seen here)
whole_shape units Source seen here has own = side_shape units seen here seen has
whole_shape units Destination seen here has own = side_shape units seen here here own
whole_shape units Merge seen here has own = merged_shape units seen here seen here has own
whole_shape units Skip seen here has own = left_shape units seen here

pub stamped_fits :
    (w : World) (s : Site) (snapshot : Snapshot) (i : ItemId) (values : Option (List (List ℕ)))
    → DraftFits w s snapshot i (all_marked w.units Stamped values)
stamped_fits w s snapshot i values u small =
    subst (λ (k : Mark). MarkFits w s snapshot i u k) (sym (marked_have w.units Stamped values u small)) tt

pub left_fits : (w : World) (s : Site) (snapshot : Snapshot) (i : ItemId) → DraftFits w s snapshot i (all_marked w.units Left None)
left_fits w s snapshot i u small =
    subst (λ (k : Mark). MarkFits w s snapshot i u k) (sym (marked_have w.units Left None u small)) tt

pub whole_fits :
    (w : World) (s : Site) (snapshot : Snapshot) (i : ItemId) (keep : Keep) (seen here : Option ItemState)
    → DraftFits w s snapshot i (whole_draft w.units keep seen here)
whole_fits w s snapshot i Source seen here = stamped_fits w s snapshot i (values_of seen)
whole_fits w s snapshot i Destination seen here = stamped_fits w s snapshot i (values_of here)
whole_fits w s snapshot i Merge seen here = stamped_fits w s snapshot i (option_or (values_of seen) (values_of here))
whole_fits w s snapshot i Skip seen here = left_fits w s snapshot i

-- ---- all units stay, are taken or go

pub stays_shape : (units : ℕ) (seen here : Option ItemState) → IsShaped units seen here (all_marked units Stays None)
stays_shape units seen here =
    record { long = marked_long units Stays None; shape = KeepsAll (marked_have units Stays None) refl }

pub gone_shape : (units : ℕ) (seen here : Option ItemState) → IsShaped units seen here (all_marked units Gone None)
gone_shape units seen here =
    record { long = marked_long units Gone None; shape = DropsAll (marked_have units Gone None) refl }

pub taken_shape :
    (units : ℕ) (state : ItemState) (here : Option ItemState)
    → HasCells units (Some state) → IsShaped units (Some state) here (all_marked units Taken (values_of (Some state)))
taken_shape units (Dead v) here has =
    record { long = marked_long units Taken None; shape = TakesDead v refl (marked_have units Taken None) refl }
taken_shape units (Live cells) here has = record {
  long = marked_long units Taken (Some (cell_values cells));
  shape = MakesLive (cell_values cells) (record {
    are = refl;
    whole = length-map cells (λ (c : Cell). c.value) ∙ has;
    each = λ u small.
        let (c, is) = cell_there cells u (omega (arith, has)) in
        subst (λ (k : Mark). IsLiveUnit k (at_unit (cell_values cells) u []) (slice_get cells u) (cell_at here u))
        (sym (marked_have units Taken (Some (cell_values cells)) u small)) (c, is, sym (listed_value cells u c is));
    together = inl ((cells, refl), inr (λ u small. rw (marked_have units Taken (Some (cell_values cells)) u small) refl));
  });
}
