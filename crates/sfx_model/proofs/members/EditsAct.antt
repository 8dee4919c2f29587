-- What a replica does when it makes a version: an item created, edited or deleted.
use Rattle.std.proofs.Common.{◌≡◌, ◌≢◌, ℕ, zero, suc, ◌+◌, ◌<◌, ◌≤◌, true, false, List, [], ◌∷◌, length, Option, Some, None, ◌⊎◌, inl, inr, refl, sym, ◌∙◌, ap, subst, arith}
use Rattle.std.specs.Prelude.{slice_get, slice_set}
use Rattle.std.specs.Option.{option_map}
use Rattle.std.proofs.lemmas.Bool.{eq-eqb, ne_eqb, cases_eq, lt-ltb, le-ltb}
use Rattle.std.proofs.lemmas.Option.{slice_get-map, slice_get_past, slice_get_cases}
use Rattle.std.proofs.lemmas.List.{length-map}
use Rattle.std.proofs.Math.ListN.{length-set}
use Rattle.sfx_ids.specs.declared.item_id.ItemId.{ItemId}
use Rattle.sfx_ids.specs.declared.version.Version.{Version}
use Rattle.sfx_ids.specs.Tick.{max_tick}
use Rattle.sfx_item.specs.declared.cell.Cell.{Cell}
use Rattle.sfx_model.specs.world.Sets.{Has}
use Rattle.sfx_model.specs.world.World.{Content, Written, Deleted, World, Site, WellFormed, IsLiveHolding, holding}
use Rattle.sfx_model.specs.world.Events.{same_item, Make, site_of, Legal, MakeLegal, IsFresh}
use Rattle.sfx_item.specs.Item.{ItemData, ItemState, Live, Dead}
use Rattle.sfx_model.specs.members.Members.{Shown, Member, Represents, ItemRepresents, AreAscending, shown, state_of}
use Rattle.sfx_model.specs.members.Results.{KeepsOthers, EditResult, StateResult, DeadNow, LiveNow, CellResult, CellsResult, edit_mark, cell_at}
use Rattle.sfx_model.specs.members.Replica.{RepresentsReplica, ActsIn}
use Rattle.sfx_model.specs.members.States.{Rises, with_item, with_state, next_created, cells_with, KnowsOthersAlike, next_version, next_item, cells_at, created_contents, edited_contents, deleted_contents}
use Rattle.sfx_model.proofs.world.EventsKeepWorld.{event_keeps}
use Rattle.sfx_model.proofs.members.FactsHold.{live_holding, cell_with}
use Rattle.sfx_model.proofs.members.ReplicasStand.{edit_replica}
use Rattle.sfx_model.proofs.world.SiteLemmas.{found}
use Rattle.sfx_model.proofs.world.StepKeepsWorld.{same_item_self}
use Rattle.sfx_model.proofs.members.OthersStand.{known_bounded}
use Rattle.sfx_model.proofs.members.StatesLemmas.{with_ascending, with_found, with_others, state_ascending, state_found, state_others}

-- The member m becomes n as its replica makes a version of an item, of which it then has this state; its
-- other items stay, and the items are in order of their ids.
pub record ItemChanges (units : ℕ) (i : ItemId) (state : ItemState) (m n : Member) : Type 0 where
  pub id : n.id ≡ m.id
  pub clock : n.clock ≡ m.clock + 1
  pub knowledge : KnowsOthersAlike units m n
  pub forgotten : n.forgotten ≡ m.forgotten
  pub item : state_of n.items i ≡ Some state
  pub others : KeepsOthers i (shown m) (shown n)
  pub ascending : AreAscending n.items

-- What an item's change owes of the member.
change_result :
    (units : ℕ) (i : ItemId) (state : ItemState) (contents : ℕ → Option Content) (m n : Member)
    → ItemChanges units i state m n
    → StateResult units (next_version m) (λ u. edit_mark (contents u)) (state_of m.items i) None (Some state)
    → EditResult units i (next_version m) contents (shown m) (shown n)
change_result units i state contents m n changes result = record {
  id = changes.id;
  clock = changes.clock;
  vectors = λ place u r there small. elim (cases_eq r n.id) [
    | inl own ↦ rw (eq-eqb r n.id own) refl
    | inr other ↦
        let apart : r ≢ m.id = λ e. other (e ∙ sym changes.id) in
        rw (ne_eqb r n.id other, ne_eqb r m.id apart) (changes.knowledge place u r there small apart)
  ];
  forgotten = λ place r there. rw changes.forgotten refl;
  others = changes.others;
  item = subst (λ (o : Option ItemState). StateResult units (next_version m) (λ u. edit_mark (contents u))
      (state_of m.items i) None o) (sym changes.item) result;
}

-- An event at a site is legal, where it is so at the site that is found.
legal_at :
    (w : World) (r : ℕ) (s : Site) (i : ItemId) (v : Version) (contents : ℕ → Option Content)
    → site_of w.sites r ≡ Some s → MakeLegal w s i v contents → Legal w (Make r i v contents)
legal_at w r s i v contents at legal = rw at legal

-- The next version of a member is fresh at its site.
fresh_after :
    (w : World) (s : Site) (m : Member)
    → Represents w s (shown m) → m.clock < max_tick → IsFresh s (next_version m)
fresh_after w s m rep room =
    record { replica = rep.header.id; tick = ap (λ (t : ℕ). t + 1) rep.header.clock; fits = omega arith }

-- The cell of a created unit is that of its value.
created_cell :
    (v : Version) (c : Cell) (before : Option Cell) (o : Option (List ℕ))
    → option_map (cell_with v) o ≡ Some c → CellResult v (edit_mark (option_map Written o)) before None c
created_cell v c before None is = absurd (cc)
created_cell v c before (Some value) is =
    let same : cell_with v value ≡ c = cc in
    record { version = ap (λ (x : Cell). x.version) (sym same); bytes = ap (λ (x : Cell). x.value) (sym same) }

-- The cells of a creation.
created_cells :
    (units : ℕ) (v : Version) (values : List (List ℕ)) (before : Option ItemState)
    → length values ≡ units
    → CellsResult units v (λ u. edit_mark (created_contents values u)) before None (cells_at v values)
created_cells units v values before whole = record {
  whole = length-map values (cell_with v) ∙ whole;
  each = λ u c here. created_cell v c (cell_at before u) (slice_get values u)
      (sym (slice_get-map (cell_with v) values u) ∙ here);
}

-- A value of a list that has it.
value_there :
    (values : List (List ℕ)) (u : ℕ)
    → u < length values → (value : List ℕ) × (slice_get values u ≡ Some value)
value_there values u small =
    elim (slice_get_cases values u).1 [
      | inl (value, lt, is, get) ↦ (value, is)
      | inr (past, is) ↦ absurd (omega arith)
    ]

written : (o : Option (List ℕ)) → option_map Written o ≢ Some Deleted
written None e = cc
written (Some value) e = let bad : Written value ≡ Deleted = cc in cc

-- The contents of a creation are legal.
created_legal :
    (w : World) (s : Site) (m : Member) (values : List (List ℕ))
    → Represents w s (shown m) → m.clock < max_tick → length values ≡ w.units
    → MakeLegal w s (next_item m) (next_version m) (created_contents values)
created_legal w s m values rep room whole = record {
  fresh = fresh_after w s m rep room;
  what = inl (record {
    creation = refl;
    whole = λ u small. let (value, is) = value_there values u (omega arith) in (Written value, rw is refl, λ bad. cc);
  });
  kinds = record {
    one_kind = inl (λ u. written (slice_get values u));
    listed = λ u big. rw (slice_get_past values u (omega arith)) refl;
  };
}

-- An item that a member has live is live at its site.
live_at :
    (w : World) (s : Site) (m : Shown) (i : ItemId) (cells : List Cell)
    → WellFormed w → Represents w s m → state_of m.items i ≡ Some (Live cells)
    → IsLiveHolding w.units w.records i (holding s i)
live_at w s m i cells ok rep live =
    live_holding w s i cells ok (subst (λ (o : Option ItemState). ItemRepresents w.units w.records i (holding s i) o) live (rep.items i))

-- A live item has a cell for each unit.
live_whole :
    (w : World) (s : Site) (m : Shown) (i : ItemId) (cells : List Cell)
    → Represents w s m → state_of m.items i ≡ Some (Live cells) → length cells ≡ w.units
live_whole w s m i cells rep live =
    (subst (λ (o : Option ItemState). ItemRepresents w.units w.records i (holding s i) o) live
    (rep.items i)).latest.whole

-- A list of cells with one of them replaced.
pub set_cases :
    (cells : List Cell) (u x : ℕ) (new c : Cell)
    → slice_get (slice_set cells u new) x ≡ Some c → ((x ≡ u) × (new ≡ c)) ⊎ ((x ≢ u) × (slice_get cells x ≡ Some c))
set_cases [] u x new c is = absurd (cc)
set_cases (y ∷ ys) zero zero new c is = inl (refl, cc)
set_cases (y ∷ ys) zero (suc x) new c is = inr (λ e. omega arith, is)
set_cases (y ∷ ys) (suc u) zero new c is = inr (λ e. omega arith, is)
set_cases (y ∷ ys) (suc u) (suc x) new c is =
    elim (set_cases ys u x new c is) [
      | inl (same, here) ↦ inl (ap suc same, here)
      | inr (other, there) ↦ inr (λ e. other (omega arith), there)
    ]

-- The content of an edit at its unit, and at the others.
edited_here : (unit x : ℕ) (value : List ℕ) → x ≡ unit → edited_contents unit value x ≡ Some (Written value)
edited_here unit x value same = rw (eq-eqb x unit same) refl

edited_other : (unit x : ℕ) (value : List ℕ) → x ≢ unit → edited_contents unit value x ≡ None
edited_other unit x value other = rw (ne_eqb x unit other) refl

-- The cells of an edit.
edited_cells :
    (units unit : ℕ) (v : Version) (value : List ℕ) (cells : List Cell)
    → length cells ≡ units
    → CellsResult units v (λ u. edit_mark (edited_contents unit value u)) (Some (Live cells)) None
    (slice_set cells unit (cell_with v value))
edited_cells units unit v value cells whole = record {
  whole = length-set cells unit (cell_with v value) ∙ whole;
  each = λ u c here. elim (set_cases cells unit u (cell_with v value) c here) [
    | inl (same, is) ↦
        subst (λ (o : Option Content). CellResult v (edit_mark o) (slice_get cells u) None c)
        (sym (edited_here unit u value same))
        (record { version = ap (λ (x : Cell). x.version) (sym is); bytes = ap (λ (x : Cell). x.value) (sym is) })
    | inr (other, is) ↦
        subst (λ (o : Option Content). CellResult v (edit_mark o) (slice_get cells u) None c)
        (sym (edited_other unit u value other)) is
  ];
}

-- The contents of an edit are legal.
edited_legal :
    (w : World) (s : Site) (m : Member) (i : ItemId) (unit : ℕ) (value : List ℕ) (cells : List Cell)
    → WellFormed w → Represents w s (shown m) → m.clock < max_tick → unit < w.units
    → state_of m.items i ≡ Some (Live cells) → MakeLegal w s i (next_version m) (edited_contents unit value)
edited_legal w s m i unit value cells ok rep room small live = record {
  fresh = fresh_after w s m rep room;
  what = inr (live_at w s (shown m) i cells ok rep live);
  kinds = record {
    one_kind = inl (λ u e. elim (cases_eq u unit) [
      | inl same ↦ let bad : Some (Written value) ≡ Some Deleted = sym (edited_here unit u value same) ∙ e in cc
      | inr other ↦ let bad : None ≡ Some Deleted = sym (edited_other unit u value other) ∙ e in cc
    ]);
    listed = λ u big. edited_other unit u value (λ e. omega arith);
  };
}

-- The id of the item that a member creates next is that of no item.
pub next_unused :
    (w : World) (s : Site) (m : Member)
    → WellFormed w → Has s w.sites → Represents w s (shown m) → state_of m.items (next_item m) ≡ None
next_unused w s m ok has rep = by_state (state_of m.items (next_item m)) refl
  where
    known :
        ItemRepresents w.units w.records (next_item m) (holding s (next_item m)) None ⊎
        ((v : Version) × Has v (s.known (next_item m) 0))
    known = is_known (state_of m.items (next_item m)) (rep.items (next_item m))
      where
        is_known :
            (o : Option ItemState)
            → ItemRepresents w.units w.records (next_item m) (holding s (next_item m)) o
            → ItemRepresents w.units w.records (next_item m) (holding s (next_item m)) None ⊎
            ((v : Version) × Has v (s.known (next_item m) 0))
        is_known None held = inl held
        is_known (Some state) held = elim ((ok.sound s has (next_item m)).held held.is_present) [
          | inl live ↦ let (v, latest, writes) = live 0 (ok.counted s has) in inr (v, latest.0)
          | inr dead ↦ let (v, each) = dead in inr (v, (each 0 (ok.counted s has)).0.0)
        ]

    unknown : (v : Version) → Has v (s.known (next_item m) 0) → ⊥
    unknown v there =
        let creation = (ok.sound s has (next_item m)).creation 0 v there 0 (ok.counted s has) in
        let low : m.clock + 1 ≤ s.clock =
        known_bounded w s s (next_item m) 0 (next_version m) ok has has (sym rep.header.id) creation in
        let clock : m.clock ≡ s.clock = rep.header.clock in
        omega arith

    by_state : (o : Option ItemState) → state_of m.items (next_item m) ≡ o → o ≡ None
    by_state None e = refl
    by_state (Some state) e =
        let held : ItemRepresents w.units w.records (next_item m) (holding s (next_item m)) (Some state) =
        subst (λ (o : Option ItemState). ItemRepresents w.units w.records (next_item m) (holding s (next_item m))
        o) e (rep.items (next_item m)) in
        absurd (elim known [
          | inl absent ↦ let bad : true ≡ false = sym held.is_present ∙ absent in cc
          | inr (v, there) ↦ unknown v there
        ])

-- An item put in its place is a change of it.
with_changes :
    (units : ℕ) (m n : Member) (x : ItemData)
    → AreAscending m.items → state_of m.items x.id ≡ None → Rises units m n (with_item x m.items)
    → ItemChanges units x.id x.state m n
with_changes units m n x ascending new rises = record {
  id = rises.id;
  clock = rises.clock;
  knowledge = rises.knowledge;
  forgotten = rises.forgotten;
  item = rw rises.holds (with_found x m.items new);
  others = λ j other. rw rises.holds
      (with_others x m.items j
      (λ same. let bad : true ≡ false =
      sym (same_item_self j) ∙ subst (λ (k : ItemId). same_item j k ≡ false) same other in cc));
  ascending = subst (λ (xs : List ItemData). AreAscending xs) (sym rises.holds) (with_ascending x m.items ascending new);
}

-- Another state of an item is a change of it.
state_changes :
    (units : ℕ) (m n : Member) (i : ItemId) (old state : ItemState)
    → AreAscending m.items → state_of m.items i ≡ Some old → Rises units m n (with_state i state m.items)
    → ItemChanges units i state m n
state_changes units m n i old state ascending was rises = record {
  id = rises.id;
  clock = rises.clock;
  knowledge = rises.knowledge;
  forgotten = rises.forgotten;
  item = rw rises.holds (state_found i state old m.items was);
  others = λ j other. rw rises.holds
      (state_others i state m.items j
      (λ same. let bad : true ≡ false =
      sym (same_item_self j) ∙ subst (λ (k : ItemId). same_item j k ≡ false) same other in cc));
  ascending = subst (λ (xs : List ItemData). AreAscending xs) (sym rises.holds) (state_ascending i state m.items ascending);
}

-- The replica made a version of an item, where that is legal.
change_acts :
    (w : World) (m n : Member) (i : ItemId) (state : ItemState) (contents : ℕ → Option Content)
    → WellFormed w → RepresentsReplica w m.id (shown m) → ItemChanges w.units i state m n
    → Legal w (Make m.id i (next_version m) contents)
    → StateResult w.units (next_version m) (λ u. edit_mark (contents u)) (state_of m.items i) None (Some state)
    → ActsIn w (Make m.id i (next_version m) contents) m.id n
change_acts w m n i state contents ok stands change legal result = record {
  legal = legal;
  well_formed = event_keeps w (Make m.id i (next_version m) contents) ok legal;
  represents = edit_replica w m.id i (next_version m) contents (shown m) (shown n) ok legal stands
      (change_result w.units i state contents m n change result);
  ascending = change.ascending;
}

-- A replica creates an item.
pub created_acts :
    (w : World) (m n : Member) (values : List (List ℕ))
    → WellFormed w → RepresentsReplica w m.id (shown m) → AreAscending m.items → m.clock < max_tick
    → length values ≡ w.units → Rises w.units m n (with_item (next_created m values) m.items)
    → ActsIn w (Make m.id (next_item m) (next_version m) (created_contents values)) m.id n
created_acts w m n values ok (s, at, is) ascending room whole rises =
    change_acts w m n (next_item m) (Live (cells_at (next_version m) values)) (created_contents values) ok (s, at, is)
    (with_changes w.units m n (next_created m values) ascending (next_unused w s m ok (found w.sites m.id s at).0 is) rises)
    (legal_at w m.id s (next_item m) (next_version m) (created_contents values) at
    (created_legal w s m values is room whole))
    (LiveNow (cells_at (next_version m) values) refl
    (created_cells w.units (next_version m) values (state_of m.items (next_item m)) whole))

-- A replica writes a value to one unit of a live item.
pub edited_acts :
    (w : World) (m n : Member) (i : ItemId) (unit : ℕ) (value : List ℕ) (cells : List Cell)
    → WellFormed w → RepresentsReplica w m.id (shown m) → AreAscending m.items → m.clock < max_tick → unit < w.units
    → state_of m.items i ≡ Some (Live cells) → Rises w.units m n (with_state i (Live (cells_with m cells unit value)) m.items)
    → ActsIn w (Make m.id i (next_version m) (edited_contents unit value)) m.id n
edited_acts w m n i unit value cells ok (s, at, is) ascending room small live rises =
    change_acts w m n i (Live (slice_set cells unit (cell_with (next_version m) value))) (edited_contents unit value) ok
    (s, at, is)
    (state_changes w.units m n i (Live cells) (Live (cells_with m cells unit value)) ascending live rises)
    (legal_at w m.id s i (next_version m) (edited_contents unit value) at
    (edited_legal w s m i unit value cells ok is room small live))
    (LiveNow (slice_set cells unit (cell_with (next_version m) value)) refl
    (subst (λ (o : Option ItemState). CellsResult w.units (next_version m)
    (λ u. edit_mark (edited_contents unit value u)) o None (slice_set cells unit (cell_with (next_version m) value)))
    (sym live)
    (edited_cells w.units unit (next_version m) value cells (live_whole w s (shown m) i cells is live))))

deleted_here : (units u : ℕ) → u < units → deleted_contents units u ≡ Some Deleted
deleted_here units u small = rw (lt-ltb u units small) refl

-- A replica deletes a live item.
pub deleted_acts :
    (w : World) (m n : Member) (i : ItemId) (cells : List Cell)
    → WellFormed w → RepresentsReplica w m.id (shown m) → AreAscending m.items → m.clock < max_tick
    → state_of m.items i ≡ Some (Live cells) → Rises w.units m n (with_state i (Dead (next_version m)) m.items)
    → ActsIn w (Make m.id i (next_version m) (deleted_contents w.units)) m.id n
deleted_acts w m n i cells ok (s, at, is) ascending room live rises =
    let legal : MakeLegal w s i (next_version m) (deleted_contents w.units) = record {
      fresh = fresh_after w s m is room;
      what = inr (live_at w s (shown m) i cells ok is live);
      kinds = record {
        one_kind = inr (λ u small. deleted_here w.units u small);
        listed = λ u big. rw (le-ltb u w.units big) refl;
      };
    } in
    change_acts w m n i (Dead (next_version m)) (deleted_contents w.units) ok (s, at, is)
    (state_changes w.units m n i (Live cells) (Dead (next_version m)) ascending live rises)
    (legal_at w m.id s i (next_version m) (deleted_contents w.units) at legal)
    (DeadNow (λ u small. (Deleted, ap edit_mark (deleted_here w.units u small), refl)) refl)
