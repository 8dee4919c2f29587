use Rattle.std.specs.Prelude.{◌≡◌, ◌≢◌, ℕ, zero, suc, ◌+◌, ◌<◌, ◌≤◌, max, Bool, true, false, not, ◌&&◌, ◌||◌, if◌then◌else◌, nat_eq, nat_lt, ◌⊎◌, List, [], ◌∷◌, ◌++◌, Option, Some, None, IsSomeAnd}
use Rattle.std.specs.Option.{option_map}
use Rattle.sfx_ids.specs.declared.cut.Cut.{Cut}
use Rattle.sfx_ids.specs.declared.cut.Cut.TheVariants.{At}
use Rattle.sfx_ids.specs.declared.item_id.ItemId.{ItemId}
use Rattle.sfx_ids.specs.declared.version.Version.{Version}
use Rattle.sfx_ids.specs.Cut.{is_between}
use Rattle.sfx_ids.specs.ItemId.{creation_of}
use Rattle.sfx_ids.specs.Tick.{max_tick}
use Rattle.sfx_model.specs.world.Sets.{Has, IsPart}
use Rattle.sfx_model.specs.world.Units.{IsUnitCount}
use Rattle.sfx_model.specs.world.World.{Content, Written, Deleted, Record, Site, Snapshot, World, IsDeadAt, IsLiveHolding, IsForgotten, IsSound, holding}

-- What an applied entry does with one unit of its item. What the snapshot knows of the unit is learned,
-- unless the unit is left alone.
pub data UnitMark : Type 0 where
  -- the local version stays
  Keeps : UnitMark
  -- the snapshot's version is taken
  Takes : UnitMark
  -- the unit gets this content at the entry's version
  Stamps : (content : Content) → UnitMark
  -- the unit is left alone
  Leaves : UnitMark
  -- the unit goes with its item, which was cleaned away
  Drops : UnitMark

-- What can happen in a world. A replica that acts is named by its id.
pub data Event : Type 0 where
  -- items get this many units
  Units : (units : ℕ) → Event
  -- items get so many more units, each with the history of unit 0
  Widen : (more : ℕ) → Event
  -- a replica joins
  Join : (id : ℕ) → Event
  -- a replica makes a version of an item, with a content for some units: a creation, an edit, a deletion
  Make : (replica : ℕ) (item : ItemId) (version : Version) (contents : ℕ → Option Content) → Event
  -- a replica cleans a deleted item of this version away, and remembers that at the places of a range
  Clean : (replica : ℕ) (item : ItemId) (version : Version) (lo hi : Cut) → Event
  -- a replica joins a snapshot's forgotten deletions at the places of a range
  Forget : (replica : ℕ) (snapshot : Snapshot) (lo hi : Cut) → Event
  -- a replica applies an entry: a snapshot's state of one item, with a mark for each unit
  Apply : (replica : ℕ) (snapshot : Snapshot) (item : ItemId) (version : Version) (marks : ℕ → UnitMark) → Event
  -- a replica learns all that a snapshot knows of a range of items, but for the units left out
  Learn : (replica : ℕ) (snapshot : Snapshot) (lo hi : Cut) (left : ItemId → ℕ → Bool) → Event

-- Whether both ids are of one item.
abbrev pub same_item : ItemId → ItemId → Bool
same_item i j = nat_eq i.tick j.tick && nat_eq i.replica j.replica

-- Whether the item is in the range.
abbrev pub is_in : Cut → Cut → ItemId → Bool
is_in lo hi i = is_between lo hi (At i)

-- The site of the replica with this id.
abbrev pub site_of : List Site → ℕ → Option Site
site_of [] id = None
site_of (s ∷ ss) id = if nat_eq s.id id then Some s else site_of ss id

-- The sites with this one in the place of the one with its id.
abbrev pub put_site : Site → List Site → List Site
put_site s [] = []
put_site s (x ∷ xs) = if nat_eq x.id s.id then s ∷ xs else x ∷ put_site s xs

-- The site with other known versions of one item, and the item present or not.
abbrev pub with_holding : Site → ItemId → (ℕ → List Version) → Bool → Site
with_holding s i known present = record s {
  known = λ j. if same_item j i then known else s.known j;
  present = λ j. if same_item j i then present else s.present j;
}

-- A site that knows nothing, as of a replica that just with_new_site.
abbrev pub new_site : ℕ → Site
new_site id = record {
  id = id;
  clock = 0;
  known = λ _ _. [];
  present = λ _. false;
  forgotten = λ _ _. 0;
}

-- The records with one more, of this content, where there is a content.
abbrev pub recorded_unit : ItemId → ℕ → Version → List Version → Option Content → List Record → List Record
recorded_unit i u v knew None rs = rs
recorded_unit i u v knew (Some c) rs = record { item = i; unit = u; version = v; content = c; made_knowing = knew } ∷ rs

-- The records with one more for each of the first units that has a content; `knew` is what the maker
-- knows of each unit's cell.
abbrev pub recorded : ItemId → Version → (ℕ → List Version) → (ℕ → Option Content) → ℕ → List Record → List Record
recorded i v knew contents zero rs = rs
recorded i v knew contents (suc n) rs = recorded_unit i n v (knew n) (contents n) (recorded i v knew contents n rs)

-- The known versions of a cell after a version was made there, if a content came.
abbrev pub known_with : Version → List Version → Option Content → List Version
known_with v vs None = vs
known_with v vs (Some c) = v ∷ vs

-- The site after its replica made a version of an item: the item is present, and the clock is the
-- version's tick. `knew` is what it knew of the item before.
abbrev pub site_made : Site → ItemId → Version → (ℕ → List Version) → (ℕ → Option Content) → Site
site_made s i v knew contents =
    record (with_holding s i (λ u. known_with v (knew u) (contents u)) true) { clock = v.tick }

-- Making: one record for each unit with a content, by a maker that knew all that the site knows of the
-- cell.
abbrev pub made : World → Site → ItemId → Version → (ℕ → Option Content) → World
made w s i v contents = record w {
  records = recorded i v (s.known i) contents w.units w.records;
  sites = put_site (site_made s i v (s.known i) contents) w.sites;
}

-- The forgotten deletions with this version contained at each place of the range.
abbrev pub forgotten_with : (Cut → ℕ → ℕ) → Version → Cut → Cut → Cut → ℕ → ℕ
forgotten_with forgotten v lo hi at r =
    if is_between lo hi at && nat_eq r v.replica then max (forgotten at r) v.tick else forgotten at r

-- The site without the item, whose last version it remembers as forgotten at the places of the range.
abbrev pub site_cleaned : Site → ItemId → Version → Cut → Cut → Site
site_cleaned s i v lo hi =
    record (with_holding s i (s.known i) false) { forgotten = forgotten_with s.forgotten v lo hi }

-- Cleaning: the item goes and is remembered as forgotten; what is known stays.
abbrev pub cleaned : World → Site → ItemId → Version → Cut → Cut → World
cleaned w s i v lo hi = record w { sites = put_site (site_cleaned s i v lo hi) w.sites }

-- The forgotten deletions with_new_site with others at each place of the range.
abbrev pub forgotten_joined : (Cut → ℕ → ℕ) → (Cut → ℕ → ℕ) → Cut → Cut → Cut → ℕ → ℕ
forgotten_joined forgotten seen lo hi at r =
    if is_between lo hi at then max (forgotten at r) (seen at r) else forgotten at r

-- The site with its forgotten deletions with_new_site with a snapshot's at the places of the range.
abbrev pub site_forgot : Site → Snapshot → Cut → Cut → Site
site_forgot s snapshot lo hi = record s { forgotten = forgotten_joined s.forgotten snapshot.forgotten lo hi }

-- Forgetting: the forgotten deletions of a snapshot are with_new_site at the places of a range.
abbrev pub forgot : World → Site → Snapshot → Cut → Cut → World
forgot w s snapshot lo hi = record w { sites = put_site (site_forgot s snapshot lo hi) w.sites }

-- The versions of a cell known after an entry with this mark, before anything is made.
abbrev pub known_by : UnitMark → List Version → List Version → List Version
known_by Keeps seen here = here ++ seen
known_by Takes seen here = here ++ seen
known_by (Stamps c) seen here = here ++ seen
known_by Leaves seen here = here
known_by Drops seen here = here ++ seen

-- The content that an entry gives the unit, where it stamps it.
abbrev pub content_of : UnitMark → Option Content
content_of (Stamps c) = Some c
content_of Keeps = None
content_of Takes = None
content_of Leaves = None
content_of Drops = None

-- Whether the entry stamps the unit.
abbrev pub stamps : UnitMark → Bool
stamps (Stamps c) = true
stamps Keeps = false
stamps Takes = false
stamps Leaves = false
stamps Drops = false

-- Whether the entry makes the item present by this unit.
abbrev pub brings : UnitMark → Bool
brings Takes = true
brings (Stamps c) = true
brings Keeps = false
brings Leaves = false
brings Drops = false

-- Whether the entry drops the unit.
abbrev pub is_dropped : UnitMark → Bool
is_dropped Drops = true
is_dropped Keeps = false
is_dropped Takes = false
is_dropped (Stamps c) = false
is_dropped Leaves = false

-- Whether one of the first units passes the test.
abbrev pub some_unit : (ℕ → Bool) → ℕ → Bool
some_unit test zero = false
some_unit test (suc n) = test n || some_unit test n

-- Whether the item is present after an entry: yes where a unit is taken or stamped, no where one is
-- dropped, and else as before.
abbrev pub present_after : (ℕ → UnitMark) → ℕ → Bool → Bool
present_after marks units before =
    if some_unit (λ u. brings (marks u)) units then true
    else (if some_unit (λ u. is_dropped (marks u)) units then false else before)

-- The clock after an entry: the version's tick where a unit is stamped, and else as before.
abbrev pub clock_after : (ℕ → UnitMark) → ℕ → ℕ → ℕ → ℕ
clock_after marks units tick before = if some_unit (λ u. stamps (marks u)) units then tick else before

-- The versions that the site knows of each unit of the item once it has learned what the marks say.
abbrev pub knew_by : (ℕ → UnitMark) → Snapshot → Site → ItemId → ℕ → List Version
knew_by marks snapshot s i u = known_by (marks u) (snapshot.known i u) (s.known i u)

-- The site after an applied entry.
abbrev pub site_applied : ℕ → Site → Snapshot → ItemId → Version → (ℕ → UnitMark) → Site
site_applied units s snapshot i v marks =
    record (with_holding s i (λ u. known_with v (knew_by marks snapshot s i u) (content_of (marks u))) (present_after marks units (s.present i)))
    { clock = clock_after marks units v.tick s.clock }

-- An entry applied: the units that are not left alone are learned, and then the stamped ones are made, so
-- that the new records know what was just learned.
abbrev pub applied : World → Site → Snapshot → ItemId → Version → (ℕ → UnitMark) → World
applied w s snapshot i v marks = record w {
  records = recorded i v (knew_by marks snapshot s i) (λ u. content_of (marks u)) w.units w.records;
  sites = put_site (site_applied w.units s snapshot i v marks) w.sites;
}

-- Whether the cell is learned with a range: its item is in the range, and it is not left out.
abbrev pub is_learned : Cut → Cut → (ItemId → ℕ → Bool) → ItemId → ℕ → Bool
is_learned lo hi left i u = is_in lo hi i && not (left i u)

-- The site after it learned the cells of a range.
abbrev pub site_learned : Site → Snapshot → Cut → Cut → (ItemId → ℕ → Bool) → Site
site_learned s snapshot lo hi left = record s {
  known = λ i u. if is_learned lo hi left i u then s.known i u ++ snapshot.known i u else s.known i u;
}

-- Learning: at each cell of the range that is not left out, the known versions are with_new_site with those of
-- the snapshot. Nothing else changes.
abbrev pub learned : World → Site → Snapshot → Cut → Cut → (ItemId → ℕ → Bool) → World
learned w s snapshot lo hi left = record w { sites = put_site (site_learned s snapshot lo hi left) w.sites }

-- Joining: one more replica, which knows nothing.
abbrev pub with_new_site : World → ℕ → World
with_new_site w id = record w { sites = w.sites ++ new_site id ∷ [] }

-- The content of a new unit, by that of unit 0: a deletion stays one, else the unit is empty.
abbrev pub widened_content : Content → Content
widened_content (Written bytes) = Written []
widened_content Deleted = Deleted

-- The copies at a new unit of the records of unit 0.
abbrev pub copies : ℕ → List Record → List Record
copies u [] = []
copies u (r ∷ rs) =
    if nat_eq r.unit 0 then record r { unit = u; content = widened_content r.content } ∷ copies u rs
    else copies u rs

-- The records with copies for as many new units, of which the first has the number `units`.
abbrev pub widened_records : ℕ → ℕ → List Record → List Record
widened_records units zero rs = rs
widened_records units (suc n) rs = copies (units + n) rs ++ widened_records units n rs

-- The unit before the widening whose history this unit has: unit 0 for a new unit, else the unit itself.
abbrev pub unit_before : ℕ → ℕ → ℕ → ℕ
unit_before units more u = if nat_lt u units then u else (if nat_lt u (units + more) then 0 else u)

-- The site after a widening: at each new unit it knows what it knows at unit 0.
abbrev pub site_widened : ℕ → ℕ → Site → Site
site_widened units more s = record s { known = λ i u. s.known i (unit_before units more u) }

-- Each of the sites after a widening.
abbrev pub sites_widened : ℕ → ℕ → List Site → List Site
sites_widened units more [] = []
sites_widened units more (s ∷ ss) = site_widened units more s ∷ sites_widened units more ss

-- Widening: each item gets new units, with the versions of its unit 0 and empty values.
abbrev pub widened : World → ℕ → World
widened w more = record {
  units = w.units + more;
  records = widened_records w.units more w.records;
  sites = sites_widened w.units more w.sites;
}

-- The world changed by what happens at the site, and unchanged where there is none.
abbrev pub at_site : World → Option Site → (Site → World) → World
at_site w None change = w
at_site w (Some s) change = change s

-- The world after the event.
abbrev pub after : World → Event → World
after w (Units units) = record w { units = units }
after w (Widen more) = widened w more
after w (Join id) = with_new_site w id
after w (Make r i v contents) = at_site w (site_of w.sites r) (λ s. made w s i v contents)
after w (Clean r i v lo hi) = at_site w (site_of w.sites r) (λ s. cleaned w s i v lo hi)
after w (Forget r snapshot lo hi) = at_site w (site_of w.sites r) (λ s. forgot w s snapshot lo hi)
after w (Apply r snapshot i v marks) = at_site w (site_of w.sites r) (λ s. applied w s snapshot i v marks)
after w (Learn r snapshot lo hi left) = at_site w (site_of w.sites r) (λ s. learned w s snapshot lo hi left)

-- A unit count may be said before any replica joins, or said again as it is.
pub record UnitsLegal (w : World) (units : ℕ) : Type 0 where
  pub count : IsUnitCount units
  pub said : ((w.units ≡ 0) × (w.sites ≡ [])) ⊎ (w.units ≡ units)

-- A community that has units may get more, up to a greater unit count.
pub record WidenLegal (w : World) (more : ℕ) : Type 0 where
  pub said : 1 ≤ w.units
  pub count : IsUnitCount (w.units + more)
  pub greater : w.units < w.units + more

-- No replica of the world has this id.
abbrev pub IsNewId : World → ℕ → Type 0
IsNewId w id = (s : Site) → Has s w.sites → s.id ≢ id

-- A replica may join under an id that no other has, once there are units.
pub record JoinLegal (w : World) (id : ℕ) : Type 0 where
  pub said : 1 ≤ w.units
  pub new_id : IsNewId w id

-- The version is the next one of the site's replica, and its tick is no more than ticks go.
pub record IsFresh (s : Site) (v : Version) : Type 0 where
  pub replica : v.replica ≡ s.id
  pub tick : v.tick ≡ s.clock + 1
  pub fits : v.tick ≤ max_tick

-- The version creates the item: it is the item's creation, and each unit gets bytes.
pub record Creates (units : ℕ) (i : ItemId) (v : Version) (contents : ℕ → Option Content) : Type 0 where
  pub creation : v ≡ creation_of i
  pub whole : (u : ℕ) → u < units → (c : Content) × (contents u ≡ Some c) × (c ≢ Deleted)

-- Contents for units below this count: deletions at all of them or at none.
pub record AreContents (units : ℕ) (contents : ℕ → Option Content) : Type 0 where
  pub one_kind : ((u : ℕ) → contents u ≢ Some Deleted) ⊎ ((u : ℕ) → u < units → contents u ≡ Some Deleted)
  pub listed : (u : ℕ) → units ≤ u → contents u ≡ None

-- A replica may make a fresh version that creates the item, or one of an item that it holds live.
pub record MakeLegal (w : World) (s : Site) (i : ItemId) (v : Version) (contents : ℕ → Option Content) : Type 0 where
  pub fresh : IsFresh s v
  pub what : Creates w.units i v contents ⊎ IsLiveHolding w.units w.records i (holding s i)
  pub kinds : AreContents w.units contents

-- A replica may clean away a present item whose units are all deleted by this version, and has to
-- remember that at the item's own place at least.
pub record CleanLegal (w : World) (s : Site) (i : ItemId) (v : Version) (lo hi : Cut) : Type 0 where
  pub present : s.present i ≡ true
  pub dead : IsDeadAt w.units w.records i (s.known i) v
  pub covered : is_in lo hi i ≡ true

-- What the snapshot knows of the item is known here, at each unit that is not left out.
abbrev pub IsKnownHere : Site → Snapshot → (ItemId → ℕ → Bool) → ItemId → Type 0
IsKnownHere s snapshot left i = (u : ℕ) → left i u ≡ false → IsPart (snapshot.known i u) (s.known i u)

-- The item is absent here and in the snapshot, no unit of it is left out, and what the snapshot has
-- forgotten at its place is forgotten here.
pub record IsAbsentInBoth (s : Site) (snapshot : Snapshot) (left : ItemId → ℕ → Bool) (i : ItemId) : Type 0 where
  pub here : s.present i ≡ false
  pub there : snapshot.present i ≡ false
  pub whole : (u : ℕ) → left i u ≡ false
  pub forgotten : (r : ℕ) → snapshot.forgotten (At i) r ≤ s.forgotten (At i) r

-- A replica may learn a range where it already knows what the snapshot knows of each item of it, or
-- where the item is absent in both.
pub record LearnLegal (w : World) (s : Site) (snapshot : Snapshot) (lo hi : Cut) (left : ItemId → ℕ → Bool) : Type 0 where
  pub sound : IsSound w snapshot
  pub items : (i : ItemId) → is_in lo hi i ≡ true → IsKnownHere s snapshot left i ⊎ IsAbsentInBoth s snapshot left i

-- Some version of the item is known.
abbrev pub KnowsItem : (ℕ → List Version) → Type 0
KnowsItem known = (u : ℕ) × (v : Version) × Has v (known u)

-- The unit may be taken: the snapshot has the item, and knows all that is known of the unit here.
pub record TakeLegal (s : Site) (snapshot : Snapshot) (i : ItemId) (u : ℕ) : Type 0 where
  pub known : IsPart (s.known i u) (snapshot.known i u)
  pub present : snapshot.present i ≡ true

-- The unit may be stamped: the version is fresh, and the item is known here or in the snapshot.
pub record StampLegal (s : Site) (snapshot : Snapshot) (i : ItemId) (v : Version) : Type 0 where
  pub fresh : IsFresh s v
  pub known : KnowsItem (s.known i) ⊎ KnowsItem (snapshot.known i)

-- The unit may be dropped: the snapshot has not the item, knows all that is known of the unit here, and
-- each version of the unit gave way to a deletion that is forgotten here.
pub record DropLegal (w : World) (s : Site) (snapshot : Snapshot) (i : ItemId) (u : ℕ) : Type 0 where
  pub absent : snapshot.present i ≡ false
  pub known : IsPart (s.known i u) (snapshot.known i u)
  pub forgotten : (x : Version) → Has x (snapshot.known i u) → IsForgotten w.records i u (snapshot.known i u) (s.forgotten (At i)) x

-- What a mark asks of its unit. A unit may keep its version where the snapshot knows nothing else.
abbrev pub UnitLegal : World → Site → Snapshot → ItemId → Version → ℕ → UnitMark → Type 0
UnitLegal w s snapshot i v u Keeps = IsPart (snapshot.known i u) (s.known i u)
UnitLegal w s snapshot i v u Takes = TakeLegal s snapshot i u
UnitLegal w s snapshot i v u (Stamps c) = StampLegal s snapshot i v
UnitLegal w s snapshot i v u Leaves = Unit {0}
UnitLegal w s snapshot i v u Drops = DropLegal w s snapshot i u

-- Each unit has this mark.
abbrev pub AllMarked : ℕ → (ℕ → UnitMark) → UnitMark → Type 0
AllMarked units marks mark = (u : ℕ) → u < units → marks u ≡ mark

-- Each unit is stamped, with a content of which this holds.
abbrev pub AllStamped : ℕ → (ℕ → UnitMark) → (Content → Type 0) → Type 0
AllStamped units marks P = (u : ℕ) → u < units → (c : Content) × (marks u ≡ Stamps c) × P c

-- Each unit is taken or stamped.
abbrev pub AllBring : ℕ → (ℕ → UnitMark) → Type 0
AllBring units marks = (u : ℕ) → u < units → brings (marks u) ≡ true

-- Marks that may differ from unit to unit: the snapshot's item is live, so is the result, no unit is
-- dropped, and the local item is live too unless each unit is taken or stamped.
pub record AreMixed (w : World) (s : Site) (snapshot : Snapshot) (i : ItemId) (marks : ℕ → UnitMark) : Type 0 where
  pub there : IsLiveHolding w.units w.records i (holding snapshot i)
  pub result : (u : ℕ) → u < w.units → marks u ≢ Stamps Deleted
  pub whole : (u : ℕ) → u < w.units → marks u ≢ Drops
  pub here : IsLiveHolding w.units w.records i (holding s i) ⊎ AllBring w.units marks

-- The shapes that the marks of one entry can have together.
pub data Joint (w : World) (s : Site) (snapshot : Snapshot) (i : ItemId) (marks : ℕ → UnitMark) : Type 0 where
  AllStay : AllMarked w.units marks Keeps → Joint w s snapshot i marks
  AllTaken : AllMarked w.units marks Takes → Joint w s snapshot i marks
  AllLeft : AllMarked w.units marks Leaves → Joint w s snapshot i marks
  AllGone : AllMarked w.units marks Drops → Joint w s snapshot i marks
  AllDelete : AllStamped w.units marks (λ c. c ≡ Deleted) → Joint w s snapshot i marks
  AllWrite : AllStamped w.units marks (λ c. c ≢ Deleted) → Joint w s snapshot i marks
  Mixed : AreMixed w s snapshot i marks → Joint w s snapshot i marks

-- An entry may be applied where the snapshot is sound, each unit may have its mark, the marks have one
-- of the shapes together, and no unit beyond the count is stamped.
pub record ApplyLegal (w : World) (s : Site) (snapshot : Snapshot) (i : ItemId) (v : Version) (marks : ℕ → UnitMark) : Type 0 where
  pub sound : IsSound w snapshot
  pub units : (u : ℕ) → u < w.units → UnitLegal w s snapshot i v u (marks u)
  pub above : (u : ℕ) → w.units ≤ u → content_of (marks u) ≡ None
  pub joint : Joint w s snapshot i marks

-- The event may happen in the world; the replica that acts has a site in it.
abbrev pub Legal : World → Event → Type 0
Legal w (Units units) = UnitsLegal w units
Legal w (Widen more) = WidenLegal w more
Legal w (Join id) = JoinLegal w id
Legal w (Make r i v contents) = IsSomeAnd (site_of w.sites r) (λ s. MakeLegal w s i v contents)
Legal w (Clean r i v lo hi) = IsSomeAnd (site_of w.sites r) (λ s. CleanLegal w s i v lo hi)
Legal w (Forget r snapshot lo hi) = IsSomeAnd (site_of w.sites r) (λ s. IsSound w snapshot)
Legal w (Apply r snapshot i v marks) = IsSomeAnd (site_of w.sites r) (λ s. ApplyLegal w s snapshot i v marks)
Legal w (Learn r snapshot lo hi left) = IsSomeAnd (site_of w.sites r) (λ s. LearnLegal w s snapshot lo hi left)

-- The world after the events, one by one.
abbrev pub after_all : World → List Event → World
after_all w [] = w
after_all w (e ∷ es) = after_all (after w e) es

-- Each event may happen when its turn comes.
abbrev pub AllLegal : World → List Event → Type 0
AllLegal w [] = Unit {0}
AllLegal w (e ∷ es) = Legal w e × AllLegal (after w e) es

-- An event as a line of a script gives it. It names a source replica in place of a snapshot: the snapshot
-- is the source's site as it stands when the turn comes.
pub data Deed : Type 0 where
  Own : (event : Event) → Deed
  ForgetFrom : (replica source : ℕ) (lo hi : Cut) → Deed
  ApplyFrom : (replica source : ℕ) (item : ItemId) (version : Version) (marks : ℕ → UnitMark) → Deed
  LearnFrom : (replica source : ℕ) (lo hi : Cut) (left : ItemId → ℕ → Bool) → Deed

-- The event that the deed is with this snapshot.
abbrev pub seen_by : Snapshot → Deed → Event
seen_by snapshot (Own event) = event
seen_by snapshot (ForgetFrom r source lo hi) = Forget r snapshot lo hi
seen_by snapshot (ApplyFrom r source i v marks) = Apply r snapshot i v marks
seen_by snapshot (LearnFrom r source lo hi left) = Learn r snapshot lo hi left

-- The event that the deed is in this world, where the world has its source.
abbrev pub event_of : World → Deed → Option Event
event_of w (Own event) = Some event
event_of w (ForgetFrom r source lo hi) = option_map (λ s. Forget r s lo hi) (site_of w.sites source)
event_of w (ApplyFrom r source i v marks) = option_map (λ s. Apply r s i v marks) (site_of w.sites source)
event_of w (LearnFrom r source lo hi left) = option_map (λ s. Learn r s lo hi left) (site_of w.sites source)

-- The world after what the deed is in it.
abbrev pub after_deed : World → Option Event → World
after_deed w None = w
after_deed w (Some event) = after w event

-- The deed has a source, and is an event that may happen.
abbrev pub IsLegalDeed : World → Deed → Type 0
IsLegalDeed w d = IsSomeAnd (event_of w d) (λ event. Legal w event)

-- The world after the deeds, one by one.
abbrev pub after_deeds : World → List Deed → World
after_deeds w [] = w
after_deeds w (d ∷ ds) = after_deeds (after_deed w (event_of w d)) ds

-- Each deed may happen when its turn comes.
abbrev pub AreLegalDeeds : World → List Deed → Type 0
AreLegalDeeds w [] = Unit {0}
AreLegalDeeds w (d ∷ ds) = IsLegalDeed w d × AreLegalDeeds (after_deed w (event_of w d)) ds
