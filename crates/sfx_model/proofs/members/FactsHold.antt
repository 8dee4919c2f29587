-- The three facts of a member that represents its site: its knowledge is exact, it respects the
-- Deletions that it knows, and equal knowledge means equal live items.
use Rattle.std.proofs.Common.{◌≡◌, ℕ, suc, ◌<◌, ◌≤◌, List, [], ◌∷◌, Option, Some, None, length, inl, inr, refl, sym, ◌∙◌, ap, subst, arith}
use Rattle.std.specs.Prelude.{slice_get}
use Rattle.std.proofs.lemmas.Option.{slice_get_cases}
use Rattle.sfx_ids.specs.declared.cut.Cut.TheVariants.{At}
use Rattle.sfx_ids.specs.declared.item_id.ItemId.{ItemId}
use Rattle.sfx_ids.specs.declared.version.Version.{Version}
use Rattle.sfx_model.specs.world.Sets.{Has}
use Rattle.sfx_model.specs.world.World.{Record, Written, Deleted, World, Site, WellFormed, IsLiveHolding, IsSoundItem, holding, IsAt, Made, IsDeletion, Precedes, IsLatest, IsHistory}
use Rattle.sfx_item.specs.declared.cell.Cell.{Cell}
use Rattle.sfx_item.specs.Item.{ItemState, Live, Dead, version_at}
use Rattle.sfx_model.specs.members.Members.{Shown, Represents, ItemRepresents, IsLatestState, IsLatestCell, AreAscending, Community, shown, state_of}
use Rattle.sfx_model.specs.members.StandsIn.{StateStandsIn}
use Rattle.sfx_model.specs.members.Headline.{IsHeldOrCleaned, KnowledgeIsExact, HaveEqualKnowledge, EqualKnowledgeMeansEqualItems, DeletionsAreRespected, FactsHold}
use Rattle.sfx_model.proofs.members.AscendingItems.{live_equal}
use Rattle.sfx_model.proofs.world.SiteLemmas.{found}
use Rattle.sfx_model.proofs.world.CausalOrder.{one_record, one_of_both, before_known}

-- A cell of a list that has it
pub cell_there : (cells : List Cell) (u : ℕ) → u < length cells → (c : Cell) × (slice_get cells u ≡ Some c)
cell_there cells u small =
    elim (slice_get_cases cells u).1 [
      | inl (c, lt, is, get) ↦ (c, is)
      | inr (past, is) ↦ absurd (omega arith)
    ]

-- What was made was made at a unit that items have
pub made_below : (w : World) (i : ItemId) (u : ℕ) (v : Version) → WellFormed w → Made w.records i u v → u < w.units
made_below w i u v ok made = subst (λ (x : ℕ). x < w.units) made.2.unit (ok.records made.0 made.1).unit

-- What an item holds, where a version of it is known
held_of :
    (w : World) (s : Site) (m : Shown) (i : ItemId) (u : ℕ) (v : Version) (o : Option ItemState)
    → IsSoundItem w.units w.records i (holding s i) → Represents w s m → u < w.units
    → ItemRepresents w.units w.records i (holding s i) o → Has v (s.known i u) → IsHeldOrCleaned w m i u v o
held_of w s m i u v None ok rep small stands has =
    let (d, has_d, before, deletes, within) = ok.cleaned stands u v has in (
      d,
      before,
      deletes,
      (rep.exact i u d (deletes.0, deletes.1, deletes.2)).1 has_d,
      subst (λ (n : ℕ). d.tick ≤ n)
          (sym (rep.header.forgotten (At i) d.replica tt)) within,
    )
held_of w s m i u v (Some (Live cells)) ok rep small stands has =
    let (c, is) = cell_there cells u (omega (arith, stands.latest.whole)) in
    (c.version, rw is refl, (stands.latest.each u c is).latest.1 v has)
held_of w s m i u v (Some (Dead d)) ok rep small stands has = (d, refl, (stands.latest u small).0.1 v has)

-- A version that a held one was made knowing is known
known_of :
    (w : World) (s : Site) (m : Shown) (i : ItemId) (u : ℕ) (v : Version) (o : Option ItemState)
    → IsSoundItem w.units w.records i (holding s i) → Represents w s m → u < w.units
    → ItemRepresents w.units w.records i (holding s i) o → IsHeldOrCleaned w m i u v o → Has v (s.known i u)
known_of w s m i u v None ok rep small stands cleaned =
    let (d, before, deletes, contains, within) = cleaned in
    before_known w.records i u (s.known i u) v d (ok.cells u)
    ((rep.exact i u d (deletes.0, deletes.1, deletes.2)).0 contains) before
known_of w s m i u v (Some (Live cells)) ok rep small stands held =
    let (c, is) = cell_there cells u (omega (arith, stands.latest.whole)) in
    let found : version_at (Live cells) u ≡ Some c.version = rw is refl in
    let e : held.0 ≡ c.version = cc in
    before_known w.records i u (s.known i u) v c.version (ok.cells u) (stands.latest.each u c is).latest.0
    (subst (λ (x : Version). Precedes w.records i u v x) e held.2)
known_of w s m i u v (Some (Dead d)) ok rep small stands held =
    let e : held.0 ≡ d = cc in
    before_known w.records i u (s.known i u) v d (ok.cells u) (stands.latest u small).0.0
    (subst (λ (x : Version). Precedes w.records i u v x) e held.2)

-- Knowledge is exact
pub knowledge_exact :
    (w : World) (s : Site) (m : Shown)
    → WellFormed w → Has s w.sites → Represents w s m → KnowledgeIsExact w m
knowledge_exact w s m ok has rep i u v made =
    let small = made_below w i u v ok made in (
      (λ contains. held_of w s m i u v (state_of m.items i) (ok.sound s has i) rep small (rep.items i)
          ((rep.exact i u v made).0 contains)),
      (λ held. (rep.exact i u v made).1
          (known_of w s m i u v (state_of m.items i) (ok.sound s has i) rep small (rep.items i) held)),
    )

-- A version of a cell with a value does not delete it
pub no_deletion :
    (rs : List Record) (i : ItemId) (u : ℕ) (v : Version) (value : List ℕ)
    → IsHistory rs → ((r : Record) × Has r rs × IsAt r i u v × (r.content ≡ Written value)) → IsDeletion rs i u v → ⊥
no_deletion rs i u v value ok sets deletes =
    let same : sets.0 ≡ deletes.0 = one_record rs sets.0 deletes.0 i u v ok sets.1 deletes.1 sets.2 deletes.2 in
    let bad : Written value ≡ Deleted = sym sets.3 ∙ ap (λ (r : Record). r.content) same ∙ deletes.3 in
    cc

-- An item with a live state is live there
pub live_holding :
    (w : World) (x : Site) (i : ItemId) (cells : List Cell)
    → WellFormed w → ItemRepresents w.units w.records i (holding x i) (Some (Live cells))
    → IsLiveHolding w.units w.records i (holding x i)
live_holding w x i cells ok held = record {
  is_present = held.is_present;
  live = λ u small.
      let (c, is) = cell_there cells u (omega (arith, held.latest.whole)) in
      let cell = held.latest.each u c is in
      (c.version, cell.latest, no_deletion w.records i u c.version c.value ok.history cell.value);
}

-- The version of a live unit was made knowing each deletion of the unit that its member knows
pub deletions_respected :
    (w : World) (s : Site) (m : Shown)
    → WellFormed w → Has s w.sites → Represents w s m → DeletionsAreRespected w m
deletions_respected w s m ok has rep i u cells c d r live is deletes contains has_r at_r =
    let stands : IsLatestState w.units w.records i (s.known i) (Live cells) =
    (subst (λ (o : Option ItemState). ItemRepresents w.units w.records i (holding s i) o) live
    (rep.items i)).latest in
    let cell = stands.each u c is in
    elim (cell.latest.1 d ((rep.exact i u d (deletes.0, deletes.1, deletes.2)).0 contains)) [
      | inl same ↦ absurd (no_deletion w.records i u c.version c.value ok.history cell.value
          (subst (λ (x : Version). IsDeletion w.records i u x) same deletes))
      | inr (q, has_q, at_q, knew) ↦
          subst (λ (x : Record). Has d x.made_knowing)
          (one_record w.records q r i u c.version ok.history has_q has_r at_q at_r) knew
    ]

-- What one of two members of equal knowledge knows of a cell, the other knows
known_there :
    (w : World) (s t : Site) (m n : Shown) (i : ItemId) (u : ℕ) (v : Version)
    → WellFormed w → Has s w.sites → Represents w s m → Represents w t n → HaveEqualKnowledge w.units m n
    → Has v (s.known i u) → Has v (t.known i u)
known_there w s t m n i u v ok has_s rep_m rep_n same has =
    let made : Made w.records i u v = ((ok.sound s has_s i).cells u).made v has in
    let small = made_below w i u v ok made in
    let contains = (rep_m.exact i u v made).1 has in
    (rep_n.exact i u v made).0 (subst (λ (x : ℕ). v.tick ≤ x) (same (At i) u v.replica tt small) contains)

-- At two members of equal knowledge a cell has one latest version
one_latest_of_both :
    (w : World) (s t : Site) (m n : Shown) (i : ItemId) (u : ℕ) (a b : Version)
    → WellFormed w → Has s w.sites → Has t w.sites → Represents w s m → Represents w t n
    → HaveEqualKnowledge w.units m n → IsLatest w.records i u (s.known i u) a → IsLatest w.records i u (t.known i u) b
    → a ≡ b
one_latest_of_both w s t m n i u a b ok has_s has_t rep_m rep_n same is_a is_b =
    one_of_both w.records i u a b ok.history
    (is_b.1 a (known_there w s t m n i u a ok has_s rep_m rep_n same is_a.0))
    (is_a.1 b (known_there w t s n m i u b ok has_t rep_n rep_m (λ at x r there small. sym (same at x r there small)) is_b.0))

-- A list of cells is told by its cells
same_cells :
    (xs ys : List Cell)
    → length xs ≡ length ys → ((u : ℕ) (x y : Cell) → slice_get xs u ≡ Some x → slice_get ys u ≡ Some y → x ≡ y)
    → xs ≡ ys
same_cells [] [] same each = refl
same_cells [] (y ∷ ys) same each = absurd (omega arith)
same_cells (x ∷ xs) [] same each = absurd (omega arith)
same_cells (x ∷ xs) (y ∷ ys) same each =
    let here : x ≡ y = each 0 x y refl refl in
    let rest : xs ≡ ys = same_cells xs ys (omega arith) (λ u. each (suc u)) in
    cc

abbrev pub cell_with : Version → List ℕ → Cell
cell_with v value = record { version = v; value = value }

-- A cell is its version and its value
cells_are : (c d : Cell) → c.version ≡ d.version → c.value ≡ d.value → c ≡ d
cells_are c d p q = let e : cell_with c.version c.value ≡ cell_with d.version d.value = rw (p, q) refl in e

-- Two cells with one version, each with the value of its record, are one
same_cell :
    (rs : List Record) (i : ItemId) (u : ℕ) (vs ws : List Version) (c d : Cell)
    → IsHistory rs → c.version ≡ d.version → IsLatestCell rs i u vs c → IsLatestCell rs i u ws d → c ≡ d
same_cell rs i u vs ws c d ok same stands_c stands_d =
    let (p, has_p, at_p, is_p) = stands_c.value in
    let (q, has_q, at_q, is_q) = stands_d.value in
    let moved : IsAt p i u d.version = record { item = at_p.item; unit = at_p.unit; version = at_p.version ∙ same } in
    let one : p ≡ q = one_record rs p q i u d.version ok has_p has_q moved at_q in
    let values : Written c.value ≡ Written d.value = sym is_p ∙ ap (λ (r : Record). r.content) one ∙ is_q in
    let value : c.value ≡ d.value = cc in
    cells_are c d same value

-- The item is live at the one with these cells, so it is at the other
live_there :
    (w : World) (s t : Site) (m n : Shown) (i : ItemId) (cells : List Cell) (o : Option ItemState)
    → WellFormed w → Has s w.sites → Has t w.sites → Represents w s m → Represents w t n
    → HaveEqualKnowledge w.units m n → IsLatestState w.units w.records i (s.known i) (Live cells)
    → ItemRepresents w.units w.records i (holding t i) o → o ≡ Some (Live cells)
live_there w s t m n i cells None ok has_s has_t rep_m rep_n same live stands =
    let counted : 1 ≤ w.units = ok.counted s has_s in
    let (c, is) = cell_there cells 0 (omega (arith, live.whole)) in
    let cell : IsLatestCell w.records i 0 (s.known i 0) c = live.each 0 c is in
    let (d, has_d, before, deletes, within) =
    (ok.sound t has_t i).cleaned stands 0 c.version
    (known_there w s t m n i 0 c.version ok has_s rep_m rep_n same cell.latest.0) in
    let back : Precedes w.records i 0 d c.version =
    cell.latest.1 d (known_there w t s n m i 0 d ok has_t rep_n rep_m (λ at x r there small. sym (same at x r there small))
    has_d) in
    let one : d ≡ c.version = one_of_both w.records i 0 d c.version ok.history back before in
    absurd (no_deletion w.records i 0 c.version c.value ok.history cell.value
    (subst (λ (x : Version). IsDeletion w.records i 0 x) one deletes))
live_there w s t m n i cells (Some (Dead d)) ok has_s has_t rep_m rep_n same live stands =
    let counted : 1 ≤ w.units = ok.counted s has_s in
    let (c, is) = cell_there cells 0 (omega (arith, live.whole)) in
    let cell : IsLatestCell w.records i 0 (s.known i 0) c = live.each 0 c is in
    let dead = stands.latest 0 counted in
    let one : d ≡ c.version =
    one_latest_of_both w t s n m i 0 d c.version ok has_t has_s rep_n rep_m
    (λ at x r there small. sym (same at x r there small)) dead.0 cell.latest in
    absurd (no_deletion w.records i 0 c.version c.value ok.history cell.value
    (subst (λ (x : Version). IsDeletion w.records i 0 x) one dead.1))
live_there w s t m n i cells (Some (Live others)) ok has_s has_t rep_m rep_n same live stands =
    let here : IsLatestState w.units w.records i (t.known i) (Live others) = stands.latest in
    let equal : others ≡ cells = same_cells others cells (omega (arith, here.whole, live.whole)) (λ u x y x_is y_is.
    same_cell w.records i u (t.known i u) (s.known i u) x y ok.history
    (one_latest_of_both w t s n m i u x.version y.version ok has_t has_s rep_n rep_m
    (λ at z r there small. sym (same at z r there small)) (here.each u x x_is).latest (live.each u y y_is).latest)
    (here.each u x x_is) (live.each u y y_is)) in
    cc

-- Where an item is live at one of two members of equal knowledge, it is so at the other, with the same cells
pub same_live :
    (w : World) (s t : Site) (m n : Shown) (i : ItemId) (cells : List Cell)
    → WellFormed w → Has s w.sites → Has t w.sites → Represents w s m → Represents w t n
    → HaveEqualKnowledge w.units m n → state_of m.items i ≡ Some (Live cells) → state_of n.items i ≡ Some (Live cells)
same_live w s t m n i cells ok has_s has_t rep_m rep_n same live =
    live_there w s t m n i cells (state_of n.items i) ok has_s has_t rep_m rep_n same
    (subst (λ (o : Option ItemState). ItemRepresents w.units w.records i (holding s i) o) live (rep_m.items i)).latest
    (rep_n.items i)

-- Members of equal knowledge, whose items ascend by id, have equal lists of live items
pub equal_live :
    (w : World) (s t : Site) (m n : Shown)
    → WellFormed w → Has s w.sites → Has t w.sites → Represents w s m → Represents w t n → AreAscending m.items
    → AreAscending n.items → EqualKnowledgeMeansEqualItems w m n
equal_live w s t m n ok has_s has_t rep_m rep_n ascending others same =
    live_equal m.items n.items ascending others
    (λ i cells. same_live w s t m n i cells ok has_s has_t rep_m rep_n same)
    (λ i cells. same_live w t s n m i cells ok has_t has_s rep_n rep_m (λ at u r there small. sym (same at u r there small)))

-- The three facts hold of the members of a state that stands in a well-formed world.
pub facts_hold : (w : World) (c : Community) → WellFormed w → StateStandsIn w c → FactsHold w c
facts_hold w c ok stands = record {
  exact = λ m has.
      let (s, at, rep) = (stands.members m has).represents in
      knowledge_exact w s (shown m.member) ok (found w.sites m.member.id s at).0 rep;
  equal = λ m n has_m has_n.
      let (s, at_s, here) = (stands.members m has_m).represents in
      let (t, at_t, there) = (stands.members n has_n).represents in
      equal_live w s t (shown m.member) (shown n.member) ok (found w.sites m.member.id s at_s).0
      (found w.sites n.member.id t at_t).0 here there (stands.members m has_m).ascending (stands.members n has_n).ascending;
  deletions = λ m has.
      let (s, at, rep) = (stands.members m has).represents in
      deletions_respected w s (shown m.member) ok (found w.sites m.member.id s at).0 rep;
}
