-- The ids of a member's items are in range, so that there are not too many to count.
use Rattle.std.proofs.Common.{◌≡◌, ◌≢◌, ℕ, ◌+◌, ◌*◌, ◌^◌, ◌<◌, ◌≤◌, List, [], ◌∷◌, length, Option, Some, None, arith, inl, inr, refl, sym, ◌∙◌, ap, subst}
use Rattle.std.proofs.lemmas.Bool.{cases_eq, eq-eqb, ne_eqb}
use Rattle.sfx_ids.specs.declared.cut.Cut.TheVariants.{At}
use Rattle.sfx_ids.specs.declared.item_id.ItemId.{ItemId}
use Rattle.sfx_ids.specs.declared.version.Version.{Version}
use Rattle.sfx_ids.specs.ItemId.{IsItemId, creation_of}
use Rattle.sfx_vector.specs.Clocks.{Clocks, AreFrom, AreClocks, tick_of}
use Rattle.sfx_vector.proofs.ClocksLemmas.{tick-past}
use Rattle.sfx_knowledge.specs.Knowledge.{Known, IsKnowledge, clocks_at, tick_at}
use Rattle.sfx_knowledge.proofs.VectorsLemmas.{tick-most}
use Rattle.sfx_knowledge.proofs.KnowledgeLemmas.{AreClocks-clocks_at}
use Rattle.sfx_model.specs.world.Sets.{Has}
use Rattle.sfx_model.specs.world.World.{World, Site, Snapshot, WellFormed, IsSoundItem, Made, holding}
use Rattle.sfx_model.specs.sessions.Acts.{IsOrderly}
use Rattle.sfx_item.specs.Item.{ItemData, ItemState, Live, Dead}
use Rattle.sfx_model.specs.members.Members.{Member, AreAscending, IsIdBelow, Represents, ItemRepresents, shown, state_of, vector_at}
use Rattle.sfx_model.specs.members.ItemLists.{with_state_of}
use Rattle.sfx_model.specs.sessions.NewName.{new_name}
use Rattle.sfx_model.specs.members.Snapshots.{Carried}
use Rattle.sfx_model.proofs.members.FactsHold.{cell_there}
use Rattle.sfx_model.proofs.sessions.ClashesLemmas.{IsFree}
use Rattle.sfx_model.proofs.sessions.NewNameIsFree.{new_free}
use Rattle.sfx_model.proofs.members.ItemListsLemmas.{put_has, drop_has}
use Rattle.sfx_model.proofs.members.AscendingItems.{state_here, state_behind, before_differs}

-- The ids of the items are in range.
abbrev pub AreIds : List ItemData → Type 0
AreIds items = (x : ItemData) → Has x items → IsItemId x.id

-- An id as one number.
abbrev code : ItemId → ℕ
code i = i.tick * 2 ^ 128 + i.replica

code_below : (i j : ItemId) → IsItemId i → IsItemId j → IsIdBelow i j → code i < code j
code_below i j fits fit below = elim below [
  | inl less ↦ let a = fits.replica in omega arith
  | inr (same, less) ↦ omega arith
]

code_fits : (i : ItemId) → IsItemId i → code i < 2 ^ 191
code_fits i fits = let a = fits.replica in let b = fits.tick in omega arith

-- Ascending items whose ids are in range are few.
few_from : (x : ItemData) (xs : List ItemData) → AreAscending (x ∷ xs) → AreIds (x ∷ xs) → code x.id + length (x ∷ xs) ≤ 2 ^ 191
few_from x [] ascending ids = let fits = code_fits x.id (ids x (inl refl)) in omega arith
few_from x (y ∷ ys) ascending ids =
    let rest = few_from y ys ascending.1 (λ z has. ids z (inr has)) in
    let less = code_below x.id y.id (ids x (inl refl)) (ids y (inr (inl refl))) (ascending.0 y (inl refl)) in
    omega arith

few : (items : List ItemData) → AreAscending items → AreIds items → length items + 2 < 10 ^ 64
few [] ascending ids = omega arith
few (x ∷ xs) ascending ids = let le = few_from x xs ascending ids in omega arith

-- So their new names are free.
pub names_free : (items : List ItemData) (i : ItemId) (name : List ℕ) → AreAscending items → AreIds items → IsFree items i (new_name items i name)
names_free items i name ascending ids = new_free items i name (few items ascending ids)

pub ids_given : (i : ItemId) (o : Option ItemState) (items : List ItemData) → IsItemId i → AreIds items → AreIds (with_state_of i o items)
ids_given i None items fits ids x has = ids x (drop_has i items x has)
ids_given i (Some state) items fits ids x has = elim (put_has (record { id = i; state = state }) items x has) [
  | inl is ↦ subst (λ (y : ItemData). IsItemId y.id) (sym is) fits
  | inr there ↦ ids x there
]

-- ---- ids that are known

-- A replica with a tick is in range.
listed_fits : (low : ℕ) (cs : Clocks) (r : ℕ) → AreFrom low cs → 1 ≤ tick_of cs r → r < 2 ^ 128
listed_fits low [] r from some = absurd (omega arith)
listed_fits low (c ∷ cs) r from some = elim (cases_eq c.0 r) [
  | inl same ↦ subst (λ (x : ℕ). x < 2 ^ 128) same from.1
  | inr other ↦ listed_fits (c.0 + 1) cs r from.3 (subst (λ (t : ℕ). 1 ≤ t) (tick-past c cs r other) some)
]

-- A creation that knowledge contains is in range.
pub known_fits :
    (units : ℕ) (known : Known) (i : ItemId) (u : ℕ)
    → IsKnowledge units known → 1 ≤ i.tick → i.tick ≤ tick_at known (At i) u i.replica → IsItemId i
known_fits units known i u form least contained =
    let clocks : AreClocks (clocks_at known (At i) u) = AreClocks-clocks_at units known (At i) u form.rows in
    let most = tick-most 0 (clocks_at known (At i) u) i.replica clocks in
    record {
      tick = record { least = least; most = omega arith };
      replica = listed_fits 0 (clocks_at known (At i) u) i.replica clocks (omega arith);
    }

-- What is held is known, so its creation was made.
held_known :
    (w : World) (x : Site) (i : ItemId) (state : ItemState)
    → 1 ≤ w.units → ItemRepresents w.units w.records i (holding x i) (Some state) → (v : Version) × Has v (x.known i 0)
held_known w x i (Live cells) some held =
    let (c, is) = cell_there cells 0 (omega (arith, held.latest.whole)) in (c.version, (held.latest.each 0 c is).latest.0)
held_known w x i (Dead d) some held = (d, (held.latest 0 some).0.0)

creation_there :
    (w : World) (x : Site) (i : ItemId) (state : ItemState)
    → 1 ≤ w.units → IsSoundItem w.units w.records i (holding x i) → ItemRepresents w.units w.records i (holding x i) (Some state)
    → Has (creation_of i) (x.known i 0) × Made w.records i 0 (creation_of i)
creation_there w x i state some sound held =
    let (v, has) = held_known w x i state some held in
    let creation = sound.creation 0 v has 0 some in
    (creation, (sound.cells 0).made (creation_of i) creation)

least_tick : (w : World) (i : ItemId) → WellFormed w → Made w.records i 0 (creation_of i) → 1 ≤ i.tick
least_tick w i ok (r, has, at) =
    let (s, there, maker) = (ok.records r has).maker in
    let least = maker.least in
    let ticks : r.version.tick ≡ i.tick = ap (λ (v : Version). v.tick) at.version in
    omega arith

-- The id of what a snapshot has is in range.
pub seen_fits :
    (w : World) (snapshot : Snapshot) (i : ItemId) (made_with : Known) (state : ItemState)
    → WellFormed w → 1 ≤ w.units → IsKnowledge w.units made_with → Carried w snapshot i (tick_at made_with) (Some state) → IsItemId i
seen_fits w snapshot i made_with state ok some form carried =
    let (has, made) = creation_there w snapshot i state some (carried.sound i) carried.state in
    known_fits w.units made_with i 0 form (least_tick w i ok made) ((carried.backs.exact 0 (creation_of i) made).1 has)

-- The id of what a member holds is in range.
pub held_fits :
    (w : World) (s : Site) (m : Member) (i : ItemId) (state : ItemState)
    → WellFormed w → Has s w.sites → Represents w s (shown m) → IsOrderly w.units m → state_of m.items i ≡ Some state → IsItemId i
held_fits w s m i state ok there rep orderly is =
    let held : ItemRepresents w.units w.records i (holding s i) (Some state) =
    subst (λ (o : Option ItemState). ItemRepresents w.units w.records i (holding s i) o) is (rep.items i) in
    let (has, made) = creation_there w s i state orderly.some (ok.sound s there i) held in
    let least = least_tick w i ok made in
    let contained : i.tick ≤ vector_at m (At i) 0 i.replica = (rep.exact i 0 (creation_of i) made).1 has in
    elim (cases_eq i.replica m.id) [
      | inl own ↦
          let clock : i.tick ≤ m.clock = subst (λ (t : ℕ). i.tick ≤ t) (own_tick own) contained in
          record {
            tick = record { least = least; most = let most = orderly.clock in omega arith };
            replica = subst (λ (r : ℕ). r < 2 ^ 128) (sym own) orderly.id;
          }
      | inr other ↦
          known_fits w.units m.knowledge i 0 orderly.knowledge least (subst (λ (t : ℕ). i.tick ≤ t) (other_tick other) contained)
    ]
  where
    own_tick : i.replica ≡ m.id → vector_at m (At i) 0 i.replica ≡ m.clock
    own_tick own = rw (eq-eqb i.replica m.id own) refl

    other_tick : i.replica ≢ m.id → vector_at m (At i) 0 i.replica ≡ tick_at m.knowledge (At i) 0 i.replica
    other_tick other = rw (ne_eqb i.replica m.id other) refl

-- Each item of an ascending list is found.
pub state_there : (items : List ItemData) (x : ItemData) → AreAscending items → Has x items → state_of items x.id ≡ Some x.state
state_there [] x ascending has = absurd has
state_there (y ∷ ys) x ascending has = elim has [
  | inl is ↦ subst (λ (z : ItemData). state_of (y ∷ ys) z.id ≡ Some z.state) (sym is) (state_here y ys)
  | inr there ↦
      state_behind y ys x.id (before_differs y.id x.id (ascending.0 x there)) ∙ state_there ys x ascending.1 there
]

pub member_ids :
    (w : World) (s : Site) (m : Member)
    → WellFormed w → Has s w.sites → Represents w s (shown m) → IsOrderly w.units m → AreIds m.items
member_ids w s m ok there rep orderly x has =
    held_fits w s m x.id x.state ok there rep orderly (state_there m.items x orderly.ascending has)
