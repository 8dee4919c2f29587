-- The comparisons find just what is the same.
use Rattle.std.proofs.Common.{◌≡◌, ℕ, Bool, true, ◌&&◌, nat_eq, List, [], ◌∷◌, refl, sym, ap, ◌∙◌, true≢false}
use Rattle.std.proofs.lemmas.Bool.{and_parts, and_from, eqb-true, eq-eqb}
use Rattle.std.proofs.lemmas.Bool.Decides.{same_from_decides}
use Rattle.std.proofs.lemmas.Slice.Eq.{bytes_eq-Decides}
use Rattle.std.specs.Str.{bytes_eq}
use Rattle.sfx_ids.specs.declared.cut.Cut.{Cut}
use Rattle.sfx_ids.specs.Cut.{cut_le}
use Rattle.sfx_ids.specs.declared.item_id.ItemId.{ItemId}
use Rattle.sfx_ids.specs.declared.version.Version.{Version}
use Rattle.sfx_ids.proofs.CutLemmas.{le_antisym, le-self}
use Rattle.sfx_item.specs.declared.cell.Cell.{Cell}
use Rattle.sfx_vector.specs.Clocks.{Clocks}
use Rattle.sfx_knowledge.specs.Row.{UnitRowData}
use Rattle.sfx_knowledge.specs.Knowledge.{Known}
use Rattle.sfx_knowledge.specs.Forms.{same_clocks, same_exceptions, same_row}
use Rattle.sfx_knowledge.proofs.VectorsLemmas.{same_clocks-is, same_clocks-self}
use Rattle.sfx_model.specs.world.Events.{same_item}
use Rattle.sfx_model.specs.members.Headline.{live_items}
use Rattle.sfx_item.specs.Item.{ItemState, Live, Dead, ItemData}
use Rattle.sfx_model.specs.members.Members.{Member}
use Rattle.sfx_model.proofs.world.StepKeepsWorld.{same_item_is, same_item_self}
use Rattle.sfx_model.specs.sessions.MemberKnowledge.{laid_known}
use Rattle.sfx_reply.specs.declared.reply.Reply.TheVariants.{Compared}
use Rattle.sfx_community.specs.Sameness.{hold_same, know_same, same_cut, same_segments, same_version, same_cells, same_state, same_items}

cut_is : (a b : Cut) → same_cut a b ≡ true → a ≡ b
cut_is a b same = let parts = and_parts (cut_le a b) (cut_le b a) same in le_antisym a b parts.0 parts.1

cut_self : (a : Cut) → same_cut a a ≡ true
cut_self a = and_from (cut_le a a) (cut_le a a) (le-self a) (le-self a)

abbrev other_at : ℕ → Clocks → ℕ × Clocks
other_at u clocks = (u, clocks)

others_is : (os ps : List (ℕ × Clocks)) → same_exceptions os ps ≡ true → os ≡ ps
others_is [] [] same = refl
others_is [] (p ∷ ps) same = absurd (true≢false (sym same))
others_is (o ∷ os) [] same = absurd (true≢false (sym same))
others_is (o ∷ os) (p ∷ ps) same =
    let parts = and_parts (nat_eq o.0 p.0 && same_clocks o.1 p.1) (same_exceptions os ps) same in
    let here = and_parts (nat_eq o.0 p.0) (same_clocks o.1 p.1) parts.0 in
    let head : other_at o.0 o.1 ≡ other_at p.0 p.1 = rw (eqb-true o.0 p.0 here.0, same_clocks-is o.1 p.1 here.1) refl in
    ap (λ x. x ∷ os) head ∙ ap (λ xs. p ∷ xs) (others_is os ps parts.1)

others_self : (os : List (ℕ × Clocks)) → same_exceptions os os ≡ true
others_self [] = refl
others_self (o ∷ os) = rw (eq-eqb o.0 o.0 refl, same_clocks-self o.1) (others_self os)

abbrev row_with : Clocks → List (ℕ × Clocks) → UnitRowData
row_with base others = record { base = base; others = others }

row_is : (a b : UnitRowData) → same_row a b ≡ true → a ≡ b
row_is a b same =
    let parts = and_parts (same_clocks a.base b.base) (same_exceptions a.others b.others) same in
    let e : row_with a.base a.others ≡ row_with b.base b.others = rw (same_clocks-is a.base b.base parts.0, others_is a.others b.others parts.1) refl in
    e

row_self : (a : UnitRowData) → same_row a a ≡ true
row_self a = rw (same_clocks-self a.base) (others_self a.others)

abbrev segment_with : Cut → UnitRowData → Cut × UnitRowData
segment_with cut row = (cut, row)

pub segments_is : (ps qs : Known) → same_segments ps qs ≡ true → ps ≡ qs
segments_is [] [] same = refl
segments_is [] (q ∷ qs) same = absurd (true≢false (sym same))
segments_is (p ∷ ps) [] same = absurd (true≢false (sym same))
segments_is (p ∷ ps) (q ∷ qs) same =
    let parts = and_parts (same_cut p.0 q.0 && same_row p.1 q.1) (same_segments ps qs) same in
    let here = and_parts (same_cut p.0 q.0) (same_row p.1 q.1) parts.0 in
    let head : segment_with p.0 p.1 ≡ segment_with q.0 q.1 = rw (cut_is p.0 q.0 here.0, row_is p.1 q.1 here.1) refl in
    ap (λ x. x ∷ ps) head ∙ ap (λ xs. q ∷ xs) (segments_is ps qs parts.1)

segments_self : (ps : Known) → same_segments ps ps ≡ true
segments_self [] = refl
segments_self (p ∷ ps) = rw (cut_self p.0, row_self p.1) (segments_self ps)

abbrev version_with : ℕ → ℕ → Version
version_with tick replica = record { tick = tick; replica = replica }

version_is : (v w : Version) → same_version v w ≡ true → v ≡ w
version_is v w same =
    let parts = and_parts (nat_eq v.tick w.tick) (nat_eq v.replica w.replica) same in
    let e : version_with v.tick v.replica ≡ version_with w.tick w.replica = rw (eqb-true v.tick w.tick parts.0, eqb-true v.replica w.replica parts.1) refl in
    e

version_self : (v : Version) → same_version v v ≡ true
version_self v = rw (eq-eqb v.tick v.tick refl) (eq-eqb v.replica v.replica refl)

abbrev cell_with : Version → List ℕ → Cell
cell_with version value = record { version = version; value = value }

cells_is : (cs ds : List Cell) → same_cells cs ds ≡ true → cs ≡ ds
cells_is [] [] same = refl
cells_is [] (d ∷ ds) same = absurd (true≢false (sym same))
cells_is (c ∷ cs) [] same = absurd (true≢false (sym same))
cells_is (c ∷ cs) (d ∷ ds) same =
    let parts = and_parts (same_version c.version d.version && bytes_eq c.value d.value) (same_cells cs ds) same in
    let here = and_parts (same_version c.version d.version) (bytes_eq c.value d.value) parts.0 in
    let head : cell_with c.version c.value ≡ cell_with d.version d.value = rw (version_is c.version d.version here.0, (bytes_eq-Decides c.value d.value).0 here.1) refl in
    ap (λ x. x ∷ cs) head ∙ ap (λ xs. d ∷ xs) (cells_is cs ds parts.1)

cells_self : (cs : List Cell) → same_cells cs cs ≡ true
cells_self [] = refl
cells_self (c ∷ cs) = rw (version_self c.version, (bytes_eq-Decides c.value c.value).1 refl) (cells_self cs)

state_is : (s t : ItemState) → same_state s t ≡ true → s ≡ t
state_is (Live cells) (Live others) same = ap (λ cs. Live cs) (cells_is cells others same)
state_is (Live cells) (Dead w) same = absurd (true≢false (sym same))
state_is (Dead v) (Live others) same = absurd (true≢false (sym same))
state_is (Dead v) (Dead w) same = ap (λ x. Dead x) (version_is v w same)

state_self : (s : ItemState) → same_state s s ≡ true
state_self (Live cells) = cells_self cells
state_self (Dead v) = version_self v

abbrev item_with : ItemId → ItemState → ItemData
item_with id state = record { id = id; state = state }

pub items_is : (xs ys : List ItemData) → same_items xs ys ≡ true → xs ≡ ys
items_is [] [] same = refl
items_is [] (y ∷ ys) same = absurd (true≢false (sym same))
items_is (x ∷ xs) [] same = absurd (true≢false (sym same))
items_is (x ∷ xs) (y ∷ ys) same =
    let parts = and_parts (same_item x.id y.id && same_state x.state y.state) (same_items xs ys) same in
    let here = and_parts (same_item x.id y.id) (same_state x.state y.state) parts.0 in
    let head : item_with x.id x.state ≡ item_with y.id y.state = rw (same_item_is x.id y.id here.0, state_is x.state y.state here.1) refl in
    ap (λ z. z ∷ xs) head ∙ ap (λ zs. y ∷ zs) (items_is xs ys parts.1)

items_self : (xs : List ItemData) → same_items xs xs ≡ true
items_self [] = refl
items_self (x ∷ xs) = rw (same_item_self x.id, state_self x.state) (items_self xs)

pub segments_decided : (ps qs : Known) → (same_segments ps qs ≡ true → ps ≡ qs) × (ps ≡ qs → same_segments ps qs ≡ true)
segments_decided ps qs = (segments_is ps qs, (λ same. ap (λ x. same_segments ps x) (sym same) ∙ segments_self ps))

pub items_decided : (xs ys : List ItemData) → (same_items xs ys ≡ true → xs ≡ ys) × (xs ≡ ys → same_items xs ys ≡ true)
items_decided xs ys = (items_is xs ys, (λ same. ap (λ x. same_items xs x) (sym same) ∙ items_self xs))

-- what the comparison with all that a member knows answers
pub compared_knowledge : (units : ℕ) (n : Member) (one other : Known) (k : Bool) → other ≡ laid_known units n
    → ((k ≡ true → one ≡ other) × (one ≡ other → k ≡ true)) → k ≡ same_segments one (laid_known units n)
compared_knowledge units n one other k is_other same =
    same_from_decides k (same_segments one other) same (segments_decided one other) ∙ ap (λ x. same_segments one x) is_other

-- what the comparison of what they hold answers
pub compared_items : (m n : Member) (i : Bool)
    → ((i ≡ true → live_items m.items ≡ live_items n.items) × (live_items m.items ≡ live_items n.items → i ≡ true)) → i ≡ hold_same m n
compared_items m n i same = same_from_decides i (hold_same m n) same (items_decided (live_items m.items) (live_items n.items))

-- what both comparisons answer
pub compared : (units : ℕ) (m n : Member) (k i : Bool) → k ≡ know_same units m n → i ≡ hold_same m n
    → Compared k i ≡ Compared (know_same units m n) (hold_same m n)
compared units m n k i knowledge items =
    ap (λ x. Compared x i) knowledge ∙ ap (λ x. Compared (know_same units m n) x) items
