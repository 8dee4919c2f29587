-- Two replicas compared.
use Rattle.std.specs.Prelude.{ℕ, Bool, true, false, ◌&&◌, nat_eq, List, [], ◌∷◌}
use Rattle.std.specs.Str.{bytes_eq}
use Rattle.sfx_ids.specs.declared.cut.Cut.{Cut}
use Rattle.sfx_ids.specs.Cut.{cut_le}
use Rattle.sfx_ids.specs.declared.version.Version.{Version}
use Rattle.sfx_item.specs.declared.cell.Cell.{Cell}
use Rattle.sfx_knowledge.specs.Knowledge.{Known}
use Rattle.sfx_knowledge.specs.Forms.{same_row}
use Rattle.sfx_model.specs.world.Events.{same_item}
use Rattle.sfx_model.specs.members.Headline.{live_items}
use Rattle.sfx_item.specs.Item.{ItemState, Live, Dead, ItemData}
use Rattle.sfx_model.specs.members.Members.{Member}
use Rattle.sfx_model.specs.sessions.MemberKnowledge.{laid_known}

-- Both cuts are the same.
abbrev pub same_cut : Cut → Cut → Bool
same_cut a b = cut_le a b && cut_le b a

-- Both lists of segments are the same.
abbrev pub same_segments : Known → Known → Bool
same_segments [] [] = true
same_segments [] (q ∷ qs) = false
same_segments (p ∷ ps) [] = false
same_segments (p ∷ ps) (q ∷ qs) = same_cut p.0 q.0 && same_row p.1 q.1 && same_segments ps qs

-- Both versions are the same.
abbrev pub same_version : Version → Version → Bool
same_version v w = nat_eq v.tick w.tick && nat_eq v.replica w.replica

-- Both lists of cells are the same.
abbrev pub same_cells : List Cell → List Cell → Bool
same_cells [] [] = true
same_cells [] (d ∷ ds) = false
same_cells (c ∷ cs) [] = false
same_cells (c ∷ cs) (d ∷ ds) = same_version c.version d.version && bytes_eq c.value d.value && same_cells cs ds

-- Both states are the same.
abbrev pub same_state : ItemState → ItemState → Bool
same_state (Live cells) (Live others) = same_cells cells others
same_state (Live cells) (Dead w) = false
same_state (Dead v) (Live others) = false
same_state (Dead v) (Dead w) = same_version v w

-- Both lists of items are the same.
abbrev pub same_items : List ItemData → List ItemData → Bool
same_items [] [] = true
same_items [] (y ∷ ys) = false
same_items (x ∷ xs) [] = false
same_items (x ∷ xs) (y ∷ ys) = same_item x.id y.id && same_state x.state y.state && same_items xs ys

-- Both members know the same, their own versions included, at every place and unit.
abbrev pub know_same : ℕ → Member → Member → Bool
know_same units m n = same_segments (laid_known units m) (laid_known units n)

-- Both members hold the same live items, with the same ids, versions and values.
abbrev pub hold_same : Member → Member → Bool
hold_same m n = same_items (live_items m.items) (live_items n.items)
