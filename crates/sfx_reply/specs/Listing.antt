-- The text that shows a replica.
use Rattle.std.specs.Prelude.{ℕ, List, [], ◌++◌, if◌then◌else◌, codes, decimal}
use Rattle.std.specs.List.{flat_map}
use Rattle.sfx_ids.specs.declared.cut.Cut.{Cut}
use Rattle.sfx_ids.specs.declared.cut.Cut.TheVariants.{Start}
use Rattle.sfx_ids.specs.Text.{cut_text, item_text, replica_text, version_text}
use Rattle.sfx_item.specs.declared.cell.Cell.{Cell}
use Rattle.sfx_vector.specs.Clocks.{Clocks}
use Rattle.sfx_knowledge.specs.Row.{UnitRowData}
use Rattle.sfx_knowledge.specs.Forgotten.{fvec}
use Rattle.sfx_knowledge.specs.Forms.{same_clocks}
use Rattle.sfx_model.specs.sessions.MemberKnowledge.{laid_known}
use Rattle.sfx_item.specs.Item.{ItemState, Live, Dead, ItemData}
use Rattle.sfx_model.specs.members.Members.{NamedMember}
use Rattle.sfx_script.specs.Printed.{value_text, vector_text}

-- The vector of a unit that differs from unit 0.
abbrev pub exception_text : ℕ × Clocks → List ℕ
exception_text other = codes " unit " ++ decimal other.0 ++ codes " " ++ vector_text other.1

-- The vector of a unit, where it differs from that of unit 0.
abbrev pub unit_text : Clocks → ℕ × Clocks → List ℕ
unit_text base other = if same_clocks other.1 base then [] else exception_text other

-- One segment of knowledge: where it begins, the vector of unit 0, and those of the units that differ.
abbrev pub segment_text : Cut × UnitRowData → List ℕ
segment_text segment =
    codes "know " ++ cut_text segment.0 ++ codes " " ++ vector_text segment.1.base
    ++ flat_map exception_text segment.1.others ++ codes "\n"

-- One cell: its version, `=` and its value.
abbrev pub cell_text : Cell → List ℕ
cell_text cell = codes " " ++ version_text cell.version ++ codes "=" ++ value_text cell.value

-- An item live with its cells, or dead at its version.
abbrev pub state_text : ItemState → List ℕ
state_text (Live cells) = codes " live" ++ flat_map cell_text cells
state_text (Dead version) = codes " dead " ++ version_text version

-- The line of a present item.
abbrev pub item_line : ItemData → List ℕ
item_line item = codes "item " ++ item_text item.id ++ state_text item.state ++ codes "\n"

-- The line that names a replica, with its id and clock.
abbrev pub named_text : List ℕ → ℕ → ℕ → List ℕ
named_text name id clock =
    codes "replica " ++ name ++ codes " " ++ replica_text id ++ codes " plain clock=" ++ decimal clock ++ codes "\n"

abbrev pub header_text : NamedMember → List ℕ
header_text m = named_text m.name m.member.id m.member.clock

-- The line of the deletions that were forgotten.
abbrev pub forgotten_text : NamedMember → List ℕ
forgotten_text m = codes "forgotten " ++ vector_text (fvec m.member.forgotten Start) ++ codes "\n"

-- All of a replica: its name, id and clock, what it has forgotten, what it knows, and its items.
abbrev pub listing : ℕ → NamedMember → List ℕ
listing units m =
    header_text m ++ forgotten_text m ++ flat_map segment_text (laid_known units m.member)
    ++ flat_map item_line m.member.items ++ codes "end\n"
