-- A replica as plain data.
use Rattle.std.specs.Prelude.{ℕ, List}
use Rattle.sfx_item.specs.Item.{ItemData}
use Rattle.sfx_knowledge.specs.Knowledge.{Known}
use Rattle.sfx_knowledge.specs.Forgotten.{Forgets}
use Rattle.sfx_model.specs.members.Members.{Member}

-- The member that a replica with these parts is.
abbrev pub member_view : ℕ → ℕ → Known → Forgets → List ItemData → Member
member_view id clock knowledge forgotten items = record {
  id = id;
  clock = clock;
  knowledge = knowledge;
  forgotten = forgotten;
  items = items;
}
