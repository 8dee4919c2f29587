-- What a commit makes of a replica's state.
use Rattle.std.specs.Prelude.{ℕ, List, []}
use Rattle.sfx_ids.specs.declared.item_id.ItemId.{ItemId}
use Rattle.sfx_knowledge.specs.Knowledge.{Known}
use Rattle.sfx_knowledge.specs.Forgotten.{Forgets}
use Rattle.sfx_knowledge.specs.Forms.{with_own}
use Rattle.sfx_item.specs.Item.{ItemData}
use Rattle.sfx_model.specs.members.Members.{Member}
use Rattle.sfx_model.specs.members.ItemLists.{put_all, drop_all}
use Rattle.sfx_provider.specs.Head.{HeadData}

-- A commit as plain data: the clock, what is known with the clock laid over, and what is forgotten from
-- then on; the items that are put, and the ids of those that are dropped.
pub record CommitData : Type 0 where
  pub clock : ℕ
  pub knowledge : Known
  pub forgotten : Forgets
  pub puts : List ItemData
  pub drops : List ItemId

-- The commit that changes nothing, of the replica with this head.
abbrev pub commit_of : HeadData → CommitData
commit_of h = record { clock = h.clock; knowledge = h.knowledge; forgotten = h.forgotten; puts = []; drops = [] }

-- The state after a commit. A state's own knowledge entries are not stored, as they are the clock.
abbrev pub after_commit : ℕ → CommitData → Member → Member
after_commit units c m = record {
  id = m.id;
  clock = c.clock;
  knowledge = with_own units m.id 0 c.knowledge;
  forgotten = c.forgotten;
  items = drop_all c.drops (put_all c.puts m.items);
}
