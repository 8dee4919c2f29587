-- What a commit does to a replica's state, part by part.
use Rattle.std.specs.Prelude.{◌≡◌, ℕ, ◌<◌, Some, None}
use Rattle.sfx_ids.specs.declared.cut.Cut.{Cut}
use Rattle.sfx_ids.specs.declared.item_id.ItemId.{ItemId}
use Rattle.sfx_segments.specs.Segments.{IsPlace}
use Rattle.sfx_knowledge.specs.Knowledge.{tick_at}
use Rattle.sfx_item.specs.Item.{ItemState}
use Rattle.sfx_model.specs.members.Members.{Member, state_of, vector_at}
use Rattle.sfx_model.specs.world.Sets.{Has}
use Rattle.sfx_provider.specs.Commit.{CommitData}

-- The commit changes the state m to n.
pub record Commits (units : ℕ) (c : CommitData) (m n : Member) : Type 0 where
  -- the id stays; clock, knowledge and forgotten deletions are the commit's
  pub id : n.id ≡ m.id
  pub clock : n.clock ≡ c.clock
  pub knowledge :
      (place : Cut) (u r : ℕ) → IsPlace place → u < units → vector_at n place u r ≡ tick_at c.knowledge place u r
  pub forgotten : n.forgotten ≡ c.forgotten
  -- an item that is put is in its new state, one that is dropped is gone, and the others stay
  pub put : (i : ItemId) (state : ItemState) → state_of c.puts i ≡ Some state → state_of n.items i ≡ Some state
  pub dropped : (i : ItemId) → Has i c.drops → state_of n.items i ≡ None
  pub others : (i : ItemId) → state_of c.puts i ≡ None → ¬ Has i c.drops → state_of n.items i ≡ state_of m.items i
