-- What the lines `equal` and `knows` tell, against what the members know and hold.
use Rattle.std.specs.Prelude.{◌≡◌, ◌↔◌, ℕ, Bool, true, IsTrue}
use Rattle.sfx_ids.specs.declared.item_id.ItemId.{ItemId}
use Rattle.sfx_ids.specs.declared.version.Version.{Version}
use Rattle.sfx_model.specs.members.Headline.{HaveEqualKnowledge, IsHeldOrCleaned, live_items}
use Rattle.sfx_model.specs.members.Members.{Member, shown, state_of}
use Rattle.sfx_model.specs.world.World.{World}
use Rattle.sfx_reply.specs.declared.reply.Reply.{Reply}
use Rattle.sfx_reply.specs.declared.reply.Reply.TheVariants.{Compared, Known}

-- The reply compares both members: it says of knowledge whether they know the same at every place and unit,
-- and of items whether they hold the same live items.
pub record IsComparison (units : ℕ) (m n : Member) (reply : Reply) : Type 0 where
  pub knowledge : Bool
  pub items : Bool
  pub told : reply ≡ Compared knowledge items
  pub same_knowledge : IsTrue knowledge ↔ HaveEqualKnowledge units (shown m) (shown n)
  pub same_items : IsTrue items ↔ (live_items m.items ≡ live_items n.items)

-- The reply tells whether the member holds this version of the unit or one made knowing it, a cleaned
-- deletion included.
pub record IsAccount (w : World) (m : Member) (i : ItemId) (u : ℕ) (v : Version) (reply : Reply) : Type 0 where
  pub known : Bool
  pub told : reply ≡ Known known
  pub held : IsTrue known ↔ IsHeldOrCleaned w (shown m) i u v (state_of m.items i)
