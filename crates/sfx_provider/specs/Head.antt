-- What a provider tells of its replica besides the items.
use Rattle.std.specs.Prelude.{ℕ}
use Rattle.sfx_knowledge.specs.Knowledge.{Known}
use Rattle.sfx_knowledge.specs.Forgotten.{Forgets}
use Rattle.sfx_knowledge.specs.Forms.{with_own}
use Rattle.sfx_model.specs.members.Members.{Member}

-- A head as plain data.
pub record HeadData : Type 0 where
  pub id : ℕ
  pub clock : ℕ
  pub knowledge : Known
  pub forgotten : Forgets

-- The head of a replica's state: its own clock is laid over what it knows.
abbrev pub head_of : ℕ → Member → HeadData
head_of units m = record {
  id = m.id;
  clock = m.clock;
  knowledge = with_own units m.id m.clock m.knowledge;
  forgotten = m.forgotten;
}
