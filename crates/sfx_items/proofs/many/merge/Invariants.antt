use Rattle.std.proofs.Common.{◌≡◌, ◌≤◌, ◌+◌, ◌++◌, vec_len, vec_capacity}
use Rattle.std.specs.VecDeque.{deque_len}
use Rattle.sfx_model.specs.members.Members.{AreAscending}
use Rattle.sfx_model.specs.members.ItemLists.{put_all}
use Rattle.sfx_items.proofs.many.merge.Given as goal

-- what is merged so far, and what is left of both lists merged, are all of it, and it has room
abbrev pub invariant-merge : goal.invariant-merge
invariant-merge g l = record {
  all : l.merged.items ++ put_all l.puts.items l.held.items ≡ l.fn.merged.items ++ put_all l.fn.puts.items l.fn.held.items;
  held : AreAscending l.held.items;
  puts : AreAscending l.puts.items;
  room : vec_len l.merged + (deque_len l.held + deque_len l.puts) ≤ vec_capacity l.merged;
}

abbrev pub decreases-merge : goal.decreases-merge
decreases-merge g l = deque_len l.held + deque_len l.puts
