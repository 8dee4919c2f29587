use Rattle.std.proofs.Common.{◌≡◌, false, true, sym, ◌∙◌, lit<}
use Rattle.sfx_community.proofs.DistinctNames.{copied_more, new_at}
use Rattle.sfx_community.proofs.members.Members.copy.Goals as goal
use Rattle.sfx_community.proofs.members.Members.copy.Goals.{in-Some+in_ok-copy+in_ok-copy-2+in_ok-push, in_default}

pub push-requires : goal.push-requires
push-requires g c =
    let new = new_at c.self.inside.kept.entries c.loop-i.i c.in-Some.name.now c.in-Some.kept.now c.len-i-end.ensures.unique (sym c.in-Some.ensures.entry) in
    (lit< tt, (lit< tt, rw (c.in_ok-copy.ensures, c.loop-i.invariant, ← c.self.view_is) new))

pub loop-i-preserved : goal.loop-i-preserved
loop-i-preserved g c = elim c.match-get_index.branch [
  | in-Some+in_ok-copy+in_ok-copy-2+in_ok-push w ↦
      w.copied-is ∙ (w.in_ok-push.ensures
      ∙ rw (c.loop-i.invariant, w.in_ok-copy.ensures, w.in_ok-copy-2.ensures, ← c.self.view_is)
      (copied_more c.self.inside.kept.entries c.loop-i.i w.in-Some.name.now w.in-Some.kept.now (sym w.in-Some.ensures.entry)))
  | in_default w ↦
      let small = rw c.len-i-end.ensures.len at c.loop-i-test.true in
      let some = c.get_index.ensures.found.1 small in
      let bad : false ≡ true = rw w.in_default.is at some in
      absurd (cc)
]
