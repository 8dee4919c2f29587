use Rattle.std.proofs.Common.{◌∙◌, true≢false, sym}
use Rattle.sfx_knowledge.proofs.SegmentStarts.{at_starts_all, all_at_starts}
use Rattle.sfx_knowledge.proofs.knowledge.Knowledge.contains_all.Goals as goal

pub returns-then-within_at_starts-clause-value : goal.returns-then-within_at_starts-clause-value
returns-then-within_at_starts-clause-value g c =
    let units = g.row.U in
    let a = c.args.other.now in
    let b = c.args.self.now in
    let first = c.within_at_starts.ensures in
    let second = c.within_at_starts-then-within_at_starts.ensures in (
      λ yes. at_starts_all units a b first.form.segments first.other_form.segments (first.value.0 c.if-within_at_starts.true) (second.value.0 yes),
      λ all. second.value.1 (all_at_starts units a b b first.other_form.segments all),
    )

pub returns-else-within_at_starts-clause-value : goal.returns-else-within_at_starts-clause-value
returns-else-within_at_starts-clause-value g c =
    let units = g.row.U in
    let a = c.args.other.now in
    let b = c.args.self.now in
    let first = c.within_at_starts.ensures in (
      λ yes. absurd (true≢false (sym yes ∙ c.if-within_at_starts.false)),
      λ all. first.value.1 (all_at_starts units a b a first.form.segments all),
    )
