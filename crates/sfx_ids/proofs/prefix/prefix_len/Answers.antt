use Rattle.std.proofs.Common.{◌≢◌, ◌<◌, ◌+◌, length, get_or, arith, subst}
use Rattle.std.proofs.lemmas.List.{take_rest}
use Rattle.sfx_ids.specs.Prefix.{BeginsReplica, IsLongestPrefix}
use Rattle.sfx_ids.proofs.PrefixLens.{pair_decided}
use Rattle.sfx_ids.proofs.PairPrefixes.{longest_digits, longest_beyond}
use Rattle.sfx_ids.proofs.prefix.prefix_len.Goals as goal
use Rattle.sfx_ids.proofs.prefix.prefix_len.Goals.{then-digits-eq0-via-then-digits-eq0, then-digits-eq0-via-else-digits-eq0+then-digits-text, then-digits-eq0-via-else-digits-eq0+else-digits-text+then-text-digits}

pub returns-then-digits-eq0 : goal.returns-then-digits-eq0
returns-then-digits-eq0 c =
    let digits = c.tick_prefix_len-digits.result in
    let none : 0 < digits → digits < length c.args.text.now → get_or c.args.text.now digits 0 ≢ c.args.separator = λ some within. elim c.then-digits-eq0.branch [
      | then-digits-eq0-via-then-digits-eq0 w ↦ absurd (omega (arith, w.if-digits-eq0.true))
      | then-digits-eq0-via-else-digits-eq0+then-digits-text w ↦ absurd (omega (arith, w.if-digits-text.true))
      | then-digits-eq0-via-else-digits-eq0+else-digits-text+then-text-digits w ↦ w.if-text-digits.true
    ] in
    let longest = longest_digits c.args.separator c.args.text.now digits c.requires c.tick_prefix_len-digits.ensures none in
    record { longest = longest; decided = pair_decided c.args.separator c.args.text.now digits c.requires longest }

pub returns : goal.returns
returns c =
    let digits = c.tick_prefix_len-digits.result in
    let bound = c.tick_prefix_len-digits.ensures.within in
    let not_end = c.if-digits-text.false in
    let not_start = c.if-digits-eq0.false in
    let rest = subst (λ t. IsLongestPrefix BeginsReplica t c.replica_prefix_len.result) (take_rest c.args.text.now (digits + 1)) c.replica_prefix_len.ensures in
    let longest = longest_beyond c.args.separator c.args.text.now digits c.replica_prefix_len.result c.requires c.tick_prefix_len-digits.ensures
    (omega arith) (omega arith) c.if-text-digits.false rest in
    record { longest = longest; decided = pair_decided c.args.separator c.args.text.now (digits + 1 + c.replica_prefix_len.result) c.requires longest }
