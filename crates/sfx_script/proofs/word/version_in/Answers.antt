use Rattle.std.proofs.Common.{◌∙◌, append-nil, ap, length, length-take-le, subst, sym}
use Rattle.sfx_ids.specs.Prefix.{BeginsVersion, IsLongestPrefix}
use Rattle.sfx_script.specs.Word.{is_printable, version_of}
use Rattle.sfx_script.proofs.WordPrefixes.{prefix_within, version_prints, longest_is_prefix, longest_of_prefix, spelled_whole, too_short, unspelled}
use Rattle.sfx_script.proofs.OneReading.{none_where}
use Rattle.sfx_script.proofs.WordTexts.{version_reads, version_spelled}
use Rattle.sfx_script.proofs.word.version_in.Goals as goal

pub returns-then-prefix-word-clause-ok : goal.returns-then-prefix-word-clause-ok
returns-then-prefix-word-clause-ok c =
    let read = c.in-Ok.ensures.ok in
    spelled_whole version_of c.args.word.now _ _ c.printable_prefix-prefix.ensures c.if-prefix-word.true ((version_reads _).whole c.in-Ok.version read.0 read.1)

pub returns-else-prefix-word-clause-none : goal.returns-else-prefix-word-clause-none
returns-else-prefix-word-clause-none c = too_short version_of c.args.word.now _ c.printable_prefix-prefix.ensures c.if-prefix-word.false

pub returns-else-prefix-word-clause-place : goal.returns-else-prefix-word-clause-place
returns-else-prefix-word-clause-place c =
    let read = c.in-Ok.ensures.ok in
    let prefix = c.printable_prefix-prefix.ensures in
    let len = ap length prefix ∙ length-take-le _ c.args.word.now (prefix_within is_printable c.args.word.now) in
    let begins : BeginsVersion c.printable_prefix-prefix.result.now = record { version = c.in-Ok.version; rest = _; valid = read.0; spelled = sym read.1 ∙ sym (append-nil _) } in
    subst (IsLongestPrefix BeginsVersion c.args.word.now) (sym len) (longest_is_prefix BeginsVersion version_prints c.args.word.now (subst BeginsVersion prefix begins))

pub returns-in-Err-clause-none : goal.returns-in-Err-clause-none
returns-in-Err-clause-none c =
    unspelled version_of c.args.word.now _ c.printable_prefix-prefix.ensures
    (none_where (version_of c.printable_prefix-prefix.result.now) (λ x e.
    let read = version_spelled c.printable_prefix-prefix.result.now x e in
    let bad = c.in-Err.ensures.only x read.0 read.1 in
    cc))

pub returns-in-Err-clause-place : goal.returns-in-Err-clause-place
returns-in-Err-clause-place c =
    longest_of_prefix BeginsVersion version_prints c.args.word.now c.in-Err.bad.at
    (subst (λ t. IsLongestPrefix BeginsVersion t c.in-Err.bad.at) c.printable_prefix-prefix.ensures c.in-Err.ensures.err)
