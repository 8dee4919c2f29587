use Rattle.std.proofs.Common.{ap, sym, subst, take}
use Rattle.std.specs.Str.{IsUtf8}
use Rattle.sfx_script.specs.Word.{is_printable}
use Rattle.sfx_script.proofs.WordPrefixes.{all_prefix}
use Rattle.sfx_script.proofs.WordTexts.{IsUtf8-printable}
use Rattle.sfx_script.proofs.word.printable_prefix.Goals as goal

pub returns-in-Err : goal.returns-in-Err
returns-in-Err c =
    let prefix = ap (λ n. take n c.args.word.now) (sym c.printable_len.ensures) in
    absurd (c.in-Err.ensures.cases.0 (subst IsUtf8 prefix (IsUtf8-printable _ (all_prefix is_printable c.args.word.now))))
