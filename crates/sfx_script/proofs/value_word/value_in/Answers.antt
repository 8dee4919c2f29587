use Rattle.std.proofs.Common.{◌≡◌, ◌<◌, true, false, ap, arith, codes, inl, inr, length, refl, sym, ◌∙◌}
use Rattle.std.specs.List.{prefix_len}
use Rattle.std.specs.Str.{bytes_eq}
use Rattle.sfx_script.specs.Word.{is_printable}
use Rattle.sfx_script.proofs.WordPrefixes.{prefix_within}
use Rattle.sfx_script.proofs.ValueWords.{value_bare, value_decoded, value_wrong, flip, unflip}
use Rattle.sfx_script.proofs.value_word.value_in.Goals as goal
use Rattle.sfx_script.proofs.value_word.value_in.Goals.{then-len-eq0-via-then-len-eq0, then-len-eq0-via-else-len-eq0+then-len-word, then-ne+in_ok-append_to, else-ne}

pub returns-then-len-eq0 : goal.returns-then-len-eq0
returns-then-len-eq0 c =
    value_wrong c.args.word.now.at c.printable_len-len.result c.args.word.now.text.now c.printable_len-len.ensures
    (elim c.then-len-eq0.branch [
      | then-len-eq0-via-then-len-eq0 w ↦ inl w.if-len-eq0.true
      | then-len-eq0-via-else-len-eq0+then-len-word w ↦ inr w.if-len-word.true
    ])

pub returns : goal.returns
returns c =
    let text = c.args.word.now.text.now in
    let len = c.printable_len-len.ensures in
    let within = prefix_within is_printable text in
    let whole : prefix_len is_printable text ≡ length text = omega (arith, len, c.if-len-word.false) in
    let some : 0 < length text = omega (arith, len, whole, c.if-len-eq0.false) in
    let dash = c.as_slice.ensures in
    elim c.if-ne.branch [
      | then-ne+in_ok-append_to w ↦
          let other : bytes_eq text (codes "-") ≡ false = ap (bytes_eq text) (sym dash) ∙ flip _ (sym w.if-ne.true ∙ c.ne.ensures) in
          let bytes = ap (λ v. v.items) w.bytes-is ∙ w.in_ok-append_to.ensures.ok ∙ rw (c.new-bytes.ensures.items, w.percent_decode.ensures.bytes) refl in
          rw (value_decoded text some whole other, c.new.ensures, bytes) refl
      | else-ne w ↦
          let same : bytes_eq text (codes "-") ≡ true = ap (bytes_eq text) (sym dash) ∙ unflip _ (sym w.if-ne.false ∙ c.ne.ensures) in
          let bytes = ap (λ v. v.items) w.bytes-is ∙ c.new-bytes.ensures.items in
          rw (value_bare text some whole same, c.new.ensures, bytes) refl
    ]
