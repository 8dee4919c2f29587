use Rattle.sfx_script.proofs.ValueTexts.{escaped, value_is_word, value_reads}
use Rattle.sfx_script.proofs.laws.values_read_back.Goals as goal

pub returns-clause-same : goal.returns-clause-same
returns-clause-same c = value_reads

pub returns-clause-word : goal.returns-clause-word
returns-clause-word c = value_is_word

pub returns-clause-escaped : goal.returns-clause-escaped
returns-clause-escaped c = escaped
