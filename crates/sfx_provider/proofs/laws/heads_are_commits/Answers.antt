use Rattle.sfx_provider.proofs.HeadLemmas.{drop_fits, put_fits, unchanged_fits, unchanged_same}
use Rattle.sfx_provider.proofs.laws.heads_are_commits.Goals as goal

pub returns : goal.returns
returns c = record {
  fits = unchanged_fits;
  same = unchanged_same;
  put = put_fits;
  drop = drop_fits;
}
