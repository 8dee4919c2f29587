use Rattle.sfx_community.proofs.LinesCommit.{turn_commits, turns_commit}
use Rattle.sfx_community.proofs.laws.commits_end_in_state.Goals as goal

pub returns-clause-line : goal.returns-clause-line
returns-clause-line c = turn_commits

pub returns-clause-script : goal.returns-clause-script
returns-clause-script c = turns_commit
