use Rattle.sfx_community.proofs.members.Members.answer.Goals as goal

pub returns-in-Replica-clause-reply : goal.returns-in-Replica-clause-reply
returns-in-Replica-clause-reply g c = rw c.in-Replica.is c.add.ensures.reply

pub returns-in-Replica-clause-after : goal.returns-in-Replica-clause-after
returns-in-Replica-clause-after g c = rw c.in-Replica.is c.add.ensures.after

pub returns-in-Replica-clause-err : goal.returns-in-Replica-clause-err
returns-in-Replica-clause-err g c = c.add.ensures.err

pub returns-in-Create-clause-reply : goal.returns-in-Create-clause-reply
returns-in-Create-clause-reply g c = rw c.in-Create.is c.create.ensures.reply

pub returns-in-Create-clause-after : goal.returns-in-Create-clause-after
returns-in-Create-clause-after g c = rw c.in-Create.is c.create.ensures.after

pub returns-in-Create-clause-err : goal.returns-in-Create-clause-err
returns-in-Create-clause-err g c = c.create.ensures.err

pub returns-in-Set-clause-reply : goal.returns-in-Set-clause-reply
returns-in-Set-clause-reply g c = rw c.in-Set.is c.set.ensures.reply

pub returns-in-Set-clause-after : goal.returns-in-Set-clause-after
returns-in-Set-clause-after g c = rw c.in-Set.is c.set.ensures.after

pub returns-in-Set-clause-err : goal.returns-in-Set-clause-err
returns-in-Set-clause-err g c = c.set.ensures.err

pub returns-in-Delete-clause-reply : goal.returns-in-Delete-clause-reply
returns-in-Delete-clause-reply g c = rw c.in-Delete.is c.delete.ensures.reply

pub returns-in-Delete-clause-after : goal.returns-in-Delete-clause-after
returns-in-Delete-clause-after g c = rw c.in-Delete.is c.delete.ensures.after

pub returns-in-Sync-clause-reply : goal.returns-in-Sync-clause-reply
returns-in-Sync-clause-reply g c = rw c.in-Sync.is c.sync.ensures.reply

pub returns-in-Sync-clause-after : goal.returns-in-Sync-clause-after
returns-in-Sync-clause-after g c = rw c.in-Sync.is c.sync.ensures.after

pub returns-in-Sync-clause-err : goal.returns-in-Sync-clause-err
returns-in-Sync-clause-err g c = c.sync.ensures.err

pub returns-in-Show-clause-reply : goal.returns-in-Show-clause-reply
returns-in-Show-clause-reply g c = rw c.in-Show.is c.show.ensures

pub returns-in-Equal-clause-reply : goal.returns-in-Equal-clause-reply
returns-in-Equal-clause-reply g c = rw c.in-Equal.is c.equal.ensures
