use Rattle.std.proofs.Common.{◌≡◌, is_some, drop}
use Rattle.std.specs.List.{list_all}
use Rattle.sfx_model.specs.members.Members.{state_of}
use Rattle.sfx_apply.proofs.naming.are_put.Given as goal

-- the ids that are left give the answer
abbrev pub invariant-loop-id : goal.invariant-loop-id
invariant-loop-id g l =
    list_all (λ id. is_some (state_of l.items id)) (drop l.id-index l.ids)
    ≡ list_all (λ id. is_some (state_of l.items id)) l.ids
