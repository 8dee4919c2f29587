use Rattle.std.proofs.Common.{◌≡◌, ◌++◌, OnOk, arith, subst}
use Rattle.std.specs.List.{flat_map}
use Rattle.sfx_knowledge.specs.Knowledge.{Known}
use Rattle.sfx_reply.specs.Listing.{segment_text}
use Rattle.sfx_reply.proofs.showing.write_known.Goals as goal

pub write_knowledge-requires : goal.write_knowledge-requires
write_knowledge-requires g c = (omega arith, c.id-id.ensures.consistent.some)

pub returns : goal.returns
returns g c =
    subst (λ (k : Known). OnOk c.write_knowledge.result (c.write_knowledge.new.out.items ≡ c.args.out.now.items ++ flat_map segment_text k))
    c.in_ok-knowledge.ensures.list c.write_knowledge.ensures
