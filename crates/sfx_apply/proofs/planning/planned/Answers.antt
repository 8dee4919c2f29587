use Rattle.std.proofs.Common.{Bool, if◌then◌else◌, lit<, ap, ◌∙◌}
use Rattle.std.specs.Option.{option_map}
use Rattle.sfx_item.specs.Item.{ItemData}
use Rattle.sfx_model.specs.sessions.Clashes.{clash_draft, drafted_name}
use Rattle.sfx_settle.specs.Rules.{rules_view}
use Rattle.sfx_apply.specs.Turns.{destination, is_free_or_none}
use Rattle.sfx_apply.proofs.DecidedDrafts.{found_settled, found_valid}
use Rattle.sfx_apply.proofs.planning.planned.Goals as goal

pub has_free_name-requires : goal.has_free_name-requires
has_free_name-requires g c =
    let rules = rules_view g.M.Merger.meaning c.args.rules.now in (
      lit< tt,
      (
        lit< tt,
        (
          c.requires.waits,
          found_valid g.row.U c.args.batch.now rules c.args.change.now c.args.work.now (g.P.Provider.state c.args.provider.now)
              (option_map (λ x. x.now.state) c.args.local) c.in_ok-draft.draft c.keeps.ensures.consistent c.requires.waits c.requires.skip.keep
              c.requires.whole c.requires.local c.in_ok-draft.ensures,
        ),
      ),
    )

pub returns-clause-value : goal.returns-clause-value
returns-clause-value g c =
    let rules = rules_view g.M.Merger.meaning c.args.rules.now in
    let draft = c.in_ok-draft.draft in
    let is = found_settled g.row.U c.args.batch.now rules c.args.change.now c.args.work.now (g.P.Provider.state c.args.provider.now)
    (option_map (λ x. x.now.state) c.args.local) draft
    c.keeps.ensures.consistent c.requires.waits c.requires.skip.clash c.requires.normal c.requires.local c.in_ok-draft.ensures in
    c.in_ok-settled.ensures
    ∙ ap (λ (free : Bool). if free then draft else clash_draft g.row.U rules.clash draft) (c.in_ok-free.ensures.value ∙ ap (λ (x : ItemData). is_free_or_none
    (destination g.row.U c.args.work.now (g.P.Provider.state c.args.provider.now)).items x.id (drafted_name draft)) c.change.view_is)
    ∙ is
