use Rattle.std.proofs.Common.{ap, le_refl, le_trans, sym, ◌∙◌}
use Rattle.sfx_item.specs.Item.{ItemData}
use Rattle.sfx_model.specs.sessions.Draft.{DraftData}
use Rattle.sfx_model.specs.members.Members.{state_of}
use Rattle.sfx_provider.proofs.AnswerLemmas.{if_ok_never, ok_never}
use Rattle.sfx_settle.specs.Rules.{rules_view}
use Rattle.sfx_apply.specs.Turns.{destination}
use Rattle.sfx_apply.proofs.TurnPlans.{read_turn, spent_turn}
use Rattle.sfx_provider.specs.Fault.{blames_storage}
use Rattle.sfx_provider.proofs.FaultLemmas.{cause_handed, cause_later}
use Rattle.sfx_provider.proofs.LeavesLemmas.{rests_on, rests_self}
use Rattle.sfx_apply.proofs.FaultLemmas.{cause_memory}
use Rattle.sfx_apply.proofs.turn.turn.Goals as goal

pub returns-then-is_spent : goal.returns-then-is_spent
returns-then-is_spent g c =
    let rules = rules_view g.M.Merger.meaning c.args.rules.now in
    let spent = spent_turn g.row.U c.args.batch.now rules c.args.change.now c.args.work.now (g.P.Provider.state c.args.provider.now)
    (sym c.is_spent.ensures ∙ c.if-is_spent.true) in record {
      value = spent.0;
      work = spent.1;
      waits = c.requires.waits;
      rests = rests_self g.met.P.Provider.came_self c.args.provider.now;
      consistent = c.keeps-2.ensures.consistent;
      cause = le_refl _;
    }

pub returns-in_err-local : goal.returns-in_err-local
returns-in_err-local g c =
    let p = g.P.Provider in
    let r = c.from_residual.result in
    let is = c.from_residual.ensures.1 in
    let failed = c.in_err-local.ensures in record {
      value = if_ok_never _ _ r is;
      work = ok_never _ _ r is;
      waits = ok_never _ _ r is;
      rests = failed.rests;
      consistent = c.keeps-2.ensures.consistent;
      cause = cause_handed blames_storage (p.faults c.args.provider.now) (p.faults c.item_now.new.provider) c.in_err-local.field-0.0 r is failed.cause;
    }

pub returns-in_err-draft : goal.returns-in_err-draft
returns-in_err-draft g c =
    let p = g.P.Provider in
    let now = c.args.provider.now in
    let r = c.from_residual-in_err-draft.result in
    let is = c.from_residual-in_err-draft.ensures.1 in
    let read = c.in_ok-local.ensures in
    let failed = c.in_err-draft.ensures in record {
      value = if_ok_never _ _ r is;
      work = ok_never _ _ r is;
      waits = ok_never _ _ r is;
      rests = rests_on g.met.P.Provider.came_read read.rests failed.rests;
      consistent = c.keeps-2.ensures.consistent;
      cause = cause_handed blames_storage (p.faults now) (p.faults c.planned.new.provider) c.in_err-draft.field-0.0 r is
          (cause_later blames_storage (p.faults now) (p.faults c.item_now.new.provider) (p.faults c.planned.new.provider) c.in_err-draft.field-0.0 read.cause failed.cause);
    }

pub returns-in_err-add : goal.returns-in_err-add
returns-in_err-add g c =
    let p = g.P.Provider in
    let now = c.args.provider.now in
    let r = c.from_residual-in_err-add.result in
    let is = c.from_residual-in_err-add.ensures.1 in
    let read = c.in_ok-local.ensures in
    let made = c.in_ok-draft.ensures in record {
      value = if_ok_never _ _ r is;
      work = ok_never _ _ r is;
      waits = ok_never _ _ r is;
      rests = rests_on g.met.P.Provider.came_read read.rests made.rests;
      consistent = c.keeps-2.ensures.consistent;
      cause = cause_memory (p.faults now) (p.faults c.planned.new.provider) r is (le_trans read.cause made.cause);
    }

pub returns : goal.returns
returns g c =
    let p = g.P.Provider in
    let now = c.args.provider.now in
    let read = c.in_ok-local.ensures in
    let made = c.in_ok-draft.ensures in
    let added = c.in_ok-add.ensures in
    let local = read.value ∙ ap (λ (x : ItemData). state_of (destination g.row.U c.args.work.now (p.state now)).items x.id) c.change.view_is in
    let rules = rules_view g.M.Merger.meaning c.args.rules.now in
    let taken = read_turn c.args.batch.now rules c.args.change.now c.args.work.now c.add.new.self (p.state now)
    (p.state c.item_now.new.provider) c.as_ref-2.result c.in_ok-local.local c.in_ok-draft.draft c.draft.inside.marks
    c.keeps-2.ensures.consistent c.requires.waits c.keeps.ensures.batch c.requires.skip c.requires.no_more c.requires.sent (sym c.is_spent.ensures ∙ c.if-is_spent.false)
    c.as_ref-2.ensures.value local read.rests.same (ap (λ (d : DraftData). d.marks) c.draft.view_is) made.value
    added.pending added.entries added.budget in record {
      value = taken.0;
      work = taken.1;
      waits = taken.2;
      rests = rests_on g.met.P.Provider.came_read read.rests made.rests;
      consistent = c.keeps-2.ensures.consistent;
      cause = le_trans read.cause made.cause;
    }
