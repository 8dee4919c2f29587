use Rattle.std.proofs.Common.{◌≡◌, ◌∙◌, List, ap, arith, sym, subst, refl}
use Rattle.std.proofs.lemmas.Result.{err_from_is_err_and}
use Rattle.sfx_item.specs.declared.item.Item.{Item}
use Rattle.sfx_items.proofs.ItemListLemmas.{puts_ascending}
use Rattle.sfx_model.specs.members.Members.{Member}
use Rattle.sfx_model.specs.members.ItemLists.{drop_all, put_all}
use Rattle.sfx_provider.specs.Commit.{CommitData, after_commit}
use Rattle.sfx_provider.specs.Fits.{FitsMember}
use Rattle.sfx_replica.specs.Replica.{member_view}
use Rattle.sfx_replica.proofs.EditsKeepConsistency.{installed_consistent}
use Rattle.sfx_replica.proofs.replica.Replica.install.Goals as goal

pub drop_all-requires : goal.drop_all-requires
drop_all-requires g c =
    let drops : c.as_slice-2.result.now ≡ c.args.commit.now.drops =
    c.as_slice-2.ensures.value ∙ ap (λ (x : CommitData). x.drops) c.commit.view_is in (
      omega arith,
      (
        rw c.in_ok-put_all.ensures.ok (puts_ascending c.in_ok-puts.puts.items c.self.inside.items.items c.self.invariant.ascending),
        rw drops c.requires.fits.drops,
      ),
    )

pub invariant_of-self-2 : goal.invariant_of-self-2
invariant_of-self-2 g c =
    let m = member_view c.self.inside.id c.self.inside.clock c.self.inside.knowledge c.self.inside.forgotten c.self.inside.items.items in
    let fits : FitsMember g.row.U c.args.commit.now m = subst (λ (x : Member). FitsMember g.row.U c.args.commit.now x) (sym c.self.view_is) c.requires.fits in
    let put : c.put_all.new.items.items ≡ put_all c.commit.inside.puts.items m.items =
    rw (c.in_ok-put_all.ensures.ok, c.in_ok-puts.ensures, c.as_slice.ensures.value) refl in
    let items : c.drop_all.new.items.items ≡ drop_all c.commit.inside.drops.items (put_all c.commit.inside.puts.items m.items) =
    rw (c.drop_all.ensures, c.as_slice-2.ensures.value, put) refl in
    let commit : CommitData = record { clock = c.commit.inside.clock; knowledge = c.commit.inside.knowledge; forgotten = c.commit.inside.forgotten; puts = c.commit.inside.puts.items; drops = c.commit.inside.drops.items } in
    installed_consistent g.row.U commit m c.in_ok-knowledge.knowledge c.in_ok-forgotten.forgotten c.drop_all.new.items.items
    c.self.invariant (subst (λ (x : CommitData). FitsMember g.row.U x m) (sym c.commit.view_is) fits)
    c.in_ok-knowledge.ensures.form c.in_ok-knowledge.ensures.ticks c.in_ok-knowledge.ensures.list c.in_ok-forgotten.ensures items

pub returns-in_err-knowledge-clause-ok : goal.returns-in_err-knowledge-clause-ok
returns-in_err-knowledge-clause-ok g c =
    let (fault, is, same) = err_from_is_err_and c.from_residual.result c.from_residual.ensures.1 in
    rw is tt

pub returns-in_err-knowledge-clause-err : goal.returns-in_err-knowledge-clause-err
returns-in_err-knowledge-clause-err g c =
    let (fault, is, same) = err_from_is_err_and c.from_residual.result c.from_residual.ensures.1 in
    rw is refl

pub returns-in_err-forgotten-clause-ok : goal.returns-in_err-forgotten-clause-ok
returns-in_err-forgotten-clause-ok g c =
    let (fault, is, same) = err_from_is_err_and c.from_residual-in_err-forgotten.result c.from_residual-in_err-forgotten.ensures.1 in
    rw is tt

pub returns-in_err-forgotten-clause-err : goal.returns-in_err-forgotten-clause-err
returns-in_err-forgotten-clause-err g c =
    let (fault, is, same) = err_from_is_err_and c.from_residual-in_err-forgotten.result c.from_residual-in_err-forgotten.ensures.1 in
    rw is refl

pub invariant_of-self : goal.invariant_of-self
invariant_of-self g c = rw c.in_err-put_all.ensures.err c.self.invariant

pub returns-in_err-put_all-clause-ok : goal.returns-in_err-put_all-clause-ok
returns-in_err-put_all-clause-ok g c =
    let (fault, is, same) = err_from_is_err_and c.from_residual-in_err-put_all.result c.from_residual-in_err-put_all.ensures.1 in
    rw is tt

pub returns-in_err-put_all-clause-err : goal.returns-in_err-put_all-clause-err
returns-in_err-put_all-clause-err g c =
    let (fault, is, same) = err_from_is_err_and c.from_residual-in_err-put_all.result c.from_residual-in_err-put_all.ensures.1 in
    rw is
    (ap (λ (xs : List (Item g.row.U)). member_view c.self.inside.id c.self.inside.clock c.self.inside.knowledge c.self.inside.forgotten xs) c.in_err-put_all.ensures.err
    ∙ c.self.view_is)

pub returns-clause-ok : goal.returns-clause-ok
returns-clause-ok g c =
    let m = member_view c.self.inside.id c.self.inside.clock c.self.inside.knowledge c.self.inside.forgotten c.self.inside.items.items in
    let put : c.put_all.new.items.items ≡ put_all c.commit.inside.puts.items m.items =
    rw (c.in_ok-put_all.ensures.ok, c.in_ok-puts.ensures, c.as_slice.ensures.value) refl in
    let items : c.drop_all.new.items.items ≡ drop_all c.commit.inside.drops.items (put_all c.commit.inside.puts.items m.items) =
    rw (c.drop_all.ensures, c.as_slice-2.ensures.value, put) refl in
    let commit : CommitData = record { clock = c.commit.inside.clock; knowledge = c.commit.inside.knowledge; forgotten = c.commit.inside.forgotten; puts = c.commit.inside.puts.items; drops = c.commit.inside.drops.items } in
    let after = member_view c.self.inside.id c.commit.inside.clock c.in_ok-knowledge.knowledge c.in_ok-forgotten.forgotten c.drop_all.new.items.items in
    let now : after ≡ after_commit g.row.U commit m = rw (c.in_ok-knowledge.ensures.list, c.in_ok-forgotten.ensures, items) refl in
    subst (λ (x : Member). after ≡ after_commit g.row.U c.args.commit.now x) c.self.view_is
    (subst (λ (x : CommitData). after ≡ after_commit g.row.U x m) c.commit.view_is now)

pub returns-clause-err : goal.returns-clause-err
returns-clause-err g c = tt
