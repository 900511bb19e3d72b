use Rattle.std.proofs.Common.{List, ap, subst, sym, ◌∙◌, arith}
use Rattle.scope_types.specs.declared.frame.Counted.{Counted}
use Rattle.thread_cct.specs.Adding.{count_one}
use Rattle.thread_cct.specs.private.Fields.{IsPathAt}
use Rattle.thread_cct.specs.private.Listed.{listed_path}
use Rattle.thread_cct.proofs.Entries.{found_at}
use Rattle.thread_cct.proofs.Listed.{count_few, counted_listed, counted_there, index_within, path_is_at, there_within}
use Rattle.thread_cct.proofs.path_list.PathList.count_listed.Goals as goal

pub index_mut-requires : goal.index_mut-requires
index_mut-requires c =
    let less = index_within c.self.inside.pcs.items c.self.inside.paths.items c.args.self.now c.in-Some.index c.self.view_is (there_within c.args.raw.now c.args.self.now c.in-Some.index c.in-Some.ensures) in
    omega (arith, less, c.self.inside.paths.ok.0)

pub overflow_add-index_mut : goal.overflow_add-index_mut
overflow_add-index_mut c =
    let less = index_within c.self.inside.pcs.items c.self.inside.paths.items c.args.self.now c.in-Some.index c.self.view_is (there_within c.args.raw.now c.args.self.now c.in-Some.index c.in-Some.ensures) in
    let at = path_is_at c.self.inside.pcs.items c.self.inside.paths.items c.args.self.now c.in-Some.index c.index_mut.result.now c.self.view_is c.index_mut.ensures.value less in
    let few = count_few c.args.self.now c.in-Some.index (listed_path c.self.inside.pcs.items c.index_mut.result.now) at in
    omega (arith, few, c.requires)

pub invariant_of-self : goal.invariant_of-self
invariant_of-self c =
    let less = index_within c.self.inside.pcs.items c.self.inside.paths.items c.args.self.now c.in-Some.index c.self.view_is (there_within c.args.raw.now c.args.self.now c.in-Some.index c.in-Some.ensures) in
    counted_listed c.self.inside.pcs.items c.self.inside.paths.items c.self.inside.frames c.in-Some.index c.index_mut.result.now c.self.invariant less c.index_mut.ensures.value

pub returns-clause-found : goal.returns-clause-found
returns-clause-found c = found_at c.args.raw.now c.args.self.now c.in-Some.index c.in-Some.ensures

pub returns-clause-counted : goal.returns-clause-counted
returns-clause-counted c =
    counted_there c.args.raw.now c.self.inside.pcs.items c.self.inside.paths.items c.in-Some.index c.index_mut.result.now
    (subst (λ (l : List Counted). IsPathAt c.args.raw.now l c.in-Some.index) (sym c.self.view_is) c.in-Some.ensures) c.index_mut.ensures.value
    ∙ ap (count_one c.args.raw.now) c.self.view_is
