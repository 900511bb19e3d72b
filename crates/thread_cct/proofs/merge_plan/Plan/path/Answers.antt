use Rattle.std.proofs.Common.{sym, ap, ◌∙◌, arith}
use Rattle.std.specs.Prelude.{slice_get}
use Rattle.thread_cct.specs.Plan.{Planned}
use Rattle.thread_cct.proofs.Located.{placed, shown_low, shown_rise, few_columns}
use Rattle.thread_cct.proofs.merge_plan.Plan.path.Goals as goal

pub last_from-column-requires-clause-some : goal.last_from-column-requires-clause-some
last_from-column-requires-clause-some c = (shown_low _ _ _ _ c.self.inside.paths c.args.number c.self.invariant c.self.view_is c.requires c.as_slice.ensures.value).0

pub last_from-column-requires-clause-low : goal.last_from-column-requires-clause-low
last_from-column-requires-clause-low c = (shown_low _ _ _ _ c.self.inside.paths c.args.number c.self.invariant c.self.view_is c.requires c.as_slice.ensures.value).1

pub last_from-column-requires-clause-rise : goal.last_from-column-requires-clause-rise
last_from-column-requires-clause-rise c = shown_rise _ _ _ c.self.inside.paths c.self.invariant c.as_slice.ensures.value

pub overflow_cast-column : goal.overflow_cast-column
overflow_cast-column c = (let few = few_columns _ _ _ c.self.inside.paths c.last_from-column.result c.self.invariant c.as_slice.ensures.value c.last_from-column.ensures.within in omega (arith, few))

pub overflow_sub-number : goal.overflow_sub-number
overflow_sub-number c =
    (placed _ _ _ _ c.self.inside.paths _ _ _ c.self.invariant c.self.view_is c.requires c.as_slice.ensures.value c.last_from-column.ensures.last c.last_from-column.ensures.within c.index.ensures).from

pub load-requires-clause-column : goal.load-requires-clause-column
load-requires-clause-column c =
    (placed _ _ _ _ c.self.inside.paths _ _ _ c.self.invariant c.self.view_is c.requires c.as_slice.ensures.value c.last_from-column.ensures.last c.last_from-column.ensures.within c.index.ensures).column_in

pub load-requires-clause-index : goal.load-requires-clause-index
load-requires-clause-index c =
    (placed _ _ _ _ c.self.inside.paths _ _ _ c.self.invariant c.self.view_is c.requires c.as_slice.ensures.value c.last_from-column.ensures.last c.last_from-column.ensures.within c.index.ensures).inside

pub returns : goal.returns
returns c =
    ap (λ (p : Planned). slice_get p.paths c.args.number) (sym c.self.view_is)
    ∙ (placed _ _ _ _ c.self.inside.paths _ _ _ c.self.invariant c.self.view_is c.requires c.as_slice.ensures.value c.last_from-column.ensures.last c.last_from-column.ensures.within c.index.ensures).is
    _ c.in_ok-counted.ensures
