use Rattle.std.proofs.Common.{rules}
use Rattle.std.proofs.lemmas.List.{get_or_default}
use Rattle.std.proofs.lemmas.Result.{err_from_is_err_and}
use Rattle.hpc_top.specs.declared.status.Stop.TheVariants as stops
use Rattle.hpc_top.proofs.Fetching.{no_fetches, log_grown, fetched_more, fetched_within, fetch_all_stops}
use Rattle.hpc_top.proofs.steps.fetch_all.Goals as goal

pub returns-in_err-text : goal.returns-in_err-text
returns-in_err-text g c =
    let p = err_from_is_err_and c.from_residual.result c.from_residual.ensures.1 in
    rw (p.1, p.2) (fetch_all_stops c.args.wants.now c.loop-want.want-index _ c.loop-want-test.true (get_or_default c.args.wants.now c.loop-want.want-index _ _ c.loop-want-test.true) (g.F.Shelf.shown c.args.shelf.now) (g.F.Shelf.shown c.loop-want.shelf) _ _ _ c.loop-want.invariant.0 c.loop-want.invariant.2 c.in_err-text.ensures)

pub loop-want-init : goal.loop-want-init
loop-want-init g c = (no_fetches (g.F.Shelf.shown c.args.shelf.now), search rules, search rules)

pub loop-want-preserved : goal.loop-want-preserved
loop-want-preserved g c = (
  log_grown c.args.wants.now c.loop-want.want-index _ c.loop-want-test.true (get_or_default c.args.wants.now c.loop-want.want-index _ _ c.loop-want-test.true) (g.F.Shelf.shown c.args.shelf.now) (g.F.Shelf.shown c.loop-want.shelf) _ c.loop-want.invariant.0 c.in_ok-text.ensures.0,
  fetched_within c.args.wants.now c.loop-want.want-index _ _ _ _ c.loop-want-test.true (get_or_default c.args.wants.now c.loop-want.want-index _ _ c.loop-want-test.true) c.loop-want.invariant.1 c.in_ok-text.ensures.1 c.in_ok-push_text.ensures,
  fetched_more c.args.wants.now c.loop-want.want-index _ c.loop-want-test.true (get_or_default c.args.wants.now c.loop-want.want-index _ _ c.loop-want-test.true) (g.F.Shelf.shown c.args.shelf.now) (g.F.Shelf.shown c.loop-want.shelf) _ _ _ c.loop-want.invariant.0 c.loop-want.invariant.2 c.in_ok-text.ensures.2 c.in_ok-push_text.ensures,
)

pub returns-in_err-push_text : goal.returns-in_err-push_text
returns-in_err-push_text g c =
    let p = err_from_is_err_and c.from_residual-in_err-push_text.result c.from_residual-in_err-push_text.ensures.1 in
    rw (p.1, p.2) (fetch_all_stops c.args.wants.now c.loop-want.want-index _ c.loop-want-test.true (get_or_default c.args.wants.now c.loop-want.want-index _ _ c.loop-want-test.true) (g.F.Shelf.shown c.args.shelf.now) (g.F.Shelf.shown c.loop-want.shelf) (g.F.Shelf.shown c.fetch_file.new.shelf) _ (stops.Memory _) c.loop-want.invariant.0 c.loop-want.invariant.2 c.in_ok-text.ensures.0)
