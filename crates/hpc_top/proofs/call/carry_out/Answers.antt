use Rattle.std.proofs.Common.{subst}
use Rattle.std.proofs.lemmas.Result.{err_from_is_err_and}
use Rattle.prof_devices.specs.Outside.{ShelfState}
use Rattle.hpc_top.specs.Outcome.{call_of}
use Rattle.hpc_top.specs.private.Steps.{Delivers}
use Rattle.command_line.specs.Request.{view_request}
use Rattle.hpc_top.proofs.Outcomes.{delivered, unprepared}
use Rattle.hpc_top.proofs.call.carry_out.Goals as goal

pub returns-in_err-made : goal.returns-in_err-made
returns-in_err-made g c =
    let p = err_from_is_err_and c.from_residual.result c.from_residual.ensures.1 in
    rw (p.1, p.2) (unprepared (view_request c.args.request.now) (g.F.Shelf.shown c.args.shelf.now) _ _ _ c.in_err-made.ensures)

pub returns : goal.returns
returns g c =
    let s = g.F.Shelf.shown c.args.shelf.now in
    let u = g.F.Shelf.shown c.deliver.new.shelf in
    let o = g.O.Sink.shown c.args.out.now in
    let o' = g.O.Sink.shown c.deliver.new.out in
    delivered (view_request c.args.request.now) (call_of s u o o') c.in_ok-made.made c.in_ok-made.ensures.1 c.deliver.result
    (subst (λ (t : ShelfState). Delivers (view_request c.args.request.now).stores c.in_ok-made.made (call_of t u o o') c.deliver.result) c.in_ok-made.ensures.0 c.deliver.ensures)
