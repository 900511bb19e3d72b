use Rattle.std.proofs.Common.{subst}
use Rattle.std.specs.Prelude.{IfSome}
use Rattle.cfi_unwind.specs.Path.{TableUnwinder, unwinding_by}
use Rattle.cfi_unwind.specs.private.Index.{FindsCallers}
use Rattle.cfi_unwind.proofs.unwinder.Unwinder.ready_at.Goals as goal

pub returns : goal.returns
returns c =
    subst (λ (u : TableUnwinder). IfSome c.at.result (λ unwind_rule. FindsCallers (unwinding_by u) c.args.pc unwind_rule.now)) c.self.view_is
    (c.at.ensures.finds (unwinding_by (record { frames = c.self.inside.table.now; region = c.self.inside.region })) c.self.invariant)
