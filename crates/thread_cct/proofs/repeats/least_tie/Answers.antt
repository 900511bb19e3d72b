use Rattle.std.proofs.Common.{length, MatchOption, ℕ, ◌+◌, ◌<◌, ◌≤◌, List, Option, arith, sym, subst, ◌∙◌}
use Rattle.thread_cct.specs.declared.repeats.NumberedPath.{NumberedPath}
use Rattle.thread_cct.specs.private.Keys.{HasNoTie, IsLeastTie}
use Rattle.thread_cct.proofs.Ties.{all_seen, apart_more, tied_more}
use Rattle.thread_cct.proofs.repeats.least_tie.Goals as goal
use Rattle.thread_cct.proofs.repeats.least_tie.Goals.{then-is_tied, else-is_tied}

pub loop-index-preserved : goal.loop-index-preserved
loop-index-preserved c =
    let keys : List NumberedPath = c.args.keys.now in
    let n : ℕ = c.loop-index.index in
    let some : 1 ≤ n = omega (arith, c.loop-index.auto.index) in
    let within : n < length keys = omega (arith, c.loop-index-test.true) in
    elim c.if-is_tied.branch [
      | then-is_tied w ↦ subst (λ (o : Option ℕ). MatchOption o (HasNoTie keys (n + 1)) (IsLeastTie keys (n + 1))) (sym (w.least-is ∙ w.lesser-least.ensures))
          (tied_more keys n _ some within c.loop-index.least (sym c.is_tied.ensures ∙ w.if-is_tied.true) c.loop-index.invariant)
      | else-is_tied w ↦ subst (λ (o : Option ℕ). MatchOption o (HasNoTie keys (n + 1)) (IsLeastTie keys (n + 1))) (sym w.least-is)
          (apart_more keys n _ some within c.loop-index.least (sym c.is_tied.ensures ∙ w.if-is_tied.false) c.loop-index.invariant)
    ]

pub returns : goal.returns
returns c = all_seen c.args.keys.now c.loop-index.index c.loop-index.least (omega (arith, c.loop-index-test.false)) c.loop-index.invariant
