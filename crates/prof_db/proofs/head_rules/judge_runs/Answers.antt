use Rattle.std.proofs.Common.{ℕ, ◌+◌, ◌*◌, ◌<◌, ◌≤◌, length, sym, ap, ◌∙◌, arith}
use Rattle.prof_db.specs.Fields.{fault}
use Rattle.prof_db.specs.HeadRules.{harts_offset, run_breaks}
use Rattle.prof_db.proofs.Broken.{failed}
use Rattle.prof_db.proofs.FirstBroken.{all_pass, breaks_at, passes_on}
use Rattle.prof_db.proofs.head_rules.judge_runs.Goals as goal

pub returns-then-run_is_broken : goal.returns-then-run_is_broken
returns-then-run_is_broken c =
    let lt : c.loop-i.i < length c.args.runs.now = omega arith in
    breaks_at 3 (run_breaks c.args.runs.now) (λ i. harts_offset c.args.version c.args.events + 4 * i) (length c.args.runs.now) c.loop-i.i _ lt
    (sym c.run_is_broken.ensures ∙ c.if-run_is_broken.true) c.loop-i.invariant
    ∙ ap failed (sym (c.fault_at.ensures ∙ ap (λ (n : ℕ). fault 3 (n + 4 * c.loop-i.i)) c.harts_offset.ensures))

pub loop-i-preserved : goal.loop-i-preserved
loop-i-preserved c =
    let lt : c.loop-i.i < length c.args.runs.now = omega arith in
    passes_on 3 (run_breaks c.args.runs.now) (λ i. harts_offset c.args.version c.args.events + 4 * i) (length c.args.runs.now) c.loop-i.i _ lt
    (sym c.run_is_broken.ensures ∙ c.if-run_is_broken.false) c.loop-i.invariant

pub returns : goal.returns
returns c =
    let le : length c.args.runs.now ≤ c.loop-i.i = omega arith in
    all_pass 3 (run_breaks c.args.runs.now) (λ i. harts_offset c.args.version c.args.events + 4 * i) (length c.args.runs.now) c.loop-i.i _ le c.loop-i.invariant
