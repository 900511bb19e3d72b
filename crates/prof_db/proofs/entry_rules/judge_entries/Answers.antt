use Rattle.std.proofs.Common.{◌<◌, ◌≤◌, length, sym, ap, ◌∙◌, arith}
use Rattle.std.proofs.lemmas.List.Sums.{sum_by_more}
use Rattle.scope_types.specs.Columns.{period_of_column}
use Rattle.prof_db.specs.Fields.{fault}
use Rattle.prof_db.specs.ValueRules.{entry_at, entry_breaks, entry_samples}
use Rattle.prof_db.proofs.Exclusive.{passed_sum}
use Rattle.prof_db.proofs.Broken.{failed}
use Rattle.prof_db.proofs.FirstBroken.{all_pass, breaks_at, passes_on}
use Rattle.prof_db.proofs.entry_rules.judge_entries.Goals as goal

pub returns-then-entry_is_broken : goal.returns-then-entry_is_broken
returns-then-entry_is_broken c =
    let lt : c.loop-i.i < length c.args.entries.now = omega arith in
    breaks_at 6 (entry_breaks (period_of_column c.args.periods.now) c.args.columns c.args.nodes.now c.args.entries.now) (λ i. (entry_at c.args.entries.now i).offset) (length c.args.entries.now) c.loop-i.i _ lt
    (sym c.entry_is_broken.ensures ∙ c.if-entry_is_broken.true) c.loop-i.invariant.kept
    ∙ ap failed (sym (c.fault_at.ensures ∙ ap (fault 6) c.entry_offset.ensures))

pub loop-i-preserved : goal.loop-i-preserved
loop-i-preserved c =
    let lt : c.loop-i.i < length c.args.entries.now = omega arith in
    let whole = sym c.entry_is_broken.ensures ∙ c.if-entry_is_broken.false in
    let sum_is = c.loop-i.invariant.sum in
    let own_is = c.samples_at-samples.ensures in
    let more = sum_by_more (entry_samples (period_of_column c.args.periods.now)) c.args.entries.now c.loop-i.i (record { offset = 0; column = 0; node = 0; kind = 0; value = 0 }) lt in
    let most = passed_sum (period_of_column c.args.periods.now) c.args.columns c.args.nodes.now c.args.entries.now c.loop-i.i whole in
    record {
      kept = passes_on 6 (entry_breaks (period_of_column c.args.periods.now) c.args.columns c.args.nodes.now c.args.entries.now) (λ i. (entry_at c.args.entries.now i).offset) (length c.args.entries.now) c.loop-i.i _ lt whole c.loop-i.invariant.kept;
      sum = omega arith;
      few = omega arith;
    }

pub returns : goal.returns
returns c =
    let le : length c.args.entries.now ≤ c.loop-i.i = omega arith in
    all_pass 6 (entry_breaks (period_of_column c.args.periods.now) c.args.columns c.args.nodes.now c.args.entries.now) (λ i. (entry_at c.args.entries.now i).offset) (length c.args.entries.now) c.loop-i.i _ le c.loop-i.invariant.kept

pub overflow_add-samples : goal.overflow_add-samples
overflow_add-samples c =
    let lt : c.loop-i.i < length c.args.entries.now = omega arith in
    let whole = sym c.entry_is_broken.ensures ∙ c.if-entry_is_broken.false in
    let sum_is = c.loop-i.invariant.sum in
    let own_is = c.samples_at-samples.ensures in
    let more = sum_by_more (entry_samples (period_of_column c.args.periods.now)) c.args.entries.now c.loop-i.i (record { offset = 0; column = 0; node = 0; kind = 0; value = 0 }) lt in
    let most = passed_sum (period_of_column c.args.periods.now) c.args.columns c.args.nodes.now c.args.entries.now c.loop-i.i whole in
    omega arith
