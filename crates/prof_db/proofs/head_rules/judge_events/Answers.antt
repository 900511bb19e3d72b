use Rattle.std.proofs.Common.{◌<◌, ◌≤◌, length, sym, ap, ◌∙◌, arith}
use Rattle.prof_db.specs.Fields.{fault}
use Rattle.prof_db.specs.HeadRules.{broken_offset, event_breaks}
use Rattle.prof_db.proofs.Broken.{failed}
use Rattle.prof_db.proofs.FirstBroken.{all_pass, breaks_at, passes_on}
use Rattle.prof_db.proofs.head_rules.judge_events.Goals as goal

pub returns-then-event_is_broken : goal.returns-then-event_is_broken
returns-then-event_is_broken c =
    let lt : c.loop-i.i < length c.args.events.now = omega arith in
    breaks_at 3 (event_breaks c.args.events.now) (broken_offset c.args.version c.args.events.now) (length c.args.events.now) c.loop-i.i _ lt
    (sym c.event_is_broken.ensures ∙ c.if-event_is_broken.true) c.loop-i.invariant
    ∙ ap failed (sym (c.fault_at.ensures ∙ ap (fault 3) c.broken_offset.ensures))

pub loop-i-preserved : goal.loop-i-preserved
loop-i-preserved c =
    let lt : c.loop-i.i < length c.args.events.now = omega arith in
    passes_on 3 (event_breaks c.args.events.now) (broken_offset c.args.version c.args.events.now) (length c.args.events.now) c.loop-i.i _ lt
    (sym c.event_is_broken.ensures ∙ c.if-event_is_broken.false) c.loop-i.invariant

pub returns : goal.returns
returns c =
    let le : length c.args.events.now ≤ c.loop-i.i = omega arith in
    all_pass 3 (event_breaks c.args.events.now) (broken_offset c.args.version c.args.events.now) (length c.args.events.now) c.loop-i.i _ le c.loop-i.invariant
