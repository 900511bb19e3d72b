use Rattle.std.proofs.Common.{◌<◌, ◌≤◌, length, sym, ap, ◌∙◌, arith}
use Rattle.prof_db.specs.Fields.{fault}
use Rattle.prof_db.specs.NameRules.{is_among, file_at, file_breaks, file_is_wrong}
use Rattle.prof_db.proofs.Broken.{broken_is, failed}
use Rattle.prof_db.proofs.FirstBroken.{all_pass, breaks_at, passes_on}
use Rattle.prof_db.proofs.name_rules.judge_files.Goals as goal

pub returns-then-is_broken : goal.returns-then-is_broken
returns-then-is_broken c =
    let lt : c.loop-i.i < length c.args.files.now = omega arith in
    breaks_at 4 (file_breaks c.args.files.now c.args.used.now) (λ i. (file_at c.args.files.now i).offset) (length c.args.files.now) c.loop-i.i _ lt
    (broken_is c.is_broken.result c.file_is_wrong.result c.is_marked.result (file_is_wrong c.args.files.now c.loop-i.i) (is_among c.args.used.now c.loop-i.i) c.is_broken.ensures c.file_is_wrong.ensures (c.is_marked.ensures ∙ c.in_ok-marks.ensures.each c.loop-i.i lt) ∙ c.if-is_broken.true) c.loop-i.invariant
    ∙ ap failed (sym (c.fault_at.ensures ∙ ap (fault 4) c.file_offset.ensures))

pub loop-i-preserved : goal.loop-i-preserved
loop-i-preserved c =
    let lt : c.loop-i.i < length c.args.files.now = omega arith in
    passes_on 4 (file_breaks c.args.files.now c.args.used.now) (λ i. (file_at c.args.files.now i).offset) (length c.args.files.now) c.loop-i.i _ lt
    (broken_is c.is_broken.result c.file_is_wrong.result c.is_marked.result (file_is_wrong c.args.files.now c.loop-i.i) (is_among c.args.used.now c.loop-i.i) c.is_broken.ensures c.file_is_wrong.ensures (c.is_marked.ensures ∙ c.in_ok-marks.ensures.each c.loop-i.i lt) ∙ c.if-is_broken.false) c.loop-i.invariant

pub returns : goal.returns
returns c =
    let le : length c.args.files.now ≤ c.loop-i.i = omega arith in
    all_pass 4 (file_breaks c.args.files.now c.args.used.now) (λ i. (file_at c.args.files.now i).offset) (length c.args.files.now) c.loop-i.i _ le c.loop-i.invariant
