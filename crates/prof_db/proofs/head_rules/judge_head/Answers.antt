use Rattle.prof_db.proofs.Heads.{given_head}
use Rattle.prof_db.proofs.head_rules.judge_head.Goals as goal

pub returns-clause-head : goal.returns-clause-head
returns-clause-head c = given_head c.args.layout.now c.head_rule.result c.head_rule.ensures
