use Rattle.std.proofs.Common.{length, ap, sym, ◌∙◌, arith}
use Rattle.tree_types.specs.declared.content.EventContent.{EventContent}
use Rattle.prof_db.proofs.Contents.{contexts_long, profiles_long}
use Rattle.prof_db.proofs.Sampled.{head_columns}
use Rattle.prof_db.proofs.read.judge_values.Goals as goal

pub judge_planes-requires : goal.judge_planes-requires
judge_planes-requires c = record {
  columns = (let long = profiles_long c.args.layout.now c.args.names c.args.nodes.items _ c.in_ok-content.ensures in let few = head_columns c.args.layout.now c.requires.head in omega (arith, long, few));
  nodes = (let long = contexts_long c.args.layout.now c.args.names c.args.nodes.items _ c.in_ok-content.ensures in let few = c.requires.few in omega arith);
  numbers = c.requires.numbers ∙ sym (ap (λ (k : EventContent). length k.nodes) c.in_ok-content.ensures);
}
