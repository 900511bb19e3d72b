use Rattle.std.proofs.Common.{rules, ◌≤◌, ℕ, length, sym, ap, ◌∙◌, subst}
use Rattle.stripe_table.specs.Limits.{IsLimited}
use Rattle.stripe_table.proofs.Starting.{limited, as_many}
use Rattle.stripe_table.proofs.table.Stripes.start.Goals as goal

pub invariant_of-stripes : goal.invariant_of-stripes
invariant_of-stripes g c = let t = c.in_ok-table.ensures in let n = c.chunks-chunks.ensures in let key = ap (λ k. k.value) t.4 ∙ c.of-key.ensures in record {
  words = t.0;
  slots = t.1;
  chunks_are = ap length key ∙ (as_many c.args.plan.now _ ∙ sym n.chunks);
  limited = subst IsLimited (sym key) (limited c.args.plan.now _ (subst (λ (z : ℕ). z ≤ 16384) n.chunks n.few) n.counts c.requires);
  none = c.in_ok-spare.ensures.items;
  room = search rules;
}
