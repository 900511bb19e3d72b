use Rattle.std.proofs.Common.{◌+◌, ◌*◌, ◌<◌, length, ap, ◌∙◌, refl, arith}
use Rattle.std.proofs.lemmas.List.{length-map}
use Rattle.thread_cct.specs.Plan.{expanded, expanded_path}
use Rattle.thread_cct.proofs.DealtEntries.{dealt_none, dealt_length, next_dealt, all_pieces, each_piece}
use Rattle.thread_cct.proofs.Located.{chunk_in, index_in, chunk_whole}
use Rattle.thread_cct.proofs.merge_plan.Plan.cut_in.Goals as goal

pub overflow_mul-first : goal.overflow_mul-first
overflow_mul-first g c = (let few = chunk_in _ _ _ c.self.inside.paths c.args.chunk c.self.invariant c.self.view_is c.requires.chunk in omega (arith, few.0))

pub loop-index-init : goal.loop-index-init
loop-index-init g c = record {
  lists = c.in_ok-lists.ensures ∙ dealt_none;
  memo = c.requires.memo;
}

pub deal-requires : goal.deal-requires
deal-requires g c = ap length c.loop-index.invariant.lists ∙ dealt_length _

pub loop-index-preserved : goal.loop-index-preserved
loop-index-preserved g c =
    let inside : c.args.chunk * 64 + c.loop-index.index < length c.args.self.now.paths =
    index_in _ _ _ c.self.inside.paths c.args.chunk c.loop-index.index _ c.self.invariant c.self.view_is c.requires.chunk c.min-index-end.ensures c.loop-index-test.true in
    let size = length-map c.args.self.now.paths (expanded_path (g.E.Expand.call_path c.args.expand.now)) in
    record {
      lists = next_dealt _ (c.args.chunk * 64) c.loop-index.index _ _ _ _ refl (omega (arith, inside, size)) c.in_ok-made.ensures.entry c.loop-index.invariant.lists c.in_ok-deal.ensures;
      memo = c.in_ok-made.ensures.memo;
    }

pub of-requires : goal.of-requires
of-requires g c = ap length c.loop-index.invariant.lists ∙ dealt_length _

pub returns-clause-pieces : goal.returns-clause-pieces
returns-clause-pieces g c =
    all_pieces c.of.result (expanded c.args.self.now (g.E.Expand.call_path c.args.expand.now)) c.args.chunk _ _ c.loop-index.invariant.lists
    (chunk_whole (g.E.Expand.call_path c.args.expand.now) _ _ _ c.self.inside.paths c.args.chunk c.loop-index.index _ c.self.invariant c.self.view_is c.requires.chunk c.min-index-end.ensures (omega arith) (omega arith))
    c.of.ensures

pub returns-clause-each : goal.returns-clause-each
returns-clause-each g c = each_piece c.of.result (expanded c.args.self.now (g.E.Expand.call_path c.args.expand.now)) c.args.chunk (returns-clause-pieces g c)
