use Rattle.std.proofs.Common.{◌∙◌, ℕ, List, ap, arith}
use Rattle.std.specs.Prelude.{count_by, nat_lt}
use Rattle.struct_listing.proofs.Opened.{less_open}
use Rattle.struct_listing.proofs.listed.close_ended.Goals as goal

pub loop-kept-preserved : goal.loop-kept-preserved
loop-kept-preserved c = record {
  within = omega (arith, c.loop-kept.invariant.within);
  open_ends = less_open c.args.number c.loop-kept.kept c.args.ends.now.items c.index.result.now c.loop-kept-test.true c.loop-kept.invariant.within (omega (arith, c.index.ensures)) c.loop-kept.invariant.open_ends;
}

pub returns : goal.returns
returns c = λ n le. ap (λ (es : List ℕ). count_by (λ end. nat_lt n end) es) c.truncate.ensures.items ∙ c.loop-kept.invariant.open_ends n le
