use Rattle.std.proofs.Common.{◌∙◌}
use Rattle.dwarf_info.proofs.code_list.push_codes.Goals as goal

pub returns-then-left-eq0 : goal.returns-then-left-eq0
returns-then-left-eq0 c = c.loop.invariant.codes

pub returns-in-Err : goal.returns-in-Err
returns-in-Err c = λ section start read all. c.in_ok-push_code.ensures section start read (c.loop.invariant.codes section start read all)

pub loop-preserved : goal.loop-preserved
loop-preserved c = record {
  whole = c.in-Ok.ensures ∙ c.loop.invariant.whole;
  codes = λ section start read all. c.in_ok-push_code.ensures section start read (c.loop.invariant.codes section start read all);
}

pub returns : goal.returns
returns c = c.loop.invariant.codes
