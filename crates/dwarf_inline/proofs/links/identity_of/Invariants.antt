use Rattle.dwarf_inline.specs.private.Answers.{AreAnswers}
use Rattle.dwarf_inline.proofs.Linked.{IsLinked}
use Rattle.dwarf_inline.proofs.links.identity_of.Given as goal

abbrev pub invariant-loop : goal.invariant-loop
invariant-loop l = record {
  linked : IsLinked l.fn.start l.last l.counter;
  answers : AreAnswers l.fn.start.info l.long.answers;
}
