use Rattle.std.proofs.Common.{◌≡◌, Some, arith, sym, subst, ℕ}
use Rattle.std.specs.Ordering.{nat_cmp}
use Rattle.std.specs.BTreeMap.{get}
use Rattle.std.proofs.lemmas.Grind.{common_steps}
use Rattle.dwarf_inline.specs.private.Answers.{IsAnswer}
use Rattle.dwarf_inline.proofs.KeptAnswers.{asked, same_answer}
use Rattle.dwarf_inline.proofs.long_entries.LongEntries.answer.Goals as goal

pub returns-in-Some-clause-is : goal.returns-in-Some-clause-is
returns-in-Some-clause-is c =
    let at : get nat_cmp c.args.self.now.answers c.index-index.result ≡ Some c.in-Some.answer.now = grind (arith, common_steps) in
    same_answer c.args.entry.now.info c.args.entry.now.index c.in-Some.answer.now c.copied.result c.copied.ensures
    (asked c.args.entry.now.info c.args.self.now.answers c.index-index.result c.args.entry.now.index c.in-Some.answer.now c.index-index.ensures at c.requires)

pub returns-clause-answers : goal.returns-clause-answers
returns-clause-answers c =
    c.keep.ensures c.args.entry.now.info c.requires
    (same_answer c.args.entry.now.info c.index-index.result c.answer_of-answer.result c.copied-kept.result c.copied-kept.ensures
    (subst (λ (n : ℕ). IsAnswer c.args.entry.now.info n c.answer_of-answer.result) (sym c.index-index.ensures) c.answer_of-answer.ensures))
