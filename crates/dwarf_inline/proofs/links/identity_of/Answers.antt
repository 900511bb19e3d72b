use Rattle.std.proofs.Common.{refl, sym, ◌∙◌, arith}
use Rattle.dwarf_inline.proofs.Linked.{entry_follows, entry_arrived, entry_too_far}
use Rattle.dwarf_inline.proofs.KeptAnswers.{answers_of}
use Rattle.dwarf_inline.proofs.links.identity_of.Goals as goal

pub returns-in_default-clause-identity : goal.returns-in_default-clause-identity
returns-in_default-clause-identity c =
    entry_arrived c.args.start c.args.start 0 (sym c.in_default.is ∙ c.link.ensures) (record { same = refl; linked = refl })

pub loop-init : goal.loop-init
loop-init c = record {
  linked = entry_follows c.args.start c.args.start c.in-Some.first 0 (omega arith) c.in-Some.ensures (record { same = refl; linked = refl });
  answers = c.requires;
}

pub link-requires-in-loop : goal.link-requires-in-loop
link-requires-in-loop c = answers_of c.args.start.info c.loop.last.info c.loop.long.answers c.loop.invariant.linked.same c.loop.invariant.answers

pub loop-preserved : goal.loop-preserved
loop-preserved c = record {
  linked = entry_follows c.args.start c.loop.last c.in-Some-link.next c.loop.counter c.loop-test.true (sym c.in-Some-link.is ∙ c.link-in-loop.ensures.link) c.loop.invariant.linked;
  answers = answers_of c.loop.last.info c.args.start.info c.link-in-loop.new.self.answers (sym c.loop.invariant.linked.same) c.link-in-loop.ensures.answers;
}

pub returns-in-None-clause-identity : goal.returns-in-None-clause-identity
returns-in-None-clause-identity c =
    entry_arrived c.args.start c.loop.last c.loop.counter (sym c.in-None.is ∙ c.link-in-loop.ensures.link) c.loop.invariant.linked

pub returns-in-None-clause-answers : goal.returns-in-None-clause-answers
returns-in-None-clause-answers c =
    answers_of c.loop.last.info c.args.start.info c.link-in-loop.new.self.answers (sym c.loop.invariant.linked.same) c.link-in-loop.ensures.answers

pub link-requires-2 : goal.link-requires-2
link-requires-2 c = answers_of c.args.start.info c.loop.last.info c.loop.long.answers c.loop.invariant.linked.same c.loop.invariant.answers

pub returns-in-Some-link-2-clause-identity : goal.returns-in-Some-link-2-clause-identity
returns-in-Some-link-2-clause-identity c =
    let past = c.loop-test.false in
    entry_too_far c.args.start c.loop.last c.in-Some-link-2.field-0 c.loop.counter (omega arith) (sym c.in-Some-link-2.is ∙ c.link-2.ensures.link) c.loop.invariant.linked

pub returns-in-Some-link-2-clause-answers : goal.returns-in-Some-link-2-clause-answers
returns-in-Some-link-2-clause-answers c =
    answers_of c.loop.last.info c.args.start.info c.link-2.new.self.answers (sym c.loop.invariant.linked.same) c.link-2.ensures.answers

pub returns-in-None-link-clause-identity : goal.returns-in-None-link-clause-identity
returns-in-None-link-clause-identity c =
    entry_arrived c.args.start c.loop.last c.loop.counter (sym c.in-None-link.is ∙ c.link-2.ensures.link) c.loop.invariant.linked

pub returns-in-None-link-clause-answers : goal.returns-in-None-link-clause-answers
returns-in-None-link-clause-answers c =
    answers_of c.loop.last.info c.args.start.info c.link-2.new.self.answers (sym c.loop.invariant.linked.same) c.link-2.ensures.answers
