use Rattle.std.proofs.Common.{◌-◌, drop, arith}
use Rattle.std.proofs.lemmas.List.{length-drop}
use Rattle.dwarf_forms.proofs.FixedFronts.{front_between, front_within, from_index, behind_index}
use Rattle.dwarf_forms.proofs.fronts.front_between.Goals as goal

pub returns-then-whole-to : goal.returns-then-whole-to
returns-then-whole-to c = λ specs long are.
    front_between specs c.args.from c.args.to c.front_of-whole.result c.requires.from
    (front_within (drop c.args.from specs) c.front_of-whole.result (c.args.to - c.args.from)
    (from_index specs c.args.count c.args.from c.front_of-whole.result long (let a = c.requires.from in let b = c.requires.to in omega arith) (c.front_of-whole.ensures specs are))
    c.if-whole-to.true)

pub returns : goal.returns
returns c = λ specs long are.
    let a = c.requires.from in
    let b = c.requires.to in
    front_between specs c.args.from c.args.to c.front_before.result c.requires.from
    (c.front_before.ensures (drop c.args.from specs)
    (from_index specs c.args.count c.args.from c.front_of-whole.result long (omega arith) (c.front_of-whole.ensures specs are))
    (behind_index specs c.args.from c.args.to c.front_of.result c.requires.from (from_index specs c.args.count c.args.to c.front_of.result long c.requires.to (c.front_of.ensures specs are)))
    (omega (arith, length-drop c.args.from specs)))
