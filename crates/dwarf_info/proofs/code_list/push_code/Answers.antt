use Rattle.std.proofs.Common.{rules, ◌≡◌, Some, sym, subst, arith}
use Rattle.std.proofs.lemmas.Grind.{common_steps}
use Rattle.dwarf_info.specs.Values.{declaration_of}
use Rattle.dwarf_info.specs.private.CodeLists.{AreCodes}
use Rattle.dwarf_info.proofs.CodeLists.{pushed}
use Rattle.dwarf_info.proofs.code_list.push_code.Goals as goal

pub returns-in_ok-push-in-Some : goal.returns-in_ok-push-in-Some
returns-in_ok-push-in-Some c = λ section start read all.
    let found : declaration_of c.args.table.now c.args.code ≡ Some c.in-Some.declared.now = grind (arith, common_steps) in
    subst (AreCodes section start) (sym c.in_ok-push-in-Some.ensures.items) (pushed section start c.args.code c.args.table.now c.in-Some.declared.now c.args.codes.now.items _ read found (search rules) all)
