use Rattle.std.proofs.Common.{List, length, take, ap, arith, sym, subst}
use Rattle.std.proofs.lemmas.List.{take_all}
use Rattle.prof_bytes.specs.Outcome.{GivesAt}
use Rattle.dwarf_forms.specs.declared.declaration.Spec.{Spec}
use Rattle.dwarf_forms.specs.Sizes.{fixed_size}
use Rattle.dwarf_forms.proofs.FixedSizes.{is_size}
use Rattle.dwarf_forms.proofs.Moves.{keeps}
use Rattle.dwarf_info.specs.Values.{passed_from}
use Rattle.dwarf_info.proofs.FixedValues.{passed_fixed}
use Rattle.dwarf_info.proofs.Rooms.{passed_moves}
use Rattle.dwarf_info.proofs.values.pass_values.Goals as goal

pub returns-in-Some-clause-passed : goal.returns-in-Some-clause-passed
returns-in-Some-clause-passed c =
    subst (λ r. GivesAt (λ u. u) c.pass_bytes.result c.pass_bytes.new.reader r) (sym (passed_fixed c.args.unknown c.args.specs.now c.in-Some.size c.args.reader.now (is_size (fixed_size c.args.specs.now) c.in-Some.size c.in-Some.ensures))) c.pass_bytes.ensures

pub returns-in-Some-clause-keeps : goal.returns-in-Some-clause-keeps
returns-in-Some-clause-keeps c =
    keeps 0 (λ u. u) c.pass_bytes.result c.args.reader.now c.pass_bytes.new.reader (passed_from c.args.unknown c.args.specs.now c.args.reader.now)
    (passed_moves c.args.unknown c.args.specs.now c.args.reader.now)
    (subst (λ r. GivesAt (λ u. u) c.pass_bytes.result c.pass_bytes.new.reader r) (sym (passed_fixed c.args.unknown c.args.specs.now c.in-Some.size c.args.reader.now (is_size (fixed_size c.args.specs.now) c.in-Some.size c.in-Some.ensures))) c.pass_bytes.ensures)

pub returns-clause-passed : goal.returns-clause-passed
returns-clause-passed c =
    subst (λ (specs : List Spec). GivesAt (λ u. u) c.pass_fronts.result c.pass_fronts.new.reader (passed_from c.args.unknown specs c.args.reader.now))
    (take_all (length c.as_slice-items.result.now) c.args.specs.now (let s = ap length c.as_slice-items.ensures in omega arith)) c.pass_fronts.ensures

pub returns-clause-keeps : goal.returns-clause-keeps
returns-clause-keeps c =
    keeps 0 (λ u. u) c.pass_fronts.result c.args.reader.now c.pass_fronts.new.reader (passed_from c.args.unknown (take (length c.as_slice-items.result.now) c.args.specs.now) c.args.reader.now)
    (passed_moves c.args.unknown (take (length c.as_slice-items.result.now) c.args.specs.now) c.args.reader.now) c.pass_fronts.ensures
