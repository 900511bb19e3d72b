use Rattle.std.proofs.Common.{◌+◌, ◌∙◌, ap, sym, arith}
use Rattle.std.specs.Prelude.{option_map}
use Rattle.dwarf_forms.specs.Sizes.{form_size, in_32_bits}
use Rattle.dwarf_forms.proofs.FixedFronts.{one_more}
use Rattle.dwarf_forms.proofs.fronts.with_first.Goals as goal

pub returns-in-Some : goal.returns-in-Some
returns-in-Some c = λ spec specs form is.
    one_more spec specs c.args.others _ c.in-Some.bytes is (omega arith)
    (c.in-Some.ensures.sum ∙ ap (λ f. in_32_bits (option_map (λ n. c.args.others.bytes + n) (form_size f))) (sym form))
