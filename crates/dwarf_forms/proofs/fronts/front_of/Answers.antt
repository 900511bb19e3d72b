use Rattle.std.proofs.Common.{refl}
use Rattle.std.proofs.lemmas.Option.{slice_get_read}
use Rattle.dwarf_forms.proofs.fronts.front_of.Goals as goal

pub returns-in-Some : goal.returns-in-Some
returns-in-Some c = λ specs are.
    let h = c.in-Some.ensures.lookup in
    are c.args.count c.in-Some.front.now (slice_get_read c.args.fronts.now _ c.args.count c.in-Some.front.now refl h.3.0 h.1)
