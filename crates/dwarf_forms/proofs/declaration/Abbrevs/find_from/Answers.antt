use Rattle.std.proofs.Common.{◌==◌, ◌∙◌, sym, ap}
use Rattle.std.specs.Prelude.{slice_get}
use Rattle.dwarf_forms.proofs.Indices.{find_behind, nowhere_behind}
use Rattle.dwarf_forms.proofs.declaration.Abbrevs.find_from.Goals as goal

pub returns-in-Some : goal.returns-in-Some
returns-in-Some c =
    c.element.ensures ∙ ap (λ xs. slice_get xs c.in-Some.index) (c.as_slice.ensures.value ∙ c.self.view_is)
    ∙ find_behind (λ declared. declared.code == c.args.code) c.args.self.now c.args.from c.in-Some.index (sym c.index_of.ensures ∙ c.in-Some.is) c.if-from-index.true

pub returns-in-None : goal.returns-in-None
returns-in-None c = sym (nowhere_behind (λ declared. declared.code == c.args.code) c.args.self.now c.args.from (sym c.index_of.ensures ∙ c.in-None.is))
