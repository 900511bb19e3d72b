use Rattle.std.proofs.Common.{◌==◌, ◌∙◌, sym, ap}
use Rattle.std.specs.Prelude.{slice_get}
use Rattle.dwarf_forms.proofs.Indices.{find_there, find_nowhere}
use Rattle.dwarf_forms.proofs.declaration.Abbrevs.find.Goals as goal

pub returns-in-Some : goal.returns-in-Some
returns-in-Some c =
    c.element.ensures ∙ ap (λ xs. slice_get xs c.in-Some.index) (c.as_slice.ensures.value ∙ c.self.view_is)
    ∙ sym (find_there (λ declared. declared.code == c.args.code) c.args.self.now c.in-Some.index (sym c.index_of.ensures ∙ c.in-Some.is))

pub returns-in-None : goal.returns-in-None
returns-in-None c = sym (find_nowhere (λ declared. declared.code == c.args.code) c.args.self.now (sym c.index_of.ensures ∙ c.in-None.is))
