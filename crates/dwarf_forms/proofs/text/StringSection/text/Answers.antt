use Rattle.std.proofs.Common.{◌∙◌, ℕ, List, Option, Some, ap}
use Rattle.std.proofs.lemmas.List.{take_rest}
use Rattle.dwarf_forms.specs.Sections.{before_zero}
use Rattle.dwarf_forms.proofs.Texts.{text_there, no_text}
use Rattle.dwarf_forms.proofs.text.StringSection.text.Goals as goal

abbrev some_text : List ℕ → Option (List ℕ)
some_text bytes = Some (before_zero bytes)

pub returns-then-offset-self : goal.returns-then-offset-self
returns-then-offset-self c =
    rw (← c.self.view_is) (
    ap some_text (take_rest c.self.inside.bytes.now c.args.offset)
    ∙ text_there c.self.inside.bytes.now c.self.inside.end c.args.offset c.self.invariant c.if-offset-self.true)

pub returns : goal.returns
returns c = rw (← c.self.view_is) (no_text c.self.inside.bytes.now c.self.inside.end c.args.offset c.self.invariant c.if-offset-self.false)
