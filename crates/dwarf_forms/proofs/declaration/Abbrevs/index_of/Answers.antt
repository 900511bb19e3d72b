use Rattle.std.proofs.Common.{◌⊎◌, inl, inr, ◌≡◌, ◌==◌, ◌<◌, ◌∙◌, sym, ap, arith}
use Rattle.std.specs.Prelude.{position}
use Rattle.dwarf_forms.proofs.Numbered.{numbered_at, not_numbered}
use Rattle.dwarf_forms.proofs.declaration.Abbrevs.index_of.Goals.{else-code-gt0-via-then-code-gt0+else-code-self, else-code-gt0-via-else-code-gt0}
use Rattle.dwarf_forms.proofs.declaration.Abbrevs.index_of.Goals as goal

pub returns-then-code-self : goal.returns-then-code-self
returns-then-code-self c =
    sym (numbered_at c.self.inside.items.items c.self.inside.numbered c.args.code c.self.invariant.front c.if-code-gt0.true c.if-code-self.true)
    ∙ ap (λ xs. position (λ declared. declared.code == c.args.code) xs) c.self.view_is

pub returns-then-self-len : goal.returns-then-self-len
returns-then-self-len c =
    let other : (c.args.code ≡ 0) ⊎ (c.self.inside.numbered < c.args.code) = elim c.else-code-gt0.branch [
      | else-code-gt0-via-then-code-gt0+else-code-self w ↦ inr (omega (arith, w.if-code-self.false))
      | else-code-gt0-via-else-code-gt0 w ↦ inl (omega (arith, w.if-code-gt0.false))
    ] in
    sym (not_numbered c.self.inside.items.items c.self.inside.numbered c.args.code c.self.invariant.front (c.if-self-len.true ∙ c.len.ensures ∙ c.self.inside.items.ok.0) other)
    ∙ ap (λ xs. position (λ declared. declared.code == c.args.code) xs) c.self.view_is
