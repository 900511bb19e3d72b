use Rattle.std.proofs.Common.{rules, ◌∙◌, ap, ◌∷◌, [], ◌++◌}
use Rattle.std.specs.Prelude.{nat_lt}
use Rattle.std.proofs.lemmas.Fn.{filter_same}
use Rattle.dwarf_inline.proofs.OpenLevels.{levels_are}
use Rattle.dwarf_inline.proofs.levels.open_level.Goals as goal

pub returns-clause-opened : goal.returns-clause-opened
returns-clause-opened c =
    let kept = filter_same _ (λ other. nat_lt c.args.index other) _ (λ x b f k. search rules) _ _ c.retain.ensures.filtered in
    c.in_ok-push.ensures.items ∙ ap (λ es. es ++ c.args.end ∷ []) kept

pub returns-clause-levels : goal.returns-clause-levels
returns-clause-levels c =
    levels_are (λ other. nat_lt c.args.index other) c.args.open_ends.now.items c.retain.new.self.items c.push.new.self.items c.args.end _
    (c.len.ensures ∙ c.push.new.self.ok.0) c.in_ok-push.ensures.items (filter_same _ (λ other. nat_lt c.args.index other) _ (λ x b f k. search rules) _ _ c.retain.ensures.filtered)
