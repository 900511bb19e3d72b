use Rattle.std.proofs.Common.{rules, List, ap, ◌∙◌, map}
use Rattle.std.proofs.lemmas.Fn.{always_returns_same}
use Rattle.std.proofs.lemmas.List.Sorted.{IsNonDecreasingBy-from_sort_by_key}
use Rattle.elf_image.specs.declared.part.Function.{Function}
use Rattle.elf_image.specs.Image.{symbol_view}
use Rattle.scope_find.proofs.SymbolsFound.{by_start, copied}
use Rattle.scope_find.proofs.names.symbols_by_start.Goals as goal

pub returns : goal.returns
returns c =
    by_start c.args.image.now.functions c.extend_from_slice.new.self.items c.sort_by_key.new.self.items
    (ap (λ (fs : List Function). map symbol_view fs) (copied c.in_ok-starts.starts.items c.extend_from_slice.new.self.items c.functions-functions.result.now c.in_ok-starts.ensures.items c.in_ok-extend_from_slice.ensures.items) ∙ c.functions-functions.ensures)
    (IsNonDecreasingBy-from_sort_by_key (λ (f : Function). f.start) _ c.in_ok-sort_by_key.ensures.sorted (λ a r q k. search rules))
    (c.sort_by_key.ensures.stable (λ f. f.start) (always_returns_same _ _ _ (λ a r f k. search rules)))
