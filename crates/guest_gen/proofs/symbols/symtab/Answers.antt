use Rattle.std.proofs.Common.{◌≡◌, List, [], ℕ, ◌++◌, ◌∙◌, ap, rules}
use Rattle.guest_gen.specs.Code.{entry}
use Rattle.guest_gen.specs.File.{symbol_bytes}
use Rattle.guest_gen.specs.private.Names.{function_symbols}
use Rattle.guest_gen.proofs.Lengths.{symbols_size}
use Rattle.guest_gen.proofs.Names.{symtab_made}
use Rattle.guest_gen.proofs.Parts.{from_none}
use Rattle.guest_gen.proofs.symbols.symtab.Goals as goal

pub returns-clause-bytes : goal.returns-clause-bytes
returns-clause-bytes c =
    let none : c.new-out.result.items ≡ [] = search rules in
    symtab_made _ (c.in_ok-put_function_symbols.ensures ∙ ap (λ (l : List ℕ). l ++ function_symbols 48) (c.in_ok-put_symbol.ensures ∙ ap (λ (l : List ℕ). l ++ symbol_bytes 1 entry 16) (from_none _ _ _ none c.in_ok-extend_from_slice.ensures.items)))

pub returns-clause-size : goal.returns-clause-size
returns-clause-size c =
    let none : c.new-out.result.items ≡ [] = search rules in
    symbols_size _
    (symtab_made _ (c.in_ok-put_function_symbols.ensures ∙ ap (λ (l : List ℕ). l ++ function_symbols 48) (c.in_ok-put_symbol.ensures ∙ ap (λ (l : List ℕ). l ++ symbol_bytes 1 entry 16) (from_none _ _ _ none c.in_ok-extend_from_slice.ensures.items))))
