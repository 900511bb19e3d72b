use Rattle.std.proofs.Common.{◌≡◌, List, [], ℕ, ◌++◌, ◌∙◌, ap, rules}
use Rattle.guest_gen.specs.Code.{functions_bytes}
use Rattle.guest_gen.proofs.Lengths.{code_size}
use Rattle.guest_gen.proofs.Parts.{from_none}
use Rattle.guest_gen.proofs.code.code.Goals as goal

pub returns-clause-size : goal.returns-clause-size
returns-clause-size c =
    let none : c.new-out.result.items ≡ [] = search rules in
    code_size _ c.args.draws.now.state (c.in_ok-put_functions.ensures.code ∙ ap (λ (l : List ℕ). l ++ functions_bytes c.args.draws.now.state 48) (from_none _ _ _ none c.in_ok-put_words.ensures))
