-- Blanks, two at a time.
use Rattle.std.proofs.Common.{◌≡◌, ℕ, ◌+◌, ◌*◌, List, [], ◌∷◌, ◌++◌, ap, ◌∙◌, arith, append_assoc}
use Rattle.std.proofs.lemmas.List.{replicate-append-replicate}
use Rattle.tree_types.specs.TopDown.{spaces}

pub indent_more : (start out after : List ℕ) (k : ℕ) → out ≡ start ++ spaces (2 * k) → after ≡ out ++ 32 ∷ 32 ∷ [] → after ≡ start ++ spaces (2 * (k + 1))
indent_more start out after k so_far two =
    two ∙ ap (λ (l : List ℕ). l ++ spaces 2) so_far ∙ append_assoc start (spaces (2 * k)) (spaces 2)
    ∙ ap (λ (l : List ℕ). start ++ l) (replicate-append-replicate (2 * k) 2 32 ∙ ap spaces (let e : 2 * k + 2 ≡ 2 * (k + 1) = omega arith in e))
