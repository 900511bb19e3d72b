-- Blanks in blocks.
use Rattle.std.proofs.Common.{◌≡◌, ℕ, ◌+◌, ◌*◌, ◌/◌, ◌%◌, ◌≤◌, List, ◌++◌, take, ap, ◌∙◌, arith, append_assoc}
use Rattle.std.proofs.lemmas.List.{replicate-append-replicate, take-replicate}
use Rattle.tree_types.specs.TopDown.{spaces}

pub spaces_more : (start out after : List ℕ) (a b c : ℕ) → out ≡ start ++ spaces a → after ≡ out ++ spaces b → a + b ≡ c → after ≡ start ++ spaces c
spaces_more start out after a b c eo ea ec =
    ea ∙ ap (λ (l : List ℕ). l ++ spaces b) eo ∙ append_assoc start (spaces a) (spaces b) ∙ ap (λ (l : List ℕ). start ++ l) (replicate-append-replicate a b 32 ∙ ap spaces ec)

pub block_more : (start out after : List ℕ) (k : ℕ) → out ≡ start ++ spaces (2048 * k) → after ≡ out ++ spaces 2048 → after ≡ start ++ spaces (2048 * (k + 1))
block_more start out after k eo ea = spaces_more start out after (2048 * k) 2048 (2048 * (k + 1)) eo ea (omega arith)

pub few_spaces : (n : ℕ) → n ≤ 2048 → take n (spaces 2048) ≡ spaces n
few_spaces n le = take-replicate n 2048 32 le

pub all_spaces : (start out after : List ℕ) (n k : ℕ) → k ≡ n / 2048 → out ≡ start ++ spaces (2048 * k) → after ≡ out ++ spaces (n % 2048) → after ≡ start ++ spaces n
all_spaces start out after n k is eo ea = spaces_more start out after (2048 * k) (n % 2048) n eo ea (omega (arith, is))

pub ruleset blank_steps = (few_spaces)
