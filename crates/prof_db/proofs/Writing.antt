-- A database in parts.
use Rattle.std.proofs.Common.{◌≡◌, ℕ, ◌%◌, ◌^◌, List, ◌++◌, sym, ap, ◌∙◌, append_assoc, rules}
use Rattle.std.proofs.lemmas.List.Concat.{flat_map-append}
use Rattle.prof_bytes.proofs.Appending.{two_parts}
use Rattle.prof_bytes.specs.Number.{word, words}

-- words in two parts
pub words_parts : (start a b : List ℕ) (front back : List ℕ) → a ≡ start ++ words front → b ≡ a ++ words back → b ≡ start ++ words (front ++ back)
words_parts start a b front back ea eb =
    eb ∙ ap (λ (l : List ℕ). l ++ words back) ea ∙ append_assoc start (words front) (words back) ∙ ap (λ (l : List ℕ). start ++ l) (sym (flat_map-append word front back))

after_start : (start p q r s t u : List ℕ) → start ++ p ++ q ++ r ++ s ++ t ++ u ≡ start ++ (p ++ q ++ r ++ s ++ t ++ u)
after_start start p q r s t u = simp append_assoc

-- six parts, one after the other
pub six_parts : (start p q r s t u a b c d e f : List ℕ) → a ≡ start ++ p → b ≡ a ++ q → c ≡ b ++ r → d ≡ c ++ s → e ≡ d ++ t → f ≡ e ++ u → f ≡ start ++ (p ++ q ++ r ++ s ++ t ++ u)
six_parts start p q r s t u a b c d e f ea eb ec ed ee ef =
    ef ∙ ap (λ (l : List ℕ). l ++ u) (ee ∙ ap (λ (l : List ℕ). l ++ t) (ed ∙ ap (λ (l : List ℕ). l ++ s) (ec ∙ ap (λ (l : List ℕ). l ++ r) (eb ∙ ap (λ (l : List ℕ). l ++ q) ea))))
    ∙ after_start start p q r s t u

-- three parts, one after the other
pub three_parts : (start a b c : List ℕ) (front middle back : List ℕ) → a ≡ start ++ front → b ≡ a ++ middle → c ≡ b ++ back → c ≡ start ++ (front ++ middle ++ back)
three_parts start a b c front middle back ea eb ec = two_parts start b c (front ++ middle) back (two_parts start a b front middle ea eb) ec

-- a count's lowest four bytes are all of it that is written
pub low_word : (n : ℕ) → word (n % 2 ^ 32) ≡ word n
low_word n = search rules
