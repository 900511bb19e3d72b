-- What is appended to bytes, one part after the other.
use Rattle.std.proofs.Common.{◌≡◌, ℕ, ◌+◌, ◌<◌, List, [], ◌∷◌, ◌++◌, length, get_or, take, sym, ap, ◌∙◌, append-nil, append_assoc}
use Rattle.std.specs.List.{flat_map}
use Rattle.std.proofs.lemmas.List.{take_more}
use Rattle.std.proofs.lemmas.List.Concat.{flat_map-append}

-- what a loop has appended so far, and one element more
pub append_more : {X : Type 0} (f : X → List ℕ) (start now after : List ℕ) (xs : List X) (i : ℕ) (x : X) → i < length xs → x ≡ get_or xs i x → now ≡ start ++ flat_map f (take i xs) → after ≡ now ++ f x → after ≡ start ++ flat_map f (take (i + 1) xs)
append_more {X} f start now after xs i x less is so_far one =
    one ∙ ap (λ (l : List ℕ). l ++ f x) so_far ∙ append_assoc start (flat_map f (take i xs)) (f x)
    ∙ ap (λ (l : List ℕ). start ++ l) (sym (ap (flat_map f) (take_more xs i x less) ∙ flat_map-append f (take i xs) (get_or xs i x ∷ []) ∙ ap (λ (l : List ℕ). flat_map f (take i xs) ++ l) (append-nil (f (get_or xs i x)) ∙ ap f (sym is))))

-- two parts, one after the other
pub two_parts : (start a b : List ℕ) (front back : List ℕ) → a ≡ start ++ front → b ≡ a ++ back → b ≡ start ++ (front ++ back)
two_parts start a b front back ea eb = eb ∙ ap (λ (l : List ℕ). l ++ back) ea ∙ append_assoc start front back
