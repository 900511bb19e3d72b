-- Parts of a file that are appended one after the other.
use Rattle.std.proofs.Common.{◌≡◌, ℕ, List, [], ◌∷◌, ◌++◌, refl, ap, ◌∙◌}
use Rattle.std.specs.List.{flat_map}
use Rattle.std.proofs.lemmas.List.Concat.{flat_map-append}
use Rattle.prof_bytes.proofs.Appending.{two_parts}

pub four_parts : (start a b c d p q r s : List ℕ) → a ≡ start ++ p → b ≡ a ++ q → c ≡ b ++ r → d ≡ c ++ s → d ≡ start ++ (p ++ q ++ r ++ s)
four_parts start a b c d p q r s ea eb ec ed =
    two_parts start c d (p ++ q ++ r) s (two_parts start b c (p ++ q) r (two_parts start a b p q ea eb) ec) ed

pub five_parts : (start a b c d e p q r s t : List ℕ) → a ≡ start ++ p → b ≡ a ++ q → c ≡ b ++ r → d ≡ c ++ s → e ≡ d ++ t → e ≡ start ++ (p ++ q ++ r ++ s ++ t)
five_parts start a b c d e p q r s t ea eb ec ed ee = two_parts start d e (p ++ q ++ r ++ s) t (four_parts start a b c d p q r s ea eb ec ed) ee

-- what each makes of what each makes
pub flat_again : {X Y Z : Type 0} (g : Y → List Z) (f : X → List Y) (xs : List X) → flat_map g (flat_map f xs) ≡ flat_map (λ x. flat_map g (f x)) xs
flat_again g f [] = refl
flat_again {Z = Z} g f (x ∷ xs) = flat_map-append g (f x) (flat_map f xs) ∙ ap (λ (l : List Z). flat_map g (f x) ++ l) (flat_again g f xs)
