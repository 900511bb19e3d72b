-- Parts of a file that are appended one after the other.
use Rattle.std.proofs.Common.{◌≡◌, ℕ, List, ◌++◌}
use Rattle.prof_bytes.proofs.Appending.{two_parts}

pub three_parts : (start a b c p q r : List ℕ) → a ≡ start ++ p → b ≡ a ++ q → c ≡ b ++ r → c ≡ start ++ (p ++ q ++ r)
three_parts start a b c p q r ea eb ec = two_parts start b c (p ++ q) r (two_parts start a b p q ea eb) ec

pub four_parts : (start a b c d p q r s : List ℕ) → a ≡ start ++ p → b ≡ a ++ q → c ≡ b ++ r → d ≡ c ++ s → d ≡ start ++ (p ++ q ++ r ++ s)
four_parts start a b c d p q r s ea eb ec ed = two_parts start c d (p ++ q ++ r) s (three_parts start a b c p q r ea eb ec) ed

pub five_parts : (start a b c d e p q r s t : List ℕ) → a ≡ start ++ p → b ≡ a ++ q → c ≡ b ++ r → d ≡ c ++ s → e ≡ d ++ t → e ≡ start ++ (p ++ q ++ r ++ s ++ t)
five_parts start a b c d e p q r s t ea eb ec ed ee = two_parts start d e (p ++ q ++ r ++ s) t (four_parts start a b c d p q r s ea eb ec ed) ee
