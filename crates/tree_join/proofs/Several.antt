-- The tree of several tries, by their parts.
use Rattle.std.proofs.Common.{◌≡◌, ℕ, ◌+◌, List, [], ◌∷◌, map, sum_by, All, Bor, refl, sym, ap, subst, ◌∙◌}
use Rattle.std.proofs.lemmas.List.Elements.{All-map}
use Rattle.std.proofs.lemmas.List.Sums.{sum_by-cons}
use Rattle.scope_types.specs.declared.path.Entry.{Entry}

abbrev pub entries_in : Bor (List Entry) → List Entry
entries_in t = t.now

abbrev pub parts_of : List (Bor (List Entry)) → List (List Entry)
parts_of ts = map entries_in ts

pub sum_parts : {X : Type 0} (f : List Entry → ℕ) (g : X → List Entry) (xs : List X) → sum_by f (map g xs) ≡ sum_by (λ x. f (g x)) xs
sum_parts f g [] = refl
sum_parts f g (x ∷ xs) = sum_by-cons f (g x) (map g xs) ∙ ap (λ (n : ℕ). f (g x) + n) (sum_parts f g xs) ∙ sym (sum_by-cons (λ x. f (g x)) x xs)

-- ---- what is walked over, in the words of the tries

module _ (ts : List (Bor (List Entry))) (parts : List (List Entry)) (are : parts ≡ parts_of ts) where
  pub parts_all : (P : List Entry → Type 0) → All (λ t. P t.now) ts → All P parts
  parts_all P all = subst (All P) (sym are) (All-map P entries_in ts all)
