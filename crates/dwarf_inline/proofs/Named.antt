-- The name of the first item with an identity.
use Rattle.std.proofs.Common.{◌≡◌, ◌==◌, ℕ, suc, ◌+◌, Bool, true, false, List, [], ◌∷◌, length, Option, Some, None, refl, sym, ap, ◌∙◌, arith}
use Rattle.std.specs.Prelude.{find, zip, slice_get, option_map, unwrap_or}
use Rattle.std.specs.List.{position_or_len}
use Rattle.std.specs.Option.{option_map_or}
use Rattle.dwarf_inline.specs.Links.{unnamed}
use Rattle.dwarf_inline.specs.Structure.{ProgramStructure, proc_name}

step : {X Y : Type 0} (p : X → Bool) (x : X) (xs : List X) (y : Y) (ys : List Y) (b : Bool) → p x ≡ b
    → option_map (λ i. i.1) (find (λ i. p i.0) (zip xs ys)) ≡ slice_get ys (position_or_len p xs)
    → option_map (λ i. i.1) (find (λ i. p i.0) (zip (x ∷ xs) (y ∷ ys))) ≡ slice_get (y ∷ ys) (position_or_len p (x ∷ xs))
step p x xs y ys true is rest = rw is refl
step p x xs y ys false is rest =
    let next : 1 + position_or_len p xs ≡ suc (position_or_len p xs) = omega arith in
    rw (is, next) rest

pub find_zip : {X Y : Type 0} (p : X → Bool) (xs : List X) (ys : List Y) → length ys ≡ length xs
    → option_map (λ i. i.1) (find (λ i. p i.0) (zip xs ys)) ≡ slice_get ys (position_or_len p xs)
find_zip p [] [] same = refl
find_zip p [] (y ∷ ys) same = absurd (omega arith)
find_zip p (x ∷ xs) [] same = absurd (omega arith)
find_zip p (x ∷ xs) (y ∷ ys) same = step p x xs y ys (p x) refl (find_zip p xs ys (omega arith))

or_else : {X Y : Type 0} (f : X → Y) (o : Option X) (d : Y) → option_map_or f o d ≡ unwrap_or (option_map f o) d
or_else f None d = refl
or_else f (Some x) d = refl

abbrev at : ProgramStructure → ℕ → ℕ
at s offset = position_or_len (λ i. i.identity == offset) s.items

pub named_at : (s : ProgramStructure) (offset : ℕ) → length s.names ≡ length s.items → proc_name s offset ≡ unwrap_or (slice_get s.names (at s offset)) unnamed
named_at s offset named =
    or_else (λ i. i.1) (find (λ i. i.0.identity == offset) (zip s.items s.names)) unnamed
    ∙ ap (λ (o : Option (List ℕ)). unwrap_or o unnamed) (find_zip (λ i. i.identity == offset) s.items s.names named)

-- the name that was found, or the name of what has none
pub told_name : (o : Option (List ℕ)) (found : Option (ℕ × List ℕ)) (name : List ℕ) → o ≡ option_map (λ p. p.1) found → name ≡ unwrap_or o unnamed
    → name ≡ option_map_or (λ p. p.1) found unnamed
told_name o found name same is = is ∙ ap (λ (r : Option (List ℕ)). unwrap_or r unnamed) same ∙ sym (or_else (λ p. p.1) found unnamed)
