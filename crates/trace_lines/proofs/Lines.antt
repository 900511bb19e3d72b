-- Lines of numbered elements that are put one after the other.
use Rattle.std.proofs.Common.{◌≡◌, ℕ, ◌+◌, ◌<◌, ◌≤◌, List, ◌++◌, length, get_or, take, sym, ap, ◌∙◌, arith}
use Rattle.std.specs.List.{enumerate_from, flat_map}
use Rattle.std.proofs.lemmas.List.{get_or_default, take_all}
use Rattle.std.proofs.lemmas.List.FromFn.{get_or-enumerate_from, length-enumerate_from}
use Rattle.prof_bytes.proofs.Appending.{append_more}

pub line_more : {X : Type 0} (f : ℕ × X → List ℕ) (start now after : List ℕ) (xs : List X) (i : ℕ) (x y : X) → i < length xs → x ≡ y → y ≡ get_or xs i y → now ≡ start ++ flat_map f (take i (enumerate_from 0 xs)) → after ≡ now ++ f (i, x)
    → after ≡ start ++ flat_map f (take (i + 1) (enumerate_from 0 xs))
line_more {X} f start now after xs i x y less same is so_far one =
    let long = length-enumerate_from 0 xs in
    let zero_more : 0 + i ≡ i = omega arith in
    let own : x ≡ get_or xs i x = same ∙ is ∙ get_or_default xs i y x less in
    let here : ◌≡◌ {A = ℕ × X} (i, x) (0 + i, get_or xs i x) = (λ j. (sym zero_more j, own j)) in
    append_more f start now after (enumerate_from 0 xs) i (i, x) (omega (arith, long, less)) (here ∙ sym (get_or-enumerate_from 0 xs i (i, x) less)) so_far one

pub lines_all : {X : Type 0} (f : ℕ × X → List ℕ) (start now : List ℕ) (xs : List X) (i : ℕ) → length xs ≤ i → now ≡ start ++ flat_map f (take i (enumerate_from 0 xs)) → now ≡ start ++ flat_map f (enumerate_from 0 xs)
lines_all {X} f start now xs i all so_far =
    let long = length-enumerate_from 0 xs in
    so_far ∙ ap (λ (l : List (ℕ × X)). start ++ flat_map f l) (take_all i (enumerate_from 0 xs) (omega (arith, long, all)))
