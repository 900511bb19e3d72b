-- The least start, where the start of one function more is looked at.
use Rattle.std.proofs.Common.{◌≡◌, ℕ, ◌+◌, ◌<◌, ◌≤◌, List, [], ◌∷◌, ◌++◌, length, take, map, get_or, Option, Some, None, refl, sym, ap, ◌∙◌}
use Rattle.std.proofs.lemmas.List.{append_assoc, map_push, take_more}
use Rattle.elf_image.specs.declared.part.Function.{Function}
use Rattle.elf_image.specs.Image.{FunctionSymbol, symbol_view}
use Rattle.cfi_table.specs.Frames.{least_above, lesser}
use Rattle.cfi_table.proofs.Least.{least_push, least_skip}
use Rattle.cfi_unwind.specs.Region.{at_most}

abbrev pub starts_of : List Function → List ℕ
starts_of functions = map (λ f. f.start) (map symbol_view functions)

at_most_lesser : (most : ℕ) (number : Option ℕ) → Some (at_most most number) ≡ lesser most number
at_most_lesser most None = refl
at_most_lesser most (Some number) = refl

starts_push : (before : List ℕ) (functions : List Function) (k : ℕ) (d : Function) → k < length functions → before ++ starts_of (take (k + 1) functions) ≡ (before ++ starts_of (take k functions)) ++ (get_or functions k d).start ∷ []
starts_push before functions k d lt =
    ap (λ (fs : List Function). before ++ starts_of fs) (take_more functions k d lt)
    ∙ ap (λ (fs : List FunctionSymbol). before ++ map (λ f. f.start) fs) (map_push symbol_view (take k functions) (get_or functions k d))
    ∙ ap (λ (ns : List ℕ). before ++ ns) (map_push (λ (f : FunctionSymbol). f.start) (map symbol_view (take k functions)) (symbol_view (get_or functions k d)))
    ∙ sym (append_assoc before (starts_of (take k functions)) ((get_or functions k d).start ∷ []))

pub takes_start : (low : ℕ) (before : List ℕ) (functions : List Function) (k : ℕ) (d : Function) (least : Option ℕ) → k < length functions → low < (get_or functions k d).start
    → least ≡ least_above low (before ++ starts_of (take k functions))
    → Some (at_most (get_or functions k d).start least) ≡ least_above low (before ++ starts_of (take (k + 1) functions))
takes_start low before functions k d least lt above is =
    at_most_lesser (get_or functions k d).start least
    ∙ ap (lesser (get_or functions k d).start) is
    ∙ sym (least_push low (before ++ starts_of (take k functions)) (get_or functions k d).start above)
    ∙ sym (ap (least_above low) (starts_push before functions k d lt))

pub passes_start : (low : ℕ) (before : List ℕ) (functions : List Function) (k : ℕ) (d : Function) (least : Option ℕ) → k < length functions → (get_or functions k d).start ≤ low
    → least ≡ least_above low (before ++ starts_of (take k functions))
    → least ≡ least_above low (before ++ starts_of (take (k + 1) functions))
passes_start low before functions k d least lt below is =
    is
    ∙ sym (least_skip low (before ++ starts_of (take k functions)) (get_or functions k d).start below)
    ∙ sym (ap (least_above low) (starts_push before functions k d lt))
