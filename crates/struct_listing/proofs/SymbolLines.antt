-- The function symbols' lines, a symbol at a time.
use Rattle.std.proofs.Common.{◌≡◌, ℕ, ◌+◌, ◌<◌, ◌≤◌, ◌^◌, Bool, cond, List, [], ◌++◌, length, take, get_or, map, Option, Some, None, refl, sym, ap, ◌∙◌, subst, arith}
use Rattle.std.specs.Prelude.{filter, is_none, is_some}
use Rattle.std.specs.List.{flat_map}
use Rattle.std.proofs.lemmas.List.{get_or-map, get_or_default, length-map, take_all}
use Rattle.std.proofs.lemmas.List.Folds.{flat_map-map}
use Rattle.prof_bytes.proofs.Appending.{append_more}
use Rattle.elf_image.specs.declared.part.Function.{Function}
use Rattle.elf_image.specs.Image.{FunctionSymbol, IsLoaded, ProgramImage, symbol_view}
use Rattle.dwarf_inline.specs.Structure.{ProgramStructure}
use Rattle.scope_find.specs.Found.{subprogram_at}
use Rattle.struct_listing.specs.Listing.{is_listed_symbol, symbol_line}
use Rattle.struct_listing.specs.declared.symbols.CodeRange.{CodeRange}
use Rattle.struct_listing.specs.private.Holders.{subprogram_ranges, unheld_part}
use Rattle.struct_listing.specs.private.Parts.{symbol_part}
use Rattle.struct_listing.proofs.Holding.{held_is}
use Rattle.struct_listing.proofs.Lists.{flat_filter}

swapped : {X : Type 0} (o : Option X) (line : List ℕ) → cond (is_some o) [] line ≡ cond (is_none o) line []
swapped None line = refl
swapped (Some x) line = refl

-- what the ranges of subprograms say of a symbol
unheld_is : (s : ProgramStructure) (ranges : List CodeRange) (function : FunctionSymbol) → ranges ≡ subprogram_ranges s → unheld_part ranges function ≡ symbol_part s function
unheld_is s ranges function are =
    ap (λ (b : Bool). cond b [] (symbol_line function)) (held_is s function.start ranges are) ∙ swapped (subprogram_at s function.start) (symbol_line function)

pub function_fits : (image : ProgramImage) (functions : List Function) (i : ℕ) (d : Function) → IsLoaded image → map symbol_view functions ≡ image.functions
    → i < length functions → (get_or functions i d).start + (get_or functions i d).size < 2 ^ 32
function_fits image functions i d loaded are lt =
    let long : length image.functions ≡ length functions = ap length (sym are) ∙ length-map functions symbol_view in
    let low : (get_or image.functions i (symbol_view d)).start + (get_or image.functions i (symbol_view d)).size < 2 ^ 32 = loaded.low i (symbol_view d) (omega arith) in
    let same : get_or image.functions i (symbol_view d) ≡ symbol_view (get_or functions i d) =
    ap (λ (fs : List FunctionSymbol). get_or fs i (symbol_view d)) (sym are) ∙ get_or-map symbol_view functions i d (symbol_view d) lt in
    subst (λ (x : FunctionSymbol). x.start + x.size < 2 ^ 32) same low

pub symbol_more : (s : ProgramStructure) (ranges : List CodeRange) (functions : List Function) (i : ℕ) (d : Function) (start now after : List ℕ) → ranges ≡ subprogram_ranges s
    → i < length functions → now ≡ start ++ flat_map (λ g. symbol_part s (symbol_view g)) (take i functions)
    → after ≡ now ++ unheld_part ranges (symbol_view (get_or functions i d)) → after ≡ start ++ flat_map (λ g. symbol_part s (symbol_view g)) (take (i + 1) functions)
symbol_more s ranges functions i d start now after are lt so_far one =
    append_more (λ g. symbol_part s (symbol_view g)) start now after functions i (get_or functions i d) lt (get_or_default functions i d (get_or functions i d) lt) so_far
    (one ∙ ap (λ (l : List ℕ). now ++ l) (unheld_is s ranges (symbol_view (get_or functions i d)) are))

pub all_symbols : (s : ProgramStructure) (image : ProgramImage) (functions : List Function) (n : ℕ) → map symbol_view functions ≡ image.functions → length functions ≤ n
    → flat_map (λ g. symbol_part s (symbol_view g)) (take n functions) ≡ flat_map symbol_line (filter (is_listed_symbol s) image.functions)
all_symbols s image functions n are le =
    ap (flat_map (λ g. symbol_part s (symbol_view g))) (take_all n functions le)
    ∙ sym (flat_map-map (symbol_part s) symbol_view functions)
    ∙ ap (flat_map (symbol_part s)) are
    ∙ sym (flat_filter (is_listed_symbol s) symbol_line image.functions)
