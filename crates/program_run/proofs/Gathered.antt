-- The addresses that are gathered of a hart's paths, one path more at a time.
use Rattle.std.proofs.Common.{◌≡◌, ℕ, ◌+◌, ◌<◌, true, List, [], length, take, get_or, Some, sym, ap, ◌∙◌}
use Rattle.std.specs.Prelude.{slice_get}
use Rattle.std.proofs.lemmas.List.Sums.{fold_more}
use Rattle.std.proofs.lemmas.Option.{get_or_from_slice_get}
use Rattle.scope_types.specs.declared.frame.End.TheVariants.{Whole}
use Rattle.scope_types.specs.Raw.{Raw}
use Rattle.scope_expand.specs.Gathered.{Gathered, gathered_with}
use Rattle.program_run.specs.private.TracedAddresses.{gathered_paths}

abbrev no_path : Raw
no_path = record { end = Whole; frames = [] }

-- the next path is added
pub one_added : (start now : Gathered) (paths : List Raw) (i : ℕ) (raw : Raw) → i < length paths → now ≡ gathered_paths start (take i paths) → slice_get paths i ≡ Some raw → gathered_with now raw ≡ gathered_paths start (take (i + 1) paths)
one_added start now paths i raw within was there =
    ap (λ (g : Gathered). gathered_with g raw) was
    ∙ ap (gathered_with (gathered_paths start (take i paths))) (sym (get_or_from_slice_get paths i raw raw there))
    ∙ sym (fold_more gathered_with start paths i raw within)

-- or there is no room, so that it is passed over
pub one_passed : (start now : Gathered) (paths : List Raw) (i : ℕ) → i < length paths → now ≡ gathered_paths start (take i paths) → now.is_over ≡ true → ((g : Gathered) (raw : Raw) → g.is_over ≡ true → gathered_with g raw ≡ g) → now ≡ gathered_paths start (take (i + 1) paths)
one_passed start now paths i within was over stays =
    sym (stays now (get_or paths i no_path) over)
    ∙ ap (λ (g : Gathered). gathered_with g (get_or paths i no_path)) was
    ∙ sym (fold_more gathered_with start paths i no_path within)
