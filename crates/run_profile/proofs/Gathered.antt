-- The addresses that are gathered of a column, one path more at a time.
use Rattle.std.proofs.Common.{◌≡◌, ℕ, ◌+◌, ◌<◌, true, List, [], length, take, get_or, Some, sym, ap, ◌∙◌}
use Rattle.std.specs.Prelude.{slice_get}
use Rattle.std.proofs.lemmas.List.Sums.{fold_more}
use Rattle.std.proofs.lemmas.Option.{get_or_from_slice_get}
use Rattle.scope_types.specs.declared.frame.Counted.{Counted}
use Rattle.scope_types.specs.declared.frame.End.TheVariants.{Whole}
use Rattle.scope_types.specs.Raw.{Raw}
use Rattle.scope_expand.specs.Gathered.{Gathered, gathered_with}
use Rattle.run_profile.specs.private.SampledAddresses.{gathered_counted, gathered_column}

abbrev no_path : Counted
no_path = record { path = record { end = Whole; frames = [] }; count = 0 }

-- the next path is added
pub one_added : (start now : Gathered) (column : List Counted) (i : ℕ) (c : Counted) → i < length column → now ≡ gathered_column start (take i column) → slice_get column i ≡ Some c → gathered_with now c.path ≡ gathered_column start (take (i + 1) column)
one_added start now column i c within was there =
    ap (λ (g : Gathered). gathered_counted g c) was
    ∙ ap (gathered_counted (gathered_column start (take i column))) (sym (get_or_from_slice_get column i c c there))
    ∙ sym (fold_more gathered_counted start column i c within)

-- or there is no room, so that it is passed over
pub one_passed : (start now : Gathered) (column : List Counted) (i : ℕ) → i < length column → now ≡ gathered_column start (take i column) → now.is_over ≡ true → ((g : Gathered) (raw : Raw) → g.is_over ≡ true → gathered_with g raw ≡ g) → now ≡ gathered_column start (take (i + 1) column)
one_passed start now column i within was over stays =
    sym (stays now (get_or column i no_path).path over)
    ∙ ap (λ (g : Gathered). gathered_counted g (get_or column i no_path)) was
    ∙ sym (fold_more gathered_counted start column i no_path within)
