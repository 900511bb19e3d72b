-- The measurements of a merge are as many as its words name.
use Rattle.std.proofs.Common.{◌≡◌, ℕ, suc, ◌-◌, ◌≤◌, List, [], ◌∷◌, length, take, drop, replicate, refl, ap, arith}
use Rattle.std.proofs.lemmas.List.{length-replicate, length-take-le}
use Rattle.scope_types.specs.Limits.{most_runs}
use Rattle.command_line.specs.declared.kind.FileKind.{FileKind}
use Rattle.command_line.specs.declared.kind.FileKind.TheVariants as kinds
use Rattle.command_line.specs.Kind.{AreWithin}

within_long : (texts : List (List ℕ)) (files : List FileKind) → AreWithin texts files → length texts ≡ length files
within_long [] [] within = refl
within_long (t ∷ texts) (f ∷ files) within = ap (λ (n : ℕ). suc n) (within_long texts files within.1)
within_long [] (f ∷ files) within = absurd within
within_long (t ∷ texts) [] within = absurd within

pub rest_few : (texts : List (List ℕ)) (runs : ℕ) → AreWithin texts (kinds.Program ∷ replicate runs kinds.Measurement) → runs ≤ most_runs → length (take (length texts - 1) (drop 1 texts)) ≤ most_runs
rest_few [] runs within few = absurd within
rest_few (t ∷ texts) runs within few =
    let same = within_long texts (replicate runs kinds.Measurement) within.1 in
    let long = length-replicate runs kinds.Measurement in
    let all = length-take-le (suc (length texts) - 1) texts (omega arith) in
    omega (arith, few, same, long, all)
