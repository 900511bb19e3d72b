-- The values of sums, from the last column to the first.
use Rattle.std.proofs.Common.{◌≡◌, ℕ, suc, ◌+◌, ◌-◌, ◌<◌, ◌==◌, not, List, ◌++◌, length, get_or, sym, ap, ◌∙◌, arith, append_assoc}
use Rattle.std.specs.Prelude.{reverse}
use Rattle.std.specs.List.{flat_map, range_with_len}
use Rattle.std.proofs.lemmas.List.{get_or_default}
use Rattle.std.proofs.lemmas.List.Elements.{filter-append}
use Rattle.tree_types.specs.declared.node_values.NodeValue.{NodeValue}
use Rattle.tree_types.specs.NodeValues.{nonzero}
use Rattle.metric_sums.specs.declared.column_sums.Sum.{Sum}
use Rattle.metric_sums.specs.private.Sums.{no_paths}
use Rattle.metric_sums.specs.private.Ancestors.{period_in, values_of_sums, sum_values}

pub one_column_more : (periods : List ℕ) (node : ℕ) (sums : List Sum) (done column p : ℕ) (s : Sum) (out new old : List NodeValue) → done < length sums → length periods ≡ length sums → column ≡ length sums - 1 - done
    → p ≡ get_or periods column p → s ≡ get_or sums column s
    → reverse out ≡ values_of_sums (period_in periods) node sums (length sums - done) done ++ old → reverse new ≡ nonzero (sum_values p node column s) ++ reverse out
    → reverse new ≡ values_of_sums (period_in periods) node sums (length sums - (done + 1)) (done + 1) ++ old
one_column_more periods node sums done column p s out new old lt long at period is so_far put =
    let f : ℕ → List NodeValue = λ h. sum_values (period_in periods h) node h (get_or sums h no_paths) in
    let next : length sums - done ≡ column + 1 = omega arith in
    let here : length sums - (done + 1) ≡ column = omega arith in
    let more : done + 1 ≡ suc done = omega arith in
    let inside : column < length sums = omega arith in
    let priced : p ≡ period_in periods column = period ∙ get_or_default periods column p 0 (omega (arith, long, inside)) in
    let own : sum_values p node column s ≡ f column = λ i. sum_values (priced i) node column ((is ∙ get_or_default sums column s no_paths inside) i) in
    put
    ∙ (λ i. nonzero (own i) ++ so_far i)
    ∙ ap (λ (n : ℕ). nonzero (f column) ++ (values_of_sums (period_in periods) node sums n done ++ old)) next
    ∙ sym (append_assoc (nonzero (f column)) (values_of_sums (period_in periods) node sums (column + 1) done) old)
    ∙ ap (λ (vs : List NodeValue). vs ++ old) (sym (filter-append (λ (v : NodeValue). not (v.value == 0)) (f column) (flat_map f (range_with_len (column + 1) done))))
    ∙ ap (λ (n : ℕ). values_of_sums (period_in periods) node sums column n ++ old) (sym more)
    ∙ ap (λ (n : ℕ). values_of_sums (period_in periods) node sums n (done + 1) ++ old) (sym here)
