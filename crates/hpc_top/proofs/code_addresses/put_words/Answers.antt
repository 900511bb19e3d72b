use Rattle.std.proofs.Common.{◌≡◌, ◌+◌, ◌*◌, ◌++◌, ◌∷◌, ℕ, List, [], refl, ap, sym, ◌∙◌, append_assoc, map}
use Rattle.std.specs.List.{range_with_len}
use Rattle.std.proofs.lemmas.List.FromFn.{map-range_with_len_more}
use Rattle.hpc_top.proofs.code_addresses.put_words.Goals as goal

pub loop-index-preserved : goal.loop-index-preserved
loop-index-preserved c =
    let old : List ℕ = c.args.addresses.now.items in
    let address : ℕ → ℕ = λ word. 4 * word in
    let done : List ℕ = map address (range_with_len c.args.words.0 c.loop-index.index) in
    let last : List ℕ = address (c.args.words.0 + c.loop-index.index) ∷ [] in
    c.in_ok-push.ensures.items
    ∙ ap (λ (xs : List ℕ). xs ++ last) c.loop-index.invariant
    ∙ append_assoc old done last
    ∙ ap (λ (xs : List ℕ). old ++ xs) (sym (map-range_with_len_more address c.args.words.0 c.loop-index.index _ refl))
