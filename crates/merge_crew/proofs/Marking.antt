-- Marks of the names so far, and of one name more.
use Rattle.std.proofs.Common.{◌≡◌, ℕ, ◌+◌, ◌<◌, ◌==◌, Bool, true, false, ltb, List, length, get_or, set, take, sym, ap, ◌∙◌, arith, lt-ltb, eq-eqb, ne_eqb, length-set, get_or-set_other}
use Rattle.std.proofs.lemmas.List.{take_more}
use Rattle.std.proofs.lemmas.Grind.{get_or-set_at}
use mathlib.Core.Logic.{dite}
use native.Mathlib.Decide.{ℕ_discrete}
use Rattle.stripe_table.specs.Views.{occurrences, weight}
use Rattle.stripe_table.proofs.Sums.{times_snoc}
use Rattle.merge_crew.specs.private.Settling.{MarksChunks}

module _ (n : ℕ) (names : List ℕ) (i d : ℕ) (marks : List Bool) (lt : i < length names) (old : MarksChunks n (take i names) marks) where
  abbrev name : ℕ
  name = get_or names i d

  grown : (c : ℕ) → occurrences c (take (i + 1) names) ≡ occurrences c (take i names) + weight (c == name)
  grown c = ap (occurrences c) (take_more names i d lt) ∙ times_snoc c (take i names) name

  exact_more : (c : ℕ) → c < n → get_or (set marks name true) c false ≡ ltb 0 (occurrences c (take (i + 1) names))
  exact_more c h = dite (ℕ_discrete c name)
      (λ e. let w : weight (c == name) ≡ 1 = ap weight (eq-eqb c name e) in let g = grown c in let long = old.count in
      get_or-set_at marks name c true false e (let f : c ≡ name = e in omega arith) ∙ sym (lt-ltb 0 (occurrences c (take (i + 1) names)) (omega arith)))
      (λ ne. let w : weight (c == name) ≡ 0 = ap weight (ne_eqb c name ne) in let g = grown c in
      let same : occurrences c (take i names) ≡ occurrences c (take (i + 1) names) = omega arith in
      get_or-set_other marks name c true false ne ∙ (old.exact c h ∙ ap (ltb 0) same))

  pub marked_more : MarksChunks n (take (i + 1) names) (set marks (get_or names i d) true)
  marked_more = record { count = length-set marks name true ∙ old.count; exact = exact_more }
