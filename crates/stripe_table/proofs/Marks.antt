-- Marks of the names.
use Rattle.std.proofs.Common.{◌≡◌, ℕ, zero, suc, ◌==◌, Bool, true, List, [], ◌∷◌, ◌++◌, get_or, set, sym, refl, ap, ◌∙◌, arith, true≢false, ne_eqb, get_or-set_other}
use mathlib.Core.Logic.{dite}
use native.Mathlib.Decide.{ℕ_discrete}
use Rattle.stripe_table.specs.Views.{weight}
use Rattle.stripe_table.specs.private.Fields.{MarksNames}
use Rattle.stripe_table.proofs.Sums.{times_snoc}

set_default : (l : List Bool) (i : ℕ) → get_or (set l i true) i true ≡ true
set_default [] i = refl
set_default (x ∷ l) zero = refl
set_default (x ∷ l) (suc i) = set_default l i

pub marked : (marks : List Bool) (names : List ℕ) (c : ℕ) → MarksNames marks names → MarksNames (set marks c true) (names ++ c ∷ [])
marked marks names c old d h = dite (ℕ_discrete d c)
    (λ e. absurd (true≢false (sym (set_default marks c) ∙ (ap (λ (z : ℕ). get_or (set marks c true) z true) (sym e) ∙ h))))
    (λ ne. let o = old d (sym (get_or-set_other marks c d true true ne) ∙ h) in let t = times_snoc d names c in let w : weight (d == c) ≡ 0 = ap weight (ne_eqb d c ne) in omega arith)
