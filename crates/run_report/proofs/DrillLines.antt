-- The instructions of a run's harts, and the line on a guest's number.
use Rattle.std.proofs.Common.{◌≡◌, ℕ, ◌+◌, ◌<◌, List, ◌++◌, length, take, sum_by, codes, decimal, sym, ap, ◌∙◌, append_assoc}
use Rattle.std.proofs.lemmas.List.Sums.{sum_by_more}
use Rattle.rv_run.specs.State.{HartState, hart_in, no_hart}
use Rattle.run_report.specs.Drill.{number_line}

-- ---- the instructions of so many harts, and of one more

pub retired_more : (harts : List HartState) (hart so_far one : ℕ) → hart < length harts → so_far ≡ sum_by (λ h. h.retired) (take hart harts) → one ≡ (hart_in harts hart).retired
    → so_far + one ≡ sum_by (λ h. h.retired) (take (hart + 1) harts)
retired_more harts hart so_far one inside is one_is =
    (λ i. is i + one_is i) ∙ sym (sum_by_more (λ (h : HartState). h.retired) harts hart no_hart inside)

pub ruleset retired_steps = (retired_more)

-- ---- the lines

pub number_line_put : (number : ℕ) (before between after : List ℕ) → between ≡ before ++ codes "drill " ++ decimal number → after ≡ between ++ codes " harts 4 period 97\n" → after ≡ before ++ number_line number
unfolding number_line
number_line_put number before between after first last =
    last ∙ ap (λ (l : List ℕ). l ++ codes " harts 4 period 97\n") (first ∙ append_assoc before (codes "drill ") (decimal number)) ∙ append_assoc before (codes "drill " ++ decimal number) (codes " harts 4 period 97\n")
