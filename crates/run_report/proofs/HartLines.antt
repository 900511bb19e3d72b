-- The lines on harts, one more at a time.
use Rattle.std.proofs.Common.{◌≡◌, ℕ, zero, suc, ◌+◌, ◌<◌, List, [], ◌∷◌, ◌++◌, refl, sym, ap, ◌∙◌, arith, append-nil, append_assoc, zero-add}
use Rattle.std.specs.List.{flat_map}
use Rattle.std.proofs.lemmas.List.Concat.{flat_map-append}
use Rattle.std.proofs.lemmas.List.FromFn.{map-range_with_len_more}
use Rattle.std.proofs.lemmas.List.{map-id}
use Rattle.tree_types.specs.Values.{columns_below}
use Rattle.rv_run.specs.State.{MachineState}
use Rattle.run_report.specs.Report.{hart_line, hart_lines}

line_more : (hart : ℕ) (final : MachineState) (samples : ℕ → ℕ) → hart_lines (hart + 1) final samples ≡ hart_lines hart final samples ++ hart_line final (samples hart) hart
line_more hart final samples =
    let f : ℕ → List ℕ = λ hart. hart_line final (samples hart) hart in
    let one : columns_below (hart + 1) ≡ columns_below hart ++ hart ∷ [] =
    sym (map-id (columns_below (hart + 1))) ∙ map-range_with_len_more (λ (k : ℕ). k) 0 hart hart (zero-add hart) ∙ ap (λ (l : List ℕ). l ++ hart ∷ []) (map-id (columns_below hart)) in
    ap (flat_map f) one ∙ flat_map-append f (columns_below hart) (hart ∷ []) ∙ ap (λ (l : List ℕ). hart_lines hart final samples ++ l) (append-nil (f hart))

pub no_line : (samples : ℕ → ℕ) (final : MachineState) (out : List ℕ) → out ≡ out ++ hart_lines 0 final samples
no_line samples final out = sym (append-nil out)

pub one_line_more : (hart : ℕ) (samples : ℕ → ℕ) (final : MachineState) (start before after : List ℕ)
    → before ≡ start ++ hart_lines hart final samples
    → after ≡ before ++ hart_line final (samples hart) hart
    → after ≡ start ++ hart_lines (hart + 1) final samples
one_line_more hart samples final start before after eb ea =
    ea ∙ ap (λ (l : List ℕ). l ++ hart_line final (samples hart) hart) eb
    ∙ append_assoc start (hart_lines hart final samples) (hart_line final (samples hart) hart) ∙ ap (λ (l : List ℕ). start ++ l) (sym (line_more hart final samples))

pub ruleset line_steps = (no_line, one_line_more)

-- the same numbers of samples make the same lines
pub lines_same : (harts : ℕ) (final : MachineState) (samples others : ℕ → ℕ) → ((hart : ℕ) → hart < harts → samples hart ≡ others hart) → hart_lines harts final samples ≡ hart_lines harts final others
lines_same zero final samples others same = refl
lines_same (suc hart) final samples others same =
    let add : suc hart ≡ hart + 1 = omega arith in
    ap (λ (n : ℕ). hart_lines n final samples) add ∙ line_more hart final samples
    ∙ (let rest = lines_same hart final samples others (λ h own. same h (omega arith)) in let last = same hart (omega arith) in λ i. rest i ++ hart_line final (last i) hart)
    ∙ sym (line_more hart final others) ∙ ap (λ (n : ℕ). hart_lines n final others) (sym add)
