-- The whole text of a timeline.
use Rattle.std.proofs.Common.{◌≡◌, ℕ, List, [], ◌++◌, length, ap, ◌∙◌}
use Rattle.scope_types.specs.declared.scope.ProcId.{ProcId}
use Rattle.scope_types.specs.declared.scope.Scope.{Scope}
use Rattle.scope_types.specs.Raw.{Raw}
use Rattle.trace_lines.specs.declared.cell.Cell.{Cell}
use Rattle.trace_lines.specs.Timeline.{Scale, proc_at_depth, scale_of, span_of, timeline_head, timeline_lines, timeline_rows, timeline_text}
use Rattle.trace_lines.specs.Traces.{Traced}

abbrev scale : (Raw → List Scope) → ℕ → ℕ → ℕ → ℕ → Scale
scale call_path depth cells period span = record { proc_of = λ raw. proc_at_depth depth (call_path raw); period = period; span = span; cells = cells }

pub whole_text : (call_path : Raw → List Scope) (proc_name : ProcId → List ℕ) (t : Traced) (depth cells harts period span : ℕ) (start head all text : List ℕ) (rows : List (List Cell)) → harts ≡ length t.harts → period ≡ t.period → span ≡ span_of t.harts
    → rows ≡ timeline_rows (scale call_path depth cells period span) t.harts → start ≡ [] → head ≡ start ++ timeline_head harts period depth cells span → all ≡ head ++ timeline_lines proc_name rows → text ≡ all
    → text ≡ timeline_text call_path proc_name t depth cells
unfolding timeline_text
whole_text call_path proc_name t depth cells harts period span start head all text rows harts_are period_is span_is rows_are start_is head_is all_is text_is =
    let first : head ≡ timeline_head (length t.harts) t.period depth cells (span_of t.harts) =
    head_is ∙ ap (λ (l : List ℕ). l ++ timeline_head harts period depth cells span) start_is ∙ (λ i. timeline_head (harts_are i) (period_is i) depth cells (span_is i)) in
    let shown : rows ≡ timeline_rows (scale_of call_path t depth cells) t.harts = rows_are ∙ (λ i. timeline_rows (scale call_path depth cells (period_is i) (span_is i)) t.harts) in
    text_is ∙ all_is ∙ (λ i. first i ++ timeline_lines proc_name (shown i))
