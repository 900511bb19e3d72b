-- Steps that are kept and taken back.
use Rattle.std.proofs.Common.{◌≡◌, ℕ, ◌%◌, ◌<◌, List, [], ◌∷◌, ◌++◌, reverse, ap, ◌∙◌, arith}
use Rattle.std.specs.List.{slice_set}
use Rattle.std.proofs.lemmas.List.{reverse-append, set-set, set-get_or}
use Rattle.std.proofs.lemmas.Option.{unwrap_or-slice_get}
use Rattle.cfi_table.specs.declared.rules.Rule.{Rule}
use Rattle.cfi_table.specs.declared.rules.Rule.TheVariants as rules
use Rattle.cfi_table.specs.Rules.{rule_at}
use Rattle.cfi_table.specs.declared.register_rules.Undo.{Undo}
use Rattle.cfi_table.specs.declared.register_rules.Undo.TheVariants.{Change}
use Rattle.cfi_table.specs.private.Undoing.{remembered_of}

pub latest : (undo next : List Undo) (u : Undo) → next ≡ undo ++ u ∷ [] → reverse next ≡ u ∷ reverse undo
latest undo next u pushed = ap (λ (us : List Undo). reverse us) pushed ∙ reverse-append undo (u ∷ [])

low : (register : ℕ) → register < 32 → register % 32 ≡ register
low register lt = omega arith

-- a change after its old rule was kept
pub kept : (regs : List Rule) (register : ℕ) (was rule : Rule) (undo next : List Undo) → register < 32 → was ≡ rule_at regs register → next ≡ undo ++ Change register was ∷ []
    → remembered_of (slice_set regs register rule) (reverse next) ≡ remembered_of regs (reverse undo)
kept regs register was rule undo next lt is pushed =
    ap (λ (us : List Undo). remembered_of (slice_set regs register rule) us) (latest undo next (Change register was) pushed)
    ∙ ap (λ (n : ℕ). remembered_of (slice_set (slice_set regs register rule) n was) (reverse undo)) (low register lt)
    ∙ ap (λ (rs : List Rule). remembered_of rs (reverse undo))
    (set-set regs register rule was
    ∙ ap (slice_set regs register) (is ∙ unwrap_or-slice_get regs register rules.Kept)
    ∙ set-get_or regs register rules.Kept)
