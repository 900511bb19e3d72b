-- An unwind rule that is made where it was pushed.
use Rattle.std.proofs.Common.{◌≡◌, ℕ, List, [], ◌∷◌, ◌++◌, length, set, Option, Some, refl, ◌∙◌}
use Rattle.std.specs.Prelude.{slice_get}
use Rattle.std.proofs.Math.Seq.{set-append_seam}
use Rattle.cfi_table.specs.declared.rules.Rules.{Rules}
use Rattle.cfi_unwind.specs.declared.unwind_rule.UnwindRule.{UnwindRule}
use Rattle.cfi_unwind.specs.private.UnwindRules.{FollowsRules}
use Rattle.cfi_unwind.specs.private.Index.{IsAt}

got_last : {X : Type 0} (xs : List X) (x : X) → slice_get (xs ++ x ∷ []) (length xs) ≡ Some x
got_last [] x = refl
got_last (a ∷ xs) x = got_last xs x

made_in : (before pushed after : List UnwindRule) (first made : UnwindRule) (id : ℕ) → pushed ≡ before ++ first ∷ [] → id ≡ length before → after ≡ set pushed id made → after ≡ before ++ made ∷ []
made_in before pushed after first made id added number is = is ∙ rw (added, number) (set-append_seam before first [] made)

pub follows_made : (before pushed after : List UnwindRule) (first made : UnwindRule) (id : ℕ) (found : Option Rules) → pushed ≡ before ++ first ∷ [] → id ≡ length before → after ≡ set pushed id made → FollowsRules made found → IsAt after id found
follows_made before pushed after first made id found added number is follows =
    rw (made_in before pushed after first made id added number is, number) (record { unwind_rule = made; has = got_last before made; follows = follows })
