-- The key of scopes one after another is that of all their words.
use Rattle.std.proofs.Common.{◌≡◌, ℕ, List, [], ◌∷◌, ◌++◌, refl, sym, ◌∙◌}
use Rattle.std.specs.Prelude.{fold}
use Rattle.std.specs.List.{flat_map}
use Rattle.std.proofs.lemmas.List.Sums.{fold-append}
use Rattle.scope_types.specs.declared.scope.ProcId.{ProcId}
use Rattle.scope_types.specs.declared.scope.LineId.{LineId}
use Rattle.scope_types.specs.declared.scope.Scope.{Scope}
use Rattle.scope_types.specs.Words.{scope_words, proc_words, line_words}
use Rattle.scope_types.specs.Key.{fnv_step}
use Rattle.scope_types.specs.private.Steps.{key_after}

pub inline_words : (key : ℕ) (callee : ProcId) (call : LineId) → fold fnv_step key (proc_words callee ++ line_words call) ≡ fold fnv_step (fold fnv_step key (proc_words callee)) (line_words call)
inline_words key callee call = fold-append fnv_step key (proc_words callee) (line_words call)

pub key_words : (key : ℕ) (scopes : List Scope) → fold key_after key scopes ≡ fold fnv_step key (flat_map scope_words scopes)
key_words key [] = refl
key_words key (s ∷ scopes) = key_words (fold fnv_step key (scope_words s)) scopes ∙ sym (fold-append fnv_step key (scope_words s) (flat_map scope_words scopes))
