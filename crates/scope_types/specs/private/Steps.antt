-- The key of a path, a scope at a time.
use Rattle.std.specs.Prelude.{ℕ, fold}
use Rattle.scope_types.specs.declared.scope.Scope.{Scope}
use Rattle.scope_types.specs.Key.{fnv_step}
use Rattle.scope_types.specs.Words.{scope_words}

-- the key after one scope more
abbrev pub key_after : ℕ → Scope → ℕ
key_after key scope = fold fnv_step key (scope_words scope)
