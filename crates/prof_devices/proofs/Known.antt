-- What is left of known bytes after reads that gave none.
use Rattle.std.proofs.Common.{ℕ, List, Option, Some, None, sym, ◌∙◌, refl}
use Rattle.std.specs.Io.KnownBytes.{Keeps, Consumes}

pub kept_on : (a b c : Option (List ℕ)) → Keeps a b → Keeps b c → Keeps a c
kept_on None b c first second = tt
kept_on (Some xs) None c first second = absurd first
kept_on (Some xs) (Some ys) None first second = absurd second
kept_on (Some xs) (Some ys) (Some zs) first second = second ∙ first

pub kept_then : (a b c : Option (List ℕ)) (bs : List ℕ) → Keeps a b → Consumes b c bs → Consumes a c bs
kept_then None b c bs first second = tt
kept_then (Some xs) None c bs first second = absurd first
kept_then (Some xs) (Some ys) None bs first second = absurd second
kept_then (Some xs) (Some ys) (Some zs) bs first second = sym first ∙ second

pub kept : (a : Option (List ℕ)) → Keeps a a
kept None = tt
kept (Some xs) = refl

pub ruleset known_steps = (kept_on, kept_then, kept)
