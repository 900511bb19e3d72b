-- Wanted files, as the code holds them.
use Rattle.std.proofs.Common.{◌≡◌, ◌&&◌, Bool, List, [], ◌∷◌, map, refl, ap, subst, Option, Some, IfSome}
use Rattle.std.specs.List.{list_all}
use Rattle.command_line.specs.declared.kind.Want.{Want}
use Rattle.command_line.specs.declared.request.Command.{Command}
use Rattle.command_line.specs.Kind.{view_want}
use Rattle.command_line.specs.Words.{is_file_name}

-- all names are of files, seen either way
pub named_all : (ws : List Want) → list_all (λ w. is_file_name w.name.now) ws ≡ list_all (λ w. is_file_name w.name) (map view_want ws)
named_all [] = refl
named_all (w ∷ ws) = ap (λ (b : Bool). is_file_name w.name.now && b) (named_all ws)

-- what is so of a command, where there is one
pub of_some : (P : Command → Type 0) (o : Option Command) (command : Command) → o ≡ Some command → IfSome o P → P command
of_some P o command is holds = subst (λ (q : Option Command). IfSome q P) is holds
