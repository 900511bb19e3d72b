-- What a command makes of its files: what is stored, where the command stores a file, and what is put.
use Rattle.std.specs.Prelude.{ℕ, List, []}
pub use Rattle.command_line.specs.declared.product.Product.{Product}

-- nothing at all
abbrev pub no_product : Product
no_product = record { stored = []; text = [] }

-- a text that is put; nothing is stored
abbrev pub only_text : List ℕ → Product
only_text text = record { stored = []; text = text }
