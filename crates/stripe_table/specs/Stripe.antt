-- What lies in a slot of the table.
use Rattle.std.specs.Prelude.{ℕ, List, []}
use Rattle.scope_types.specs.declared.path.Entry.{Entry}

-- the chunks that a stripe has a piece of; an index among them; and the entries that its trie stands for
pub record StripeValue : Type 0 where
  pub names : List ℕ
  pub index : ℕ
  pub trie : List Entry

-- a stripe without pieces
abbrev pub empty_stripe : StripeValue
empty_stripe = record { names = []; index = 0; trie = [] }
