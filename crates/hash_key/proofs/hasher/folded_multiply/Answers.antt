use mathlib.Core.Path.{refl}
use Rattle.core.specs.Hash.FoldHasher.{folded_multiply}
use Rattle.hash_key.proofs.hasher.folded_multiply.Goals as goal

pub returns : goal.returns
unfolding folded_multiply
returns c = refl
