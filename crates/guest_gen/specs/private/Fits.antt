-- Sizes whose sums are numbers of 32 bits.
use Rattle.std.specs.Prelude.{ℕ, ◌+◌, ◌<◌, ◌≤◌, List, length}
use Rattle.guest_gen.specs.declared.code.DrawnFunction.{DrawnFunction}
use Rattle.guest_gen.specs.declared.file.Sizes.{Sizes}

-- each part has at most 65,536 bytes
pub record AreFew (sizes : Sizes) : Type 0 where
  pub code : sizes.code ≤ 65536
  pub frames : sizes.frames ≤ 65536
  pub symbols : sizes.symbols ≤ 65536
  pub names : sizes.names ≤ 65536
  pub section_names : sizes.section_names ≤ 65536

-- it calls functions after it, and counts to a number that an ADDI holds
pub record IsFurther (number : ℕ) (function : DrawnFunction) : Type 0 where
  pub turns : function.turns ≤ 31
  pub first : number < function.first
  pub near_first : function.first ≤ number + 5
  pub second : number < function.second
  pub near_second : function.second ≤ number + 5

-- the sizes of the code and of the sections
abbrev pub sized : List ℕ → List ℕ → List ℕ → List ℕ → Sizes
sized code frames symbols names = record {
  code = length code;
  frames = length frames;
  symbols = length symbols;
  names = length names;
  section_names = 40;
}
