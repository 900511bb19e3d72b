-- What a put of a line leaves.
use Rattle.std.proofs.Common.{ℕ, ◌++◌, List, length, ap, sym, ◌∙◌}
use Rattle.std.proofs.Math.Seq.{take-length}
use Rattle.prof_devices.specs.Outside.{SinkState, Taken}
use Rattle.prof_devices.specs.declared.shelf.Put.{Put}
use Rattle.prof_devices.specs.declared.shelf.Put.TheVariants.{Done, Fault, Memory}
use Rattle.command_line.specs.Message.{PutsLine}

pub line_put : (err err' : SinkState) (line : List ℕ) (answer : Put) → Taken err err' line answer → PutsLine err err' line
line_put err err' line Done taken = record {
  once = ap (λ (s : SinkState). s.log) taken.0;
  part = λ told. (length line, taken.1 told ∙ ap (λ front. err.taken ++ front) (sym (take-length line)));
  whole = λ told _ _. taken.1 told;
}
line_put err err' line Fault taken = record {
  once = ap (λ (s : SinkState). s.log) taken.0;
  part = taken.2;
  whole = λ told steady _. absurd (steady taken.1);
}
line_put err err' line (Memory memory) taken = record {
  once = ap (λ (s : SinkState). s.log) taken.0;
  part = taken.2;
  whole = λ told _ steady. absurd (steady taken.1);
}
