-- The sinks over streams do what is asked of any sink.
use Rattle.std.proofs.Common.{◌≡◌, ◌∙◌, ℕ, ◌≤◌, List, false, true, refl, sym, subst, IsTrue, arith}
use Rattle.prof_devices.specs.declared.shelf.Put.{Put}
use Rattle.prof_devices.specs.declared.shelf.Put.TheVariants.{Done, Fault, Memory}
use Rattle.prof_devices.specs.Outside.{SinkState, last_count, Rose, Taken}
use Rattle.prof_devices.specs.InMemory.{raised}
use Rattle.prof_devices.specs.Edge.{LinePuts, StreamPuts}

not_known : (s : SinkState) → s.known ≡ false → IsTrue s.known → ⊥
not_known s unknown told = absurd (let k : true ≡ false = sym told ∙ unknown in cc)

raised_rose : (count : ℕ) → count ≤ last_count → Rose count (raised count)
raised_rose count small = ((omega arith), (omega arith))

pub stream_taken : (old new : SinkState) (bytes : List ℕ) (answer : Put) → old.known ≡ false → old.faults ≤ last_count → StreamPuts old new bytes answer → Taken old new bytes answer
stream_taken old new bytes Done unknown small h =
    subst (λ (s : SinkState). Taken old s bytes Done) (sym h) (refl, (λ told. absurd (not_known old unknown told)))
stream_taken old new bytes Fault unknown small h =
    subst (λ (s : SinkState). Taken old s bytes Fault) (sym h) (refl, raised_rose old.faults small, (λ told. absurd (not_known old unknown told)))
stream_taken old new bytes (Memory memory) unknown small h = absurd h

pub line_taken : (old new : SinkState) (bytes : List ℕ) (answer : Put) → old.known ≡ false → old.faults ≤ last_count → LinePuts old new bytes answer → Taken old new bytes answer
line_taken old new bytes Done unknown small h = stream_taken old new bytes Done unknown small h.0
line_taken old new bytes Fault unknown small h = stream_taken old new bytes Fault unknown small h
line_taken old new bytes (Memory memory) unknown small h = absurd h
