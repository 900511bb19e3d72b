-- What follows from the table of answers, one sentence each, for readers and callers.
use Rattle.std.specs.Prelude.{◌≡◌, ℕ, [], ◌∷◌, ◌++◌, Option, Some, Ok, Err, IsTrue, IsNone, IsOk, IsSomeAnd}
use Rattle.prof_devices.specs.Outside.{Rose, Appends}
use Rattle.command_line.specs.declared.status.InputFault.{InputFault}
use Rattle.command_line.specs.declared.status.Status.{Status}
use Rattle.command_line.specs.declared.status.Status.TheVariants.{Done, Usage, Input, Device, Memory}
use Rattle.command_line.specs.declared.status.Place.TheVariants.{Read, Store, Print}
use Rattle.command_line.specs.Request.{Request}
use Rattle.command_line.specs.Words.{drill_request}
use Rattle.hpc_top.specs.Verdict.{verdict}
use Rattle.hpc_top.specs.Outcome.{Call, Makes, Finished, are_known}
use Rattle.command_line.specs.declared.product.Product.{Product}
use Rattle.hpc_top.specs.commands.Drill.{drill_product}

-- the answers to an invalid command line: `Usage`, or `Memory`
abbrev pub UsageOrMemory : Status → Type 0
UsageOrMemory Usage = Unit {0}
UsageOrMemory (Memory memory) = Unit {0}
UsageOrMemory Done = ⊥
UsageOrMemory (Input fault) = ⊥
UsageOrMemory (Device place) = ⊥

-- the answers where the verdict is a refusal: this refusal, a failed read, or `Memory`
abbrev pub RefusalReadOrMemory : InputFault → Status → Type 0
RefusalReadOrMemory refusal (Input fault) = fault ≡ refusal
RefusalReadOrMemory refusal (Device Read) = Unit {0}
RefusalReadOrMemory refusal (Memory memory) = Unit {0}
RefusalReadOrMemory refusal (Device Store) = ⊥
RefusalReadOrMemory refusal (Device Print) = ⊥
RefusalReadOrMemory refusal Usage = ⊥
RefusalReadOrMemory refusal Done = ⊥

-- the answers where the files are accepted and no device failed: `Done`, or `Memory`
abbrev pub DoneOrMemory : Status → Type 0
DoneOrMemory Done = Unit {0}
DoneOrMemory (Memory memory) = Unit {0}
DoneOrMemory Usage = ⊥
DoneOrMemory (Input fault) = ⊥
DoneOrMemory (Device place) = ⊥

-- no count of failures rose
pub record NothingFailed (call : Call) : Type 0 where
  pub reads : ¬ Rose call.before.shelf.reads.count call.after.shelf.reads.count
  pub stores : ¬ Rose call.before.shelf.stores.count call.after.shelf.stores.count
  pub puts : ¬ Rose call.before.out.faults call.after.out.faults

-- a drill made no call on the shelf, it put the lines of the number's guest, once, and the output has grown by them
pub record Drilled (number : ℕ) (call : Call) : Type 0 where
  pub product : Product
  pub of_guest : drill_product number ≡ Ok product
  pub shelf : call.after.shelf ≡ call.before.shelf
  pub once : call.after.out.log ≡ call.before.out.log ++ product.text ∷ []
  pub out : IsTrue call.before.out.known → Appends call.before.out.taken call.after.out.taken product.text

-- what follows from the row of an answer
pub record Follows (asked : Option Request) (call : Call) (status : Status) : Type 0 where
  -- the headline: after `Done` the database and the report are the definition's, and all other files are as before
  pub done : status ≡ Done → IsSomeAnd asked (λ request. Makes request Finished call)
  -- after `Done` of a drill its lines were put, which its number alone decides, over every shelf and output
  pub drill : (number workers : ℕ) → asked ≡ Some (drill_request number workers) → status ≡ Done → Drilled number call
  -- the words alone decide on `Usage`
  pub usage : status ≡ Usage → IsNone asked
  pub invalid : IsNone asked → UsageOrMemory status
  -- a refusal is the verdict on the files
  pub input : (fault : InputFault) → status ≡ Input fault → IsSomeAnd asked (λ request.
      IsTrue (are_known request.reads call.before.shelf) → verdict request call.before.shelf.files ≡ Err fault)
  -- and where the verdict is a refusal, it is answered, unless a read failed or memory ran out
  pub refused : (request : Request) (fault : InputFault) → asked ≡ Some request
      → IsTrue (are_known request.reads call.before.shelf) → verdict request call.before.shelf.files ≡ Err fault
      → RefusalReadOrMemory fault status
  -- where the files are accepted and no device failed, the answer is `Done`, unless memory ran out
  pub complete : (request : Request) → asked ≡ Some request → IsTrue (are_known request.reads call.before.shelf)
      → IsOk (verdict request call.before.shelf.files) → NothingFailed call → DoneOrMemory status
  -- a failure of a device is one of this call
  pub read : status ≡ Device Read → Rose call.before.shelf.reads.count call.after.shelf.reads.count
  pub store : status ≡ Device Store → Rose call.before.shelf.stores.count call.after.shelf.stores.count
  pub print : status ≡ Device Print → Rose call.before.out.faults call.after.out.faults
